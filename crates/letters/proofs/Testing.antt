-- The test of a letter, by the ways through the code.
use mathlib.Core.Path.{◌≡◌, refl, sym, ap, ◌∙◌}
use mathlib.Core.Bool.{Bool, true, false, not, ◌&&◌}
use mathlib.Core.List.{List, [], ◌∷◌}
use Prim.Native.Nat.{ℕ, ◌+◌, ◌*◌, ◌-◌, ◌/◌, ◌≤◌, ◌<◌, min}
use native.Mathlib.Omega.{arith}
use native.Mathlib.Nat.{mul-le-mul}
use lib.Dec.{ltb, eqb}
use lib.IntN.{ℤ}
use lib.ListN.{length, get_or}
use mir.Syntax.{w64}
use mir.Val.{Fits}
use borrow.Author.Tests.{lt-ltb, eq-eqb, ne_eqb, eqb-true, eqb-false, not-true, not-false}
use Rattle.rules.specs.Basics.{pick, every}
use Rattle.rules.specs.Rows.{table_of, met, is_yes, latest, all_of, holds}
use Rattle.laws.proofs.Choice.{decided}
use Rattle.laws.proofs.Truths.{all_met}
use Rattle.table.specs.Tests.{tested_by, comparison_in, comparisons_in, defined_in, condition_in, First, Entries, LetterAt, Letters}
use Rattle.comparisons.specs.Spots.{FarBack, read_met, first_unmet}
use Rattle.comparisons.proofs.Entries.{At}
use Rattle.comparisons.proofs.Reading.{Words, met-is, holds-is}
use Rattle.conditions.specs.Results.{read_results}
use Rattle.conditions.proofs.Rules.{postfix-is}

-- ---- what word 7 tells

module _ (T : List ℕ) (tests : ℕ) (rows : List ℤ) (columns n at : ℕ) (letters : Letters T tests rows columns n) (letter : LetterAt tests at)
    (kind : ℕ) (is-kind : kind ≡ get_or T (at + 7) 0) where
  -- what the table's tests say of it
  free_at : get_or T at 0 ≡ 0 → (get_or T (at + 7) 0 ≡ 3 → ⊥) → get_or T (at + 7) 0 ≡ 2
  free_at z e = rw letter.is (letters.tests_there.free letter.letter letter.small (rw letter.is at z) (rw letter.is at e))

  entries_at : get_or T (at + 7) 0 ≡ 3 → Entries T at
  entries_at z = rw letter.is (letters.tests_there.entries letter.letter letter.small (rw letter.is at z))

  first-at : 0 < get_or T at 0 → First T at
  first-at z = rw letter.is (letters.tests_there.first letter.letter letter.small (rw letter.is at z))

  more-at : 1 < get_or T at 0 → get_or T (at + 1) 0 + (get_or T at 0 - 1) * 5 ≤ length T
  more-at z = rw letter.is (letters.tests_there.more letter.letter letter.small (rw letter.is at z))

  -- a letter that is tested has a comparison
  pub some-there : kind ≤ 1 → get_or T at 0 ≡ 0 → ⊥
  some-there k z = let e = free_at z (λ q. omega arith) in omega arith

  -- and an interval for the first one
  pub first-there : kind ≤ 1 → First T at
  first-there k = let o = some-there k in first-at (let y : 0 < get_or T at 0 = omega arith in y)

  -- any other has none
  pub none-there : (kind ≡ 1 → ⊥) → (kind ≡ 0 → ⊥) → get_or T at 0 ≡ 0
  unfolding tested_by
  none-there a b = decided (eqb (get_or T at 0) 0) (λ e. eqb-true (get_or T at 0) 0 e) (λ e. absurd (no e))
    where
      by : (t : Bool) (x : ℕ) → kind ≡ pick t 1 0 → ⊥
      by true x e = a e
      by false x e = b e

      no : eqb (get_or T at 0) 0 ≡ false → ⊥
      no e =
          let o = eqb-false (get_or T at 0) 0 e in
          let f = first-at (let y : 0 < get_or T at 0 = omega arith in y) in
          by (eqb (get_or T (at + 2) 0 / 8) 1) 0 (is-kind ∙ f.kind)

  -- and one that is not free is tested by its entries
  pub entries-there : (kind ≡ 1 → ⊥) → (kind ≡ 0 → ⊥) → (kind ≡ 2 → ⊥) → get_or T (at + 7) 0 ≡ 3
  entries-there a b f =
      decided (eqb (get_or T (at + 7) 0) 3)
      (λ e. eqb-true (get_or T (at + 7) 0) 3 e)
      (λ e. absurd (f (is-kind ∙ free_at (none-there a b) (eqb-false (get_or T (at + 7) 0) 3 e))))

  pub entries-stand : (kind ≡ 1 → ⊥) → (kind ≡ 0 → ⊥) → (kind ≡ 2 → ⊥) → (at + 16 ≤ length T) × Entries T at
  entries-stand a b f = (
    let g = letters.tests_there.long in
        let e = letter.is in
        let s = letter.small in
        omega arith,
    entries_at (entries-there a b f),
  )

  -- where it has two comparisons or more, those behind the first stand in the table
  pub others-there : (count : ℕ) → count ≡ get_or T at 0 → 1 < count → get_or T (at + 1) 0 + (count - 1) * 5 ≤ length T
  others-there count is-count many =
      let a = more-at (let y : 1 < get_or T at 0 = omega arith in y) in
      omega arith

  pub some-counted : kind ≤ 1 → (count : ℕ) → count ≡ get_or T at 0 → 0 < count
  some-counted k count is-count = let o = some-there k in omega arith

-- those behind the first, where there are none
pub none_behind : (T : List ℕ) (rows : List ℤ) (from at count : ℕ) → count ≡ 1 → true ≡ eqb (first_unmet T rows from (get_or T (at + 1) 0) (count - 1)) (count - 1)
unfolding first_unmet
none_behind T rows from at count e = rw e refl

-- and where there are some
pub some-behind : (T : List ℕ) (rows : List ℤ) (from at count x k : ℕ) → x ≡ get_or T (at + 1) 0 → k ≡ first_unmet T rows from x (count - 1)
    → eqb k (count - 1) ≡ eqb (first_unmet T rows from (get_or T (at + 1) 0) (count - 1)) (count - 1)
some-behind T rows from at count x k ex ek = rw (ek, ex) refl

-- they can be read
pub behind-there : (T : List ℕ) (at count x : ℕ) → (1 < count → get_or T (at + 1) 0 + (count - 1) * 5 ≤ length T) → 0 < count → (count ≡ 1 → ⊥)
    → x ≡ get_or T (at + 1) 0 → x + (count - 1) * 5 ≤ length T
behind-there T at count x there some many is_x = let a = there (omega arith) in omega arith

-- a row of the partition
row_here : (T : List ℕ) (tests : ℕ) (rows : List ℤ) (columns n row : ℕ) → row < n → Letters T tests rows columns n → (from : ℕ) → FarBack columns (row * columns) from → At rows columns n row from
row_here T tests rows columns n row h letters from far =
    let e : min row (n + 64) ≡ row = omega arith in
    record { some = letters.some; few = letters.few; most = letters.most; all = letters.all; far = rw e far }

module _ (T : List ℕ) (tests : ℕ) (rows : List ℤ) (columns n at row : ℕ) where
  -- what the promise says of a result
  abbrev Says : Bool → Type 0
  Says t = t ≡ (ltb row n && holds (table_of columns rows) row (condition_in T columns at))

  module _ (is_row : row < n) (letters : Letters T tests rows columns n) where
    pub base_fits : Fits w64 (row * columns)
    base_fits =
        let r : row ≤ 4096 = let m = letters.most in omega arith in
        let a : row * columns ≤ 4096 * 8 = mul-le-mul r letters.few in
        record { fits = omega arith }

    module _ (letter : LetterAt tests at) (kind : ℕ) (is-kind : kind ≡ get_or T (at + 7) 0) where
      -- by its comparisons
      compared : (kind ≡ 3 → ⊥) → condition_in T columns at ≡ all_of (defined_in T columns at)
      unfolding condition_in
      compared n = rw (ne_eqb (get_or T (at + 7) 0) 3 (λ q. n (is-kind ∙ q))) refl

      none-defined : (kind ≡ 1 → ⊥) → (kind ≡ 0 → ⊥) → defined_in T columns at ≡ []
      unfolding defined_in
      none-defined a b = rw (eq-eqb (get_or T at 0) 0 (none-there T tests rows columns n at letters letter kind is-kind a b)) refl

      pub free_holds : kind ≡ 2 → Says true
      unfolding every
      free_holds k =
          rw (lt-ltb row n is_row, compared (λ q. omega arith), none-defined (λ q. omega arith) (λ q. omega arith)) (sym (all_met (table_of columns rows) row []))

      -- by its entries
      pub by_entries : (kind ≡ 1 → ⊥) → (kind ≡ 0 → ⊥) → (kind ≡ 2 → ⊥) → (from : ℕ) → FarBack columns (row * columns) from → Words T → (r : Bool)
          → r ≡ is_yes (latest (read_results T rows from (get_or T (at + 2) 0) (get_or T (at + 1) 0) [])) → Says r
      unfolding condition_in
      by_entries a b f from far words r e =
          let k = entries-there T tests rows columns n at letters letter kind is-kind a b f in
          let here : At rows columns n row from = row_here T tests rows columns n row is_row letters from far in
          rw (lt-ltb row n is_row, eq-eqb (get_or T (at + 7) 0) 3 k) (e ∙ postfix-is T words rows columns n row from here (get_or T (at + 2) 0) (get_or T (at + 1) 0))

      module _ (tested : kind ≤ 1) where
        abbrev behind : ℕ
        behind = get_or T at 0 - 1

        defined : defined_in T columns at ≡ comparison_in T columns (at + 2) ∷ comparisons_in T columns (get_or T (at + 1) 0) behind
        unfolding defined_in
        defined =
            let e : eqb (get_or T at 0) 0 ≡ false = ne_eqb (get_or T at 0) 0 (some-there T tests rows columns n at letters letter kind is-kind tested) in
            rw e refl

        module _ (from : ℕ) (far : FarBack columns (row * columns) from) (t : Bool) (is-t : t ≡ read_met T rows from (at + 2)) (words : Words T) where
          here : At rows columns n row from
          here = row_here T tests rows columns n row is_row letters from far

          abbrev others : Bool
          others = holds (table_of columns rows) row (all_of (comparisons_in T columns (get_or T (at + 1) 0) behind))

          whole : (ltb row n && holds (table_of columns rows) row (condition_in T columns at)) ≡ (t && others)
          unfolding every
          whole =
              rw (lt-ltb row n is_row, compared (λ q. omega arith), defined, is-t, met-is T words rows columns n row from here (at + 2))
              (all_met (table_of columns rows) row (comparison_in T columns (at + 2) ∷ comparisons_in T columns (get_or T (at + 1) 0) behind)
              ∙ ap (λ (x : Bool). met (table_of columns rows) row (comparison_in T columns (at + 2)) && x) (sym (all_met (table_of columns rows) row (comparisons_in T columns (get_or T (at + 1) 0) behind))))

          pub first-unmet : not t ≡ true → Says false
          first-unmet u = sym (whole ∙ ap (λ (x : Bool). x && others) (not-true t u))

          pub by-others : (count : ℕ) (r : Bool) → not t ≡ false → count ≡ get_or T at 0
              → r ≡ eqb (first_unmet T rows from (get_or T (at + 1) 0) (count - 1)) (count - 1) → Says r
          by-others count r u ec e =
              e
              ∙ ap (λ (k : ℕ). eqb (first_unmet T rows from (get_or T (at + 1) 0) (k - 1)) (k - 1)) ec
              ∙ holds-is T words rows columns n row from here (get_or T (at + 1) 0) behind
              ∙ sym (whole ∙ ap (λ (z : Bool). z && others) (not-false t u))

-- A comparison and several, by the ways through the code, and as the rules have them.
-- Each signed local is what the machine holds of it.
use Rattle.std.proofs.Common.{◌≡◌, ℕ, zero, suc, ◌+◌, ◌-◌, ◌*◌, ◌/◌, ◌%◌, ◌^◌, ◌<◌, ◌≤◌, Bool, true, false, not, ◌&&◌, eqb, ltb, List, [], ◌∷◌, ◌++◌, length, get_or, ℤ, pos, ◌+ℤ◌, sym, refl, ap, ◌∙◌, arith, to_z-of_z, w16, w32, w64, Fits, SFits, to_z, of_z, le-ltb, lt-ltb, eq-eqb, ne_eqb, eqb-true}
use mathlib.Core.Bool.{and-true, and_assoc}
use mathlib.Core.Option.{Option, none, some}
use lib.Signed.{mag}
use borrow.Author.Tests.{eqb-false, not-true, not-false}
use Rattle.rules.specs.Basics.{pick, every, tabulate, signed32}
use Rattle.rules.specs.Rows.{table_of, compares, plus_number, right_side, yes, no, is_yes, truth_by, truth, met, all_of, holds}
use Rattle.laws.proofs.Choice.{decided}
use Rattle.laws.proofs.Signed.{sum_fits, read_back}
use Rattle.laws.proofs.Truths.{all_met as holds_all}
use Rattle.table.specs.Tests.{number_in, comparison_in, comparisons_in}
use Rattle.comparisons.specs.Spots.{spot_index, entry_from, right_from, read_truth, read_met, first_unmet}
use Rattle.comparisons.proofs.Entries.{At, entry-is}

abbrev held : ℤ → ℤ
held z = to_z w64 (of_z w64 z)

small : (z : ℤ) → mag z < 2147483648 → held z ≡ z
small z h = read_back z (omega arith)

-- ---- what is read

pub plus-fits : (a b : ℤ) → mag a < 2147483648 → mag b < 2147483648 → SFits w64 (held a +ℤ held b)
plus-fits a b h g = rw (small a h, small b g) (sum_fits a b 2147483648 2147483648 h g (omega arith))

pub plus-is : (a b : ℤ) → mag a < 2147483648 → mag b < 2147483648 → held (held a +ℤ held b) ≡ a +ℤ b
plus-is a b h g = to_z-of_z (plus-fits a b h g) ∙ ap (λ (x : ℤ). x +ℤ held b) (small a h) ∙ ap (λ (x : ℤ). a +ℤ x) (small b g)

pub index_is : (T : List ℕ) (at from x r : ℕ) → x ≡ get_or T at 0 → r ≡ (from + x) % 2 ^ 64 → r ≡ spot_index from (get_or T at 0)
unfolding spot_index
index_is T at from x r e f = f ∙ rw e refl

pub number_is : (T : List ℕ) (at x y : ℕ) (z v : ℤ) → x ≡ get_or T (at + 3) 0 → y ≡ get_or T (at + 4) 0 → z ≡ signed32 (x + y * 65536) → mag z < 2147483648
    → v ≡ to_z w32 (of_z w32 z) → (held v ≡ number_in T at) × (mag (held v) < 2147483648)
unfolding number_in
number_is T at x y z v ex ey ez fz ev =
    let e : v ≡ z = ev ∙ to_z-of_z {w = w32} (record { sfits = fz }) in
    let f : held v ≡ z = rw e (small z fz) in
    (f ∙ ez ∙ rw (ex, ey) refl, rw f fz)

pub held-short : (z : ℤ) → mag z < 2147483648 → mag (held z) < 2147483648
held-short z h = rw (small z h) h

-- ---- a comparison, by the ways through the code

-- a test as true or false
told : (b : Bool) → b ≡ is_yes (pick b yes no)
unfolding is_yes
told true = refl
told false = refl

-- whatever its left side
right-none : (op : ℕ) (a : Option ℤ) → false ≡ is_yes (truth_by op a none)
unfolding truth_by is_yes
right-none op none = refl
right-none op (some a) = refl

pub right-missing : (T : List ℕ) (rows : List ℤ) (from at sort y : ℕ) → sort ≡ get_or T at 0 → sort / 8 ≡ 1 → y ≡ spot_index from (get_or T (at + 2) 0) → length rows ≤ y
    → false ≡ read_met T rows from at
unfolding read_met right_from entry_from plus_number
right-missing T rows from at sort y is-sort column is_y h =
    let k : eqb (get_or T at 0 / 8) 1 ≡ true = eq-eqb (get_or T at 0 / 8) 1 (ap (λ (i : ℕ). i / 8) (sym is-sort) ∙ column) in
    let b : ltb (spot_index from (get_or T (at + 2) 0)) (length rows) ≡ false = le-ltb _ _ (rw is_y at h) in
    rw (k, b) (right-none (get_or T at 0 % 8) (entry_from rows (spot_index from (get_or T (at + 1) 0))))

module _ (T : List ℕ) (rows : List ℤ) (from at x : ℕ) (is_x : x ≡ spot_index from (get_or T (at + 1) 0)) where
  pub left-missing : length rows ≤ x → false ≡ read_met T rows from at
  unfolding read_met entry_from truth_by is_yes
  left-missing h =
      let a : ltb (spot_index from (get_or T (at + 1) 0)) (length rows) ≡ false = le-ltb _ _ (rw is_x at h) in
      rw a refl

  module _ (left : x < length rows) (a : ℤ) (is-a : a ≡ get_or rows x (pos 0)) (few-a : mag a < 2147483648) (number : ℤ) (is_number : number ≡ number_in T at)
      (few_number : mag number < 2147483648) (sort : ℕ) (is-sort : sort ≡ get_or T at 0) where
    left-found : entry_from rows (spot_index from (get_or T (at + 1) 0)) ≡ some (held a)
    unfolding entry_from
    left-found =
        let t : ltb (spot_index from (get_or T (at + 1) 0)) (length rows) ≡ true = lt-ltb _ _ (rw is_x at left) in
        rw (t, small a few-a, is-a, is_x) refl

    operator-is : sort % 8 ≡ get_or T at 0 % 8
    operator-is = ap (λ (k : ℕ). k % 8) is-sort

    -- its right side is a number
    pub number-met : (r : Bool) → (sort / 8 ≡ 1 → ⊥) → r ≡ compares (sort % 8) (held a) (held number) → r ≡ read_met T rows from at
    unfolding read_met right_from truth_by
    number-met r h e =
        let k : eqb (get_or T at 0 / 8) 1 ≡ false = ne_eqb (get_or T at 0 / 8) 1 (λ q. h (ap (λ (i : ℕ). i / 8) is-sort ∙ q)) in
        rw (k, left-found, ← is_number, ← operator-is) (e ∙ ap (compares (sort % 8) (held a)) (small number few_number) ∙ told (compares (sort % 8) (held a) number))

    -- its right side has a column
    module _ (column : sort / 8 ≡ 1) (y : ℕ) (is_y : y ≡ spot_index from (get_or T (at + 2) 0)) where
      column_is : eqb (get_or T at 0 / 8) 1 ≡ true
      column_is = eq-eqb (get_or T at 0 / 8) 1 (ap (λ (i : ℕ). i / 8) (sym is-sort) ∙ column)

      pub column_met : (r : Bool) (b u : ℤ) → y < length rows → b ≡ get_or rows y (pos 0) → mag b < 2147483648 → u ≡ held b +ℤ held number
          → r ≡ compares (sort % 8) (held a) (held u) → r ≡ read_met T rows from at
      unfolding read_met right_from entry_from plus_number truth_by
      column_met r b u right is_b few-b is-u e =
          let t : ltb (spot_index from (get_or T (at + 2) 0)) (length rows) ≡ true = lt-ltb _ _ (rw is_y at right) in
          let v : held u ≡ b +ℤ number = ap held is-u ∙ plus-is b number few-b few_number in
          rw (column_is, left-found, t, ← is_y, ← is_b, ← is_number, ← operator-is) (e ∙ ap (compares (sort % 8) (held a)) v ∙ told (compares (sort % 8) (held a) (b +ℤ number)))

-- ---- several, by the loop

-- the first k are met
pub record Reading (T : List ℕ) (rows : List ℤ) (from at count k : ℕ) : Type 0 where
  pub upto : k ≤ count
  pub is : first_unmet T rows from at count ≡ k + first_unmet T rows from (at + k * 5) (count - k)

module _ (T : List ℕ) (rows : List ℤ) (from at count : ℕ) where
  pub reading_none : Reading T rows from at count 0
  reading_none = record {
    upto = omega arith;
    is =
        let p : at + 0 * 5 ≡ at = omega arith in
        let q : count - 0 ≡ count = omega arith in
        rw (p, q) (omega arith);
  }

  module _ (k : ℕ) (h : Reading T rows from at count k) where
    one_more : k < count → first_unmet T rows from (at + k * 5) (count - k)
        ≡ pick (read_met T rows from (at + k * 5)) (suc (first_unmet T rows from (at + (k + 1) * 5) (count - (k + 1)))) 0
    unfolding first_unmet
    one_more l =
        let p : count - k ≡ suc (count - (k + 1)) = omega arith in
        let q : at + (k + 1) * 5 ≡ at + k * 5 + 5 = omega arith in
        rw (p, q) refl

    pub reading_more : (r : Bool) → k < count → r ≡ read_met T rows from (at + k * 5) → not r ≡ false → Reading T rows from at count (k + 1)
    reading_more r l e u = record {
      upto = omega arith;
      is =
          let m : read_met T rows from (at + k * 5) ≡ true = sym e ∙ not-false r u in
          let n : first_unmet T rows from (at + k * 5) (count - k) ≡ suc (first_unmet T rows from (at + (k + 1) * 5) (count - (k + 1))) =
          one_more l ∙ ap (λ (t : Bool). pick t (suc (first_unmet T rows from (at + (k + 1) * 5) (count - (k + 1)))) 0) m in
          let i = h.is in
          omega arith;
    }

    pub reading_stop : (r : Bool) → k < count → r ≡ read_met T rows from (at + k * 5) → not r ≡ true → k ≡ first_unmet T rows from at count
    reading_stop r l e u =
        let m : read_met T rows from (at + k * 5) ≡ false = sym e ∙ not-true r u in
        let n : first_unmet T rows from (at + k * 5) (count - k) ≡ 0 =
        one_more l ∙ ap (λ (t : Bool). pick t (suc (first_unmet T rows from (at + (k + 1) * 5) (count - (k + 1)))) 0) m in
        let i = h.is in
        omega arith

    pub reading_all : count ≤ k → count ≡ first_unmet T rows from at count
    unfolding first_unmet
    reading_all l =
        let u = h.upto in
        let n : first_unmet T rows from (at + k * 5) (count - k) ≡ 0 = ap (first_unmet T rows from (at + k * 5)) (let q : count - k ≡ 0 = omega arith in q) in
        let i = h.is in
        omega arith

-- ---- several, as tests over a list

module _ {A : Type 0} (f : A → Bool) where
  every-last : (xs : List A) (x : A) → every f (xs ++ x ∷ []) ≡ (every f xs && f x)
  unfolding every
  every-last [] x = and-true (f x)
  every-last (y ∷ xs) x = ap (λ (t : Bool). f y && t) (every-last xs x) ∙ sym (and_assoc (f y) (every f xs) (f x))

  last-of : (g : ℕ → A) (k : ℕ) → every f (tabulate (suc k) g) ≡ (every f (tabulate k g) && f (g k))
  unfolding tabulate
  last-of g k = every-last (tabulate k g) (g k)

  none_of : (g : ℕ → A) → every f (tabulate 0 g) ≡ true
  unfolding tabulate every
  none_of g = refl

  first_of : (g : ℕ → A) (k : ℕ) → every f (tabulate (suc k) g) ≡ (f (g 0) && every f (tabulate k (λ i. g (suc i))))
  first_of g zero = last-of g 0 ∙ ap (λ (t : Bool). t && f (g 0)) (none_of g) ∙ sym (ap (λ (t : Bool). f (g 0) && t) (none_of (λ i. g (suc i))) ∙ and-true (f (g 0)))
  first_of g (suc k) =
      last-of g (suc k) ∙ ap (λ (t : Bool). t && f (g (suc k))) (first_of g k) ∙ and_assoc (f (g 0)) (every f (tabulate k (λ i. g (suc i)))) (f (g (suc k)))
      ∙ ap (λ (t : Bool). f (g 0) && t) (sym (last-of (λ i. g (suc i)) k))

-- the same tests give the same
same : {A B : Type 0} (f : A → Bool) (g : ℕ → A) (f' : B → Bool) (g' : ℕ → B) (count : ℕ) → ((k : ℕ) → k < count → f (g k) ≡ f' (g' k))
    → every f (tabulate count g) ≡ every f' (tabulate count g')
same f g f' g' zero h = none_of f g ∙ sym (none_of f' g')
same f g f' g' (suc k) h =
    last-of f g k ∙ ap (λ (t : Bool). t && f (g k)) (same f g f' g' k (λ i l. h i (omega arith)))
    ∙ ap (λ (t : Bool). every f' (tabulate k g') && t) (h k (omega arith)) ∙ sym (last-of f' g' k)

suc-same : (a b : ℕ) → eqb (suc a) (suc b) ≡ eqb a b
suc-same a b =
    decided (eqb a b)
    (λ t. let e = eqb-true a b t in eq-eqb (suc a) (suc b) (ap suc e) ∙ sym t)
    (λ t. let d = eqb-false a b t in ne_eqb (suc a) (suc b) (λ q. d (omega arith)) ∙ sym t)

module _ (T : List ℕ) (rows : List ℤ) (from : ℕ) where
  -- the first that is not met is the one behind the last exactly if all are met
  pub all_met : (count at : ℕ) → eqb (first_unmet T rows from at count) count ≡ every (read_met T rows from) (tabulate count (λ k. at + k * 5))
  unfolding first_unmet
  all_met zero at = sym (none_of (read_met T rows from) (λ k. at + k * 5))
  all_met (suc c) at =
      by (read_met T rows from at) refl
      ∙ sym (first_of (read_met T rows from) (λ k. at + k * 5) c
      ∙ ap (λ (i : ℕ). read_met T rows from i && every (read_met T rows from) (tabulate c (λ k. at + suc k * 5))) (let q : at + 0 * 5 ≡ at = omega arith in q)
      ∙ ap (λ (t : Bool). read_met T rows from at && t)
      (same (read_met T rows from) (λ k. at + suc k * 5) (read_met T rows from) (λ k. at + 5 + k * 5) c
      (λ k l. ap (read_met T rows from) (let q : at + suc k * 5 ≡ at + 5 + k * 5 = omega arith in q))
      ∙ sym (all_met c (at + 5))))
    where
      by : (t : Bool) → read_met T rows from at ≡ t
          → eqb (pick (read_met T rows from at) (suc (first_unmet T rows from (at + 5) c)) 0) (suc c) ≡ (read_met T rows from at && eqb (first_unmet T rows from (at + 5) c) c)
      by true e = rw e (suc-same (first_unmet T rows from (at + 5) c) c)
      by false e = rw e (ne_eqb 0 (suc c) (λ q. omega arith))

-- ---- as the rules have them

-- all words of the table are words, as its type says
abbrev pub Words : List ℕ → Type 0
Words T = (i : ℕ) → Fits w16 (get_or T i 0)

module _ (T : List ℕ) (words : Words T) (rows : List ℤ) (columns n row from : ℕ) (is : At rows columns n row from) where
  pub truth-is : (at : ℕ) → read_truth T rows from at ≡ truth (table_of columns rows) row (comparison_in T columns at)
  unfolding read_truth right_from truth right_side comparison_in
  truth-is at =
      rw (entry-is rows columns n row from is (get_or T (at + 1) 0) (words (at + 1)).fits, entry-is rows columns n row from is (get_or T (at + 2) 0) (words (at + 2)).fits) refl

  pub met-is : (at : ℕ) → read_met T rows from at ≡ met (table_of columns rows) row (comparison_in T columns at)
  unfolding read_met met
  met-is at = ap is_yes (truth-is at)

  pub every-is : (at count : ℕ) → eqb (first_unmet T rows from at count) count ≡ every (met (table_of columns rows) row) (comparisons_in T columns at count)
  unfolding comparisons_in
  every-is at count =
      all_met T rows from count at
      ∙ same (read_met T rows from) (λ k. at + k * 5) (met (table_of columns rows) row) (λ k. comparison_in T columns (at + k * 5)) count (λ k l. met-is (at + k * 5))

  pub holds-is : (at count : ℕ) → eqb (first_unmet T rows from at count) count ≡ holds (table_of columns rows) row (all_of (comparisons_in T columns at count))
  holds-is at count = every-is at count ∙ sym (holds_all (table_of columns rows) row (comparisons_in T columns at count))

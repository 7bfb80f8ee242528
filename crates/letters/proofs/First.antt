-- The first comparison of a letter by its interval, by the ways through the code.
-- Each signed local is what the machine holds of it.
use mathlib.Core.Path.{◌≡◌, refl, sym, ap, ◌∙◌}
use mathlib.Core.Bool.{Bool, true, false}
use mathlib.Core.List.{List}
use Prim.Native.Nat.{ℕ, ◌+◌, ◌*◌, ◌-◌, ◌%◌, ◌≤◌, ◌<◌}
use native.Mathlib.Omega.{arith}
use lib.Dec.{ltb, eqb}
use lib.IntN.{ℤ, pos, negsuc, ◌+ℤ◌, ◌-ℤ◌}
use lib.Signed.{mag}
use lib.ListN.{length, get_or}
use mir.Syntax.{w64}
use mir.Val.{to_z, of_z}
use borrow.Author.Tests.{ltb-true, ltb-false, eqb-true, eq-eqb}
use Rattle.rules.specs.Basics.{pick, signed32}
use Rattle.rules.specs.Rows.{compares}
use Rattle.laws.proofs.Signed.{mag-add, read_back}
use Rattle.table.specs.Tests.{number_in, word64, raised, raised_word, tested_by, low_of, width_of, First}
use Rattle.comparisons.specs.Spots.{spot_index, read_met}
use Rattle.comparisons.proofs.Reading.{Words, left-missing, right-missing, number-met, column_met}
use Rattle.intervals.specs.Intervals.{in_interval}
use Rattle.intervals.proofs.Intervals.{number_is, column_is}

abbrev held : ℤ → ℤ
held z = to_z w64 (of_z w64 z)

small : (z : ℤ) → mag z < 2147483648 → held z ≡ z
small z h = read_back z (omega arith)

pub held-short : (z : ℤ) → mag z < 2147483648 → mag (held z) < 4294967296
held-short z h = rw (small z h) (omega arith)

-- ---- the number of a comparison

short : (w : ℕ) → w < 4294967296 → mag (signed32 w) < 2147483648
unfolding signed32
short w h = by (ltb w 2147483648) refl
  where
    by : (t : Bool) → ltb w 2147483648 ≡ t → mag (pick t (pos w) (negsuc (4294967295 - w))) < 2147483648
    by true e = let z = ltb-true w 2147483648 e in omega arith
    by false e = let z = ltb-false w 2147483648 e in omega arith

number_short : (T : List ℕ) → Words T → (at : ℕ) → mag (number_in T at) < 2147483648
unfolding number_in
number_short T words at =
    let a = (words (at + 3)).fits in
    let b = (words (at + 4)).fits in
    short (get_or T (at + 3) 0 + get_or T (at + 4) 0 * 65536) (omega arith)

-- ---- how a letter is tested

column_kind : (x : ℕ) → tested_by x ≡ 1 → x ≡ 1
unfolding tested_by
column_kind x e = by (eqb x 1) refl e
  where
    by : (t : Bool) → eqb x 1 ≡ t → ◌≡◌ {A = ℕ} (pick t 1 0) 1 → x ≡ 1
    by true h z = eqb-true x 1 h
    by false h z = absurd (let y : ◌≡◌ {A = ℕ} 0 1 = z in omega arith)

kind_column : (x : ℕ) → x ≡ 1 → tested_by x ≡ 1
unfolding tested_by
kind_column x h = simp (eq-eqb x 1 h)

-- ---- the first comparison

module _ (T : List ℕ) (rows : List ℤ) (from at : ℕ) where
  left_word : spot_index from (get_or T (at + 3) 0) ≡ spot_index from (get_or T (at + 2 + 1) 0)
  left_word = ap (λ (i : ℕ). spot_index from (get_or T i 0)) (let e : at + 3 ≡ at + 2 + 1 = omega arith in e)

  right-word : spot_index from (get_or T (at + 4) 0) ≡ spot_index from (get_or T (at + 2 + 2) 0)
  right-word = ap (λ (i : ℕ). spot_index from (get_or T i 0)) (let e : at + 4 ≡ at + 2 + 2 = omega arith in e)

  -- its operator and its number
  abbrev operator : ℕ
  operator = get_or T (at + 2) 0 % 8

  abbrev number : ℤ
  number = number_in T (at + 2)

  module _ (first : First T at) (d : ℤ) where
    -- the interval where the code reads it
    interval_is : in_interval (raised d) (raised_word (word64 T (at + 8))) (word64 T (at + 8 + 4))
        ≡ in_interval (raised d) (low_of operator (raised number)) (width_of operator (raised number))
    interval_is =
        ap (λ (k : ℕ). in_interval (raised d) k (word64 T (at + 8 + 4))) first.low
        ∙ ap (in_interval (raised d) (low_of operator (raised number)))
        (ap (word64 T) (let e : at + 8 + 4 ≡ at + 12 = omega arith in e) ∙ first.width)

  module _ (x : ℕ) (is_x : x ≡ spot_index from (get_or T (at + 3) 0)) where
    pub left-gone : length rows ≤ x → false ≡ read_met T rows from (at + 2)
    left-gone h = left-missing T rows from (at + 2) x (is_x ∙ left_word) h

    module _ (first : First T at) where
      pub right-gone : (y : ℕ) → get_or T (at + 7) 0 ≡ 1 → y ≡ spot_index from (get_or T (at + 4) 0) → length rows ≤ y → false ≡ read_met T rows from (at + 2)
      right-gone y column is_y h =
          right-missing T rows from (at + 2) (get_or T (at + 2) 0) y refl (column_kind _ (sym first.kind ∙ column)) (is_y ∙ right-word) h

      module _ (words : Words T) (there : x < length rows) (a : ℤ) (is-a : a ≡ get_or rows x (pos 0)) (few-a : mag a < 2147483648) where
        abbrev few_number : mag number < 2147483648
        few_number = number_short T words (at + 2)

        pub by_number : (t : Bool) → (get_or T (at + 7) 0 ≡ 1 → ⊥) → t ≡ in_interval (raised (held a)) (raised_word (word64 T (at + 8))) (word64 T (at + 8 + 4)) → t ≡ read_met T rows from (at + 2)
        by_number t h e =
            let s : mag (held a) < 2147483648 = rw (small a few-a) few-a in
            let f : t ≡ compares operator (held a) number = e ∙ interval_is first (held a) ∙ number_is operator (held a) number s few_number in
            number-met T rows from (at + 2) x (is_x ∙ left_word) there a is-a few-a number refl few_number (get_or T (at + 2) 0) refl t
            (λ q. h (first.kind ∙ kind_column _ q)) (f ∙ ap (compares operator (held a)) (sym (small number few_number)))

        pub by-column : (y : ℕ) (b d : ℤ) (t : Bool) → get_or T (at + 7) 0 ≡ 1 → y ≡ spot_index from (get_or T (at + 4) 0) → y < length rows → b ≡ get_or rows y (pos 0)
            → mag b < 2147483648 → d ≡ held a -ℤ held b → mag d < 4294967296
            → t ≡ in_interval (raised (held d)) (raised_word (word64 T (at + 8))) (word64 T (at + 8 + 4)) → t ≡ read_met T rows from (at + 2)
        by-column y b d t column is_y right is_b few-b is-d few-d e =
            let q : d ≡ a -ℤ b = is-d ∙ ap (λ (z : ℤ). z -ℤ held b) (small a few-a) ∙ ap (λ (z : ℤ). a -ℤ z) (small b few-b) in
            let v : held d ≡ a -ℤ b = read_back d (omega arith) ∙ q in
            let k : mag (a -ℤ b) < 4294967296 = rw q at few-d in
            let f : t ≡ compares operator a (b +ℤ number) =
            e ∙ ap (λ (z : ℤ). in_interval (raised z) (raised_word (word64 T (at + 8))) (word64 T (at + 8 + 4))) v ∙ interval_is first (a -ℤ b)
            ∙ column_is operator a b number few-a few-b few_number k in
            column_met T rows from (at + 2) x (is_x ∙ left_word) there a is-a few-a number refl few_number (get_or T (at + 2) 0) refl
            (column_kind _ (sym first.kind ∙ column)) y (is_y ∙ right-word) t b (held b +ℤ held number) right is_b few-b refl
            (f ∙ sums a b (small a few-a) (small b few-b) (small number few_number) few-b few_number)
          where
            sums : (a b : ℤ) → held a ≡ a → held b ≡ b → held number ≡ number → mag b < 2147483648 → mag number < 2147483648
                → compares operator a (b +ℤ number) ≡ compares operator (held a) (held (held b +ℤ held number))
            sums a b ea eb en fb fn = let s = mag-add b number in rw (ea, eb, en, read_back (b +ℤ number) (omega arith)) refl

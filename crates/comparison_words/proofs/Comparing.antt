-- The five words of a comparison: what is written is read again. A spot gives back its offset and
-- its column (Moving), word 0 the operator and the right kind, and two halves the number.
use mathlib.Core.Path.{◌≡◌, refl, ap, ◌∙◌}
use mathlib.Core.Bool.{Bool, true, false, ◌&&◌}
use mathlib.Core.List.{List}
use Prim.Native.Nat.{ℕ, ◌+◌, ◌*◌, ◌≤◌, ◌<◌}
use native.Mathlib.Omega.{arith}
use lib.Dec.{ltb, leb, eqb}
use lib.IntN.{ℤ}
use lib.ListN.{length, get_or, set, length-set}
use lib.Seq.{get_or-set_same, get_or-set_other}
use borrow.Author.Tests.{leb-true, ltb-true, eqb-true}
use Rattle.rules.specs.Basics.{pick, in_range, signed8, signed32, le16, le32}
use Rattle.rules.specs.Rows.{Comparison}
use Rattle.rules.specs.Query.{offset_fits, left_fits, right_fits, comparison_fits, comparison_at}
use Rattle.laws.proofs.Choice.{and_left, and_right}
use Rattle.table.specs.Tests.{offset_of, column_of, number_in, comparison_in}
use Rattle.comparison_words.specs.Words.{spot_of, set_five, put_comparison, ComparisonPut, comparison_words}
use Rattle.comparison_words.proofs.Moving.{offset_near, spot_column, spot_offset}

-- ---- what fits

right-below : (columns kind column offset : ℕ) → 0 < columns → right_fits columns kind column offset ≡ true → (column < columns) × (offset_fits offset ≡ true)
unfolding right_fits offset_fits
right-below columns kind column offset h e = by (eqb kind 0) e
  where
    by : (t : Bool) → pick t (eqb column 0 && eqb offset 0) (eqb kind 1 && (ltb column columns && offset_fits offset)) ≡ true → (column < columns) × (offset_fits offset ≡ true)
    by true w =
        let z = eqb-true column 0 (and_left (eqb column 0) (eqb offset 0) w) in
        let y = eqb-true offset 0 (and_right (eqb column 0) (eqb offset 0) w) in
        (omega arith, ap offset_fits y)
    by false w =
        let z = and_right (eqb kind 1) (ltb column columns && offset_fits offset) w in
        (ltb-true column columns (and_left (ltb column columns) (offset_fits offset) z), and_right (ltb column columns) (offset_fits offset) z)

module _ (s : List ℕ) (columns p : ℕ) (e : comparison_fits s columns p ≡ true) where
  left-part : left_fits columns (get_or s p 0) (get_or s (p + 1) 0) (get_or s (p + 2) 0) ≡ true
  unfolding comparison_fits
  left-part = and_left _ _ e

  right-part : right_fits columns (get_or s (p + 3) 0) (get_or s (p + 4) 0) (get_or s (p + 5) 0) ≡ true
  unfolding comparison_fits
  right-part = and_left _ _ (and_right (left_fits columns (get_or s p 0) (get_or s (p + 1) 0) (get_or s (p + 2) 0)) _ e)

  pub left_below : get_or s p 0 < columns
  unfolding left_fits
  left_below = ltb-true (get_or s p 0) columns (and_left _ _ left-part)

  pub left_near : offset_fits (get_or s (p + 1) 0) ≡ true
  unfolding left_fits offset_fits
  left_near = and_left _ _ (and_right (ltb (get_or s p 0) columns) _ left-part)

  pub operator-few : get_or s (p + 2) 0 < 8
  unfolding left_fits in_range
  operator-few =
      let r = and_right (offset_fits (get_or s (p + 1) 0)) _ (and_right (ltb (get_or s p 0) columns) _ left-part) in
      let z = leb-true (get_or s (p + 2) 0) 6 (and_right (leb 1 (get_or s (p + 2) 0)) _ r) in
      omega arith

  pub right-fits : (get_or s (p + 4) 0 < columns) × (offset_fits (get_or s (p + 5) 0) ≡ true)
  right-fits = right-below columns (get_or s (p + 3) 0) (get_or s (p + 4) 0) (get_or s (p + 5) 0) (let z = left_below in omega arith) right-part

  -- as the code counts, from the right column on
  pub right_near : offset_fits (get_or s (p + 4 + 1) 0) ≡ true
  right_near = ap (λ (i : ℕ). offset_fits (get_or s i 0)) (let q : p + 4 + 1 ≡ p + 5 = omega arith in q) ∙ right-fits.1

-- ---- five words

module _ (T : List ℕ) (at a b c d e : ℕ) where
  abbrev s1 : List ℕ
  s1 = set T at a

  abbrev s2 : List ℕ
  s2 = set s1 (at + 1) b

  abbrev s3 : List ℕ
  s3 = set s2 (at + 2) c

  abbrev s4 : List ℕ
  s4 = set s3 (at + 3) d

  pub five_other : (j : ℕ) → (at ≤ j → j < at + 5 → ⊥) → get_or (set_five T at (comparison_words a b c d e)) j 0 ≡ get_or T j 0
  unfolding set_five
  five_other j h =
      get_or-set_other s4 (at + 4) j e 0 (λ q. h (omega arith) (omega arith))
      ∙ get_or-set_other s3 (at + 3) j d 0 (λ q. h (omega arith) (omega arith))
      ∙ get_or-set_other s2 (at + 2) j c 0 (λ q. h (omega arith) (omega arith))
      ∙ get_or-set_other s1 (at + 1) j b 0 (λ q. h (omega arith) (omega arith))
      ∙ get_or-set_other T at j a 0 (λ q. h (omega arith) (omega arith))

  pub five_long : length (set_five T at (comparison_words a b c d e)) ≡ length T
  unfolding set_five
  five_long = simp length-set

  module _ (room : at + 5 ≤ length T) where
    pub five_0 : get_or (set_five T at (comparison_words a b c d e)) at 0 ≡ a
    unfolding set_five
    five_0 =
        get_or-set_other s4 (at + 4) at e 0 (λ q. omega arith) ∙ get_or-set_other s3 (at + 3) at d 0 (λ q. omega arith)
        ∙ get_or-set_other s2 (at + 2) at c 0 (λ q. omega arith) ∙ get_or-set_other s1 (at + 1) at b 0 (λ q. omega arith)
        ∙ get_or-set_same T at a 0 (omega arith)

    pub five_1 : get_or (set_five T at (comparison_words a b c d e)) (at + 1) 0 ≡ b
    unfolding set_five
    five_1 =
        get_or-set_other s4 (at + 4) (at + 1) e 0 (λ q. omega arith) ∙ get_or-set_other s3 (at + 3) (at + 1) d 0 (λ q. omega arith)
        ∙ get_or-set_other s2 (at + 2) (at + 1) c 0 (λ q. omega arith) ∙ get_or-set_same s1 (at + 1) b 0 (simp length-set (omega arith))

    pub five_2 : get_or (set_five T at (comparison_words a b c d e)) (at + 2) 0 ≡ c
    unfolding set_five
    five_2 =
        get_or-set_other s4 (at + 4) (at + 2) e 0 (λ q. omega arith) ∙ get_or-set_other s3 (at + 3) (at + 2) d 0 (λ q. omega arith)
        ∙ get_or-set_same s2 (at + 2) c 0 (simp length-set (omega arith))

    pub five_3 : get_or (set_five T at (comparison_words a b c d e)) (at + 3) 0 ≡ d
    unfolding set_five
    five_3 = get_or-set_other s4 (at + 4) (at + 3) e 0 (λ q. omega arith) ∙ get_or-set_same s3 (at + 3) d 0 (simp length-set (omega arith))

    pub five_4 : get_or (set_five T at (comparison_words a b c d e)) (at + 4) 0 ≡ e
    unfolding set_five
    five_4 = get_or-set_same s4 (at + 4) e 0 (simp length-set (omega arith))

-- ---- the comparison

-- a comparison by its fields
abbrev made : ℕ → ℤ → ℕ → ℕ → ℕ → ℤ → ℤ → Comparison
made l lo op kind r ro n = record { left = l; left_offset = lo; operator = op; right_kind = kind; right = r; right_offset = ro; number = n }

same-made : {l l' : ℕ} {lo lo' : ℤ} {op op' kind kind' r r' : ℕ} {ro ro' n n' : ℤ} →
    l ≡ l' → lo ≡ lo' → op ≡ op' → kind ≡ kind' → r ≡ r' → ro ≡ ro' → n ≡ n' → made l lo op kind r ro n ≡ made l' lo' op' kind' r' ro' n'
same-made a b c d e f g = rw (a, b, c, d, e, f, g) refl

-- two halves are the whole
halves : (s : List ℕ) (p : ℕ) → le16 s (p + 8) + le16 s (p + 10) * 65536 ≡ le32 s (p + 8)
unfolding le16 le32
halves s p =
    let u : get_or s (p + 8 + 2) 0 ≡ get_or s (p + 10) 0 = ap (λ (i : ℕ). get_or s i 0) (let q : p + 8 + 2 ≡ p + 10 = omega arith in q) in
    let v : get_or s (p + 8 + 3) 0 ≡ get_or s (p + 10 + 1) 0 = ap (λ (i : ℕ). get_or s i 0) (let q : p + 8 + 3 ≡ p + 10 + 1 = omega arith in q) in
    omega arith

module _ (s : List ℕ) (columns p : ℕ) (fits : comparison_fits s columns p ≡ true) (T : List ℕ) (at : ℕ) (room : at + 5 ≤ length T) where
  abbrev sort : ℕ
  sort = get_or s (p + 2) 0 + get_or s (p + 3) 0 * 8

  abbrev left_spot : ℕ
  left_spot = spot_of columns (signed8 (get_or s (p + 1) 0)) (get_or s p 0)

  abbrev right_spot : ℕ
  right_spot = spot_of columns (signed8 (get_or s (p + 5) 0)) (get_or s (p + 4) 0)

  abbrev after : List ℕ
  after = set_five T at (comparison_words sort left_spot right_spot (le16 s (p + 8)) (le16 s (p + 10)))

  word-0 : get_or after at 0 ≡ sort
  word-0 = five_0 T at sort left_spot right_spot (le16 s (p + 8)) (le16 s (p + 10)) room

  word-1 : get_or after (at + 1) 0 ≡ left_spot
  word-1 = five_1 T at sort left_spot right_spot (le16 s (p + 8)) (le16 s (p + 10)) room

  word-2 : get_or after (at + 2) 0 ≡ right_spot
  word-2 = five_2 T at sort left_spot right_spot (le16 s (p + 8)) (le16 s (p + 10)) room

  word-3 : get_or after (at + 3) 0 ≡ le16 s (p + 8)
  word-3 = five_3 T at sort left_spot right_spot (le16 s (p + 8)) (le16 s (p + 10)) room

  word-4 : get_or after (at + 4) 0 ≡ le16 s (p + 10)
  word-4 = five_4 T at sort left_spot right_spot (le16 s (p + 8)) (le16 s (p + 10)) room

  number_is : number_in after at ≡ signed32 (le32 s (p + 8))
  unfolding number_in
  number_is =
      let e : get_or after (at + 3) 0 + get_or after (at + 4) 0 * 65536 ≡ le32 s (p + 8) = rw (word-3, word-4) (halves s p) in
      ap signed32 e

  comparison_is : comparison_in after columns at ≡ comparison_at s p
  unfolding comparison_in comparison_at
  comparison_is =
      same-made
      (ap (column_of columns) word-1 ∙ spot_column columns (signed8 (get_or s (p + 1) 0)) (get_or s p 0) (left_below s columns p fits))
      (ap (offset_of columns) word-1
      ∙ spot_offset columns (signed8 (get_or s (p + 1) 0)) (get_or s p 0) (left_below s columns p fits) (offset_near (get_or s (p + 1) 0) (left_near s columns p fits)))
      (let z = operator-few s columns p fits in let w = word-0 in omega arith)
      (let z = operator-few s columns p fits in let w = word-0 in omega arith)
      (ap (column_of columns) word-2 ∙ spot_column columns (signed8 (get_or s (p + 5) 0)) (get_or s (p + 4) 0) (right-fits s columns p fits).0)
      (ap (offset_of columns) word-2
      ∙ spot_offset columns (signed8 (get_or s (p + 5) 0)) (get_or s (p + 4) 0) (right-fits s columns p fits).0 (offset_near (get_or s (p + 5) 0) (right-fits s columns p fits).1))
      number_is

  -- what the code writes
  module _ (T' : List ℕ) (a b w x y z : ℕ) (ea : a ≡ get_or s (p + 2) 0) (eb : b ≡ get_or s (p + 3) 0)
      (ew : w ≡ left_spot) (ex : x ≡ spot_of columns (signed8 (get_or s (p + 4 + 1) 0)) (get_or s (p + 4) 0)) (ey : y ≡ le16 s (p + 8)) (ez : z ≡ le16 s (p + 10))
      (e : T' ≡ set_five T at (comparison_words (a + b * 8) w x y z)) where
    right_is : x ≡ right_spot
    right_is = ex ∙ ap (λ (i : ℕ). spot_of columns (signed8 (get_or s i 0)) (get_or s (p + 4) 0)) (let q : p + 4 + 1 ≡ p + 5 = omega arith in q)

    words_are : T' ≡ after
    words_are = e ∙ rw (ea, eb, ew, right_is, ey, ez) refl

    pub comparison_put : ComparisonPut s columns p T T' at
    unfolding put_comparison
    comparison_put = record { words = words_are; is = ap (λ (t : List ℕ). comparison_in t columns at) words_are ∙ comparison_is }

-- Truths by their numbers, by the ways through the code: a comparison, the operators, and the number
-- that stands for a list of results.
use mathlib.Core.Path.{◌≡◌, refl, sym, ap, ◌∙◌}
use mathlib.Core.Bool.{Bool, true, false, not, ◌&&◌, ◌||◌}
use mathlib.Core.List.{List, [], ◌∷◌}
use mathlib.Core.Option.{none, some}
use Prim.Native.Nat.{ℕ, zero, suc, ◌+◌, ◌*◌, ◌-◌, ◌/◌, ◌%◌, ◌≤◌, ◌<◌}
use native.Mathlib.Omega.{arith}
use lib.Dec.{ltb, eqb}
use lib.IntN.{ℤ, pos, ◌+ℤ◌}
use lib.ListN.{length, get_or}
use borrow.Author.Tests.{lt-ltb, le-ltb, eq-eqb, ne_eqb, not-true, not-false}
use Rattle.rules.specs.Basics.{pick}
use Rattle.rules.specs.Rows.{Truth, yes, no, unknown, truth_and, truth_or, truth_not, is_yes, truth_by, compares, plus_number, latest}
use Rattle.table.specs.Tests.{number_in}
use Rattle.comparisons.specs.Spots.{spot_index, entry_from, right_from, read_truth, read_met}
use Rattle.conditions.specs.Results.{truth_number, stacked, joined_number, known}

-- ---- a comparison

module _ (T : List ℕ) (rows : List ℤ) (from at x : ℕ) (is_x : x ≡ spot_index from (get_or T (at + 1) 0)) where
  pub left_out : length rows ≤ x → false ≡ known T rows from at
  unfolding known
  left_out h = let a : ltb (spot_index from (get_or T (at + 1) 0)) (length rows) ≡ false = le-ltb _ _ (rw is_x at h) in rw a refl

  module _ (there : x < length rows) (sort : ℕ) (is-sort : sort ≡ get_or T at 0) where
    left_in : ltb (spot_index from (get_or T (at + 1) 0)) (length rows) ≡ true
    left_in = lt-ltb _ _ (rw is_x at there)

    pub right_by : sort / 8 ≡ 1 → (y : ℕ) → y ≡ spot_index from (get_or T (at + 2) 0) → ltb y (length rows) ≡ known T rows from at
    unfolding known
    right_by k y is_y =
        let e : eqb (get_or T at 0 / 8) 1 ≡ true = eq-eqb _ _ (ap (λ (i : ℕ). i / 8) (sym is-sort) ∙ k) in
        rw (left_in, e, ← is_y) refl

    pub right-none : (sort / 8 ≡ 1 → ⊥) → true ≡ known T rows from at
    unfolding known
    right-none k =
        let e : eqb (get_or T at 0 / 8) 1 ≡ false = ne_eqb _ _ (λ q. k (ap (λ (i : ℕ). i / 8) is-sort ∙ q)) in
        rw (left_in, e) refl

-- what is known is true or false, and what is not is unknown
module _ (T : List ℕ) (rows : List ℤ) (from at : ℕ) where
  told : read_truth T rows from at ≡ pick (known T rows from at) (pick (read_met T rows from at) yes no) unknown
  unfolding read_truth read_met known truth_by is_yes entry_from right_from plus_number
  told = by (ltb (spot_index from (get_or T (at + 1) 0)) (length rows)) (eqb (get_or T at 0 / 8) 1) (ltb (spot_index from (get_or T (at + 2) 0)) (length rows))
      (get_or rows (spot_index from (get_or T (at + 1) 0)) (pos 0)) (get_or rows (spot_index from (get_or T (at + 2) 0)) (pos 0)) (number_in T at)
    where
      bit : (b : Bool) → pick b yes no ≡ pick (is_yes (pick b yes no)) yes no
      bit true = refl
      bit false = refl

      by : (l k r : Bool) (a b c : ℤ)
          → truth_by (get_or T at 0 % 8) (pick l (some a) none) (pick k (plus_number c (pick r (some b) none)) (some c))
          ≡ pick (l && (not k || r)) (pick (is_yes (truth_by (get_or T at 0 % 8) (pick l (some a) none) (pick k (plus_number c (pick r (some b) none)) (some c)))) yes no) unknown
      by false k r a b c = refl
      by true false r a b c = bit (compares (get_or T at 0 % 8) a c)
      by true true false a b c = refl
      by true true true a b c = bit (compares (get_or T at 0 % 8) a (b +ℤ c))

  pub not_known : (t : Bool) → t ≡ known T rows from at → not t ≡ true → (1 ≡ truth_number (read_truth T rows from at)) × (1 ≤ 2)
  unfolding truth_number
  not_known t e n = (let z : known T rows from at ≡ false = sym e ∙ not-true t n in rw (told, z) refl, omega arith)

  pub is-met : (t r : Bool) → t ≡ known T rows from at → not t ≡ false → r ≡ read_met T rows from at → r ≡ true → (2 ≡ truth_number (read_truth T rows from at)) × (2 ≤ 2)
  unfolding truth_number
  is-met t r e n er y = (let z : known T rows from at ≡ true = sym e ∙ not-false t n in let w : read_met T rows from at ≡ true = sym er ∙ y in rw (told, z, w) refl, omega arith)

  pub is-unmet : (t r : Bool) → t ≡ known T rows from at → not t ≡ false → r ≡ read_met T rows from at → r ≡ false → (0 ≡ truth_number (read_truth T rows from at)) × (0 ≤ 2)
  unfolding truth_number
  is-unmet t r e n er y = (let z : known T rows from at ≡ true = sym e ∙ not-false t n in let w : read_met T rows from at ≡ false = sym er ∙ y in rw (told, z, w) refl, omega arith)

-- ---- lists of results

pub truth-few : (v : Truth) → truth_number v ≤ 2
unfolding truth_number
truth-few yes = omega arith
truth-few no = omega arith
truth-few unknown = omega arith

pub latest-few : (rs : List Truth) → stacked rs % 4 ≤ 2
unfolding stacked
latest-few [] = omega arith
latest-few (r ∷ rs) = let a = truth-few r in omega arith

-- how large the number of so many results can be
unfoldable pub room_for : ℕ → ℕ
room_for zero = 1
room_for (suc k) = room_for k * 4

pub stacked-few : (rs : List Truth) → stacked rs < room_for (length rs)
unfolding stacked room_for
stacked-few [] = omega arith
stacked-few (r ∷ rs) = let a = truth-few r in let b = stacked-few rs in omega arith

grows : (d k : ℕ) → room_for k ≤ room_for (d + k)
unfolding room_for
grows zero k = let e : 0 + k ≡ k = omega arith in rw e (omega arith)
grows (suc d) k = let e : suc d + k ≡ suc (d + k) = omega arith in let a = grows d k in rw e (omega arith)

-- sixteen fit into 32 bits
pub sixteen : (rs : List Truth) → length rs ≤ 16 → stacked rs < 4294967296
unfolding room_for
sixteen rs h =
    let a = stacked-few rs in
    let g = grows (16 - length rs) (length rs) in
    let e : 16 - length rs + length rs ≡ 16 = omega arith in
    let f : room_for (16 - length rs + length rs) ≡ 4294967296 = ap room_for e in
    omega arith

-- AND, OR and NOT of the latest results
module _ (rs : List Truth) where
  pub stacked-and : (a b : Truth) → stacked (truth_and a b ∷ rs) ≡ joined_number 16 (stacked (b ∷ (a ∷ rs)))
  unfolding stacked joined_number truth_and truth_number
  stacked-and yes yes = omega arith
  stacked-and yes no = omega arith
  stacked-and yes unknown = omega arith
  stacked-and no yes = omega arith
  stacked-and no no = omega arith
  stacked-and no unknown = omega arith
  stacked-and unknown yes = omega arith
  stacked-and unknown no = omega arith
  stacked-and unknown unknown = omega arith

  pub stacked-or : (a b : Truth) → stacked (truth_or a b ∷ rs) ≡ joined_number 17 (stacked (b ∷ (a ∷ rs)))
  unfolding stacked joined_number truth_or truth_number
  stacked-or yes yes = omega arith
  stacked-or yes no = omega arith
  stacked-or yes unknown = omega arith
  stacked-or no yes = omega arith
  stacked-or no no = omega arith
  stacked-or no unknown = omega arith
  stacked-or unknown yes = omega arith
  stacked-or unknown no = omega arith
  stacked-or unknown unknown = omega arith

  pub stacked-not : (a : Truth) → (word : ℕ) → (word ≡ 16 → ⊥) → (word ≡ 17 → ⊥) → stacked (truth_not a ∷ rs) ≡ joined_number word (stacked (a ∷ rs))
  unfolding stacked joined_number truth_not truth_number
  stacked-not yes word n o = rw (ne_eqb word 16 n, ne_eqb word 17 o) (omega arith)
  stacked-not no word n o = rw (ne_eqb word 16 n, ne_eqb word 17 o) (omega arith)
  stacked-not unknown word n o = rw (ne_eqb word 16 n, ne_eqb word 17 o) (omega arith)

-- one result: its number, and whether it is true
pub one_result : (v : Truth) → stacked (v ∷ []) ≡ truth_number (latest (v ∷ []))
unfolding stacked truth_number latest
one_result yes = refl
one_result no = refl
one_result unknown = refl

pub yes_number : (v : Truth) → eqb (truth_number v) 2 ≡ is_yes v
unfolding truth_number is_yes
yes_number yes = refl
yes_number no = refl
yes_number unknown = refl

-- R-7: true, false and unknown. A letter of kind 3 holds exactly if all its comparisons are met;
-- the entries of an accepted DEFINE of kind 6 leave one result and lie in its body; a DEFINE of
-- kind 3 says the same as one of kind 6 with AND between its comparisons.
use mathlib.Core.Path.{◌≡◌, refl, ap, sym, ◌∙◌}
use mathlib.Core.Bool.{Bool, true, false, ◌&&◌, true≢false}
use mathlib.Core.List.{List, [], ◌∷◌}
use mathlib.Core.Option.{Option, none, some}
use Prim.Native.Nat.{ℕ, zero, suc, ◌+◌, ◌-◌, ◌*◌, ◌≤◌}
use native.Mathlib.Omega.{arith}
use lib.Dec.{leb, eqb}
use lib.IntN.{ℤ, pos, ◌+ℤ◌}
use lib.ListN.{length, get_or}
use borrow.Author.Tests.{leb-true, eqb-true}
use Rattle.rules.specs.Basics.{pick, every}
use Rattle.rules.specs.Rows.{Table, entry_at, Comparison, compares, right_side, Truth, yes, no, unknown, truth_and, truth_or, truth_not, is_yes, truth_by, truth, met, Entry, compared, conj, disj, neg, all_of, postfix, result_on, results_of, latest, all_truth, condition_truth, holds}
use Rattle.rules.specs.Query.{entry_bytes, entries_end, read_entries, leaves_one}
use Rattle.laws.proofs.Level.{and-true}

-- ---- the tables

yes_and : (a b : Truth) → is_yes (truth_and a b) ≡ (is_yes a && is_yes b)
unfolding is_yes truth_and
yes_and yes yes = refl
yes_and yes no = refl
yes_and yes unknown = refl
yes_and no yes = refl
yes_and no no = refl
yes_and no unknown = refl
yes_and unknown yes = refl
yes_and unknown no = refl
yes_and unknown unknown = refl

-- NOT twice is nothing, and NOT of an AND is the OR of the NOTs
pub not-not : (a : Truth) → truth_not (truth_not a) ≡ a
unfolding truth_not
not-not yes = refl
not-not no = refl
not-not unknown = refl

pub not-and : (a b : Truth) → truth_not (truth_and a b) ≡ truth_or (truth_not a) (truth_not b)
unfolding truth_not truth_and truth_or
not-and yes yes = refl
not-and yes no = refl
not-and yes unknown = refl
not-and no yes = refl
not-and no no = refl
not-and no unknown = refl
not-and unknown yes = refl
not-and unknown no = refl
not-and unknown unknown = refl

and_yes : (a : Truth) → truth_and a yes ≡ a
unfolding truth_and
and_yes yes = refl
and_yes no = refl
and_yes unknown = refl

yes-first : (a : Truth) → truth_and yes a ≡ a
unfolding truth_and
yes-first yes = refl
yes-first no = refl
yes-first unknown = refl

no-first : (a : Truth) → truth_and no a ≡ no
unfolding truth_and
no-first yes = refl
no-first no = refl
no-first unknown = refl

and-twice : (a b c : Truth) → truth_and (truth_and a b) c ≡ truth_and a (truth_and b c)
unfolding truth_and
and-twice yes b c = ap (λ (v : Truth). truth_and v c) (yes-first b) ∙ sym (yes-first (truth_and b c))
and-twice no b c = ap (λ (v : Truth). truth_and v c) (no-first b) ∙ no-first c ∙ sym (no-first (truth_and b c))
and-twice unknown b c = third b c
  where
    third : (b c : Truth) → truth_and (truth_and unknown b) c ≡ truth_and unknown (truth_and b c)
    third yes yes = cc
    third yes no = cc
    third yes unknown = cc
    third no yes = cc
    third no no = cc
    third no unknown = cc
    third unknown yes = cc
    third unknown no = cc
    third unknown unknown = cc

-- ---- comparisons and kind 3

-- a comparison is met as document 01 says: both sides are there, and they compare
unfoldable pub met_by : ℕ → Option ℤ → Option ℤ → Bool
met_by op none b = false
met_by op (some a) none = false
met_by op (some a) (some b) = compares op a b

pub met_by_lem : (t : Table) (row : ℕ) (c : Comparison) → met t row c ≡ met_by c.operator (entry_at t (pos row +ℤ c.left_offset) c.left) (right_side t c row)
unfolding met truth met_by truth_by is_yes
met_by_lem t row c = by (entry_at t (pos row +ℤ c.left_offset) c.left) (right_side t c row)
  where
    bit : (b : Bool) → is_yes (pick b yes no) ≡ b
    bit true = cc
    bit false = cc

    by : (x y : Option ℤ) → is_yes (truth_by c.operator x y) ≡ met_by c.operator x y
    by none y = cc
    by (some a) none = cc
    by (some a) (some b) = bit (compares c.operator a b)

-- A letter of kind 3 holds exactly if all its comparisons are met, as before; one without DEFINE
-- holds.
pub all_met : (t : Table) (row : ℕ) (cs : List Comparison) → holds t row (all_of cs) ≡ every (met t row) cs
unfolding holds condition_truth all_truth every met is_yes
all_met t row [] = refl
all_met t row (c ∷ cs) = yes_and (truth t row c) (all_truth t row cs) ∙ ap (λ (b : Bool). is_yes (truth t row c) && b) (all_met t row cs)

-- ---- entries

second : (a : Bool) {b : Bool} → (a && b) ≡ true → b ≡ true
second a {b} e = (and-true a b e).1

-- With as many results as the test says, no entry runs short, and one result is left.
pub one_left : (t : Table) (row : ℕ) (es : List Entry) (rs : List Truth) → leaves_one (length rs) es ≡ true → (v : Truth) × (results_of t row es rs ≡ v ∷ [])
unfolding leaves_one results_of result_on
one_left t row [] [] e = absurd (true≢false (sym e))
one_left t row [] (v ∷ []) e = (v, refl)
one_left t row [] (v ∷ (w ∷ rs)) e = let z : suc (suc (length rs)) ≡ 1 = eqb-true _ _ e in absurd (omega arith)
one_left t row (compared c ∷ es) rs e = one_left t row es (truth t row c ∷ rs) (let z : length rs + 1 ≡ suc (length rs) = omega arith in rw z at e)
one_left t row (conj ∷ es) [] e = absurd (true≢false (sym e))
one_left t row (conj ∷ es) (u ∷ []) e = absurd (true≢false (sym e))
one_left t row (conj ∷ es) (u ∷ (v ∷ rs)) e = one_left t row es (truth_and v u ∷ rs) (let z : suc (suc (length rs)) - 1 ≡ suc (length rs) = omega arith in rw z at (second (leb 2 (suc (suc (length rs)))) e))
one_left t row (disj ∷ es) [] e = absurd (true≢false (sym e))
one_left t row (disj ∷ es) (u ∷ []) e = absurd (true≢false (sym e))
one_left t row (disj ∷ es) (u ∷ (v ∷ rs)) e = one_left t row es (truth_or v u ∷ rs) (let z : suc (suc (length rs)) - 1 ≡ suc (length rs) = omega arith in rw z at (second (leb 2 (suc (suc (length rs)))) e))
one_left t row (neg ∷ es) [] e = absurd (true≢false (sym e))
one_left t row (neg ∷ es) (u ∷ rs) e = one_left t row es (truth_not u ∷ rs) (second (leb 1 (suc (length rs))) e)

-- Where d results are there, at least d - 1 entries are left; so of 16 entries no more than 8
-- results wait at once.
pub few_wait : (d : ℕ) (es : List Entry) → leaves_one d es ≡ true → d ≤ length es + 1
unfolding leaves_one
few_wait d [] e = omega (arith, eqb-true d 1 e)
few_wait d (compared c ∷ es) e = omega (arith, few_wait (d + 1) es e)
few_wait d (conj ∷ es) e = let c = and-true (leb 2 d) (leaves_one (d - 1) es) e in omega (arith, leb-true 2 d c.0, few_wait (d - 1) es c.1)
few_wait d (disj ∷ es) e = let c = and-true (leb 2 d) (leaves_one (d - 1) es) e in omega (arith, leb-true 2 d c.0, few_wait (d - 1) es c.1)
few_wait d (neg ∷ es) e = let c = and-true (leb 1 d) (leaves_one d es) e in omega (arith, few_wait d es c.1)

-- the entries take a byte each at least, and 13 at most
pub entries-behind : (s : List ℕ) (k p : ℕ) → (p + k ≤ entries_end s k p) × (entries_end s k p ≤ p + 13 * k)
unfolding entries_end entry_bytes
entries-behind s zero p = (omega arith, omega arith)
entries-behind s (suc k) p = go (entries-behind s k) (eqb (get_or s p 0) 0)
  where
    go : ((p : ℕ) → (p + k ≤ entries_end s k p) × (entries_end s k p ≤ p + 13 * k)) → (t : Bool) → (p + suc k ≤ entries_end s k (p + pick t 13 1)) × (entries_end s k (p + pick t 13 1) ≤ p + 13 * suc k)
    go ih true = let h = ih (p + 13) in (omega (arith, h.0), omega (arith, h.1))
    go ih false = let h = ih (p + 1) in (omega (arith, h.0), omega (arith, h.1))

pub entries-long : (s : List ℕ) (k p : ℕ) → length (read_entries s k p) ≡ k
unfolding read_entries
entries-long s zero p = refl
entries-long s (suc k) p = ap suc (entries-long s k (p + entry_bytes s p))

-- ---- kind 3 as kind 6

-- comparisons in postfix, with AND behind each but the first
unfoldable pub conjoined : List Comparison → List Entry
conjoined [] = []
conjoined (c ∷ cs) = compared c ∷ (conj ∷ conjoined cs)

conjoined-on : (t : Table) (row : ℕ) (cs : List Comparison) (v : Truth) → results_of t row (conjoined cs) (v ∷ []) ≡ truth_and v (all_truth t row cs) ∷ []
unfolding conjoined results_of result_on all_truth
conjoined-on t row [] v = ap (λ (x : Truth). x ∷ []) (sym (and_yes v))
conjoined-on t row (c ∷ cs) v =
    conjoined-on t row cs (truth_and v (truth t row c)) ∙ ap (λ (x : Truth). x ∷ []) (and-twice v (truth t row c) (all_truth t row cs))

-- a DEFINE of kind 3 and one of kind 6 with AND between the same comparisons are of one truth at
-- every row
pub kind_3_as_6 : (t : Table) (row : ℕ) (c : Comparison) (cs : List Comparison) → condition_truth t row (all_of (c ∷ cs)) ≡ condition_truth t row (postfix (compared c ∷ conjoined cs))
unfolding condition_truth results_of result_on all_truth
kind_3_as_6 t row c cs = sym (ap latest (conjoined-on t row cs (truth t row c)))

-- Rules: document 01, "Rows and query records", on rows and letters, with R-6 and R-7. A table of
-- rows, a comparison at a row, which is true, false or unknown, a letter's condition, when a letter
-- holds at a row, and how many of its comparisons are judged there.
use Rattle.std.specs.Prelude.{Bool, true, false, ◌&&◌, ◌||◌, List, [], ◌∷◌, ℕ, suc, ◌+◌, ◌*◌, ◌/◌, ltb, eqb, ℤ, pos, negsuc, ◌+ℤ◌, length, get_or}
use Rattle.std.proofs.Math.Option.{Option, none, some}
use Rattle.std.specs.Int.Signed.{lt_z, le_z}
use Rattle.rules.specs.Basics.{pick}

-- The rows lie one after another, each of so many columns; n is how many rows there are. Rows and
-- positions count from 0, and position n is behind the last row.
pub record Table : Type 0 where
  pub columns : ℕ
  pub n : ℕ
  pub entries : List ℤ

-- the whole rows that a lent slice holds
unfoldable pub table_of : ℕ → List ℤ → Table
table_of columns entries = record { columns = columns; n = length entries / columns; entries = entries }

-- the entry of a row of the table in a column
unfoldable pub entry : Table → ℕ → ℕ → ℤ
entry t row column = get_or t.entries (row * t.columns + column) (pos 0)

-- the entry at a signed row number; none where that row is outside the partition
unfoldable pub entry_at : Table → ℤ → ℕ → Option ℤ
unfolding entry
entry_at t (pos row) column = pick (ltb row t.n) (some (entry t row column)) none
entry_at t (negsuc k) column = none

-- A comparison: a column read some rows before (PREV, offset below 0) or behind (NEXT, above 0), an
-- operator, and a right side that is a number (right kind 0) or such an entry plus a number (right
-- kind 1).
pub record Comparison : Type 0 where
  pub left : ℕ
  pub left_offset : ℤ
  pub operator : ℕ
  pub right_kind : ℕ
  pub right : ℕ
  pub right_offset : ℤ
  pub number : ℤ

-- operator 1 equal, 2 unequal, 3 less, 4 at most, 5 greater, 6 at least
unfoldable pub compares : ℕ → ℤ → ℤ → Bool
compares op a b =
    pick (eqb op 1) (le_z a b && le_z b a)
    (pick (eqb op 2) (lt_z a b || lt_z b a)
    (pick (eqb op 3) (lt_z a b)
    (pick (eqb op 4) (le_z a b)
    (pick (eqb op 5) (lt_z b a)
    (le_z b a)))))

-- The sum is exact and never wraps: it is a sum of whole numbers of any size. With an entry that is
-- not there, it is not there.
unfoldable pub plus_number : ℤ → Option ℤ → Option ℤ
plus_number k (some x) = some (x +ℤ k)
plus_number k none = none

-- The right side is the number, plus the column's entry where the right kind is 1.
unfoldable pub right_side : Table → Comparison → ℕ → Option ℤ
unfolding plus_number entry_at
right_side t c row = pick (eqb c.right_kind 1) (plus_number c.number (entry_at t (pos row +ℤ c.right_offset) c.right)) (some c.number)

-- ---- the third truth (R-7)

-- A comparison answers true, false or unknown.
pub data Truth : Type 0 where
  yes : Truth
  no : Truth
  unknown : Truth

-- SQL's tables for AND, OR and NOT
unfoldable pub truth_and : Truth → Truth → Truth
truth_and yes yes = yes
truth_and yes no = no
truth_and yes unknown = unknown
truth_and no yes = no
truth_and no no = no
truth_and no unknown = no
truth_and unknown yes = unknown
truth_and unknown no = no
truth_and unknown unknown = unknown

unfoldable pub truth_or : Truth → Truth → Truth
truth_or yes yes = yes
truth_or yes no = yes
truth_or yes unknown = yes
truth_or no yes = yes
truth_or no no = no
truth_or no unknown = unknown
truth_or unknown yes = yes
truth_or unknown no = unknown
truth_or unknown unknown = unknown

unfoldable pub truth_not : Truth → Truth
truth_not yes = no
truth_not no = yes
truth_not unknown = unknown

unfoldable pub is_yes : Truth → Bool
is_yes yes = true
is_yes no = false
is_yes unknown = false

-- A comparison that reads a row outside the partition is unknown, whatever its operator.
unfoldable pub truth_by : ℕ → Option ℤ → Option ℤ → Truth
unfolding compares
truth_by op none b = unknown
truth_by op (some a) none = unknown
truth_by op (some a) (some b) = pick (compares op a b) yes no

unfoldable pub truth : Table → ℕ → Comparison → Truth
unfolding truth_by entry_at right_side
truth t row c = truth_by c.operator (entry_at t (pos row +ℤ c.left_offset) c.left) (right_side t c row)

-- a comparison is met if it is true; so one that reads a row outside the partition is not met
unfoldable pub met : Table → ℕ → Comparison → Bool
unfolding truth is_yes
met t row c = is_yes (truth t row c)

-- ---- when a letter holds

-- an entry of a list in postfix: a comparison, or an operator on the results before it
pub data Entry : Type 0 where
  compared : Comparison → Entry
  conj : Entry
  disj : Entry
  neg : Entry

-- A letter's condition: all of some comparisons (kind 3; a letter without DEFINE has none), or
-- entries in postfix (kind 6).
pub data Condition : Type 0 where
  all_of : List Comparison → Condition
  postfix : List Entry → Condition

-- What an entry makes of the results so far, the latest first. With fewer results than it needs it
-- does nothing; in an accepted query no entry runs short, and one result is left (law `one_left`,
-- crates/laws, Truths).
unfoldable pub result_on : Table → ℕ → Entry → List Truth → List Truth
unfolding truth truth_and truth_or truth_not
result_on t row (compared c) rs = truth t row c ∷ rs
result_on t row conj [] = []
result_on t row conj (b ∷ []) = b ∷ []
result_on t row conj (b ∷ (a ∷ rs)) = truth_and a b ∷ rs
result_on t row disj [] = []
result_on t row disj (b ∷ []) = b ∷ []
result_on t row disj (b ∷ (a ∷ rs)) = truth_or a b ∷ rs
result_on t row neg [] = []
result_on t row neg (a ∷ rs) = truth_not a ∷ rs

unfoldable pub results_of : Table → ℕ → List Entry → List Truth → List Truth
unfolding result_on
results_of t row [] rs = rs
results_of t row (e ∷ es) rs = results_of t row es (result_on t row e rs)

-- the latest result
unfoldable pub latest : List Truth → Truth
latest [] = unknown
latest (r ∷ rs) = r

-- all of some comparisons: the AND of their truths, true where there are none
unfoldable pub all_truth : Table → ℕ → List Comparison → Truth
unfolding truth truth_and
all_truth t row [] = yes
all_truth t row (c ∷ cs) = truth_and (truth t row c) (all_truth t row cs)

unfoldable pub condition_truth : Table → ℕ → Condition → Truth
unfolding all_truth results_of latest
condition_truth t row (all_of cs) = all_truth t row cs
condition_truth t row (postfix es) = latest (results_of t row es [])

-- A letter holds only on true. That one of kind 3 holds at a row when all its comparisons are met
-- is the law `all_met` (crates/laws, Truths); one without DEFINE has none, so it always holds.
unfoldable pub holds : Table → ℕ → Condition → Bool
unfolding condition_truth is_yes
holds t row c = is_yes (condition_truth t row c)

-- ---- how many comparisons are judged (R-6)

-- up to and with the first that is not met; all if none is
unfoldable pub judged_in : Table → ℕ → List Comparison → ℕ
unfolding met
judged_in t row [] = 0
judged_in t row (c ∷ cs) = suc (pick (met t row c) (judged_in t row cs) 0)

-- of a letter's kind 3 record; 0 without such a record
unfoldable pub judged : Table → ℕ → Condition → ℕ
unfolding judged_in
judged t row (all_of cs) = judged_in t row cs
judged t row (postfix es) = 0

-- the comparisons that a condition has
unfoldable pub compared_in : List Entry → List Comparison
compared_in [] = []
compared_in (compared c ∷ es) = c ∷ compared_in es
compared_in (conj ∷ es) = compared_in es
compared_in (disj ∷ es) = compared_in es
compared_in (neg ∷ es) = compared_in es

unfoldable pub comparisons_in : Condition → List Comparison
unfolding compared_in
comparisons_in (all_of cs) = cs
comparisons_in (postfix es) = compared_in es

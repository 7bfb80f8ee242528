-- The results of a letter's entries in the table's words (specs/Tests of the crate table), by the
-- entries of rows that its comparisons read (specs/Spots of the crate comparisons), and the number
-- that stands for a list of them.
use Rattle.std.specs.Prelude.{Bool, not, ◌&&◌, ◌||◌, List, [], ◌∷◌, ltb, eqb, ℤ, length, get_or}
use Prim.Native.Nat.{ℕ, zero, suc, ◌+◌, ◌*◌, ◌-◌, ◌/◌, ◌%◌, min, max}
use Rattle.rules.specs.Basics.{pick}
use Rattle.rules.specs.Rows.{Truth, yes, no, unknown, truth_and, truth_or, truth_not}
use Rattle.table.specs.Tests.{entry_words}
use Rattle.comparisons.specs.Spots.{spot_index, read_truth}

-- ---- results

-- the latest two as one, and the latest one turned; with fewer they stay as they are
unfoldable pub join_latest : (Truth → Truth → Truth) → List Truth → List Truth
join_latest f [] = []
join_latest f (b ∷ []) = b ∷ []
join_latest f (b ∷ (a ∷ rs)) = f a b ∷ rs

unfoldable pub turn_latest : List Truth → List Truth
unfolding truth_not
turn_latest [] = []
turn_latest (a ∷ rs) = truth_not a ∷ rs

-- by a table, the rows' entries, and the first entry that a comparison may read
module _ (T : List ℕ) (rows : List ℤ) (from : ℕ) where
  -- the results behind the entry at word `at`, the latest first
  unfoldable pub read_result : ℕ → List Truth → List Truth
  unfolding read_truth join_latest turn_latest truth_and truth_or
  read_result at rs =
      pick (ltb (get_or T at 0) 16) (read_truth T rows from at ∷ rs)
      (pick (eqb (get_or T at 0) 16) (join_latest truth_and rs)
      (pick (eqb (get_or T at 0) 17) (join_latest truth_or rs)
      (turn_latest rs)))

  -- those behind so many entries from word `at` on
  unfoldable pub read_results : ℕ → ℕ → List Truth → List Truth
  unfolding read_result entry_words
  read_results zero at rs = rs
  read_results (suc k) at rs = read_results k (at + entry_words T at) (read_result at rs)

-- ---- numbers that stand for results

unfoldable pub truth_number : Truth → ℕ
truth_number no = 0
truth_number unknown = 1
truth_number yes = 2

-- two bits for each, the latest lowest
unfoldable pub stacked : List Truth → ℕ
unfolding truth_number
stacked [] = 0
stacked (r ∷ rs) = stacked rs * 4 + truth_number r

-- what AND (16), OR (17) and NOT make of such a number
unfoldable pub joined_number : ℕ → ℕ → ℕ
joined_number word x =
    pick (eqb word 16) (x / 4 / 4 * 4 + min (x / 4 % 4) (x % 4))
    (pick (eqb word 17) (x / 4 / 4 * 4 + max (x / 4 % 4) (x % 4))
    (x / 4 * 4 + (2 - x % 4)))

-- ---- a comparison

-- the rows are there that the comparison at word `at` reads
unfoldable pub known : List ℕ → List ℤ → ℕ → ℕ → Bool
unfolding spot_index
known T rows from at =
    ltb (spot_index from (get_or T (at + 1) 0)) (length rows)
    && (not (eqb (get_or T at 0 / 8) 1) || ltb (spot_index from (get_or T (at + 2) 0)) (length rows))

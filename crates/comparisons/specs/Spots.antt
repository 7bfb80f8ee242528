-- A comparison in the table's words (specs/Tests of the crate table) by the entries that it reads.
-- From a row whose first entry is at index base, the entry of a spot lies at `spot_index from spot`,
-- where `from` is the index 64 rows before base. Both wrap at 2 ^ 64: an entry before the first row
-- gets a number far above every length. So the row that is read is in the partition exactly if that
-- index is below the length of the rows (proofs/Entries), and nothing else is asked of a row.
use Rattle.std.specs.Prelude.{◌≡◌, ℕ, zero, suc, ◌+◌, ◌*◌, ◌/◌, ◌%◌, ◌<◌, Bool, List, length, ℤ, pos, ◌==◌, nat_lt, slice_index, slice_index_or}
use Rattle.std.proofs.Math.Option.{Option, none, some}
use Rattle.rules.specs.Basics.{pick}
use Rattle.rules.specs.Rows.{plus_number, Truth, truth_by, is_yes}
use Rattle.table.specs.Tests.{number_in}

-- The index 64 rows before base, where spot 0 lies.
pub record FarBack (columns base from : ℕ) : Type 0 where
  pub is : (from + columns * 64) % 18446744073709551616 ≡ base
  pub fits : from < 18446744073709551616

-- where the entry at a spot lies
unfoldable pub spot_index : ℕ → ℕ → ℕ
spot_index from spot = (from + spot) % 18446744073709551616

-- the entry at an index, none where that is not below the length
unfoldable pub entry_from : List ℤ → ℕ → Option ℤ
entry_from rows index = pick (nat_lt index (length rows)) (some (slice_index_or rows index (pos 0))) none

-- the right side of the comparison at word `at`
unfoldable pub right_from : List ℕ → List ℤ → ℕ → ℕ → Option ℤ
unfolding plus_number entry_from spot_index number_in
right_from T rows from at =
    pick (slice_index T at / 8 == 1) (plus_number (number_in T at) (entry_from rows (spot_index from (slice_index T (at + 2))))) (some (number_in T at))

-- whether the comparison at word `at` is true, false or unknown
unfoldable pub read_truth : List ℕ → List ℤ → ℕ → ℕ → Truth
unfolding truth_by entry_from spot_index right_from
read_truth T rows from at = truth_by (slice_index T at % 8) (entry_from rows (spot_index from (slice_index T (at + 1)))) (right_from T rows from at)

-- it is met
unfoldable pub read_met : List ℕ → List ℤ → ℕ → ℕ → Bool
unfolding read_truth is_yes
read_met T rows from at = is_yes (read_truth T rows from at)

-- the number of the first of `count` comparisons from word `at` on that is not met, else `count`
unfoldable pub first_unmet : List ℕ → List ℤ → ℕ → ℕ → ℕ → ℕ
unfolding read_met
first_unmet T rows from at zero = 0
first_unmet T rows from at (suc k) = pick (read_met T rows from at) (suc (first_unmet T rows from (at + 5) k)) 0

-- Request R-4, the depot-by-month table: what its cells and its list hold, told from the reports of
-- the partitions so far and not from the cells.
use Rattle.std.specs.Prelude.{Bool, ◌&&◌, List, [], ◌∷◌, map, ℕ, suc, ◌+◌, ◌*◌, ◌-◌, eqb, ℤ, pos, nat_abs}
use Rattle.std.specs.Int.Signed.{le_z}
use Rattle.rules.specs.Basics.{pick, tabulate}
use Rattle.rules.specs.Rows.{Table, entry}
use Rattle.rules.specs.Entries.{Reported}
use Rattle.tally.specs.declared.NamedColumns.{NamedColumns}

-- the report of a partition: its answer, its rows, and its matches as they are read back from the
-- report's buffers
pub record DepotReport : Type 0 where
  pub answer : ℕ
  pub rows : Table
  pub matches : List Reported

-- ---- cells

-- depot 0 to 63 and month 1 to 12
unfoldable pub known : ℤ → ℤ → Bool
known depot month = (le_z (pos 0) depot && le_z depot (pos 63)) && (le_z (pos 1) month && le_z month (pos 12))

-- The cell of a depot and a month: 12 cells to a depot, one to a month; anything else counts in one
-- cell called outside, number 768, behind the 64 times 12.
unfoldable pub cell_of : ℤ → ℤ → ℕ
unfolding known
cell_of depot month = pick (known depot month) (nat_abs depot * 12 + (nat_abs month - 1)) 768

-- the cell of a match: that of the depot and the month in its first row, which is the start row of
-- an empty match
unfoldable pub match_cell : NamedColumns → Table → Reported → ℕ
unfolding cell_of entry
match_cell w t e = cell_of (entry t e.first w.depot) (entry t e.first w.month)

-- how often a number stands in a list
unfoldable pub occurs : ℕ → List ℕ → ℕ
occurs c [] = 0
occurs c (x ∷ xs) = pick (eqb x c) 1 0 + occurs c xs

-- how many matches of a report belong to a cell: none, where it did not end as done
unfoldable pub belonging : NamedColumns → ℕ → DepotReport → ℕ
unfolding occurs match_cell
belonging w c r = pick (eqb r.answer 0) (occurs c (map (match_cell w r.rows) r.matches)) 0

-- how many belong to it in all reports
unfoldable pub counted : NamedColumns → ℕ → List DepotReport → ℕ
unfolding belonging
counted w c [] = 0
counted w c (r ∷ rs) = belonging w c r + counted w c rs

-- the table: 64 times 12 cells, and outside
unfoldable pub cells : NamedColumns → List DepotReport → List ℕ
unfolding counted tabulate
cells w rs = tabulate 769 (λ c. counted w c rs)

-- ---- the list

-- The partitions that were refused or stopped, each with its number from 1 and its answer; k
-- partitions come before these.
unfoldable pub listed : ℕ → List DepotReport → List ℕ
listed k [] = []
listed k (r ∷ rs) = pick (eqb r.answer 0) (listed (suc k) rs) (suc k ∷ r.answer ∷ listed (suc k) rs)

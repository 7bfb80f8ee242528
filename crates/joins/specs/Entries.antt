-- When an entry can be read, and the numbers of the functions that join entries.
use Rattle.std.specs.Prelude.{List, ℕ, ◌+◌, ◌*◌, ◌≤◌, ◌<◌, ℤ, length}
use Rattle.joins.specs.declared.Join.{Join}
use Rattle.joins.specs.declared.Join.TheVariants.{Sum, Min, Max}

-- the row and the column are there
pub record Inside (rows : List ℤ) (columns row column : ℕ) : Type 0 where
  pub there : (row + 1) * columns ≤ length rows
  pub is_column : column < columns

-- the function's number in a query's record
abbrev pub number_of : Join → ℕ
number_of Sum = 2
number_of Min = 3
number_of Max = 4

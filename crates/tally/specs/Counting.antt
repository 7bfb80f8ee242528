-- What the code that counts a report does, and what it asks: no rule of R-4, but its steps.
use Rattle.std.specs.Prelude.{List, [], ◌∷◌, ℕ, ◌+◌, ◌*◌, ◌≤◌, ◌<◌, T, ltb, ℤ, pos, nat_abs, length, get_or, set}
use Rattle.std.specs.Int.Signed.{non_neg}
use Rattle.rules.specs.Basics.{pick, tabulate}
use Rattle.rules.specs.Rows.{Table, entry}
use Rattle.tally.specs.declared.NamedColumns.{NamedColumns}
use Rattle.tally.specs.Table.{cell_of}

-- one more, up to the largest number
unfoldable pub one_more : ℕ → ℕ
one_more x = pick (ltb x 18446744073709551615) (x + 1) x

-- a list of counts with one more at c; with one more for each of these cells
unfoldable pub up : List ℕ → ℕ → List ℕ
unfolding one_more
up l c = set l c (one_more (get_or l c 0))

unfoldable pub all_up : List ℕ → List ℕ → List ℕ
unfolding up
all_up l [] = l
all_up l (c ∷ cs) = all_up (up l c) cs

-- the cell of the match whose first row's number stands at an index of the report numbers
unfoldable pub cell_in : Table → NamedColumns → List ℤ → ℕ → ℕ
unfolding entry cell_of
cell_in t w numbers at = cell_of (entry t (nat_abs (get_or numbers at (pos 0))) w.depot) (entry t (nat_abs (get_or numbers at (pos 0))) w.month)

-- the cells of m matches: a match takes `stride` report numbers, and its first row is the second of
-- them
unfoldable pub cells_in : Table → NamedColumns → List ℤ → ℕ → ℕ → List ℕ
unfolding cell_in tabulate
cells_in t w numbers stride m = tabulate m (λ i. cell_in t w numbers (i * stride + 1))

-- that number is a row of the rows, in which both columns are
pub record RowAt (rows : List ℤ) (columns : ℕ) (w : NamedColumns) (numbers : List ℤ) (at : ℕ) : Type 0 where
  pub there : at < length numbers
  pub sign : T (non_neg (get_or numbers at (pos 0)))
  pub depot_there : nat_abs (get_or numbers at (pos 0)) * columns + w.depot < length rows
  pub month_there : nat_abs (get_or numbers at (pos 0)) * columns + w.month < length rows

-- what counting m matches asks: 769 counts, and their first rows
pub record Countable (counts : List ℕ) (rows : List ℤ) (columns : ℕ) (w : NamedColumns) (numbers : List ℤ) (stride m : ℕ) : Type 0 where
  pub long : 769 ≤ length counts
  pub firsts : (i : ℕ) → i < m → RowAt rows columns w numbers (i * stride + 1)

-- What a search is over, and the search that the definition makes of it.
use Rattle.std.specs.Prelude.{Bool, ℕ, ◌+◌, ◌*◌, ℤ, length}
use mathlib.Core.List.{List, [], reverse_aux}
use Rattle.std.proofs.Math.Option.{some}
use Rattle.rules.specs.Places.{Place}
use Rattle.rules.specs.Query.{Measure}
use Rattle.rules.specs.Report.{lent_room, fits}
use Rattle.rules.specs.Rows.{Table, table_of}
use Rattle.rules.specs.Search.{Skip, Swept, labels, Terms, walk_search, seek}
use Rattle.pairs.specs.Step.{stack}
use Rattle.pairs.specs.Layout.{Layout, P, layout_of, letters_of}
use Rattle.skips.specs.Skips.{skip_in}
use Rattle.table.specs.Table.{places_in}
use Rattle.table.specs.Measures.{measures_in}
use Rattle.matches.specs.declared.Task.{Task}
use Rattle.rules.specs.Walk.{Kept}

-- the layout of the places, when a letter holds at a row, the number of rows, whether more may
-- come, the skip mode, the rows, and the measures
pub record Asked : Type 0 where
  pub layout : Layout
  pub holds : ℕ → ℕ → Bool
  pub n : ℕ
  pub more : Bool
  pub skip : Skip
  pub rows : Table
  pub measures : List Measure

abbrev pub asked : Layout → (ℕ → ℕ → Bool) → ℕ → Bool → Skip → Table → List Measure → Asked
asked T holds n more skip rows ms = record { layout = T; holds = holds; n = n; more = more; skip = skip; rows = rows; measures = ms }

-- what a prepared query asks of rows, by its table T and its task
abbrev pub asked_of : List ℕ → List ℤ → Task → Asked
asked_of T rows task =
    asked (layout_of T task.size) (letters_of T rows task.size) task.size.rows task.size.more (skip_in task.skip) (table_of task.size.columns rows) (measures_in T task.measures task.count)

abbrev pub pl : Asked → List Place
pl A = places_in A.layout.words (P A.layout)

-- how many numbers a match appends
abbrev pub width : Asked → ℕ
width A = 3 + 2 * length A.measures

-- on what terms it is: the pairs are those of the rows that are there
abbrev pub terms_of : Asked → Terms
terms_of A = record { largest = A.n; more = A.more; allowance = some A.layout.limit }

-- the search by the counted walk within the steps allowed, for so many report numbers and label
-- bytes
unfoldable pub search_of : Asked → ℕ → ℕ → Swept Kept
unfolding walk_search places_in fits
search_of A nums labs = walk_search (terms_of A) (seek A.holds A.n (pl A) A.skip (fits (lent_room nums labs A.measures)))

-- the path on the trail where there are P places, from its first pair to its last, and its labels
abbrev pub path_on : ℕ → List ℕ → ℕ → List ℕ
path_on P trail top = reverse_aux (stack P trail top) []

unfoldable pub labels_on : Layout → List ℕ → ℕ → List ℕ
unfolding labels places_in stack
labels_on T trail top = labels (places_in T.words (P T)) (path_on (P T) trail top)

-- The measures of a query as words of the table: from word `at` on, three words each, its function,
-- its letter or 0 for all rows, and its column.
use Rattle.std.specs.Prelude.{List, ℕ, ◌+◌, ◌*◌, get_or}
use Rattle.rules.specs.Basics.{tabulate}
use Rattle.rules.specs.Query.{Measure}

-- measure number k
unfoldable pub measure_in : List ℕ → ℕ → ℕ → Measure
measure_in T at k = record { function = get_or T (at + k * 3) 0; letter = get_or T (at + k * 3 + 1) 0; column = get_or T (at + k * 3 + 2) 0 }

-- the first `count` measures
unfoldable pub measures_in : List ℕ → ℕ → ℕ → List Measure
unfolding tabulate measure_in
measures_in T at count = tabulate count (measure_in T at)

-- Reports and what they add to the table and the list, by hand. Rows have three columns: a value,
-- the depot and the month.
use mathlib.Core.Path.{◌≡◌, refl}
use mathlib.Core.List.{List, [], ◌∷◌, ◌++◌}
use Prim.Native.Nat.{ℕ}
use lib.IntN.{ℤ, pos, negsuc}
use Rattle.rules.specs.Rows.{Table}
use Rattle.rules.specs.Entries.{Reported}
use Rattle.tally.specs.declared.NamedColumns.{NamedColumns}
use Rattle.tally.specs.Table.{DepotReport, counted, listed}

abbrev named : NamedColumns
named = record { depot = 1; month = 2 }

abbrev row : ℕ → ℤ → ℤ → List ℤ
row value depot month = pos value ∷ depot ∷ month ∷ []

-- depot 3 in May, depot 4 in June, depot 64, month 13, depot -1
abbrev rows : Table
rows = record { columns = 3; n = 5; entries = row 9 (pos 3) (pos 5) ++ (row 9 (pos 4) (pos 6) ++ (row 9 (pos 64) (pos 6) ++ (row 9 (pos 3) (pos 13) ++ row 9 (negsuc 0) (pos 1)))) }

abbrev match : ℕ → List ℕ → Reported
match first labels = record { first = first; labels = labels; measures = [] }

-- two matches of rows 0 and 1, one of row 2, an empty one at row 3, one of row 4
abbrev matches : List Reported
matches = match 0 (65 ∷ 66 ∷ []) ∷ match 0 (65 ∷ 66 ∷ []) ∷ match 2 (65 ∷ []) ∷ match 3 [] ∷ match 4 (65 ∷ []) ∷ []

abbrev report : ℕ → DepotReport
report answer = record { answer = answer; rows = rows; matches = matches }

-- done, stopped, done, refused, out of steps
abbrev reports : List DepotReport
reports = report 0 ∷ report 13 ∷ report 0 ∷ record { answer = 3; rows = rows; matches = [] } ∷ report 16 ∷ []

-- a match counts by its first row, in the done reports alone; row 1 is the first of none
pub first_rows : (counted named 40 reports ≡ 4) × (counted named 53 reports ≡ 0)
unfolding counted
first_rows = (refl, refl)

-- a depot or a month that is not known counts outside, an empty match by its start row
pub outside-rows : counted named 768 reports ≡ 6
unfolding counted
outside-rows = refl

-- the others are listed with their numbers, and those that are done are not
pub listed-numbers : listed 0 reports ≡ 2 ∷ 13 ∷ 4 ∷ 3 ∷ 5 ∷ 16 ∷ []
unfolding listed
listed-numbers = refl

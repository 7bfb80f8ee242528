-- The numbers of the kinds of records (document 01, "Rows and query records", and R-7).
use Rattle.std.specs.Prelude.{ℕ, ◌≤◌, ◌<◌}
use Rattle.records.specs.declared.Kind.{Kind}
use Rattle.records.specs.declared.Kind.TheVariants.{Shape, Text, AllOf, Skip, Measure, Postfix}

-- the number of a kind
abbrev pub number_of : Kind → ℕ
number_of Shape = 1
number_of Text = 2
number_of AllOf = 3
number_of Skip = 4
number_of Measure = 5
number_of Postfix = 6

-- a number that is none of those
abbrev pub Unknown : ℕ → Type 0
Unknown number = 1 ≤ number → 6 < number

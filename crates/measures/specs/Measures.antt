-- What the code of measures and matches works with: the numbers of a measure's functions, document
-- 01's numbers for a measure's value, and when a match's rows can be read and its numbers written.
use Rattle.std.specs.Prelude.{List, [], ◌∷◌, ℕ, ◌+◌, ◌*◌, ◌≤◌, ◌<◌, ℤ, pos, length, get_or}
use Rattle.std.specs.declared.option.Option.{Option}
use Rattle.std.specs.declared.option.Option.TheVariants.{Some, None}
use Rattle.measure_list.specs.Measures.{Measurable}
use Rattle.joins.specs.Entries.{number_of}
use Rattle.measures.specs.declared.Function.{Function}
use Rattle.measures.specs.declared.Function.TheVariants.{Count, Joined, First, Last, Avg}

-- a function's number
abbrev pub number_in : Function → ℕ
number_in Count = 1
number_in (Joined join) = number_of join
number_in First = 5
number_in Last = 6
number_in Avg = 7

-- document 01's numbers for a measure's value: 0 and 0 for null, 1 and the result for a number
abbrev pub numbers_for : Option ℤ → List ℤ
numbers_for None = pos 0 ∷ pos 0 ∷ []
numbers_for (Some v) = pos 1 ∷ v ∷ []

-- ---- what the code may read and write

-- the three words from index `at` on are there, and are bytes
pub record ThreeBytes (T : List ℕ) (at : ℕ) : Type 0 where
  pub inside : at + 3 ≤ length T
  pub byte_0 : get_or T at 0 < 256
  pub byte_1 : get_or T (at + 1) 0 < 256
  pub byte_2 : get_or T (at + 2) 0 < 256

-- the `count` measures from word `words` of the table T on can be read over these rows, and there
-- is room for what they give
pub record Reportable (numbers : List ℤ) (at : ℕ) (T : List ℕ) (words count : ℕ) (rows : List ℤ) (columns first long : ℕ) : Type 0 where
  pub few : long ≤ 4096
  pub there : (first + long) * columns ≤ length rows
  pub room : at + count * 2 ≤ length numbers
  pub measured : Measurable T words count columns

-- match number `number` can be appended: its rows and its measures can be read, and there is room
-- for its numbers
pub record Appendable (numbers : List ℤ) (at number : ℕ) (T : List ℕ) (words count : ℕ) (rows : List ℤ) (columns first long : ℕ) : Type 0 where
  pub few : long ≤ 4096
  pub there : (first + long) * columns ≤ length rows
  pub room : at + (3 + 2 * count) ≤ length numbers
  pub measured : Measurable T words count columns
  pub numbered : number ≤ 4096
  pub placed : first ≤ 4096

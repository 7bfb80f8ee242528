-- Where the parts of the table of a prepared query stand, and how many words it needs.
use Rattle.std.specs.Prelude.{List, ℕ, ◌+◌, ◌*◌, ◌≤◌}
use Rattle.tests.specs.Prepared.{words_for, TestsCountable}

-- Behind the words of N entries and their ways, seven to an entry at the most, stand the measures,
-- and behind these the tests of the letters. A place has an entry for each value of its flags.
abbrev pub measures_at : ℕ → ℕ
measures_at N = 7 * N

abbrev pub tests_at : ℕ → ℕ
tests_at N = 7 * N + 24

-- how many words a query of N entries needs, by its DEFINEs
unfoldable pub needed : List ℕ → List ℕ → ℕ → ℕ → ℕ
needed s defines N letters = tests_at N + 416 + words_for s defines letters

-- how many words are needed can be counted
pub record Sizing (s defines : List ℕ) (N letters : ℕ) : Type 0 where
  pub few : N ≤ 2048
  pub countable : TestsCountable s defines letters

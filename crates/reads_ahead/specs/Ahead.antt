-- Looking ahead (answer 17 of R-11) in the words of a table: by the conditions that the words of
-- letters tell (specs/Tests of the crate table) and the codes of places (specs/Table).
use Rattle.std.specs.Prelude.{◌≡◌, Bool, true, false, not, List, ℕ, ◌+◌, ◌*◌, ◌-◌, ◌≤◌, ◌<◌, ltb, eqb, length, get_or}
use Rattle.rules.specs.Basics.{pick, every}
use Rattle.rules.specs.Rows.{Comparison, comparisons_in}
use Rattle.rules.specs.Lots.{ahead}
use Rattle.table.specs.Table.{code_at, later_at}
use Rattle.table.specs.Tests.{comparison_in, condition_in, Entries}

-- a row has 1 to 8 columns
pub record Columns (columns : ℕ) : Type 0 where
  pub some : 1 ≤ columns
  pub few : columns ≤ 8

-- one of some comparisons reads a row behind its own
unfoldable pub some_ahead : List Comparison → Bool
unfolding every ahead
some_ahead cs = not (every (λ x. not (ahead x)) cs)

-- the entry of kind 6 at word `at` is a comparison that does
unfoldable pub entry_ahead : List ℕ → ℕ → ℕ → Bool
unfolding ahead comparison_in
entry_ahead T columns at = pick (ltb (get_or T at 0) 16) (ahead (comparison_in T columns at)) false

-- the letter whose words begin at word `at` has one that does
unfoldable pub letter_ahead : List ℕ → ℕ → ℕ → Bool
unfolding some_ahead comparisons_in condition_in
letter_ahead T columns at = some_ahead (comparisons_in (condition_in T columns at))

-- place q is a `$` (its code is 27), or a letter (below 26) that has one that does
unfoldable pub place_ahead : List ℕ → ℕ → ℕ → Bool
unfolding letter_ahead
place_ahead T columns q = pick (eqb (code_at T q) 27) true (pick (ltb (code_at T q) 26) (letter_ahead T columns (later_at T q)) false)

-- the words of the letter at word `at` stand in the table, and so does all to which they point
pub record Readable (T : List ℕ) (at columns : ℕ) : Type 0 where
  pub shape : Columns columns
  pub long : at + 16 ≤ length T
  pub more : 1 < get_or T at 0 → get_or T (at + 1) 0 + (get_or T at 0 - 1) * 5 ≤ length T
  pub entries : get_or T (at + 7) 0 ≡ 3 → Entries T at

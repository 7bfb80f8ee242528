-- A letter at a row by its words in the table (specs/Tests of the crate table): whether it holds,
-- and how many comparisons of its kind 3 record are judged.
use Rattle.std.specs.Prelude.{◌≡◌, Bool, true, ◌&&◌, List, [], ℕ, suc, ◌+◌, ◌*◌, ◌-◌, ◌≤◌, ◌<◌, eqb, ℤ, length, get_or}
use Rattle.rules.specs.Basics.{pick}
use Rattle.rules.specs.Rows.{is_yes, latest}
use Rattle.table.specs.Tests.{Entries}
use Rattle.comparisons.specs.Spots.{read_met, first_unmet}
use Rattle.conditions.specs.Results.{read_results}
use Rattle.judging.specs.declared.Judged.{Judged}

-- of m comparisons, where the first that is not met is number k, or k is m
unfoldable pub judged_of : ℕ → ℕ → ℕ
judged_of k m = pick (eqb k m) m (suc k)

unfoldable pub holds_from : List ℕ → List ℤ → ℕ → ℕ → Bool
unfolding is_yes latest read_results read_met first_unmet
holds_from T rows from at =
    pick (eqb (get_or T (at + 7) 0) 3) (is_yes (latest (read_results T rows from (get_or T (at + 2) 0) (get_or T (at + 1) 0) [])))
    (pick (eqb (get_or T at 0) 0) true
    (read_met T rows from (at + 2) && eqb (first_unmet T rows from (get_or T (at + 1) 0) (get_or T at 0 - 1)) (get_or T at 0 - 1)))

unfoldable pub judged_from : List ℕ → List ℤ → ℕ → ℕ → ℕ
unfolding judged_of read_met first_unmet
judged_from T rows from at =
    pick (eqb (get_or T (at + 7) 0) 3) 0
    (pick (eqb (get_or T at 0) 0) 0
    (pick (read_met T rows from (at + 2)) (suc (judged_of (first_unmet T rows from (get_or T (at + 1) 0) (get_or T at 0 - 1)) (get_or T at 0 - 1)))
    1))

-- the words of the letter, and those to which they point, stand in the table
pub record Judgeable (T : List ℕ) (at : ℕ) : Type 0 where
  pub long : at + 16 ≤ length T
  pub more : 1 < get_or T at 0 → get_or T (at + 1) 0 + (get_or T at 0 - 1) * 5 ≤ length T
  pub entries : get_or T (at + 7) 0 ≡ 3 → Entries T at

-- the letter at word `at`, judged
pub record JudgedAs (T : List ℕ) (rows : List ℤ) (from at : ℕ) (r : Judged) : Type 0 where
  pub holds : r.holds ≡ holds_from T rows from at
  pub count : r.count ≡ judged_from T rows from at

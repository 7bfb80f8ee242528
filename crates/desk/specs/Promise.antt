-- What the release desk promises (R-14): the search of one fixed query, whose refusal or stop is
-- handed up, else the verdict of the log in plain words (crates/bus_log); and the lent buffers as
-- that search leaves them.
use Rattle.std.specs.Prelude.{◌≡◌, true, false, List, ◌↔◌, ℕ, ◌<◌, eqb, ℤ}
use Rattle.rules.specs.Basics.{pick}
use Rattle.rules.specs.Query.{text_of}
use Rattle.rules.specs.Language.{Tree, pattern, Written}
use Rattle.rules.specs.Readings.{SomeReading, row_sets}
use Rattle.rules.specs.Answers.{task_of, letter_holds, Buffers, search_of}
use Rattle.bus_log.specs.declared.Verdict.{Verdict}
use Rattle.bus_log.specs.Log.{log_of, unreadable, cleared, handed, verdict_of}
use Rattle.desk_query.specs.Query.{desk_query}

-- what the desk returns for these rows and lent buffers: a search's refusal or stop ranks before
-- every verdict
unfoldable pub desk_of : List ℤ → Buffers → Verdict
unfolding desk_query search_of verdict_of log_of
desk_of rows before =
    pick (eqb (search_of desk_query rows before).result.answer 0) (verdict_of (log_of rows)) (handed (search_of desk_query rows before).result.answer)

pub record Desk (rows : List ℤ) (before after : Buffers) (v : Verdict) : Type 0 where
  pub verdict : v ≡ desk_of rows before
  pub buffers : after ≡ (search_of desk_query rows before).buffers
  -- no bus is cleared whose log is unreadable or does not end in an offer, refusals or none, and an
  -- acceptance of the same base and patch numbers; or whose search was refused or stopped
  pub only_cleared : v.verdict ≡ 1 → (cleared (log_of rows) ≡ true) × (unreadable (log_of rows) ≡ false) × ((search_of desk_query rows before).result.answer ≡ 0)
  -- a log ends so exactly if the query's pattern `O R* C $` has a reading at some row
  pub by_pattern : (p : Tree pattern) → Written p (text_of desk_query)
      → (cleared (log_of rows) ≡ true) ↔ ((i : ℕ) × ((i < (log_of rows).n) × SomeReading (row_sets (log_of rows).n (letter_holds (task_of desk_query rows))) p i))

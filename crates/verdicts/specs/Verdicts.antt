-- The verdict on a log, by the answer and the number of matches of its search: a refusal or stop of
-- the search comes first, then unreadable, then cleared where there is a match, then held.
use Rattle.std.specs.Prelude.{ℕ, eqb}
use Rattle.rules.specs.Basics.{pick}
use Rattle.rules.specs.Rows.{Table}
use Rattle.bus_log.specs.declared.Release.{Release}
use Rattle.bus_log.specs.declared.Release.TheVariants.{Cleared, Held, Unreadable}
use Rattle.bus_log.specs.declared.Verdict.{Verdict}
use Rattle.bus_log.specs.Log.{unreadable, last_refusal, handed, said, held_at}

-- what is said of a log whose search is done
unfoldable pub release_by : Table → ℕ → Release
unfolding unreadable last_refusal
release_by t matches = pick (unreadable t) Unreadable (pick (eqb matches 0) (Held (last_refusal t)) Cleared)

unfoldable pub verdict_by : Table → ℕ → ℕ → Verdict
unfolding unreadable last_refusal
verdict_by t answer matches =
    pick (eqb answer 0) (pick (unreadable t) (said 3) (pick (eqb matches 0) (held_at (last_refusal t)) (said 1))) (handed answer)

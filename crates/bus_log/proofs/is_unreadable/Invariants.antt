-- `is_unreadable`: the events of the rows from i on are known.
use Rattle.bus_log.proofs.Scanning.{Known}
use Rattle.bus_log.proofs.is_unreadable.Given as goal

abbrev pub invariant-loop-i : goal.invariant-loop-i
invariant-loop-i l = Known l.rows l.i

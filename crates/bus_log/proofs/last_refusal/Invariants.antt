-- `last_refusal`: no row from i on is a refusal.
use Rattle.bus_log.proofs.Scanning.{Unrefused}
use Rattle.bus_log.proofs.last_refusal.Given as goal

abbrev pub invariant-loop-i : goal.invariant-loop-i
invariant-loop-i l = Unrefused l.rows l.i

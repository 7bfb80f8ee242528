-- The first planes stand in the table (UnrollLaws).
use Rattle.places.proofs.UnrollLaws.{Filled}
use Rattle.places.proofs.unroll.Given as goal

abbrev pub invariant-loop-flags : goal.invariant-loop-flags
invariant-loop-flags l = Filled l.room l.top l.places l.factor l.initial.table l.table l.way l.flags

-- One measure's letter more is known, or is not.
use Rattle.reading.proofs.Laws.{known_none, known_more}
use Rattle.reading.proofs.has_foreign.Goals as goal

pub loop-k-init : goal.loop-k-init
loop-k-init c = known_none _ _ _ _ _ c.is_known-known.ensures

pub loop-k-preserved : goal.loop-k-preserved
loop-k-preserved c = known_more _ _ _ _ _ _ _ _ c.loop-k.invariant c.loop-k-test.true c.measure_at-m.ensures c.is_known-known-in-loop-k.ensures

-- `is_unreadable` meets its contract by the laws of Scanning.
use Rattle.std.proofs.Common.{arith}
use Rattle.bus_log.proofs.Scanning.{known_start, known_more, known-not, all_known}
use Rattle.bus_log.proofs.is_unreadable.Goals as goal

pub loop-i-init : goal.loop-i-init
loop-i-init c = known_start _

pub returns-then-is_none : goal.returns-then-is_none
returns-then-is_none c = known-not _ _ (omega arith) _ c.loop-i.invariant c.event_at.ensures c.if-is_none.ensures

pub loop-i-preserved : goal.loop-i-preserved
loop-i-preserved c = known_more _ _ (omega arith) _ c.loop-i.invariant c.event_at.ensures c.if-is_none.ensures

pub returns : goal.returns
returns c = all_known _ _ c.loop-i.invariant (omega arith)

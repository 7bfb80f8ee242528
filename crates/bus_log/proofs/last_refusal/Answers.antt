-- `last_refusal` meets its contract by the laws of Scanning.
use Rattle.std.proofs.Common.{arith, rules}
use Rattle.bus_log.proofs.Scanning.{unrefused_start, unrefused_more, refused-here, none-refused}
use Rattle.bus_log.proofs.last_refusal.Goals as goal

pub loop-i-init : goal.loop-i-init
loop-i-init c = unrefused_start _

pub returns-then-refused_at : goal.returns-then-refused_at
returns-then-refused_at c = search (rules, refused-here)

pub loop-i-preserved : goal.loop-i-preserved
loop-i-preserved c = search (rules, unrefused_more)

pub returns : goal.returns
returns c = none-refused _ _ c.loop-i.invariant (omega arith)

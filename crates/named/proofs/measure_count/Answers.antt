-- `named::measure_count` meets its contract by the laws of Shapes.
use Rattle.std.proofs.Common.{rules, sym}
use Rattle.named.proofs.Shapes.{counting_more, counting_other, counting_cut, counting_all}
use Rattle.named.proofs.measure_count.Goals as goal

pub loop-at-preserved-then-is_measure : goal.loop-at-preserved-then-is_measure
loop-at-preserved-then-is_measure c = counting_more _ _ _ c.loop-at.invariant _ c.in-Record.ensures (sym c.if-is_measure.ensures)

pub loop-at-preserved : goal.loop-at-preserved
loop-at-preserved c = counting_other _ _ _ c.loop-at.invariant _ c.in-Record.ensures (sym c.if-is_measure.ensures)

pub returns-after-loop-at : goal.returns-after-loop-at
returns-after-loop-at c = counting_all _ _ _ c.loop-at.invariant (search rules)

pub returns-in_default : goal.returns-in_default
returns-in_default c = counting_cut _ _ _ c.loop-at.invariant c.in_default.ensures

-- `named::measure_count` meets its contract by the laws of Shapes. The bytes left fall.
use Rattle.std.proofs.Common.{◌-◌, length}
use Rattle.named.proofs.Shapes.{Counting}
use Rattle.named.proofs.measure_count.Given as goal

abbrev pub invariant-loop-at : goal.invariant-loop-at
invariant-loop-at l = Counting l.query l.at l.count

abbrev pub decreases-loop-at : goal.decreases-loop-at
decreases-loop-at l = length l.query - l.at

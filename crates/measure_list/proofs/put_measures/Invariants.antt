-- `measure_list::put_measures` meets its contract by the laws of Counting and Reading. The
-- invariant is `Counting`, of the measures written and of those to come; the bytes left fall.
use Rattle.std.proofs.Common.{◌-◌, length}
use Rattle.measure_list.proofs.Counting.{Counting}
use Rattle.measure_list.proofs.put_measures.Given as goal

abbrev pub invariant-loop-at : goal.invariant-loop-at
invariant-loop-at l = Counting l.s l.from l.initial.measures l.measures l.at l.count

abbrev pub decreases-loop-at : goal.decreases-loop-at
decreases-loop-at l = length l.s - l.at

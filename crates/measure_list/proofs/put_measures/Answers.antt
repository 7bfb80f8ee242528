-- `measure_list::put_measures` meets its contract by the laws of Counting and Reading.
use Rattle.std.proofs.Common.{rules}
use Rattle.records.proofs.Reading.{fewer}
use Rattle.measure_list.proofs.Counting.{counting_none, counting_bytes, counting_room, counting_more, counting_cut, counting_all}
use Rattle.measure_list.proofs.put_measures.Goals as goal

pub loop-at-init : goal.loop-at-init
loop-at-init c = search (rules, counting_none)

pub measure_of-requires : goal.measure_of-requires
measure_of-requires c = counting_bytes _ _ _ _ _ _ c.loop-at.invariant _ c.in-Record.ensures

pub put_measure-requires : goal.put_measure-requires
put_measure-requires c = counting_room _ _ _ _ _ _ c.loop-at.invariant _ c.in-Record.ensures

pub loop-at-smaller : goal.loop-at-smaller
loop-at-smaller c = search (rules, fewer)

pub loop-at-preserved : goal.loop-at-preserved
loop-at-preserved c = counting_more _ _ _ _ _ _ c.loop-at.invariant _ c.in-Record.ensures _ c.measure_of.ensures _ c.put_measure.ensures

pub returns-after-loop-at : goal.returns-after-loop-at
returns-after-loop-at c = search (rules, counting_all)

pub returns-in_default : goal.returns-in_default
returns-in_default c = counting_cut _ _ _ _ _ _ c.loop-at.invariant c.in_default.ensures

-- `define_list::put_defines` meets its contract by the laws of Defines and Reading. The invariant is
-- `Lettering`, of each letter's entry, of what was told of two and of the largest letter; the bytes
-- left fall.
use Rattle.std.proofs.Common.{◌-◌, length}
use Rattle.define_list.proofs.Defines.{Lettering}
use Rattle.define_list.proofs.put_defines.Given as goal

abbrev pub invariant-loop-at : goal.invariant-loop-at
invariant-loop-at l = Lettering l.s l.from l.defines l.at l.twice l.letters

abbrev pub decreases-loop-at : goal.decreases-loop-at
decreases-loop-at l = length l.s - l.at

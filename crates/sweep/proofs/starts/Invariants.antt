-- `sweep::starts` meets its contract by the laws of Going. The invariant and the measure of its loop
-- come first.
use Rattle.sweep.proofs.Going.{Going}
use Prim.Native.Nat.{◌-◌}
use Rattle.sweep.proofs.starts.Given as goal

abbrev pub invariant-loop-i : goal.invariant-loop-i
invariant-loop-i l = Going l.table l.rows l.task l.initial.notes l.initial.trail l.initial.numbers l.initial.labels l.initial.i l.notes l.trail l.numbers l.labels l.i

abbrev pub decreases-loop-i : goal.decreases-loop-i
decreases-loop-i l = l.task.size.rows - l.i.row

-- `walk::retreat` meets its contract by the laws of Whole. The invariant and the measure of its
-- loop come first.
use Rattle.walk.proofs.Whole.{Retreating, behind, off_none, off_down, off_end, off_halts, off_more, off_less}
use Rattle.pairs.specs.State.{Idling}
use Rattle.pairs.specs.Layout.{layout_of}
use Rattle.walk.proofs.retreat.Given as goal

abbrev pub invariant-loop-w : goal.invariant-loop-w
invariant-loop-w l = (h : Idling (layout_of l.table l.size) l.size.rows l.initial.notes l.initial.trail l.initial.w) → Retreating h.halting (layout_of l.table l.size) h.holds l.size.rows l.initial.notes l.initial.trail l.initial.w l.notes l.trail l.w

abbrev pub decreases-loop-w : goal.decreases-loop-w
decreases-loop-w l = behind (layout_of l.table l.size) l.size.rows l.notes l.trail l.w

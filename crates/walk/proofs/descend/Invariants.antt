-- `walk::descend` meets its contract by the laws of Whole. The invariant and the measure of its
-- loop come first.
use borrow.Author.Rules.{rules}
use Rattle.rules.specs.Walk.{Halting}
use Rattle.pairs.proofs.Trying.{halts-fair}
use Rattle.walk.proofs.Whole.{Descending, on_none, on-end, on-halt, on-enters, on-more, on-less}
use Rattle.pairs.specs.State.{Fair, left}
use Rattle.pairs.specs.Layout.{layout_of, letters_of, halts_in, N}
use Rattle.walk.proofs.descend.Given as goal

abbrev pub invariant-loop-w : goal.invariant-loop-w
invariant-loop-w l = (H : Halting) → Fair H (layout_of l.table l.size) l.size.more l.size.rows → Descending H (layout_of l.table l.size) (letters_of l.table l.rows l.size) l.size.rows l.initial.notes l.initial.trail l.initial.w l.notes l.trail l.w

abbrev pub decreases-loop-w : goal.decreases-loop-w
decreases-loop-w l = left (N (layout_of l.table l.size) l.size.rows) l.notes l.w

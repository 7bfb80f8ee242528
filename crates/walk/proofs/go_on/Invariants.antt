use Rattle.rules.specs.Walk.{Halting}
use borrow.Author.Rules.{rules}
use Rattle.pairs.proofs.Trying.{halts-fair, fair_quiet}
use Rattle.walk.proofs.Whole.{Running, run_none, run-goes, run_end, run-stop, run_idling, run_more, run-less}
use Rattle.pairs.specs.State.{Fair, left}
use Rattle.pairs.specs.Layout.{layout_of, letters_of, halts_in, N}
use Rattle.walk.proofs.go_on.Reads as reads
use Rattle.walk.proofs.go_on.Lts as lts
use Rattle.walk.proofs.descend.Reads as descend-reads
use Rattle.walk.proofs.retreat.Reads as retreat-reads
use Rattle.walk.proofs.go_on.Given as goal

abbrev pub invariant-loop-w : goal.invariant-loop-w
invariant-loop-w l = (H : Halting) → Fair H (layout_of l.table l.size) l.size.more l.size.rows → Running H (layout_of l.table l.size) (letters_of l.table l.rows l.size) l.size.rows l.initial.notes l.initial.trail l.initial.w l.notes l.trail l.w

abbrev pub decreases-loop-w : goal.decreases-loop-w
decreases-loop-w l = left (N (layout_of l.table l.size) l.size.rows) l.notes l.w

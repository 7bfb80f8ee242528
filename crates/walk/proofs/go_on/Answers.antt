use Rattle.rules.specs.Walk.{Halting}
use borrow.Author.Rules.{rules}
use Rattle.pairs.proofs.Trying.{halts-fair, fair_quiet}
use Rattle.walk.proofs.Whole.{Running, run_none, run-goes, run_end, run-stop, run_idling, run_more, run-less}
use Rattle.pairs.specs.State.{Fair, left}
use Rattle.pairs.specs.Layout.{layout_of, letters_of, halts_in, N}
use Rattle.walk.proofs.go_on.Reads as reads
use Rattle.walk.proofs.go_on.Lts as lts
use Rattle.walk.proofs.descend.Reads as descend-reads
use Rattle.walk.proofs.retreat.Reads as retreat-reads
use Rattle.walk.proofs.go_on.Goals as goal

-- src/lib.rt:138:5
pub loop-w-init : goal.loop-w-init
loop-w-init c = λ H f. run_none _ _ _ _ _ _ _ c.requires.1

-- src/lib.rt:139:9
pub descend-w-requires : goal.descend-w-requires
descend-w-requires c = (c.requires.0, run-goes _ _ _ _ (fair_quiet _ _ _ _ _ (halts-fair _ (c.requires.1.state.good.legal.sized) _ _)) _ _ _ _ _ _ (c.loop-w.invariant _ (halts-fair _ (c.requires.1.state.good.legal.sized) _ _)) c.loop-w-test.true)

-- src/lib.rt:141:13
pub shape_of-notes-then-w-ne-BACK : goal.shape_of-notes-then-w-ne-BACK
shape_of-notes-then-w-ne-BACK c = (run-stop _ _ _ _ (fair_quiet _ _ _ _ _ (halts-fair _ (c.requires.1.state.good.legal.sized) _ _)) _ _ _ _ _ _ (c.loop-w.invariant _ (halts-fair _ (c.requires.1.state.good.legal.sized) _ _)) _ _ _ (c.descend-w.ensures _ (halts-fair _ (c.requires.1.state.good.legal.sized) _ _)) c.if-w-ne-BACK.true).reached.notes_long

-- src/lib.rt:141:13
pub shape_of-trail-then-w-ne-BACK : goal.shape_of-trail-then-w-ne-BACK
shape_of-trail-then-w-ne-BACK c = (run-stop _ _ _ _ (fair_quiet _ _ _ _ _ (halts-fair _ (c.requires.1.state.good.legal.sized) _ _)) _ _ _ _ _ _ (c.loop-w.invariant _ (halts-fair _ (c.requires.1.state.good.legal.sized) _ _)) _ _ _ (c.descend-w.ensures _ (halts-fair _ (c.requires.1.state.good.legal.sized) _ _)) c.if-w-ne-BACK.true).reached.trail_long

-- src/lib.rt:141:13
pub returns-then-w-ne-BACK : goal.returns-then-w-ne-BACK
returns-then-w-ne-BACK c = λ H f. run-stop _ _ _ _ (fair_quiet _ _ _ _ _ f) _ _ _ _ _ _ (c.loop-w.invariant H f) _ _ _ (c.descend-w.ensures H f) c.if-w-ne-BACK.true

-- src/lib.rt:143:9
pub retreat-w-requires : goal.retreat-w-requires
retreat-w-requires c = run_idling _ _ _ _ (fair_quiet _ _ _ _ _ (halts-fair _ (c.requires.1.state.good.legal.sized) _ _)) _ _ _ _ _ _ (c.loop-w.invariant _ (halts-fair _ (c.requires.1.state.good.legal.sized) _ _)) _ _ _ (c.descend-w.ensures _ (halts-fair _ (c.requires.1.state.good.legal.sized) _ _)) c.if-w-ne-BACK.false

-- src/lib.rt:138:5
pub loop-w-smaller : goal.loop-w-smaller
loop-w-smaller c = run-less _ _ _ _ (fair_quiet _ _ _ _ _ (halts-fair _ (c.requires.1.state.good.legal.sized) _ _)) _ _ _ _ _ _ (c.loop-w.invariant _ (halts-fair _ (c.requires.1.state.good.legal.sized) _ _)) _ _ _ (c.descend-w.ensures _ (halts-fair _ (c.requires.1.state.good.legal.sized) _ _)) c.if-w-ne-BACK.false _ _ _ c.retreat-w.ensures

-- src/lib.rt:138:5
pub loop-w-preserved : goal.loop-w-preserved
loop-w-preserved c = λ H f. run_more _ _ _ _ (fair_quiet _ _ _ _ _ f) _ _ _ _ _ _ (c.loop-w.invariant H f) _ _ _ (c.descend-w.ensures H f) c.if-w-ne-BACK.false _ _ _ c.retreat-w.ensures

-- src/lib.rt:125:1
pub shape_of-notes : goal.shape_of-notes
shape_of-notes c = (c.loop-w.invariant _ (halts-fair _ (c.requires.1.state.good.legal.sized) _ _)).reached.notes_long

-- src/lib.rt:125:1
pub shape_of-trail : goal.shape_of-trail
shape_of-trail c = (c.loop-w.invariant _ (halts-fair _ (c.requires.1.state.good.legal.sized) _ _)).reached.trail_long

-- src/lib.rt:125:1
pub returns : goal.returns
returns c = λ H f. run_end _ _ _ _ (fair_quiet _ _ _ _ _ f) _ _ _ _ _ _ (c.loop-w.invariant H f) c.loop-w-test.false

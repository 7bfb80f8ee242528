-- `walk::descend` meets its contract by the laws of Whole. The invariant and the measure of its
-- loop come first.
use borrow.Author.Rules.{rules}
use Rattle.rules.specs.Walk.{Halting}
use Rattle.pairs.proofs.Trying.{halts-fair}
use Rattle.walk.proofs.Whole.{Descending, on_none, on-end, on-halt, on-enters, on-more, on-less}
use Rattle.pairs.specs.State.{Fair, left}
use Rattle.pairs.specs.Layout.{layout_of, letters_of, halts_in, N}
use Rattle.walk.proofs.descend.Goals as goal

pub loop-w-init : goal.loop-w-init
loop-w-init c = λ H f. on_none _ _ _ _ _ _ _ c.requires.1

pub enter-w-requires : goal.enter-w-requires
enter-w-requires c = (c.requires.0, on-enters _ _ _ _ _ (halts-fair _ (c.requires.1.state.good.legal.sized) _ _) _ _ _ _ _ _ (c.loop-w.invariant _ (halts-fair _ (c.requires.1.state.good.legal.sized) _ _)) c.loop-w-test.true)

pub shape_of-notes-then-w-ne-ENTER : goal.shape_of-notes-then-w-ne-ENTER
shape_of-notes-then-w-ne-ENTER c = (on-end _ _ _ _ _ (halts-fair _ (c.requires.1.state.good.legal.sized) _ _) _ _ _ _ _ _ (c.loop-w.invariant _ (halts-fair _ (c.requires.1.state.good.legal.sized) _ _)) c.loop-w-test.true _ _ _ c.enter-w.ensures c.if-w-ne-ENTER.true).reached.notes_long

pub shape_of-trail-then-w-ne-ENTER : goal.shape_of-trail-then-w-ne-ENTER
shape_of-trail-then-w-ne-ENTER c = (on-end _ _ _ _ _ (halts-fair _ (c.requires.1.state.good.legal.sized) _ _) _ _ _ _ _ _ (c.loop-w.invariant _ (halts-fair _ (c.requires.1.state.good.legal.sized) _ _)) c.loop-w-test.true _ _ _ c.enter-w.ensures c.if-w-ne-ENTER.true).reached.trail_long

pub returns-then-w-ne-ENTER : goal.returns-then-w-ne-ENTER
returns-then-w-ne-ENTER c = λ H f. on-end _ _ _ _ _ f _ _ _ _ _ _ (c.loop-w.invariant H f) c.loop-w-test.true _ _ _ c.enter-w.ensures c.if-w-ne-ENTER.true

pub loop-w-smaller : goal.loop-w-smaller
loop-w-smaller c = on-less _ _ _ _ _ (halts-fair _ (c.requires.1.state.good.legal.sized) _ _) _ _ _ _ _ _ (c.loop-w.invariant _ (halts-fair _ (c.requires.1.state.good.legal.sized) _ _)) c.loop-w-test.true _ _ _ c.enter-w.ensures c.if-w-ne-ENTER.false

pub loop-w-preserved : goal.loop-w-preserved
loop-w-preserved c = λ H f. on-more _ _ _ _ _ f _ _ _ _ _ _ (c.loop-w.invariant H f) c.loop-w-test.true _ _ _ c.enter-w.ensures c.if-w-ne-ENTER.false

pub shape_of-notes : goal.shape_of-notes
shape_of-notes c = (c.loop-w.invariant _ (halts-fair _ (c.requires.1.state.good.legal.sized) _ _)).reached.notes_long

pub shape_of-trail : goal.shape_of-trail
shape_of-trail c = (c.loop-w.invariant _ (halts-fair _ (c.requires.1.state.good.legal.sized) _ _)).reached.trail_long

pub returns : goal.returns
returns c = λ H f. on-halt _ _ _ _ _ f _ _ _ _ _ _ (c.loop-w.invariant H f) c.loop-w-test.false

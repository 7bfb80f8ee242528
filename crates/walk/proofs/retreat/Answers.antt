-- `walk::retreat` meets its contract by the laws of Whole. The invariant and the measure of its
-- loop come first.
use Rattle.walk.proofs.Whole.{Retreating, behind, off_none, off_down, off_end, off_halts, off_more, off_less}
use Rattle.pairs.specs.State.{Idling}
use Rattle.pairs.specs.Layout.{layout_of}
use Rattle.walk.proofs.retreat.Goals as goal

pub loop-w-init : goal.loop-w-init
loop-w-init c = λ h. off_none _ _ _ _ _ _ _ h.idle

pub shape_of-notes-then-w-eq-ENTER : goal.shape_of-notes-then-w-eq-ENTER
shape_of-notes-then-w-eq-ENTER c = (c.loop-w.invariant c.requires).reached.notes_long

pub shape_of-trail-then-w-eq-ENTER : goal.shape_of-trail-then-w-eq-ENTER
shape_of-trail-then-w-eq-ENTER c = (c.loop-w.invariant c.requires).reached.trail_long

pub returns-then-w-eq-ENTER : goal.returns-then-w-eq-ENTER
returns-then-w-eq-ENTER c = λ h. off_down _ _ _ _ h.quiet _ _ _ _ _ _ (c.loop-w.invariant h) c.if-w-eq-ENTER.true

pub back-w-requires : goal.back-w-requires
back-w-requires c = record { halting = c.requires.halting; quiet = c.requires.quiet; holds = c.requires.holds; backs = off_halts _ _ _ _ c.requires.quiet _ _ _ _ _ _ (c.loop-w.invariant c.requires) c.loop-w-test.true c.if-w-eq-ENTER.false }

pub loop-w-smaller : goal.loop-w-smaller
loop-w-smaller c = off_less _ _ _ _ c.requires.quiet _ _ _ _ _ _ (c.loop-w.invariant c.requires) _ _ _ (c.back-w.ensures (record { halting = c.requires.halting; quiet = c.requires.quiet; holds = c.requires.holds; backs = off_halts _ _ _ _ c.requires.quiet _ _ _ _ _ _ (c.loop-w.invariant c.requires) c.loop-w-test.true c.if-w-eq-ENTER.false }))

pub loop-w-preserved : goal.loop-w-preserved
loop-w-preserved c = λ h. off_more _ _ _ _ h.quiet _ _ _ _ _ _ (c.loop-w.invariant h) _ _ _ (c.back-w.ensures (record { halting = h.halting; quiet = h.quiet; holds = h.holds; backs = off_halts _ _ _ _ h.quiet _ _ _ _ _ _ (c.loop-w.invariant h) c.loop-w-test.true c.if-w-eq-ENTER.false }))

pub shape_of-notes : goal.shape_of-notes
shape_of-notes c = (c.loop-w.invariant c.requires).reached.notes_long

pub shape_of-trail : goal.shape_of-trail
shape_of-trail c = (c.loop-w.invariant c.requires).reached.trail_long

pub returns : goal.returns
returns c = λ h. off_end _ _ _ _ h.quiet _ _ _ _ _ _ (c.loop-w.invariant h) c.loop-w-test.false

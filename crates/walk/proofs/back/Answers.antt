-- `walk::back` meets its contract by the laws of Backing.
use mathlib.Core.Path.{ap}
use mathlib.Core.Bool.{not}
use native.Mathlib.Omega.{arith}
use mathlib.Core.Logic.{inl, inr}
use Rattle.pairs.proofs.Small.{is_one, is_zero, open_of}
use Rattle.walk.proofs.Backing.{back_at, back_base, back_pair, back_marks, back_none, back_words, back_later, back_noted, back_stop, back_put, back_tried, back_last}
use borrow.Author.Rules.{rules}
use Rattle.walk.proofs.back.Goals as goal

pub overflow_sub-at : goal.overflow_sub-at
overflow_sub-at c = omega arith

pub open_at-e-requires : goal.open_at-e-requires
open_at-e-requires c = back_at c.requires.halting _ _ _ c.requires.quiet _ _ _ c.requires.backs

pub overflow_mul-base : goal.overflow_mul-base
overflow_mul-base c = omega (arith, back_base c.requires.halting _ _ _ c.requires.quiet _ _ _ c.requires.backs _ c.open_at-e.ensures _ c.place_of-place.ensures _ c.row_of-row.ensures)

pub later_way-q-requires : goal.later_way-q-requires
later_way-q-requires c = back_later c.requires.halting _ _ _ c.requires.quiet _ _ _ c.requires.backs _ c.open_at-e.ensures _ c.place_of-place.ensures _ c.row_of-row.ensures _ c.way_of-j.ensures c.if-j-gt0.true

pub count_at-requires : goal.count_at-requires
count_at-requires c = back_words c.requires.halting _ _ _ c.requires.quiet _ _ _ c.requires.backs _ c.open_at-e.ensures _ c.place_of-place.ensures _ c.row_of-row.ensures _ c.way_of-j.ensures c.if-j-gt0.true

pub way_after-k-requires : goal.way_after-k-requires
way_after-k-requires c = back_stop c.requires.halting _ _ _ c.requires.quiet _ _ _ c.requires.backs _ c.open_at-e.ensures _ c.place_of-place.ensures _ c.row_of-row.ensures _ c.way_of-j.ensures c.if-j-gt0.true _ c.later_way-q.ensures _ c.count_at.ensures

pub overflow_add-base : goal.overflow_add-base
overflow_add-base c = omega (arith, (back_noted c.requires.halting _ _ _ c.requires.quiet _ _ _ c.requires.backs _ c.open_at-e.ensures _ c.place_of-place.ensures _ c.row_of-row.ensures _ c.way_of-j.ensures c.if-j-gt0.true _ c.later_way-q.ensures).0)

pub failed-requires : goal.failed-requires
failed-requires c = (back_noted c.requires.halting _ _ _ c.requires.quiet _ _ _ c.requires.backs _ c.open_at-e.ensures _ c.place_of-place.ensures _ c.row_of-row.ensures _ c.way_of-j.ensures c.if-j-gt0.true _ c.later_way-q.ensures).1

pub put_way-requires : goal.put_way-requires
put_way-requires c = back_put c.requires.halting _ _ _ c.requires.quiet _ _ _ c.requires.backs _ c.way_after-k.ensures.1

pub shape_of-notes-then-not-failed : goal.shape_of-notes-then-not-failed
shape_of-notes-then-not-failed c = omega arith

pub shape_of-trail-then-not-failed : goal.shape_of-trail-then-not-failed
shape_of-trail-then-not-failed c = omega arith

pub returns-then-not-failed : goal.returns-then-not-failed
returns-then-not-failed c = λ h. back_tried h.halting _ _ _ h.quiet _ _ _ h.backs _ c.open_at-e.ensures _ c.place_of-place.ensures _ c.row_of-row.ensures _ c.way_of-j.ensures c.if-j-gt0.true _ c.later_way-q.ensures _ c.count_at.ensures _ c.way_after-k.ensures _ c.failed.ensures _ c.put_way.ensures _ (is_one _ (ap not c.if-not-failed.true))

pub put_way-requires-then-k-gt0 : goal.put_way-requires-then-k-gt0
put_way-requires-then-k-gt0 c = back_put c.requires.halting _ _ _ c.requires.quiet _ _ _ c.requires.backs _ c.way_after-k.ensures.1

pub shape_of-notes-then-k-gt0 : goal.shape_of-notes-then-k-gt0
shape_of-notes-then-k-gt0 c = omega arith

pub shape_of-trail-then-k-gt0 : goal.shape_of-trail-then-k-gt0
shape_of-trail-then-k-gt0 c = omega arith

pub returns-then-k-gt0 : goal.returns-then-k-gt0
returns-then-k-gt0 c = λ h. back_tried h.halting _ _ _ h.quiet _ _ _ h.backs _ c.open_at-e.ensures _ c.place_of-place.ensures _ c.row_of-row.ensures _ c.way_of-j.ensures c.if-j-gt0.true _ c.later_way-q.ensures _ c.count_at.ensures _ c.way_after-k.ensures _ c.failed.ensures _ c.put_way-then-k-gt0.ensures _ (is_zero _ (ap not c.if-not-failed.false))

pub overflow_add-base-2 : goal.overflow_add-base-2
overflow_add-base-2 c = omega (arith, back_pair c.requires.halting _ _ _ c.requires.quiet _ _ _ c.requires.backs _ c.open_at-e.ensures _ c.place_of-place.ensures _ c.row_of-row.ensures)

pub mark-requires : goal.mark-requires
mark-requires c = back_marks c.requires.halting _ _ _ c.requires.quiet _ _ _ c.requires.backs _ c.open_at-e.ensures _ c.place_of-place.ensures _ c.row_of-row.ensures

pub shape_of-notes : goal.shape_of-notes
shape_of-notes c = omega arith

pub shape_of-trail : goal.shape_of-trail
shape_of-trail c = omega arith

pub returns : goal.returns
returns c = λ h. elim c.if-j-gt0.branch [ goal.then-j-gt0+else-not-failed+else-k-gt0 t ↦ back_last h.halting _ _ _ h.quiet _ _ _ h.backs _ c.open_at-e.ensures _ c.place_of-place.ensures _ c.row_of-row.ensures _ c.way_of-j.ensures t.if-j-gt0.true _ t.later_way-q.ensures _ t.count_at.ensures _ t.way_after-k.ensures _ t.failed.ensures t.if-not-failed.false t.if-k-gt0.false _ c.mark.ensures | goal.else-j-gt0 f ↦ back_none h.halting _ _ _ h.quiet _ _ _ h.backs _ c.open_at-e.ensures _ c.place_of-place.ensures _ c.row_of-row.ensures _ c.way_of-j.ensures f.if-j-gt0.false _ c.mark.ensures ]

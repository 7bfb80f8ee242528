-- `query::first_answer` meets its contract by the laws of Order and Reading.
use Rattle.std.proofs.Common.{rules, ◌≡◌, ◌&&◌, ap}
use Rattle.rules.specs.Query.{record_fits}
use Rattle.records.specs.Read.{record_of}
use Rattle.records.proofs.Reading.{fewer, body-inside}
use Rattle.query.specs.Order.{place}
use Rattle.query.proofs.Order.{judged_none, judged_more, judged_cut, judged_2, judged_3, judged_0, not_measures}
use Rattle.query.proofs.first_answer.Goals as goal
use Rattle.query.proofs.first_answer.Goals.{then-fit, else-fit}

pub loop-at-init : goal.loop-at-init
loop-at-init c = judged_none _

pub returns-in_default : goal.returns-in_default
returns-in_default c = judged_cut _ _ _ _ _ c.loop-at.invariant (search rules) c.in_default.ensures

pub record_fits-fit-requires : goal.record_fits-fit-requires
record_fits-fit-requires c = search (rules, body-inside)

pub loop-at-smaller : goal.loop-at-smaller
loop-at-smaller c = search (rules, fewer)

pub loop-at-preserved : goal.loop-at-preserved
loop-at-preserved c =
    let fit : c.if-fit.fit ≡ (c.loop-at.fit && record_fits c.args.s.now c.columns_by-columns.result (record_of c.in-Record.record.kind c.in-Record.record.start c.in-Record.record.len)) =
    elim c.if-fit.branch [ then-fit w ↦ search rules | else-fit w ↦ search rules ] in
    judged_more _ _ _ _ _ c.loop-at.invariant _ c.in-Record.ensures _ _ _ c.columns_by-columns.ensures fit c.after-stage.ensures

pub returns-in-Measures : goal.returns-in-Measures
returns-in-Measures c = judged_0 _ _ _ _ _ c.loop-at.invariant (search rules) (ap place c.in-Measures.is) c.if-fit-2.true

pub returns-in-Measures-2 : goal.returns-in-Measures-2
returns-in-Measures-2 c = judged_3 _ _ _ _ _ c.loop-at.invariant (search rules) (ap place c.in-Measures.is) c.if-fit-2.false

pub returns-in_default-stage : goal.returns-in_default-stage
returns-in_default-stage c = judged_2 _ _ _ _ _ c.loop-at.invariant (search rules) (not_measures _ c.in_default-stage.not-Measures)

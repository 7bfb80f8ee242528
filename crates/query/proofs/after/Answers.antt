-- `query::after` meets its contract by the laws of Order.
use Rattle.std.proofs.Common.{sym, ap, ◌∙◌, arith}
use Rattle.records.specs.declared.Kind.TheVariants.{Shape, Text, Skip, Measure}
use Rattle.records.specs.Kinds.{number_of}
use Rattle.records.proofs.Numbers.{number_only}
use Rattle.query.proofs.Order.{shape_yes, shape_no, text_yes, text_no, skip_yes, defines_more, defines_other, defines_full, measures_more, measures_other, measures_full, unknown_out, out_stays}
use Rattle.query.proofs.after.Goals as goal

pub returns-in_default : goal.returns-in_default
returns-in_default c = unknown_out _ c.in_default.ensures _

pub returns-in-Shape-Shape : goal.returns-in-Shape-Shape
returns-in-Shape-Shape c = rw c.in-Shape-Shape.is-0 (shape_yes _ (c.in-Some.ensures ∙ ap number_of c.in-Shape-Shape.is-1))

pub returns-in-Text-Text : goal.returns-in-Text-Text
returns-in-Text-Text c = rw c.in-Text-Text.is-0 (text_yes _ (c.in-Some.ensures ∙ ap number_of c.in-Text-Text.is-1))

pub returns-in-Defines-Skip : goal.returns-in-Defines-Skip
returns-in-Defines-Skip c = rw c.in-Defines-Skip.is-0 (skip_yes _ _ (c.in-Some.ensures ∙ ap number_of c.in-Defines-Skip.is-1))

pub returns-in-Defines-default : goal.returns-in-Defines-default
returns-in-Defines-default c = rw c.in-Defines-default.is-0 (defines_more _ _ (sym c.is_define.ensures ∙ c.if-is_define.true) (omega arith))

pub returns-in-Measures-Measure : goal.returns-in-Measures-Measure
returns-in-Measures-Measure c = rw c.in-Measures-Measure.is-0 (measures_more _ _ (c.in-Some.ensures ∙ ap number_of c.in-Measures-Measure.is-1) (omega arith))

pub returns-in_default-2 : goal.returns-in_default-2
returns-in_default-2 c = rw c.in_default-2.is-0 (shape_no _ (λ q. c.in_default-2.not-Shape-1 (number_only _ Shape (sym c.in-Some.ensures ∙ q))))

pub returns-in_default-2-2 : goal.returns-in_default-2-2
returns-in_default-2-2 c = rw c.in_default-2.is-0 (text_no _ (λ q. c.in_default-2.not-Text-1 (number_only _ Text (sym c.in-Some.ensures ∙ q))))

pub returns-in_default-2-3 : goal.returns-in_default-2-3
returns-in_default-2-3 c =
    rw c.in-Defines-default.is-0 (defines_other _ _ (sym c.is_define.ensures ∙ c.if-is_define.false) (λ q. c.in_default-2.not-Skip-1 (number_only _ Skip (sym c.in-Some.ensures ∙ q))))

pub returns-in_default-2-4 : goal.returns-in_default-2-4
returns-in_default-2-4 c =
    rw c.in-Defines-default.is-0 (defines_full _ _ (omega arith) (λ q. c.in_default-2.not-Skip-1 (number_only _ Skip (sym c.in-Some.ensures ∙ q))))

pub returns-in_default-2-5 : goal.returns-in_default-2-5
returns-in_default-2-5 c = rw c.in-Measures-Measure.is-0 (measures_full _ _ (omega arith))

pub returns-in_default-2-6 : goal.returns-in_default-2-6
returns-in_default-2-6 c = rw c.in_default-2.is-0 (measures_other _ _ (λ q. c.in_default-2.not-Measure-1 (number_only _ Measure (sym c.in-Some.ensures ∙ q))))

pub returns-in_default-2-7 : goal.returns-in_default-2-7
returns-in_default-2-7 c = rw c.in_default-2.is-0 (out_stays _)

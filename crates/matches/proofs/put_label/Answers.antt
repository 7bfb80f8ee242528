-- `matches::put_label` meets its contract by the laws of Labelled.
use native.Mathlib.Omega.{arith}
use mathlib.Core.Path.{refl}
use Rattle.matches.proofs.Labelled.{puts_some, put_letter, put_other}
use Rattle.matches.proofs.put_label.Goals as goal

pub overflow_sub-labels : goal.overflow_sub-labels
overflow_sub-labels c = omega (arith, (puts_some _ _ _ _ c.requires _ c.code_at-c.ensures c.if-c-lt-LETTERS.true).0)

pub bounds-labels-e : goal.bounds-labels-e
bounds-labels-e c = omega (arith, puts_some _ _ _ _ c.requires _ c.code_at-c.ensures c.if-c-lt-LETTERS.true)

pub overflow_sub-result : goal.overflow_sub-result
overflow_sub-result c = omega (arith, (puts_some _ _ _ _ c.requires _ c.code_at-c.ensures c.if-c-lt-LETTERS.true).0)

pub returns-then-c-lt-LETTERS : goal.returns-then-c-lt-LETTERS
returns-then-c-lt-LETTERS c = put_letter _ _ _ _ _ c.requires _ c.code_at-c.ensures c.if-c-lt-LETTERS.true _ c.label_of.ensures refl

pub returns : goal.returns
returns c = put_other _ _ _ _ _ c.requires _ c.code_at-c.ensures c.if-c-lt-LETTERS.false refl

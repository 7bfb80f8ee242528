-- `part_answers::judge_parts` meets its contract by the laws of reading.
use mathlib.Core.Path.{refl}
use Rattle.std.proofs.lemmas.Result.{err_from_is_err_and}
use Rattle.reading.proofs.Laws.{text_answers, defines_answer, letters_answer, no_answer}
use Rattle.part_answers.proofs.judge_parts.Goals as goal

pub returns-in_err-v : goal.returns-in_err-v
returns-in_err-v c =
    let p = err_from_is_err_and c.from_residual.result c.from_residual.ensures.1 in rw (p.1, p.2) (text_answers _ _ _ _ _ c.requires _ _ refl c.judge.ensures _ c.in_err-v.was)

pub returns-then-parts : goal.returns-then-parts
returns-then-parts c = defines_answer _ _ _ _ _ c.requires _ _ refl c.judge.ensures _ c.in_ok-v.was c.if-parts.true

pub returns-then-has_foreign : goal.returns-then-has_foreign
returns-then-has_foreign c = letters_answer _ _ _ _ _ c.requires _ _ refl c.judge.ensures _ c.in_ok-v.was _ c.if-parts.false c.has_foreign.ensures c.if-has_foreign.true

pub returns : goal.returns
returns c = no_answer _ _ _ _ _ c.requires _ _ refl c.judge.ensures _ c.in_ok-v.was _ c.if-parts.false c.has_foreign.ensures c.if-has_foreign.false

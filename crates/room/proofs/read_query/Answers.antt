-- The answers 1 to 3 leave `read_query` by `?`.
use Rattle.std.proofs.lemmas.Result.{err_from_is_err_and}
use Rattle.reading.proofs.Laws.{first_answers}
use Rattle.room.proofs.read_query.Goals as goal

pub returns-in_err-first_refusal : goal.returns-in_err-first_refusal
returns-in_err-first_refusal c =
    let p = err_from_is_err_and c.from_residual.result c.from_residual.ensures.1 in
    rw (p.1, p.2) (first_answers _ _ _ _ _ _ c.in_err-first_refusal.ensures.answer c.in_err-first_refusal.ensures.offset)

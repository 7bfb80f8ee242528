-- `phrases::finish` meets its contract. Laws: PhraseLaws.
use Rattle.phrases.proofs.PhraseLaws.{finish_none, finish_broken, finish_found, mark-holding, mark-order}
use Rattle.std.proofs.lemmas.Result.{err_from_is_err_and}
use Rattle.phrases.proofs.finish.Goals as goal

pub returns-in_err-mark : goal.returns-in_err-mark
returns-in_err-mark c = let p = err_from_is_err_and c.from_residual.result c.from_residual.ensures.1 in rw (p.1, p.2) (finish_broken _ _ _ _ c.in_err-mark.ensures)

pub returns-in_default : goal.returns-in_default
returns-in_default c = finish_none _ _ _ _ _ (rw c.in_default.is at c.in_ok-mark.ensures) c.settle.ensures

pub rounds-places-requires : goal.rounds-places-requires
rounds-places-requires c = (mark-order _ c.args.room.now c.args.p _ (rw c.in-Some.is at c.in_ok-mark.ensures), c.requires.few_places)

pub settle-requires-2 : goal.settle-requires-2
settle-requires-2 c = mark-holding _ _ _ _ (rw c.in-Some.is at c.in_ok-mark.ensures) _ c.rounds-places.ensures c.requires

pub returns : goal.returns
returns c = finish_found _ _ _ _ (rw c.in-Some.is at c.in_ok-mark.ensures) _ _ _ c.rounds-places.ensures c.settle-2.ensures

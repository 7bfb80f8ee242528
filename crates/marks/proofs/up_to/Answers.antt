-- `marks::up_to` meets its contract. Laws: MarkLaws.
use Rattle.marks.proofs.MarkLaws.{up-shut, up-bad, up-got}
use Rattle.text_bytes.proofs.ByteLaws.{bound_in, next-in}
use Rattle.std.proofs.lemmas.Result.{err_from_is_err_and}
use borrow.Author.Rules.{rules}
use Rattle.marks.proofs.up_to.Goals as goal

pub reluctant-requires : goal.reluctant-requires
reluctant-requires c = search (rules, next-in)

pub returns-then-peek-eq125 : goal.returns-then-peek-eq125
returns-then-peek-eq125 c = search (rules, up-shut)

pub returns-in_err-m : goal.returns-in_err-m
returns-in_err-m c = let p = err_from_is_err_and c.from_residual.result c.from_residual.ensures.1 in rw (p.1, p.2) (search (rules, up-bad))

pub shut-requires : goal.shut-requires
shut-requires c = (bound_in _ _ _ _ c.in_ok-m.ensures.numeral, c.in_ok-m.ensures.least)

pub returns : goal.returns
returns c = search (rules, up-got)

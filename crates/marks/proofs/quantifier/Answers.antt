-- `marks::quantifier` meets its contract. Laws: MarkLaws.
use Rattle.marks.proofs.MarkLaws.{mark-star, mark-plus, mark-opt, mark-braces, mark-braces_bad, mark-none}
use Rattle.text_bytes.proofs.ByteLaws.{next-in}
use Rattle.std.proofs.lemmas.Result.{err_from_is_err_and}
use borrow.Author.Rules.{rules}
use Rattle.marks.proofs.quantifier.Goals as goal

pub reluctant-requires : goal.reluctant-requires
reluctant-requires c = search (rules, next-in)

pub reluctant-requires-in-43 : goal.reluctant-requires-in-43
reluctant-requires-in-43 c = search (rules, next-in)

pub reluctant-requires-in-63 : goal.reluctant-requires-in-63
reluctant-requires-in-63 c = search (rules, next-in)

pub braces-requires : goal.braces-requires
braces-requires c = search (rules, next-in)

pub returns-in_err-braces-in-123 : goal.returns-in_err-braces-in-123
returns-in_err-braces-in-123 c = let p = err_from_is_err_and c.from_residual.result c.from_residual.ensures.1 in rw (p.1, p.2) (search (rules, mark-braces_bad))

pub returns-in-42 : goal.returns-in-42
returns-in-42 c = search (rules, mark-star)

pub returns-in-43 : goal.returns-in-43
returns-in-43 c = search (rules, mark-plus)

pub returns-in-63 : goal.returns-in-63
returns-in-63 c = search (rules, mark-opt)

pub returns-in_ok-braces-in-123 : goal.returns-in_ok-braces-in-123
returns-in_ok-braces-in-123 c = search (rules, mark-braces)

pub returns-in_default : goal.returns-in_default
returns-in_default c = search (rules, mark-none)

-- `marks::braces` meets its contract. Laws: MarkLaws.
use Rattle.marks.proofs.MarkLaws.{brace_comma_bad, brace_comma, brace_bad, brace_up, brace_exactly}
use Rattle.text_bytes.proofs.ByteLaws.{bound_in, next-in}
use Rattle.std.proofs.lemmas.Result.{err_from_is_err_and}
use native.Mathlib.Omega.{arith}
use borrow.Author.Rules.{rules}
use Rattle.marks.proofs.braces.Goals as goal

pub reaching-requires : goal.reaching-requires
reaching-requires c = search (rules, next-in)

pub returns-in_err-m : goal.returns-in_err-m
returns-in_err-m c = let p = err_from_is_err_and c.from_residual.result c.from_residual.ensures.1 in rw (p.1, p.2) (search (rules, brace_comma_bad))

pub shut-requires : goal.shut-requires
shut-requires c = (bound_in _ _ _ _ c.in_ok-m.ensures.numeral, omega arith)

pub returns-then-peek-eq44 : goal.returns-then-peek-eq44
returns-then-peek-eq44 c = search (rules, brace_comma)

pub returns-in_err-n : goal.returns-in_err-n
returns-in_err-n c = let p = err_from_is_err_and c.from_residual-in_err-n.result c.from_residual-in_err-n.ensures.1 in rw (p.1, p.2) (search (rules, brace_bad))

pub overflow_add-n : goal.overflow_add-n
overflow_add-n c = let h = bound_in _ _ _ _ c.in_ok-n.ensures in search (rules, next-in)

pub up_to-requires : goal.up_to-requires
up_to-requires c = (search (rules, next-in), c.in_ok-n.ensures.small)

pub returns-then-peek-eq44-2 : goal.returns-then-peek-eq44-2
returns-then-peek-eq44-2 c = search (rules, brace_up)

pub shut-requires-2 : goal.shut-requires-2
shut-requires-2 c = (bound_in _ _ _ _ c.in_ok-n.ensures, omega arith)

pub returns : goal.returns
returns c = search (rules, brace_exactly)

-- `primaries::shut_group` meets its contract. Laws: PrimaryLaws.
use Rattle.primaries.proofs.PrimaryLaws.{before-end, shut_open, shut-whole}
use native.Mathlib.Omega.{arith}
use borrow.Author.Rules.{rules}
use Rattle.primaries.proofs.shut_group.Goals as goal

pub returns-then-peek-ne41 : goal.returns-then-peek-ne41
returns-then-peek-ne41 c = search (rules, shut_open)

pub after-to-requires : goal.after-to-requires
after-to-requires c = before-end _ _ _ _ c.peek.ensures c.if-peek-ne41.false (omega arith)

pub returns : goal.returns
returns c = search (rules, shut-whole)

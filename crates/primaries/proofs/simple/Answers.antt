-- `primaries::simple` meets its contract. Laws: PrimaryLaws.
use Rattle.primaries.proofs.PrimaryLaws.{anchor-here, letter-here, simple-anchor, simple-letter, simple-other, simple-touch}
use native.Mathlib.Omega.{arith}
use borrow.Author.Rules.{rules}
use Rattle.primaries.proofs.simple.Goals as goal

pub leaf-requires : goal.leaf-requires
leaf-requires c = anchor-here _ _ c.args.count _ c.peek-b.ensures c.in-94.is

pub returns-then-is_letter : goal.returns-then-is_letter
returns-then-is_letter c = simple-touch _ _ _ _ c.peek-b.ensures _ _ (omega arith) (omega arith) c.peek.ensures c.is_letter.ensures c.if-is_letter.true

pub leaf-requires-in-65-to-90 : goal.leaf-requires-in-65-to-90
leaf-requires-in-65-to-90 c = search (rules, letter-here)

pub returns-in-94 : goal.returns-in-94
returns-in-94 c = simple-anchor _ _ _ _ c.peek-b.ensures _ c.in-94.is c.leaf.ensures

pub returns-else-is_letter : goal.returns-else-is_letter
returns-else-is_letter c = search (rules, simple-letter)

pub returns-in_default : goal.returns-in_default
returns-in_default c = search (rules, simple-other)

pub returns-in_default-2 : goal.returns-in_default-2
returns-in_default-2 c = search (rules, simple-other)

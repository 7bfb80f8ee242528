-- `pairs::one_unless` meets its contract.
use Rattle.pairs.specs.Step.{one_unless}
use mathlib.Core.Path.{refl}
use Rattle.pairs.proofs.one_unless.Goals as goal

pub returns-then-is : goal.returns-then-is
unfolding one_unless
returns-then-is c = rw c.if-is.true refl

pub returns-else-is : goal.returns-else-is
unfolding one_unless
returns-else-is c = rw c.if-is.false refl

-- `body_sizes::copy_has_flag` meets its contract. Laws: SizeLaws.
use Rattle.body_sizes.proofs.SizeLaws.{flag_never, flag_if}
use borrow.Author.Tests.{le-ltb}
use Rattle.body_sizes.proofs.copy_has_flag.Goals as goal

pub returns-then-factor-gt1 : goal.returns-then-factor-gt1
returns-then-factor-gt1 c = flag_if _ _ _ _ c.if-factor-gt1.true c.body_is_empty.ensures

pub returns-else-factor-gt1 : goal.returns-else-factor-gt1
returns-else-factor-gt1 c = let e = c.if-factor-gt1.false in rw (le-ltb 1 c.args.factor e) (flag_never _ _ _ e)

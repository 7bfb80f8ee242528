-- `text_bytes::skip` meets its contract. Laws: ByteLaws.
use Rattle.text_bytes.proofs.ByteLaws.{Skipped, skip_none, skip_more, skip_all, skip_less, next-in}
use lib.ListN.{length}
use Prim.Native.Nat.{◌-◌}
use borrow.Author.Rules.{rules}
use Rattle.text_bytes.proofs.skip.Goals as goal

pub loop-to-init : goal.loop-to-init
loop-to-init c = search (rules, skip_none)

pub overflow_add-to : goal.overflow_add-to
overflow_add-to c = search (rules, next-in)

pub loop-to-smaller : goal.loop-to-smaller
loop-to-smaller c = search (rules, skip_less)

pub loop-to-preserved : goal.loop-to-preserved
loop-to-preserved c = search (rules, skip_more)

pub returns : goal.returns
returns c = skip_all _ _ _ _ c.loop-to.invariant c.peek.ensures c.loop-to-test.false

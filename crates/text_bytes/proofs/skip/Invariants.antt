-- `text_bytes::skip` meets its contract. Laws: ByteLaws.
use Rattle.text_bytes.proofs.ByteLaws.{Skipped, skip_none, skip_more, skip_all, skip_less, next-in}
use lib.ListN.{length}
use Prim.Native.Nat.{◌-◌}
use borrow.Author.Rules.{rules}
use Rattle.text_bytes.proofs.skip.Given as goal

abbrev pub invariant-loop-to : goal.invariant-loop-to
invariant-loop-to l = Skipped l.text l.at l.to

abbrev pub decreases-loop-to : goal.decreases-loop-to
decreases-loop-to l = length l.text - l.to

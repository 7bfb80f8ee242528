-- What one more call read stands behind what the calls before it did.
use Rattle.std.proofs.Common.{arith}
use Rattle.transfer.proofs.Transfers.{read_on}
use Rattle.transfer.proofs.read_whole.Goals as goal

pub loop-call-preserved : goal.loop-call-preserved
loop-call-preserved g c =
    let now = c.in_ok-next.ensures in
    let steps = rw c.in-Some.is at now.steps in
    let bytes = rw c.in-Some.is at now.bytes in
    record {
      within = omega arith;
      bytes = read_on _ _ _ _ _ _ _ bytes.0 now.buf_unchanged c.loop-call.invariant.bytes bytes.1;
    }

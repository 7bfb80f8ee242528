-- What one more call wrote stands behind what the calls before it did.
use Rattle.std.proofs.Common.{arith}
use Rattle.transfer.proofs.Transfers.{written_on}
use Rattle.transfer.proofs.write_whole.Goals as goal

pub calls-preserved : goal.calls-preserved
calls-preserved g c =
    let now = c.in-Ok-Some.ensures in
    let steps = rw c.in-Ok-Some.field-0-is at now.steps in
    let bytes = rw c.in-Ok-Some.field-0-is at now.bytes in
    record {
      within = omega arith;
      bytes = written_on _ _ _ _ _ _ bytes.0 c.calls.invariant.bytes bytes.1;
    }

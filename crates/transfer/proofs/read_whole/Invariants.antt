-- `read_whole` ends, within the buffer: each call but the last leaves fewer bytes to read or fewer
-- interruptions. What was read so far stands at the front of the buffer.
use Rattle.std.proofs.Common.{length, take, ◌-◌, ◌+◌, ◌≤◌}
use Rattle.std.specs.Io.KnownBytes.{Consumes}
use Rattle.transfer.proofs.read_whole.Given as goal

abbrev pub invariant-loop-call : goal.invariant-loop-call
invariant-loop-call g l = record {
  within : l.call.at ≤ length l.buf;
  bytes : Consumes (g.R.Read.remaining l.fn.input) (g.R.Read.remaining l.input) (take l.call.at l.buf);
}

abbrev pub decreases-loop-call : goal.decreases-loop-call
decreases-loop-call g l = length l.buf - l.call.at + l.call.left

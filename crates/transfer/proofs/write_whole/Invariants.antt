-- `write_whole` ends, within the text: each call but the last leaves fewer bytes to write or fewer
-- interruptions. What was written so far is the front of the text.
use Rattle.std.proofs.Common.{length, take, ◌-◌, ◌+◌, ◌≤◌}
use Rattle.std.specs.Io.KnownBytes.{Appends}
use Rattle.transfer.proofs.write_whole.Given as goal

abbrev pub invariant-calls : goal.invariant-calls
invariant-calls g l = record {
  within : l.call.at ≤ length l.text;
  bytes : Appends (g.W.Write.contents l.fn.output) (g.W.Write.contents l.output) (take l.call.at l.text);
}

abbrev pub decreases-calls : goal.decreases-calls
decreases-calls g l = length l.text - l.call.at + l.call.left

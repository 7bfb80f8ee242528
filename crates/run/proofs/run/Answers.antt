-- `run` prints what the input's case prints, into the front of the buffer.
use Rattle.std.proofs.Common.{rules}
use Rattle.run.proofs.Running.{decided}
use Rattle.run.proofs.run.Goals as goal

pub returns : goal.returns
returns c = record { text = search rules; enough = decided _ }

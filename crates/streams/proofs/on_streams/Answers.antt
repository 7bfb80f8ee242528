-- What was read is all that the reader had, or as much as decides what is printed of it.
use Rattle.std.proofs.Common.{arith}
use Rattle.streams.proofs.Handed.{handed_all}
use Rattle.streams.proofs.on_streams.Goals as goal

pub returns-in-Ok-clause-bytes : goal.returns-in-Ok-clause-bytes
returns-in-Ok-clause-bytes g c =
    let read = c.in-Ok.ensures in
    handed_all _ _ _ _ _ _ _ (omega arith) (omega arith) read.bytes.0 read.bytes.1 c.print.ensures.prints c.print.ensures.bytes

-- `put_byte` writes one byte.
use Rattle.std.proofs.Common.{refl, arith}
use Rattle.put.proofs.Writing.{put_one}
use Rattle.put.proofs.Out.put_byte.Goals as goal

pub returns : goal.returns
returns c = record { same = refl; put = put_one _ _ _ (omega arith) }

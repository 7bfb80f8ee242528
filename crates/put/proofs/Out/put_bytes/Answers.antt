-- `put_bytes` copies a text.
use Rattle.std.proofs.Common.{refl}
use Rattle.put.proofs.Writing.{put_part}
use Rattle.put.proofs.Out.put_bytes.Goals as goal

pub returns : goal.returns
returns c = record { same = refl; put = put_part _ _ _ _ c.requires c.copy_from_slice.ensures.after }

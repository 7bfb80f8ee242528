-- `put_refused` writes its line piece by piece, by the laws of proofs/Lines.
use Rattle.std.proofs.Common.{rules}
use Rattle.rules.specs.Basics.{bytes}
use Rattle.header.proofs.Lines.{refused_room_lem, refused-room_1, refused-room_2, put_refusal}
use Rattle.header.proofs.put_refused.Goals as goal

pub put_bytes-requires : goal.put_bytes-requires
unfolding bytes
put_bytes-requires c = search (rules, refused_room_lem)

pub put_decimal-requires : goal.put_decimal-requires
unfolding bytes
put_decimal-requires c = search (rules, refused-room_1)

pub put_byte-requires : goal.put_byte-requires
unfolding bytes
put_byte-requires c = search (rules, refused-room_2)

pub returns : goal.returns
unfolding bytes
returns c = record { same = cc; put = search (rules, put_refusal) }

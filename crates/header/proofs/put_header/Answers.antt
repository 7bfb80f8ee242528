-- `put_header` writes its line piece by piece, by the laws of proofs/Lines.
use Rattle.std.proofs.Common.{rules}
use Rattle.rules.specs.Basics.{bytes}
use Rattle.header.proofs.Lines.{header_room, header_room_1, header_room_2, header_room_3, header_room_4, put_head}
use Rattle.header.proofs.put_header.Goals as goal

pub put_outcome-requires : goal.put_outcome-requires
put_outcome-requires c = search (rules, header_room)

pub put_decimal-requires : goal.put_decimal-requires
put_decimal-requires c = search (rules, header_room_1)

pub put_bytes-requires : goal.put_bytes-requires
unfolding bytes
put_bytes-requires c = search (rules, header_room_2)

pub put_decimal-requires-2 : goal.put_decimal-requires-2
unfolding bytes
put_decimal-requires-2 c = search (rules, header_room_3)

pub put_byte-requires : goal.put_byte-requires
unfolding bytes
put_byte-requires c =
    header_room_4 _ _ _ _ _ c.requires _ _ c.put_outcome.ensures.put _ _ c.put_decimal.ensures.put
    _ _ c.put_bytes.ensures.put _ _ c.put_decimal-2.ensures.put

pub returns : goal.returns
unfolding bytes
returns c = record {
  same = cc;
  put =
      put_head _ _ _ _ _ c.requires _ _ c.put_outcome.ensures.put _ _ c.put_decimal.ensures.put
      _ _ c.put_bytes.ensures.put _ _ c.put_decimal-2.ensures.put _ _ c.put_byte.ensures.put;
}

-- `put_field` writes a number and one space.
use Rattle.std.proofs.Common.{rules}
use Rattle.header.proofs.Lines.{field_room, field-room_1, put_number}
use Rattle.lines.proofs.put_field.Goals as goal

pub put_signed-requires : goal.put_signed-requires
put_signed-requires c = search (rules, field_room)

pub put_byte-requires : goal.put_byte-requires
put_byte-requires c = search (rules, field-room_1)

pub returns : goal.returns
returns c = record { same = cc; put = search (rules, put_number) }

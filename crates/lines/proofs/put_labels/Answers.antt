-- `put_labels` writes the labels, or a `-`.
use Rattle.header.proofs.Lines.{labels-none_room, put_no_labels, labels-room, put_some_labels}
use Rattle.lines.proofs.put_labels.Goals as goal

pub put_byte-requires : goal.put_byte-requires
put_byte-requires c = labels-none_room _ _ _ c.if-is_empty.ensures c.requires

pub returns-then-is_empty : goal.returns-then-is_empty
returns-then-is_empty c = record { same = c.put_byte.ensures.same; put = put_no_labels _ _ _ c.if-is_empty.ensures _ _ c.put_byte.ensures.put }

pub put_bytes-requires : goal.put_bytes-requires
put_bytes-requires c = labels-room _ _ _ c.if-is_empty.ensures c.requires

pub returns-else-is_empty : goal.returns-else-is_empty
returns-else-is_empty c = record { same = c.put_bytes.ensures.same; put = put_some_labels _ _ _ c.if-is_empty.ensures _ _ c.put_bytes.ensures.put }

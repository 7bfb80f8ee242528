-- `decode::read_head` meets its contract by the laws of Together.
use Rattle.std.proofs.Common.{rules}
use Rattle.decode.proofs.Together.{first-inside, first-whole, shape_inside, second-inside, second-whole, head_is}
use Rattle.decode.proofs.read_head.Goals as goal

pub record_at-requires : goal.record_at-requires
record_at-requires c = search (rules, first-inside)

pub unreachable-requires : goal.unreachable-requires
unreachable-requires c = first-whole _ c.requires c.in_default.ensures

pub record_at-requires-2 : goal.record_at-requires-2
record_at-requires-2 c = second-inside _ c.requires _ c.in-Record.ensures

pub unreachable-requires-in_default-record_at : goal.unreachable-requires-in_default-record_at
unreachable-requires-in_default-record_at c = second-whole _ c.requires _ c.in-Record.ensures c.in_default-record_at.ensures

pub byte-requires : goal.byte-requires
byte-requires c = shape_inside _ c.requires _ c.in-Record.ensures

pub returns : goal.returns
returns c = head_is _ c.requires _ c.in-Record.ensures _ c.in-Record-record_at.ensures _ c.byte.ensures.0

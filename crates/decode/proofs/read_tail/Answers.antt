-- `decode::read_tail` meets its contract by the laws of Together.
use Rattle.std.proofs.Common.{rules}
use Rattle.decode.proofs.Together.{skip_there, skip_whole, skip_inside, target_inside, target_fits, measures_room, tail-is}
use Rattle.decode.proofs.read_tail.Goals as goal

pub record_at-requires : goal.record_at-requires
record_at-requires c = search (rules, skip_there)

pub unreachable-requires : goal.unreachable-requires
unreachable-requires c = skip_whole _ _ _ c.requires c.in_default.ensures

pub byte-requires : goal.byte-requires
byte-requires c = skip_inside _ _ _ c.requires _ c.in-Record.ensures

pub overflow_add-record : goal.overflow_add-record
overflow_add-record c = target_fits _ _ _ c.requires _ c.in-Record.ensures (search rules)

pub byte-requires-2 : goal.byte-requires-2
byte-requires-2 c = target_inside _ _ _ c.requires _ c.in-Record.ensures

pub put_measures-requires : goal.put_measures-requires
put_measures-requires c = measures_room _ _ _ c.requires _ c.in-Record.ensures

pub returns : goal.returns
returns c = tail-is _ _ _ c.requires _ c.in-Record.ensures _ c.byte.ensures.0 _ c.byte-2.ensures.0 _ _ c.put_measures.ensures

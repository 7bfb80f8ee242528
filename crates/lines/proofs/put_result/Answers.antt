-- `put_result` writes a measure's result, or `null`.
use Rattle.std.proofs.Common.{rules}
use Rattle.rules.specs.Basics.{bytes}
use Rattle.header.proofs.Lines.{null_room, put_null, result_room, put_some}
use Rattle.lines.proofs.put_result.Goals as goal

pub put_bytes-requires : goal.put_bytes-requires
unfolding bytes
put_bytes-requires c = search (rules, null_room)

pub returns-then-given-eq0 : goal.returns-then-given-eq0
unfolding bytes
returns-then-given-eq0 c = record { same = cc; put = search (rules, put_null) }

pub put_signed-requires : goal.put_signed-requires
put_signed-requires c = search (rules, result_room)

pub returns-else-given-eq0 : goal.returns-else-given-eq0
returns-else-given-eq0 c = record { same = cc; put = search (rules, put_some) }

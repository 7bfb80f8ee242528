-- `entry_words::put_entries` meets its contract by the laws of Putting. The invariant is `Putting`.
use Rattle.entry_words.proofs.Putting.{putting_none, byte_there, word-there, putting_room, putting_more, putting_all}
use Rattle.std.proofs.Common.{arith, rules}
use Rattle.entry_words.proofs.put_entries.Goals as goal

pub loop-init : goal.loop-init
loop-init c = search (rules, putting_none)

pub bounds-query-from : goal.bounds-query-from
bounds-query-from c = search (rules, byte_there)

pub put_entry-requires : goal.put_entry-requires
put_entry-requires c = search (rules, putting_room)

pub overflow_add-from : goal.overflow_add-from
overflow_add-from c = omega (arith, byte_there _ _ _ _ _ _ _ _ _ _ c.loop.invariant (omega arith))

pub overflow_add-to : goal.overflow_add-to
overflow_add-to c = omega (arith, word-there _ _ _ _ _ _ _ _ _ _ c.loop.invariant)

pub loop-preserved : goal.loop-preserved
loop-preserved c = search (rules, putting_more)

pub returns : goal.returns
returns c = search (rules, putting_all)

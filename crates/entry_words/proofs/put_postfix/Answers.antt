-- `entry_words::put_postfix` meets its contract by the laws of Putting.
use Rattle.entry_words.proofs.Putting.{entries-room, postfix-put}
use Rattle.std.proofs.Common.{rules}
use Rattle.entry_words.proofs.put_postfix.Goals as goal

pub put_entries-requires : goal.put_entries-requires
put_entries-requires c = search (rules, entries-room)

pub returns : goal.returns
returns c = search (rules, postfix-put)

-- `entry_words::put_entry` meets its contract by the laws of Putting.
use Rattle.entry_words.proofs.Putting.{comparison_room, comparison_put, operator-put}
use Rattle.std.proofs.Common.{rules}
use Rattle.entry_words.proofs.put_entry.Goals as goal

pub put_comparison-requires : goal.put_comparison-requires
put_comparison-requires c = search (rules, comparison_room)

pub returns-then-tag-eq-COMPARISON : goal.returns-then-tag-eq-COMPARISON
returns-then-tag-eq-COMPARISON c = search (rules, comparison_put)

pub returns : goal.returns
returns c = search (rules, operator-put)

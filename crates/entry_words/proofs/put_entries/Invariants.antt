-- `entry_words::put_entries` meets its contract by the laws of Putting. The invariant is `Putting`.
use Rattle.entry_words.proofs.Putting.{Putting}
use Rattle.entry_words.proofs.put_entries.Given as goal

abbrev pub invariant-loop : goal.invariant-loop
invariant-loop l = Putting l.query l.columns l.p l.count l.initial.table l.at l.table l.counter l.from l.to

-- `comparisons::first_unmet` meets its contract by the laws of Reading.
use Rattle.comparisons.proofs.Reading.{Reading}
use Rattle.comparisons.proofs.first_unmet.Given as goal

abbrev pub invariant-loop-k : goal.invariant-loop-k
invariant-loop-k l = Reading l.table l.rows l.from l.at l.count l.k

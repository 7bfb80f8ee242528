-- How far the loop over the measures has come.
use Rattle.reading.proofs.Laws.{Known}
use Rattle.reading.proofs.has_foreign.Given as goal

abbrev pub invariant-loop-k : goal.invariant-loop-k
invariant-loop-k l = Known l.text l.measures l.count l.target l.k l.known

-- `comparison_words::put_comparisons` meets its contract by the laws of Several. The invariant is
-- `Several`: the first k are put.
use Rattle.comparison_words.proofs.Several.{Several}
use Rattle.comparison_words.proofs.put_comparisons.Given as goal

abbrev pub invariant-loop-k : goal.invariant-loop-k
invariant-loop-k l = Several l.query l.columns l.p l.count l.initial.table l.at l.table l.k

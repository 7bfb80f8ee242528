-- `comparison_words::put_comparisons` meets its contract by the laws of Several. The invariant is
-- `Several`: the first k are put.
use Rattle.std.proofs.Common.{rules}
use Rattle.comparison_words.proofs.Several.{several_none, several_more}
use Rattle.comparison_words.proofs.put_comparisons.Goals as goal

pub loop-k-init : goal.loop-k-init
loop-k-init c = search (rules, several_none)

pub loop-k-preserved : goal.loop-k-preserved
loop-k-preserved c = search (rules, several_more)

-- `comparisons::comparison_met` meets its contract by the laws of Reading.
use Rattle.comparisons.proofs.Reading.{left-missing, right-missing, number-met, column_met}
use Rattle.std.proofs.Common.{arith, rules}
use Rattle.comparisons.proofs.comparison_met.Goals as goal

pub returns-then-left-rows : goal.returns-then-left-rows
returns-then-left-rows c = left-missing _ _ _ _ _ c.index_at-left.ensures (omega arith)

pub returns-then-right-rows : goal.returns-then-right-rows
returns-then-right-rows c =
    right-missing _ _ _ _ _ _ c.word_at-sort.ensures.0 c.if-sort-eq1.true c.index_at-right.ensures (omega arith)

pub returns-then-sort-eq1 : goal.returns-then-sort-eq1
returns-then-sort-eq1 c = search (rules, column_met)

pub returns : goal.returns
returns c = search (rules, number-met)

-- `query::first_answer` meets its contract by the laws of Order and Reading. The invariant is
-- `Judged`, of what the pass has seen and of what is to come; the bytes left fall.
use Rattle.std.proofs.Common.{◌-◌, length}
use Rattle.query.proofs.Order.{Judged}
use Rattle.query.proofs.first_answer.Given as goal

abbrev pub invariant-loop-at : goal.invariant-loop-at
invariant-loop-at l = Judged l.s l.at l.stage l.columns l.fit

abbrev pub decreases-loop-at : goal.decreases-loop-at
decreases-loop-at l = length l.s - l.at

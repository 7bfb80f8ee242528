-- `conditions::condition_truth` meets its contract by the laws of Entering. The invariant is `Evaluating`.
use Rattle.std.proofs.Common.{◌-◌}
use Rattle.conditions.proofs.Entering.{Evaluating}
use Rattle.conditions.proofs.condition_truth.Given as goal

abbrev pub invariant-loop : goal.invariant-loop
invariant-loop l = Evaluating l.table l.rows l.from l.at (l.count - l.counter) l.place l.results

-- `conditions::comparison_truth` meets its contract by the laws of Numbers.
use mathlib.Core.Path.{ap}
use mathlib.Core.Bool.{not}
use Rattle.conditions.proofs.Numbers.{not_known, is-met, is-unmet}
use Rattle.conditions.proofs.comparison_truth.Goals as goal

pub returns-then-not-is_known : goal.returns-then-not-is_known
returns-then-not-is_known c = not_known _ _ _ _ _ c.is_known.ensures (ap not c.if-not-is_known.true)

pub returns-then-comparison_met : goal.returns-then-comparison_met
returns-then-comparison_met c = is-met _ _ _ _ _ _ c.is_known.ensures (ap not c.if-not-is_known.false) c.comparison_met.ensures c.if-comparison_met.true

pub returns-else-comparison_met : goal.returns-else-comparison_met
returns-else-comparison_met c = is-unmet _ _ _ _ _ _ c.is_known.ensures (ap not c.if-not-is_known.false) c.comparison_met.ensures c.if-comparison_met.false

-- `comparisons::first_unmet` meets its contract by the laws of Reading.
use Rattle.std.proofs.Common.{rules}
use Rattle.comparisons.proofs.Reading.{reading_none, reading_more, reading_stop, reading_all}
use Rattle.comparisons.proofs.first_unmet.Goals as goal

pub loop-k-init : goal.loop-k-init
loop-k-init c = search (rules, reading_none)

pub returns-then-not-comparison_met : goal.returns-then-not-comparison_met
returns-then-not-comparison_met c = search (rules, reading_stop)

pub loop-k-preserved : goal.loop-k-preserved
loop-k-preserved c = search (rules, reading_more)

pub returns : goal.returns
returns c = search (rules, reading_all)

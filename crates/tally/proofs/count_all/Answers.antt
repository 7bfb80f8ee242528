-- `tally::count_all` meets its contract by the laws of Reading.
use Rattle.std.proofs.Common.{rules}
use Rattle.tally.proofs.Reading.{counting_none, counting_more}
use Rattle.tally.proofs.count_all.Goals as goal

pub loop-i-init : goal.loop-i-init
loop-i-init c = search (rules, counting_none)

pub loop-i-preserved : goal.loop-i-preserved
loop-i-preserved c = search (rules, counting_more)

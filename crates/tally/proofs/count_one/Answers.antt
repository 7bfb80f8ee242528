-- `tally::count_one` meets its contract by the laws of Reading.
use Rattle.std.proofs.Common.{rules}
use Rattle.tally.proofs.Reading.{up_more}
use Rattle.tally.proofs.count_one.Goals as goal

pub returns : goal.returns
returns c = search (rules, up_more)

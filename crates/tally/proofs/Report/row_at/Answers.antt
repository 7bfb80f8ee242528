-- `Report::row_at` meets its contract by the laws of Reading.
use Rattle.std.proofs.Common.{rules}
use Rattle.tally.proofs.Reading.{row-cast}
use Rattle.tally.proofs.Report.row_at.Goals as goal

pub overflow_cast-result : goal.overflow_cast-result
overflow_cast-result c = search (rules, row-cast)

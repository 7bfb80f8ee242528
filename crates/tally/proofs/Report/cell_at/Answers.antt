-- `Report::cell_at` meets its contract by the laws of Reading.
use Rattle.std.proofs.Common.{rules}
use Rattle.tally.proofs.Reading.{depot_there, month_there, cell_read}
use Rattle.tally.proofs.Report.cell_at.Goals as goal

pub entry-requires : goal.entry-requires
entry-requires c = search (rules, depot_there)

pub entry-requires-2 : goal.entry-requires-2
entry-requires-2 c = search (rules, month_there)

pub returns : goal.returns
returns c = (cell_read _ _ _ _ _ c.requires _ c.row_at-row.ensures _ _ c.entry.ensures.0 c.entry.ensures.1 c.entry-2.ensures.0 c.entry-2.ensures.1 _ c.cell_of.ensures.0, search rules)

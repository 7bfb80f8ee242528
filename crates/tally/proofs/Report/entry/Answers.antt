-- `tally::entry` meets its contract by the laws of Reading.
use Rattle.tally.proofs.Reading.{entry_read}
use borrow.Author.Rules.{rules}
use Rattle.tally.proofs.Report.entry.Goals as goal

pub returns : goal.returns
returns c = search (rules, entry_read)

-- `letters::column_met` meets its contract by the laws of First.
use Rattle.letters.proofs.First.{left-gone, right-gone, by-column}
use borrow.Author.Rules.{rules}
use Rattle.letters.proofs.column_met.Goals as goal

pub returns-then-left-rows : goal.returns-then-left-rows
returns-then-left-rows c = search (rules, left-gone)

pub returns-then-right-rows : goal.returns-then-right-rows
returns-then-right-rows c = search (rules, right-gone)

pub returns : goal.returns
returns c = search (rules, by-column)

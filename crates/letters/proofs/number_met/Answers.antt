-- `letters::number_met` meets its contract by the laws of First.
use Rattle.letters.proofs.First.{held-short, left-gone, by_number}
use borrow.Author.Rules.{rules}
use Rattle.letters.proofs.number_met.Goals as goal

pub returns-then-left-rows : goal.returns-then-left-rows
returns-then-left-rows c = search (rules, left-gone)

pub inside_at-requires : goal.inside_at-requires
inside_at-requires c = search (rules, held-short)

pub returns : goal.returns
returns c = search (rules, by_number)

-- `letters::others_met` meets its contract by the laws of Testing.
use Rattle.letters.proofs.Testing.{none_behind, some-behind, behind-there}
use borrow.Author.Rules.{rules}
use Rattle.letters.proofs.others_met.Goals as goal

pub returns-then-count-eq1 : goal.returns-then-count-eq1
returns-then-count-eq1 c = search (rules, none_behind)

pub first_unmet-requires : goal.first_unmet-requires
first_unmet-requires c = search (rules, behind-there)

pub returns : goal.returns
returns c = search (rules, some-behind)

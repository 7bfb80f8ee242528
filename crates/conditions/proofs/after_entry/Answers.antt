-- `conditions::after_entry` meets its contract by the laws of Entering.
use Rattle.conditions.proofs.Entering.{five_there, by-comparison, by-operator}
use borrow.Author.Rules.{rules}
use Rattle.conditions.proofs.after_entry.Goals as goal

pub comparison_truth-requires : goal.comparison_truth-requires
comparison_truth-requires c = search (rules, five_there)

pub returns-then-word-lt-AND : goal.returns-then-word-lt-AND
returns-then-word-lt-AND c = search (rules, by-comparison)

pub returns : goal.returns
returns c = search (rules, by-operator)

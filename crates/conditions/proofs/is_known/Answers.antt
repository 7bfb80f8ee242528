-- `conditions::is_known` meets its contract by the laws of Numbers.
use Rattle.conditions.proofs.Numbers.{left_out, right_by, right-none}
use borrow.Author.Rules.{rules}
use Rattle.conditions.proofs.is_known.Goals as goal

pub returns-then-index_at-rows : goal.returns-then-index_at-rows
returns-then-index_at-rows c = search (rules, left_out)

pub returns-then-word_at-eq1 : goal.returns-then-word_at-eq1
returns-then-word_at-eq1 c = search (rules, right_by)

pub returns : goal.returns
returns c = search (rules, right-none)

-- `walk::attempt` meets its contract by the laws of Whole.
use Rattle.walk.proofs.Whole.{first_small, first-inside, first-moves, attempt-halts}
use borrow.Author.Rules.{rules}
use Rattle.walk.proofs.attempt.Goals as goal

pub begin-first-requires : goal.begin-first-requires
begin-first-requires c = search (rules, first_small, first-inside)

pub go_on-requires : goal.go_on-requires
go_on-requires c = search (rules, first-moves)

pub returns : goal.returns
returns c = search (rules, attempt-halts)

-- `depot_state::begin` meets its contract by the laws of Standing.
use Rattle.depot_state.proofs.Standing.{begin_short, begin_new}
use borrow.Author.Rules.{rules}
use Rattle.depot_state.proofs.begin.Goals as goal

pub returns-then-state-lt-LENGTH : goal.returns-then-state-lt-LENGTH
returns-then-state-lt-LENGTH c = search (rules, begin_short)

pub returns : goal.returns
returns c = search (rules, begin_new)

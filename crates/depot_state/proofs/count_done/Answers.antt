-- `depot_state::count_done` meets its contract by the laws of Words.
use Rattle.depot_state.proofs.Words.{count-asks, count-is}
use borrow.Author.Rules.{rules}
use Rattle.depot_state.proofs.count_done.Goals as goal

pub count_all-requires : goal.count_all-requires
count_all-requires c = search (rules, count-asks)

pub returns : goal.returns
returns c = search (rules, count-is)

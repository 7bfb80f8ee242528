-- `depot_state::list_one` meets its contract by the laws of Words.
use Rattle.std.proofs.Common.{rules}
use Rattle.depot_state.proofs.Words.{no_room, some-room, second-there}
use Rattle.depot_state.specs.Steps.{list_with, state_with}
use Rattle.depot_state.proofs.list_one.Goals as goal

pub returns-then-saturating_sub-lt2 : goal.returns-then-saturating_sub-lt2
returns-then-saturating_sub-lt2 c = search (rules, no_room)

pub bounds-list-used-2 : goal.bounds-list-used-2
bounds-list-used-2 c = search (rules, second-there)

pub returns : goal.returns
unfolding list_with state_with
returns c = search (rules, some-room)

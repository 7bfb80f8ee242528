-- `depots::search_partition` meets its contract by the laws of Calling.
use Rattle.depots.proofs.Calling.{parted-three, parted-searched}
use borrow.Author.Rules.{rules}
use Rattle.depots.proofs.search_partition.Goals as goal

pub returns-then-is_three : goal.returns-then-is_three
returns-then-is_three c = search (rules, parted-three)

pub returns : goal.returns
returns c = search (rules, parted-searched)

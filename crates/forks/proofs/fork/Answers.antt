-- `forks::fork` meets its contract. Laws: ForkLaws.
use Rattle.forks.proofs.ForkLaws.{part_none, part-choose, part-done}
use borrow.Author.Rules.{rules}
use Rattle.forks.proofs.fork.Goals as goal

pub returns-then-k-o : goal.returns-then-k-o
returns-then-k-o c = part_none _ _ _ _ _ _ _ c.requires _ (search rules) (search rules) _ _ c.put_place.ensures

pub fork_at-requires : goal.fork_at-requires
fork_at-requires c = search (rules, part-choose)

pub returns : goal.returns
returns c = search (rules, part-done)

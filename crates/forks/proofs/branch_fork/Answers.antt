-- `forks::branch_fork` meets its contract. Laws: ForkLaws.
use Rattle.forks.proofs.ForkLaws.{forking_none, fork-starting, forking_needs, forking_done}
use borrow.Author.Rules.{rules}
use Rattle.forks.proofs.branch_fork.Goals as goal

pub returns-then-k-o : goal.returns-then-k-o
returns-then-k-o c = λ h. forking_none _ _ _ _ _ _ _ h _ (search rules) (search rules) _ _ c.put_place.ensures

pub fork_ways-to-requires : goal.fork_ways-to-requires
fork_ways-to-requires c = search (rules, fork-starting)

pub put_fork-requires : goal.put_fork-requires
put_fork-requires c = search (rules, forking_needs)

pub returns : goal.returns
returns c = λ h. forking_done _ _ _ _ _ _ _ h _ (search rules) (search rules) _ _ (search rules) _ _ c.put_fork.ensures

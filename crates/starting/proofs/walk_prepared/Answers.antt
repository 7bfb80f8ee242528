-- `starting::walk_prepared` meets its contract by the laws of Starting and Ending.
use Rattle.starting.proofs.Starting.{walk-searches, walk-terms}
use Rattle.starting.proofs.Ending.{run-ended}
use borrow.Author.Rules.{rules}
use Rattle.starting.proofs.walk_prepared.Goals as goal

pub task_of-task-requires : goal.task_of-task-requires
task_of-task-requires c = walk-terms _ _ _ _ _ _ c.requires

pub search-s-requires : goal.search-s-requires
search-s-requires c = walk-searches _ _ _ _ _ _ c.requires _ c.task_of-task.ensures

pub returns : goal.returns
returns c = search (rules, run-ended)

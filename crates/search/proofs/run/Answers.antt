-- `search::run` meets its contract by the laws of Answering, one for each way through it.
use mathlib.Core.List.{[]}
use Rattle.search.proofs.Answering.{own_refuses, run_refuses, run_walks, run_ends}
use Rattle.search.proofs.run.Goals as goal

pub returns-in-Err : goal.returns-in-Err
returns-in-Err c = rw c.in-Err.is (own_refuses _ _ _ _ _ _ _ _ _ c.from.ensures)

pub walk_prepared-requires : goal.walk_prepared-requires
walk_prepared-requires c = run_walks _ _ _ _ _ [] [] _ _ c.in-Ok-terms_for.ensures (rw c.in-Ok.is at c.requires)

pub returns-in-Ok-terms_for : goal.returns-in-Ok-terms_for
returns-in-Ok-terms_for c = rw c.in-Ok.is (run_ends _ _ _ _ _ _ _ _ _ c.in-Ok-terms_for.ensures _ c.walk_prepared.ensures)

pub returns-in-Err-terms_for : goal.returns-in-Err-terms_for
returns-in-Err-terms_for c = rw c.in-Ok.is (run_refuses _ _ _ _ _ _ _ _ _ c.in-Err-terms_for.ensures _ c.from-in-Err-terms_for.ensures)

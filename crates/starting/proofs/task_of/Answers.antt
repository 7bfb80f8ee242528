-- `starting::task_of` meets its contract: the pairs are few.
use native.Mathlib.Omega.{arith}
use Rattle.starting.proofs.Starting.{task-pairs}
use borrow.Author.Rules.{rules}
use Rattle.starting.proofs.task_of.Goals as goal

pub overflow_mul-pairs : goal.overflow_mul-pairs
overflow_mul-pairs c = omega (arith, task-pairs _ _ c.requires.0 c.requires.1)

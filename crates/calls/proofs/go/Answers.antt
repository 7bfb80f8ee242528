-- `calls::go` meets its contract by the laws of Stepping.
use Rattle.calls.proofs.Stepping.{may_advance, went}
use native.Mathlib.Omega.{arith}
use borrow.Author.Rules.{rules}
use Rattle.calls.proofs.go.Goals as goal

pub advance-s-requires : goal.advance-s-requires
advance-s-requires c = search (rules, may_advance)

pub returns : goal.returns
returns c = went _ _ _ _ _ _ _ _ c.task_of-task.ensures _ _ _ _ _ _ c.advance-s.ensures _ c.kept-feed.ensures _ c.finished-outcome.ensures (λ k. omega (arith, c.slice_known-1.given k)) (λ k. omega (arith, c.slice_known-4-1.given k))

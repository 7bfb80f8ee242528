-- `sweep::go_on` meets its contract by the laws of Clearing.
use Rattle.sweep.proofs.Clearing.{went-waits, went_on, zeros_put}
use borrow.Author.Rules.{rules}
use mathlib.Core.Path.{refl}
use Rattle.sweep.proofs.go_on.Goals as goal

pub returns-then-r-eq-OUT_OF_ROWS : goal.returns-then-r-eq-OUT_OF_ROWS
returns-then-r-eq-OUT_OF_ROWS c = search (rules, went-waits)

pub returns : goal.returns
returns c = went_on _ _ _ _ _ _ _ _ c.requires.1 _ _ _ _ _ c.starts-r.ensures _ (zeros_put _ _ _ _ (search rules) (search rules) refl)

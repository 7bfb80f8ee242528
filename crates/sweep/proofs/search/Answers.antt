-- `sweep::search` meets its contract by the laws of Clearing.
use native.Mathlib.Omega.{arith}
use Rattle.sweep.proofs.Clearing.{cleared-sound, cleared-measures, search_done, zeros_put}
use borrow.Author.Rules.{rules}
use Rattle.sweep.proofs.search.Goals as goal

pub go_on-requires : goal.go_on-requires
go_on-requires c = (cleared-sound _ _ _ _ _ c.requires.0 c.requires.1 _ (zeros_put _ _ _ _ (search rules) (search rules) (omega (arith, c.div_ceil.ensures))) _, cleared-measures _ _ _ _ _ c.requires.0 c.requires.1 _ (zeros_put _ _ _ _ (search rules) (search rules) (omega (arith, c.div_ceil.ensures))))

pub returns : goal.returns
returns c = search_done _ _ _ _ _ c.requires.0 c.requires.1 _ (zeros_put _ _ _ _ (search rules) (search rules) (omega (arith, c.div_ceil.ensures))) _ _ _ _ _ _ _ (λ k. omega (arith, c.slice_known-5-1.given k)) (λ k. omega (arith, c.slice_known-1.given k)) c.go_on.ensures

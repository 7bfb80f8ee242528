-- `records::record_at` meets its contract by the laws of Reading.
use native.Mathlib.Omega.{arith}
use borrow.Author.Rules.{rules}
use Rattle.records.proofs.Reading.{cut-header, cut-body, is_whole}
use Rattle.records.proofs.record_at.Goals as goal

pub returns-then-s-at-lt4 : goal.returns-then-s-at-lt4
returns-then-s-at-lt4 c = cut-header _ _ (omega arith) (omega arith)

pub returns-then-s-start : goal.returns-then-s-start
returns-then-s-start c = cut-body _ _ (omega arith) (omega arith)

pub returns : goal.returns
returns c = is_whole _ _ _ _ (search rules) (search rules) (omega arith) (omega arith) (omega arith)

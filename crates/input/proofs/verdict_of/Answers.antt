-- `verdict_of` goes through the tests in the definition's order: one law of proofs/Verdicts for
-- each way.
use native.Mathlib.Omega.{arith}
use borrow.Author.Rules.{rules}
use Rattle.input.proofs.Verdicts.{by_answer, by_bytes, by-pairs, to_search}
use Rattle.input.proofs.verdict_of.Goals as goal

pub returns-then-answer-gt0 : goal.returns-then-answer-gt0
returns-then-answer-gt0 c = by_answer _ _ _ (omega arith)

pub returns-then-bytes-ne0 : goal.returns-then-bytes-ne0
returns-then-bytes-ne0 c = search (rules, by_bytes)

pub returns-then-pairs-gt-MOST_PAIRS : goal.returns-then-pairs-gt-MOST_PAIRS
returns-then-pairs-gt-MOST_PAIRS c = search (rules, by-pairs)

pub returns : goal.returns
returns c = search (rules, to_search)

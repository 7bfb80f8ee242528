-- `input_of` goes through the tests in the definition's order: one law of proofs/Inputs for each
-- way.
use native.Mathlib.Omega.{arith}
use borrow.Author.Rules.{rules}
use Rattle.input.proofs.Inputs.{no_length, long_query, cut-query, many-rows, whole-input}
use Rattle.input.proofs.input_of.Goals as goal

pub returns-then-s-lt2 : goal.returns-then-s-lt2
returns-then-s-lt2 c = no_length _ (omega arith)

pub returns-then-query-gt4096 : goal.returns-then-query-gt4096
returns-then-query-gt4096 c = search (rules, long_query)

pub returns-then-s-rows : goal.returns-then-s-rows
returns-then-s-rows c = search (rules, cut-query)

pub returns-then-s-rows-gt32768 : goal.returns-then-s-rows-gt32768
returns-then-s-rows-gt32768 c = search (rules, many-rows)

pub returns : goal.returns
returns c = search (rules, whole-input)

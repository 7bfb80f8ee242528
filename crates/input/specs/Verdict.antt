-- What is printed once a query and its row bytes are judged, by three numbers: the answer that asks
-- no lent buffer, how many row bytes there are, and how many pairs. Document 01, the end of the
-- last paragraph of "Report".
use Rattle.std.specs.Prelude.{not, List, ℕ, ◌%◌, ltb, eqb}
use Rattle.rules.specs.Basics.{pick}
use Rattle.rules.specs.Answers.{task_of, walked}
use Rattle.rules.specs.Program.{refused_text, too_large, search_text, rows_of}
use Rattle.input.specs.declared.Verdict.{Verdict}
use Rattle.input.specs.declared.Verdict.TheVariants.{Refused, TooLarge, Search}

-- In this order: an answer; row bytes that are no multiple of 4 are a 10; more than 16,000 pairs
-- are too large; then the search.
unfoldable pub input_verdict : ℕ → ℕ → ℕ → Verdict
input_verdict answer bytes pairs =
    pick (ltb 0 answer) (Refused answer)
    (pick (not (eqb (bytes % 4) 0)) (Refused 10)
    (pick (ltb 16000 pairs) TooLarge Search))

-- what the program prints of a query and its row bytes in each case; the law `printed-verdict`
-- (proofs/Verdicts) says that this of `input_verdict` is `printed_for`
unfoldable pub printed_verdict : Verdict → List ℕ → List ℕ → List ℕ
unfolding refused_text too_large search_text task_of walked rows_of
printed_verdict (Refused a) q r = refused_text a
printed_verdict TooLarge q r = too_large
printed_verdict Search q r = search_text (task_of q (rows_of r)) (walked (task_of q (rows_of r)) 8192 65536)

-- `test_letter::test_prepared` meets its contract by the laws of Answering, one for each way
-- through it.
use borrow.Author.Rules.{rules}
use Rattle.std.proofs.lemmas.Result.{err_from_is_err_and}
use Rattle.test_letter.proofs.Answering.{test_refuses, test_rows, test_low, test_high, test_made}
use Rattle.test_letter.proofs.test_prepared.Goals as goal
use Rattle.test_letter.proofs.test_prepared.Goals.{then-letter-lt-FIRST_LETTER-via-then-letter-lt-FIRST_LETTER, then-letter-lt-FIRST_LETTER-via-else-letter-lt-FIRST_LETTER+then-letter-gt-LAST_LETTER}

pub returns-in_err-p : goal.returns-in_err-p
returns-in_err-p c =
    let p = err_from_is_err_and c.from_residual.result c.from_residual.ensures.1 in
    rw (p.1, p.2, c.in_err-p.was) (test_refuses _ _ _ _ _)

pub returns-in_err-present : goal.returns-in_err-present
returns-in_err-present c =
    let p = err_from_is_err_and c.from_residual-in_err-present.result c.from_residual-in_err-present.ensures.1 in
    rw (p.1, p.2, c.in_ok-p.was) (test_rows _ _ _ _ _ _ c.in_err-present.ensures)

pub returns-then-letter-lt-FIRST_LETTER : goal.returns-then-letter-lt-FIRST_LETTER
returns-then-letter-lt-FIRST_LETTER c =
    rw c.in_ok-p.was (elim c.then-letter-lt-FIRST_LETTER.branch [
      | then-letter-lt-FIRST_LETTER-via-then-letter-lt-FIRST_LETTER w ↦ test_low _ _ _ _ _ _ c.in_ok-present.ensures w.if-letter-lt-FIRST_LETTER.true
      | then-letter-lt-FIRST_LETTER-via-else-letter-lt-FIRST_LETTER+then-letter-gt-LAST_LETTER w ↦ test_high _ _ _ _ _ _ c.in_ok-present.ensures w.if-letter-gt-LAST_LETTER.true
    ])

pub returns : goal.returns
returns c =
    rw c.in_ok-p.was (test_made _ _ _ _ _ _ c.in_ok-present.ensures c.if-letter-lt-FIRST_LETTER.false c.if-letter-gt-LAST_LETTER.false (search rules) _ _ _
    c.nearest.ensures.0 c.far_back-from.ensures c.tests_at.ensures _ c.judge_letter.ensures.holds c.judge_letter.ensures.count)

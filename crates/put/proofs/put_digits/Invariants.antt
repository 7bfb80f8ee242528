-- `put_digits` writes the digits from the last to the first: those from i on stand in the buffer.
use Rattle.put.proofs.Digits.{Spelling}
use Rattle.put.proofs.put_digits.Given as goal

abbrev pub invariant-loop-i : goal.invariant-loop-i
invariant-loop-i l = Spelling l.initial.buf l.at l.n l.buf l.i l.rest

-- `tests::words_for` meets its contract by the laws of Lettering. The invariant is `Counting`: the
-- letters below one are counted.
use Rattle.tests.proofs.Lettering.{Counting}
use Rattle.tests.proofs.words_for.Given as goal

abbrev pub invariant-loop-d : goal.invariant-loop-d
invariant-loop-d l = Counting l.query l.defines l.letters l.words l.d-index

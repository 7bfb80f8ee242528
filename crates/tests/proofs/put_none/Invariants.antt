-- `tests::put_none` meets its contract by the laws of Lettering. The invariant is `Clearing`: the
-- letters below l have their two words.
use Rattle.tests.proofs.Lettering.{Clearing}
use Rattle.tests.proofs.put_none.Given as goal

abbrev pub invariant-loop-l : goal.invariant-loop-l
invariant-loop-l l = Clearing l.initial.table l.tests l.letters l.table l.l

-- `tests::put_letters` meets its contract by the laws of Lettering. The invariant is `Lettering`:
-- the letters below l are done.
use Rattle.tests.proofs.Lettering.{Lettering}
use Rattle.tests.proofs.put_letters.Given as goal

abbrev pub invariant-loop-l : goal.invariant-loop-l
invariant-loop-l l = Lettering l.query l.columns l.defines l.letters l.initial.table l.tests l.table l.more l.l

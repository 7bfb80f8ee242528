-- So many places are told their tests (Loop).
use Rattle.letter_places.proofs.Loop.{Told}
use Rattle.letter_places.proofs.point.Given as goal

abbrev pub invariant-loop-q : goal.invariant-loop-q
invariant-loop-q l = Told l.initial.table l.table l.places l.tests l.q

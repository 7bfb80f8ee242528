-- The labels of the pairs from number k on are written, from index e on (`Labelling`).
use Rattle.pairs.specs.Layout.{layout}
use Rattle.matches.proofs.Labelled.{Labelling}
use Rattle.matches.proofs.put_labels.Given as goal

abbrev pub invariant-loop-k : goal.invariant-loop-k
invariant-loop-k l = Labelling (layout l.table l.places 0) l.trail l.initial.labels l.top l.end l.labels l.k l.e

-- The count is that of the rows before row i, and no more than i.
use Rattle.std.proofs.Common.{◌≡◌, ◌≤◌, take, drop}
use Rattle.labelled.specs.Labelled.{count_of}
use Rattle.labelled.proofs.count_of.Given as goal

abbrev pub invariant-loop-i : goal.invariant-loop-i
invariant-loop-i l =
    record {
      counted : l.count ≡ count_of l.letter (take l.i (drop l.at l.labels));
      few : l.count ≤ l.i;
    }

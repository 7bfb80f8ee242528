-- `rows_of` fills the rows' front: the first k numbers stand there (`Filled`).
use Rattle.input.proofs.Inputs.{Filled}
use Rattle.input.proofs.rows_of.Given as goal

abbrev pub invariant-loop-k : goal.invariant-loop-k
invariant-loop-k l = Filled l.bytes l.initial.rows l.rows l.count l.k

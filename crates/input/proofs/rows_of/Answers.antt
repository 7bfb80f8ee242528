-- `rows_of` fills the rows' front: the first k numbers stand there (`Filled`).
use Rattle.std.proofs.Common.{arith, rules}
use Rattle.input.proofs.Inputs.{filled_none, filled_more, filled_all}
use Rattle.input.proofs.rows_of.Goals as goal

pub loop-k-init : goal.loop-k-init
loop-k-init c = filled_none _ _ _ (omega arith) (omega arith)

pub loop-k-preserved : goal.loop-k-preserved
loop-k-preserved c = search (rules, filled_more)

pub returns : goal.returns
returns c = filled_all _ _ _ _ _ c.loop-k.invariant (omega arith)

-- `loops::factor_of` meets its contract.
use Rattle.loops.proofs.Laws.{factor-is}
use Rattle.loops.proofs.factor_of.Goals as goal

pub returns : goal.returns
returns c = factor-is c.args.nesting c.requires

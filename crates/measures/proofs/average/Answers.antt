-- `measures::average` meets its contract by a law of RowsOf.
use Rattle.std.proofs.Common.{rules}
use Rattle.measures.proofs.RowsOf.{average_some}
use Rattle.measures.proofs.average.Goals as goal

pub returns : goal.returns
returns c = average_some _ _ _ _ _ (search rules) _ c.joined_from-sum.ensures _ c.count_of.ensures.0 _ (search rules)

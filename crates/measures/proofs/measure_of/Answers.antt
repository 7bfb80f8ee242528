-- `measures::measure_of` meets its contract by the laws of RowsOf.
use Rattle.std.proofs.Common.{rules}
use Rattle.measures.proofs.RowsOf.{from_first, from_last}
use Rattle.measures.proofs.measure_of.Goals as goal

pub returns-in_ok-at-in-First : goal.returns-in_ok-at-in-First
returns-in_ok-at-in-First c = from_first _ _ _ _ c.in_ok-at-in-First.at (search rules) (search rules) _ (search rules)

pub returns-in_ok-at-in-Last : goal.returns-in_ok-at-in-Last
returns-in_ok-at-in-Last c = from_last _ _ _ _ c.in_ok-at-in-Last.at (search rules) (search rules) _ (search rules)

-- `tests::put_none` meets its contract by the laws of Lettering. The invariant is `Clearing`: the
-- letters below l have their two words.
use Rattle.std.proofs.Common.{arith, rules}
use Rattle.tests.proofs.Lettering.{clearing_none, clearing_more, clearing_all}
use Rattle.tests.proofs.put_none.Goals as goal

pub loop-l-init : goal.loop-l-init
loop-l-init c = search (rules, clearing_none)

pub loop-l-preserved : goal.loop-l-preserved
loop-l-preserved c = rw c.put_free.ensures (clearing_more _ _ _ _ _ c.loop-l.invariant (omega arith))

pub returns : goal.returns
returns c = clearing_all _ _ _ _ _ c.loop-l.invariant (omega arith)

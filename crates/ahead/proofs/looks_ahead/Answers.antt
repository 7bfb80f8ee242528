-- `ahead::looks_ahead` meets its contract.
use Rattle.std.proofs.Common.{refl, arith, rules}
use Rattle.std.proofs.lemmas.Iterator.{cases_from_any, YieldsList-from_range}
use Rattle.ahead.proofs.Looking.{IsAhead, NotAhead, any_looks}
use Rattle.ahead.proofs.looks_ahead.Goals as goal

pub returns : goal.returns
returns c =
    let a = c.args in
    any_looks _ _ _
    (cases_from_any _ _ _ (IsAhead a.table.now a.p) (NotAhead a.table.now a.p) c.any.ensures.ran
    (YieldsList-from_range 0 a.p.places a.p.places refl (omega arith)) (λ x q k. search rules) (λ x q k. search rules))

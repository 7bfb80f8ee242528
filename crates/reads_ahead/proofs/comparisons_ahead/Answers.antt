-- `reads_ahead::comparisons_ahead` meets its contract.
use Rattle.std.proofs.Common.{refl, arith, rules}
use Rattle.std.proofs.lemmas.Iterator.{cases_from_any, YieldsList-from_range}
use Rattle.reads_ahead.proofs.Letters.{IsAhead, NotAhead, any_ahead}
use Rattle.reads_ahead.proofs.comparisons_ahead.Goals as goal

pub returns : goal.returns
returns c =
    let a = c.args in
    any_ahead _ _ _ _ _
    (cases_from_any _ _ _ (IsAhead a.table.now a.columns a.at) (NotAhead a.table.now a.columns a.at) c.any.ensures.ran
    (YieldsList-from_range 0 a.count a.count refl (omega arith)) (λ x q k. search rules) (λ x q k. search rules))

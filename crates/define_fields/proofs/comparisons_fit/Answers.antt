-- `define_fields::comparisons_fit` meets its contract by a law of DefineRules.
use Rattle.std.proofs.Common.{rules, refl, tests, arith, ◌∙◌}
use Rattle.std.proofs.lemmas.Iterator.{YieldsList-from_range}
use Rattle.std.proofs.lemmas.Iterator.Search.{all_from_yields_List}
use Rattle.define_fields.specs.Fields.{fits_at}
use Rattle.define_fields.proofs.DefineRules.{all_below}
use Rattle.define_fields.proofs.comparisons_fit.Goals as goal

pub returns : goal.returns
unfolding fits_at
returns c =
    let f = fits_at c.args.s.now c.args.columns c.args.p in
    all_from_yields_List f _ _ _ c.all.ensures.ran (YieldsList-from_range 0 c.args.count c.args.count refl (omega arith)) (λ x b q k. search (rules, tests)) ∙ all_below f c.args.count

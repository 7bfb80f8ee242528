-- `body_sizes::whole_size` meets its contract. Laws: SizeLaws, ForkLaws.
use Rattle.body_sizes.proofs.SizeLaws.{whole-alt, whole-one, whole-fits}
use native.Mathlib.Omega.{arith}
use Rattle.body_sizes.proofs.whole_size.Goals as goal

pub overflow_add-result : goal.overflow_add-result
overflow_add-result c = whole-fits _ _ _ c.requires c.places_at-c.ensures _
    (omega arith)

pub returns-in-Alternation : goal.returns-in-Alternation
returns-in-Alternation c = whole-alt _ _ _ _ c.places_at-c.ensures c.sort_at.ensures c.in-Alternation.is

pub returns : goal.returns
returns c = whole-one _ _ _ _ c.places_at-c.ensures c.sort_at.ensures c.in_default.not-Alternation

-- `comparisons::compare` meets its contract by the laws of Comparing.
use Rattle.comparisons.proofs.Comparing.{by_bits}
use Rattle.std.proofs.Common.{refl}
use Rattle.comparisons.proofs.compare.Goals as goal

pub returns : goal.returns
returns c = by_bits _ _ _ c.ranges.a c.ranges.b _ _ _ _ c.requires refl c.from.ensures refl c.from-2.ensures

-- `comparisons::number_at` meets its contract by the laws of Reading.
use Rattle.comparisons.proofs.Reading.{number_is}
use Rattle.comparisons.proofs.number_at.Goals as goal

pub returns : goal.returns
returns c = number_is _ _ _ _ _ _ c.from.ensures c.from-2.ensures c.signed_word.ensures.0 c.signed_word.ensures.1 c.from-3.ensures

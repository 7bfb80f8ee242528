-- `reads_ahead::comparison_ahead` meets its contract: a law for each way through it.
use Rattle.std.proofs.Common.{◌∙◌}
use Rattle.reads_ahead.proofs.Spots.{left-ahead, right-ahead}
use Rattle.reads_ahead.proofs.comparison_ahead.Goals as goal

pub returns-then-spot_ahead : goal.returns-then-spot_ahead
returns-then-spot_ahead c = c.if-spot_ahead.true ∙ left-ahead _ _ _ _ c.word_at.ensures.0 _ c.spot_ahead.ensures c.if-spot_ahead.true

pub returns-else-spot_ahead : goal.returns-else-spot_ahead
returns-else-spot_ahead c =
    right-ahead _ _ _ _ c.word_at.ensures.0 _ c.spot_ahead.ensures c.if-spot_ahead.false _ c.word_at-else-spot_ahead.ensures.0 _ c.spot_ahead-else-spot_ahead.ensures

-- `reads_ahead::spot_ahead` meets its contract: a law for each way through it.
use Rattle.reads_ahead.proofs.Spots.{spot_is}
use borrow.Author.Rules.{rules}
use Rattle.reads_ahead.proofs.spot_ahead.Goals as goal

pub returns : goal.returns
returns c = search (rules, spot_is)

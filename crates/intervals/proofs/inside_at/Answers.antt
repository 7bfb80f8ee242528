-- `intervals::inside_at` meets its contract by a law of Words.
use Rattle.intervals.proofs.Words.{held-few, from-words}
use Rattle.std.proofs.Common.{rules}
use Rattle.intervals.proofs.inside_at.Goals as goal

pub inside-requires : goal.inside-requires
inside-requires c = search (rules, held-few)

pub returns : goal.returns
returns c = search (rules, from-words)

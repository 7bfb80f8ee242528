-- `intervals::word64_at` meets its contract by a law of Words.
use Rattle.intervals.proofs.Words.{four-words}
use Rattle.std.proofs.Common.{rules}
use Rattle.intervals.proofs.word64_at.Goals as goal

pub returns : goal.returns
returns c = search (rules, four-words)

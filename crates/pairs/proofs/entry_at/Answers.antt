-- `pairs::entry_at` meets its contract by the laws of Small.
use borrow.Author.Rules.{rules}
use Rattle.pairs.proofs.Small.{entry-with, entry-without}
use Rattle.pairs.proofs.entry_at.Goals as goal

pub returns-then-count_at-gt1 : goal.returns-then-count_at-gt1
returns-then-count_at-gt1 c = entry-with _ _ _ c.count_at.ensures.0 c.requires.1 c.if-count_at-gt1.true

pub returns : goal.returns
returns c = entry-without _ _ _ c.count_at.ensures.0 c.requires.1 c.if-count_at-gt1.false

-- `pairs::way_after` meets its contract by the laws of Small.
use Rattle.pairs.proofs.Small.{after_more, after_none}
use borrow.Author.Rules.{rules}
use Rattle.pairs.proofs.way_after.Goals as goal

pub returns-then-j-count : goal.returns-then-j-count
returns-then-j-count c = after_more _ _ (c.requires.1) (c.if-j-count.true)

pub returns : goal.returns
returns c = after_none _ _ (c.if-j-count.false)

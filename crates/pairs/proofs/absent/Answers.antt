-- `pairs::absent` meets its contract by the laws of Small.
use Rattle.pairs.proofs.Small.{absent_more, absent_none}
use borrow.Author.Rules.{rules}
use Rattle.pairs.proofs.absent.Goals as goal

pub returns-then-more : goal.returns-then-more
returns-then-more c = absent_more _ c.args.w _ _ c.if-more.true

pub returns : goal.returns
returns c = absent_none _ c.args.w _ _ c.if-more.false _ _ c.fails.ensures

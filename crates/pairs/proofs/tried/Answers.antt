-- `pairs::tried` meets its contract by the laws of Small.
use Rattle.pairs.proofs.Small.{tried-is}
use borrow.Author.Rules.{rules}
use Rattle.pairs.proofs.tried.Goals as goal

pub returns : goal.returns
returns c = search (rules, tried-is)

-- `search::search` meets its contract by the laws of Answering.
use Rattle.search.proofs.Answering.{unlimited}
use borrow.Author.Rules.{rules}
use Rattle.search.proofs.search.Goals as goal

pub returns : goal.returns
returns c = search (rules, unlimited)

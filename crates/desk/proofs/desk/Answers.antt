-- `desk::desk` meets its contract by the law of Telling.
use Rattle.desk_query.specs.Query.{desk_query}
use Rattle.desk.proofs.Telling.{desk_told}
use borrow.Author.Rules.{rules}
use Rattle.desk.proofs.desk.Goals as goal

pub returns : goal.returns
unfolding desk_query
returns c = search (rules, desk_told)

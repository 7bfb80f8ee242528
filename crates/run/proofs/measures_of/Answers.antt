-- `measures_of` counts the measures that reading the query found.
use borrow.Author.Rules.{rules}
use Rattle.reading.proofs.Short.{all_nodes}
use Rattle.run.proofs.Running.{measures_counted, none_counted}
use Rattle.run.proofs.measures_of.Goals as goal

pub read_query-requires : goal.read_query-requires
read_query-requires c = search (rules, all_nodes)

pub returns-in-Ok : goal.returns-in-Ok
returns-in-Ok c = measures_counted _ _ _ _ _ _ c.in-Ok.ensures

pub returns-in-Err : goal.returns-in-Err
returns-in-Err c = none_counted _ _ _ _ _ _ _ c.in-Err.ensures

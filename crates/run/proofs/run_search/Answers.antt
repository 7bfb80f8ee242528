-- `run_search` prints the report of the search's promise: the law `report-put` says that this is
-- the search's text.
use native.Mathlib.Omega.{arith}
use borrow.Author.Rules.{rules}
use Rattle.run.proofs.Running.{numbers-there, report-put}
use Rattle.run.proofs.run_search.Goals as goal

pub put_report-requires : goal.put_report-requires
put_report-requires c = record { measures_in_bounds = search (rules, numbers-there); labels_in_bounds = omega arith }

pub returns : goal.returns
returns c =
    report-put _ _ c.requires.found _ _ _ _ _ _ _ _ _ c.search-end.ensures _ c.measures_of-measures.ensures (search rules) (search rules) (search rules) (search rules) _ _
    c.put_report.ensures

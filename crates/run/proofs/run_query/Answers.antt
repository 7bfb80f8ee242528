-- `run_query` prints what the verdict prints: one law of proofs/Joined for each.
use native.Mathlib.Omega.{arith}
use borrow.Author.Rules.{rules}
use Rattle.run.proofs.Joined.{rows-within, rows_long, query_refused, query_large, query_found, query_searched}
use Rattle.run.proofs.run_query.Goals as goal

pub slice_bounds-rows-end : goal.slice_bounds-rows-end
slice_bounds-rows-end c = search (rules, rows-within)

pub slice_bounds-verdict_on-end : goal.slice_bounds-verdict_on-end
slice_bounds-verdict_on-end c = search (rules, rows_long)

pub slice_bounds-rows-end-in-Search : goal.slice_bounds-rows-end-in-Search
slice_bounds-rows-end-in-Search c = search (rules, rows-within)

pub slice_bounds-run_search-end : goal.slice_bounds-run_search-end
slice_bounds-run_search-end c = search (rules, rows_long)

pub run_search-requires : goal.run_search-requires
run_search-requires c = record { found = search (rules, query_found); in_bounds = omega arith }

pub returns-in-Refused : goal.returns-in-Refused
returns-in-Refused c = search (rules, query_refused)

pub returns-in-TooLarge : goal.returns-in-TooLarge
returns-in-TooLarge c = search (rules, query_large)

pub returns-in-Search : goal.returns-in-Search
returns-in-Search c = search (rules, query_searched)

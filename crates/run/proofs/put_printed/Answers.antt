-- `put_printed` writes what the input's case prints: one law of proofs/Running for each. Where the query
-- and the rows lie is `case_parted`'s to say.
use native.Mathlib.Omega.{arith}
use lib.ListN.{length-take, length-drop}
use borrow.Author.Rules.{rules}
use Rattle.run.proofs.Running.{case_parted, ran_refused, ran_large, ran_query}
use Rattle.run.proofs.put_printed.Goals as goal

pub slice_bounds-run_query-count : goal.slice_bounds-run_query-count
slice_bounds-run_query-count c = let p = case_parted _ _ c.input_of-case.ensures _ c.in-Go.is in omega arith

pub slice_bounds-run_query-start : goal.slice_bounds-run_query-start
slice_bounds-run_query-start c = let p = case_parted _ _ c.input_of-case.ensures _ c.in-Go.is in omega arith

pub slice_bounds-run_query-end : goal.slice_bounds-run_query-end
slice_bounds-run_query-end c = let p = case_parted _ _ c.input_of-case.ensures _ c.in-Go.is in omega arith

pub slice_bounds-run_query-count-in-Go : goal.slice_bounds-run_query-count-in-Go
slice_bounds-run_query-count-in-Go c = let p = case_parted _ _ c.input_of-case.ensures _ c.in-Go.is in omega arith

pub slice_bounds-run_query-start-in-Go : goal.slice_bounds-run_query-start-in-Go
slice_bounds-run_query-start-in-Go c = let p = case_parted _ _ c.input_of-case.ensures _ c.in-Go.is in omega arith

pub run_query-requires : goal.run_query-requires
run_query-requires c =
    let p = case_parted _ _ c.input_of-case.ensures _ c.in-Go.is in record {
      bytes_len_bound = simp (length-take, length-drop) (omega arith);
      in_bounds = omega arith;
    }

pub returns-in-Refused : goal.returns-in-Refused
returns-in-Refused c = search (rules, ran_refused)

pub returns-in-TooLarge : goal.returns-in-TooLarge
returns-in-TooLarge c = search (rules, ran_large)

pub returns-in-Go : goal.returns-in-Go
returns-in-Go c = search (rules, ran_query)

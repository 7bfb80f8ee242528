-- `depots::partition` meets its contract by the laws of Calling.
use Rattle.depots.proofs.Calling.{call-short, call-further, answer_small, call-listed, call-unlisted, counts_asked, call-counted}
use mathlib.Core.List.{[]}
use borrow.Author.Rules.{rules}
use Rattle.depots.proofs.partition.Goals as goal

pub returns-then-state-lt-LENGTH : goal.returns-then-state-lt-LENGTH
returns-then-state-lt-LENGTH c = search (rules, call-short)

pub returns-then-taken-ge-MOST : goal.returns-then-taken-ge-MOST
returns-then-taken-ge-MOST c = search (rules, call-further)

pub list_one-requires : goal.list_one-requires
list_one-requires c = record { long = search rules; left = search rules; small = search (rules, answer_small) }

pub returns-then-list_one : goal.returns-then-list_one
returns-then-list_one c = search (rules, call-listed)

pub returns-then-answer-ne0 : goal.returns-then-answer-ne0
returns-then-answer-ne0 c = search (rules, call-unlisted)

pub count_done-requires : goal.count_done-requires
count_done-requires c = counts_asked _ _ _ _ _ _ _ [] _ _ _ _ _ c.search_partition-r.ensures (search rules) (search rules) (search rules)

pub returns : goal.returns
returns c = search (rules, call-counted)

-- `sweep::starts` meets its contract by the laws of Going. The invariant and the measure of its loop
-- come first.
use Rattle.sweep.proofs.Going.{going_none, going_visits, going_numbers, going_labels, going_over, going_less, going_more, going_all, going_waits}
use borrow.Author.Rules.{rules}
use Rattle.sweep.proofs.starts.Goals as goal

pub loop-i-init : goal.loop-i-init
loop-i-init c = search (rules, going_none)

pub visit-i-requires : goal.visit-i-requires
visit-i-requires c = search (rules, going_visits)

pub shape_of-numbers-then-i-ne-DONE : goal.shape_of-numbers-then-i-ne-DONE
shape_of-numbers-then-i-ne-DONE c = search (rules, going_numbers)

pub shape_of-labels-then-i-ne-DONE : goal.shape_of-labels-then-i-ne-DONE
shape_of-labels-then-i-ne-DONE c = search (rules, going_labels)

pub returns-then-i-ne-DONE : goal.returns-then-i-ne-DONE
returns-then-i-ne-DONE c = search (rules, going_over)

pub loop-i-smaller : goal.loop-i-smaller
loop-i-smaller c = search (rules, going_less)

pub loop-i-preserved : goal.loop-i-preserved
loop-i-preserved c = search (rules, going_more)

pub returns-then-size : goal.returns-then-size
returns-then-size c = search (rules, going_waits)

pub returns : goal.returns
returns c = search (rules, going_all)

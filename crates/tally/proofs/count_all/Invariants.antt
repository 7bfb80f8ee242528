-- `count_all`: the first i matches have been counted.
use Rattle.tally.proofs.Reading.{Counting}
use Rattle.tally.proofs.count_all.Given as goal

abbrev pub invariant-loop-i : goal.invariant-loop-i
invariant-loop-i l = Counting l.initial.cells l.cells l.report.rows.now l.report.columns l.named l.report.numbers.now l.report.stride l.matches l.i

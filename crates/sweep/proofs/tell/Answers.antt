-- `sweep::tell` meets its contract by the laws of Visiting.
use Rattle.sweep.proofs.Visiting.{tell_row, tell_top, tell_reports, tell_halted, tell_waits, tell_none, tell_path}
use borrow.Author.Rules.{rules}
use Rattle.sweep.proofs.tell.Goals as goal

pub returns-then-w-eq-ENTER : goal.returns-then-w-eq-ENTER
returns-then-w-eq-ENTER c = search (rules, tell_halted)

pub overflow_add-result : goal.overflow_add-result
overflow_add-result c = search (rules, tell_top)

pub returns-then-w-eq-WAITS : goal.returns-then-w-eq-WAITS
returns-then-w-eq-WAITS c = search (rules, tell_waits)

pub overflow_add-result-then-w-eq0 : goal.overflow_add-result-then-w-eq0
overflow_add-result-then-w-eq0 c = search (rules, tell_row)

pub returns-then-w-eq0 : goal.returns-then-w-eq0
returns-then-w-eq0 c = search (rules, tell_none)

pub write_match-requires : goal.write_match-requires
write_match-requires c = search (rules, tell_reports)

pub returns : goal.returns
returns c = search (rules, tell_path)

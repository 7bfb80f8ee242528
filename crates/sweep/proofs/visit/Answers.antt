-- `sweep::visit` meets its contract by the laws of Visiting.
use Rattle.sweep.proofs.Visiting.{visit_ready, visit_tells, visit_told}
use borrow.Author.Rules.{rules}
use Rattle.sweep.proofs.visit.Goals as goal

pub attempt-w-requires : goal.attempt-w-requires
attempt-w-requires c = search (rules, visit_ready)

pub tell-requires : goal.tell-requires
tell-requires c = visit_tells _ _ _ _ _ _ _ c.requires _ _ _ c.attempt-w.ensures

pub returns : goal.returns
returns c = search (rules, visit_told)

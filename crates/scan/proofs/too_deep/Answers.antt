-- `scan::too_deep` meets its contract. Laws: Laws.
use Rattle.scan.proofs.Laws.{deep-end, deep-found, deep_more}
use borrow.Author.Rules.{rules}
use Rattle.scan.proofs.too_deep.Goals as goal

pub returns-then-d : goal.returns-then-d
returns-then-d c = deep-found _ _ _ c.loop-b.invariant c.loop-b-test.true _ c.behind-d.ensures c.if-d.true

pub loop-b-preserved : goal.loop-b-preserved
loop-b-preserved c = deep_more _ _ _ c.loop-b.invariant c.loop-b-test.true _ c.behind-d.ensures c.if-d.false

pub returns : goal.returns
returns c = search (rules, deep-end)

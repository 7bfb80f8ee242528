-- `tests::more_of` meets its contract by the laws of Lettering.
use native.Mathlib.Omega.{arith}
use Rattle.tests.proofs.Lettering.{none-counted, some-counted, entries-counted}
use Rattle.tests.proofs.more_of.Goals as goal

pub returns-then-d-eq0 : goal.returns-then-d-eq0
returns-then-d-eq0 c = none-counted _ _ c.if-d-eq0.true

pub le16_at-requires : goal.le16_at-requires
le16_at-requires c = let h = c.requires c.if-d-eq0.false in let a = h.header in let b = h.there in omega arith

pub returns-then-le16_at-eq-ALL_OF : goal.returns-then-le16_at-eq-ALL_OF
returns-then-le16_at-eq-ALL_OF c = some-counted _ _ (c.requires c.if-d-eq0.false) c.if-d-eq0.false _ c.from-count.ensures _ c.le16_at.ensures.0 c.if-le16_at-eq-ALL_OF.true

pub returns : goal.returns
returns c = entries-counted _ _ (c.requires c.if-d-eq0.false) c.if-d-eq0.false _ c.from-count.ensures _ c.le16_at.ensures.0 c.if-le16_at-eq-ALL_OF.false

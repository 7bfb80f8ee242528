-- `pairs::anchor_passes` meets its contract by the laws of Small.
use Rattle.pairs.proofs.Small.{passes_caret, passes_dollar, passes_any}
use Rattle.pairs.proofs.anchor_passes.Goals as goal

pub returns-then-c-eq-CARET : goal.returns-then-c-eq-CARET
returns-then-c-eq-CARET c = λ h. passes_caret h _ _ _ c.if-c-eq-CARET.true

pub returns-then-c-eq-DOLLAR : goal.returns-then-c-eq-DOLLAR
returns-then-c-eq-DOLLAR c = λ h. passes_dollar h _ _ _ c.if-c-eq-DOLLAR.true

pub returns : goal.returns
returns c = λ h. passes_any h _ _ _ c.requires c.if-c-eq-CARET.false c.if-c-eq-DOLLAR.false

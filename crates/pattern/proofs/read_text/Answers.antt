-- `pattern::read_text` meets its contract. Laws: TextLaws.
use Rattle.pattern.proofs.TextLaws.{text-none, text-rest, text-whole}
use Rattle.std.proofs.lemmas.Result.{err_from_is_err_and}
use Rattle.pattern.proofs.read_text.Goals as goal

pub returns-in_err-p : goal.returns-in_err-p
returns-in_err-p c =
    let p = err_from_is_err_and c.from_residual.result c.from_residual.ensures.1 in rw (p.1, p.2) (text-none _ _ _ _ _ c.skip-from.ensures c.in_err-p.ensures)

pub returns-then-p-text : goal.returns-then-p-text
returns-then-p-text c = text-rest _ _ _ _ _ c.skip-from.ensures c.in_ok-p.ensures c.if-p-text.true

pub returns : goal.returns
returns c = text-whole _ _ _ _ _ c.skip-from.ensures c.in_ok-p.ensures c.if-p-text.false

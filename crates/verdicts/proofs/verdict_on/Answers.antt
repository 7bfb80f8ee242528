-- `verdict_on` meets its contract by the laws of Saying.
use Rattle.std.proofs.Common.{rules}
use Rattle.verdicts.proofs.Saying.{says-handed, says-released}
use Rattle.verdicts.proofs.verdict_on.Goals as goal

pub returns-then-answer-ne0 : goal.returns-then-answer-ne0
returns-then-answer-ne0 c = search (rules, says-handed)

pub returns : goal.returns
returns c = search (rules, says-released)

-- `release_of` meets its contract by the laws of Saying.
use Rattle.std.proofs.Common.{rules}
use Rattle.verdicts.proofs.Saying.{says-unreadable, says-cleared, says-held}
use Rattle.verdicts.proofs.release_of.Goals as goal

pub returns-then-is_unreadable : goal.returns-then-is_unreadable
returns-then-is_unreadable c = search (rules, says-unreadable)

pub returns-then-matches-ne0 : goal.returns-then-matches-ne0
returns-then-matches-ne0 c = search (rules, says-cleared)

pub returns : goal.returns
returns c = search (rules, says-held)

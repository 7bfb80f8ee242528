-- `skips::last_with` meets its contract by a law of Nexts.
use Rattle.std.proofs.Common.{rules}
use Rattle.skips.proofs.Nexts.{last_row}
use Rattle.skips.proofs.last_with.Goals as goal

pub returns-clause-last : goal.returns-clause-last
returns-clause-last c = last_row _ _ _ (search rules)

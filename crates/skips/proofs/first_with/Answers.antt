-- `skips::first_with` meets its contract by a law of Nexts.
use Rattle.std.proofs.Common.{rules}
use Rattle.skips.proofs.Nexts.{first_row}
use Rattle.skips.proofs.first_with.Goals as goal

pub returns-clause-first : goal.returns-clause-first
returns-clause-first c = first_row _ _ _ (search rules)

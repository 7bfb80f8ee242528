-- `scan::has_byte` meets its contract. Laws: Laws.
use Rattle.scan.proofs.Laws.{has-any}
use mathlib.Core.Path.{◌∙◌}
use Rattle.scan.proofs.has_byte.Goals as goal

pub returns : goal.returns
returns c = c.contains.ensures.value ∙ has-any _ _

-- `scan::too_deep` meets its contract. Laws: Laws.
use Rattle.scan.proofs.Laws.{Deep}
use Rattle.scan.proofs.too_deep.Given as goal

abbrev pub invariant-loop-b : goal.invariant-loop-b
invariant-loop-b l = Deep l.text l.d l.b-index

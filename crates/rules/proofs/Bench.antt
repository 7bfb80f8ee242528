-- The bench sheet of document 01, W1 to W12, as one statement: the definitions agree with every
-- line of the table.
use Rattle.rules.specs.Basics.{every}
use Rattle.rules.specs.Bench.{sheet, agrees}
use lib.Dec.{T}

pub sheet-holds : T (every agrees sheet)
unfolding every agrees sheet
sheet-holds = tt

-- The numbers of the first k measures are written.
use Rattle.std.proofs.Common.{◌≡◌}
use Rattle.rules.specs.Basics.{wrote}
use Rattle.rules.specs.Report.{measure_numbers}
use Rattle.rules.specs.Rows.{table_of}
use Rattle.table.specs.Measures.{measures_in}
use Rattle.report.proofs.put_measures.Given as goal

abbrev pub invariant-loop-k : goal.invariant-loop-k
invariant-loop-k l = l.numbers
    ≡ wrote l.initial.numbers l.at (measure_numbers (table_of l.of.columns l.of.rows.now) l.of.first l.of.labels.now (measures_in l.table l.measures.at l.k))

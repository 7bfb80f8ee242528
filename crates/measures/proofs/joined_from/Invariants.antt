-- The value is what the rows before row i give together, and small.
use Rattle.std.proofs.Common.{◌≡◌, ◌*◌, ◌+◌, ◌≤◌, drop}
use lib.Signed.{mag}
use mathlib.Core.Option.{some}
use Rattle.rules.specs.Report.{values, over_some, join_all}
use Rattle.rules.specs.Rows.{table_of}
use Rattle.measure_list.specs.Measures.{measure_of}
use Rattle.joins.specs.Entries.{number_of}
use Rattle.measures.proofs.joined_from.Given as goal

abbrev pub invariant-loop-i : goal.invariant-loop-i
invariant-loop-i l =
    let t = table_of l.of.columns l.of.rows.now in
    record {
      small : mag l.value ≤ 2147483648 * l.i;
      goes : over_some (number_of l.join) (values t (measure_of l.m) l.of.first l.of.labels.now)
          ≡ some (join_all (number_of l.join) l.value (values t (measure_of l.m) (l.of.first + l.i) (drop l.i l.of.labels.now)));
    }

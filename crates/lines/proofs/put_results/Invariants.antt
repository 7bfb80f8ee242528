-- `put_results` writes the results of the measures: the first k of them are written (`Resulted`).
use Rattle.std.proofs.Common.{◌≡◌, ◌+◌, ◌*◌, ◌-◌}
use Rattle.header.proofs.Lines.{Resulted}
use Rattle.lines.proofs.put_results.Given as goal

abbrev pub invariant-loop-k : goal.invariant-loop-k
invariant-loop-k l = record {
  same : l.out.buf.ghost_name ≡ l.initial.out.buf.ghost_name;
  put : Resulted l.initial.out.buf.now l.initial.out.at l.measures l.numbers l.first l.out.buf.now (l.measures - l.k) (l.first + 2 * l.k) l.out.at;
}

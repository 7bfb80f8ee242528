-- `put_lines` writes the matches' lines: the first k of them are written (`Lined`).
use Rattle.std.proofs.Common.{◌≡◌, ◌+◌, ◌*◌, ◌-◌}
use Rattle.header.proofs.Lines.{Lined}
use Rattle.text.proofs.put_lines.Given as goal

abbrev pub invariant-loop-k : goal.invariant-loop-k
invariant-loop-k l = record {
  same : l.out.buf.ghost_name ≡ l.initial.out.buf.ghost_name;
  put : Lined l.initial.out.buf.now l.initial.out.at l.matches l.measures l.numbers l.labels l.out.buf.now (l.matches - l.k) (l.k * (3 + 2 * l.measures)) l.label l.out.at;
}

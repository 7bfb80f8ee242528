-- `put_lines` writes the matches' lines, by the laws of proofs/Lines of header.
use Rattle.std.proofs.Common.{refl, arith, rules}
use Rattle.header.proofs.Lines.{lines_start, lines_all, lines_more, lines_step}
use Rattle.text.proofs.put_lines.Goals as goal

pub loop-k-init : goal.loop-k-init
loop-k-init c = record { same = refl; put = lines_start _ _ _ _ _ _ c.requires.measures_in_bounds c.requires.labels_in_bounds }

pub returns : goal.returns
returns c = record { same = c.loop-k.invariant.same; put = lines_all _ _ _ _ _ _ _ _ _ _ _ c.loop-k.invariant.put (omega arith) }

pub loop-k-preserved : goal.loop-k-preserved
loop-k-preserved c = record {
  same = cc;
  put =
      lines_step _ _ _ _ _ _ _ _ _ _
      (lines_more _ _ _ _ _ _ _ _ _ _ _ c.loop-k.invariant.put (omega arith) _ _ (search rules) c.unsigned_abs-rows.ensures.value (search rules)
      _ _ c.put_line.ensures.put.put c.put_line.ensures.upper_bound);
}

-- `put_results` writes the results of the measures, by the laws of proofs/Lines.
use Rattle.std.proofs.Common.{refl, arith, rules}
use Rattle.header.proofs.Lines.{results_start, results_all, results_room_1, results_more, results_step}
use Rattle.lines.proofs.put_results.Goals as goal

pub loop-k-init : goal.loop-k-init
loop-k-init c = record { same = refl; put = results_start _ _ _ _ _ c.requires.measures_in_bounds c.requires.out_in_bounds }

pub put_result-requires : goal.put_result-requires
put_result-requires c = results_room_1 _ _ _ _ _ _ _ _ _ c.loop-k.invariant.put (omega arith) _ _ c.put_byte.ensures.put (search rules) (search rules)

pub loop-k-preserved : goal.loop-k-preserved
loop-k-preserved c = record {
  same = cc;
  put =
      results_step _ _ _ _ _ _ _ _
      (results_more _ _ _ _ _ _ _ _ _ c.loop-k.invariant.put (omega arith) _ _ c.put_byte.ensures.put (search rules) (search rules) _ _ c.put_result.ensures.put);
}

pub returns-clause-put : goal.returns-clause-put
returns-clause-put c = record { same = c.loop-k.invariant.same; put = results_all _ _ _ _ _ _ _ _ _ c.loop-k.invariant.put (omega arith) }

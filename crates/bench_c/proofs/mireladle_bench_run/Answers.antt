-- The query has an answer of its own.
use Rattle.bench_c.proofs.Flattening.{own_answer}
use Rattle.bench_c.proofs.mireladle_bench_run.Goals as goal

pub returns-then-p-ne0 : goal.returns-then-p-ne0
returns-then-p-ne0 c = own_answer _ _ _ _ _ _ _ _ c.if-p-ne0.true

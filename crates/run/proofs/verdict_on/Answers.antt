-- `verdict_on` gives the definition's verdict: the laws of proofs/Joined on what `room` says.
use mathlib.Core.Path.{◌∙◌, ap}
use Prim.Native.Nat.{ℕ}
use Rattle.input.specs.Verdict.{input_verdict}
use Rattle.run.proofs.Joined.{room_rows, room_entries, room_pairs, same_verdict}
use Rattle.run.proofs.verdict_on.Goals as goal

pub overflow_mul-pairs : goal.overflow_mul-pairs
overflow_mul-pairs c = room_entries _ _ _ c.in-Ok.ensures

pub overflow_add-pairs : goal.overflow_add-pairs
overflow_add-pairs c = room_rows _ _ _ c.in-Ok.ensures

pub overflow_mul-pairs-in-Ok : goal.overflow_mul-pairs-in-Ok
overflow_mul-pairs-in-Ok c = room_pairs _ _ _ c.in-Ok.ensures

pub returns-in-Ok : goal.returns-in-Ok
returns-in-Ok c = c.verdict_of.ensures ∙ same_verdict _ _ _ c.in-Ok.ensures c.args.bytes

pub returns-in-Err : goal.returns-in-Err
returns-in-Err c = c.verdict_of-in-Err.ensures ∙ ap (λ (a : ℕ). input_verdict a c.args.bytes 0) c.answer.ensures ∙ same_verdict _ _ _ c.in-Err.ensures c.args.bytes

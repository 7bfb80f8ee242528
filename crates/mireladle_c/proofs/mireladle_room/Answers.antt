-- `mireladle_c::mireladle_room` meets its contract by the laws of Small.
use native.Mathlib.Omega.{arith}
use Rattle.mireladle_c.proofs.Small.{pairs_fit}
use Rattle.mireladle_c.proofs.mireladle_room.Goals as goal

pub overflow_mul-result : goal.overflow_mul-result
overflow_mul-result c = let h = pairs_fit _ _ _ c.in-Ok.ensures in omega (arith, h.1)

pub overflow_add-result : goal.overflow_add-result
overflow_add-result c = let h = pairs_fit _ _ _ c.in-Ok.ensures in omega (arith, h.0)

pub overflow_mul-result-in-Ok : goal.overflow_mul-result-in-Ok
overflow_mul-result-in-Ok c = let h = pairs_fit _ _ _ c.in-Ok.ensures in omega (arith, h.2)

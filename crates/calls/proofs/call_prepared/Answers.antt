-- `calls::call_prepared` meets its contract by the laws of Refusing, one for each way through it.
use mathlib.Core.Path.{refl}
use Rattle.calls.proofs.Refusing.{own_refuses, may_look, entries_fit, part_long, may_go, call_refuses, call_taken}
use Rattle.calls.proofs.call_prepared.Goals as goal

pub returns-in-Err : goal.returns-in-Err
returns-in-Err c = rw c.in-Err.is (own_refuses _ _ c.requires.1 _ _ _ _ _ _ _ c.refuse_by.ensures)

pub admit-requires : goal.admit-requires
admit-requires c = may_look _ _ (rw c.in-Ok.is at c.requires.0)

pub overflow_mul-part : goal.overflow_mul-part
overflow_mul-part c = entries_fit _ _ (rw c.in-Ok.is at c.requires.0) _ _ _ _ _ _ c.in-Ok-admit.ensures

pub slice_bounds-part-end : goal.slice_bounds-part-end
slice_bounds-part-end c = part_long _ _ (rw c.in-Ok.is at c.requires.0) _ _ _ _ _ _ c.in-Ok-admit.ensures

pub go-requires : goal.go-requires
go-requires c = may_go _ _ (rw c.in-Ok.is at c.requires.0) _ _ _ _ _ _ c.in-Ok-admit.ensures

pub returns-in-Ok-admit : goal.returns-in-Ok-admit
returns-in-Ok-admit c = rw c.in-Ok.is (call_taken _ _ c.requires.1 _ _ _ _ _ _ _ c.in-Ok-admit.ensures _ refl _ _ _ _ _ c.go.ensures)

pub returns-in-Err-admit : goal.returns-in-Err-admit
returns-in-Err-admit c = rw c.in-Ok.is (call_refuses _ _ c.requires.1 _ _ _ _ _ _ _ c.in-Err-admit.ensures _ c.refuse_by-in-Err-admit.ensures)

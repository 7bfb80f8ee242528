-- The functions `body`, `branches`, `emit`, `rounds` of places, which call each other, meet their
-- contracts. The measure: first the node's height, then the function and the rounds left (EmitLaws,
-- measures). Invariants of the loops: EmitLeft, BranchesLeft, RoundsLeft. Laws: ForkLaws,
-- EmitLaws, LoopLaws.
use Rattle.std.proofs.Common.{◌-◌, Some}
use Rattle.unrolling.proofs.EmitLaws.{emit_m, branch_m, round_m, body_m}
use Rattle.unrolling.proofs.LoopLaws.{EmitLeft, BranchesLeft, RoundsLeft}
use Rattle.unrolling.proofs.+body_branches_emit_rounds.Given as goal

abbrev pub decreases-body : goal.decreases-body
decreases-body l = body_m l.room.now l.i

abbrev pub decreases-branches : goal.decreases-branches
decreases-branches l = branch_m l.room.now l.i

abbrev pub decreases-emit : goal.decreases-emit
decreases-emit l = emit_m l.room.now l.i

abbrev pub decreases-rounds : goal.decreases-rounds
decreases-rounds l = round_m l.room.now l.f.node

abbrev pub invariant-branches-loop-o : goal.invariant-branches-loop-o
invariant-branches-loop-o l = BranchesLeft l.o l.room l.i l.initial.table l.b l.w l.k l.node l.table l.from l.way

abbrev pub decreases-branches-loop-o : goal.decreases-branches-loop-o
decreases-branches-loop-o l = branch_m l.room l.node

abbrev pub invariant-emit-loop-table : goal.invariant-emit-loop-table
invariant-emit-loop-table l = EmitLeft l.o l.room l.i l.initial.table l.b l.w l.k l.node l.table l.from l.way

abbrev pub decreases-emit-loop-table : goal.decreases-emit-loop-table
decreases-emit-loop-table l = emit_m l.room l.node

abbrev pub invariant-rounds-copies : goal.invariant-rounds-copies
invariant-rounds-copies l = RoundsLeft l.o l.room l.f.node l.f.body l.f.lazy l.f.empty l.f.copies l.f.turns l.f.end l.fn.table l.b l.w l.f.behind (l.f.copies - l.counter) l.f.turns l.table l.from l.way

abbrev pub invariant-rounds-turns : goal.invariant-rounds-turns
invariant-rounds-turns l = RoundsLeft l.o l.room l.f.node l.f.body l.f.lazy l.f.empty l.f.copies l.f.turns l.f.end l.fn.table l.b l.w l.f.behind 0 (Some (l.turns - l.counter)) l.table l.from l.way

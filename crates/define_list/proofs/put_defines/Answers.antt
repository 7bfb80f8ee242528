-- `define_list::put_defines` meets its contract by the laws of Defines and Reading.
use Rattle.std.proofs.Common.{rules, arith, sym, refl}
use Rattle.std.proofs.lemmas.Grind.{common_steps}
use Rattle.records.proofs.Reading.{fewer}
use Rattle.define_list.proofs.Defines.{lettering_none, lettering_end, lettering_cut, lettering_room, lettering_more, lettering_over}
use Rattle.define_list.proofs.put_defines.Goals as goal

pub loop-at-init : goal.loop-at-init
loop-at-init c = search (rules, lettering_none)

pub put_define-twice-requires : goal.put_define-twice-requires
put_define-twice-requires c = lettering_room _ _ _ _ _ _ c.loop-at.invariant _ c.in-Record.ensures (sym c.if-not-is_define.ensures)

pub byte-requires : goal.byte-requires
byte-requires c = (lettering_room _ _ _ _ _ _ c.loop-at.invariant _ c.in-Record.ensures (sym c.if-not-is_define.ensures)).there

pub overflow_sub-byte : goal.overflow_sub-byte
overflow_sub-byte c = let r = lettering_room _ _ _ _ _ _ c.loop-at.invariant _ c.in-Record.ensures (sym c.if-not-is_define.ensures) in omega (arith, r.low, c.byte.ensures.0)

pub loop-at-smaller : goal.loop-at-smaller
loop-at-smaller c = search (rules, fewer)

pub loop-at-preserved : goal.loop-at-preserved
loop-at-preserved c =
    lettering_more _ _ _ _ _ _ c.loop-at.invariant _ c.in-Record.ensures (sym c.if-not-is_define.ensures) _ _ c.put_define-twice.ensures _ _ refl (grind (arith, common_steps, c.byte.ensures.0, c.max-letters.ensures))

pub returns-after-loop-at : goal.returns-after-loop-at
returns-after-loop-at c = search (rules, lettering_end)

pub returns-in_default : goal.returns-in_default
returns-in_default c = lettering_cut _ _ _ _ _ _ c.loop-at.invariant c.in_default.ensures

pub returns-then-not-is_define : goal.returns-then-not-is_define
returns-then-not-is_define c = lettering_over _ _ _ _ _ _ c.loop-at.invariant _ c.in-Record.ensures (sym c.if-not-is_define.ensures)

-- `tests::put_letters` meets its contract by the laws of Lettering. The invariant is `Lettering`:
-- the letters below l are done.
use Rattle.std.proofs.Common.{ℕ, ◌<◌, arith, rules, length-take}
use Rattle.std.proofs.lemmas.List.{get_or-take}
use Rattle.tests.proofs.Lettering.{lettering_none, lettering_room, lettering_more, lettering_all}
use Rattle.tests.proofs.put_letters.Goals as goal

pub loop-l-init : goal.loop-l-init
loop-l-init c = search (rules, lettering_none)

pub put_letter-more-requires : goal.put_letter-more-requires
put_letter-more-requires c =
    let l : c.loop-l.l < c.args.letters = omega (arith, length-take {A = ℕ}) in
    rw get_or-take (lettering_room _ _ _ _ _ _ _ _ _ c.loop-l.invariant l)

pub loop-l-preserved : goal.loop-l-preserved
loop-l-preserved c =
    let l : c.loop-l.l < c.args.letters = omega (arith, length-take {A = ℕ}) in
    lettering_more _ _ _ _ _ _ _ _ _ c.loop-l.invariant _ _ l (rw get_or-take at c.put_letter-more.ensures)

pub returns : goal.returns
returns c = lettering_all _ _ _ _ _ _ _ _ _ c.loop-l.invariant (omega (arith, length-take {A = ℕ}))

-- `tests::words_for` meets its contract by the laws of Lettering. The invariant is `Counting`: the
-- letters below one are counted.
use Rattle.std.proofs.Common.{ℕ, ◌<◌, arith, rules, length-take}
use Rattle.std.proofs.lemmas.List.{get_or-take}
use Rattle.tests.proofs.Lettering.{counting_none, counting_more, counting_all}
use Rattle.tests.proofs.words_for.Goals as goal

pub loop-d-init : goal.loop-d-init
loop-d-init c = search (rules, counting_none)

pub loop-d-preserved : goal.loop-d-preserved
loop-d-preserved c =
    let l : c.loop-d.d-index < c.args.letters = omega (arith, length-take {A = ℕ}) in
    counting_more _ _ _ _ _ c.loop-d.invariant l _ (rw get_or-take at c.more_of-words.ensures)

pub returns : goal.returns
returns c = counting_all _ _ _ _ _ c.loop-d.invariant (omega arith)

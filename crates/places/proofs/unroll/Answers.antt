-- `places::unroll` meets its contract. Laws: UnrollLaws.
use borrow.Author.Rules.{rules}
use Rattle.places.proofs.UnrollLaws.{flat, more-filled, unroll-done}
use Rattle.places.proofs.unroll.Goals as goal

pub unroll_plane-way-requires : goal.unroll_plane-way-requires
unroll_plane-way-requires c = search (rules, flat)

pub loop-flags-preserved : goal.loop-flags-preserved
loop-flags-preserved c = more-filled _ _ _ _ _ _ _ _ c.loop-flags.invariant _ _ c.requires _ _ c.unroll_plane-way.ensures

pub returns : goal.returns
returns c = λ h. unroll-done _ _ _ _ _ _ _ _ c.loop-flags.invariant (search rules) h

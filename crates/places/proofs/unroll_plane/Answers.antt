-- `places::unroll_plane` meets its contract. Laws: UnrollLaws.
use borrow.Author.Rules.{rules}
use Rattle.places.proofs.UnrollLaws.{some_place, plane-emitting, end-words, plane-done}
use Rattle.places.proofs.unroll_plane.Goals as goal

pub overflow_sub-places : goal.overflow_sub-places
overflow_sub-places c = search (rules, some_place)

pub emit-to-requires : goal.emit-to-requires
emit-to-requires c = plane-emitting _ _ _ _ _ _ c.requires _ c.state-end.ensures

pub put_place-requires : goal.put_place-requires
put_place-requires c = end-words _ _ _ _ _ _ c.requires _ c.state-end.ensures _ _ c.emit-to.ensures

pub returns : goal.returns
returns c = λ h. plane-done _ _ _ _ _ _ h _ c.state-end.ensures _ _ c.emit-to.ensures _ _ c.put_place.ensures

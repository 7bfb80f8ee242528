-- `tests::put_letter` meets its contract by the laws of Putting.
use Rattle.tests.proofs.Putting.{letter-none, header_read, define_room, postfix-room, postfix-is_put}
use borrow.Author.Rules.{rules}
use Rattle.tests.proofs.put_letter.Goals as goal

pub returns-then-d-eq0 : goal.returns-then-d-eq0
returns-then-d-eq0 c = rw c.put_free.ensures (letter-none _ _ _ _ _ _ c.requires c.if-d-eq0.true)

pub le16_at-requires : goal.le16_at-requires
le16_at-requires c = search (rules, header_read)

pub put_defined-requires : goal.put_defined-requires
put_defined-requires c = search (rules, define_room)

pub put_postfix-requires : goal.put_postfix-requires
put_postfix-requires c = search (rules, postfix-room)

pub returns : goal.returns
returns c = search (rules, postfix-is_put)

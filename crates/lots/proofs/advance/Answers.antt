-- `lots::advance` meets its contract by the laws of Advancing.
use Rattle.lots.proofs.Advancing.{first-asks, taken_back, later-asks, advance_first, advance_later}
use borrow.Author.Rules.{rules}
use Rattle.lots.proofs.advance.Goals as goal

pub search-requires : goal.search-requires
search-requires c = search (rules, first-asks)

pub returns-then-feed-eq0 : goal.returns-then-feed-eq0
returns-then-feed-eq0 c = search (rules, advance_first)

pub taken_up-requires : goal.taken_up-requires
taken_up-requires c = search (rules, taken_back)

pub go_on-requires : goal.go_on-requires
go_on-requires c = later-asks _ _ _ _ _ _ _ c.requires c.if-feed-eq0.false _ c.taken_up.ensures

pub returns : goal.returns
returns c = search (rules, advance_later)

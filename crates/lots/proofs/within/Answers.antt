-- `lots::within` meets its contract by its bounds, one behind the other.
use Rattle.lots.proofs.Advancing.{more-matches, more-labels, more-open, all_within}
use borrow.Author.Rules.{rules}
use Rattle.lots.proofs.within.Goals as goal

pub returns-then-feed : goal.returns-then-feed
returns-then-feed c = search (rules, more-matches)

pub returns-then-room-feed : goal.returns-then-room-feed
returns-then-room-feed c = search (rules, more-labels)

pub returns-then-feed-2 : goal.returns-then-feed-2
returns-then-feed-2 c = search (rules, more-open)

pub returns : goal.returns
returns c = search (rules, all_within)

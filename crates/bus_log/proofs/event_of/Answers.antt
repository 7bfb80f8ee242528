-- `event_of` tells the numbers apart in the definition's order.
use Rattle.std.proofs.Common.{rules}
use Rattle.bus_log.proofs.Events.{offered, refused, accepted, no-event}
use Rattle.bus_log.proofs.event_of.Goals as goal

pub returns-in-1 : goal.returns-in-1
returns-in-1 c = search (rules, offered)

pub returns-in-2 : goal.returns-in-2
returns-in-2 c = search (rules, refused)

pub returns-in-3 : goal.returns-in-3
returns-in-3 c = search (rules, accepted)

pub returns-in_default : goal.returns-in_default
returns-in_default c = search (rules, no-event)

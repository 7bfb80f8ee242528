-- `event_at` reads the event of a row that is there.
use Rattle.std.proofs.Common.{rules}
use Rattle.bus_log.proofs.Scanning.{event_there}
use Rattle.bus_log.proofs.event_at.Goals as goal

pub returns : goal.returns
returns c = search (rules, event_there)

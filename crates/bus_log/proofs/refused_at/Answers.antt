-- `refused_at` meets its contract by the laws of Scanning.
use Rattle.std.proofs.Common.{rules}
use Rattle.bus_log.proofs.Scanning.{refusal, other_event, none_there}
use Rattle.bus_log.proofs.refused_at.Goals as goal

pub returns-in-Some-Refused : goal.returns-in-Some-Refused
returns-in-Some-Refused c = refusal _ _ _ c.event_at.ensures (rw c.in-Some-Refused.field-0-is at c.in-Some-Refused.is)

pub returns-in_default : goal.returns-in_default
returns-in_default c = search (rules, other_event)

pub returns-in_default-2 : goal.returns-in_default-2
returns-in_default-2 c = search (rules, none_there)

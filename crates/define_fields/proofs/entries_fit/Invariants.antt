-- `define_fields::entries_fit` meets its contract by the laws of EntryRules. The invariant is `Entered`.
use Rattle.std.proofs.Common.{◌-◌}
use Rattle.define_fields.proofs.EntryRules.{Entered}
use Rattle.define_fields.proofs.entries_fit.Given as goal

abbrev pub invariant-loop : goal.invariant-loop
invariant-loop l = Entered l.s l.columns l.end l.count l.p (l.count - l.counter) l.results l.at

-- `reads_ahead::entries_ahead` meets its contract. The invariant is `Going`.
use Rattle.std.proofs.Common.{◌-◌}
use Rattle.reads_ahead.proofs.Letters.{Going}
use Rattle.reads_ahead.proofs.entries_ahead.Given as goal

abbrev pub invariant-loop : goal.invariant-loop
invariant-loop l = Going l.table l.columns l.count l.at (l.count - l.counter) l.place

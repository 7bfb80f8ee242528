-- `measure_list::put_in_table` meets its contract by a law of Tabling.
use Rattle.std.proofs.Common.{rules}
use Rattle.measure_list.proofs.Tabling.{tabled}
use Rattle.measure_list.proofs.put_in_table.Goals as goal

pub returns : goal.returns
returns c = tabled _ _ _ _ (search rules) _ (search rules) (search rules) (search rules) (search rules)

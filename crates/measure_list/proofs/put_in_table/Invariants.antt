-- The first i bytes of the array are words of the table, and its other words are as they were.
use Rattle.std.proofs.Common.{◌≡◌, ℕ, ◌+◌, ◌≤◌, ◌<◌, get_or}
use Rattle.measure_list.proofs.put_in_table.Given as goal

abbrev pub invariant-loop-i : goal.invariant-loop-i
invariant-loop-i l = record {
  each : (j : ℕ) → j < l.i → get_or l.table (l.at + j) 0 ≡ get_or l.measures j 0;
  before : (j : ℕ) → j < l.at → get_or l.table j 0 ≡ get_or l.initial.table j 0;
  behind : (j : ℕ) → l.at + l.i ≤ j → get_or l.table j 0 ≡ get_or l.initial.table j 0;
}

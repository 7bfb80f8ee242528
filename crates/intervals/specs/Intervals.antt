-- Intervals of numbers that wrap at 2 ^ 64, as the words of a letter tell one (specs/Tests of the
-- crate table): by the first number and by how many more there are.
use Rattle.std.specs.Prelude.{ℕ, ◌+◌, ◌-◌, Bool, nat_le}
use Rattle.rules.specs.Basics.{pick}

-- the number lies in the interval
unfoldable pub in_interval : ℕ → ℕ → ℕ → Bool
in_interval x low width = nat_le (pick (nat_le low x) (x - low) (18446744073709551616 + x - low)) width

-- What a table of P places keeps to: the walk relies on it, and unrolling grants it.
use Rattle.std.specs.Prelude.{◌≡◌, ◌≢◌, List, ℕ, ◌+◌, ◌*◌, ◌≤◌, ◌<◌, length}
use Rattle.table.specs.Table.{code_at, first_at, later_at, count_at}

-- the most places of a table, one for each of 256 places and of 8 values of its flags, and the most
-- ways of a fork
abbrev pub most_places : ℕ
most_places = 2048

abbrev pub most_ways : ℕ
most_ways = 256

pub record Sized (T : List ℕ) (P : ℕ) : Type 0 where
  pub some : 0 < P
  pub few : P ≤ most_places
  pub long : 4 * P ≤ length T
  pub near : (q : ℕ) → q < P → code_at T q ≡ 28 → (first_at T q ≡ q + 1) × (1 < count_at T q)
  pub one : (q : ℕ) → q < P → code_at T q < 28 → count_at T q ≡ 0
  pub end : (q : ℕ) → q < P → 29 < code_at T q → count_at T q ≡ 0
  pub many : (q : ℕ) → q < P → count_at T q ≤ most_ways
  pub ways : (q : ℕ) → q < P → 2 < count_at T q → later_at T q + count_at T q ≤ length T

-- place q has its words, and a later way j can be read: it is there, or the fork has two ways and
-- tells the second by itself
pub record LaterIn (T : List ℕ) (q j : ℕ) : Type 0 where
  pub place : 4 * q + 4 ≤ length T
  pub small : j < 256
  pub there : count_at T q ≢ 2 → later_at T q + j < length T

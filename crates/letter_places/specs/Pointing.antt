-- What telling the places of letters their tests asks and leaves.
use Rattle.std.specs.Prelude.{◌≡◌, List, ℕ, ◌+◌, ◌*◌, ◌%◌, ◌≤◌, ◌<◌, length, get_or, set}
use Rattle.table.specs.Table.{code_at, later_at}
use Rattle.table.specs.Tests.{test_at}

-- the words of P places, and tests whose words can be told in 16 bits
pub record Points (T : List ℕ) (P tests : ℕ) : Type 0 where
  pub long : 4 * P ≤ length T
  pub small : tests + 416 ≤ 65536

-- place q is told its test if it is a letter's, and no other word is changed
pub record PointedOne (T exit : List ℕ) (q tests : ℕ) : Type 0 where
  pub letter : code_at T q < 26 → exit ≡ set T (4 * q + 2) (test_at tests (code_at T q))
  pub other : 26 ≤ code_at T q → exit ≡ T

-- The places before P are told: the later word of a letter's place is the word of its test; that of
-- any other place, and all other words, are as they were.
pub record Pointing (T exit : List ℕ) (P tests : ℕ) : Type 0 where
  pub len : length exit ≡ length T
  pub each : (q : ℕ) → q < P → code_at T q < 26 → later_at exit q ≡ test_at tests (code_at T q)
  pub other : (q : ℕ) → 26 ≤ code_at T q → later_at exit q ≡ later_at T q
  pub kept : (j : ℕ) → (j % 4 ≡ 2 → ⊥) → get_or exit j 0 ≡ get_or T j 0
  pub behind : (j : ℕ) → 4 * P ≤ j → get_or exit j 0 ≡ get_or T j 0

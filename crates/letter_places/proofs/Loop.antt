-- The places are told their tests.
use mathlib.Core.List.{List}
use Prim.Native.Nat.{ℕ, ◌≤◌}
use Rattle.letter_places.specs.Pointing.{Pointing}

-- ---- one after the other

-- so many places are told
pub record Told (T exit : List ℕ) (P tests q : ℕ) : Type 0 where
  pub few : q ≤ P
  pub told : Pointing T exit q tests

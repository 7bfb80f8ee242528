-- Logs and their verdicts, by the plain statement.
use mathlib.Core.Path.{◌≡◌, refl}
use mathlib.Core.List.{List, [], ◌∷◌, ◌++◌}
use Rattle.std.specs.Prelude.{Some, None}
use Prim.Native.Nat.{ℕ}
use lib.IntN.{ℤ, pos}
use Rattle.bus_log.specs.Log.{log_of, said, held_at, verdict_of}

-- a row of the log
abbrev row : ℕ → ℕ → ℕ → List ℤ
row event base patch = pos 0 ∷ pos event ∷ pos base ∷ pos patch ∷ []

-- offered, refused twice, accepted; offered and accepted at once
pub refused-twice : verdict_of (log_of (row 1 7 5 ++ (row 2 7 5 ++ (row 2 7 5 ++ row 3 7 5)))) ≡ said 1
unfolding verdict_of log_of
refused-twice = refl

pub at_once : verdict_of (log_of (row 3 1 1 ++ (row 1 7 5 ++ row 3 7 5))) ≡ said 1
unfolding verdict_of log_of
at_once = refl

-- another base number, another patch number, a row behind the acceptance, an event that is not
-- known, no rows
pub other-base : verdict_of (log_of (row 1 7 5 ++ (row 2 7 5 ++ row 3 8 5))) ≡ held_at (Some 1)
unfolding verdict_of log_of
other-base = refl

pub other-patch : verdict_of (log_of (row 1 7 5 ++ row 3 7 6)) ≡ held_at None
unfolding verdict_of log_of
other-patch = refl

pub not_last : verdict_of (log_of (row 2 7 5 ++ (row 1 7 5 ++ (row 2 7 5 ++ (row 3 7 5 ++ row 1 7 5))))) ≡ held_at (Some 2)
unfolding verdict_of log_of
not_last = refl

pub not_known : verdict_of (log_of (row 4 7 5 ++ (row 1 7 5 ++ row 3 7 5))) ≡ said 3
unfolding verdict_of log_of
not_known = refl

pub no-rows : verdict_of (log_of []) ≡ held_at None
unfolding verdict_of log_of
no-rows = refl

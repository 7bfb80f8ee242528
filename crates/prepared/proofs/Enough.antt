-- A table of 16,076 words is enough for every query.
use mathlib.Core.Path.{◌≡◌}
use mathlib.Core.List.{List}
use Prim.Native.Nat.{ℕ, ◌≤◌, ◌<◌}
use native.Mathlib.Omega.{arith}
use lib.Dec.{ltb}
use lib.ListN.{length}
use borrow.Author.Tests.{ltb-true, ltb-false}
use Rattle.std.specs.Prelude.{None}
use Rattle.laws.proofs.Choice.{decided}
use Rattle.prepared.specs.Ready.{PreparedAs}

-- so one that has no room has fewer
pub too_few : (q T T' : List ℕ) (words : ℕ) → PreparedAs q T T' None → length T ≡ words → words ≤ 16076 → words < 16076
too_few q T T' words h l m = decided (ltb words 16076) (λ t. ltb-true words 16076 t) (λ t. let g = ltb-false words 16076 t in let z = h.told (omega arith) in absurd (omega arith))

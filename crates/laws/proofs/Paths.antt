-- Paths of a pattern: from a pair that has a path plain backtracking finds one, and a pair that the
-- counted walk keeps as failed has none, so no reading of the rest begins there.
use mathlib.Core.List.{List}
use mathlib.Core.Bool.{Bool}
use mathlib.Core.Logic.{◌≢◌}
use mathlib.Core.Option.{none}
use Prim.Native.Nat.{ℕ, ◌≤◌}
use lib.ListN.{length}
use Rattle.rules.specs.Places.{Unrolled, places}
use Rattle.rules.specs.Search.{Skip, Terms, walk_search, seek}
use Rattle.rules.specs.Walk.{IsPath, pairs, pair_ways, plain}
use Rattle.laws.proofs.Bound.{plain-complete}
use Rattle.laws.proofs.PatternWalk.{top, falls, search_follows}
use Rattle.laws.proofs.Rank.{rank}
use Rattle.rules.specs.Working.{In}

module _ (t : Unrolled) (holds : ℕ → ℕ → Bool) (n : ℕ) where
  -- from a pair that has a path plain backtracking finds one
  pub path_found : {x : ℕ} {p : List ℕ} → IsPath (pair_ways holds n (places t)) x p → plain (pair_ways holds n (places t)) (pairs (length (places t)) n) x ≢ none
  path_found h =
      plain-complete (pair_ways holds n (places t)) (rank t n) (pairs (length (places t)) n) (falls t holds n) (pairs (length (places t)) n) (top t holds n) h

  -- on any terms
  pub failed-no_path : (terms : Terms) → n ≤ terms.largest → (skip : Skip) (fits : ℕ → ℕ → List ℕ → Bool) (x : ℕ) → In (walk_search terms (seek holds n (places t) skip fits)).state.failed x
      → (p : List ℕ) → IsPath (pair_ways holds n (places t)) x p → ⊥
  failed-no_path terms le skip fits x i p h = path_found h ((search_follows t holds n terms le skip fits).state x i)

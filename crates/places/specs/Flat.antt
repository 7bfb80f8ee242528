-- One plane of a pattern's places: what unrolling it asks, and what is put.
use Rattle.std.specs.Prelude.{◌≡◌, List, [], ◌∷◌, ◌++◌, ℕ, ◌+◌, ◌*◌, ◌-◌, ◌≤◌, ◌<◌, length}
use Rattle.rules.specs.Language.{Tree, pattern}
use Rattle.rules.specs.Places.{Place, p_end, places_of}
use Rattle.trees.specs.Held.{Top}
use Rattle.place_codes.specs.Planes.{slot, state_by}
use Rattle.place_codes.specs.declared.Plane.{Plane}
use Rattle.forks.specs.Emitting.{tree_places}

-- the places of a pattern with P places in a plane, END last
abbrev pub plane_places : Plane → Tree pattern → ℕ → List Place
plane_places o p P = tree_places o p 0 (state_by o 1 (P - 1)) ++ (p_end ∷ [])

-- room for its entries, and for three ways to a place from word w on
pub record Flat (o : Plane) (s : List ℕ) (top P : ℕ) (T : List ℕ) (w : ℕ) : Type 0 where
  pub tree : Tree pattern
  pub is : Top tree top s
  pub count : P ≡ places_of tree
  pub few : P ≤ 256
  pub long : (q : ℕ) → q < P → 4 * slot o q + 4 ≤ length T
  pub small : length T < 65536
  pub way : w + 3 * P ≤ length T

-- The parts of a sequence or an alternation that are read and stand in the room, one behind the
-- other, before nodes join them: what joining them from the last on asks and leaves.
use Rattle.std.specs.Prelude.{◌≡◌, List, [], ◌∷◌, ℕ, ◌+◌, ◌*◌, ◌-◌, ◌≤◌, ◌<◌, min, length}
use Rattle.rules.specs.Language.{pattern, Tree}
use Rattle.rules.specs.Places.{place_count}
use Rattle.nodes.specs.declared.Sort.{Sort}
use Rattle.trees.specs.Written.{node_count, height}
use Rattle.primaries.specs.Readers.{Joined}
use Rattle.trees.specs.Held.{Held}
use Rattle.primaries.specs.declared.Step.{Step}

-- the answer of the reader of a part, as far as joining looks at it: its nodes end before `to`
abbrev pub part_at : Tree pattern → ℕ → Step
part_at p to = record { at = 0; count = to; height = height p; places = min (place_count p) 257; forks = 0 }

unfoldable pub many : List (Tree pattern) → ℕ
many [] = 0
many (p ∷ ps) = many ps + 1

-- the nodes of the parts, the last first, stand from c up to `to`
unfoldable pub Pending : List (Tree pattern) → ℕ → ℕ → List ℕ → Type 0
Pending [] c to s = to ≡ c
Pending (p ∷ ps) c to s = (lo : ℕ) × (to ≡ lo + node_count p) × Held p lo s × Pending ps c lo s

-- Parts whose nodes end before `to` are joined, one after the other, by nodes of a sort: from the
-- room m and the answer r to the room t and the answer w.
module _ (k : Sort) (forks : ℕ) where
  unfoldable pub JoinedAll : List (Tree pattern) → ℕ → List ℕ → Step → List ℕ → Step → Type 0
  JoinedAll [] to m r t w = (t ≡ m) × (w ≡ r)
  JoinedAll (p ∷ ps) to m r t w =
      (m1 : List ℕ) × (r1 : Step) × Joined m m1 k forks (part_at p to) r r1 × JoinedAll ps (to - node_count p) m1 r1 t w

pub record Chained (s : List ℕ) (c to : ℕ) (r : Step) : Type 0 where
  pub parts : List (Tree pattern)
  pub pending : Pending parts c to s
  pub fits : 8 * (r.count + many parts) ≤ length s
  pub small : r.count + many parts < 60000
  pub behind : to ≤ r.count
  pub low : r.height < r.count
  pub few_places : r.places ≤ 257

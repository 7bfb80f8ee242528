-- A room that holds a tree's nodes, each behind its parts; a tree with its top at a node.
use Rattle.std.specs.Prelude.{◌≡◌, Bool, false, List, ℕ, ◌+◌, ◌*◌, ◌-◌, ◌≤◌, max, min, length}
use Rattle.rules.specs.Language.{lower, InBounds, Rank, pattern, factor, primary, Tree, one, more, last, next, bare, times, letter, caret, dollar, empty, group}
use Rattle.rules.specs.Places.{place_count}
use Rattle.marks.specs.Shows.{high_of}
use Rattle.nodes.specs.Nodes.{node_at}
use Rattle.nodes.specs.declared.Sort.TheVariants.{Sequence, Alternation}
use Rattle.trees.specs.Written.{plain_node, with_mark, node_count, height, own}

-- a factor's primary, and its bounds, 1 and 1 without a quantifier

abbrev pub body : Tree factor → Tree primary
body (bare x) = x
body (times x f z) = x

abbrev pub lower_of : Tree factor → ℕ
lower_of (bare x) = 1
lower_of (times x f z) = lower f

abbrev pub highest_of : Tree factor → ℕ
highest_of (bare x) = 1
highest_of (times x f z) = high_of f

abbrev pub lazy_of : Tree factor → Bool
lazy_of (bare x) = false
lazy_of (times x f z) = z

-- the nodes from c on are the tree's; of a primary only its parts' nodes
unfoldable pub Held : {k : Rank} → Tree k → ℕ → List ℕ → Type 0
unfolding node_count height own InBounds
Held (one b) c s = Held b c s
Held (more b p) c s =
    Held b c s × Held p (c + node_count b) s × (node_at s (c + node_count b + node_count p) ≡ plain_node Alternation (c + node_count b - 1) (c + node_count b + node_count p - 1)
    (max (height b) (height p) + 1) (min (place_count b + place_count p) 257))
Held (last f) c s = Held f c s
Held (next f b) c s =
    Held f c s × Held b (c + node_count f) s × (node_at s (c + node_count f + node_count b) ≡ plain_node Sequence (c + node_count f - 1) (c + node_count f + node_count b - 1)
    (max (height f) (height b) + 1) (min (place_count f + place_count b) 257))
Held (bare x) c s = Held x c s × (node_at s (c + node_count x) ≡ own x c)
Held (times x f z) c s = Held x c s × (InBounds f) × (node_at s (c + node_count x) ≡ with_mark (own x c) f z)
Held (letter b) c s = Unit {0}
Held caret c s = Unit {0}
Held dollar c s = Unit {0}
Held empty c s = Unit {0}
Held (group p) c s = Held p c s

-- node i is the top of the nodes of p, which begin at some c; nodes fit the room
pub record Top (p : Tree pattern) (i : ℕ) (s : List ℕ) : Type 0 where
  pub base : ℕ
  pub top : i + 1 ≡ base + node_count p
  pub held : Held p base s
  pub fits : 8 * (base + node_count p) ≤ length s

-- node i is the top of some tree's nodes
pub record At (s : List ℕ) (i : ℕ) : Type 0 where
  pub tree : Tree pattern
  pub is : Top tree i s

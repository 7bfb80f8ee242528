-- The nodes of a tree in a room, each behind its parts.
use Rattle.std.specs.Prelude.{Bool, false, List, ℕ, ◌+◌, ◌*◌, ◌-◌, ◌≤◌, max, min, eqb}
use Rattle.rules.specs.Basics.{pick}
use Rattle.rules.specs.Language.{Form, lower, upper, Rank, primary, Tree, one, more, last, next, bare, times, letter, caret, dollar, empty, group}
use Rattle.rules.specs.Places.{round_places, fork, place_count}
use Rattle.marks.specs.Shows.{code_of, high_of}
use Rattle.nodes.specs.Nodes.{put_node}
use Rattle.nodes.specs.declared.Sort.{Sort}
use Rattle.nodes.specs.declared.Sort.TheVariants.{Letter, Anchor, Empty, Sequence, Alternation, Group}
use Rattle.nodes.specs.declared.Form.TheVariants.{Bare}
use Rattle.nodes.specs.declared.Node.{Node}

-- a node with no quantifier
abbrev pub plain_node : Sort → ℕ → ℕ → ℕ → ℕ → Node
plain_node k l r h n = record { sort = k; form = Bare; lazy = false; low = 1; high = 1; left = l; right = r; height = h; places = n }

-- a node with a quantifier
abbrev pub with_mark : Node → Form → Bool → Node
with_mark n f z =
    record {
      sort = n.sort;
      form = code_of f;
      lazy = z;
      low = lower f;
      high = high_of f;
      left = n.left;
      right = n.right;
      height = n.height;
      places = min
          (round_places (lower f) (upper f) n.places) 257;
    }

-- how many nodes a tree has; a primary's own node counts for its factor
unfoldable pub node_count : {k : Rank} → Tree k → ℕ
node_count (one b) = node_count b
node_count (more b p) = node_count b + node_count p + 1
node_count (last f) = node_count f
node_count (next f b) = node_count f + node_count b + 1
node_count (bare x) = node_count x + 1
node_count (times x f z) = node_count x + 1
node_count (letter b) = 0
node_count caret = 0
node_count dollar = 0
node_count empty = 0
node_count (group p) = node_count p

unfoldable pub height : {k : Rank} → Tree k → ℕ
height (one b) = height b
height (more b p) = max (height b) (height p) + 1
height (last f) = height f
height (next f b) = max (height f) (height b) + 1
height (bare x) = height x
height (times x f z) = height x
height (letter b) = 0
height caret = 0
height dollar = 0
height empty = 0
height (group p) = height p + 1

-- rounds with the upper bound as a number, 100 for none
unfoldable pub rounds_of : ℕ → ℕ → ℕ → ℕ
rounds_of low high c = pick (eqb high 100) (low * c + (1 + c)) (low * c + (high - low) * (1 + c))

-- a primary's own node, where its parts' nodes begin at c
unfoldable pub own : Tree primary → ℕ → Node
unfolding node_count height fork place_count
own (letter b) c = plain_node (Letter b) 0 0 0 1
own caret c = plain_node (Anchor 94) 0 0 0 1
own dollar c = plain_node (Anchor 36) 0 0 0 1
own empty c = plain_node Empty 0 0 0 0
own (group p) c = plain_node Group (c + node_count p - 1) 0 (height p + 1) (min (fork p + place_count p) 257)

-- the room with a tree's nodes from c on; of a primary only its parts' nodes
unfoldable pub written : {k : Rank} → Tree k → ℕ → List ℕ → List ℕ
unfolding node_count height own place_count
written (one b) c s = written b c s
written (more b p) c s =
    put_node (written p (c + node_count b) (written b c s)) (c + node_count b + node_count p) (plain_node Alternation (c + node_count b - 1) (c + node_count b + node_count p - 1)
    (max (height b) (height p) + 1) (min (place_count b + place_count p) 257))
written (last f) c s = written f c s
written (next f b) c s =
    put_node (written b (c + node_count f) (written f c s)) (c + node_count f + node_count b) (plain_node Sequence (c + node_count f - 1) (c + node_count f + node_count b - 1)
    (max (height f) (height b) + 1) (min (place_count f + place_count b) 257))
written (bare x) c s = put_node (written x c s) (c + node_count x) (own x c)
written (times x f z) c s = put_node (written x c s) (c + node_count x) (with_mark (own x c) f z)
written (letter b) c s = s
written caret c s = s
written dollar c s = s
written empty c s = s
written (group p) c s = written p c s

-- bounds as numbers, the upper one 100 for none
pub record InOrder (low high : ℕ) : Type 0 where
  pub low_small : low ≤ 99
  pub high_small : high ≤ 100
  pub in_order : low ≤ high

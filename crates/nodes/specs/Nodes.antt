-- Nodes as words, eight to a node: the sort with its byte, the form with the reluctant mark, the
-- bounds, the parts, the height, the places.
use Rattle.std.specs.Prelude.{Bool, true, false, List, ℕ, ◌+◌, ◌-◌, ◌*◌, ◌/◌, ◌%◌, ◌<◌, eqb, get_or, set}
use Rattle.rules.specs.Basics.{pick}
use Rattle.nodes.specs.declared.Sort.{Sort}
use Rattle.nodes.specs.declared.Sort.TheVariants.{Letter, Anchor, Empty, Sequence, Alternation, Group}
use Rattle.nodes.specs.declared.Form.{Form}
use Rattle.nodes.specs.declared.Form.TheVariants.{Bare, Star, Plus, Opt, Exactly, AtLeast, AtMost, Between, Other}
use Rattle.nodes.specs.declared.Node.{Node}

unfoldable pub sort_of : ℕ → Sort
sort_of w =
    pick (eqb (w / 256) 0) (Letter (w % 256))
    (pick (eqb (w / 256) 1) (Anchor (w % 256))
    (pick (eqb (w / 256) 2) Empty
    (pick (eqb (w / 256) 3) Sequence
    (pick (eqb (w / 256) 4) Alternation Group))))

abbrev pub word_of : Sort → ℕ
word_of (Letter b) = b
word_of (Anchor b) = 256 + b
word_of Empty = 512
word_of Sequence = 768
word_of Alternation = 1024
word_of Group = 1280

unfoldable pub form_of : ℕ → Form
form_of w =
    pick (eqb w 0) Bare
    (pick (eqb w 1) Star
    (pick (eqb w 2) Plus
    (pick (eqb w 3) Opt
    (pick (eqb w 4) Exactly
    (pick (eqb w 5) AtLeast
    (pick (eqb w 6) AtMost
    (pick (eqb w 7) Between (Other (w - 8)))))))))

-- a form's number
abbrev pub number_of : Form → ℕ
number_of Bare = 0
number_of Star = 1
number_of Plus = 2
number_of Opt = 3
number_of Exactly = 4
number_of AtLeast = 5
number_of AtMost = 6
number_of Between = 7
number_of (Other k) = 8 + k

abbrev pub bit_of_bool : Bool → ℕ
bit_of_bool true = 1
bit_of_bool false = 0

unfoldable pub node_at : List ℕ → ℕ → Node
unfolding sort_of form_of
node_at s i =
    record {
      sort = sort_of (get_or s (i * 8) 0);
      form = form_of (get_or s (i * 8 + 1) 0 / 2);
      lazy = eqb (get_or s (i * 8 + 1) 0 % 2) 1;
      low = get_or s (i * 8 + 2) 0;
      high = get_or s (i * 8 + 3) 0;
      left = get_or s (i * 8 + 4) 0;
      right = get_or s (i * 8 + 5) 0;
      height = get_or s (i * 8 + 6) 0;
      places = get_or s (i * 8 + 7) 0;
    }

unfoldable pub put_node : List ℕ → ℕ → Node → List ℕ
put_node s i n =
    set (set (set (set (set (set (set (set s (i * 8) (word_of n.sort)) (i * 8 + 1) (number_of n.form * 2 + bit_of_bool n.lazy)) (i * 8 + 2) n.low) (i * 8 + 3) n.high)
    (i * 8 + 4) n.left) (i * 8 + 5) n.right) (i * 8 + 6) n.height) (i * 8 + 7) n.places

-- a node whose numbers fit their words
pub record Small (n : Node) : Type 0 where
  pub form : number_of n.form < 32768
  pub low : n.low < 65536
  pub high : n.high < 65536
  pub left : n.left < 65536
  pub right : n.right < 65536
  pub height : n.height < 65536
  pub places : n.places < 65536

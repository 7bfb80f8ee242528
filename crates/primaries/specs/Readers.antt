-- What the readers' answers say: what is read, where reading stops, and the nodes that are then in
-- the room.
use Rattle.std.specs.Prelude.{◌≡◌, Bool, List, ℕ, ◌+◌, ◌*◌, ◌-◌, ◌≤◌, ◌<◌, max, min, length, get_or, drop, Result, Ok, Err, IfOk, MatchResult}
use Rattle.std.proofs.Math.Option.{Option, none, some}
use Rattle.rules.specs.Language.{Form, lower, upper, Rank, pattern, branch, factor, primary, Tree}
use Rattle.rules.specs.Reader.{Reading, got, bad, peek, skip_spaces, Marked, unmarked, broken, marked, quantifier, simple, read, depth, tree_of, stop_of}
use Rattle.rules.specs.Places.{round_places, fork, place_count}
use Rattle.text_bytes.specs.Numerals.{Stops}
use Rattle.text_bytes.specs.declared.Broken.{Broken}
use Rattle.nodes.specs.Nodes.{put_node, Small}
use Rattle.nodes.specs.declared.Sort.{Sort}
use Rattle.nodes.specs.declared.Sort.TheVariants.{Empty, Group}
use Rattle.nodes.specs.declared.Node.{Node}
use Rattle.primaries.specs.declared.Step.{Step}
use Rattle.primaries.specs.declared.Head.{Head}
use Rattle.trees.specs.Written.{plain_node, with_mark, node_count, height, own, written}

-- an alternation's fork
abbrev pub fork_of : (k : Rank) → Tree k → ℕ
fork_of pattern t = fork t
fork_of branch t = 0
fork_of factor t = 0
fork_of primary t = 0

-- ---- what the readers need and promise

-- words outside lo to hi are as they were
abbrev pub KeptOutside : ℕ → ℕ → List ℕ → List ℕ → Type 0
KeptOutside lo hi s t = (j : ℕ) → (lo ≤ j → j < hi → ⊥) → get_or t j 0 ≡ get_or s j 0

-- room for two nodes for each byte that is left
pub record Fits (text : List ℕ) (at : ℕ) (room : List ℕ) (count : ℕ) : Type 0 where
  pub in_text : at ≤ length text
  pub fits : 8 * (count + 2 * (length text - at)) ≤ length room
  pub small : count + 2 * (length text - at) < 60000

pub record PhraseDone (k : Rank) (text : List ℕ) (c : ℕ) (room exit : List ℕ) (r : Step) (x : Tree k) (u : List ℕ) : Type 0 where
  pub rest : u ≡ drop r.at text
  pub count : r.count ≡ c + node_count x
  pub high : r.height ≡ height x
  pub placed : r.places ≡ min (place_count x) 257
  pub forked : r.forks ≡ fork_of k x
  pub wrote : exit ≡ written x c room

-- an answer that is an error, at a position of the text, with the bytes u from there on: there is no
-- tree
abbrev pub Unread : {T : Type 0} → List ℕ → Result T Broken → List ℕ → Type 0
Unread text (Err e) u = Stops text e u
Unread text (Ok r) u = ⊥

-- the answer of the reader of a rank, and the room as it leaves it, say what is read
module _ (k : Rank) (text : List ℕ) (c : ℕ) (room exit : List ℕ) where
  unfoldable pub Says : Result Step Broken → Reading (Tree k) → Type 0
  Says r (bad u) = Unread text r u
  Says (Ok r) (got x u) = PhraseDone k text c room exit r x u
  Says (Err e) (got x u) = ⊥

pub record On (text : List ℕ) (at c : ℕ) (r : Step) : Type 0 where
  pub on : at < r.at
  pub inside : r.at ≤ length text
  pub some : c < r.count
  pub few : r.count + 1 ≤ c + 2 * (r.at - at)
  pub low : r.height + c < r.count
  pub few_places : r.places ≤ 257
  pub few_forks : r.forks ≤ 1

-- what the reader of a rank promises of its answer r: at every depth that is enough it says what is
-- read
pub record PhraseReads (k : Rank) (text : List ℕ) (at c : ℕ) (room exit : List ℕ) (r : Result Step Broken) : Type 0 where
  pub says : (n : ℕ) → depth k (drop at text) ≤ n → Says k text c room exit r (read n k (drop at text))
  pub on : IfOk r (On text at c)
  pub kept : KeptOutside (8 * c) (8 * (c + 2 * (length text - at))) room exit
  pub len : length exit ≡ length room

-- the same for a primary
pub record HeadDone (text : List ℕ) (c : ℕ) (r : Head) (x : Tree primary) (u : List ℕ) : Type 0 where
  pub rest : u ≡ drop r.at text
  pub count : r.count ≡ c + node_count x
  pub node : r.node ≡ own x c

unfoldable pub SaysHead : List ℕ → ℕ → Result Head Broken → Reading (Tree primary) → Type 0
SaysHead text c r (bad u) = Unread text r u
SaysHead text c (Ok r) (got x u) = HeadDone text c r x u
SaysHead text c (Err e) (got x u) = ⊥

unfoldable pub Wrote : ℕ → List ℕ → List ℕ → Reading (Tree primary) → Type 0
Wrote c room exit (bad u) = Unit {0}
Wrote c room exit (got x u) = exit ≡ written x c room

pub record HeadOn (text : List ℕ) (at c : ℕ) (r : Head) : Type 0 where
  pub on : at < r.at
  pub inside : r.at ≤ length text
  pub some : c ≤ r.count
  pub few : r.count + 2 ≤ c + 2 * (r.at - at)
  pub low : r.node.height + c ≤ r.count
  pub few_places : r.node.places ≤ 257
  pub small : Small r.node

-- what the reader of letters and anchors promises
pub record SimpleSays (text : List ℕ) (at c : ℕ) (r : Result Head Broken) : Type 0 where
  pub says : SaysHead text c r (simple (drop at text))
  pub on : IfOk r (HeadOn text at c)

pub record ReadsHead (text : List ℕ) (at c : ℕ) (room exit : List ℕ) (r : Result Head Broken) : Type 0 where
  pub says : (n : ℕ) → depth primary (drop at text) ≤ n → SaysHead text c r (read n primary (drop at text))
  pub wrote : (n : ℕ) → depth primary (drop at text) ≤ n → Wrote c room exit (read n primary (drop at text))
  pub on : IfOk r (HeadOn text at c)
  pub kept : KeptOutside (8 * c) (8 * (c + 2 * (length text - at))) room exit
  pub len : length exit ≡ length room

-- ---- the steps

pub record Holding (room : List ℕ) (count : ℕ) (n : Node) : Type 0 where
  pub fits : 8 * count + 8 ≤ length room
  pub few : count < 60000
  pub small : Small n

pub record FitsHead (text room : List ℕ) (p : Head) : Type 0 where
  pub in_text : p.at ≤ length text
  pub holding : Holding room p.count p.node
  pub few_places : p.node.places ≤ 257

abbrev pub step_to : ℕ → Head → ℕ → Step
step_to to p n = record { at = to; count = p.count + 1; height = p.node.height; places = n; forks = 0 }

pub record FinishedMark (text room exit : List ℕ) (p : Head) (r : Result Step Broken) (f : Form) (z : Bool) (u : List ℕ) : Type 0 where
  pub to : ℕ
  pub is : r ≡ Ok (step_to to p (min (round_places (lower f) (upper f) p.node.places) 257))
  pub rest : u ≡ drop to text
  pub on : p.at ≤ to
  pub inside : to ≤ length text
  pub wrote : exit ≡ put_node room p.count (with_mark p.node f z)

-- a primary p is finished to a factor with the answer r, by the quantifier behind it
module _ (text room exit : List ℕ) (p : Head) (r : Result Step Broken) where
  unfoldable pub FinishedAs : Marked → Type 0
  FinishedAs unmarked = (r ≡ Ok (step_to p.at p p.node.places)) × (exit ≡ put_node room p.count p.node)
  FinishedAs (broken u) = Unread text r u × (exit ≡ room)
  FinishedAs (marked f z u) = FinishedMark text room exit p r f z u

pub record FactorFinished (text room exit : List ℕ) (p : Head) (r : Result Step Broken) : Type 0 where
  pub ends : FinishedAs text room exit p r (quantifier (drop p.at text))

pub record Joins (room : List ℕ) (a b : Step) : Type 0 where
  pub fits : 8 * b.count + 8 ≤ length room
  pub few : b.count < 60000
  pub left : 1 ≤ a.count
  pub right : a.count ≤ b.count
  pub low_left : a.height < 60000
  pub low_right : b.height < 60000
  pub few_left : a.places ≤ 257
  pub few_right : b.places ≤ 257

pub record Joined (room exit : List ℕ) (k : Sort) (forks : ℕ) (a b r : Step) : Type 0 where
  pub is : r ≡ record { at = b.at; count = b.count + 1; height = max a.height b.height + 1; places = min (a.places + b.places) 257; forks = forks }
  pub wrote : exit ≡ put_node room b.count (plain_node k (a.count - 1) (b.count - 1) (max a.height b.height + 1) (min (a.places + b.places) 257))

-- spaces are skipped from `at` to `to`
abbrev pub SkipTo : List ℕ → ℕ → ℕ → Type 0
SkipTo s at to = (drop to s ≡ skip_spaces (drop at s)) × (at ≤ to) × (to ≤ length s)

-- a letter or an anchor, one byte at `at`
pub record LeafIs (text : List ℕ) (at c : ℕ) (k : Sort) (r : Head) : Type 0 where
  pub skips : SkipTo text (at + 1) r.at
  pub count : r.count ≡ c
  pub node : r.node ≡ plain_node k 0 0 0 1

pub record EmptyIs (text : List ℕ) (at c : ℕ) (r : Head) : Type 0 where
  pub to : ℕ
  pub skips : SkipTo text (at + 1) to
  pub is : r ≡ record { at = to; count = c; node = plain_node Empty 0 0 0 0 }

pub record ShutNeeds (p : Step) : Type 0 where
  pub some : 1 ≤ p.count
  pub low : p.height < 60000
  pub few_places : p.places ≤ 257
  pub few_forks : p.forks ≤ 1

pub record Shut (text : List ℕ) (p : Step) (r : Result Head Broken) : Type 0 where
  pub to : ℕ
  pub skips : SkipTo text (p.at + 1) to
  pub is : r ≡ Ok (record { at = to; count = p.count; node = plain_node Group (p.count - 1) 0 (p.height + 1) (min (p.forks + p.places) 257) })

pub record ShutIs (text : List ℕ) (p : Step) (r : Result Head Broken) : Type 0 where
  pub open_still : (peek (drop p.at text) ≡ 41 → ⊥) → r ≡ Err (record { at = p.at })
  pub shuts : peek (drop p.at text) ≡ 41 → Shut text p r

-- ---- a whole text

pub record Parsed (text room exit : List ℕ) (r : Step) (p : Tree pattern) : Type 0 where
  pub count : r.count ≡ node_count p
  pub few : node_count p ≤ 2 * length text
  pub high : r.height ≡ height p
  pub placed : r.places ≡ min (place_count p) 257
  pub forked : r.forks ≡ fork p
  pub wrote : exit ≡ written p 0 room

unfoldable pub ParsedAs : List ℕ → List ℕ → List ℕ → Result Step Broken → Option (Tree pattern) → Type 0
ParsedAs text room exit (Err e) none = Unit {0}
ParsedAs text room exit (Ok r) (some p) = Parsed text room exit r p
ParsedAs text room exit (Err e) (some p) = ⊥
ParsedAs text room exit (Ok r) none = ⊥

-- what `read_text` promises: the text's tree, or none; and where reading stops, which is where a
-- text with no tree is wrong, or its end
pub record TextSays (text room exit : List ℕ) (r : Result Step Broken) : Type 0 where
  pub says : ParsedAs text room exit r (tree_of text)
  pub stop : MatchResult r (λ p. p.at ≡ stop_of text) (λ e. e.at ≡ stop_of text)
  pub kept : (j : ℕ) → 16 * length text ≤ j → get_or exit j 0 ≡ get_or room j 0
  pub len : length exit ≡ length room

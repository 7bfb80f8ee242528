-- What the readers write is held: the room that `written` leaves holds the tree, and holds it as
-- long as its nodes are as they were. So the room that `read_text` leaves holds the text's tree,
-- with its top at the last node (`text-top`).
use mathlib.Core.Path.{◌≡◌, refl, ◌∙◌}
use mathlib.Core.List.{List}
use Prim.Native.Nat.{ℕ, ◌+◌, ◌*◌, ◌-◌, ◌≤◌, ◌<◌, max, min}
use native.Mathlib.Omega.{arith}
use lib.ListN.{length}
use Rattle.rules.specs.Language.{Rank, pattern, branch, factor, primary, Tree, one, more, last, next, bare, times, letter, caret, dollar, empty, group}
use Rattle.rules.specs.Places.{place_count}
use Rattle.nodes.specs.Nodes.{node_at, put_node}
use Rattle.nodes.specs.declared.Sort.TheVariants.{Sequence, Alternation}
use Rattle.nodes.specs.declared.Node.{Node}
use Rattle.trees.specs.Written.{plain_node, with_mark, node_count, height, own, written}
use Rattle.trees.specs.Held.{Held}
use Rattle.laws.proofs.Bounds.{Bounds, Lettered}
use Rattle.nodes.proofs.Put.{SmallSort, read-put, node-other, put_length}

pub factor-nodes : (f : Tree factor) → 1 ≤ node_count f
unfolding node_count
factor-nodes (bare x) = omega arith
factor-nodes (times x f z) = omega arith

pub branch-nodes : (b : Tree branch) → 1 ≤ node_count b
unfolding node_count
branch-nodes (last f) = factor-nodes f
branch-nodes (next f b) = omega arith

-- a pattern has a node
pub pattern-nodes : (p : Tree pattern) → 1 ≤ node_count p
unfolding node_count
pattern-nodes (one b) = branch-nodes b
pattern-nodes (more b p) = omega arith

written-length : {k : Rank} (t : Tree k) (c : ℕ) (s : List ℕ) → length (written t c s) ≡ length s
unfolding written
written-length (one b) c s = written-length b c s
written-length (more b p) c s = put_length _ _ _ ∙ written-length p (c + node_count b) (written b c s) ∙ written-length b c s
written-length (last f) c s = written-length f c s
written-length (next f b) c s = put_length _ _ _ ∙ written-length b (c + node_count f) (written f c s) ∙ written-length f c s
written-length (bare x) c s = put_length _ _ _ ∙ written-length x c s
written-length (times x f z) c s = put_length _ _ _ ∙ written-length x c s
written-length (letter b) c s = refl
written-length caret c s = refl
written-length dollar c s = refl
written-length empty c s = refl
written-length (group p) c s = written-length p c s

-- nodes before c are as they were
written_below : {k : Rank} (t : Tree k) (c : ℕ) (s : List ℕ) (j : ℕ) → j < c → node_at (written t c s) j ≡ node_at s j
unfolding written
written_below (one b) c s j h = written_below b c s j h
written_below (more b p) c s j h = node-other _ (c + node_count b + node_count p) j _ (λ e. omega arith) ∙ written_below p (c + node_count b) (written b c s) j (omega arith)
    ∙ written_below b c s j h
written_below (last f) c s j h = written_below f c s j h
written_below (next f b) c s j h = node-other _ (c + node_count f + node_count b) j _ (λ e. omega arith) ∙ written_below b (c + node_count f) (written f c s) j (omega arith)
    ∙ written_below f c s j h
written_below (bare x) c s j h = node-other _ (c + node_count x) j _ (λ e. omega arith) ∙ written_below x c s j h
written_below (times x f z) c s j h = node-other _ (c + node_count x) j _ (λ e. omega arith) ∙ written_below x c s j h
written_below (letter b) c s j h = refl
written_below caret c s j h = refl
written_below dollar c s j h = refl
written_below empty c s j h = refl
written_below (group p) c s j h = written_below p c s j h

-- a tree is held as long as its nodes are as they were
pub held_same : {k : Rank} (t : Tree k) (c : ℕ) (s u : List ℕ) → ((j : ℕ) → c ≤ j → j < c + node_count t → node_at u j ≡ node_at s j) → Held t c s → Held t c u
unfolding Held node_count
held_same (one b) c s u f h = held_same b c s u f h
held_same (more b p) c s u f h = (
  held_same b c s u (λ j l g. f j l (omega arith)) h.0,
  held_same p (c + node_count b) s u (λ j l g. f j (omega arith) (omega arith)) h.1,
  f
      (c + node_count b + node_count p) (omega arith) (omega arith) ∙ h.2,
)
held_same (last x) c s u f h = held_same x c s u f h
held_same (next x b) c s u f h = (
  held_same x c s u (λ j l g. f j l (omega arith)) h.0,
  held_same b (c + node_count x) s u (λ j l g. f j (omega arith) (omega arith)) h.1,
  f
      (c + node_count x + node_count b) (omega arith) (omega arith) ∙ h.2,
)
held_same (bare x) c s u f h = (held_same x c s u (λ j l g. f j l (omega arith)) h.0, f (c + node_count x) (omega arith) (omega arith) ∙ h.1)
held_same (times x m z) c s u f h = (held_same x c s u (λ j l g. f j l (omega arith)) h.0, h.1, f (c + node_count x) (omega arith) (omega arith) ∙ h.2)
held_same (letter b) c s u f h = tt
held_same caret c s u f h = tt
held_same dollar c s u f h = tt
held_same empty c s u f h = tt
held_same (group p) c s u f h = held_same p c s u f h

own-small : (x : Tree primary) (c : ℕ) → Lettered x → SmallSort (own x c).sort
unfolding own Lettered SmallSort
own-small (letter b) c h = omega (arith, h.1)
own-small caret c h = omega arith
own-small dollar c h = omega arith
own-small empty c h = tt
own-small (group p) c h = tt

pub written_held : {k : Rank} (t : Tree k) (c : ℕ) (s : List ℕ) → Bounds t → Lettered t → 8 * (c + node_count t) ≤ length s → Held t c (written t c s)
unfolding Held Bounds Lettered node_count written SmallSort
written_held (one b) c s h d l = written_held b c s h d l
written_held (more b p) c s h d l =
    let u = written b c s in
    let v = written p (c + node_count b) u in
    let n : Node = plain_node Alternation (c + node_count b - 1) (c + node_count b + node_count p - 1) (max (height b) (height p) + 1) (min (place_count b + place_count p) 257) in (
      held_same b c u (put_node v (c + node_count b + node_count p) n) (λ j a e2. node-other v (c + node_count b + node_count p) j n (λ e. omega arith)
          ∙ written_below p (c + node_count b) u j e2) (written_held b c s h.0 d.0 (omega arith)),
      held_same p (c + node_count b) v (put_node v (c + node_count b + node_count p) n) (λ j a e2. node-other v (c + node_count b + node_count p) j n (λ e. omega arith))
          (written_held p (c + node_count b) u h.1 d.1 (omega (arith, written-length b c s))),
      read-put v (c + node_count b + node_count p) n (omega (arith, written-length p (c + node_count b) u, written-length b c s)) tt,
    )
written_held (last f) c s h d l = written_held f c s h d l
written_held (next b p) c s h d l =
    let u = written b c s in
    let v = written p (c + node_count b) u in
    let n : Node = plain_node Sequence (c + node_count b - 1) (c + node_count b + node_count p - 1) (max (height b) (height p) + 1) (min (place_count b + place_count p) 257) in (
      held_same b c u (put_node v (c + node_count b + node_count p) n) (λ j a e2. node-other v (c + node_count b + node_count p) j n (λ e. omega arith)
          ∙ written_below p (c + node_count b) u j e2) (written_held b c s h.0 d.0 (omega arith)),
      held_same p (c + node_count b) v (put_node v (c + node_count b + node_count p) n) (λ j a e2. node-other v (c + node_count b + node_count p) j n (λ e. omega arith))
          (written_held p (c + node_count b) u h.1 d.1 (omega (arith, written-length b c s))),
      read-put v (c + node_count b + node_count p) n (omega (arith, written-length p (c + node_count b) u, written-length b c s)) tt,
    )
written_held (bare x) c s h d l =
    let u = written x c s in (
      held_same x c u (put_node u (c + node_count x) (own x c)) (λ j a e2. node-other u (c + node_count x) j (own x c) (λ e. omega arith)) (written_held x c s h d (omega arith)),
      read-put u (c + node_count x) (own x c) (omega (arith, written-length x c s)) (own-small x c d),
    )
written_held (times x f z) c s h d l =
    let u = written x c s in
    let n : Node = with_mark (own x c) f z in (
      held_same x c u (put_node u (c + node_count x) n) (λ j a e2. node-other u (c + node_count x) j n (λ e. omega arith)) (written_held x c s h.1 d (omega arith)),
      h.0,
      read-put u (c + node_count x) n (omega (arith, written-length x c s)) (own-small x c d),
    )
written_held (letter b) c s h d l = tt
written_held caret c s h d l = tt
written_held dollar c s h d l = tt
written_held empty c s h d l = tt
written_held (group p) c s h d l = written_held p c s h d l

-- Where a tree's nodes begin: the first node of a tree by the sort of its top node.
use mathlib.Core.Path.{◌≡◌, refl, ap, ◌∙◌, subst}
use mathlib.Core.List.{List}
use mathlib.Core.Logic.{◌⊎◌, inl, inr, ⊎_elim}
use Prim.Native.Nat.{ℕ, ◌+◌, ◌*◌, ◌-◌, ◌≤◌}
use native.Mathlib.Omega.{arith}
use lib.ListN.{length}
use Rattle.rules.specs.Language.{pattern, factor, primary, Tree, one, more, last, next, bare, times, letter, caret, dollar, empty, group}
use Rattle.nodes.specs.Nodes.{node_at}
use Rattle.nodes.specs.declared.Sort.{Sort}
use Rattle.nodes.specs.declared.Sort.TheVariants.{Letter, Anchor, Empty, Sequence, Alternation, Group}
use Rattle.nodes.specs.declared.Node.{Node}
use Rattle.trees.specs.Written.{with_mark, node_count, own}
use Rattle.trees.specs.Held.{body, Held, Top}
use Rattle.trees.proofs.Holds.{factor-nodes, branch-nodes, pattern-nodes}
use Rattle.trees.proofs.ByNode.{as_letter, as_anchor, as_empty}

-- a node with parts
unfoldable Parted : Sort → Type 0
Parted (Letter b) = ⊥
Parted (Anchor b) = ⊥
Parted Empty = ⊥
Parted Sequence = Unit {0}
Parted Alternation = Unit {0}
Parted Group = Unit {0}

module _ (s : List ℕ) (i : ℕ) (n : Node) (en : n ≡ node_at s i) where
  leaf : (F : Tree factor) (x : Tree primary) → body F ≡ x → node_count x ≡ 0 → i + node_count F ≡ i + 1
  unfolding node_count
  leaf (bare y) x e z = omega (arith, ap (λ (w : Tree primary). node_count w) e)
  leaf (times y f q) x e z = omega (arith, ap (λ (w : Tree primary). node_count w) e)

  first-letter : (a : ℕ) → n.sort ≡ Letter a → (p : Tree pattern) → Top p i s → i + node_count p ≡ i + 1
  unfolding node_count
  first-letter a e = as_letter s i n en (λ p. i + node_count p ≡ i + 1) a e (λ F q j. leaf F (letter a) j refl)

  first-anchor : (a : ℕ) → n.sort ≡ Anchor a → (p : Tree pattern) → Top p i s → i + node_count p ≡ i + 1
  unfolding node_count
  first-anchor a e =
      as_anchor s i n en (λ p. i + node_count p ≡ i + 1) a e (λ F q j. ⊎_elim (λ w. leaf F caret w.0 refl) (λ w. leaf F dollar w.0 refl) j)

  first-empty : n.sort ≡ Empty → (p : Tree pattern) → Top p i s → i + node_count p ≡ i + 1
  unfolding node_count
  first-empty e = as_empty s i n en (λ p. i + node_count p ≡ i + 1) e (λ F q j. leaf F empty j refl)

  -- of a node with no parts
  pub first_leaf : ((a : ℕ) × (n.sort ≡ Letter a)) ⊎ (((a : ℕ) × (n.sort ≡ Anchor a)) ⊎ (n.sort ≡ Empty)) → (p : Tree pattern) → Top p i s → i + node_count p ≡ i + 1
  first_leaf (inl (a, e)) = first-letter a e
  first_leaf (inr (inl (a, e))) = first-anchor a e
  first_leaf (inr (inr e)) = first-empty e

  module _ (r : ℕ) (f : (p : Tree pattern) → Top p n.left s → r + node_count p ≡ n.left + 1) where
    at-node : (j : ℕ) → i ≡ j → n ≡ node_at s j
    at-node j e = en ∙ ap (node_at s) e

    first-own : (x : Tree primary) (c : ℕ) → n.sort ≡ (own x c).sort → n.left ≡ (own x c).left → i ≡ c + node_count x → Held x c s → 8 * (c + node_count x + 1) ≤ length s
        → Parted n.sort → r + (node_count x + 1) ≡ i + 1
    unfolding own Parted node_count Held
    first-own (letter b) c es el ei h l k = absurd (subst Parted es k)
    first-own caret c es el ei h l k = absurd (subst Parted es k)
    first-own dollar c es el ei h l k = absurd (subst Parted es k)
    first-own empty c es el ei h l k = absurd (subst Parted es k)
    first-own (group q) c es el ei h l k =
        let z = f q (record { base = c; top = omega (arith, pattern-nodes q); held = h; fits = omega arith }) in omega (arith, pattern-nodes q)

    first_part : Parted n.sort → (p : Tree pattern) → Top p i s → r + node_count p ≡ i + 1
    unfolding node_count Held
    first_part k (one (last (bare x))) t =
        let c = t.base in let e = t.top in let l = t.fits in
        let q : n ≡ own x c = at-node (c + node_count x) (omega arith) ∙ t.held.1 in
        first-own x c (ap (λ (y : Node). y.sort) q) (ap (λ (y : Node). y.left) q) (omega arith) t.held.0 (omega arith) k
    first_part k (one (last (times x m z))) t =
        let c = t.base in let e = t.top in let l = t.fits in
        let q : n ≡ with_mark (own x c) m z = at-node (c + node_count x) (omega arith) ∙ t.held.2 in
        first-own x c (ap (λ (y : Node). y.sort) q) (ap (λ (y : Node). y.left) q) (omega arith) t.held.0 (omega arith) k
    first_part k (one (next x b)) t =
        let c = t.base in let e = t.top in let l = t.fits in
        let q : n.left ≡ c + node_count x - 1 = ap (λ (y : Node). y.left) (at-node (c + node_count x + node_count b) (omega arith) ∙ t.held.2) in
        let z = f (one (last x)) (record { base = c; top = omega (arith, factor-nodes x); held = t.held.0; fits = omega arith }) in omega (arith, factor-nodes x)
    first_part k (more b p) t =
        let c = t.base in let e = t.top in let l = t.fits in
        let q : n.left ≡ c + node_count b - 1 = ap (λ (y : Node). y.left) (at-node (c + node_count b + node_count p) (omega arith) ∙ t.held.2) in
        let z = f (one b) (record { base = c; top = omega (arith, branch-nodes b); held = t.held.0; fits = omega arith }) in omega (arith, branch-nodes b)

    -- of a node with parts
    pub first_parted : (n.sort ≡ Sequence) ⊎ ((n.sort ≡ Alternation) ⊎ (n.sort ≡ Group)) → (p : Tree pattern) → Top p i s → r + node_count p ≡ i + 1
    unfolding Parted
    first_parted (inl e) = first_part (rw e tt)
    first_parted (inr (inl e)) = first_part (rw e tt)
    first_parted (inr (inr e)) = first_part (rw e tt)

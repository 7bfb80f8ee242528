-- A tree by the sort of its top node: what the node's words say of the tree, and the trees at its
-- parts' nodes. A function that recurses over nodes takes from here what its calls require, and
-- that the height falls.
use mathlib.Core.Path.{◌≡◌, refl, sym, ap, ◌∙◌, subst}
use mathlib.Core.Bool.{false}
use mathlib.Core.List.{List}
use mathlib.Core.Logic.{◌⊎◌, inl, inr}
use Prim.Native.Nat.{ℕ, ◌+◌, ◌*◌, ◌-◌, ◌≤◌, ◌<◌, max, min}
use native.Mathlib.Omega.{arith}
use lib.ListN.{length}
use Rattle.rules.specs.Language.{lower, upper, InBounds, pattern, branch, factor, primary, Tree, one, more, last, next, bare, times, letter, caret, dollar, empty, group}
use Rattle.rules.specs.Places.{round_places, place_count}
use Rattle.laws.proofs.Counting.{cap-rounds}
use Rattle.marks.specs.Shows.{high_of}
use Rattle.nodes.specs.Nodes.{node_at}
use Rattle.nodes.specs.declared.Sort.TheVariants.{Letter, Anchor, Empty, Sequence, Alternation, Group}
use Rattle.nodes.specs.declared.Node.{Node}
use Rattle.trees.specs.Written.{plain_node, with_mark, node_count, height, own, InOrder}
use Rattle.trees.specs.Held.{body, lower_of, highest_of, lazy_of, Held, Top, At}
use Rattle.trees.proofs.RoundLaws.{form_order}
use Rattle.trees.proofs.Holds.{factor-nodes, branch-nodes, pattern-nodes}

clash : {A : Type 0} → ◌≡◌ {A = ℕ} 0 1 → A
clash e = absurd (omega arith)

-- ---- factors

pub own-height : (x : Tree primary) (c : ℕ) → (own x c).height ≡ height x
unfolding own height
own-height (letter b) c = refl
own-height caret c = refl
own-height dollar c = refl
own-height empty c = refl
own-height (group p) c = refl

pub own-places : (x : Tree primary) (c : ℕ) → (own x c).places ≡ min (place_count x) 257
unfolding own place_count
own-places (letter b) c = refl
own-places caret c = refl
own-places dollar c = refl
own-places empty c = refl
own-places (group p) c = refl

-- the bounds of a factor's quantifier are in order
abbrev pub Bounded : Tree factor → Type 0
Bounded (bare x) = Unit {0}
Bounded (times x f z) = InBounds f

-- node n is that of the factor F
pub record FactorAt (s : List ℕ) (n : Node) (F : Tree factor) : Type 0 where
  pub base : ℕ
  pub sort : n.sort ≡ (own (body F) base).sort
  pub left : n.left ≡ (own (body F) base).left
  pub high_is : n.height ≡ height (body F)
  pub low : n.low ≡ lower_of F
  pub high : n.high ≡ highest_of F
  pub lazy : n.lazy ≡ lazy_of F
  pub bounds : Bounded F
  pub order : InOrder n.low n.high
  pub places : n.places ≡ min (place_count F) 257
  pub held : Held (body F) base s
  pub fits : 8 * (base + node_count (body F) + 1) ≤ length s

pub record SeqAt (s : List ℕ) (n : Node) (f : Tree factor) (b : Tree branch) : Type 0 where
  pub sort : n.sort ≡ Sequence
  pub low : n.low ≡ 1
  pub high_is : n.height ≡ max (height f) (height b) + 1
  pub places : n.places ≡ min (place_count f + place_count b) 257
  pub left : Top (one (last f)) n.left s
  pub right : Top (one b) n.right s

pub record AltAt (s : List ℕ) (n : Node) (b : Tree branch) (p : Tree pattern) : Type 0 where
  pub sort : n.sort ≡ Alternation
  pub low : n.low ≡ 1
  pub high_is : n.height ≡ max (height b) (height p) + 1
  pub places : n.places ≡ min (place_count b + place_count p) 257
  pub left : Top (one b) n.left s
  pub right : Top p n.right s

own-bounds : (x : Tree primary) (c : ℕ) → ((own x c).low ≡ 1) × ((own x c).high ≡ 1) × ((own x c).lazy ≡ false)
unfolding own
own-bounds (letter b) c = (refl, refl, refl)
own-bounds caret c = (refl, refl, refl)
own-bounds dollar c = (refl, refl, refl)
own-bounds empty c = (refl, refl, refl)
own-bounds (group p) c = (refl, refl, refl)

factor-at : (s : List ℕ) (n : Node) (F : Tree factor) (c : ℕ) → n ≡ node_at s (c + node_count (body F)) → 8 * (c + node_count (body F) + 1) ≤ length s → Held F c s → FactorAt s n F
unfolding Held place_count height
factor-at s n (bare x) c e l h =
    let q : n ≡ own x c = e ∙ h.1 in
    let lo : n.low ≡ 1 = ap (λ (y : Node). y.low) q ∙ (own-bounds x c).0 in
    let hi : n.high ≡ 1 = ap (λ (y : Node). y.high) q ∙ (own-bounds x c).1 in
    record {
      base = c;
      sort = ap (λ (y : Node). y.sort) q;
      left = ap (λ (y : Node). y.left) q;
      high_is = ap (λ (y : Node). y.height) q ∙ own-height x c;
      low = lo;
      high = hi;
      lazy = ap (λ (y : Node). y.lazy) q ∙ (own-bounds x c).2;
      bounds = tt;
      order = record { low_small = omega arith; high_small = omega arith; in_order = omega arith };
      places = ap (λ (y : Node). y.places) q ∙ own-places x c;
      held = h.0;
      fits = l;
    }
factor-at s n (times x f z) c e l h =
    let q : n ≡ with_mark (own x c) f z = e ∙ h.2 in
    let lo : n.low ≡ lower f = ap (λ (y : Node). y.low) q in
    let hi : n.high ≡ high_of f = ap (λ (y : Node). y.high) q in
    record {
      base = c;
      sort = ap (λ (y : Node). y.sort) q;
      left = ap (λ (y : Node). y.left) q;
      high_is = ap (λ (y : Node). y.height) q ∙ own-height x c;
      low = lo;
      high = hi;
      lazy = ap (λ (y : Node). y.lazy) q;
      bounds = h.1;
      order = rw (lo, hi) (form_order f h.1);
      places = ap (λ (y : Node). y.places) q ∙ ap (λ (i : ℕ). min (round_places (lower f) (upper f) i) 257) (own-places x c)
          ∙ cap-rounds (lower f) (upper f) (min (place_count x) 257) (place_count x) (omega arith);
      held = h.0;
      fits = l;
    }

seq-at : (s : List ℕ) (n : Node) (f : Tree factor) (b : Tree branch) (c : ℕ) → n ≡ node_at s (c + node_count f + node_count b) → 8 * (c + node_count f + node_count b + 1) ≤ length s
    → Held (next f b) c s → SeqAt s n f b
unfolding Held node_count
seq-at s n f b c e l h =
    let q : n ≡ plain_node Sequence (c + node_count f - 1) (c + node_count f + node_count b - 1) (max (height f) (height b) + 1) (min (place_count f + place_count b) 257) = e ∙ h.2 in
    let el : n.left ≡ c + node_count f - 1 = ap (λ (y : Node). y.left) q in
    let er : n.right ≡ c + node_count f + node_count b - 1 = ap (λ (y : Node). y.right) q in
    record {
      sort = ap (λ (y : Node). y.sort) q;
      low = ap (λ (y : Node). y.low) q;
      high_is = ap (λ (y : Node). y.height) q;
      places = ap (λ (y : Node). y.places) q;
      left = record { base = c; top = omega (arith, factor-nodes f); held = h.0; fits = omega arith };
      right = record { base = c + node_count f; top = omega (arith, factor-nodes f); held = h.1; fits = omega arith };
    }

alt_at : (s : List ℕ) (n : Node) (b : Tree branch) (p : Tree pattern) (c : ℕ) → n ≡ node_at s (c + node_count b + node_count p) → 8 * (c + node_count b + node_count p + 1) ≤ length s
    → Held (more b p) c s → AltAt s n b p
unfolding Held node_count
alt_at s n b p c e l h =
    let q : n ≡ plain_node Alternation (c + node_count b - 1) (c + node_count b + node_count p - 1) (max (height b) (height p) + 1) (min (place_count b + place_count p) 257) = e ∙ h.2 in
    let el : n.left ≡ c + node_count b - 1 = ap (λ (y : Node). y.left) q in
    let er : n.right ≡ c + node_count b + node_count p - 1 = ap (λ (y : Node). y.right) q in
    record {
      sort = ap (λ (y : Node). y.sort) q;
      low = ap (λ (y : Node). y.low) q;
      high_is = ap (λ (y : Node). y.height) q;
      places = ap (λ (y : Node). y.places) q;
      left = record { base = c; top = omega (arith, branch-nodes b); held = h.0; fits = omega arith };
      right = record { base = c + node_count b; top = omega (arith, branch-nodes b); held = h.1; fits = omega arith };
    }

-- ---- a primary by the sort of its own node

not-seq : (x : Tree primary) (c : ℕ) → (own x c).sort ≡ Sequence → ⊥
unfolding own
not-seq (letter b) c e = clash cc
not-seq caret c e = clash cc
not-seq dollar c e = clash cc
not-seq empty c e = clash cc
not-seq (group p) c e = clash cc

not-alt : (x : Tree primary) (c : ℕ) → (own x c).sort ≡ Alternation → ⊥
unfolding own
not-alt (letter b) c e = clash cc
not-alt caret c e = clash cc
not-alt dollar c e = clash cc
not-alt empty c e = clash cc
not-alt (group p) c e = clash cc

prim_letter : (x : Tree primary) (c b : ℕ) → (own x c).sort ≡ Letter b → x ≡ letter b
unfolding own
prim_letter (letter a) c b e = let q : a ≡ b = cc in ap letter q
prim_letter caret c b e = clash cc
prim_letter dollar c b e = clash cc
prim_letter empty c b e = clash cc
prim_letter (group p) c b e = clash cc

-- an anchor with the byte b
abbrev pub IsAnchor : Tree primary → ℕ → Type 0
IsAnchor x b = ((x ≡ caret) × (b ≡ 94)) ⊎ ((x ≡ dollar) × (b ≡ 36))

prim_anchor : (x : Tree primary) (c b : ℕ) → (own x c).sort ≡ Anchor b → IsAnchor x b
unfolding own
prim_anchor (letter a) c b e = clash cc
prim_anchor caret c b e = let q : b ≡ 94 = cc in inl (refl, q)
prim_anchor dollar c b e = let q : b ≡ 36 = cc in inr (refl, q)
prim_anchor empty c b e = clash cc
prim_anchor (group p) c b e = clash cc

prim_empty : (x : Tree primary) (c : ℕ) → (own x c).sort ≡ Empty → x ≡ empty
unfolding own
prim_empty (letter a) c e = clash cc
prim_empty caret c e = clash cc
prim_empty dollar c e = clash cc
prim_empty empty c e = refl
prim_empty (group p) c e = clash cc

prim_group : (x : Tree primary) (c : ℕ) → (own x c).sort ≡ Group → (p : Tree pattern) × (x ≡ group p)
unfolding own
prim_group (letter a) c e = clash cc
prim_group caret c e = clash cc
prim_group dollar c e = clash cc
prim_group empty c e = clash cc
prim_group (group p) c e = (p, refl)

-- the pattern in a group's parentheses, at its node
pub record GroupAt (s : List ℕ) (n : Node) (F : Tree factor) (p : Tree pattern) : Type 0 where
  pub is : body F ≡ group p
  pub inside : Top p n.left s
  pub high_is : n.height ≡ height p + 1

group_at : (s : List ℕ) (n : Node) (F : Tree factor) → FactorAt s n F → n.sort ≡ Group → (p : Tree pattern) × GroupAt s n F p
unfolding own Held height node_count
group_at s n F q e = go (prim_group (body F) q.base (sym q.sort ∙ e))
  where
    go : (p : Tree pattern) × (body F ≡ group p) → (p : Tree pattern) × GroupAt s n F p
    go (p, j) =
        let l : n.left ≡ q.base + node_count p - 1 = q.left ∙ ap (λ (x : Tree primary). (own x q.base).left) j in
        let m : node_count (body F) ≡ node_count p = ap (λ (x : Tree primary). node_count x) j in
        let f = q.fits in (
          p,
          record {
            is = j;
            inside = record { base = q.base; top = omega (arith, pattern-nodes p); held = subst (λ (x : Tree primary). Held x q.base s) j q.held; fits = omega arith };
            high_is = q.high_is ∙ ap (λ (x : Tree primary). height x) j;
          },
        )

-- ---- a tree by its top node

module _ (s : List ℕ) (i : ℕ) (n : Node) (en : n ≡ node_at s i) where
  at-index : (j : ℕ) → i + 1 ≡ j + 1 → n ≡ node_at s j
  at-index j e = en ∙ ap (node_at s) (let z : i ≡ j = omega arith in z)

  pub as_any : (C : Tree pattern → Type 0) → ((F : Tree factor) → FactorAt s n F → C (one (last F))) → ((f : Tree factor) (b : Tree branch) → SeqAt s n f b → C (one (next f b)))
      → ((b : Tree branch) (p : Tree pattern) → AltAt s n b p → C (more b p)) → (p : Tree pattern) → Top p i s → C p
  unfolding node_count Held
  as_any C f g k (one (last (bare x))) t =
      let c = t.base in let e = t.top in let l = t.fits in
      f (bare x) (factor-at s n (bare x) c (at-index (c + node_count x) (omega arith)) (omega arith) t.held)
  as_any C f g k (one (last (times x m z))) t =
      let c = t.base in let e = t.top in let l = t.fits in
      f (times x m z) (factor-at s n (times x m z) c (at-index (c + node_count x) (omega arith)) (omega arith) t.held)
  as_any C f g k (one (next x b)) t =
      let c = t.base in let e = t.top in let l = t.fits in
      g x b (seq-at s n x b c (at-index (c + node_count x + node_count b) (omega arith)) (omega arith) t.held)
  as_any C f g k (more b p) t =
      let c = t.base in let e = t.top in let l = t.fits in
      k b p (alt_at s n b p c (at-index (c + node_count b + node_count p) (omega arith)) (omega arith) t.held)

  module _ (C : Tree pattern → Type 0) where
    pub as_seq : n.sort ≡ Sequence → ((f : Tree factor) (b : Tree branch) → SeqAt s n f b → C (one (next f b))) → (p : Tree pattern) → Top p i s → C p
    as_seq e g = as_any C (λ F q. absurd (not-seq (body F) q.base (sym q.sort ∙ e))) g (λ b p q. let z = q.sort in clash cc)

    pub as_alt : n.sort ≡ Alternation → ((b : Tree branch) (p : Tree pattern) → AltAt s n b p → C (more b p)) → (p : Tree pattern) → Top p i s → C p
    as_alt e g = as_any C (λ F q. absurd (not-alt (body F) q.base (sym q.sort ∙ e))) (λ f b q. let z = q.sort in clash cc) g

    -- a factor whose body is a letter, an anchor, (), or a group
    pub as_letter : (a : ℕ) → n.sort ≡ Letter a → ((F : Tree factor) → FactorAt s n F → body F ≡ letter a → C (one (last F))) → (p : Tree pattern) → Top p i s → C p
    as_letter a e g = as_any C (λ F q. g F q (prim_letter (body F) q.base a (sym q.sort ∙ e))) (λ f b q. let z = q.sort in clash cc) (λ b p q. let z = q.sort in clash cc)

    pub as_anchor : (a : ℕ) → n.sort ≡ Anchor a → ((F : Tree factor) → FactorAt s n F → IsAnchor (body F) a → C (one (last F))) → (p : Tree pattern) → Top p i s → C p
    as_anchor a e g = as_any C (λ F q. g F q (prim_anchor (body F) q.base a (sym q.sort ∙ e))) (λ f b q. let z = q.sort in clash cc) (λ b p q. let z = q.sort in clash cc)

    pub as_empty : n.sort ≡ Empty → ((F : Tree factor) → FactorAt s n F → body F ≡ empty → C (one (last F))) → (p : Tree pattern) → Top p i s → C p
    as_empty e g = as_any C (λ F q. g F q (prim_empty (body F) q.base (sym q.sort ∙ e))) (λ f b q. let z = q.sort in clash cc) (λ b p q. let z = q.sort in clash cc)

    pub as_group : n.sort ≡ Group → ((F : Tree factor) → FactorAt s n F → (p : Tree pattern) → GroupAt s n F p → C (one (last F))) → (p : Tree pattern) → Top p i s → C p
    as_group e g = as_any C (λ F q. let h = group_at s n F q e in g F q h.0 h.1) (λ f b q. let z = q.sort in clash cc) (λ b p q. let z = q.sort in clash cc)

factor-height : (F : Tree factor) → height F ≡ height (body F)
unfolding height
factor-height (bare x) = refl
factor-height (times x f z) = refl

-- the height and the places of a tree are those of its top node
pub top_height : (s : List ℕ) (i : ℕ) (p : Tree pattern) → Top p i s → (node_at s i).height ≡ height p
unfolding height
top_height s i = as_any s i (node_at s i) refl (λ p. (node_at s i).height ≡ height p) (λ F q. q.high_is ∙ sym (factor-height F)) (λ f b q. q.high_is) (λ b p q. q.high_is)

pub top_places : (s : List ℕ) (i : ℕ) (p : Tree pattern) → Top p i s → (node_at s i).places ≡ min (place_count p) 257
unfolding place_count
top_places s i = as_any s i (node_at s i) refl (λ p. (node_at s i).places ≡ min (place_count p) 257) (λ F q. q.places) (λ f b q. q.places) (λ b p q. q.places)

pub at_in : (s : List ℕ) (i : ℕ) → At s i → 8 * i + 8 ≤ length s
at_in s i a = omega (arith, a.is.top, a.is.fits)

-- ---- a part is a tree too, and its height is less: what a call on it requires

module _ (s : List ℕ) (i : ℕ) (n : Node) (en : n ≡ node_at s i) (u : ℕ) (eu : (node_at s i).height ≡ u) (a : At s i) where
  high : n.height ≡ u
  high = ap (λ (y : Node). y.height) en ∙ eu

  pub seq-left : n.sort ≡ Sequence → ((node_at s n.left).height < u) × At s n.left
  unfolding height
  seq-left e =
      as_seq s i n en (λ t. ((node_at s n.left).height < u) × At s n.left) e
      (λ f b q. (omega (arith, high, q.high_is, top_height s n.left (one (last f)) q.left), record { tree = one (last f); is = q.left })) a.tree a.is

  pub seq-right : n.sort ≡ Sequence → ((node_at s n.right).height < u) × At s n.right
  unfolding height
  seq-right e =
      as_seq s i n en (λ t. ((node_at s n.right).height < u) × At s n.right) e
      (λ f b q. (omega (arith, high, q.high_is, top_height s n.right (one b) q.right), record { tree = one b; is = q.right })) a.tree a.is

  pub alt_left : n.sort ≡ Alternation → ((node_at s n.left).height < u) × At s n.left
  unfolding height
  alt_left e =
      as_alt s i n en (λ t. ((node_at s n.left).height < u) × At s n.left) e
      (λ b p q. (omega (arith, high, q.high_is, top_height s n.left (one b) q.left), record { tree = one b; is = q.left })) a.tree a.is

  pub alt_right : n.sort ≡ Alternation → ((node_at s n.right).height < u) × At s n.right
  unfolding height
  alt_right e =
      as_alt s i n en (λ t. ((node_at s n.right).height < u) × At s n.right) e
      (λ b p q. (omega (arith, high, q.high_is, top_height s n.right p q.right), record { tree = p; is = q.right })) a.tree a.is

  pub group-left : n.sort ≡ Group → ((node_at s n.left).height < u) × At s n.left
  group-left e =
      as_group s i n en (λ t. ((node_at s n.left).height < u) × At s n.left) e
      (λ F q p g. (omega (arith, high, g.high_is, top_height s n.left p g.inside), record { tree = p; is = g.inside })) a.tree a.is

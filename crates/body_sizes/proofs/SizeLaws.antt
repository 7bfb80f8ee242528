-- The places of a pattern and of a factor's body by the sort of its node, and whether a body can
-- take no row.
use mathlib.Core.Path.{◌≡◌, refl, sym, ap, ◌∙◌}
use mathlib.Core.List.{List}
use mathlib.Core.Logic.{◌⊎◌, inl, inr}
use mathlib.Core.Bool.{Bool, true, false}
use Prim.Native.Nat.{ℕ, zero, suc, ◌+◌, ◌*◌, ◌-◌, ◌≤◌, ◌<◌}
use native.Mathlib.Omega.{arith}
use native.Mathlib.Nat.{mul-le-mul}
use mir.Val.{Fits as Fits-in}
use mir.Syntax.{w64}
use lib.ListN.{length}
use borrow.Author.Tests.{lt-ltb, le-ltb}
use Rattle.rules.specs.Language.{Form, star, plus, opt, exactly, at_least, at_most, between, lower, upper, InBounds, pattern, factor, primary, Tree, one, more, last, next, bare, times, nullable}
use Rattle.rules.specs.Places.{round_places, fork, place_count}
use Rattle.nodes.specs.Nodes.{node_at}
use Rattle.nodes.specs.declared.Sort.{Sort}
use Rattle.nodes.specs.declared.Sort.TheVariants.{Letter, Anchor, Empty, Sequence, Alternation, Group}
use Rattle.nodes.specs.declared.Node.{Node}
use Rattle.trees.specs.Held.{body, At}
use Rattle.trees.proofs.ByNode.{Bounded, IsAnchor, FactorAt, as_any, as_seq, as_alt, as_letter, as_anchor, as_empty, as_group, at_in, group-left, top_places}
use Rattle.laws.proofs.Counting.{unrolled-skips}
use Rattle.loops.specs.Loops.{Nullable}
use Rattle.forks.specs.PlaneCode.{flags_copy}
use Rattle.forks.specs.Emitting.{WholeSize, BodySize, BodyEmpty, BodyFlag}

module _ (s : List ℕ) (i c : ℕ) (k : Sort) (ec : c ≡ (node_at s i).places) (ek : k ≡ (node_at s i).sort) where
  pub whole-alt : k ≡ Alternation → WholeSize s i (c + 1)
  unfolding fork place_count
  whole-alt e = as_alt s i (node_at s i) refl (λ p. place_count p ≤ 256 → c + 1 ≡ fork p + place_count p) (sym ek ∙ e) (λ b p q h. omega (arith, q.places, ec))

  pub whole-one : (k ≡ Alternation → ⊥) → WholeSize s i c
  unfolding fork place_count
  whole-one e =
      as_any s i (node_at s i) refl (λ p. place_count p ≤ 256 → c ≡ fork p + place_count p) (λ F q h. omega (arith, q.places, ec)) (λ f b q h. omega (arith, q.places, ec))
      (λ b p q h. absurd (e (ek ∙ q.sort)))

pub whole-fits : (s : List ℕ) (i c : ℕ) → At s i → c ≡ (node_at s i).places → (v : ℕ) → v ≤ c + 1 → Fits-in w64 v
whole-fits s i c a e v h = record { fits = omega (arith, e, top_places s i a.tree a.is) }

pub at-node : (s : List ℕ) (i : ℕ) → At s i → 8 * i + 8 ≤ length s
at-node s i a = at_in s i a

-- a statement on factors, as one on patterns
abbrev pub OnFactor : (Tree factor → Type 0) → Tree pattern → Type 0
OnFactor D (one (last F)) = D F
OnFactor D (one (next f b)) = Unit {0}
OnFactor D (more b p) = Unit {0}

pub rounds_more : (f : Form) (c : ℕ) → InBounds f → c ≤ round_places (lower f) (upper f) c
unfolding round_places lower upper InBounds
rounds_more star c i = omega arith
rounds_more plus c i = omega arith
rounds_more opt c i = omega arith
rounds_more (exactly n) c i = let a : 1 * c ≤ n * c = mul-le-mul i.0 (omega arith) in omega (arith, a)
rounds_more (at_least n) c i = omega arith
rounds_more (at_most m) c i = let a : 1 * (1 + c) ≤ (m - 0) * (1 + c) = mul-le-mul (omega (arith, i.0)) (omega arith) in omega (arith, a)
rounds_more (between zero m) c i = let a : 1 * (1 + c) ≤ (m - 0) * (1 + c) = mul-le-mul (omega (arith, i.0)) (omega arith) in omega (arith, a)
rounds_more (between (suc n) m) c i = let a : 1 * c ≤ suc n * c = mul-le-mul (omega arith) (omega arith) in omega (arith, a)

pub body_less : (F : Tree factor) → Bounded F → place_count (body F) ≤ place_count F
unfolding place_count
body_less (bare x) i = omega arith
body_less (times x f z) i = rounds_more f (place_count x) i

module _ (s : List ℕ) (i : ℕ) (n : Node) (en : n ≡ node_at s i) where
  abbrev SizeIs : ℕ → Tree factor → Type 0
  SizeIs r F = place_count F ≤ 256 → r ≡ place_count (body F)

  size-letter : (a : ℕ) → n.sort ≡ Letter a → BodySize s i 1
  unfolding place_count
  size-letter a e F t = as_letter s i n en (OnFactor (SizeIs 1)) a e (λ G q j h. sym (ap (λ (x : Tree primary). place_count x) j)) (one (last F)) t

  size-anchor : (a : ℕ) → n.sort ≡ Anchor a → BodySize s i 1
  unfolding place_count
  size-anchor a e F t = as_anchor s i n en (OnFactor (SizeIs 1)) a e go (one (last F)) t
    where
      go : (G : Tree factor) → FactorAt s n G → IsAnchor (body G) a → SizeIs 1 G
      go G q (inl j) h = sym (ap (λ (x : Tree primary). place_count x) j.0)
      go G q (inr j) h = sym (ap (λ (x : Tree primary). place_count x) j.0)

  size-empty : n.sort ≡ Empty → BodySize s i 0
  unfolding place_count
  size-empty e F t = as_empty s i n en (OnFactor (SizeIs 0)) e (λ G q j h. sym (ap (λ (x : Tree primary). place_count x) j)) (one (last F)) t

  size-sequence : n.sort ≡ Sequence → BodySize s i 0
  size-sequence e F t = as_seq s i n en (OnFactor (SizeIs 0)) e (λ f b q. tt) (one (last F)) t

  size-alternation : n.sort ≡ Alternation → BodySize s i 0
  size-alternation e F t = as_alt s i n en (OnFactor (SizeIs 0)) e (λ b p q. tt) (one (last F)) t

  pub size_group : (r : ℕ) → n.sort ≡ Group → WholeSize s n.left r → BodySize s i r
  unfolding place_count
  size_group r e f F t =
      as_group s i n en (OnFactor (SizeIs r)) e
      (λ G q p g h.
      let j : place_count (body G) ≡ fork p + place_count p = ap (λ (x : Tree primary). place_count x) g.is in
      f p g.inside (omega (arith, body_less G q.bounds)) ∙ sym j)
      (one (last F)) t

  -- the sorts that have one place, and those that have none
  pub size_one : ((a : ℕ) × (n.sort ≡ Letter a)) ⊎ ((a : ℕ) × (n.sort ≡ Anchor a)) → BodySize s i 1
  size_one (inl e) = size-letter e.0 e.1
  size_one (inr e) = size-anchor e.0 e.1

  pub size_none : (n.sort ≡ Empty) ⊎ ((n.sort ≡ Sequence) ⊎ (n.sort ≡ Alternation)) → BodySize s i 0
  size_none (inl e) = size-empty e
  size_none (inr (inl e)) = size-sequence e
  size_none (inr (inr e)) = size-alternation e

  pub size_inside : At s i → n.sort ≡ Group → At s n.left
  size_inside a e = (group-left s i n en (node_at s i).height refl a e).1

  -- ---- can take no row

  abbrev EmptyIs : Bool → Tree factor → Type 0
  EmptyIs r F = r ≡ nullable (body F)

  empty-letter : (a : ℕ) → n.sort ≡ Letter a → BodyEmpty s i false
  unfolding nullable
  empty-letter a e F t = as_letter s i n en (OnFactor (EmptyIs false)) a e (λ G q j. sym (ap (λ (x : Tree primary). nullable x) j)) (one (last F)) t

  empty-anchor : (a : ℕ) → n.sort ≡ Anchor a → BodyEmpty s i true
  unfolding nullable
  empty-anchor a e F t = as_anchor s i n en (OnFactor (EmptyIs true)) a e go (one (last F)) t
    where
      go : (G : Tree factor) → FactorAt s n G → IsAnchor (body G) a → EmptyIs true G
      go G q (inl j) = sym (ap (λ (x : Tree primary). nullable x) j.0)
      go G q (inr j) = sym (ap (λ (x : Tree primary). nullable x) j.0)

  empty-empty : n.sort ≡ Empty → BodyEmpty s i true
  unfolding nullable
  empty-empty e F t = as_empty s i n en (OnFactor (EmptyIs true)) e (λ G q j. sym (ap (λ (x : Tree primary). nullable x) j)) (one (last F)) t

  empty-sequence : n.sort ≡ Sequence → BodyEmpty s i false
  empty-sequence e F t = absurd (as_seq s i n en (OnFactor (λ G. ⊥)) e (λ f b q. tt) (one (last F)) t)

  empty-alternation : n.sort ≡ Alternation → BodyEmpty s i false
  empty-alternation e F t = absurd (as_alt s i n en (OnFactor (λ G. ⊥)) e (λ b p q. tt) (one (last F)) t)

  -- the sorts that can take no row, and those that cannot
  pub empty_can : ((a : ℕ) × (n.sort ≡ Anchor a)) ⊎ (n.sort ≡ Empty) → BodyEmpty s i true
  empty_can (inl e) = empty-anchor e.0 e.1
  empty_can (inr e) = empty-empty e

  pub empty_cannot : ((a : ℕ) × (n.sort ≡ Letter a)) ⊎ ((n.sort ≡ Sequence) ⊎ (n.sort ≡ Alternation)) → BodyEmpty s i false
  empty_cannot (inl e) = empty-letter e.0 e.1
  empty_cannot (inr (inl e)) = empty-sequence e
  empty_cannot (inr (inr e)) = empty-alternation e

  pub empty_group : (r : Bool) → n.sort ≡ Group → Nullable s n.left r → BodyEmpty s i r
  unfolding nullable
  empty_group r e f F t =
      as_group s i n en (OnFactor (EmptyIs r)) e (λ G q p g. f p g.inside ∙ sym (ap (λ (x : Tree primary). nullable x) g.is)) (one (last F)) t

-- ---- the flag of a copy

module _ (f : ℕ) (s : List ℕ) (i : ℕ) where
  pub flag_never : f ≤ 1 → BodyFlag f s i false
  unfolding flags_copy
  flag_never h F t = rw (le-ltb 1 f h)

  pub flag_if : (r : Bool) → 1 < f → BodyEmpty s i r → BodyFlag f s i r
  unfolding flags_copy
  flag_if r h e F t = e F t ∙ sym (rw (lt-ltb 1 f h) (unrolled-skips (body F)))

-- Can take no row, and unbounded quantifiers over bodies that can. A loop goes from node to node;
-- what is right for its node stays right for the whole. One law for each way through a turn of the
-- two loops, by what a node tells of its tree.
use mathlib.Core.Path.{◌≡◌, refl, sym, ap, ◌∙◌}
use mathlib.Core.Bool.{Bool, true, false, ◌&&◌, ◌||◌}
use mathlib.Core.List.{List}
use mathlib.Core.Logic.{◌⊎◌, inl, inr}
use Prim.Native.Nat.{ℕ, zero, suc, ◌+◌, ◌*◌, ◌≤◌, ◌<◌, ◌^◌, ◌%◌, min, max}
use native.Mathlib.Omega.{arith}
use lib.Dec.{eqb}
use lib.ListN.{length}
use borrow.Author.Tests.{eq-eqb, ne_eqb}
use Rattle.rules.specs.Basics.{pick}
use Rattle.rules.specs.Language.{pattern, factor, primary, Tree, one, last, bare, times, letter, caret, dollar, empty, group, nullable, loop_nesting, deeper}
use Rattle.nodes.specs.Nodes.{node_at}
use Rattle.nodes.specs.declared.Sort.{Sort}
use Rattle.nodes.specs.declared.Sort.TheVariants.{Letter, Anchor, Empty, Sequence, Alternation, Group}
use Rattle.nodes.specs.declared.Node.{Node}
use Rattle.trees.specs.Held.{body, Top, At}
use Rattle.trees.proofs.RoundLaws.{bound-eq}
use Rattle.trees.proofs.ByNode.{IsAnchor, FactorAt, as_any, as_seq, as_alt, as_letter, as_anchor, as_empty, as_group, at_in, seq-left, seq-right, alt_left, alt_right, group-left}
use Rattle.loops.specs.Loops.{Nullable, Nesting}

clash : {A : Type 0} → ◌≡◌ {A = ℕ} 0 1 → A
clash e = absurd (omega arith)

-- ---- the loop

-- The loop that began at node i is at node j: what Says tells of j's tree it tells of i's.
pub record Left (Says : ℕ → Bool → Type 0) (s : List ℕ) (i j : ℕ) : Type 0 where
  pub here : At s j
  pub lower : (node_at s j).height ≤ (node_at s i).height
  pub so : (r : Bool) → Says j r → Says i r

pub begins : (Says : ℕ → Bool → Type 0) (s : List ℕ) (i : ℕ) → At s i → Left Says s i i
begins Says s i a = record { here = a; lower = omega arith; so = λ r h. h }

-- the tree at m is lower than t: what a call on it requires, and what the loop requires to go on
abbrev pub Below : List ℕ → ℕ → ℕ → Type 0
Below s t m = ((node_at s m).height < t) × At s m

module _ (Says : ℕ → Bool → Type 0) (s : List ℕ) (i j : ℕ) (L : Left Says s i j) where
  pub inside : 8 * j + 8 ≤ length s
  inside = at_in s j L.here

  on : (m : ℕ) → Below s (node_at s j).height m → ((r : Bool) → Says m r → Says j r) → Left Says s i m
  on m p f = record { here = p.1; lower = omega (arith, p.0, L.lower); so = λ r h. L.so r (f r h) }

  module _ (n : Node) (en : n ≡ node_at s j) where
    -- the loop's measure falls
    pub seq-down : n.sort ≡ Sequence → (node_at s n.right).height < (node_at s j).height
    seq-down e = (seq-right s j n en _ refl L.here e).0

    pub alt_down : n.sort ≡ Alternation → (node_at s n.right).height < (node_at s j).height
    alt_down e = (alt_right s j n en _ refl L.here e).0

    pub group-down : n.sort ≡ Group → (node_at s n.left).height < (node_at s j).height
    group-down e = (group-left s j n en _ refl L.here e).0

    pub group_at : n.sort ≡ Group → At s n.left
    group_at e = (group-left s j n en _ refl L.here e).1

    -- a call on the left part
    pub seq-call : (t : ℕ) → (node_at s i).height ≡ t → n.sort ≡ Sequence → Below s t n.left
    seq-call t et e = let x = seq-left s j n en _ refl L.here e in (omega (arith, x.0, L.lower), x.1)

    pub alt_call : (t : ℕ) → (node_at s i).height ≡ t → n.sort ≡ Alternation → Below s t n.left
    alt_call t et e = let x = alt_left s j n en _ refl L.here e in (omega (arith, x.0, L.lower), x.1)

-- ---- can take no row

null_factor : (s : List ℕ) (n : Node) (F : Tree factor) → FactorAt s n F → nullable F ≡ (eqb n.low 0 || nullable (body F))
unfolding nullable
null_factor s n (bare x) q = rw q.low refl
null_factor s n (times x f z) q = rw q.low refl

module _ (s : List ℕ) (i j : ℕ) (L : Left (Nullable s) s i j) (n : Node) (en : n ≡ node_at s j) where
  pub null_zero : n.low ≡ 0 → Nullable s i true
  unfolding nullable
  null_zero e =
      L.so true (as_any s j n en (λ p. true ≡ nullable p)
      (λ F q. sym (null_factor s n F q ∙ ap (λ (b : Bool). b || nullable (body F)) (eq-eqb n.low 0 e)))
      (λ f b q. clash (omega (arith, q.low))) (λ b p q. clash (omega (arith, q.low))))

  module _ (nz : n.low ≡ 0 → ⊥) where
    null_body : (F : Tree factor) → FactorAt s n F → (x : Tree primary) → body F ≡ x → nullable F ≡ nullable x
    null_body F q x j = null_factor s n F q ∙ ap (λ (b : Bool). b || nullable (body F)) (ne_eqb n.low 0 nz) ∙ ap (λ (y : Tree primary). nullable y) j

    pub null_letter : (a : ℕ) → n.sort ≡ Letter a → Nullable s i false
    unfolding nullable
    null_letter a e = L.so false (as_letter s j n en (λ p. false ≡ nullable p) a e (λ F q z. sym (null_body F q (letter a) z)))

    null_anchor : (a : ℕ) → n.sort ≡ Anchor a → Nullable s i true
    unfolding nullable
    null_anchor a e = L.so true (as_anchor s j n en (λ p. true ≡ nullable p) a e go)
      where
        go : (F : Tree factor) → FactorAt s n F → IsAnchor (body F) a → true ≡ nullable (one (last F))
        go F q (inl z) = sym (null_body F q caret z.0)
        go F q (inr z) = sym (null_body F q dollar z.0)

    null_empty : n.sort ≡ Empty → Nullable s i true
    unfolding nullable
    null_empty e = L.so true (as_empty s j n en (λ p. true ≡ nullable p) e (λ F q z. sym (null_body F q empty z)))

    pub null_still : ((a : ℕ) × (n.sort ≡ Anchor a)) ⊎ (n.sort ≡ Empty) → Nullable s i true
    null_still (inl (a, e)) = null_anchor a e
    null_still (inr e) = null_empty e

    pub null_group : n.sort ≡ Group → Left (Nullable s) s i n.left
    unfolding nullable
    null_group e =
        on (Nullable s) s i j L n.left (group-left s j n en _ refl L.here e)
        (λ r f. as_group s j n en (λ p. r ≡ nullable p) e (λ F q p g. f p g.inside ∙ sym (null_body F q (group p) g.is)))

  pub null_seq : (r1 : Bool) → n.sort ≡ Sequence → Nullable s n.left r1 → r1 ≡ true → Left (Nullable s) s i n.right
  unfolding nullable
  null_seq r1 e f o =
      on (Nullable s) s i j L n.right (seq-right s j n en _ refl L.here e)
      (λ r g. as_seq s j n en (λ p. r ≡ nullable p) e
      (λ x b q. let z : nullable x ≡ true = sym (f (one (last x)) q.left) ∙ o in rw z (g (one b) q.right)))

  pub null_seq_no : (r1 : Bool) → n.sort ≡ Sequence → Nullable s n.left r1 → r1 ≡ false → Nullable s i false
  unfolding nullable
  null_seq_no r1 e f o =
      L.so false (as_seq s j n en (λ p. false ≡ nullable p) e (λ x b q. let z : nullable x ≡ false = sym (f (one (last x)) q.left) ∙ o in rw z refl))

  pub null_alt : (r1 : Bool) → n.sort ≡ Alternation → Nullable s n.left r1 → r1 ≡ true → Nullable s i true
  unfolding nullable
  null_alt r1 e f o =
      L.so true (as_alt s j n en (λ p. true ≡ nullable p) e (λ b p q. let z : nullable b ≡ true = sym (f (one b) q.left) ∙ o in rw z refl))

  pub null_alt_second : (r1 : Bool) → n.sort ≡ Alternation → Nullable s n.left r1 → r1 ≡ false → Left (Nullable s) s i n.right
  unfolding nullable
  null_alt_second r1 e f o =
      on (Nullable s) s i j L n.right (alt_right s j n en _ refl L.here e)
      (λ r g. as_alt s j n en (λ p. r ≡ nullable p) e
      (λ b p q. let z : nullable b ≡ false = sym (f (one b) q.left) ∙ o in rw z (g p q.right)))

-- ---- unbounded over what can take no row

-- The loop that began at node i is at node j, with so many such quantifiers around it, and with so
-- deep a nesting behind it: the nesting of i's tree is the deeper of that and of j's inside those.
pub record Deep (s : List ℕ) (i j around most : ℕ) : Type 0 where
  pub here : At s j
  pub lower : (node_at s j).height ≤ (node_at s i).height
  pub so : (r : ℕ) → Nesting s j r → Nesting s i (min (max most (around + r)) 4)
  pub few : (around ≤ 4) × (most ≤ 4)

pub deep-begins : (s : List ℕ) (i : ℕ) → At s i → Deep s i i 0 0
deep-begins s i a = record { here = a; lower = omega arith; so = λ r h p t. omega (arith, h p t); few = (omega arith, omega arith) }

nest-factor : (s : List ℕ) (n : Node) (F : Tree factor) → FactorAt s n F → loop_nesting F ≡ deeper (eqb n.high 100 && nullable (body F)) (loop_nesting (body F))
unfolding loop_nesting
nest-factor s n (bare x) q = rw q.high refl
nest-factor s n (times x f z) q = rw (q.high, bound-eq f q.bounds) refl

and-false : (t : Bool) → (t && false) ≡ false
and-false true = refl
and-false false = refl

once : (t : Bool) → min (deeper (t && true) 0) 4 ≡ pick t 1 0
once true = refl
once false = refl

min-in : (a b : ℕ) → min (max (min a 4) b) 4 ≡ min (max a b) 4
min-in a b = omega arith

max-in : (m a c d : ℕ) → max (max m (a + c)) (a + d) ≡ max m (a + max c d)
max-in m a c d = omega arith

right-min : (most around c d r : ℕ) → r ≡ min (max most (around + c)) 4 → min (max r (around + d)) 4 ≡ min (max most (around + max c d)) 4
right-min most around c d r e = rw e (min-in (max most (around + c)) (around + d) ∙ ap (λ (x : ℕ). min x 4) (max-in most around c d))

both-min : (a b c d : ℕ) → c ≡ min a 4 → d ≡ min b 4 → max c d ≡ min (max a b) 4
both-min a b c d e f = rw (e, f) (omega arith)

left-min : (most around d r : ℕ) → r ≡ min (around + 1) 4 → min (max most (r + d)) 4 ≡ min (max most (around + min (suc d) 4)) 4
left-min most around d r e = omega arith

no-max : (a r : ℕ) → r ≡ min (max 0 (a + 1)) 4 → r ≡ min (a + 1) 4
no-max a r e = omega arith

module _ (s : List ℕ) (i j around most : ℕ) (L : Deep s i j around most) where
  module _ (n : Node) (en : n ≡ node_at s j) where
    nest-body : (F : Tree factor) → FactorAt s n F → (x : Tree primary) → body F ≡ x → loop_nesting F ≡ deeper (eqb n.high 100 && nullable x) (loop_nesting x)
    nest-body F q x z = nest-factor s n F q ∙ ap (λ (y : Tree primary). deeper (eqb n.high 100 && nullable y) (loop_nesting y)) z

    -- the loop's measure falls
    deep-seq_down : n.sort ≡ Sequence → (node_at s n.right).height < (node_at s j).height
    deep-seq_down e = (seq-right s j n en _ refl L.here e).0

    deep-alt_down : n.sort ≡ Alternation → (node_at s n.right).height < (node_at s j).height
    deep-alt_down e = (alt_right s j n en _ refl L.here e).0

    pub deep-two_down : (n.sort ≡ Sequence) ⊎ (n.sort ≡ Alternation) → (node_at s n.right).height < (node_at s j).height
    deep-two_down (inl e) = deep-seq_down e
    deep-two_down (inr e) = deep-alt_down e

    pub deep-group_down : n.sort ≡ Group → (node_at s n.left).height < (node_at s j).height
    deep-group_down e = (group-left s j n en _ refl L.here e).0

    pub deep-group_at : n.sort ≡ Group → At s n.left
    deep-group_at e = (group-left s j n en _ refl L.here e).1

    -- a call on the left part: the measure is twice the height, and one more for the function that
    -- is called
    seq-look : (t : ℕ) → 2 * (node_at s i).height ≡ t → n.sort ≡ Sequence → (2 * (node_at s n.left).height + 1 < t) × At s n.left
    seq-look t et e = let x = seq-left s j n en _ refl L.here e in (omega (arith, x.0, L.lower), x.1)

    alt_look : (t : ℕ) → 2 * (node_at s i).height ≡ t → n.sort ≡ Alternation → (2 * (node_at s n.left).height + 1 < t) × At s n.left
    alt_look t et e = let x = alt_left s j n en _ refl L.here e in (omega (arith, x.0, L.lower), x.1)

    pub two_look : (t : ℕ) → 2 * (node_at s i).height ≡ t → (n.sort ≡ Sequence) ⊎ (n.sort ≡ Alternation) → (2 * (node_at s n.left).height + 1 < t) × At s n.left
    two_look t et (inl e) = seq-look t et e
    two_look t et (inr e) = alt_look t et e

    -- the loop ends
    pub nest-letter : (a : ℕ) → n.sort ≡ Letter a → (r : ℕ) → r ≡ min (max most (around + 0)) 4 → Nesting s i r
    unfolding loop_nesting nullable
    nest-letter a e r z =
        rw z (L.so 0 (as_letter s j n en (λ p. 0 ≡ min (loop_nesting p) 4) a e
        (λ F q y. let f : loop_nesting F ≡ deeper (eqb n.high 100 && false) 0 = nest-body F q (letter a) y in rw (f, and-false (eqb n.high 100)))))

    at-anchor : (x : Tree primary) → nullable x ≡ true → loop_nesting x ≡ 0 → (F : Tree factor) → FactorAt s n F → body F ≡ x → pick (eqb n.high 100) 1 0 ≡ min (loop_nesting F) 4
    at-anchor x u v F q z = rw (nest-body F q x z, u, v) (sym (once (eqb n.high 100)))

    nest-anchor : (a : ℕ) → n.sort ≡ Anchor a → (c r : ℕ) → c ≡ pick (eqb n.high 100) 1 0 → r ≡ min (max most (around + c)) 4 → Nesting s i r
    unfolding loop_nesting nullable
    nest-anchor a e c r y z = rw (z, y) (L.so (pick (eqb n.high 100) 1 0) (as_anchor s j n en (λ p. pick (eqb n.high 100) 1 0 ≡ min (loop_nesting p) 4) a e go))
      where
        go : (F : Tree factor) → FactorAt s n F → IsAnchor (body F) a → pick (eqb n.high 100) 1 0 ≡ min (loop_nesting (one (last F))) 4
        go F q (inl w) = at-anchor caret refl refl F q w.0
        go F q (inr w) = at-anchor dollar refl refl F q w.0

    nest-empty : n.sort ≡ Empty → (c r : ℕ) → c ≡ pick (eqb n.high 100) 1 0 → r ≡ min (max most (around + c)) 4 → Nesting s i r
    unfolding loop_nesting nullable
    nest-empty e c r y z =
        rw (z, y) (L.so (pick (eqb n.high 100) 1 0) (as_empty s j n en (λ p. pick (eqb n.high 100) 1 0 ≡ min (loop_nesting p) 4) e (λ F q w. at-anchor empty refl refl F q w)))

    pub nest-still : ((a : ℕ) × (n.sort ≡ Anchor a)) ⊎ (n.sort ≡ Empty) → (c r : ℕ) → c ≡ pick (eqb n.high 100) 1 0 → r ≡ min (max most (around + c)) 4 → Nesting s i r
    nest-still (inl (a, e)) = nest-anchor a e
    nest-still (inr e) = nest-empty e

    -- it goes on with the right part
    on-right : (m c r : ℕ) → r ≡ min (max most (around + c)) 4 → ((node_at s m).height < (node_at s j).height) × At s m → ((d : ℕ) → Nesting s m d → Nesting s j (max c d)) → Deep s i m around r
    on-right m c r z g f =
        record {
          here = g.1;
          lower = omega (arith, g.0, L.lower);
          so = λ d h p t. right-min most around c d r z ∙ L.so (max c d) (f d h) p t;
          few = (L.few.0, omega (arith, z));
        }

    nest-seq : (c r : ℕ) → n.sort ≡ Sequence → Nesting s n.left c → r ≡ min (max most (around + c)) 4 → Deep s i n.right around r
    unfolding loop_nesting
    nest-seq c r e f z =
        on-right n.right c r z (seq-right s j n en _ refl L.here e)
        (λ d h. as_seq s j n en (λ p. max c d ≡ min (loop_nesting p) 4) e (λ x b q. both-min (loop_nesting x) (loop_nesting b) c d (f (one (last x)) q.left) (h (one b) q.right)))

    nest-alt : (c r : ℕ) → n.sort ≡ Alternation → Nesting s n.left c → r ≡ min (max most (around + c)) 4 → Deep s i n.right around r
    unfolding loop_nesting
    nest-alt c r e f z =
        on-right n.right c r z (alt_right s j n en _ refl L.here e)
        (λ d h. as_alt s j n en (λ p. max c d ≡ min (loop_nesting p) 4) e (λ b p q. both-min (loop_nesting b) (loop_nesting p) c d (f (one b) q.left) (h p q.right)))

    pub nest-two : (c r : ℕ) → (n.sort ≡ Sequence) ⊎ (n.sort ≡ Alternation) → Nesting s n.left c → r ≡ min (max most (around + c)) 4 → Deep s i n.right around r
    nest-two c r (inl e) f z = nest-seq c r e f z
    nest-two c r (inr e) f z = nest-alt c r e f z

    -- or inside the parentheses
    on-left : (t : Bool) → n.sort ≡ Group → ((p : Tree pattern) → Top p n.left s → (eqb n.high 100 && nullable p) ≡ t) → (d : ℕ) → Nesting s n.left d → Nesting s j (min (deeper t d) 4)
    unfolding loop_nesting nullable
    on-left t e u d h =
        as_group s j n en (λ p. min (deeper t d) 4 ≡ min (loop_nesting p) 4) e
        (λ F q p g. let f : loop_nesting F ≡ deeper (eqb n.high 100 && nullable p) (loop_nesting p) = nest-body F q (group p) g.is in
        rw (f, u p g.inside) (go t (loop_nesting p) (h p g.inside)))
      where
        go : (t : Bool) (m : ℕ) → d ≡ min m 4 → min (deeper t d) 4 ≡ min (deeper t m) 4
        go true m k = omega arith
        go false m k = omega arith

    on_same : n.sort ≡ Group → ((p : Tree pattern) → Top p n.left s → (eqb n.high 100 && nullable p) ≡ false) → Deep s i n.left around most
    on_same e u =
        let g = group-left s j n en _ refl L.here e in
        record {
          here = g.1;
          lower = omega (arith, g.0, L.lower);
          so = λ d h p t. let w = L.so (min d 4) (on-left false e u d h) p t in omega (arith, w);
          few = L.few;
        }

    pub nest-group : n.sort ≡ Group → (n.high ≡ 100 → ⊥) → Deep s i n.left around most
    nest-group e nh = on_same e (λ p h. rw (ne_eqb n.high 100 nh))

    pub nest-group_rest : (t : Bool) → n.sort ≡ Group → n.high ≡ 100 → Nullable s n.left t → t ≡ false → Deep s i n.left around most
    nest-group_rest t e eh f o = on_same e (λ p h. let z : nullable p ≡ false = sym (f p h) ∙ o in rw (z, and-false (eqb n.high 100)))

    pub nest-group_deeper : (t : Bool) (r : ℕ) → n.sort ≡ Group → n.high ≡ 100 → Nullable s n.left t → t ≡ true → r ≡ min (max 0 (around + 1)) 4 → Deep s i n.left r most
    nest-group_deeper t r e eh f o z =
        let g = group-left s j n en _ refl L.here e in
        let u : (p : Tree pattern) → Top p n.left s → (eqb n.high 100 && nullable p) ≡ true = λ p h. let y : nullable p ≡ true = sym (f p h) ∙ o in rw (y, eq-eqb n.high 100 eh) refl in
        record {
          here = g.1;
          lower = omega (arith, g.0, L.lower);
          so = λ d h p v. left-min most around d r (no-max around r z) ∙ L.so (min (suc d) 4) (on-left true e u d h) p v;
          few = (omega (arith, z), L.few.1);
        }

-- ---- a part

-- a letter by its sort alone
pub nest-letter_at : (s : List ℕ) (i : ℕ) (k : Sort) → At s i → k ≡ (node_at s i).sort → (a : ℕ) → k ≡ Letter a → Nesting s i 0
nest-letter_at s i k h ek a e = nest-letter s i i 0 0 (deep-begins s i h) (node_at s i) refl a (sym ek ∙ e) 0 refl

pub one_less : (h t : ℕ) → 2 * h + 1 ≡ t → 2 * h < t
one_less h t e = omega arith

-- ---- numbers

pub factor-is : (n : ℕ) → n ≤ 3 → (1 * 2 ^ n % 18446744073709551616 ≡ 2 ^ n) × (1 * 2 ^ n % 18446744073709551616 ≤ 8)
factor-is zero h = (refl, omega arith)
factor-is (suc zero) h = (refl, omega arith)
factor-is (suc (suc zero)) h = (refl, omega arith)
factor-is (suc (suc (suc zero))) h = (refl, omega arith)
factor-is (suc (suc (suc (suc n)))) h = absurd (omega arith)

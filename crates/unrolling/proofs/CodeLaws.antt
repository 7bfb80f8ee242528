-- The places of a tree in a plane, part by part, in the order in which they are put: each law is
-- one way through one function that unrolls.
use mathlib.Core.Path.{◌≡◌, refl, sym, ap, ◌∙◌}
use mathlib.Core.Bool.{Bool, true, false}
use mathlib.Core.List.{List, [], ◌∷◌, ◌++◌, append-nil}
use Prim.Native.Nat.{ℕ, suc, ◌+◌, ◌-◌, ◌≤◌}
use native.Mathlib.Omega.{arith}
use lib.Dec.{ltb}
use lib.ListN.{length, length-append}
use borrow.Author.Tests.{ne_eqb}
use Rattle.std.specs.Prelude.{Option, Some, None}
use Rattle.rules.specs.Basics.{pick}
use Rattle.rules.specs.Language.{Form, star, plus, opt, exactly, at_least, at_most, between, lower, upper, InBounds, pattern, branch, factor, Tree, one, more, last, next, bare, times}
use Rattle.rules.specs.Places.{Unrolled, u_letter, u_caret, u_dollar, u_empty, u_seq, u_alt, u_opt, u_star, Branches, u_nil, u_cons, copies, options, behind, repeated, forked, unrolled, unroll, Place, p_fork, p_end, ways_in_turn, size, sizes, fork, place_count}
use Rattle.laws.proofs.Counting.{forked-more, forked-size, unrolled-size}
use Rattle.laws.proofs.Distinct.{thinned-append, thinned-length}
use Rattle.rules.specs.Working.{distinct, thin_place, thinned}
use Rattle.marks.specs.Shows.{highest, high_of}
use Rattle.trees.specs.Held.{body, lower_of, highest_of, lazy_of}
use Rattle.trees.proofs.ByNode.{Bounded}
use Rattle.place_codes.specs.Codes.{turns_behind}
use Rattle.place_codes.specs.Planes.{start_by, round_by}
use Rattle.place_codes.proofs.CodeLaws.{start-end}
use Rattle.place_codes.specs.declared.Plane.{Plane}
use Rattle.place_codes.specs.declared.Behind.{Behind}
use Rattle.forks.specs.PlaneCode.{used, flags_copy, starts_in, plane_of, planes_of}
use Rattle.forks.specs.Emitting.{choice_places, fork_places, tree_places, branch_places, body_places, turns_on, turns, turn_places}

-- ---- parts of an unrolled pattern

-- a fork in a plane with each way once
thin-used : (o : Plane) (k : Behind) (ks : List ℕ) → thin_place (used o k (p_fork ks)) ≡ used o k (p_fork (distinct ks))
unfolding used thin_place
thin-used o k ks = go (ltb o.flags k.values)
  where
    go : (t : Bool) → thin_place (pick t (p_fork ks) p_end) ≡ pick t (p_fork (distinct ks)) p_end
    go true = refl
    go false = refl

module _ (o : Plane) where
  seq-code : (x y : Unrolled) (B : ℕ) (K : Behind) (c e : ℕ) (k : Behind) → c ≡ size x → e ≡ B + size (u_seq x y) → k ≡ start_by o (B + c) e K
      → thinned (plane_of o (u_seq x y) B K) ≡ thinned (plane_of o x B k) ++ thinned (plane_of o y (B + c) K)
  unfolding plane_of size
  seq-code x y B K c e k ec ee ek =
      let c2 : B + size x ≡ B + c = omega arith in
      let e2 : B + c + size y ≡ e = omega arith in
      let s : start_by o (B + size x) (B + size x + size y) K ≡ k =
      ap (λ (v : ℕ). start_by o v (v + size y) K) c2 ∙ ap (λ (v : ℕ). start_by o (B + c) v K) e2 ∙ sym ek in
      thinned-append (plane_of o x B (start_by o (B + size x) (B + size x + size y) K)) (plane_of o y (B + size x) K)
      ∙ ap (λ (v : Behind). thinned (plane_of o x B v) ++ thinned (plane_of o y (B + size x) K)) s
      ∙ ap (λ (v : ℕ). thinned (plane_of o x B k) ++ thinned (plane_of o y v K)) c2

  bare-code : (t : Unrolled) (B : ℕ) (K : Behind) → thinned (plane_of o t B K) ≡ thinned (plane_of o (u_seq t u_empty) B K)
  unfolding plane_of size start_by
  bare-code t B K =
      let z : B + size t ≡ B + size t + 0 = omega arith in
      ap thinned (sym (append-nil (plane_of o t B K)) ∙ ap (λ (v : Behind). plane_of o t B v ++ []) (start-end o (B + size t) (B + size t + 0) K z))

  opt-code : (z : Bool) (t : Unrolled) (B : ℕ) (K : Behind) (e : ℕ) (k0 : Behind) → e ≡ B + size (u_opt z t) → k0 ≡ start_by o (B + 1) e K
      → thinned (plane_of o (u_opt z t) B K) ≡ choice_places o z k0.here K ++ thinned (plane_of o t (B + 1) K)
  unfolding plane_of size thinned
  opt-code z t B K e k0 ee e0 =
      let b1 : suc B ≡ B + 1 = omega arith in
      let e2 : B + 1 + size t ≡ e = omega arith in
      let s : start_by o (suc B) (suc B + size t) K ≡ k0 = ap (λ (v : ℕ). start_by o v (v + size t) K) b1 ∙ ap (λ (v : ℕ). start_by o (B + 1) v K) e2 ∙ sym e0 in
      ap (λ (v : Place). v ∷ thinned (plane_of o t (suc B) K)) (thin-used o K (ways_in_turn z (start_by o (suc B) (suc B + size t) K).here K.here))
      ∙ ap (λ (v : Behind). used o K (p_fork (distinct (ways_in_turn z v.here K.here))) ∷ thinned (plane_of o t (suc B) K)) s
      ∙ ap (λ (v : ℕ). used o K (p_fork (distinct (ways_in_turn z k0.here K.here))) ∷ thinned (plane_of o t v K)) b1

  star-part : (z : Bool) (t : Unrolled) (B : ℕ) (K : Behind) (e : ℕ) (R k0 : Behind) → e ≡ B + size (u_star z t) → R ≡ round_by o (flags_copy o.factor t) B K → k0 ≡ start_by o (B + 1) e R
      → thinned (plane_of o (u_star z t) B K) ≡ choice_places o z k0.here K ++ thinned (plane_of o t (B + 1) R)
  unfolding plane_of size thinned
  star-part z t B K e R k0 ee er e0 =
      let b1 : suc B ≡ B + 1 = omega arith in
      let e2 : B + 1 + size t ≡ e = omega arith in
      let s : start_by o (suc B) (suc B + size t) (round_by o (flags_copy o.factor t) B K) ≡ k0 =
      ap (λ (v : Behind). start_by o (suc B) (suc B + size t) v) (sym er) ∙ ap (λ (v : ℕ). start_by o v (v + size t) R) b1 ∙ ap (λ (v : ℕ). start_by o (B + 1) v R) e2 ∙ sym e0 in
      ap (λ (v : Place). v ∷ thinned (plane_of o t (suc B) (round_by o (flags_copy o.factor t) B K)))
      (thin-used o K (ways_in_turn z (start_by o (suc B) (suc B + size t) (round_by o (flags_copy o.factor t) B K)).here K.here))
      ∙ ap (λ (v : Behind). used o K (p_fork (distinct (ways_in_turn z v.here K.here))) ∷ thinned (plane_of o t (suc B) (round_by o (flags_copy o.factor t) B K))) s
      ∙ ap (λ (v : Behind). used o K (p_fork (distinct (ways_in_turn z k0.here K.here))) ∷ thinned (plane_of o t (suc B) v)) (sym er)
      ∙ ap (λ (v : ℕ). used o K (p_fork (distinct (ways_in_turn z k0.here K.here))) ∷ thinned (plane_of o t v R)) b1

turns-star : (z : Bool) (t : Unrolled) → turns 0 None z t ≡ u_star z t
unfolding turns copies
turns-star z t = refl

turns-options : (m : ℕ) (z : Bool) (t : Unrolled) → turns 0 (Some m) z t ≡ options m z t
unfolding turns copies
turns-options m z t = refl

options-suc : (m : ℕ) (z : Bool) (t : Unrolled) → options (suc m) z t ≡ u_opt z (u_seq t (options m z t))
unfolding options
options-suc m z t = refl

opt-size : (z : Bool) (t : Unrolled) → size (u_opt z t) ≡ suc (size t)
unfolding size
opt-size z t = refl

module _ (o : Plane) where
  star-code : (z : Bool) (t : Unrolled) (B : ℕ) (K : Behind) (e : ℕ) (R k0 : Behind) → e ≡ B + size (turns 0 None z t) → R ≡ round_by o (flags_copy o.factor t) B K → k0 ≡ start_by o (B + 1) e R
      → thinned (plane_of o (turns 0 None z t) B K) ≡ choice_places o z k0.here K ++ thinned (plane_of o t (B + 1) R)
  star-code z t B K e R k0 ee er e0 =
      ap (λ (x : Unrolled). thinned (plane_of o x B K)) (turns-star z t) ∙ star-part o z t B K e R k0 (ee ∙ ap (λ (x : Unrolled). B + size x) (turns-star z t)) er e0

  option_code : (z : Bool) (t : Unrolled) (m B : ℕ) (K : Behind) (c e : ℕ) (k0 k : Behind) → c ≡ size t → e ≡ B + size (turns 0 (Some (suc m)) z t) → k0 ≡ start_by o (B + 1) e K
      → k ≡ start_by o (B + 1 + c) e K
      → thinned (plane_of o (turns 0 (Some (suc m)) z t) B K) ≡ choice_places o z k0.here K ++ (thinned (plane_of o t (B + 1) k) ++ thinned (plane_of o (turns 0 (Some m) z t) (B + 1 + c) K))
  option_code z t m B K c e k0 k ec ee e0 ek =
      let q : turns 0 (Some (suc m)) z t ≡ u_opt z (u_seq t (options m z t)) = turns-options (suc m) z t ∙ options-suc m z t in
      let e2 : e ≡ B + size (u_opt z (u_seq t (options m z t))) = ee ∙ ap (λ (x : Unrolled). B + size x) q in
      let e3 : e ≡ B + 1 + size (u_seq t (options m z t)) = omega (arith, e2, opt-size z (u_seq t (options m z t))) in
      ap (λ (x : Unrolled). thinned (plane_of o x B K)) q
      ∙ opt-code o z (u_seq t (options m z t)) B K e k0 e2 e0
      ∙ ap (λ (xs : List Place). choice_places o z k0.here K ++ xs) (seq-code o t (options m z t) (B + 1) K c e k ec e3 ek)
      ∙ ap (λ (x : Unrolled). choice_places o z k0.here K ++ (thinned (plane_of o t (B + 1) k) ++ thinned (plane_of o x (B + 1 + c) K)))
      (sym (turns-options m z t))

some-turns : (h l : ℕ) (z : Bool) (t : Unrolled) (m : Option ℕ) → h ≤ 99 → m ≡ turns_behind l h → turns_on m z t ≡ options (h - l) z t
some-turns h l z t m i e = rw (e, ne_eqb h 100 (λ u. omega arith)) refl

last-count : (F : Tree factor) → 0 + place_count (one (last F)) ≡ place_count F
unfolding place_count
last-count F = omega arith

-- ---- lengths

mutual
  unfolding plane_of size

  plane-length : (o : Plane) (t : Unrolled) (b : ℕ) (k : Behind) → length (plane_of o t b k) ≡ size t
  plane-length o (u_letter c) b k = refl
  plane-length o u_caret b k = refl
  plane-length o u_dollar b k = refl
  plane-length o u_empty b k = refl
  plane-length o (u_seq x y) b k =
      length-append (plane_of o x b (start_by o (b + size x) (b + size x + size y) k)) (plane_of o y (b + size x) k)
      ∙ omega (arith, plane-length o x b (start_by o (b + size x) (b + size x + size y) k), plane-length o y (b + size x) k)
  plane-length o (u_alt ts) b k = ap suc (planes_length o ts (suc b) k)
  plane-length o (u_opt lazy t) b k = ap suc (plane-length o t (suc b) k)
  plane-length o (u_star lazy t) b k = ap suc (plane-length o t (suc b) (round_by o (flags_copy o.factor t) b k))

  planes_length : (o : Plane) (ts : Branches) (b : ℕ) (k : Behind) → length (planes_of o ts b k) ≡ sizes ts
  planes_length o u_nil b k = refl
  planes_length o (u_cons t ts) b k =
      length-append (plane_of o t b k) (planes_of o ts (b + size t) k) ∙ omega (arith, plane-length o t b k, planes_length o ts (b + size t) k)

module _ (o : Plane) where
  pub tree-length : (p : Tree pattern) (b : ℕ) (k : Behind) → length (tree_places o p b k) ≡ fork p + place_count p
  unfolding unroll
  tree-length p b k = thinned-length (plane_of o (unroll p) b k) ∙ plane-length o (unroll p) b k ∙ forked-size p ∙ ap (λ (m : ℕ). fork p + m) (unrolled-size p)

  pub branch-length : (p : Tree pattern) (b : ℕ) (k : Behind) → length (branch_places o p b k) ≡ place_count p
  branch-length p b k = thinned-length (planes_of o (unrolled p) b k) ∙ planes_length o (unrolled p) b k ∙ unrolled-size p

  pub body-length : (F : Tree factor) (b : ℕ) (k : Behind) → length (body_places o F b k) ≡ place_count (body F)
  body-length F b k = thinned-length (plane_of o (unrolled (body F)) b k) ∙ plane-length o (unrolled (body F)) b k ∙ unrolled-size (body F)

  pub turn_length : (n : ℕ) (m : Option ℕ) (F : Tree factor) (b : ℕ) (k : Behind) → length (turn_places o n m F b k) ≡ size (turns n m (lazy_of F) (unrolled (body F)))
  turn_length n m F b k = thinned-length (plane_of o (turns n m (lazy_of F) (unrolled (body F))) b k) ∙ plane-length o (turns n m (lazy_of F) (unrolled (body F))) b k

  -- ---- a sequence

  pub seq-places : (f : Tree factor) (b : Tree branch) (B : ℕ) (K : Behind) (c e : ℕ) (k : Behind) → c ≡ place_count f → e ≡ B + (place_count f + place_count b) → k ≡ start_by o (B + c) e K
      → tree_places o (one (next f b)) B K ≡ tree_places o (one (last f)) B k ++ tree_places o (one b) (B + c) K
  unfolding unroll unrolled forked size
  seq-places f b B K c e k ec ee ek =
      let sf : size (unrolled f) ≡ place_count f = unrolled-size f in
      let sb : size (unrolled b) ≡ place_count b = unrolled-size b in
      seq-code o (unrolled f) (unrolled b) B K c e k (omega arith) (omega arith) ek

  -- ---- an alternation

  pub branch-more : (b : Tree branch) (p : Tree pattern) (B : ℕ) (K : Behind) (c : ℕ) → c ≡ B + place_count b → branch_places o (more b p) B K ≡ tree_places o (one b) B K ++ branch_places o p c K
  unfolding unroll unrolled forked planes_of
  branch-more b p B K c ec =
      let sb : size (unrolled b) ≡ place_count b = unrolled-size b in
      thinned-append (plane_of o (unrolled b) B K) (planes_of o (unrolled p) (B + size (unrolled b)) K)
      ∙ ap (λ (x : ℕ). thinned (plane_of o (unrolled b) B K) ++ thinned (planes_of o (unrolled p) x K)) (let z : B + size (unrolled b) ≡ c = omega arith in z)

  pub branch_one : (b : Tree branch) (B : ℕ) (K : Behind) → branch_places o (one b) B K ≡ tree_places o (one b) B K
  unfolding unroll unrolled forked planes_of
  branch_one b B K = ap thinned (append-nil (plane_of o (unrolled b) B K))

  alt_code : (ts : Branches) (B : ℕ) (K : Behind) → thinned (plane_of o (u_alt ts) B K) ≡ used o K (p_fork (distinct (starts_in o ts (B + 1) K.here))) ∷ thinned (planes_of o ts (B + 1) K)
  unfolding plane_of thinned
  alt_code ts B K =
      ap (λ (v : Place). v ∷ thinned (planes_of o ts (suc B) K)) (thin-used o K (starts_in o ts (suc B) K.here))
      ∙ ap (λ (x : ℕ). used o K (p_fork (distinct (starts_in o ts x K.here))) ∷ thinned (planes_of o ts x K)) (let z : suc B ≡ B + 1 = omega arith in z)

  pub alt_places : (b : Tree branch) (p : Tree pattern) (B : ℕ) (K : Behind) → tree_places o (more b p) B K ≡ fork_places o (more b p) B K ++ branch_places o (more b p) (B + 1) K
  unfolding unroll
  alt_places b p B K = ap (λ (t : Unrolled). thinned (plane_of o t B K)) (forked-more b p) ∙ alt_code (unrolled (more b p)) B K

-- ---- a factor

-- the turns behind the copies: how many, or none for an unbounded quantifier
turn_behind : (f : Form) (z : Bool) (t : Unrolled) (m : Option ℕ) → InBounds f → m ≡ turns_behind (lower f) (high_of f) → turns_on m z t ≡ behind (upper f) (lower f) z t
unfolding behind high_of highest upper lower InBounds
turn_behind star z t m i e = rw e refl
turn_behind plus z t m i e = rw e refl
turn_behind opt z t m i e = rw e refl
turn_behind (exactly n) z t m i e = some-turns n n z t m i.1 e
turn_behind (at_least n) z t m i e = rw e refl
turn_behind (at_most n) z t m i e = some-turns n 0 z t m i.1 e
turn_behind (between l n) z t m i e = some-turns n l z t m i.2 e

module _ (o : Plane) where
  pub factor-places : (F : Tree factor) (B : ℕ) (K : Behind) (n : ℕ) (m : Option ℕ) → Bounded F → n ≡ lower_of F → m ≡ turns_behind (lower_of F) (highest_of F)
      → tree_places o (one (last F)) B K ≡ turn_places o n m F B K
  unfolding unroll unrolled forked turns repeated
  factor-places (bare x) B K n m i en em = rw (en, em) (bare-code o (unrolled x) B K)
  factor-places (times x f z) B K n m i en em = rw en (ap (λ (r : Unrolled). thinned (plane_of o (copies (lower f) (unrolled x) r) B K)) (sym (turn_behind f z (unrolled x) m i em)))

  pub factor-size : (F : Tree factor) (B : ℕ) (K : Behind) (n : ℕ) (m : Option ℕ) → Bounded F → n ≡ lower_of F → m ≡ turns_behind (lower_of F) (highest_of F)
      → size (turns n m (lazy_of F) (unrolled (body F))) ≡ place_count F
  unfolding fork
  factor-size F B K n m i en em =
      sym (turn_length o n m F B K) ∙ sym (ap length (factor-places F B K n m i en em)) ∙ tree-length o (one (last F)) B K
      ∙ (let z : 0 + place_count (one (last F)) ≡ place_count F = last-count F in z)

-- ---- turns

module _ (o : Plane) (F : Tree factor) (c B : ℕ) (K : Behind) (e : ℕ) (ec : c ≡ size (unrolled (body F))) where
  pub turn_copy : (n n2 : ℕ) (m : Option ℕ) (k : Behind) → n ≡ suc n2 → e ≡ B + size (turns n m (lazy_of F) (unrolled (body F))) → k ≡ start_by o (B + c) e K
      → turn_places o n m F B K ≡ body_places o F B k ++ turn_places o n2 m F (B + c) K
  unfolding turns copies
  turn_copy n n2 m k en ee ek = rw en (seq-code o (unrolled (body F)) (turns n2 m (lazy_of F) (unrolled (body F))) B K c e k ec
      (ee ∙ ap (λ (x : ℕ). B + size (turns x m (lazy_of F) (unrolled (body F)))) en) ek)

  pub turn_none : turn_places o 0 (Some 0) F B K ≡ []
  unfolding turns copies options plane_of thinned
  turn_none = refl

  pub turn_option : (m : ℕ) (k0 k : Behind) → e ≡ B + size (turns 0 (Some (suc m)) (lazy_of F) (unrolled (body F))) → k0 ≡ start_by o (B + 1) e K
      → k ≡ start_by o (B + 1 + c) e K
      → turn_places o 0 (Some (suc m)) F B K ≡ choice_places o (lazy_of F) k0.here K ++ (body_places o F (B + 1) k ++ turn_places o 0 (Some m) F (B + 1 + c) K)
  turn_option m k0 k ee e0 ek = option_code o (lazy_of F) (unrolled (body F)) m B K c e k0 k ec ee e0 ek

  pub turn_star : (R k0 : Behind) → e ≡ B + size (turns 0 None (lazy_of F) (unrolled (body F))) → R ≡ round_by o (flags_copy o.factor (unrolled (body F))) B K → k0 ≡ start_by o (B + 1) e R
      → turn_places o 0 None F B K ≡ choice_places o (lazy_of F) k0.here K ++ body_places o F (B + 1) R
  turn_star R k0 ee er e0 = star-code o (lazy_of F) (unrolled (body F)) B K e R k0 ee er e0

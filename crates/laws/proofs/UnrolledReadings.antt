-- Readings: what an unrolled pattern says of rows, without order or search; and the paths of its
-- graph are its readings. A round of a repetition that takes no row adds nothing to a reading, so
-- that readings need not know of R-3's rule.
use mathlib.Core.Path.{◌≡◌, refl, ap, sym, ◌∙◌, subst}
use mathlib.Core.List.{List, [], ◌∷◌, ◌++◌, map, append_assoc, Memᴰ, append-nil}
use mathlib.Core.Bool.{Bool, true, false, ◌&&◌}
use mathlib.Core.Logic.{◌⊎◌, inl, inr, ⊎_elim}
use Prim.Native.Nat.{ℕ, zero, suc, ◌+◌, ◌≤◌, ◌<◌, ◌-◌, ◌^◌, max}
use native.Mathlib.Omega.{arith}
use lib.ListN.{length, get_or, length-append}
use lib.Dec.{ltb, eqb}
use borrow.Author.Tests.{ltb-true, eqb-true, lt-ltb, eq-eqb, le-ltb}
use Rattle.rules.specs.Places.{Unrolled, u_letter, u_caret, u_dollar, u_empty, u_seq, u_alt, u_opt, u_star, Branches, u_nil, u_cons, size, sizes, start_of, starts_of, code, codes, ways_in_turn, Place, p_letter, p_caret, p_dollar, p_fork, skips, nest, nests, full, state_at, round_end, Flagged, flagged, spread}
use Rattle.rules.specs.Readings.{Rounds}
use Rattle.rules.specs.Search.{last_of, labels, label_of}
use Rattle.rules.specs.Walk.{IsPath, here, there, try, pass_if, ways_at, pair_ways, pair_at}
use Rattle.laws.proofs.Bound.{last-same}
use Rattle.laws.proofs.Level.{and-true, nest-low, nest-here, nest-inner, wider}
use Rattle.laws.proofs.Rank.{At, at_left, at_right, at_head, at_tail, code-length, no_place}
use lib.Pow.{pow_pos, ones_lt}
use Rattle.rules.specs.Language.{deeper}
use Rattle.laws.proofs.DerivationPath.{took, took-none, took-rows, took_lt, took-then, le_cases}
use Rattle.laws.proofs.WholePattern.{node-ways, node-label}

-- t takes the rows i to j, not j itself, with the labels w
unfoldable mutual
  unfolding Rounds

  pub ReadsU : Unrolled → (ℕ → ℕ → Bool) → ℕ → ℕ → ℕ → List ℕ → Type 0
  ReadsU (u_letter c) holds n i j w = (i < n) × (holds c i ≡ true) × (j ≡ suc i) × (w ≡ c ∷ [])
  ReadsU u_caret holds n i j w = (i ≡ 0) × (j ≡ i) × (w ≡ [])
  ReadsU u_dollar holds n i j w = (i ≡ n) × (j ≡ i) × (w ≡ [])
  ReadsU u_empty holds n i j w = (j ≡ i) × (w ≡ [])
  ReadsU (u_seq a b) holds n i k w = (j : ℕ) × (u : List ℕ) × (v : List ℕ) × (ReadsU a holds n i j u) × (ReadsU b holds n j k v) × (w ≡ u ++ v)
  ReadsU (u_alt ts) holds n i j w = ReadsAny ts holds n i j w
  ReadsU (u_opt lazy t) holds n i j w = ((j ≡ i) × (w ≡ [])) ⊎ ReadsU t holds n i j w
  ReadsU (u_star lazy t) holds n i j w = (c : ℕ) × Rounds (λ i j w. ReadsU t holds n i j w) c i j w

  pub ReadsAny : Branches → (ℕ → ℕ → Bool) → ℕ → ℕ → ℕ → List ℕ → Type 0
  ReadsAny u_nil holds n i j w = ⊥
  ReadsAny (u_cons t ts) holds n i j w = ReadsU t holds n i j w ⊎ ReadsAny ts holds n i j w

-- ---- the rows of a reading

-- a reading takes as many rows as it has labels, and none that is not there
pub record Taken (n i j : ℕ) (w : List ℕ) : Type 0 where
  pub rows : j ≡ i + length w
  pub inside : i ≤ n → j ≤ n

module _ (holds : ℕ → ℕ → Bool) (n : ℕ) where
  none-taken : (i j : ℕ) (w : List ℕ) → j ≡ i → w ≡ [] → Taken n i j w
  none-taken i j w e d = record { rows = rw d (omega arith); inside = λ h. omega arith }

  taken_then : (i j k : ℕ) (u v w : List ℕ) → Taken n i j u → Taken n j k v → w ≡ u ++ v → Taken n i k w
  taken_then i j k u v w a b e = record { rows = rw (e, length-append) (omega arith); inside = λ h. b.inside (a.inside h) }

  rounds_taken : (R : ℕ → ℕ → List ℕ → Type 0) → ((i j : ℕ) (w : List ℕ) → R i j w → Taken n i j w) → (c i j : ℕ) (w : List ℕ) → Rounds R c i j w → Taken n i j w
  unfolding Rounds
  rounds_taken R f zero i j w r = none-taken i j w r.0 r.1
  rounds_taken R f (suc c) i j w r = taken_then i r.0 j r.1 r.2 w (f i r.0 r.1 r.3) (rounds_taken R f c r.0 j r.2 r.4) r.5

  mutual
    unfolding ReadsU

    pub unrolled-taken : (t : Unrolled) (i j : ℕ) (w : List ℕ) → ReadsU t holds n i j w → Taken n i j w
    unrolled-taken (u_letter c) i j w r = record { rows = rw r.3 (omega (arith, r.2)); inside = λ h. omega (arith, r.0, r.2) }
    unrolled-taken u_caret i j w r = none-taken i j w r.1 r.2
    unrolled-taken u_dollar i j w r = none-taken i j w r.1 r.2
    unrolled-taken u_empty i j w r = none-taken i j w r.0 r.1
    unrolled-taken (u_seq s t) i j w r =
        taken_then i r.0 j r.1 r.2 w (unrolled-taken s i r.0 r.1 r.3) (unrolled-taken t r.0 j r.2 r.4) r.5
    unrolled-taken (u_alt ts) i j w r = branches_taken ts i j w r
    unrolled-taken (u_opt lazy t) i j w r = ⊎_elim (λ (s : (j ≡ i) × (w ≡ [])). none-taken i j w s.0 s.1) (λ (s : ReadsU t holds n i j w). unrolled-taken t i j w s) r
    unrolled-taken (u_star lazy t) i j w r = rounds_taken (λ i j w. ReadsU t holds n i j w) (λ i' j' w' s. unrolled-taken t i' j' w' s) r.0 i j w r.1

    branches_taken : (ts : Branches) (i j : ℕ) (w : List ℕ) → ReadsAny ts holds n i j w → Taken n i j w
    branches_taken u_nil i j w r = absurd r
    branches_taken (u_cons t ts) i j w r = ⊎_elim (λ (s : ReadsU t holds n i j w). unrolled-taken t i j w s) (λ (s : ReadsAny ts holds n i j w). branches_taken ts i j w s) r

  pub reads_onward : (t : Unrolled) (i j : ℕ) (w : List ℕ) → ReadsU t holds n i j w → i ≤ j
  reads_onward t i j w r = omega (arith, (unrolled-taken t i j w r).rows)

  rounds_onward : (t : Unrolled) (c i j : ℕ) (w : List ℕ) → Rounds (λ i j w. ReadsU t holds n i j w) c i j w → i ≤ j
  rounds_onward t c i j w r = omega (arith, (rounds_taken (λ i j w. ReadsU t holds n i j w) (λ i' j' w' s. unrolled-taken t i' j' w' s) c i j w r).rows)

no_label : (w : List ℕ) → length w ≡ 0 → w ≡ []
no_label [] e = refl
no_label (c ∷ w) e = absurd (omega arith)

module _ (F : ℕ) (Q : List Flagged) (holds : ℕ → ℕ → Bool) (n : ℕ) where
  abbrev pl : List Place
  pl = spread F Q

  -- the pair of a place with flags at a position
  abbrev node : ℕ → ℕ → ℕ
  node i s = pair_at (length pl) i s

  -- a round that has taken rows leads back to the fork, all flags set
  round_rows : (s : Bool) (i j φ d b : ℕ) (k : ℕ → ℕ) → i < j → round_end F s d b k (took (deeper s d) φ i j) ≡ state_at F b (full d)
  round_rows false i j φ d b k h = rw (took-rows d φ i j h)
  round_rows true i j φ d b k h =
      let p = pow_pos d in
      let l : 2 ^ d ≤ full (suc d) = omega arith in
      let e : full (suc d) - 2 ^ d ≡ full d = omega arith in
      rw (took-rows (suc d) φ i j h, le-ltb (full (suc d)) (2 ^ d) l, e)

  -- a path from a pair on that says w before what p says
  pub record Ext (i s : ℕ) (w p : List ℕ) : Type 0 where
    pub way : List ℕ
    pub is : IsPath (pair_ways holds n pl) (node i s) way
    pub said : labels pl way ≡ w ++ labels pl p

  mem-map : (f : ℕ → ℕ) {k : ℕ} {ks : List ℕ} → Memᴰ k ks → Memᴰ (f k) (map f ks)
  mem-map f (mathlib.Core.List.Memᴰ.head e) = mathlib.Core.List.Memᴰ.head (ap f e)
  mem-map f (mathlib.Core.List.Memᴰ.tail m) = mathlib.Core.List.Memᴰ.tail (mem-map f m)

  -- through a fork
  ext_fork : (i b φ d : ℕ) (ks : ℕ → List ℕ) (k : ℕ) (w p : List ℕ) → b < length Q → φ < 2 ^ d → 2 ^ d ≤ F → get_or Q b no_place ≡ flagged d (λ φ. p_fork (ks φ)) → Memᴰ k (ks φ)
      → Ext i k w p → Ext i (state_at F b φ) w p
  unfolding ways_at
  ext_fork i b φ d ks k w p h v f e m x =
      record {
        way = node i (state_at F b φ) ∷ x.way;
        is = there (node-ways F Q b φ d (λ φ. p_fork (ks φ)) h v f e holds n i) (mem-map (λ k. node i k) m) x.is;
        said = node-label F Q b φ d (λ φ. p_fork (ks φ)) h v f e i x.way ∙ x.said;
      }

  -- through a letter or an anchor
  ext_pass : (i j b φ d s : ℕ) (q : ℕ → Place) (c : Bool) (w p : List ℕ) → b < length Q → φ < 2 ^ d → 2 ^ d ≤ F → get_or Q b no_place ≡ flagged d q
      → ways_at holds n (length pl) (q φ) i ≡ pass_if c (node j s) → c ≡ true
      → label_of (q φ) (labels pl p) ≡ w ++ labels pl p → IsPath (pair_ways holds n pl) (node j s) p → Ext i (state_at F b φ) w p
  ext_pass i j b φ d s q c w p h v f e y t l x =
      record {
        way = node i (state_at F b φ) ∷ p;
        is = there (node-ways F Q b φ d q h v f e holds n i ∙ y ∙ ap (λ (c : Bool). pass_if c (node j s)) t) (mathlib.Core.List.Memᴰ.head refl) x;
        said = node-label F Q b φ d q h v f e i p ∙ l;
      }

  order_copy : (lazy : Bool) (x y : ℕ) → Memᴰ x (ways_in_turn lazy x y)
  order_copy false x y = mathlib.Core.List.Memᴰ.head refl
  order_copy true x y = mathlib.Core.List.Memᴰ.tail (mathlib.Core.List.Memᴰ.head refl)

  order_leave : (lazy : Bool) (x y : ℕ) → Memᴰ y (ways_in_turn lazy x y)
  order_leave false x y = mathlib.Core.List.Memᴰ.tail (mathlib.Core.List.Memᴰ.head refl)
  order_leave true x y = mathlib.Core.List.Memᴰ.head refl

  ext_none : (i j φ d : ℕ) (k : ℕ → ℕ) (w p : List ℕ) → j ≡ i → w ≡ [] → IsPath (pair_ways holds n pl) (node j (k (took d φ i j))) p → Ext i (k φ) w p
  ext_none i j φ d k w p e z x =
      let y : IsPath (pair_ways holds n pl) (node j (k φ)) p = rw (took-none d φ i j e) at x in
      record { way = p; is = rw e at y; said = rw z }

  ext_then : (i q : ℕ) (w u v p : List ℕ) (y : Ext i q u p) → (r : List ℕ) → labels pl p ≡ v ++ labels pl r → w ≡ u ++ v → Ext i q w r
  ext_then i q w u v p y r e d = record { way = y.way; is = y.is; said = y.said ∙ ap (λ (l : List ℕ). u ++ l) e ∙ sym (append_assoc u v (labels pl r)) ∙ rw d }

  -- every reading has a path
  abbrev Complete : Unrolled → ℕ → ℕ → (ℕ → ℕ) → Type 0
  Complete t d b k = (i j φ : ℕ) (w : List ℕ) → φ < 2 ^ d → ReadsU t holds n i j w → (p : List ℕ) → IsPath (pair_ways holds n pl) (node j (k (took d φ i j))) p → Ext i (start_of F t b k φ) w p

  -- the rounds of a loop, whose fork is b; those that take no row are left out
  rounds_complete : (t : Unrolled) (s : Bool) (d b : ℕ) (k : ℕ → ℕ) (ks : ℕ → List ℕ) → Complete t (deeper s d) (suc b) (round_end F s d b k)
      → b < length Q → 2 ^ d ≤ F → get_or Q b no_place ≡ flagged d (λ φ. p_fork (ks φ)) → ((φ : ℕ) → Memᴰ (start_of F t (suc b) (round_end F s d b k) φ) (ks φ)) → ((φ : ℕ) → Memᴰ (k φ) (ks φ))
      → (c i j φ : ℕ) (w : List ℕ) → φ < 2 ^ d → Rounds (λ i j w. ReadsU t holds n i j w) c i j w → (p : List ℕ) → IsPath (pair_ways holds n pl) (node j (k (took d φ i j))) p → Ext i (state_at F b φ) w p
  unfolding Rounds
  rounds_complete t s d b k ks ct h f e mc ml zero i j φ w v r p x = ext_fork i b φ d ks (k φ) w p h v f e (ml φ) (ext_none i j φ d k w p r.0 r.1 x)
  rounds_complete t s d b k ks ct h f e mc ml (suc c) i j φ w v r p x =
      go (rounds_complete t s d b k ks ct h f e mc ml c) (le_cases i r.0 (reads_onward holds n t i r.0 r.1 r.3))
    where
      go : ((i j φ : ℕ) (w : List ℕ) → φ < 2 ^ d → Rounds (λ i j w. ReadsU t holds n i j w) c i j w → (p : List ℕ) → IsPath (pair_ways holds n pl) (node j (k (took d φ i j))) p → Ext i (state_at F b φ) w p)
          → (r.0 ≡ i) ⊎ (i < r.0) → Ext i (state_at F b φ) w p
      go ih (inl z) =
          let u : r.1 ≡ [] = no_label r.1 (omega (arith, (unrolled-taken holds n t i r.0 r.1 r.3).rows)) in
          let same : w ≡ r.2 = r.5 ∙ ap (λ (l : List ℕ). l ++ r.2) u in
          let rest : Rounds (λ i j w. ReadsU t holds n i j w) c i j w = subst (λ (l : List ℕ). Rounds (λ i j w. ReadsU t holds n i j w) c i j l) (sym same)
          (subst (λ (m : ℕ). Rounds (λ i j w. ReadsU t holds n i j w) c m j r.2) z r.4) in
          ih i j φ w v rest p x
      go ih (inr l) =
          let m = rounds_onward holds n t c r.0 j r.2 r.4 in
          let g : took d (full d) r.0 j ≡ took d φ i j = ap (λ (ψ : ℕ). took d ψ r.0 j) (sym (took-rows d φ i r.0 l)) ∙ took-then d φ i r.0 j (omega arith) m in
          let x' : IsPath (pair_ways holds n pl) (node j (k (took d (full d) r.0 j))) p = rw g x in
          let rest : Ext r.0 (state_at F b (full d)) r.2 p = ih r.0 j (full d) r.2 (ones_lt d) r.4 p x' in
          let y : IsPath (pair_ways holds n pl) (node r.0 (round_end F s d b k (took (deeper s d) φ i r.0))) rest.way = rw (round_rows s i r.0 φ d b k l) rest.is in
          let body : Ext i (start_of F t (suc b) (round_end F s d b k) φ) r.1 rest.way = ct i r.0 φ r.1 (wider s d φ v) r.3 rest.way y in
          ext_fork i b φ d ks (start_of F t (suc b) (round_end F s d b k) φ) w p h v f e (mc φ)
          (ext_then i (start_of F t (suc b) (round_end F s d b k) φ) w r.1 r.2 rest.way body p rest.said r.5)

  mutual
    unfolding ReadsU code start_of starts_of size ways_at nest

    pub complete : (t : Unrolled) (d b : ℕ) (k : ℕ → ℕ) → At Q b (code F t d b k) → b + size t ≤ length Q → 2 ^ (d + nest t) ≤ F → (i j φ : ℕ) (w : List ℕ) → φ < 2 ^ d → ReadsU t holds n i j w
        → (p : List ℕ) → IsPath (pair_ways holds n pl) (node j (k (took d φ i j))) p → Ext i (start_of F t b k φ) w p
    complete (u_letter c) d b k a hb hf i j φ w v r p x =
        let y : IsPath (pair_ways holds n pl) (node j (k (full d))) p = rw (took-rows d φ i j (omega (arith, r.2))) at x in
        ext_pass i (suc i) b φ d (k (full d)) (λ φ. p_letter c (k (full d))) (ltb i n && holds c i) w p (omega arith) v (nest-here F d 0 hf) (at_head Q b _ _ no_place a) refl
        (rw (lt-ltb i n r.0, r.1)) (rw r.3) (rw r.2 at y)
    complete u_caret d b k a hb hf i j φ w v r p x =
        let y : IsPath (pair_ways holds n pl) (node j (k φ)) p = rw (took-none d φ i j r.1) at x in
        ext_pass i i b φ d (k φ) (λ φ. p_caret (k φ)) (eqb i 0) w p (omega arith) v (nest-here F d 0 hf) (at_head Q b _ _ no_place a) refl (eq-eqb i 0 r.0) (rw r.2) (rw r.1 at y)
    complete u_dollar d b k a hb hf i j φ w v r p x =
        let y : IsPath (pair_ways holds n pl) (node j (k φ)) p = rw (took-none d φ i j r.1) at x in
        ext_pass i i b φ d (k φ) (λ φ. p_dollar (k φ)) (eqb i n) w p (omega arith) v (nest-here F d 0 hf) (at_head Q b _ _ no_place a) refl (eq-eqb i n r.0) (rw r.2) (rw r.1 at y)
    complete u_empty d b k a hb hf i j φ w v r p x = ext_none i j φ d k w p r.0 r.1 x
    complete (u_seq s t) d b k a hb hf i j φ w v r p x =
        let m : ℕ → ℕ = start_of F t (b + size s) k in
        let at : At Q (b + size s) (code F t d (b + size s) k) = rw (code-length F s d b m) at (at_right Q b (code F s d b m) (code F t d (b + size s) k) a) in
        let fs = nest-low F d (max (nest s) (nest t)) (nest s) hf (omega arith) in
        let ft = nest-low F d (max (nest s) (nest t)) (nest t) hf (omega arith) in
        let g = took-then d φ i r.0 j (reads_onward holds n s i r.0 r.1 r.3) (reads_onward holds n t r.0 j r.2 r.4) in
        let x' : IsPath (pair_ways holds n pl) (node j (k (took d (took d φ i r.0) r.0 j))) p = rw g x in
        let y : Ext r.0 (m (took d φ i r.0)) r.2 p = complete t d (b + size s) k at (omega arith) ft r.0 j (took d φ i r.0) r.2 (took_lt d φ i r.0 v) r.4 p x' in
        let z : Ext i (start_of F s b m φ) r.1 y.way =
        complete s d b m (at_left Q b (code F s d b m) (code F t d (b + size s) k) a) (omega arith) fs i r.0 φ r.1 v r.3 y.way y.is in
        ext_then i (start_of F s b m φ) w r.1 r.2 y.way z p y.said r.5
    complete (u_alt ts) d b k a hb hf i j φ w v r p x =
        let y = complete_one ts d (suc b) k (at_tail Q b _ _ a) (omega arith) hf i j φ w v r p x in
        ext_fork i b φ d (starts_of F ts (suc b) k) y.0 w p (omega arith) v (nest-here F d (nests ts) hf) (at_head Q b _ _ no_place a) y.1 y.2
    complete (u_opt lazy t) d b k a hb hf i j φ w v r p x =
        ⊎_elim
        (λ (s : (j ≡ i) × (w ≡ [])).
        ext_fork i b φ d (λ φ. ways_in_turn lazy (start_of F t (suc b) k φ) (k φ)) (k φ) w p (omega arith) v (nest-here F d (nest t) hf) (at_head Q b _ _ no_place a)
        (order_leave lazy (start_of F t (suc b) k φ) (k φ)) (ext_none i j φ d k w p s.0 s.1 x))
        (λ (s : ReadsU t holds n i j w).
        ext_fork i b φ d (λ φ. ways_in_turn lazy (start_of F t (suc b) k φ) (k φ)) (start_of F t (suc b) k φ) w p (omega arith) v (nest-here F d (nest t) hf) (at_head Q b _ _ no_place a)
        (order_copy lazy (start_of F t (suc b) k φ) (k φ)) (complete t d (suc b) k (at_tail Q b _ _ a) (omega arith) hf i j φ w v s p x))
        r
    complete (u_star lazy t) d b k a hb hf i j φ w v r p x =
        let k' : ℕ → ℕ = round_end F (skips t) d b k in
        rounds_complete t (skips t) d b k (λ φ. ways_in_turn lazy (start_of F t (suc b) k' φ) (k φ))
        (λ i' j' φ' w' v' r' p' x'. complete t (deeper (skips t) d) (suc b) k' (at_tail Q b _ _ a) (omega arith) (nest-inner F (skips t) d (nest t) hf) i' j' φ' w' v' r' p' x') (omega arith)
        (nest-here F d (deeper (skips t) (nest t)) hf) (at_head Q b _ _ no_place a) (λ φ. order_copy lazy (start_of F t (suc b) k' φ) (k φ)) (λ φ. order_leave lazy (start_of F t (suc b) k' φ) (k φ))
        r.0 i j φ w v r.1 p x

    pub complete_one : (ts : Branches) (d b : ℕ) (k : ℕ → ℕ) → At Q b (codes F ts d b k) → b + sizes ts ≤ length Q → 2 ^ (d + nests ts) ≤ F → (i j φ : ℕ) (w : List ℕ) → φ < 2 ^ d
        → ReadsAny ts holds n i j w → (p : List ℕ) → IsPath (pair_ways holds n pl) (node j (k (took d φ i j))) p → (q : ℕ) × (Memᴰ q (starts_of F ts b k φ)) × (Ext i q w p)
    complete_one u_nil d b k a hb hf i j φ w v r p x = absurd r
    complete_one (u_cons t ts) d b k a hb hf i j φ w v r p x =
        ⊎_elim
        (λ (s : ReadsU t holds n i j w). (
          start_of F t b k φ,
          mathlib.Core.List.Memᴰ.head refl,
          complete t d b k (at_left Q b (code F t d b k) (codes F ts d (b + size t) k) a) (omega arith) (nest-low F d (max (nest t) (nests ts)) (nest t) hf (omega arith)) i j φ w v s p x,
        ))
        (λ (s : ReadsAny ts holds n i j w).
        let y = complete_one ts d (b + size t) k (rw (code-length F t d b k) at (at_right Q b (code F t d b k) (codes F ts d (b + size t) k) a)) (omega arith)
        (nest-low F d (max (nest t) (nests ts)) (nests ts) hf (omega arith)) i j φ w v s p x in
        (y.0, mathlib.Core.List.Memᴰ.tail y.1, y.2))
        r

  -- ---- every path is a reading

  -- a path from a pair with the flags φ, cut where a part ends that has d flags around it and k
  -- behind it
  pub record Cut (R : ℕ → ℕ → List ℕ → Type 0) (d i φ : ℕ) (k : ℕ → ℕ) (p : List ℕ) : Type 0 where
    pub to : ℕ
    pub word : List ℕ
    pub rest : List ℕ
    pub reads : R i to word
    pub is : IsPath (pair_ways holds n pl) (node to (k (took d φ i to))) rest
    pub said : labels pl p ≡ word ++ labels pl rest
    pub ends : last_of 0 p ≡ last_of 0 rest
    pub less : length rest ≤ length p

  -- a path that goes one pair on, with nothing said
  record On (x y : ℕ) (p : List ℕ) : Type 0 where
    rest : List ℕ
    is : IsPath (pair_ways holds n pl) y rest
    begins : p ≡ x ∷ rest
    ends : last_of 0 p ≡ last_of 0 rest

  path_on_lem : {x : ℕ} {p : List ℕ} (ys : List ℕ) → pair_ways holds n pl x ≡ try ys → IsPath (pair_ways holds n pl) x p → (y : ℕ) × (Memᴰ y ys) × (On x y p)
  path_on_lem ys e (here d) = let z : ◌≡◌ {A = ℕ} 0 1 = cc in absurd (omega arith)
  path_on_lem {x} ys e (there {y = y} {ys = zs} {p = p} d m h) =
      let q : zs ≡ ys = cc in
      (y, rw q at m, record { rest = p; is = h; begins = refl; ends = last-same x 0 h })

  mem-unmap : (f : ℕ → ℕ) (y : ℕ) (ks : List ℕ) → Memᴰ y (map f ks) → (k : ℕ) × (Memᴰ k ks) × (y ≡ f k)
  mem-unmap f y [] m = absurd (mathlib.Core.List.Memᴰ.not-nil m)
  mem-unmap f y (k ∷ ks) m =
      ⊎_elim (λ (e : y ≡ f k). (k, mathlib.Core.List.Memᴰ.head refl, e))
      (λ (h : Memᴰ y (map f ks)). let r = mem-unmap f y ks h in (r.0, mathlib.Core.List.Memᴰ.tail r.1, r.2)) (mathlib.Core.List.Memᴰ.cases_cons m)

  abbrev Forked : ℕ → List ℕ → List ℕ → Type 0
  Forked i ks p = (k : ℕ) × (Memᴰ k ks) × (q : List ℕ) × (IsPath (pair_ways holds n pl) (node i k) q) × (labels pl p ≡ labels pl q) × (last_of 0 p ≡ last_of 0 q) × (length p ≡ suc (length q))

  cut-fork : (i b φ d : ℕ) (ks : ℕ → List ℕ) (p : List ℕ) → b < length Q → φ < 2 ^ d → 2 ^ d ≤ F → get_or Q b no_place ≡ flagged d (λ φ. p_fork (ks φ))
      → IsPath (pair_ways holds n pl) (node i (state_at F b φ)) p → Forked i (ks φ) p
  unfolding ways_at
  cut-fork i b φ d ks p h v f e x =
      let r = path_on_lem (map (λ k. node i k) (ks φ)) (node-ways F Q b φ d (λ φ. p_fork (ks φ)) h v f e holds n i) x in
      let m = mem-unmap (λ k. node i k) r.0 (ks φ) r.1 in
      (m.0, m.1, r.2.rest, rw m.2 at r.2.is, ap (labels pl) r.2.begins ∙ node-label F Q b φ d (λ φ. p_fork (ks φ)) h v f e i r.2.rest, r.2.ends, ap length r.2.begins)

  cut-pass : (i j b φ d s : ℕ) (q : ℕ → Place) (c : Bool) (p : List ℕ) → b < length Q → φ < 2 ^ d → 2 ^ d ≤ F → get_or Q b no_place ≡ flagged d q
      → ways_at holds n (length pl) (q φ) i ≡ pass_if c (node j s) → IsPath (pair_ways holds n pl) (node i (state_at F b φ)) p
      → (c ≡ true) × (r : List ℕ) × (IsPath (pair_ways holds n pl) (node j s) r) × (labels pl p ≡ label_of (q φ) (labels pl r)) × (last_of 0 p ≡ last_of 0 r) × (length p ≡ suc (length r))
  cut-pass i j b φ d s q false p h v f e y x = let r = path_on_lem [] (node-ways F Q b φ d q h v f e holds n i ∙ y) x in absurd (mathlib.Core.List.Memᴰ.not-nil r.1)
  cut-pass i j b φ d s q true p h v f e y x =
      let r = path_on_lem (node j s ∷ []) (node-ways F Q b φ d q h v f e holds n i ∙ y) x in
      (refl, r.2.rest, rw (mathlib.Core.List.Memᴰ.eq_of_singleton r.1) at r.2.is, ap (labels pl) r.2.begins ∙ node-label F Q b φ d q h v f e i r.2.rest, r.2.ends, ap length r.2.begins)

  order_cases : (lazy : Bool) (z x y : ℕ) → Memᴰ z (ways_in_turn lazy x y) → (z ≡ x) ⊎ (z ≡ y)
  order_cases false z x y m = ⊎_elim (λ e. inl e) (λ h. inr (mathlib.Core.List.Memᴰ.eq_of_singleton h)) (mathlib.Core.List.Memᴰ.cases_cons m)
  order_cases true z x y m = ⊎_elim (λ e. inr e) (λ h. inl (mathlib.Core.List.Memᴰ.eq_of_singleton h)) (mathlib.Core.List.Memᴰ.cases_cons m)

  -- one cut behind another
  cut-then : (R S T : ℕ → ℕ → List ℕ → Type 0) (d i φ : ℕ) (m k : ℕ → ℕ) (p : List ℕ) (y : Cut R d i φ m p) (z : Cut S d y.to (took d φ i y.to) k y.rest)
      → i ≤ y.to → y.to ≤ z.to → T i z.to (y.word ++ z.word) → Cut T d i φ k p
  cut-then R S T d i φ m k p y z h l r =
      record {
        to = z.to;
        word = y.word ++ z.word;
        rest = z.rest;
        reads = r;
        is = rw (took-then d φ i y.to z.to h l) at z.is;
        said = y.said ∙ ap (λ (l : List ℕ). y.word ++ l) z.said ∙ sym (append_assoc y.word z.word (labels pl z.rest));
        ends = y.ends ∙ z.ends;
        less = omega (arith, y.less, z.less);
      }

  cut-from : (R S : ℕ → ℕ → List ℕ → Type 0) (d i φ : ℕ) (k : ℕ → ℕ) (p q : List ℕ) → ((j : ℕ) (w : List ℕ) → R i j w → S i j w) → labels pl p ≡ labels pl q → last_of 0 p ≡ last_of 0 q
      → length p ≡ suc (length q) → Cut R d i φ k q → Cut S d i φ k p
  cut-from R S d i φ k p q f l e m c =
      record { to = c.to; word = c.word; rest = c.rest; reads = f c.to c.word c.reads; is = c.is; said = l ∙ c.said; ends = e ∙ c.ends; less = omega (arith, c.less) }

  -- nothing taken
  cut-none : (R : ℕ → ℕ → List ℕ → Type 0) (d i φ : ℕ) (k : ℕ → ℕ) (p q : List ℕ) → R i i [] → IsPath (pair_ways holds n pl) (node i (k φ)) q
      → labels pl p ≡ labels pl q → last_of 0 p ≡ last_of 0 q → length q ≤ length p → Cut R d i φ k p
  cut-none R d i φ k p q r x l e m = record { to = i; word = []; rest = q; reads = r; is = rw (took-none d φ i i refl) x; said = l; ends = e; less = m }

  abbrev SoundOn : Unrolled → ℕ → ℕ → (ℕ → ℕ) → Type 0
  SoundOn t d b k = (i φ : ℕ) (p : List ℕ) → φ < 2 ^ d → IsPath (pair_ways holds n pl) (node i (start_of F t b k φ)) p → Cut (λ i j w. ReadsU t holds n i j w) d i φ k p

  abbrev Looped : Unrolled → ℕ → ℕ → List ℕ → Type 0
  Looped t i j w = (c : ℕ) × Rounds (λ i j w. ReadsU t holds n i j w) c i j w

  -- the rounds of a loop; m bounds the path
  abbrev LoopSound : Unrolled → ℕ → ℕ → (ℕ → ℕ) → ℕ → Type 0
  LoopSound t d b k m = (i φ : ℕ) (p : List ℕ) → length p ≤ m → φ < 2 ^ d → IsPath (pair_ways holds n pl) (node i (state_at F b φ)) p → Cut (Looped t) d i φ k p

  module _ (t : Unrolled) (d b : ℕ) (k : ℕ → ℕ) where
    -- behind a round the fork stands again
    again : (m i φ ψ : ℕ) (q : List ℕ) → φ < 2 ^ d → LoopSound t d b k m → (s : Bool) (y : Cut (λ i j w. ReadsU t holds n i j w) (deeper s d) i φ (round_end F s d b k) q) → length q ≤ m
        → round_end F s d b k (took (deeper s d) φ i y.to) ≡ state_at F b ψ → ψ ≡ took d φ i y.to → Cut (Looped t) d i φ k q
    unfolding Rounds
    again m i φ ψ q v ih s y l e g =
        let e' : round_end F s d b k (took (deeper s d) φ i y.to) ≡ state_at F b (took d φ i y.to) = e ∙ ap (state_at F b) g in
        let x : IsPath (pair_ways holds n pl) (node y.to (state_at F b (took d φ i y.to))) y.rest = rw e' at y.is in
        let z : Cut (Looped t) d y.to (took d φ i y.to) k y.rest = ih y.to (took d φ i y.to) y.rest (omega (arith, y.less)) (took_lt d φ i y.to v) x in
        let c : Cut (λ i j w. ReadsU t holds n i j w) d i φ (state_at F b) q = record { to = y.to; word = y.word; rest = y.rest; reads = y.reads; is = x; said = y.said; ends = y.ends; less = y.less } in
        cut-then (λ i j w. ReadsU t holds n i j w) (Looped t) (Looped t) d i φ (state_at F b) k q c z (reads_onward holds n t i y.to y.word y.reads)
        (rounds_onward holds n t z.reads.0 y.to z.to z.word z.reads.1)
        (suc z.reads.0, (y.to, y.word, z.word, y.reads, z.reads.1, refl {a = y.word ++ z.word}))

    -- a round that took no row was the last
    last-round : (i φ : ℕ) (q : List ℕ) → φ < 2 ^ d → (y : Cut (λ i j w. ReadsU t holds n i j w) (suc d) i φ (round_end F true d b k) q) → y.to ≡ i → Cut (Looped t) d i φ k q
    unfolding Rounds
    last-round i φ q v y z =
        let a : IsPath (pair_ways holds n pl) (node y.to (round_end F true d b k φ)) y.rest = rw (took-none (suc d) φ i y.to z) at y.is in
        let c : IsPath (pair_ways holds n pl) (node y.to (k φ)) y.rest = rw (lt-ltb φ (2 ^ d) v) at a in
        record {
          to = y.to;
          word = y.word;
          rest = y.rest;
          reads = (1, (y.to, y.word, [], y.reads, (refl, refl), sym (append-nil y.word)));
          is = rw (took-none d φ i y.to z) c;
          said = y.said;
          ends = y.ends;
          less = y.less;
        }

    round_sound : (m i φ : ℕ) (q : List ℕ) → φ < 2 ^ d → LoopSound t d b k m → (s : Bool) (y : Cut (λ i j w. ReadsU t holds n i j w) (deeper s d) i φ (round_end F s d b k) q) → length q ≤ m
        → Cut (Looped t) d i φ k q
    round_sound m i φ q v ih false y l = again m i φ (took d φ i y.to) q v ih false y l refl refl
    round_sound m i φ q v ih true y l = go (le_cases i y.to (reads_onward holds n t i y.to y.word y.reads))
      where
        go : (y.to ≡ i) ⊎ (i < y.to) → Cut (Looped t) d i φ k q
        go (inl z) = last-round i φ q v y z
        go (inr z) = again m i φ (full d) q v ih true y l (round_rows true i y.to φ d b k z) (sym (took-rows d φ i y.to z))

    rounds_sound : (s : Bool) (lazy : Bool) → SoundOn t (deeper s d) (suc b) (round_end F s d b k) → b < length Q → 2 ^ d ≤ F
        → get_or Q b no_place ≡ flagged d (λ φ. p_fork (ways_in_turn lazy (start_of F t (suc b) (round_end F s d b k) φ) (k φ))) → (m : ℕ) → LoopSound t d b k m
    unfolding Rounds
    rounds_sound s lazy st h f e zero i φ p l v x = let g = cut-fork i b φ d _ p h v f e x in absurd (omega (arith, g.6))
    rounds_sound s lazy st h f e (suc m) i φ p l v x =
        go (rounds_sound s lazy st h f e m) (cut-fork i b φ d (λ φ. ways_in_turn lazy (start_of F t (suc b) (round_end F s d b k) φ) (k φ)) p h v f e x)
      where
        go : LoopSound t d b k m → Forked i (ways_in_turn lazy (start_of F t (suc b) (round_end F s d b k) φ) (k φ)) p → Cut (Looped t) d i φ k p
        go ih g =
            ⊎_elim
            (λ (z : g.0 ≡ start_of F t (suc b) (round_end F s d b k) φ).
            let y : Cut (λ i j w. ReadsU t holds n i j w) (deeper s d) i φ (round_end F s d b k) g.2 = st i φ g.2 (wider s d φ v) (rw z at g.3) in
            cut-from (Looped t) (Looped t) d i φ k p g.2 (λ j w r. r) g.4 g.5 g.6 (round_sound m i φ g.2 v ih s y (omega (arith, g.6))))
            (λ (z : g.0 ≡ k φ). cut-none (Looped t) d i φ k p g.2 (0, (refl, refl)) (rw z at g.3) g.4 g.5 (omega (arith, g.6)))
            (order_cases lazy g.0 (start_of F t (suc b) (round_end F s d b k) φ) (k φ) g.1)

  mutual
    unfolding ReadsU code start_of starts_of size ways_at nest

    pub sound : (t : Unrolled) (d b : ℕ) (k : ℕ → ℕ) → At Q b (code F t d b k) → b + size t ≤ length Q → 2 ^ (d + nest t) ≤ F → (i φ : ℕ) (p : List ℕ) → φ < 2 ^ d
        → IsPath (pair_ways holds n pl) (node i (start_of F t b k φ)) p → Cut (λ i j w. ReadsU t holds n i j w) d i φ k p
    sound (u_letter c) d b k a hb hf i φ p v x =
        let f = cut-pass i (suc i) b φ d (k (full d)) (λ φ. p_letter c (k (full d))) (ltb i n && holds c i) p (omega arith) v (nest-here F d 0 hf) (at_head Q b _ _ no_place a) refl x in
        let g = and-true (ltb i n) (holds c i) f.0 in
        record {
          to = suc i;
          word = c ∷ [];
          rest = f.1;
          reads = (ltb-true i n g.0, g.1, refl, refl);
          is = rw (took-rows d φ i (suc i) (omega arith)) f.2;
          said = f.3;
          ends = f.4;
          less = omega (arith, f.5);
        }
    sound u_caret d b k a hb hf i φ p v x =
        let f = cut-pass i i b φ d (k φ) (λ φ. p_caret (k φ)) (eqb i 0) p (omega arith) v (nest-here F d 0 hf) (at_head Q b _ _ no_place a) refl x in
        cut-none (λ i j w. (i ≡ 0) × (j ≡ i) × (w ≡ [])) d i φ k p f.1 (eqb-true i 0 f.0, refl, refl) f.2 f.3 f.4 (omega (arith, f.5))
    sound u_dollar d b k a hb hf i φ p v x =
        let f = cut-pass i i b φ d (k φ) (λ φ. p_dollar (k φ)) (eqb i n) p (omega arith) v (nest-here F d 0 hf) (at_head Q b _ _ no_place a) refl x in
        cut-none (λ i j w. (i ≡ n) × (j ≡ i) × (w ≡ [])) d i φ k p f.1 (eqb-true i n f.0, refl, refl) f.2 f.3 f.4 (omega (arith, f.5))
    sound u_empty d b k a hb hf i φ p v x = cut-none (λ i j w. (j ≡ i) × (w ≡ [])) d i φ k p p (refl, refl) x refl refl (omega arith)
    sound (u_seq s t) d b k a hb hf i φ p v x =
        let m : ℕ → ℕ = start_of F t (b + size s) k in
        let at : At Q (b + size s) (code F t d (b + size s) k) = rw (code-length F s d b m) at (at_right Q b (code F s d b m) (code F t d (b + size s) k) a) in
        let y : Cut (λ i j w. ReadsU s holds n i j w) d i φ m p =
        sound s d b m (at_left Q b (code F s d b m) (code F t d (b + size s) k) a) (omega arith) (nest-low F d (max (nest s) (nest t)) (nest s) hf (omega arith)) i φ p v x in
        let z : Cut (λ i j w. ReadsU t holds n i j w) d y.to (took d φ i y.to) k y.rest =
        sound t d (b + size s) k at (omega arith) (nest-low F d (max (nest s) (nest t)) (nest t) hf (omega arith)) y.to (took d φ i y.to) y.rest (took_lt d φ i y.to v) y.is in
        cut-then (λ i j w. ReadsU s holds n i j w) (λ i j w. ReadsU t holds n i j w)
        (λ i k w. (j : ℕ) × (u : List ℕ) × (v : List ℕ) × (ReadsU s holds n i j u) × (ReadsU t holds n j k v) × (w ≡ u ++ v)) d i φ m k p y z
        (reads_onward holds n s i y.to y.word y.reads) (reads_onward holds n t y.to z.to z.word z.reads)
        (y.to, y.word, z.word, y.reads, z.reads, refl {a = y.word ++ z.word})
    sound (u_alt ts) d b k a hb hf i φ p v x =
        let f = cut-fork i b φ d (starts_of F ts (suc b) k) p (omega arith) v (nest-here F d (nests ts) hf) (at_head Q b _ _ no_place a) x in
        cut-from (λ i j w. ReadsAny ts holds n i j w) (λ i j w. ReadsAny ts holds n i j w) d i φ k p f.2 (λ j w r. r) f.4 f.5 f.6
        (sound_one ts d (suc b) k (at_tail Q b _ _ a) (omega arith) hf i φ f.0 f.1 f.2 v f.3)
    sound (u_opt lazy t) d b k a hb hf i φ p v x =
        let f = cut-fork i b φ d (λ φ. ways_in_turn lazy (start_of F t (suc b) k φ) (k φ)) p (omega arith) v (nest-here F d (nest t) hf) (at_head Q b _ _ no_place a) x in
        ⊎_elim
        (λ (z : f.0 ≡ start_of F t (suc b) k φ).
        cut-from (λ i j w. ReadsU t holds n i j w) (λ i j w. ((j ≡ i) × (w ≡ [])) ⊎ ReadsU t holds n i j w) d i φ k p f.2 (λ j w r. inr r) f.4 f.5 f.6
        (sound t d (suc b) k (at_tail Q b _ _ a) (omega arith) hf i φ f.2 v (rw z at f.3)))
        (λ (z : f.0 ≡ k φ).
        cut-none (λ i j w. ((j ≡ i) × (w ≡ [])) ⊎ ReadsU t holds n i j w) d i φ k p f.2 (inl (refl, refl)) (rw z at f.3) f.4 f.5 (omega (arith, f.6)))
        (order_cases lazy f.0 (start_of F t (suc b) k φ) (k φ) f.1)
    sound (u_star lazy t) d b k a hb hf i φ p v x =
        rounds_sound t d b k (skips t) lazy
        (λ i' φ' p' v' x'. sound t (deeper (skips t) d) (suc b) (round_end F (skips t) d b k) (at_tail Q b _ _ a) (omega arith) (nest-inner F (skips t) d (nest t) hf) i' φ' p' v' x')
        (omega arith) (nest-here F d (deeper (skips t) (nest t)) hf) (at_head Q b _ _ no_place a) (length p) i φ p (omega arith) v x

    pub sound_one : (ts : Branches) (d b : ℕ) (k : ℕ → ℕ) → At Q b (codes F ts d b k) → b + sizes ts ≤ length Q → 2 ^ (d + nests ts) ≤ F → (i φ q : ℕ) → Memᴰ q (starts_of F ts b k φ)
        → (p : List ℕ) → φ < 2 ^ d → IsPath (pair_ways holds n pl) (node i q) p → Cut (λ i j w. ReadsAny ts holds n i j w) d i φ k p
    sound_one u_nil d b k a hb hf i φ q m p v x = absurd (mathlib.Core.List.Memᴰ.not-nil m)
    sound_one (u_cons t ts) d b k a hb hf i φ q m p v x =
        ⊎_elim
        (λ (z : q ≡ start_of F t b k φ).
        let y : Cut (λ i j w. ReadsU t holds n i j w) d i φ k p =
        sound t d b k (at_left Q b (code F t d b k) (codes F ts d (b + size t) k) a) (omega arith) (nest-low F d (max (nest t) (nests ts)) (nest t) hf (omega arith)) i φ p v (rw z at x) in
        record { to = y.to; word = y.word; rest = y.rest; reads = inl y.reads; is = y.is; said = y.said; ends = y.ends; less = y.less })
        (λ (z : Memᴰ q (starts_of F ts (b + size t) k φ)).
        let y : Cut (λ i j w. ReadsAny ts holds n i j w) d i φ k p =
        sound_one ts d (b + size t) k (rw (code-length F t d b k) at (at_right Q b (code F t d b k) (codes F ts d (b + size t) k) a)) (omega arith)
        (nest-low F d (max (nest t) (nests ts)) (nests ts) hf (omega arith)) i φ q z p v x in
        record { to = y.to; word = y.word; rest = y.rest; reads = inr y.reads; is = y.is; said = y.said; ends = y.ends; less = y.less })
        (mathlib.Core.List.Memᴰ.cases_cons m)

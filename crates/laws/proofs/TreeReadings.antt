-- A tree's readings are those of its unrolled pattern; and plain backtracking from the first place
-- finds a path exactly where the tree has a reading, and the path found is one, with its end and
-- its labels (demand 2: a start has a match exactly if some reading of the pattern exists there).
-- And the rows that a reading takes are as many as its labels.
use mathlib.Core.Path.{◌≡◌, refl, ap, ◌∙◌, sym, subst}
use mathlib.Core.List.{List, [], ◌∷◌, ◌++◌, append-nil}
use mathlib.Core.Bool.{Bool}
use mathlib.Core.Logic.{inl, inr, ⊎_elim, ◌≢◌, ◌↔◌}
use mathlib.Core.Option.{Option, none, some}
use Prim.Native.Nat.{ℕ, zero, suc, ◌+◌, ◌-◌, ◌≤◌, zero-le, suc-le-suc, ◌^◌}
use native.Mathlib.Nat.{zero-add, suc-add, le_of_suc-le-suc, not-suc-le-zero}
use native.Mathlib.Omega.{arith}
use lib.ListN.{length}
use lib.Arith.{digits_div}
use Rattle.rules.specs.Language.{lower, upper, Rank, pattern, branch, factor, primary, Tree, one, more, last, next, bare, times, letter, caret, dollar, empty, group}
use Rattle.rules.specs.Places.{Unrolled, copies, options, behind, repeated, UnrolledAt, forked, unrolled, unroll, size, start_of, places, nest, state_at, Flagged, flagged_places}
use Rattle.rules.specs.Readings.{Within, Rounds, Reads, SomeReading, row_sets}
use Rattle.rules.specs.Search.{plain_from, last_of, end_of, labels}
use Rattle.rules.specs.Walk.{IsPath, here, there, accept, pairs, position_of, first_at, pair_ways, pair_at}
use Rattle.laws.proofs.Bounds.{Bounds, in_order}
use Rattle.laws.proofs.Counting.{forked-more}
use Rattle.laws.proofs.Paths.{path_found}
use Rattle.laws.proofs.Plain.{plain-path}
use Rattle.laws.proofs.UnrolledReadings.{ReadsU, ReadsAny, Ext, complete, Cut, sound, Taken, unrolled-taken}
use Rattle.laws.proofs.WholePattern.{whole, first-place, small, ends_here, end-says, end_below}
use Rattle.laws.proofs.DerivationPath.{took, no-flags}
use Rattle.laws.proofs.Rank.{factor_in}

-- ---- the tree and the unrolled pattern

rounds_map : (R S : ℕ → ℕ → List ℕ → Type 0) → ((i j : ℕ) (w : List ℕ) → R i j w → S i j w) → (c i j : ℕ) (w : List ℕ) → Rounds R c i j w → Rounds S c i j w
unfolding Rounds
rounds_map R S f zero i j w r = r
rounds_map R S f (suc c) i j w r = (r.0, r.1, r.2, f i r.0 r.1 r.3, rounds_map R S f c r.0 j r.2 r.4, r.5)

module _ (holds : ℕ → ℕ → Bool) (n : ℕ) where
  module _ (t : Unrolled) where
    abbrev One : ℕ → ℕ → List ℕ → Type 0
    One i j w = ReadsU t holds n i j w

    options-from : (lazy : Bool) (m c i j : ℕ) (w : List ℕ) → c ≤ m → Rounds One c i j w → ReadsU (options m lazy t) holds n i j w
    unfolding options ReadsU Rounds
    options-from lazy zero zero i j w h r = r
    options-from lazy zero (suc c) i j w h r = absurd (not-suc-le-zero h)
    options-from lazy (suc m) zero i j w h r = inl r
    options-from lazy (suc m) (suc c) i j w h r = inr (r.0, r.1, r.2, r.3, options-from lazy m c r.0 j r.2 (le_of_suc-le-suc h) r.4, r.5)

    options-to : (lazy : Bool) (m i j : ℕ) (w : List ℕ) → ReadsU (options m lazy t) holds n i j w → (c : ℕ) × (c ≤ m) × (Rounds One c i j w)
    unfolding options ReadsU Rounds
    options-to lazy zero i j w r = (0, zero-le, r)
    options-to lazy (suc m) i j w r =
        ⊎_elim (λ (s : (j ≡ i) × (w ≡ [])). (0, zero-le, s))
        (λ (s : (k : ℕ) × (u : List ℕ) × (v : List ℕ) × (ReadsU t holds n i k u) × (ReadsU (options m lazy t) holds n k j v) × (w ≡ u ++ v)).
        let z = options-to lazy m s.0 j s.2 s.4 in (suc z.0, suc-le-suc z.1, (s.0, s.1, s.2, s.3, z.2, s.5))) r

    behind-from : (hi : Option ℕ) (lo : ℕ) (lazy : Bool) (c i j : ℕ) (w : List ℕ) → Within (lo + c) hi → Rounds One c i j w → ReadsU (behind hi lo lazy t) holds n i j w
    unfolding behind ReadsU
    behind-from none lo lazy c i j w h r = (c, r)
    behind-from (some hi) lo lazy c i j w h r = options-from lazy (hi - lo) c i j w (omega arith) r

    behind-to : (hi : Option ℕ) (lo : ℕ) (lazy : Bool) → Within lo hi → (i j : ℕ) (w : List ℕ) → ReadsU (behind hi lo lazy t) holds n i j w
        → (c : ℕ) × (Within (lo + c) hi) × (Rounds One c i j w)
    unfolding behind ReadsU
    behind-to none lo lazy g i j w r = (r.0, tt, r.1)
    behind-to (some hi) lo lazy g i j w r = let z = options-to lazy (hi - lo) i j w r in (z.0, omega arith, z.2)

    copies-from : (r : Unrolled) (d : ℕ) → ((i j : ℕ) (w : List ℕ) → Rounds One d i j w → ReadsU r holds n i j w)
        → (m i j : ℕ) (w : List ℕ) → Rounds One (m + d) i j w → ReadsU (copies m t r) holds n i j w
    unfolding copies ReadsU Rounds
    copies-from r d f zero i j w s = f i j w (rw zero-add at s)
    copies-from r d f (suc m) i j w s =
        let x : Rounds One (suc (m + d)) i j w = rw suc-add at s in
        (x.0, x.1, x.2, x.3, copies-from r d f m x.0 j x.2 x.4, x.5)

    copies-to : (r : Unrolled) (Q : ℕ → Type 0) → ((i j : ℕ) (w : List ℕ) → ReadsU r holds n i j w → (d : ℕ) × (Q d) × (Rounds One d i j w))
        → (m i j : ℕ) (w : List ℕ) → ReadsU (copies m t r) holds n i j w → (d : ℕ) × (Q d) × (Rounds One (m + d) i j w)
    unfolding copies ReadsU Rounds
    copies-to r Q f zero i j w s = let z = f i j w s in (z.0, z.1, rw zero-add z.2)
    copies-to r Q f (suc m) i j w s =
        let z = copies-to r Q f m s.0 j s.2 s.4 in
        let x : Rounds One (suc (m + z.0)) i j w = (s.0, s.1, s.2, s.3, z.2, s.5) in
        (z.0, z.1, rw suc-add x)

  -- a pattern's branches read if one of them does
  abbrev ReadsAt : (k : Rank) → UnrolledAt k → ℕ → ℕ → List ℕ → Type 0
  ReadsAt pattern ts i j w = ReadsAny ts holds n i j w
  ReadsAt branch t i j w = ReadsU t holds n i j w
  ReadsAt factor t i j w = ReadsU t holds n i j w
  ReadsAt primary t i j w = ReadsU t holds n i j w

  forked-reads : (p : Tree pattern) (i j : ℕ) (w : List ℕ) → ReadsAny (unrolled p) holds n i j w → ReadsU (forked (unrolled p)) holds n i j w
  unfolding unrolled forked ReadsU
  forked-reads (one b) i j w r = ⊎_elim (λ (s : ReadsU (unrolled b) holds n i j w). s) (λ (s : ⊥). absurd s) r
  forked-reads (more b p) i j w r = rw (forked-more b p) r

  reads_forked : (p : Tree pattern) (i j : ℕ) (w : List ℕ) → ReadsU (forked (unrolled p)) holds n i j w → ReadsAny (unrolled p) holds n i j w
  unfolding unrolled forked ReadsU
  reads_forked (one b) i j w r = inl r
  reads_forked (more b p) i j w r = rw (forked-more b p) at r

  tree-unrolled : {k : Rank} (t : Tree k) (i j : ℕ) (w : List ℕ) → Reads (row_sets n holds) t i j w → ReadsAt k (unrolled t) i j w
  unfolding Reads unrolled ReadsU repeated
  tree-unrolled (one b) i j w m = inl (tree-unrolled b i j w m)
  tree-unrolled (more b p) i j w m =
      ⊎_elim (λ (x : Reads (row_sets n holds) b i j w). inl (tree-unrolled b i j w x)) (λ (x : Reads (row_sets n holds) p i j w). inr (tree-unrolled p i j w x)) m
  tree-unrolled (last f) i j w m = tree-unrolled f i j w m
  tree-unrolled (next f b) i j w m = (m.0, m.1, m.2, tree-unrolled f i m.0 m.1 m.3, tree-unrolled b m.0 j m.2 m.4, m.5)
  tree-unrolled (bare x) i j w m = tree-unrolled x i j w m
  tree-unrolled (times x f z) i j w m =
      let lo : ℕ = lower f in
      let d : ℕ = m.0 - lo in
      let e : lo + d ≡ m.0 = omega (arith, m.1) in
      let r : Rounds (λ i j w. ReadsU (unrolled x) holds n i j w) (lo + d) i j w =
      rw e (rounds_map (λ i j w. Reads (row_sets n holds) x i j w) (λ i j w. ReadsU (unrolled x) holds n i j w) (λ i' j' w' y. tree-unrolled x i' j' w' y) m.0 i j w m.3) in
      copies-from (unrolled x) (behind (upper f) lo z (unrolled x)) d (λ i' j' w' y. behind-from (unrolled x) (upper f) lo z d i' j' w' (rw e m.2) y) lo i j w r
  tree-unrolled (letter c) i j w m = m
  tree-unrolled caret i j w m = m
  tree-unrolled dollar i j w m = m
  tree-unrolled empty i j w m = m
  tree-unrolled (group p) i j w m = forked-reads p i j w (tree-unrolled p i j w m)

  unrolled-tree : {k : Rank} (t : Tree k) → Bounds t → (i j : ℕ) (w : List ℕ) → ReadsAt k (unrolled t) i j w → Reads (row_sets n holds) t i j w
  unfolding Reads unrolled ReadsU repeated Bounds
  unrolled-tree (one b) o i j w m = ⊎_elim (λ (x : ReadsU (unrolled b) holds n i j w). unrolled-tree b o i j w x) (λ (x : ⊥). absurd x) m
  unrolled-tree (more b p) o i j w m =
      ⊎_elim (λ (x : ReadsU (unrolled b) holds n i j w). inl (unrolled-tree b o.0 i j w x)) (λ (x : ReadsAny (unrolled p) holds n i j w). inr (unrolled-tree p o.1 i j w x)) m
  unrolled-tree (last f) o i j w m = unrolled-tree f o i j w m
  unrolled-tree (next f b) o i j w m = (m.0, m.1, m.2, unrolled-tree f o.0 i m.0 m.1 m.3, unrolled-tree b o.1 m.0 j m.2 m.4, m.5)
  unrolled-tree (bare x) o i j w m = unrolled-tree x o i j w m
  unrolled-tree (times x f z) o i j w m =
      let lo : ℕ = lower f in
      let r = copies-to (unrolled x) (behind (upper f) lo z (unrolled x)) (λ d. Within (lo + d) (upper f))
      (λ i' j' w' y. behind-to (unrolled x) (upper f) lo z (in_order f o.0) i' j' w' y) lo i j w m in (
        lo + r.0,
        omega arith,
        r.1,
        rounds_map (λ i j w. ReadsU (unrolled x) holds n i j w) (λ i j w. Reads (row_sets n holds) x i j w) (λ i' j' w' y. unrolled-tree x o.1 i' j' w' y) (lo + r.0) i j w r.2,
      )
  unrolled-tree (letter c) o i j w m = m
  unrolled-tree caret o i j w m = m
  unrolled-tree dollar o i j w m = m
  unrolled-tree empty o i j w m = m
  unrolled-tree (group p) o i j w m = unrolled-tree p o i j w (reads_forked p i j w m)

  pub reads_unrolled : (p : Tree pattern) (i j : ℕ) (w : List ℕ) → Reads (row_sets n holds) p i j w → ReadsU (unroll p) holds n i j w
  unfolding unroll
  reads_unrolled p i j w m = forked-reads p i j w (tree-unrolled p i j w m)

  pub unrolled-reads : (p : Tree pattern) → Bounds p → (i j : ℕ) (w : List ℕ) → ReadsU (unroll p) holds n i j w → Reads (row_sets n holds) p i j w
  unfolding unroll
  unrolled-reads p o i j w m = unrolled-tree p o i j w (reads_forked p i j w m)

  -- ---- the rows of a reading

  pub reads_taken : (p : Tree pattern) (i j : ℕ) (w : List ℕ) → Reads (row_sets n holds) p i j w → Taken n i j w
  reads_taken p i j w m = unrolled-taken holds n (unroll p) i j w (reads_unrolled p i j w m)

-- ---- paths

module _ (t : Unrolled) (holds : ℕ → ℕ → Bool) (n : ℕ) where
  -- a path from END is END
  stops : {x : ℕ} {path : List ℕ} → pair_ways holds n (places t) x ≡ accept → IsPath (pair_ways holds n (places t)) x path → path ≡ x ∷ []
  stops e (here d) = refl
  stops e (there d m h) = let z : ◌≡◌ {A = ℕ} 0 1 = cc in absurd (omega arith)

  abbrev F : ℕ
  F = factor_in t

  abbrev Q : List Flagged
  Q = flagged_places F t

  -- the pair of END
  abbrev end : ℕ → ℕ
  end j = pair_at (length (places t)) j (state_at F (size t) 0)

  enough : 2 ^ (0 + nest t) ≤ F
  enough = let e : 0 + nest t ≡ nest t = omega arith in rw e (omega arith)

  first-pair : (i : ℕ) → pair_at (length (places t)) i (start_of F t 0 (state_at F (size t)) 0) ≡ first_at (length (places t)) i
  first-pair i = omega (arith, first-place t)

  -- a path from the first place is a reading
  pub path_reads : (i : ℕ) (path : List ℕ) → IsPath (pair_ways holds n (places t)) (first_at (length (places t)) i) path
      → ReadsU t holds n i (end_of (length (places t)) path) (labels (places t) path)
  unfolding places
  path_reads i path h =
      out (sound F Q holds n t 0 0 (state_at F (size t)) (whole t) (omega (arith, (small t))) enough i 0 path (omega arith)
      (subst (λ (x : ℕ). IsPath (pair_ways holds n (places t)) x path) (sym (first-pair i)) h))
    where
      out : Cut F Q holds n (λ i j w. ReadsU t holds n i j w) 0 i 0 (state_at F (size t)) path → ReadsU t holds n i (end_of (length (places t)) path) (labels (places t) path)
      out c =
          let x : IsPath (pair_ways holds n (places t)) (end c.to) c.rest = rw (no-flags i c.to) at c.is in
          let s : c.rest ≡ end c.to ∷ [] = stops (ends_here t holds n c.to) x in
          let w : labels (places t) path ≡ c.word = c.said ∙ ap (λ (l : List ℕ). c.word ++ labels (places t) l) s
          ∙ ap (λ (l : List ℕ). c.word ++ l) (end-says t c.to) ∙ append-nil c.word in
          let j : end_of (length (places t)) path ≡ c.to = ap (position_of (length (places t))) (c.ends ∙ ap (last_of 0) s) ∙ digits_div c.to (end_below t) in
          rw (w, j) c.reads

  -- every reading has a path, which says it
  pub reads_path : (i j : ℕ) (w : List ℕ) → ReadsU t holds n i j w
      → (path : List ℕ) × (IsPath (pair_ways holds n (places t)) (first_at (length (places t)) i) path) × (end_of (length (places t)) path ≡ j) × (labels (places t) path ≡ w)
  unfolding places
  reads_path i j w r =
      let x : IsPath (pair_ways holds n (places t)) (end j) (end j ∷ []) = here (ends_here t holds n j) in
      let x' : IsPath (pair_ways holds n (places t)) (pair_at (length (places t)) j (state_at F (size t) (took 0 0 i j))) (end j ∷ []) = rw (no-flags i j) x in
      let y : Ext F Q holds n i (start_of F t 0 (state_at F (size t)) 0) w (end j ∷ []) =
      complete F Q holds n t 0 0 (state_at F (size t)) (whole t) (omega (arith, (small t))) enough i j 0 w (omega arith) r (end j ∷ []) x' in
      let h : IsPath (pair_ways holds n (places t)) (first_at (length (places t)) i) y.way = subst (λ (z : ℕ). IsPath (pair_ways holds n (places t)) z y.way) (first-pair i) y.is in
      let d : labels (places t) y.way ≡ w = y.said ∙ ap (λ (l : List ℕ). w ++ l) (end-says t j) ∙ append-nil w in
      let a = unrolled-taken holds n t i (end_of (length (places t)) y.way) (labels (places t) y.way) (path_reads i y.way h) in
      let b = unrolled-taken holds n t i j w r in
      (y.way, h, omega (arith, a.rows, b.rows, ap length d), d)

-- ---- plain backtracking over a tree

module _ (p : Tree pattern) (holds : ℕ → ℕ → Bool) (n : ℕ) where
  abbrev P : ℕ
  P = length (places (unroll p))

  -- the path found is a reading
  pub found-reads : Bounds p → (i : ℕ) (path : List ℕ) → plain_from holds n (places (unroll p)) i ≡ some path → Reads (row_sets n holds) p i (end_of P path) (labels (places (unroll p)) path)
  found-reads o i path e =
      unrolled-reads holds n p o i (end_of P path) (labels (places (unroll p)) path)
      (path_reads (unroll p) holds n i path (plain-path (pair_ways holds n (places (unroll p))) (pairs P n) (first_at P i) path e))

  -- where there is a reading, a path is found
  pub reading_found : (i j : ℕ) (w : List ℕ) → Reads (row_sets n holds) p i j w → plain_from holds n (places (unroll p)) i ≢ none
  reading_found i j w r = path_found (unroll p) holds n (reads_path (unroll p) holds n i j w (reads_unrolled holds n p i j w r)).1

  -- a path is found at a start exactly if some reading exists there
  pub match-exactly : Bounds p → (i : ℕ) → ((path : List ℕ) × (plain_from holds n (places (unroll p)) i ≡ some path)) ↔ SomeReading (row_sets n holds) p i
  match-exactly o i =
      (λ f. (end_of P f.0, labels (places (unroll p)) f.0, found-reads o i f.0 f.1), λ r. go (plain_from holds n (places (unroll p)) i) refl (reading_found i r.0 r.1 r.2))
    where
      go : (a : Option (List ℕ)) → plain_from holds n (places (unroll p)) i ≡ a → plain_from holds n (places (unroll p)) i ≢ none → (path : List ℕ) × (plain_from holds n (places (unroll p)) i ≡ some path)
      go none e h = absurd (h e)
      go (some path) e h = (path, e)

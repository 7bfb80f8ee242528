-- Derivations against readings: a phrase reads rows exactly if one of its derivations parses them
-- (`reads_is`), and a derivation settles its labels and its end (`parses_word`). With R-3 too:
-- every reading has a derivation that keeps its rule (`reads_kept`).
use mathlib.Core.Path.{◌≡◌, refl, ap, ap₂, sym, ◌∙◌, subst}
use mathlib.Core.List.{List, [], ◌∷◌, ◌++◌, flat_map}
use mathlib.Core.Bool.{Bool, true}
use mathlib.Core.Logic.{inl, inr, ⊎_elim, ◌↔◌}
use Prim.Native.Nat.{ℕ, zero, suc, ◌+◌, ◌≤◌, ◌<◌, zero-le, suc-le-suc}
use native.Mathlib.Omega.{arith}
use lib.ListN.{length, length-append}
use Rattle.rules.specs.Language.{Rank, Tree, one, more, last, next, bare, times, letter, caret, dollar, empty, group, lower, upper, primary}
use Rattle.rules.specs.Preferment.{Derivation, InTurn, Parses, word, empty_ends, empty_ends_in, keeps}
use Rattle.rules.specs.Readings.{Rounds, Reads, Within, RowSets, row_sets}
use mathlib.Core.Option.{Option, none, some}
use native.Mathlib.Nat.{le_of_suc-le-suc, not-suc-le-zero}
use borrow.Author.Tests.{lt-ltb}
use Rattle.rules.specs.Basics.{every}
use Rattle.laws.proofs.Level.{and-true}

-- ---- readings

module _ {A : Type 0} (R : ℕ → ℕ → List ℕ → Type 0) (S : A → ℕ → ℕ → List ℕ → Type 0) where
  rounds_in : ((i j : ℕ) (w : List ℕ) → R i j w → (d : A) × S d i j w) → (c i j : ℕ) (w : List ℕ) → Rounds R c i j w → (ds : List A) × (length ds ≡ c) × (InTurn S ds i j w)
  unfolding Rounds InTurn
  rounds_in f zero i j w r = ([], refl, r)
  rounds_in f (suc c) i j w r =
      let x = f i r.0 r.1 r.3 in
      let y = rounds_in f c r.0 j r.2 r.4 in
      (x.0 ∷ y.0, ap suc y.1, (r.0, r.1, r.2, x.1, y.2, r.5))

  rounds_out : ((d : A) (i j : ℕ) (w : List ℕ) → S d i j w → R i j w) → (ds : List A) (i j : ℕ) (w : List ℕ) → InTurn S ds i j w → Rounds R (length ds) i j w
  unfolding Rounds InTurn
  rounds_out f [] i j w r = r
  rounds_out f (d ∷ ds) i j w r = (r.0, r.1, r.2, f d i r.0 r.1 r.3, rounds_out f ds r.0 j r.2 r.4, r.5)

module _ (holds : ℕ → ℕ → Bool) (n : ℕ) where
  pub reads_parses : {k : Rank} (t : Tree k) (i j : ℕ) (w : List ℕ) → Reads (row_sets n holds) t i j w → (d : Derivation t) × Parses (row_sets n holds) t d i j w
  unfolding Reads Derivation Parses
  reads_parses (one b) i j w m = reads_parses b i j w m
  reads_parses (more b p) i j w m =
      ⊎_elim
      (λ (x : Reads (row_sets n holds) b i j w). let y = reads_parses b i j w x in (inl y.0, y.1))
      (λ (x : Reads (row_sets n holds) p i j w). let y = reads_parses p i j w x in (inr y.0, y.1))
      m
  reads_parses (last f) i j w m = reads_parses f i j w m
  reads_parses (next f b) i j w m =
      let x = reads_parses f i m.0 m.1 m.3 in
      let y = reads_parses b m.0 j m.2 m.4 in
      ((x.0, y.0), (m.0, m.1, m.2, x.1, y.1, m.5))
  reads_parses (bare x) i j w m = reads_parses x i j w m
  reads_parses (times x f z) i j w m =
      let y = rounds_in (λ i j w. Reads (row_sets n holds) x i j w) (Parses (row_sets n holds) x) (λ i j w r. reads_parses x i j w r) m.0 i j w m.3 in
      ((y.0, (rw y.1 m.1, rw y.1 m.2)), y.2)
  reads_parses (letter c) i j w m = (tt, m)
  reads_parses caret i j w m = (tt, m)
  reads_parses dollar i j w m = (tt, m)
  reads_parses empty i j w m = (tt, m)
  reads_parses (group p) i j w m = reads_parses p i j w m

  pub parses_reads : {k : Rank} (t : Tree k) (d : Derivation t) (i j : ℕ) (w : List ℕ) → Parses (row_sets n holds) t d i j w → Reads (row_sets n holds) t i j w
  unfolding Reads Derivation Parses
  parses_reads (one b) d i j w r = parses_reads b d i j w r
  parses_reads (more b p) (inl d) i j w r = inl (parses_reads b d i j w r)
  parses_reads (more b p) (inr d) i j w r = inr (parses_reads p d i j w r)
  parses_reads (last f) d i j w r = parses_reads f d i j w r
  parses_reads (next f b) d i j w r = (r.0, r.1, r.2, parses_reads f d.0 i r.0 r.1 r.3, parses_reads b d.1 r.0 j r.2 r.4, r.5)
  parses_reads (bare x) d i j w r = parses_reads x d i j w r
  parses_reads (times x f z) d i j w r = (
    length d.0,
    d.1.0,
    d.1.1,
    rounds_out (λ i j w. Reads (row_sets n holds) x i j w) (Parses (row_sets n holds) x) (λ d i j w r. parses_reads x d i j w r) d.0 i j w r,
  )
  parses_reads (letter c) d i j w r = r
  parses_reads caret d i j w r = r
  parses_reads dollar d i j w r = r
  parses_reads empty d i j w r = r
  parses_reads (group p) d i j w r = parses_reads p d i j w r

  pub reads_is : {k : Rank} (t : Tree k) (i j : ℕ) (w : List ℕ) → Reads (row_sets n holds) t i j w ↔ ((d : Derivation t) × Parses (row_sets n holds) t d i j w)
  reads_is t i j w = (λ m. reads_parses t i j w m, λ x. parses_reads t x.0 i j w x.1)

-- ---- labels

-- from i to j with the labels w, which are v, one to a row
pub record Spells (w v : List ℕ) (i j : ℕ) : Type 0 where
  pub labels : w ≡ v
  pub rows : j ≡ i + length v

spells_then : (w u v x y : List ℕ) (i j k : ℕ) → w ≡ u ++ v → Spells u x i j → Spells v y j k → Spells w (x ++ y) i k
spells_then w u v x y i j k e p q = record { labels = e ∙ ap₂ ◌++◌ p.labels q.labels; rows = simp length-append (omega (arith, p.rows, q.rows)) }

in_turn_spells : {A : Type 0} (R : A → ℕ → ℕ → List ℕ → Type 0) (f : A → List ℕ) → ((d : A) (i j : ℕ) (w : List ℕ) → R d i j w → Spells w (f d) i j)
    → (ds : List A) (i j : ℕ) (w : List ℕ) → InTurn R ds i j w → Spells w (flat_map f ds) i j
unfolding InTurn flat_map
in_turn_spells R f h [] i j w r = record { labels = r.1; rows = omega (arith, r.0) }
in_turn_spells R f h (d ∷ ds) i j w r =
    spells_then w r.1 r.2 (f d) (flat_map f ds) i r.0 j r.5 (h d i r.0 r.1 r.3) (in_turn_spells R f h ds r.0 j r.2 r.4)

module _ (holds : ℕ → ℕ → Bool) (n : ℕ) where
  pub parses_word : {k : Rank} (t : Tree k) (d : Derivation t) (i j : ℕ) (w : List ℕ) → Parses (row_sets n holds) t d i j w → Spells w (word t d) i j
  unfolding Derivation Parses word
  parses_word (one b) d i j w r = parses_word b d i j w r
  parses_word (more b p) (inl d) i j w r = parses_word b d i j w r
  parses_word (more b p) (inr d) i j w r = parses_word p d i j w r
  parses_word (last f) d i j w r = parses_word f d i j w r
  parses_word (next f b) d i j w r =
      spells_then w r.1 r.2 (word f d.0) (word b d.1) i r.0 j r.5 (parses_word f d.0 i r.0 r.1 r.3) (parses_word b d.1 r.0 j r.2 r.4)
  parses_word (bare x) d i j w r = parses_word x d i j w r
  parses_word (times x f z) d i j w r = in_turn_spells (Parses (row_sets n holds) x) (λ y. word x y) (λ d i j w r. parses_word x d i j w r) d.0 i j w r
  parses_word (letter c) d i j w r = record { labels = r.3; rows = omega (arith, r.2) }
  parses_word caret d i j w r = record { labels = r.2; rows = omega (arith, r.1) }
  parses_word dollar d i j w r = record { labels = r.2; rows = omega (arith, r.1) }
  parses_word empty d i j w r = record { labels = r.1; rows = omega (arith, r.0) }
  parses_word (group p) d i j w r = parses_word p d i j w r

  -- two readings by one derivation from one row are the same
  pub parses_one : {k : Rank} (t : Tree k) (d : Derivation t) (i j j' : ℕ) (w w' : List ℕ) → Parses (row_sets n holds) t d i j w → Parses (row_sets n holds) t d i j' w' → (j ≡ j') × (w ≡ w')
  parses_one t d i j j' w w' r s =
      let p = parses_word t d i j w r in
      let q = parses_word t d i j' w' s in
      (p.rows ∙ sym q.rows, p.labels ∙ sym q.labels)

-- ---- R-3's rule leaves no reading out: rounds that take no row and are not the last may be
-- dropped

-- d keeps the rule and parses
abbrev pub KeptParses : RowSets → {k : Rank} → (t : Tree k) → Derivation t → ℕ → ℕ → List ℕ → Type 0
KeptParses rows t d i j w = (keeps t d ≡ true) × Parses rows t d i j w

ends_cons : {A : Type 0} (f : A → List ℕ) (d : A) (ds : List A) → 0 < length (f d) → empty_ends f zero ds ≡ true → empty_ends f zero (d ∷ ds) ≡ true
unfolding empty_ends
ends_cons f d [] h e = refl
ends_cons f d (c ∷ ds) h e = rw (lt-ltb 0 (length (f d)) h) e

module _ {A : Type 0} (R : A → ℕ → ℕ → List ℕ → Type 0) (f : A → List ℕ) (spelt : (d : A) (i j : ℕ) (w : List ℕ) → R d i j w → Spells w (f d) i j) where
  abbrev Thinned : ℕ → ℕ → ℕ → List ℕ → Type 0
  Thinned lo i j w = (es : List A) × (lo ≤ length es) × (empty_ends f lo es ≡ true) × InTurn R es i j w

  drop-empty : (lo : ℕ) (ds : List A) (i j : ℕ) (w : List ℕ) → lo ≤ length ds → InTurn R ds i j w → Thinned lo i j w
  unfolding InTurn empty_ends
  drop-empty zero [] i j w l r = ([], zero-le, refl, r)
  drop-empty (suc lo) [] i j w l r = absurd (not-suc-le-zero l)
  drop-empty (suc lo) (d ∷ ds) i j w l r =
      let y = drop-empty lo ds r.0 j r.2 (le_of_suc-le-suc l) r.4 in
      (d ∷ y.0, suc-le-suc y.1, y.2, (r.0, r.1, r.2, r.3, y.3, r.5))
  drop-empty zero (d ∷ ds) i j w l r = go (f d) refl (drop-empty zero ds r.0 j r.2 zero-le r.4)
    where
      go : (u : List ℕ) → f d ≡ u → Thinned zero r.0 j r.2 → Thinned zero i j w
      go [] e y =
          let z = spelt d i r.0 r.1 r.3 in
          let same : r.0 ≡ i = omega (arith, z.rows, ap length e) in
          let word : w ≡ r.2 = r.5 ∙ ap (λ (u : List ℕ). u ++ r.2) (z.labels ∙ e) in
          subst (λ (v : List ℕ). Thinned zero i j v) (sym word) (subst (λ (x : ℕ). Thinned zero x j r.2) same y)
      go (c ∷ u) e y = (d ∷ y.0, zero-le, ends_cons f d y.0 (omega (arith, ap length e)) y.2, (r.0, r.1, r.2, r.3, y.3, r.5))

-- rounds that each keep the rule
pub rounds_kept : {A : Type 0} (keep : A → Bool) (S : A → ℕ → ℕ → List ℕ → Type 0) (ds : List A) (i j : ℕ) (w : List ℕ) → InTurn (λ d i j w. (keep d ≡ true) × S d i j w) ds i j w
    → (every keep ds ≡ true) × InTurn S ds i j w
unfolding InTurn every
rounds_kept keep S [] i j w r = (refl, r)
rounds_kept keep S (d ∷ ds) i j w r =
    let y = rounds_kept keep S ds r.0 j r.2 r.4 in
    (rw r.3.0 y.0, (r.0, r.1, r.2, r.3.1, y.1, r.5))

pub kept_rounds_lem : {A : Type 0} (keep : A → Bool) (S : A → ℕ → ℕ → List ℕ → Type 0) (ds : List A) (i j : ℕ) (w : List ℕ) → every keep ds ≡ true → InTurn S ds i j w
    → InTurn (λ d i j w. (keep d ≡ true) × S d i j w) ds i j w
unfolding InTurn every
kept_rounds_lem keep S [] i j w h r = r
kept_rounds_lem keep S (d ∷ ds) i j w h r =
    let g = and-true (keep d) (every keep ds) h in
    (r.0, r.1, r.2, (g.0, r.3), kept_rounds_lem keep S ds r.0 j r.2 g.1 r.4, r.5)

module _ (holds : ℕ → ℕ → Bool) (n : ℕ) where
  kept_word : {k : Rank} (t : Tree k) (d : Derivation t) (i j : ℕ) (w : List ℕ) → KeptParses (row_sets n holds) t d i j w → Spells w (word t d) i j
  kept_word t d i j w r = parses_word holds n t d i j w r.1

  -- rounds that keep the rule, and of an unbounded quantifier only those that take a row, behind
  -- the required ones
  round_list : (x : Tree primary) (lo : ℕ) (hi : Option ℕ) (ds : List (Derivation x)) (i j : ℕ) (w : List ℕ) → lo ≤ length ds → Within (length ds) hi
      → InTurn (KeptParses (row_sets n holds) x) ds i j w → (es : List (Derivation x)) × ((lo ≤ length es) × Within (length es) hi) × (empty_ends_in hi (word x) lo es ≡ true) × InTurn (KeptParses (row_sets n holds) x) es i j w
  unfolding empty_ends_in
  round_list x lo none ds i j w l h r = let y = drop-empty (KeptParses (row_sets n holds) x) (word x) (kept_word x) lo ds i j w l r in (y.0, (y.1, tt), y.2, y.3)
  round_list x lo (some hi) ds i j w l h r = (ds, (l, h), refl, r)

  pub reads_kept : {k : Rank} (t : Tree k) (i j : ℕ) (w : List ℕ) → Reads (row_sets n holds) t i j w → (d : Derivation t) × KeptParses (row_sets n holds) t d i j w
  unfolding Reads Derivation Parses keeps
  reads_kept (one b) i j w m = reads_kept b i j w m
  reads_kept (more b p) i j w m =
      ⊎_elim
      (λ (x : Reads (row_sets n holds) b i j w). let y = reads_kept b i j w x in (inl y.0, y.1))
      (λ (x : Reads (row_sets n holds) p i j w). let y = reads_kept p i j w x in (inr y.0, y.1))
      m
  reads_kept (last f) i j w m = reads_kept f i j w m
  reads_kept (next f b) i j w m =
      let x = reads_kept f i m.0 m.1 m.3 in
      let y = reads_kept b m.0 j m.2 m.4 in
      ((x.0, y.0), (rw x.1.0 y.1.0, (m.0, m.1, m.2, x.1.1, y.1.1, m.5)))
  reads_kept (bare x) i j w m = reads_kept x i j w m
  reads_kept (times x f z) i j w m =
      let y = rounds_in (λ i j w. Reads (row_sets n holds) x i j w) (KeptParses (row_sets n holds) x) (λ i j w r. reads_kept x i j w r) m.0 i j w m.3 in
      let e = round_list x (lower f) (upper f) y.0 i j w (rw y.1 m.1) (rw y.1 m.2) y.2 in
      let g = rounds_kept (λ d. keeps x d) (Parses (row_sets n holds) x) e.0 i j w e.3 in
      ((e.0, e.1), (rw e.2 g.0, g.1))
  reads_kept (letter c) i j w m = (tt, (refl, m))
  reads_kept caret i j w m = (tt, (refl, m))
  reads_kept dollar i j w m = (tt, (refl, m))
  reads_kept empty i j w m = (tt, (refl, m))
  reads_kept (group p) i j w m = reads_kept p i j w m

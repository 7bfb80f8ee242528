-- The first success of plain backtracking is the greatest derivation that parses at the start and
-- keeps R-3's rule (`preferred`), for every pattern: an induction on the pattern as it is written,
-- over what plain backtracking finds behind a part of it (proofs/PlainFinds). There is one greatest
-- derivation at most, so one end and one list of labels (`greatest_one`, `greatest_same`,
-- `others-after`).
use mathlib.Core.Path.{◌≡◌, refl, ap, sym, ◌∙◌, subst}
use mathlib.Core.List.{List, [], ◌∷◌, ◌++◌, append-nil, map}
use mathlib.Core.Bool.{Bool, false, ◌&&◌, true}
use mathlib.Core.Logic.{◌⊎◌, inl, inr, ◌↔◌}
use mathlib.Core.Option.{Option, none, some}
use Prim.Native.Nat.{ℕ, suc, ◌+◌, ◌^◌, ◌≤◌, ◌<◌}
use native.Mathlib.Nat.{add-zero}
use native.Mathlib.Omega.{arith}
use lib.ListN.{length}
use lib.Arith.{digits_div}
use lib.Dec.{ltb, eqb}
use borrow.Author.Tests.{ltb-true, eqb-true, lt-ltb, eq-eqb}
use Rattle.rules.specs.Language.{lower, upper, Rank, pattern, branch, factor, primary, Tree, one, more, last, next, bare, times, letter, caret, dollar, empty, group}
use Rattle.rules.specs.Places.{UnrolledAt, forked, unrolled, unroll, repeated, size, start_of, code, Place, p_letter, p_caret, p_dollar, places, fork, skips, nest, full, state_at, starts_of, Flagged, flagged_places, spread}
use Rattle.rules.specs.Readings.{row_sets}
use Rattle.rules.specs.Preferment.{Derivation, Parses, Prefers, NoneParses, Preferred, InTurn, word, empty_ends_in, keeps, RoundByRound, FirstBranch, Lexicographic}
use Rattle.rules.specs.Search.{plain_from, labels, last_of, end_of}
use Rattle.rules.specs.Walk.{Ways, pairs, pair_at, position_of, ways_at, pair_ways, plain, plain_by, first_at, first_of}
use Rattle.laws.proofs.Bounds.{Bounds, in_order}
use Rattle.laws.proofs.Counting.{forked-more, unrolled-skips}
use Rattle.laws.proofs.DerivationPath.{Routes, ForkRuns, Runs, PathOf, path_one, CopyRuns, BehindRuns, took, took-none, took-rows, no-flags}
use Rattle.laws.proofs.DerivationReadings.{parses_one, KeptParses, parses_word, parses_reads, reads_kept, rounds_kept, kept_rounds_lem}
use Rattle.laws.proofs.Level.{and-true}
use Rattle.laws.proofs.PlainFinds.{Reading, Order, Post, Finds, FindsOne, labels_append, through, pass_by, finds_one, finds_only, finds_first, finds_alt, finds_seq, finds_rounds, Taking, Onward, Then, ThenRuns, Or, OrRuns, Behind, post_behind, instead}
use Rattle.laws.proofs.PrefermentOrder.{Compared, before, same, after, total_order}
use Rattle.laws.proofs.Rank.{at_head, no_place}
use Rattle.laws.proofs.WholePattern.{whole, first-place, small, ends_here, end-says, plain-ways, end_below}
use Rattle.rules.specs.Basics.{every}
use Rattle.laws.proofs.EmptyRounds.{takes-row}

-- ---- the induction

low : (F d : ℕ) → 2 ^ (d + 0) ≤ F → 2 ^ d ≤ F
low F d h = rw add-zero at h

module _ (F : ℕ) (Q : List Flagged) (holds : ℕ → ℕ → Bool) (n : ℕ) (f : ℕ → Option (List ℕ)) (down : (x : ℕ) → f x ≡ plain_by (pair_ways holds n (spread F Q) x) f x) where
  abbrev S : ℕ
  S = length (spread F Q)

  -- a pattern unrolls to branches, any other phrase to one part
  abbrev FindsAt : (k : Rank) → {A : Type 0} → Reading A → Order A → Routes A → UnrolledAt k → Type 0
  FindsAt pattern R L T ts = FindsOne F Q holds n f down R L T ts
  FindsAt branch R L T t = Finds F Q holds n f down R L T t
  FindsAt factor R L T t = Finds F Q holds n f down R L T t
  FindsAt primary R L T t = Finds F Q holds n f down R L T t

  -- with its fork, if it has one
  finds_forked : {A : Type 0} (R : Reading A) (L : Order A) (T : Routes A) (p : Tree pattern)
      → FindsOne F Q holds n f down R L T (unrolled p) → Finds F Q holds n f down R L (ForkRuns T F S (fork p)) (forked (unrolled p))
  unfolding unrolled forked fork ForkRuns
  finds_forked R L T (one b) x = finds_only F Q holds n f down R L T (unrolled b) x
  finds_forked R L T (more b p) x = rw (forked-more b p) (finds_alt F Q holds n f down R L T (unrolled (more b p)) x)

  abbrev Kept : {k : Rank} → (t : Tree k) → Reading (Derivation t)
  Kept t = KeptParses (row_sets n holds) t

  taking : {k : Rank} (t : Tree k) → Taking (Kept t) (word t)
  taking t e i j w r = (parses_word holds n t e i j w r.1).rows

  onward : {k : Rank} (t : Tree k) → Onward (Kept t)
  onward t e i j w r = omega (arith, taking t e i j w r)

  -- a body that cannot take no row takes one
  moves : (x : Tree primary) → skips (unrolled x) ≡ false → (e : Derivation x) → 0 < length (word x e)
  moves x h e = takes-row x (sym (unrolled-skips x) ∙ h) e

  -- the rule for a phrase, told by its parts
  or_from : (b : Tree branch) (p : Tree pattern) (i j : ℕ) (w : List ℕ) → unfold Derivation in ((e : Derivation b ⊎ Derivation p) → Kept (more b p) e i j w → Or (Kept b) (Kept p) e i j w)
  unfolding Derivation Parses keeps
  or_from b p i j w (inl e) r = r
  or_from b p i j w (inr e) r = r

  or-to : (b : Tree branch) (p : Tree pattern) (i j : ℕ) (w : List ℕ) → unfold Derivation in ((e : Derivation b ⊎ Derivation p) → Or (Kept b) (Kept p) e i j w → Kept (more b p) e i j w)
  unfolding Derivation Parses keeps
  or-to b p i j w (inl e) r = r
  or-to b p i j w (inr e) r = r

  then-from : (s : Tree factor) (t : Tree branch) (i j : ℕ) (w : List ℕ) → unfold Derivation in ((e : Derivation s × Derivation t) → Kept (next s t) e i j w → Then (Kept s) (Kept t) e i j w)
  unfolding Derivation Parses keeps
  then-from s t i j w e r =
      let g = and-true (keeps s e.0) (keeps t e.1) r.0 in
      (r.1.0, r.1.1, r.1.2, (g.0, r.1.3), (g.1, r.1.4), r.1.5)

  then_to : (s : Tree factor) (t : Tree branch) (i j : ℕ) (w : List ℕ) → unfold Derivation in ((e : Derivation s × Derivation t) → Then (Kept s) (Kept t) e i j w → Kept (next s t) e i j w)
  unfolding Derivation Parses keeps
  then_to s t i j w e r = (rw r.3.0 r.4.0, (r.0, r.1, r.2, r.3.1, r.4.1, r.5))

  finds : {k : Rank} (t : Tree k) → Bounds t → FindsAt k (Kept t) (Prefers t) (Runs t F S) (unrolled t)
  unfolding Derivation Parses Prefers Runs keeps unrolled repeated Bounds code start_of size ways_at nest
  finds (one b) o = finds_one F Q holds n f down (Kept b) (Prefers b) (Runs b F S) (unrolled b) (finds b o)
  finds (more c p) o = λ d b k a hb hf i φ v.
      instead (spread F Q) (Behind F Q holds n f down k d φ i) (Or (Kept c) (Kept p)) (FirstBranch (Prefers c) (Prefers p)) (Kept (more c p)) (Prefers (more c p))
      (OrRuns (Runs c F S d b i φ) (Runs p F S d (b + size (unrolled c)) i φ)) (λ e. e) i (λ e j w r. or_from c p i j w e r) (λ e j w r. (e, or-to c p i j w e r, refl)) (λ e g l. l)
      (first_of f (map (λ k. pair_at S i k) (starts_of F (unrolled (more c p)) b k φ)))
      (finds_first F Q holds n f down (Kept c) (Prefers c) (Kept p) (Prefers p) (Runs c F S) (Runs p F S) (unrolled c) (unrolled p) (finds c o.0) (finds p o.1) d b k a hb hf i φ v)
  finds (last t) o = finds t o
  finds (next s t) o = λ d b k a hb hf i φ v.
      instead (spread F Q) (Behind F Q holds n f down k d φ i) (Then (Kept s) (Kept t)) (Lexicographic (Prefers s) (Prefers t)) (Kept (next s t)) (Prefers (next s t))
      (ThenRuns (Runs s F S d b i φ) (λ x. Runs t F S d (b + size (unrolled s)) x (took d φ i x))) (λ e. e) i
      (λ e j w r. then-from s t i j w e r) (λ e j w r. (e, then_to s t i j w e r, refl)) (λ e g l. l) (f (pair_at S i (start_of F (unrolled (next s t)) b k φ)))
      (finds_seq F Q holds n f down (Kept s) (Prefers s) (Kept t) (Prefers t) (Runs s F S) (Runs t F S) (unrolled s) (unrolled t) (word s) (taking s) (onward t)
      (finds s o.0) (finds t o.1) d b k a hb hf i φ v)
  finds (bare x) o = finds x o
  finds (times x q z) o = λ d b k a hb hf i φ v.
      instead (spread F Q) (Behind F Q holds n f down k d φ i) (λ e i j w. (empty_ends_in (upper q) (word x) (lower q) e.0 ≡ true) × InTurn (Kept x) e.0 i j w)
      (λ e g. RoundByRound z (Prefers x) e.0 g.0) (Kept (times x q z)) (Prefers (times x q z))
      (λ e j p. CopyRuns (Runs x F S) (size (unrolled x)) (BehindRuns (Runs x F S) F S (skips (unrolled x)) (size (unrolled x)) (upper q) (lower q)) (lower q) d b i φ e.0 j p) (λ e. e) i
      (λ e j w r. let g = and-true (empty_ends_in (upper q) (word x) (lower q) e.0) (every (λ y. keeps x y) e.0) r.0 in
      (g.0, kept_rounds_lem (λ y. keeps x y) (Parses (row_sets n holds) x) e.0 i j w g.1 r.1))
      (λ e j w r. let g = rounds_kept (λ y. keeps x y) (Parses (row_sets n holds) x) e.0 i j w r.1 in (e, (rw r.0 g.0, g.1), refl)) (λ e g l. l)
      (f (pair_at S i (start_of F (unrolled (times x q z)) b k φ)))
      (finds_rounds F Q holds n f down (Kept x) (Prefers x) (Runs x F S) z (unrolled x) (word x) (taking x) (moves x) (finds x o.1) (lower q) (upper q) (in_order q o.0) d b k a hb hf i φ v)
  finds (letter c) o = λ d b k a hb hf i φ v.
      through F Q holds n f down (Kept (letter c)) (Prefers (letter c)) (Runs (letter c) F S d b i φ) (Behind F Q holds n f down k d φ i) i (suc i) b φ d (k (full d)) (λ φ. p_letter c (k (full d)))
      (ltb i n && holds c i) tt (omega arith) v (low F d hf) (at_head Q b _ _ no_place a) refl
      (ap (λ (ψ : ℕ). f (pair_at S (suc i) (k ψ))) (took-rows d φ i (suc i) (omega arith)))
      (λ e. let g = and-true (ltb i n) (holds c i) e in (refl, (ltb-true i n g.0, g.1, refl, refl))) (refl, refl)
      (λ e j w r. (rw (lt-ltb i n r.1.0, r.1.1), r.1.2, λ l. l))
  finds caret o = λ d b k a hb hf i φ v.
      through F Q holds n f down (Kept caret) (Prefers caret) (Runs caret F S d b i φ) (Behind F Q holds n f down k d φ i) i i b φ d (k φ) (λ φ. p_caret (k φ)) (eqb i 0) tt (omega arith) v
      (low F d hf) (at_head Q b _ _ no_place a) refl (ap (λ (ψ : ℕ). f (pair_at S i (k ψ))) (took-none d φ i i refl))
      (λ e. (refl, (eqb-true i 0 e, refl, refl))) (refl, refl) (λ e j w r. (eq-eqb i 0 r.1.0, r.1.1, λ l. l))
  finds dollar o = λ d b k a hb hf i φ v.
      through F Q holds n f down (Kept dollar) (Prefers dollar) (Runs dollar F S d b i φ) (Behind F Q holds n f down k d φ i) i i b φ d (k φ) (λ φ. p_dollar (k φ)) (eqb i n) tt (omega arith) v
      (low F d hf) (at_head Q b _ _ no_place a) refl (ap (λ (ψ : ℕ). f (pair_at S i (k ψ))) (took-none d φ i i refl))
      (λ e. (refl, (eqb-true i n e, refl, refl))) (refl, refl) (λ e j w r. (eq-eqb i n r.1.0, r.1.1, λ l. l))
  finds empty o = λ d b k a hb hf i φ v.
      pass_by (spread F Q) (Behind F Q holds n f down k d φ i) (Kept empty) (Prefers empty) (Runs empty F S d b i φ) i tt (refl, (refl, refl)) (refl, refl) (λ e j w r. (r.1.0, λ l. l))
      (f (pair_at S i (k φ))) (ap (λ (ψ : ℕ). f (pair_at S i (k ψ))) (took-none d φ i i refl))
  finds (group p) o = finds_forked (Kept p) (Prefers p) (Runs p F S) p (finds p o)

-- ---- the match at a start

-- a path found is that of the greatest derivation, with its end and its labels
pub record Found (p : Tree pattern) (holds : ℕ → ℕ → Bool) (n i : ℕ) (path : List ℕ) : Type 0 where
  pub best : Preferred (row_sets n holds) p i (end_of (length (places (unroll p))) path) (labels (places (unroll p)) path)
  pub goes : PathOf p best.derivation i (end_of (length (places (unroll p))) path) path

abbrev pub Answers : (p : Tree pattern) → (ℕ → ℕ → Bool) → ℕ → ℕ → Option (List ℕ) → Type 0
Answers p holds n i none = NoneParses (row_sets n holds) p i
Answers p holds n i (some path) = Found p holds n i path

last-of : (a x : ℕ) (xs : List ℕ) → last_of a (xs ++ (x ∷ [])) ≡ x
last-of a x [] = refl
last-of a x (y ∷ ys) = last-of y x ys

module _ (p : Tree pattern) (o : Bounds p) (holds : ℕ → ℕ → Bool) (n : ℕ) where
  abbrev pl : List Place
  pl = places (unroll p)

  abbrev F : ℕ
  F = 2 ^ nest (unroll p)

  abbrev f : ℕ → Option (List ℕ)
  f x = plain (pair_ways holds n pl) (pairs (length pl) n) x

  -- the pair of END
  abbrev end : ℕ → ℕ
  end j = pair_at (length pl) j (state_at F (size (unroll p)) 0)

  -- END succeeds
  end_is : (j : ℕ) → f (end j) ≡ some (end j ∷ [])
  unfolding plain_by
  end_is j = plain-ways (unroll p) holds n (end j) ∙ ap (λ (w : Ways). plain_by w f (end j)) (ends_here (unroll p) holds n j)

  -- what is found behind the whole pattern, at END
  abbrev AtEnd : ℕ → Option (List ℕ) → Type 0
  AtEnd i r = Post pl (λ j. f (end j)) (KeptParses (row_sets n holds) p) (Prefers p) (ForkRuns (Runs p F (length pl)) F (length pl) (fork p) 0 0 i 0) i r

  answer : (i : ℕ) (r : Option (List ℕ)) → AtEnd i r → Answers p holds n i r
  answer i none c = λ e j w r.
      let k = reads_kept holds n p i j w (parses_reads holds n p e i j w r) in
      let q = c k.0 j w k.1 in let z : ◌≡◌ {A = ℕ} 0 1 = cc (end_is j) in omega arith
  answer i (some path) c =
      let x : ℕ = end c.to in
      let ends : x ∷ [] ≡ c.rest = cc (end_is c.to, c.goes) in
      let is : path ≡ c.front ++ (x ∷ []) = c.is ∙ ap (λ (l : List ℕ). c.front ++ l) (sym ends) in
      let to : end_of (length pl) path ≡ c.to =
      ap (λ (l : List ℕ). end_of (length pl) l) is ∙ ap (position_of (length pl)) (last-of 0 x c.front) ∙ digits_div c.to (end_below (unroll p)) in
      let said : labels pl path ≡ labels pl c.front =
      ap (labels pl) is ∙ labels_append pl c.front (x ∷ []) ∙ ap (λ (l : List ℕ). labels pl c.front ++ l) (end-says (unroll p) c.to)
      ∙ append-nil (labels pl c.front) in
      record {
        best = record {
          derivation = c.best;
          kept = c.reads.0;
          parses = rw (to, said) c.reads.1;
          greatest = λ e j w h r l. let q = c.first e j w (h, r) l in let z : ◌≡◌ {A = ℕ} 0 1 = cc (end_is j) in omega arith;
        };
        goes = record { pairs = c.front; runs = rw to c.runs; is = is ∙ rw to };
      }

  -- the match at a start is that of the greatest derivation
  pub preferred : (i : ℕ) → Answers p holds n i (plain_from holds n (places (unroll p)) i)
  unfolding unroll places
  preferred i =
      let down = plain-ways (unroll p) holds n in
      let Q : List Flagged = flagged_places F (unroll p) in
      let e : 0 + nest (unroll p) ≡ nest (unroll p) = omega arith in
      let hf : 2 ^ (0 + nest (unroll p)) ≤ F = rw e (omega arith) in
      let found : AtEnd i (f (pair_at (length pl) i (start_of F (unroll p) 0 (state_at F (size (unroll p))) 0))) =
      post_behind pl (λ j. f (end j)) (Behind F Q holds n f down (state_at F (size (unroll p))) 0 0 i) (KeptParses (row_sets n holds) p) (Prefers p)
      (ForkRuns (Runs p F (length pl)) F (length pl) (fork p) 0 0 i 0) i (λ e j w r. ap (λ (ψ : ℕ). f (pair_at (length pl) j (state_at F (size (unroll p)) ψ))) (no-flags i j))
      (f (pair_at (length pl) i (start_of F (unroll p) 0 (state_at F (size (unroll p))) 0)))
      (finds_forked F Q holds n f down (KeptParses (row_sets n holds) p) (Prefers p) (Runs p F (length pl)) p (finds F Q holds n f down p o) 0 0 (state_at F (size (unroll p))) (whole (unroll p))
      (omega (arith, small (unroll p))) hf i 0 (omega arith)) in
      let z : pair_at (length pl) i (start_of F (unroll p) 0 (state_at F (size (unroll p))) 0) ≡ first_at (length pl) i = omega (arith, first-place (unroll p)) in
      answer i (plain_from holds n (places (unroll p)) i) (subst (λ (x : ℕ). AtEnd i (f x)) z found)

-- ---- there is one greatest derivation at most

module _ {k : Rank} {t : Tree k} {holds : ℕ → ℕ → Bool} {n i j j' : ℕ} {w w' : List ℕ} where
  pub greatest_one : (x : Preferred (row_sets n holds) t i j w) (y : Preferred (row_sets n holds) t i j' w') → x.derivation ≡ y.derivation
  greatest_one x y = go ((total_order t).compare x.derivation y.derivation)
    where
      go : Compared (Prefers t) x.derivation y.derivation → x.derivation ≡ y.derivation
      go (before l) = absurd (y.greatest x.derivation j w x.kept x.parses l)
      go (same e) = e
      go (after l) = absurd (x.greatest y.derivation j' w' y.kept y.parses l)

  -- and so one end and one list of labels
  pub greatest_same : Preferred (row_sets n holds) t i j w → Preferred (row_sets n holds) t i j' w' → (j ≡ j') × (w ≡ w')
  greatest_same x y = parses_one holds n t x.derivation i j j' w w' x.parses (rw (greatest_one x y) y.parses)

-- every other derivation that keeps the rule and parses from there comes after it
pub others-after : {k : Rank} {t : Tree k} {holds : ℕ → ℕ → Bool} {n i j : ℕ} {w : List ℕ} (x : Preferred (row_sets n holds) t i j w) (e : Derivation t) (j' : ℕ) (w' : List ℕ)
    → keeps t e ≡ true → Parses (row_sets n holds) t e i j' w' → (e ≡ x.derivation) ⊎ Prefers t x.derivation e
others-after {t} x e j' w' h r = go ((total_order t).compare e x.derivation)
  where
    go : Compared (Prefers t) e x.derivation → (e ≡ x.derivation) ⊎ Prefers t x.derivation e
    go (before l) = absurd (x.greatest e j' w' h r l)
    go (same e) = inl e
    go (after l) = inr l

-- ---- so plain backtracking finds exactly it

module _ (p : Tree pattern) (o : Bounds p) (holds : ℕ → ℕ → Bool) (n : ℕ) where
  abbrev pub Finding : ℕ → ℕ → List ℕ → List ℕ → Type 0
  Finding i j w path = (plain_from holds n (places (unroll p)) i ≡ some path) × (end_of (length (places (unroll p))) path ≡ j) × (labels (places (unroll p)) path ≡ w)

  -- a path is found with these labels, up to this row, exactly if they are those of the greatest
  -- derivation
  pub found-is_greatest : (i j : ℕ) (w : List ℕ) → ((path : List ℕ) × Finding i j w path) ↔ Preferred (row_sets n holds) p i j w
  found-is_greatest i j w = (to, λ x. from x (plain_from holds n (places (unroll p)) i) refl (preferred p o holds n i))
    where
      to : (path : List ℕ) × Finding i j w path → Preferred (row_sets n holds) p i j w
      to x =
          let a : Answers p holds n i (some x.0) = rw x.1.0 at (preferred p o holds n i) in
          rw (x.1.1, x.1.2) at a.best

      from : Preferred (row_sets n holds) p i j w → (r : Option (List ℕ)) → plain_from holds n (places (unroll p)) i ≡ r → Answers p holds n i r → (path : List ℕ) × Finding i j w path
      from x none e a = absurd (a x.derivation j w x.parses)
      from x (some path) e a = let s = greatest_same a.best x in (path, (e, s.0, s.1))

  -- the path found is that of the greatest derivation
  pub path_is_greatest : (i : ℕ) (path : List ℕ) → (plain_from holds n (places (unroll p)) i ≡ some path)
      ↔ ((j : ℕ) × (w : List ℕ) × (x : Preferred (row_sets n holds) p i j w) × PathOf p x.derivation i j path)
  path_is_greatest i path = (to, λ x. from x (plain_from holds n (places (unroll p)) i) refl (preferred p o holds n i))
    where
      to : plain_from holds n (places (unroll p)) i ≡ some path → (j : ℕ) × (w : List ℕ) × (x : Preferred (row_sets n holds) p i j w) × PathOf p x.derivation i j path
      to e =
          let a : Answers p holds n i (some path) = rw e at (preferred p o holds n i) in
          (end_of (length (places (unroll p))) path, labels (places (unroll p)) path, a.best, a.goes)

      from : (j : ℕ) × (w : List ℕ) × (x : Preferred (row_sets n holds) p i j w) × PathOf p x.derivation i j path
          → (r : Option (List ℕ)) → plain_from holds n (places (unroll p)) i ≡ r → Answers p holds n i r → plain_from holds n (places (unroll p)) i ≡ some path
      from x none e a = absurd (a x.2.derivation x.0 x.1 x.2.parses)
      from x (some q) e a =
          let y : PathOf p x.2.derivation i (end_of (length (places (unroll p))) q) q = rw (greatest_one a.best x.2) at a.goes in
          e ∙ ap (λ (l : List ℕ). some l) (path_one y x.3)

  -- nothing is found exactly if no derivation parses
  pub none-is_none : (i : ℕ) → (plain_from holds n (places (unroll p)) i ≡ none) ↔ NoneParses (row_sets n holds) p i
  none-is_none i = (λ e. to e, λ x. from x (plain_from holds n (places (unroll p)) i) refl (preferred p o holds n i))
    where
      to : plain_from holds n (places (unroll p)) i ≡ none → NoneParses (row_sets n holds) p i
      to e = rw e at (preferred p o holds n i)

      from : NoneParses (row_sets n holds) p i → (r : Option (List ℕ)) → plain_from holds n (places (unroll p)) i ≡ r → Answers p holds n i r → plain_from holds n (places (unroll p)) i ≡ none
      from x none e a = e
      from x (some path) e a = absurd (x a.best.derivation (end_of (length (places (unroll p))) path) (labels (places (unroll p)) path) a.best.parses)

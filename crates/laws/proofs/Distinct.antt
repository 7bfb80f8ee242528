-- A fork's repeated ways may be dropped: plain backtracking finds the same, and the counted walk
-- finds, keeps and counts the same. For any graph; then for the places of a pattern (`walk-thin`).
use mathlib.Core.Path.{◌≡◌, refl, ap, sym, ◌∙◌}
use mathlib.Core.List.{List, [], ◌∷◌, ◌++◌, map}
use mathlib.Core.Bool.{Bool, true, false, ◌&&◌, ◌||◌, false≢true}
use mathlib.Core.Option.{Option, none, some}
use Prim.Native.Nat.{ℕ, zero, suc, ◌+◌, ◌≤◌, ◌<◌}
use native.Mathlib.Nat.{le_trans, not-suc-le-zero, le_of_suc-le-suc}
use native.Mathlib.Omega.{arith}
use lib.ListN.{length, get_or, replicate, length-replicate}
use lib.Dec.{ltb, eqb}
use borrow.Author.Tests.{eqb-true, eqb-false, eq-eqb, ne_eqb, ltb-true}
use Rattle.rules.specs.Basics.{has}
use Rattle.rules.specs.Places.{Unrolled, Place, p_letter, p_caret, p_dollar, p_fork, p_end, places}
use Rattle.rules.specs.Search.{Skip, Attempted, hit, miss, halts, Swept, Plan, ended, no_start, below, with_match, on_answer, sweep, answered, walk_at, label_of, labels, asks_row, Terms, halting_of, plan_of, walk_search, Standing, on_match, seek, stand_at}
use Rattle.rules.specs.Walk.{Ways, accept, try, Halting, Outcome, found, failed, halted, or_else, close, enter_unless, tries, inside, inside_by, or_next, first_of, onto, plain, plain_by, pass_if, ways_at, pair_ways, pairs, pair_at, place_of, position_of, first_at, Kept, as_kept, one_step}
use Rattle.laws.proofs.Rank.{rank}
use Rattle.laws.proofs.PatternWalk.{falls-in, top_in, starts_in_lem}
use Rattle.laws.proofs.Walk.{All-map, InsidePost, inside-post}
use Rattle.rules.specs.Working.{All, Falls, In, Out, distinct, fresh, keep_new, thin_place, thinned}

abbrev pub thin : Ways → Ways
thin accept = accept
thin (try ys) = try (distinct ys)

pub has_all : (Q : ℕ → Type 0) (y : ℕ) (zs : List ℕ) → has y zs ≡ true → All Q zs → Q y
unfolding has
has_all Q y [] h a = absurd (false≢true h)
has_all Q y (z ∷ zs) h a = go (eqb z y) refl h (λ k. has_all Q y zs k a.1)
  where
    go : (b : Bool) → eqb z y ≡ b → (b || has y zs) ≡ true → (has y zs ≡ true → Q y) → Q y
    go true e k ih = rw (← (eqb-true z y e)) a.0
    go false e k ih = ih k

pub fresh-all : (Q : ℕ → Type 0) (seen ys : List ℕ) → All Q ys → All Q (fresh seen ys)
unfolding fresh
fresh-all Q seen [] a = tt
fresh-all Q seen (y ∷ ys) a = go (has y seen) (fresh-all Q seen ys a.1) (fresh-all Q (y ∷ seen) ys a.1)
  where
    go : (b : Bool) → All Q (fresh seen ys) → All Q (fresh (y ∷ seen) ys) → All Q (keep_new b y (fresh seen ys) (fresh (y ∷ seen) ys))
    go true u v = u
    go false u v = (a.0, v)

-- ---- plain backtracking

pub first_of-fresh : (f h : ℕ → Option (List ℕ)) → ((y : ℕ) → f y ≡ h y) → (seen ys : List ℕ) → All (λ z. h z ≡ none) seen → first_of f (fresh seen ys) ≡ first_of h ys
unfolding first_of fresh
first_of-fresh f h e seen [] a = refl
first_of-fresh f h e seen (y ∷ ys) a = go (has y seen) refl (first_of-fresh f h e seen ys a) (λ n. first_of-fresh f h e (y ∷ seen) ys (n, a))
  where
    new : (o : Option (List ℕ)) → h y ≡ o → (h y ≡ none → first_of f (fresh (y ∷ seen) ys) ≡ first_of h ys) → or_next (f y) (λ _. first_of f (fresh (y ∷ seen) ys)) ≡ or_next (h y) (λ _. first_of h ys)
    new none d r = rw (e y, d, r d)
    new (some p) d r = rw (e y, d)

    go : (b : Bool) → has y seen ≡ b → first_of f (fresh seen ys) ≡ first_of h ys → (h y ≡ none → first_of f (fresh (y ∷ seen) ys) ≡ first_of h ys)
        → first_of f (keep_new b y (fresh seen ys) (fresh (y ∷ seen) ys)) ≡ or_next (h y) (λ _. first_of h ys)
    go true d r s = let n : h y ≡ none = has_all (λ z. h z ≡ none) y seen d a in rw n r
    go false d r s = new (h y) refl s

pub plain-thin : (ways : ℕ → Ways) (k x : ℕ) → plain (λ z. thin (ways z)) k x ≡ plain ways k x
unfolding plain plain_by
plain-thin ways zero x = refl
plain-thin ways (suc k) x = go (plain-thin ways k) (ways x)
  where
    go : ((y : ℕ) → plain (λ z. thin (ways z)) k y ≡ plain ways k y) → (w : Ways) → plain_by (thin w) (plain (λ z. thin (ways z)) k) x ≡ plain_by w (plain ways k) x
    go ih accept = refl
    go ih (try ys) = ap (onto x) (first_of-fresh (plain (λ z. thin (ways z)) k) (plain ways k) ih [] ys tt)

-- ---- the counted walk

module _ (v : Halting) (ways : ℕ → Ways) (ρ : ℕ → ℕ) (N : ℕ) (falls : Falls ways ρ N) where
  abbrev SameAt : ℕ → Type 0
  SameAt k = (F : List Bool) (s y : ℕ) → ρ y < k → y < N → length F ≡ N → Out F y → inside v (λ z. thin (ways z)) k (as_kept F s) y ≡ inside v ways k (as_kept F s) y

  tries-fresh : (k : ℕ) → SameAt k → (ys : List ℕ) → All (λ y. (ρ y < k) × (y < N)) ys → (seen : List ℕ) (F : List Bool) (s : ℕ) → length F ≡ N → All (In F) seen
      → tries v (inside v (λ z. thin (ways z)) k) (as_kept F s) (fresh seen ys) ≡ tries v (inside v ways k) (as_kept F s) ys
  unfolding tries fresh
  tries-fresh k ih [] a seen F s len h = refl
  tries-fresh k ih (y ∷ ys) a seen F s len h = go (has y seen) refl (tries-fresh k ih ys a.1)
    where
      dying : (r : Outcome) → InsidePost ρ F (suc s) y r
          → ((seen : List ℕ) (F : List Bool) (s : ℕ) → length F ≡ N → All (In F) seen → tries v (inside v (λ z. thin (ways z)) k) (as_kept F s) (fresh seen ys) ≡ tries v (inside v ways k) (as_kept F s) ys)
          → or_else r (λ kept'. tries v (inside v (λ z. thin (ways z)) k) kept' (fresh (y ∷ seen) ys)) ≡ or_else r (λ kept'. tries v (inside v ways k) kept' ys)
      dying (found p later) d rest = refl
      dying (halted w p later) d rest = refl
      dying (failed later) d rest = rest (y ∷ seen) later.failed later.steps (d.grew.len ∙ len) (d.it, All-map (λ z (i : In F z). d.grew.keeps z i) seen h)

      entered : (b : Bool) → get_or F y false ≡ b → (u : Bool)
          → ((seen : List ℕ) (F : List Bool) (s : ℕ) → length F ≡ N → All (In F) seen → tries v (inside v (λ z. thin (ways z)) k) (as_kept F s) (fresh seen ys) ≡ tries v (inside v ways k) (as_kept F s) ys)
          → or_else (enter_unless b u (inside v (λ z. thin (ways z)) k) (as_kept F s) y) (λ kept'. tries v (inside v (λ z. thin (ways z)) k) kept' (fresh (y ∷ seen) ys))
          ≡ or_else (enter_unless b u (inside v ways k) (as_kept F s) y) (λ kept'. tries v (inside v ways k) kept' ys)
      entered true e u rest = rest (y ∷ seen) F s len (e, h)
      entered false e true rest = refl
      entered false e false rest =
          ap (λ (r : Outcome). or_else r (λ kept'. tries v (inside v (λ z. thin (ways z)) k) kept' (fresh (y ∷ seen) ys))) (ih F (suc s) y a.0.0 a.0.1 len e)
          ∙ dying (inside v ways k (as_kept F (suc s)) y) (inside-post v ways ρ N falls k F (suc s) y a.0.0 a.0.1 len e) rest

      go : (b : Bool) → has y seen ≡ b
          → ((seen : List ℕ) (F : List Bool) (s : ℕ) → length F ≡ N → All (In F) seen → tries v (inside v (λ z. thin (ways z)) k) (as_kept F s) (fresh seen ys) ≡ tries v (inside v ways k) (as_kept F s) ys)
          → tries v (inside v (λ z. thin (ways z)) k) (as_kept F s) (keep_new b y (fresh seen ys) (fresh (y ∷ seen) ys))
          ≡ or_else (enter_unless (get_or F y false) (v.spent s) (inside v ways k) (as_kept F s) y) (λ kept'. tries v (inside v ways k) kept' ys)
      go true d rest = let n : In F y = has_all (In F) y seen d h in rw n (rest seen F s len h)
      go false d rest = entered (get_or F y false) refl (v.spent s) rest

  -- an entered pair comes to the same path, the same failed pairs and the same steps
  pub inside-thin : (k : ℕ) → SameAt k
  unfolding inside inside_by
  inside-thin zero F s x hx lt len o = absurd (not-suc-le-zero hx)
  inside-thin (suc k) F s x hx lt len o = go (inside-thin k) (v.waits x) (ways x) refl
    where
      go : SameAt k → (u : Bool) (w : Ways) → ways x ≡ w → inside_by v u (thin w) (inside v (λ z. thin (ways z)) k) (as_kept F s) x ≡ inside_by v u w (inside v ways k) (as_kept F s) x
      go ih true w e = refl
      go ih false accept e = refl
      go ih false (try ys) e =
          ap (close x) (tries-fresh k ih ys (All-map (λ y (r : (ρ y < ρ x) × (x < N → y < N)). (le_trans r.0 (le_of_suc-le-suc hx), r.1 lt)) ys (falls x ys e)) [] F s len tt)

-- ---- the whole search

module _ (v : Halting) (ways : ℕ → Ways) (ρ : ℕ → ℕ) (N : ℕ) (falls : Falls ways ρ N) (K : ℕ) (top : (x : ℕ) → ρ x < K) (first : ℕ → ℕ) (plan : Plan) (starts : (i : ℕ) → i < plan.n → first i < N) where
  abbrev one : ℕ → Kept → Attempted × Kept
  one = walk_at v ways K first

  abbrev thinned_one : ℕ → Kept → Attempted × Kept
  thinned_one = walk_at v (λ z. thin (ways z)) K first

  attempt-thin : (i : ℕ) (st : Kept) → i < plan.n → length st.failed ≡ N → (thinned_one i st ≡ one i st) × (length (one i st).1.failed ≡ N)
  attempt-thin i st h len = go (get_or st.failed (first i) false) refl (v.spent st.steps)
    where
      after : (r : Outcome) → InsidePost ρ st.failed (suc st.steps) (first i) r → length (answered r).1.failed ≡ N
      after (found p kept) d = d.grew.len ∙ len
      after (failed kept) d = d.grew.len ∙ len
      after (halted w p kept) d = d.grew.len ∙ len

      go : (b : Bool) → get_or st.failed (first i) false ≡ b → (u : Bool)
          → (answered (enter_unless b u (inside v (λ z. thin (ways z)) K) st (first i)) ≡ answered (enter_unless b u (inside v ways K) st (first i)))
          × (length (answered (enter_unless b u (inside v ways K) st (first i))).1.failed ≡ N)
      go true e u = (refl, len)
      go false e true = (refl, len)
      go false e false = (
        ap answered (inside-thin v ways ρ N falls K st.failed (suc st.steps) (first i) (top (first i)) (starts i h) len e),
        after (inside v ways K (one_step st) (first i)) (inside-post v ways ρ N falls K st.failed (suc st.steps) (first i) (top (first i)) (starts i h) len e),
      )

  abbrev SameOn : (Standing → Kept → Swept Kept) → (Standing → Kept → Swept Kept) → Type 0
  SameOn f g = (i m l : ℕ) (st : Kept) → length st.failed ≡ N → f (stand_at i m l) st ≡ g (stand_at i m l) st

  same_answer : (f g : Standing → Kept → Swept Kept) → SameOn f g → (i m l : ℕ) (o : Attempted) (st : Kept) → length st.failed ≡ N → on_answer plan f (stand_at i m l) o st ≡ on_answer plan g (stand_at i m l) o st
  same_answer f g h i m l miss st len = h (suc i) m l st len
  same_answer f g h i m l (halts w p) st len = refl
  same_answer f g h i m l (hit p) st len = go (plan.next i p) (plan.fits m l p)
    where
      go : (o : Option ℕ) (b : Bool) → on_match b o (record { start = i; path = p }) st (λ j. f (stand_at j (suc m) (l + plan.rows p)) st)
          ≡ on_match b o (record { start = i; path = p }) st (λ j. g (stand_at j (suc m) (l + plan.rows p)) st)
      go o false = refl
      go none true = refl
      go (some j) true = ap (with_match (record { start = i; path = p })) (h j (suc m) (l + plan.rows p) st len)

  -- matches, failed pairs and steps are the same
  pub search_thin : (k : ℕ) → SameOn (sweep thinned_one plan k) (sweep one plan k)
  unfolding sweep
  search_thin zero i m l st len = refl
  search_thin (suc k) i m l st len = go (search_thin k) (ltb i plan.n) refl
    where
      go : SameOn (sweep thinned_one plan k) (sweep one plan k) → (b : Bool) → ltb i plan.n ≡ b
          → below b (ended (no_start plan.more i) st) (λ _. on_answer plan (sweep thinned_one plan k) (stand_at i m l) (thinned_one i st).0 (thinned_one i st).1) ≡ below b (ended (no_start plan.more i) st) (λ _. on_answer plan (sweep one plan k) (stand_at i m l) (one i st).0 (one i st).1)
      go ih false e = refl
      go ih true e =
          let a = attempt-thin i st (ltb-true i plan.n e) len in
          ap (λ (r : Attempted × Kept). on_answer plan (sweep thinned_one plan k) (stand_at i m l) r.0 r.1) a.0
          ∙ same_answer (sweep thinned_one plan k) (sweep one plan k) ih i m l (one i st).0 (one i st).1 a.1

-- ---- places

pub thinned-append : (ps qs : List Place) → thinned (ps ++ qs) ≡ thinned ps ++ thinned qs
unfolding thinned
thinned-append [] qs = refl
thinned-append (p ∷ ps) qs = ap (λ (rs : List Place). thin_place p ∷ rs) (thinned-append ps qs)

pub thinned-length : (ps : List Place) → length (thinned ps) ≡ length ps
unfolding thinned
thinned-length [] = refl
thinned-length (p ∷ ps) = ap suc (thinned-length ps)

pub thinned-at : (ps : List Place) (q : ℕ) → get_or (thinned ps) q (p_fork []) ≡ thin_place (get_or ps q (p_fork []))
unfolding thinned
thinned-at [] q = refl
thinned-at (p ∷ ps) zero = refl
thinned-at (p ∷ ps) (suc q) = thinned-at ps q

module _ (f : ℕ → ℕ) (inj : (x y : ℕ) → f x ≡ f y → x ≡ y) where
  has-map : (y : ℕ) (zs : List ℕ) → has (f y) (map f zs) ≡ has y zs
  unfolding has
  has-map y [] = refl
  has-map y (z ∷ zs) = go (eqb z y) refl (has-map y zs)
    where
      go : (b : Bool) → eqb z y ≡ b → has (f y) (map f zs) ≡ has y zs → (eqb (f z) (f y) || has (f y) (map f zs)) ≡ (b || has y zs)
      go true e h = ap (λ (t : Bool). t || has (f y) (map f zs)) (eq-eqb (f z) (f y) (ap f (eqb-true z y e)))
      go false e h = ap (λ (t : Bool). t || has (f y) (map f zs)) (ne_eqb (f z) (f y) (λ k. eqb-false z y e (inj z y k))) ∙ h

  fresh-map : (seen ys : List ℕ) → fresh (map f seen) (map f ys) ≡ map f (fresh seen ys)
  unfolding fresh
  fresh-map seen [] = refl
  fresh-map seen (y ∷ ys) = ap (λ (t : Bool). keep_new t (f y) (fresh (map f seen) (map f ys)) (fresh (f y ∷ map f seen) (map f ys))) (has-map y seen) ∙ go (has y seen) (fresh-map seen ys) (fresh-map (y ∷ seen) ys)
    where
      go : (t : Bool) → fresh (map f seen) (map f ys) ≡ map f (fresh seen ys) → fresh (f y ∷ map f seen) (map f ys) ≡ map f (fresh (y ∷ seen) ys)
          → keep_new t (f y) (fresh (map f seen) (map f ys)) (fresh (f y ∷ map f seen) (map f ys)) ≡ map f (keep_new t y (fresh seen ys) (fresh (y ∷ seen) ys))
      go true u v = u
      go false u v = ap (λ (zs : List ℕ). f y ∷ zs) v

module _ (holds : ℕ → ℕ → Bool) (n : ℕ) where
  thin-pass : (t : Bool) (y : ℕ) → pass_if t y ≡ thin (pass_if t y)
  unfolding fresh has
  thin-pass true y = refl
  thin-pass false y = refl

  thin-ways : (P : ℕ) (p : Place) (i : ℕ) → ways_at holds n P (thin_place p) i ≡ thin (ways_at holds n P p i)
  unfolding ways_at thin_place
  thin-ways P (p_letter c k) i = thin-pass (ltb i n && holds c i) (pair_at P (suc i) k)
  thin-ways P (p_caret k) i = thin-pass (eqb i 0) (pair_at P i k)
  thin-ways P (p_dollar k) i = thin-pass (eqb i n) (pair_at P i k)
  thin-ways P (p_fork ks) i = ap try (sym (fresh-map (λ k. pair_at P i k) (λ x y (e : pair_at P i x ≡ pair_at P i y). omega arith) [] ks))
  thin-ways P p_end i = refl

  -- the pairs of thinned places do what the pairs of the places do, each way once
  pub thin-pairs : (pl : List Place) (x : ℕ) → pair_ways holds n (thinned pl) x ≡ thin (pair_ways holds n pl x)
  unfolding pair_ways
  thin-pairs pl x = rw (thinned-length pl, thinned-at pl (place_of (length pl) x)) (thin-ways (length pl) (get_or pl (place_of (length pl) x) (p_fork [])) (position_of (length pl) x))

-- the labels of a path are the same
label_thin : (p : Place) (ls : List ℕ) → label_of (thin_place p) ls ≡ label_of p ls
unfolding thin_place
label_thin (p_letter c k) ls = refl
label_thin (p_caret k) ls = refl
label_thin (p_dollar k) ls = refl
label_thin (p_fork ks) ls = refl
label_thin p_end ls = refl

pub labels-thin : (pl : List Place) (p : List ℕ) → labels (thinned pl) p ≡ labels pl p
unfolding labels
labels-thin pl [] = refl
labels-thin pl (x ∷ p) =
    rw (thinned-length pl, thinned-at pl (place_of (length pl) x))
    (label_thin (get_or pl (place_of (length pl) x) (p_fork [])) (labels (thinned pl) p) ∙ ap (label_of (get_or pl (place_of (length pl) x) (p_fork []))) (labels-thin pl p))

-- a thinned place asks for a row as the place does, so the walk halts alike
asks-thin : (p : Place) → asks_row (thin_place p) ≡ asks_row p
unfolding thin_place
asks-thin (p_letter c k) = refl
asks-thin (p_caret k) = refl
asks-thin (p_dollar k) = refl
asks-thin (p_fork ks) = refl
asks-thin p_end = refl

waits-thin : (terms : Terms) (pl : List Place) (n x : ℕ) → (halting_of terms (thinned pl) n).waits x ≡ (halting_of terms pl n).waits x
unfolding halting_of
waits-thin terms pl n x = rw (thinned-length pl, thinned-at pl (place_of (length pl) x), asks-thin (get_or pl (place_of (length pl) x) (p_fork [])))

pub halting_thin : (terms : Terms) (pl : List Place) (n : ℕ) → halting_of terms (thinned pl) n ≡ halting_of terms pl n
unfolding halting_of
halting_thin terms pl n =
    let e : (halting_of terms (thinned pl) n).waits ≡ (halting_of terms pl n).waits = λ i x. waits-thin terms pl n x i in
    ap (λ (w : ℕ → Bool). record { spent = (halting_of terms pl n).spent; waits = w }) e

pub plan-thin : (pl : List Place) (n : ℕ) (more : Bool) (skip : Skip) (fits : ℕ → ℕ → List ℕ → Bool) → plan_of (thinned pl) n more skip fits ≡ plan_of pl n more skip fits
unfolding plan_of
plan-thin pl n more skip fits =
    let e : labels (thinned pl) ≡ labels pl = λ i p. labels-thin pl p i in
    rw (thinned-length pl, e) refl

-- The counted walk over thinned places is the walk over the places, on any terms: the same matches,
-- failed pairs and steps.
module _ (t : Unrolled) (holds : ℕ → ℕ → Bool) (n : ℕ) (terms : Terms) (le : n ≤ terms.largest) (skip : Skip) (fits : ℕ → ℕ → List ℕ → Bool) where
  pub walk-thin : walk_search terms (seek holds n (thinned (places t)) skip fits) ≡ walk_search terms (seek holds n (places t) skip fits)
  unfolding walk_search
  walk-thin =
      let N : ℕ = pairs (length (places t)) terms.largest in
      let e : pair_ways holds n (thinned (places t)) ≡ (λ x. thin (pair_ways holds n (places t) x)) = λ i x. thin-pairs holds n (places t) x i in
      rw (plan-thin (places t) n terms.more skip fits, halting_thin terms (places t) n, e, thinned-length (places t))
      (search_thin (halting_of terms (places t) n) (pair_ways holds n (places t)) (rank t n) N (falls-in t holds n terms.largest le) N (top_in t holds n terms.largest le) (first_at (length (places t)))
      (plan_of (places t) n terms.more skip fits) (λ i h. (starts_in_lem t holds n terms.largest le i h).0) n 0 0 0 (as_kept (replicate N false) 0) (length-replicate _ _))

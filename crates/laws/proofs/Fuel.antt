-- The bounds on depth and attempts in the definitions of plain backtracking, the counted walk and
-- the search are large enough: over a graph whose ways fall in rank, and so for every pattern, a
-- larger bound gives the same. And no path is longer than the number of pairs.
use mathlib.Core.Path.{◌≡◌, refl, ap}
use mathlib.Core.List.{List}
use mathlib.Core.Bool.{Bool, true, false}
use mathlib.Core.Option.{Option, none, some}
use Prim.Native.Nat.{ℕ, zero, suc, ◌+◌, ◌≤◌, ◌<◌}
use native.Mathlib.Nat.{le_trans}
use native.Mathlib.Omega.{arith}
use lib.ListN.{length, get_or, replicate}
use lib.Dec.{ltb}
use borrow.Author.Tests.{le-ltb}
use Rattle.rules.specs.Places.{Unrolled, Place, places}
use Rattle.rules.specs.Search.{on_match, with_match, Match, Skip, Attempted, hit, miss, halts, Swept, Plan, ended, no_start, below, on_answer, sweep, answered, walk_at, plain_at, labels, end_of, Terms, halting_of, plan_of, walk_search, plain_search, Standing, seek, stand_at}
use Rattle.rules.specs.Walk.{IsPath, here, there, Ways, pairs, first_at, pair_ways, plain, Halting, enter_unless, inside, as_kept}
use Rattle.laws.proofs.Plain.{plain-fuel}
use Rattle.laws.proofs.Machine.{inside-fuel}
use Rattle.laws.proofs.PatternWalk.{falls, top, falls-in, top_in}
use Rattle.laws.proofs.Rank.{rank}
use Rattle.laws.proofs.Starts.{next-on}
use Rattle.laws.proofs.Walk.{All-at}
use Rattle.rules.specs.Working.{Falls}

-- ---- paths

module _ (ways : ℕ → Ways) (ρ : ℕ → ℕ) (N : ℕ) (falls : Falls ways ρ N) where
  -- a path has at most as many pairs as its first pair's rank and one more
  pub path_length : {x : ℕ} {p : List ℕ} → IsPath ways x p → length p ≤ suc (ρ x)
  path_length (here e) = omega arith
  path_length {x} (there {y = y} {ys = ys} e m h) = omega (arith, path_length h, (All-at (λ y. (ρ y < ρ x) × (x < N → y < N)) m (falls x ys e)).0)

-- ---- the search

module _ {S : Type 0} (att alt : ℕ → S → Attempted × S) (same : (i : ℕ) (st : S) → att i st ≡ alt i st) (plan : Plan) (on : (i : ℕ) (p : List ℕ) (j : ℕ) → plan.next i p ≡ some j → i < j) where
  abbrev pub SameFrom : (Standing → S → Swept S) → (Standing → S → Swept S) → ℕ → Type 0
  SameFrom f g i = (j m l : ℕ) (st : S) → i < j → f (stand_at j m l) st ≡ g (stand_at j m l) st

  pub same_answer : (f g : Standing → S → Swept S) (i : ℕ) → SameFrom f g i → (m l : ℕ) (o : Attempted) (st : S) → on_answer plan f (stand_at i m l) o st ≡ on_answer plan g (stand_at i m l) o st
  same_answer f g i e m l miss st = e (suc i) m l st (omega arith)
  same_answer f g i e m l (halts w p) st = refl
  same_answer f g i e m l (hit p) st = go (plan.fits m l p) (plan.next i p) refl
    where
      go : (t : Bool) (o : Option ℕ) → plan.next i p ≡ o
          → on_match t o (record { start = i; path = p }) st (λ j. f (stand_at j (suc m) (l + plan.rows p)) st)
          ≡ on_match t o (record { start = i; path = p }) st (λ j. g (stand_at j (suc m) (l + plan.rows p)) st)
      go false o d = refl
      go true none d = refl
      go true (some j) d = ap (with_match (record { start = i; path = p })) (e j (suc m) (l + plan.rows p) st (on i p j d))

  same-below : (f g : Unit {0} → Swept S) (out : Swept S) → f tt ≡ g tt → (t : Bool) → below t out f ≡ below t out g
  same-below f g out e false = refl
  same-below f g out e true = e

  -- attempts that are the same, with any two bounds that reach the last row
  pub sweep-fuel : (k h i m l : ℕ) (st : S) → plan.n ≤ i + k → plan.n ≤ i + h → sweep att plan k (stand_at i m l) st ≡ sweep alt plan h (stand_at i m l) st
  unfolding sweep
  sweep-fuel zero zero i m l st a b = refl
  sweep-fuel zero (suc h) i m l st a b = rw (le-ltb i plan.n (omega arith))
  sweep-fuel (suc k) zero i m l st a b = rw (le-ltb i plan.n (omega arith))
  sweep-fuel (suc k) (suc h) i m l st a b =
      rw (same i st) (same-below _ _ (ended (no_start plan.more i) st)
      (same_answer (sweep att plan k) (sweep alt plan h) i (λ j m' l' st' r. sweep-fuel k h j m' l' st' (omega arith) (omega arith)) m l (alt i st).0 (alt i st).1)
      (ltb i plan.n))

-- more attempts than there are rows change nothing
pub sweep-enough : {S : Type 0} (att : ℕ → S → Attempted × S) (plan : Plan) → ((i : ℕ) (p : List ℕ) (j : ℕ) → plan.next i p ≡ some j → i < j)
    → (k i m l : ℕ) (st : S) → plan.n ≤ k → sweep att plan k (stand_at i m l) st ≡ sweep att plan plan.n (stand_at i m l) st
sweep-enough att plan on k i m l st h = sweep-fuel att att (λ i st. refl) plan on k plan.n i m l st (omega arith) (omega arith)

-- in every skip mode the next start lies behind
pub plan-on : (pl : List Place) (n : ℕ) (more : Bool) (skip : Skip) (fits : ℕ → ℕ → List ℕ → Bool) (i : ℕ) (p : List ℕ) (j : ℕ) → (plan_of pl n more skip fits).next i p ≡ some j → i < j
unfolding plan_of
plan-on pl n more skip fits i p j e = next-on skip i (end_of (length pl) p) (labels pl p) j e

-- ---- a pattern: the number of pairs is enough

module _ (t : Unrolled) (holds : ℕ → ℕ → Bool) (n : ℕ) where
  abbrev P : ℕ
  P = length (places t)

  pub plain-enough : (K : ℕ) → pairs P n ≤ K → (x : ℕ) → plain (pair_ways holds n (places t)) K x ≡ plain (pair_ways holds n (places t)) (pairs P n) x
  plain-enough K h x = plain-fuel (pair_ways holds n (places t)) (rank t n) (pairs P n) (falls t holds n) K (pairs P n) x (le_trans (top t holds n x) h) (top t holds n x)

  pub inside-enough : (w : Halting) (K : ℕ) → pairs P n ≤ K → (F : List Bool) (s x : ℕ) → inside w (pair_ways holds n (places t)) K (as_kept F s) x ≡ inside w (pair_ways holds n (places t)) (pairs P n) (as_kept F s) x
  inside-enough w K h F s x = inside-fuel w (pair_ways holds n (places t)) (rank t n) (pairs P n) (falls t holds n) K (pairs P n) x (le_trans (top t holds n x) h) (top t holds n x) F s

  -- no path is longer
  pub path_short : (x : ℕ) (p : List ℕ) → IsPath (pair_ways holds n (places t)) x p → length p ≤ pairs P n
  path_short x p h = omega (arith, top t holds n x, path_length (pair_ways holds n (places t)) (rank t n) (pairs P n) (falls t holds n) h)

  -- the whole searches, with any larger bounds
  module _ (skip : Skip) (fits : ℕ → ℕ → List ℕ → Bool) (K k : ℕ) (h : pairs P n ≤ K) (l : n ≤ k) where
    pub plain-search_enough : sweep (plain_at (pair_ways holds n (places t)) K (first_at P)) (plan_of (places t) n false skip fits) k (stand_at 0 0 0) tt ≡ plain_search (seek holds n (places t) skip fits)
    unfolding plain_search plan_of
    plain-search_enough =
        sweep-fuel (plain_at (pair_ways holds n (places t)) K (first_at P)) (plain_at (pair_ways holds n (places t)) (pairs P n) (first_at P))
        (λ i st. rw (plain-enough K h (first_at P i))) (plan_of (places t) n false skip fits) (plan-on (places t) n false skip fits) k n 0 0 0 tt (omega arith) (omega arith)

    pub walk-search_enough : (terms : Terms) → n ≤ terms.largest → pairs P terms.largest ≤ K
        → sweep (walk_at (halting_of terms (places t) n) (pair_ways holds n (places t)) K (first_at P)) (plan_of (places t) n terms.more skip fits) k (stand_at 0 0 0) (as_kept (replicate (pairs P terms.largest) false) 0)
        ≡ walk_search terms (seek holds n (places t) skip fits)
    unfolding walk_search plan_of
    walk-search_enough terms le h' =
        sweep-fuel (walk_at w ways K (first_at P)) (walk_at w ways N (first_at P))
        (λ i st. ap answered (go i st.failed st.steps (get_or st.failed (first_at P i) false) (w.spent st.steps))) (plan_of (places t) n terms.more skip fits)
        (plan-on (places t) n terms.more skip fits) k n 0 0 0 (as_kept (replicate N false) 0) (omega arith) (omega arith)
      where
        N : ℕ
        N = pairs P terms.largest

        w : Halting
        w = halting_of terms (places t) n

        ways : ℕ → Ways
        ways = pair_ways holds n (places t)

        go : (i : ℕ) (F : List Bool) (s : ℕ) (b u : Bool) → enter_unless b u (inside w ways K) (as_kept F s) (first_at P i) ≡ enter_unless b u (inside w ways N) (as_kept F s) (first_at P i)
        go i F s true u = refl
        go i F s false true = refl
        go i F s false false =
            inside-fuel w ways (rank t n) N (falls-in t holds n terms.largest le) K N (first_at P i) (le_trans (top_in t holds n terms.largest le (first_at P i)) h')
            (top_in t holds n terms.largest le (first_at P i)) F (suc s)

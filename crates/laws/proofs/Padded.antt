-- The account of failed pairs may be kept for more pairs than the rows have (R-11 measures it by
-- the largest number of rows): the walk does the same, and the pairs beyond stay as they were.
use mathlib.Core.Path.{◌≡◌, refl, ap, sym, ◌∙◌}
use mathlib.Core.List.{List, [], ◌∷◌, ◌++◌}
use mathlib.Core.Bool.{Bool, true, false}
use mathlib.Core.Option.{Option, none, some}
use Prim.Native.Nat.{ℕ, zero, suc, ◌+◌, ◌-◌, ◌*◌, ◌≤◌, ◌<◌}
use native.Mathlib.Nat.{mul-le-mul}
use native.Mathlib.Omega.{arith}
use lib.ListN.{length, get_or, replicate, length-replicate, replicate-append-replicate, get_or-append}
use lib.Seq.{set-append_left}
use lib.Dec.{ltb}
use borrow.Author.Tests.{ltb-true}
use Rattle.rules.specs.Places.{Unrolled, places}
use Rattle.rules.specs.Search.{Skip, Attempted, Swept, Plan, ended, no_start, below, with_match, on_answer, sweep, answered, walk_at, Terms, halting_of, plan_of, walk_search, Standing, on_match, seek, stand_at}
use Rattle.rules.specs.Walk.{Ways, accept, try, Halting, Outcome, found, failed, halted, or_else, close, enter_unless, tries, inside, inside_by, pairs, first_at, pair_ways, Kept, as_kept}
use Rattle.laws.proofs.Fuel.{walk-search_enough}
use Rattle.laws.proofs.GoesOn.{kept_by, inside-keeps}
use Rattle.laws.proofs.PatternWalk.{falls, starts}
use Rattle.laws.proofs.Rank.{rank}
use Rattle.laws.proofs.Walk.{All-map}
use Rattle.rules.specs.Working.{All, Falls}

-- G stands behind the account
abbrev pub pad : List Bool → Outcome → Outcome
pad G (found p kept) = found p (as_kept (kept.failed ++ G) kept.steps)
pad G (failed kept) = failed (as_kept (kept.failed ++ G) kept.steps)
pad G (halted w p kept) = halted w p (as_kept (kept.failed ++ G) kept.steps)

abbrev pub padded : List Bool → Swept Kept → Swept Kept
padded G r = record { matches = r.matches; end = r.end; state = as_kept (r.state.failed ++ G) r.state.steps }

module _ (h : Halting) (ways : ℕ → Ways) (ρ : ℕ → ℕ) (N : ℕ) (falls : Falls ways ρ N) (G : List Bool) where
  abbrev PadAt : ℕ → Type 0
  PadAt k = (F : List Bool) (s x : ℕ) → length F ≡ N → x < N → inside h ways k (as_kept (F ++ G) s) x ≡ pad G (inside h ways k (as_kept F s) x)

  pad-close : (x : ℕ) (r : Outcome) → x < N → length (kept_by r).failed ≡ N → close x (pad G r) ≡ pad G (close x r)
  pad-close x (found p kept) lt len = refl
  pad-close x (failed kept) lt len = ap (λ (H : List Bool). failed (as_kept H kept.steps)) (set-append_left kept.failed G x true (rw len lt))
  pad-close x (halted w p kept) lt len = refl

  pad-tries : (k : ℕ) → PadAt k → (ys : List ℕ) → All (λ y. y < N) ys → (F : List Bool) (s : ℕ) → length F ≡ N
      → (tries h (inside h ways k) (as_kept (F ++ G) s) ys ≡ pad G (tries h (inside h ways k) (as_kept F s) ys)) × (length (kept_by (tries h (inside h ways k) (as_kept F s) ys)).failed ≡ N)
  unfolding tries
  pad-tries k ih [] a F s len = (refl, len)
  pad-tries k ih (y ∷ ys) a F s len = rw (get_or-append F G false y (rw len a.0)) (go (λ F' s' l. pad-tries k ih ys a.1 F' s' l) (get_or F y false) (h.spent s))
    where
      Rest : Type 0
      Rest = (F' : List Bool) (s' : ℕ) → length F' ≡ N → (tries h (inside h ways k) (as_kept (F' ++ G) s') ys ≡ pad G (tries h (inside h ways k) (as_kept F' s') ys)) × (length (kept_by (tries h (inside h ways k) (as_kept F' s') ys)).failed ≡ N)

      after : Rest → (r : Outcome) → length (kept_by r).failed ≡ N
          → (or_else (pad G r) (λ kept'. tries h (inside h ways k) kept' ys) ≡ pad G (or_else r (λ kept'. tries h (inside h ways k) kept' ys)))
          × (length (kept_by (or_else r (λ kept'. tries h (inside h ways k) kept' ys))).failed ≡ N)
      after rest (found p kept') l = (refl, l)
      after rest (failed kept') l = rest kept'.failed kept'.steps l
      after rest (halted w p kept') l = (refl, l)

      go : Rest → (t u : Bool)
          → (or_else (enter_unless t u (inside h ways k) (as_kept (F ++ G) s) y) (λ kept'. tries h (inside h ways k) kept' ys) ≡ pad G (or_else (enter_unless t u (inside h ways k) (as_kept F s) y) (λ kept'. tries h (inside h ways k) kept' ys)))
          × (length (kept_by (or_else (enter_unless t u (inside h ways k) (as_kept F s) y) (λ kept'. tries h (inside h ways k) kept' ys))).failed ≡ N)
      go rest true u = rest F s len
      go rest false true = (refl, len)
      go rest false false = rw (ih F (suc s) y len a.0) (after rest (inside h ways k (as_kept F (suc s)) y) ((inside-keeps h ways k F (suc s) y).len ∙ len))

  pub inside-pad : (k : ℕ) → PadAt k
  unfolding inside inside_by
  inside-pad zero F s x len lt = refl
  inside-pad (suc k) F s x len lt = go (inside-pad k) (h.waits x) (ways x) refl
    where
      go : PadAt k → (u : Bool) (w : Ways) → ways x ≡ w → inside_by h u w (inside h ways k) (as_kept (F ++ G) s) x ≡ pad G (inside_by h u w (inside h ways k) (as_kept F s) x)
      go ih true w e = refl
      go ih false accept e = refl
      go ih false (try ys) e =
          let a = pad-tries k ih ys (All-map (λ y (r : (ρ y < ρ x) × (x < N → y < N)). r.1 lt) ys (falls x ys e)) F s len in
          ap (close x) a.0 ∙ pad-close x (tries h (inside h ways k) (as_kept F s) ys) lt a.1

  module _ (K : ℕ) (first : ℕ → ℕ) (plan : Plan) (starts : (i : ℕ) → i < plan.n → first i < N) where
    abbrev att : ℕ → Kept → Attempted × Kept
    att = walk_at h ways K first

    abbrev PadOn : (Standing → Kept → Swept Kept) → Type 0
    PadOn f = (i m l : ℕ) (F : List Bool) (s : ℕ) → length F ≡ N → f (stand_at i m l) (as_kept (F ++ G) s) ≡ padded G (f (stand_at i m l) (as_kept F s))

    pad-answer : (f : Standing → Kept → Swept Kept) → PadOn f → (i m l : ℕ) (r : Outcome) → length (kept_by r).failed ≡ N
        → on_answer plan f (stand_at i m l) (answered (pad G r)).0 (answered (pad G r)).1 ≡ padded G (on_answer plan f (stand_at i m l) (answered r).0 (answered r).1)
    pad-answer f ih i m l (failed kept) len = ih (suc i) m l kept.failed kept.steps len
    pad-answer f ih i m l (halted w p kept) len = refl
    pad-answer f ih i m l (found p kept) len = go (plan.next i p) (plan.fits m l p)
      where
        go : (o : Option ℕ) (t : Bool) → on_match t o (record { start = i; path = p }) (as_kept (kept.failed ++ G) kept.steps) (λ j. f (stand_at j (suc m) (l + plan.rows p)) (as_kept (kept.failed ++ G) kept.steps))
            ≡ padded G (on_match t o (record { start = i; path = p }) kept (λ j. f (stand_at j (suc m) (l + plan.rows p)) kept))
        go o false = refl
        go none true = refl
        go (some j) true = ap (with_match (record { start = i; path = p })) (ih j (suc m) (l + plan.rows p) kept.failed kept.steps len)

    pad-attempt : (i : ℕ) (F : List Bool) (s : ℕ) → length F ≡ N → first i < N → (t u : Bool)
        → (enter_unless t u (inside h ways K) (as_kept (F ++ G) s) (first i) ≡ pad G (enter_unless t u (inside h ways K) (as_kept F s) (first i))) × (length (kept_by (enter_unless t u (inside h ways K) (as_kept F s) (first i))).failed ≡ N)
    pad-attempt i F s len lt true u = (refl, len)
    pad-attempt i F s len lt false true = (refl, len)
    pad-attempt i F s len lt false false = (inside-pad K F (suc s) (first i) len lt, (inside-keeps h ways K F (suc s) (first i)).len ∙ len)

    pub sweep-pad : (k : ℕ) → PadOn (sweep att plan k)
    unfolding sweep
    sweep-pad zero i m l F s len = refl
    sweep-pad (suc k) i m l F s len = go (sweep-pad k) (ltb i plan.n) refl
      where
        go : PadOn (sweep att plan k) → (t : Bool) → ltb i plan.n ≡ t
            → below t (ended (no_start plan.more i) (as_kept (F ++ G) s)) (λ _. on_answer plan (sweep att plan k) (stand_at i m l) (att i (as_kept (F ++ G) s)).0 (att i (as_kept (F ++ G) s)).1)
            ≡ padded G (below t (ended (no_start plan.more i) (as_kept F s)) (λ _. on_answer plan (sweep att plan k) (stand_at i m l) (att i (as_kept F s)).0 (att i (as_kept F s)).1))
        go ih false e = refl
        go ih true e =
            let lt = starts i (ltb-true i plan.n e) in
            let a = pad-attempt i F s len lt (get_or F (first i) false) (h.spent s) in
            rw (get_or-append F G false (first i) (rw len lt), a.0)
            (pad-answer (sweep att plan k) ih i m l (enter_unless (get_or F (first i) false) (h.spent s) (inside h ways K) (as_kept F s) (first i)) a.1)

-- ---- a pattern

abbrev pub measured_by : Terms → ℕ → Terms
measured_by terms n = record { largest = n; more = terms.more; allowance = terms.allowance }

product_le : (a b c d : ℕ) → a ≤ c → b ≤ d → a * b ≤ c * d
product_le a b c d h k = mul-le-mul h k

module _ (t : Unrolled) (holds : ℕ → ℕ → Bool) (n : ℕ) where
  abbrev P : ℕ
  P = length (places t)

  -- the pairs of the rows that are not there
  abbrev pub beyond : ℕ → List Bool
  beyond L = replicate (pairs P L - pairs P n) false

  pub more-pairs : (L : ℕ) → n ≤ L → pairs P n ≤ pairs P L
  more-pairs L le = product_le P (suc n) P (suc L) (omega arith) (omega arith)

  -- the search with an account for L rows is the search with an account for the n rows there are,
  -- and no other pair has failed
  pub search_padded : (terms : Terms) → n ≤ terms.largest → (skip : Skip) (fits : ℕ → ℕ → List ℕ → Bool)
      → walk_search terms (seek holds n (places t) skip fits) ≡ padded (beyond terms.largest) (walk_search (measured_by terms n) (seek holds n (places t) skip fits))
  unfolding walk_search halting_of plan_of
  search_padded terms le skip fits =
      let L : ℕ = terms.largest in
      let m : pairs P n ≤ pairs P L = more-pairs L le in
      let e : pairs P n + (pairs P L - pairs P n) ≡ pairs P L = omega arith in
      let r : replicate (pairs P L) false ≡ replicate (pairs P n) false ++ beyond L = sym (replicate-append-replicate (pairs P n) (pairs P L - pairs P n) false ∙ ap (λ (k : ℕ). replicate k false) e) in
      let a = sweep-pad (halting_of terms (places t) n) (pair_ways holds n (places t)) (rank t n) (pairs P n) (falls t holds n) (beyond L) (pairs P L) (first_at P) (plan_of (places t) n terms.more skip fits)
      (λ i h. (starts t holds n i h).0) n 0 0 0 (replicate (pairs P n) false) 0 (length-replicate (pairs P n) false) in
      ap (λ (F : List Bool). sweep (walk_at (halting_of terms (places t) n) (pair_ways holds n (places t)) (pairs P L) (first_at P)) (plan_of (places t) n terms.more skip fits) n (stand_at 0 0 0) (as_kept F 0)) r
      ∙ a ∙ ap (padded (beyond L)) (walk-search_enough t holds n skip fits (pairs P L) n m (omega arith) (measured_by terms n) (omega arith) m)

-- The whole search over the graph of an unrolled pattern. On any terms: the walk's matches are the
-- first of plain backtracking's, all of them where it does not halt; its steps are the failed
-- pairs, the pairs of the paths found and those still open. On document 01's terms: with skip past
-- last row the steps are at most 2P(n+1), and in every mode at most P n (n+3) / 2.
use mathlib.Core.Path.{◌≡◌, refl, ap}
use mathlib.Core.List.{List, [], ◌∷◌, map}
use mathlib.Core.Bool.{Bool, true, false, ◌&&◌, false≢true}
use mathlib.Core.Option.{Option, none}
use Prim.Native.Nat.{ℕ, zero, suc, ◌+◌, ◌-◌, ◌*◌, ◌/◌, ◌%◌, ◌≤◌, ◌<◌}
use native.Mathlib.Nat.{le_trans, mod-lt, mul_comm, add-zero, sub-zero, le-div_iff_mul-le}
use native.Mathlib.Omega.{arith}
use lib.ListN.{length, get_or, replicate, length-replicate}
use lib.Arith.{digits_lt, digits_div}
use lib.Dec.{ltb, eqb}
use Rattle.rules.specs.Places.{Unrolled, Place, p_letter, p_caret, p_dollar, p_fork, p_end, places}
use Rattle.rules.specs.Search.{Skip, past_last, path_pairs, labels, end_of, Finished, open_of, Swept, found_in, Terms, whole, halting_of, plan_of, walk_at, plainly, sweep, walk_search, plain_search, seek, stand_at}
use Rattle.rules.specs.Walk.{Ways, accept, try, count_true, pass_if, ways_at, pairs, first_at, pair_ways, position_of, plain, Kept, as_kept}
use Rattle.laws.proofs.Bound.{Onward, two-each}
use Rattle.laws.proofs.EachStart.{Closed, cost, cost-is, walk-cost}
use Rattle.laws.proofs.Plain.{plain-fuel, Sound}
use Rattle.laws.proofs.Rank.{rank, places-length, pattern-falls, pattern-top, Edge, places-edges, Target, states, level_of, some-state}
use Rattle.laws.proofs.Starts.{next-on, next_past}
use Rattle.laws.proofs.Swept.{Unhalting, sweep-finished, finished_open, walk-sure, Alike, Follows, follows_alike, Counted, walk-follows_plain, walk-counted}
use Rattle.laws.proofs.Walk.{All-map}
use Rattle.rules.specs.Working.{All, Falls, In, Out}

-- ---- no pair has failed at first

pub none_in : (N : ℕ) (z : ℕ) → In (replicate N false) z → ⊥
none_in zero z h = false≢true h
none_in (suc N) zero h = false≢true h
none_in (suc N) (suc z) h = none_in N z h

none-count : (N : ℕ) → count_true (replicate N false) ≡ 0
unfolding count_true
none-count zero = refl
none-count (suc N) = none-count N

-- ---- no way leads back to an earlier position

module _ (holds : ℕ → ℕ → Bool) (n : ℕ) (lv : ℕ → ℕ) (P : ℕ) where
  abbrev OnwardAt : ℕ → Ways → Type 0
  OnwardAt i accept = Unit {0}
  OnwardAt i (try ys) = All (λ y. i ≤ y / P) ys

  pass_onward : (i j k : ℕ) → i ≤ j → k < P → (c : Bool) → OnwardAt i (pass_if c (j * P + k))
  pass_onward i j k h l true = (rw (digits_div j l) h, tt)
  pass_onward i j k h l false = tt

  fork-onward : (i m : ℕ) (ks : List ℕ) → All (Target lv P m) ks → OnwardAt i (try (map (λ k. i * P + k) ks))
  fork-onward i m [] a = tt
  fork-onward i m (k ∷ ks) a = (rw (digits_div i a.0.0) (omega arith), fork-onward i m ks a.1)

  at_onward : (i m : ℕ) (p : Place) → Edge lv P m p → OnwardAt i (ways_at holds n P p i)
  unfolding ways_at
  at_onward i m (p_letter c k) a = pass_onward i (suc i) k (omega arith) a (ltb i n && holds c i)
  at_onward i m (p_caret k) a = pass_onward i i k (omega arith) a.0 (eqb i 0)
  at_onward i m (p_dollar k) a = pass_onward i i k (omega arith) a.0 (eqb i n)
  at_onward i m (p_fork ks) a = fork-onward i m ks a
  at_onward i m p_end a = tt

some_place : (t : Unrolled) → 0 < length (places t)
some_place t = rw (places-length t) (some-state t)

pattern-onward : (t : Unrolled) (holds : ℕ → ℕ → Bool) (n : ℕ) → Onward (pair_ways holds n (places t)) (position_of (length (places t)))
unfolding pair_ways
pattern-onward t holds n x ys e =
    let P : ℕ = length (places t) in
    let ed : Edge (level_of t) P (level_of t (x % P)) (get_or (places t) (x % P) (p_fork [])) =
    rw (places-length t) (places-edges t (x % states t) (mod-lt x (rw (places-length t) at (some_place t)))) in
    rw e at (at_onward holds n (level_of t) P (x / P) (level_of t (x % P)) (get_or (places t) (x % P) (p_fork [])) ed)

module _ (t : Unrolled) (holds : ℕ → ℕ → Bool) (n : ℕ) where
  abbrev ways : ℕ → Ways
  ways = pair_ways holds n (places t)

  abbrev P : ℕ
  P = length (places t)

  -- where pairs are counted for L rows: the rank falls along every way, and lies below the number
  -- of pairs; a start's first pair is a pair of its row
  module _ (L : ℕ) (le : n ≤ L) where
    pub falls-in : Falls ways (rank t n) (pairs P L)
    falls-in = rw (places-length t) (pattern-falls t holds n L le)

    pub top_in : (x : ℕ) → rank t n x < pairs P L
    top_in x = rw (places-length t) (pattern-top t holds n L le x)

    pub starts_in_lem : (i : ℕ) → i < n → (first_at P i < pairs P L) × (position_of P (first_at P i) ≡ i)
    starts_in_lem i h = (rw (mul_comm P (suc L)) (rw add-zero at (digits_lt {q = i} {m = suc L} (omega arith) (some_place t))), rw add-zero at (digits_div i (some_place t)))

  -- and where they are counted for the n rows themselves
  pub falls : Falls ways (rank t n) (pairs P n)
  falls = falls-in n (omega arith)

  pub top : (x : ℕ) → rank t n x < pairs P n
  top = top_in n (omega arith)

  pub starts : (i : ℕ) → i < n → (first_at P i < pairs P n) × (position_of P (first_at P i) ≡ i)
  starts = starts_in_lem n (omega arith)

  onward-first : (i : ℕ) → Closed ways (λ z. first_at P i ≤ z)
  onward-first i x ys e h =
      let a : i ≤ position_of P x = (le-div_iff_mul-le (some_place t)).1 h in
      All-map (λ y (r : position_of P x ≤ position_of P y). (le-div_iff_mul-le (some_place t)).0 (le_trans a r)) ys (pattern-onward t holds n x ys e)

  rest-pairs : (P i m : ℕ) → P * suc (i + m) ≤ i * P + P * suc m
  rest-pairs P i m = rw (mul_comm P (suc (i + m)), mul_comm P (suc m)) (omega arith)

  -- ---- on any terms

  module _ (terms : Terms) (le : n ≤ terms.largest) (skip : Skip) (fits : ℕ → ℕ → List ℕ → Bool) where
    abbrev N : ℕ
    N = pairs P terms.largest

    abbrev searched : Swept Kept
    searched = walk_search terms (seek holds n (places t) skip fits)

    -- plain backtracking's bound on depth may be that of the larger number of rows
    same-plain : plain ways N ≡ plain ways (pairs P n)
    same-plain = λ i x. plain-fuel ways (rank t n) N (falls-in terms.largest le) N (pairs P n) x (top_in terms.largest le x) (top x) i

    -- the matches are the first of plain backtracking's, all of them and with its end where the
    -- search does not halt, and every failed pair has no path
    pub search_follows : Follows (λ (st : Kept). Sound ways (pairs P n) st.failed) searched (plain_search (seek holds n (places t) skip fits))
    unfolding walk_search plain_search plan_of
    search_follows = go (plain ways (pairs P n)) same-plain
      where
        go : (f : ℕ → Option (List ℕ)) → plain ways N ≡ f
            → Follows {T = Unit {0}} (λ (st : Kept). (z : ℕ) → In st.failed z → f z ≡ none) searched
            (sweep (λ (i : ℕ) (st : Unit {0}). (plainly (f (first_at P i)), tt)) (plan_of (places t) n false skip fits) n (stand_at 0 0 0) tt)
        go f e =
            rw (← e)
            (walk-follows_plain (halting_of terms (places t) n) ways (rank t n) N (falls-in terms.largest le) N (top_in terms.largest le) (first_at P)
            (plan_of (places t) n terms.more skip fits) n 0 0 0 (as_kept (replicate N false) 0) (λ z i. absurd (none_in N z i)))

    search_counted : Counted N (as_kept (replicate N false) 0) searched
    unfolding walk_search plan_of
    search_counted =
        walk-counted (halting_of terms (places t) n) ways (rank t n) N (falls-in terms.largest le) N (top_in terms.largest le) (first_at P) (plan_of (places t) n terms.more skip fits)
        (λ i h. (starts_in_lem terms.largest le i h).0) n 0 0 0 (as_kept (replicate N false) 0) (length-replicate N false)

    -- there is a mark for each pair
    pub search_kept : length searched.state.failed ≡ N
    search_kept = search_counted.len

    -- the steps are the failed pairs, the pairs of the paths found, and the pairs still open
    pub search_sum : searched.state.steps ≡ count_true searched.state.failed + path_pairs (found_in searched) + length (open_of searched.end)
    search_sum = omega (arith, search_counted.sum, none-count N)

    -- and these have not failed
    pub search_out : All (Out searched.state.failed) (open_of searched.end)
    search_out = search_counted.out

  -- ---- on document 01's terms

  -- nothing halts the walk
  pub whole-calm : Unhalting (halting_of (whole n) (places t) n)
  unfolding halting_of
  whole-calm = (λ s. refl, λ x. refl)

  module _ (skip : Skip) (fits : ℕ → ℕ → List ℕ → Bool) where
    abbrev walk : Swept Kept
    walk = walk_search (whole n) (seek holds n (places t) skip fits)

    pub walk-finished : Finished walk.end
    unfolding walk_search plan_of
    walk-finished =
        sweep-finished (walk_at (halting_of (whole n) (places t) n) ways (pairs P n) (first_at P)) (walk-sure (halting_of (whole n) (places t) n) whole-calm ways (pairs P n) (first_at P))
        (plan_of (places t) n false skip fits) refl n 0 0 0 (as_kept (replicate (pairs P n) false) 0)

    -- the matches and the end are those of plain backtracking, and every failed pair has no path
    pub walk-plain : Alike (λ (st : Kept) (_ : Unit {0}). Sound ways (pairs P n) st.failed) walk (plain_search (seek holds n (places t) skip fits))
    walk-plain = follows_alike (search_follows (whole n) (omega arith) skip fits) walk-finished

    -- there is a mark for each pair
    pub walk_kept : length walk.state.failed ≡ pairs P n
    walk_kept = search_kept (whole n) (omega arith) skip fits

    -- the steps are the failed pairs and the pairs of the paths found
    pub walk-sum : walk.state.steps ≡ count_true walk.state.failed + path_pairs (found_in walk)
    walk-sum = omega (arith, search_sum (whole n) (omega arith) skip fits, ap length (finished_open walk.end walk-finished))

    -- in every mode the steps are at most P n (n+3) / 2
    pub walk-each : 2 * walk.state.steps ≤ P * (n * (n + 3))
    unfolding walk_search plan_of
    walk-each =
        let N : ℕ = pairs P n in
        let c = walk-cost (halting_of (whole n) (places t) n) whole-calm ways (rank t n) N falls N top (first_at P) (plan_of (places t) n false skip fits) P
        (λ i h. ((starts i h).0, let e : i + (n - i) ≡ n = omega arith in rw e at (rest-pairs P i (n - i)))) onward-first
        (λ i p j e. next-on skip i (end_of P p) (labels (places t) p) j e) n 0 0 0 (as_kept (replicate N false) 0) (length-replicate N false, λ z i. absurd (none_in N z i)) in
        let c' : walk.state.steps ≤ 0 + cost P n = rw (sub-zero n) at c in
        omega (arith, c', cost-is P n)

  -- past the last row the steps are at most 2P(n+1)
  pub walk-bound : (fits : ℕ → ℕ → List ℕ → Bool) → (walk_search (whole n) (seek holds n (places t) past_last fits)).state.steps ≤ 2 * pairs P n
  unfolding walk_search plan_of
  walk-bound fits =
      let N : ℕ = pairs P n in
      two-each ways (rank t n) N falls N top (position_of P) (pattern-onward t holds n) (first_at P) (plan_of (places t) n false past_last fits) starts
      (λ i p j e. (next_past i (end_of P p) (labels (places t) p) j e, next-on past_last i (end_of P p) (labels (places t) p) j e)) (halting_of (whole n) (places t) n) whole-calm refl n 0 0 0
      (replicate N false) (length-replicate N false) (λ z i. absurd (none_in N z i)) (none-count N)

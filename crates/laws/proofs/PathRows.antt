-- The rows that a match takes are there: a path moves one row on for each label, and from a
-- position up to n it comes to one up to n.
use mathlib.Core.Path.{◌≡◌, refl}
use mathlib.Core.Bool.{Bool, true, false, ◌&&◌}
use mathlib.Core.List.{List, [], ◌∷◌, ◌++◌, map}
use mathlib.Core.Option.{Option, none, some}
use Prim.Native.Nat.{ℕ, zero, suc, ◌+◌, ◌*◌, ◌/◌, ◌%◌, ◌≤◌, ◌<◌}
use native.Mathlib.Nat.{mod-lt}
use native.Mathlib.Omega.{arith}
use lib.ListN.{length, get_or}
use lib.Arith.{digits_div}
use lib.Dec.{ltb, eqb}
use borrow.Author.Tests.{ltb-true}
use Rattle.rules.specs.Places.{Unrolled, Place, p_letter, p_caret, p_dollar, p_fork, p_end, places}
use Rattle.rules.specs.Search.{Match, Skip, Attempted, Plan, labels, label_of, ended, no_start, below, on_answer, sweep, plainly, plain_at, Terms, plan_of, plain_search, walk_search, on_match, seek, stand_at}
use Rattle.rules.specs.Walk.{IsPath, here, there, Ways, accept, try, pass_if, ways_at, pairs, first_at, pair_ways, position_of, place_of, plain}
use Rattle.laws.proofs.Level.{and-true}
use Rattle.laws.proofs.PatternWalk.{starts, search_follows}
use Rattle.laws.proofs.Plain.{plain-path}
use Rattle.laws.proofs.Rank.{places-length, Edge, places-edges, Target, states, level_of, some-state}
use Rattle.laws.proofs.Walk.{All-at}
use Rattle.rules.specs.Working.{All}

-- the rows that a place takes
abbrev takes : Place → ℕ
takes (p_letter c k) = 1
takes (p_caret k) = 0
takes (p_dollar k) = 0
takes (p_fork ks) = 0
takes p_end = 0

label_length : (p : Place) (ls : List ℕ) → length (label_of p ls) ≡ takes p + length ls
label_length (p_letter c k) ls = omega arith
label_length (p_caret k) ls = omega arith
label_length (p_dollar k) ls = omega arith
label_length (p_fork ks) ls = omega arith
label_length p_end ls = omega arith

module _ (holds : ℕ → ℕ → Bool) (n : ℕ) (lv : ℕ → ℕ) (P : ℕ) where
  -- a place's ways lead so many rows on, and not past n
  abbrev StepAt : ℕ → Place → Ways → Type 0
  StepAt i p accept = takes p ≡ 0
  StepAt i p (try ys) = All (λ y. (y / P ≡ i + takes p) × (i ≤ n → y / P ≤ n)) ys

  fork-step : (i m : ℕ) (ks : List ℕ) → All (Target lv P m) ks → All (λ y. (y / P ≡ i + 0) × (i ≤ n → y / P ≤ n)) (map (λ k. i * P + k) ks)
  fork-step i m [] a = tt
  fork-step i m (k ∷ ks) a = let d = digits_div i a.0.0 in ((omega arith, λ h. omega arith), fork-step i m ks a.1)

  at-step : (i m : ℕ) (p : Place) → Edge lv P m p → StepAt i p (ways_at holds n P p i)
  unfolding ways_at
  at-step i m (p_letter c k) a = go (ltb i n && holds c i) refl
    where
      go : (t : Bool) → (ltb i n && holds c i) ≡ t → StepAt i (p_letter c k) (pass_if t (suc i * P + k))
      go true e = let d = digits_div (suc i) a in let l = ltb-true i n (and-true (ltb i n) (holds c i) e).0 in ((omega arith, λ h. omega arith), tt)
      go false e = tt
  at-step i m (p_caret k) a = go (eqb i 0)
    where
      go : (t : Bool) → StepAt i (p_caret k) (pass_if t (i * P + k))
      go true = let d = digits_div i a.0 in ((omega arith, λ h. omega arith), tt)
      go false = tt
  at-step i m (p_dollar k) a = go (eqb i n)
    where
      go : (t : Bool) → StepAt i (p_dollar k) (pass_if t (i * P + k))
      go true = let d = digits_div i a.0 in ((omega arith, λ h. omega arith), tt)
      go false = tt
  at-step i m (p_fork ks) a = fork-step i m ks a
  at-step i m p_end a = refl

module _ (t : Unrolled) (holds : ℕ → ℕ → Bool) (n : ℕ) where
  abbrev P : ℕ
  P = length (places t)

  abbrev place_on : ℕ → Place
  place_on x = get_or (places t) (place_of P x) (p_fork [])

  pair_step : (x : ℕ) → StepAt holds n (level_of t) P (position_of P x) (place_on x) (pair_ways holds n (places t) x)
  unfolding pair_ways
  pair_step x =
      at-step holds n (level_of t) P (x / P) (level_of t (x % P)) (place_on x)
      (rw (places-length t) (places-edges t (x % states t) (mod-lt x (some-state t))))

  -- a path has a label for each row it moves on
  path_rows : {x : ℕ} {p : List ℕ} → IsPath (pair_ways holds n (places t)) x p → position_of P x ≤ n → position_of P x + length (labels (places t) p) ≤ n
  unfolding labels
  path_rows {x} (here e) h =
      let d : takes (place_on x) ≡ 0 = rw e at (pair_step x) in
      omega (arith, label_length (place_on x) [], d)
  path_rows {x} (there {y = y} {ys = ys} {p = p} e m r) h =
      let a : All (λ y. (y / P ≡ x / P + takes (place_on x)) × (x / P ≤ n → y / P ≤ n)) ys = rw e at (pair_step x) in
      let b = All-at (λ y. (y / P ≡ x / P + takes (place_on x)) × (x / P ≤ n → y / P ≤ n)) m a in
      omega (arith, label_length (place_on x) (labels (places t) p), path_rows r (b.1 h), b.0)

  -- a match at a row below n
  found_rows : (i : ℕ) (p : List ℕ) → i < n → plain (pair_ways holds n (places t)) (pairs P n) (first_at P i) ≡ some p → i + length (labels (places t) p) ≤ n
  found_rows i p h e =
      let s = (starts t holds n i h).1 in
      rw s at (path_rows (plain-path (pair_ways holds n (places t)) (pairs P n) (first_at P i) p e) (rw s (omega arith)))

  -- ---- all matches

  -- the rows of each match are there
  abbrev pub Within : List Match → Type 0
  Within [] = Unit {0}
  Within (m ∷ ms) = (m.start + length (labels (places t) m.path) ≤ n) × Within ms

  within-front : (xs ys zs : List Match) → ys ≡ xs ++ zs → Within ys → Within xs
  within-front xs ys zs e a = front xs (rw e at a)
    where
      front : (xs : List Match) → Within (xs ++ zs) → Within xs
      front [] a = tt
      front (x ∷ xs) a = (a.0, front xs a.1)

  module _ (skip : Skip) (fits : ℕ → ℕ → List ℕ → Bool) where
    abbrev plan : Plan
    plan = plan_of (places t) n false skip fits

    abbrev att : ℕ → Unit {0} → Attempted × Unit {0}
    att = plain_at (pair_ways holds n (places t)) (pairs P n) (first_at P)

    plain-within : (k i m l : ℕ) (st : Unit {0}) → Within (sweep att plan k (stand_at i m l) st).matches
    unfolding sweep plan_of
    plain-within zero i m l st = tt
    plain-within (suc k) i m l st = go (plain-within k) (ltb i n) refl
      where
        fit : ((i m l : ℕ) (st : Unit {0}) → Within (sweep att plan k (stand_at i m l) st).matches) → i < n → (p : List ℕ) → plain (pair_ways holds n (places t)) (pairs P n) (first_at P i) ≡ some p → (o : Option ℕ) (b : Bool)
            → Within (on_match b o (record { start = i; path = p }) st (λ j. sweep att plan k (stand_at j (suc m) (l + plan.rows p)) st)).matches
        fit ih h p e o false = tt
        fit ih h p e none true = (found_rows i p h e, tt)
        fit ih h p e (some j) true = (found_rows i p h e, ih j (suc m) (l + plan.rows p) st)

        on : ((i m l : ℕ) (st : Unit {0}) → Within (sweep att plan k (stand_at i m l) st).matches) → i < n → (o : Option (List ℕ)) → plain (pair_ways holds n (places t)) (pairs P n) (first_at P i) ≡ o
            → Within (on_answer plan (sweep att plan k) (stand_at i m l) (plainly o) st).matches
        on ih h none e = ih (suc i) m l st
        on ih h (some p) e = fit ih h p e (plan.next i p) (plan.fits m l p)

        go : ((i m l : ℕ) (st : Unit {0}) → Within (sweep att plan k (stand_at i m l) st).matches) → (b : Bool) → ltb i n ≡ b
            → Within (below b (ended (no_start false i) st) (λ _. on_answer plan (sweep att plan k) (stand_at i m l) (plainly (plain (pair_ways holds n (places t)) (pairs P n) (first_at P i))) st)).matches
        go ih false e = tt
        go ih true e = on ih (ltb-true i n e) (plain (pair_ways holds n (places t)) (pairs P n) (first_at P i)) refl

    -- on any terms
    pub search_rows : (terms : Terms) → n ≤ terms.largest → Within (walk_search terms (seek holds n (places t) skip fits)).matches
    unfolding plain_search
    search_rows terms le =
        let f = search_follows t holds n terms le skip fits in
        within-front (walk_search terms (seek holds n (places t) skip fits)).matches (plain_search (seek holds n (places t) skip fits)).matches f.begins.0 f.begins.1 (plain-within n 0 0 0 tt)

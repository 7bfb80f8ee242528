-- The pairs still open where a search has halted: they lead from the first pair of the unfinished
-- attempt one to the next, and no pair stands twice.
use mathlib.Core.Path.{◌≡◌, refl, ap}
use mathlib.Core.List.{List, [], ◌∷◌, Memᴰ}
use mathlib.Core.Bool.{Bool, true, false}
use mathlib.Core.Logic.{◌⊎◌, inl, inr, ⊎_elim, ◌≢◌}
use mathlib.Core.Option.{Option, none, some}
use Prim.Native.Nat.{ℕ, zero, suc, ◌+◌, ◌≤◌, ◌<◌}
use native.Mathlib.Omega.{arith}
use lib.ListN.{length, get_or, replicate}
use lib.Dec.{ltb}
use borrow.Author.Tests.{ne_eqb}
use Rattle.rules.specs.Basics.{has, repeats}
use Rattle.rules.specs.Places.{Place}
use Rattle.rules.specs.Search.{Match, End, done, full, stuck, unfinished, Skip, Swept, Plan, ended, no_start, below, on_answer, sweep, answered, walk_at, Terms, halting_of, plan_of, walk_search, Standing, on_match, seek, stand_at}
use Rattle.rules.specs.Walk.{IsOpen, last_open, open_before, Ways, accept, try, Halting, Outcome, found, failed, halted, or_else, close, enter_unless, tries, inside, inside_by, pairs, first_at, pair_ways, Kept, as_kept, one_step}
use Rattle.laws.proofs.Walk.{All-map, All-at, Apart}
use Rattle.rules.specs.Working.{All, Falls}

module _ (h : Halting) (ways : ℕ → Ways) where
  -- where a walk halts, its open pairs lead from x on; among ways tried, from one of them, or none
  -- is open yet
  abbrev Leads : ℕ → Outcome → Type 0
  Leads x (found p kept) = Unit {0}
  Leads x (failed kept) = Unit {0}
  Leads x (halted w p kept) = IsOpen ways x p

  abbrev LeadsAmong : List ℕ → Outcome → Type 0
  LeadsAmong ys (found p kept) = Unit {0}
  LeadsAmong ys (failed kept) = Unit {0}
  LeadsAmong ys (halted w p kept) = (p ≡ []) ⊎ ((y : ℕ) × (Memᴰ y ys) × IsOpen ways y p)

  among-more : (y : ℕ) (ys : List ℕ) (r : Outcome) → LeadsAmong ys r → LeadsAmong (y ∷ ys) r
  among-more y ys (found p kept) a = tt
  among-more y ys (failed kept) a = tt
  among-more y ys (halted w p kept) a = ⊎_elim (λ e. inl e) (λ (b : (z : ℕ) × (Memᴰ z ys) × IsOpen ways z p). inr (b.0, Memᴰ.tail b.1, b.2)) a

  tries-lead : (f : Kept → ℕ → Outcome) → ((F : List Bool) (s y : ℕ) → Leads y (f (as_kept F s) y)) → (ys : List ℕ) (F : List Bool) (s : ℕ) → LeadsAmong ys (tries h f (as_kept F s) ys)
  unfolding tries
  tries-lead f a [] F s = tt
  tries-lead f a (y ∷ ys) F s = go (λ F' s'. tries-lead f a ys F' s') (get_or F y false) (h.spent s)
    where
      after : ((F' : List Bool) (s' : ℕ) → LeadsAmong ys (tries h f (as_kept F' s') ys)) → (r : Outcome) → Leads y r → LeadsAmong (y ∷ ys) (or_else r (λ kept'. tries h f kept' ys))
      after rest (found p kept') b = tt
      after rest (failed kept') b = among-more y ys (tries h f kept' ys) (rest kept'.failed kept'.steps)
      after rest (halted w p kept') b = inr (y, Memᴰ.head refl, b)

      go : ((F' : List Bool) (s' : ℕ) → LeadsAmong ys (tries h f (as_kept F' s') ys)) → (t u : Bool) → LeadsAmong (y ∷ ys) (or_else (enter_unless t u f (as_kept F s) y) (λ kept'. tries h f kept' ys))
      go rest true u = among-more y ys (tries h f (as_kept F s) ys) (rest F s)
      go rest false true = inl refl
      go rest false false = after rest (f (as_kept F (suc s)) y) (a F (suc s) y)

  close-leads : (x : ℕ) (ys : List ℕ) → ways x ≡ try ys → (r : Outcome) → LeadsAmong ys r → Leads x (close x r)
  close-leads x ys e (found p kept) a = tt
  close-leads x ys e (failed kept) a = tt
  close-leads x ys e (halted w p kept) a = ⊎_elim (λ (q : p ≡ []). rw q last_open) (λ (b : (y : ℕ) × (Memᴰ y ys) × IsOpen ways y p). open_before e b.1 b.2) a

  inside-leads : (k : ℕ) (F : List Bool) (s x : ℕ) → Leads x (inside h ways k (as_kept F s) x)
  unfolding inside inside_by
  inside-leads zero F s x = tt
  inside-leads (suc k) F s x = go (inside-leads k) (h.waits x) (ways x) refl
    where
      go : ((F : List Bool) (s x : ℕ) → Leads x (inside h ways k (as_kept F s) x)) → (u : Bool) (w : Ways) → ways x ≡ w → Leads x (inside_by h u w (inside h ways k) (as_kept F s) x)
      go ih true w e = last_open
      go ih false accept e = tt
      go ih false (try ys) e = close-leads x ys e (tries h (inside h ways k) (as_kept F s) ys) (tries-lead (inside h ways k) ih ys F s)

  module _ (K : ℕ) (first : ℕ → ℕ) (plan : Plan) where
    abbrev pub EndLeads : End Match → Type 0
    EndLeads done = Unit {0}
    EndLeads (full m) = Unit {0}
    EndLeads stuck = Unit {0}
    EndLeads (unfinished w i p) = (p ≡ []) ⊎ IsOpen ways (first i) p

    abbrev LeadsOn : (Standing → Kept → Swept Kept) → Type 0
    LeadsOn f = (i m l : ℕ) (st : Kept) → EndLeads (f (stand_at i m l) st).end

    none-leads : (more : Bool) (i : ℕ) → EndLeads (no_start more i)
    none-leads false i = tt
    none-leads true i = inl refl

    answer_leads : (f : Standing → Kept → Swept Kept) → LeadsOn f → (i m l : ℕ) (r : Outcome) → (LeadsAmong (first i ∷ []) r) → EndLeads (on_answer plan f (stand_at i m l) (answered r).0 (answered r).1).end
    answer_leads f ih i m l (failed kept) a = ih (suc i) m l kept
    answer_leads f ih i m l (halted w p kept) a = ⊎_elim (λ q. inl q) (λ (b : (y : ℕ) × (Memᴰ y (first i ∷ [])) × IsOpen ways y p). inr (only b.0 b.1 b.2)) a
      where
        only : (y : ℕ) → Memᴰ y (first i ∷ []) → IsOpen ways y p → IsOpen ways (first i) p
        only y m o = All-at (λ z. IsOpen ways z p → IsOpen ways (first i) p) m (λ x. x, tt) o
    answer_leads f ih i m l (found p kept) a = go (plan.next i p) (plan.fits m l p)
      where
        go : (o : Option ℕ) (t : Bool) → EndLeads (on_match t o (record { start = i; path = p }) kept (λ j. f (stand_at j (suc m) (l + plan.rows p)) kept)).end
        go o false = tt
        go none true = tt
        go (some j) true = ih j (suc m) (l + plan.rows p) kept

    pub sweep-leads : (k : ℕ) → LeadsOn (sweep (walk_at h ways K first) plan k)
    unfolding sweep
    sweep-leads zero i m l st = none-leads plan.more i
    sweep-leads (suc k) i m l st = go (sweep-leads k) (ltb i plan.n)
      where
        tried : (t u : Bool) → LeadsAmong (first i ∷ []) (enter_unless t u (inside h ways K) st (first i))
        tried true u = tt
        tried false true = inl refl
        tried false false = among (inside h ways K (one_step st) (first i)) (inside-leads K st.failed (suc st.steps) (first i))
          where
            among : (r : Outcome) → Leads (first i) r → LeadsAmong (first i ∷ []) r
            among (found p kept) a = tt
            among (failed kept) a = tt
            among (halted w p kept) a = inr (first i, Memᴰ.head refl, a)

        go : LeadsOn (sweep (walk_at h ways K first) plan k) → (t : Bool)
            → EndLeads (below t (ended (no_start plan.more i) st) (λ _. on_answer plan (sweep (walk_at h ways K first) plan k) (stand_at i m l) (walk_at h ways K first i st).0 (walk_at h ways K first i st).1)).end
        go ih false = none-leads plan.more i
        go ih true =
            answer_leads (sweep (walk_at h ways K first) plan k) ih i m l (enter_unless (get_or st.failed (first i) false) (h.spent st.steps) (inside h ways K) st (first i)) (tried (get_or st.failed (first i) false) (h.spent st.steps))

-- over any places, on any terms
pub search_leads : (terms : Terms) (holds : ℕ → ℕ → Bool) (n : ℕ) (pl : List Place) (skip : Skip) (fits : ℕ → ℕ → List ℕ → Bool)
    → EndLeads (halting_of terms pl n) (pair_ways holds n pl) (pairs (length pl) terms.largest) (first_at (length pl)) (plan_of pl n terms.more skip fits) (walk_search terms (seek holds n pl skip fits)).end
unfolding walk_search
search_leads terms holds n pl skip fits =
    sweep-leads (halting_of terms pl n) (pair_ways holds n pl) (pairs (length pl) terms.largest) (first_at (length pl)) (plan_of pl n terms.more skip fits) n 0 0 0 (as_kept (replicate (pairs (length pl) terms.largest) false) 0)

-- ---- no pair is open twice

module _ (ways : ℕ → Ways) (ρ : ℕ → ℕ) (N : ℕ) (falls : Falls ways ρ N) where
  open_below : {x : ℕ} {p : List ℕ} → IsOpen ways x p → All (λ z. ρ z ≤ ρ x) p
  open_below last_open = (omega arith, tt)
  open_below {x} (open_before {y = y} {ys = ys} {p = p} e m o) =
      let d = All-at (λ y. (ρ y < ρ x) × (x < N → y < N)) m (falls x ys e) in
      (omega arith, All-map (λ z (r : ρ z ≤ ρ y). omega arith) p (open_below o))

  open_apart : {x : ℕ} {p : List ℕ} → IsOpen ways x p → Apart p
  open_apart last_open = (tt, tt)
  open_apart {x} (open_before {y = y} {ys = ys} {p = p} e m o) =
      let d = All-at (λ y. (ρ y < ρ x) × (x < N → y < N)) m (falls x ys e) in
      (All-map {Q = λ z. z ≢ x} (λ z (r : ρ z ≤ ρ y) (q : z ≡ x). let c : ρ z ≡ ρ x = ap ρ q in omega arith) p (open_below o), open_apart o)

-- so none is counted twice
apart_once : (p : List ℕ) → Apart p → repeats p ≡ false
unfolding repeats
apart_once [] a = refl
apart_once (x ∷ xs) a = rw (apart_from x xs a.0) (apart_once xs a.1)
  where
    apart_from : (x : ℕ) (xs : List ℕ) → All (λ z. z ≢ x) xs → has x xs ≡ false
    apart_from x [] b = refl
    apart_from x (y ∷ ys) b = rw (ne_eqb y x b.0) (apart_from x ys b.1)

pub open_once : (ways : ℕ → Ways) (ρ : ℕ → ℕ) (N : ℕ) → Falls ways ρ N → {x : ℕ} {p : List ℕ} → (p ≡ []) ⊎ IsOpen ways x p → repeats p ≡ false
unfolding repeats
open_once ways ρ N falls {x} {p} a = ⊎_elim (λ (q : p ≡ []). rw q) (λ (o : IsOpen ways x p). apart_once p (open_apart ways ρ N falls o)) a

-- When a search by the counted walk waits for rows, over any graph (R-11): where no pair waits and
-- no more rows may come, it never does (`sweep-no_wait`); where more rows may come, it is never
-- done (`sweep-not_done`).
use mathlib.Core.Path.{◌≡◌, refl}
use mathlib.Core.List.{List, [], ◌∷◌}
use mathlib.Core.Bool.{Bool, true, false, true≢false, false≢true}
use mathlib.Core.Option.{Option, none, some}
use Prim.Native.Nat.{ℕ, zero, suc, ◌+◌}
use lib.ListN.{length, get_or, replicate}
use lib.Dec.{ltb}
use Rattle.rules.specs.Places.{Place}
use Rattle.rules.specs.Search.{Match, End, done, full, stuck, unfinished, Skip, Attempted, hit, miss, halts, Swept, Plan, ended, no_start, below, on_answer, sweep, answered, walk_at, halting_of, plan_of, walk_search, Standing, on_match, seek, stand_at}
use Rattle.rules.specs.Walk.{Ways, accept, try, Halt, out_of_steps, out_of_rows, Halting, Outcome, found, failed, halted, or_else, close, enter_unless, tries, inside, inside_by, pairs, first_at, pair_ways, Kept, as_kept}

-- ---- never for rows

abbrev ForSteps : Halt → Type 0
ForSteps out_of_steps = Unit {0}
ForSteps out_of_rows = ⊥

abbrev NoWait : Outcome → Type 0
NoWait (found p kept) = Unit {0}
NoWait (failed kept) = Unit {0}
NoWait (halted w p kept) = ForSteps w

abbrev pub EndNoWait : End Match → Type 0
EndNoWait done = Unit {0}
EndNoWait (full m) = Unit {0}
EndNoWait stuck = Unit {0}
EndNoWait (unfinished w i p) = ForSteps w

pub no-rows_end : (e : End Match) → EndNoWait e → (i : ℕ) (p : List ℕ) → e ≡ unfinished out_of_rows i p → ⊥
no-rows_end e a i p d = rw d at a

module _ (h : Halting) (ways : ℕ → Ways) (sure : (x : ℕ) → h.waits x ≡ false) where
  no_or : (r : Outcome) (f : Kept → Outcome) → NoWait r → ((F : List Bool) (s : ℕ) → NoWait (f (as_kept F s))) → NoWait (or_else r f)
  no_or (found p kept) f b k = tt
  no_or (failed kept) f b k = k kept.failed kept.steps
  no_or (halted w p kept) f b k = b

  no-close : (x : ℕ) (r : Outcome) → NoWait r → NoWait (close x r)
  no-close x (found p kept) b = tt
  no-close x (failed kept) b = tt
  no-close x (halted w p kept) b = b

  abbrev NoWaitIn : (Kept → ℕ → Outcome) → Type 0
  NoWaitIn f = (F : List Bool) (s x : ℕ) → NoWait (f (as_kept F s) x)

  no-enter : (f : Kept → ℕ → Outcome) → NoWaitIn f → (F : List Bool) (s y : ℕ) (t u : Bool) → NoWait (enter_unless t u f (as_kept F s) y)
  no-enter f ih F s y true u = tt
  no-enter f ih F s y false true = tt
  no-enter f ih F s y false false = ih F (suc s) y

  no-tries : (f : Kept → ℕ → Outcome) → NoWaitIn f → (ys : List ℕ) (F : List Bool) (s : ℕ) → NoWait (tries h f (as_kept F s) ys)
  unfolding tries
  no-tries f ih [] F s = tt
  no-tries f ih (y ∷ ys) F s =
      no_or (enter_unless (get_or F y false) (h.spent s) f (as_kept F s) y) (λ kept'. tries h f kept' ys) (no-enter f ih F s y (get_or F y false) (h.spent s)) (λ F' s'. no-tries f ih ys F' s')

  no-inside : (k : ℕ) → NoWaitIn (inside h ways k)
  unfolding inside inside_by
  no-inside zero F s x = tt
  no-inside (suc k) F s x = go (no-inside k) (h.waits x) (sure x) (ways x)
    where
      go : NoWaitIn (inside h ways k) → (t : Bool) → t ≡ false → (w : Ways) → NoWait (inside_by h t w (inside h ways k) (as_kept F s) x)
      go ih true e w = absurd (true≢false e)
      go ih false e accept = tt
      go ih false e (try ys) = no-close x (tries h (inside h ways k) (as_kept F s) ys) (no-tries (inside h ways k) ih ys F s)

  module _ (K : ℕ) (first : ℕ → ℕ) (plan : Plan) (ends : plan.more ≡ false) where
    abbrev NoWaitOn : (Standing → Kept → Swept Kept) → Type 0
    NoWaitOn f = (i m l : ℕ) (st : Kept) → EndNoWait (f (stand_at i m l) st).end

    no_answer : (f : Standing → Kept → Swept Kept) → NoWaitOn f → (i m l : ℕ) (r : Outcome) → NoWait r → EndNoWait (on_answer plan f (stand_at i m l) (answered r).0 (answered r).1).end
    no_answer f ih i m l (failed kept) b = ih (suc i) m l kept
    no_answer f ih i m l (halted w p kept) b = b
    no_answer f ih i m l (found p kept) b = go (plan.next i p) (plan.fits m l p)
      where
        go : (o : Option ℕ) (t : Bool) → EndNoWait (on_match t o (record { start = i; path = p }) kept (λ j. f (stand_at j (suc m) (l + plan.rows p)) kept)).end
        go o false = tt
        go none true = tt
        go (some j) true = ih j (suc m) (l + plan.rows p) kept

    no_start_lem : (more : Bool) → more ≡ false → (i : ℕ) → EndNoWait (no_start more i)
    no_start_lem false e i = tt
    no_start_lem true e i = absurd (true≢false e)

    pub sweep-no_wait : (k : ℕ) → NoWaitOn (sweep (walk_at h ways K first) plan k)
    unfolding sweep
    sweep-no_wait zero i m l st = no_start_lem plan.more ends i
    sweep-no_wait (suc k) i m l st = go (sweep-no_wait k) (ltb i plan.n)
      where
        go : NoWaitOn (sweep (walk_at h ways K first) plan k) → (t : Bool)
            → EndNoWait (below t (ended (no_start plan.more i) st) (λ _. on_answer plan (sweep (walk_at h ways K first) plan k) (stand_at i m l) (walk_at h ways K first i st).0 (walk_at h ways K first i st).1)).end
        go ih false = no_start_lem plan.more ends i
        go ih true =
            no_answer (sweep (walk_at h ways K first) plan k) ih i m l (enter_unless (get_or st.failed (first i) false) (h.spent st.steps) (inside h ways K) st (first i))
            (no-enter (inside h ways K) (no-inside K) st.failed st.steps (first i) (get_or st.failed (first i) false) (h.spent st.steps))

-- ---- never done

abbrev pub NotDone : End Match → Type 0
NotDone done = ⊥
NotDone (full m) = Unit {0}
NotDone stuck = Unit {0}
NotDone (unfinished w i p) = Unit {0}

pub not-done_end : (e : End Match) → NotDone e → e ≡ done → ⊥
not-done_end e a d = rw d at a

module _ {S : Type 0} (attempt : ℕ → S → Attempted × S) (plan : Plan) (more : plan.more ≡ true) where
  abbrev GoingOn : (Standing → S → Swept S) → Type 0
  GoingOn f = (i m l : ℕ) (st : S) → NotDone (f (stand_at i m l) st).end

  on-answer : (f : Standing → S → Swept S) → GoingOn f → (i m l : ℕ) (o : Attempted) (st : S) → NotDone (on_answer plan f (stand_at i m l) o st).end
  on-answer f ih i m l miss st = ih (suc i) m l st
  on-answer f ih i m l (halts w p) st = tt
  on-answer f ih i m l (hit p) st = go (plan.next i p) (plan.fits m l p)
    where
      go : (o : Option ℕ) (t : Bool) → NotDone (on_match t o (record { start = i; path = p }) st (λ j. f (stand_at j (suc m) (l + plan.rows p)) st)).end
      go o false = tt
      go none true = tt
      go (some j) true = ih j (suc m) (l + plan.rows p) st

  on-start : (b : Bool) → b ≡ true → (i : ℕ) → NotDone (no_start b i)
  on-start true e i = tt
  on-start false e i = absurd (false≢true e)

  pub sweep-not_done : (k : ℕ) → GoingOn (sweep attempt plan k)
  unfolding sweep
  sweep-not_done zero i m l st = on-start plan.more more i
  sweep-not_done (suc k) i m l st = go (sweep-not_done k) (ltb i plan.n)
    where
      go : GoingOn (sweep attempt plan k) → (t : Bool)
          → NotDone (below t (ended (no_start plan.more i) st) (λ _. on_answer plan (sweep attempt plan k) (stand_at i m l) (attempt i st).0 (attempt i st).1)).end
      go ih false = on-start plan.more more i
      go ih true = on-answer (sweep attempt plan k) ih i m l (attempt i st).0 (attempt i st).1

-- ---- for places

module _ (largest : ℕ) (allowance : Option ℕ) (holds : ℕ → ℕ → Bool) (n : ℕ) (pl : List Place) (skip : Skip) (fits : ℕ → ℕ → List ℕ → Bool) where
  pub search_no_wait : EndNoWait (walk_search (record { largest = largest; more = false; allowance = allowance }) (seek holds n pl skip fits)).end
  unfolding walk_search halting_of plan_of
  search_no_wait =
      sweep-no_wait (halting_of (record { largest = largest; more = false; allowance = allowance }) pl n) (pair_ways holds n pl) (λ x. refl) (pairs (length pl) largest) (first_at (length pl))
      (plan_of pl n false skip fits) refl n 0 0 0 (as_kept (replicate (pairs (length pl) largest) false) 0)

  pub search_not_done : NotDone (walk_search (record { largest = largest; more = true; allowance = allowance }) (seek holds n pl skip fits)).end
  unfolding walk_search halting_of plan_of
  search_not_done =
      sweep-not_done (walk_at (halting_of (record { largest = largest; more = true; allowance = allowance }) pl n) (pair_ways holds n pl) (pairs (length pl) largest) (first_at (length pl)))
      (plan_of pl n true skip fits) refl n 0 0 0 (as_kept (replicate (pairs (length pl) largest) false) 0)

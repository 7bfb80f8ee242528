-- What does not wait for a row does not change when rows come (R-11): a walk, and a search, that
-- has come to an outcome other than waiting comes to the same with more rows and the same allowance
-- of steps. So 13, 15 and 16 stay the answer.
use mathlib.Core.Path.{◌≡◌, refl, ap, ◌∙◌}
use mathlib.Core.List.{List, [], ◌∷◌}
use mathlib.Core.Bool.{Bool, true, false}
use mathlib.Core.Logic.{⊎_elim}
use mathlib.Core.Option.{Option, none, some}
use Prim.Native.Nat.{ℕ, zero, suc, ◌+◌, ◌≤◌}
use native.Mathlib.Nat.{le_trans}
use lib.ListN.{length, get_or, replicate}
use lib.Dec.{ltb}
use borrow.Author.Tests.{ltb-true, lt-ltb}
use Rattle.rules.specs.Places.{Unrolled, places}
use Rattle.rules.specs.Search.{Match, End, done, full, stuck, unfinished, Skip, Attempted, hit, miss, halts, Swept, Plan, ended, no_start, below, with_match, on_answer, sweep, answered, walk_at, Terms, halting_of, plan_of, walk_search, Standing, on_match, seek, stand_at}
use Rattle.rules.specs.Walk.{Ways, accept, try, out_of_steps, out_of_rows, Halting, Outcome, found, failed, halted, or_else, close, enter_unless, tries, inside, inside_by, pairs, first_at, pair_ways, Kept, as_kept}
use Rattle.laws.proofs.Fuel.{sweep-enough, plan-on}
use Rattle.laws.proofs.GoesOn.{Sooner, extended}

abbrev pub Settled : Outcome → Type 0
Settled (found p kept) = Unit {0}
Settled (failed kept) = Unit {0}
Settled (halted out_of_steps p kept) = Unit {0}
Settled (halted out_of_rows p kept) = ⊥

abbrev pub SettledEnd : End Match → Type 0
SettledEnd done = Unit {0}
SettledEnd (full m) = Unit {0}
SettledEnd stuck = Unit {0}
SettledEnd (unfinished out_of_steps i p) = Unit {0}
SettledEnd (unfinished out_of_rows i p) = ⊥

module _ (h₁ h₂ : Halting) (ways₁ ways₂ : ℕ → Ways) (sooner : Sooner h₁ h₂ ways₁ ways₂) (same : (s : ℕ) → h₂.spent s ≡ h₁.spent s) where
  abbrev StaysAt : ℕ → Type 0
  StaysAt k = (F : List Bool) (s x : ℕ) → Settled (inside h₁ ways₁ k (as_kept F s) x) → inside h₂ ways₂ k (as_kept F s) x ≡ inside h₁ ways₁ k (as_kept F s) x

  settled-or : (r : Outcome) (f : Kept → Outcome) → Settled (or_else r f) → Settled r
  settled-or (found p kept) f a = tt
  settled-or (failed kept) f a = tt
  settled-or (halted out_of_steps p kept) f a = tt
  settled-or (halted out_of_rows p kept) f a = a

  settled-close : (x : ℕ) (r : Outcome) → Settled (close x r) → Settled r
  settled-close x (found p kept) a = tt
  settled-close x (failed kept) a = tt
  settled-close x (halted out_of_steps p kept) a = tt
  settled-close x (halted out_of_rows p kept) a = a

  tries-stays : (k : ℕ) → StaysAt k → (ys : List ℕ) (F : List Bool) (s : ℕ) → Settled (tries h₁ (inside h₁ ways₁ k) (as_kept F s) ys)
      → tries h₂ (inside h₂ ways₂ k) (as_kept F s) ys ≡ tries h₁ (inside h₁ ways₁ k) (as_kept F s) ys
  unfolding tries
  tries-stays k ih [] F s a = refl
  tries-stays k ih (y ∷ ys) F s a = rw (same s) (go (λ F' s'. tries-stays k ih ys F' s') (get_or F y false) (h₁.spent s) a)
    where
      Rest : Type 0
      Rest = (F' : List Bool) (s' : ℕ) → Settled (tries h₁ (inside h₁ ways₁ k) (as_kept F' s') ys) → tries h₂ (inside h₂ ways₂ k) (as_kept F' s') ys ≡ tries h₁ (inside h₁ ways₁ k) (as_kept F' s') ys

      after : Rest → (r : Outcome) → Settled (or_else r (λ kept'. tries h₁ (inside h₁ ways₁ k) kept' ys))
          → or_else r (λ kept'. tries h₂ (inside h₂ ways₂ k) kept' ys) ≡ or_else r (λ kept'. tries h₁ (inside h₁ ways₁ k) kept' ys)
      after rest (found p kept') b = refl
      after rest (failed kept') b = rest kept'.failed kept'.steps b
      after rest (halted w p kept') b = refl

      go : Rest → (t u : Bool) → Settled (or_else (enter_unless t u (inside h₁ ways₁ k) (as_kept F s) y) (λ kept'. tries h₁ (inside h₁ ways₁ k) kept' ys))
          → or_else (enter_unless t u (inside h₂ ways₂ k) (as_kept F s) y) (λ kept'. tries h₂ (inside h₂ ways₂ k) kept' ys)
          ≡ or_else (enter_unless t u (inside h₁ ways₁ k) (as_kept F s) y) (λ kept'. tries h₁ (inside h₁ ways₁ k) kept' ys)
      go rest true u b = rest F s b
      go rest false true b = refl
      go rest false false b =
          let r = inside h₁ ways₁ k (as_kept F (suc s)) y in
          rw (ih F (suc s) y (settled-or r (λ kept'. tries h₁ (inside h₁ ways₁ k) kept' ys) b)) (after rest r b)

  pub inside-stays : (k : ℕ) → StaysAt k
  unfolding inside inside_by
  inside-stays zero F s x a = refl
  inside-stays (suc k) F s x a = ⊎_elim waiting (goes (inside-stays k)) (sooner.ways x)
    where
      waiting : h₁.waits x ≡ true → inside_by h₂ (h₂.waits x) (ways₂ x) (inside h₂ ways₂ k) (as_kept F s) x ≡ inside_by h₁ (h₁.waits x) (ways₁ x) (inside h₁ ways₁ k) (as_kept F s) x
      waiting e = absurd (rw e at a)

      by : StaysAt k → (w : Ways) → Settled (inside_by h₁ false w (inside h₁ ways₁ k) (as_kept F s) x) → inside_by h₂ false w (inside h₂ ways₂ k) (as_kept F s) x ≡ inside_by h₁ false w (inside h₁ ways₁ k) (as_kept F s) x
      by ih accept b = refl
      by ih (try ys) b = ap (close x) (tries-stays k ih ys F s (settled-close x (tries h₁ (inside h₁ ways₁ k) (as_kept F s) ys) b))

      goes : StaysAt k → (h₁.waits x ≡ false) × (h₂.waits x ≡ false) × (ways₁ x ≡ ways₂ x)
          → inside_by h₂ (h₂.waits x) (ways₂ x) (inside h₂ ways₂ k) (as_kept F s) x ≡ inside_by h₁ (h₁.waits x) (ways₁ x) (inside h₁ ways₁ k) (as_kept F s) x
      goes ih e =
          let b : Settled (inside_by h₁ false (ways₁ x) (inside h₁ ways₁ k) (as_kept F s) x) = rw e.0 at a in
          rw (e.0, e.1, ← e.2) (by ih (ways₁ x) b)

  module _ (K : ℕ) (first : ℕ → ℕ) (plan : Plan) (open-ended : plan.more ≡ true) (n₂ : ℕ) (more₂ : Bool) (le : plan.n ≤ n₂) where
    abbrev att₁ : ℕ → Kept → Attempted × Kept
    att₁ = walk_at h₁ ways₁ K first

    abbrev att₂ : ℕ → Kept → Attempted × Kept
    att₂ = walk_at h₂ ways₂ K first

    abbrev plan₂ : Plan
    plan₂ = extended plan n₂ more₂

    abbrev StaysOn : (Standing → Kept → Swept Kept) → (Standing → Kept → Swept Kept) → Type 0
    StaysOn f g = (i m l : ℕ) (st : Kept) → SettledEnd (g (stand_at i m l) st).end → f (stand_at i m l) st ≡ g (stand_at i m l) st

    settled-answer : (r : Outcome) (g : Standing → Kept → Swept Kept) (i m l : ℕ) → SettledEnd (on_answer plan g (stand_at i m l) (answered r).0 (answered r).1).end → Settled r
    settled-answer (found p kept) g i m l a = tt
    settled-answer (failed kept) g i m l a = tt
    settled-answer (halted out_of_steps p kept) g i m l a = tt
    settled-answer (halted out_of_rows p kept) g i m l a = a

    answer_stays : (f g : Standing → Kept → Swept Kept) → StaysOn f g → (i m l : ℕ) (o : Attempted) (st : Kept) → SettledEnd (on_answer plan g (stand_at i m l) o st).end
        → on_answer plan₂ f (stand_at i m l) o st ≡ on_answer plan g (stand_at i m l) o st
    answer_stays f g ih i m l miss st a = ih (suc i) m l st a
    answer_stays f g ih i m l (halts w p) st a = refl
    answer_stays f g ih i m l (hit p) st a = go (plan.next i p) (plan.fits m l p) a
      where
        go : (o : Option ℕ) (t : Bool) → SettledEnd (on_match t o (record { start = i; path = p }) st (λ j. g (stand_at j (suc m) (l + plan.rows p)) st)).end
            → on_match t o (record { start = i; path = p }) st (λ j. f (stand_at j (suc m) (l + plan.rows p)) st)
            ≡ on_match t o (record { start = i; path = p }) st (λ j. g (stand_at j (suc m) (l + plan.rows p)) st)
        go o false b = refl
        go none true b = refl
        go (some j) true b = ap (with_match (record { start = i; path = p })) (ih j (suc m) (l + plan.rows p) st b)

    none-settled : (i : ℕ) → SettledEnd (no_start plan.more i) → ⊥
    none-settled i = rw open-ended (λ b. b)

    pub sweep-stays : (k : ℕ) → StaysOn (sweep att₂ plan₂ k) (sweep att₁ plan k)
    unfolding sweep
    sweep-stays zero i m l st a = absurd (none-settled i a)
    sweep-stays (suc k) i m l st a = go (sweep-stays k) (ltb i plan.n) refl a
      where
        tried : (t u : Bool) → Settled (enter_unless t u (inside h₁ ways₁ K) st (first i))
            → enter_unless t u (inside h₂ ways₂ K) st (first i) ≡ enter_unless t u (inside h₁ ways₁ K) st (first i)
        tried true u b = refl
        tried false true b = refl
        tried false false b = inside-stays K st.failed (suc st.steps) (first i) b

        go : StaysOn (sweep att₂ plan₂ k) (sweep att₁ plan k) → (t : Bool) → ltb i plan.n ≡ t
            → SettledEnd (below t (ended (no_start plan.more i) st) (λ _. on_answer plan (sweep att₁ plan k) (stand_at i m l) (att₁ i st).0 (att₁ i st).1)).end
            → below (ltb i n₂) (ended (no_start more₂ i) st) (λ _. on_answer plan₂ (sweep att₂ plan₂ k) (stand_at i m l) (att₂ i st).0 (att₂ i st).1)
            ≡ below t (ended (no_start plan.more i) st) (λ _. on_answer plan (sweep att₁ plan k) (stand_at i m l) (att₁ i st).0 (att₁ i st).1)
        go ih false e b = absurd (none-settled i b)
        go ih true e b =
            let r = enter_unless (get_or st.failed (first i) false) (h₁.spent st.steps) (inside h₁ ways₁ K) st (first i) in
            let c = settled-answer r (sweep att₁ plan k) i m l b in
            let d : att₂ i st ≡ att₁ i st = rw (same st.steps) (ap answered (tried (get_or st.failed (first i) false) (h₁.spent st.steps) c)) in
            rw (lt-ltb i n₂ (le_trans (ltb-true i plan.n e) le))
            (ap (λ (q : Attempted × Kept). on_answer plan₂ (sweep att₂ plan₂ k) (stand_at i m l) q.0 q.1) d ∙ answer_stays (sweep att₂ plan₂ k) (sweep att₁ plan k) ih i m l (att₁ i st).0 (att₁ i st).1 b)

-- ---- a pattern

module _ (t : Unrolled) (skip : Skip) (fits : ℕ → ℕ → List ℕ → Bool) (holds₁ holds₂ : ℕ → ℕ → Bool) (n₁ n₂ largest : ℕ) (allowance : Option ℕ) (more₂ : Bool) (le : n₁ ≤ n₂) where
  abbrev terms₁ : Terms
  terms₁ = record { largest = largest; more = true; allowance = allowance }

  abbrev terms₂ : Terms
  terms₂ = record { largest = largest; more = more₂; allowance = allowance }

  -- a search that does not wait is the same with more rows
  pub search_stays : Sooner (halting_of terms₁ (places t) n₁) (halting_of terms₂ (places t) n₂) (pair_ways holds₁ n₁ (places t)) (pair_ways holds₂ n₂ (places t))
      → SettledEnd (walk_search terms₁ (seek holds₁ n₁ (places t) skip fits)).end → walk_search terms₂ (seek holds₂ n₂ (places t) skip fits) ≡ walk_search terms₁ (seek holds₁ n₁ (places t) skip fits)
  unfolding walk_search halting_of plan_of
  search_stays sooner a =
      let N : ℕ = pairs (length (places t)) largest in
      let P : ℕ = length (places t) in
      let w₁ = halting_of terms₁ (places t) n₁ in
      let w₂ = halting_of terms₂ (places t) n₂ in
      let p₁ = plan_of (places t) n₁ true skip fits in
      let e = sweep-enough (walk_at w₁ (pair_ways holds₁ n₁ (places t)) N (first_at P)) p₁ (plan-on (places t) n₁ true skip fits) n₂ 0 0 0 (as_kept (replicate N false) 0) le in
      let b : SettledEnd (sweep (walk_at w₁ (pair_ways holds₁ n₁ (places t)) N (first_at P)) p₁ n₂ (stand_at 0 0 0) (as_kept (replicate N false) 0)).end = rw e a in
      sweep-stays w₁ w₂ (pair_ways holds₁ n₁ (places t)) (pair_ways holds₂ n₂ (places t)) sooner (λ s. refl) N (first_at P) p₁ refl n₂ more₂ le n₂ 0 0 0 (as_kept (replicate N false) 0) b ∙ e

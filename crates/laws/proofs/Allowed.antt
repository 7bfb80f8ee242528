-- The search of a pattern on two terms, of which the first halts sooner: the second goes on from
-- where the first halts (`search_goes`), so it begins with the same matches and keeps what the
-- first kept. From it, on any terms: the bounds on the steps. And an allowance that the search does
-- not pass changes nothing (`search_allowed`), so 2P(n+1) is enough with skip past last row
-- (`allowance_enough`).
use mathlib.Core.Path.{◌≡◌, refl, ap, ◌∙◌}
use mathlib.Core.List.{List, [], ◌∷◌}
use mathlib.Core.Bool.{Bool, true, false}
use mathlib.Core.Logic.{◌⊎◌, inl, inr}
use mathlib.Core.Option.{Option, none, some}
use Prim.Native.Nat.{ℕ, zero, suc, ◌+◌, ◌*◌, ◌≤◌, ◌<◌}
use native.Mathlib.Nat.{le_trans}
use native.Mathlib.Omega.{arith}
use lib.ListN.{length, get_or, replicate, length-replicate}
use lib.Dec.{ltb, leb}
use borrow.Author.Tests.{leb-true, leb-false, lt-leb}
use Rattle.rules.specs.Basics.{Begins}
use Rattle.rules.specs.Places.{Unrolled, Place, places}
use Rattle.rules.specs.Search.{Match, End, done, full, stuck, unfinished, Skip, past_last, Finished, Attempted, hit, miss, halts, Swept, Plan, ended, no_start, below, with_match, on_answer, sweep, answered, walk_at, Terms, within, whole, spent_of, halting_of, plan_of, walk_search, Standing, on_match, seek, stand_at}
use Rattle.rules.specs.Walk.{Ways, accept, try, Halt, out_of_steps, out_of_rows, Halting, Outcome, found, failed, halted, or_else, close, enter_unless, tries, inside, inside_by, pairs, first_at, pair_ways, Kept, as_kept, one_step}
use Rattle.laws.proofs.Fuel.{sweep-enough, plan-on}
use Rattle.laws.proofs.GoesOn.{kept_by, Keeps, tries-keeps, inside-keeps, Sooner, and_then, then_keeps, then-begins, then-finished, sweep-keeps, keeps-answer, search_onward}
use Rattle.laws.proofs.Padded.{search_padded}
use Rattle.laws.proofs.PatternWalk.{falls-in, top_in, starts_in_lem, walk-bound, walk-each}
use Rattle.laws.proofs.Rank.{rank}

-- ---- an allowance that is not passed

-- h and h₀ wait alike; h₀ allows any number of steps, h at least a
module _ (h h₀ : Halting) (alike : (x : ℕ) → h.waits x ≡ h₀.waits x) (free : (s : ℕ) → h₀.spent s ≡ false) (a : ℕ) (left : (s : ℕ) → s < a → h.spent s ≡ false) (ways : ℕ → Ways) where
  abbrev AllowedAt : ℕ → Type 0
  AllowedAt k = (F : List Bool) (s x : ℕ) → (kept_by (inside h₀ ways k (as_kept F s) x)).steps ≤ a → inside h ways k (as_kept F s) x ≡ inside h₀ ways k (as_kept F s) x

  tries-allowed : (k : ℕ) → AllowedAt k → (ys : List ℕ) (F : List Bool) (s : ℕ) → (kept_by (tries h₀ (inside h₀ ways k) (as_kept F s) ys)).steps ≤ a
      → tries h (inside h ways k) (as_kept F s) ys ≡ tries h₀ (inside h₀ ways k) (as_kept F s) ys
  unfolding tries
  tries-allowed k ih [] F s b = refl
  tries-allowed k ih (y ∷ ys) F s b = go (λ F' s'. tries-allowed k ih ys F' s') (get_or F y false) (rw (free s) at b)
    where
      Rest : Type 0
      Rest = (F' : List Bool) (s' : ℕ) → (kept_by (tries h₀ (inside h₀ ways k) (as_kept F' s') ys)).steps ≤ a → tries h (inside h ways k) (as_kept F' s') ys ≡ tries h₀ (inside h₀ ways k) (as_kept F' s') ys

      -- an entry's own steps are within the total
      within-total : (r : Outcome) → (kept_by (or_else r (λ kept'. tries h₀ (inside h₀ ways k) kept' ys))).steps ≤ a → (kept_by r).steps ≤ a
      within-total (found p kept') c = c
      within-total (failed kept') c = le_trans (tries-keeps h₀ (inside h₀ ways k) (inside-keeps h₀ ways k) ys kept'.failed kept'.steps).steps c
      within-total (halted w p kept') c = c

      after : Rest → (r : Outcome) → (kept_by (or_else r (λ kept'. tries h₀ (inside h₀ ways k) kept' ys))).steps ≤ a
          → or_else r (λ kept'. tries h (inside h ways k) kept' ys) ≡ or_else r (λ kept'. tries h₀ (inside h₀ ways k) kept' ys)
      after rest (found p kept') c = refl
      after rest (failed kept') c = rest kept'.failed kept'.steps c
      after rest (halted w p kept') c = refl

      go : Rest → (t : Bool) → (kept_by (or_else (enter_unless t false (inside h₀ ways k) (as_kept F s) y) (λ kept'. tries h₀ (inside h₀ ways k) kept' ys))).steps ≤ a
          → or_else (enter_unless t (h.spent s) (inside h ways k) (as_kept F s) y) (λ kept'. tries h (inside h ways k) kept' ys)
          ≡ or_else (enter_unless t (h₀.spent s) (inside h₀ ways k) (as_kept F s) y) (λ kept'. tries h₀ (inside h₀ ways k) kept' ys)
      go rest true c = rest F s c
      go rest false c =
          let r = inside h₀ ways k (as_kept F (suc s)) y in
          let d = within-total r c in
          rw (free s, left s (le_trans (inside-keeps h₀ ways k F (suc s) y).steps d), ih F (suc s) y d) (after rest r c)

  close-steps : (x : ℕ) (r : Outcome) → (kept_by (close x r)).steps ≡ (kept_by r).steps
  close-steps x (found p kept) = refl
  close-steps x (failed kept) = refl
  close-steps x (halted w p kept) = refl

  inside-allowed : (k : ℕ) → AllowedAt k
  unfolding inside inside_by
  inside-allowed zero F s x b = refl
  inside-allowed (suc k) F s x b = rw (alike x) (go (inside-allowed k) (h₀.waits x) (ways x) b)
    where
      go : AllowedAt k → (u : Bool) (w : Ways) → (kept_by (inside_by h₀ u w (inside h₀ ways k) (as_kept F s) x)).steps ≤ a → inside_by h u w (inside h ways k) (as_kept F s) x ≡ inside_by h₀ u w (inside h₀ ways k) (as_kept F s) x
      go ih true w c = refl
      go ih false accept c = refl
      go ih false (try ys) c = ap (close x) (tries-allowed k ih ys F s (rw (close-steps x (tries h₀ (inside h₀ ways k) (as_kept F s) ys)) at c))

  module _ (K : ℕ) (first : ℕ → ℕ) (plan : Plan) where
    abbrev AllowedOn : (Standing → Kept → Swept Kept) → (Standing → Kept → Swept Kept) → Type 0
    AllowedOn f g = (i m l : ℕ) (st : Kept) → (g (stand_at i m l) st).state.steps ≤ a → f (stand_at i m l) st ≡ g (stand_at i m l) st

    answer_allowed : (f g : Standing → Kept → Swept Kept) → AllowedOn f g → (i m l : ℕ) (o : Attempted) (st : Kept) → (on_answer plan g (stand_at i m l) o st).state.steps ≤ a
        → on_answer plan f (stand_at i m l) o st ≡ on_answer plan g (stand_at i m l) o st
    answer_allowed f g ih i m l miss st b = ih (suc i) m l st b
    answer_allowed f g ih i m l (halts w p) st b = refl
    answer_allowed f g ih i m l (hit p) st b = go (plan.next i p) (plan.fits m l p) b
      where
        go : (o : Option ℕ) (t : Bool) → (on_match t o (record { start = i; path = p }) st (λ j. g (stand_at j (suc m) (l + plan.rows p)) st)).state.steps ≤ a
            → on_match t o (record { start = i; path = p }) st (λ j. f (stand_at j (suc m) (l + plan.rows p)) st)
            ≡ on_match t o (record { start = i; path = p }) st (λ j. g (stand_at j (suc m) (l + plan.rows p)) st)
        go o false c = refl
        go none true c = refl
        go (some j) true c = ap (with_match (record { start = i; path = p })) (ih j (suc m) (l + plan.rows p) st c)

    answered-steps : (r : Outcome) → (answered r).1.steps ≡ (kept_by r).steps
    answered-steps (found p kept) = refl
    answered-steps (failed kept) = refl
    answered-steps (halted w p kept) = refl

    attempt-allowed : (i : ℕ) (st : Kept) → (walk_at h₀ ways K first i st).1.steps ≤ a → walk_at h ways K first i st ≡ walk_at h₀ ways K first i st
    attempt-allowed i st b = ap answered (go (get_or st.failed (first i) false) (rw (free st.steps) at b))
      where
        go : (t : Bool) → (answered (enter_unless t false (inside h₀ ways K) st (first i))).1.steps ≤ a
            → enter_unless t (h.spent st.steps) (inside h ways K) st (first i) ≡ enter_unless t (h₀.spent st.steps) (inside h₀ ways K) st (first i)
        go true c = refl
        go false c =
            let d : (kept_by (inside h₀ ways K (one_step st) (first i))).steps ≤ a = rw (answered-steps (inside h₀ ways K (one_step st) (first i))) at c in
            rw (free st.steps, left st.steps (le_trans (inside-keeps h₀ ways K st.failed (suc st.steps) (first i)).steps d)) (inside-allowed K st.failed (suc st.steps) (first i) d)

    pub sweep-allowed : (k : ℕ) → AllowedOn (sweep (walk_at h ways K first) plan k) (sweep (walk_at h₀ ways K first) plan k)
    unfolding sweep
    sweep-allowed zero i m l st b = refl
    sweep-allowed (suc k) i m l st b = go (sweep-allowed k) (ltb i plan.n) b
      where
        go : AllowedOn (sweep (walk_at h ways K first) plan k) (sweep (walk_at h₀ ways K first) plan k) → (t : Bool)
            → (below t (ended (no_start plan.more i) st) (λ _. on_answer plan (sweep (walk_at h₀ ways K first) plan k) (stand_at i m l) (walk_at h₀ ways K first i st).0 (walk_at h₀ ways K first i st).1)).state.steps ≤ a
            → below t (ended (no_start plan.more i) st) (λ _. on_answer plan (sweep (walk_at h ways K first) plan k) (stand_at i m l) (walk_at h ways K first i st).0 (walk_at h ways K first i st).1)
            ≡ below t (ended (no_start plan.more i) st) (λ _. on_answer plan (sweep (walk_at h₀ ways K first) plan k) (stand_at i m l) (walk_at h₀ ways K first i st).0 (walk_at h₀ ways K first i st).1)
        go ih false c = refl
        go ih true c =
            let r = walk_at h₀ ways K first i st in
            let d = (keeps-answer h₀ ways K first plan (sweep (walk_at h₀ ways K first) plan k) (sweep-keeps h₀ ways K first plan k) i m l r.0 r.1).steps in
            ap (λ (q : Attempted × Kept). on_answer plan (sweep (walk_at h ways K first) plan k) (stand_at i m l) q.0 q.1) (attempt-allowed i st (le_trans d c))
            ∙ answer_allowed (sweep (walk_at h ways K first) plan k) (sweep (walk_at h₀ ways K first) plan k) ih i m l r.0 r.1 c

-- ---- a pattern

-- the same terms where no more rows come and any number of steps is allowed
abbrev pub ended_terms : Terms → Terms
ended_terms terms = record { largest = terms.largest; more = false; allowance = none }

-- at least as large an allowance: none is any number
abbrev pub Allows : Option ℕ → Option ℕ → Type 0
Allows a none = Unit {0}
Allows none (some b) = ⊥
Allows (some a) (some b) = a ≤ b

pub allows_spent : (a b : Option ℕ) → Allows a b → (s : ℕ) → spent_of a s ≡ false → spent_of b s ≡ false
allows_spent a none h s e = refl
allows_spent none (some b) h s e = absurd h
allows_spent (some a) (some b) h s e = lt-leb b s (omega (arith, leb-false a s e))

module _ (t : Unrolled) (skip : Skip) (fits : ℕ → ℕ → List ℕ → Bool) where
  abbrev P : ℕ
  P = length (places t)

  -- ---- on two terms, with the same account of pairs

  module _ (holds₁ holds₂ : ℕ → ℕ → Bool) (n₁ n₂ : ℕ) (terms₁ terms₂ : Terms) (same : terms₁.largest ≡ terms₂.largest) (le : n₁ ≤ n₂) (few : n₂ ≤ terms₂.largest)
      (sooner : Sooner (halting_of terms₁ (places t) n₁) (halting_of terms₂ (places t) n₂) (pair_ways holds₁ n₁ (places t)) (pair_ways holds₂ n₂ (places t)))
      (rest : (terms₁.more ≡ true) ⊎ ((n₂ ≡ n₁) × (terms₂.more ≡ false))) where
    abbrev one : Swept Kept
    one = walk_search terms₁ (seek holds₁ n₁ (places t) skip fits)

    abbrev two : Swept Kept
    two = walk_search terms₂ (seek holds₂ n₂ (places t) skip fits)

    -- the second goes on from where the first halts
    abbrev pub resume_one : Swept Kept
    resume_one = and_then (halting_of terms₂ (places t) n₂) (pair_ways holds₂ n₂ (places t)) (pairs P terms₂.largest) (first_at P) (plan_of (places t) n₂ terms₂.more skip fits) 0 0 one

    pub search_goes : two ≡ resume_one
    unfolding walk_search plan_of
    search_goes =
        let N : ℕ = pairs P terms₂.largest in
        let w₁ = halting_of terms₁ (places t) n₁ in
        let w₂ = halting_of terms₂ (places t) n₂ in
        let p₁ = plan_of (places t) n₁ terms₁.more skip fits in
        rw same
        (search_onward w₁ w₂ (pair_ways holds₁ n₁ (places t)) (pair_ways holds₂ n₂ (places t)) sooner (rank t n₂) N (falls-in t holds₂ n₂ terms₂.largest few) N
        (top_in t holds₂ n₂ terms₂.largest few) (first_at P) p₁ n₂ terms₂.more le rest (λ i h. (starts_in_lem t holds₂ n₂ terms₂.largest few i h).0) (plan-on (places t) n₁ terms₁.more skip fits)
        n₂ 0 0 0 (as_kept (replicate N false) 0) (length-replicate N false) (omega arith)
        ∙ ap (and_then w₂ (pair_ways holds₂ n₂ (places t)) N (first_at P) (plan_of (places t) n₂ terms₂.more skip fits) 0 0)
        (sweep-enough (walk_at w₁ (pair_ways holds₁ n₁ (places t)) N (first_at P)) p₁ (plan-on (places t) n₁ terms₁.more skip fits) n₂ 0 0 0 (as_kept (replicate N false) 0) le))

    -- it begins with the same matches, and keeps what was kept
    pub goes_begins : Begins one.matches two.matches
    goes_begins = rw search_goes (then-begins (halting_of terms₂ (places t) n₂) (pair_ways holds₂ n₂ (places t)) (pairs P terms₂.largest) (first_at P) (plan_of (places t) n₂ terms₂.more skip fits) 0 0 one)

    pub goes_keeps : Keeps one.state two.state
    goes_keeps = rw search_goes (then_keeps (halting_of terms₂ (places t) n₂) (pair_ways holds₂ n₂ (places t)) (pairs P terms₂.largest) (first_at P) (plan_of (places t) n₂ terms₂.more skip fits) 0 0 one)

    -- a finished search does not change
    pub goes_finished : Finished one.end → two ≡ one
    goes_finished f = search_goes ∙ then-finished (halting_of terms₂ (places t) n₂) (pair_ways holds₂ n₂ (places t)) (pairs P terms₂.largest) (first_at P) (plan_of (places t) n₂ terms₂.more skip fits) 0 0 one f

  -- ---- on the same rows

  module _ (holds : ℕ → ℕ → Bool) (n : ℕ) where
    abbrev on : Terms → Swept Kept
    on terms = walk_search terms (seek holds n (places t) skip fits)

    -- a larger allowance halts no sooner
    pub allows_sooner : (largest : ℕ) (more : Bool) (a b : Option ℕ) → Allows a b
        → Sooner (halting_of (record { largest = largest; more = more; allowance = a }) (places t) n) (halting_of (record { largest = largest; more = more; allowance = b }) (places t) n)
        (pair_ways holds n (places t)) (pair_ways holds n (places t))
    unfolding halting_of
    allows_sooner largest more a b h = record { ways = λ x. either ((halting_of (record { largest = largest; more = more; allowance = a }) (places t) n).waits x); steps = λ s e. allows_spent a b h s e }
      where
        either : {A : Type 0} {x : A} (w : Bool) → (w ≡ true) ⊎ ((w ≡ false) × (w ≡ false) × (x ≡ x))
        either true = inl refl
        either false = inr (refl, refl, refl)

    -- nor does it halt sooner where no more rows come and any number of steps is allowed
    ended-sooner : (terms : Terms)
        → Sooner (halting_of terms (places t) n) (halting_of (ended_terms terms) (places t) n) (pair_ways holds n (places t)) (pair_ways holds n (places t))
    unfolding halting_of
    ended-sooner terms = record { ways = λ x. either ((halting_of terms (places t) n).waits x); steps = λ s e. refl }
      where
        either : {A : Type 0} {x : A} (w : Bool) → (w ≡ true) ⊎ ((w ≡ false) × (◌≡◌ {A = Bool} false false) × (x ≡ x))
        either true = inl refl
        either false = inr (refl, refl, refl)

    ends : (b : Bool) → (b ≡ true) ⊎ ((n ≡ n) × (◌≡◌ {A = Bool} false false))
    ends true = inl refl
    ends false = inr (refl, refl)

    -- on any terms no more steps are taken than on document 01's
    pub steps_whole : (terms : Terms) → n ≤ terms.largest → (on terms).state.steps ≤ (on (whole n)).state.steps
    steps_whole terms le =
        le_trans (goes_keeps holds holds n n terms (ended_terms terms) refl (omega arith) le (ended-sooner terms) (ends terms.more)).steps
        (let e : (on (ended_terms terms)).state.steps ≡ (on (whole n)).state.steps = ap (λ (r : Swept Kept). r.state.steps) (search_padded t holds n (ended_terms terms) le skip fits) in omega (arith, e))

    -- so they are at most P n (n+3) / 2 in every mode
    pub search_each : (terms : Terms) → n ≤ terms.largest → 2 * (on terms).state.steps ≤ P * (n * (n + 3))
    search_each terms le = omega (arith, steps_whole terms le, walk-each t holds n skip fits)

    -- a run with a larger allowance begins with the same matches
    pub allows_begins : (a b : Option ℕ) → Allows a b → Begins (on (within a n)).matches (on (within b n)).matches
    allows_begins a b h = goes_begins holds holds n n (within a n) (within b n) refl (omega arith) (omega arith) (allows_sooner n false a b h) (inr (refl, refl))

    -- a search that is finished within an allowance is document 01's
    pub finished-whole : (a : Option ℕ) → Finished (on (within a n)).end → on (whole n) ≡ on (within a n)
    finished-whole a f = goes_finished holds holds n n (within a n) (whole n) refl (omega arith) (omega arith) (allows_sooner n false a none tt) (inr (refl, refl)) f

    -- an allowance that the search does not pass changes nothing
    pub search_allowed : (a : ℕ) → (on (whole n)).state.steps ≤ a → on (within (some a) n) ≡ on (whole n)
    unfolding walk_search halting_of plan_of
    search_allowed a b =
        sweep-allowed (halting_of (within (some a) n) (places t) n) (halting_of (whole n) (places t) n) (λ x. refl) (λ s. refl) a (λ s lt. lt-leb a s lt) (pair_ways holds n (places t))
        (pairs P n) (first_at P) (plan_of (places t) n false skip fits) n 0 0 0 (as_kept (replicate (pairs P n) false) 0) b

module _ (t : Unrolled) (fits : ℕ → ℕ → List ℕ → Bool) (holds : ℕ → ℕ → Bool) (n : ℕ) where
  -- on any terms the steps are at most 2P(n+1) with skip past last row
  pub search_bound : (terms : Terms) → n ≤ terms.largest → (walk_search terms (seek holds n (places t) past_last fits)).state.steps ≤ 2 * pairs (length (places t)) n
  search_bound terms le = le_trans (steps_whole t past_last fits holds n terms le) (walk-bound t holds n fits)

  -- so an allowance of 2P(n+1) is always enough there
  pub allowance_enough : (a : ℕ) → 2 * pairs (length (places t)) n ≤ a → walk_search (within (some a) n) (seek holds n (places t) past_last fits) ≡ walk_search (whole n) (seek holds n (places t) past_last fits)
  allowance_enough a h = search_allowed t past_last fits holds n a (le_trans (walk-bound t holds n fits) h)

-- ---- the steps within an allowance: it is not passed, and where the walk halts for it, it is used
-- up

module _ (a : ℕ) where
  abbrev WithinBy : Halt → ℕ → Type 0
  WithinBy out_of_steps s = s ≡ a
  WithinBy out_of_rows s = s ≤ a

  abbrev pub Within : Outcome → Type 0
  Within (found p kept) = kept.steps ≤ a
  Within (failed kept) = kept.steps ≤ a
  Within (halted w p kept) = WithinBy w kept.steps

  abbrev pub EndWithin : End Match → ℕ → Type 0
  EndWithin done s = s ≤ a
  EndWithin (full m) s = s ≤ a
  EndWithin stuck s = s ≤ a
  EndWithin (unfinished w i p) s = WithinBy w s

  module _ (h : Halting) (Halts-at : (s : ℕ) → h.spent s ≡ leb a s) where
    within-or : (r : Outcome) (f : Kept → Outcome) → Within r → ((F : List Bool) (s : ℕ) → s ≤ a → Within (f (as_kept F s))) → Within (or_else r f)
    within-or (found p kept) f b k = b
    within-or (failed kept) f b k = k kept.failed kept.steps b
    within-or (halted w p kept) f b k = b

    within-close : (x : ℕ) (r : Outcome) → Within r → Within (close x r)
    within-close x (found p kept) b = b
    within-close x (failed kept) b = b
    within-close x (halted w p kept) b = b

    tried-within : (f : Kept → ℕ → Outcome) → ((F : List Bool) (s y : ℕ) → s ≤ a → Within (f (as_kept F s) y)) → (F : List Bool) (s y : ℕ) → s ≤ a → (t : Bool) → Within (enter_unless t (h.spent s) f (as_kept F s) y)
    tried-within f k F s y b t = rw (Halts-at s) (go t (leb a s) refl)
      where
        go : (t u : Bool) → leb a s ≡ u → Within (enter_unless t u f (as_kept F s) y)
        go true u e = b
        go false true e = omega (arith, leb-true a s e)
        go false false e = k F (suc s) y (leb-false a s e)

    tries-within : (f : Kept → ℕ → Outcome) → ((F : List Bool) (s y : ℕ) → s ≤ a → Within (f (as_kept F s) y)) → (ys : List ℕ) (F : List Bool) (s : ℕ) → s ≤ a → Within (tries h f (as_kept F s) ys)
    unfolding tries
    tries-within f k [] F s b = b
    tries-within f k (y ∷ ys) F s b =
        within-or (enter_unless (get_or F y false) (h.spent s) f (as_kept F s) y) (λ kept'. tries h f kept' ys) (tried-within f k F s y b (get_or F y false)) (λ F' s' c. tries-within f k ys F' s' c)

    module _ (ways : ℕ → Ways) where
      inside-within : (k : ℕ) (F : List Bool) (s x : ℕ) → s ≤ a → Within (inside h ways k (as_kept F s) x)
      unfolding inside inside_by
      inside-within zero F s x b = b
      inside-within (suc k) F s x b = go (inside-within k) (h.waits x) (ways x)
        where
          go : ((F : List Bool) (s x : ℕ) → s ≤ a → Within (inside h ways k (as_kept F s) x)) → (u : Bool) (w : Ways) → Within (inside_by h u w (inside h ways k) (as_kept F s) x)
          go ih true w = b
          go ih false accept = b
          go ih false (try ys) = within-close x (tries h (inside h ways k) (as_kept F s) ys) (tries-within (inside h ways k) ih ys F s b)

      module _ (K : ℕ) (first : ℕ → ℕ) (plan : Plan) where
        abbrev WithinOn : (Standing → Kept → Swept Kept) → Type 0
        WithinOn f = (i m l : ℕ) (st : Kept) → st.steps ≤ a → EndWithin (f (stand_at i m l) st).end (f (stand_at i m l) st).state.steps

        answer_within_lem : (f : Standing → Kept → Swept Kept) → WithinOn f → (i m l : ℕ) (r : Outcome) → Within r
            → EndWithin (on_answer plan f (stand_at i m l) (answered r).0 (answered r).1).end (on_answer plan f (stand_at i m l) (answered r).0 (answered r).1).state.steps
        answer_within_lem f ih i m l (failed kept) b = ih (suc i) m l kept b
        answer_within_lem f ih i m l (halted w p kept) b = b
        answer_within_lem f ih i m l (found p kept) b = go (plan.next i p) (plan.fits m l p)
          where
            go : (o : Option ℕ) (t : Bool)
                → EndWithin (on_match t o (record { start = i; path = p }) kept (λ j. f (stand_at j (suc m) (l + plan.rows p)) kept)).end
                (on_match t o (record { start = i; path = p }) kept (λ j. f (stand_at j (suc m) (l + plan.rows p)) kept)).state.steps
            go o false = b
            go none true = b
            go (some j) true = ih j (suc m) (l + plan.rows p) kept b

        none_within : (more : Bool) (i s : ℕ) → s ≤ a → EndWithin (no_start more i) s
        none_within false i s b = b
        none_within true i s b = b

        sweep-within : (k : ℕ) → WithinOn (sweep (walk_at h ways K first) plan k)
        unfolding sweep
        sweep-within zero i m l st b = none_within plan.more i st.steps b
        sweep-within (suc k) i m l st b = go (sweep-within k) (ltb i plan.n)
          where
            go : WithinOn (sweep (walk_at h ways K first) plan k) → (t : Bool)
                → EndWithin (below t (ended (no_start plan.more i) st) (λ _. on_answer plan (sweep (walk_at h ways K first) plan k) (stand_at i m l) (walk_at h ways K first i st).0 (walk_at h ways K first i st).1)).end
                (below t (ended (no_start plan.more i) st) (λ _. on_answer plan (sweep (walk_at h ways K first) plan k) (stand_at i m l) (walk_at h ways K first i st).0 (walk_at h ways K first i st).1)).state.steps
            go ih false = none_within plan.more i st.steps b
            go ih true =
                answer_within_lem (sweep (walk_at h ways K first) plan k) ih i m l (enter_unless (get_or st.failed (first i) false) (h.spent st.steps) (inside h ways K) st (first i))
                (tried-within (inside h ways K) (inside-within K) st.failed st.steps (first i) b (get_or st.failed (first i) false))

  pub end-within : (e : End Match) (s : ℕ) → EndWithin e s → s ≤ a
  end-within done s b = b
  end-within (full m) s b = b
  end-within stuck s b = b
  end-within (unfinished out_of_steps i p) s b = omega arith
  end-within (unfinished out_of_rows i p) s b = b

  -- on any terms with this allowance, over any places
  pub search_within_lem : (largest : ℕ) (more : Bool) (holds : ℕ → ℕ → Bool) (n : ℕ) (pl : List Place) (skip : Skip) (fits : ℕ → ℕ → List ℕ → Bool)
      → EndWithin (walk_search (record { largest = largest; more = more; allowance = some a }) (seek holds n pl skip fits)).end (walk_search (record { largest = largest; more = more; allowance = some a }) (seek holds n pl skip fits)).state.steps
  unfolding walk_search halting_of
  search_within_lem largest more holds n pl skip fits =
      sweep-within (halting_of (record { largest = largest; more = more; allowance = some a }) pl n) (λ s. refl) (pair_ways holds n pl) (pairs (length pl) largest) (first_at (length pl)) (plan_of pl n more skip fits) n
      0 0 0 (as_kept (replicate (pairs (length pl) largest) false) 0) (omega arith)

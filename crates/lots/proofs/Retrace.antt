-- A search that waited goes on from the start of its attempt. The pairs that have failed are not
-- entered again, so the attempt enters the open pairs, one behind the other, and no other: each has
-- as its first way that has not failed the one that was entered from it (`Trace`). With the steps
-- of these entries taken back, what it comes to is what comes of the open pairs (`retraced`).
use mathlib.Core.Path.{◌≡◌, refl, ap, sym, ◌∙◌, subst}
use mathlib.Core.List.{List, [], ◌∷◌}
use mathlib.Core.Bool.{Bool, true, false, true≢false}
use mathlib.Core.Logic.{◌⊎◌, inl, inr, ⊎_elim}
use mathlib.Core.Option.{Option, none, some}
use Prim.Native.Nat.{ℕ, zero, suc, ◌+◌, ◌-◌, ◌≤◌, ◌<◌}
use native.Mathlib.Nat.{le_trans, le_of_suc-le-suc, not-suc-le-zero}
use native.Mathlib.Omega.{arith}
use lib.Dec.{ltb}
use lib.ListN.{length, get_or}
use borrow.Author.Tests.{ltb-true, lt-ltb}
use Rattle.rules.specs.Search.{Match, End, done, full, stuck, unfinished, Attempted, hit, miss, halts, Swept, Plan, ended, no_start, below, on_answer, sweep, answered, walk_at, Standing, on_match, stand_at}
use Rattle.rules.specs.Walk.{Ways, accept, try, Halting, out_of_steps, out_of_rows, Outcome, found, failed, halted, or_else, close, enter_unless, tries, inside, inside_by, Kept, as_kept, one_step}
use Rattle.rules.specs.Working.{All, Falls, In, Out}
use Rattle.laws.proofs.Fuel.{same_answer, sweep-fuel}
use Rattle.laws.proofs.GoesOn.{kept_by, Keeps, tries-keeps, inside-keeps, under, go_on, Sooner, resumed}
use Rattle.laws.proofs.Machine.{open_or, first_open, tries-open, inside-try}
use Rattle.laws.proofs.Walk.{All-map, InsidePost, inside-post}

sweep-on : (att : ℕ → Kept → Attempted × Kept) (plan : Plan) (k i m l : ℕ) (kept : Kept) → i < plan.n
    → sweep att plan (suc k) (stand_at i m l) kept ≡ on_answer plan (sweep att plan k) (stand_at i m l) (att i kept).0 (att i kept).1
unfolding sweep
sweep-on att plan k i m l kept h = rw (lt-ltb i plan.n h)

-- ---- the first way that has not failed

first-in : (G : List Bool) (y : ℕ) (ys : List ℕ) → In G y → first_open G (y ∷ ys) ≡ first_open G ys
unfolding first_open
first-in G y ys i = rw i refl

first_out : (G : List Bool) (y : ℕ) (ys : List ℕ) → Out G y → first_open G (y ∷ ys) ≡ some y
unfolding first_open
first_out G y ys o = rw o refl

is-out : (G : List Bool) (ys : List ℕ) (y : ℕ) → first_open G ys ≡ some y → Out G y
unfolding first_open
is-out G [] y e = let z : ◌≡◌ {A = ℕ} 0 1 = cc in absurd (omega arith)
is-out G (x ∷ ys) y e = go (is-out G ys y) (get_or G x false) refl e
  where
    go : (first_open G ys ≡ some y → Out G y) → (t : Bool) → get_or G x false ≡ t → open_or t x (λ _. first_open G ys) ≡ some y → Out G y
    go ih true d e' = ih e'
    go ih false d e' = let q : x ≡ y = cc in rw q at d

is_among : (Q : ℕ → Type 0) (G : List Bool) (ys : List ℕ) (y : ℕ) → first_open G ys ≡ some y → All Q ys → Q y
unfolding first_open
is_among Q G [] y e a = let z : ◌≡◌ {A = ℕ} 0 1 = cc in absurd (omega arith)
is_among Q G (x ∷ ys) y e a = go (λ d. is_among Q G ys y d a.1) (get_or G x false) e
  where
    go : (first_open G ys ≡ some y → Q y) → (t : Bool) → open_or t x (λ _. first_open G ys) ≡ some y → Q y
    go ih true e' = ih e'
    go ih false e' = let q : x ≡ y = cc in rw q at a.0

-- ---- open pairs, each the first way of the one before it that has not failed

module _ (h : Halting) (ways : ℕ → Ways) where
  -- x does not wait, and its first way that has not failed is y
  pub record Leads (G : List Bool) (x y : ℕ) : Type 0 where
    pub ys : List ℕ
    pub still : h.waits x ≡ false
    pub tried : ways x ≡ try ys
    pub first : first_open G ys ≡ some y

  abbrev pub Trace : List Bool → ℕ → List ℕ → Type 0
  Trace G x [] = ⊥
  Trace G x (z ∷ []) = z ≡ x
  Trace G x (z ∷ (y ∷ p)) = (z ≡ x) × Leads G x y × Trace G y (y ∷ p)

  abbrev Traced : ℕ → Outcome → Type 0
  Traced x (found p kept) = Unit {0}
  Traced x (failed kept) = Unit {0}
  Traced x (halted w p kept) = Trace kept.failed x p

  abbrev Among : List ℕ → Outcome → Type 0
  Among ys (found p kept) = Unit {0}
  Among ys (failed kept) = Unit {0}
  Among ys (halted w [] kept) = Unit {0}
  Among ys (halted w (y ∷ p) kept) = (first_open kept.failed ys ≡ some y) × Trace kept.failed y (y ∷ p)

  -- a failed way in front is passed over
  among-more : (y : ℕ) (ys : List ℕ) (F : List Bool) (s : ℕ) (r : Outcome) → In F y → Keeps (as_kept F s) (kept_by r) → Among ys r → Among (y ∷ ys) r
  among-more y ys F s (found p later) i k a = tt
  among-more y ys F s (failed later) i k a = tt
  among-more y ys F s (halted w [] later) i k a = tt
  among-more y ys F s (halted w (z ∷ p) later) i k a = (first-in later.failed y ys (k.failed y i) ∙ a.0, a.1)

  module _ (ρ : ℕ → ℕ) (N : ℕ) (falls : Falls ways ρ N) where
    abbrev TraceAt : ℕ → Type 0
    TraceAt k = (F : List Bool) (s y : ℕ) → ρ y < k → y < N → length F ≡ N → Out F y → Traced y (inside h ways k (as_kept F s) y)

    head_among : (y : ℕ) (ys : List ℕ) (w : _) (p : List ℕ) (G : List Bool) (t : ℕ) → Trace G y p → All (Out G) p → Among (y ∷ ys) (halted w p (as_kept G t))
    head_among y ys w [] G t a o = absurd a
    head_among y ys w (z ∷ []) G t a o = let e : z ≡ y = a in (rw e (first_out G y ys (rw e at o.0)), refl)
    head_among y ys w (z ∷ (v ∷ p)) G t a o = let e : z ≡ y = a.0 in (rw e (first_out G y ys (rw e at o.0)), rw e (refl, a.1, a.2))

    tries-trace : (k : ℕ) → TraceAt k → (ys : List ℕ) → All (λ y. (ρ y < k) × (y < N)) ys → (F : List Bool) → length F ≡ N → (s : ℕ) → Among ys (tries h (inside h ways k) (as_kept F s) ys)
    unfolding tries
    tries-trace k ih [] a F len s = tt
    tries-trace k ih (y ∷ ys) a F len s = go (λ G t l. tries-trace k ih ys a.1 G l t) (get_or F y false) refl (h.spent s)
      where
        rest-keeps : (G : List Bool) (t : ℕ) → Keeps (as_kept G t) (kept_by (tries h (inside h ways k) (as_kept G t) ys))
        rest-keeps G t = tries-keeps h (inside h ways k) (λ F s y. inside-keeps h ways k F s y) ys G t

        after : ((G : List Bool) (t : ℕ) → length G ≡ N → Among ys (tries h (inside h ways k) (as_kept G t) ys)) → (r : Outcome) → Traced y r → InsidePost ρ F (suc s) y r
            → Among (y ∷ ys) (or_else r (λ later. tries h (inside h ways k) later ys))
        after rest (found p later) b c = tt
        after rest (failed later) b c = among-more y ys later.failed later.steps (tries h (inside h ways k) later ys) c.it (rest-keeps later.failed later.steps) (rest later.failed later.steps (c.grew.len ∙ len))
        after rest (halted w p later) b c = head_among y ys w p later.failed later.steps b c.off

        go : ((G : List Bool) (t : ℕ) → length G ≡ N → Among ys (tries h (inside h ways k) (as_kept G t) ys)) → (t : Bool) → get_or F y false ≡ t → (u : Bool)
            → Among (y ∷ ys) (or_else (enter_unless t u (inside h ways k) (as_kept F s) y) (λ later. tries h (inside h ways k) later ys))
        go rest true e u = among-more y ys F s (tries h (inside h ways k) (as_kept F s) ys) e (rest-keeps F s) (rest F s len)
        go rest false e true = tt
        go rest false e false = after rest (inside h ways k (as_kept F (suc s)) y) (ih F (suc s) y a.0.0 a.0.1 len e) (inside-post h ways ρ N falls k F (suc s) y a.0.0 a.0.1 len e)

    close-traced : (x : ℕ) (ys : List ℕ) → h.waits x ≡ false → ways x ≡ try ys → (r : Outcome) → Among ys r → Traced x (close x r)
    close-traced x ys q e (found p later) a = tt
    close-traced x ys q e (failed later) a = tt
    close-traced x ys q e (halted w [] later) a = refl
    close-traced x ys q e (halted w (y ∷ p) later) a = (refl, record { ys = ys; still = q; tried = e; first = a.0 }, a.1)

    pub inside-trace : (k : ℕ) → TraceAt k
    unfolding inside inside_by
    inside-trace zero F s x l lt len o = absurd (not-suc-le-zero l)
    inside-trace (suc k) F s x l lt len o = go (inside-trace k) (h.waits x) refl (ways x) refl
      where
        go : TraceAt k → (u : Bool) → h.waits x ≡ u → (w : Ways) → ways x ≡ w → Traced x (inside_by h u w (inside h ways k) (as_kept F s) x)
        go ih true q w e = refl
        go ih false q accept e = tt
        go ih false q (try ys) e =
            close-traced x ys q e (tries h (inside h ways k) (as_kept F s) ys)
            (tries-trace k ih ys (All-map (λ y (r : (ρ y < ρ x) × (x < N → y < N)). (le_trans r.0 (le_of_suc-le-suc l), r.1 lt)) ys (falls x ys e)) F len s)

    -- ---- where a search waits, its open pairs are so

    module _ (K : ℕ) (top : (x : ℕ) → ρ x < K) (first : ℕ → ℕ) (plan : Plan) (starts : (i : ℕ) → i < plan.n → first i < N) where
      abbrev att : ℕ → Kept → Attempted × Kept
      att = walk_at h ways K first

      -- no attempt has begun, or its open pairs are a trace
      abbrev pub TracedAt : ℕ → List ℕ → Kept → Type 0
      TracedAt i p st = (p ≡ []) ⊎ ((i < plan.n) × Trace st.failed (first i) p × All (Out st.failed) p)

      abbrev pub EndTraced : End Match → Kept → Type 0
      EndTraced done st = Unit {0}
      EndTraced (full m) st = Unit {0}
      EndTraced stuck st = Unit {0}
      EndTraced (unfinished w i p) st = TracedAt i p st

      abbrev EndsOn : (Standing → Kept → Swept Kept) → Type 0
      EndsOn f = (i m l : ℕ) (st : Kept) → length st.failed ≡ N → EndTraced (f (stand_at i m l) st).end (f (stand_at i m l) st).state

      start-traced : (more : Bool) (i : ℕ) (st : Kept) → EndTraced (no_start more i) st
      start-traced false i st = tt
      start-traced true i st = inl refl

      answer_traced : (f : Standing → Kept → Swept Kept) → EndsOn f → (i m l : ℕ) → (r : Outcome) → length (kept_by r).failed ≡ N
          → ((w : _) (p : List ℕ) (G : List Bool) (t : ℕ) → r ≡ halted w p (as_kept G t) → TracedAt i p (as_kept G t)) → EndTraced (on_answer plan f (stand_at i m l) (answered r).0 (answered r).1).end (on_answer plan f (stand_at i m l) (answered r).0 (answered r).1).state
      answer_traced f ih i m l (failed later) len d = ih (suc i) m l later len
      answer_traced f ih i m l (halted w p later) len d = d w p later.failed later.steps refl
      answer_traced f ih i m l (found p later) len d = go (plan.next i p) (plan.fits m l p)
        where
          go : (o : Option ℕ) (b : Bool) → EndTraced (on_match b o (record { start = i; path = p }) later (λ j. f (stand_at j (suc m) (l + plan.rows p)) later)).end
              (on_match b o (record { start = i; path = p }) later (λ j. f (stand_at j (suc m) (l + plan.rows p)) later)).state
          go o false = tt
          go none true = tt
          go (some j) true = ih j (suc m) (l + plan.rows p) later len

      pub sweep-traced : (k : ℕ) → EndsOn (sweep att plan k)
      unfolding sweep
      sweep-traced zero i m l st len = start-traced plan.more i st
      sweep-traced (suc k) i m l st len = go (sweep-traced k) (ltb i plan.n) refl
        where
          tried : i < plan.n → (t : Bool) → get_or st.failed (first i) false ≡ t → (u : Bool)
              → (length (kept_by (enter_unless t u (inside h ways K) st (first i))).failed ≡ N)
              × ((w : _) (p : List ℕ) (G : List Bool) (s : ℕ) → enter_unless t u (inside h ways K) st (first i) ≡ halted w p (as_kept G s) → TracedAt i p (as_kept G s))
          tried lt true e u = (len, λ w p G s d. let z : ◌≡◌ {A = ℕ} 0 1 = cc in absurd (omega arith))
          tried lt false e true = (len, λ w p G s d. inl (let z : [] ≡ p = cc in sym z))
          tried lt false e false = (
            (inside-keeps h ways K st.failed (suc st.steps) (first i)).len ∙ len,
            λ w p G s d. by (inside h ways K (one_step st) (first i)) (inside-trace K st.failed (suc st.steps) (first i) (top (first i)) (starts i lt) len e)
                (inside-post h ways ρ N falls K st.failed (suc st.steps) (first i) (top (first i)) (starts i lt) len e) w p G s d,
          )
            where
              by : (r : Outcome) → Traced (first i) r → InsidePost ρ st.failed (suc st.steps) (first i) r → (w : _) (p : List ℕ) (G : List Bool) (s : ℕ) → r ≡ halted w p (as_kept G s) → TracedAt i p (as_kept G s)
              by (found q final) a b w p G s d = let z : ◌≡◌ {A = ℕ} 0 1 = cc in absurd (omega arith)
              by (failed final) a b w p G s d = let z : ◌≡◌ {A = ℕ} 0 1 = cc in absurd (omega arith)
              by (halted v q final) a b w p G s d = let eq : q ≡ p = cc in let eH : final.failed ≡ G = cc in inr (lt, rw (← eq, ← eH) a, rw (← eq, ← eH) b.off)

          go : EndsOn (sweep att plan k) → (t : Bool) → ltb i plan.n ≡ t
              → EndTraced (below t (ended (no_start plan.more i) st) (λ _. on_answer plan (sweep att plan k) (stand_at i m l) (att i st).0 (att i st).1)).end
              (below t (ended (no_start plan.more i) st) (λ _. on_answer plan (sweep att plan k) (stand_at i m l) (att i st).0 (att i st).1)).state
          go ih false e = start-traced plan.more i st
          go ih true e =
              let x = tried (ltb-true i plan.n e) (get_or st.failed (first i) false) refl (h.spent st.steps) in
              answer_traced (sweep att plan k) ih i m l (enter_unless (get_or st.failed (first i) false) (h.spent st.steps) (inside h ways K) st (first i)) x.0 x.1

-- ---- the attempt once more

-- with more rows the open pairs are the same trace
module _ (h₁ h₂ : Halting) (ways₁ ways₂ : ℕ → Ways) (sooner : Sooner h₁ h₂ ways₁ ways₂) where
  leads_later : (G : List Bool) (x y : ℕ) → Leads h₁ ways₁ G x y → Leads h₂ ways₂ G x y
  leads_later G x y a =
      ⊎_elim (λ (d : h₁.waits x ≡ true). absurd (true≢false (sym d ∙ a.still)))
      (λ (d : (h₁.waits x ≡ false) × (h₂.waits x ≡ false) × (ways₁ x ≡ ways₂ x)). record { ys = a.ys; still = d.1; tried = sym d.2 ∙ a.tried; first = a.first }) (sooner.ways x)

  pub trace_later : (G : List Bool) (x : ℕ) (p : List ℕ) → Trace h₁ ways₁ G x p → Trace h₂ ways₂ G x p
  trace_later G x [] a = a
  trace_later G x (z ∷ []) a = a
  trace_later G x (z ∷ (y ∷ p)) a = (a.0, leads_later G x y a.1, trace_later G y (y ∷ p) a.2)

module _ (h : Halting) (ways : ℕ → Ways) (ρ : ℕ → ℕ) (N : ℕ) (falls : Falls ways ρ N) (K : ℕ) (top : (x : ℕ) → ρ x < K) where
  -- the first open pair is entered again, and comes to what the open pairs come to
  retraced : (p : List ℕ) (F : List Bool) → length F ≡ N → (x t : ℕ) → x < N → Trace h ways F x (x ∷ p) → ((j : ℕ) → j < t + suc (length p) → h.spent j ≡ false)
      → inside h ways K (as_kept F (suc t)) x ≡ go_on h ways K (x ∷ p) (as_kept F (t + suc (length p)))
  unfolding go_on
  retraced [] F len x t lt a free = let e : t + 1 ≡ suc t = omega arith in rw e refl
  retraced (y ∷ p) F len x t lt a free =
      let b : Leads h ways F x y = a.1 in
      let ys : List ℕ = b.ys in
      let below : y < N = (is_among (λ z. (ρ z < ρ x) × (x < N → z < N)) F ys y b.first (falls x ys b.tried)).1 lt in
      let out : Out F y = is-out F ys y b.first in
      let e : suc t + suc (length p) ≡ t + suc (suc (length p)) = omega arith in
      let ih : inside h ways K (as_kept F (suc (suc t))) y ≡ go_on h ways K (y ∷ p) (as_kept F (t + suc (suc (length p)))) = rw e at (retraced p F len y (suc t) below a.2 (λ j l. free j (omega arith))) in
      inside-try h ways ρ N falls K top F (suc t) x ys b.still b.tried
      ∙ ap (close x) (tries-open h (inside h ways K) F (suc t) ys y b.first (free (suc t) (omega arith)) (kept F len y (suc (suc t)) below out))
      ∙ ap (λ (r : Outcome). close x (or_else r (λ kept'. tries h (inside h ways K) kept' ys))) ih
      ∙ under-close x ys b.still b.tried (go_on h ways K (y ∷ p) (as_kept F (t + suc (suc (length p)))))
    where
      fact : (F : List Bool) (s y : ℕ) (r : Outcome) → InsidePost ρ F s y r → (F' : List Bool) (s' : ℕ) → r ≡ failed (as_kept F' s') → ((z : ℕ) → In F z → In F' z) × In F' y
      fact F s y (found p later) a F' s' d = let z : ◌≡◌ {A = ℕ} 0 1 = cc in absurd (omega arith)
      fact F s y (failed later) a F' s' d = let q : F' ≡ later.failed = cc in rw q (a.grew.keeps, a.it)
      fact F s y (halted w p later) a F' s' d = let z : ◌≡◌ {A = ℕ} 0 1 = cc in absurd (omega arith)

      kept : (F : List Bool) → length F ≡ N → (y s : ℕ) → y < N → Out F y → (F' : List Bool) (s' : ℕ) → inside h ways K (as_kept F s) y ≡ failed (as_kept F' s') → ((z : ℕ) → In F z → In F' z) × In F' y
      kept F len y s lt out = fact F s y (inside h ways K (as_kept F s) y) (inside-post h ways ρ N falls K F s y (top y) lt len out)

      under-close : (x : ℕ) (ys : List ℕ) → h.waits x ≡ false → ways x ≡ try ys → (r : Outcome) → close x (or_else r (λ kept'. tries h (inside h ways K) kept' ys)) ≡ under h ways K x r
      under-close x ys q e (found p later) = refl
      under-close x ys q e (failed later) = sym (inside-try h ways ρ N falls K top later.failed later.steps x ys q e)
      under-close x ys q e (halted w p later) = refl

  -- ---- the search goes on from the start of its attempt

  module _ (first : ℕ → ℕ) (plan : Plan) (starts : (i : ℕ) → i < plan.n → first i < N) (later : (i : ℕ) (p : List ℕ) (j : ℕ) → plan.next i p ≡ some j → i < j) where
    abbrev at : ℕ → Kept → Attempted × Kept
    at = walk_at h ways K first

    head_is : (G : List Bool) (x z : ℕ) (p : List ℕ) → Trace h ways G x (z ∷ p) → z ≡ x
    head_is G x z [] a = a
    head_is G x z (y ∷ p) a = a.0

    pub goes_again : (i : ℕ) (p : List ℕ) (m l : ℕ) (F : List Bool) (s : ℕ) → length F ≡ N → (p ≡ []) ⊎ ((i < plan.n) × Trace h ways F (first i) p × All (Out F) p)
        → length p ≤ s → ((j : ℕ) → j < s → h.spent j ≡ false)
        → resumed h ways K first plan i p m l (as_kept F s) ≡ sweep at plan plan.n (stand_at i m l) (as_kept F (s - length p))
    goes_again i [] m l F s len a le free = let e : s - 0 ≡ s = omega arith in rw e refl
    goes_again i (z ∷ p) m l F s len a le free = ⊎_elim (λ (d : z ∷ p ≡ []). let y : ◌≡◌ {A = ℕ} 0 1 = cc in absurd (omega arith)) on a
      where
        on : (i < plan.n) × Trace h ways F (first i) (z ∷ p) × All (Out F) (z ∷ p) → resumed h ways K first plan i (z ∷ p) m l (as_kept F s) ≡ sweep at plan plan.n (stand_at i m l) (as_kept F (s - suc (length p)))
        on b =
            let x : ℕ = first i in
            let ez : z ≡ x = head_is F x z p b.1 in
            let t : ℕ = s - suc (length p) in
            let es : t + suc (length p) ≡ s = omega arith in
            let tr : Trace h ways F x (x ∷ p) = subst (λ (v : ℕ). Trace h ways F x (v ∷ p)) ez b.1 in
            let g : inside h ways K (as_kept F (suc t)) x ≡ go_on h ways K (z ∷ p) (as_kept F s) =
            retraced p F len x t (starts i b.0) tr (λ j l'. free j (omega arith)) ∙ ap (λ (k : ℕ). go_on h ways K (x ∷ p) (as_kept F k)) es ∙ ap (λ (v : ℕ). go_on h ways K (v ∷ p) (as_kept F s)) (sym ez) in
            let out : get_or F x false ≡ false = rw ez at b.2.0 in
            let sp : h.spent t ≡ false = free t (omega arith) in
            let k : (n : ℕ) → plan.n ≡ n → sweep at plan n (stand_at i m l) (as_kept F t) ≡ on_answer plan (sweep at plan (n - 1)) (stand_at i m l) (at i (as_kept F t)).0 (at i (as_kept F t)).1 = first-start b.0 t in
            let r : Outcome = go_on h ways K (z ∷ p) (as_kept F s) in
            let w : at i (as_kept F t) ≡ answered r = ap answered {x = enter_unless (get_or F x false) (h.spent t) (inside h ways K) (as_kept F t) x} {y = r} (rw (out, sp) g) in
            let c : on_answer plan (sweep at plan (plan.n - 1)) (stand_at i m l) (at i (as_kept F t)).0 (at i (as_kept F t)).1 ≡ on_answer plan (sweep at plan (plan.n - 1)) (stand_at i m l) (answered r).0 (answered r).1 =
            ap (λ (v : Attempted × Kept). on_answer plan (sweep at plan (plan.n - 1)) (stand_at i m l) v.0 v.1) w in
            let d : on_answer plan (sweep at plan (plan.n - 1)) (stand_at i m l) (answered r).0 (answered r).1 ≡ on_answer plan (sweep at plan plan.n) (stand_at i m l) (answered r).0 (answered r).1 =
            same_answer at at (λ i st. refl) plan later (sweep at plan (plan.n - 1)) (sweep at plan plan.n) i
            (λ j m' l' st' lt. sweep-fuel at at (λ i st. refl) plan later (plan.n - 1) plan.n j m' l' st' (omega arith) (omega arith)) m l (answered r).0 (answered r).1 in
            sym (k plan.n refl ∙ c ∙ d)
          where
            first-start : i < plan.n → (t n : ℕ) → plan.n ≡ n → sweep at plan n (stand_at i m l) (as_kept F t) ≡ on_answer plan (sweep at plan (n - 1)) (stand_at i m l) (at i (as_kept F t)).0 (at i (as_kept F t)).1
            first-start lt t zero e = absurd (omega arith)
            first-start lt t (suc n) e = let d : suc n - 1 ≡ n = omega arith in rw d (sweep-on at plan n i m l (as_kept F t) lt)

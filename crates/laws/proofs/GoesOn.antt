-- A halted walk goes on from its open pairs as if it had not halted (R-11, R-13). One walk halts
-- before another, as it has fewer steps or fewer rows; over the same pairs the other does what the
-- first has done, and then what comes of its open pairs (`inside-onward`); and so for the whole
-- search (`search_onward`). What the first has found, kept as failed and counted stays.
use mathlib.Core.Path.{◌≡◌, refl, ap, sym, ◌∙◌}
use mathlib.Core.List.{List, [], ◌∷◌, ◌++◌, append-nil, reverse_aux}
use mathlib.Core.Bool.{Bool, true, false}
use mathlib.Core.Logic.{◌⊎◌, ⊎_elim}
use mathlib.Core.Option.{Option, none, some}
use Prim.Native.Nat.{ℕ, zero, suc, ◌+◌, ◌≤◌, ◌<◌}
use native.Mathlib.Nat.{le_trans, le_of_suc-le-suc, not-suc-le-zero}
use native.Mathlib.Omega.{arith}
use lib.ListN.{length, get_or, length-set}
use lib.Seq.{get_or-set_same}
use lib.Dec.{ltb}
use borrow.Author.Tests.{ltb-true, ltb-false, lt-ltb, le-ltb}
use Rattle.rules.specs.Basics.{Begins}
use Rattle.rules.specs.Search.{Match, End, done, full, stuck, unfinished, Finished, Attempted, hit, miss, halts, Swept, Plan, ended, no_start, below, with_match, on_answer, sweep, answered, walk_at, Standing, on_match, stand_at}
use Rattle.rules.specs.Walk.{Ways, accept, try, Halting, Outcome, found, failed, halted, or_else, close, enter_unless, tries, inside, inside_by, Kept, as_kept, one_step}
use Rattle.laws.proofs.Fuel.{same_answer, sweep-fuel}
use Rattle.laws.proofs.Machine.{inside-down, inside-try, resume-one}
use Rattle.laws.proofs.Walk.{All-map, in_mark}
use Rattle.rules.specs.Working.{All, Falls, In, lift, resume}

-- ---- what is kept, whatever the outcome: no failed pair is lost, and the steps do not fall

abbrev pub kept_by : Outcome → Kept
kept_by (found p kept) = kept
kept_by (failed kept) = kept
kept_by (halted w p kept) = kept

pub record Keeps (st su : Kept) : Type 0 where
  pub len : length su.failed ≡ length st.failed
  pub failed : (z : ℕ) → In st.failed z → In su.failed z
  pub steps : st.steps ≤ su.steps

pub keeps-refl : (st : Kept) → Keeps st st
keeps-refl st = record { len = refl; failed = λ z i. i; steps = omega arith }

pub keeps-trans : (st su sv : Kept) → Keeps st su → Keeps su sv → Keeps st sv
keeps-trans st su sv a b = record { len = b.len ∙ a.len; failed = λ z i. b.failed z (a.failed z i); steps = le_trans a.steps b.steps }

keeps-step : (F : List Bool) (s : ℕ) (su : Kept) → Keeps (as_kept F (suc s)) su → Keeps (as_kept F s) su
keeps-step F s su a = record { len = a.len; failed = a.failed; steps = omega (arith, a.steps) }

pub keeps-or : (st : Kept) (r : Outcome) (next : Kept → Outcome) → Keeps st (kept_by r) → ((G : List Bool) (s : ℕ) → Keeps (as_kept G s) (kept_by (next (as_kept G s)))) → Keeps st (kept_by (or_else r next))
keeps-or st (found p later) next k n = k
keeps-or st (failed later) next k n = keeps-trans st later (kept_by (next later)) k (n later.failed later.steps)
keeps-or st (halted w p later) next k n = k

keeps-close : (st : Kept) (x : ℕ) (r : Outcome) → Keeps st (kept_by r) → Keeps st (kept_by (close x r))
keeps-close st x (found p later) k = record { len = k.len; failed = k.failed; steps = k.steps }
keeps-close st x (failed later) k = record { len = length-set later.failed x true ∙ k.len; failed = λ z i. in_mark later.failed x z (k.failed z i); steps = k.steps }
keeps-close st x (halted w p later) k = record { len = k.len; failed = k.failed; steps = k.steps }

-- a pair that fails is among the failed
abbrev FailedIn : ℕ → Outcome → Type 0
FailedIn x (found p kept) = Unit {0}
FailedIn x (failed kept) = In kept.failed x
FailedIn x (halted w p kept) = Unit {0}

-- an entered pair that halts is open
abbrev Opens : Outcome → Type 0
Opens (found p kept) = Unit {0}
Opens (failed kept) = Unit {0}
Opens (halted w [] kept) = ⊥
Opens (halted w (x ∷ p) kept) = Unit {0}

module _ (h : Halting) where
  tried-keeps : (f : Kept → ℕ → Outcome) → ((F : List Bool) (s y : ℕ) → Keeps (as_kept F s) (kept_by (f (as_kept F s) y))) → (F : List Bool) (s y : ℕ) (t u : Bool)
      → Keeps (as_kept F s) (kept_by (enter_unless t u f (as_kept F s) y))
  tried-keeps f a F s y true u = keeps-refl (as_kept F s)
  tried-keeps f a F s y false true = keeps-refl (as_kept F s)
  tried-keeps f a F s y false false = keeps-step F s (kept_by (f (as_kept F (suc s)) y)) (a F (suc s) y)

  pub tries-keeps : (f : Kept → ℕ → Outcome) → ((F : List Bool) (s y : ℕ) → Keeps (as_kept F s) (kept_by (f (as_kept F s) y))) → (ys : List ℕ) (F : List Bool) (s : ℕ) → Keeps (as_kept F s) (kept_by (tries h f (as_kept F s) ys))
  unfolding tries
  tries-keeps f a [] F s = keeps-refl (as_kept F s)
  tries-keeps f a (y ∷ ys) F s =
      keeps-or (as_kept F s) (enter_unless (get_or F y false) (h.spent s) f (as_kept F s) y) (λ later. tries h f later ys) (tried-keeps f a F s y (get_or F y false) (h.spent s)) (λ G t. tries-keeps f a ys G t)

  module _ (ways : ℕ → Ways) where
    pub inside-keeps : (k : ℕ) (F : List Bool) (s x : ℕ) → Keeps (as_kept F s) (kept_by (inside h ways k (as_kept F s) x))
    unfolding inside inside_by
    inside-keeps zero F s x = keeps-refl (as_kept F s)
    inside-keeps (suc k) F s x = go (inside-keeps k) (h.waits x) (ways x)
      where
        go : ((F : List Bool) (s x : ℕ) → Keeps (as_kept F s) (kept_by (inside h ways k (as_kept F s) x))) → (u : Bool) (w : Ways) → Keeps (as_kept F s) (kept_by (inside_by h u w (inside h ways k) (as_kept F s) x))
        go ih true w = keeps-refl (as_kept F s)
        go ih false accept = keeps-refl (as_kept F s)
        go ih false (try ys) = keeps-close (as_kept F s) x (tries h (inside h ways k) (as_kept F s) ys) (tries-keeps (inside h ways k) ih ys F s)

    close-failed : (x : ℕ) (F : List Bool) (s : ℕ) (r : Outcome) → x < length F → Keeps (as_kept F s) (kept_by r) → FailedIn x (close x r)
    close-failed x F s (found p later) l k = tt
    close-failed x F s (failed later) l k = get_or-set_same later.failed x true false (rw k.len l)
    close-failed x F s (halted w p later) l k = tt

    inside-failed : (k : ℕ) (F : List Bool) (s x : ℕ) → 0 < k → x < length F → FailedIn x (inside h ways k (as_kept F s) x)
    unfolding inside inside_by
    inside-failed zero F s x z l = absurd (not-suc-le-zero z)
    inside-failed (suc k) F s x z l = go (h.waits x) (ways x)
      where
        go : (u : Bool) (w : Ways) → FailedIn x (inside_by h u w (inside h ways k) (as_kept F s) x)
        go true w = tt
        go false accept = tt
        go false (try ys) = close-failed x F s (tries h (inside h ways k) (as_kept F s) ys) l (tries-keeps (inside h ways k) (λ F s y. inside-keeps k F s y) ys F s)

    close-opens : (x : ℕ) (r : Outcome) → Opens (close x r)
    close-opens x (found p kept) = tt
    close-opens x (failed kept) = tt
    close-opens x (halted w p kept) = tt

    inside-opens : (k : ℕ) (F : List Bool) (s x : ℕ) → Opens (inside h ways k (as_kept F s) x)
    unfolding inside inside_by
    inside-opens zero F s x = tt
    inside-opens (suc k) F s x = go (h.waits x) (ways x)
      where
        go : (u : Bool) (w : Ways) → Opens (inside_by h u w (inside h ways k) (as_kept F s) x)
        go true w = tt
        go false accept = tt
        go false (try ys) = close-opens x (tries h (inside h ways k) (as_kept F s) ys)

-- ---- going on from the open pairs

-- the last open pair goes on; where it fails, the one before it tries its ways anew, of which those
-- that have failed are not entered again
module _ (h : Halting) (ways : ℕ → Ways) (K : ℕ) where
  abbrev pub under : ℕ → Outcome → Outcome
  under x (found p kept) = found (x ∷ p) kept
  under x (failed kept) = inside h ways K kept x
  under x (halted w p kept) = halted w (x ∷ p) kept

  unfoldable pub go_on : List ℕ → Kept → Outcome
  go_on [] kept = failed kept
  go_on (x ∷ p) kept = under x (go_on p kept)

  go_on-keeps : (p : List ℕ) (F : List Bool) (s : ℕ) → Keeps (as_kept F s) (kept_by (go_on p (as_kept F s)))
  unfolding go_on
  go_on-keeps [] F s = keeps-refl (as_kept F s)
  go_on-keeps (x ∷ p) F s = go (go_on p (as_kept F s)) (go_on-keeps p F s)
    where
      go : (r : Outcome) → Keeps (as_kept F s) (kept_by r) → Keeps (as_kept F s) (kept_by (under x r))
      go (found q later) k = record { len = k.len; failed = k.failed; steps = k.steps }
      go (failed later) k = keeps-trans (as_kept F s) later (kept_by (inside h ways K later x)) k (inside-keeps h ways K later.failed later.steps x)
      go (halted w q later) k = record { len = k.len; failed = k.failed; steps = k.steps }

-- ---- the same from a stack of open pairs, as a loop with a trail keeps it between calls

reverse_snoc : (p q : List ℕ) (x : ℕ) → reverse_aux p (q ++ (x ∷ [])) ≡ reverse_aux p q ++ (x ∷ [])
reverse_snoc [] q x = refl
reverse_snoc (y ∷ p) q x = reverse_snoc p (y ∷ q) x

snoc_reverse : (st p : List ℕ) (x : ℕ) → reverse_aux (st ++ (x ∷ [])) p ≡ x ∷ reverse_aux st p
snoc_reverse [] p x = refl
snoc_reverse (y ∷ st) p x = snoc_reverse st (y ∷ p) x

module _ (h : Halting) (ways : ℕ → Ways) (K : ℕ) where
  -- a pair below all others on the stack
  resume-snoc : (st : List ℕ) (F : List Bool) (s x : ℕ) → resume h ways K (st ++ (x ∷ [])) (as_kept F s) ≡ under h ways K x (resume h ways K st (as_kept F s))
  unfolding resume
  resume-snoc [] F s x = resume-one h ways K F s x
  resume-snoc (y ∷ st) F s x = go (λ F' s'. resume-snoc st F' s' x) (inside h ways K (as_kept F s) y)
    where
      go : ((F' : List Bool) (s' : ℕ) → resume h ways K (st ++ (x ∷ [])) (as_kept F' s') ≡ under h ways K x (resume h ways K st (as_kept F' s'))) → (r : Outcome)
          → or_else (lift (st ++ (x ∷ [])) r) (λ kept'. resume h ways K (st ++ (x ∷ [])) kept') ≡ under h ways K x (or_else (lift st r) (λ kept'. resume h ways K st kept'))
      go ih (found p later) = rw (snoc_reverse st p x)
      go ih (failed later) = ih later.failed later.steps
      go ih (halted w p later) = rw (snoc_reverse st p x)

  -- the last entered first
  pub stack-goes : (p : List ℕ) (F : List Bool) (s : ℕ) → resume h ways K (reverse_aux p []) (as_kept F s) ≡ go_on h ways K p (as_kept F s)
  unfolding go_on resume
  stack-goes [] F s = refl
  stack-goes (x ∷ p) F s = rw (reverse_snoc p [] x) (resume-snoc (reverse_aux p []) F s x ∙ ap (under h ways K x) (stack-goes p F s))

-- ---- a walk that halts sooner, and one that goes further

module _ (h₁ h₂ : Halting) (ways₁ ways₂ : ℕ → Ways) where
  -- where the first does not wait, both do the same; where the first has a step left, so has the
  -- second
  pub record Sooner : Type 0 where
    pub ways : (x : ℕ) → (h₁.waits x ≡ true) ⊎ ((h₁.waits x ≡ false) × (h₂.waits x ≡ false) × (ways₁ x ≡ ways₂ x))
    pub steps : (s : ℕ) → h₁.spent s ≡ false → h₂.spent s ≡ false

module _ (h₁ h₂ : Halting) (ways₁ ways₂ : ℕ → Ways) (sooner : Sooner h₁ h₂ ways₁ ways₂) (ρ : ℕ → ℕ) (N : ℕ) (falls : Falls ways₂ ρ N) (K : ℕ) (top : (x : ℕ) → ρ x < K) where
  abbrev one : ℕ → Kept → ℕ → Outcome
  one = inside h₁ ways₁

  abbrev two : Kept → ℕ → Outcome
  two = inside h₂ ways₂ K

  -- an outcome of the first, gone on with by the second; and among ways that are left
  abbrev pub onward : Outcome → Outcome
  onward (found p kept) = found p kept
  onward (failed kept) = failed kept
  onward (halted w p kept) = go_on h₂ ways₂ K p kept

  abbrev onward_in : List ℕ → Outcome → Outcome
  onward_in ys (found p kept) = found p kept
  onward_in ys (failed kept) = failed kept
  onward_in ys (halted w p kept) = or_else (go_on h₂ ways₂ K p kept) (λ kept'. tries h₂ two kept' ys)

  skip_in_lem : (F : List Bool) (s y : ℕ) (ys : List ℕ) → In F y → tries h₂ two (as_kept F s) (y ∷ ys) ≡ tries h₂ two (as_kept F s) ys
  unfolding tries
  skip_in_lem F s y ys i = rw i

  -- a failed way in front is passed over again
  more-ways : (y : ℕ) (ys : List ℕ) (F : List Bool) (s : ℕ) (r : Outcome) → In F y → Keeps (as_kept F s) (kept_by r) → onward_in ys r ≡ onward_in (y ∷ ys) r
  more-ways y ys F s (found p later) i k = refl
  more-ways y ys F s (failed later) i k = refl
  more-ways y ys F s (halted w p later) i k = go (go_on h₂ ways₂ K p later) (go_on-keeps h₂ ways₂ K p later.failed later.steps)
    where
      go : (r : Outcome) → Keeps later (kept_by r) → or_else r (λ kept'. tries h₂ two kept' ys) ≡ or_else r (λ kept'. tries h₂ two kept' (y ∷ ys))
      go (found q final) c = refl
      go (failed final) c = sym (skip_in_lem final.failed final.steps y ys (c.failed y (k.failed y i)))
      go (halted v q final) c = refl

  abbrev OnwardAt : ℕ → Type 0
  OnwardAt k = (F : List Bool) → length F ≡ N → (s x : ℕ) → ρ x < k → x < N → two (as_kept F s) x ≡ onward (one k (as_kept F s) x)

  tries-onward : (k : ℕ) → OnwardAt k → (ys : List ℕ) → All (λ y. (ρ y < k) × (y < N)) ys → (F : List Bool) → length F ≡ N → (s : ℕ)
      → tries h₂ two (as_kept F s) ys ≡ onward_in ys (tries h₁ (one k) (as_kept F s) ys)
  unfolding tries go_on
  tries-onward k ih [] a F len s = refl
  tries-onward k ih (y ∷ ys) a F len s = go (λ F' s' l. tries-onward k ih ys a.1 F' l s') (get_or F y false) refl (h₁.spent s) refl
    where
      after : ((F' : List Bool) (s' : ℕ) → length F' ≡ N → tries h₂ two (as_kept F' s') ys ≡ onward_in ys (tries h₁ (one k) (as_kept F' s') ys))
          → (r q : Outcome) → q ≡ onward r → Keeps (as_kept F (suc s)) (kept_by r) → FailedIn y r → FailedIn y q
          → or_else q (λ kept'. tries h₂ two kept' ys) ≡ onward_in (y ∷ ys) (or_else r (λ kept'. tries h₁ (one k) kept' ys))
      after rest (found p later) q e c d d₂ = rw e
      after rest (failed later) q e c d d₂ =
          rw e (rest later.failed later.steps (c.len ∙ len) ∙ more-ways y ys later.failed later.steps (tries h₁ (one k) later ys) d (tries-keeps h₁ (one k) (λ F s y. inside-keeps h₁ ways₁ k F s y) ys later.failed later.steps))
      after rest (halted w p later) q e c d d₂ = same q d₂ ∙ rw e
        where
          same : (q : Outcome) → FailedIn y q → or_else q (λ kept'. tries h₂ two kept' ys) ≡ or_else q (λ kept'. tries h₂ two kept' (y ∷ ys))
          same (found p final) d = refl
          same (failed final) d = sym (skip_in_lem final.failed final.steps y ys d)
          same (halted v su final) d = refl

      go : ((F' : List Bool) (s' : ℕ) → length F' ≡ N → tries h₂ two (as_kept F' s') ys ≡ onward_in ys (tries h₁ (one k) (as_kept F' s') ys))
          → (t : Bool) → get_or F y false ≡ t → (u : Bool) → h₁.spent s ≡ u
          → tries h₂ two (as_kept F s) (y ∷ ys) ≡ onward_in (y ∷ ys) (or_else (enter_unless t u (one k) (as_kept F s) y) (λ kept'. tries h₁ (one k) kept' ys))
      go rest true e u d =
          skip_in_lem F s y ys e ∙ rest F s len ∙ more-ways y ys F s (tries h₁ (one k) (as_kept F s) ys) e (tries-keeps h₁ (one k) (λ F s y. inside-keeps h₁ ways₁ k F s y) ys F s)
      go rest false e true d = refl
      go rest false e false d =
          rw (e, sooner.steps s d)
          (after rest (one k (as_kept F (suc s)) y) (two (as_kept F (suc s)) y) (ih F len (suc s) y a.0.0 a.0.1) (inside-keeps h₁ ways₁ k F (suc s) y)
          (inside-failed h₁ ways₁ k F (suc s) y (omega (arith, a.0.0)) (rw len a.0.1)) (inside-failed h₂ ways₂ K F (suc s) y (omega (arith, top y)) (rw len a.0.1)))

  close-onward : (x : ℕ) (ys : List ℕ) → h₂.waits x ≡ false → ways₂ x ≡ try ys → (r : Outcome) → close x (onward_in ys r) ≡ onward (close x r)
  unfolding go_on
  close-onward x ys q e (found p later) = refl
  close-onward x ys q e (failed later) = refl
  close-onward x ys q e (halted w p later) = go (go_on h₂ ways₂ K p later)
    where
      go : (r : Outcome) → close x (or_else r (λ kept'. tries h₂ two kept' ys)) ≡ under h₂ ways₂ K x r
      go (found p final) = refl
      go (failed final) = sym (inside-try h₂ ways₂ ρ N falls K top final.failed final.steps x ys q e)
      go (halted v su final) = refl

  -- what the second walk makes of a pair is what it makes of the first walk's outcome
  pub inside-onward : (k : ℕ) → OnwardAt k
  unfolding inside inside_by go_on
  inside-onward zero F len s x l lt = absurd (not-suc-le-zero l)
  inside-onward (suc k) F len s x l lt = ⊎_elim waiting (goes (inside-onward k)) (sooner.ways x)
    where
      waiting : h₁.waits x ≡ true → two (as_kept F s) x ≡ onward (inside_by h₁ (h₁.waits x) (ways₁ x) (one k) (as_kept F s) x)
      waiting e = rw e

      by : OnwardAt k → h₂.waits x ≡ false → (w : Ways) → ways₂ x ≡ w → inside_by h₂ false w two (as_kept F s) x ≡ onward (inside_by h₁ false w (one k) (as_kept F s) x)
      by ih q accept e = refl
      by ih q (try ys) e =
          ap (close x) (tries-onward k ih ys (All-map (λ y (r : (ρ y < ρ x) × (x < N → y < N)). (le_trans r.0 (le_of_suc-le-suc l), r.1 lt)) ys (falls x ys e)) F len s)
          ∙ close-onward x ys q e (tries h₁ (one k) (as_kept F s) ys)

      goes : OnwardAt k → (h₁.waits x ≡ false) × (h₂.waits x ≡ false) × (ways₁ x ≡ ways₂ x) → two (as_kept F s) x ≡ onward (inside_by h₁ (h₁.waits x) (ways₁ x) (one k) (as_kept F s) x)
      goes ih e = rw (e.0, e.2) (inside-down h₂ ways₂ ρ N falls K top F s x ∙ rw e.1 (by ih e.1 (ways₂ x) refl))

-- ---- the whole search

-- the same plan for n rows, with more to come or not
abbrev pub extended : Plan → ℕ → Bool → Plan
extended plan n more = record { n = n; more = more; next = plan.next; rows = plan.rows; fits = plan.fits }

-- the labels of matches
abbrev pub rows_in : Plan → List Match → ℕ
rows_in plan [] = 0
rows_in plan (m ∷ ms) = plan.rows m.path + rows_in plan ms

abbrev pub behind : {S : Type 0} → List Match → Swept S → Swept S
behind [] r = r
behind (m ∷ ms) r = with_match m (behind ms r)

pub behind-matches : {S : Type 0} (ms : List Match) (r : Swept S) → (behind ms r).matches ≡ ms ++ r.matches
behind-matches [] r = refl
behind-matches (m ∷ ms) r = ap (λ (xs : List Match). m ∷ xs) (behind-matches ms r)

pub behind-state : {S : Type 0} (ms : List Match) (r : Swept S) → (behind ms r).state ≡ r.state
behind-state [] r = refl
behind-state (m ∷ ms) r = behind-state ms r

module _ (h : Halting) (ways : ℕ → Ways) (K : ℕ) (first : ℕ → ℕ) (plan : Plan) where
  -- an unfinished search goes on: its attempt at i, with the open pairs p, where m matches with l
  -- labels are written; an attempt that has not begun begins
  abbrev pub resumed : ℕ → List ℕ → ℕ → ℕ → Kept → Swept Kept
  resumed i [] m l st = sweep (walk_at h ways K first) plan plan.n (stand_at i m l) st
  resumed i (x ∷ p) m l st =
      on_answer plan (sweep (walk_at h ways K first) plan plan.n) (stand_at i m l) (answered (go_on h ways K (x ∷ p) st)).0 (answered (go_on h ways K (x ∷ p) st)).1

  abbrev pub resumed_by : End Match → ℕ → ℕ → List Match → Kept → Swept Kept
  resumed_by done m l ms st = record { matches = ms; end = done; state = st }
  resumed_by (full x) m l ms st = record { matches = ms; end = full x; state = st }
  resumed_by stuck m l ms st = record { matches = ms; end = stuck; state = st }
  resumed_by (unfinished w i p) m l ms st = behind ms (resumed i p (m + length ms) (l + rows_in plan ms) st)

  -- a search that began behind m matches with l labels, gone on with
  abbrev pub and_then : ℕ → ℕ → Swept Kept → Swept Kept
  and_then m l r = resumed_by r.end m l r.matches r.state

  then-match : (m l : ℕ) (x : Match) (r : Swept Kept) → and_then m l (with_match x r) ≡ with_match x (and_then (suc m) (l + plan.rows x.path) r)
  then-match m l x r = go r.end
    where
      go : (e : End Match) → resumed_by e m l (x ∷ r.matches) r.state ≡ with_match x (resumed_by e (suc m) (l + plan.rows x.path) r.matches r.state)
      go done = refl
      go (full q) = refl
      go stuck = refl
      go (unfinished w i p) =
          let a : m + suc (length r.matches) ≡ suc m + length r.matches = omega arith in
          let b : l + (plan.rows x.path + rows_in plan r.matches) ≡ l + plan.rows x.path + rows_in plan r.matches = omega arith in
          rw (a, b)

  -- what goes on keeps what was kept
  abbrev pub KeepsOn : (Standing → Kept → Swept Kept) → Type 0
  KeepsOn f = (i m l : ℕ) (st : Kept) → Keeps st (f (stand_at i m l) st).state

  pub keeps-answer : (f : Standing → Kept → Swept Kept) → KeepsOn f → (i m l : ℕ) (a : Attempted) (st : Kept) → Keeps st (on_answer plan f (stand_at i m l) a st).state
  keeps-answer f ih i m l miss st = ih (suc i) m l st
  keeps-answer f ih i m l (halts w p) st = keeps-refl st
  keeps-answer f ih i m l (hit p) st = go (plan.next i p) (plan.fits m l p)
    where
      go : (o : Option ℕ) (t : Bool) → Keeps st (on_match t o (record { start = i; path = p }) st (λ j. f (stand_at j (suc m) (l + plan.rows p)) st)).state
      go o false = keeps-refl st
      go none true = keeps-refl st
      go (some j) true = ih j (suc m) (l + plan.rows p) st

  answered-kept : (r : Outcome) → (answered r).1 ≡ kept_by r
  answered-kept (found p kept) = refl
  answered-kept (failed kept) = refl
  answered-kept (halted w p kept) = refl

  pub attempt-keeps : (i : ℕ) (st : Kept) → Keeps st (walk_at h ways K first i st).1
  attempt-keeps i st =
      rw (answered-kept (enter_unless (get_or st.failed (first i) false) (h.spent st.steps) (inside h ways K) st (first i)))
      (tried-keeps h (inside h ways K) (inside-keeps h ways K) st.failed st.steps (first i) (get_or st.failed (first i) false) (h.spent st.steps))

  pub sweep-keeps : (k : ℕ) → KeepsOn (sweep (walk_at h ways K first) plan k)
  unfolding sweep
  sweep-keeps zero i m l st = keeps-refl st
  sweep-keeps (suc k) i m l st = go (sweep-keeps k) (ltb i plan.n)
    where
      go : KeepsOn (sweep (walk_at h ways K first) plan k) → (t : Bool)
          → Keeps st (below t (ended (no_start plan.more i) st) (λ _. on_answer plan (sweep (walk_at h ways K first) plan k) (stand_at i m l) (walk_at h ways K first i st).0 (walk_at h ways K first i st).1)).state
      go ih false = keeps-refl st
      go ih true =
          keeps-trans st (walk_at h ways K first i st).1 _ (attempt-keeps i st)
          (keeps-answer (sweep (walk_at h ways K first) plan k) ih i m l (walk_at h ways K first i st).0 (walk_at h ways K first i st).1)

  resumed-keeps : (i : ℕ) (p : List ℕ) (m l : ℕ) (st : Kept) → Keeps st (resumed i p m l st).state
  resumed-keeps i [] m l st = sweep-keeps plan.n i m l st
  resumed-keeps i (x ∷ p) m l st =
      let r = go_on h ways K (x ∷ p) st in
      keeps-trans st (answered r).1 _ (rw (answered-kept r) (go_on-keeps h ways K (x ∷ p) st.failed st.steps))
      (keeps-answer (sweep (walk_at h ways K first) plan plan.n) (sweep-keeps plan.n) i m l (answered r).0 (answered r).1)

  pub then_keeps : (m l : ℕ) (r : Swept Kept) → Keeps r.state (and_then m l r).state
  then_keeps m l r = go r.end
    where
      go : (e : End Match) → Keeps r.state (resumed_by e m l r.matches r.state).state
      go done = keeps-refl r.state
      go (full q) = keeps-refl r.state
      go stuck = keeps-refl r.state
      go (unfinished w i p) =
          rw (behind-state r.matches (resumed i p (m + length r.matches) (l + rows_in plan r.matches) r.state))
          (resumed-keeps i p (m + length r.matches) (l + rows_in plan r.matches) r.state)

  pub then-begins : (m l : ℕ) (r : Swept Kept) → Begins r.matches (and_then m l r).matches
  then-begins m l r = go r.end
    where
      none_more : r.matches ≡ r.matches ++ []
      none_more = sym (append-nil r.matches)

      go : (e : End Match) → Begins r.matches (resumed_by e m l r.matches r.state).matches
      go done = ([], none_more)
      go (full q) = ([], none_more)
      go stuck = ([], none_more)
      go (unfinished w i p) =
          ((resumed i p (m + length r.matches) (l + rows_in plan r.matches) r.state).matches, behind-matches r.matches (resumed i p (m + length r.matches) (l + rows_in plan r.matches) r.state))

  -- a finished search is what it comes to
  pub then-finished : (m l : ℕ) (r : Swept Kept) → Finished r.end → and_then m l r ≡ r
  then-finished m l r f = go r.end refl f
    where
      go : (e : End Match) → r.end ≡ e → Finished e → resumed_by e m l r.matches r.state ≡ r
      go done d g = ap (λ (e : End Match). record { matches = r.matches; end = e; state = r.state }) (sym d)
      go (full q) d g = ap (λ (e : End Match). record { matches = r.matches; end = e; state = r.state }) (sym d)
      go stuck d g = ap (λ (e : End Match). record { matches = r.matches; end = e; state = r.state }) (sym d)
      go (unfinished w i p) d g = absurd g

module _ (h₁ h₂ : Halting) (ways₁ ways₂ : ℕ → Ways) (sooner : Sooner h₁ h₂ ways₁ ways₂) (ρ : ℕ → ℕ) (N : ℕ) (falls : Falls ways₂ ρ N) (K : ℕ) (top : (x : ℕ) → ρ x < K)
    (first : ℕ → ℕ) (plan : Plan) (n₂ : ℕ) (more₂ : Bool) (le : plan.n ≤ n₂) (rest : (plan.more ≡ true) ⊎ ((n₂ ≡ plan.n) × (more₂ ≡ false)))
    (starts : (i : ℕ) → i < n₂ → first i < N) (later : (i : ℕ) (p : List ℕ) (j : ℕ) → plan.next i p ≡ some j → i < j) where
  abbrev att₁ : ℕ → Kept → Attempted × Kept
  att₁ = walk_at h₁ ways₁ K first

  abbrev att₂ : ℕ → Kept → Attempted × Kept
  att₂ = walk_at h₂ ways₂ K first

  abbrev plan₂ : Plan
  plan₂ = extended plan n₂ more₂

  abbrev next : ℕ → ℕ → Swept Kept → Swept Kept
  next = and_then h₂ ways₂ K first plan₂

  abbrev Same : ℕ → Type 0
  Same k = (i m l : ℕ) (st : Kept) → length st.failed ≡ N → n₂ ≤ i + k → sweep att₂ plan₂ k (stand_at i m l) st ≡ next m l (sweep att₁ plan k (stand_at i m l) st)

  -- the second search from a start on, with any bound that reaches the last row
  same_from : (k i m l : ℕ) (st : Kept) → n₂ ≤ i + k → sweep att₂ plan₂ k (stand_at i m l) st ≡ sweep att₂ plan₂ n₂ (stand_at i m l) st
  same_from k i m l st e = sweep-fuel att₂ att₂ (λ i st. refl) plan₂ later k n₂ i m l st e (omega arith)

  -- behind an attempt
  answer_same : (k : ℕ) → Same k → (i m l : ℕ) → n₂ ≤ i + suc k → (r : Outcome) → Opens r → length (kept_by r).failed ≡ N
      → on_answer plan₂ (sweep att₂ plan₂ k) (stand_at i m l) (answered (onward h₁ h₂ ways₁ ways₂ sooner ρ N falls K top r)).0 (answered (onward h₁ h₂ ways₁ ways₂ sooner ρ N falls K top r)).1
      ≡ next m l (on_answer plan (sweep att₁ plan k) (stand_at i m l) (answered r).0 (answered r).1)
  answer_same k ih i m l e (failed kept) o len = ih (suc i) m l kept len (omega arith)
  answer_same k ih i m l e (found p kept) o len = go (plan.next i p) refl (plan.fits m l p)
    where
      go : (q : Option ℕ) → plan.next i p ≡ q → (t : Bool)
          → on_match t q (record { start = i; path = p }) kept (λ j. sweep att₂ plan₂ k (stand_at j (suc m) (l + plan.rows p)) kept)
          ≡ next m l (on_match t q (record { start = i; path = p }) kept (λ j. sweep att₁ plan k (stand_at j (suc m) (l + plan.rows p)) kept))
      go q d false = refl
      go none d true = refl
      go (some j) d true =
          ap (with_match (record { start = i; path = p })) (ih j (suc m) (l + plan.rows p) kept len (omega (arith, later i p j d)))
          ∙ sym (then-match h₂ ways₂ K first plan₂ m l (record { start = i; path = p }) (sweep att₁ plan k (stand_at j (suc m) (l + plan.rows p)) kept))
  answer_same k ih i m l e (halted w [] kept) o len = absurd o
  answer_same k ih i m l e (halted w (x ∷ p) kept) o len =
      let z : m + 0 ≡ m = omega arith in
      let y : l + 0 ≡ l = omega arith in
      rw (z, y)
      (same_answer att₂ att₂ (λ i st. refl) plan₂ later (sweep att₂ plan₂ k) (sweep att₂ plan₂ n₂) i
      (λ j m' l' st' lt. same_from k j m' l' st' (omega arith)) m l (answered (go_on h₂ ways₂ K (x ∷ p) kept)).0 (answered (go_on h₂ ways₂ K (x ∷ p) kept)).1)

  out-of_starts : (k i m l : ℕ) (st : Kept) → n₂ ≤ i → sweep att₂ plan₂ k (stand_at i m l) st ≡ ended (no_start more₂ i) st
  unfolding sweep
  out-of_starts zero i m l st h = refl
  out-of_starts (suc k) i m l st h = rw (le-ltb i n₂ h)

  -- no start is left to the first
  none-same : (k i m l : ℕ) (st : Kept) → n₂ ≤ i + k → plan.n ≤ i → sweep att₂ plan₂ k (stand_at i m l) st ≡ next m l (ended (no_start plan.more i) st)
  none-same k i m l st e ge = ⊎_elim more (λ d. less d.0 d.1) rest
    where
      more : plan.more ≡ true → sweep att₂ plan₂ k (stand_at i m l) st ≡ next m l (ended (no_start plan.more i) st)
      more d =
          let z : m + 0 ≡ m = omega arith in
          let y : l + 0 ≡ l = omega arith in
          rw (d, z, y) (same_from k i m l st e)

      less : n₂ ≡ plan.n → more₂ ≡ false → sweep att₂ plan₂ k (stand_at i m l) st ≡ next m l (ended (no_start plan.more i) st)
      less a b = go plan.more refl
        where
          go : (t : Bool) → plan.more ≡ t → sweep att₂ plan₂ k (stand_at i m l) st ≡ next m l (ended (no_start t i) st)
          go false d = out-of_starts k i m l st (omega arith) ∙ rw b
          go true d = rw d at (more d)

  pub search_onward : (k : ℕ) → Same k
  unfolding sweep
  search_onward zero i m l st len e = none-same zero i m l st e (omega arith)
  search_onward (suc k) i m l st len e = go (search_onward k) (ltb i plan.n) refl
    where
      enter : Same k → i < plan.n → (t : Bool) → get_or st.failed (first i) false ≡ t → (u : Bool) → h₁.spent st.steps ≡ u
          → sweep att₂ plan₂ (suc k) (stand_at i m l) st
          ≡ next m l (on_answer plan (sweep att₁ plan k) (stand_at i m l) (answered (enter_unless t u (inside h₁ ways₁ K) st (first i))).0 (answered (enter_unless t u (inside h₁ ways₁ K) st (first i))).1)
      enter ih lt true d u c = rw (lt-ltb i n₂ (le_trans lt le), d) (ih (suc i) m l st len (omega arith))
      enter ih lt false d true c =
          let z : m + 0 ≡ m = omega arith in
          let y : l + 0 ≡ l = omega arith in
          rw (z, y) (same_from (suc k) i m l st e)
      enter ih lt false d false c =
          rw (lt-ltb i n₂ (le_trans lt le), d, sooner.steps st.steps c)
          (ap (λ (r : Outcome). on_answer plan₂ (sweep att₂ plan₂ k) (stand_at i m l) (answered r).0 (answered r).1)
          (inside-onward h₁ h₂ ways₁ ways₂ sooner ρ N falls K top K st.failed len (suc st.steps) (first i) (top (first i)) (starts i (le_trans lt le)))
          ∙ answer_same k ih i m l e (inside h₁ ways₁ K (one_step st) (first i)) (inside-opens h₁ ways₁ K st.failed (suc st.steps) (first i))
          ((inside-keeps h₁ ways₁ K st.failed (suc st.steps) (first i)).len ∙ len))

      go : Same k → (t : Bool) → ltb i plan.n ≡ t
          → sweep att₂ plan₂ (suc k) (stand_at i m l) st ≡ next m l (below t (ended (no_start plan.more i) st) (λ _. on_answer plan (sweep att₁ plan k) (stand_at i m l) (att₁ i st).0 (att₁ i st).1))
      go ih false d = none-same (suc k) i m l st e (ltb-false i plan.n d)
      go ih true d = enter ih (ltb-true i plan.n d) (get_or st.failed (first i) false) refl (h₁.spent st.steps) refl

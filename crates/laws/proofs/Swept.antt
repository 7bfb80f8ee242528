-- The whole search over any graph, whatever may halt the walk: its matches are the first of plain
-- backtracking's, all of them where it does not halt; its steps are the failed pairs, the pairs of
-- the paths found and those still open.
use mathlib.Core.Path.{◌≡◌, refl, ap, ◌∙◌}
use mathlib.Core.List.{List, [], ◌∷◌}
use mathlib.Core.Bool.{Bool, true, false}
use mathlib.Core.Option.{Option, none, some}
use Prim.Native.Nat.{ℕ, zero, suc, ◌+◌, ◌<◌}
use native.Mathlib.Omega.{arith}
use lib.ListN.{length, get_or}
use lib.Dec.{ltb}
use borrow.Author.Tests.{ltb-true}
use Rattle.rules.specs.Basics.{Begins}
use Rattle.rules.specs.Search.{path_pairs, Match, End, done, full, stuck, unfinished, Finished, open_of, Attempted, hit, miss, halts, Swept, Plan, ended, no_start, below, with_match, on_answer, sweep, found_in, answered, walk_at, plainly, plain_at, Standing, on_match, stand_at}
use Rattle.rules.specs.Walk.{Ways, accept, try, Halting, Outcome, found, failed, halted, or_else, close, enter_unless, tries, inside, inside_by, count_true, plain, Kept, as_kept, one_step}
use Rattle.laws.proofs.Plain.{Sound, InsideSound, inside-sound}
use Rattle.laws.proofs.Walk.{InsidePost, inside-post}
use Rattle.rules.specs.Working.{All, Falls, Out}

-- ---- a walk that nothing halts

-- the steps are never spent, and no pair waits
abbrev pub Unhalting : Halting → Type 0
Unhalting h = ((s : ℕ) → h.spent s ≡ false) × ((x : ℕ) → h.waits x ≡ false)

abbrev pub Unhalted : Outcome → Type 0
Unhalted (found p kept) = Unit {0}
Unhalted (failed kept) = Unit {0}
Unhalted (halted w p kept) = ⊥

module _ (h : Halting) (calm : Unhalting h) where
  unhalted_or : (r : Outcome) (next : Kept → Outcome) → Unhalted r → ((F : List Bool) (s : ℕ) → Unhalted (next (as_kept F s))) → Unhalted (or_else r next)
  unhalted_or (found p kept) next a b = tt
  unhalted_or (failed kept) next a b = b kept.failed kept.steps
  unhalted_or (halted w p kept) next a b = a

  unhalted_close : (x : ℕ) (r : Outcome) → Unhalted r → Unhalted (close x r)
  unhalted_close x (found p kept) a = tt
  unhalted_close x (failed kept) a = tt
  unhalted_close x (halted w p kept) a = a

  pub tried-unhalted : (f : Kept → ℕ → Outcome) → ((F : List Bool) (s y : ℕ) → Unhalted (f (as_kept F s) y)) → (F : List Bool) (s y : ℕ) (t : Bool) → Unhalted (enter_unless t (h.spent s) f (as_kept F s) y)
  tried-unhalted f g F s y t = rw (calm.0 s) (go t)
    where
      go : (t : Bool) → Unhalted (enter_unless t false f (as_kept F s) y)
      go true = tt
      go false = g F (suc s) y

  tries-unhalted : (f : Kept → ℕ → Outcome) → ((F : List Bool) (s y : ℕ) → Unhalted (f (as_kept F s) y)) → (ys : List ℕ) (F : List Bool) (s : ℕ) → Unhalted (tries h f (as_kept F s) ys)
  unfolding tries
  tries-unhalted f g [] F s = tt
  tries-unhalted f g (y ∷ ys) F s =
      unhalted_or (enter_unless (get_or F y false) (h.spent s) f (as_kept F s) y) (λ kept'. tries h f kept' ys) (tried-unhalted f g F s y (get_or F y false)) (λ F' s'. tries-unhalted f g ys F' s')

  pub inside-unhalted : (ways : ℕ → Ways) (k : ℕ) (F : List Bool) (s x : ℕ) → Unhalted (inside h ways k (as_kept F s) x)
  unfolding inside inside_by
  inside-unhalted ways zero F s x = tt
  inside-unhalted ways (suc k) F s x = rw (calm.1 x) (go (inside-unhalted ways k) (ways x))
    where
      go : ((F : List Bool) (s y : ℕ) → Unhalted (inside h ways k (as_kept F s) y)) → (w : Ways) → Unhalted (inside_by h false w (inside h ways k) (as_kept F s) x)
      go ih accept = tt
      go ih (try ys) = unhalted_close x (tries h (inside h ways k) (as_kept F s) ys) (tries-unhalted (inside h ways k) ih ys F s)

-- ---- a search that nothing halts is finished

abbrev pub Answered : Attempted → Type 0
Answered (hit p) = Unit {0}
Answered miss = Unit {0}
Answered (halts w p) = ⊥

module _ {S : Type 0} (att : ℕ → S → Attempted × S) (sure : (i : ℕ) (st : S) → Answered (att i st).0) (plan : Plan) (last : plan.more ≡ false) where
  abbrev FinishedOn : (Standing → S → Swept S) → Type 0
  FinishedOn f = (i m l : ℕ) (st : S) → Finished (f (stand_at i m l) st).end

  finished-answer : (f : Standing → S → Swept S) → FinishedOn f → (i m l : ℕ) (a : Attempted) (st : S) → Answered a → Finished (on_answer plan f (stand_at i m l) a st).end
  finished-answer f ih i m l miss st h = ih (suc i) m l st
  finished-answer f ih i m l (halts w p) st h = h
  finished-answer f ih i m l (hit p) st h = go (plan.next i p) (plan.fits m l p)
    where
      go : (o : Option ℕ) (t : Bool) → Finished (on_match t o (record { start = i; path = p }) st (λ j. f (stand_at j (suc m) (l + plan.rows p)) st)).end
      go o false = tt
      go none true = tt
      go (some j) true = ih j (suc m) (l + plan.rows p) st

  pub sweep-finished : (k : ℕ) → FinishedOn (sweep att plan k)
  unfolding sweep
  sweep-finished zero i m l st = rw last tt
  sweep-finished (suc k) i m l st = go (sweep-finished k) (ltb i plan.n)
    where
      go : FinishedOn (sweep att plan k) → (t : Bool) → Finished (below t (ended (no_start plan.more i) st) (λ _. on_answer plan (sweep att plan k) (stand_at i m l) (att i st).0 (att i st).1)).end
      go ih false = rw last tt
      go ih true = finished-answer (sweep att plan k) ih i m l (att i st).0 (att i st).1 (sure i st)

-- ---- what every attempt keeps, the search keeps

module _ {S : Type 0} (I : S → Type 0) (att : ℕ → S → Attempted × S) (keep : (i : ℕ) (st : S) → I st → I (att i st).1) (plan : Plan) where
  abbrev KeepsOn : (Standing → S → Swept S) → Type 0
  KeepsOn f = (i m l : ℕ) (st : S) → I st → I (f (stand_at i m l) st).state

  keeps-answer : (f : Standing → S → Swept S) → KeepsOn f → (i m l : ℕ) (a : Attempted) (st : S) → I st → I (on_answer plan f (stand_at i m l) a st).state
  keeps-answer f ih i m l miss st h = ih (suc i) m l st h
  keeps-answer f ih i m l (halts w p) st h = h
  keeps-answer f ih i m l (hit p) st h = go (plan.next i p) (plan.fits m l p)
    where
      go : (o : Option ℕ) (t : Bool) → I (on_match t o (record { start = i; path = p }) st (λ j. f (stand_at j (suc m) (l + plan.rows p)) st)).state
      go o false = h
      go none true = h
      go (some j) true = ih j (suc m) (l + plan.rows p) st h

  pub sweep-keeps : (k : ℕ) → KeepsOn (sweep att plan k)
  unfolding sweep
  sweep-keeps zero i m l st h = h
  sweep-keeps (suc k) i m l st h = go (sweep-keeps k) (ltb i plan.n)
    where
      go : KeepsOn (sweep att plan k) → (t : Bool) → I (below t (ended (no_start plan.more i) st) (λ _. on_answer plan (sweep att plan k) (stand_at i m l) (att i st).0 (att i st).1)).state
      go ih false = h
      go ih true = keeps-answer (sweep att plan k) ih i m l (att i st).0 (att i st).1 (keep i st h)

-- and a finished search has no pair open
pub finished_open : (e : End Match) → Finished e → open_of e ≡ []
finished_open done f = refl
finished_open (full m) f = refl
finished_open stuck f = refl
finished_open (unfinished h i p) f = absurd f

answered-sure : (r : Outcome) → Unhalted r → Answered (answered r).0
answered-sure (found p kept) h = tt
answered-sure (failed kept) h = tt
answered-sure (halted w p kept) h = h

pub walk-sure : (h : Halting) → Unhalting h → (ways : ℕ → Ways) (K : ℕ) (first : ℕ → ℕ) (i : ℕ) (st : Kept) → Answered (walk_at h ways K first i st).0
walk-sure h calm ways K first i st =
    answered-sure (enter_unless (get_or st.failed (first i) false) (h.spent st.steps) (inside h ways K) st (first i))
    (tried-unhalted h calm (inside h ways K) (inside-unhalted h calm ways K) st.failed st.steps (first i) (get_or st.failed (first i) false))

-- ---- two ways to make attempts, of which the first may halt and else answers as the second does

-- the same matches and the same end
pub record Alike {S T : Type 0} (I : S → T → Type 0) (a : Swept S) (b : Swept T) : Type 0 where
  pub matches : a.matches ≡ b.matches
  pub end : a.end ≡ b.end
  pub state : I a.state b.state

-- the first of the matches; all of them, and the same end, where the search is finished
pub record Follows {S T : Type 0} (I : S → Type 0) (a : Swept S) (b : Swept T) : Type 0 where
  pub begins : Begins a.matches b.matches
  pub whole : Finished a.end → (a.matches ≡ b.matches) × (a.end ≡ b.end)
  pub state : I a.state

pub follows_alike : {S T : Type 0} {I : S → Type 0} {a : Swept S} {b : Swept T} → Follows I a b → Finished a.end → Alike (λ (st : S) (_ : T). I st) a b
follows_alike f h = record { matches = (f.whole h).0; end = (f.whole h).1; state = f.state }

-- the same plan where no more rows come
abbrev pub closed : Plan → Plan
closed plan = record { n = plan.n; more = false; next = plan.next; rows = plan.rows; fits = plan.fits }

abbrev LikeAnswer : Attempted → Attempted → Type 0
LikeAnswer (hit p) b = b ≡ hit p
LikeAnswer miss b = b ≡ miss
LikeAnswer (halts h p) b = Unit {0}

module _ {S T : Type 0} (I : S → Type 0) (att : ℕ → S → Attempted × S) (alt : ℕ → T → Attempted × T)
    (like : (i : ℕ) (st : S) (su : T) → I st → LikeAnswer (att i st).0 (alt i su).0 × I (att i st).1) (plan : Plan) where
  abbrev FollowsOn : (Standing → S → Swept S) → (Standing → T → Swept T) → Type 0
  FollowsOn f g = (i m l : ℕ) (st : S) (su : T) → I st → Follows I (f (stand_at i m l) st) (g (stand_at i m l) su)

  -- the same end and no match
  follows_end : (e : End Match) (st : S) (su : T) → I st → Follows {S = S} {T = T} I (ended e st) (ended e su)
  follows_end e st su h = record { begins = ([], refl); whole = λ _. (refl, refl); state = h }

  -- a halt
  follows_halt : (e : End Match) → (Finished e → ⊥) → (st : S) → I st → (b : Swept T) → Follows {S = S} {T = T} I (ended e st) b
  follows_halt e n st h b = record { begins = (b.matches, refl); whole = λ f. absurd (n f); state = h }

  follows_match : (m : Match) (a : Swept S) (b : Swept T) → Follows I a b → Follows I (with_match m a) (with_match m b)
  follows_match m a b f =
      record {
        begins = (f.begins.0, ap (λ (ms : List Match). m ∷ ms) f.begins.1);
        whole = λ h. (ap (λ (ms : List Match). m ∷ ms) (f.whole h).0, (f.whole h).1);
        state = f.state;
      }

  follows_answer : (f : Standing → S → Swept S) (g : Standing → T → Swept T) → FollowsOn f g → (i m l : ℕ) (a b : Attempted) (st : S) (su : T) → LikeAnswer a b → I st
      → Follows I (on_answer plan f (stand_at i m l) a st) (on_answer (closed plan) g (stand_at i m l) b su)
  follows_answer f g ih i m l miss b st su e h = rw e (ih (suc i) m l st su h)
  follows_answer f g ih i m l (halts w p) b st su e h = follows_halt (unfinished w i p) (λ z. z) st h (on_answer (closed plan) g (stand_at i m l) b su)
  follows_answer f g ih i m l (hit p) b st su e h = rw e (go (plan.next i p) (plan.fits m l p))
    where
      go : (o : Option ℕ) (t : Bool)
          → Follows I (on_match t o (record { start = i; path = p }) st (λ j. f (stand_at j (suc m) (l + plan.rows p)) st))
          (on_match t o (record { start = i; path = p }) su (λ j. g (stand_at j (suc m) (l + plan.rows p)) su))
      go o false = follows_end (full (record { start = i; path = p })) st su h
      go none true = follows_match (record { start = i; path = p }) (ended stuck st) (ended stuck su) (follows_end stuck st su h)
      go (some j) true = follows_match (record { start = i; path = p }) (f (stand_at j (suc m) (l + plan.rows p)) st) (g (stand_at j (suc m) (l + plan.rows p)) su) (ih j (suc m) (l + plan.rows p) st su h)

  follows_none : (more : Bool) (i : ℕ) (st : S) (su : T) → I st → Follows {S = S} {T = T} I (ended (no_start more i) st) (ended done su)
  follows_none false i st su h = follows_end done st su h
  follows_none true i st su h = follows_halt (no_start true i) (λ z. z) st h (ended done su)

  pub sweep-follows : (k : ℕ) → FollowsOn (sweep att plan k) (sweep alt (closed plan) k)
  unfolding sweep
  sweep-follows zero i m l st su h = follows_none plan.more i st su h
  sweep-follows (suc k) i m l st su h = go (sweep-follows k) (ltb i plan.n)
    where
      go : FollowsOn (sweep att plan k) (sweep alt (closed plan) k) → (t : Bool)
          → Follows I (below t (ended (no_start plan.more i) st) (λ _. on_answer plan (sweep att plan k) (stand_at i m l) (att i st).0 (att i st).1))
          (below t (ended done su) (λ _. on_answer (closed plan) (sweep alt (closed plan) k) (stand_at i m l) (alt i su).0 (alt i su).1))
      go ih false = follows_none plan.more i st su h
      go ih true =
          let a = like i st su h in
          follows_answer (sweep att plan k) (sweep alt (closed plan) k) ih i m l (att i st).0 (alt i su).0 (att i st).1 (alt i su).1 a.0 a.1

-- ---- the matches of the whole search

module _ (h : Halting) (ways : ℕ → Ways) (ρ : ℕ → ℕ) (N : ℕ) (falls : Falls ways ρ N) (K : ℕ) (top : (x : ℕ) → ρ x < K) (first : ℕ → ℕ) where
  abbrev pub SoundKept : Kept → Type 0
  SoundKept st = Sound ways K st.failed

  walk-plain_at : (i : ℕ) (st : Kept) (su : Unit {0}) → SoundKept st
      → LikeAnswer (walk_at h ways K first i st).0 (plain_at ways K first i su).0 × SoundKept (walk_at h ways K first i st).1
  walk-plain_at i st su a = go (get_or st.failed (first i) false) refl (h.spent st.steps)
    where
      on : (r : Outcome) → InsideSound ways K (first i) r → LikeAnswer (answered r).0 (plainly (plain ways K (first i))) × SoundKept (answered r).1
      on (found p kept) t = (ap plainly t.0, t.1)
      on (failed kept) t = (ap plainly t.0, t.1)
      on (halted w p kept) t = (tt, t)

      go : (t : Bool) → get_or st.failed (first i) false ≡ t → (u : Bool)
          → LikeAnswer (answered (enter_unless t u (inside h ways K) st (first i))).0 (plainly (plain ways K (first i))) × SoundKept (answered (enter_unless t u (inside h ways K) st (first i))).1
      go true e u = (ap plainly (a (first i) e), a)
      go false e true = (tt, a)
      go false e false = on (inside h ways K (one_step st) (first i)) (inside-sound ways ρ N falls K top h K st.failed (suc st.steps) (first i) (top (first i)) a)

  pub walk-follows_plain : (plan : Plan) (k i m l : ℕ) (st : Kept) → SoundKept st
      → Follows SoundKept (sweep (walk_at h ways K first) plan k (stand_at i m l) st) (sweep (plain_at ways K first) (closed plan) k (stand_at i m l) tt)
  walk-follows_plain plan k i m l st a = sweep-follows SoundKept (walk_at h ways K first) (plain_at ways K first) walk-plain_at plan k i m l st tt a

-- ---- the steps of the whole search

pub record Counted (N : ℕ) (st : Kept) (r : Swept Kept) : Type 0 where
  pub len : length r.state.failed ≡ N
  pub sum : r.state.steps + count_true st.failed ≡ st.steps + count_true r.state.failed + path_pairs (found_in r) + length (open_of r.end)
  pub out : All (Out r.state.failed) (open_of r.end)

module _ (h : Halting) (ways : ℕ → Ways) (ρ : ℕ → ℕ) (N : ℕ) (falls : Falls ways ρ N) (K : ℕ) (top : (x : ℕ) → ρ x < K) (first : ℕ → ℕ) (plan : Plan)
    (starts : (i : ℕ) → i < plan.n → first i < N) where
  abbrev CountedOn : (Standing → Kept → Swept Kept) → Type 0
  CountedOn f = (i m l : ℕ) (st : Kept) → length st.failed ≡ N → Counted N st (f (stand_at i m l) st)

  -- the attempt's own count
  abbrev AttemptCounted : Kept → Attempted → Kept → Type 0
  AttemptCounted st miss su = (length su.failed ≡ N) × (su.steps + count_true st.failed ≡ st.steps + count_true su.failed)
  AttemptCounted st (hit p) su = (length su.failed ≡ N) × (su.steps + count_true st.failed ≡ st.steps + count_true su.failed + length p)
  AttemptCounted st (halts w p) su = (length su.failed ≡ N) × (su.steps + count_true st.failed ≡ st.steps + count_true su.failed + length p) × All (Out su.failed) p

  attempt-counted : (i : ℕ) (st : Kept) → i < plan.n → length st.failed ≡ N → AttemptCounted st (walk_at h ways K first i st).0 (walk_at h ways K first i st).1
  attempt-counted i st lt len = go (get_or st.failed (first i) false) refl (h.spent st.steps)
    where
      on : (r : Outcome) → InsidePost ρ st.failed (suc st.steps) (first i) r → AttemptCounted st (answered r).0 (answered r).1
      on (found p kept) t = (t.grew.len ∙ len, omega arith)
      on (failed kept) t = (t.grew.len ∙ len, omega arith)
      on (halted w p kept) t = (t.grew.len ∙ len, omega arith, t.off)

      go : (t : Bool) → get_or st.failed (first i) false ≡ t → (u : Bool)
          → AttemptCounted st (answered (enter_unless t u (inside h ways K) st (first i))).0 (answered (enter_unless t u (inside h ways K) st (first i))).1
      go true e u = (len, refl)
      go false e true = (len, omega arith, tt)
      go false e false =
          on (inside h ways K (one_step st) (first i))
          (inside-post h ways ρ N falls K st.failed (suc st.steps) (first i) (top (first i)) (starts i lt) len e)

  counted-answer : (f : Standing → Kept → Swept Kept) → CountedOn f → (i m l : ℕ) (st : Kept) (o : Attempted) (su : Kept) → AttemptCounted st o su
      → Counted N st (on_answer plan f (stand_at i m l) o su)
  counted-answer f ih i m l st miss su a = let c = ih (suc i) m l su a.0 in record { len = c.len; sum = omega (arith, c.sum, a.1); out = c.out }
  counted-answer f ih i m l st (halts w p) su a = record { len = a.0; sum = omega (arith, a.1); out = a.2 }
  counted-answer f ih i m l st (hit p) su a = go (plan.next i p) (plan.fits m l p)
    where
      go : (o : Option ℕ) (t : Bool) → Counted N st (on_match t o (record { start = i; path = p }) su (λ j. f (stand_at j (suc m) (l + plan.rows p)) su))
      go o false = record { len = a.0; sum = omega (arith, a.1); out = tt }
      go none true = record { len = a.0; sum = omega (arith, a.1); out = tt }
      go (some j) true = let c = ih j (suc m) (l + plan.rows p) su a.0 in record { len = c.len; sum = omega (arith, c.sum, a.1); out = c.out }

  none-counted : (more : Bool) (i : ℕ) (st : Kept) → length st.failed ≡ N → Counted N st (ended (no_start more i) st)
  none-counted false i st len = record { len = len; sum = omega arith; out = tt }
  none-counted true i st len = record { len = len; sum = omega arith; out = tt }

  pub walk-counted : (k : ℕ) → CountedOn (sweep (walk_at h ways K first) plan k)
  unfolding sweep
  walk-counted zero i m l st len = none-counted plan.more i st len
  walk-counted (suc k) i m l st len = go (walk-counted k) (ltb i plan.n) refl
    where
      go : CountedOn (sweep (walk_at h ways K first) plan k) → (t : Bool) → ltb i plan.n ≡ t
          → Counted N st (below t (ended (no_start plan.more i) st) (λ _. on_answer plan (sweep (walk_at h ways K first) plan k) (stand_at i m l) (walk_at h ways K first i st).0 (walk_at h ways K first i st).1))
      go ih false e = none-counted plan.more i st len
      go ih true e =
          counted-answer (sweep (walk_at h ways K first) plan k) ih i m l st (walk_at h ways K first i st).0 (walk_at h ways K first i st).1
          (attempt-counted i st (ltb-true i plan.n e) len)

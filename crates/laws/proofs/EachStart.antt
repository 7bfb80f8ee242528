-- A bound on the steps for every skip mode: an attempt enters each pair from the position of its
-- start on at most once.
use mathlib.Core.Path.{◌≡◌, refl, ap, sym, ◌∙◌}
use mathlib.Core.List.{List, [], ◌∷◌, ◌++◌}
use mathlib.Core.Bool.{Bool, true, false}
use mathlib.Core.Logic.{◌⊎◌, inl, inr, ⊎_elim, ◌≢◌}
use mathlib.Core.Option.{Option, none, some}
use Prim.Native.Nat.{ℕ, zero, suc, ◌+◌, ◌-◌, ◌*◌, ◌≤◌, ◌<◌, suc-le-suc}
use native.Mathlib.Nat.{le_trans, add-zero, add-suc, le_of_suc-le-suc, not-suc-le-zero}
use native.Mathlib.Omega.{arith}
use lib.ListN.{length, get_or, set, take, drop, length-set, length-drop, take-append-drop}
use lib.Dec.{ltb}
use borrow.Author.Tests.{ltb-true}
use Rattle.rules.specs.Search.{Attempted, hit, miss, halts, Swept, Plan, ended, no_start, below, on_answer, sweep, answered, walk_at, Standing, on_match, stand_at}
use Rattle.rules.specs.Walk.{Ways, accept, try, Halting, Outcome, found, failed, halted, or_else, close, enter_unless, tries, inside, inside_by, count_true, Kept, as_kept, one_step}
use Rattle.laws.proofs.Bound.{path_apart, path_pairs_lem, path_closed}
use Rattle.laws.proofs.Plain.{plain-path, Sound, InsideSound, inside-sound}
use Rattle.laws.proofs.Swept.{Unhalting, Unhalted, inside-unhalted, Answered, walk-sure, sweep-keeps}
use Rattle.laws.proofs.Walk.{All-map, All-map₂, mark-in, count-mark, count-le, out-mark, Apart, InsidePost, inside-post}
use Rattle.rules.specs.Working.{All, Falls, In, Out}

-- ---- what fails in an attempt lies where its pairs lie

abbrev noted : Outcome → List Bool
noted (found p kept) = kept.failed
noted (failed kept) = kept.failed
noted (halted w p kept) = kept.failed

abbrev pub Closed : (ℕ → Ways) → (ℕ → Type 0) → Type 0
Closed ways Q = (x : ℕ) (ys : List ℕ) → ways x ≡ try ys → Q x → All Q ys

module _ (Q : ℕ → Type 0) where
  abbrev New : List Bool → Outcome → Type 0
  New F r = (z : ℕ) → In (noted r) z → In F z ⊎ Q z

  new_or : (F : List Bool) (r : Outcome) (next : Kept → Outcome) → New F r → ((G : List Bool) (s : ℕ) → New G (next (as_kept G s))) → New F (or_else r next)
  new_or F (found p later) next a b = a
  new_or F (failed later) next a b = λ z i. ⊎_elim (λ j. a z j) (λ q. inr q) (b later.failed later.steps z i)
  new_or F (halted w p later) next a b = a

  new_close : (F : List Bool) (x : ℕ) (r : Outcome) → Q x → New F r → New F (close x r)
  new_close F x (found p later) q a = a
  new_close F x (failed later) q a = λ z i. ⊎_elim (λ j. a z j) (λ (e : z ≡ x). inr (rw e q)) (mark-in later.failed x z i)
  new_close F x (halted w p later) q a = a

  tries-new : (w : Halting) (f : Kept → ℕ → Outcome) → ((F : List Bool) (s y : ℕ) → Q y → New F (f (as_kept F s) y)) → (ys : List ℕ) → All Q ys → (F : List Bool) (s : ℕ) → New F (tries w f (as_kept F s) ys)
  unfolding tries
  tries-new w f h [] a F s = λ z i. inl i
  tries-new w f h (y ∷ ys) a F s = new_or F (enter_unless (get_or F y false) (w.spent s) f (as_kept F s) y) (λ later. tries w f later ys) (go (get_or F y false) (w.spent s)) (λ G t. tries-new w f h ys a.1 G t)
    where
      go : (t u : Bool) → New F (enter_unless t u f (as_kept F s) y)
      go true u = λ z i. inl i
      go false true = λ z i. inl i
      go false false = h F (suc s) y a.0

  inside-new : (w : Halting) (ways : ℕ → Ways) → Closed ways Q → (k : ℕ) (F : List Bool) (s x : ℕ) → Q x → New F (inside w ways k (as_kept F s) x)
  unfolding inside
  inside-new w ways cl zero F s x q = λ z i. inl i
  inside-new w ways cl (suc k) F s x q = go (inside-new w ways cl k) (w.waits x) (ways x) refl
    where
      go : ((F : List Bool) (s x : ℕ) → Q x → New F (inside w ways k (as_kept F s) x)) → (u : Bool) (v : Ways) → ways x ≡ v → New F (inside_by w u v (inside w ways k) (as_kept F s) x)
      go ih true v e = λ z i. inl i
      go ih false accept e = λ z i. inl i
      go ih false (try ys) e = new_close F x (tries w (inside w ways k) (as_kept F s) ys) q (tries-new w (inside w ways k) ih ys (cl x ys e q) F s)

  -- in a whole search only pairs with Q fail, if the starts have Q and ways keep it, whatever may
  -- halt the walk
  pub search_new : (w : Halting) (ways : ℕ → Ways) → Closed ways Q → (K : ℕ) (first : ℕ → ℕ) → ((i : ℕ) → Q (first i)) → (plan : Plan) (k i m l : ℕ) (st : Kept) → ((z : ℕ) → In st.failed z → Q z)
      → (z : ℕ) → In (sweep (walk_at w ways K first) plan k (stand_at i m l) st).state.failed z → Q z
  search_new w ways cl K first qf plan = sweep-keeps (λ (st : Kept). (z : ℕ) → In st.failed z → Q z) (walk_at w ways K first) one plan
    where
      one : (i : ℕ) (a : Kept) → ((z : ℕ) → In a.failed z → Q z) → (z : ℕ) → In (walk_at w ways K first i a).1.failed z → Q z
      one i a h = go (get_or a.failed (first i) false) (w.spent a.steps)
        where
          on : (r : Outcome) → New a.failed r → (z : ℕ) → In (answered r).1.failed z → Q z
          on (found p kept) n z j = ⊎_elim (λ x. h z x) (λ x. x) (n z j)
          on (failed kept) n z j = ⊎_elim (λ x. h z x) (λ x. x) (n z j)
          on (halted v p kept) n z j = ⊎_elim (λ x. h z x) (λ x. x) (n z j)

          go : (t u : Bool) → (z : ℕ) → In (answered (enter_unless t u (inside w ways K) a (first i))).1.failed z → Q z
          go true u z j = h z j
          go false true z j = h z j
          go false false z j = on (inside w ways K (one_step a) (first i)) (inside-new w ways cl K a.failed (suc a.steps) (first i) (qf i)) z j

-- ---- counting from a on

count-append : (F G : List Bool) → count_true (F ++ G) ≡ count_true F + count_true G
unfolding count_true
count-append [] G = omega arith
count-append (true ∷ F) G = let h = count-append F G in omega arith
count-append (false ∷ F) G = count-append F G

count-split : (a : ℕ) (F : List Bool) → count_true F ≡ count_true (take a F) + count_true (drop a F)
count-split a F = let h : count_true (take a F ++ drop a F) ≡ count_true (take a F) + count_true (drop a F) = count-append (take a F) (drop a F) in rw take-append-drop at h

take_same : (a : ℕ) (F G : List Bool) → length F ≡ length G → ((z : ℕ) → z < a → get_or F z false ≡ get_or G z false) → take a F ≡ take a G
take_same zero F G l h = refl
take_same (suc a) [] [] l h = refl
take_same (suc a) [] (y ∷ G) l h = absurd (omega arith)
take_same (suc a) (x ∷ F) [] l h = absurd (omega arith)
take_same (suc a) (x ∷ F) (y ∷ G) l h =
    let e : x ≡ y = h 0 (omega arith) in
    rw (e, take_same a F G (omega arith) (λ z i. h (suc z) (suc-le-suc i)))

room-from : (a : ℕ) (xs : List ℕ) (F : List Bool) → Apart xs → All (Out F) xs → All (λ z. z < length F) xs → All (λ z. a ≤ z) xs → length xs + count_true (drop a F) ≤ length F - a
room-from a [] F ap' o b c = omega (arith, count-le (drop a F), length-drop a F)
room-from a (x ∷ xs) F ap' o b c =
    let G : List Bool = set F x true in
    let l : length G ≡ length F = length-set F x true in
    let n : count_true (drop a G) ≡ suc (count_true (drop a F)) = marks a F x c.0 b.0 o.0 in
    let ih : length xs + count_true (drop a G) ≤ length G - a =
    room-from a xs G ap'.1 (All-map₂ (λ z (h : z ≢ x) (i : Out F z). out-mark F x z h i) xs ap'.0 o.1) (All-map (λ z (h : z < length F). le_trans h (omega arith)) xs b.1) c.1 in
    omega arith
  where
    marks : (a : ℕ) (F : List Bool) (x : ℕ) → a ≤ x → x < length F → Out F x → count_true (drop a (set F x true)) ≡ suc (count_true (drop a F))
    marks zero F x h l o = count-mark F x l o
    marks (suc a) [] x h l o = absurd (not-suc-le-zero l)
    marks (suc a) (v ∷ F) zero h l o = absurd (not-suc-le-zero h)
    marks (suc a) (v ∷ F) (suc x) h l o = marks a F x (le_of_suc-le-suc h) (le_of_suc-le-suc l) o

-- ---- one attempt

-- the failed pairs below a are the same
front_same : (a : ℕ) (F G : List Bool) → length G ≡ length F → ((z : ℕ) → In F z → In G z) → ((z : ℕ) → In G z → In F z ⊎ (a ≤ z)) → count_true (take a G) ≡ count_true (take a F)
front_same a F G l k n = ap count_true (take_same a G F l (λ z h. go z h (get_or F z false) refl (get_or G z false) refl))
  where
    go : (z : ℕ) → z < a → (u : Bool) → get_or F z false ≡ u → (v : Bool) → get_or G z false ≡ v → get_or G z false ≡ get_or F z false
    go z h true e v d = k z e ∙ sym e
    go z h false e true d = ⊎_elim (λ (i : In F z). d ∙ sym i) (λ (i : a ≤ z). absurd (omega arith)) (n z d)
    go z h false e false d = d ∙ sym e

abbrev steps_of : Outcome → ℕ
steps_of (found p kept) = kept.steps
steps_of (failed kept) = kept.steps
steps_of (halted w p kept) = kept.steps

module _ (h : Halting) (calm : Unhalting h) (ways : ℕ → Ways) (ρ : ℕ → ℕ) (N : ℕ) (falls : Falls ways ρ N) (K : ℕ) (top : (x : ℕ) → ρ x < K) where
  pub attempt-bound : (a : ℕ) → Closed ways (λ z. a ≤ z) → (F : List Bool) (s x : ℕ) → length F ≡ N → Sound ways K F → Out F x → x < N → a ≤ x
      → steps_of (inside h ways K (as_kept F (suc s)) x) + a ≤ s + N
  attempt-bound a cl F s x len snd o lt ax =
      go (inside h ways K (as_kept F (suc s)) x) (inside-unhalted h calm ways K F (suc s) x) (inside-post h ways ρ N falls K F (suc s) x (top x) lt len o) (inside-sound ways ρ N falls K top h K F (suc s) x (top x) snd)
      (inside-new (λ z. a ≤ z) h ways cl K F (suc s) x ax)
    where
      go : (r : Outcome) → Unhalted r → InsidePost ρ F (suc s) x r → InsideSound ways K x r → ((z : ℕ) → In (noted r) z → In F z ⊎ (a ≤ z)) → steps_of r + a ≤ s + N
      go (halted w p later) u h i nw = absurd u
      go (found p later) u h i nw =
          let w = plain-path ways K x p i.0 in
          let fr = front_same a F later.failed h.grew.len h.grew.keeps nw in
          let lg : length later.failed ≡ N = h.grew.len ∙ len in
          let rm = room-from a p later.failed (path_apart ways ρ N falls w) h.off (rw lg (path_pairs_lem ways ρ N falls lt w)) (path_closed ways (λ z. a ≤ z) cl ax w) in
          omega (arith, h.sum, fr, count-split a F, count-split a later.failed, rm, lg)
      go (failed later) u h i nw =
          let fr = front_same a F later.failed h.grew.len h.grew.keeps nw in
          let lg : length later.failed ≡ N = h.grew.len ∙ len in
          omega (arith, h.sum, fr, count-split a F, count-split a later.failed, count-le (drop a later.failed), length-drop a later.failed, lg)

-- ---- all attempts

-- from a start with m rows left on, where a position has P pairs
unfoldable pub cost : ℕ → ℕ → ℕ
cost P zero = 0
cost P (suc m) = P * suc (suc m) + cost P m

pub cost-is : (P m : ℕ) → 2 * cost P m ≡ P * (m * (m + 3))
unfolding cost
cost-is P zero = omega arith
cost-is P (suc m) = let h = cost-is P m in omega arith

cost-more : (P m d : ℕ) → cost P m ≤ cost P (m + d)
unfolding cost
cost-more P m zero = rw add-zero (omega arith)
cost-more P m (suc d) = rw add-suc (let h = cost-more P m d in omega arith)

cost-le : (P m k : ℕ) → m ≤ k → cost P m ≤ cost P k
cost-le P m k h = let e : k ≡ m + (k - m) = omega arith in rw e (cost-more P m (k - m))

module _ (w : Halting) (calm : Unhalting w) (ways : ℕ → Ways) (ρ : ℕ → ℕ) (N : ℕ) (falls : Falls ways ρ N) (K : ℕ) (top : (x : ℕ) → ρ x < K) (first : ℕ → ℕ) (plan : Plan) (P : ℕ)
    (starts : (i : ℕ) → i < plan.n → (first i < N) × (N ≤ first i + P * suc (plan.n - i)))
    (cl : (i : ℕ) → Closed ways (λ z. first i ≤ z)) (later : (i : ℕ) (p : List ℕ) (j : ℕ) → plan.next i p ≡ some j → i < j) where
  abbrev Kind : Kept → Type 0
  Kind st = (length st.failed ≡ N) × Sound ways K st.failed

  abbrev AtMost : ℕ → Kept → Swept Kept → Type 0
  AtMost i st r = r.state.steps ≤ st.steps + cost P (plan.n - i)

  abbrev AtMostOn : (Standing → Kept → Swept Kept) → Type 0
  AtMostOn f = (i m l : ℕ) (st : Kept) → Kind st → AtMost i st (f (stand_at i m l) st)

  -- after an attempt
  one-attempt : (i : ℕ) (st : Kept) → i < plan.n → Kind st
      → Kind (walk_at w ways K first i st).1 × ((walk_at w ways K first i st).1.steps ≤ st.steps + P * suc (plan.n - i))
  one-attempt i st h kd = go (get_or st.failed (first i) false) refl (w.spent st.steps)
    where
      on : (r : Outcome) → InsidePost ρ st.failed (suc st.steps) (first i) r → InsideSound ways K (first i) r → steps_of r + first i ≤ st.steps + N
          → Kind (answered r).1 × ((answered r).1.steps ≤ st.steps + P * suc (plan.n - i))
      on (found p kept) t u b = ((t.grew.len ∙ kd.0, u.1), omega (arith, b, (starts i h).1))
      on (failed kept) t u b = ((t.grew.len ∙ kd.0, u.1), omega (arith, b, (starts i h).1))
      on (halted v p kept) t u b = ((t.grew.len ∙ kd.0, u), omega (arith, b, (starts i h).1))

      go : (t : Bool) → get_or st.failed (first i) false ≡ t → (v : Bool)
          → Kind (answered (enter_unless t v (inside w ways K) st (first i))).1 × ((answered (enter_unless t v (inside w ways K) st (first i))).1.steps ≤ st.steps + P * suc (plan.n - i))
      go true e v = (kd, omega arith)
      go false e true = (kd, omega arith)
      go false e false =
          on (inside w ways K (one_step st) (first i)) (inside-post w ways ρ N falls K st.failed (suc st.steps) (first i) (top (first i)) (starts i h).0 kd.0 e)
          (inside-sound ways ρ N falls K top w K st.failed (suc st.steps) (first i) (top (first i)) kd.1)
          (attempt-bound w calm ways ρ N falls K top (first i) (cl i) st.failed st.steps (first i) kd.0 kd.1 e (starts i h).0 (omega arith))

  from_next : (i j : ℕ) → i < plan.n → i < j → P * suc (plan.n - i) + cost P (plan.n - j) ≤ cost P (plan.n - i)
  unfolding cost
  from_next i j h l =
      let e : plan.n - i ≡ suc (plan.n - suc i) = omega arith in
      let c = cost-le P (plan.n - j) (plan.n - suc i) (omega arith) in
      rw e (omega arith)

  after-answer : (f : Standing → Kept → Swept Kept) → AtMostOn f → (i m l : ℕ) (st su : Kept) → i < plan.n → Kind su → su.steps ≤ st.steps + P * suc (plan.n - i) → (o : Attempted) → Answered o
      → AtMost i st (on_answer plan f (stand_at i m l) o su)
  after-answer f ih i m l st su h kd b (halts v p) z = absurd z
  after-answer f ih i m l st su h kd b miss z = omega (arith, ih (suc i) m l su kd, from_next i (suc i) h (omega arith))
  after-answer f ih i m l st su h kd b (hit p) z = go (plan.next i p) refl (plan.fits m l p)
    where
      go : (o : Option ℕ) → plan.next i p ≡ o → (t : Bool) → AtMost i st (on_match t o (record { start = i; path = p }) su (λ j. f (stand_at j (suc m) (l + plan.rows p)) su))
      go o e false = omega (arith, from_next i (suc i) h (omega arith))
      go none e true = omega (arith, from_next i (suc i) h (omega arith))
      go (some j) e true = omega (arith, ih j (suc m) (l + plan.rows p) su kd, from_next i j h (later i p j e))

  pub walk-cost : (k : ℕ) → AtMostOn (sweep (walk_at w ways K first) plan k)
  unfolding sweep
  walk-cost zero i m l st kd = omega arith
  walk-cost (suc k) i m l st kd = go (walk-cost k) (ltb i plan.n) refl
    where
      go : AtMostOn (sweep (walk_at w ways K first) plan k) → (t : Bool) → ltb i plan.n ≡ t
          → AtMost i st (below t (ended (no_start plan.more i) st) (λ _. on_answer plan (sweep (walk_at w ways K first) plan k) (stand_at i m l) (walk_at w ways K first i st).0 (walk_at w ways K first i st).1))
      go ih false e = omega arith
      go ih true e =
          let h = ltb-true i plan.n e in
          let a = one-attempt i st h kd in
          after-answer (sweep (walk_at w ways K first) plan k) ih i m l st (walk_at w ways K first i st).1 h a.0 a.1 (walk_at w ways K first i st).0 (walk-sure w calm ways K first i st)

-- The law of the desk: some reading of `O R* C $` exists in the log exactly if the log is cleared,
-- in the plain words of crates/bus_log. And what a report in skip mode 1 that is done says of
-- readings: it holds a match exactly if some start has one.
use mathlib.Core.Path.{◌≡◌, refl, sym, ap, ◌∙◌}
use mathlib.Core.Bool.{Bool, true, false, ◌&&◌, ◌||◌, true≢false}
use mathlib.Core.List.{List, [], ◌∷◌, ◌++◌}
use mathlib.Core.Logic.{◌↔◌}
use mathlib.Core.Option.{Option, none, some}
use Prim.Native.Nat.{ℕ, zero, suc, ◌+◌, ◌≤◌, ◌<◌}
use native.Mathlib.Omega.{arith}
use lib.Dec.{eqb, ltb}
use lib.IntN.{ℤ}
use lib.ListN.{length}
use borrow.Author.Tests.{eqb-true, eq-eqb, ltb-true, ltb-false}
use Rattle.rules.specs.Basics.{every_below}
use Rattle.rules.specs.Language.{Tree, pattern, lower, upper}
use Rattle.rules.specs.Readings.{Rounds, Reads, SomeReading, row_sets}
use Rattle.rules.specs.Preferment.{Preferred, NoneParses, Reports, finished, unmatched, matched, setting}
use Rattle.rules.specs.Search.{done, to_next, stand_at}
use Rattle.rules.specs.Answers.{task_of, letter_holds}
use Rattle.laws.proofs.Choice.{and_left, and_right}
use Rattle.bus_log.specs.Log.{log_of, is_event, as_before, some_below, released, cleared}
use Rattle.desk_query.specs.Query.{desk_query}
use Rattle.desk_query.proofs.Letters.{desk_tree, offer_holds, refusal-holds, acceptance_holds}

-- ---- tests over numbers

and_both : (a b : Bool) → a ≡ true → b ≡ true → (a && b) ≡ true
and_both a b e f = rw (e, f)

four : (a b c d : Bool) → (a && (b && (c && d))) ≡ true → (a ≡ true) × (b ≡ true) × (c ≡ true) × (d ≡ true)
four a b c d e =
    let x = and_right a (b && (c && d)) e in
    let y = and_right b (c && d) x in
    (and_left a (b && (c && d)) e, and_left b (c && d) x, and_left c d y, and_right c d y)

every-below : (k : ℕ) (f : ℕ → Bool) → every_below k f ≡ true → (m : ℕ) → m < k → f m ≡ true
unfolding every_below
every-below zero f e m h = absurd (omega arith)
every-below (suc k) f e m h = go (every-below k f (and_left (every_below k f) (f k) e) m) (ltb m k) refl
  where
    go : (m < k → f m ≡ true) → (t : Bool) → ltb m k ≡ t → f m ≡ true
    go ih true q = ih (ltb-true m k q)
    go ih false q = let z : m ≡ k = omega (arith, ltb-false m k q) in rw z (and_right (every_below k f) (f k) e)

below-every : (k : ℕ) (f : ℕ → Bool) → ((m : ℕ) → m < k → f m ≡ true) → every_below k f ≡ true
unfolding every_below
below-every zero f h = refl
below-every (suc k) f h = and_both (every_below k f) (f k) (below-every k f (λ m l. h m (omega arith))) (h k (omega arith))

pub record Below (n : ℕ) (f : ℕ → Bool) : Type 0 where
  pub number : ℕ
  pub below : number < n
  pub true_of : f number ≡ true

some_below_lem : (n : ℕ) (f : ℕ → Bool) → some_below n f ≡ true → Below n f
unfolding some_below
some_below_lem zero f e = absurd (true≢false (sym e))
some_below_lem (suc n) f e = go (some_below_lem n f) (f n) refl e
  where
    go : (some_below n f ≡ true → Below n f) → (t : Bool) → f n ≡ t → (t || some_below n f) ≡ true → Below (suc n) f
    go ih true q z = record { number = n; below = omega arith; true_of = q }
    go ih false q z = let b = ih z in record { number = b.number; below = omega (arith, b.below); true_of = b.true_of }

below-some : (n : ℕ) (f : ℕ → Bool) (i : ℕ) → i < n → f i ≡ true → some_below n f ≡ true
unfolding some_below
below-some zero f i h e = absurd (omega arith)
below-some (suc n) f i h e = go (below-some n f i) (f n) refl
  where
    go : (i < n → f i ≡ true → some_below n f ≡ true) → (t : Bool) → f n ≡ t → (t || some_below n f) ≡ true
    go ih true q = refl
    go ih false q = ih (in_front (ltb i n) refl) e
      where
        in_front : (t : Bool) → ltb i n ≡ t → i < n
        in_front true z = ltb-true i n z
        in_front false z = let y : i ≡ n = omega (arith, ltb-false i n z) in let x : f n ≡ true = rw y at e in absurd (true≢false (sym x ∙ q))

-- ---- rounds of one letter

module _ (H : ℕ → ℕ → Bool) (n : ℕ) (c : ℕ) where
  -- the letter holds at each of k rows from i on
  abbrev Holding : ℕ → ℕ → Type 0
  Holding i k = (m : ℕ) → m < k → (i + m < n) × (H c (i + m) ≡ true)

  abbrev Once : ℕ → ℕ → List ℕ → Type 0
  Once i j w = (i < n) × (H c i ≡ true) × (j ≡ suc i) × (w ≡ c ∷ [])

  rounds_hold : (k i j : ℕ) (w : List ℕ) → Rounds Once k i j w → (j ≡ i + k) × Holding i k
  unfolding Rounds
  rounds_hold zero i j w r = (omega (arith, r.0), λ m h. absurd (omega arith))
  rounds_hold (suc k) i j w (i', u, v, o, r, e) = on (rounds_hold k i' j v r) o.2
    where
      on : (j ≡ i' + k) × Holding i' k → i' ≡ suc i → (j ≡ i + suc k) × Holding i (suc k)
      on ih f = (omega (arith, ih.0), at)
        where
          at : Holding i (suc k)
          at zero h = let z : i + 0 ≡ i = omega arith in rw z (o.0, o.1)
          at (suc m) h = let z : i + suc m ≡ i' + m = omega arith in rw z (ih.1 m (omega arith))

  hold_rounds : (k i : ℕ) → Holding i k → (w : List ℕ) × Rounds Once k i (i + k) w
  unfolding Rounds
  hold_rounds zero i h = ([], (omega arith, refl))
  hold_rounds (suc k) i h = on (hold_rounds k (suc i) (λ m l. let z : suc i + m ≡ i + suc m = omega arith in rw z (h (suc m) (omega arith))))
    where
      on : (w : List ℕ) × Rounds Once k (suc i) (suc i + k) w → (w : List ℕ) × Rounds Once (suc k) i (i + suc k) w
      on (w, r) =
          let z : i + 0 ≡ i = omega arith in
          let y : suc i + k ≡ i + suc k = omega arith in
          let a : (i + 0 < n) × (H c (i + 0) ≡ true) = h 0 (omega arith) in
          let b : (i < n) × (H c i ≡ true) = rw z at a in
          let r₁ : Rounds Once k (suc i) (i + suc k) w = rw y at r in
          ((c ∷ []) ++ w, (suc i, c ∷ [], w, (b.0, b.1, refl, refl), r₁, refl))

-- ---- readings of `O R* C $`

module _ (rows : List ℤ) where
  abbrev n : ℕ
  n = (log_of rows).n

  abbrev H : ℕ → ℕ → Bool
  H = letter_holds (task_of desk_query rows)

  -- row i is an offer, k refusals are behind it, and the acceptance behind those is the last row
  record Released (i k : ℕ) : Type 0 where
    offered : is_event (log_of rows) 1 i ≡ true
    refused : (m : ℕ) → m < k → (is_event (log_of rows) 2 (suc i + m) && as_before (log_of rows) (suc i + m)) ≡ true
    accepted : (is_event (log_of rows) 3 (suc i + k) && as_before (log_of rows) (suc i + k)) ≡ true
    ends : suc (suc i + k) ≡ n

  reading_released : (i : ℕ) → SomeReading (row_sets n H) desk_tree i → (k : ℕ) × Released i k
  unfolding Reads
  reading_released i (j, w, (i₁, u₁, v₁, o, (i₂, u₂, v₂, (k, lo, hi, rs), (i₃, u₃, v₃, a, e, q₃), q₂), q₁)) = (k, at (rounds_hold H n 82 k i₁ i₂ u₂ rs))
    where
      at : (i₂ ≡ i₁ + k) × Holding H n 82 i₁ k → Released i k
      at d =
          let f : i₁ ≡ suc i = o.2 in
          let g : i₃ ≡ suc i₂ = a.2 in
          let z : i₂ ≡ suc i + k = omega (arith, d.0) in
          let l : suc i + k < n = omega (arith, a.0) in
          let y : H 67 (suc i + k) ≡ true = rw (← z) a.1 in
          let b : suc (suc i + k) ≡ n = omega (arith, e.0) in
          record { offered = sym (offer_holds rows i o.0) ∙ o.1; refused = back f d.1; accepted = sym (acceptance_holds rows (suc i + k) l) ∙ y; ends = b }
        where
          back : i₁ ≡ suc i → Holding H n 82 i₁ k → (m : ℕ) → m < k → (is_event (log_of rows) 2 (suc i + m) && as_before (log_of rows) (suc i + m)) ≡ true
          back f r m h =
              let x : (suc i + m < n) × (H 82 (suc i + m) ≡ true) = rw (← f) (r m h) in
              sym (refusal-holds rows (suc i + m) x.0) ∙ x.1

  released-reading : (i k : ℕ) → Released i k → SomeReading (row_sets n H) desk_tree i
  unfolding Reads
  released-reading i k r = on (hold_rounds H n 82 k (suc i) (λ m h. (omega (arith, r.ends), refusal-holds rows (suc i + m) (omega (arith, r.ends)) ∙ r.refused m h)))
    where
      on : (w : List ℕ) × Rounds (Once H n 82) k (suc i) (suc i + k) w → SomeReading (row_sets n H) desk_tree i
      on (w, rs) =
          let a : H 67 (suc i + k) ≡ true = acceptance_holds rows (suc i + k) (omega (arith, r.ends)) ∙ r.accepted in
          let o : H 79 i ≡ true = offer_holds rows i (omega (arith, r.ends)) ∙ r.offered in (
            suc (suc i + k),
            79 ∷ (w ++ (67 ∷ [])),
            (
              suc i,
              79 ∷ [],
              w ++ (67 ∷ []),
              (omega (arith, r.ends), o, refl, refl),
              (
                suc i + k,
                w,
                67 ∷ [],
                (k, omega arith, tt, rs),
                (suc (suc i + k), 67 ∷ [], [], (omega (arith, r.ends), a, refl, refl), (r.ends, refl, refl), refl),
                refl,
              ),
              refl,
            ),
          )

  -- the plain statement, in parts
  released-parts : (i k : ℕ) → released (log_of rows) i k ≡ true → Released i k
  unfolding released
  released-parts i k e = record { offered = x.0; refused = every-below k _ x.1; accepted = x.2; ends = eqb-true (suc (suc i + k)) n x.3 }
    where
      x : (is_event (log_of rows) 1 i ≡ true)
          × (every_below k (λ m. is_event (log_of rows) 2 (suc i + m) && as_before (log_of rows) (suc i + m)) ≡ true)
          × ((is_event (log_of rows) 3 (suc i + k) && as_before (log_of rows) (suc i + k)) ≡ true) × (eqb (suc (suc i + k)) n ≡ true)
      x =
          four (is_event (log_of rows) 1 i) (every_below k (λ m. is_event (log_of rows) 2 (suc i + m) && as_before (log_of rows) (suc i + m)))
          (is_event (log_of rows) 3 (suc i + k) && as_before (log_of rows) (suc i + k)) (eqb (suc (suc i + k)) n) e

  parts-released : (i k : ℕ) → Released i k → released (log_of rows) i k ≡ true
  unfolding released
  parts-released i k r =
      rw (r.offered, below-every k (λ m. is_event (log_of rows) 2 (suc i + m) && as_before (log_of rows) (suc i + m)) r.refused, r.accepted, eq-eqb (suc (suc i + k)) n r.ends)

  -- some reading of the pattern exists at a row of the log exactly if the log is cleared
  pub cleared-reading : cleared (log_of rows) ≡ true → (i : ℕ) × ((i < n) × SomeReading (row_sets n H) desk_tree i)
  unfolding cleared
  cleared-reading e =
      let a = some_below_lem n (λ i. some_below n (λ k. released (log_of rows) i k)) e in
      let b = some_below_lem n (λ k. released (log_of rows) a.number k) a.true_of in
      (a.number, (a.below, released-reading a.number b.number (released-parts a.number b.number b.true_of)))

  pub reading_cleared : (i : ℕ) → SomeReading (row_sets n H) desk_tree i → cleared (log_of rows) ≡ true
  unfolding cleared
  reading_cleared i s = on (reading_released i s)
    where
      on : (k : ℕ) × Released i k → cleared (log_of rows) ≡ true
      on (k, r) =
          below-some n (λ i. some_below n (λ k. released (log_of rows) i k)) i (omega (arith, r.ends))
          (below-some n (λ k. released (log_of rows) i k) k (omega (arith, r.ends)) (parts-released i k r))

  -- both: the pattern has a reading at some row exactly if the log is cleared
  pub cleared-exactly : (cleared (log_of rows) ≡ true) ↔ ((i : ℕ) × ((i < n) × SomeReading (row_sets n H) desk_tree i))
  cleared-exactly = (cleared-reading, λ x. reading_cleared x.0 x.1.1)

-- ---- a report in skip mode 1 that is done

module _ (p : Tree pattern) (holds : ℕ → ℕ → Bool) (n : ℕ) (room : ℕ → ℕ → List ℕ → Bool) where
  -- no match is written: no start has one
  pub none_written : {k m l : ℕ} → Reports (setting p (row_sets n holds) to_next room) (stand_at k m l) [] done → (i : ℕ) → k ≤ i → i < n → NoneParses (row_sets n holds) p i
  none_written (finished f) i h g = absurd (omega arith)
  none_written {k = k} (unmatched lt x r) i h g = go (λ i h g. none_written r i h g) (ltb k i) refl
    where
      go : ((i : ℕ) → suc k ≤ i → i < n → NoneParses (row_sets n holds) p i) → (t : Bool) → ltb k i ≡ t → NoneParses (row_sets n holds) p i
      go ih true e = ih i (ltb-true k i e) g
      go ih false e = let z : i ≡ k = omega (arith, ltb-false k i e) in rw z x

  -- a match is written: some start has one
  pub one_written : {k m l : ℕ} {x : ℕ × List ℕ} {ms : List (ℕ × List ℕ)} → Reports (setting p (row_sets n holds) to_next room) (stand_at k m l) (x ∷ ms) done → (i : ℕ) × (j : ℕ) × (w : List ℕ) × Preferred (row_sets n holds) p i j w
  one_written (unmatched lt x r) = one_written r
  one_written (matched {i = i} {j = j} {w = w} lt x b d r) = (i, j, w, x)

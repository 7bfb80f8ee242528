-- The walk by a stack of open pairs, as a loop with a trail does it: the same result as the
-- recursive walk. A state is the open pairs (the last entered first), the failed pairs and the
-- steps. There is no pointer into a fork's ways: the ways that were tried have failed, so the next
-- one to try is the first that has not. Whatever may halt the walk: a halt leaves the open pairs.
use mathlib.Core.Path.{◌≡◌, refl, ap, sym, ◌∙◌}
use mathlib.Core.List.{List, [], ◌∷◌, reverse_aux}
use mathlib.Core.Bool.{Bool, true, false}
use mathlib.Core.Option.{Option, none, some}
use Prim.Native.Nat.{ℕ, zero, suc, ◌+◌, ◌≤◌, ◌<◌}
use native.Mathlib.Nat.{le_trans, not-suc-le-zero}
use native.Mathlib.Omega.{arith}
use lib.ListN.{length, get_or, set}
use Rattle.rules.specs.Walk.{Ways, accept, try, out_of_steps, out_of_rows, Halting, Outcome, found, failed, halted, or_else, close, enter_unless, tries, inside, inside_by, count_true, Kept, as_kept}
use Rattle.laws.proofs.Walk.{All-map, InsidePost, inside-post, rising_apart, All-map₂, out-mark, room}
use Rattle.rules.specs.Working.{All, Falls, In, Open, Out, lift, resume}

-- ---- the walk's fuel

tries-same : (h : Halting) (f g : Kept → ℕ → Outcome) (ys : List ℕ) → All (λ y. (F : List Bool) (s : ℕ) → f (as_kept F s) y ≡ g (as_kept F s) y) ys
    → (F : List Bool) (s : ℕ) → tries h f (as_kept F s) ys ≡ tries h g (as_kept F s) ys
unfolding tries
tries-same h f g [] a F s = refl
tries-same h f g (y ∷ ys) a F s = go (λ F' s'. tries-same h f g ys a.1 F' s') (get_or F y false) (h.spent s)
  where
    after : ((F' : List Bool) (s' : ℕ) → tries h f (as_kept F' s') ys ≡ tries h g (as_kept F' s') ys) → (r : Outcome) → or_else r (λ kept'. tries h f kept' ys) ≡ or_else r (λ kept'. tries h g kept' ys)
    after e (found p kept') = refl
    after e (failed kept') = e kept'.failed kept'.steps
    after e (halted w p kept') = refl

    go : ((F' : List Bool) (s' : ℕ) → tries h f (as_kept F' s') ys ≡ tries h g (as_kept F' s') ys) → (t u : Bool)
        → or_else (enter_unless t u f (as_kept F s) y) (λ kept'. tries h f kept' ys) ≡ or_else (enter_unless t u g (as_kept F s) y) (λ kept'. tries h g kept' ys)
    go e true u = e F s
    go e false true = refl
    go e false false = rw (a.0 F (suc s)) (after e (g (as_kept F (suc s)) y))

module _ (h : Halting) (ways : ℕ → Ways) (ρ : ℕ → ℕ) (N : ℕ) (falls : Falls ways ρ N) where
  pub inside-fuel : (k l x : ℕ) → ρ x < k → ρ x < l → (F : List Bool) (s : ℕ) → inside h ways k (as_kept F s) x ≡ inside h ways l (as_kept F s) x
  unfolding inside inside_by
  inside-fuel zero l x a b F s = absurd (not-suc-le-zero a)
  inside-fuel (suc k) zero x a b F s = absurd (not-suc-le-zero b)
  inside-fuel (suc k) (suc l) x a b F s = go (λ y. inside-fuel k l y) (h.waits x) (ways x) refl
    where
      go : ((y : ℕ) → ρ y < k → ρ y < l → (F : List Bool) (s : ℕ) → inside h ways k (as_kept F s) y ≡ inside h ways l (as_kept F s) y)
          → (u : Bool) (w : Ways) → ways x ≡ w → inside_by h u w (inside h ways k) (as_kept F s) x ≡ inside_by h u w (inside h ways l) (as_kept F s) x
      go ih true w e = refl
      go ih false accept e = refl
      go ih false (try ys) e =
          ap (close x) (tries-same h (inside h ways k) (inside h ways l) ys
          (All-map (λ y (r : (ρ y < ρ x) × (x < N → y < N)). ih y (omega arith) (omega arith)) ys (falls x ys e)) F s)

-- ---- the first way that has not failed

abbrev pub open_or : Bool → ℕ → (Unit {0} → Option ℕ) → Option ℕ
open_or true y next = next tt
open_or false y next = some y

unfoldable pub first_open : List Bool → List ℕ → Option ℕ
first_open F [] = none
first_open F (y ∷ ys) = open_or (get_or F y false) y (λ _. first_open F ys)

module _ (h : Halting) (f : Kept → ℕ → Outcome) where
  tries-skip : (F : List Bool) (s y : ℕ) (ys : List ℕ) → In F y → tries h f (as_kept F s) (y ∷ ys) ≡ tries h f (as_kept F s) ys
  unfolding tries
  tries-skip F s y ys i = rw i

  pub tries-closed : (F : List Bool) (s : ℕ) (ys : List ℕ) → first_open F ys ≡ none → tries h f (as_kept F s) ys ≡ failed (as_kept F s)
  unfolding tries first_open
  tries-closed F s [] e = refl
  tries-closed F s (y ∷ ys) e = go (tries-closed F s ys) (get_or F y false) refl e
    where
      go : (first_open F ys ≡ none → tries h f (as_kept F s) ys ≡ failed (as_kept F s)) → (t : Bool) → get_or F y false ≡ t → open_or t y (λ _. first_open F ys) ≡ none
          → or_else (enter_unless t (h.spent s) f (as_kept F s) y) (λ kept'. tries h f kept' ys) ≡ failed (as_kept F s)
      go ih true d e' = ih e'
      go ih false d e' = let z : ◌≡◌ {A = ℕ} 0 1 = cc in absurd (omega arith)

  -- where no step is left the walk halts before the first open one
  pub tries-spent : (F : List Bool) (s : ℕ) (ys : List ℕ) (y : ℕ) → first_open F ys ≡ some y → h.spent s ≡ true → tries h f (as_kept F s) ys ≡ halted out_of_steps [] (as_kept F s)
  unfolding tries first_open
  tries-spent F s [] y e sp = let z : ◌≡◌ {A = ℕ} 0 1 = cc in absurd (omega arith)
  tries-spent F s (x ∷ ys) y e sp = rw sp (go (λ d. tries-spent F s ys y d sp) (get_or F x false) e)
    where
      go : (first_open F ys ≡ some y → tries h f (as_kept F s) ys ≡ halted out_of_steps [] (as_kept F s)) → (t : Bool) → open_or t x (λ _. first_open F ys) ≡ some y
          → or_else (enter_unless t true f (as_kept F s) x) (λ kept'. tries h f kept' ys) ≡ halted out_of_steps [] (as_kept F s)
      go ih true e' = ih e'
      go ih false e' = refl

  -- trying the ways is to enter the first open one, and if it fails to try the ways anew
  pub tries-open : (F : List Bool) (s : ℕ) (ys : List ℕ) (y : ℕ) → first_open F ys ≡ some y → h.spent s ≡ false
      → ((F' : List Bool) (s' : ℕ) → f (as_kept F (suc s)) y ≡ failed (as_kept F' s') → ((z : ℕ) → In F z → In F' z) × In F' y)
      → tries h f (as_kept F s) ys ≡ or_else (f (as_kept F (suc s)) y) (λ kept'. tries h f kept' ys)
  unfolding tries first_open
  tries-open F s [] y e sp k = let z : ◌≡◌ {A = ℕ} 0 1 = cc in absurd (omega arith)
  tries-open F s (x ∷ ys) y e sp k = rw sp (go (λ d. tries-open F s ys y d sp k) (get_or F x false) refl e)
    where
      same : (In F x) → (r : Outcome) → f (as_kept F (suc s)) y ≡ r → or_else r (λ kept'. tries h f kept' ys) ≡ or_else r (λ kept'. tries h f kept' (x ∷ ys))
      same i (found p kept') d = refl
      same i (failed kept') d = sym (tries-skip kept'.failed kept'.steps x ys ((k kept'.failed kept'.steps d).0 x i))
      same i (halted w p kept') d = refl

      self : x ≡ y → (r : Outcome) → f (as_kept F (suc s)) y ≡ r → or_else r (λ kept'. tries h f kept' ys) ≡ or_else r (λ kept'. tries h f kept' (x ∷ ys))
      self q (found p kept') d = refl
      self q (failed kept') d = sym (tries-skip kept'.failed kept'.steps x ys (rw q (k kept'.failed kept'.steps d).1))
      self q (halted w p kept') d = refl

      go : (first_open F ys ≡ some y → tries h f (as_kept F s) ys ≡ or_else (f (as_kept F (suc s)) y) (λ kept'. tries h f kept' ys))
          → (t : Bool) → get_or F x false ≡ t → open_or t x (λ _. first_open F ys) ≡ some y
          → or_else (enter_unless t false f (as_kept F s) x) (λ kept'. tries h f kept' ys) ≡ or_else (f (as_kept F (suc s)) y) (λ kept'. tries h f kept' (x ∷ ys))
      go ih true d e' = ih e' ∙ same d (f (as_kept F (suc s)) y) refl
      go ih false d e' = let q : x ≡ y = cc in rw q (rw q at (self q (f (as_kept F (suc s)) y) refl))

-- ---- a state's result

-- an attempt begins with its first pair open
pub resume-one : (h : Halting) (ways : ℕ → Ways) (K : ℕ) (F : List Bool) (s x : ℕ) → resume h ways K (x ∷ []) (as_kept F s) ≡ inside h ways K (as_kept F s) x
unfolding resume
resume-one h ways K F s x = go (inside h ways K (as_kept F s) x)
  where
    go : (r : Outcome) → or_else (lift [] r) (λ kept'. failed kept') ≡ r
    go (found p kept) = refl
    go (failed kept) = refl
    go (halted w p kept) = refl

module _ (h : Halting) (ways : ℕ → Ways) (ρ : ℕ → ℕ) (N : ℕ) (falls : Falls ways ρ N) (K : ℕ) (top : (x : ℕ) → ρ x < K) where
  pub inside-down : (F : List Bool) (s x : ℕ) → inside h ways K (as_kept F s) x ≡ inside_by h (h.waits x) (ways x) (inside h ways K) (as_kept F s) x
  unfolding inside
  inside-down F s x = inside-fuel h ways ρ N falls K (suc K) x (top x) (le_trans (top x) (omega arith)) F s

  pub inside-try : (F : List Bool) (s x : ℕ) (ys : List ℕ) → h.waits x ≡ false → ways x ≡ try ys → inside h ways K (as_kept F s) x ≡ close x (tries h (inside h ways K) (as_kept F s) ys)
  unfolding inside_by
  inside-try F s x ys q e = inside-down F s x ∙ rw (q, e)

  -- the pair waits: the walk halts with the open pairs
  pub resume-waits : (st : List ℕ) (F : List Bool) (s x : ℕ) → h.waits x ≡ true → resume h ways K (x ∷ st) (as_kept F s) ≡ halted out_of_rows (reverse_aux (x ∷ st) []) (as_kept F s)
  unfolding resume inside_by
  resume-waits st F s x q = rw (inside-down F s x, q)

  -- END is open: the path is the open pairs
  pub resume-accept : (st : List ℕ) (F : List Bool) (s x : ℕ) → h.waits x ≡ false → ways x ≡ accept → resume h ways K (x ∷ st) (as_kept F s) ≡ found (reverse_aux (x ∷ st) []) (as_kept F s)
  unfolding resume inside_by
  resume-accept st F s x q e = rw (inside-down F s x, q, e)

  -- no way is open: the pair fails
  pub resume-pop : (st : List ℕ) (F : List Bool) (s x : ℕ) (ys : List ℕ) → h.waits x ≡ false → ways x ≡ try ys → first_open F ys ≡ none
      → resume h ways K (x ∷ st) (as_kept F s) ≡ resume h ways K st (as_kept (set F x true) s)
  unfolding resume
  resume-pop st F s x ys q e o = rw (inside-try F s x ys q e, tries-closed h (inside h ways K) F s ys o)

  -- a way is open and no step is left: the walk halts with the open pairs
  pub resume-spent : (st : List ℕ) (F : List Bool) (s x : ℕ) (ys : List ℕ) (y : ℕ) → h.waits x ≡ false → ways x ≡ try ys → first_open F ys ≡ some y → h.spent s ≡ true
      → resume h ways K (x ∷ st) (as_kept F s) ≡ halted out_of_steps (reverse_aux (x ∷ st) []) (as_kept F s)
  unfolding resume
  resume-spent st F s x ys y q e o sp = rw (inside-try F s x ys q e, tries-spent h (inside h ways K) F s ys y o sp)

  -- the first open way is entered
  pub resume-push : (st : List ℕ) (F : List Bool) (s x : ℕ) (ys : List ℕ) (y : ℕ) → h.waits x ≡ false → ways x ≡ try ys → first_open F ys ≡ some y → h.spent s ≡ false
      → length F ≡ N → y < N → Out F y
      → resume h ways K (x ∷ st) (as_kept F s) ≡ resume h ways K (y ∷ x ∷ st) (as_kept F (suc s))
  unfolding resume
  resume-push st F s x ys y q e o sp len lt out =
      rw (inside-try F s x ys q e, tries-open h (inside h ways K) F s ys y o sp kept) (go (inside h ways K (as_kept F (suc s)) y))
    where
      fact : (r : Outcome) → InsidePost ρ F (suc s) y r → (F' : List Bool) (s' : ℕ) → r ≡ failed (as_kept F' s') → ((z : ℕ) → In F z → In F' z) × In F' y
      fact (found p later) a F' s' d = let z : ◌≡◌ {A = ℕ} 0 1 = cc in absurd (omega arith)
      fact (failed later) a F' s' d = let q : F' ≡ later.failed = cc in rw q (a.grew.keeps, a.it)
      fact (halted w p later) a F' s' d = let z : ◌≡◌ {A = ℕ} 0 1 = cc in absurd (omega arith)

      kept : (F' : List Bool) (s' : ℕ) → inside h ways K (as_kept F (suc s)) y ≡ failed (as_kept F' s') → ((z : ℕ) → In F z → In F' z) × In F' y
      kept = fact (inside h ways K (as_kept F (suc s)) y) (inside-post h ways ρ N falls K F (suc s) y (top y) lt len out)

      go : (r : Outcome) → or_else (lift st (close x (or_else r (λ kept'. tries h (inside h ways K) kept' ys)))) (λ kept'. resume h ways K st kept')
          ≡ or_else (lift (x ∷ st) r) (λ kept'. or_else (lift st (inside h ways K kept' x)) (λ kept''. resume h ways K st kept''))
      go (found p kept') = refl
      go (failed kept') = rw (inside-try kept'.failed kept'.steps x ys q e)
      go (halted w p kept') = refl

-- ---- what holds of the open pairs: they rank one below the other, none has failed, all are pairs

module _ (ρ : ℕ → ℕ) (N : ℕ) where
  -- the trail has room
  pub open_room : (F : List Bool) (st : List ℕ) → length F ≡ N → Open ρ N F st → length st + count_true F ≤ N
  open_room F st len o = rw len at (room st F (rising_apart ρ st o.rising) o.out (rw len o.pairs))

  pub open_push : (F : List Bool) (st : List ℕ) (x y : ℕ) → ρ y < ρ x → y < N → Out F y → Open ρ N F (x ∷ st) → Open ρ N F (y ∷ x ∷ st)
  open_push F st x y h lt out o =
      record {
        rising = ((h, All-map (λ z (r : ρ x < ρ z). omega arith) st o.rising.0), o.rising);
        out = (out, o.out);
        pairs = (lt, o.pairs);
      }

  pub open_pop : (F : List Bool) (st : List ℕ) (x : ℕ) → Open ρ N F (x ∷ st) → Open ρ N (set F x true) st
  open_pop F st x o =
      record {
        rising = o.rising.1;
        out = All-map₂ (λ z (h : ρ x < ρ z) (i : Out F z). out-mark F x z (λ (e : z ≡ x). let q : ρ z ≡ ρ x = ap ρ e in omega arith) i) st o.rising.0 o.out.1;
        pairs = o.pairs.1;
      }

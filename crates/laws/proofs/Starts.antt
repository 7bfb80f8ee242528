-- The next start lies behind the one before it; with skip past last row it is not before the end of
-- the match; at a labelled row it is a row of the match with that label, the first or the last of
-- them.
use mathlib.Core.Path.{◌≡◌, refl, ap, sym, ◌∙◌}
use mathlib.Core.Bool.{Bool, true, false}
use mathlib.Core.List.{List, [], ◌∷◌}
use mathlib.Core.Logic.{◌⊎◌, inl, inr}
use mathlib.Core.Option.{Option, none, some}
use Prim.Native.Nat.{ℕ, zero, suc, ◌+◌, ◌≤◌, ◌<◌, max}
use native.Mathlib.Nat.{not-suc-le-zero}
use native.Mathlib.Omega.{arith}
use lib.Dec.{ltb, eqb}
use lib.ListN.{length, get_or}
use borrow.Author.Tests.{ltb-true, ltb-false, eqb-true, eqb-false}
use Rattle.rules.specs.Basics.{pick}
use Rattle.rules.specs.Search.{Skip, past_last, to_next, to_first, to_last, one_on, last_or, first_with, last_with, labelled_start, next_start}

some_is : {a b : ℕ} → ◌≡◌ {A = Option ℕ} (some a) (some b) → a ≡ b
some_is e = cc

pub next-max : (i j : ℕ) (w : List ℕ) → next_start past_last i j w ≡ some (max j (suc i))
unfolding next_start
next-max i j w = ap some (go (ltb i j) refl)
  where
    go : (t : Bool) → ltb i j ≡ t → pick t j (suc i) ≡ max j (suc i)
    go true e = omega (arith, ltb-true i j e)
    go false e = omega (arith, ltb-false i j e)

labelled_on : (i : ℕ) (w : List ℕ) (o : Option ℕ) (k : ℕ) → labelled_start i w o ≡ some k → i < k
labelled_on i [] o k e = let q : suc i ≡ k = some_is e in omega arith
labelled_on i (x ∷ w) none k e = let z : ◌≡◌ {A = ℕ} 0 1 = cc in absurd (omega arith)
labelled_on i (x ∷ w) (some zero) k e = let z : ◌≡◌ {A = ℕ} 0 1 = cc in absurd (omega arith)
labelled_on i (x ∷ w) (some (suc d)) k e = let q : i + suc d ≡ k = some_is e in omega arith

pub next-on : (skip : Skip) (i j : ℕ) (w : List ℕ) (k : ℕ) → next_start skip i j w ≡ some k → i < k
unfolding next_start
next-on past_last i j w k e = let q : max j (suc i) ≡ k = some_is (sym (next-max i j w) ∙ e) in omega arith
next-on to_next i j w k e = let q : suc i ≡ k = some_is e in omega arith
next-on (to_first c) i j w k e = labelled_on i w (first_with c w) k e
next-on (to_last c) i j w k e = labelled_on i w (last_with c w) k e

pub next_past : (i j : ℕ) (w : List ℕ) (k : ℕ) → next_start past_last i j w ≡ some k → j ≤ k
next_past i j w k e = let q : max j (suc i) ≡ k = some_is (sym (next-max i j w) ∙ e) in omega arith

-- ---- labelled rows

-- label k is the letter c, and it is the first such label, or the last
pub record FirstLabel (c : ℕ) (w : List ℕ) (k : ℕ) : Type 0 where
  pub within : k < length w
  pub label : get_or w k 0 ≡ c
  pub first : (d : ℕ) → d < k → get_or w d 0 ≡ c → ⊥

pub record LastLabel (c : ℕ) (w : List ℕ) (k : ℕ) : Type 0 where
  pub within : k < length w
  pub label : get_or w k 0 ≡ c
  pub last : (d : ℕ) → k < d → d < length w → get_or w d 0 ≡ c → ⊥

-- no label is the letter c
abbrev pub NoLabel : ℕ → List ℕ → Type 0
NoLabel c w = (d : ℕ) → d < length w → get_or w d 0 ≡ c → ⊥

abbrev FirstIs : ℕ → List ℕ → Option ℕ → Type 0
FirstIs c w none = NoLabel c w
FirstIs c w (some k) = FirstLabel c w k

abbrev LastIs : ℕ → List ℕ → Option ℕ → Type 0
LastIs c w none = NoLabel c w
LastIs c w (some k) = LastLabel c w k

no_label : (c x : ℕ) (w : List ℕ) → (x ≡ c → ⊥) → NoLabel c w → NoLabel c (x ∷ w)
no_label c x w h a zero lt e = h e
no_label c x w h a (suc d) lt e = a d (omega arith) e

pub first-with : (c : ℕ) (w : List ℕ) → FirstIs c w (first_with c w)
unfolding first_with
first-with c [] = λ d h e. not-suc-le-zero h
first-with c (x ∷ w) = go (eqb x c) refl (first_with c w) (first-with c w)
  where
    go : (t : Bool) → eqb x c ≡ t → (o : Option ℕ) → FirstIs c w o → FirstIs c (x ∷ w) (pick t (some 0) (one_on o))
    go true e o a = record { within = omega arith; label = eqb-true x c e; first = λ d h. absurd (not-suc-le-zero h) }
    go false e none a = no_label c x w (eqb-false x c e) a
    go false e (some k) a = record { within = omega (arith, a.within); label = a.label; first = earlier }
      where
        earlier : (d : ℕ) → d < suc k → get_or (x ∷ w) d 0 ≡ c → ⊥
        earlier zero h g = eqb-false x c e g
        earlier (suc d) h g = a.first d (omega arith) g

pub last-with : (c : ℕ) (w : List ℕ) → LastIs c w (last_with c w)
unfolding last_with
last-with c [] = λ d h e. not-suc-le-zero h
last-with c (x ∷ w) = go (eqb x c) refl (last_with c w) (last-with c w)
  where
    go : (t : Bool) → eqb x c ≡ t → (o : Option ℕ) → LastIs c w o → LastIs c (x ∷ w) (last_or o t)
    go t e (some k) a = record { within = omega (arith, a.within); label = a.label; last = later }
      where
        later : (d : ℕ) → suc k < d → d < length (x ∷ w) → get_or (x ∷ w) d 0 ≡ c → ⊥
        later zero h b g = not-suc-le-zero h
        later (suc d) h b g = a.last d (omega arith) (omega arith) g
    go true e none a = record { within = omega arith; label = eqb-true x c e; last = later }
      where
        later : (d : ℕ) → 0 < d → d < length (x ∷ w) → get_or (x ∷ w) d 0 ≡ c → ⊥
        later zero h b g = not-suc-le-zero h
        later (suc d) h b g = a d (omega arith) g
    go false e none a = no_label c x w (eqb-false x c e) a

-- behind a match with rows at i the search goes on d rows behind its first, where the first (the
-- last) row with the letter is; and nowhere where that is the first row or there is none
pub next-first : (c i j x : ℕ) (w : List ℕ) (k : ℕ) → next_start (to_first c) i j (x ∷ w) ≡ some k → (d : ℕ) × (k ≡ i + suc d) × FirstLabel c (x ∷ w) (suc d)
unfolding next_start
next-first c i j x w k e = go (first_with c (x ∷ w)) (first-with c (x ∷ w)) e
  where
    go : (o : Option ℕ) → FirstIs c (x ∷ w) o → labelled_start i (x ∷ w) o ≡ some k → (d : ℕ) × (k ≡ i + suc d) × FirstLabel c (x ∷ w) (suc d)
    go none a q = let z : ◌≡◌ {A = ℕ} 0 1 = cc in absurd (omega arith)
    go (some zero) a q = let z : ◌≡◌ {A = ℕ} 0 1 = cc in absurd (omega arith)
    go (some (suc d)) a q = (d, sym (some_is q), a)

pub next_last : (c i j x : ℕ) (w : List ℕ) (k : ℕ) → next_start (to_last c) i j (x ∷ w) ≡ some k → (d : ℕ) × (k ≡ i + suc d) × LastLabel c (x ∷ w) (suc d)
unfolding next_start
next_last c i j x w k e = go (last_with c (x ∷ w)) (last-with c (x ∷ w)) e
  where
    go : (o : Option ℕ) → LastIs c (x ∷ w) o → labelled_start i (x ∷ w) o ≡ some k → (d : ℕ) × (k ≡ i + suc d) × LastLabel c (x ∷ w) (suc d)
    go none a q = let z : ◌≡◌ {A = ℕ} 0 1 = cc in absurd (omega arith)
    go (some zero) a q = let z : ◌≡◌ {A = ℕ} 0 1 = cc in absurd (omega arith)
    go (some (suc d)) a q = (d, sym (some_is q), a)

pub first-nowhere : (c i j : ℕ) (w : List ℕ) → next_start (to_first c) i j w ≡ none → NoLabel c w ⊎ FirstLabel c w 0
unfolding next_start
first-nowhere c i j w e = go w (first_with c w) (first-with c w) e
  where
    go : (w : List ℕ) (o : Option ℕ) → FirstIs c w o → labelled_start i w o ≡ none → NoLabel c w ⊎ FirstLabel c w 0
    go [] o a q = let z : ◌≡◌ {A = ℕ} 0 1 = cc in absurd (omega arith)
    go (x ∷ w) none a q = inl a
    go (x ∷ w) (some zero) a q = inr a
    go (x ∷ w) (some (suc d)) a q = let z : ◌≡◌ {A = ℕ} 0 1 = cc in absurd (omega arith)

pub last-nowhere : (c i j : ℕ) (w : List ℕ) → next_start (to_last c) i j w ≡ none → NoLabel c w ⊎ LastLabel c w 0
unfolding next_start
last-nowhere c i j w e = go w (last_with c w) (last-with c w) e
  where
    go : (w : List ℕ) (o : Option ℕ) → LastIs c w o → labelled_start i w o ≡ none → NoLabel c w ⊎ LastLabel c w 0
    go [] o a q = let z : ◌≡◌ {A = ℕ} 0 1 = cc in absurd (omega arith)
    go (x ∷ w) none a q = inl a
    go (x ∷ w) (some zero) a q = inr a
    go (x ∷ w) (some (suc d)) a q = let z : ◌≡◌ {A = ℕ} 0 1 = cc in absurd (omega arith)

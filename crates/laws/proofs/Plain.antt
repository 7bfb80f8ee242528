-- Plain backtracking over any graph: its fuel, its paths; and the counted walk finds what it finds.
use mathlib.Core.Path.{◌≡◌, refl, ap, sym, ◌∙◌}
use mathlib.Core.List.{List, [], ◌∷◌, Memᴰ}
use mathlib.Core.Bool.{Bool, true, false}
use mathlib.Core.Logic.{⊎_elim}
use mathlib.Core.Option.{Option, none, some}
use Prim.Native.Nat.{ℕ, zero, suc, ◌<◌}
use native.Mathlib.Nat.{le_trans, not-suc-le-zero}
use native.Mathlib.Omega.{arith}
use lib.ListN.{get_or, set}
use Rattle.rules.specs.Walk.{IsPath, here, there, Ways, accept, try, Halting, Outcome, found, failed, halted, or_else, close, enter_unless, tries, inside, inside_by, or_next, first_of, onto, plain, plain_by, as_kept}
use Rattle.laws.proofs.Walk.{All-map, mark-in}
use Rattle.rules.specs.Working.{All, Falls, In}

pub first_of-none : (f : ℕ → Option (List ℕ)) (y : ℕ) (ys : List ℕ) → f y ≡ none → first_of f (y ∷ ys) ≡ first_of f ys
unfolding first_of
first_of-none f y ys e = rw e

pub first_of-some : (f : ℕ → Option (List ℕ)) (y : ℕ) (ys : List ℕ) (p : List ℕ) → f y ≡ some p → first_of f (y ∷ ys) ≡ some p
unfolding first_of
first_of-some f y ys p e = rw e

pub first_of-same : (f g : ℕ → Option (List ℕ)) (ys : List ℕ) → All (λ y. f y ≡ g y) ys → first_of f ys ≡ first_of g ys
unfolding first_of
first_of-same f g [] a = refl
first_of-same f g (y ∷ ys) a = rw (a.0, first_of-same f g ys a.1)

module _ (ways : ℕ → Ways) where
  pub plain-accept : (k x : ℕ) → ways x ≡ accept → plain ways (suc k) x ≡ some (x ∷ [])
  unfolding plain plain_by
  plain-accept k x e = rw e

  pub plain-try : (k x : ℕ) (ys : List ℕ) → ways x ≡ try ys → plain ways (suc k) x ≡ onto x (first_of (plain ways k) ys)
  unfolding plain plain_by
  plain-try k x ys e = rw e

module _ (ways : ℕ → Ways) (ρ : ℕ → ℕ) (N : ℕ) (falls : Falls ways ρ N) where
  -- any two fuels above the rank give the same
  pub plain-fuel : (k l x : ℕ) → ρ x < k → ρ x < l → plain ways k x ≡ plain ways l x
  plain-fuel zero l x h i = absurd (not-suc-le-zero h)
  plain-fuel (suc k) zero x h i = absurd (not-suc-le-zero i)
  plain-fuel (suc k) (suc l) x h i = go (λ y. plain-fuel k l y) (ways x) refl
    where
      go : ((y : ℕ) → ρ y < k → ρ y < l → plain ways k y ≡ plain ways l y) → (w : Ways) → ways x ≡ w → plain ways (suc k) x ≡ plain ways (suc l) x
      go ih accept e = plain-accept ways k x e ∙ sym (plain-accept ways l x e)
      go ih (try ys) e =
          plain-try ways k x ys e
          ∙ ap (onto x) (first_of-same (plain ways k) (plain ways l) ys
          (All-map (λ y (r : (ρ y < ρ x) × (x < N → y < N)). ih y (omega arith) (omega arith)) ys (falls x ys e)))
          ∙ sym (plain-try ways l x ys e)

-- ---- paths

module _ (ways : ℕ → Ways) where
  first_of-path : (f : ℕ → Option (List ℕ)) → ((y : ℕ) (p : List ℕ) → f y ≡ some p → IsPath ways y p)
      → (ys p : List ℕ) → first_of f ys ≡ some p → (y : ℕ) × (Memᴰ y ys) × (IsPath ways y p)
  unfolding first_of
  first_of-path f h [] p e = let z : ◌≡◌ {A = ℕ} 0 1 = cc in absurd (omega arith)
  first_of-path f h (y ∷ ys) p e = go (first_of-path f h ys p) (f y) refl e
    where
      go : (first_of f ys ≡ some p → (z : ℕ) × (Memᴰ z ys) × (IsPath ways z p)) → (o : Option (List ℕ)) → f y ≡ o
          → or_next o (λ _. first_of f ys) ≡ some p → (z : ℕ) × (Memᴰ z (y ∷ ys)) × (IsPath ways z p)
      go ih none d e' = let r = ih e' in (r.0, Memᴰ.tail r.1, r.2)
      go ih (some q) d e' = (y, Memᴰ.head refl, h y p (d ∙ e'))

  -- what plain backtracking finds is a path
  pub plain-path : (k x : ℕ) (p : List ℕ) → plain ways k x ≡ some p → IsPath ways x p
  unfolding plain plain_by
  plain-path zero x p e = let z : ◌≡◌ {A = ℕ} 0 1 = cc in absurd (omega arith)
  plain-path (suc k) x p e = go (plain-path k) (ways x) refl e
    where
      put : (ys : List ℕ) → ways x ≡ try ys → ((q : List ℕ) → first_of (plain ways k) ys ≡ some q → (y : ℕ) × (Memᴰ y ys) × (IsPath ways y q))
          → (o : Option (List ℕ)) → first_of (plain ways k) ys ≡ o → onto x o ≡ some p → IsPath ways x p
      put ys d f none c e' = let z : ◌≡◌ {A = ℕ} 0 1 = cc in absurd (omega arith)
      put ys d f (some q) c e' =
          let r = f q c in
          let same : x ∷ q ≡ p = cc in
          let h : IsPath ways x (x ∷ q) = there d r.1 r.2 in
          rw same at h

      go : ((y : ℕ) (q : List ℕ) → plain ways k y ≡ some q → IsPath ways y q) → (w : Ways) → ways x ≡ w → plain_by w (plain ways k) x ≡ some p → IsPath ways x p
      go ih accept d e' = let same : x ∷ [] ≡ p = cc in let h : IsPath ways x (x ∷ []) = here d in rw same at h
      go ih (try ys) d e' = put ys d (first_of-path (plain ways k) ih ys) (first_of (plain ways k) ys) refl e'

-- ---- the counted walk finds what plain backtracking finds

module _ (ways : ℕ → Ways) (K : ℕ) where
  -- every failed pair has no path
  abbrev pub Sound : List Bool → Type 0
  Sound F = (z : ℕ) → In F z → plain ways K z ≡ none

  abbrev pub TriesSound : List ℕ → Outcome → Type 0
  TriesSound ys (found p kept) = (first_of (plain ways K) ys ≡ some p) × Sound kept.failed
  TriesSound ys (failed kept) = (first_of (plain ways K) ys ≡ none) × Sound kept.failed
  TriesSound ys (halted h p kept) = Sound kept.failed

  abbrev pub InsideSound : ℕ → Outcome → Type 0
  InsideSound x (found p kept) = (plain ways K x ≡ some p) × Sound kept.failed
  InsideSound x (failed kept) = (plain ways K x ≡ none) × Sound kept.failed
  InsideSound x (halted h p kept) = Sound kept.failed

module _ (ways : ℕ → Ways) (ρ : ℕ → ℕ) (N : ℕ) (falls : Falls ways ρ N) (K : ℕ) (top : (x : ℕ) → ρ x < K) where
  -- plain backtracking with enough fuel, one pair down
  pub plain_down : (x : ℕ) → plain ways K x ≡ plain_by (ways x) (plain ways K) x
  unfolding plain plain_by
  plain_down x = plain-fuel ways ρ N falls K (suc K) x (top x) (le_trans (top x) (omega arith))

  sound_mark : (F : List Bool) (x : ℕ) → plain ways K x ≡ none → Sound ways K F → Sound ways K (set F x true)
  sound_mark F x e h z i = ⊎_elim (λ j. h z j) (λ (q : z ≡ x). rw q e) (mark-in F x z i)

  abbrev SoundAt : Halting → ℕ → Type 0
  SoundAt w k = (F : List Bool) (s y : ℕ) → ρ y < k → Sound ways K F → InsideSound ways K y (inside w ways k (as_kept F s) y)

  -- whatever may halt the walk
  pub tries-sound : (w : Halting) (k : ℕ) → SoundAt w k → (ys : List ℕ) → All (λ y. ρ y < k) ys → (F : List Bool) (s : ℕ) → Sound ways K F → TriesSound ways K ys (tries w (inside w ways k) (as_kept F s) ys)
  unfolding tries first_of
  tries-sound w k ih [] a F s h = (refl, h)
  tries-sound w k ih (y ∷ ys) a F s h = go (λ F' s'. tries-sound w k ih ys a.1 F' s') (get_or F y false) refl (w.spent s)
    where
      behind : (r : Outcome) → plain ways K y ≡ none → TriesSound ways K ys r → TriesSound ways K (y ∷ ys) r
      behind (found p kept') e t = (rw e t.0, t.1)
      behind (failed kept') e t = (rw e t.0, t.1)
      behind (halted v p kept') e t = t

      after : ((F' : List Bool) (s' : ℕ) → Sound ways K F' → TriesSound ways K ys (tries w (inside w ways k) (as_kept F' s') ys))
          → (r : Outcome) → InsideSound ways K y r → TriesSound ways K (y ∷ ys) (or_else r (λ kept'. tries w (inside w ways k) kept' ys))
      after rest (found p kept') t = (first_of-some (plain ways K) y ys p t.0, t.1)
      after rest (failed kept') t = behind (tries w (inside w ways k) kept' ys) t.0 (rest kept'.failed kept'.steps t.1)
      after rest (halted v p kept') t = t

      go : ((F' : List Bool) (s' : ℕ) → Sound ways K F' → TriesSound ways K ys (tries w (inside w ways k) (as_kept F' s') ys))
          → (t : Bool) → get_or F y false ≡ t → (u : Bool) → TriesSound ways K (y ∷ ys) (or_else (enter_unless t u (inside w ways k) (as_kept F s) y) (λ kept'. tries w (inside w ways k) kept' ys))
      go rest true e u = behind (tries w (inside w ways k) (as_kept F s) ys) (h y e) (rest F s h)
      go rest false e true = h
      go rest false e false = after rest (inside w ways k (as_kept F (suc s)) y) (ih F (suc s) y a.0 h)

  pub inside-sound : (w : Halting) (k : ℕ) → SoundAt w k
  unfolding inside inside_by plain_by
  inside-sound w zero F s x hx h = absurd (not-suc-le-zero hx)
  inside-sound w (suc k) F s x hx h = go (inside-sound w k) (w.waits x) (ways x) refl
    where
      put : (ys : List ℕ) → ways x ≡ try ys → (r : Outcome) → TriesSound ways K ys r → InsideSound ways K x (close x r)
      put ys e (found p kept') t = (plain_down x ∙ rw (e, t.0), t.1)
      put ys e (failed kept') t = let d : plain ways K x ≡ none = plain_down x ∙ rw (e, t.0) in (d, sound_mark kept'.failed x d t.1)
      put ys e (halted v p kept') t = t

      go : SoundAt w k → (u : Bool) (y : Ways) → ways x ≡ y → InsideSound ways K x (inside_by w u y (inside w ways k) (as_kept F s) x)
      go ih true y e = h
      go ih false accept e = (plain_down x ∙ rw e, h)
      go ih false (try ys) e =
          put ys e (tries w (inside w ways k) (as_kept F s) ys)
          (tries-sound w k ih ys (All-map (λ y (r : (ρ y < ρ x) × (x < N → y < N)). omega arith) ys (falls x ys e)) F s h)

-- Preferment is a strict total order on the derivations of every phrase: irreflexive, transitive,
-- and of any two that differ one is preferred (`total_order`). One lemma for each of the three ways
-- to order.
use mathlib.Core.Path.{◌≡◌, refl, ap, sym, ◌∙◌, subst}
use mathlib.Core.List.{List, [], ◌∷◌}
use mathlib.Core.Bool.{Bool, true, false, true≢false}
use mathlib.Core.Logic.{◌⊎◌, inl, inr, ⊎_elim}
use mathlib.Core.Option.{Option, none, some}
use mathlib.Core.HLevel.{×_prop, Σ_prop_path}
use Prim.Native.Nat.{ℕ, ◌≤◌}
use native.Mathlib.Bridge.{le_prop}
use lib.ListN.{length}
use Rattle.rules.specs.Language.{lower, upper, Rank, Tree, one, more, last, next, bare, times, letter, caret, dollar, empty, group}
use Rattle.rules.specs.Preferment.{Derivation, FirstBranch, Lexicographic, RoundByRound, Prefers}
use Rattle.rules.specs.Readings.{Within}

pub data Compared {A : Type 0} (P : A → A → Type 0) (d e : A) : Type 0 where
  before : P d e → Compared P d e
  same : d ≡ e → Compared P d e
  after : P e d → Compared P d e

-- a strict total order
pub record Total {A : Type 0} (P : A → A → Type 0) : Type 0 where
  pub irreflexive : (d : A) → P d d → ⊥
  pub transitive : (d e g : A) → P d e → P e g → P d g
  pub compare : (d e : A) → Compared P d e

-- where there is one element at most
pub alone : {A : Type 0} → IsProp A → Total {A = A} (λ d e. ⊥)
alone h = record { irreflexive = λ d l. l; transitive = λ d e g l m. l; compare = λ d e. same (h d e) }

module _ {A B : Type 0} (P : A → A → Type 0) (Q : B → B → Type 0) (p : Total P) (q : Total Q) where
  first-branch : Total (FirstBranch P Q)
  unfolding FirstBranch
  first-branch = record { irreflexive = λ d. irr d; transitive = λ d e g. tra d e g; compare = λ d e. cmp d e }
    where
      irr : (d : A ⊎ B) → FirstBranch P Q d d → ⊥
      irr (inl d) l = p.irreflexive d l
      irr (inr d) l = q.irreflexive d l

      tra : (d e g : A ⊎ B) → FirstBranch P Q d e → FirstBranch P Q e g → FirstBranch P Q d g
      tra (inl d) (inl e) (inl g) l m = p.transitive d e g l m
      tra (inl d) (inl e) (inr g) l m = tt
      tra (inl d) (inr e) (inl g) l m = absurd m
      tra (inl d) (inr e) (inr g) l m = tt
      tra (inr d) (inl e) g l m = absurd l
      tra (inr d) (inr e) (inl g) l m = absurd m
      tra (inr d) (inr e) (inr g) l m = q.transitive d e g l m

      left : (d e : A) → Compared P d e → Compared (FirstBranch P Q) (inl d) (inl e)
      left d e (before l) = before l
      left d e (same x) = same (ap (λ (z : A). inl z) x)
      left d e (after l) = after l

      right : (d e : B) → Compared Q d e → Compared (FirstBranch P Q) (inr d) (inr e)
      right d e (before l) = before l
      right d e (same x) = same (ap (λ (z : B). inr z) x)
      right d e (after l) = after l

      cmp : (d e : A ⊎ B) → Compared (FirstBranch P Q) d e
      cmp (inl d) (inl e) = left d e (p.compare d e)
      cmp (inl d) (inr e) = before tt
      cmp (inr d) (inl e) = after tt
      cmp (inr d) (inr e) = right d e (q.compare d e)

  lexicographic : Total (Lexicographic P Q)
  unfolding Lexicographic
  lexicographic = record { irreflexive = irr; transitive = λ d e g l m. tra d e g l m; compare = λ d e. cmp d e (p.compare d.0 e.0) (q.compare d.1 e.1) }
    where
      irr : (d : A × B) → Lexicographic P Q d d → ⊥
      irr d l = ⊎_elim (λ (x : P d.0 d.0). p.irreflexive d.0 x) (λ (x : (d.0 ≡ d.0) × Q d.1 d.1). q.irreflexive d.1 x.1) l

      tra : (d e g : A × B) → P d.0 e.0 ⊎ ((d.0 ≡ e.0) × Q d.1 e.1) → P e.0 g.0 ⊎ ((e.0 ≡ g.0) × Q e.1 g.1)
          → P d.0 g.0 ⊎ ((d.0 ≡ g.0) × Q d.1 g.1)
      tra d e g (inl l) (inl m) = inl (p.transitive d.0 e.0 g.0 l m)
      tra d e g (inl l) (inr m) = inl (subst (λ (x : A). P d.0 x) m.0 l)
      tra d e g (inr l) (inl m) = inl (subst (λ (x : A). P x g.0) (sym l.0) m)
      tra d e g (inr l) (inr m) = inr (l.0 ∙ m.0, q.transitive d.1 e.1 g.1 l.1 m.1)

      cmp : (d e : A × B) → Compared P d.0 e.0 → Compared Q d.1 e.1 → Compared (Lexicographic P Q) d e
      cmp d e (before l) y = before (inl l)
      cmp d e (after l) y = after (inl l)
      cmp d e (same x) (before m) = before (inr (x, m))
      cmp d e (same x) (same y) = same (λ i. (x i, y i))
      cmp d e (same x) (after m) = after (inr (sym x, m))

module _ {A : Type 0} (P : A → A → Type 0) (p : Total P) (lazy : Bool) where
  rounds_irreflexive : (d : List A) → RoundByRound lazy P d d → ⊥
  unfolding RoundByRound
  rounds_irreflexive [] l = l
  rounds_irreflexive (d ∷ ds) l = ⊎_elim (λ (x : P d d). p.irreflexive d x) (λ (x : (d ≡ d) × RoundByRound lazy P ds ds). rounds_irreflexive ds x.1) l

  rounds_transitive : (d e g : List A) → RoundByRound lazy P d e → RoundByRound lazy P e g → RoundByRound lazy P d g
  unfolding RoundByRound
  rounds_transitive [] [] g l m = absurd l
  rounds_transitive [] (e ∷ es) [] l m = absurd (true≢false (sym l ∙ m))
  rounds_transitive [] (e ∷ es) (g ∷ gs) l m = l
  rounds_transitive (d ∷ ds) [] [] l m = l
  rounds_transitive (d ∷ ds) [] (g ∷ gs) l m = absurd (true≢false (sym m ∙ l))
  rounds_transitive (d ∷ ds) (e ∷ es) [] l m = m
  rounds_transitive (d ∷ ds) (e ∷ es) (g ∷ gs) l m = go (rounds_transitive ds es gs) l m
    where
      go : (RoundByRound lazy P ds es → RoundByRound lazy P es gs → RoundByRound lazy P ds gs)
          → P d e ⊎ ((d ≡ e) × RoundByRound lazy P ds es) → P e g ⊎ ((e ≡ g) × RoundByRound lazy P es gs) → P d g ⊎ ((d ≡ g) × RoundByRound lazy P ds gs)
      go ih (inl x) (inl y) = inl (p.transitive d e g x y)
      go ih (inl x) (inr y) = inl (subst (λ (z : A). P d z) y.0 x)
      go ih (inr x) (inl y) = inl (subst (λ (z : A). P z g) (sym x.0) y)
      go ih (inr x) (inr y) = inr (x.0 ∙ y.0, ih x.1 y.1)

  rounds_compare : (d e : List A) → Compared (RoundByRound lazy P) d e
  unfolding RoundByRound
  rounds_compare [] [] = same refl
  rounds_compare [] (e ∷ es) = go lazy refl
    where
      go : (b : Bool) → lazy ≡ b → Compared (RoundByRound lazy P) [] (e ∷ es)
      go true x = before x
      go false x = after x
  rounds_compare (d ∷ ds) [] = go lazy refl
    where
      go : (b : Bool) → lazy ≡ b → Compared (RoundByRound lazy P) (d ∷ ds) []
      go true x = after x
      go false x = before x
  rounds_compare (d ∷ ds) (e ∷ es) = go (p.compare d e) (rounds_compare ds es)
    where
      go : Compared P d e → Compared (RoundByRound lazy P) ds es → Compared (RoundByRound lazy P) (d ∷ ds) (e ∷ es)
      go (before l) y = before (inl l)
      go (after l) y = after (inl l)
      go (same x) (before m) = before (inr (x, m))
      go (same x) (same y) = same (λ i. x i ∷ y i)
      go (same x) (after m) = after (inr (sym x, m))

  -- lists with a property that says no more of a list than that it has it
  rounds : (W : List A → Type 0) → ((ds : List A) → IsProp (W ds)) → Total {A = (ds : List A) × W ds} (λ d e. RoundByRound lazy P d.0 e.0)
  rounds W h =
      record {
        irreflexive = λ d l. rounds_irreflexive d.0 l;
        transitive = λ d e g l m. rounds_transitive d.0 e.0 g.0 l m;
        compare = λ d e. go d e (rounds_compare d.0 e.0);
      }
    where
      go : (d e : (ds : List A) × W ds) → Compared (RoundByRound lazy P) d.0 e.0 → Compared (λ (d e : (ds : List A) × W ds). RoundByRound lazy P d.0 e.0) d e
      go d e (before l) = before l
      go d e (same x) = same (Σ_prop_path h x)
      go d e (after l) = after l

pub within-prop : (c : ℕ) (hi : Option ℕ) → IsProp (Within c hi)
within-prop c none = λ x y. refl
within-prop c (some hi) = le_prop

pub total_order : {k : Rank} (t : Tree k) → Total (Prefers t)
unfolding Derivation Prefers
total_order (one b) = total_order b
total_order (more b p) = first-branch (Prefers b) (Prefers p) (total_order b) (total_order p)
total_order (last f) = total_order f
total_order (next f b) = lexicographic (Prefers f) (Prefers b) (total_order f) (total_order b)
total_order (bare x) = total_order x
total_order (times x f z) =
    rounds (Prefers x) (total_order x) z (λ ds. (lower f ≤ length ds) × Within (length ds) (upper f)) (λ ds. ×_prop le_prop (within-prop (length ds) (upper f)))
total_order (letter c) = alone (λ x y. refl)
total_order caret = alone (λ x y. refl)
total_order dollar = alone (λ x y. refl)
total_order empty = alone (λ x y. refl)
total_order (group p) = total_order p

-- The search of a call, by the ways through the code.
use mathlib.Core.Path.{◌≡◌, refl}
use mathlib.Core.List.{List}
use mathlib.Core.Bool.{true, false, ◌&&◌}
use Prim.Native.Nat.{ℕ, ◌+◌, ◌-◌, ◌*◌, ◌≤◌, ◌<◌}
use native.Mathlib.Omega.{arith}
use lib.Dec.{leb}
use lib.IntN.{ℤ}
use lib.ListN.{length}
use borrow.Author.Tests.{le-leb, lt-leb}
use Rattle.matches.specs.declared.Sweep.{Sweep}
use Rattle.matches.specs.declared.Task.{Task}
use Rattle.matches.specs.Found.{Searches}
use Rattle.sweep.specs.Searched.{Sound, Measures, WentOn, Answered}
use Rattle.lots.specs.declared.Feed.{Feed}
use Rattle.lots.specs.Feeds.{kept_in, Within, Advances, Advanced}

module _ (T : List ℕ) (rows : List ℤ) (task : Task) (n₁ t₁ : List ℕ) (labs₁ : List ℕ) (f : Feed) (h : Advances T rows task n₁ t₁ labs₁ f) where
  pub first-asks : Searches T rows task n₁ t₁ × Measures T task n₁ t₁
  first-asks = (h.searches, h.measures)

  pub taken_back : (f.begun ≡ 0 → ⊥) → f.opened ≤ f.steps
  taken_back d = (h.within d).opened

  pub later-asks : (f.begun ≡ 0 → ⊥) → (i : Sweep) → i ≡ kept_in f → Sound T rows task n₁ t₁ labs₁ i × Measures T task n₁ t₁
  later-asks d i e =
      let w = h.within d in
      let a = w.steps in
      rw e (record { searches = h.searches; few = w.few; labels = w.labels; steps = omega arith }, h.measures)

  module _ (numbers₁ : List ℤ) (notes trail : List ℕ) (numbers : List ℤ) (labs : List ℕ) (r : Sweep) where
    pub advance_first : f.begun ≡ 0 → Answered T rows task n₁ t₁ numbers₁ labs₁ notes trail numbers labs r → Advanced T rows task n₁ t₁ numbers₁ labs₁ f notes trail numbers labs r
    advance_first e d = record { first = λ _. d; later = λ c. absurd (c e) }

    pub advance_later : (f.begun ≡ 0 → ⊥) → (i : Sweep) → i ≡ kept_in f → WentOn T rows task n₁ t₁ numbers₁ labs₁ i notes trail numbers labs r
        → Advanced T rows task n₁ t₁ numbers₁ labs₁ f notes trail numbers labs r
    advance_later c i e d = record { first = λ z. absurd (c z); later = λ _. rw e at d }

-- the bounds, one behind the other
module _ (m r l k o s : ℕ) where
  pub more-matches : r < m → false ≡ (leb m r && (leb l k && (leb o s && leb s 4611686018427387904)))
  more-matches h = rw (lt-leb m r h) refl

  module _ (a : m ≤ r) where
    pub more-labels : k < l → false ≡ (leb m r && (leb l k && (leb o s && leb s 4611686018427387904)))
    more-labels h = rw (le-leb m r a, lt-leb l k h) refl

    module _ (b : l ≤ k) where
      pub more-open : s < o → false ≡ (leb m r && (leb l k && (leb o s && leb s 4611686018427387904)))
      more-open h = rw (le-leb m r a, le-leb l k b, lt-leb o s h) refl

      pub all_within : o ≤ s → leb s 4611686018427387904 ≡ (leb m r && (leb l k && (leb o s && leb s 4611686018427387904)))
      all_within c = rw (le-leb m r a, le-leb l k b, le-leb o s c) refl

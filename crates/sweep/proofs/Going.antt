-- The loop over the starts as a whole: its numbers stay within their bounds, nothing beyond the
-- pairs is changed, and where the search stood so far for a goal, it does so still, or has come to
-- it.
use mathlib.Core.Path.{◌≡◌, refl, ◌∙◌}
use mathlib.Core.List.{List}
use mathlib.Core.Bool.{true, false}
use Prim.Native.Nat.{ℕ, ◌-◌, ◌≤◌, ◌<◌}
use lib.IntN.{ℤ}
use lib.ListN.{length}
use Rattle.rules.specs.Search.{Swept}
use Rattle.pairs.specs.Layout.{N, layout_of}
use Rattle.matches.specs.declared.Sweep.{Sweep}
use Rattle.matches.specs.declared.Task.{Task}
use Rattle.matches.specs.Asked.{asked_of}
use Rattle.matches.specs.Found.{Visits, Visited}
use Rattle.sweep.specs.Searched.{Sound, Beyond, SoFar, Searched}
use Rattle.sweep.proofs.Within.{sound_visits, sound_more, sound_less, sound_numbers, sound_labels, beyond-none, beyond-more}
use Rattle.sweep.proofs.Sofar.{so_more, so_over, so_all, so_waits}
use Rattle.rules.specs.Walk.{Kept}

pub record Going (T : List ℕ) (rows : List ℤ) (task : Task) (n₁ t₁ : List ℕ) (numbers₁ : List ℤ) (labs₁ : List ℕ) (i₁ : Sweep)
    (notes trail : List ℕ) (numbers : List ℤ) (labs : List ℕ) (i : Sweep) : Type 0 where
  pub sound : Sound T rows task notes trail labs i
  pub beyond : Beyond (N (layout_of T task.size) task.size.rows) n₁ t₁ notes trail
  pub numbers_long : length numbers ≡ length numbers₁
  pub labels_long : length labs ≡ length labs₁
  pub so_far : (num₁ : List ℤ) (lab₁ : List ℕ) (goal : Swept Kept) → SoFar T rows task num₁ lab₁ goal n₁ numbers₁ labs₁ i₁ → SoFar T rows task num₁ lab₁ goal notes numbers labs i

module _ (T : List ℕ) (rows : List ℤ) (task : Task) (n₁ t₁ : List ℕ) (numbers₁ : List ℤ) (labs₁ : List ℕ) (i₁ : Sweep) where
  pub going_none : Sound T rows task n₁ t₁ labs₁ i₁ → Going T rows task n₁ t₁ numbers₁ labs₁ i₁ n₁ t₁ numbers₁ labs₁ i₁
  going_none h = record { sound = h; beyond = beyond-none _ n₁ t₁; numbers_long = refl; labels_long = refl; so_far = λ num₁ lab₁ goal s. s }

  module _ (notes trail : List ℕ) (numbers : List ℤ) (labs : List ℕ) (i : Sweep) (h : Going T rows task n₁ t₁ numbers₁ labs₁ i₁ notes trail numbers labs i) where
    -- no row is there to start at
    module _ (ge : task.size.rows ≤ i.row) where
      pub going_all : task.size.more ≡ false → Searched T rows task n₁ t₁ numbers₁ labs₁ i₁ notes trail numbers labs i
      going_all e = record { beyond = h.beyond; came = λ num₁ lab₁ goal s. so_all T rows task num₁ lab₁ goal notes numbers labs i (h.so_far num₁ lab₁ goal s) ge e }

      pub going_waits : task.size.more ≡ true → (r : Sweep) → r ≡ record { end = 23; row = i.row; matches = i.matches; labels = i.labels; steps = i.steps; opened = 0 }
          → Searched T rows task n₁ t₁ numbers₁ labs₁ i₁ notes trail numbers labs r
      going_waits e r er = record { beyond = h.beyond; came = λ num₁ lab₁ goal s. so_waits T rows task num₁ lab₁ goal notes numbers labs i (h.so_far num₁ lab₁ goal s) ge e r er }

    module _ (lt : i.row < task.size.rows) where
      pub going_visits : Visits T rows task notes trail labs i
      going_visits = sound_visits T rows task notes trail numbers labs i h.sound lt

      module _ (notes' trail' : List ℕ) (numbers' : List ℤ) (labs' : List ℕ) (r : Sweep) (v : Visited (asked_of T rows task) notes notes' trail trail' numbers numbers' labs labs' i r) where
        beyond : Beyond (N (layout_of T task.size) task.size.rows) n₁ t₁ notes' trail'
        beyond = beyond-more (asked_of T rows task) n₁ t₁ notes trail notes' trail' numbers numbers' labs labs' i r h.beyond v

        pub going_numbers : length numbers' ≡ length numbers₁
        going_numbers = sound_numbers T rows task notes trail numbers labs i h.sound lt notes' trail' numbers' labs' r v ∙ h.numbers_long

        pub going_labels : length labs' ≡ length labs₁
        going_labels = sound_labels T rows task notes trail numbers labs i h.sound lt notes' trail' numbers' labs' r v ∙ h.labels_long

        pub going_over : (r.end ≡ 0 → ⊥) → Searched T rows task n₁ t₁ numbers₁ labs₁ i₁ notes' trail' numbers' labs' r
        going_over e = record { beyond = beyond; came = λ num₁ lab₁ goal s. so_over T rows task num₁ lab₁ goal notes numbers labs i (h.so_far num₁ lab₁ goal s) lt notes' trail trail' numbers' labs' r v e }

        module _ (e : r.end ≡ 0) where
          pub going_less : task.size.rows - r.row < task.size.rows - i.row
          going_less = sound_less T rows task notes trail numbers labs i h.sound lt notes' trail' numbers' labs' r v e

          pub going_more : Going T rows task n₁ t₁ numbers₁ labs₁ i₁ notes' trail' numbers' labs' r
          going_more =
              record {
                sound = sound_more T rows task notes trail numbers labs i h.sound lt notes' trail' numbers' labs' r v e;
                beyond = beyond;
                numbers_long = going_numbers;
                labels_long = going_labels;
                so_far = λ num₁ lab₁ goal s. so_more T rows task num₁ lab₁ goal notes numbers labs i (h.so_far num₁ lab₁ goal s) lt notes' trail trail' numbers' labs' r v e;
              }

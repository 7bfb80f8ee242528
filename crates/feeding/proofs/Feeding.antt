-- A call where the search does not wait: it is out of order after the end, and where the search has
-- stopped the result is as before.
use mathlib.Core.Path.{◌≡◌, refl, sym, subst}
use mathlib.Core.Bool.{false}
use mathlib.Core.List.{List}
use Prim.Native.Nat.{ℕ}
use lib.IntN.{ℤ}
use Rattle.rules.specs.Answers.{Buffers, refused}
use Rattle.rules.specs.Lots.{Named, Progress, arrived, call_of, unchanged}
use Rattle.outcome.specs.Results.{lent}
use Rattle.calls.specs.declared.Call.{Call}
use Rattle.calls.specs.declared.Fed.{Fed}
use Rattle.calls.specs.Calls.{Stands, taken_up, Made, Calls}
use Rattle.calls.specs.Steps.{before, after, refusing, as_before}
use Rattle.calls.proofs.Standing.{is-stopped, done-going, done-ended, made_by, same-leaves}

module _ (c : Call) (q : List ℕ) (rows : List ℤ) (notes trail : List ℕ) (numbers : List ℤ) (labels : List ℕ) where
  abbrev b : Buffers
  b = lent notes trail numbers labels

  abbrev Keeps : Fed → Type 0
  Keeps r = Calls (before c q rows notes trail numbers labels) (after r notes trail numbers labels)

  -- after the end
  module _ (z : c.feed.answer ≡ 0) (s : Named) (pr : Progress) (rows₁ : List ℤ) (st : Stands s pr rows₁ c.feed b) where
    call-done : call_of s pr (arrived rows c.present) c.last b ≡ unchanged pr (refused 21 0 b)
    unfolding call_of
    call-done = rw (done-going s pr rows₁ c.feed b st z, done-ended s pr rows₁ c.feed b st z) refl

    done-untaken : taken_up s pr rows c.present ≡ false
    unfolding taken_up
    done-untaken = rw (done-going s pr rows₁ c.feed b st z, done-ended s pr rows₁ c.feed b st z) refl

    done-made : Made s pr rows₁ (before c q rows notes trail numbers labels) (after (refusing c.feed 21 0) notes trail numbers labels)
    unfolding refused
    done-made =
        made_by s pr rows₁ (before c q rows notes trail numbers labels) (after (refusing c.feed 21 0) notes trail numbers labels) (unchanged pr (refused 21 0 b)) false call-done done-untaken
        (same-leaves s (refused 21 0 b)) st (λ _. (refl, refl))

  pub done_keeps : c.feed.answer ≡ 0 → (r : Fed) → r ≡ refusing c.feed 21 0 → Keeps r
  unfolding Calls
  done_keeps z r er s pr rows₁ eq st later =
      subst (λ (x : Fed). Made s pr rows₁ (before c q rows notes trail numbers labels) (after x notes trail numbers labels)) (sym er) (done-made z s pr rows₁ st)

  -- where it has stopped
  module _ (x : c.feed.answer ≡ 23 → ⊥) (y : c.feed.answer ≡ 0 → ⊥) (s : Named) (pr : Progress) (rows₁ : List ℤ) (st : Stands s pr rows₁ c.feed b) where
    call-stopped : call_of s pr (arrived rows c.present) c.last b ≡ unchanged pr (record { result = pr.result; buffers = b })
    unfolding call_of
    call-stopped = rw (is-stopped s pr rows₁ c.feed b st x y) refl

    stopped-untaken : taken_up s pr rows c.present ≡ false
    unfolding taken_up
    stopped-untaken = rw (is-stopped s pr rows₁ c.feed b st x y) refl

    stopped-made : Made s pr rows₁ (before c q rows notes trail numbers labels) (after (as_before c.feed) notes trail numbers labels)
    stopped-made =
        made_by s pr rows₁ (before c q rows notes trail numbers labels) (after (as_before c.feed) notes trail numbers labels) (unchanged pr (record { result = pr.result; buffers = b })) false call-stopped
        stopped-untaken (record { result = sym st.result; notes = refl; numbers = refl; labels = refl; trail = λ _. refl; trail_length = refl; trail_beyond = refl }) st (λ _. (refl, refl))

  pub stopped_keeps : (c.feed.answer ≡ 23 → ⊥) → (c.feed.answer ≡ 0 → ⊥) → (r : Fed) → r ≡ as_before c.feed → Keeps r
  unfolding Calls
  stopped_keeps x y r er s pr rows₁ eq st later =
      subst (λ (v : Fed). Made s pr rows₁ (before c q rows notes trail numbers labels) (after v notes trail numbers labels)) (sym er) (stopped-made x y s pr rows₁ st)

pub ruleset feeds = (done_keeps, stopped_keeps)

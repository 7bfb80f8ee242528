-- The steps of a call's code: what its search asks, and what it comes to.
use mathlib.Core.Path.{◌≡◌, refl}
use mathlib.Core.List.{List}
use Prim.Native.Nat.{ℕ, ◌<◌}
use lib.IntN.{ℤ}
use lib.ListN.{get_or}
use Rattle.prepared.specs.declared.Prepared.{Prepared}
use Rattle.matches.specs.declared.Sweep.{Sweep}
use Rattle.matches.specs.declared.Task.{Task}
use Rattle.starting.specs.Starts.{TaskFor}
use Rattle.starting.proofs.Starting.{may_search, may_measure}
use Rattle.outcome.specs.declared.Outcome.{Outcome}
use Rattle.outcome.specs.Results.{refusal}
use Rattle.lots.specs.declared.Feed.{Feed}
use Rattle.lots.specs.Feeds.{Advances, Advanced}
use Rattle.calls.specs.declared.Call.{Call}
use Rattle.calls.specs.declared.Fed.{Fed}
use Rattle.calls.specs.Steps.{refusing, terms_of, kept_by, outcome_by, Goes, Went}

pub refuse_is : (f : Feed) (a k : ℕ) (o : Outcome) → o ≡ refusal a k → ◌≡◌ {A = Fed} (record { feed = f; outcome = o }) (refusing f a k)
refuse_is f a k o e = rw e refl

module _ (T : List ℕ) (p : Prepared) (c : Call) (rows : List ℤ) (notes trail labs : List ℕ) where
  pub may_advance : Goes T p c rows notes trail labs → (t : Task) → TaskFor p (terms_of c) t → Advances T rows t notes trail labs c.feed
  may_advance g t h =
      record {
        searches = may_search g.query T p g.ready (terms_of c) rows notes trail g.fed t h;
        measures = may_measure g.query T p g.ready (terms_of c) rows notes trail g.fed t h;
        within = λ _. g.within;
      }

  pub went : (t : Task) → TaskFor p (terms_of c) t → (numbers : List ℤ) (notes' trail' : List ℕ) (numbers' : List ℤ) (labs' : List ℕ) (s : Sweep)
      → Advanced T rows t notes trail numbers labs c.feed notes' trail' numbers' labs' s → (f : Feed) → f ≡ kept_by c s → (o : Outcome) → o ≡ outcome_by s
      → ((k : ℕ) → get_or notes k 0 < 256) → ((k : ℕ) → get_or notes' k 0 < 256) → Went T p c rows notes trail numbers labs notes' trail' numbers' labs' (record { feed = f; outcome = o })
  went t h numbers notes' trail' numbers' labs' s d f ef o eo bytes bytes' =
      record { task = t; task_for = h; sweep = s; advanced = d; result = rw (ef, eo) refl; bytes₁ = bytes; bytes = bytes' }

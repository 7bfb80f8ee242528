-- One law for each way through `release_of` and `verdict_on`.
use Rattle.std.proofs.Common.{◌≡◌, ℕ, Bool, true, false, sym, refl, ◌∙◌, eqb}
use borrow.Author.Tests.{eq-eqb, ne_eqb}
use Rattle.rules.specs.Basics.{pick}
use Rattle.rules.specs.Rows.{Table}
use Rattle.bus_log.specs.declared.Release.{Release}
use Rattle.bus_log.specs.declared.Release.TheVariants.{Cleared, Held, Unreadable}
use Rattle.bus_log.specs.declared.Verdict.{Verdict}
use Rattle.bus_log.specs.Log.{unreadable, last_refusal, handed, said, held_at, released_as}
use Rattle.verdicts.specs.Verdicts.{release_by, verdict_by}

module _ (t : Table) (matches : ℕ) (u : Bool) (e : u ≡ unreadable t) where
  pub says-unreadable : u ≡ true → Unreadable ≡ release_by t matches
  unfolding release_by
  says-unreadable f = rw (sym e ∙ f)

  pub says-cleared : u ≡ false → (matches ≡ 0 → ⊥) → Cleared ≡ release_by t matches
  unfolding release_by
  says-cleared f m = rw (sym e ∙ f, ne_eqb matches 0 m)

  pub says-held : u ≡ false → matches ≡ 0 → Held (last_refusal t) ≡ release_by t matches
  unfolding release_by
  says-held f m = rw (sym e ∙ f, eq-eqb matches 0 m)

module _ (t : Table) (answer matches : ℕ) where
  pub says-handed : (answer ≡ 0 → ⊥) → (v : Verdict) → v ≡ handed answer → v ≡ verdict_by t answer matches
  unfolding verdict_by
  says-handed d v h = rw (ne_eqb answer 0 d) h

  in_numbers : (u m : Bool) → released_as (pick u Unreadable (pick m (Held (last_refusal t)) Cleared)) ≡ pick u (said 3) (pick m (held_at (last_refusal t)) (said 1))
  in_numbers true m = refl
  in_numbers false true = refl
  in_numbers false false = refl

  pub says-released : answer ≡ 0 → (r : Release) (v : Verdict) → r ≡ release_by t matches → v ≡ released_as r → v ≡ verdict_by t answer matches
  unfolding verdict_by release_by
  says-released z r v e h = rw (eq-eqb answer 0 z) (h ∙ rw e (in_numbers (unreadable t) (eqb matches 0)))

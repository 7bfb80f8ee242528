-- A search over places whose forks list each way once goes on from where an earlier one waits, as
-- the search over the places does (`thin-goes`). For code that keeps the open pairs of such places
-- between calls (R-11).
use mathlib.Core.Path.{◌≡◌, refl, ap, ◌∙◌}
use mathlib.Core.List.{List, []}
use mathlib.Core.Bool.{Bool, true, false}
use mathlib.Core.Logic.{◌⊎◌, inl, inr}
use Prim.Native.Nat.{ℕ, ◌≤◌, ◌<◌}
use native.Mathlib.Omega.{arith}
use lib.ListN.{length, replicate, length-replicate}
use Rattle.rules.specs.Places.{Unrolled, places}
use Rattle.rules.specs.Search.{Skip, Terms, halting_of, plan_of, walk_at, walk_search, seek, stand_at, sweep, Swept}
use Rattle.rules.specs.Walk.{Ways, accept, try, Halting, pairs, first_at, pair_ways, as_kept, Kept}
use Rattle.rules.specs.Working.{All, Falls, distinct, thinned}
use Rattle.laws.proofs.Distinct.{thin, fresh-all, thin-pairs, thinned-length, halting_thin, plan-thin}
use Rattle.laws.proofs.Fuel.{sweep-enough, plan-on}
use Rattle.laws.proofs.GoesOn.{Sooner, and_then, search_onward}
use Rattle.laws.proofs.PatternWalk.{falls-in, top_in, starts_in_lem}
use Rattle.laws.proofs.Rank.{rank}

thin-falls : (ways : ℕ → Ways) (ρ : ℕ → ℕ) (N : ℕ) → Falls ways ρ N → Falls (λ x. thin (ways x)) ρ N
thin-falls ways ρ N falls x ys e = go (ways x) refl e
  where
    go : (w : Ways) → ways x ≡ w → thin w ≡ try ys → All (λ y. (ρ y < ρ x) × (x < N → y < N)) ys
    go accept d f = let z : ◌≡◌ {A = ℕ} 0 1 = cc in absurd (omega arith)
    go (try zs) d f =
        let z : distinct zs ≡ ys = cc in
        rw (← z) (fresh-all (λ y. (ρ y < ρ x) × (x < N → y < N)) [] zs (falls x zs d))

thin-sooner : (h₁ h₂ : Halting) (ways₁ ways₂ : ℕ → Ways) → Sooner h₁ h₂ ways₁ ways₂ → Sooner h₁ h₂ (λ x. thin (ways₁ x)) (λ x. thin (ways₂ x))
thin-sooner h₁ h₂ ways₁ ways₂ s = record { ways = λ x. go x (s.ways x); steps = s.steps }
  where
    go : (x : ℕ) → (h₁.waits x ≡ true) ⊎ ((h₁.waits x ≡ false) × (h₂.waits x ≡ false) × (ways₁ x ≡ ways₂ x))
        → (h₁.waits x ≡ true) ⊎ ((h₁.waits x ≡ false) × (h₂.waits x ≡ false) × (thin (ways₁ x) ≡ thin (ways₂ x)))
    go x (inl e) = inl e
    go x (inr e) = inr (e.0, e.1, ap thin e.2)

module _ (t : Unrolled) (skip : Skip) (fits : ℕ → ℕ → List ℕ → Bool) (holds₁ holds₂ : ℕ → ℕ → Bool) (n₁ n₂ : ℕ) (terms₁ terms₂ : Terms)
    (same : terms₁.largest ≡ terms₂.largest) (le : n₁ ≤ n₂) (few : n₂ ≤ terms₂.largest)
    (sooner : Sooner (halting_of terms₁ (places t) n₁) (halting_of terms₂ (places t) n₂) (pair_ways holds₁ n₁ (places t)) (pair_ways holds₂ n₂ (places t)))
    (rest : (terms₁.more ≡ true) ⊎ ((n₂ ≡ n₁) × (terms₂.more ≡ false))) where
  -- the two searches as sweeps over the thinned places
  abbrev swept : (ℕ → ℕ → Bool) → ℕ → Terms → Swept Kept
  swept holds n terms =
      sweep (walk_at (halting_of terms (thinned (places t)) n) (pair_ways holds n (thinned (places t))) (pairs (length (thinned (places t))) terms.largest) (first_at (length (thinned (places t)))))
      (plan_of (thinned (places t)) n terms.more skip fits) n (stand_at 0 0 0) (as_kept (replicate (pairs (length (thinned (places t))) terms.largest) false) 0)

  sweeps_go : swept holds₂ n₂ terms₂
      ≡ and_then (halting_of terms₂ (thinned (places t)) n₂) (pair_ways holds₂ n₂ (thinned (places t))) (pairs (length (thinned (places t))) terms₂.largest) (first_at (length (thinned (places t))))
      (plan_of (thinned (places t)) n₂ terms₂.more skip fits) 0 0 (swept holds₁ n₁ terms₁)
  unfolding plan_of halting_of
  sweeps_go =
      let P : ℕ = length (places t) in
      let N : ℕ = pairs P terms₂.largest in
      let w₁ = halting_of terms₁ (places t) n₁ in
      let w₂ = halting_of terms₂ (places t) n₂ in
      let p₁ = plan_of (places t) n₁ terms₁.more skip fits in
      let v₁ : ℕ → Ways = λ x. thin (pair_ways holds₁ n₁ (places t) x) in
      let v₂ : ℕ → Ways = λ x. thin (pair_ways holds₂ n₂ (places t) x) in
      let e₁ : pair_ways holds₁ n₁ (thinned (places t)) ≡ v₁ = λ i x. thin-pairs holds₁ n₁ (places t) x i in
      let e₂ : pair_ways holds₂ n₂ (thinned (places t)) ≡ v₂ = λ i x. thin-pairs holds₂ n₂ (places t) x i in
      rw (plan-thin (places t) n₁ terms₁.more skip fits, plan-thin (places t) n₂ terms₂.more skip fits, halting_thin terms₁ (places t) n₁, halting_thin terms₂ (places t) n₂, e₁, e₂, thinned-length (places t), same)
      (search_onward w₁ w₂ v₁ v₂ (thin-sooner w₁ w₂ (pair_ways holds₁ n₁ (places t)) (pair_ways holds₂ n₂ (places t)) sooner) (rank t n₂) N
      (thin-falls (pair_ways holds₂ n₂ (places t)) (rank t n₂) N (falls-in t holds₂ n₂ terms₂.largest few)) N (top_in t holds₂ n₂ terms₂.largest few) (first_at P) p₁ n₂ terms₂.more le rest
      (λ i h. (starts_in_lem t holds₂ n₂ terms₂.largest few i h).0) (plan-on (places t) n₁ terms₁.more skip fits) n₂ 0 0 0 (as_kept (replicate N false) 0) (length-replicate N false) (omega arith)
      ∙ ap (and_then w₂ v₂ N (first_at P) (plan_of (places t) n₂ terms₂.more skip fits) 0 0)
      (sweep-enough (walk_at w₁ v₁ N (first_at P)) p₁ (plan-on (places t) n₁ terms₁.more skip fits) n₂ 0 0 0 (as_kept (replicate N false) 0) le))

  pub thin-goes : walk_search terms₂ (seek holds₂ n₂ (thinned (places t)) skip fits)
      ≡ and_then (halting_of terms₂ (thinned (places t)) n₂) (pair_ways holds₂ n₂ (thinned (places t))) (pairs (length (thinned (places t))) terms₂.largest) (first_at (length (thinned (places t))))
      (plan_of (thinned (places t)) n₂ terms₂.more skip fits) 0 0 (walk_search terms₁ (seek holds₁ n₁ (thinned (places t)) skip fits))
  unfolding walk_search
  thin-goes = sweeps_go

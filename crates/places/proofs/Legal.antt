-- A table that holds the places of a tree, with all values of their flags, can be walked: every
-- place leads to places, a rank falls along every way of their pairs, and it is below the number of
-- pairs.
use mathlib.Core.Path.{◌≡◌, refl, ap, sym, ◌∙◌}
use mathlib.Core.Bool.{Bool}
use mathlib.Core.List.{List, []}
use Prim.Native.Nat.{ℕ, zero, suc, ◌+◌, ◌*◌, ◌<◌}
use native.Mathlib.Nat.{not-suc-le-zero}
use native.Mathlib.Omega.{arith}
use lib.ListN.{length, get_or}
use Rattle.rules.specs.Language.{Tree, pattern}
use Rattle.rules.specs.Places.{Place, p_fork, unroll, places, places_of, factor_of}
use Rattle.rules.specs.Walk.{pairs, pair_ways}
use Rattle.laws.proofs.Bounds.{Bounds}
use Rattle.laws.proofs.Counting.{places-counted}
use Rattle.rules.specs.Working.{Falls, thinned}
use Rattle.laws.proofs.PatternWalk.{top}
use Rattle.laws.proofs.Rank.{rank}
use Rattle.laws.proofs.ThinPlaces.{Leads, thinned-leads, thinned-falls}
use Rattle.table.specs.Table.{place_at, places_from, places_in}

-- ---- the places of a table

module _ (T : List ℕ) where
  from-length : (m q : ℕ) → length (places_from T q m) ≡ m
  unfolding places_from
  from-length zero q = refl
  from-length (suc m) q = ap suc (from-length m (suc q))

  from_at : (m q i : ℕ) → i < m → get_or (places_from T q m) i (p_fork []) ≡ place_at T (q + i)
  unfolding places_from
  from_at zero q i h = absurd (not-suc-le-zero h)
  from_at (suc m) q zero h = let e : q + 0 ≡ q = omega arith in rw e
  from_at (suc m) q (suc i) h = let e : q + suc i ≡ suc q + i = omega arith in rw e (from_at m (suc q) i (omega arith))

  pub in_length : (P : ℕ) → length (places_in T P) ≡ P
  unfolding places_in
  in_length P = from-length P 0

  pub in_at : (P q : ℕ) → q < P → get_or (places_in T P) q (p_fork []) ≡ place_at T q
  unfolding places_in
  in_at P q h = let e : 0 + q ≡ q = omega arith in rw e at (from_at P 0 q h)

-- ---- the places of a tree

module _ (T : List ℕ) (P : ℕ) (t : Tree pattern) (count : P ≡ places_of t * factor_of t) (is : places_in T P ≡ thinned (places (unroll t)))
    (g : Bounds t) where
  all_count : length (places (unroll t)) ≡ P
  all_count = places-counted t g ∙ sym count

  pub placed_leads : (q : ℕ) → q < P → Leads P (place_at T q)
  placed_leads q h =
      let a : Leads (length (places (unroll t))) (get_or (thinned (places (unroll t))) q (p_fork [])) =
      thinned-leads (unroll t) q (omega (arith, all_count)) in
      let b : get_or (thinned (places (unroll t))) q (p_fork []) ≡ place_at T q =
      ap (λ (ps : List Place). get_or ps q (p_fork [])) (sym is) ∙ in_at T P q h in
      rw (← b, ← all_count) a

  module _ (holds : ℕ → ℕ → Bool) (n : ℕ) where
    pub placed_falls : Falls (pair_ways holds n (places_in T P)) (rank (unroll t) n) (pairs P n)
    placed_falls = rw (is, ← all_count) (thinned-falls (unroll t) holds n)

    pub placed_bound : (x : ℕ) → rank (unroll t) n x < pairs P n
    placed_bound x = rw (← all_count) (top (unroll t) holds n x)

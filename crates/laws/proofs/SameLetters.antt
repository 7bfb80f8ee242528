-- A search asks only of the letters A to Z that stand in its places whether they hold: two ways to
-- say so that agree on these give the same search.
use mathlib.Core.Path.{◌≡◌, refl, ap}
use mathlib.Core.Bool.{Bool, ◌&&◌}
use mathlib.Core.List.{List, []}
use Prim.Native.Nat.{ℕ, suc, ◌≤◌}
use lib.Dec.{ltb}
use lib.ListN.{length, get_or}
use Rattle.rules.specs.Places.{Place, p_letter, p_caret, p_dollar, p_fork, p_end}
use Rattle.rules.specs.Walk.{pass_if, pair_at, position_of, place_of, ways_at, pair_ways}
use Rattle.rules.specs.Search.{Skip, Terms, walk_search, seek}
use Rattle.laws.proofs.ThinPlaces.{Spelt}

module _ (holds holds' : ℕ → ℕ → Bool) (agree : (c : ℕ) → 65 ≤ c → c ≤ 90 → (i : ℕ) → holds c i ≡ holds' c i) (n : ℕ) where
  ways-agree : (P : ℕ) (p : Place) → Spelt p → (i : ℕ) → ways_at holds n P p i ≡ ways_at holds' n P p i
  unfolding ways_at
  ways-agree P (p_letter c k) s i = ap (λ (b : Bool). pass_if (ltb i n && b) (pair_at P (suc i) k)) (agree c s.0 s.1 i)
  ways-agree P (p_caret k) s i = refl
  ways-agree P (p_dollar k) s i = refl
  ways-agree P (p_fork ks) s i = refl
  ways-agree P p_end s i = refl

  pub search_agrees : (pl : List Place) → ((q : ℕ) → Spelt (get_or pl q (p_fork []))) → (terms : Terms) (skip : Skip) (fits : ℕ → ℕ → List ℕ → Bool)
      → walk_search terms (seek holds n pl skip fits) ≡ walk_search terms (seek holds' n pl skip fits)
  unfolding walk_search pair_ways
  search_agrees pl s terms skip fits =
      let e : pair_ways holds n pl ≡ pair_ways holds' n pl = λ i x. ways-agree (length pl) (get_or pl (place_of (length pl) x) (p_fork [])) (s (place_of (length pl) x)) (position_of (length pl) x) i in
      rw e

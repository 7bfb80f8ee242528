-- A whole pattern among its places: what a place with flags does at a position (`node-ways`,
-- `node-label`); the pattern begins at place 0 and END stands behind it, at which every path ends
-- and nothing is said. And plain backtracking, which with as many pairs to go through as there are
-- finds at a pair what its ways find (`plain-ways`).
use mathlib.Core.Path.{◌≡◌, refl, ◌∙◌}
use mathlib.Core.List.{[], ◌∷◌, List}
use mathlib.Core.Bool.{Bool}
use Prim.Native.Nat.{ℕ, ◌+◌, ◌<◌, ◌*◌, ◌^◌, ◌≤◌}
use native.Mathlib.Nat.{add-zero, le_trans}
use native.Mathlib.Omega.{arith}
use lib.ListN.{length, get_or}
use lib.Seq.{get_or_at}
use Rattle.rules.specs.Places.{Unrolled, u_letter, u_caret, u_dollar, u_empty, u_seq, u_alt, u_opt, u_star, size, start_of, code, p_fork, p_end, places, nest, state_at, Place, Flagged, flagged, flagged_places, spread}
use Rattle.rules.specs.Search.{labels, label_of}
use Rattle.rules.specs.Walk.{accept, pairs, pair_at, ways_at, pair_ways, plain, plain_by}
use Rattle.laws.proofs.PatternWalk.{falls, top}
use Rattle.laws.proofs.Plain.{plain_down}
use Rattle.laws.proofs.Rank.{At, code-length, rank, flagged-length, no_place, spread-length, spread_at, state_lt, factor_in}
use lib.Arith.{digits_div, digits_mod}
use lib.Pow.{pow_pos}

-- ---- a place with flags at a position

module _ (F : ℕ) (Q : List Flagged) (b φ d : ℕ) (p : ℕ → Place) (h : b < length Q) (v : φ < 2 ^ d) (w : 2 ^ d ≤ F) (e : get_or Q b no_place ≡ flagged d p) where
  abbrev small_flags : φ < F
  small_flags = le_trans v w

  pub state_below : state_at F b φ < length (spread F Q)
  state_below = rw (spread-length F Q) (state_lt F (length Q) b φ h small_flags)

  pub node-ways : (holds : ℕ → ℕ → Bool) (n i : ℕ) → pair_ways holds n (spread F Q) (pair_at (length (spread F Q)) i (state_at F b φ)) ≡ ways_at holds n (length (spread F Q)) (p φ) i
  unfolding pair_ways
  node-ways holds n i = rw (digits_div i state_below, digits_mod i state_below, spread_at F Q b φ d p (p_fork []) h small_flags v e)

  pub node-label : (i : ℕ) (xs : List ℕ) → labels (spread F Q) (pair_at (length (spread F Q)) i (state_at F b φ) ∷ xs) ≡ label_of (p φ) (labels (spread F Q) xs)
  unfolding labels
  node-label i xs = rw (digits_mod i state_below, spread_at F Q b φ d p (p_fork []) h small_flags v e)

-- ---- the first place and END

-- t begins at its first place
start_first : (F : ℕ) (t : Unrolled) (b φ : ℕ) → start_of F t b (state_at F (b + size t)) φ ≡ state_at F b φ
unfolding start_of size
start_first F (u_letter c) b φ = refl
start_first F u_caret b φ = refl
start_first F u_dollar b φ = refl
start_first F u_empty b φ = rw (add-zero b)
start_first F (u_seq x y) b φ =
    let e : b + (size x + size y) ≡ b + size x + size y = omega arith in
    let k : start_of F y (b + size x) (state_at F (b + size x + size y)) ≡ state_at F (b + size x) = λ i ψ. start_first F y (b + size x) ψ i in
    rw (e, k) (start_first F x b φ)
start_first F (u_alt ts) b φ = refl
start_first F (u_opt lazy t) b φ = refl
start_first F (u_star lazy t) b φ = refl

module _ (t : Unrolled) where
  pub whole : At (flagged_places (factor_in t) t) 0 (code (factor_in t) t 0 0 (state_at (factor_in t) (size t)))
  unfolding flagged_places
  whole = record { rest = flagged 0 (λ φ. p_end) ∷ []; is = refl }

  pub first-place : start_of (factor_in t) t 0 (state_at (factor_in t) (size t)) 0 ≡ 0
  first-place =
      let z : 0 + size t ≡ size t = omega arith in
      let y : 0 * factor_in t + 0 ≡ 0 = omega arith in
      (rw z at (start_first (factor_in t) t 0 0)) ∙ y

  pub small : size t < length (flagged_places (factor_in t) t)
  small = rw (flagged-length t) (omega arith)

  end-place : get_or (flagged_places (factor_in t) t) (size t) no_place ≡ flagged 0 (λ φ. p_end)
  unfolding flagged_places
  end-place = get_or_at (code (factor_in t) t 0 0 (state_at (factor_in t) (size t))) (flagged 0 (λ φ. p_end)) [] no_place (size t) (code-length (factor_in t) t 0 0 (state_at (factor_in t) (size t)))

  -- END is a pair's place
  pub end_below : state_at (factor_in t) (size t) 0 < length (places t)
  unfolding places
  end_below = state_below (factor_in t) (flagged_places (factor_in t) t) (size t) 0 0 (λ φ. p_end) small (omega arith) (pow_pos (nest t)) end-place

  module _ (holds : ℕ → ℕ → Bool) (n : ℕ) where
    pub ends_here : (j : ℕ) → pair_ways holds n (places t) (pair_at (length (places t)) j (state_at (factor_in t) (size t) 0)) ≡ accept
    unfolding ways_at places
    ends_here j = node-ways (factor_in t) (flagged_places (factor_in t) t) (size t) 0 0 (λ φ. p_end) small (omega arith) (pow_pos (nest t)) end-place holds n j

  pub end-says : (j : ℕ) → labels (places t) (pair_at (length (places t)) j (state_at (factor_in t) (size t) 0) ∷ []) ≡ []
  unfolding labels places
  end-says j = node-label (factor_in t) (flagged_places (factor_in t) t) (size t) 0 0 (λ φ. p_end) small (omega arith) (pow_pos (nest t)) end-place j []

  pub plain-ways : (holds : ℕ → ℕ → Bool) (n x : ℕ)
      → plain (pair_ways holds n (places t)) (pairs (length (places t)) n) x ≡ plain_by (pair_ways holds n (places t) x) (plain (pair_ways holds n (places t)) (pairs (length (places t)) n)) x
  plain-ways holds n x = plain_down (pair_ways holds n (places t)) (rank t n) (pairs (length (places t)) n) (falls t holds n) (pairs (length (places t)) n) (top t holds n) x

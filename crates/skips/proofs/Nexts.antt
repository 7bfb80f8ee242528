-- The first and the last row of a match with a letter, by the rules' recursions over its labels.
use Rattle.std.proofs.Common.{◌≡◌, ℕ, zero, suc, ◌+◌, ◌≤◌, ◌<◌, ◌≢◌, List, [], ◌∷◌, length, get_or, refl, sym, arith}
use Rattle.std.specs.Prelude.{MatchOption}
use Rattle.std.proofs.Math.Option as rules
use Rattle.std.proofs.lemmas.Grind.{common_steps}
use Rattle.std.specs.declared.option.Option.{Option}
use Rattle.std.specs.declared.option.Option.TheVariants.{Some, None}
use Rattle.rules.specs.Search.{first_with, last_with}
use Rattle.skips.specs.Skips.{start_in}

-- none of the labels from index i to below index j is the letter c
abbrev pub NoneIn : ℕ → List ℕ → ℕ → ℕ → Type 0
NoneIn c w i j = (k : ℕ) → i ≤ k → k < j → get_or w k 0 ≢ c

module _ (c : ℕ) where
  first_none : (w : List ℕ) → NoneIn c w 0 (length w) → first_with c w ≡ rules.none
  unfolding first_with
  first_none [] h = refl
  first_none (x ∷ w) h =
      let e = first_none w (λ k a b. h (suc k) (omega arith) (omega arith)) in
      let d : x ≢ c = h 0 (omega arith) (omega arith) in
      grind (arith, common_steps, e, d)

  first_found : (w : List ℕ) (i : ℕ) → i < length w → get_or w i 0 ≡ c → NoneIn c w 0 i → first_with c w ≡ rules.some i
  unfolding first_with
  first_found [] i l e h = absurd (omega arith)
  first_found (x ∷ w) zero l e h = grind (arith, common_steps)
  first_found (x ∷ w) (suc i) l e h =
      let f = first_found w i (omega arith) e (λ k a b. h (suc k) (omega arith) (omega arith)) in
      let d : x ≢ c = h 0 (omega arith) (omega arith) in
      grind (arith, common_steps, f, d)

  last_none : (w : List ℕ) → NoneIn c w 0 (length w) → last_with c w ≡ rules.none
  unfolding last_with
  last_none [] h = refl
  last_none (x ∷ w) h =
      let e = last_none w (λ k a b. h (suc k) (omega arith) (omega arith)) in
      let d : x ≢ c = h 0 (omega arith) (omega arith) in
      grind (arith, common_steps, e, d)

  last_found : (w : List ℕ) (i : ℕ) → i < length w → get_or w i 0 ≡ c → NoneIn c w (i + 1) (length w) → last_with c w ≡ rules.some i
  unfolding last_with
  last_found [] i l e h = absurd (omega arith)
  last_found (x ∷ w) zero l e h =
      let f = last_none w (λ k a b. h (suc k) (omega arith) (omega arith)) in
      grind (arith, common_steps, f)
  last_found (x ∷ w) (suc i) l e h =
      let f = last_found w i (omega arith) e (λ k a b. h (suc k) (omega arith) (omega arith)) in
      grind (arith, common_steps, f)

  module _ (w : List ℕ) where
    pub first_row : (o : Option ℕ) → MatchOption o (NoneIn c w 0 (length w)) (λ i. (i < length w) × (get_or w i 0 ≡ c) × NoneIn c w 0 i) → start_in o ≡ first_with c w
    first_row None h = sym (first_none w h)
    first_row (Some i) h = sym (first_found w i h.0 h.1 h.2)

    pub last_row : (o : Option ℕ) → MatchOption o (NoneIn c w 0 (length w)) (λ i. (i < length w) × (get_or w i 0 ≡ c) × NoneIn c w (i + 1) (length w)) → start_in o ≡ last_with c w
    last_row None h = sym (last_none w h)
    last_row (Some i) h = sym (last_found w i h.0 h.1 h.2)

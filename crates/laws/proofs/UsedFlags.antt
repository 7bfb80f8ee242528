-- R-3's pairs: the number of a pair, and that the unused bits of its flags are 0 in every pair that
-- fails (`unused_zero`), since no way leads to a pair with one of them set.
use mathlib.Core.Path.{◌≡◌, refl, ap, sym, ◌∙◌}
use mathlib.Core.List.{List, [], ◌∷◌, ◌++◌, map}
use mathlib.Core.Bool.{Bool, true, false, ◌&&◌}
use Prim.Native.Nat.{ℕ, zero, suc, ◌+◌, ◌-◌, ◌*◌, ◌/◌, ◌%◌, ◌^◌, ◌≤◌, ◌<◌, max}
use native.Mathlib.Nat.{le_trans, add-zero, mod-lt, mul_assoc}
use native.Mathlib.Omega.{arith}
use lib.ListN.{length, get_or, replicate}
use lib.Seq.{get_or_at}
use lib.Arith.{digits_div, digits_mod}
use lib.Pow.{pow_pos, ones_lt}
use lib.Dec.{ltb, eqb}
use borrow.Author.Tests.{ltb-true, ltb-false}
use Rattle.rules.specs.Basics.{pick}
use Rattle.rules.specs.Language.{deeper}
use Rattle.rules.specs.Places.{Unrolled, u_letter, u_caret, u_dollar, u_empty, u_seq, u_alt, u_opt, u_star, Branches, u_nil, u_cons, skips, nest, nests, full, state_at, size, sizes, start_of, starts_of, round_end, code, codes, ways_in_turn, Place, p_letter, p_caret, p_dollar, p_fork, p_end, Flagged, flagged, flagged_places, flags_at, with_flags, spread, places}
use Rattle.rules.specs.Search.{Skip, Terms, halting_of, plan_of, walk_search, seek}
use Rattle.rules.specs.Walk.{Ways, accept, try, pass_if, pairs, pair_at, first_at, ways_at, pair_ways, as_kept}
use Rattle.laws.proofs.EachStart.{Closed, search_new}
use Rattle.laws.proofs.Level.{nest-low, nest-here, nest-inner, wider}
use Rattle.laws.proofs.Lists.{get_d_tabulate}
use Rattle.laws.proofs.PatternWalk.{none_in}
use Rattle.laws.proofs.Rank.{At, at_left, at_right, at_head, at_tail, code-length, no_place, states, factor_in, some-state, flagged-length, places-length}
use Rattle.rules.specs.Working.{All, In}

-- A pair is (position times P plus place) times F plus flags.
pub pair-number : (P F position place flags : ℕ) → pair_at (P * F) position (state_at F place flags) ≡ (position * P + place) * F + flags
pair-number P F position place flags = let e : position * (P * F) ≡ position * P * F = sym (mul_assoc position P F) in rw e (omega arith)

-- ---- ways lead to places with the flags that they have

module _ (F : ℕ) (Q : List Flagged) where
  -- s is a place with flags, and no unused bit is set
  abbrev Used : ℕ → Type 0
  Used s = (q : ℕ) × (φ : ℕ) × (s ≡ state_at F q φ) × (q < length Q) × (φ < F) × (φ < 2 ^ (get_or Q q no_place).flags)

  abbrev Leads : ℕ → (ℕ → ℕ) → Type 0
  Leads d k = (φ : ℕ) → φ < 2 ^ d → Used (k φ)

  abbrev Uses : Place → Type 0
  Uses (p_letter c k) = Used k
  Uses (p_caret k) = Used k
  Uses (p_dollar k) = Used k
  Uses (p_fork ks) = All Used ks
  Uses p_end = Unit {0}

  abbrev AllUse : List Flagged → Type 0
  AllUse [] = Unit {0}
  AllUse (p ∷ ps) = ((φ : ℕ) → φ < 2 ^ p.flags → Uses (p.place φ)) × AllUse ps

  use_append : (ps qs : List Flagged) → AllUse ps → AllUse qs → AllUse (ps ++ qs)
  use_append [] qs a b = b
  use_append (p ∷ ps) qs a b = (a.0, use_append ps qs a.1 b)

  use_at : (ps : List Flagged) → AllUse ps → (q φ : ℕ) → φ < 2 ^ (get_or ps q no_place).flags → Uses ((get_or ps q no_place).place φ)
  use_at [] a q φ h = tt
  use_at (p ∷ ps) a zero φ h = a.0 φ h
  use_at (p ∷ ps) a (suc q) φ h = use_at ps a.1 q φ h

  -- a place that stands there
  place-used : (d b : ℕ) (p : ℕ → Place) → b < length Q → 2 ^ d ≤ F → get_or Q b no_place ≡ flagged d p → Leads d (state_at F b)
  place-used d b p h f e φ v = (b, φ, refl, h, le_trans v f, rw e v)

  start-used : (t : Unrolled) (d b : ℕ) (k : ℕ → ℕ) → At Q b (code F t d b k) → b + size t ≤ length Q → 2 ^ d ≤ F → Leads d k → Leads d (start_of F t b k)
  unfolding code start_of size
  start-used (u_letter c) d b k a h f l = place-used d b _ (omega arith) f (at_head Q b _ _ no_place a)
  start-used u_caret d b k a h f l = place-used d b _ (omega arith) f (at_head Q b _ _ no_place a)
  start-used u_dollar d b k a h f l = place-used d b _ (omega arith) f (at_head Q b _ _ no_place a)
  start-used u_empty d b k a h f l = l
  start-used (u_seq x y) d b k a h f l =
      start-used x d b (start_of F y (b + size x) k) (at_left Q b (code F x d b (start_of F y (b + size x) k)) (code F y d (b + size x) k) a) (omega arith) f
      (start-used y d (b + size x) k (rw (code-length F x d b (start_of F y (b + size x) k)) at (at_right Q b (code F x d b (start_of F y (b + size x) k)) (code F y d (b + size x) k) a)) (omega arith) f l)
  start-used (u_alt ts) d b k a h f l = place-used d b _ (omega arith) f (at_head Q b _ _ no_place a)
  start-used (u_opt lazy t) d b k a h f l = place-used d b _ (omega arith) f (at_head Q b _ _ no_place a)
  start-used (u_star lazy t) d b k a h f l = place-used d b _ (omega arith) f (at_head Q b _ _ no_place a)

  starts_used : (ts : Branches) (d b : ℕ) (k : ℕ → ℕ) → At Q b (codes F ts d b k) → b + sizes ts ≤ length Q → 2 ^ d ≤ F → Leads d k → (φ : ℕ) → φ < 2 ^ d → All Used (starts_of F ts b k φ)
  unfolding codes starts_of sizes
  starts_used u_nil d b k a h f l φ v = tt
  starts_used (u_cons t ts) d b k a h f l φ v = (
    start-used t d b k (at_left Q b (code F t d b k) (codes F ts d (b + size t) k) a) (omega arith) f l φ v,
    starts_used ts d (b + size t) k (rw (code-length F t d b k) at (at_right Q b (code F t d b k) (codes F ts d (b + size t) k) a)) (omega arith) f l φ v,
  )

  -- the end of a round
  round_used : (s : Bool) (d b : ℕ) (k : ℕ → ℕ) (p : ℕ → Place) → b < length Q → 2 ^ d ≤ F → get_or Q b no_place ≡ flagged d p → Leads d k → Leads (deeper s d) (round_end F s d b k)
  round_used false d b k p h f e l φ v = place-used d b p h f e φ v
  round_used true d b k p h f e l φ v = go (ltb φ (2 ^ d)) refl
    where
      go : (c : Bool) → ltb φ (2 ^ d) ≡ c → Used (pick c (k φ) (state_at F b (φ - 2 ^ d)))
      go true z = l φ (ltb-true φ (2 ^ d) z)
      go false z = let w : φ < 2 ^ suc d = v in place-used d b p h f e (φ - 2 ^ d) (omega (arith, ltb-false φ (2 ^ d) z, pow_pos d))

  in_turn : (lazy : Bool) (x y : ℕ) → Used x → Used y → All Used (ways_in_turn lazy x y)
  in_turn false x y a b = (a, (b, tt))
  in_turn true x y a b = (b, (a, tt))

  mutual
    unfolding code size nest

    code-used : (t : Unrolled) (d b : ℕ) (k : ℕ → ℕ) → At Q b (code F t d b k) → b + size t ≤ length Q → 2 ^ (d + nest t) ≤ F → Leads d k → AllUse (code F t d b k)
    code-used (u_letter c) d b k a h f l = (λ φ v. l (full d) (ones_lt d), tt)
    code-used u_caret d b k a h f l = (λ φ v. l φ v, tt)
    code-used u_dollar d b k a h f l = (λ φ v. l φ v, tt)
    code-used u_empty d b k a h f l = tt
    code-used (u_seq x y) d b k a h f l =
        let m : ℕ → ℕ = start_of F y (b + size x) k in
        let fx = nest-low F d (max (nest x) (nest y)) (nest x) f (omega arith) in
        let fy = nest-low F d (max (nest x) (nest y)) (nest y) f (omega arith) in
        let ay : At Q (b + size x) (code F y d (b + size x) k) = rw (code-length F x d b m) at (at_right Q b (code F x d b m) (code F y d (b + size x) k) a) in
        use_append (code F x d b m) (code F y d (b + size x) k)
        (code-used x d b m (at_left Q b (code F x d b m) (code F y d (b + size x) k) a) (omega arith) fx (start-used y d (b + size x) k ay (omega arith) (nest-here F d (nest y) fy) l))
        (code-used y d (b + size x) k ay (omega arith) fy l)
    code-used (u_alt ts) d b k a h f l =
        let a' = at_tail Q b _ _ a in
        (λ φ v. starts_used ts d (suc b) k a' (omega arith) (nest-here F d (nests ts) f) l φ v, codes-used ts d (suc b) k a' (omega arith) f l)
    code-used (u_opt lazy t) d b k a h f l =
        let a' = at_tail Q b _ _ a in (
          λ φ v. in_turn lazy (start_of F t (suc b) k φ) (k φ) (start-used t d (suc b) k a' (omega arith) (nest-here F d (nest t) f) l φ v) (l φ v),
          code-used t d (suc b) k a' (omega arith) f l,
        )
    code-used (u_star lazy t) d b k a h f l =
        let a' = at_tail Q b _ _ a in
        let f' = nest-inner F (skips t) d (nest t) f in
        let r = round_used (skips t) d b k _ (omega arith) (nest-here F d (deeper (skips t) (nest t)) f) (at_head Q b _ _ no_place a) l in (
          λ φ v. in_turn lazy (start_of F t (suc b) (round_end F (skips t) d b k) φ) (k φ)
              (start-used t (deeper (skips t) d) (suc b) (round_end F (skips t) d b k) a' (omega arith) (nest-here F (deeper (skips t) d) (nest t) f') r φ (wider (skips t) d φ v)) (l φ v),
          code-used t (deeper (skips t) d) (suc b) (round_end F (skips t) d b k) a' (omega arith) f' r,
        )

    codes-used : (ts : Branches) (d b : ℕ) (k : ℕ → ℕ) → At Q b (codes F ts d b k) → b + sizes ts ≤ length Q → 2 ^ (d + nests ts) ≤ F → Leads d k → AllUse (codes F ts d b k)
    codes-used u_nil d b k a h f l = tt
    codes-used (u_cons t ts) d b k a h f l =
        use_append (code F t d b k) (codes F ts d (b + size t) k)
        (code-used t d b k (at_left Q b (code F t d b k) (codes F ts d (b + size t) k) a) (omega arith) (nest-low F d (max (nest t) (nests ts)) (nest t) f (omega arith)) l)
        (codes-used ts d (b + size t) k (rw (code-length F t d b k) at (at_right Q b (code F t d b k) (codes F ts d (b + size t) k) a)) (omega arith)
        (nest-low F d (max (nest t) (nests ts)) (nests ts) f (omega arith)) l)

-- ---- the whole pattern

module _ (t : Unrolled) where
  abbrev F : ℕ
  F = factor_in t

  abbrev Q : List Flagged
  Q = flagged_places F t

  all_used : AllUse F Q Q
  unfolding flagged_places
  all_used =
      let e : 0 + nest t ≡ nest t = omega arith in
      use_append F Q (code F t 0 0 (state_at F (size t))) (flagged 0 (λ φ. p_end) ∷ [])
      (code-used F Q t 0 0 (state_at F (size t)) (record { rest = flagged 0 (λ φ. p_end) ∷ []; is = refl }) (omega (arith, flagged-length t)) (rw e (omega arith))
      (place-used F Q 0 (size t) (λ φ. p_end) (rw (flagged-length t) (omega arith)) (pow_pos (nest t)) end)) (λ φ v. tt, tt)
    where
      end : get_or (flagged_places (factor_in t) t) (size t) no_place ≡ flagged 0 (λ φ. p_end)
      end = get_or_at (code (factor_in t) t 0 0 (state_at (factor_in t) (size t))) (flagged 0 (λ φ. p_end)) [] no_place (size t) (code-length (factor_in t) t 0 0 (state_at (factor_in t) (size t)))

  place-uses : (s : ℕ) → s < states t → Uses F Q (get_or (places t) s (p_fork []))
  unfolding places spread
  place-uses s h =
      let e : get_or (places t) s (p_fork []) ≡ with_flags (get_or Q (s / F) no_place) (s % F) =
      get_d_tabulate (length Q * F) (λ s. with_flags (get_or Q (s / F) no_place) (s % F)) s (p_fork []) (rw (flagged-length t) h) in
      rw e (go (get_or Q (s / F) no_place) (use_at F Q Q all_used (s / F) (s % F)) (ltb (s % F) (2 ^ (get_or Q (s / F) no_place).flags)) refl)
    where
      go : (p : Flagged) → (s % F < 2 ^ p.flags → Uses F Q (p.place (s % F))) → (c : Bool) → ltb (s % F) (2 ^ p.flags) ≡ c → Uses F Q (pick c (p.place (s % F)) p_end)
      go p a true z = a (ltb-true (s % F) (2 ^ p.flags) z)
      go p a false z = tt

  -- the unused bits of a pair's flags are 0
  abbrev pub Unused : ℕ → Type 0
  Unused x = x % 2 ^ nest t < 2 ^ flags_at t (x / 2 ^ nest t % suc (size t))

  pair-unused : (i s : ℕ) → Used F Q s → Unused (i * states t + s)
  unfolding flags_at
  pair-unused i s u =
      let q = u.0 in
      let φ = u.1 in
      let l : q < suc (size t) = rw (flagged-length t) at u.3 in
      let e : i * states t + s ≡ (i * suc (size t) + q) * F + φ = ap (λ (x : ℕ). i * states t + x) u.2 ∙ pair-number (suc (size t)) F i q φ in
      rw (e, digits_mod (i * suc (size t) + q) u.4, digits_div (i * suc (size t) + q) u.4, digits_mod i l) u.5

  abbrev AllUnused : Ways → Type 0
  AllUnused accept = Unit {0}
  AllUnused (try ys) = All Unused ys

  pass_unused : (j k : ℕ) → Used F Q k → (c : Bool) → AllUnused (pass_if c (j * states t + k))
  pass_unused j k u true = (pair-unused j k u, tt)
  pass_unused j k u false = tt

  fork-unused : (i : ℕ) (ks : List ℕ) → All (Used F Q) ks → AllUnused (try (map (λ k. i * states t + k) ks))
  fork-unused i [] a = tt
  fork-unused i (k ∷ ks) a = (pair-unused i k a.0, fork-unused i ks a.1)

  at-unused : (holds : ℕ → ℕ → Bool) (n i : ℕ) (p : Place) → Uses F Q p → AllUnused (ways_at holds n (states t) p i)
  unfolding ways_at
  at-unused holds n i (p_letter c k) u = pass_unused (suc i) k u (ltb i n && holds c i)
  at-unused holds n i (p_caret k) u = pass_unused i k u (eqb i 0)
  at-unused holds n i (p_dollar k) u = pass_unused i k u (eqb i n)
  at-unused holds n i (p_fork ks) u = fork-unused i ks u
  at-unused holds n i p_end u = tt

  ways-unused : (holds : ℕ → ℕ → Bool) (n : ℕ) → Closed (pair_ways holds n (places t)) Unused
  unfolding pair_ways
  ways-unused holds n x ys e _ =
      let S : ℕ = states t in
      rw (rw (places-length t) at e) at (at-unused holds n (x / S) (get_or (places t) (x % S) (p_fork [])) (place-uses (x % S) (mod-lt x (some-state t))))

  first-unused : (i : ℕ) → Unused (first_at (length (places t)) i)
  first-unused i =
      let e : first_at (length (places t)) i ≡ i * suc (size t) * F + 0 = ap (λ (x : ℕ). i * x) (places-length t) ∙ sym (mul_assoc i (suc (size t)) F) ∙ sym (add-zero (i * suc (size t) * F)) in
      rw (e, digits_mod (i * suc (size t)) (pow_pos (nest t))) (pow_pos _)

  -- only pairs whose unused bits are 0 are kept as failed, on any terms
  pub unused_zero : (terms : Terms) (holds : ℕ → ℕ → Bool) (n : ℕ) (skip : Skip) (fits : ℕ → ℕ → List ℕ → Bool) (x : ℕ) → In (walk_search terms (seek holds n (places t) skip fits)).state.failed x → Unused x
  unfolding walk_search
  unused_zero terms holds n skip fits =
      let N : ℕ = pairs (length (places t)) terms.largest in
      search_new Unused (halting_of terms (places t) n) (pair_ways holds n (places t)) (ways-unused holds n) N (first_at (length (places t))) first-unused (plan_of (places t) n terms.more skip fits) n 0 0 0
      (as_kept (replicate N false) 0) (λ z i. absurd (none_in N z i))

-- The places of a plane are those of the definitions with its flags (`plane-whole`): an induction
-- on the unrolled pattern, in which what is behind a part, told for one value of the flags and for
-- all flags set, stands for a place for each value (`Matches`).
use mathlib.Core.Path.{◌≡◌, refl, sym, ap, ap₂, ◌∙◌}
use mathlib.Core.Bool.{Bool, true, false, ◌&&◌, true≢false}
use mathlib.Core.List.{List, [], ◌∷◌, ◌++◌, map}
use Prim.Native.Nat.{ℕ, zero, suc, ◌+◌, ◌-◌, ◌*◌, ◌/◌, ◌%◌, ◌^◌, ◌≤◌, ◌<◌, max}
use native.Mathlib.Nat.{le_trans, not-suc-le-zero}
use native.Mathlib.Omega.{arith}
use lib.Arith.{digits_div, digits_mod}
use lib.Dec.{eqb, ltb}
use lib.ListN.{length, get_or}
use lib.Pow.{pow_pos, pow_mono}
use borrow.Author.Tests.{eq-eqb, ne_eqb, lt-ltb, le-ltb, ltb-true, le-leb}
use Rattle.rules.specs.Basics.{pick}
use Rattle.rules.specs.Language.{deeper}
use Rattle.rules.specs.Places.{Unrolled, u_letter, u_caret, u_dollar, u_empty, u_seq, u_alt, u_opt, u_star, Branches, u_nil, u_cons, skips, nest, nests, full, state_at, size, start_of, starts_of, round_end, code, codes, ways_in_turn, Place, p_letter, p_caret, p_dollar, p_fork, p_end, Flagged, flagged, with_flags, flagged_places, places, spread}
use Rattle.laws.proofs.Distinct.{thinned-append, thinned-at}
use Rattle.laws.proofs.Level.{wider}
use Rattle.laws.proofs.Lists.{get_d_tabulate}
use Rattle.laws.proofs.Rank.{no_place, flagged-length, state_lt}
use Rattle.rules.specs.Working.{thin_place, thinned}
use Rattle.laws.proofs.SameBehind.{start_is}
use Rattle.place_codes.specs.Planes.{slot, behind, state_by, start_by, round_by}
use Rattle.place_codes.specs.declared.Plane.{Plane}
use Rattle.place_codes.specs.declared.Behind.{Behind}
use Rattle.place_codes.proofs.CodeLaws.{start-entry}
use Rattle.forks.specs.PlaneCode.{used, flags_copy, starts_in, plane_of, planes_of}

-- a part of no places begins where it ends
same_test : (b s : ℕ) → eqb b (b + s) ≡ eqb s 0
same_test b zero = eq-eqb b (b + 0) (omega arith)
same_test b (suc s) = ne_eqb b (b + suc s) (λ e. omega arith) ∙ sym (ne_eqb (suc s) 0 (λ e. omega arith))

module _ (o : Plane) where
  -- what is behind a part with d flags, by the definitions and in the plane
  record Matches (d : ℕ) (k : Behind) (f : ℕ → ℕ) : Type 0 where
    values : k.values ≡ 2 ^ d
    here : o.flags < 2 ^ d → k.here ≡ f o.flags
    set : k.set ≡ f (full d)

  state_matches : (d b : ℕ) (k : Behind) → k.values ≡ 2 ^ d → Matches d (state_by o k.values b) (state_at o.factor b)
  unfolding state_by slot
  state_matches d b k e = record { values = e; here = λ l. refl; set = ap (λ (v : ℕ). state_at o.factor b (v - 1)) e }

  pick-matches : (c : Bool) (d b : ℕ) (k : Behind) (f : ℕ → ℕ) → Matches d k f → Matches d (pick c k (state_by o k.values b)) (λ x. pick c (f x) (state_at o.factor b x))
  pick-matches true d b k f m = m
  pick-matches false d b k f m = state_matches d b k m.values

  start-matches : (t : Unrolled) (d b : ℕ) (k : Behind) (f : ℕ → ℕ) → Matches d k f → Matches d (start_by o b (b + size t) k) (start_of o.factor t b f)
  unfolding start_by
  start-matches t d b k f m =
      let e : start_of o.factor t b f ≡ (λ x. pick (eqb (size t) 0) (f x) (state_at o.factor b x)) = λ i x. start_is o.factor t b f x i in
      rw (e, same_test b (size t)) (pick-matches (eqb (size t) 0) d b k f m)

  round_matches : (s c : Bool) (d b : ℕ) (k : Behind) (f : ℕ → ℕ) → s ≡ c → (s ≡ true → 2 ^ d ≤ 4) → Matches d k f → Matches (deeper s d) (round_by o c b k) (round_end o.factor s d b f)
  unfolding round_by
  round_matches false false d b k f e l m = state_matches d b k m.values
  round_matches false true d b k f e l m = absurd (true≢false (sym e))
  round_matches true false d b k f e l m = absurd (true≢false e)
  round_matches true true d b k f e l m =
      let h : 2 ^ d ≤ 4 = l refl in
      let one : 1 ≤ 2 ^ d = pow_pos d in
      record {
        values = rw (m.values, le-leb (2 ^ d) 4 h) (let z : 2 ^ d + 2 ^ d ≡ 2 ^ suc d = omega arith in z);
        here = λ z. by (ltb o.flags (2 ^ d)) refl;
        set = let y : ltb (2 ^ suc d - 1) (2 ^ d) ≡ false = le-ltb (2 ^ suc d - 1) (2 ^ d) (omega arith) in rw (m.values, y) (ap (state_at o.factor b) (let z : 2 ^ d - 1 ≡ 2 ^ suc d - 1 - 2 ^ d = omega arith in z));
      }
    where
      by : (c : Bool) → ltb o.flags (2 ^ d) ≡ c
          → pick (ltb o.flags k.values) k.here (state_at o.factor b (o.flags - k.values)) ≡ pick (ltb o.flags (2 ^ d)) (f o.flags) (state_at o.factor b (o.flags - 2 ^ d))
      by true z = rw (m.values, z) (m.here (ltb-true o.flags (2 ^ d) z))
      by false z = rw (m.values, z)

  -- one place
  place_is : (d : ℕ) (k : Behind) (f : ℕ → ℕ) (p : Place) (g : ℕ → Place) → Matches d k f → (o.flags < 2 ^ d → p ≡ g o.flags) → used o k p ≡ with_flags (flagged d g) o.flags
  unfolding used
  place_is d k f p g m h = rw m.values (by (ltb o.flags (2 ^ d)) refl)
    where
      by : (c : Bool) → ltb o.flags (2 ^ d) ≡ c → pick c p p_end ≡ pick c (g o.flags) p_end
      by true e = h (ltb-true o.flags (2 ^ d) e)
      by false e = refl

  starts_are : (ts : Branches) (d b : ℕ) (k : Behind) (f : ℕ → ℕ) → Matches d k f → o.flags < 2 ^ d → starts_in o ts b k.here ≡ starts_of o.factor ts b f o.flags
  unfolding starts_in starts_of
  starts_are u_nil d b k f m l = refl
  starts_are (u_cons t ts) d b k f m l =
      ap₂ ◌∷◌ (sym (start-entry o b (b + size t) k) ∙ (start-matches t d b k f m).here l) (starts_are ts d (b + size t) k f m l)

  -- how deep the flags are nested, within F
  Deep : ℕ → ℕ → Type 0
  Deep d n = 2 ^ (d + n) ≤ o.factor

  deep-le : (d n n' : ℕ) → n' ≤ n → Deep d n → Deep d n'
  unfolding Deep
  deep-le d n n' h g = le_trans (pow_mono (let z : d + n' ≤ d + n = omega arith in z)) g

  flag_is : (t : Unrolled) (d : ℕ) → Deep d (deeper (skips t) (nest t)) → (skips t ≡ flags_copy o.factor t) × (skips t ≡ true → 2 ^ d ≤ 4) × Deep (deeper (skips t) d) (nest t)
  unfolding flags_copy Deep
  flag_is t d g = go (skips t) g
    where
      go : (s : Bool) → 2 ^ (d + deeper s (nest t)) ≤ o.factor → (s ≡ (ltb 1 o.factor && s)) × (s ≡ true → 2 ^ d ≤ 4) × (2 ^ (deeper s d + nest t) ≤ o.factor)
      go false h = (sym (no-and (ltb 1 o.factor)), λ e. absurd (true≢false (sym e)), h)
        where
          no-and : (a : Bool) → (a && false) ≡ false
          no-and true = refl
          no-and false = refl
      go true h =
          let e : d + suc (nest t) ≡ suc d + nest t = omega arith in
          let h2 : 2 ^ (suc d + nest t) ≤ o.factor = rw (← e) h in
          let a : 2 ^ suc d ≤ 2 ^ (suc d + nest t) = pow_mono (let z : suc d ≤ suc d + nest t = omega arith in z) in
          let one : 1 ≤ 2 ^ d = pow_pos d in
          (rw (lt-ltb 1 o.factor (omega arith)) refl, λ z. omega (arith, o.few), h2)

  abbrev shown : Flagged → Place
  shown p = with_flags p o.flags

  map-append : (xs ys : List Flagged) → map shown (xs ++ ys) ≡ map shown xs ++ map shown ys
  map-append [] ys = refl
  map-append (x ∷ xs) ys = ap (λ (l : List Place). shown x ∷ l) (map-append xs ys)

  mutual
    unfolding plane_of code nest

    plane-is : (t : Unrolled) (d b : ℕ) (k : Behind) (f : ℕ → ℕ) → Deep d (nest t) → Matches d k f → plane_of o t b k ≡ map shown (code o.factor t d b f)
    plane-is (u_letter c) d b k f g m = ap (λ (p : Place). p ∷ []) (place_is d k f (p_letter c k.set) (λ x. p_letter c (f (full d))) m (λ l. ap (p_letter c) m.set))
    plane-is u_caret d b k f g m = ap (λ (p : Place). p ∷ []) (place_is d k f (p_caret k.here) (λ x. p_caret (f x)) m (λ l. ap p_caret (m.here l)))
    plane-is u_dollar d b k f g m = ap (λ (p : Place). p ∷ []) (place_is d k f (p_dollar k.here) (λ x. p_dollar (f x)) m (λ l. ap p_dollar (m.here l)))
    plane-is u_empty d b k f g m = refl
    plane-is (u_seq x y) d b k f g m =
        ap₂ ◌++◌
        (plane-is x d b (start_by o (b + size x) (b + size x + size y) k) (start_of o.factor y (b + size x) f) (deep-le d (max (nest x) (nest y)) (nest x) (omega arith) g) (start-matches y d (b + size x) k f m))
        (plane-is y d (b + size x) k f (deep-le d (max (nest x) (nest y)) (nest y) (omega arith) g) m)
        ∙ sym (map-append (code o.factor x d b (start_of o.factor y (b + size x) f)) (code o.factor y d (b + size x) f))
    plane-is (u_alt ts) d b k f g m =
        ap₂ ◌∷◌ (place_is d k f (p_fork (starts_in o ts (suc b) k.here)) (λ x. p_fork (starts_of o.factor ts (suc b) f x)) m (λ l. ap p_fork (starts_are ts d (suc b) k f m l)))
        (planes_are ts d (suc b) k f g m)
    plane-is (u_opt lazy t) d b k f g m =
        ap₂ ◌∷◌
        (place_is d k f (p_fork (ways_in_turn lazy (start_by o (suc b) (suc b + size t) k).here k.here)) (λ x. p_fork (ways_in_turn lazy (start_of o.factor t (suc b) f x) (f x))) m
        (λ l. ap₂ (λ (x y : ℕ). p_fork (ways_in_turn lazy x y)) ((start-matches t d (suc b) k f m).here l) (m.here l)))
        (plane-is t d (suc b) k f g m)
    plane-is (u_star lazy t) d b k f g m =
        let z = flag_is t d g in
        let r : Matches (deeper (skips t) d) (round_by o (flags_copy o.factor t) b k) (round_end o.factor (skips t) d b f) = round_matches (skips t) (flags_copy o.factor t) d b k f z.0 z.1 m in
        ap₂ ◌∷◌
        (place_is d k f (p_fork (ways_in_turn lazy (start_by o (suc b) (suc b + size t) (round_by o (flags_copy o.factor t) b k)).here k.here))
        (λ x. p_fork (ways_in_turn lazy (start_of o.factor t (suc b) (round_end o.factor (skips t) d b f) x) (f x))) m
        (λ l. ap₂ (λ (x y : ℕ). p_fork (ways_in_turn lazy x y))
        ((start-matches t (deeper (skips t) d) (suc b) (round_by o (flags_copy o.factor t) b k) (round_end o.factor (skips t) d b f) r).here (wider (skips t) d o.flags l)) (m.here l)))
        (plane-is t (deeper (skips t) d) (suc b) (round_by o (flags_copy o.factor t) b k) (round_end o.factor (skips t) d b f) z.2 r)

    planes_are : (ts : Branches) (d b : ℕ) (k : Behind) (f : ℕ → ℕ) → Deep d (nests ts) → Matches d k f → planes_of o ts b k ≡ map shown (codes o.factor ts d b f)
    planes_are u_nil d b k f g m = refl
    planes_are (u_cons t ts) d b k f g m =
        ap₂ ◌++◌ (plane-is t d b k f (deep-le d (max (nest t) (nests ts)) (nest t) (omega arith) g) m) (planes_are ts d (b + size t) k f (deep-le d (max (nest t) (nests ts)) (nests ts) (omega arith) g) m)
        ∙ sym (map-append (code o.factor t d b f) (codes o.factor ts d (b + size t) f))

  -- all places of a pattern, END last
  pub plane-whole : (t : Unrolled) → o.factor ≡ 2 ^ nest t → plane_of o t 0 (state_by o 1 (size t)) ++ (p_end ∷ []) ≡ map shown (flagged_places o.factor t)
  unfolding flagged_places Deep
  plane-whole t e =
      let m : Matches 0 (state_by o 1 (size t)) (state_at o.factor (size t)) = state_matches 0 (size t) (behind 1 0 0) refl in
      let g : 2 ^ (0 + nest t) ≤ o.factor = let z : 0 + nest t ≡ nest t = omega arith in rw (z, ← e) (omega arith) in
      ap₂ ◌++◌ (plane-is t 0 0 (state_by o 1 (size t)) (state_at o.factor (size t)) g m) (ap (λ (p : Place). p ∷ []) (sym (either (ltb o.flags (2 ^ 0)))))
      ∙ sym (map-append (code o.factor t 0 0 (state_at o.factor (size t))) (flagged 0 (λ x. p_end) ∷ []))
    where
      either : (c : Bool) → pick c p_end p_end ≡ p_end
      either true = refl
      either false = refl

-- ---- entry by entry

map_at : (o : Plane) (fs : List Flagged) (q : ℕ) → q < length fs → get_or (map (shown o) fs) q (p_fork []) ≡ shown o (get_or fs q no_place)
map_at o [] q h = absurd (not-suc-le-zero h)
map_at o (f ∷ fs) zero h = refl
map_at o (f ∷ fs) (suc q) h = map_at o fs q (omega arith)

-- a place with the flags of a plane is the entry of the plane
pub plane-at : (o : Plane) (t : Unrolled) → o.factor ≡ 2 ^ nest t → (q : ℕ) → q < suc (size t)
    → get_or (thinned (plane_of o t 0 (state_by o 1 (size t))) ++ (p_end ∷ [])) q (p_fork []) ≡ get_or (thinned (places t)) (slot o q) (p_fork [])
unfolding places spread slot thinned thin_place
plane-at o t e q h =
    let F : ℕ = o.factor in
    let Q : List Flagged = flagged_places F t in
    let n : length Q ≡ suc (size t) = rw (e, flagged-length t) in
    let a : thinned (plane_of o t 0 (state_by o 1 (size t))) ++ (p_end ∷ []) ≡ thinned (map (shown o) Q) =
    sym (thinned-append (plane_of o t 0 (state_by o 1 (size t))) (p_end ∷ [])) ∙ ap thinned (plane-whole o t e) in
    let b : get_or (places t) (slot o q) (p_fork []) ≡ shown o (get_or Q q no_place) =
    rw (← e) (get_d_tabulate (length Q * F) (λ s. with_flags (get_or Q (s / F) no_place) (s % F)) (slot o q) (p_fork []) (rw n (state_lt F (suc (size t)) q o.flags h o.flag)) ∙ rw (digits_div q o.flag, digits_mod q o.flag)) in
    ap (λ (ps : List Place). get_or ps q (p_fork [])) a ∙ thinned-at (map (shown o) Q) q ∙ ap thin_place (map_at o Q q (rw n h) ∙ sym b) ∙ sym (thinned-at (places t) (slot o q))

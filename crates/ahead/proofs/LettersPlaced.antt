-- Each letter of a pattern stands at some place, and so does its `$`: what is true of the letter of
-- every place is true of every letter of the pattern, and where no place is for a `$` the pattern
-- has none. The converse of `places-pass` (crates/laws, PlaceLetters). It rests on the bounds of
-- quantifiers, as a factor with the upper bound 0 would have no place.
use mathlib.Core.Path.{◌≡◌, refl}
use mathlib.Core.Bool.{Bool, true, false}
use mathlib.Core.List.{List, [], ◌∷◌, ◌++◌}
use Prim.Native.Nat.{ℕ, zero, suc, ◌+◌, ◌-◌, ◌*◌, ◌^◌, ◌≤◌, ◌<◌}
use native.Mathlib.Omega.{arith}
use native.Mathlib.Nat.{mul-le-mul}
use lib.ListN.{get_or, length}
use lib.Pow.{pow_pos}
use Rattle.rules.specs.Basics.{every}
use Rattle.rules.specs.Language.{Form, star, plus, opt, exactly, at_least, at_most, between, lower, upper, InBounds, Rank, pattern, branch, factor, primary, Tree, one, more, last, next, bare, times, letter, caret, dollar, empty, group, letters, has_dollar, deeper}
use Rattle.rules.specs.Places.{Unrolled, u_letter, u_caret, u_dollar, u_empty, u_seq, u_alt, u_opt, u_star, Branches, u_nil, u_cons, copies, options, behind, repeated, UnrolledAt, forked, unrolled, unroll, size, start_of, code, codes, p_fork, p_end, places, skips, nest, state_at, round_end, Flagged, flagged, flagged_places, spread}
use Rattle.laws.proofs.Bounds.{Bounds}
use Rattle.laws.proofs.Counting.{forked-more}
use Rattle.laws.proofs.Level.{and-true}
use Rattle.laws.proofs.PlaceLetters.{Passes}
use Rattle.laws.proofs.Rank.{no_place, spread-length, spread_at}

every-join : (f : ℕ → Bool) (xs ys : List ℕ) → every f xs ≡ true → every f ys ≡ true → every f (xs ++ ys) ≡ true
unfolding every
every-join f [] ys a b = b
every-join f (x ∷ xs) ys a b = let c = and-true (f x) (every f xs) a in rw c.0 (every-join f xs ys c.1 b)

module _ (f : ℕ → Bool) where
  -- every letter of an unrolled part passes the test, and it has no `$`
  unfoldable mutual
    PassesIn : Unrolled → Type 0
    PassesIn (u_letter c) = f c ≡ true
    PassesIn u_caret = Unit {0}
    PassesIn u_dollar = ⊥
    PassesIn u_empty = Unit {0}
    PassesIn (u_seq a b) = PassesIn a × PassesIn b
    PassesIn (u_alt ts) = PassesAll ts
    PassesIn (u_opt lazy t) = PassesIn t
    PassesIn (u_star lazy t) = PassesIn t

    PassesAll : Branches → Type 0
    PassesAll u_nil = Unit {0}
    PassesAll (u_cons t ts) = PassesIn t × PassesAll ts

  -- ---- from the places to the unrolled pattern

  -- every place of a list passes where none of its flags is set
  abbrev Each : List Flagged → Type 0
  Each [] = Unit {0}
  Each (p ∷ ps) = Passes f (p.place 0) × Each ps

  each-parts : (ps qs : List Flagged) → Each (ps ++ qs) → Each ps × Each qs
  each-parts [] qs a = (tt, a)
  each-parts (p ∷ ps) qs a = let b = each-parts ps qs a.1 in ((a.0, b.0), b.1)

  each_from : (ps : List Flagged) → ((q : ℕ) → q < length ps → Passes f ((get_or ps q no_place).place 0)) → Each ps
  each_from [] h = tt
  each_from (p ∷ ps) h = (h 0 (omega arith), each_from ps (λ q l. h (suc q) (omega arith)))

  mutual
    unfolding PassesIn code

    code-back : (F : ℕ) (t : Unrolled) (d b : ℕ) (k : ℕ → ℕ) → Each (code F t d b k) → PassesIn t
    code-back F (u_letter c) d b k s = s.0
    code-back F u_caret d b k s = tt
    code-back F u_dollar d b k s = s.0
    code-back F u_empty d b k s = tt
    code-back F (u_seq x y) d b k s =
        let a = each-parts (code F x d b (start_of F y (b + size x) k)) (code F y d (b + size x) k) s in
        (code-back F x d b (start_of F y (b + size x) k) a.0, code-back F y d (b + size x) k a.1)
    code-back F (u_alt ts) d b k s = codes-back F ts d (suc b) k s.1
    code-back F (u_opt lazy t) d b k s = code-back F t d (suc b) k s.1
    code-back F (u_star lazy t) d b k s = code-back F t (deeper (skips t) d) (suc b) (round_end F (skips t) d b k) s.1

    codes-back : (F : ℕ) (ts : Branches) (d b : ℕ) (k : ℕ → ℕ) → Each (codes F ts d b k) → PassesAll ts
    codes-back F u_nil d b k s = tt
    codes-back F (u_cons t ts) d b k s =
        let a = each-parts (code F t d b k) (codes F ts d (b + size t) k) s in
        (code-back F t d b k a.0, codes-back F ts d (b + size t) k a.1)

  -- a place stands among those with flags, at the value 0 of its flags
  spread-back : (F : ℕ) (ps : List Flagged) → 0 < F → ((s : ℕ) → s < length (spread F ps) → Passes f (get_or (spread F ps) s (p_fork []))) → Each ps
  spread-back F ps g h =
      each_from ps λ q l.
      let e : get_or (spread F ps) (state_at F q 0) (p_fork []) ≡ (get_or ps q no_place).place 0 =
      spread_at F ps q 0 (get_or ps q no_place).flags (get_or ps q no_place).place (p_fork []) l g (pow_pos (get_or ps q no_place).flags) refl in
      rw e at (h (state_at F q 0) (rw (spread-length F ps) (inside q l)))
    where
      inside : (q : ℕ) → q < length ps → q * F + 0 < length ps * F
      inside q l = let a : (q + 1) * F ≤ length ps * F = mul-le-mul {n₁ = q + 1} {m₁ = F} {n₂ = length ps} {m₂ = F} (omega arith) (omega arith) in omega arith

  -- ---- from the unrolled pattern to the tree

  first-copy : (m : ℕ) (t r : Unrolled) → 1 ≤ m → PassesIn (copies m t r) → PassesIn t
  unfolding copies PassesIn
  first-copy zero t r h a = absurd (omega arith)
  first-copy (suc m) t r h a = a.0

  first-option : (m : ℕ) (lazy : Bool) (t : Unrolled) → 1 ≤ m → PassesIn (options m lazy t) → PassesIn t
  unfolding options PassesIn
  first-option zero lazy t h a = absurd (omega arith)
  first-option (suc m) lazy t h a = a.0

  behind-copies : (m : ℕ) (t r : Unrolled) → PassesIn (copies m t r) → PassesIn r
  unfolding copies PassesIn
  behind-copies zero t r a = a
  behind-copies (suc m) t r a = behind-copies m t r a.1

  -- a repetition has some copy of its body
  some-round : (q : Form) (lazy : Bool) (t : Unrolled) → InBounds q → PassesIn (repeated q lazy t) → PassesIn t
  unfolding repeated copies behind lower upper InBounds PassesIn
  some-round star lazy t h a = a
  some-round plus lazy t h a = a.0
  some-round opt lazy t h a = first-option (1 - 0) lazy t (omega arith) a
  some-round (exactly n) lazy t h a = first-copy n t (options (n - n) lazy t) h.0 a
  some-round (at_least n) lazy t h a = behind-copies n t (u_star lazy t) a
  some-round (at_most m) lazy t h a = first-option (m - 0) lazy t (omega arith) a
  some-round (between zero m) lazy t h a = first-option (m - 0) lazy t (omega arith) a
  some-round (between (suc n) m) lazy t h a = a.0

  abbrev PassesAt : (k : Rank) → UnrolledAt k → Type 0
  PassesAt pattern ts = PassesAll ts
  PassesAt branch t = PassesIn t
  PassesAt factor t = PassesIn t
  PassesAt primary t = PassesIn t

  forked-back : (p : Tree pattern) → PassesIn (forked (unrolled p)) → PassesAll (unrolled p)
  unfolding unrolled forked PassesIn
  forked-back (one b) s = (s, tt)
  forked-back (more b p) s = rw (forked-more b p) at s

  unrolled-back : {k : Rank} (t : Tree k) → Bounds t → PassesAt k (unrolled t) → (every f (letters t) ≡ true) × (has_dollar t ≡ false)
  unfolding letters has_dollar unrolled PassesIn every Bounds
  unrolled-back (one b) g s = unrolled-back b g s.0
  unrolled-back (more b p) g s =
      let x = unrolled-back b g.0 s.0 in
      let y = unrolled-back p g.1 s.1 in
      (every-join f (letters b) (letters p) x.0 y.0, rw x.1 y.1)
  unrolled-back (last x) g s = unrolled-back x g s
  unrolled-back (next z b) g s =
      let x = unrolled-back z g.0 s.0 in
      let y = unrolled-back b g.1 s.1 in
      (every-join f (letters z) (letters b) x.0 y.0, rw x.1 y.1)
  unrolled-back (bare x) g s = unrolled-back x g s
  unrolled-back (times x q z) g s = unrolled-back x g.1 (some-round q z (unrolled x) g.0 s)
  unrolled-back (letter c) g s = (rw s refl, refl)
  unrolled-back caret g s = (refl, refl)
  unrolled-back dollar g s = absurd s
  unrolled-back empty g s = (refl, refl)
  unrolled-back (group p) g s = unrolled-back p g (forked-back p s)

  pub places-back : (p : Tree pattern) → Bounds p → ((s : ℕ) → s < length (places (unroll p)) → Passes f (get_or (places (unroll p)) s (p_fork []))) → (every f (letters p) ≡ true) × (has_dollar p ≡ false)
  unfolding places flagged_places unroll
  places-back p g h =
      let t : Unrolled = unroll p in
      let F : ℕ = 2 ^ nest t in
      let e = spread-back F (flagged_places F t) (pow_pos (nest t)) h in
      unrolled-back p g (forked-back p (code-back F t 0 0 (state_at F (size t)) (each-parts (code F t 0 0 (state_at F (size t))) (flagged 0 (λ φ. p_end) ∷ []) e).0))

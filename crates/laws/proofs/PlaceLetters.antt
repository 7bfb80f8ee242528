-- What is true of every letter of a pattern is true of the letter of every place; and a pattern
-- without `$` has no place for one.
use mathlib.Core.Path.{◌≡◌, refl}
use mathlib.Core.Bool.{Bool, true, false, true≢false}
use mathlib.Core.List.{List, [], ◌∷◌, ◌++◌}
use mathlib.Core.Option.{Option, none, some}
use Prim.Native.Nat.{ℕ, zero, suc, ◌+◌, ◌-◌, ◌*◌, ◌/◌, ◌%◌, ◌^◌}
use lib.ListN.{get_or, length, get_or-eq_default}
use Rattle.rules.specs.Basics.{every, pick, tabulate}
use Rattle.rules.specs.Language.{lower, upper, Rank, pattern, branch, factor, primary, Tree, one, more, last, next, bare, times, letter, caret, dollar, empty, group, letters, has_dollar, deeper}
use Rattle.rules.specs.Places.{Unrolled, u_letter, u_caret, u_dollar, u_empty, u_seq, u_alt, u_opt, u_star, Branches, u_nil, u_cons, copies, options, behind, repeated, UnrolledAt, forked, unrolled, unroll, size, start_of, code, codes, Place, p_letter, p_caret, p_dollar, p_fork, p_end, places, skips, nest, state_at, round_end, Flagged, flagged, flagged_places, with_flags, spread}
use Rattle.laws.proofs.Counting.{forked-more}
use Rattle.laws.proofs.Level.{and-true, or-false}
use lib.Dec.{ltb}
use borrow.Author.Tests.{ltb-true, ltb-false}
use Rattle.laws.proofs.Lists.{length-tabulate, get_d_tabulate}
use Rattle.laws.proofs.Rank.{no_place}

every_append : (f : ℕ → Bool) (xs ys : List ℕ) → every f (xs ++ ys) ≡ true → (every f xs ≡ true) × (every f ys ≡ true)
unfolding every
every_append f [] ys e = (refl, e)
every_append f (x ∷ xs) ys e =
    let a = and-true (f x) (every f (xs ++ ys)) e in
    let b = every_append f xs ys a.1 in
    (rw a.0 b.0, b.1)

module _ (f : ℕ → Bool) where
  -- a place with a letter has one that passes the test, and no place is for `$`
  abbrev pub Passes : Place → Type 0
  Passes (p_letter c k) = f c ≡ true
  Passes (p_caret k) = Unit {0}
  Passes (p_dollar k) = ⊥
  Passes (p_fork ks) = Unit {0}
  Passes p_end = Unit {0}

  unfoldable mutual
    PassesIn : Unrolled → Type 0
    PassesIn (u_letter c) = f c ≡ true
    PassesIn u_caret = Unit {0}
    PassesIn u_dollar = ⊥
    PassesIn u_empty = Unit {0}
    PassesIn (u_seq a b) = PassesIn a × PassesIn b
    PassesIn (u_alt ts) = PassesAll ts
    PassesIn (u_opt lazy t) = PassesIn t
    PassesIn (u_star lazy t) = PassesIn t

    PassesAll : Branches → Type 0
    PassesAll u_nil = Unit {0}
    PassesAll (u_cons t ts) = PassesIn t × PassesAll ts

  -- so of every place of a list, whatever its flags
  abbrev Each : List Flagged → Type 0
  Each [] = Unit {0}
  Each (p ∷ ps) = ((φ : ℕ) → Passes (p.place φ)) × Each ps

  each_append : (ps qs : List Flagged) → Each ps → Each qs → Each (ps ++ qs)
  each_append [] qs a b = b
  each_append (p ∷ ps) qs a b = (a.0, each_append ps qs a.1 b)

  each_at : (ps : List Flagged) → Each ps → (q φ : ℕ) → Passes ((get_or ps q no_place).place φ)
  each_at [] a q φ = tt
  each_at (p ∷ ps) a zero φ = a.0 φ
  each_at (p ∷ ps) a (suc q) φ = each_at ps a.1 q φ

  mutual
    unfolding PassesIn code

    code-passes : (F : ℕ) (t : Unrolled) (d b : ℕ) (k : ℕ → ℕ) → PassesIn t → Each (code F t d b k)
    code-passes F (u_letter c) d b k s = (λ φ. s, tt)
    code-passes F u_caret d b k s = (λ φ. tt, tt)
    code-passes F u_dollar d b k s = absurd s
    code-passes F u_empty d b k s = tt
    code-passes F (u_seq x y) d b k s =
        each_append (code F x d b (start_of F y (b + size x) k)) (code F y d (b + size x) k) (code-passes F x d b (start_of F y (b + size x) k) s.0) (code-passes F y d (b + size x) k s.1)
    code-passes F (u_alt ts) d b k s = (λ φ. tt, codes-pass F ts d (suc b) k s)
    code-passes F (u_opt lazy t) d b k s = (λ φ. tt, code-passes F t d (suc b) k s)
    code-passes F (u_star lazy t) d b k s = (λ φ. tt, code-passes F t (deeper (skips t) d) (suc b) (round_end F (skips t) d b k) s)

    codes-pass : (F : ℕ) (ts : Branches) (d b : ℕ) (k : ℕ → ℕ) → PassesAll ts → Each (codes F ts d b k)
    codes-pass F u_nil d b k s = tt
    codes-pass F (u_cons t ts) d b k s = each_append (code F t d b k) (codes F ts d (b + size t) k) (code-passes F t d b k s.0) (codes-pass F ts d (b + size t) k s.1)

  -- and of every place with flags
  spread-passes : (F : ℕ) (ps : List Flagged) → Each ps → (s : ℕ) → Passes (get_or (spread F ps) s (p_fork []))
  unfolding spread
  spread-passes F ps a s = go (ltb s (length ps * F)) refl
    where
      state : ℕ → Place
      state s = with_flags (get_or ps (s / F) no_place) (s % F)

      either : (c : Bool) (p : Place) → Passes p → Passes (pick c p p_end)
      either true p x = x
      either false p x = tt

      go : (c : Bool) → ltb s (length ps * F) ≡ c → Passes (get_or (tabulate (length ps * F) state) s (p_fork []))
      go true e =
          rw (get_d_tabulate (length ps * F) state s (p_fork []) (ltb-true s (length ps * F) e))
          (either (ltb (s % F) (2 ^ (get_or ps (s / F) no_place).flags)) ((get_or ps (s / F) no_place).place (s % F)) (each_at ps a (s / F) (s % F)))
      go false e = rw (get_or-eq_default (tabulate (length ps * F) state) (p_fork []) {n = s} (rw (length-tabulate (length ps * F) state) (ltb-false s (length ps * F) e))) tt

  copies-pass : (m : ℕ) (t r : Unrolled) → PassesIn t → PassesIn r → PassesIn (copies m t r)
  unfolding copies PassesIn
  copies-pass zero t r a b = b
  copies-pass (suc m) t r a b = (a, copies-pass m t r a b)

  options-pass : (m : ℕ) (lazy : Bool) (t : Unrolled) → PassesIn t → PassesIn (options m lazy t)
  unfolding options PassesIn
  options-pass zero lazy t a = tt
  options-pass (suc m) lazy t a = (a, options-pass m lazy t a)

  behind-passes : (hi : Option ℕ) (lo : ℕ) (lazy : Bool) (t : Unrolled) → PassesIn t → PassesIn (behind hi lo lazy t)
  unfolding behind PassesIn
  behind-passes none lo lazy t a = a
  behind-passes (some hi) lo lazy t a = options-pass (hi - lo) lazy t a

  abbrev PassesAt : (k : Rank) → UnrolledAt k → Type 0
  PassesAt pattern ts = PassesAll ts
  PassesAt branch t = PassesIn t
  PassesAt factor t = PassesIn t
  PassesAt primary t = PassesIn t

  forked-passes : (p : Tree pattern) → PassesAll (unrolled p) → PassesIn (forked (unrolled p))
  unfolding unrolled forked PassesIn
  forked-passes (one b) s = s.0
  forked-passes (more b p) s = rw (forked-more b p) s

  unrolled-passes : {k : Rank} (t : Tree k) → every f (letters t) ≡ true → has_dollar t ≡ false → PassesAt k (unrolled t)
  unfolding letters has_dollar unrolled PassesIn repeated every
  unrolled-passes (one b) l d = (unrolled-passes b l d, tt)
  unrolled-passes (more b p) l d =
      let a = every_append f (letters b) (letters p) l in
      let c = or-false (has_dollar b) (has_dollar p) d in
      (unrolled-passes b a.0 c.0, unrolled-passes p a.1 c.1)
  unrolled-passes (last x) l d = unrolled-passes x l d
  unrolled-passes (next x b) l d =
      let a = every_append f (letters x) (letters b) l in
      let c = or-false (has_dollar x) (has_dollar b) d in
      (unrolled-passes x a.0 c.0, unrolled-passes b a.1 c.1)
  unrolled-passes (bare x) l d = unrolled-passes x l d
  unrolled-passes (times x q z) l d =
      copies-pass (lower q) (unrolled x) (behind (upper q) (lower q) z (unrolled x)) (unrolled-passes x l d) (behind-passes (upper q) (lower q) z (unrolled x) (unrolled-passes x l d))
  unrolled-passes (letter c) l d = (and-true (f c) true l).0
  unrolled-passes caret l d = tt
  unrolled-passes dollar l d = absurd (true≢false d)
  unrolled-passes empty l d = tt
  unrolled-passes (group p) l d = forked-passes p (unrolled-passes p l d)

  pub places-pass : (p : Tree pattern) → every f (letters p) ≡ true → has_dollar p ≡ false → (q : ℕ) → Passes (get_or (places (unroll p)) q (p_fork []))
  unfolding places flagged_places unroll
  places-pass p l d q =
      let t : Unrolled = unroll p in
      let F : ℕ = 2 ^ nest t in
      spread-passes F (flagged_places F t)
      (each_append (code F t 0 0 (state_at F (size t))) (flagged 0 (λ φ. p_end) ∷ []) (code-passes F t 0 0 (state_at F (size t)) (forked-passes p (unrolled-passes p l d))) (λ φ. tt, tt)) q

-- For whoever lays the places out in a table, with what is behind a part as an array with a place
-- for each value of the flags: a part begins at its first place, or behind it if it has none
-- (`start_is`); and only what is behind it at the flags that it can have counts (`code-agrees`,
-- `spread-agrees`).
use mathlib.Core.Path.{◌≡◌, refl, ap, ap₂, ◌∙◌}
use mathlib.Core.Bool.{Bool, true, false}
use mathlib.Core.List.{List, [], ◌∷◌, ◌++◌}
use Prim.Native.Nat.{ℕ, zero, suc, ◌+◌, ◌-◌, ◌*◌, ◌/◌, ◌%◌, ◌^◌, ◌<◌}
use native.Mathlib.Omega.{arith}
use lib.Dec.{ltb, eqb}
use lib.ListN.{length, get_or}
use lib.Pow.{ones_lt}
use borrow.Author.Tests.{ltb-true, eq-eqb, ne_eqb}
use Rattle.rules.specs.Basics.{pick, tabulate}
use Rattle.rules.specs.Language.{deeper}
use Rattle.rules.specs.Places.{Unrolled, u_letter, u_caret, u_dollar, u_empty, u_seq, u_alt, u_opt, u_star, Branches, u_nil, u_cons, skips, full, state_at, size, sizes, start_of, starts_of, round_end, code, codes, ways_in_turn, Place, p_letter, p_caret, p_dollar, p_fork, p_end, Flagged, with_flags, spread}
use Rattle.laws.proofs.Level.{wider}
use Rattle.laws.proofs.Rank.{no_place}

-- ---- where a part begins

-- at its first place, or behind it if it has none
pub start_is : (F : ℕ) (t : Unrolled) (b : ℕ) (k : ℕ → ℕ) (φ : ℕ) → start_of F t b k φ ≡ pick (eqb (size t) 0) (k φ) (state_at F b φ)
unfolding start_of size
start_is F (u_letter c) b k φ = refl
start_is F u_caret b k φ = refl
start_is F u_dollar b k φ = refl
start_is F u_empty b k φ = refl
start_is F (u_seq x y) b k φ = go (size x) refl (size y) refl (start_is F x b (start_of F y (b + size x) k) φ) (start_is F y (b + size x) k φ)
  where
    go : (m : ℕ) → size x ≡ m → (n : ℕ) → size y ≡ n → start_of F x b (start_of F y (b + size x) k) φ ≡ pick (eqb (size x) 0) (start_of F y (b + size x) k φ) (state_at F b φ)
        → start_of F y (b + size x) k φ ≡ pick (eqb (size y) 0) (k φ) (state_at F (b + size x) φ)
        → start_of F x b (start_of F y (b + size x) k) φ ≡ pick (eqb (size x + size y) 0) (k φ) (state_at F b φ)
    go zero e zero f p q = p ∙ rw (e, f) (rw (e, f) at q)
    go zero e (suc n) f p q =
        let h : eqb (size x) 0 ≡ true = eq-eqb (size x) 0 e in
        let g : eqb (size y) 0 ≡ false = ne_eqb (size y) 0 (λ (z : size y ≡ 0). omega arith) in
        let s : eqb (size x + size y) 0 ≡ false = ne_eqb (size x + size y) 0 (λ (z : size x + size y ≡ 0). omega arith) in
        let l : b + size x ≡ b = omega arith in
        p ∙ rw (h, s) (q ∙ rw (g, l))
    go (suc m) e n f p q =
        let h : eqb (size x) 0 ≡ false = ne_eqb (size x) 0 (λ (z : size x ≡ 0). omega arith) in
        let s : eqb (size x + size y) 0 ≡ false = ne_eqb (size x + size y) 0 (λ (z : size x + size y ≡ 0). omega arith) in
        p ∙ rw (h, s)
start_is F (u_alt ts) b k φ = rw (ne_eqb (suc (sizes ts)) 0 (λ (z : suc (sizes ts) ≡ 0). omega arith))
start_is F (u_opt lazy t) b k φ = rw (ne_eqb (suc (size t)) 0 (λ (z : suc (size t) ≡ 0). omega arith))
start_is F (u_star lazy t) b k φ = rw (ne_eqb (suc (size t)) 0 (λ (z : suc (size t) ≡ 0). omega arith))

-- ---- what is behind counts at the flags that are there

abbrev pub Agree : ℕ → (ℕ → ℕ) → (ℕ → ℕ) → Type 0
Agree d k h = (φ : ℕ) → φ < 2 ^ d → k φ ≡ h φ

abbrev pub AgreeAll : List Flagged → List Flagged → Type 0
AgreeAll [] [] = Unit {0}
AgreeAll [] (q ∷ qs) = ⊥
AgreeAll (p ∷ ps) [] = ⊥
AgreeAll (p ∷ ps) (q ∷ qs) = (p.flags ≡ q.flags) × ((φ : ℕ) → φ < 2 ^ p.flags → p.place φ ≡ q.place φ) × AgreeAll ps qs

agree_append : (ps qs rs ss : List Flagged) → AgreeAll ps qs → AgreeAll rs ss → AgreeAll (ps ++ rs) (qs ++ ss)
agree_append [] [] rs ss a b = b
agree_append [] (q ∷ qs) rs ss a b = absurd a
agree_append (p ∷ ps) [] rs ss a b = absurd a
agree_append (p ∷ ps) (q ∷ qs) rs ss a b = (a.0, a.1, agree_append ps qs rs ss a.2 b)

module _ (F : ℕ) where
  pub start-agrees : (t : Unrolled) (d b : ℕ) (k h : ℕ → ℕ) → Agree d k h → Agree d (start_of F t b k) (start_of F t b h)
  unfolding start_of
  start-agrees (u_letter c) d b k h a φ v = refl
  start-agrees u_caret d b k h a φ v = refl
  start-agrees u_dollar d b k h a φ v = refl
  start-agrees u_empty d b k h a φ v = a φ v
  start-agrees (u_seq x y) d b k h a φ v = start-agrees x d b (start_of F y (b + size x) k) (start_of F y (b + size x) h) (start-agrees y d (b + size x) k h a) φ v
  start-agrees (u_alt ts) d b k h a φ v = refl
  start-agrees (u_opt lazy t) d b k h a φ v = refl
  start-agrees (u_star lazy t) d b k h a φ v = refl

  starts_agree : (ts : Branches) (d b : ℕ) (k h : ℕ → ℕ) → Agree d k h → (φ : ℕ) → φ < 2 ^ d → starts_of F ts b k φ ≡ starts_of F ts b h φ
  unfolding starts_of
  starts_agree u_nil d b k h a φ v = refl
  starts_agree (u_cons t ts) d b k h a φ v = rw (start-agrees t d b k h a φ v, starts_agree ts d (b + size t) k h a φ v)

  pub round_agrees : (s : Bool) (d b : ℕ) (k h : ℕ → ℕ) → Agree d k h → Agree (deeper s d) (round_end F s d b k) (round_end F s d b h)
  round_agrees false d b k h a φ v = refl
  round_agrees true d b k h a φ v = go (ltb φ (2 ^ d)) refl
    where
      go : (c : Bool) → ltb φ (2 ^ d) ≡ c → pick c (k φ) (state_at F b (φ - 2 ^ d)) ≡ pick c (h φ) (state_at F b (φ - 2 ^ d))
      go true e = a φ (ltb-true φ (2 ^ d) e)
      go false e = refl

  mutual
    unfolding code

    pub code-agrees : (t : Unrolled) (d b : ℕ) (k h : ℕ → ℕ) → Agree d k h → AgreeAll (code F t d b k) (code F t d b h)
    code-agrees (u_letter c) d b k h a = (refl, λ φ v. ap (λ (x : ℕ). p_letter c x) (a (full d) (ones_lt d)), tt)
    code-agrees u_caret d b k h a = (refl, λ φ v. ap (λ (x : ℕ). p_caret x) (a φ v), tt)
    code-agrees u_dollar d b k h a = (refl, λ φ v. ap (λ (x : ℕ). p_dollar x) (a φ v), tt)
    code-agrees u_empty d b k h a = tt
    code-agrees (u_seq x y) d b k h a =
        agree_append (code F x d b (start_of F y (b + size x) k)) (code F x d b (start_of F y (b + size x) h)) (code F y d (b + size x) k) (code F y d (b + size x) h)
        (code-agrees x d b (start_of F y (b + size x) k) (start_of F y (b + size x) h) (start-agrees y d (b + size x) k h a)) (code-agrees y d (b + size x) k h a)
    code-agrees (u_alt ts) d b k h a = (refl, λ φ v. ap (λ (ks : List ℕ). p_fork ks) (starts_agree ts d (suc b) k h a φ v), codes-agree ts d (suc b) k h a)
    code-agrees (u_opt lazy t) d b k h a = (
      refl,
      λ φ v. ap₂ (λ (x y : ℕ). p_fork (ways_in_turn lazy x y)) (start-agrees t d (suc b) k h a φ v) (a φ v),
      code-agrees t d (suc b) k h a,
    )
    code-agrees (u_star lazy t) d b k h a =
        let r = round_agrees (skips t) d b k h a in (
          refl,
          λ φ v. ap₂ (λ (x y : ℕ). p_fork (ways_in_turn lazy x y))
              (start-agrees t (deeper (skips t) d) (suc b) (round_end F (skips t) d b k) (round_end F (skips t) d b h) r φ (wider (skips t) d φ v)) (a φ v),
          code-agrees t (deeper (skips t) d) (suc b) (round_end F (skips t) d b k) (round_end F (skips t) d b h) r,
        )

    pub codes-agree : (ts : Branches) (d b : ℕ) (k h : ℕ → ℕ) → Agree d k h → AgreeAll (codes F ts d b k) (codes F ts d b h)
    codes-agree u_nil d b k h a = tt
    codes-agree (u_cons t ts) d b k h a =
        agree_append (code F t d b k) (code F t d b h) (codes F ts d (b + size t) k) (codes F ts d (b + size t) h) (code-agrees t d b k h a) (codes-agree ts d (b + size t) k h a)

-- lists that agree have the same places with flags
agree_length : (ps qs : List Flagged) → AgreeAll ps qs → length ps ≡ length qs
agree_length [] [] a = refl
agree_length [] (q ∷ qs) a = absurd a
agree_length (p ∷ ps) [] a = absurd a
agree_length (p ∷ ps) (q ∷ qs) a = ap suc (agree_length ps qs a.2)

agree_at : (ps qs : List Flagged) → AgreeAll ps qs → (q φ : ℕ) → with_flags (get_or ps q no_place) φ ≡ with_flags (get_or qs q no_place) φ
agree_at [] [] a q φ = refl
agree_at [] (x ∷ qs) a q φ = absurd a
agree_at (p ∷ ps) [] a q φ = absurd a
agree_at (p ∷ ps) (x ∷ qs) a (suc q) φ = agree_at ps qs a.2 q φ
agree_at (p ∷ ps) (x ∷ qs) a zero φ = rw (← a.0) (go (ltb φ (2 ^ p.flags)) refl)
  where
    go : (c : Bool) → ltb φ (2 ^ p.flags) ≡ c → pick c (p.place φ) p_end ≡ pick c (x.place φ) p_end
    go true e = a.1 φ (ltb-true φ (2 ^ p.flags) e)
    go false e = refl

pub spread-agrees : (F : ℕ) (ps qs : List Flagged) → AgreeAll ps qs → spread F ps ≡ spread F qs
unfolding spread
spread-agrees F ps qs a = ap₂ (λ (m : ℕ) (f : ℕ → Place). tabulate (m * F) f) (agree_length ps qs a) same
  where
    state : List Flagged → ℕ → Place
    state l s = with_flags (get_or l (s / F) no_place) (s % F)

    same : state ps ≡ state qs
    same = λ i s. agree_at ps qs a (s / F) (s % F) i

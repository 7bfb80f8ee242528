-- A pattern for which document 01 and clause 6.2.7 of ISO/IEC 19075-5 choose different matches: (()
-- | A | B D){0,2} C over three rows, where A and B hold at row 0, A and D at row 1, C at row 2.
-- Document 01 prefers B D C (`by-places`) and the clause A A C (`by-clause`).
use mathlib.Core.Path.{◌≡◌, refl, ◌∙◌}
use mathlib.Core.List.{List, [], ◌∷◌}
use mathlib.Core.Bool.{Bool, true, false, ◌||◌, ◌&&◌, false≢true}
use mathlib.Core.Logic.{◌⊎◌, inl, inr}
use Prim.Native.Nat.{ℕ, zero, suc, ◌≤◌, ◌<◌, zero-le}
use native.Mathlib.Omega.{arith}
use lib.ListN.{length}
use lib.Dec.{eqb}
use Rattle.rules.specs.Basics.{every}
use Rattle.rules.specs.Clause627.{empty_late, allowed, Preferred627}
use Rattle.rules.specs.Language.{between, pattern, primary, Tree, one, more, last, next, bare, times, letter, empty, group}
use Rattle.rules.specs.Places.{unroll, places}
use Rattle.rules.specs.Readings.{row_sets}
use Rattle.rules.specs.Preferment.{Derivation, InTurn, Parses, RoundByRound, Prefers, Preferred, word}
use Rattle.rules.specs.Search.{labels}
use Rattle.rules.specs.Walk.{pair_ways, plain}
use Rattle.laws.proofs.Bounds.{Bounds}
use Rattle.laws.proofs.GreatestDerivation.{found-is_greatest}
use Rattle.laws.proofs.Level.{and-true}

-- (() | A | B D), where A is 65, B 66, C 67, D 68
abbrev body : Tree primary
body = group (more (last (bare empty)) (more (last (bare (letter 65))) (one (next (bare (letter 66)) (last (bare (letter 68)))))))

abbrev pub differs : Tree pattern
differs = one (next (times body (between 0 2) false) (last (bare (letter 67))))

abbrev pub rows : ℕ → ℕ → Bool
rows c zero = eqb c 65 || eqb c 66
rows c (suc zero) = eqb c 65 || eqb c 68
rows c (suc (suc i)) = eqb c 67

-- document 01: through ( ( ) (B D) ) C
pub by-places : Preferred (row_sets 3 rows) differs 0 3 (66 ∷ 68 ∷ 67 ∷ [])
unfolding Bounds labels unroll places pair_ways plain
by-places =
    (found-is_greatest differs ((((omega arith, omega arith, omega arith), (tt, (tt, (tt, tt)))), tt)) rows 3 0 3 (66 ∷ 68 ∷ 67 ∷ [])).0
    (0 ∷ 1 ∷ 5 ∷ 6 ∷ 8 ∷ 21 ∷ 34 ∷ 47 ∷ [], (refl, refl, refl))

-- ---- the clause: through (A A) C

abbrev two : List (Derivation body)
unfolding Derivation
two = inr (inl tt) ∷ inr (inl tt) ∷ []

abbrev chosen : Derivation differs
unfolding Derivation
chosen = ((two, (zero-le, few)), tt)
  where
    few : 2 ≤ 2
    few = omega arith

chosen-parses : Parses (row_sets 3 rows) differs chosen 0 3 (65 ∷ 65 ∷ 67 ∷ [])
unfolding Parses
chosen-parses = (
  2,
  65 ∷ 65 ∷ [],
  67 ∷ [],
  (
    1,
    65 ∷ [],
    65 ∷ [],
    (omega arith, refl, refl, refl),
    (2, 65 ∷ [], [], (omega arith, refl, refl, refl), (refl, refl), refl),
    refl,
  ),
  (omega arith, refl, refl, refl),
  refl,
)

-- C holds at row 2 only
no-C : (x i : ℕ) → x ≡ i → i < 2 → rows 67 x ≡ true → ⊥
no-C x zero e h r = false≢true (rw e at r)
no-C x (suc zero) e h r = false≢true (rw e at r)
no-C x (suc (suc i)) e h r = absurd (omega arith)

never : {X Y : Type 0} → (X → ⊥) → (Y → ⊥) → X ⊎ Y → ⊥
never f g (inl x) = f x
never f g (inr y) = g y

-- B D is not A
apart : (d : Unit {0} × Unit {0}) (e : Unit {0}) → ◌≡◌ {A = Unit {0} ⊎ (Unit {0} ⊎ (Unit {0} × Unit {0}))} (inr (inr d)) (inr (inl e)) → ⊥
apart d e h = let z : ◌≡◌ {A = ℕ} 0 1 = cc in omega arith

-- no rounds that the clause allows and behind which C holds are preferred to A A
first_two : (ds : List (Derivation body)) (x : ℕ) (u : List ℕ) → length ds ≤ 2 → empty_late (word body) 0 ds ≡ true → InTurn (Parses (row_sets 3 rows) body) ds 0 x u → rows 67 x ≡ true
    → RoundByRound false (Prefers body) ds two → ⊥
unfolding Derivation Parses Prefers empty_late word
first_two [] x u h k r c l = false≢true l
first_two (inl d ∷ []) x u h k r c l = no-C x 0 (r.4.0 ∙ r.3.0) (omega arith) c
first_two (inl d ∷ e ∷ ds) x u h k r c l = false≢true k
first_two (inr (inl d) ∷ []) x u h k r c l = never (λ z. z) (λ z. false≢true z.1) l
first_two (inr (inl d) ∷ inl e ∷ []) x u h k r c l = no-C x 1 (r.4.4.0 ∙ r.4.3.0 ∙ r.3.2) (omega arith) c
first_two (inr (inl d) ∷ inl e ∷ g ∷ ds) x u h k r c l = omega arith
first_two (inr (inl d) ∷ inr (inl e) ∷ []) x u h k r c l = never (λ z. z) (λ z. never (λ y. y) (λ y. y.1) z.1) l
first_two (inr (inl d) ∷ inr (inl e) ∷ g ∷ ds) x u h k r c l = omega arith
first_two (inr (inl d) ∷ inr (inr e) ∷ ds) x u h k r c l = never (λ z. z) (λ z. never (λ y. y) (λ y. apart e tt y.0) z.1) l
first_two (inr (inr d) ∷ ds) x u h k r c l = never (λ z. z) (λ z. apart d tt z.0) l

pub by-clause : Preferred627 (row_sets 3 rows) differs 0 3 (65 ∷ 65 ∷ 67 ∷ [])
unfolding Derivation Parses Prefers allowed
by-clause = record { derivation = chosen; kept = refl; parses = chosen-parses; greatest = better }
  where
    better : (e : Derivation differs) (j : ℕ) (w : List ℕ) → allowed differs e ≡ true → Parses (row_sets 3 rows) differs e 0 j w → Prefers differs e chosen → ⊥
    better e j w k r l =
        let ds = e.0.0 in
        let late = (and-true (empty_late (word body) 0 ds) (every (λ y. allowed body y) ds) (and-true (empty_late (word body) 0 ds && every (λ y. allowed body y) ds) true k).0).0 in
        never (λ z. first_two ds r.0 r.1 e.0.1.1 late r.3 r.4.1 z) (λ z. z.1) l

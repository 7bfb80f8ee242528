-- Rounds of a body with the bounds as numbers, 100 for no upper bound.
use mathlib.Core.Path.{◌≡◌, refl, sym, ap, ◌∙◌}
use mathlib.Core.Bool.{Bool, true, false}
use mathlib.Core.Option.{Option, none, some}
use Prim.Native.Nat.{ℕ, ◌+◌, ◌*◌, ◌-◌, ◌≤◌, min}
use native.Mathlib.Omega.{arith}
use native.Mathlib.Nat.{mul-le-mul}
use lib.Dec.{eqb}
use borrow.Author.Tests.{eq-eqb, ne_eqb}
use Rattle.rules.specs.Basics.{pick}
use Rattle.rules.specs.Language.{Form, star, plus, opt, exactly, at_least, at_most, between, lower, upper, InBounds, unbounded}
use Rattle.rules.specs.Places.{round_places}
use Rattle.marks.specs.Shows.{highest, high_of}
use Rattle.trees.specs.Written.{rounds_of, InOrder}

pub form_order : (f : Form) → InBounds f → InOrder (lower f) (high_of f)
unfolding lower high_of highest upper InBounds
form_order star i = record { low_small = omega arith; high_small = omega arith; in_order = omega arith }
form_order plus i = record { low_small = omega arith; high_small = omega arith; in_order = omega arith }
form_order opt i = record { low_small = omega arith; high_small = omega arith; in_order = omega arith }
form_order (exactly n) i = record { low_small = omega (arith, i.1); high_small = omega (arith, i.1); in_order = omega arith }
form_order (at_least n) i = record { low_small = i; high_small = omega arith; in_order = omega (arith, i) }
form_order (at_most m) i = record { low_small = omega arith; high_small = omega (arith, i.1); in_order = omega arith }
form_order (between n m) i = record { low_small = omega (arith, i.1, i.2); high_small = omega (arith, i.2); in_order = i.1 }

pub bound-eq : (f : Form) → InBounds f → eqb (high_of f) 100 ≡ unbounded (upper f)
unfolding high_of highest upper unbounded InBounds
bound-eq star i = refl
bound-eq plus i = refl
bound-eq opt i = refl
bound-eq (exactly n) i = ne_eqb n 100 (λ e. omega (arith, i.1))
bound-eq (at_least n) i = refl
bound-eq (at_most m) i = ne_eqb m 100 (λ e. omega (arith, i.1))
bound-eq (between n m) i = ne_eqb m 100 (λ e. omega (arith, i.2))

pub rounds_eq : (f : Form) (c : ℕ) → InBounds f → rounds_of (lower f) (high_of f) c ≡ round_places (lower f) (upper f) c
unfolding rounds_of round_places unbounded high_of highest
rounds_eq f c i = go (upper f) refl
  where
    go : (u : Option ℕ) → upper f ≡ u → pick (eqb (high_of f) 100) (lower f * c + (1 + c)) (lower f * c + (high_of f - lower f) * (1 + c)) ≡ round_places (lower f) u c
    go none e = let t : eqb (high_of f) 100 ≡ true = bound-eq f i ∙ ap unbounded e in rw t refl
    go (some m) e = let t : eqb (high_of f) 100 ≡ false = bound-eq f i ∙ ap unbounded e in rw t (ap (λ (h : ℕ). lower f * c + (h - lower f) * (1 + c)) (ap highest e))

pub rounds_open : (low high c r : ℕ) → high ≡ 100 → r ≡ min (low * c + (1 + c)) 257 → r ≡ min (rounds_of low high c) 257
unfolding rounds_of
rounds_open low high c r e h = h ∙ sym (ap (λ (t : Bool). min (pick t (low * c + (1 + c)) (low * c + (high - low) * (1 + c))) 257) (eq-eqb high 100 e))

pub rounds_shut : (low high c r : ℕ) → (high ≡ 100 → ⊥) → r ≡ min (low * c + (high - low) * (1 + c)) 257 → r ≡ min (rounds_of low high c) 257
unfolding rounds_of
rounds_shut low high c r e h = h ∙ sym (ap (λ (t : Bool). min (pick t (low * c + (1 + c)) (low * c + (high - low) * (1 + c))) 257) (ne_eqb high 100 e))

pub rounds_mul : (low high c : ℕ) → InOrder low high → c ≤ 257 → (high - low) * (1 + c) ≤ 100 * 258
rounds_mul low high c o h =
    let a : high - low ≤ 100 = omega (arith, o.high_small) in
    let b : 1 + c ≤ 258 = omega arith in
    let m : (high - low) * (1 + c) ≤ 100 * 258 = mul-le-mul a b in
    m

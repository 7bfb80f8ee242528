-- Events as the code tells them apart: by the number's value.
use Rattle.std.proofs.Common.{◌≡◌, ℕ, suc, ◌-◌, ◌<◌, Bool, true, false, ◌&&◌, ◌||◌, ℤ, pos, negsuc, Some, None, refl, sym, ◌∙◌, arith, eqb, leb, w32, of_z}
use Rattle.std.specs.Option.{is_some}
use Rattle.rules.specs.Basics.{pick}
use mir.Val.{SFits}
use borrow.Author.Tests.{eqb-true, eqb-false, eq-eqb, ne_eqb, le-leb, leb-true}
use Rattle.bus_log.specs.declared.Event.{Event}
use Rattle.bus_log.specs.declared.Event.TheVariants.{Offered, Refused, Accepted}
use Rattle.bus_log.specs.Log.{equal, event_of}

both-le : (m k : ℕ) → eqb m k ≡ (leb m k && leb k m)
both-le m k = go (eqb m k) refl
  where
    not-both : (a b : Bool) → leb m k ≡ a → leb k m ≡ b → (m ≡ k → ⊥) → false ≡ (a && b)
    not-both true true e f d = absurd (d (omega (arith, leb-true m k e, leb-true k m f)))
    not-both true false e f d = refl
    not-both false b e f d = refl

    go : (t : Bool) → eqb m k ≡ t → t ≡ (leb m k && leb k m)
    go true e = let z = eqb-true m k e in rw (le-leb m k (omega arith), le-leb k m (omega arith))
    go false e = not-both (leb m k) (leb k m) refl refl (eqb-false m k e)

-- a word of 32 bits equals a small number exactly if its signed value does
pub word-equal : (x : ℤ) (k : ℕ) → SFits w32 x → k < 2147483648 → eqb (of_z w32 x) k ≡ equal x (pos k)
unfolding equal
word-equal (pos m) k f h = both-le m k
word-equal (negsuc m) k f h = let l = f.sfits in ne_eqb (4294967296 - suc m) k (λ e. omega arith)

module _ (x : ℤ) (f : SFits w32 x) where
  is : (k : ℕ) → k < 2147483648 → of_z w32 x ≡ k → equal x (pos k) ≡ true
  is k h e = sym (word-equal x k f h) ∙ eq-eqb (of_z w32 x) k e

  is-not : (k : ℕ) → k < 2147483648 → (of_z w32 x ≡ k → ⊥) → equal x (pos k) ≡ false
  is-not k h d = sym (word-equal x k f h) ∙ ne_eqb (of_z w32 x) k d

  pub offered : of_z w32 x ≡ 1 → Some Offered ≡ event_of x
  offered e = rw (is 1 (omega arith) e)

  pub refused : of_z w32 x ≡ 2 → Some Refused ≡ event_of x
  refused e = rw (is-not 1 (omega arith) (omega arith), is 2 (omega arith) e)

  pub accepted : of_z w32 x ≡ 3 → Some Accepted ≡ event_of x
  accepted e = rw (is-not 1 (omega arith) (omega arith), is-not 2 (omega arith) (omega arith), is 3 (omega arith) e)

  pub no-event : (of_z w32 x ≡ 1 → ⊥) → (of_z w32 x ≡ 2 → ⊥) → (of_z w32 x ≡ 3 → ⊥) → None ≡ event_of x
  no-event a b c = rw (is-not 1 (omega arith) a, is-not 2 (omega arith) b, is-not 3 (omega arith) c)

-- a number has an event exactly if it is 1, 2 or 3
pub known : (x : ℤ) → is_some (event_of x) ≡ (equal x (pos 1) || (equal x (pos 2) || equal x (pos 3)))
known x = go (equal x (pos 1)) (equal x (pos 2)) (equal x (pos 3))
  where
    go : (a b c : Bool) → is_some (pick a (Some Offered) (pick b (Some Refused) (pick c (Some Accepted) None))) ≡ (a || (b || c))
    go true b c = refl
    go false true c = refl
    go false false true = refl
    go false false false = refl

-- and that of a refusal exactly if it is 2
pub event-refused : (x : ℤ) → event_of x ≡ Some Refused → true ≡ equal x (pos 2)
event-refused x e = go (equal x (pos 1)) (equal x (pos 2)) (equal x (pos 3)) e
  where
    go : (a b c : Bool) → pick a (Some Offered) (pick b (Some Refused) (pick c (Some Accepted) None)) ≡ Some Refused → true ≡ b
    go true b c e = absurd (cc)
    go false true c e = refl
    go false false true e = absurd (cc)
    go false false false e = absurd (cc)

pub event_none : (x : ℤ) → event_of x ≡ None → false ≡ equal x (pos 2)
event_none x e = go (equal x (pos 1)) (equal x (pos 2)) (equal x (pos 3)) e
  where
    go : (a b c : Bool) → pick a (Some Offered) (pick b (Some Refused) (pick c (Some Accepted) None)) ≡ None → false ≡ b
    go true b c e = absurd (cc)
    go false true c e = absurd (cc)
    go false false true e = absurd (cc)
    go false false false e = refl

-- no number is both 1 and 2
not_both : (x : ℤ) → equal x (pos 1) ≡ true → false ≡ equal x (pos 2)
unfolding equal
not_both (pos m) e = let h = eqb-true m 1 (both-le m 1 ∙ e) in sym (sym (both-le m 2) ∙ ne_eqb m 2 (omega arith))
not_both (negsuc m) e = refl

pub event_other : (x : ℤ) (f : Event) → event_of x ≡ Some f → (f ≡ Refused → ⊥) → false ≡ equal x (pos 2)
event_other x f e d = go (equal x (pos 1)) (equal x (pos 2)) (equal x (pos 3)) (not_both x) e
  where
    go : (a b c : Bool) → (a ≡ true → false ≡ b) → pick a (Some Offered) (pick b (Some Refused) (pick c (Some Accepted) None)) ≡ Some f → false ≡ b
    go true b c h e = h refl
    go false true c h e = absurd (d (cc))
    go false false c h e = refl

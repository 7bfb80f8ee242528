-- Laws of the functions on numbers: each is one way through one function.
use mathlib.Core.Path.{◌≡◌, refl, sym, ap}
use mathlib.Core.Bool.{Bool, true, false}
use Prim.Native.Nat.{ℕ, ◌+◌, ◌*◌, ◌-◌, ◌≤◌, ◌<◌}
use native.Mathlib.Nat.{mul-le-mul}
use native.Mathlib.Omega.{arith}
use lib.Dec.{eqb, ltb, leb}
use borrow.Author.Tests.{eq-eqb, leb-true}
use Rattle.rules.specs.Basics.{pick}
use Rattle.rules.specs.Places.{state_at}
use Rattle.place_codes.specs.Planes.{Low, slot, state_by, start_by, start_no, round_by}
use Rattle.place_codes.specs.declared.Plane.{Plane}
use Rattle.place_codes.specs.declared.Behind.{Behind}

-- ---- the start of a part

pub start-end : (o : Plane) (b e : ℕ) (k : Behind) → b ≡ e → k ≡ start_by o b e k
unfolding start_by
start-end o b e k h = sym (ap (λ (t : Bool). pick t k (state_by o k.values b)) (eq-eqb b e h))

pub entry-end : (o : Plane) (b e k : ℕ) → b ≡ e → k ≡ start_no o b e k
unfolding start_no
entry-end o b e k h = sym (ap (λ (t : Bool). pick t k (slot o b)) (eq-eqb b e h))

-- ---- entries are small

pub product_low : (o : Plane) (b : ℕ) → b ≤ 256 → b * o.factor ≤ 2048
product_low o b h = mul-le-mul h o.few

pub slot-low : (o : Plane) (b : ℕ) → b ≤ 256 → slot o b < 4096
unfolding slot
slot-low o b h = omega (arith, product_low o b h, o.few, o.flag)

state_low : (o : Plane) (values b : ℕ) → b ≤ 256 → 1 ≤ values → values ≤ 8 → Low (state_by o values b)
unfolding state_by
state_low o values b h l m = record { some = l; few = m; here = slot-low o b h; set = omega (arith, product_low o b h) }

pub start-low : (o : Plane) (b e : ℕ) (k : Behind) → b ≤ 256 → Low k → Low (start_by o b e k)
unfolding start_by
start-low o b e k h l = go (eqb b e)
  where
    go : (t : Bool) → Low (pick t k (state_by o k.values b))
    go true = l
    go false = state_low o k.values b h l.some l.few

pub round_low : (o : Plane) (t : Bool) (b : ℕ) (k : Behind) → b ≤ 256 → Low k → Low (round_by o t b k)
unfolding round_by
round_low o false b k h l = state_low o k.values b h l.some l.few
round_low o true b k h l =
    record {
      some = (values (leb k.values 4) refl).0;
      few = (values (leb k.values 4) refl).1;
      here = either (ltb o.flags k.values);
      set = omega (arith, product_low o b h, l.few, l.some);
    }
  where
    values : (c : Bool) → leb k.values 4 ≡ c → (1 ≤ pick c (k.values + k.values) k.values) × (pick c (k.values + k.values) k.values ≤ 8)
    values true e = let z = leb-true k.values 4 e in (omega (arith, l.some), omega arith)
    values false e = (l.some, l.few)

    either : (c : Bool) → pick c k.here (state_at o.factor b (o.flags - k.values)) < 4096
    either true = l.here
    either false = omega (arith, product_low o b h, o.few, o.flag)

-- the entry of a start
pub start-entry : (o : Plane) (b e : ℕ) (k : Behind) → (start_by o b e k).here ≡ start_no o b e k.here
unfolding start_by start_no state_by
start-entry o b e k = go (eqb b e)
  where
    go : (t : Bool) → (pick t k (state_by o k.values b)).here ≡ pick t k.here (slot o b)
    go true = refl
    go false = refl

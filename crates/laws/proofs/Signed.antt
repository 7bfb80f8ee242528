-- Signed numbers in the machine: how large a sum is, that it fits 64 bits, and that a number which
-- fits is read back as it was written.
use mathlib.Core.Path.{◌≡◌, refl, ap, ◌∙◌}
use mathlib.Core.Bool.{Bool, true, false, cond}
use Prim.Native.Nat.{ℕ, zero, suc, ◌+◌, ◌/◌, ◌≤◌, ◌<◌}
use native.Mathlib.Nat.{div-le_self}
use native.Mathlib.Omega.{arith}
use lib.Dec.{ltb}
use lib.IntN.{ℤ, pos, negsuc, neg_ℤ, nat_abs, ◌+ℤ◌}
use lib.Signed.{mag, quot_z}
use mir.Syntax.{w32, w64}
use mir.Val.{SFits, to_z, of_z}
use mir.Facts.{to_z-of_z, sfits_widen}

mag-cond : (t : Bool) (x y : ℤ) (k : ℕ) → mag x ≤ k → mag y ≤ k → mag (cond t x y) ≤ k
mag-cond true x y k h g = h
mag-cond false x y k h g = g

pub mag-add : (a b : ℤ) → mag (a +ℤ b) ≤ mag a + mag b + 1
mag-add (pos a) (pos b) = omega arith
mag-add (pos a) (negsuc b) = mag-cond (ltb a (suc b)) _ _ _ (omega arith) (omega arith)
mag-add (negsuc a) (pos b) = mag-cond (ltb b (suc a)) _ _ _ (omega arith) (omega arith)
mag-add (negsuc a) (negsuc b) = omega arith

-- a sum of two that are small enough
pub sum_fits : (a b : ℤ) (k l : ℕ) → mag a < k → mag b < l → k + l ≤ 9223372036854775808 → SFits w64 (a +ℤ b)
sum_fits a b k l h g f = let m = mag-add a b in record { sfits = omega arith }

-- a number of 32 bits in 64
pub widened : (x : ℤ) → SFits w32 x → to_z w64 (of_z w64 (to_z w32 (of_z w32 x))) ≡ x
widened x f = ap (λ (z : ℤ). to_z w64 (of_z w64 z)) (to_z-of_z f) ∙ to_z-of_z {w = w64} (sfits_widen {w = w32} {w' = w64} {z = x} (tt {0}) f)

-- what a word of 64 bits holds is what was written
pub read_back : (z : ℤ) → mag z < 9223372036854775808 → to_z w64 (of_z w64 z) ≡ z
read_back z h = to_z-of_z {w = w64} (record { sfits = h })

-- ---- a quotient (R-5)

mag-minus : (r a : ℕ) → r ≤ suc a → mag (neg_ℤ (pos r)) ≤ a
mag-minus zero a h = omega arith
mag-minus (suc r) a h = omega arith

-- it is no larger than what is divided: where a sum fits, so does the average
pub mag-average : (s : ℤ) (k : ℕ) → mag (quot_z s (pos k)) ≤ mag s
mag-average (pos a) k = div-le_self a k
mag-average (negsuc a) k = mag-minus (suc a / k) a (div-le_self (suc a) k)

-- It is cut toward zero: the size of the average is the size of the sum divided by the count,
-- rounded down, whatever the sign of the sum.
pub average_size : (s : ℤ) (k : ℕ) → nat_abs (quot_z s (pos k)) ≡ nat_abs s / k
average_size (pos a) k = refl
average_size (negsuc a) k = size-minus (suc a / k)
  where
    size-minus : (r : ℕ) → nat_abs (neg_ℤ (pos r)) ≡ r
    size-minus zero = refl
    size-minus (suc r) = refl

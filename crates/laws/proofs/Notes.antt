-- The notes: bit x of the bytes, lowest bit first in each byte, as a list of Booleans; marking a
-- bit is marking the list.
use mathlib.Core.Path.{◌≡◌, refl, ap, sym, ◌∙◌}
use mathlib.Core.List.{List}
use mathlib.Core.Bool.{true, false}
use mathlib.Core.Logic.{◌≢◌}
use Prim.Native.Nat.{ℕ, zero, suc, ◌+◌, ◌*◌, ◌/◌, ◌%◌, ◌^◌, ◌<◌}
use native.Mathlib.Nat.{le_of_suc-le-suc, not-suc-le-zero, add-zero, pow-suc, mul_comm, div-div-eq-div-mul, div-one}
use native.Mathlib.Decide.{ℕ_discrete}
use native.Mathlib.Omega.{arith}
use lib.ListN.{length, get_or, set, length-set}
use lib.Seq.{get_or-set_same, get_or-set_other, ext_get_or}
use lib.Dec.{eqb}
use borrow.Author.Tests.{eqb-false, eq-eqb}
use Rattle.rules.specs.Report.{bit_of, bit_at}
use Rattle.rules.specs.Working.{marked, bits_from, bits_of}

-- ---- a digit

pub bit_of-small : (k b : ℕ) → bit_of k b < 2
unfolding bit_of
bit_of-small zero b = omega arith
bit_of-small (suc k) b = bit_of-small k (b / 2)

-- as the code computes it
pub bit_of-is : (k b : ℕ) → bit_of k b ≡ (b / 2 ^ k) % 2
unfolding bit_of
bit_of-is zero b = rw div-one
bit_of-is (suc k) b = rw (bit_of-is k (b / 2), div-div-eq-div-mul, pow-suc, mul_comm (2 ^ k) 2)

pub bit_of-same : (k b : ℕ) → bit_of k b ≡ 0 → bit_of k (b + 2 ^ k) ≡ 1
unfolding bit_of
bit_of-same zero b h = omega arith
bit_of-same (suc k) b h =
    let e : (b + 2 ^ suc k) / 2 ≡ b / 2 + 2 ^ k = omega arith in
    rw e (bit_of-same k (b / 2) h)

pub bit_of-other : (k j b : ℕ) → k ≢ j → bit_of k b ≡ 0 → bit_of j (b + 2 ^ k) ≡ bit_of j b
unfolding bit_of
bit_of-other zero zero b n h = absurd (n refl)
bit_of-other zero (suc j) b n h = let e : (b + 2 ^ 0) / 2 ≡ b / 2 = omega arith in rw e
bit_of-other (suc k) zero b n h = omega arith
bit_of-other (suc k) (suc j) b n h =
    let e : (b + 2 ^ suc k) / 2 ≡ b / 2 + 2 ^ k = omega arith in
    rw e (bit_of-other k j (b / 2) (λ q. n (ap suc q)) h)

pub bit_of-fits : (m k b : ℕ) → b < 2 ^ m → k < m → bit_of k b ≡ 0 → b + 2 ^ k < 2 ^ m
unfolding bit_of
bit_of-fits zero k b h l z = absurd (not-suc-le-zero l)
bit_of-fits (suc m) zero b h l z = omega arith
bit_of-fits (suc m) (suc k) b h l z = let i : b / 2 + 2 ^ k < 2 ^ m = bit_of-fits m k (b / 2) (omega arith) (le_of_suc-le-suc l) z in omega arith

-- ---- the list

pub bits_from-length : (notes : List ℕ) (n i : ℕ) → length (bits_from notes i n) ≡ n
unfolding bits_from
bits_from-length notes zero i = refl
bits_from-length notes (suc n) i = ap suc (bits_from-length notes n (suc i))

pub bits_from-at : (notes : List ℕ) (n i k : ℕ) → k < n → get_or (bits_from notes i n) k false ≡ bit_at notes (i + k)
unfolding bits_from
bits_from-at notes zero i k h = absurd (not-suc-le-zero h)
bits_from-at notes (suc n) i zero h = rw add-zero
bits_from-at notes (suc n) i (suc k) h =
    let e : i + suc k ≡ suc i + k = omega arith in
    rw e (bits_from-at notes n (suc i) k (le_of_suc-le-suc h))

pub bits_of-at : (notes : List ℕ) (n k : ℕ) → k < n → get_or (bits_of notes n) k false ≡ bit_at notes k
bits_of-at notes n k h = let e : 0 + k ≡ k = omega arith in rw e at (bits_from-at notes n 0 k h)

bit-clear : (notes : List ℕ) (x : ℕ) → bit_at notes x ≡ false → bit_of (x % 8) (get_or notes (x / 8) 0) ≡ 0
unfolding bit_at
bit-clear notes x h = let s = bit_of-small (x % 8) (get_or notes (x / 8) 0) in let n = eqb-false (bit_of (x % 8) (get_or notes (x / 8) 0)) 1 h in omega arith

bit-set : (notes : List ℕ) (x : ℕ) → x / 8 < length notes → bit_at notes x ≡ false → bit_at (marked notes x) x ≡ true
unfolding bit_at marked
bit-set notes x l h = rw (get_or-set_same notes (x / 8) (get_or notes (x / 8) 0 + 2 ^ (x % 8)) 0 l) (eq-eqb _ 1 (bit_of-same (x % 8) (get_or notes (x / 8) 0) (bit-clear notes x h)))

pub bit-keep : (notes : List ℕ) (x y : ℕ) → x / 8 < length notes → bit_at notes x ≡ false → y ≢ x → bit_at (marked notes x) y ≡ bit_at notes y
unfolding bit_at marked
bit-keep notes x y l h n = go (ℕ_discrete (y / 8) (x / 8))
  where
    go : Dec (y / 8 ≡ x / 8) → eqb (bit_of (y % 8) (get_or (set notes (x / 8) (get_or notes (x / 8) 0 + 2 ^ (x % 8))) (y / 8) 0)) 1 ≡ eqb (bit_of (y % 8) (get_or notes (y / 8) 0)) 1
    go (yes e) = rw (e, get_or-set_same notes (x / 8) (get_or notes (x / 8) 0 + 2 ^ (x % 8)) 0 l, bit_of-other (x % 8) (y % 8) (get_or notes (x / 8) 0) (λ (q : x % 8 ≡ y % 8). n (omega arith)) (bit-clear notes x h))
    go (no d) = rw (get_or-set_other notes (x / 8) (y / 8) (get_or notes (x / 8) 0 + 2 ^ (x % 8)) 0 d)

pub bits_mark : (notes : List ℕ) (n x : ℕ) → x < n → x / 8 < length notes → bit_at notes x ≡ false → bits_of (marked notes x) n ≡ set (bits_of notes n) x true
bits_mark notes n x lt l h =
    ext_get_or false (bits_of (marked notes x) n) (set (bits_of notes n) x true)
    (bits_from-length (marked notes x) n 0 ∙ sym (length-set (bits_of notes n) x true ∙ bits_from-length notes n 0))
    (λ i hi. go i (rw (bits_from-length (marked notes x) n 0) at hi) (ℕ_discrete i x))
  where
    go : (i : ℕ) → i < n → Dec (i ≡ x) → get_or (bits_of (marked notes x) n) i false ≡ get_or (set (bits_of notes n) x true) i false
    go i hi (yes e) =
        rw (bits_of-at (marked notes x) n i hi, e, bit-set notes x l h, get_or-set_same (bits_of notes n) x true false (rw (bits_from-length notes n 0) lt))
    go i hi (no d) = bits_of-at (marked notes x) n i hi ∙ bit-keep notes x i l h d ∙ sym (get_or-set_other (bits_of notes n) x i true false d ∙ bits_of-at notes n i hi)

-- ---- in the code's terms

pub bit_at-code : (notes : List ℕ) (x : ℕ) → eqb ((get_or notes (x / 8) 0 / 2 ^ (x % 8)) % 2) 1 ≡ bit_at notes x
unfolding bit_at
bit_at-code notes x = rw (bit_of-is (x % 8) (get_or notes (x / 8) 0))

pub pow_below : (m k : ℕ) → k < m → 2 ^ k < 2 ^ m
pow_below zero k h = absurd (not-suc-le-zero h)
pow_below (suc m) zero h = let p = pow_pos m in omega arith
  where
    pow_pos : (m : ℕ) → 0 < 2 ^ m
    pow_pos zero = omega arith
    pow_pos (suc m) = let p = pow_pos m in omega arith
pow_below (suc m) (suc k) h = let p = pow_below m k (le_of_suc-le-suc h) in omega arith

pub shift_one : (x : ℕ) → (1 * 2 ^ (x % 8)) % 256 ≡ 2 ^ (x % 8)
shift_one x = let p : 2 ^ (x % 8) < 256 = pow_below 8 (x % 8) (omega arith) in omega arith

pub mark-fits : (notes : List ℕ) (x : ℕ) → get_or notes (x / 8) 0 < 256 → bit_at notes x ≡ false → get_or notes (x / 8) 0 + (1 * 2 ^ (x % 8)) % 256 < 256
mark-fits notes x h e = rw (shift_one x) (bit_of-fits 8 (x % 8) (get_or notes (x / 8) 0) h (omega arith) (bit-clear notes x e))

pub mark_code : (notes : List ℕ) (x : ℕ) → set notes (x / 8) (get_or notes (x / 8) 0 + (1 * 2 ^ (x % 8)) % 256) ≡ marked notes x
unfolding marked
mark_code notes x = rw (shift_one x)

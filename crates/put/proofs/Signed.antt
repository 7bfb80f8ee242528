-- A signed number as a sign and a size, and its decimal text.
use mathlib.Core.Path.{◌≡◌, refl, sym, ap, ◌∙◌}
use mathlib.Core.Bool.{Bool, true, false}
use mathlib.Core.List.{List, [], ◌∷◌}
use Prim.Native.Nat.{ℕ, suc, ◌+◌, ◌≤◌, ◌<◌}
use native.Mathlib.Omega.{arith}
use lib.IntN.{ℤ, pos, negsuc, nat_abs}
use lib.Signed.{mag, lt_z}
use mir.Syntax.{w64}
use mir.Val.{SFits, to_z, of_z}
use mir.Facts.{to_z-of_z}
use borrow.Author.Tests.{ltb-true}
use lib.ListN.{length}
use Rattle.rules.specs.Program.{decimal, signed_decimal}
use Rattle.put.specs.Put.{Put}
use Rattle.put.proofs.Digits.{few_digits}
use Rattle.put.proofs.Writing.{put_both, put_long}

-- a number as it is read back from the bits that hold it: the same, by `to_z-of_z`, where it fits
abbrev pub held : ℤ → ℤ
held n = to_z w64 (of_z w64 n)

-- a test of a signed number is of what its bits stand for
pub tested : (n : ℤ) (b : Bool) → SFits w64 n → lt_z (held n) (pos 0) ≡ b → lt_z n (pos 0) ≡ b
tested n b f e = ap (λ (z : ℤ). lt_z z (pos 0)) (sym (to_z-of_z f)) ∙ e

is-negsuc : (n : ℤ) → lt_z n (pos 0) ≡ true → n ≡ negsuc (mag n)
is-negsuc (pos k) e = absurd (omega (arith, ltb-true k 0 e))
is-negsuc (negsuc k) e = refl

module _ (n : ℤ) (f : SFits w64 n) where
  pub size-kept : nat_abs (held n) ≡ nat_abs n
  size-kept = ap nat_abs (to_z-of_z f)

  -- the text of a number below 0, and of one that is not
  pub with_minus : lt_z (held n) (pos 0) ≡ true → signed_decimal n ≡ 45 ∷ decimal (nat_abs n)
  unfolding signed_decimal
  with_minus t = by n (tested n true f t)
    where
      by : (n : ℤ) → lt_z n (pos 0) ≡ true → signed_decimal n ≡ 45 ∷ decimal (nat_abs n)
      by (pos k) e = absurd (omega (arith, ltb-true k 0 e))
      by (negsuc k) e = refl

  pub no_minus : lt_z (held n) (pos 0) ≡ false → signed_decimal n ≡ decimal (nat_abs n)
  unfolding signed_decimal
  no_minus t = by n (tested n false f t)
    where
      by : (n : ℤ) → lt_z n (pos 0) ≡ false → signed_decimal n ≡ decimal (nat_abs n)
      by (pos k) e = refl
      by (negsuc k) e = absurd (let z : ◌≡◌ {A = ℕ} 0 1 = cc in omega arith)

-- ---- the code's two ways, where s is what the size function gave

module _ (l : List ℕ) (at : ℕ) (n : ℤ) (room : at + length (signed_decimal n) ≤ length l) (f : SFits w64 n) where
  module _ (t : lt_z (held n) (pos 0) ≡ true) where
    text : signed_decimal n ≡ 45 ∷ decimal (nat_abs n)
    text = with_minus n f t

    pub minus-room : at < length l
    minus-room = omega (arith, ap length text)

    -- behind any one byte there is room for the digits, and behind a minus they are the number's
    -- text
    module _ (m : List ℕ) (b s : ℕ) (e : s ≡ nat_abs (held n)) where
      pub digits-room : (v : ℕ) → Put l at (v ∷ []) m b → b + length (decimal s) ≤ length m
      digits-room v p = rw (e, size-kept n f) (omega (arith, p.ends, ap length text, put_long l at (v ∷ []) m b p))

      pub put_minus : (o : List ℕ) (g : ℕ) → Put l at (45 ∷ []) m b → Put m b (decimal s) o g → Put l at (signed_decimal n) o g
      put_minus o g p q = rw text (put_both l at (45 ∷ []) m b (decimal (nat_abs n)) o g p (rw (e, size-kept n f) at q))

  module _ (t : lt_z (held n) (pos 0) ≡ false) (s : ℕ) (e : s ≡ nat_abs (held n)) where
    pub plain-room : at + length (decimal s) ≤ length l
    plain-room = rw (e, size-kept n f, ← no_minus n f t) room

    pub put_plain : (o : List ℕ) (g : ℕ) → Put l at (decimal s) o g → Put l at (signed_decimal n) o g
    put_plain o g q = rw (no_minus n f t, ← size-kept n f, ← e) q

-- ---- a number of 64 bits has at most 19 digits, and a sign

pub number-long : (v : ℤ) → SFits w64 v → length (signed_decimal v) ≤ 20
unfolding signed_decimal
number-long (pos n) f = let g = f.sfits in omega (arith, few_digits 18 n (omega arith))
number-long (negsuc n) f = let g = f.sfits in omega (arith, few_digits 18 (suc n) (omega arith))

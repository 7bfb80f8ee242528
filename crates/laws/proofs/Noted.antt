-- What the notes hold after a search, as document 01 words it: bit x, lowest bit first in each
-- byte, is 1 exactly if pair x has failed, and spare bits of the last byte are 0.
use mathlib.Core.Path.{◌≡◌, refl, ap, ◌∙◌}
use mathlib.Core.Bool.{Bool, true, false}
use mathlib.Core.List.{List}
use mathlib.Core.Logic.{◌≢◌}
use Prim.Native.Nat.{ℕ, zero, suc, ◌+◌, ◌*◌, ◌/◌, ◌%◌, ◌^◌, ◌≤◌, ◌<◌}
use native.Mathlib.Nat.{not-suc-le-zero}
use native.Mathlib.Omega.{arith}
use lib.Dec.{ltb, eqb}
use lib.ListN.{length, get_or}
use borrow.Author.Tests.{ltb-true, ltb-false}
use Rattle.rules.specs.Basics.{pick}
use Rattle.rules.specs.Report.{bytes_for, bit_of, bit_at, weigh, notes_of}
use Rattle.laws.proofs.Lists.{length-tabulate, get_d_tabulate}
use Rattle.laws.proofs.Notes.{bit_of-same, bit_of-other}

module _ (f : ℕ → Bool) where
  -- bits k and above of a number of k bits are 0
  bit-above : (k j b : ℕ) → b < 2 ^ k → k ≤ j → bit_of j b ≡ 0
  unfolding bit_of
  bit-above zero zero b h l = omega arith
  bit-above zero (suc j) b h l = let e : b / 2 ≡ b = omega arith in rw e (bit-above zero j b h (omega arith))
  bit-above (suc k) zero b h l = absurd (not-suc-le-zero l)
  bit-above (suc k) (suc j) b h l = bit-above k j (b / 2) (omega arith) (omega arith)

  pub weigh-small : (k : ℕ) → weigh k f < 2 ^ k
  unfolding weigh
  weigh-small zero = omega arith
  weigh-small (suc k) = go (weigh-small k) (f k)
    where
      go : weigh k f < 2 ^ k → (t : Bool) → weigh k f + pick t (2 ^ k) 0 < 2 ^ suc k
      go h true = omega arith
      go h false = omega arith

  abbrev digit : Bool → ℕ
  digit t = pick t 1 0

  weigh-bit : (k j : ℕ) → j < k → bit_of j (weigh k f) ≡ digit (f j)
  unfolding weigh
  weigh-bit zero j h = absurd (not-suc-le-zero h)
  weigh-bit (suc k) j h = go (λ l. weigh-bit k j l) (ltb j k) refl
    where
      top : (t : Bool) → bit_of k (weigh k f) ≡ 0 → bit_of k (weigh k f + pick t (2 ^ k) 0) ≡ digit t
      top true z = bit_of-same k (weigh k f) z
      top false z = let e : weigh k f + 0 ≡ weigh k f = omega arith in rw e z

      low : (t : Bool) → k ≢ j → bit_of k (weigh k f) ≡ 0 → bit_of j (weigh k f) ≡ digit (f j) → bit_of j (weigh k f + pick t (2 ^ k) 0) ≡ digit (f j)
      low true n z ih = bit_of-other k j (weigh k f) n z ∙ ih
      low false n z ih = let e : weigh k f + 0 ≡ weigh k f = omega arith in rw e ih

      go : (j < k → bit_of j (weigh k f) ≡ digit (f j)) → (t : Bool) → ltb j k ≡ t → bit_of j (weigh k f + pick (f k) (2 ^ k) 0) ≡ digit (f j)
      go ih true e =
          let l : j < k = ltb-true j k e in
          low (f k) (λ (q : k ≡ j). omega arith) (bit-above k k (weigh k f) (weigh-small k) (omega arith)) (ih l)
      go ih false e =
          let q : j ≡ k = omega (arith, ltb-false j k e) in
          rw q (top (f k) (bit-above k k (weigh k f) (weigh-small k) (omega arith)))

digit-is : (t : Bool) → eqb (pick t 1 0) 1 ≡ t
digit-is true = refl
digit-is false = refl

pub length-notes : (F : List Bool) → length (notes_of F) ≡ bytes_for (length F)
unfolding notes_of
length-notes F = length-tabulate _ _

-- bit x of the notes, up to the end of their last byte
pub noted : (F : List Bool) (x : ℕ) → x < 8 * bytes_for (length F) → bit_at (notes_of F) x ≡ get_or F x false
unfolding notes_of bit_at
noted F x h =
    let d : 8 * (x / 8) + x % 8 ≡ x = omega arith in
    let b : get_or (notes_of F) (x / 8) 0 ≡ weigh 8 (λ j. get_or F (8 * (x / 8) + j) false) =
    get_d_tabulate (bytes_for (length F)) (λ b. weigh 8 (λ j. get_or F (8 * b + j) false)) (x / 8) 0 (omega arith) in
    let w : bit_of (x % 8) (weigh 8 (λ j. get_or F (8 * (x / 8) + j) false)) ≡ pick (get_or F (8 * (x / 8) + x % 8) false) 1 0 =
    weigh-bit (λ j. get_or F (8 * (x / 8) + j) false) 8 (x % 8) (omega arith) in
    ap (λ (v : ℕ). eqb (bit_of (x % 8) v) 1) b ∙ ap (λ (v : ℕ). eqb v 1) w ∙ digit-is (get_or F (8 * (x / 8) + x % 8) false) ∙ ap (λ (k : ℕ). get_or F k false) d

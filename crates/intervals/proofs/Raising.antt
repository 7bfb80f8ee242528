-- Numbers raised by 2 ^ 33: their order is that of the numbers, and a sum and a difference are
-- those of the raised ones.
use Rattle.std.proofs.Common.{◌≡◌, ℕ, zero, suc, ◌+◌, ◌-◌, ◌<◌, ◌≤◌, ltb, leb, ℤ, pos, negsuc, ◌+ℤ◌, ◌-ℤ◌, neg_ℤ, sym, refl, ◌∙◌, arith, ltb-false, ltb-true, le-ltb, lt-ltb, le-leb, leb-false, leb-true}
use lib.Signed.{mag, lt_z, le_z}
use borrow.Author.Tests.{lt-leb}
use Rattle.laws.proofs.Choice.{decided}
use Rattle.table.specs.Tests.{raised}

-- ---- two tests with the same value

same-lt : (a b c d : ℕ) → (a < b → c < d) → (b ≤ a → d ≤ c) → ltb a b ≡ ltb c d
same-lt a b c d f g = decided (ltb a b) (λ e. e ∙ sym (lt-ltb c d (f (ltb-true a b e)))) (λ e. e ∙ sym (le-ltb c d (g (ltb-false a b e))))

same-le : (a b c d : ℕ) → (a ≤ b → c ≤ d) → (b < a → d < c) → leb a b ≡ leb c d
same-le a b c d f g = decided (leb a b) (λ e. e ∙ sym (le-leb c d (f (leb-true a b e)))) (λ e. e ∙ sym (lt-leb c d (g (leb-false a b e))))

-- ---- bounds and order

pub raised-some : (d : ℤ) → mag d < 4294967296 → 0 < raised d
unfolding raised
raised-some (pos k) h = omega arith
raised-some (negsuc k) h = omega arith

pub raised-few : (d : ℤ) → mag d < 8589934592 → raised d < 17179869184
unfolding raised
raised-few (pos k) h = omega arith
raised-few (negsuc k) h = omega arith

pub raised_lt : (a b : ℤ) → mag a < 8589934592 → mag b < 8589934592 → lt_z a b ≡ ltb (raised a) (raised b)
unfolding raised
raised_lt (pos a) (pos b) h g = same-lt a b (a + 8589934592) (b + 8589934592) (λ l. omega arith) (λ l. omega arith)
raised_lt (pos a) (negsuc b) h g = sym (le-ltb (a + 8589934592) (8589934591 - b) (omega arith))
raised_lt (negsuc a) (pos b) h g = sym (lt-ltb (8589934591 - a) (b + 8589934592) (omega arith))
raised_lt (negsuc a) (negsuc b) h g = same-lt b a (8589934591 - a) (8589934591 - b) (λ l. omega arith) (λ l. omega arith)

pub raised-le : (a b : ℤ) → mag a < 8589934592 → mag b < 8589934592 → le_z a b ≡ leb (raised a) (raised b)
unfolding raised
raised-le (pos a) (pos b) h g = same-le a b (a + 8589934592) (b + 8589934592) (λ l. omega arith) (λ l. omega arith)
raised-le (pos a) (negsuc b) h g = sym (lt-leb (a + 8589934592) (8589934591 - b) (omega arith))
raised-le (negsuc a) (pos b) h g = sym (le-leb (8589934591 - a) (b + 8589934592) (omega arith))
raised-le (negsuc a) (negsuc b) h g = same-le b a (8589934591 - a) (8589934591 - b) (λ l. omega arith) (λ l. omega arith)

-- ---- sums and differences

taken : (a b : ℕ) → a < 4294967296 → b < 4294967296 → raised (pos a +ℤ negsuc b) + 8589934592 ≡ a + 8589934592 + (8589934591 - b)
unfolding raised
taken a b h g =
    decided (ltb a (suc b))
    (λ e. let l = ltb-true a (suc b) e in simp e (omega arith))
    (λ e. let l = ltb-false a (suc b) e in simp e (omega arith))

pub raised-sum : (a b : ℤ) → mag a < 4294967296 → mag b < 4294967296 → raised (a +ℤ b) + 8589934592 ≡ raised a + raised b
unfolding raised
raised-sum (pos a) (pos b) h g = omega arith
raised-sum (pos a) (negsuc b) h g = taken a b h g
raised-sum (negsuc a) (pos b) h g = taken b a g h ∙ (let e : b + 8589934592 + (8589934591 - a) ≡ 8589934591 - a + (b + 8589934592) = omega arith in e)
raised-sum (negsuc a) (negsuc b) h g = omega arith

turned : (b : ℤ) → mag b < 2147483648 → raised (neg_ℤ b) + raised b ≡ 17179869184
unfolding raised
turned (pos zero) h = refl
turned (pos (suc k)) h = omega arith
turned (negsuc k) h = omega arith

turned_small : (b : ℤ) → mag (neg_ℤ b) ≤ suc (mag b)
turned_small (pos zero) = omega arith
turned_small (pos (suc k)) = omega arith
turned_small (negsuc k) = omega arith

module _ (a b : ℤ) (h : mag a < 2147483648) (g : mag b < 2147483648) where
  pub raised-difference : raised (a -ℤ b) + raised b ≡ raised a + 8589934592
  raised-difference =
      let s = turned_small b in
      let e = raised-sum a (neg_ℤ b) (omega arith) (omega arith) in
      let f = turned b g in
      omega arith

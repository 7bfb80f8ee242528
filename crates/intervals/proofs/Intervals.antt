-- The six operators as intervals: what an operator asks of a against b is that d, raised, lies in
-- the interval of the operator and a number x, raised, wherever a is as far from b as d is from x.
use Rattle.std.proofs.Common.{◌≡◌, ℕ, ◌+◌, ◌-◌, ◌%◌, ◌<◌, ◌≤◌, true, false, ◌&&◌, ◌||◌, eqb, ltb, leb, ℤ, ◌+ℤ◌, ◌-ℤ◌, refl, ap, arith, ltb-false, ltb-true, le-ltb, lt-ltb, le-leb, leb-false, leb-true}
use lib.Signed.{mag}
use borrow.Author.Tests.{lt-leb}
use Rattle.rules.specs.Rows.{compares}
use Rattle.laws.proofs.Choice.{decided}
use Rattle.laws.proofs.Signed.{mag-add}
use Rattle.table.specs.Tests.{raised, raised_word, low_of, width_of}
use Rattle.intervals.specs.Intervals.{in_interval}
use Rattle.intervals.proofs.Raising.{raised-some, raised-few, raised_lt, raised-le, raised-sum, raised-difference}

-- ---- in an interval or not

module _ (x low width : ℕ) where
  in_above : low ≤ x → x ≤ low + width → in_interval x low width ≡ true
  unfolding in_interval
  in_above h g = simp (le-leb low x h) (le-leb (x - low) width (omega arith))

  out-above : low ≤ x → low + width < x → in_interval x low width ≡ false
  unfolding in_interval
  out-above h g = simp (le-leb low x h) (lt-leb (x - low) width (omega arith))

  in_below : x < low → 18446744073709551616 + x ≤ low + width → in_interval x low width ≡ true
  unfolding in_interval
  in_below h g = simp (lt-leb low x h) (le-leb (18446744073709551616 + x - low) width (omega arith))

  out_below : x < low → low + width < 18446744073709551616 + x → in_interval x low width ≡ false
  unfolding in_interval
  out_below h g = simp (lt-leb low x h) (lt-leb (18446744073709551616 + x - low) width (omega arith))

  -- the code's test, of the difference that wraps
  pub wraps_within : (y r : ℕ) → y ≡ x → (r + low) % 18446744073709551616 ≡ y → r < 18446744073709551616 → low < 18446744073709551616 → leb r width ≡ in_interval x low width
  unfolding in_interval
  wraps_within y r q e h g =
      decided (leb low x)
      (λ t. let l = leb-true low x t in simp t (ap (λ (k : ℕ). leb k width) (let z : r ≡ x - low = omega arith in z)))
      (λ t. let l = leb-false low x t in simp t (ap (λ (k : ℕ). leb k width) (let z : r ≡ 18446744073709551616 + x - low = omega arith in z)))

-- the same where the interval's first number is told less 2 ^ 33, and as much is taken from the
-- raised number
pub plain-within : (x low width y u r : ℕ) → y ≡ x → (u + 8589934592) % 18446744073709551616 ≡ y → (r + low) % 18446744073709551616 ≡ u
    → r < 18446744073709551616 → low < 18446744073709551616 → leb r width ≡ in_interval x (raised_word low) width
unfolding raised_word
plain-within x low width y u r q e f h g =
    wraps_within x ((low + 8589934592) % 18446744073709551616) width y r q
    (let z : (r + (low + 8589934592) % 18446744073709551616) % 18446744073709551616 ≡ y = omega arith in z) h (omega arith)

order : (d x : ℕ) {G : Type 0} → (d < x → G) → (d ≡ x → G) → (x < d → G) → G
order d x f g h = decided (ltb d x) (λ e. f (ltb-true d x e)) (λ e. decided (ltb x d) (λ u. h (ltb-true x d u)) (λ u. g (let a = ltb-false d x e in let b = ltb-false x d u in omega arith)))

-- ---- on raised numbers: a is as far from b as d is from x

module _ (a b d x : ℕ) (e : a + x ≡ d + b) (few : d < 17179869184) (some : 0 < x) (most : x < 17179869184) where
  equal_is : in_interval d x 0 ≡ (leb a b && leb b a)
  equal_is =
      order d x
      (λ l. rw (out_below d x 0 l (omega arith), le-leb a b (omega arith), lt-leb b a (omega arith)))
      (λ l. rw (in_above d x 0 (omega arith) (omega arith), le-leb a b (omega arith), le-leb b a (omega arith)))
      (λ l. rw (out-above d x 0 (omega arith) (omega arith), lt-leb a b (omega arith)))

  unequal_is : in_interval d (x + 1) 18446744073709551614 ≡ (ltb a b || ltb b a)
  unequal_is =
      order d x
      (λ l. rw (in_below d (x + 1) 18446744073709551614 (omega arith) (omega arith), lt-ltb a b (omega arith)))
      (λ l. rw (out_below d (x + 1) 18446744073709551614 (omega arith) (omega arith), le-ltb a b (omega arith), le-ltb b a (omega arith)))
      (λ l. rw (in_above d (x + 1) 18446744073709551614 (omega arith) (omega arith), le-ltb a b (omega arith), lt-ltb b a (omega arith)))

  less_is : in_interval d 0 (x - 1) ≡ ltb a b
  less_is =
      order d x
      (λ l. rw (in_above d 0 (x - 1) (omega arith) (omega arith), lt-ltb a b (omega arith)))
      (λ l. rw (out-above d 0 (x - 1) (omega arith) (omega arith), le-ltb a b (omega arith)))
      (λ l. rw (out-above d 0 (x - 1) (omega arith) (omega arith), le-ltb a b (omega arith)))

  most-is : in_interval d 0 x ≡ leb a b
  most-is =
      order d x
      (λ l. rw (in_above d 0 x (omega arith) (omega arith), le-leb a b (omega arith)))
      (λ l. rw (in_above d 0 x (omega arith) (omega arith), le-leb a b (omega arith)))
      (λ l. rw (out-above d 0 x (omega arith) (omega arith), lt-leb a b (omega arith)))

  greater_is : in_interval d (x + 1) (18446744073709551614 - x) ≡ ltb b a
  greater_is =
      order d x
      (λ l. rw (out_below d (x + 1) (18446744073709551614 - x) (omega arith) (omega arith), le-ltb b a (omega arith)))
      (λ l. rw (out_below d (x + 1) (18446744073709551614 - x) (omega arith) (omega arith), le-ltb b a (omega arith)))
      (λ l. rw (in_above d (x + 1) (18446744073709551614 - x) (omega arith) (omega arith), lt-ltb b a (omega arith)))

  least_is : in_interval d x (18446744073709551615 - x) ≡ leb b a
  least_is =
      order d x
      (λ l. rw (out_below d x (18446744073709551615 - x) (omega arith) (omega arith), lt-leb b a (omega arith)))
      (λ l. rw (in_above d x (18446744073709551615 - x) (omega arith) (omega arith), le-leb b a (omega arith)))
      (λ l. rw (in_above d x (18446744073709551615 - x) (omega arith) (omega arith), le-leb b a (omega arith)))

-- ---- on the numbers

module _ (op : ℕ) (a b d x : ℤ) (ha : mag a < 4294967297) (hb : mag b < 4294967297) (hd : mag d < 4294967296) (hx : mag x < 4294967296)
    (e : raised a + raised x ≡ raised d + raised b) where
  operator-is : in_interval (raised d) (low_of op (raised x)) (width_of op (raised x)) ≡ compares op a b
  unfolding compares low_of width_of
  operator-is =
      let few = raised-few d (omega arith) in
      let some = raised-some x hx in
      let most = raised-few x (omega arith) in
      let ab = raised-le a b (omega arith) (omega arith) in
      let ba = raised-le b a (omega arith) (omega arith) in
      let lab = raised_lt a b (omega arith) (omega arith) in
      let lba = raised_lt b a (omega arith) (omega arith) in
      decided (eqb op 1) (λ t. simp (t, ab, ba) (equal_is (raised a) (raised b) (raised d) (raised x) e few some most))
      (λ f1. decided (eqb op 2) (λ t. simp (f1, t, lab, lba) (unequal_is (raised a) (raised b) (raised d) (raised x) e few some most))
      (λ f2. decided (eqb op 3) (λ t. simp (f1, f2, t, lab) (less_is (raised a) (raised b) (raised d) (raised x) e few some most))
      (λ f3. decided (eqb op 4) (λ t. simp (f1, f2, f3, t, ab) (most-is (raised a) (raised b) (raised d) (raised x) e few some most))
      (λ f4. decided (eqb op 5) (λ t. simp (f1, f2, f3, f4, t, lba) (greater_is (raised a) (raised b) (raised d) (raised x) e few some most))
      (λ f5. simp (f1, f2, f3, f4, f5, ba) (least_is (raised a) (raised b) (raised d) (raised x) e few some most))))))

-- a number against a number
pub number_is : (op : ℕ) (a x : ℤ) → mag a < 2147483648 → mag x < 2147483648 → in_interval (raised a) (low_of op (raised x)) (width_of op (raised x)) ≡ compares op a x
number_is op a x h g = operator-is op a x a x (omega arith) (omega arith) (omega arith) (omega arith) refl

-- an entry against an entry and a number
pub column_is : (op : ℕ) (a b x : ℤ) → mag a < 2147483648 → mag b < 2147483648 → mag x < 2147483648 → mag (a -ℤ b) < 4294967296
    → in_interval (raised (a -ℤ b)) (low_of op (raised x)) (width_of op (raised x)) ≡ compares op a (b +ℤ x)
column_is op a b x h g f k =
    let m = mag-add b x in
    let s = raised-sum b x (omega arith) (omega arith) in
    let t = raised-difference a b h g in
    operator-is op a (b +ℤ x) (a -ℤ b) x (omega arith) (omega arith) k (omega arith) (let e : raised a + raised x ≡ raised (a -ℤ b) + raised (b +ℤ x) = omega arith in e)

-- The numbers that the program prints: any bound on the digits that is large enough gives the same
-- (`decimal-is`); read as a decimal they have the number's value, and only 0 begins with a 0.
use mathlib.Core.Path.{◌≡◌, refl, ap, ◌∙◌}
use mathlib.Core.Bool.{Bool, true, false}
use mathlib.Core.List.{List, [], ◌∷◌, ◌++◌}
use Prim.Native.Nat.{ℕ, zero, suc, ◌+◌, ◌*◌, ◌-◌, ◌/◌, ◌%◌, ◌^◌, ◌≤◌, ◌<◌}
use native.Mathlib.Nat.{not-suc-le-zero, pow-suc, div-lt_iff_lt-mul}
use native.Mathlib.Omega.{arith}
use lib.Dec.{ltb}
use borrow.Author.Tests.{ltb-true, ltb-false}
use Rattle.rules.specs.Basics.{pick}
use Rattle.rules.specs.Program.{digits_of, decimal}

-- the value of decimal digits behind a number a
unfoldable pub value : ℕ → List ℕ → ℕ
value a [] = a
value a (d ∷ ds) = value (a * 10 + (d - 48)) ds

value-last : (a : ℕ) (ds : List ℕ) (d : ℕ) → value a (ds ++ ((48 + d) ∷ [])) ≡ value a ds * 10 + d
unfolding value
value-last a [] d = omega arith
value-last a (e ∷ ds) d = value-last (a * 10 + (e - 48)) ds d

-- a tenth of a number has one digit less
tenth : (k n : ℕ) → n < 10 ^ suc k → n / 10 < 10 ^ k
tenth k n h =
    let e : 10 ^ suc k ≡ 10 ^ k * 10 = pow-suc 10 k in
    let l : n < 10 ^ k * 10 = omega (arith, e) in
    let t : 0 < 10 = omega arith in
    (div-lt_iff_lt-mul t).1 l

digits_value : (k n : ℕ) → n < 10 ^ k → value 0 (digits_of k n) ≡ n
unfolding digits_of value
digits_value zero n h = let e : n ≡ 0 = omega arith in rw e
digits_value (suc k) n h = go (digits_value k (n / 10) (tenth k n h)) (ltb n 10) refl
  where
    small : value 0 ((48 + n) ∷ []) ≡ n
    small = omega arith

    go : value 0 (digits_of k (n / 10)) ≡ n / 10 → (t : Bool) → ltb n 10 ≡ t
        → value 0 (pick t ((48 + n) ∷ []) (digits_of k (n / 10) ++ ((48 + n % 10) ∷ []))) ≡ n
    go ih true e = small
    go ih false e = let b = ltb-false n 10 e in value-last 0 (digits_of k (n / 10)) (n % 10) ∙ omega (arith, ih)

-- ---- the bound on the digits

pub digits_same : (k l n : ℕ) → 1 ≤ k → 1 ≤ l → n < 10 ^ k → n < 10 ^ l → digits_of k n ≡ digits_of l n
unfolding digits_of
digits_same zero l n a b h i = absurd (not-suc-le-zero a)
digits_same (suc k) zero n a b h i = absurd (not-suc-le-zero b)
digits_same (suc k) (suc l) n a b h i = go (λ x y. digits_same k l (n / 10) x y (tenth k n h) (tenth l n i)) (ltb n 10) refl
  where
    -- a number of two digits or more needs a bound of two or more
    long : (k : ℕ) → n < 10 ^ suc k → 10 ≤ n → 1 ≤ k
    long zero h t = absurd (omega arith)
    long (suc k) h t = omega arith

    go : (1 ≤ k → 1 ≤ l → digits_of k (n / 10) ≡ digits_of l (n / 10)) → (t : Bool) → ltb n 10 ≡ t
        → pick t ((48 + n) ∷ []) (digits_of k (n / 10) ++ ((48 + n % 10) ∷ [])) ≡ pick t ((48 + n) ∷ []) (digits_of l (n / 10) ++ ((48 + n % 10) ∷ []))
    go ih true e = refl
    go ih false e =
        let t = ltb-false n 10 e in
        ap (λ (ds : List ℕ). ds ++ ((48 + n % 10) ∷ [])) (ih (long k h t) (long l i t))

below_power : (n : ℕ) → n < 10 ^ n
below_power zero = omega arith
below_power (suc n) = omega (arith, below_power n, pow-suc 10 n)

pub decimal-is : (n : ℕ) → decimal n ≡ digits_of (suc n) n
unfolding decimal
decimal-is n = go (ltb n 100000000000000000000) refl
  where
    go : (t : Bool) → ltb n 100000000000000000000 ≡ t → digits_of (pick t 20 (suc n)) n ≡ digits_of (suc n) n
    go true e =
        let h : n < 10 ^ 20 = ltb-true n 100000000000000000000 e in
        digits_same 20 (suc n) n (omega arith) (omega arith) h (omega (arith, below_power n, pow-suc 10 n))
    go false e = refl

pub decimal-value : (n : ℕ) → value 0 (decimal n) ≡ n
decimal-value n = rw (decimal-is n) (digits_value (suc n) n (omega (arith, below_power n, pow-suc 10 n)))

-- the first digit, 0 if there is none
unfoldable pub first_digit : List ℕ → ℕ
first_digit [] = 0
first_digit (d ∷ ds) = d

first-before : (ds es : List ℕ) → 0 < first_digit ds → first_digit (ds ++ es) ≡ first_digit ds
unfolding first_digit
first-before [] es h = absurd (not-suc-le-zero h)
first-before (d ∷ ds) es h = refl

digits-first : (k n : ℕ) → n < 10 ^ k → 1 ≤ n → 48 < first_digit (digits_of k n)
unfolding digits_of first_digit
digits-first zero n h l = absurd (omega arith)
digits-first (suc k) n h l = go (λ b. digits-first k (n / 10) (tenth k n h) b) (ltb n 10) refl
  where
    go : (1 ≤ n / 10 → 48 < first_digit (digits_of k (n / 10))) → (t : Bool) → ltb n 10 ≡ t
        → 48 < first_digit (pick t ((48 + n) ∷ []) (digits_of k (n / 10) ++ ((48 + n % 10) ∷ [])))
    go ih true e = omega arith
    go ih false e =
        let b = ltb-false n 10 e in
        let i = ih (omega arith) in
        rw (first-before (digits_of k (n / 10)) ((48 + n % 10) ∷ []) (omega arith)) i

pub no-leading_zero : (n : ℕ) → 1 ≤ n → 48 < first_digit (decimal n)
no-leading_zero n l = rw (decimal-is n) (digits-first (suc n) n (omega (arith, below_power n, pow-suc 10 n)) l)

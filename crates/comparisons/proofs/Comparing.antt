-- The operators by the bits of one number, as `compare` reads them.
use Rattle.std.proofs.Common.{◌≡◌, ℕ, zero, suc, ◌+◌, ◌*◌, ◌/◌, ◌%◌, ◌^◌, ◌<◌, Bool, true, false, not, ◌&&◌, ◌||◌, eqb, ltb, leb, ℤ, pos, negsuc, refl, ap, ◌∙◌, arith, to_z-of_z, w64, SFits, to_z, of_z, ltb-false, ltb-true, le-leb}
use lib.Signed.{lt_z, le_z}
use mir.Val.{bool_byte}
use borrow.Author.Tests.{lt-leb}
use Rattle.rules.specs.Basics.{pick}
use Rattle.rules.specs.Rows.{compares}
use Rattle.laws.proofs.Choice.{decided, clash}

-- ---- the four tests of two numbers by two of them

at-most_not : (a b : ℕ) → leb a b ≡ not (ltb b a)
at-most_not a b =
    decided (ltb b a)
    (λ t. let l = ltb-true b a t in simp t (lt-leb a b l))
    (λ t. let l = ltb-false b a t in simp t (le-leb a b l))

less_not : (a b : ℕ) → ltb a b ≡ not (leb b a)
less_not a b =
    decided (ltb a b)
    (λ t. let l = ltb-true a b t in rw (t, lt-leb b a l))
    (λ t. let l = ltb-false a b t in rw (t, le-leb b a l))

le_not : (a b : ℤ) → le_z a b ≡ not (lt_z b a)
le_not (pos a) (pos b) = at-most_not a b
le_not (pos a) (negsuc b) = refl
le_not (negsuc a) (pos b) = refl
le_not (negsuc a) (negsuc b) = at-most_not b a

lt_not : (a b : ℤ) → lt_z a b ≡ not (le_z b a)
lt_not (pos a) (pos b) = less_not a b
lt_not (pos a) (negsuc b) = refl
lt_not (negsuc a) (pos b) = refl
lt_not (negsuc a) (negsuc b) = less_not b a

lt_le : (a b : ℤ) → lt_z a b ≡ true → le_z a b ≡ true
lt_le (pos a) (pos b) e = let l = ltb-true a b e in le-leb a b (omega arith)
lt_le (pos a) (negsuc b) e = e
lt_le (negsuc a) (pos b) e = e
lt_le (negsuc a) (negsuc b) e = let l = ltb-true b a e in le-leb b a (omega arith)

-- ---- the bits

-- t: a is at least b; u: a is above b
unfoldable bit : ℕ → Bool → Bool → Bool
bit op t u = eqb (14299990 / 2 ^ (op * 3 + (bool_byte t + bool_byte u)) % 2) 1

unfoldable said : ℕ → Bool → Bool → Bool
said op t u =
    pick (eqb op 1) (not u && t) (pick (eqb op 2) (not t || u) (pick (eqb op 3) (not t) (pick (eqb op 4) (not u) (pick (eqb op 5) u t))))

three : (op : ℕ) → bit op true true ≡ said op true true → bit op true false ≡ said op true false → bit op false false ≡ said op false false
    → (t u : Bool) → (u ≡ true → t ≡ true) → bit op t u ≡ said op t u
three op e f g true true h = e
three op e f g true false h = f
three op e f g false true h = clash (h refl)
three op e f g false false h = g

eight : (op : ℕ) → op < 8 → (t u : Bool) → (u ≡ true → t ≡ true) → bit op t u ≡ said op t u
unfolding bit said
eight zero h = three 0 refl refl refl
eight (suc zero) h = three 1 refl refl refl
eight (suc (suc zero)) h = three 2 refl refl refl
eight (suc (suc (suc zero))) h = three 3 refl refl refl
eight (suc (suc (suc (suc zero)))) h = three 4 refl refl refl
eight (suc (suc (suc (suc (suc zero))))) h = three 5 refl refl refl
eight (suc (suc (suc (suc (suc (suc zero)))))) h = three 6 refl refl refl
eight (suc (suc (suc (suc (suc (suc (suc zero))))))) h = three 7 refl refl refl
eight (suc (suc (suc (suc (suc (suc (suc (suc k)))))))) h = absurd (omega arith)

said-is : (op : ℕ) (a b : ℤ) → said op (le_z b a) (lt_z b a) ≡ compares op a b
unfolding said compares
said-is op a b = rw (le_not a b, lt_not a b) refl

-- ---- the way through the code

-- what 64 bits hold of a number; the tests are of that
abbrev held : ℤ → ℤ
held z = to_z w64 (of_z w64 z)

module _ (op : ℕ) (a b : ℤ) (fa : SFits w64 a) (fb : SFits w64 b) where
  le_ba : le_z (held b) (held a) ≡ le_z b a
  le_ba = rw (to_z-of_z fa, to_z-of_z fb)

  lt_ba : lt_z (held b) (held a) ≡ lt_z b a
  lt_ba = rw (to_z-of_z fa, to_z-of_z fb)

  pub by_bits : (t u : Bool) (x y : ℕ) → op < 8 → t ≡ le_z (held b) (held a) → x ≡ bool_byte t → u ≡ lt_z (held b) (held a) → y ≡ bool_byte u
      → eqb (14299990 / 2 ^ (op * 3 + (x + y)) % 2) 1 ≡ compares op a b
  unfolding bit
  by_bits t u x y h et ex eu ey =
      ap (λ (k : ℕ). eqb (14299990 / 2 ^ (op * 3 + (k + y)) % 2) 1) (ex ∙ ap bool_byte (et ∙ le_ba))
      ∙ ap (λ (k : ℕ). eqb (14299990 / 2 ^ (op * 3 + (bool_byte (le_z b a) + k)) % 2) 1) (ey ∙ ap bool_byte (eu ∙ lt_ba))
      ∙ eight op h (le_z b a) (lt_z b a) (lt_le b a) ∙ said-is op a b

-- Spots: what row 64 moved by an offset gives as a word, and that a spot gives back its offset and
-- its column.
use mathlib.Core.Path.{◌≡◌, refl, ap, ◌∙◌}
use mathlib.Core.Bool.{true}
use Prim.Native.Nat.{ℕ, suc, ◌+◌, ◌*◌, ◌-◌, ◌/◌, ◌≤◌, ◌<◌}
use native.Mathlib.Omega.{arith}
use native.Mathlib.Nat.{mul-le-mul, mul-add-mod_self_right, mul-add-div_right, mod-eq_of_lt, div-eq_of_lt}
use lib.IntN.{ℤ, pos, negsuc, nat_abs, ◌+ℤ◌, +ℤ_assoc, +ℤ_comm, +ℤ_idr}
use lib.Signed.{mag, le_z}
use mir.Syntax.{w8, w64}
use mir.Val.{Fits, to_z, of_z}
use mir.Facts.{to_z-of_z}
use borrow.Author.Tests.{le-ltb, le-leb, leb-true}
use Rattle.rules.specs.Basics.{signed8}
use Rattle.rules.specs.Query.{offset_fits}
use Rattle.laws.proofs.Choice.{clash, and_left}
use Rattle.laws.proofs.Signed.{mag-add}
use Rattle.table.specs.Tests.{offset_of, column_of}
use Rattle.comparison_words.specs.Words.{spot_of}

-- a number that is not below 0 is its own magnitude
pub itself : (z : ℤ) → le_z (pos 0) z ≡ true → pos (nat_abs z) ≡ z
itself (pos k) e = refl
itself (negsuc k) e = clash e

-- ---- row 64 moved

-- offsets go 64 rows back at the most
near_row : (z : ℤ) → le_z (negsuc 63) z ≡ true → le_z (pos 0) (pos 64 +ℤ z) ≡ true
near_row (pos k) e = le-leb 0 (64 + k) (omega arith)
near_row (negsuc k) e = let z = leb-true k 63 e in simp (le-ltb 64 (suc k) (omega arith), le-leb 0 (64 - suc k) (omega arith))

pub offset_near : (b : ℕ) → offset_fits b ≡ true → le_z (pos 0) (pos 64 +ℤ signed8 b) ≡ true
unfolding offset_fits
offset_near b e = near_row (signed8 b) (and_left _ _ e)

-- the code passes a byte's signed number on
module _ (b : ℕ) (o : ℤ) (is : o ≡ signed8 b) (short : mag o < 128) where
  passed : to_z w8 (of_z w8 o) ≡ o
  passed = to_z-of_z {w = w8} (record { sfits = short })

  passed_is : to_z w8 (of_z w8 o) ≡ signed8 b
  passed_is = passed ∙ is

  pub moved_asks : offset_fits b ≡ true → (64 ≤ 4096) × (le_z (pos 0) (pos 64 +ℤ to_z w8 (of_z w8 o)) ≡ true)
  moved_asks e = (omega arith, ap (λ (z : ℤ). le_z (pos 0) (pos 64 +ℤ z)) passed_is ∙ offset_near b e)

  module _ (m : ℕ) (to : pos m ≡ pos 64 +ℤ to_z w8 (of_z w8 o)) where
    row_is : m ≡ nat_abs (pos 64 +ℤ signed8 b)
    row_is = ap nat_abs (to ∙ ap (λ (z : ℤ). pos 64 +ℤ z) passed_is)

    row-few : m ≤ 192
    row-few =
        let e : m ≡ mag (pos 64 +ℤ o) = ap mag (to ∙ ap (λ (z : ℤ). pos 64 +ℤ z) passed) in
        let a = mag-add (pos 64) o in
        omega arith

    module _ (columns : ℕ) (few : columns ≤ 8) where
      product_few : m * columns ≤ 1536
      product_few = let a : m * columns ≤ 192 * 8 = mul-le-mul row-few few in omega arith

      pub product_fits : Fits w64 (m * columns)
      product_fits = let a = product_few in record { fits = omega arith }

      pub spot_fits : (y : ℕ) → y < 256 → Fits w64 (m * columns + y)
      spot_fits y g = let a = product_few in record { fits = omega arith }

      pub spot_is : (y column : ℕ) → y ≡ column → y < 256 →
          (m * columns + y ≡ spot_of columns (signed8 b) column) × (m * columns + y < 65536)
      unfolding spot_of
      spot_is y column e g = (ap (λ (k : ℕ). k * columns + y) row_is ∙ ap (λ (k : ℕ). nat_abs (pos 64 +ℤ signed8 b) * columns + k) e, let a = product_few in omega arith)

-- ---- a spot is read again

-- 64 rows before row 64 moved is the offset
back : (o : ℤ) → le_z (pos 0) (pos 64 +ℤ o) ≡ true → pos (nat_abs (pos 64 +ℤ o)) +ℤ negsuc 63 ≡ o
back o e =
    ap (λ (z : ℤ). z +ℤ negsuc 63) (itself (pos 64 +ℤ o) e ∙ +ℤ_comm (pos 64) o)
    ∙ +ℤ_assoc o (pos 64) (negsuc 63) ∙ +ℤ_idr o

module _ (columns : ℕ) (offset : ℤ) (column : ℕ) (inside : column < columns) where
  pub spot_column : column_of columns (spot_of columns offset column) ≡ column
  unfolding spot_of column_of
  spot_column = mul-add-mod_self_right (nat_abs (pos 64 +ℤ offset)) columns column ∙ mod-eq_of_lt inside

  spot_row : spot_of columns offset column / columns ≡ nat_abs (pos 64 +ℤ offset)
  unfolding spot_of
  spot_row =
      mul-add-div_right (let y : 0 < columns = omega arith in y) (nat_abs (pos 64 +ℤ offset)) column
      ∙ ap (λ (k : ℕ). nat_abs (pos 64 +ℤ offset) + k) (div-eq_of_lt inside) ∙ omega arith

  pub spot_offset : le_z (pos 0) (pos 64 +ℤ offset) ≡ true → offset_of columns (spot_of columns offset column) ≡ offset
  unfolding offset_of
  spot_offset e = ap (λ (m : ℕ). pos m +ℤ negsuc 63) spot_row ∙ back offset e

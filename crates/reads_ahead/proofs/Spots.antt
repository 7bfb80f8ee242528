-- Spots behind their row, and one comparison or entry by them: a law for each way through the code.
use mathlib.Core.Path.{◌≡◌, refl}
use mathlib.Core.Bool.{Bool, true, false}
use mathlib.Core.List.{List}
use Prim.Native.Nat.{ℕ, ◌+◌, ◌*◌, ◌-◌, ◌/◌, ◌≤◌, ◌<◌}
use native.Mathlib.Omega.{arith}
use native.Mathlib.Nat.{le-div_iff_mul-le, div-lt_iff_lt-mul}
use lib.Dec.{ltb, leb}
use lib.IntN.{pos}
use lib.Signed.{lt_z}
use lib.ListN.{length, get_or}
use borrow.Author.Tests.{lt-ltb, le-ltb, ltb-true, ltb-false, le-leb, lt-leb}
use Rattle.rules.specs.Basics.{pick}
use Rattle.rules.specs.Lots.{ahead}
use Rattle.laws.proofs.Choice.{decided}
use Rattle.table.specs.Tests.{offset_of, comparison_in, entry_words}
use Rattle.reads_ahead.specs.Ahead.{Columns, entry_ahead}

-- ---- a spot

module _ (spot columns : ℕ) (h : Columns columns) where
  below : (j : ℕ) → spot / columns < j → spot < j * columns
  below j l = (div-lt_iff_lt-mul {k = columns} (let z = h.some in omega arith)).0 l

  above : (j : ℕ) → j ≤ spot / columns → j * columns ≤ spot
  above j l = (le-div_iff_mul-le {k = columns} (let z = h.some in omega arith)).0 l

  pub spot_is : leb (65 * columns) spot ≡ lt_z (pos 0) (offset_of columns spot)
  unfolding offset_of
  spot_is =
      decided (ltb (spot / columns) 64)
      (λ e. let l = below 64 (ltb-true (spot / columns) 64 e) in rw (e, lt-leb (65 * columns) spot (omega arith)) refl)
      (λ e. rw e (from-64 (ltb-false (spot / columns) 64 e)))
    where
      from-64 : 64 ≤ spot / columns → leb (65 * columns) spot ≡ ltb 0 (spot / columns - 64)
      from-64 g =
          decided (ltb (spot / columns) 65)
          (λ e. let k = ltb-true (spot / columns) 65 e in let l = below 65 k in rw (lt-leb (65 * columns) spot l, le-ltb 0 (spot / columns - 64) (omega arith)) refl)
          (λ e. let k = ltb-false (spot / columns) 65 e in let l = above 65 k in rw (le-leb (65 * columns) spot l, lt-ltb 0 (spot / columns - 64) (omega arith)) refl)

-- ---- a comparison

module _ (T : List ℕ) (at columns x : ℕ) (is_x : x ≡ get_or T (at + 1) 0) (t : Bool) (is-t : t ≡ lt_z (pos 0) (offset_of columns x)) where
  pub left-ahead : t ≡ true → true ≡ ahead (comparison_in T columns at)
  unfolding ahead comparison_in
  left-ahead e = rw (← is_x, ← is-t, e) refl

  pub right-ahead : t ≡ false → (y : ℕ) → y ≡ get_or T (at + 2) 0 → (u : Bool) → u ≡ lt_z (pos 0) (offset_of columns y) → u ≡ ahead (comparison_in T columns at)
  unfolding ahead comparison_in
  right-ahead e y is_y u is-u = rw (← is_x, ← is-t, e, ← is_y) is-u

-- ---- an entry

module _ (T : List ℕ) (at word columns : ℕ) (is_IsWord : word ≡ get_or T at 0) where
  pub entry-there : word < 16 → at + entry_words T at ≤ length T → at + 5 ≤ length T
  unfolding entry_words
  entry-there h l = let z : ltb (get_or T at 0) 16 ≡ true = rw (← is_IsWord) (lt-ltb word 16 h) in rw z at l

  pub entry-comparison : word < 16 → (t : Bool) → t ≡ ahead (comparison_in T columns at) → t ≡ entry_ahead T columns at
  unfolding entry_ahead
  entry-comparison h t e = rw (← is_IsWord, lt-ltb word 16 h) e

  pub entry-operator : 16 ≤ word → false ≡ entry_ahead T columns at
  unfolding entry_ahead
  entry-operator h = rw (← is_IsWord, le-ltb word 16 h) refl

-- The first rows of a report's matches as the code reads them, and the loop that counts them.
use mathlib.Core.Path.{◌≡◌, refl, sym, ap, ap₂, ◌∙◌}
use mathlib.Core.List.{List, [], ◌∷◌, ◌++◌}
use mathlib.Core.Bool.{Bool, true, false}
use Prim.Native.Nat.{ℕ, suc, ◌+◌, ◌*◌, ◌≤◌, ◌<◌, min}
use native.Mathlib.Omega.{arith}
use lib.IntN.{ℤ, pos, nat_abs}
use lib.Signed.{mag, non_neg, nat_abs-le}
use lib.Dec.{T, ltb}
use lib.ListN.{length, get_or, set, length-set}
use mir.Syntax.{w32, w64}
use mir.Val.{Fits, to_z, of_z}
use mir.Facts.{to_z-of_z}
use borrow.Author.Tests.{ltb-true, ltb-false}
use Rattle.rules.specs.Basics.{pick, tabulate}
use Rattle.rules.specs.Rows.{table_of, entry}
use Rattle.tally.specs.declared.NamedColumns.{NamedColumns}
use Rattle.tally.specs.Table.{cell_of}
use Rattle.tally.specs.Counting.{one_more, up, all_up, cell_in, cells_in, RowAt, Countable}

-- ---- one row

pub row-cast : (z : ℤ) → mag z < 9223372036854775808 → T (non_neg z) → T (non_neg (to_z w64 (of_z w64 z))) × Fits w64 (nat_abs (to_z w64 (of_z w64 z)))
row-cast z h s = rw (to_z-of_z {w = w64} (record { sfits = h })) (s, record { fits = omega (arith, nat_abs-le z {H = 9223372036854775808} h) })

pub entry_read : (rows : List ℤ) (columns row column : ℕ) → mag (get_or rows (row * columns + column) (pos 0)) < 2147483648
    → (to_z w32 (of_z w32 (get_or rows (row * columns + column) (pos 0))) ≡ entry (table_of columns rows) row column) × (mag (to_z w32 (of_z w32 (get_or rows (row * columns + column) (pos 0)))) < 2147483648)
unfolding entry table_of
entry_read rows columns row column h = rw (to_z-of_z {w = w32} (record { sfits = h })) (refl, h)

module _ (rows : List ℤ) (columns : ℕ) (w : NamedColumns) (numbers : List ℤ) (at : ℕ) (x : RowAt rows columns w numbers at) (row : ℕ)
    (e : row ≡ nat_abs (get_or numbers at (pos 0))) where
  pub depot_there : row * columns + w.depot < length rows
  depot_there = rw e x.depot_there

  pub month_there : row * columns + w.month < length rows
  month_there = rw e x.month_there

  pub cell_read : (d m : ℤ) → d ≡ entry (table_of columns rows) row w.depot → mag d < 2147483648 → m ≡ entry (table_of columns rows) row w.month → mag m < 2147483648
      → (r : ℕ) → r ≡ cell_of (to_z w32 (of_z w32 d)) (to_z w32 (of_z w32 m)) → r ≡ cell_in (table_of columns rows) w numbers at
  unfolding cell_in
  cell_read d m ed hd em hm r q =
      q
      ∙ ap₂ (λ (a b : ℤ). cell_of a b) (to_z-of_z {w = w32} (record { sfits = hd }) ∙ ed) (to_z-of_z {w = w32} (record { sfits = hm }) ∙ em)
      ∙ ap (λ (k : ℕ). cell_of (entry (table_of columns rows) k w.depot) (entry (table_of columns rows) k w.month)) e

-- ---- one match

one-more : (k : ℕ) → k ≤ 18446744073709551615 → min (k + 1) 18446744073709551615 ≡ one_more k
unfolding one_more
one-more k h = go (ltb k 18446744073709551615) refl h
  where
    go : (t : Bool) → ltb k 18446744073709551615 ≡ t → k ≤ 18446744073709551615 → min (k + 1) 18446744073709551615 ≡ pick t (k + 1) k
    go true e h = let l = ltb-true k 18446744073709551615 e in omega arith
    go false e h = let l = ltb-false k 18446744073709551615 e in omega arith

pub up_more : (l : List ℕ) (c r : ℕ) → get_or l c 0 ≤ 18446744073709551615 → r ≡ min (get_or l c 0 + 1) 18446744073709551615 → set l c r ≡ up l c
unfolding up one_more
up_more l c r h e = ap (set l c) (e ∙ one-more (get_or l c 0) h)

pub up-long : (l : List ℕ) (c : ℕ) → length (up l c) ≡ length l
unfolding up
up-long l c = length-set l c (one_more (get_or l c 0))

-- ---- all matches

pub all_up-long : (l cs : List ℕ) → length (all_up l cs) ≡ length l
unfolding all_up
all_up-long l [] = refl
all_up-long l (c ∷ cs) = all_up-long (up l c) cs ∙ up-long l c

all_up-on : (l cs : List ℕ) (c : ℕ) → all_up l (cs ++ (c ∷ [])) ≡ up (all_up l cs) c
unfolding all_up
all_up-on l [] c = refl
all_up-on l (d ∷ cs) c = all_up-on (up l d) cs c

-- the first i matches have been counted
pub record Counting (cells₀ cells : List ℕ) (rows : List ℤ) (columns : ℕ) (w : NamedColumns) (numbers : List ℤ) (stride m i : ℕ) : Type 0 where
  pub asked : Countable cells₀ rows columns w numbers stride m
  pub at_most : i ≤ m
  pub is : cells ≡ all_up cells₀ (cells_in (table_of columns rows) w numbers stride i)

module _ (cells₀ : List ℕ) (rows : List ℤ) (columns : ℕ) (w : NamedColumns) (numbers : List ℤ) (stride m : ℕ) where
  pub counting_none : Countable cells₀ rows columns w numbers stride m → Counting cells₀ cells₀ rows columns w numbers stride m 0
  unfolding cells_in all_up
  counting_none a = record { asked = a; at_most = omega arith; is = refl }

  module _ (cells : List ℕ) (i : ℕ) (c : Counting cells₀ cells rows columns w numbers stride m i) where
    pub counting_long : length cells ≡ length cells₀
    counting_long = ap length c.is ∙ all_up-long cells₀ (cells_in (table_of columns rows) w numbers stride i)

    pub counting_row : i < m → RowAt rows columns w numbers (i * stride + 1)
    counting_row h = c.asked.firsts i h

    pub counting_room : i < m → (k : ℕ) → k ≤ 768 → k < length cells
    counting_room h k g = omega (arith, counting_long, c.asked.long)

    pub counting_more : i < m → (k : ℕ) → k ≡ cell_in (table_of columns rows) w numbers (i * stride + 1) → (cells' : List ℕ) → cells' ≡ up cells k
        → Counting cells₀ cells' rows columns w numbers stride m (i + 1)
    unfolding cells_in tabulate
    counting_more h k e cells' q =
        let z : i + 1 ≡ suc i = omega arith in
        record {
          asked = c.asked;
          at_most = omega arith;
          is = rw z (q ∙ ap₂ (λ (l : List ℕ) (j : ℕ). up l j) c.is e ∙ sym (all_up-on cells₀ (cells_in (table_of columns rows) w numbers stride i) (cell_in (table_of columns rows) w numbers (i * stride + 1))));
        }

    pub counting_all : m ≤ i → cells ≡ all_up cells₀ (cells_in (table_of columns rows) w numbers stride m)
    counting_all h = let z : i ≡ m = omega (arith, c.at_most) in let e = c.is in rw z at e

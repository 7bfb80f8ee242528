-- The five words of a comparison as they are written, in the layout of crates/table/specs/Tests,
-- and what writing one or several comparisons asks and grants.
use Rattle.std.specs.Prelude.{◌≡◌, true, List, ℕ, ◌+◌, ◌*◌, ◌≤◌, ◌<◌, ℤ, pos, nat_abs, ◌+ℤ◌, length, get_or, set}
use Rattle.rules.specs.Basics.{le16, signed8}
use Rattle.rules.specs.Query.{comparison_at, comparison_fits}
use Rattle.define_list.specs.Defines.{comparisons_at, Stand}
use Rattle.table.specs.Tests.{comparison_in, comparisons_in}

-- ---- the words of a comparison

-- The spot of a column: row 64 moved by the offset, and there the column. Offsets go 64 rows back
-- at the most, so row 64 moved is not below 0, and `nat_abs` is that number itself.
unfoldable pub spot_of : ℕ → ℤ → ℕ → ℕ
spot_of columns offset column = nat_abs (pos 64 +ℤ offset) * columns + column

-- its operator with its right kind, its two spots, and the halves of its number
pub record ComparisonWords : Type 0 where
  pub operator : ℕ
  pub left : ℕ
  pub right : ℕ
  pub low : ℕ
  pub high : ℕ

abbrev pub comparison_words : ℕ → ℕ → ℕ → ℕ → ℕ → ComparisonWords
comparison_words a b c d e = record { operator = a; left = b; right = c; low = d; high = e }

-- these five words from `at` on
unfoldable pub set_five : List ℕ → ℕ → ComparisonWords → List ℕ
set_five T at w = set (set (set (set (set T at w.operator) (at + 1) w.left) (at + 2) w.right) (at + 3) w.low) (at + 4) w.high

pub record FiveRoom (T : List ℕ) (at a b c d e : ℕ) : Type 0 where
  pub room : at + 5 ≤ length T
  pub a_fits : a < 65536
  pub b_fits : b < 65536
  pub c_fits : c < 65536
  pub d_fits : d < 65536
  pub e_fits : e < 65536

-- the words of the comparison in the 12 bytes from index p on, written from word `at` on
unfoldable pub put_comparison : List ℕ → ℕ → ℕ → List ℕ → ℕ → List ℕ
unfolding spot_of set_five le16 signed8
put_comparison s columns p T at =
    set_five T at
    (record {
      operator = get_or s (p + 2) 0 + get_or s (p + 3) 0 * 8;
      left = spot_of columns (signed8 (get_or s (p + 1) 0)) (get_or s p 0);
      right = spot_of columns (signed8 (get_or s (p + 5) 0)) (get_or s (p + 4) 0);
      low = le16 s (p + 8);
      high = le16 s (p + 10);
    })

pub record ComparisonRoom (s : List ℕ) (columns p : ℕ) (T : List ℕ) (at : ℕ) : Type 0 where
  pub few : columns ≤ 8
  pub stands : p + 12 ≤ length s
  pub fits : comparison_fits s columns p ≡ true
  pub room : at + 5 ≤ length T

pub record ComparisonPut (s : List ℕ) (columns p : ℕ) (T T' : List ℕ) (at : ℕ) : Type 0 where
  pub words : T' ≡ put_comparison s columns p T at
  pub is : comparison_in T' columns at ≡ comparison_at s p

-- ---- several comparisons, one behind the other

pub record ComparisonsRoom (s : List ℕ) (columns p count : ℕ) (T : List ℕ) (at : ℕ) : Type 0 where
  pub few : columns ≤ 8
  pub stand : Stand s columns p count
  pub room : at + count * 5 ≤ length T

-- r is the word behind them
pub record ComparisonsPut (s : List ℕ) (columns p count : ℕ) (T T' : List ℕ) (at r : ℕ) : Type 0 where
  pub behind : r ≡ at + count * 5
  pub len : length T' ≡ length T
  pub is : comparisons_in T' columns at count ≡ comparisons_at s p count
  pub kept : (j : ℕ) → (at ≤ j → j < r → ⊥) → get_or T' j 0 ≡ get_or T j 0

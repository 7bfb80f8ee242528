-- What writing the interval of a letter's first comparison asks and grants. The letter's words
-- begin at word `at`, in the layout of crates/table/specs/Tests; the comparison stands in the 12
-- bytes of the query from index p on.
use Rattle.std.specs.Prelude.{◌≡◌, ℕ, ◌+◌, ◌<◌, ◌≤◌, List, length, ℤ, slice_index, slice_index_or}
use Rattle.rules.specs.Basics.{le32, signed32}
use Rattle.table.specs.Tests.{word64, raised, raised_word, tested_by, low_of, width_of}

-- the number of the comparison
unfoldable pub written_number : List ℕ → ℕ → ℤ
unfolding signed32 le32
written_number s p = signed32 (le32 s (p + 8))

-- a number of 64 bits stands in four words from `at` on
pub record Word64Put (T T' : List ℕ) (at x : ℕ) : Type 0 where
  pub len : length T' ≡ length T
  pub is : word64 T' at ≡ x
  pub kept : (j : ℕ) → (at ≤ j → j < at + 4 → ⊥) → slice_index T' j ≡ slice_index T j

-- words 7 to 15, by what they say
pub record NineRoom (T : List ℕ) (at kind : ℕ) : Type 0 where
  pub room : at + 16 ≤ length T
  pub fits : kind < 65536

pub record NinePut (T T' : List ℕ) (at kind low width : ℕ) : Type 0 where
  pub len : length T' ≡ length T
  pub kind_is : slice_index_or T' (at + 7) 0 ≡ kind
  pub low_is : word64 T' (at + 8) ≡ low
  pub width_is : word64 T' (at + 12) ≡ width
  pub kept : (j : ℕ) → (at + 7 ≤ j → j < at + 16 → ⊥) → slice_index T' j ≡ slice_index T j

-- the same words, by the comparison
pub record IntervalRoom (s : List ℕ) (p : ℕ) (T : List ℕ) (at : ℕ) : Type 0 where
  pub stands : p + 12 ≤ length s
  pub room : at + 16 ≤ length T

pub record IntervalPut (s : List ℕ) (p : ℕ) (T T' : List ℕ) (at : ℕ) : Type 0 where
  pub len : length T' ≡ length T
  pub kind_is : slice_index_or T' (at + 7) 0 ≡ tested_by (slice_index s (p + 3))
  pub low_is : raised_word (word64 T' (at + 8)) ≡ low_of (slice_index s (p + 2)) (raised (written_number s p))
  pub width_is : word64 T' (at + 12) ≡ width_of (slice_index s (p + 2)) (raised (written_number s p))
  pub kept : (j : ℕ) → (at + 7 ≤ j → j < at + 16 → ⊥) → slice_index T' j ≡ slice_index T j

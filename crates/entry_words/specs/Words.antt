-- The words of entries of kind 6 as they are written, in the layout of crates/table/specs/Tests,
-- and what writing one or several asks and grants.
use Rattle.std.specs.Prelude.{◌≡◌, true, List, ℕ, zero, suc, ◌+◌, ◌*◌, ◌≤◌, ◌<◌, eqb, length, get_or}
use Rattle.rules.specs.Basics.{pick}
use Rattle.rules.specs.Query.{entry_bytes, entry_fits, read_entry, read_entries}
use Rattle.define_list.specs.Defines.{Entered, PostfixBody}
use Rattle.table.specs.Tests.{entry_in, entry_words, entries_in, entries_behind}

-- how many words the entries from index p on take
unfoldable pub words_of : List ℕ → ℕ → ℕ → ℕ
unfolding entry_bytes
words_of s zero p = 0
words_of s (suc k) p = pick (eqb (get_or s p 0) 0) 5 1 + words_of s k (p + entry_bytes s p)

-- ---- one entry, whose first byte is `tag`

pub record EntryRoom (s : List ℕ) (columns p tag : ℕ) (T : List ℕ) (at : ℕ) : Type 0 where
  pub few : columns ≤ 8
  pub first : tag ≡ get_or s p 0
  pub stands : p + entry_bytes s p ≤ length s
  pub fits : entry_fits s columns p ≡ true
  pub room : at + pick (eqb tag 0) 5 1 ≤ length T

pub record EntryPut (s : List ℕ) (columns p tag : ℕ) (T T' : List ℕ) (at : ℕ) : Type 0 where
  pub len : length T' ≡ length T
  pub is : entry_in T' columns at ≡ read_entry s p
  pub words : entry_words T' at ≡ pick (eqb tag 0) 5 1
  pub kept : (j : ℕ) → (at ≤ j → j < at + pick (eqb tag 0) 5 1 → ⊥) → get_or T' j 0 ≡ get_or T j 0

-- ---- several entries, one behind the other

pub record EntriesRoom (s : List ℕ) (columns p count : ℕ) (T : List ℕ) (at : ℕ) : Type 0 where
  pub few : columns ≤ 8
  pub entered : Entered s columns p count
  pub room : at + words_of s count p ≤ length T

pub record EntriesPut (s : List ℕ) (columns p count : ℕ) (T T' : List ℕ) (at : ℕ) : Type 0 where
  pub len : length T' ≡ length T
  pub is : entries_in T' columns count at ≡ read_entries s count p
  pub behind : entries_behind T' count at ≡ at + words_of s count p
  pub kept : (j : ℕ) → (at ≤ j → j < at + words_of s count p → ⊥) → get_or T' j 0 ≡ get_or T j 0

-- ---- a letter: its words begin at word `at`, its entries at word `more`

pub record PostfixRoom (s : List ℕ) (columns d : ℕ) (T : List ℕ) (at more : ℕ) : Type 0 where
  pub few : columns ≤ 8
  pub there : d + 2 ≤ length s
  pub body : PostfixBody s columns d
  pub before : at + 16 ≤ more
  pub room : more + (get_or s (d + 1) 0 * 3 + 2) ≤ length T
  pub small : length T < 65536

-- r is the word behind its entries
pub record PostfixPut (s : List ℕ) (columns d : ℕ) (T T' : List ℕ) (at more r : ℕ) : Type 0 where
  pub behind : r ≡ more + (get_or s (d + 1) 0 * 3 + 2)
  pub len : length T' ≡ length T
  pub none : get_or T' at 0 ≡ 0
  pub from : get_or T' (at + 1) 0 ≡ more
  pub counted : get_or T' (at + 2) 0 ≡ get_or s (d + 1) 0
  pub kind : get_or T' (at + 7) 0 ≡ 3
  pub is : entries_in T' columns (get_or s (d + 1) 0) more ≡ read_entries s (get_or s (d + 1) 0) (d + 2)
  pub upto : entries_behind T' (get_or s (d + 1) 0) more ≤ r
  pub kept : (j : ℕ) → (at ≤ j → j < at + 16 → ⊥) → (more ≤ j → j < r → ⊥) → get_or T' j 0 ≡ get_or T j 0

-- What writing the tests of all letters asks and grants. The layout of the words is that of
-- crates/table/specs/Tests: from word `tests` on sixteen words for each letter, and here behind
-- them, from word tests + 416 on, the comparisons behind the first, or the entries, of each letter,
-- letter by letter.
use Rattle.std.specs.Prelude.{◌≡◌, List, ℕ, zero, suc, ◌+◌, ◌*◌, ◌-◌, ◌≤◌, ◌<◌, eqb, length, get_or}
use Rattle.rules.specs.Basics.{pick}
use Rattle.define_list.specs.Defines.{kind_at, defined_at, AllBody, Body}
use Rattle.table.specs.Tests.{test_at, condition_in, entries_behind, First, Entries}

-- ---- how many words

-- the words of the comparisons behind the first, or of the entries, where the DEFINE's body starts
-- at index d: entries that leave one result take three words each at the most, and two more
unfoldable pub more_of : List ℕ → ℕ → ℕ
unfolding kind_at
more_of s d = pick (eqb d 0) 0 (pick (eqb (kind_at s d) 3) ((get_or s (d + 1) 0 - 1) * 5) (get_or s (d + 1) 0 * 3 + 2))

-- those of the letters below a number
unfoldable pub words_for : List ℕ → List ℕ → ℕ → ℕ
unfolding more_of
words_for s defines zero = 0
words_for s defines (suc l) = words_for s defines l + more_of s (get_or defines l 0)

-- the kind and the count of a body can be read, and the count is 1 to 8 or 1 to 16 by the kind
pub record TestCounted (s : List ℕ) (d : ℕ) : Type 0 where
  pub header : 4 ≤ d
  pub there : d + 2 ≤ length s
  pub one : 1 ≤ get_or s (d + 1) 0
  pub few : kind_at s d ≡ 3 → get_or s (d + 1) 0 ≤ 8
  pub most : get_or s (d + 1) 0 ≤ 16

pub record TestsCountable (s defines : List ℕ) (letters : ℕ) : Type 0 where
  pub upto : letters ≤ 26
  pub counted : (l : ℕ) → l < 26 → (get_or defines l 0 ≡ 0 → ⊥) → TestCounted s (get_or defines l 0)

-- ---- what the words of a letter keep to

-- The words at word `at` say what they say twice alike, and those to which they point lie from word
-- `low` on, before word `high`.
pub record PointsBetween (T : List ℕ) (at low high : ℕ) : Type 0 where
  pub first : 0 < get_or T at 0 → First T at
  pub free : get_or T at 0 ≡ 0 → (get_or T (at + 7) 0 ≡ 3 → ⊥) → get_or T (at + 7) 0 ≡ 2
  pub from : 1 < get_or T at 0 → low ≤ get_or T (at + 1) 0
  pub upto : 1 < get_or T at 0 → get_or T (at + 1) 0 + (get_or T at 0 - 1) * 5 ≤ high
  pub entries : get_or T (at + 7) 0 ≡ 3 → Entries T at
  pub entries_from : get_or T (at + 7) 0 ≡ 3 → low ≤ get_or T (at + 1) 0
  pub entries_upto : get_or T (at + 7) 0 ≡ 3 → entries_behind T (get_or T (at + 2) 0) (get_or T (at + 1) 0) ≤ high

-- ---- all letters

-- The body of a DEFINE starts at each index that is not 0, and from letter `letters` on all are 0.
-- The table has room for the words of all letters, and its words can tell each of its indices.
pub record Preparable (s : List ℕ) (columns : ℕ) (defines : List ℕ) (letters : ℕ) (T : List ℕ) (tests : ℕ) : Type 0 where
  pub some : 1 ≤ columns
  pub few : columns ≤ 8
  pub upto : letters ≤ 26
  pub free : (l : ℕ) → letters ≤ l → l < 26 → get_or defines l 0 ≡ 0
  pub body : (l : ℕ) → l < 26 → (get_or defines l 0 ≡ 0 → ⊥) → Body s columns (get_or defines l 0)
  pub room : tests + 416 + words_for s defines letters ≤ length T
  pub small : length T < 65536

-- Every letter has its condition in the table, all of it from word `tests` on. The words in front of
-- `tests` are as they were.
pub record Prepared (s : List ℕ) (columns : ℕ) (defines T T' : List ℕ) (tests : ℕ) : Type 0 where
  pub long : tests + 416 ≤ length T'
  pub told : (l : ℕ) → l < 26 → PointsBetween T' (test_at tests l) tests (length T')
  pub is : (l : ℕ) → l < 26 → condition_in T' columns (test_at tests l) ≡ defined_at s (get_or defines l 0)
  pub len : length T' ≡ length T
  pub kept : (j : ℕ) → j < tests → get_or T' j 0 ≡ get_or T j 0

-- ---- the words of a letter

-- The words of a letter begin at word `at`, those of its comparisons behind the first, or of its
-- entries, at word `more`.
pub record LetterRoom (s : List ℕ) (columns d : ℕ) (T : List ℕ) (at more : ℕ) : Type 0 where
  pub few : columns ≤ 8
  pub body : (d ≡ 0 → ⊥) → Body s columns d
  pub before : at + 16 ≤ more
  pub room : more + more_of s d ≤ length T
  pub small : length T < 65536

-- the same of a letter that has a DEFINE of kind 3
pub record TestRoom (s : List ℕ) (columns d : ℕ) (T : List ℕ) (at more : ℕ) : Type 0 where
  pub few : columns ≤ 8
  pub some : d ≡ 0 → ⊥
  pub kind : kind_at s d ≡ 3
  pub body : AllBody s columns d
  pub before : at + 16 ≤ more
  pub room : more + (get_or s (d + 1) 0 - 1) * 5 ≤ length T
  pub small : length T < 65536

-- r is the word behind its comparisons or entries
pub record LetterPut (s : List ℕ) (columns d : ℕ) (T T' : List ℕ) (at more r : ℕ) : Type 0 where
  pub behind : r ≡ more + more_of s d
  pub len : length T' ≡ length T
  pub is : condition_in T' columns at ≡ defined_at s d
  pub told : PointsBetween T' at more r
  pub kept : (j : ℕ) → (at ≤ j → j < at + 16 → ⊥) → (more ≤ j → j < r → ⊥) → get_or T' j 0 ≡ get_or T j 0

-- ---- the letters below a number, and those from it on

pub record LettersPut (s : List ℕ) (columns : ℕ) (defines T T' : List ℕ) (tests letters : ℕ) : Type 0 where
  pub len : length T' ≡ length T
  pub is : (l : ℕ) → l < letters → condition_in T' columns (test_at tests l) ≡ defined_at s (get_or defines l 0)
  pub told : (l : ℕ) → l < letters → PointsBetween T' (test_at tests l) (tests + 416) (tests + 416 + words_for s defines letters)
  pub kept : (j : ℕ) → j < tests → get_or T' j 0 ≡ get_or T j 0

pub record NoneRoom (T : List ℕ) (tests letters : ℕ) : Type 0 where
  pub upto : letters ≤ 26
  pub room : tests + 416 ≤ length T

pub record NonePut (T T' : List ℕ) (tests letters : ℕ) : Type 0 where
  pub len : length T' ≡ length T
  pub zero : (l : ℕ) → letters ≤ l → l < 26 → get_or T' (test_at tests l) 0 ≡ 0
  pub free : (l : ℕ) → letters ≤ l → l < 26 → get_or T' (test_at tests l + 7) 0 ≡ 2
  pub kept : (j : ℕ) → (tests + letters * 16 ≤ j → j < tests + 416 → ⊥) → get_or T' j 0 ≡ get_or T j 0

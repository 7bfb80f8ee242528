-- The tests of the letters as words of the table, written when a query is prepared and read by the
-- walk. From word `tests` on each of the letters A to Z has sixteen words; those of letter l (0 for
-- A) begin at tests + 16 * l:
--   0         how many comparisons its DEFINE of kind 3 has, 1 to 8; 0 for a letter without such a
--             DEFINE
--   1         the word at which its comparisons behind the first stand, one behind the other
--   2 to 6    its first comparison
--   7         how the letter is tested: by a first comparison whose right side has a column (1) or
--             is a number (0), not at all, as it has no DEFINE (2), or by its entries, as its
--             DEFINE is of kind 6 (3)
--   8 to 11   an interval that tells when the first comparison is met: its first number less
--             2 ^ 33, in 64 bits, the lowest word first
--   12 to 15  how many more numbers it has
-- Of a letter whose DEFINE is of kind 6 there are, besides words 0 and 7, these:
--   1         the word at which its entries stand, one behind the other
--   2         how many entries it has, 1 to 16
-- A comparison has five words:
--   0         its operator, 1 to 6, and 8 more where its right side has a column
--   1         its left spot
--   2         its right spot
--   3, 4      the low and the high half of its number, in two's complement
-- An entry of kind 6 is a comparison, or one word: 16 for AND, 17 for OR, 18 for NOT. A spot tells
-- an offset and a column by one number, (64 + offset) * columns + column. So the entry that is read
-- from a row lies that many entries behind the first entry of 64 rows before it. Words 2 to 6 say
-- all of the first comparison; 7 to 15 say it again in the form that is tested fastest (`Tests`).
use Rattle.std.specs.Prelude.{◌≡◌, Bool, true, List, [], ◌∷◌, ℕ, zero, suc, ◌+◌, ◌*◌, ◌-◌, ◌/◌, ◌%◌, ◌≤◌, ◌<◌, ltb, eqb, ℤ, pos, negsuc, ◌+ℤ◌, length, get_or}
use Rattle.rules.specs.Basics.{pick, tabulate, signed32}
use Rattle.rules.specs.Rows.{Comparison, Entry, compared, conj, disj, neg, Condition, all_of, postfix, table_of, holds}
use Rattle.rules.specs.Query.{leaves_one}
use Rattle.table.specs.Table.{code_at, later_at}

-- the offset and the column of a spot
unfoldable pub offset_of : ℕ → ℕ → ℤ
offset_of columns spot = pos (spot / columns) +ℤ negsuc 63

unfoldable pub column_of : ℕ → ℕ → ℕ
column_of columns spot = spot % columns

-- the number of the comparison at word `at`
unfoldable pub number_in : List ℕ → ℕ → ℤ
unfolding signed32
number_in T at = signed32 (get_or T (at + 3) 0 + get_or T (at + 4) 0 * 65536)

-- the comparison at word `at`
unfoldable pub comparison_in : List ℕ → ℕ → ℕ → Comparison
unfolding offset_of column_of number_in
comparison_in T columns at =
    record {
      left = column_of columns (get_or T (at + 1) 0);
      left_offset = offset_of columns (get_or T (at + 1) 0);
      operator = get_or T at 0 % 8;
      right_kind = get_or T at 0 / 8;
      right = column_of columns (get_or T (at + 2) 0);
      right_offset = offset_of columns (get_or T (at + 2) 0);
      number = number_in T at;
    }

-- `count` comparisons from word `at` on
unfoldable pub comparisons_in : List ℕ → ℕ → ℕ → ℕ → List Comparison
unfolding tabulate comparison_in
comparisons_in T columns at count = tabulate count (λ k. comparison_in T columns (at + k * 5))

-- the word at which the words of letter l begin
abbrev pub test_at : ℕ → ℕ → ℕ
test_at tests l = tests + l * 16

-- the comparisons of the letter whose words begin at word `at`, none where its DEFINE is not of
-- kind 3
unfoldable pub defined_in : List ℕ → ℕ → ℕ → List Comparison
unfolding comparison_in comparisons_in
defined_in T columns at =
    pick (eqb (get_or T at 0) 0) [] (comparison_in T columns (at + 2) ∷ comparisons_in T columns (get_or T (at + 1) 0) (get_or T at 0 - 1))

-- the entry of kind 6 at word `at`, and how many words it takes
unfoldable pub entry_in : List ℕ → ℕ → ℕ → Entry
unfolding comparison_in
entry_in T columns at =
    pick (ltb (get_or T at 0) 16) (compared (comparison_in T columns at)) (pick (eqb (get_or T at 0) 16) conj (pick (eqb (get_or T at 0) 17) disj neg))

unfoldable pub entry_words : List ℕ → ℕ → ℕ
entry_words T at = pick (ltb (get_or T at 0) 16) 5 1

-- so many entries from word `at` on, and the word behind them
unfoldable pub entries_in : List ℕ → ℕ → ℕ → ℕ → List Entry
unfolding entry_in entry_words
entries_in T columns zero at = []
entries_in T columns (suc k) at = entry_in T columns at ∷ entries_in T columns k (at + entry_words T at)

unfoldable pub entries_behind : List ℕ → ℕ → ℕ → ℕ
unfolding entry_words
entries_behind T zero at = at
entries_behind T (suc k) at = entries_behind T k (at + entry_words T at)

-- the condition of the letter whose words begin at word `at`
unfoldable pub condition_in : List ℕ → ℕ → ℕ → Condition
unfolding defined_in entries_in
condition_in T columns at =
    pick (eqb (get_or T (at + 7) 0) 3) (postfix (entries_in T columns (get_or T (at + 2) 0) (get_or T (at + 1) 0))) (all_of (defined_in T columns at))

-- by a table whose tests begin at a word, and rows of so many columns: a letter, by its character,
-- holds at a row
module _ (T : List ℕ) (tests columns : ℕ) (rows : List ℤ) where
  unfoldable pub holds_in : ℕ → ℕ → Bool
  unfolding holds condition_in
  holds_in c i = holds (table_of columns rows) i (condition_in T columns (test_at tests (c - 65)))

-- ---- the first comparison as an interval

-- the number in four words from `at` on, the lowest first
unfoldable pub word64 : List ℕ → ℕ → ℕ
word64 T at = get_or T at 0 + get_or T (at + 1) 0 * 65536 + get_or T (at + 2) 0 * 4294967296 + get_or T (at + 3) 0 * 281474976710656

-- A number plus 2 ^ 33: no number that a comparison meets is then below 0.
unfoldable pub raised : ℤ → ℕ
raised (pos k) = k + 8589934592
raised (negsuc k) = 8589934591 - k

-- What an operator asks of d against a number is that d, raised, lies in an interval, which wraps
-- at 2 ^ 64. With x for the number, raised: the interval's first number, and how many more there
-- are.
unfoldable pub low_of : ℕ → ℕ → ℕ
low_of op x = pick (eqb op 1) x (pick (eqb op 2) (x + 1) (pick (eqb op 3) 0 (pick (eqb op 4) 0 (pick (eqb op 5) (x + 1) x))))

unfoldable pub width_of : ℕ → ℕ → ℕ
width_of op x =
    pick (eqb op 1) 0
    (pick (eqb op 2) 18446744073709551614
    (pick (eqb op 3) (x - 1)
    (pick (eqb op 4) x
    (pick (eqb op 5) (18446744073709551614 - x)
    (18446744073709551615 - x)))))

-- A number of 64 bits, raised, which wraps at 2 ^ 64. The table tells an interval's first number by
-- the one that comes to it when raised, so that a number which is tested need not be raised itself:
-- what it is raised by is taken away again.
unfoldable pub raised_word : ℕ → ℕ
raised_word k = (k + 8589934592) % 18446744073709551616

-- how a letter is tested by a comparison of this right kind
unfoldable pub tested_by : ℕ → ℕ
tested_by kind = pick (eqb kind 1) 1 0

-- the words of the letter at word `at` tell the interval of its first comparison
pub record First (T : List ℕ) (at : ℕ) : Type 0 where
  pub kind : get_or T (at + 7) 0 ≡ tested_by (get_or T (at + 2) 0 / 8)
  pub low : raised_word (word64 T (at + 8)) ≡ low_of (get_or T (at + 2) 0 % 8) (raised (number_in T (at + 2)))
  pub width : word64 T (at + 12) ≡ width_of (get_or T (at + 2) 0 % 8) (raised (number_in T (at + 2)))

-- ---- what is asked of the table

-- the entries of the letter at word `at` stand in the table, run nowhere short and leave one result
pub record Entries (T : List ℕ) (at : ℕ) : Type 0 where
  pub few : get_or T (at + 2) 0 ≤ 16
  pub there : entries_behind T (get_or T (at + 2) 0) (get_or T (at + 1) 0) ≤ length T
  pub leaves : (columns : ℕ) → leaves_one 0 (entries_in T columns (get_or T (at + 2) 0) (get_or T (at + 1) 0)) ≡ true

-- The words of all letters stand in the table, and so do the comparisons and entries to which they
-- point; and what they say twice they say alike.
pub record Tests (T : List ℕ) (tests : ℕ) : Type 0 where
  pub long : tests + 416 ≤ length T
  pub more : (l : ℕ) → l < 26 → 1 < get_or T (test_at tests l) 0 → get_or T (test_at tests l + 1) 0 + (get_or T (test_at tests l) 0 - 1) * 5 ≤ length T
  pub first : (l : ℕ) → l < 26 → 0 < get_or T (test_at tests l) 0 → First T (test_at tests l)
  pub free : (l : ℕ) → l < 26 → get_or T (test_at tests l) 0 ≡ 0 → (get_or T (test_at tests l + 7) 0 ≡ 3 → ⊥) → get_or T (test_at tests l + 7) 0 ≡ 2
  pub entries : (l : ℕ) → l < 26 → get_or T (test_at tests l + 7) 0 ≡ 3 → Entries T (test_at tests l)

-- Of P places, each letter's tells the word at which its test begins, so that the walk need not
-- reckon it.
abbrev pub Pointed : List ℕ → ℕ → ℕ → Type 0
Pointed T P tests = (q : ℕ) → q < P → code_at T q < 26 → later_at T q ≡ test_at tests (code_at T q)

-- the words of some letter begin at word `at`
pub record LetterAt (tests at : ℕ) : Type 0 where
  pub letter : ℕ
  pub small : letter < 26
  pub is : at ≡ test_at tests letter

-- What a test of a letter asks: its words, and n whole rows, at most 4,096, of 1 to 8 columns.
pub record Letters (T : List ℕ) (tests : ℕ) (rows : List ℤ) (columns n : ℕ) : Type 0 where
  pub tests_there : Tests T tests
  pub some : 1 ≤ columns
  pub few : columns ≤ 8
  pub most : n ≤ 4096
  pub all : length rows ≡ n * columns

-- Rules: document 01, "Rows and query records", on the query's bytes, with R-2, R-5 and R-7. Its
-- records or that it is cut, the kinds and their order, the fields of each kind, and the parts that
-- a query is made of. The tests for answers 1, 2, 3 and 8 stand here, each over the whole query.
use Rattle.std.specs.Prelude.{Bool, true, false, not, ◌&&◌, ◌||◌, List, [], ◌∷◌, ℕ, zero, suc, ◌+◌, ◌-◌, ◌*◌, ltb, leb, eqb, pos, negsuc, length, get_or, take, drop}
use Rattle.std.specs.Int.Signed.{le_z}
use Rattle.rules.specs.Basics.{pick, in_range, is_letter, every, every_below, tabulate, repeats, keep, le16, le32, signed8, signed32}
use Rattle.rules.specs.Rows.{Comparison, Entry, compared, conj, disj, neg, Condition, all_of, postfix}

-- ---- records

-- A record is its body's length (2 bytes, the body alone), its kind (2 bytes) and its body. It is
-- told by its kind, where its body starts and how long that is.
pub record Record : Type 0 where
  pub kind : ℕ
  pub start : ℕ
  pub len : ℕ

-- a whole record stands at this index: 4 bytes of header are left, and the body does not run past
-- the end
unfoldable pub whole_at : List ℕ → ℕ → Bool
unfolding le16
whole_at s at = leb (at + 4) (length s) && leb (at + 4 + le16 s at) (length s)

unfoldable pub record_at : List ℕ → ℕ → Record
unfolding le16
record_at s at = record { kind = le16 s (at + 2); start = at + 4; len = le16 s at }

-- where the record behind it would stand
unfoldable pub next_at : List ℕ → ℕ → ℕ
unfolding le16
next_at s at = at + 4 + le16 s at

-- the whole records from an index on, up to the end or to one that is cut; no more than k of them
unfoldable pub records_on : Bool → (ℕ → List Record) → List ℕ → ℕ → List Record
unfolding record_at next_at
records_on true more s at = record_at s at ∷ more (next_at s at)
records_on false more s at = []

unfoldable pub records_from : ℕ → List ℕ → ℕ → List Record
unfolding records_on whole_at
records_from zero s at = []
records_from (suc k) s at = records_on (whole_at s at) (records_from k s) s at

-- the index behind those records
unfoldable pub behind_on : Bool → (ℕ → ℕ) → List ℕ → ℕ → ℕ
unfolding next_at
behind_on true more s at = more (next_at s at)
behind_on false more s at = at

unfoldable pub behind_from : ℕ → List ℕ → ℕ → ℕ
unfolding behind_on whole_at
behind_from zero s at = at
behind_from (suc k) s at = behind_on (whole_at s at) (behind_from k s) s at

-- the query's records; a record takes 4 bytes at least, so there are fewer records than bytes. The
-- laws `records-enough` and `behind-enough` (crates/laws, QueryFuel) say that with any larger number
-- than the bytes the records, and the index behind them, are the same.
unfoldable pub records : List ℕ → List Record
unfolding records_from
records s = records_from (length s) s 0

-- Answer 1: fewer than 4 header bytes are left, or a body runs past the end. Where the records take
-- all bytes, and so for an empty query, it is an end and not a 1.
unfoldable pub cut : List ℕ → Bool
unfolding behind_from
cut s = ltb (behind_from (length s) s 0) (length s)

-- ---- kinds

-- a list of kinds is: one k, then what `rest` says; up to m of the kinds that a test is true of, in
-- any order, then what `rest` says; nothing more
unfoldable pub one_of : ℕ → (List ℕ → Bool) → List ℕ → Bool
one_of k rest [] = false
one_of k rest (x ∷ ks) = eqb x k && rest ks

unfoldable pub some_of : ℕ → (ℕ → Bool) → (List ℕ → Bool) → List ℕ → Bool
some_of zero f rest ks = rest ks
some_of (suc m) f rest [] = rest []
some_of (suc m) f rest (x ∷ ks) = pick (f x) (some_of m f rest ks) (rest (x ∷ ks))

unfoldable pub none_left : List ℕ → Bool
none_left [] = true
none_left (x ∷ ks) = false

-- a DEFINE is a record of kind 3 or, with R-7, of kind 6; a measure is one of kind 5
unfoldable pub is_define : ℕ → Bool
is_define k = eqb k 3 || eqb k 6

unfoldable pub is_measure : ℕ → Bool
is_measure k = eqb k 5

-- how many of each kind, in this order: kind 1 one, 2 one, 3 and 6 together none to 26, 4 one, 5
-- none to 8
unfoldable pub in_order : List ℕ → Bool
unfolding one_of some_of none_left is_define is_measure
in_order = one_of 1 (one_of 2 (some_of 26 is_define (one_of 4 (some_of 8 is_measure none_left))))

unfoldable pub kinds : List Record → List ℕ
kinds [] = []
kinds (r ∷ rs) = r.kind ∷ kinds rs

-- Answer 2: a kind is unknown, missing, repeated or misplaced, or there are too many
unfoldable pub misplaced : List ℕ → Bool
unfolding in_order kinds records
misplaced s = not (in_order (kinds (records s)))

-- ---- fields

-- the first record of a kind; where there is none, one of no length at 0
unfoldable pub first_of_kind : ℕ → List Record → Record
first_of_kind k [] = record { kind = k; start = 0; len = 0 }
first_of_kind k (r ∷ rs) = pick (eqb r.kind k) r (first_of_kind k rs)

-- byte i of a record's body
unfoldable pub field : List ℕ → Record → ℕ → ℕ
field s r i = get_or s (r.start + i) 0

-- Offsets run from -64 (PREV) to 64 (NEXT), as signed bytes.
unfoldable pub offset_fits : ℕ → Bool
unfolding signed8
offset_fits b = le_z (negsuc 63) (signed8 b) && le_z (signed8 b) (pos 64)

-- kind 1: columns 1 to 8, and a reserved byte, which is 0 like all reserved bytes
unfoldable pub shape_fits : List ℕ → Record → Bool
unfolding in_range field
shape_fits s r = eqb r.len 2 && (in_range 1 8 (field s r 0) && eqb (field s r 1) 0)

-- kind 2: the pattern's text, 0 to 256 bytes
unfoldable pub text_fits : Record → Bool
text_fits r = leb r.len 256

-- the left side of a comparison: a column below the shape's count, an offset, an operator 1 to 6
unfoldable pub left_fits : ℕ → ℕ → ℕ → ℕ → Bool
unfolding offset_fits in_range
left_fits columns column offset operator = ltb column columns && (offset_fits offset && in_range 1 6 operator)

-- its right side: with right kind 0 column and offset are 0; with right kind 1 they are a column
-- below the shape's count and an offset
unfoldable pub right_fits : ℕ → ℕ → ℕ → ℕ → Bool
unfolding offset_fits
right_fits columns kind column offset = pick (eqb kind 0) (eqb column 0 && eqb offset 0) (eqb kind 1 && (ltb column columns && offset_fits offset))

-- the 12 bytes of a comparison from index p on: left column, left offset, operator, right kind,
-- right column, right offset, two reserved bytes, and a number of 4 bytes, which may be any
unfoldable pub comparison_fits : List ℕ → ℕ → ℕ → Bool
unfolding left_fits right_fits
comparison_fits s columns p =
    left_fits columns (get_or s p 0) (get_or s (p + 1) 0) (get_or s (p + 2) 0)
    && (right_fits columns (get_or s (p + 3) 0) (get_or s (p + 4) 0) (get_or s (p + 5) 0)
    && (eqb (get_or s (p + 6) 0) 0 && eqb (get_or s (p + 7) 0) 0))

-- the comparison in the 12 bytes from index p on
unfoldable pub comparison_at : List ℕ → ℕ → Comparison
unfolding signed8 signed32 le32
comparison_at s p =
    record {
      left = get_or s p 0;
      left_offset = signed8 (get_or s (p + 1) 0);
      operator = get_or s (p + 2) 0;
      right_kind = get_or s (p + 3) 0;
      right = get_or s (p + 4) 0;
      right_offset = signed8 (get_or s (p + 5) 0);
      number = signed32 (le32 s (p + 8));
    }

-- kind 3: a letter A to Z, a count c of 1 to 8, c comparisons of 12 bytes
unfoldable pub define_fits : List ℕ → ℕ → Record → Bool
unfolding is_letter in_range every_below comparison_fits field
define_fits s columns r =
    eqb r.len (2 + field s r 1 * 12)
    && (is_letter (field s r 0)
    && (in_range 1 8 (field s r 1)
    && every_below (field s r 1) (λ k. comparison_fits s columns (r.start + 2 + k * 12))))

-- kind 6 (R-7): an entry is byte 0 and the 12 bytes of a comparison, or byte 1 for AND, 2 for OR, 3
-- for NOT. How many bytes the entry at index p takes
unfoldable pub entry_bytes : List ℕ → ℕ → ℕ
entry_bytes s p = pick (eqb (get_or s p 0) 0) 13 1

unfoldable pub entry_fits : List ℕ → ℕ → ℕ → Bool
unfolding comparison_fits
entry_fits s columns p = pick (eqb (get_or s p 0) 0) (comparison_fits s columns (p + 1)) (leb (get_or s p 0) 3)

unfoldable pub read_entry : List ℕ → ℕ → Entry
unfolding comparison_at
read_entry s p = pick (eqb (get_or s p 0) 0) (compared (comparison_at s (p + 1))) (pick (eqb (get_or s p 0) 1) conj (pick (eqb (get_or s p 0) 2) disj neg))

-- so many entries from index p on: each fits, the index behind them, and what they are
unfoldable pub entries_fit : List ℕ → ℕ → ℕ → ℕ → Bool
unfolding entry_fits entry_bytes
entries_fit s columns zero p = true
entries_fit s columns (suc k) p = entry_fits s columns p && entries_fit s columns k (p + entry_bytes s p)

unfoldable pub entries_end : List ℕ → ℕ → ℕ → ℕ
unfolding entry_bytes
entries_end s zero p = p
entries_end s (suc k) p = entries_end s k (p + entry_bytes s p)

unfoldable pub read_entries : List ℕ → ℕ → ℕ → List Entry
unfolding read_entry entry_bytes
read_entries s zero p = []
read_entries s (suc k) p = read_entry s p ∷ read_entries s k (p + entry_bytes s p)

-- Where d results are there, no entry runs short and one result is left. A comparison adds one; AND
-- and OR make one of two; NOT makes one of one.
unfoldable pub leaves_one : ℕ → List Entry → Bool
leaves_one d [] = eqb d 1
leaves_one d (compared c ∷ es) = leaves_one (d + 1) es
leaves_one d (conj ∷ es) = leb 2 d && leaves_one (d - 1) es
leaves_one d (disj ∷ es) = leb 2 d && leaves_one (d - 1) es
leaves_one d (neg ∷ es) = leb 1 d && leaves_one d es

-- the entries of a DEFINE of kind 6
unfoldable pub entries_of : List ℕ → Record → List Entry
unfolding read_entries field
entries_of s r = read_entries s (field s r 1) (r.start + 2)

-- kind 6: a letter A to Z, a count c of 1 to 16, c entries, which take the body to its end, run
-- nowhere short and leave one result
unfoldable pub postfix_fits : List ℕ → ℕ → Record → Bool
unfolding is_letter in_range entries_end entries_fit entries_of leaves_one field
postfix_fits s columns r =
    eqb (r.len + r.start) (entries_end s (field s r 1) (r.start + 2))
    && (is_letter (field s r 0)
    && (in_range 1 16 (field s r 1)
    && (entries_fit s columns (field s r 1) (r.start + 2)
    && leaves_one 0 (entries_of s r))))

-- kind 4: skip, 0 past the last row or 1 to the next row, with a byte that is 0; or 2 to the first
-- or 3 to the last row with a letter (R-2)
unfoldable pub skip_fits : List ℕ → Record → Bool
unfolding field is_letter
skip_fits s r = eqb r.len 2 && pick (leb (field s r 0) 1) (eqb (field s r 1) 0) (leb (field s r 0) 3 && is_letter (field s r 1))

-- kind 5: a function 1 to 7 (R-5), a letter or 0 for all rows, a column below the shape's count (0
-- for COUNT, function 1), and a reserved byte
unfoldable pub function_fits : ℕ → ℕ → ℕ → ℕ → Bool
unfolding is_letter in_range
function_fits columns function letter column =
    in_range 1 7 function
    && ((eqb letter 0 || is_letter letter)
    && (ltb column columns
    && (not (eqb function 1) || eqb column 0)))

unfoldable pub measure_fits : List ℕ → ℕ → Record → Bool
unfolding function_fits field
measure_fits s columns r = eqb r.len 4 && (function_fits columns (field s r 0) (field s r 1) (field s r 2) && eqb (field s r 3) 0)

-- a record's body has the length and the values of its kind
unfoldable pub record_fits : List ℕ → ℕ → Record → Bool
unfolding shape_fits text_fits define_fits skip_fits measure_fits postfix_fits
record_fits s columns r =
    pick (eqb r.kind 1) (shape_fits s r)
    (pick (eqb r.kind 2) (text_fits r)
    (pick (eqb r.kind 3) (define_fits s columns r)
    (pick (eqb r.kind 4) (skip_fits s r)
    (pick (eqb r.kind 5) (measure_fits s columns r)
    (pick (eqb r.kind 6) (postfix_fits s columns r)
    true)))))

-- the shape's count of columns
unfoldable pub columns_of : List ℕ → ℕ
unfolding records first_of_kind field
columns_of s = field s (first_of_kind 1 (records s)) 0

-- Answer 3: a body has a wrong length, or a field is outside its stated values
unfoldable pub unfit : List ℕ → Bool
unfolding records every record_fits columns_of
unfit s = not (every (record_fits s (columns_of s)) (records s))

-- the letters of the DEFINEs, each as often as it has one
unfoldable pub defined : List ℕ → List Record → List ℕ
unfolding field is_define
defined s [] = []
defined s (r ∷ rs) = keep (is_define r.kind) (field s r 0) (defined s rs)

-- Answer 8: two DEFINEs for one letter
unfoldable pub doubled : List ℕ → Bool
unfolding defined records repeats
doubled s = repeats (defined s (records s))

-- ---- the parts

-- the pattern's text
unfoldable pub text_of : List ℕ → List ℕ
unfolding records first_of_kind
text_of s = take (first_of_kind 2 (records s)).len (drop (first_of_kind 2 (records s)).start s)

-- the comparisons of a DEFINE of kind 3
unfoldable pub comparisons_of : List ℕ → Record → List Comparison
unfolding comparison_at tabulate field
comparisons_of s r = tabulate (field s r 1) (λ k. comparison_at s (r.start + 2 + k * 12))

-- what a DEFINE asks for, by its kind
unfoldable pub condition_of : List ℕ → Record → Condition
unfolding comparisons_of entries_of
condition_of s r = pick (eqb r.kind 3) (all_of (comparisons_of s r)) (postfix (entries_of s r))

-- the condition of a letter: that of its DEFINE, and no comparison at all where it has none
unfoldable pub condition_from : List ℕ → List Record → ℕ → Condition
unfolding condition_of is_define field
condition_from s [] letter = all_of []
condition_from s (r ∷ rs) letter = pick (is_define r.kind && eqb (field s r 0) letter) (condition_of s r) (condition_from s rs letter)

-- a measure: its function, the letter of its rows or 0 for all rows, and its column
pub record Measure : Type 0 where
  pub function : ℕ
  pub letter : ℕ
  pub column : ℕ

unfoldable pub measure_at : List ℕ → ℕ → Measure
measure_at s p = record { function = get_or s p 0; letter = get_or s (p + 1) 0; column = get_or s (p + 2) 0 }

unfoldable pub measures_from : List ℕ → List Record → List Measure
unfolding measure_at
measures_from s [] = []
measures_from s (r ∷ rs) = keep (eqb r.kind 5) (measure_at s r.start) (measures_from s rs)

-- what a query says: columns, pattern text, the condition of each letter, the skip mode and its
-- letter (0 for none), the measures
pub record Parts : Type 0 where
  pub columns : ℕ
  pub text : List ℕ
  pub condition : ℕ → Condition
  pub skip : ℕ
  pub skip_letter : ℕ
  pub measures : List Measure

unfoldable pub parts : List ℕ → Parts
unfolding columns_of text_of records first_of_kind condition_from measures_from field
parts s =
    record {
      columns = columns_of s;
      text = text_of s;
      condition = condition_from s (records s);
      skip = field s (first_of_kind 4 (records s)) 0;
      skip_letter = field s (first_of_kind 4 (records s)) 1;
      measures = measures_from s (records s);
    }

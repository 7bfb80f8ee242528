-- Where the DEFINE of each letter stands. For a letter l (0 for A) defines[l] is the index at which
-- the body of its DEFINE starts in the query, or 0 where it has none; no body starts at 0, since a
-- record's header of 4 bytes stands before it, its kind in the last two of them. A body of kind 3
-- is the letter's byte, the count of its comparisons, and the comparisons, 12 bytes each; one of
-- kind 6 the letter's byte, the count of its entries, and the entries. They are read where they
-- stand. Of two DEFINEs for one letter the first counts, and it is told that there are two (answer
-- 8).
use Rattle.std.specs.Prelude.{◌≡◌, Bool, true, false, List, [], ℕ, ◌+◌, ◌*◌, ◌-◌, ◌≤◌, ◌<◌, eqb, length, get_or, set}
use Rattle.rules.specs.Basics.{pick, tabulate, le16}
use Rattle.rules.specs.Rows.{Comparison, Condition, all_of, postfix}
use Rattle.rules.specs.Query.{comparison_at, comparison_fits, entries_fit, entries_end, read_entries, leaves_one, records, first_of_kind, columns_of, defined, doubled, condition_from, measures_from}
use Rattle.records.specs.Read.{records_at}
use Rattle.query.specs.Ahead.{Ahead}
use Rattle.query.specs.declared.Stage.TheVariants.{Defines}
use Rattle.define_list.specs.declared.Behind.{Behind}

-- `count` comparisons in the bytes from index p on, 12 for each
unfoldable pub comparisons_at : List ℕ → ℕ → ℕ → List Comparison
unfolding tabulate comparison_at
comparisons_at s p count = tabulate count (λ k. comparison_at s (p + k * 12))

-- the kind of the DEFINE whose body starts at index d
unfoldable pub kind_at : List ℕ → ℕ → ℕ
unfolding le16
kind_at s d = le16 s (d - 2)

-- the condition of the DEFINE whose body starts at index d; no comparison at all where d is 0
unfoldable pub defined_at : List ℕ → ℕ → Condition
unfolding comparisons_at read_entries kind_at
defined_at s d =
    pick (eqb d 0) (all_of [])
    (pick (eqb (kind_at s d) 3) (all_of (comparisons_at s (d + 2) (get_or s (d + 1) 0)))
    (postfix (read_entries s (get_or s (d + 1) 0) (d + 2))))

-- `count` comparisons stand from index p on, and their fields fit
pub record Stand (s : List ℕ) (columns p count : ℕ) : Type 0 where
  pub there : p + count * 12 ≤ length s
  pub fits : (k : ℕ) → k < count → comparison_fits s columns (p + k * 12) ≡ true

-- a body of kind 3 starts at index d: its letter, its count of 1 to 8, and so many comparisons
pub record AllBody (s : List ℕ) (columns d : ℕ) : Type 0 where
  pub one : 1 ≤ get_or s (d + 1) 0
  pub few : get_or s (d + 1) 0 ≤ 8
  pub stand : Stand s columns (d + 2) (get_or s (d + 1) 0)

-- `count` entries stand from index p on, fit, and leave one result
pub record Entered (s : List ℕ) (columns p count : ℕ) : Type 0 where
  pub there : entries_end s count p ≤ length s
  pub fit : entries_fit s columns count p ≡ true
  pub leaves : leaves_one 0 (read_entries s count p) ≡ true

-- a body of kind 6 starts at index d: its letter, its count of 1 to 16, and so many entries
pub record PostfixBody (s : List ℕ) (columns d : ℕ) : Type 0 where
  pub one : 1 ≤ get_or s (d + 1) 0
  pub few : get_or s (d + 1) 0 ≤ 16
  pub entered : Entered s columns (d + 2) (get_or s (d + 1) 0)

-- the body of a DEFINE starts at index d, by its kind; its header stands before it
pub record Body (s : List ℕ) (columns d : ℕ) : Type 0 where
  pub header : 4 ≤ d
  pub there : d + 2 ≤ length s
  pub all : kind_at s d ≡ 3 → AllBody s columns d
  pub postfix : (kind_at s d ≡ 3 → ⊥) → PostfixBody s columns d

-- the DEFINE at d is that of a letter with this condition
pub record Letter (s : List ℕ) (columns d : ℕ) (c : Condition) : Type 0 where
  pub is : defined_at s d ≡ c
  pub body : (d ≡ 0 → ⊥) → Body s columns d

-- a DEFINE whose body starts at this index: its letter is one of A to Z
pub record DefineRoom (s : List ℕ) (start : ℕ) : Type 0 where
  pub there : start < length s
  pub low : 65 ≤ get_or s start 0
  pub high : get_or s start 0 ≤ 90

-- its index goes to the entry of its letter, if that is free; `before` says that it was not
pub record PutDefine (s : List ℕ) (start : ℕ) (defines₀ defines : List ℕ) (before : Bool) : Type 0 where
  pub taken : (get_or defines₀ (get_or s start 0 - 65) 0 ≡ 0 → ⊥) → (defines ≡ defines₀) × (before ≡ true)
  pub put : get_or defines₀ (get_or s start 0 - 65) 0 ≡ 0 → (defines ≡ set defines₀ (get_or s start 0 - 65) start) × (before ≡ false)

-- all DEFINEs, from an index on: they are those of the query
pub record DefinesRoom (s : List ℕ) (from : ℕ) : Type 0 where
  pub ahead : Ahead s (Defines 26) from
  pub all : defined s (records_at s from) ≡ defined s (records s)

-- behind them stands the skip
pub record PutDefines (s : List ℕ) (from : ℕ) (defines : List ℕ) (r : Behind) : Type 0 where
  pub counted : length defines ≡ 26
  pub ahead : Ahead s (Defines 0) r.at
  pub skip : first_of_kind 4 (records_at s r.at) ≡ first_of_kind 4 (records_at s from)
  pub measures : measures_from s (records_at s r.at) ≡ measures_from s (records_at s from)
  pub letters : (l : ℕ) → l < 26 → Letter s (columns_of s) (get_or defines l 0) (condition_from s (records_at s from) (65 + l))
  pub doubled : r.twice ≡ doubled s
  pub upto : r.letters ≤ 26
  pub free : (l : ℕ) → r.letters ≤ l → l < 26 → get_or defines l 0 ≡ 0

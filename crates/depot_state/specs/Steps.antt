-- What the code does with a state's words and the list, whatever they hold: no rule of R-4, but its
-- steps.
use Rattle.std.specs.Prelude.{◌≡◌, Bool, false, List, ℕ, ◌+◌, ◌*◌, ◌≤◌, ◌<◌, leb, ℤ, length, get_or, set}
use Rattle.rules.specs.Rows.{table_of}
use Rattle.rules.specs.Query.{misplaced, columns_of, parts}
use Rattle.tally.specs.declared.NamedColumns.{NamedColumns}
use Rattle.tally.specs.Counting.{all_up, cells_in, Countable}

-- the columns that a state names
unfoldable pub named_in : List ℕ → NamedColumns
named_in state = record { depot = get_or state 771 0; month = get_or state 772 0 }

-- an entry of the list fits behind those used
unfoldable pub list_fits : List ℕ → List ℕ → Bool
list_fits state list = leb (get_or state 770 0 + 2) (length list)

-- an entry is appended: the partition's number and its answer
unfoldable pub list_with : List ℕ → List ℕ → ℕ → List ℕ
list_with state list answer = set (set list (get_or state 770 0) (get_or state 769 0 + 1)) (get_or state 770 0 + 1) answer

unfoldable pub state_with : List ℕ → List ℕ
state_with state = set (set state 770 (get_or state 770 0 + 2)) 769 (get_or state 769 0 + 1)

-- the cells of the matches of a report
unfoldable pub cells_named : List ℕ → List ℕ → List ℤ → List ℤ → ℕ → List ℕ
unfolding cells_in table_of columns_of named_in parts
cells_named state q rows numbers matches = cells_in (table_of (columns_of q) rows) (named_in state) numbers (3 + 2 * length (parts q).measures) matches

-- these are counted, and a number is taken
unfoldable pub state_up : List ℕ → List ℕ → List ℕ
unfolding all_up
state_up state cs = set (all_up state cs) 769 (get_or state 769 0 + 1)

-- what listing asks: a state of its length that has a number left, and an answer that fits 32 bits
pub record Listing (state : List ℕ) (answer : ℕ) : Type 0 where
  pub long : 773 ≤ length state
  pub left : get_or state 769 0 < 65535
  pub small : answer < 4294967296

-- what counting asks: the same, a query with a shape, and first rows that are there
pub record Counts (state q : List ℕ) (rows numbers : List ℤ) (matches : ℕ) : Type 0 where
  pub long : 773 ≤ length state
  pub left : get_or state 769 0 < 65535
  pub ordered : misplaced q ≡ false
  pub countable : Countable state rows (columns_of q) (named_in state) numbers (3 + 2 * length (parts q).measures) matches

-- A demand's words. A report as a caller finds it: the matches read back from the numbers and the
-- label bytes that a search leaves, each with its first row, its labels and its measures; and what
-- a match found at a start has to read as. `Demands` says that the one is the other.
use Rattle.std.specs.Prelude.{List, [], ◌∷◌, map, ℕ, zero, suc, ◌+◌, ◌*◌, ℤ, pos, nat_abs, length, get_or, take, drop}
use Rattle.rules.specs.Rows.{Table}
use Rattle.rules.specs.Query.{Measure, parts}
use Rattle.rules.specs.Report.{measure_numbers}
use Rattle.rules.specs.Answers.{Memory}

-- an entry of a report without its match number: the first row (the start row of an empty match),
-- the labels of its rows, and two numbers for each measure
pub record Reported : Type 0 where
  pub first : ℕ
  pub labels : List ℕ
  pub measures : List ℤ

-- ---- read from the buffers

-- So many entries from the front of the numbers and the label bytes, with c measures each: a match
-- has its number, its first row, the rows taken and two numbers for each measure, and as many label
-- bytes as rows taken.
unfoldable pub read_back : ℕ → ℕ → List ℤ → List ℕ → List Reported
read_back c zero numbers labels = []
read_back c (suc m) numbers labels =
    let taken = nat_abs (get_or numbers 2 (pos 0)) in
    record { first = nat_abs (get_or numbers 1 (pos 0)); labels = take taken labels; measures = take (2 * c) (drop 3 numbers) }
    ∷ read_back c m (drop (3 + 2 * c) numbers) (drop taken labels)

-- the entries that a call for the query q returns and leaves
unfoldable pub reported_in : List ℕ → Memory → List Reported
unfolding read_back parts
reported_in q m = read_back (length (parts q).measures) m.result.matches m.buffers.numbers m.buffers.labels

-- ---- of matches

-- the entry of a match with this first row and these labels: its measures are over its rows of the
-- table
unfoldable pub reported_one : Table → List Measure → ℕ × List ℕ → Reported
unfolding measure_numbers
reported_one t ms x = record { first = x.0; labels = x.1; measures = measure_numbers t x.0 x.1 ms }

abbrev pub reported_all : Table → List Measure → List (ℕ × List ℕ) → List Reported
reported_all t ms xs = map (reported_one t ms) xs

-- Where the first rows of the matches stand in the report numbers, and that they are rows of the
-- table in which both named columns are: what counting a done report asks; and the cells that are
-- counted are those of the report's matches.
use mathlib.Core.Path.{◌≡◌, refl, sym, ap, ap₂, ◌∙◌}
use mathlib.Core.Bool.{Bool}
use mathlib.Core.List.{List, [], ◌∷◌, ◌++◌, map}
use mathlib.Core.Option.{none}
use Prim.Native.Nat.{ℕ, zero, suc, ◌+◌, ◌*◌, ◌/◌, ◌%◌, ◌≤◌, ◌<◌}
use native.Mathlib.Nat.{mul-le-mul, le_refl, div-add-mod'}
use native.Mathlib.Omega.{arith}
use lib.IntN.{ℤ, pos, nat_abs}
use lib.ListN.{length, get_or}
use lib.Seq.{get_or-append-add}
use Rattle.rules.specs.Basics.{tabulate}
use Rattle.rules.specs.Rows.{Table, table_of, entry}
use Rattle.rules.specs.Query.{Measure, columns_of, parts}
use Rattle.rules.specs.Language.{Tree, pattern}
use Rattle.rules.specs.Places.{Place}
use Rattle.rules.specs.Readings.{row_sets}
use Rattle.rules.specs.Preferment.{Reports, finished, unmatched, matched, lost, stopped, setting}
use Rattle.rules.specs.Search.{Match, End, Skip, labels, shown, stand_at}
use Rattle.rules.specs.Report.{match_numbers, numbers_of}
use Rattle.rules.specs.Answers.{Task, task_of, Buffers, Memory, refusal, walk_within}
use Rattle.rules.specs.Entries.{reported_in, reported_one, reported_all}
use Rattle.rules.specs.Demands.{Demands}
use Rattle.laws.proofs.Limits.{match-long, numbers_long, limits}
use Rattle.laws.proofs.Lists.{length-wrote, front_wrote}
use Rattle.modes.proofs.Done.{told}
use Rattle.tally.specs.declared.NamedColumns.{NamedColumns}
use Rattle.tally.specs.Table.{cell_of, match_cell}
use Rattle.tally.specs.Counting.{cell_in, cells_in, RowAt, Countable}

-- the start of match i
abbrev start_of : List Match → ℕ → ℕ
start_of [] i = 0
start_of (x ∷ xs) zero = x.start
start_of (x ∷ xs) (suc i) = start_of xs i

second_is : (t : Table) (ms : List Measure) (k row : ℕ) (w : List ℕ) (rest : List ℤ) → get_or (match_numbers t ms k row w ++ rest) 1 (pos 0) ≡ pos row
unfolding match_numbers
second_is t ms k row w rest = refl

-- it is the second of the match's numbers
first-stands : (t : Table) (ms : List Measure) (pl : List Place) (k : ℕ) (xs : List Match) (i : ℕ) → i < length xs
    → get_or (numbers_of t ms pl k xs) (i * (3 + 2 * length ms) + 1) (pos 0) ≡ pos (start_of xs i)
unfolding numbers_of
first-stands t ms pl k [] i h = absurd (omega arith)
first-stands t ms pl k (x ∷ xs) zero h =
    let z : 0 * (3 + 2 * length ms) + 1 ≡ 1 = omega arith in
    rw z (second_is t ms (suc k) x.start (labels pl x.path) (numbers_of t ms pl (suc k) xs))
first-stands t ms pl k (x ∷ xs) (suc i) h =
    let M : List ℤ = match_numbers t ms (suc k) x.start (labels pl x.path) in
    let l : length M ≡ 3 + 2 * length ms = match-long t ms (suc k) x.start (labels pl x.path) in
    let z : suc i * (3 + 2 * length ms) + 1 ≡ length M + (i * (3 + 2 * length ms) + 1) = rw l (omega arith) in
    rw z (get_or-append-add M (numbers_of t ms pl (suc k) xs) (i * (3 + 2 * length ms) + 1) (pos 0) ∙ first-stands t ms pl (suc k) xs i (omega arith))

-- a match starts at a row
abbrev row_of : List (ℕ × List ℕ) → ℕ → ℕ
row_of [] i = 0
row_of (x ∷ xs) zero = x.0
row_of (x ∷ xs) (suc i) = row_of xs i

rows-below : {p : Tree pattern} {holds : ℕ → ℕ → Bool} {n : ℕ} {skip : Skip} {room : ℕ → ℕ → List ℕ → Bool} {at m l : ℕ} {ms : List (ℕ × List ℕ)} {end : End (ℕ × List ℕ)}
    → Reports (setting p (row_sets n holds) skip room) (stand_at at m l) ms end → (i : ℕ) → i < length ms → row_of ms i < n
rows-below (finished f) i h = absurd (omega arith)
rows-below (unmatched lt x r) i h = rows-below r i h
rows-below (matched lt x b d r) zero h = lt
rows-below (matched lt x b d r) (suc i) h = rows-below r i (omega arith)
rows-below (lost lt x b d) zero h = lt
rows-below (lost lt x b d) (suc i) h = absurd (omega arith)
rows-below (stopped lt x b) i h = absurd (omega arith)

shown-row : (pl : List Place) (xs : List Match) (i : ℕ) → row_of (shown pl xs) i ≡ start_of xs i
shown-row pl [] i = refl
shown-row pl (x ∷ xs) zero = refl
shown-row pl (x ∷ xs) (suc i) = shown-row pl xs i

shown-long : (pl : List Place) (xs : List Match) → length (shown pl xs) ≡ length xs
shown-long pl [] = refl
shown-long pl (x ∷ xs) = ap suc (shown-long pl xs)

-- a table made by a function is a list of matches told by their starts, where the two agree at each
tabulate-cons : {A : Type 0} (n : ℕ) (g : ℕ → A) → tabulate (suc n) g ≡ g 0 ∷ tabulate n (λ i. g (suc i))
unfolding tabulate
tabulate-cons zero g = refl
tabulate-cons (suc n) g = ap (λ l. l ++ (g (suc n) ∷ [])) (tabulate-cons n g)

tabulate-starts : {A : Type 0} (f g : ℕ → A) (xs : List Match) → ((i : ℕ) → i < length xs → g i ≡ f (start_of xs i)) → tabulate (length xs) g ≡ map (λ (m : Match). f m.start) xs
unfolding tabulate
tabulate-starts f g [] h = refl
tabulate-starts f g (x ∷ xs) h =
    tabulate-cons (length xs) g ∙ ap₂ (λ a l. a ∷ l) (h 0 (omega arith)) (tabulate-starts f (λ i. g (suc i)) xs (λ i l. h (suc i) (omega arith)))

-- ---- a done search can be counted

within : (i m s : ℕ) → i < m → 2 ≤ s → i * s + 1 < m * s
within i m s h g = let w : suc i * s ≤ m * s = mul-le-mul h (le_refl s) in omega (arith, w)

row_inside : (a columns column : ℕ) (rows : List ℤ) → a < length rows / columns → column < columns → a * columns + column < length rows
row_inside a columns column rows h g =
    let w : suc a * columns ≤ length rows / columns * columns = mul-le-mul h (le_refl columns) in
    let d : length rows / columns * columns + length rows % columns ≡ length rows = div-add-mod' (length rows) columns in
    omega (arith, w, d)

table_is : (q : List ℕ) (rows : List ℤ) → table_of (columns_of q) rows ≡ (task_of q rows).table
unfolding task_of parts
table_is q rows = refl

measures_are : (q : List ℕ) (rows : List ℤ) → (parts q).measures ≡ (task_of q rows).measures
unfolding task_of
measures_are q rows = refl

module _ (q : List ℕ) (rows : List ℤ) (before : Buffers) (after : Memory) (y : Demands none q rows before after) (z : after.result.answer ≡ 0) (ok : refusal q rows before ≡ 0) where
  abbrev t : Task
  t = task_of q rows

  abbrev xs : List Match
  xs = (walk_within none q rows before).matches

  abbrev stride : ℕ
  stride = 3 + 2 * length t.measures

  abbrev written : List ℤ
  written = numbers_of t.table t.measures t.places 0 xs

  -- the first row of match i stands in the report numbers
  first-is : (i : ℕ) → i < length xs → get_or after.buffers.numbers (i * stride + 1) (pos 0) ≡ pos (start_of xs i)
  first-is i h =
      let l : i * stride + 1 < length written = rw (numbers_long t.table t.measures t.places 0 xs) (within i (length xs) stride h (omega arith)) in
      rw y.numbers (front_wrote before.numbers written (i * stride + 1) (pos 0) l ∙ first-stands t.table t.measures t.places 0 xs i h)

  there : (i : ℕ) → i < length xs → i * stride + 1 < length after.buffers.numbers
  there i h =
      let w : i * stride + 1 < length xs * stride = within i (length xs) stride h (omega arith) in
      let n : length written ≡ length xs * stride = numbers_long t.table t.measures t.places 0 xs in
      let f = (limits none q rows before ok).numbers_fit in
      rw y.numbers (rw (length-wrote before.numbers written f) (omega (arith, w, n, f)))

  below : (i : ℕ) → i < length xs → start_of xs i < t.table.n
  below i h = rw (← (shown-row t.places xs i)) (rows-below (told none q rows before after y z refl refl refl refl) i (rw (shown-long t.places xs) h))

  -- the table has the rows of the slice
  rows_are : t.table.n ≡ length rows / columns_of q
  unfolding task_of parts table_of
  rows_are = refl

  module _ (w : NamedColumns) (hd : w.depot < columns_of q) (hm : w.month < columns_of q) where
    row-stands : (i : ℕ) → i < length xs → RowAt rows (columns_of q) w after.buffers.numbers (i * stride + 1)
    row-stands i h =
        let e = first-is i h in
        let b : start_of xs i < length rows / columns_of q = rw (← rows_are) (below i h) in
        record {
          there = there i h;
          sign = rw e tt;
          depot_there = rw e (row_inside (start_of xs i) (columns_of q) w.depot rows b hd);
          month_there = rw e (row_inside (start_of xs i) (columns_of q) w.month rows b hm);
        }

    -- a done search can be counted
    pub countable : (counts : List ℕ) → 769 ≤ length counts → Countable counts rows (columns_of q) w after.buffers.numbers (3 + 2 * length (parts q).measures) after.result.matches
    countable counts l = rw (y.matches, measures_are q rows) (record { long = l; firsts = row-stands })

  pub few_matches : length (reported_in q after) ≤ 4096
  few_matches =
      let l = limits none q rows before ok in
      rw y.reported (rw (entries-long (shown t.places xs)) (rw (shown-long t.places xs) (omega (arith, l.few_matches, l.few_rows))))
    where
      entries-long : (ys : List (ℕ × List ℕ)) → length (reported_all t.table t.measures ys) ≡ length ys
      entries-long [] = refl
      entries-long (y ∷ ys) = ap suc (entries-long ys)

  -- the cell of a match that starts at row k
  cell_from : NamedColumns → ℕ → ℕ
  cell_from w k = cell_of (entry t.table k w.depot) (entry t.table k w.month)

  map-cells : (w : NamedColumns) (ms : List Match) → map (match_cell w t.table) (reported_all t.table t.measures (shown t.places ms)) ≡ map (λ (m : Match). cell_from w m.start) ms
  unfolding match_cell reported_one cell_from
  map-cells w [] = refl
  map-cells w (m ∷ ms) = ap (λ (l : List ℕ). cell_from w m.start ∷ l) (map-cells w ms)

  cell_is : (w : NamedColumns) (i : ℕ) → i < length xs → cell_in t.table w after.buffers.numbers (i * stride + 1) ≡ cell_from w (start_of xs i)
  unfolding cell_in cell_from
  cell_is w i h = ap (λ (k : ℤ). cell_of (entry t.table (nat_abs k) w.depot) (entry t.table (nat_abs k) w.month)) (first-is i h)

  cells-task : (w : NamedColumns) → cells_in t.table w after.buffers.numbers stride (length xs) ≡ map (match_cell w t.table) (reported_all t.table t.measures (shown t.places xs))
  unfolding cells_in
  cells-task w = tabulate-starts (cell_from w) (λ i. cell_in t.table w after.buffers.numbers (i * stride + 1)) xs (cell_is w) ∙ sym (map-cells w xs)

  -- the cells that are counted are those of the report's matches
  pub cells_are : (w : NamedColumns) → cells_in (table_of (columns_of q) rows) w after.buffers.numbers (3 + 2 * length (parts q).measures) after.result.matches
      ≡ map (match_cell w (table_of (columns_of q) rows)) (reported_in q after)
  cells_are w =
      let m : cells_in (table_of (columns_of q) rows) w after.buffers.numbers (3 + 2 * length (parts q).measures) (length xs)
      ≡ map (match_cell w (table_of (columns_of q) rows)) (reported_all t.table t.measures (shown t.places xs)) = rw (table_is q rows, measures_are q rows) (cells-task w) in
      ap (cells_in (table_of (columns_of q) rows) w after.buffers.numbers (3 + 2 * length (parts q).measures)) y.matches ∙ m ∙ ap (map (match_cell w (table_of (columns_of q) rows))) (sym y.reported)

-- A path that was found: its labels, its report, and what one start of the search leaves.
use Rattle.std.specs.Prelude.{◌≡◌, List, ◌∷◌, Bool, true, false, ℕ, ◌+◌, ◌*◌, ◌≤◌, ◌<◌, ltb, ℤ, length, get_or}
use Rattle.std.proofs.Math.Option.{Option, none, some}
use Rattle.rules.specs.Answers.{halt_answer}
use Rattle.rules.specs.Basics.{wrote}
use Rattle.rules.specs.Report.{bit_at, match_numbers, lent_room, fits}
use Rattle.rules.specs.Search.{Attempted, hit, miss, halts, answered, labels, next_start, end_of}
use Rattle.rules.specs.Walk.{Halt, out_of_steps, out_of_rows, Kept}
use Rattle.rules.specs.Working.{bits_of}
use Rattle.measure_list.specs.Measures.{Measurable}
use Rattle.pairs.specs.declared.Walk.{Walk}
use Rattle.pairs.specs.Layout.{Layout, P, N, Legal, halts_in, layout_of, letters_of, Tested}
use Rattle.table.specs.Table.{code_at}
use Rattle.pairs.specs.Step.{pair_in}
use Rattle.pairs.specs.State.{Word, OnPath, attempt_by}
use Rattle.matches.specs.declared.Sweep.{Sweep}
use Rattle.matches.specs.declared.Task.{Task}
use Rattle.matches.specs.Asked.{Asked, pl, width, labels_on}

-- ---- labels

-- the label of a place, by its code, before others
abbrev pub if_letter : Bool → ℕ → List ℕ → List ℕ
if_letter true c vs = c ∷ vs
if_letter false c vs = vs

unfoldable pub label_by : ℕ → List ℕ → List ℕ
label_by c vs = if_letter (ltb c 26) (c + 65) vs

-- one label more, or none, before those that are written from index e on
abbrev pub OneMore : List ℕ → List ℕ → ℕ → ℕ → ℕ → Type 0
OneMore l l' c e r = (d vs : List ℕ) → l ≡ wrote d e vs → e + length vs ≤ length d → (l' ≡ wrote d r (label_by c vs)) × (r + length (label_by c vs) ≡ e + length vs)

pub record PutsLabel (words labs : List ℕ) (q e : ℕ) : Type 0 where
  pub place : 4 * q + 4 ≤ length words
  pub end : e ≤ length labs
  pub room : code_at words q < 26 → 0 < e

-- a path is on the trail, and there is room for its labels before index `end`
pub record Labels (T : Layout) (trail labs : List ℕ) (top end : ℕ) : Type 0 where
  pub some : 0 < P T
  pub long : 4 * P T ≤ length T.words
  pub trailed : top ≤ length trail
  pub words : (k : ℕ) → k < top → Word T (get_or trail k 0)
  pub end_room : end ≤ length labs
  pub enough : length (labels_on T trail top) ≤ end

-- ---- the report of a path

abbrev pub swept : ℕ → ℕ → ℕ → ℕ → ℕ → Sweep
swept end row m l s = record { end = end; row = row; matches = m; labels = l; steps = s; opened = 0 }

-- a search that has halted in the attempt at a row: where it waits, it tells how many pairs are
-- open
abbrev pub open_by : Halt → List ℕ → ℕ
open_by out_of_steps p = 0
open_by out_of_rows p = length p

abbrev pub swept_at : Halt → List ℕ → ℕ → ℕ → ℕ → ℕ → Sweep
swept_at h p row m l s = record { end = halt_answer h; row = row; matches = m; labels = l; steps = s; opened = open_by h p }

-- behind a match that is written the search goes on at its next start; where there is none it is
-- over, with answer 15
abbrev pub swept_on : Option ℕ → ℕ → ℕ → ℕ → ℕ → Sweep
swept_on (some row) n m l s = swept 0 row m l s
swept_on none n m l s = swept 15 n m l s

pub record Quiet (numbers numbers' : List ℤ) (labs labs' : List ℕ) (r : Sweep) (to : Sweep) : Type 0 where
  pub numbers_is : numbers' ≡ numbers
  pub labels_is : labs' ≡ labs
  pub sweep_is : r ≡ to

pub record Written (A : Asked) (p : List ℕ) (i : Sweep) (numbers numbers' : List ℤ) (labs labs' : List ℕ) (r : Sweep) (to : Sweep) : Type 0 where
  pub numbers_is : numbers' ≡ wrote numbers (i.matches * width A) (match_numbers A.rows A.measures (i.matches + 1) i.row (labels (pl A) p))
  pub labels_is : labs' ≡ wrote labs i.labels (labels (pl A) p)
  pub sweep_is : r ≡ to

-- the start that the match of a path p found at i names, where it names one
abbrev pub next_at : Asked → ℕ → List ℕ → Option ℕ
next_at A i p = next_start A.skip i (end_of (length (pl A)) p) (labels (pl A) p)

-- a path p found with s steps: its match is written and the search goes on where there is a next
-- start, or it does not fit and the search is over
abbrev pub ToldBy : Bool → Asked → List ℕ → Sweep → ℕ → List ℤ → List ℤ → List ℕ → List ℕ → Sweep → Type 0
ToldBy true A p i s numbers numbers' labs labs' r =
    Written A p i numbers numbers' labs labs' r (swept_on (next_at A i.row p) A.n (i.matches + 1) (i.labels + length (labels (pl A) p)) s)
ToldBy false A p i s numbers numbers' labs labs' r = Quiet numbers numbers' labs labs' r (swept 13 A.n i.matches i.labels s)

-- what came of an attempt, told: after none the search goes on one row on; where it has halted, the
-- search is over and nothing is written
abbrev pub Told : Asked → Attempted → Sweep → ℕ → List ℤ → List ℤ → List ℕ → List ℕ → Sweep → Type 0
Told A miss i s numbers numbers' labs labs' r = Quiet numbers numbers' labs labs' r (swept 0 (i.row + 1) i.matches i.labels s)
Told A (halts h p) i s numbers numbers' labs labs' r = Quiet numbers numbers' labs labs' r (swept_at h p i.row i.matches i.labels s)
Told A (hit p) i s numbers numbers' labs labs' r =
    ToldBy (fits (lent_room (length numbers) (length labs) A.measures) i.matches i.labels (labels (pl A) p)) A p i s numbers numbers' labs labs' r

-- the measures in the table can be read from the rows
pub record Measured (T : List ℕ) (rows : List ℤ) (task : Task) : Type 0 where
  pub few : task.count ≤ 8
  pub few_rows : task.size.rows ≤ 4096
  pub there : task.size.rows * task.size.columns ≤ length rows
  pub measurable : Measurable T task.measures task.count task.size.columns

-- a path is on the trail, from the row of the start to END, and its report can be made
pub record Reports (T : List ℕ) (rows : List ℤ) (task : Task) (trail labs : List ℕ) (i : Sweep) (w : Walk) : Type 0 where
  pub measured : Measured T rows task
  pub path : OnPath (layout_of T task.size) trail w
  pub going : 0 < w.top
  pub last : 29 < code_at T w.place
  pub bottom : pair_in task.size.places (get_or trail 0 0) ≡ i.row * task.size.places
  pub row : i.row < task.size.rows
  pub behind : w.row ≤ task.size.rows
  pub few : i.matches ≤ i.row
  pub labels : i.labels ≤ length labs

-- ---- one start

-- what a search over a prepared query asks: letters and measures that can be read, a legal table,
-- and working room
pub record Searches (T : List ℕ) (rows : List ℤ) (task : Task) (notes trail : List ℕ) : Type 0 where
  pub letters : Tested T rows task.size
  pub measured : Measured T rows task
  pub legal : Legal (layout_of T task.size) (letters_of T rows task.size) task.size.rows
  pub noted : N (layout_of T task.size) task.size.rows ≤ 8 * length notes
  pub trailed : N (layout_of T task.size) task.size.rows ≤ length trail

-- and a start
pub record Visits (T : List ℕ) (rows : List ℤ) (task : Task) (notes trail labs : List ℕ) (i : Sweep) : Type 0 where
  pub searches : Searches T rows task notes trail
  pub row : i.row < task.size.rows
  pub steps : i.steps + N (layout_of T task.size) task.size.rows < 18446744073709551616
  pub few : i.matches ≤ i.row
  pub labels : i.labels ≤ length labs

-- the attempt at a start by the definition, with the failed pairs F and s steps before it
abbrev pub attempt_at : Asked → List Bool → ℕ → ℕ → Attempted × Kept
attempt_at A F s i = answered (attempt_by (halts_in A.layout A.more A.n) A.layout A.holds A.n F s i)

pub record Visited (A : Asked) (notes notes' trail trail' : List ℕ) (numbers numbers' : List ℤ) (labs labs' : List ℕ) (i r : Sweep) : Type 0 where
  pub kept : bits_of notes' (N A.layout A.n) ≡ (attempt_at A (bits_of notes (N A.layout A.n)) i.steps i.row).1.failed
  pub told : Told A (attempt_at A (bits_of notes (N A.layout A.n)) i.steps i.row).0 i (attempt_at A (bits_of notes (N A.layout A.n)) i.steps i.row).1.steps numbers numbers' labs labs' r
  pub notes_long : length notes' ≡ length notes
  pub trail_long : length trail' ≡ length trail
  pub notes_beyond : (z : ℕ) → N A.layout A.n ≤ z → bit_at notes' z ≡ bit_at notes z
  pub trail_beyond : (k : ℕ) → N A.layout A.n ≤ k → get_or trail' k 0 ≡ get_or trail k 0
  pub more : (attempt_at A (bits_of notes (N A.layout A.n)) i.steps i.row).1.steps ≤ i.steps + N A.layout A.n

-- The walk's memory, and what its small functions do to it: a pair is tried or entered, and the
-- last open pair goes on to its next way. The trail's first `top` numbers stand for the open pairs.
-- A number holds a pair's place in its low 11 bits, its row in the 13 bits above, and in the 8 bits
-- above them the number, in its fork, of the way that the pair tries next (0: none is left), so
-- that it goes on where it was left. The walk stands at the pair that was tried last; its status
-- says whether that pair is to be entered (1), is END and open (2), was entered and waits for a row
-- (3), or none of these (0).
use Rattle.std.specs.Prelude.{◌≡◌, Bool, true, false, not, ◌&&◌, ℕ, zero, suc, ◌+◌, ◌-◌, ◌*◌, ◌/◌, ◌%◌, ◌≤◌, ◌<◌, ltb, eqb, length, get_or, set}
use mathlib.Core.List.{List, [], ◌∷◌, reverse_aux}
use Rattle.rules.specs.Basics.{pick}
use Rattle.rules.specs.Report.{bit_at}
use Rattle.rules.specs.Walk.{Outcome, found, failed, out_of_steps, out_of_rows, halted, Kept, as_kept}
use Rattle.rules.specs.Working.{marked}
use Rattle.table.specs.Table.{code_at, first_at, count_at}
use Rattle.table.specs.Sized.{most_places}
use Rattle.pairs.specs.declared.Walk.{Walk}
use Rattle.pairs.specs.Layout.{Layout, P, entry_of, most_pairs, most_rows}

pub record Mem : Type 0 where
  pub notes : List ℕ
  pub trail : List ℕ
  pub walk : Walk

abbrev pub mem : List ℕ → List ℕ → Walk → Mem
mem n t w = record { notes = n; trail = t; walk = w }

abbrev pub walk_at : ℕ → ℕ → ℕ → ℕ → ℕ → ℕ → Walk
walk_at top steps place row base status = record { top = top; steps = steps; place = place; row = row; base = base; status = status }

unfoldable pub one_unless : Bool → ℕ
one_unless t = pick t 0 1

-- the pair of place q at a row is tried: it is to be entered unless it has failed
abbrev pub try_at : List ℕ → ℕ → ℕ → ℕ → ℕ → ℕ → Walk
try_at notes top steps q row base = walk_at top steps q row base (one_unless (bit_at notes (base + q)))

-- a number of the trail: its place, its row, its next way, and the pair of place and row where
-- there are P places
abbrev pub place_in : ℕ → ℕ
place_in e = e % 2048

abbrev pub row_in : ℕ → ℕ
row_in e = e / 2048 % 8192

abbrev pub way_in : ℕ → ℕ
way_in e = e / 16777216

abbrev pub pair_in : ℕ → ℕ → ℕ
pair_in P e = row_in e * P + place_in e

-- the open pairs, the last entered first
unfoldable pub stack : ℕ → List ℕ → ℕ → List ℕ
stack P trail zero = []
stack P trail (suc t) = pair_in P (get_or trail t 0) ∷ stack P trail t

-- the pair at which the walk stands
abbrev pub pair_of : Walk → ℕ
pair_of w = w.base + w.place

-- the way behind way j of a fork with so many ways; 0 for none
unfoldable pub after : ℕ → ℕ → ℕ
after count j = pick (ltb (j + 1) count) (j + 1) 0

-- a number of the trail, with way j as the next of its pair
abbrev pub went_on : ℕ → ℕ → ℕ
went_on j e = e % 16777216 + j * 16777216

-- A pair that is entered is open if it passes, but for a letter's whose one next pair, that of
-- place k, has failed: it fails at once.
unfoldable pub opens : Bool → ℕ → ℕ → ℕ → List ℕ → Walk → Bool
opens passes c k P notes w = passes && not (ltb c 26 && bit_at notes (w.base + P + k))

-- The pair of w is open, by a place of code c whose first place is k: a letter tries the pair of k
-- at the next row, END succeeds, any other place tries the pair of k at the same row.
unfoldable pub opened_by : ℕ → ℕ → ℕ → List ℕ → Walk → Walk
opened_by c k P notes w =
    pick (ltb c 26) (try_at notes (w.top + 1) (w.steps + 1) k (w.row + 1) (w.base + P))
    (pick (ltb 29 c) (walk_at (w.top + 1) (w.steps + 1) w.place w.row w.base 2) (try_at notes (w.top + 1) (w.steps + 1) k w.row w.base))

-- The pair is open, with v on the trail for its place and its ways, or it fails at once.
unfoldable pub open_if : Bool → Mem → ℕ → ℕ → ℕ → ℕ → Mem
unfolding opened_by
open_if true m c v k P = mem m.notes (set m.trail m.walk.top (m.walk.row * 2048 + v)) (opened_by c k P m.notes m.walk)
open_if false m c v k P =
    mem (marked m.notes (pair_of m.walk)) m.trail (walk_at m.walk.top (m.walk.steps + 1) m.walk.place m.walk.row m.walk.base 0)

-- The pair was entered and waits: nothing is changed but for the step.
abbrev pub waiting : Walk → Walk
waiting w = walk_at w.top (w.steps + 1) w.place w.row w.base 3

-- The pair of the walk is entered, which is one step; it waits or it does not.
unfoldable pub entered_by : Bool → Bool → Mem → ℕ → ℕ → ℕ → ℕ → Mem
unfolding opens open_if
entered_by true passes m c v k P = mem m.notes m.trail (waiting m.walk)
entered_by false passes m c v k P = open_if (opens passes c k P m.notes m.walk) m c v k P

-- The same of a letter whose row is not there: it waits where more rows may come, and else it
-- fails.
unfoldable pub absent_notes : Bool → List ℕ → ℕ → List ℕ
unfolding marked
absent_notes more notes x = pick more notes (marked notes x)

unfoldable pub absent_status : Bool → ℕ
absent_status more = pick more 3 0

-- The walk before the entry that waits; any other is itself.
abbrev pub before_by : Bool → Walk → Walk
before_by true w = walk_at w.top (w.steps - 1) w.place w.row w.base 1
before_by false w = w

unfoldable pub before : Walk → Walk
before w = before_by (eqb w.status 3) w

-- the attempt's result in memory: no open pair, or the open pairs are the path
unfoldable pub outcome_by : ℕ → ℕ → List ℕ → List Bool → ℕ → Outcome
unfolding stack
outcome_by P zero trail F s = failed (as_kept F s)
outcome_by P (suc t) trail F s = found (reverse_aux (stack P trail (suc t)) []) (as_kept F s)

-- the same of an attempt that may have halted: where a pair is to be entered, no step is left, and
-- the open pairs stay open; where one waits, it is open too
unfoldable pub result_by : ℕ → List ℕ → List Bool → Walk → Outcome
unfolding stack outcome_by
result_by P trail F w =
    pick (eqb w.status 1) (halted out_of_steps (reverse_aux (stack P trail w.top) []) (as_kept F w.steps))
    (pick (eqb w.status 3) (halted out_of_rows (reverse_aux (pair_of w ∷ stack P trail w.top) []) (as_kept F w.steps)) (outcome_by P w.top trail F w.steps))

-- ---- what entering a pair requires

-- a pair that can be tried: it has a note
abbrev pub Noted : List ℕ → ℕ → Type 0
Noted notes x = (x < most_pairs) × (x / 8 < length notes)

-- the pair of the walk has not failed, there is room for it, and the pair that it leads to first
-- can be tried; a fork of code 28 leads first to the place behind it, and has a second way
pub record Enters (T : Layout) (n : ℕ) (notes trail : List ℕ) (w : Walk) : Type 0 where
  pub place : w.place < P T
  pub words : 4 * w.place + 4 ≤ length T.words
  pub row : w.row ≤ n
  pub few : w.row ≤ most_rows
  pub places : P T ≤ most_places
  pub noted : Noted notes (w.base + w.place)
  pub out : bit_at notes (w.base + w.place) ≡ false
  pub word : w.row * 2048 + entry_of T.words w.place < 4294967296
  pub room : w.top < length trail
  pub small : w.top < most_pairs
  pub steps : w.steps + 1 < 18446744073709551616
  pub one : code_at T.words w.place < 28 → count_at T.words w.place ≡ 0
  pub letter : code_at T.words w.place < 26 → w.row < n → Noted notes (w.base + P T + first_at T.words w.place)
  pub near : code_at T.words w.place ≡ 28 → (first_at T.words w.place ≡ w.place + 1) × (1 < count_at T.words w.place)
  pub other : 26 ≤ code_at T.words w.place → code_at T.words w.place ≤ 29 → Noted notes (w.base + first_at T.words w.place)

-- The whole search in memory, against the definition.
use Rattle.std.specs.Prelude.{◌≡◌, Bool, false, ℕ, zero, suc, ◌+◌, ◌-◌, ◌*◌, ◌≤◌, ◌<◌, eqb, ℤ, length, get_or, drop, replicate}
use mathlib.Core.List.{List, [], ◌∷◌, ◌++◌, reverse_aux}
use Rattle.rules.specs.Answers.{end_answer}
use Rattle.rules.specs.Basics.{pick, wrote}
use Rattle.rules.specs.Report.{bit_at, numbers_of, labels_of, notes_of, zeros, lent_room, fits}
use Rattle.rules.specs.Search.{Match, End, unfinished, Swept, Attempted, hit, miss, halts, walk_at, sweep, plan_of, Standing, stand_at}
use Rattle.rules.specs.Walk.{out_of_steps, out_of_rows, pairs, first_at, pair_ways, Kept, as_kept}
use Rattle.rules.specs.Working.{bits_of}
use Rattle.pairs.specs.declared.Walk.{Walk}
use Rattle.pairs.specs.Layout.{N, layout_of, halts_in, most_pairs}
use Rattle.pairs.specs.Step.{stack, pair_of}
use Rattle.matches.specs.declared.Sweep.{Sweep}
use Rattle.matches.specs.declared.Task.{Task}
use Rattle.matches.specs.Asked.{Asked, pl, width, asked_of, search_of, path_on}
use Rattle.matches.specs.Found.{Searches, Reports}

-- ---- one start

-- what the attempt came to that left the trail and the walk w: a halt, where a pair is still to be
-- entered, or where one waits; nothing, where none is open; or the path on the trail
abbrev pub by_top : ℕ → List ℕ → ℕ → Attempted
by_top P trail zero = miss
by_top P trail (suc t) = hit (path_on P trail (suc t))

-- the open pairs of a walk that waits
abbrev pub waits_on : ℕ → List ℕ → Walk → List ℕ
waits_on P trail w = reverse_aux (pair_of w ∷ stack P trail w.top) []

unfoldable pub came_to : ℕ → List ℕ → Walk → Attempted
unfolding stack
came_to P trail w =
    pick (eqb w.status 1) (halts out_of_steps (path_on P trail w.top)) (pick (eqb w.status 3) (halts out_of_rows (waits_on P trail w)) (by_top P trail w.top))

-- and what telling it asks: a row behind the start, and a path whose report can be made
pub record Tells (T : List ℕ) (rows : List ℤ) (task : Task) (trail labs : List ℕ) (i : Sweep) (w : Walk) : Type 0 where
  pub row : i.row ≤ 4096
  pub top : w.top < most_pairs
  pub reports : (w.status ≡ 1 → ⊥) → (w.status ≡ 3 → ⊥) → (w.top ≡ 0 → ⊥) → Reports T rows task trail labs i w

-- ---- all starts from one on

-- what the loop over the starts asks, whatever the buffers hold: what a search does, and numbers
-- that lie within their bounds
pub record Sound (T : List ℕ) (rows : List ℤ) (task : Task) (notes trail labs : List ℕ) (i : Sweep) : Type 0 where
  pub searches : Searches T rows task notes trail
  pub few : i.matches ≤ i.row
  pub labels : i.labels ≤ length labs
  pub steps : i.steps ≤ 4611686018427387904 + i.row * N (layout_of T task.size) task.size.rows

-- nothing beyond the M pairs is changed
pub record Beyond (M : ℕ) (n₁ t₁ notes trail : List ℕ) : Type 0 where
  pub notes_long : length notes ≡ length n₁
  pub trail_long : length trail ≡ length t₁
  pub notes_beyond : (z : ℕ) → M ≤ z → bit_at notes z ≡ bit_at n₁ z
  pub trail_beyond : (k : ℕ) → M ≤ k → get_or trail k 0 ≡ get_or t₁ k 0

-- matches before
abbrev pub pre : List Match → Swept Kept → Swept Kept
pre ms r = record { matches = ms ++ r.matches; end = r.end; state = r.state }

-- the definition's search from a start on
abbrev pub swp : Asked → ℕ → ℕ → ℕ → Standing → Kept → Swept Kept
swp A nums labs k at kept =
    sweep (walk_at (halts_in A.layout A.more A.n) (pair_ways A.holds A.n (pl A)) (pairs (length (pl A)) A.n) (first_at (length (pl A))))
    (plan_of (pl A) A.n A.more A.skip (fits (lent_room nums labs A.measures))) k at kept

-- The search stands so far, in the buffers whose report began as num₁ and lab₁: the matches done
-- are written, and what the definition's search still comes to from here on makes the goal of it.
pub record SoFar (T : List ℕ) (rows : List ℤ) (task : Task) (num₁ : List ℤ) (lab₁ : List ℕ) (goal : Swept Kept) (notes : List ℕ) (numbers : List ℤ) (labs : List ℕ) (i : Sweep) : Type 0 where
  pub fuel : ℕ
  pub done : List Match
  pub enough : task.size.rows ≤ i.row + fuel
  pub total : pre done (swp (asked_of T rows task) (length num₁) (length lab₁) fuel (stand_at i.row i.matches i.labels) (as_kept (bits_of notes (N (layout_of T task.size) task.size.rows)) i.steps)) ≡ goal
  pub going : i.end ≡ 0
  pub none_open : i.opened ≡ 0
  pub m_is : i.matches ≡ length done
  pub l_is : i.labels ≡ length (labels_of (pl (asked_of T rows task)) done)
  pub numbers_is : numbers ≡ wrote num₁ 0 (numbers_of (asked_of T rows task).rows (asked_of T rows task).measures (pl (asked_of T rows task)) 0 done)
  pub labels_is : labs ≡ wrote lab₁ 0 (labels_of (pl (asked_of T rows task)) done)
  pub nums : i.matches * width (asked_of T rows task) ≤ length num₁
  pub labs_le : i.labels ≤ length lab₁

-- where a search waits: the start of its attempt, and how many pairs are open
abbrev pub WaitsAt : End Match → Sweep → Type 0
WaitsAt e r = (i : ℕ) (p : List ℕ) → e ≡ unfinished out_of_rows i p → (r.row ≡ i) × (r.opened ≡ length p)

-- the counts and the report of the definition's search W
pub record Reported (A : Asked) (W : Swept Kept) (num₁ : List ℤ) (lab₁ : List ℕ) (numbers : List ℤ) (labs : List ℕ) (r : Sweep) : Type 0 where
  pub end : r.end ≡ end_answer W.end
  pub matches : r.matches ≡ length W.matches
  pub labels : r.labels ≡ length (labels_of (pl A) W.matches)
  pub steps : r.steps ≡ W.state.steps
  pub waits : WaitsAt W.end r
  pub numbers_is : numbers ≡ wrote num₁ 0 (numbers_of A.rows A.measures (pl A) 0 W.matches)
  pub labels_is : labs ≡ wrote lab₁ 0 (labels_of (pl A) W.matches)

-- the search has come to its goal
pub record Came (A : Asked) (num₁ : List ℤ) (lab₁ : List ℕ) (goal : Swept Kept) (notes : List ℕ) (numbers : List ℤ) (labs : List ℕ) (r : Sweep) : Type 0 where
  pub reported : Reported A goal num₁ lab₁ numbers labs r
  pub kept : bits_of notes (N A.layout A.n) ≡ goal.state.failed

-- what the loop over the starts leaves: whatever goal the search had stood so far for, it has come
-- to it
pub record Searched (T : List ℕ) (rows : List ℤ) (task : Task) (n₁ t₁ : List ℕ) (numbers₁ : List ℤ) (labs₁ : List ℕ) (i : Sweep) (notes trail : List ℕ) (numbers : List ℤ) (labs : List ℕ) (r : Sweep) : Type 0 where
  pub beyond : Beyond (N (layout_of T task.size) task.size.rows) n₁ t₁ notes trail
  pub came : (num₁ : List ℤ) (lab₁ : List ℕ) (goal : Swept Kept) → SoFar T rows task num₁ lab₁ goal n₁ numbers₁ labs₁ i → Came (asked_of T rows task) num₁ lab₁ goal notes numbers labs r

-- ---- the search

-- the pairs by which notes and trail are measured, which are no fewer than those of the rows, and
-- room for them
pub record Measures (T : List ℕ) (task : Task) (notes trail : List ℕ) : Type 0 where
  pub more : N (layout_of T task.size) task.size.rows ≤ task.pairs
  pub small : task.pairs < most_pairs
  pub noted : task.pairs ≤ 8 * length notes
  pub trailed : task.pairs ≤ length trail

-- The trail is left free where the search waits, but for what lies beyond the pairs; else it is
-- zeros.
pub record Trailed (pairs : ℕ) (t₀ trail : List ℕ) (r : Sweep) : Type 0 where
  pub zeroed : (r.end ≡ 23 → ⊥) → trail ≡ wrote t₀ 0 (zeros pairs)
  pub trail_long : length trail ≡ length t₀
  pub trail_beyond : drop pairs trail ≡ drop pairs t₀

-- what a search that goes on leaves
pub record WentOn (T : List ℕ) (rows : List ℤ) (task : Task) (n₁ t₁ : List ℕ) (numbers₁ : List ℤ) (labs₁ : List ℕ) (i : Sweep) (notes trail : List ℕ) (numbers : List ℤ) (labs : List ℕ) (r : Sweep) : Type 0 where
  pub notes_long : length notes ≡ length n₁
  pub notes_beyond : (z : ℕ) → N (layout_of T task.size) task.size.rows ≤ z → bit_at notes z ≡ bit_at n₁ z
  pub trailed : Trailed task.pairs t₁ trail r
  pub came : (num₁ : List ℤ) (lab₁ : List ℕ) (goal : Swept Kept) → SoFar T rows task num₁ lab₁ goal n₁ numbers₁ labs₁ i → Came (asked_of T rows task) num₁ lab₁ goal notes numbers labs r

-- the failed pairs, with those of rows that are not there
abbrev pub gapped : ℕ → List Bool → List Bool
gapped pairs F = F ++ replicate (pairs - length F) false

-- What the search leaves: the report, the failed pairs in the notes, and zeros in the trail unless
-- it waits.
pub record Answered (T : List ℕ) (rows : List ℤ) (task : Task) (n₀ t₀ : List ℕ) (num₀ : List ℤ) (lab₀ : List ℕ) (notes trail : List ℕ) (numbers : List ℤ) (labs : List ℕ) (r : Sweep) : Type 0 where
  pub reported : Reported (asked_of T rows task) (search_of (asked_of T rows task) (length num₀) (length lab₀)) num₀ lab₀ numbers labs r
  pub notes_is : notes ≡ wrote n₀ 0 (notes_of (gapped task.pairs (search_of (asked_of T rows task) (length num₀) (length lab₀)).state.failed))
  pub trailed : Trailed task.pairs t₀ trail r

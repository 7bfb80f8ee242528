-- Demands: the tender's, in the words of the definitions. Demand 1 for every input, demands 2 and 3
-- for every search that is accepted, in every skip mode and with every allowance of steps, whether
-- it ends as done, stopped or halted. They speak of what a call returns and of the memory that it
-- leaves. `demand1` (crates/laws, FirstDemand) and `demands` (crates/laws, Demands) prove them.
use Rattle.std.specs.Prelude.{◌≡◌, Bool, true, false, ◌⊎◌, ◌↔◌, ℕ, ◌+◌, ◌*◌, ◌≤◌, ◌<◌, ◌/◌, ◌%◌, ◌^◌, ℤ, length, get_or, drop}
use mathlib.Core.List.{List, [], Memᴰ}
use Rattle.std.proofs.Math.Option.{Option, none, some}
use Rattle.rules.specs.Basics.{Begins, repeats, wrote}
use Rattle.rules.specs.Query.{cut, misplaced, unfit, text_of, parts}
use Rattle.rules.specs.Language.{Tree, pattern, Written, WrongAt, Unfinished}
use Rattle.rules.specs.Places.{unroll, places_of, factor_of, flags_at}
use Rattle.rules.specs.Readings.{RowSets, row_sets, Reads, SomeReading}
use Rattle.rules.specs.Preferment.{Preferred, Setting, setting, Shown, Reports}
use Rattle.rules.specs.Walk.{Halt, out_of_steps, pairs, first_at, pair_ways, IsPath, IsOpen, count_true, Kept}
use Rattle.rules.specs.Search.{Match, End, unfinished, Finished, past_last, Swept, labels, end_of, shown, shown_end, found_in, open_of, path_pairs, plain_from, stand_at}
use Rattle.rules.specs.Report.{numbers_of, labels_of, lent_room, fits, bytes_for, bit_at, zeros}
use Rattle.rules.specs.Answers.{too_deep, tree_in, Task, task_of, letter_holds, Buffers, Memory, Report, refused, end_answer, answer_within, walk_within, plain_of, plain_report, search_within, search_of, P, F}
use Rattle.rules.specs.Entries.{reported_in, reported_all}

-- ---- what a caller sees

-- the search is accepted: it ends as done (0), stopped (13 and 15) or halted (16)
abbrev pub Accepts : ℕ → Type 0
Accepts answer = (answer ≡ 0) ⊎ ((answer ≡ 13) ⊎ ((answer ≡ 15) ⊎ (answer ≡ 16)))

-- the answer, the counts of matches and labels and both report buffers, as a call leaves them
abbrev pub report_in : Memory → Report
report_in m =
    record {
      answer = m.result.answer;
      matches = m.result.matches;
      labels = m.result.labels;
      numbers = m.buffers.numbers;
      label_bytes = m.buffers.labels;
    }

-- ---- demand 1

-- for every input: the lent buffers before the call, and what it returns and leaves
pub record Demand1 (a : Option ℕ) (q : List ℕ) (rows : List ℤ) (before : Buffers) (after : Memory) : Type 0 where
  -- the answer is that of document 01's table
  pub answer : after.result.answer ≡ answer_within a q rows before
  -- any other than 0, 13, 15 and 16 refuses: it comes with zeros, 5 and 14 with an offset, and
  -- every lent buffer is untouched
  pub untouched : (Accepts after.result.answer → ⊥) → after ≡ refused after.result.answer after.result.offset before
  -- the query's tree is one that is written in its text, and no other is
  pub tree : (p : Tree pattern) → (tree_in q ≡ some p) ↔ Written p (text_of q)
  pub one_tree : (p p' : Tree pattern) → Written p (text_of q) → Written p' (text_of q) → p ≡ p'
  -- the answer is 5 or 14 exactly if none of 1 to 4 applies and no tree is written in the text
  pub outside : ((after.result.answer ≡ 5) ⊎ (after.result.answer ≡ 14))
      ↔ ((cut q ≡ false) × (misplaced q ≡ false) × (unfit q ≡ false) × (too_deep q ≡ false) × ((p : Tree pattern) → Written p (text_of q) → ⊥))
  -- 5 returns the byte at which the text is wrong, 14 the text's length, any other answer 0
  pub wrong : after.result.answer ≡ 5 → WrongAt (text_of q) after.result.offset
  pub incomplete : after.result.answer ≡ 14 → Unfinished (text_of q) × (after.result.offset ≡ length (text_of q))
  pub no_offset : (after.result.answer ≡ 5 → ⊥) → (after.result.answer ≡ 14 → ⊥) → after.result.offset ≡ 0

-- ---- demand 2

-- what a pattern sees of a task's rows
abbrev pub sets_of : Task → RowSets
sets_of t = row_sets t.table.n (letter_holds t)

-- what a report for a task with the pattern p is of, where this is what fits
abbrev pub setting_of : Tree pattern → Task → (ℕ → ℕ → List ℕ → Bool) → Setting
setting_of p t fits = setting p (sets_of t) t.skip fits

-- a match at the start i, which is the path of the first success there, has its end at j and the
-- labels w
abbrev pub MatchAt : Task → ℕ → ℕ → List ℕ → Type 0
MatchAt t i j w =
    (path : List ℕ) × ((plain_from (letter_holds t) t.table.n t.places i ≡ some path) × (end_of (length t.places) path ≡ j) × (labels t.places path ≡ w))

-- for a task with the pattern p and so many report numbers and label bytes, the search r
pub record Demand2 (p : Tree pattern) (t : Task) (nums labs : ℕ) (r : Swept Kept) : Type 0 where
  -- a start has a match exactly if some reading of the pattern exists there
  pub exists : (i : ℕ) → ((path : List ℕ) × (plain_from (letter_holds t) t.table.n t.places i ≡ some path)) ↔ SomeReading (sets_of t) p i
  -- the match is the preferred one: its end and its labels are those of the greatest derivation
  -- that reads there
  pub preferred : (i j : ℕ) (w : List ℕ) → MatchAt t i j w ↔ Preferred (sets_of t) p i j w
  -- and so a reading
  pub reads : (i j : ℕ) (w : List ℕ) → Preferred (sets_of t) p i j w → Reads (sets_of t) p i j w
  -- the matches that preferment gives: the preferred ones at the starts that the skip mode lets us
  -- try, in order, each with its labels, up to the one that does not fit or that names no next
  -- start
  pub all : List Shown
  pub last : End Shown
  pub report : Reports (setting_of p t (fits (lent_room nums labs t.measures))) (stand_at 0 0 0) all last
  -- and there is no other such report
  pub only : (ms : List Shown) (end : End Shown) → Reports (setting_of p t (fits (lent_room nums labs t.measures))) (stand_at 0 0 0) ms end
      → (ms ≡ all) × (end ≡ last)
  -- the report holds exactly these, and ends so; one that is halted holds the first of them
  pub holds_all : Finished r.end → (shown t.places r.matches ≡ all) × (shown_end t.places r.end ≡ last)
  pub holds_first : Begins (shown t.places r.matches) all
  -- with room for every match there is a report too, and this one holds the first of its matches
  pub unlimited : List Shown
  pub unlimited_last : End Shown
  pub unlimited_report : Reports (setting_of p t (λ m l w. true)) (stand_at 0 0 0) unlimited unlimited_last
  pub first_of_unlimited : Begins (shown t.places r.matches) unlimited

-- ---- demand 3

-- for a task, an account of the pairs of so many rows, the search r by the counted walk and b by
-- plain backtracking
pub record Demand3 (t : Task) (largest : ℕ) (r : Swept Kept) (b : Swept (Unit {0})) : Type 0 where
  -- with skip past last row the steps are at most 2P(n+1), with R-3's factor 2PF(n+1)
  pub bound : t.skip ≡ past_last → r.state.steps ≤ 2 * pairs (length t.places) t.table.n
  -- in every skip mode they are at most P n (n+3) / 2, with R-3's factor PF n (n+3) / 2
  pub bound_each : 2 * r.state.steps ≤ length t.places * (t.table.n * (t.table.n + 3))
  -- the steps are the failed pairs plus the pairs on all paths found, path by path, plus the pairs
  -- still open where the walk has halted
  pub sum : r.state.steps ≡ count_true r.state.failed + path_pairs (found_in r) + length (open_of r.end)
  -- each path found is one from its start to END, each pair having led to the next
  pub paths : (m : Match) → Memᴰ m (found_in r) → IsPath (pair_ways (letter_holds t) t.table.n t.places) (first_at (length t.places) m.start) m.path
  -- those still open are pairs of the unfinished attempt, each having led to the next, none twice, and have
  -- not failed; there is none where the attempt has not begun
  pub still_open : (h : Halt) (i : ℕ) (p : List ℕ) → r.end ≡ unfinished h i p
      → ((p ≡ []) ⊎ IsOpen (pair_ways (letter_holds t) t.table.n t.places) (first_at (length t.places) i) p)
      × (repeats p ≡ false) × ((x : ℕ) → Memᴰ x p → get_or r.state.failed x false ≡ false)
  -- from a failed pair there is no reading of the rest
  pub failed : (x : ℕ) → get_or r.state.failed x false ≡ true → (path : List ℕ) → IsPath (pair_ways (letter_holds t) t.table.n t.places) x path → ⊥
  -- every pair is kept account of
  pub pairs_kept : length r.state.failed ≡ pairs (length t.places) largest
  -- the matches and the end are those of plain backtracking; where the walk has halted, its matches
  -- are the first of them
  pub like_all : Finished r.end → (r.matches ≡ b.matches) × (r.end ≡ b.end)
  pub like_first : Begins r.matches b.matches

-- ---- both, for an input, an allowance of steps (none: any number), and what a call leaves

pub record Demands (a : Option ℕ) (q : List ℕ) (rows : List ℤ) (before : Buffers) (after : Memory) : Type 0 where
  -- the pattern's one tree; P and F, counted on it, tell the number of the places
  pub tree : Tree pattern
  pub written : Written tree (text_of q)
  -- the list of places has each place once for each value of its flags (R-3): P times F
  pub counted : length (task_of q rows).places ≡ P (tree_in q) * F (tree_in q)
  pub P_counted : length (task_of q rows).places ≡ places_of tree * factor_of tree
  pub demand2 : Demand2 tree (task_of q rows) (length before.numbers) (length before.labels) (walk_within a q rows before)
  pub demand3 : Demand3 (task_of q rows) (task_of q rows).table.n (walk_within a q rows before) (plain_of q rows before)
  -- document 01's search does not halt; one that halts returns 16, and no other does
  pub finished : a ≡ none → Finished (walk_within a q rows before).end
  pub not_halted : (after.result.answer ≡ 16 → ⊥) → Finished (walk_within a q rows before).end
  -- the answer tells how the walk ends, and the steps returned are the walk's
  pub ended : after.result.answer ≡ end_answer (walk_within a q rows before).end
  pub steps : after.result.steps ≡ (walk_within a q rows before).state.steps
  -- they keep the bounds: 2PF(n+1) with skip past last row, PF n (n+3) / 2 in every skip mode
  pub bound : (task_of q rows).skip ≡ past_last → after.result.steps ≤ 2 * pairs (places_of tree * factor_of tree) (task_of q rows).table.n
  pub bound_each : 2 * after.result.steps ≤ places_of tree * factor_of tree * ((task_of q rows).table.n * ((task_of q rows).table.n + 3))
  -- they are the failed pairs, those on all paths found, and those still open where it has halted
  pub sum : after.result.steps
      ≡ count_true (walk_within a q rows before).state.failed + path_pairs (found_in (walk_within a q rows before)) + length (open_of (walk_within a q rows before).end)
  -- the failed pairs are exactly those noted, and spare bits are 0
  pub noted : (x : ℕ) → x < 8 * bytes_for (pairs (places_of tree * factor_of tree) (task_of q rows).table.n)
      → bit_at after.buffers.notes x ≡ get_or (walk_within a q rows before).state.failed x false
  -- the trail has a 0 for each pair; beyond, notes and trail are unchanged
  pub trail : after.buffers.trail ≡ wrote before.trail 0 (zeros (pairs (places_of tree * factor_of tree) (task_of q rows).table.n))
  pub notes_beyond : drop (bytes_for (pairs (places_of tree * factor_of tree) (task_of q rows).table.n)) after.buffers.notes
      ≡ drop (bytes_for (pairs (places_of tree * factor_of tree) (task_of q rows).table.n)) before.notes
  -- the counts returned are those of the matches written and of their labels
  pub matches : after.result.matches ≡ length (walk_within a q rows before).matches
  pub label_count : after.result.labels ≡ length (labels_of (task_of q rows).places (walk_within a q rows before).matches)
  -- read from the report's buffers, the matches are those of the walk, in order, each with its
  -- labels and with the measures of its rows
  pub reported : reported_in q after ≡ reported_all (task_of q rows).table (task_of q rows).measures (shown (task_of q rows).places (walk_within a q rows before).matches)
  -- each match's numbers lead with its own, counted from 1; beyond them both buffers are unchanged
  pub numbers : after.buffers.numbers
      ≡ wrote before.numbers 0 (numbers_of (task_of q rows).table (task_of q rows).measures (task_of q rows).places 0 (walk_within a q rows before).matches)
  pub numbers_beyond : drop (after.result.matches * (3 + 2 * length (parts q).measures)) after.buffers.numbers
      ≡ drop (after.result.matches * (3 + 2 * length (parts q).measures)) before.numbers
  pub labels_beyond : drop after.result.labels after.buffers.labels ≡ drop after.result.labels before.labels
  -- where the search has not halted, the answer, the counts and both report buffers are those of
  -- plain backtracking; where it has, its matches are the first of them
  pub like_plain : (after.result.answer ≡ 16 → ⊥) → report_in after ≡ plain_report q rows before
  pub first_of_plain : Begins (reported_in q after) (reported_all (task_of q rows).table (task_of q rows).measures (shown (task_of q rows).places (plain_of q rows before).matches))
  -- the unused bits of a failed pair's flags are 0
  pub unused : (x : ℕ) → get_or (walk_within a q rows before).state.failed x false ≡ true → x % factor_of tree < 2 ^ flags_at (unroll tree) (x / factor_of tree % places_of tree)

-- ---- what an allowance does (R-13)

pub record Allowing (q : List ℕ) (rows : List ℤ) (lent : Buffers) : Type 0 where
  -- it is not passed, and where the search halts for it, it is used up
  pub kept_to : (a : ℕ) → (walk_within (some a) q rows lent).state.steps ≤ a
  pub used_up : (a i : ℕ) (p : List ℕ) → (walk_within (some a) q rows lent).end ≡ unfinished out_of_steps i p → (walk_within (some a) q rows lent).state.steps ≡ a
  -- a search that does not halt within it is document 01's
  pub done : (a : ℕ) → Finished (walk_within (some a) q rows lent).end → search_within (some a) q rows lent ≡ search_of q rows lent
  -- a run with a larger allowance begins with the same matches
  pub larger : (a b : ℕ) → a ≤ b → Begins (walk_within (some a) q rows lent).matches (walk_within (some b) q rows lent).matches
  -- an allowance that the search without one does not pass changes nothing
  pub unpassed : (a : ℕ) → (walk_within none q rows lent).state.steps ≤ a → search_within (some a) q rows lent ≡ search_of q rows lent
  -- an allowance of 2PF(n+1) is always enough with skip past last row
  pub enough : (task_of q rows).skip ≡ past_last → (a : ℕ) → 2 * pairs (length (task_of q rows).places) (task_of q rows).table.n ≤ a → search_within (some a) q rows lent ≡ search_of q rows lent

-- Rules: document 02, R-11, rows that come in lots. What a call answers and leaves is told by what
-- was named first, the rows present now and whether the end is declared; of the earlier calls only
-- so far as a stopped search stays stopped, and as a call after the end, or with fewer rows than
-- before, is refused. Where the earlier cuts were plays no part.
use Rattle.std.specs.Prelude.{◌≡◌, Bool, false, not, ◌||◌, List, [], ◌∷◌, ◌++◌, ℕ, ◌*◌, ◌%◌, ltb, eqb, ℤ, pos, length, take, drop}
use Rattle.std.proofs.Math.Option.{Option, none, some}
use Rattle.std.specs.Int.Signed.{lt_z}
use Rattle.rules.specs.Basics.{pick, every}
use Rattle.rules.specs.Rows.{Comparison, comparisons_in}
use Rattle.rules.specs.Query.{columns_of, text_of, parts}
use Rattle.rules.specs.Language.{Tree, pattern, has_dollar}
use Rattle.rules.specs.Walk.{pairs, Kept}
use Rattle.rules.specs.Search.{Swept, Terms}
use Rattle.rules.specs.Report.{bytes_for}
use Rattle.rules.specs.Answers.{tree_in, P, letters_in, Task, task_of, walked_on, Buffers, Test, first_of, query_tests, offset_at, end_answer, report_of, Result, Memory, refused, accepted, F}

-- ---- R-11, "each call says how many are present now"

-- the first rows of the slice, so many as are present; what lies behind them is not read
unfoldable pub present_rows : List ℕ → List ℤ → ℕ → List ℤ
unfolding columns_of
present_rows q rows present = take (present * columns_of q) rows

-- ---- R-11, "the caller names the largest n first"

-- the query, the largest number of rows, the allowance of steps where there is one (R-13), and the
-- lent buffers as they are then; their lengths, and the query, are the same at each call
pub record Named : Type 0 where
  pub query : List ℕ
  pub largest : ℕ
  pub allowance : Option ℕ
  pub lent : Buffers

-- notes and trail are measured by the largest number of rows, with R-3's factor
unfoldable pub named_pairs : Named → ℕ
unfolding P F tree_in
named_pairs s = pairs (P (tree_in s.query) * F (tree_in s.query)) s.largest

-- Answer 10 of a call: the slice is not whole rows, or more rows are said to be present than the
-- largest number, or than the slice holds
unfoldable pub bad_lot : Named → List ℤ → ℕ → Bool
unfolding columns_of
bad_lot s rows present =
    not (eqb (length rows % columns_of s.query) 0) || (ltb s.largest present || ltb (length rows) (present * columns_of s.query))

-- ---- R-11, "the search state is kept between calls"

-- what is kept of the calls so far: the rows present at the latest that was not refused, whether it
-- declared the end, and its result
pub record Progress : Type 0 where
  pub present : ℕ
  pub ended : Bool
  pub result : Result

-- it starts new: no row, the end not declared, and no match
abbrev pub begun : Progress
begun = record { present = 0; ended = false; result = record { answer = 23; matches = 0; labels = 0; steps = 0; offset = 0 } }

-- ---- R-11, its last sentence: answer 17

unfoldable pub dollar_in : Option (Tree pattern) → Bool
unfolding has_dollar
dollar_in none = false
dollar_in (some t) = has_dollar t

-- a comparison reads a row behind its own
unfoldable pub ahead : Comparison → Bool
ahead c = lt_z (pos 0) c.left_offset || lt_z (pos 0) c.right_offset

-- a letter reads no row behind its own, whatever AND, OR and NOT make of it
unfoldable pub settles : List ℕ → ℕ → Bool
unfolding parts every ahead comparisons_in
settles q c = every (λ x. not (ahead x)) (comparisons_in ((parts q).condition c))

-- Answer 17: a `$`, or an offset above 0 for a letter in the pattern
unfoldable pub looks_ahead : List ℕ → Bool
unfolding dollar_in tree_in letters_in every settles
looks_ahead q = dollar_in (tree_in q) || not (every (settles q) (letters_in (tree_in q)))

-- ---- the refusals, in rank

-- Those of the query alone, with 14 where R-1 puts it; 17, ranked after 9; 10, also for a largest
-- number of rows above 4,096; 11 and 12 by the largest number; and 21 for fewer rows than before.
-- `bad` is a call's own test for 10, `fewer` that for 21.
unfoldable pub lot_tests : Named → Bool → Bool → List Test
unfolding query_tests looks_ahead named_pairs bytes_for
lot_tests s bad fewer =
    query_tests s.query
    ++ ((17, looks_ahead s.query)
    ∷ (10, ltb 4096 s.largest || bad)
    ∷ (11, ltb (length s.lent.notes) (bytes_for (named_pairs s)))
    ∷ (12, ltb (length s.lent.trail) (named_pairs s))
    ∷ (21, fewer)
    ∷ [])

-- what whatever was named gets for itself, whatever rows come: 0 where a search may begin
unfoldable pub begin_answer : Named → ℕ
unfolding first_of lot_tests
begin_answer s = first_of (lot_tests s false false)

-- what a call with so many rows present gets: 0 where it is not refused
unfoldable pub call_refusal : Named → Progress → List ℤ → ℕ → ℕ
unfolding first_of lot_tests bad_lot
call_refusal s p rows present = first_of (lot_tests s (bad_lot s rows present) (ltb present p.present))

-- ---- R-11, "the walk waits"

unfoldable pub present_task : Named → List ℤ → ℕ → Task
unfolding task_of present_rows
present_task s rows present = task_of s.query (present_rows s.query rows present)

-- more rows may come unless the end is declared
abbrev pub lot_terms : Named → Bool → Terms
lot_terms s last = record { largest = s.largest; more = not last; allowance = s.allowance }

-- All calls together are the one search of demand 3: a call comes to the search on the rows
-- present, from its beginning. It waits where an attempt would begin at, or a letter place (its
-- entry counted) asks for, a row not yet present (`no_start` and `halting_of`, specs/Search).
unfoldable pub lot_walk : Named → List ℤ → ℕ → Bool → Swept Kept
unfolding walked_on present_task
lot_walk s rows present last = walked_on (lot_terms s last) (present_task s rows present) (length s.lent.numbers) (length s.lent.labels)

-- what it leaves, of the buffers as they were named: the matches of all calls so far, the notes of
-- all failed pairs, and a trail of zeros, both by the largest number of rows
unfoldable pub lot_memory : Named → List ℤ → ℕ → Bool → Memory
unfolding lot_walk present_task report_of end_answer accepted
lot_memory s rows present last =
    let r = lot_walk s rows present last in
    accepted (report_of (end_answer r.end) (present_task s rows present) s.lent r) r.state s.lent

-- ---- a call

-- 13, 15 and 16 stay the answer to every later call
unfoldable pub stays : ℕ → Bool
stays a = eqb a 13 || (eqb a 15 || eqb a 16)

-- what a call comes to: what is kept, the result and the buffers
pub record Called : Type 0 where
  pub progress : Progress
  pub memory : Memory

abbrev pub unchanged : Progress → Memory → Called
unchanged p m = record { progress = p; memory = m }

-- what has arrived when a call is made: the slice as it is then, and how many of its rows are
-- present
pub record Arrived : Type 0 where
  pub rows : List ℤ
  pub present : ℕ

abbrev pub arrived : List ℤ → ℕ → Arrived
arrived rows present = record { rows = rows; present = present }

-- A call with what has arrived, the last or not, that finds the buffers as they are `now`.
-- Where the search has stopped, the result is as before; after the end the answer is 21; then the
-- refusals by rank; none of these changes anything. Any other call comes to the search on the rows
-- present, and the last one declares the end.
unfoldable pub call_of : Named → Progress → Arrived → Bool → Buffers → Called
unfolding stays call_refusal offset_at text_of lot_memory refused
call_of s p lot last now =
    pick (stays p.result.answer) (unchanged p (record { result = p.result; buffers = now }))
    (pick p.ended (unchanged p (refused 21 0 now))
    (pick (eqb (call_refusal s p lot.rows lot.present) 0)
    (record {
      progress = record { present = lot.present; ended = last; result = (lot_memory s lot.rows lot.present last).result };
      memory = lot_memory s lot.rows lot.present last;
    })
    (unchanged p (refused (call_refusal s p lot.rows lot.present) (offset_at (text_of s.query) (call_refusal s p lot.rows lot.present)) now))))

-- What R-11 leaves free, with what holds of it: a call leaves what `call_of` says, but at 23 the
-- first numbers of the trail, one for each pair, may be any. Its length, and what lies beyond, are
-- as said.
pub record Leaves (s : Named) (want got : Memory) : Type 0 where
  pub result : got.result ≡ want.result
  pub notes : got.buffers.notes ≡ want.buffers.notes
  pub numbers : got.buffers.numbers ≡ want.buffers.numbers
  pub labels : got.buffers.labels ≡ want.buffers.labels
  pub trail : (want.result.answer ≡ 23 → ⊥) → got.buffers.trail ≡ want.buffers.trail
  pub trail_length : length got.buffers.trail ≡ length want.buffers.trail
  pub trail_beyond : drop (named_pairs s) got.buffers.trail ≡ drop (named_pairs s) want.buffers.trail

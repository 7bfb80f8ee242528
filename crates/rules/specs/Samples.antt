-- Worked cases: document 02. Small searches as tables, run on the definitions, one table for each
-- request; and of strings that clause 6.2 of ISO/IEC 19075-5 prints, which one is preferred. That
-- the definitions agree with every line is proved in proofs/Samples.
use Rattle.std.specs.Prelude.{Bool, true, false, not, ◌&&◌, List, [], ◌∷◌, ◌++◌, ℕ, zero, suc, eqb, ℤ, pos, neg_ℤ, replicate, take}
use Rattle.std.proofs.Common.{inl, inr, zero-le, arith}
use Rattle.std.proofs.Math.Option.{Option, none, some}
use Prim.Native.String.{String}
use Rattle.rules.specs.Basics.{pick, bytes}
use Rattle.rules.specs.Rows.{Truth, yes, no, unknown, condition_truth}
use Rattle.rules.specs.Language.{opt, lower, upper, pattern, Tree, one, more, last, bare, times, letter}
use Rattle.rules.specs.Preferment.{Derivation, Prefers, empty_ends, Shown}
use Rattle.rules.specs.Walk.{count_true}
use Rattle.rules.specs.Search.{open_of}
use Rattle.rules.specs.Answers.{pairs_of, Buffers, Result, task_of, walk_within, search_within, search_of, Tested, test_of}
use Rattle.rules.specs.Lots.{Named, Progress, begun, begin_answer, lot_walk, arrived, call_of}
use Rattle.rules.specs.Bench.{record_bytes, asks, w1, X, any, Line, at, unstepped, refused_line, same, equal_z, enough, line, above_zero, agrees, if_given, with_factor, answering}
use Rattle.rules.specs.Report.{result_of}

-- ---- R-2, skip to a labelled row

-- a query of one column whose skip record has a mode and a letter
abbrev pub asks_to : String → ℕ → ℕ → List ℕ
unfolding bytes
asks_to text mode c = record_bytes 1 (1 ∷ 0 ∷ []) ++ (record_bytes 2 (bytes text) ++ record_bytes 4 (mode ∷ c ∷ []))

-- a line of a search that stops behind its last match, as the letter labels no row of it or its
-- first row
abbrev pub stuck_line : List ℕ → List ℤ → ℕ → List Shown → Line
stuck_line q rows p ms = answering 15 (unstepped q rows p ms)

unfoldable pub skips : List Line
unfolding bytes
skips =
    -- to the first B (66), all letters free
    unstepped (asks_to "A B" 2 66) (any 4) 3 (at 0 "AB" ∷ at 1 "AB" ∷ at 2 "AB" ∷ [])
    -- to the last B, and to the first
    ∷ unstepped (asks_to "A B A B" 3 66) (any 7) 5 (at 0 "ABAB" ∷ at 3 "ABAB" ∷ [])
    ∷ unstepped (asks_to "A B A B" 2 66) (any 7) 5 (at 0 "ABAB" ∷ at 1 "ABAB" ∷ at 2 "ABAB" ∷ at 3 "ABAB" ∷ [])
    -- its row is the match's first row; the last A of the same match is not
    ∷ stuck_line (asks_to "A B A B" 2 65) (any 7) 5 (at 0 "ABAB" ∷ [])
    ∷ unstepped (asks_to "A B A B" 3 65) (any 7) 5 (at 0 "ABAB" ∷ at 2 "ABAB" ∷ [])
    -- it labels no row
    ∷ stuck_line (asks_to "A B | C" 3 67) (any 4) 5 (at 0 "AB" ∷ [])
    -- 15 also where no start is left
    ∷ stuck_line (asks_to "A" 2 65) (any 1) 2 (at 0 "A" ∷ [])
    -- after an empty match one row on
    ∷ unstepped (asks_to "A*?" 2 65) (any 3) 3 (at 0 "" ∷ at 1 "" ∷ at 2 "" ∷ [])
    -- modes 0 and 1 demand 0, modes 2 and 3 a letter; there is no mode 4; a letter that is not in
    -- the pattern is 9
    ∷ refused_line (asks_to "A" 0 65) 2 3
    ∷ refused_line (asks_to "A" 1 65) 2 3
    ∷ refused_line (asks_to "A" 2 0) 2 3
    ∷ refused_line (asks_to "A" 3 64) 2 3
    ∷ refused_line (asks_to "A" 4 65) 2 3
    ∷ refused_line (asks_to "A" 3 66) 2 9
    ∷ []

-- a match that does not fit is 13, also where it would name no next start
unfoldable pub full_first : Bool
unfolding search_of bytes
full_first =
    let lent : Buffers = enough (asks_to "A" 2 65) (any 1) in
    eqb (search_of (asks_to "A" 2 65) (any 1) (record { notes = lent.notes; trail = lent.trail; numbers = replicate 2 (pos 9); labels = lent.labels })).result.answer 13

-- ---- R-13, an allowance of steps

-- a result without an offset: the answer, the matches, the labels and the steps
abbrev pub gets : ℕ → ℕ → ℕ → ℕ → Result
gets a m l s = record { answer = a; matches = m; labels = l; steps = s; offset = 0 }

abbrev pub equal_result : Result → Result → Bool
equal_result r t = eqb r.answer t.answer && (eqb r.matches t.matches && (eqb r.labels t.labels && (eqb r.steps t.steps && eqb r.offset t.offset)))

-- an allowance, the result, and how many pairs have failed
pub record Allowed : Type 0 where
  pub allowance : ℕ
  pub result : Result
  pub failed : ℕ

abbrev pub allowed : ℕ → Result → ℕ → Allowed
allowed a r f = record { allowance = a; result = r; failed = f }

-- W1 takes 12 steps and finds its match with the eighth
unfoldable pub allowances : List Allowed
allowances =
    allowed 0 (gets 16 0 0 0) 0
    ∷ allowed 1 (gets 16 0 0 1) 1
    ∷ allowed 2 (gets 16 0 0 2) 1
    ∷ allowed 3 (gets 16 0 0 3) 1
    ∷ allowed 4 (gets 16 0 0 4) 1
    ∷ allowed 5 (gets 16 0 0 5) 1
    ∷ allowed 6 (gets 16 0 0 6) 2
    ∷ allowed 7 (gets 16 0 0 7) 2
    ∷ allowed 8 (gets 16 1 3 8) 2
    ∷ allowed 9 (gets 16 1 3 9) 2
    ∷ allowed 10 (gets 16 1 3 10) 2
    ∷ allowed 11 (gets 16 1 3 11) 3
    ∷ allowed 12 (gets 0 1 3 12) 6
    ∷ allowed 13 (gets 0 1 3 12) 6
    ∷ []

unfoldable pub keeps_within : List ℕ → List ℤ → Allowed → Bool
unfolding search_within walk_within count_true
keeps_within q rows l =
    let failed = (walk_within (some l.allowance) q rows (enough q rows)).state.failed in
    equal_result (search_within (some l.allowance) q rows (enough q rows)).result l.result && eqb (count_true failed) l.failed

unfoldable pub keeps_to : Allowed → Bool
unfolding keeps_within w1
keeps_to l = keeps_within w1 X l

-- what comes first in time is the answer: `A` to its first A takes two steps and is then stuck;
-- with no room for its match it stops for that
unfoldable pub in_time : Bool
unfolding search_within bytes
in_time =
    let q = asks_to "A" 2 65 in
    let lent : Buffers = enough q (any 1) in
    let tight : Buffers = record { notes = lent.notes; trail = lent.trail; numbers = replicate 2 (pos 9); labels = lent.labels } in
    eqb (search_within (some 1) q (any 1) lent).result.answer 16
    && (eqb (search_within (some 2) q (any 1) lent).result.answer 15
    && (eqb (search_within (some 1) q (any 1) tight).result.answer 16
    && eqb (search_within (some 2) q (any 1) tight).result.answer 13))

-- an allowance of 0 is enough where there is no row
unfoldable pub no_rows : Bool
unfolding search_within w1
no_rows = eqb (search_within (some 0) w1 [] (enough w1 [])).result.answer 0

-- ---- R-11, rows in lots

-- a query with these rows at most, and an allowance or none; buffers just enough for its notes and
-- its trail, by these rows
abbrev pub named : List ℕ → ℕ → Option ℕ → Named
named q n a = record { query = q; largest = n; allowance = a; lent = enough q (any n) }

-- a call: the slice, how many of its rows are present, and whether it declares the end; and its
-- result
pub record Told : Type 0 where
  pub rows : List ℤ
  pub present : ℕ
  pub ends : Bool
  pub result : Result

abbrev pub now : List ℤ → ℕ → Result → Told
now rows k r = record { rows = rows; present = k; ends = false; result = r }

abbrev pub at_last : List ℤ → ℕ → Result → Told
at_last rows k r = record { rows = rows; present = k; ends = true; result = r }

-- calls one behind the other, each with the buffers as the one before left them
unfoldable pub tells : Named → Progress → Buffers → List Told → Bool
unfolding call_of
tells s p lent [] = true
tells s p lent (c ∷ cs) =
    let r = call_of s p (arrived c.rows c.present) c.ends lent in
    equal_result r.memory.result c.result && tells s r.progress r.memory.buffers cs

abbrev pub Lotted : Type 0
Lotted = Named × List Told

unfoldable pub keeps_on : Lotted → Bool
unfolding tells pairs_of
keeps_on l = tells l.0 begun l.0.lent l.1

-- a query of two columns, with 2 rows at most
abbrev pub two_columns : Named
unfolding bytes pairs_of
two_columns =
    let q : List ℕ = record_bytes 1 (2 ∷ 0 ∷ []) ++ (record_bytes 2 (bytes "A") ++ record_bytes 4 (0 ∷ 0 ∷ [])) in
    record { query = q; largest = 2; allowance = none; lent = enough q (any 4) }

-- the same with room for one match in the report
abbrev pub one_match : Named → Named
one_match s =
    record {
      query = s.query;
      largest = s.largest;
      allowance = s.allowance;
      lent = record { notes = s.lent.notes; trail = s.lent.trail; numbers = replicate 3 (pos 9); labels = s.lent.labels };
    }

unfoldable pub lots : List Lotted
unfolding w1 bytes pairs_of
lots =
    -- W1 in two lots, cut at each row: by the end the one run's 0, 1, 3, 12; then 21. No row: the
    -- first attempt waits
    (named w1 5 none, now X 0 (gets 23 0 0 0) ∷ at_last X 5 (gets 0 1 3 12) ∷ now X 5 (gets 21 0 0 0) ∷ [])
    -- it fails at row 0, and the next attempt waits
    ∷ (named w1 5 none, now X 1 (gets 23 0 0 1) ∷ at_last X 5 (gets 0 1 3 12) ∷ [])
    -- the second A waits, its entry counted; with the third row it passes, and the third A waits
    ∷ (named w1 5 none, now X 2 (gets 23 0 0 4) ∷ now X 3 (gets 23 0 0 6) ∷ at_last X 5 (gets 0 1 3 12) ∷ [])
    -- the match is handed out, and the attempt at row 4 waits; then all rows are there, but the end
    -- is not declared
    ∷ (named w1 5 none, now X 4 (gets 23 1 3 8) ∷ now X 5 (gets 23 1 3 11) ∷ at_last X 5 (gets 0 1 3 12) ∷ [])
    -- more rows than named, and fewer than before, change nothing, and no last call so refused
    -- declares the end; the same count again; an end with fewer rows than named
    ∷ (
      named w1 5 none,
      now X 4 (gets 23 1 3 8)
          ∷ now (X ++ X) 6 (gets 10 0 0 0)
          ∷ at_last (X ++ X) 6 (gets 10 0 0 0)
          ∷ now X 3 (gets 21 0 0 0)
          ∷ at_last X 3 (gets 21 0 0 0)
          ∷ now X 4 (gets 23 1 3 8)
          ∷ at_last X 4 (gets 0 1 3 8)
          -- after the end 21 comes first, also to a second last call
          ∷ now X 5 (gets 21 0 0 0)
          ∷ at_last X 5 (gets 21 0 0 0)
          ∷ now (X ++ X) 6 (gets 21 0 0 0)
          ∷ [],
    )
    -- more rows than the slice holds; this ranks before fewer rows than before
    ∷ (named w1 9 none, now X 6 (gets 10 0 0 0) ∷ now X 5 (gets 23 1 3 11) ∷ now (take 3 X) 4 (gets 10 0 0 0) ∷ now (take 3 X) 3 (gets 21 0 0 0) ∷ [])
    -- the slice may hold more rows than are named, and what lies behind those present is not read
    ∷ (named w1 3 none, now X 3 (gets 23 0 0 6) ∷ at_last X 3 (gets 0 0 0 9) ∷ [])
    -- a slice that is not whole rows
    ∷ (two_columns, now (any 3) 1 (gets 10 0 0 0) ∷ now (any 4) 1 (gets 23 1 1 2) ∷ now (any 4) 2 (gets 23 2 2 4) ∷ [])
    -- forks, `^` and END do not wait: an empty match is handed out, and `^` fails behind the row
    ∷ (named (asks "A*?" [] 0 []) 2 none, now (any 2) 0 (gets 23 0 0 0) ∷ now (any 2) 1 (gets 23 1 0 2) ∷ at_last (any 2) 2 (gets 0 2 0 4) ∷ [])
    ∷ (named (asks "A ^" [] 0 []) 2 none, now (any 2) 1 (gets 23 0 0 2) ∷ at_last (any 2) 1 (gets 0 0 0 2) ∷ [])
    -- a letter without DEFINE waits too, also behind the last row that can come
    ∷ (named (asks "A*" [] 0 []) 2 none, now (any 2) 1 (gets 23 0 0 4) ∷ now (any 2) 2 (gets 23 0 0 6) ∷ at_last (any 2) 2 (gets 0 1 2 7) ∷ [])
    -- 13 stays the answer to every later call, after a last call too
    ∷ (
      one_match (named (asks "A" [] 0 []) 3 none),
      now (any 3) 1 (gets 23 1 1 2) ∷ now (any 3) 2 (gets 13 1 1 4) ∷ now (any 3) 1 (gets 13 1 1 4) ∷ now (any 3) 4 (gets 13 1 1 4) ∷ at_last (any 3) 3 (gets 13 1 1 4) ∷ now (any 3) 3 (gets 13 1 1 4) ∷ [],
    )
    ∷ (one_match (named (asks "A" [] 0 []) 3 none), at_last (any 3) 2 (gets 13 1 1 4) ∷ now (any 3) 2 (gets 13 1 1 4) ∷ at_last (any 3) 3 (gets 13 1 1 4) ∷ [])
    -- 15 in the call that reaches END, also where no further row is there; it stays
    ∷ (named (asks_to "A" 2 65) 3 none, now (any 3) 1 (gets 15 1 1 2) ∷ at_last (any 3) 3 (gets 15 1 1 2) ∷ now (any 3) 3 (gets 15 1 1 2) ∷ [])
    -- an allowance counts over all calls; 16 stays
    ∷ (named w1 5 (some 6), now X 2 (gets 23 0 0 4) ∷ now X 4 (gets 16 0 0 6) ∷ at_last X 2 (gets 16 0 0 6) ∷ now X 6 (gets 16 0 0 6) ∷ [])
    -- the entry that waits may be the last allowed; one that would pass the allowance is not made
    ∷ (named w1 5 (some 4), now X 2 (gets 23 0 0 4) ∷ now X 3 (gets 16 0 0 4) ∷ [])
    ∷ (named w1 5 (some 3), now X 2 (gets 16 0 0 3) ∷ [])
    -- with the allowance just used up, an attempt at an absent row waits, and is none at the end
    ∷ (named w1 5 (some 8), now X 4 (gets 23 1 3 8) ∷ now X 5 (gets 16 1 3 8) ∷ [])
    ∷ (named w1 5 (some 8), now X 4 (gets 23 1 3 8) ∷ at_last X 4 (gets 0 1 3 8) ∷ [])
    ∷ []

-- notes and trail are kept by the largest number of rows: W1, at most 5 rows, 4 of them present.
-- Pairs 0 and 17 have failed at 23; at the end the trail is 30 zeros, with 4 rows only. A refused
-- call leaves all four buffers as it finds them. The open pairs where two rows are present are 5,
-- 11, 12.
unfoldable pub lot_rooms : Bool
unfolding call_of lot_walk w1 pairs_of
lot_rooms =
    let s = named w1 5 none in
    let first = call_of s begun (arrived X 4) false s.lent in
    let final = call_of s first.progress (arrived X 4) true first.memory.buffers in
    let later = call_of s first.progress (arrived X 3) false s.lent in
    same eqb first.memory.buffers.notes (1 ∷ 0 ∷ 2 ∷ 0 ∷ [])
    && (same eqb final.memory.buffers.notes (1 ∷ 0 ∷ 2 ∷ 0 ∷ [])
    && (same eqb final.memory.buffers.trail (replicate 30 0)
    && (same eqb later.memory.buffers.notes s.lent.notes
    && (same eqb later.memory.buffers.trail s.lent.trail
    && (same equal_z later.memory.buffers.numbers s.lent.numbers
    && (same eqb later.memory.buffers.labels s.lent.labels
    && same eqb (open_of (lot_walk s X 2 false).end) (5 ∷ 11 ∷ 12 ∷ [])))))))

-- DEFINE c with offset 1 on the left, or on the right: above the constant 0, or above a column
abbrev pub ahead_left : ℕ → List ℕ
ahead_left c = record_bytes 3 (c ∷ 1 ∷ 0 ∷ 1 ∷ 5 ∷ 0 ∷ 0 ∷ 0 ∷ 0 ∷ 0 ∷ 0 ∷ 0 ∷ 0 ∷ 0 ∷ [])

abbrev pub ahead_right : ℕ → List ℕ
ahead_right c = record_bytes 3 (c ∷ 1 ∷ 0 ∷ 0 ∷ 5 ∷ 1 ∷ 0 ∷ 1 ∷ 0 ∷ 0 ∷ 0 ∷ 0 ∷ 0 ∷ 0 ∷ [])

-- a first call with so many of four rows present, buffers for 3: the answer and its offset
pub record Refused : Type 0 where
  pub query : List ℕ
  pub largest : ℕ
  pub present : ℕ
  pub answer : ℕ
  pub offset : ℕ

abbrev pub refused_at : List ℕ → ℕ → ℕ → ℕ → ℕ → Refused
refused_at q n k a o = record { query = q; largest = n; present = k; answer = a; offset = o }

unfoldable pub lot_refusals : List Refused
unfolding bytes
lot_refusals =
    refused_at (asks "A" [] 0 []) 3 3 23 0
    -- 17: a `$` anywhere; an offset above 0, left or right, of a letter in the pattern
    ∷ refused_at (asks "A $" [] 0 []) 3 3 17 0
    ∷ refused_at (asks "B (A | B $?)" [] 0 []) 3 3 17 0
    ∷ refused_at (asks "A" (ahead_left 65) 0 []) 3 3 17 0
    ∷ refused_at (asks "A" (ahead_right 65) 0 []) 3 3 17 0
    ∷ refused_at (asks "A" (ahead_left 66) 0 []) 3 3 23 0
    -- 9 ranks before 17, and 17 before 10
    ∷ refused_at (asks "A $" [] 0 (record_bytes 5 (1 ∷ 66 ∷ 0 ∷ 0 ∷ []))) 3 3 9 0
    ∷ refused_at (asks "A $" [] 0 []) 4097 5 17 0
    -- 10 before 11: a largest number above 4,096, more rows than it, more than the slice holds
    ∷ refused_at (asks "A" [] 0 []) 4097 3 10 0
    ∷ refused_at (asks "A" [] 0 []) 4096 3 11 0
    ∷ refused_at (asks "A" [] 0 []) 3 4 10 0
    ∷ refused_at (asks "A" [] 0 []) 9 5 10 0
    -- notes and trail by the largest number, not by the rows present
    ∷ refused_at (asks "A" [] 0 []) 4 1 11 0
    ∷ refused_at (asks "A B" [] 0 []) 4 1 12 0
    -- 5 and 14 with their offsets
    ∷ refused_at (asks "A $ )" [] 0 []) 4097 5 5 4
    ∷ refused_at (asks "A $ (" [] 0 []) 4097 5 14 5
    ∷ []

unfoldable pub refuses_so : Refused → Bool
unfolding call_of pairs_of
refuses_so l =
    let s : Named = record { query = l.query; largest = l.largest; allowance = none; lent = enough l.query (any 3) } in
    let r = (call_of s begun (arrived (any 4) l.present) false s.lent).memory.result in
    eqb r.answer l.answer && (eqb r.offset l.offset && eqb r.matches (pick (eqb l.answer 23) 3 0))

-- ---- R-3, repetitions whose rounds may take no row

-- a line, and the bytes of the notes where the search is accepted
pub record Repetition : Type 0 where
  pub line : Line
  pub notes : Option (List ℕ)

abbrev pub repetition : Line → Option (List ℕ) → Repetition
repetition l ns = record { line = l; notes = ns }

unfoldable pub repetitions : List Repetition
unfolding bytes
repetitions =
    repetition (with_factor 2 (line (asks "(A*)*" above_zero 0 []) (pos 1 ∷ pos 1 ∷ pos 0 ∷ []) 4 (at 0 "AA" ∷ at 2 "" ∷ []) 14)) (some (0 ∷ 0 ∷ 48 ∷ 0 ∷ []))
    ∷ repetition (with_factor 2 (line (asks "(A*)*" above_zero 1 []) (pos 1 ∷ pos 0 ∷ pos 1 ∷ []) 4 (at 0 "A" ∷ at 1 "" ∷ at 2 "A" ∷ []) 21)) (some (0 ∷ 48 ∷ 0 ∷ 48 ∷ []))
    ∷ repetition (with_factor 2 (line (asks "(A?)*" above_zero 0 []) (pos 1 ∷ pos 1 ∷ pos 0 ∷ []) 4 (at 0 "AA" ∷ at 2 "" ∷ []) 13)) (some (0 ∷ 0 ∷ 16 ∷ 0 ∷ []))
    -- a round that takes no row ends the repetition, also where the fork prefers to leave
    ∷ repetition (with_factor 2 (line (asks "(A??)*" [] 0 []) (pos 0 ∷ []) 4 (at 0 "" ∷ []) 3)) (some (0 ∷ 0 ∷ []))
    ∷ repetition (with_factor 2 (line (asks "(A*?)*? $" [] 0 []) (pos 0 ∷ pos 0 ∷ []) 5 (at 0 "AA" ∷ []) 13)) (some (64 ∷ 0 ∷ 1 ∷ 0 ∷ []))
    -- nested in one another: F is 4, 8; four of them are refused
    ∷ repetition (with_factor 4 (line (asks "(()*)*" [] 0 []) (pos 0 ∷ []) 3 (at 0 "" ∷ []) 3)) (some (0 ∷ 0 ∷ 0 ∷ []))
    ∷ repetition (with_factor 4 (line (asks "((A*)*)*" above_zero 0 []) (pos 1 ∷ pos 0 ∷ []) 5 (at 0 "A" ∷ at 1 "" ∷ []) 18)) (some (0 ∷ 0 ∷ 0 ∷ 0 ∷ 11 ∷ 0 ∷ 0 ∷ 0 ∷ []))
    ∷ repetition (with_factor 8 (line (asks "(((A*)*)*)*" above_zero 0 []) (pos 1 ∷ []) 6 (at 0 "A" ∷ []) 20)) (some (0 ∷ 0 ∷ 0 ∷ 0 ∷ 0 ∷ 0 ∷ 0 ∷ 0 ∷ 0 ∷ 0 ∷ 139 ∷ 0 ∷ []))
    ∷ repetition (answering 6 (with_factor 16 (line (asks "((((A*)*)*)*)*" above_zero 0 []) [] 7 [] 0))) none
    -- sequences, branches, anchors and `()` in the body; required copies keep their empty rounds
    ∷ repetition (with_factor 2 (line (asks "(A? B?)* $" above_zero 0 []) (pos 1 ∷ pos 0 ∷ []) 7 (at 0 "AB" ∷ []) 12)) (some (0 ∷ 0 ∷ 0 ∷ 0 ∷ 17 ∷ 0 ∷ []))
    ∷ repetition (with_factor 2 (line (asks "(A?){2,} B" above_zero 0 []) (pos 1 ∷ pos 1 ∷ []) 9 (at 0 "AB" ∷ []) 13)) (some (0 ∷ 0 ∷ 0 ∷ 65 ∷ 0 ∷ 80 ∷ 5 ∷ []))
    ∷ repetition (with_factor 2 (line (asks "(A*|B)* C" above_zero 0 []) (pos 0 ∷ pos 0 ∷ []) 7 (at 0 "C" ∷ at 1 "C" ∷ []) 12)) (some (64 ∷ 0 ∷ 16 ∷ 0 ∷ 0 ∷ 0 ∷ []))
    ∷ repetition (with_factor 2 (line (asks "(^ A?)* B" above_zero 0 []) (pos 1 ∷ pos 0 ∷ []) 6 (at 0 "AB" ∷ []) 8)) (some (0 ∷ 64 ∷ 0 ∷ 0 ∷ 0 ∷ []))
    ∷ repetition (with_factor 4 (line (asks "((A?)*? B?)+ $" above_zero 0 []) (pos 0 ∷ pos 1 ∷ []) 13 (at 0 "BB" ∷ []) 13)) (some (0 ∷ 0 ∷ 0 ∷ 0 ∷ 0 ∷ 0 ∷ 0 ∷ 0 ∷ 0 ∷ 0 ∷ 0 ∷ 0 ∷ 0 ∷ 0 ∷ 0 ∷ 0 ∷ 0 ∷ 0 ∷ 1 ∷ 0 ∷ []))
    ∷ repetition (with_factor 2 (line (asks "(()|A)* $" [] 0 []) (pos 0 ∷ pos 0 ∷ []) 5 (at 0 "AA" ∷ []) 12)) (some (64 ∷ 0 ∷ 1 ∷ 0 ∷ []))
    ∷ repetition (with_factor 2 (line (asks "((A|())* B)* $" above_zero 1 []) (pos 0 ∷ pos 1 ∷ []) 7 (at 0 "BB" ∷ at 1 "B" ∷ []) 24)) (some (64 ∷ 0 ∷ 16 ∷ 64 ∷ 21 ∷ 0 ∷ []))
    ∷ repetition (with_factor 2 (line (asks "(A?? B??)* $" [] 1 []) (pos 0 ∷ pos 0 ∷ []) 7 (at 0 "BB" ∷ at 1 "B" ∷ []) 24)) (some (0 ∷ 4 ∷ 0 ∷ 1 ∷ 0 ∷ 0 ∷ []))
    ∷ []

unfoldable pub shows : Repetition → Bool
unfolding agrees search_of
shows r = agrees r.line && if_given (λ ns. same eqb (search_of r.line.query r.line.rows (enough r.line.query r.line.rows)).buffers.notes ns) r.notes

-- to a labelled row: `(A??)*` has empty matches only; `(A?)*` takes all rows, then its last A
-- alone, which is stuck
unfoldable pub loop_skips : List Line
unfolding bytes
loop_skips =
    with_factor 2 (line (asks_to "(A??)*" 2 65) (any 3) 4 (at 0 "" ∷ at 1 "" ∷ at 2 "" ∷ []) 9)
    ∷ with_factor 2 (line (asks_to "(A??)*" 3 65) (any 3) 4 (at 0 "" ∷ at 1 "" ∷ at 2 "" ∷ []) 9)
    ∷ answering 15 (with_factor 2 (line (asks_to "(A?)*" 3 65) (any 3) 4 (at 0 "AAA" ∷ at 2 "A" ∷ []) 19))
    ∷ answering 15 (with_factor 2 (line (asks_to "(A?)*" 2 65) (any 3) 4 (at 0 "AAA" ∷ []) 13))
    ∷ []

-- `(A*)*`, where A is above 0
unfoldable pub loops : List ℕ
unfolding bytes
loops = asks "(A*)*" above_zero 0 []

-- under an allowance: two A and a row that is none take 14 steps; the letter fails at the third row
-- with the seventh, its flag set, and with the tenth, its flag 0; the first match ends with the
-- eleventh
unfoldable pub loop_allowances : List Allowed
loop_allowances =
    allowed 0 (gets 16 0 0 0) 0
    ∷ allowed 6 (gets 16 0 0 6) 0
    ∷ allowed 7 (gets 16 0 0 7) 1
    ∷ allowed 9 (gets 16 0 0 9) 1
    ∷ allowed 10 (gets 16 0 0 10) 2
    ∷ allowed 11 (gets 16 1 2 11) 2
    ∷ allowed 13 (gets 16 1 2 13) 2
    ∷ allowed 14 (gets 0 2 2 14) 2
    ∷ []

unfoldable pub loops_keep_to : Allowed → Bool
unfolding keeps_within loops
loops_keep_to l = keeps_within loops (pos 1 ∷ pos 1 ∷ pos 0 ∷ []) l

-- in two lots, of 5 rows at most, cut at each row of these 4
abbrev pub four_rows : List ℤ
four_rows = pos 1 ∷ pos 1 ∷ pos 0 ∷ pos 1 ∷ []

unfoldable pub loop_lots : List Lotted
unfolding loops pairs_of
loop_lots =
    (named loops 5 none, now four_rows 0 (gets 23 0 0 0) ∷ at_last four_rows 4 (gets 0 3 3 23) ∷ [])
    ∷ (named loops 5 none, now four_rows 1 (gets 23 0 0 5) ∷ at_last four_rows 4 (gets 0 3 3 23) ∷ [])
    ∷ (named loops 5 none, now four_rows 2 (gets 23 0 0 7) ∷ now four_rows 3 (gets 23 2 2 14) ∷ at_last four_rows 4 (gets 0 3 3 23) ∷ [])
    ∷ (named loops 5 none, now four_rows 4 (gets 23 2 2 19) ∷ at_last four_rows 4 (gets 0 3 3 23) ∷ [])
    ∷ []

-- notes and trail are for 4 times 2 times 6 pairs; pairs 20 and 21, and 36 and 37, are the letter's
-- at rows 2 and 4
unfoldable pub loop_rooms : Bool
unfolding call_of pairs_of loops
loop_rooms =
    let fitting : ℕ → ℕ → Named = λ n t. record { query = loops; largest = 5; allowance = none; lent = record { notes = replicate n 255; trail = replicate t 9; numbers = replicate 40 (pos 9); labels = replicate 40 9 } } in
    let s = fitting 6 48 in
    let first = call_of s begun (arrived four_rows 3) false s.lent in
    let final = call_of s first.progress (arrived four_rows 4) true first.memory.buffers in
    same eqb first.memory.buffers.notes (0 ∷ 0 ∷ 48 ∷ 0 ∷ 0 ∷ 0 ∷ [])
    && (same eqb final.memory.buffers.notes (0 ∷ 0 ∷ 48 ∷ 0 ∷ 48 ∷ 0 ∷ [])
    && (same eqb final.memory.buffers.trail (replicate 48 0)
    && (eqb (call_of (fitting 5 48) begun (arrived four_rows 3) false s.lent).memory.result.answer 11
    && eqb (call_of (fitting 6 47) begun (arrived four_rows 3) false s.lent).memory.result.answer 12)))

-- Behind the required rounds of a repetition only the last may take no row; a round is told by the
-- labels of its rows.
unfoldable pub kept_rounds : List Bool
unfolding empty_ends
kept_rounds =
    let kept : ℕ → List (List ℕ) → Bool = empty_ends (λ w. w) in
    kept 0 ((65 ∷ []) ∷ [] ∷ [])
    ∷ not (kept 0 ([] ∷ (65 ∷ []) ∷ []))
    ∷ kept 1 ([] ∷ (65 ∷ []) ∷ [])
    ∷ not (kept 1 ([] ∷ [] ∷ (65 ∷ []) ∷ []))
    ∷ kept 2 ([] ∷ [] ∷ (65 ∷ []) ∷ [])
    ∷ []

-- ---- R-5, the average of a column

-- a function, the values that it is over, and its result
pub record Averaged : Type 0 where
  pub function : ℕ
  pub values : List ℤ
  pub result : Option ℤ

abbrev pub gives : ℕ → List ℤ → Option ℤ → Averaged
gives f xs r = record { function = f; values = xs; result = r }

-- -k; and the same result, null or a number
abbrev pub minus : ℕ → ℤ
minus k = neg_ℤ (pos k)

abbrev pub same_result : Option ℤ → Option ℤ → Bool
same_result none none = true
same_result none (some b) = false
same_result (some a) none = false
same_result (some a) (some b) = equal_z a b

unfoldable pub comes_to : Averaged → Bool
unfolding result_of
comes_to a = same_result (result_of a.function a.values) a.result

unfoldable pub averages : List Averaged
averages =
    -- the request's own: -3 and -4 give -3, 3 and 4 give 3; no rows give null
    gives 7 (minus 3 ∷ minus 4 ∷ []) (some (minus 3))
    ∷ gives 7 (pos 3 ∷ pos 4 ∷ []) (some (pos 3))
    ∷ gives 7 [] none
    -- a sum of 0 is no null
    ∷ gives 7 (minus 5 ∷ pos 5 ∷ []) (some (pos 0))
    -- one row; mixed signs; a sum smaller than the count is 0, on either side
    ∷ gives 7 (minus 5 ∷ []) (some (minus 5))
    ∷ gives 7 (minus 3 ∷ pos 4 ∷ []) (some (pos 0))
    ∷ gives 7 (pos 3 ∷ minus 4 ∷ []) (some (pos 0))
    ∷ gives 7 (pos 10 ∷ minus 1 ∷ minus 1 ∷ []) (some (pos 2))
    ∷ gives 7 (minus 10 ∷ pos 1 ∷ pos 1 ∷ []) (some (minus 2))
    -- it is cut once, at the end: 1, 1, 1, 1 and 6 give 2
    ∷ gives 7 (pos 1 ∷ pos 1 ∷ pos 1 ∷ pos 1 ∷ pos 6 ∷ []) (some (pos 2))
    -- the lowest and the highest entries; the sum passes 32 bits
    ∷ gives 7 (minus 2147483648 ∷ minus 2147483648 ∷ minus 2147483647 ∷ []) (some (minus 2147483647))
    ∷ gives 7 (pos 2147483647 ∷ pos 2147483647 ∷ pos 2147483647 ∷ []) (some (pos 2147483647))
    -- the other functions on the same rows
    ∷ gives 1 (minus 3 ∷ minus 4 ∷ []) (some (pos 2))
    ∷ gives 2 (minus 3 ∷ minus 4 ∷ []) (some (minus 7))
    ∷ gives 3 (minus 3 ∷ minus 4 ∷ []) (some (minus 4))
    ∷ gives 4 (minus 3 ∷ minus 4 ∷ []) (some (minus 3))
    ∷ gives 5 (minus 3 ∷ minus 4 ∷ []) (some (minus 3))
    ∷ gives 6 (minus 3 ∷ minus 4 ∷ []) (some (minus 4))
    ∷ gives 6 [] none
    ∷ []

-- whole searches: AVG of all rows, of a letter's rows, of a letter without rows; there is no
-- function 8
abbrev pub average_line : List ℕ → List ℤ → ℕ → List Shown → List ℤ → Line
average_line q rows p ms ns = record { query = q; rows = rows; answer = 0; places = p; factor = 1; matches = ms; steps = none; numbers = some ns; output = none }

unfoldable pub average_searches : List Line
unfolding bytes
average_searches =
    average_line (asks "A A" [] 0 (record_bytes 5 (7 ∷ 0 ∷ 0 ∷ 0 ∷ []))) (minus 3 ∷ minus 4 ∷ []) 3 (at 0 "AA" ∷ []) (pos 1 ∷ pos 0 ∷ pos 2 ∷ pos 1 ∷ minus 3 ∷ [])
    ∷ average_line (asks "A+ B C?" [] 0 (record_bytes 5 (7 ∷ 65 ∷ 0 ∷ 0 ∷ []) ++ record_bytes 5 (7 ∷ 67 ∷ 0 ∷ 0 ∷ []))) (pos 3 ∷ pos 4 ∷ pos 9 ∷ []) 7 (at 0 "AAB" ∷ [])
    (pos 1 ∷ pos 0 ∷ pos 3 ∷ pos 1 ∷ pos 3 ∷ pos 0 ∷ pos 0 ∷ [])
    ∷ refused_line (asks "A" [] 0 (record_bytes 5 (8 ∷ 0 ∷ 0 ∷ 0 ∷ []))) 2 3
    ∷ refused_line (asks "A" [] 0 (record_bytes 5 (7 ∷ 0 ∷ 1 ∷ 0 ∷ []))) 2 3
    ∷ refused_line (asks "A" [] 0 (record_bytes 5 (7 ∷ 66 ∷ 0 ∷ 0 ∷ []))) 2 9
    ∷ []

-- ---- R-7, OR, NOT and the third truth

-- Comparisons of 12 bytes at the first row of X: true (column 0 equals 100), false (unequal to
-- 100), unknown (equal to PREV, which has no row)
abbrev pub true_bytes : List ℕ
true_bytes = 0 ∷ 0 ∷ 1 ∷ 0 ∷ 0 ∷ 0 ∷ 0 ∷ 0 ∷ 100 ∷ 0 ∷ 0 ∷ 0 ∷ []

abbrev pub false_bytes : List ℕ
false_bytes = 0 ∷ 0 ∷ 2 ∷ 0 ∷ 0 ∷ 0 ∷ 0 ∷ 0 ∷ 100 ∷ 0 ∷ 0 ∷ 0 ∷ []

abbrev pub unknown_bytes : List ℕ
unknown_bytes = 0 ∷ 0 ∷ 1 ∷ 1 ∷ 0 ∷ 0xFF ∷ 0 ∷ 0 ∷ 0 ∷ 0 ∷ 0 ∷ 0 ∷ []

-- unknown for its left side: PREV equals 100
abbrev pub left_unknown_bytes : List ℕ
left_unknown_bytes = 0 ∷ 0xFF ∷ 1 ∷ 0 ∷ 0 ∷ 0 ∷ 0 ∷ 0 ∷ 100 ∷ 0 ∷ 0 ∷ 0 ∷ []

-- entries: a comparison behind its byte 0, AND, OR, NOT
abbrev pub of_truth : Truth → List ℕ
of_truth yes = 0 ∷ true_bytes
of_truth no = 0 ∷ false_bytes
of_truth unknown = 0 ∷ unknown_bytes

abbrev pub AND : List ℕ
AND = 1 ∷ []

abbrev pub OR : List ℕ
OR = 2 ∷ []

abbrev pub NOT : List ℕ
NOT = 3 ∷ []

-- a DEFINE of kind 6 for A with so many entries; and the truth of A at the first row of X where
-- that is its DEFINE
abbrev pub defines : ℕ → List ℕ → List ℕ
defines count entries = record_bytes 6 (65 ∷ count ∷ entries)

unfoldable pub truth_at_first : List ℕ → Truth
unfolding condition_truth task_of bytes
truth_at_first define = condition_truth (task_of (asks "A" define 0 []) X).table 0 ((task_of (asks "A" define 0 []) X).condition 65)

abbrev pub same_truth : Truth → Truth → Bool
same_truth yes yes = true
same_truth yes no = false
same_truth yes unknown = false
same_truth no yes = false
same_truth no no = true
same_truth no unknown = false
same_truth unknown yes = false
same_truth unknown no = false
same_truth unknown unknown = true

-- two truths, and what AND and OR make of them
abbrev pub combines : Truth → Truth → Truth → Truth → Bool
unfolding truth_at_first
combines a b both either =
    same_truth (truth_at_first (defines 3 (of_truth a ++ (of_truth b ++ AND)))) both && same_truth (truth_at_first (defines 3 (of_truth a ++ (of_truth b ++ OR)))) either

abbrev pub negates : Truth → Truth → Bool
unfolding truth_at_first
negates a b = same_truth (truth_at_first (defines 2 (of_truth a ++ NOT))) b

-- SQL's tables, all combinations
unfoldable pub truth_table : List Bool
unfolding truth_at_first
truth_table =
    combines yes yes yes yes
    ∷ combines yes no no yes
    ∷ combines yes unknown unknown yes
    ∷ combines no yes no yes
    ∷ combines no no no no
    ∷ combines no unknown no unknown
    ∷ combines unknown yes unknown yes
    ∷ combines unknown no no unknown
    ∷ combines unknown unknown unknown unknown
    ∷ negates yes no
    ∷ negates no yes
    ∷ negates unknown unknown
    ∷ []

-- longer lists; operators take the latest results; a DEFINE of kind 3 with an unknown comparison
unfoldable pub entry_lists : List Bool
unfolding truth_at_first
entry_lists =
    same_truth (truth_at_first (defines 1 (of_truth yes))) yes
    ∷ same_truth (truth_at_first (defines 1 (of_truth unknown))) unknown
    -- a missing row on the left is unknown too, and stays so under NOT
    ∷ same_truth (truth_at_first (defines 1 (0 ∷ left_unknown_bytes))) unknown
    ∷ same_truth (truth_at_first (defines 2 (0 ∷ (left_unknown_bytes ++ NOT)))) unknown
    -- true OR (false AND unknown); (true OR false) AND unknown
    ∷ same_truth (truth_at_first (defines 5 (of_truth yes ++ (of_truth no ++ (of_truth unknown ++ (AND ++ OR)))))) yes
    ∷ same_truth (truth_at_first (defines 5 (of_truth yes ++ (of_truth no ++ (OR ++ (of_truth unknown ++ AND)))))) unknown
    -- NOT (unknown AND false); NOT unknown OR NOT false
    ∷ same_truth (truth_at_first (defines 4 (of_truth unknown ++ (of_truth no ++ (AND ++ NOT))))) yes
    ∷ same_truth (truth_at_first (defines 5 (of_truth unknown ++ (NOT ++ (of_truth no ++ (NOT ++ OR)))))) yes
    -- NOT only of the latest: true, NOT false
    ∷ same_truth (truth_at_first (defines 4 (of_truth yes ++ (of_truth no ++ (NOT ++ AND))))) yes
    -- 16 entries
    ∷ same_truth (truth_at_first (defines 16 (of_truth unknown ++ (NOT ++ (NOT ++ (NOT ++ (NOT ++ (NOT ++ (NOT ++ (NOT ++ (NOT ++ (NOT ++ (NOT ++ (NOT ++ (NOT ++ (NOT ++ (of_truth yes ++ OR))))))))))))))))) yes
    -- kind 3: all that are not false, one unknown
    ∷ same_truth (truth_at_first (record_bytes 3 (65 ∷ 2 ∷ (true_bytes ++ unknown_bytes)))) unknown
    ∷ same_truth (truth_at_first (record_bytes 3 (65 ∷ 2 ∷ (unknown_bytes ++ false_bytes)))) no
    ∷ same_truth (truth_at_first (record_bytes 3 (65 ∷ 2 ∷ (true_bytes ++ true_bytes)))) yes
    -- no DEFINE, or one for another letter
    ∷ same_truth (truth_at_first []) yes
    ∷ same_truth (truth_at_first (record_bytes 6 (66 ∷ 1 ∷ of_truth no))) yes
    ∷ []

-- so many free letters' DEFINEs, from a letter on, by turns of kind 3 and of kind 6
abbrev pub many_defines : ℕ → ℕ → List ℕ
many_defines zero c = []
many_defines (suc zero) c = record_bytes 3 (c ∷ 1 ∷ true_bytes)
many_defines (suc (suc k)) c = record_bytes 3 (c ∷ 1 ∷ true_bytes) ++ (record_bytes 6 (suc c ∷ 1 ∷ of_truth yes) ++ many_defines k (suc (suc c)))

-- whole searches
unfoldable pub truth_searches : List Line
unfolding bytes
truth_searches =
    -- NOT (A equals PREV) is unknown at the first row; unequal to PREV or not
    unstepped (asks "A" (defines 2 (of_truth unknown ++ NOT)) 0 []) X 2 (at 1 "A" ∷ at 2 "A" ∷ at 3 "A" ∷ at 4 "A" ∷ [])
    -- 100 or unequal to PREV: every row
    ∷ unstepped (asks "A" (defines 4 (of_truth unknown ++ (NOT ++ (of_truth yes ++ OR)))) 0 []) X 2 (at 0 "A" ∷ at 1 "A" ∷ at 2 "A" ∷ at 3 "A" ∷ at 4 "A" ∷ [])
    -- kinds 3 and 6 in any order
    ∷ unstepped (asks "A B" (record_bytes 6 (66 ∷ 2 ∷ (of_truth yes ++ NOT)) ++ record_bytes 3 (65 ∷ 1 ∷ true_bytes)) 0 []) X 3 (at 0 "AB" ∷ [])
    -- 26 of both kinds together are accepted, 27 are 2
    ∷ unstepped (asks "A" (many_defines 26 65) 0 []) [] 2 []
    ∷ refused_line (asks "A" (many_defines 26 65 ++ defines 1 (of_truth yes)) 0 []) 2 2
    -- two DEFINEs for A are 8, of whatever kinds
    ∷ refused_line (asks "A" (defines 1 (of_truth yes) ++ defines 1 (of_truth yes)) 0 []) 2 8
    ∷ refused_line (asks "A" (record_bytes 3 (65 ∷ 1 ∷ true_bytes) ++ defines 1 (of_truth yes)) 0 []) 2 8
    -- runs short: NOT of nothing, AND of one, OR of one; leaves two results
    ∷ refused_line (asks "A" (defines 1 NOT) 0 []) 2 3
    ∷ refused_line (asks "A" (defines 2 (of_truth yes ++ AND)) 0 []) 2 3
    ∷ refused_line (asks "A" (defines 2 (of_truth yes ++ OR)) 0 []) 2 3
    ∷ refused_line (asks "A" (defines 3 (of_truth yes ++ (AND ++ of_truth yes))) 0 []) 2 3
    ∷ refused_line (asks "A" (defines 2 (of_truth yes ++ of_truth yes)) 0 []) 2 3
    -- a count of 0 and of 17; byte 4; a byte too many, one too few; no letter; a comparison that
    -- does not fit
    ∷ refused_line (asks "A" (defines 0 []) 0 []) 2 3
    ∷ refused_line (asks "A" (defines 17 (of_truth yes ++ replicate 16 3)) 0 []) 2 3
    ∷ unstepped (asks "A" (defines 16 (of_truth yes ++ replicate 15 3)) 0 []) [] 2 []
    ∷ refused_line (asks "A" (defines 2 (of_truth yes ++ (4 ∷ []))) 0 []) 2 3
    ∷ refused_line (asks "A" (defines 1 (of_truth yes ++ (3 ∷ []))) 0 []) 2 3
    ∷ refused_line (asks "A" (defines 2 (of_truth yes)) 0 []) 2 3
    ∷ refused_line (asks "A" (record_bytes 6 (64 ∷ 1 ∷ of_truth yes)) 0 []) 2 3
    ∷ refused_line (asks "A" (defines 1 (0 ∷ 1 ∷ 0 ∷ 1 ∷ 0 ∷ 0 ∷ 0 ∷ 0 ∷ 0 ∷ 100 ∷ 0 ∷ 0 ∷ 0 ∷ [])) 0 []) 2 3
    -- a DEFINE behind the skip record is 2
    ∷ refused_line (asks "A" [] 0 (defines 1 (of_truth yes))) 2 2
    ∷ []

-- 17 in lots: an offset above 0 among a kind 6 DEFINE's entries, also under NOT; not for a letter
-- outside the pattern
abbrev pub ahead_bytes : List ℕ
ahead_bytes = 0 ∷ 0 ∷ 1 ∷ 1 ∷ 0 ∷ 1 ∷ 0 ∷ 0 ∷ 0 ∷ 0 ∷ 0 ∷ 0 ∷ []

unfoldable pub ahead_entries : Bool
unfolding begin_answer bytes pairs_of
ahead_entries =
    eqb (begin_answer (named (asks "A" (defines 2 (0 ∷ (ahead_bytes ++ NOT))) 0 []) 3 none)) 17
    && (eqb (begin_answer (named (asks "A" (defines 3 (of_truth unknown ++ (0 ∷ (ahead_bytes ++ OR)))) 0 []) 3 none)) 17
    && (eqb (begin_answer (named (asks "B" (defines 2 (0 ∷ (ahead_bytes ++ NOT))) 0 []) 3 none)) 0
    && eqb (begin_answer (named (asks "A" (defines 2 (of_truth unknown ++ NOT)) 0 []) 3 none)) 0))

-- ---- R-6, how many comparisons are judged

abbrev pub same_bit : Bool → Bool → Bool
same_bit true b = b
same_bit false b = not b

-- at the first row of X: comparisons of a kind 3 record for A, whether A holds, and how many are
-- judged
abbrev pub judges : ℕ → List ℕ → Bool → ℕ → Bool
unfolding test_of bytes
judges count comparisons h k =
    let r = test_of (asks "A" (record_bytes 3 (65 ∷ count ∷ comparisons)) 0 []) X 65 0 in
    eqb r.answer 0 && (same_bit r.holds h && eqb r.judged k)

-- what the test of a letter says, with its offset: the answer, whether the letter holds, and how
-- many comparisons are judged
abbrev pub says : ℕ → Bool → ℕ → ℕ → Tested
says a h k o = record { answer = a; holds = h; judged = k; offset = o }

-- a query over X, a letter and a row
abbrev pub tests : List ℕ → ℕ → ℕ → Tested → Bool
unfolding test_of
tests q c row t =
    let r = test_of q X c row in
    eqb r.answer t.answer && (same_bit r.holds t.holds && (eqb r.judged t.judged && eqb r.offset t.offset))

unfoldable pub judged_table : List Bool
unfolding test_of bytes
judged_table =
    judges 1 true_bytes true 1
    ∷ judges 1 false_bytes false 1
    -- unknown is unmet and ends the count, counted itself
    ∷ judges 1 unknown_bytes false 1
    ∷ judges 3 (true_bytes ++ (true_bytes ++ true_bytes)) true 3
    ∷ judges 3 (true_bytes ++ (false_bytes ++ true_bytes)) false 2
    ∷ judges 3 (true_bytes ++ (true_bytes ++ false_bytes)) false 3
    ∷ judges 3 (false_bytes ++ (false_bytes ++ false_bytes)) false 1
    ∷ judges 3 (unknown_bytes ++ (true_bytes ++ true_bytes)) false 1
    ∷ judges 8 (true_bytes ++ (true_bytes ++ (true_bytes ++ (true_bytes ++ (true_bytes ++ (true_bytes ++ (true_bytes ++ unknown_bytes))))))) false 8
    -- no DEFINE, one of kind 6, one for a letter that is not in the pattern
    ∷ tests (asks "A" [] 0 []) 65 0 (says 0 true 0 0)
    ∷ tests (asks "A" (defines 1 (of_truth yes)) 0 []) 65 0 (says 0 true 0 0)
    ∷ tests (asks "A" (defines 1 (of_truth unknown)) 0 []) 65 0 (says 0 false 0 0)
    ∷ tests (asks "B" (record_bytes 3 (65 ∷ 2 ∷ (false_bytes ++ true_bytes))) 0 []) 65 0 (says 0 false 1 0)
    -- a byte that is no letter; rows at and behind n: column 0 unequal to 100 reads no row, PREV of
    -- row 5 is row 4
    ∷ tests (asks "A" (record_bytes 3 (65 ∷ 1 ∷ true_bytes)) 0 []) 0 0 (says 0 true 0 0)
    ∷ tests (asks "A" (record_bytes 3 (65 ∷ 2 ∷ (false_bytes ++ true_bytes))) 0 []) 65 5 (says 0 false 1 0)
    ∷ tests (asks "A" (record_bytes 3 (65 ∷ 1 ∷ (0 ∷ 0xFF ∷ 1 ∷ 0 ∷ 0 ∷ 0 ∷ 0 ∷ 0 ∷ 130 ∷ 0 ∷ 0 ∷ 0 ∷ []))) 0 []) 65 5 (says 0 true 1 0)
    ∷ tests (asks "A" [] 0 []) 65 5 (says 0 true 0 0)
    -- refused: by the query, by the text (5 and 14), by the rows
    ∷ tests [] 65 0 (says 2 false 0 0)
    ∷ tests (asks "A)" [] 0 []) 65 0 (says 5 false 0 1)
    ∷ tests (asks "(A" [] 0 []) 65 0 (says 14 false 0 2)
    ∷ tests (record_bytes 1 (2 ∷ 0 ∷ []) ++ (record_bytes 2 (65 ∷ []) ++ record_bytes 4 (0 ∷ 0 ∷ []))) 65 0 (says 10 false 0 0)
    ∷ []

-- ---- ISO/IEC 19075-5, clause 6.2, the order of preferment

-- d is preferred to e, and e is not preferred to d
abbrev pub Before : (t : Tree pattern) → Derivation t → Derivation t → Type 0
Before t d e = Prefers t d e × (Prefers t e d → ⊥)

-- A | A, and its strings (A -) and (- A)
abbrev pub twice : Tree pattern
twice = more (last (bare (letter 65))) (one (last (bare (letter 65))))

abbrev pub in_first : Derivation twice
unfolding Derivation
in_first = inl tt

abbrev pub in_second : Derivation twice
unfolding Derivation
in_second = inr tt

-- A? (lazy is false) and A??, and the strings of both, (A) and ()
abbrev pub optional : Bool → Tree pattern
optional lazy = one (last (times (letter 65) opt lazy))

abbrev pub some_a : (lazy : Bool) → Derivation (optional lazy)
unfolding Derivation lower upper
some_a lazy = (tt ∷ [], (zero-le, omega arith))

abbrev pub no_a : (lazy : Bool) → Derivation (optional lazy)
unfolding Derivation lower upper
no_a lazy = ([], (zero-le, zero-le))

pub record Preferences : Type 0 where
  -- 6.2: of A | A first (A -), then (- A)
  pub branches : Before twice in_first in_second
  -- 6.2.7: of A? first (A), then (); of A?? first (), then (A)
  pub longer : Before (optional false) (some_a false) (no_a false)
  pub shorter : Before (optional true) (no_a true) (some_a true)

-- Rules: document 01, "Report", the table of answers, with R-1, R-2, R-3, R-6, R-11 and R-13. A test
-- for each of 1 to 12 and 14 over the whole input, the first that applies, or else the answer of
-- the search's end, and from it the result and the later content of all four lent buffers, as one
-- function of all that goes in; how much to lend (`room_of`); a letter at a row (`test_of`).
use Rattle.std.specs.Prelude.{Bool, true, false, not, ◌&&◌, ◌||◌, List, [], ◌∷◌, ◌++◌, ℕ, ◌+◌, ◌%◌, ◌*◌, ltb, eqb, ℤ, length}
use Rattle.std.proofs.Math.Option.{Option, none, some}
use Rattle.rules.specs.Basics.{pick, every, has, wrote}
use Rattle.rules.specs.Rows.{Table, table_of, Condition, holds, judged}
use Rattle.rules.specs.Query.{cut, misplaced, unfit, doubled, columns_of, text_of, Measure, parts}
use Rattle.rules.specs.Language.{Tree, pattern, letters, loop_nesting}
use Rattle.rules.specs.Reader.{tree_of, stop_of}
use Rattle.rules.specs.Places.{Place, unroll, places, places_of, factor_of}
use Rattle.rules.specs.Walk.{pairs, Halt, out_of_steps, out_of_rows, Kept}
use Rattle.rules.specs.Search.{Match, End, done, full, stuck, unfinished, Terms, within, whole, Skip, past_last, to_next, to_first, to_last, Swept, walk_search, plain_search, Sought, seek}
use Rattle.rules.specs.Report.{numbers_of, labels_of, lent_room, fits, bytes_for, notes_of, zeros}

-- ---- the pattern's answers

-- Answer 4: the parentheses opened less those closed pass 8 at some byte; o were opened and c
-- closed before. Any bytes are counted, also those of a text outside the language.
unfoldable pub deep : ℕ → ℕ → List ℕ → Bool
deep o c [] = false
deep o c (b ∷ s) =
    pick (ltb (pick (eqb b 41) (c + 1) c + 8) (pick (eqb b 40) (o + 1) o)) true (deep (pick (eqb b 40) (o + 1) o) (pick (eqb b 41) (c + 1) c) s)

unfoldable pub too_deep : List ℕ → Bool
unfolding deep text_of
too_deep q = deep 0 0 (text_of q)

-- the tree of the query's pattern, if its text is in the language
unfoldable pub tree_in : List ℕ → Option (Tree pattern)
unfolding tree_of text_of
tree_in q = tree_of (text_of q)

-- The text is outside the pattern language
unfoldable pub no_tree : Option (Tree pattern) → Bool
no_tree none = true
no_tree (some t) = false

-- Answer 5: it is so at some byte, after which no text of the language begins that way. Answer 14:
-- it ends but could go on to a text of the language. `wrong-exactly` and `incomplete-exactly`
-- (crates/laws, Stops) say that the tests are true exactly if the text is `WrongAt` some byte,
-- which is then `stop_of` the text, or `Unfinished` (specs/Language).
unfoldable pub wrong : List ℕ → Bool
unfolding no_tree tree_of stop_of
wrong text = no_tree (tree_of text) && ltb (stop_of text) (length text)

unfoldable pub incomplete : List ℕ → Bool
unfolding no_tree tree_of stop_of
incomplete text = no_tree (tree_of text) && eqb (stop_of text) (length text)

-- the offset that an answer returns with it: 5 that byte's, 14 the text's length, any other 0
unfoldable pub offset_at : List ℕ → ℕ → ℕ
unfolding stop_of
offset_at text a = pick (eqb a 5 || eqb a 14) (stop_of text) 0

-- Answer 6: more than three unbounded quantifiers over bodies that can take no row, nested in one
-- another
unfoldable pub nested_loops : Option (Tree pattern) → Bool
unfolding loop_nesting
nested_loops none = false
nested_loops (some t) = ltb 3 (loop_nesting t)

-- P, and answer 7: P above 256
unfoldable pub P : Option (Tree pattern) → ℕ
unfolding places_of
P none = 0
P (some t) = places_of t

-- R-3: the factor F
unfoldable pub F : Option (Tree pattern) → ℕ
unfolding factor_of
F none = 1
F (some t) = factor_of t

unfoldable pub too_many : Option (Tree pattern) → Bool
unfolding P
too_many t = ltb 256 (P t)

-- Answer 9: a measure's letter, or the letter to skip to, is not in the pattern
unfoldable pub letters_in : Option (Tree pattern) → List ℕ
unfolding letters
letters_in none = []
letters_in (some t) = letters t

unfoldable pub is_foreign : List ℕ → ℕ → Bool
unfolding letters_in tree_in has
is_foreign q c = not (eqb c 0 || has c (letters_in (tree_in q)))

unfoldable pub foreign : List ℕ → Bool
unfolding is_foreign parts every
foreign q = not (every (λ (m : Measure). not (is_foreign q m.letter)) (parts q).measures) || is_foreign q (parts q).skip_letter

-- ---- the rows' answer

-- Answer 10: the row slice is not whole rows, or n is above 4,096
unfoldable pub bad_rows : List ℕ → List ℤ → Bool
unfolding columns_of table_of
bad_rows q rows = not (eqb (length rows % columns_of q) 0) || ltb 4096 (table_of (columns_of q) rows).n

-- ---- the search that a query asks for

-- the rows, the places, the letters' conditions, the skip mode and the measures of a search
pub record Task : Type 0 where
  pub table : Table
  pub places : List Place
  pub condition : ℕ → Condition
  pub skip : Skip
  pub measures : List Measure

-- the skip mode of its number and its letter
unfoldable pub skip_of : ℕ → ℕ → Skip
skip_of mode c = pick (eqb mode 0) past_last (pick (eqb mode 1) to_next (pick (eqb mode 2) (to_first c) (to_last c)))

unfoldable pub places_of_tree : Option (Tree pattern) → List Place
unfolding unroll places
places_of_tree none = []
places_of_tree (some t) = places (unroll t)

unfoldable pub task_of : List ℕ → List ℤ → Task
unfolding tree_in places_of_tree table_of parts skip_of
task_of q rows =
    record {
      table = table_of (parts q).columns rows;
      places = places_of_tree (tree_in q);
      condition = (parts q).condition;
      skip = skip_of (parts q).skip (parts q).skip_letter;
      measures = (parts q).measures;
    }

-- whether letter c holds at row i
unfoldable pub letter_holds : Task → ℕ → ℕ → Bool
unfolding holds
letter_holds t c i = holds t.table i (t.condition c)

-- what is searched for a task, for so many report numbers and label bytes
abbrev pub sought_for : Task → ℕ → ℕ → Sought
sought_for t nums labs = seek (letter_holds t) t.table.n t.places t.skip (fits (lent_room nums labs t.measures))

-- the search by the counted walk on these terms, on document 01's, and by plain backtracking
unfoldable pub walked_on : Terms → Task → ℕ → ℕ → Swept Kept
unfolding walk_search letter_holds fits
walked_on terms t nums labs = walk_search terms (sought_for t nums labs)

unfoldable pub walked : Task → ℕ → ℕ → Swept Kept
unfolding walked_on
walked t nums labs = walked_on (whole t.table.n) t nums labs

unfoldable pub backtracked : Task → ℕ → ℕ → Swept (Unit {0})
unfolding plain_search letter_holds fits
backtracked t nums labs = plain_search (sought_for t nums labs)

-- ---- the answer

-- the lent buffers: notes (bytes), trail (32-bit numbers), report numbers (signed, 64 bits) and
-- label bytes
pub record Buffers : Type 0 where
  pub notes : List ℕ
  pub trail : List ℕ
  pub numbers : List ℤ
  pub labels : List ℕ

-- how many pairs a query has on these rows
unfoldable pub pairs_of : List ℕ → List ℤ → ℕ
unfolding P F tree_in table_of columns_of
pairs_of q rows = pairs (P (tree_in q) * F (tree_in q)) (table_of (columns_of q) rows).n

-- Answers 11 and 12: notes, or trail, too short
unfoldable pub short_notes : List ℕ → List ℤ → Buffers → Bool
unfolding pairs_of bytes_for
short_notes q rows lent = ltb (length lent.notes) (bytes_for (pairs_of q rows))

unfoldable pub short_trail : List ℕ → List ℤ → Buffers → Bool
unfolding pairs_of
short_trail q rows lent = ltb (length lent.trail) (pairs_of q rows)

-- The answer of an accepted search, by its end: 0 done; 13 stopped, since the next match does not
-- fit whole in numbers or labels; 15 stopped, since the match written last names no start to go on
-- at; 16 halted just before the entry that would pass the allowance of steps; 23 halted where a row
-- is asked for that is not yet present.
unfoldable pub halt_answer : Halt → ℕ
halt_answer out_of_steps = 16
halt_answer out_of_rows = 23

unfoldable pub end_answer : End Match → ℕ
unfolding halt_answer
end_answer done = 0
end_answer (full m) = 13
end_answer stuck = 15
end_answer (unfinished h i p) = halt_answer h

unfoldable pub stopped : {S : Type 0} → Swept S → Bool
unfolding end_answer
stopped r = not (eqb (end_answer r.end) 0)

-- a test with the answer that it stands for; and the answer of the first test that is true, 0 if
-- none is
abbrev pub Test : Type 0
Test = ℕ × Bool

unfoldable pub first_of : List Test → ℕ
first_of [] = 0
first_of (t ∷ ts) = pick t.1 t.0 (first_of ts)

-- the tests that ask the query alone, in their order: 5 and 14 exclude each other and stand where 5
-- stood
unfoldable pub query_tests : List ℕ → List Test
unfolding cut misplaced unfit too_deep tree_in wrong incomplete nested_loops too_many doubled foreign
query_tests q =
    (1, cut q)
    ∷ (2, misplaced q)
    ∷ (3, unfit q)
    ∷ (4, too_deep q)
    ∷ (5, wrong (text_of q))
    ∷ (14, incomplete (text_of q))
    ∷ (6, nested_loops (tree_in q))
    ∷ (7, too_many (tree_in q))
    ∷ (8, doubled q)
    ∷ (9, foreign q)
    ∷ []

-- Answers 1 to 12 and 14: the first that applies is given, 0 if none does; each is judged over the
-- whole query.
unfoldable pub refusal : List ℕ → List ℤ → Buffers → ℕ
unfolding first_of query_tests bad_rows short_notes short_trail
refusal q rows lent = first_of (query_tests q ++ ((10, bad_rows q rows) ∷ (11, short_notes q rows lent) ∷ (12, short_trail q rows lent) ∷ []))

-- The answer: a refusal, or that of the search's end. The search is the one that is asked for, by
-- either walk.
unfoldable pub answer_by : {S : Type 0} → List ℕ → List ℤ → Buffers → Swept S → ℕ
unfolding refusal end_answer
answer_by q rows lent r = pick (eqb (refusal q rows lent) 0) (end_answer r.end) (refusal q rows lent)

-- an answer accepts a search that ends as done (0), stopped (13 and 15) or halted (16 and 23), and
-- refuses any other
unfoldable pub refuses : ℕ → Bool
refuses a = not (eqb a 0 || (eqb a 13 || (eqb a 15 || (eqb a 16 || eqb a 23))))

-- ---- the result and the buffers

-- what a search reports: the answer, the matches and labels written, and both report buffers, which
-- hold what each match written appends and are unchanged beyond
pub record Report : Type 0 where
  pub answer : ℕ
  pub matches : ℕ
  pub labels : ℕ
  pub numbers : List ℤ
  pub label_bytes : List ℕ

unfoldable pub report_of : {S : Type 0} → ℕ → Task → Buffers → Swept S → Report
unfolding numbers_of labels_of wrote
report_of a t lent r =
    record {
      answer = a;
      matches = length r.matches;
      labels = length (labels_of t.places r.matches);
      numbers = wrote lent.numbers 0 (numbers_of t.table t.measures t.places 0 r.matches);
      label_bytes = wrote lent.labels 0 (labels_of t.places r.matches);
    }

pub record Result : Type 0 where
  pub answer : ℕ
  pub matches : ℕ
  pub labels : ℕ
  pub steps : ℕ
  pub offset : ℕ

pub record Memory : Type 0 where
  pub result : Result
  pub buffers : Buffers

-- 1 to 12 and 14 return the number and zeros, 5 and 14 an offset too, and change no buffer
unfoldable pub refused : ℕ → ℕ → Buffers → Memory
refused a k lent = record { result = record { answer = a; matches = 0; labels = 0; steps = 0; offset = k }; buffers = lent }

-- 0, 13, 15 and 16 return the answer, the counts and the steps. The notes hold the failed pairs,
-- the trail a 0 for each pair; beyond, both are unchanged.
unfoldable pub accepted : Report → Kept → Buffers → Memory
unfolding notes_of zeros wrote
accepted r kept lent =
    record {
      result = record { answer = r.answer; matches = r.matches; labels = r.labels; steps = kept.steps; offset = 0 };
      buffers = record {
        notes = wrote lent.notes 0 (notes_of kept.failed);
        trail = wrote lent.trail 0 (zeros (length kept.failed));
        numbers = r.numbers;
        labels = r.label_bytes;
      };
    }

-- the search that an input asks for, by the counted walk within an allowance of steps, without one,
-- and the same by plain backtracking
unfoldable pub walk_within : Option ℕ → List ℕ → List ℤ → Buffers → Swept Kept
unfolding task_of walked_on
walk_within a q rows lent = walked_on (within a (task_of q rows).table.n) (task_of q rows) (length lent.numbers) (length lent.labels)

unfoldable pub walk_of : List ℕ → List ℤ → Buffers → Swept Kept
unfolding walk_within
walk_of q rows lent = walk_within none q rows lent

unfoldable pub plain_of : List ℕ → List ℤ → Buffers → Swept (Unit {0})
unfolding task_of backtracked
plain_of q rows lent = backtracked (task_of q rows) (length lent.numbers) (length lent.labels)

-- the answer to an input, and what it reports; and the report of the same search by plain
-- backtracking, which has no allowance
unfoldable pub answer_within : Option ℕ → List ℕ → List ℤ → Buffers → ℕ
unfolding answer_by walk_within
answer_within a q rows lent = answer_by q rows lent (walk_within a q rows lent)

unfoldable pub answer_of : List ℕ → List ℤ → Buffers → ℕ
unfolding answer_within
answer_of q rows lent = answer_within none q rows lent

unfoldable pub report_within : Option ℕ → List ℕ → List ℤ → Buffers → Report
unfolding report_of answer_within walk_within task_of
report_within a q rows lent = report_of (answer_within a q rows lent) (task_of q rows) lent (walk_within a q rows lent)

unfoldable pub walk_report : List ℕ → List ℤ → Buffers → Report
unfolding report_within
walk_report q rows lent = report_within none q rows lent

unfoldable pub plain_report : List ℕ → List ℤ → Buffers → Report
unfolding report_of answer_by plain_of task_of
plain_report q rows lent = report_of (answer_by q rows lent (plain_of q rows lent)) (task_of q rows) lent (plain_of q rows lent)

-- The search within an allowance of steps (R-13): from the query, the rows and the lent buffers to
-- the result and the buffers as it leaves them.
unfoldable pub search_within : Option ℕ → List ℕ → List ℤ → Buffers → Memory
unfolding answer_within refused offset_at text_of accepted report_within walk_within refuses
search_within a q rows lent =
    pick (refuses (answer_within a q rows lent)) (refused (answer_within a q rows lent) (offset_at (text_of q) (answer_within a q rows lent)) lent)
    (accepted (report_within a q rows lent) (walk_within a q rows lent).state lent)

-- The search of document 01, which has none.
unfoldable pub search_of : List ℕ → List ℤ → Buffers → Memory
unfolding search_within
search_of q rows lent = search_within none q rows lent

-- ---- how much to lend

-- `room`: the answer 1 to 10 or 14 that a query and rows get whatever is lent, with its offset, or
-- 0; and where it is 0, P, F and n
pub record Room : Type 0 where
  pub answer : ℕ
  pub places : ℕ
  pub factor : ℕ
  pub rows : ℕ
  pub offset : ℕ

unfoldable pub room_answer : List ℕ → Bool → ℕ
unfolding first_of query_tests
room_answer q bad = first_of (query_tests q ++ ((10, bad) ∷ []))

unfoldable pub room_of : List ℕ → List ℤ → Room
unfolding room_answer bad_rows tree_in P F table_of columns_of offset_at text_of
room_of q rows =
    pick (eqb (room_answer q (bad_rows q rows)) 0)
    (record { answer = 0; places = P (tree_in q); factor = F (tree_in q); rows = (table_of (columns_of q) rows).n; offset = 0 })
    (record { answer = room_answer q (bad_rows q rows); places = 0; factor = 0; rows = 0; offset = offset_at (text_of q) (room_answer q (bad_rows q rows)) })

-- ---- a letter at a row (R-6)

-- The public test of a letter at a row: the answer 1 to 10 or 14 as for `room`, with its offset, or
-- 0; and where it is 0, whether the letter holds at the row and how many comparisons of its kind 3
-- record were judged.
pub record Tested : Type 0 where
  pub answer : ℕ
  pub holds : Bool
  pub judged : ℕ
  pub offset : ℕ

-- Any letter may be asked for, in the pattern or not, and any row. A row at or behind n is judged
-- by the rows that the comparisons read. A byte that is no letter has no DEFINE, so it holds and 0
-- are judged. A refusal returns its number, false and 0.
unfoldable pub test_of : List ℕ → List ℤ → ℕ → ℕ → Tested
unfolding room_answer bad_rows task_of letter_holds judged offset_at text_of
test_of q rows letter row =
    pick (eqb (room_answer q (bad_rows q rows)) 0)
    (record {
      answer = 0;
      holds = letter_holds (task_of q rows) letter row;
      judged = judged (task_of q rows).table row ((task_of q rows).condition letter);
      offset = 0;
    })
    (record { answer = room_answer q (bad_rows q rows); holds = false; judged = 0; offset = offset_at (text_of q) (room_answer q (bad_rows q rows)) })

-- What joins the program's text to the search: which of the three texts a query and its row bytes
-- get, by the verdict on what `room` says of them; that the search is then not refused; and that
-- the report of its promise is the text asked for, in the room that is lent.
use mathlib.Core.Path.{◌≡◌, refl, sym, ap, ◌∙◌}
use mathlib.Core.Bool.{Bool, true, false, not}
use mathlib.Core.List.{List, [], ◌∷◌, ◌++◌}
use mathlib.Core.Option.{Option, none, some}
use Prim.Native.Nat.{ℕ, zero, suc, ◌+◌, ◌*◌, ◌%◌, ◌/◌, ◌≤◌, ◌<◌}
use native.Mathlib.Nat.{mul-le-mul}
use native.Mathlib.Numerals.{add-one}
use native.Mathlib.Omega.{arith}
use lib.Dec.{eqb}
use lib.IntN.{ℤ}
use lib.ListN.{length, take, drop, length-append}
use lib.Seq.{take-append_seam}
use mir.Syntax.{w64}
use mir.Val.{Fits}
use borrow.Author.Tests.{le-ltb, ltb-false, eqb-true, eqb-false}
use Rattle.rules.specs.Basics.{pick, every, wrote}
use Rattle.rules.specs.Rows.{table_of}
use Rattle.rules.specs.Query.{columns_of, text_of}
use Rattle.rules.specs.Search.{Swept}
use Rattle.rules.specs.Report.{bytes_for, numbers_of, labels_of}
use lib.Pow.{pow_mono}
use Rattle.rules.specs.Language.{Tree, pattern, loop_nesting}
use Rattle.rules.specs.Places.{factor_of}
use Rattle.rules.specs.Answers.{P, F, nested_loops, tree_in, too_many, bad_rows, Task, task_of, walked, Buffers, pairs_of, short_notes, short_trail, end_answer, stopped, Test, first_of, refuses, offset_at, query_tests, refusal, answer_of, room_answer, Room, room_of, report_of, report_within, walk_report, walk_within, walk_of, Memory, accepted, search_of}
use Rattle.rules.specs.Program.{refused_text, too_large, search_text, rows_of, printed_for}
use Rattle.laws.proofs.Lists.{length-wrote}
use Rattle.laws.proofs.Accepted.{answer_within_lem, query_tests-refuse}
use Rattle.laws.proofs.Demands.{search_accepted}
use Rattle.laws.proofs.Level.{or-false}
use Rattle.laws.proofs.FirstTrue.{all_refuse, first-after, none_before, none_true}
use Rattle.laws.proofs.Limits.{limits, numbers_long}
use Rattle.put.specs.declared.Out.{Out}
use Rattle.put.specs.Put.{Wrote}
use Rattle.input.specs.declared.Verdict.{Verdict}
use Rattle.input.specs.declared.Verdict.TheVariants.{Refused, TooLarge, Search}
use Rattle.input.specs.Verdict.{input_verdict, printed_verdict}
use Rattle.input.proofs.Verdicts.{pairs-spared, searched, printed-verdict}
use Rattle.header.specs.Report.{report_text, heading}
use Rattle.text.proofs.Printed.{report-printed}
use Rattle.run.specs.Run.{Found}
use Rattle.rules.specs.Walk.{Kept}

-- ---- what is lent is enough

module _ (q : List ℕ) (rows : List ℤ) (lent : Buffers) (h : pairs_of q rows ≤ 16000) where
  enough-notes : 2000 ≤ length lent.notes → short_notes q rows lent ≡ false
  unfolding short_notes bytes_for
  enough-notes g = le-ltb (length lent.notes) ((pairs_of q rows + 7) / 8) (omega arith)

  enough-trail : 16000 ≤ length lent.trail → short_trail q rows lent ≡ false
  unfolding short_trail
  enough-trail g = le-ltb (length lent.trail) (pairs_of q rows) (omega arith)

-- ---- a query and rows with no answer 1 to 10

module _ (q : List ℕ) (rows : List ℤ) (ok : room_answer q (bad_rows q rows) ≡ 0) where
  pub no-query_answer : first_of (query_tests q) ≡ 0
  unfolding room_answer refuses
  no-query_answer = none_before (query_tests q) ((10, bad_rows q rows) ∷ []) (query_tests-refuse q) (ap refuses ok)

  whole-rows : bad_rows q rows ≡ false
  unfolding room_answer query_tests all_refuse every refuses
  whole-rows = none_true (query_tests q ++ ((10, bad_rows q rows) ∷ [])) refl ok 10

  few_places : P (tree_in q) ≤ 256
  unfolding query_tests too_many
  few_places = ltb-false _ _ (none_true (query_tests q) (query_tests-refuse q) no-query_answer 7)

  few_values : F (tree_in q) ≤ 8
  unfolding query_tests nested_loops F factor_of
  few_values = by (tree_in q) (none_true (query_tests q) (query_tests-refuse q) no-query_answer 6)
    where
      by : (t : Option (Tree pattern)) → nested_loops t ≡ false → F t ≤ 8
      by none e = omega arith
      by (some p) e = pow_mono {i = loop_nesting p} {j = 3} (ltb-false 3 (loop_nesting p) e)

  few_rows : (table_of (columns_of q) rows).n ≤ 4096
  unfolding bad_rows
  few_rows = ltb-false _ _ (or-false (not (eqb (length rows % columns_of q) 0)) _ whole-rows).1

  -- with notes of 2,000 bytes and a trail of 16,000 numbers the search is not refused
  pub room-accepts : (lent : Buffers) → 2000 ≤ length lent.notes → 16000 ≤ length lent.trail → pairs_of q rows ≤ 16000 → refusal q rows lent ≡ 0
  unfolding refusal first_of
  room-accepts lent hn ht h =
      let n : short_notes q rows lent ≡ false = enough-notes q rows lent h hn in
      let t : short_trail q rows lent ≡ false = enough-trail q rows lent h ht in
      let rest : List Test = (10, bad_rows q rows) ∷ (11, short_notes q rows lent) ∷ (12, short_trail q rows lent) ∷ [] in
      first-after (query_tests q) rest (query_tests-refuse q) no-query_answer ∙ rw (whole-rows, n, t)

above : (n : ℕ) → (n ≡ 0 → ⊥) → 0 < n
above zero d = absurd (d refl)
above (suc n) d = omega arith

-- ---- the ways of a query with its row bytes r: their whole numbers are the first k of an array

module _ (r : List ℕ) (l array : List ℤ) (k : ℕ) (filled : array ≡ wrote l 0 (rows_of r)) (counted : k ≡ length (rows_of r)) where
  same : take k array ≡ rows_of r
  unfolding wrote
  same = rw (filled, counted) (take-append_seam (rows_of r) (drop (0 + length (rows_of r)) l))

  pub rows-within : k ≤ length array
  unfolding wrote
  rows-within = rw filled (simp length-append (omega arith))

  pub rows_long : k ≡ length (take k array)
  rows_long = counted ∙ sym (ap length same)

-- what `room` says: all sizes and no answer, or an answer and zeros
data Roomed (q : List ℕ) (rows : List ℤ) (z : Room) : Type 0 where
  accepted_room : room_answer q (bad_rows q rows) ≡ 0 → z.answer ≡ 0 → z.places ≡ P (tree_in q) → z.factor ≡ F (tree_in q) → z.rows ≡ (table_of (columns_of q) rows).n → Roomed q rows z
  refused_room_lem : z.answer ≡ room_answer q (bad_rows q rows) → 0 < room_answer q (bad_rows q rows) → z.places ≡ 0 → z.factor ≡ 0 → z.rows ≡ 0 → Roomed q rows z

module _ (q : List ℕ) (rows : List ℤ) (z : Room) (e : z ≡ room_of q rows) where
  roomed : Roomed q rows z
  unfolding room_of
  roomed = go (room_answer q (bad_rows q rows)) refl (eqb (room_answer q (bad_rows q rows)) 0) refl e
    where
      go : (a : ℕ) → room_answer q (bad_rows q rows) ≡ a → (t : Bool) → eqb a 0 ≡ t
          → z ≡ pick t (record { answer = 0; places = P (tree_in q); factor = F (tree_in q); rows = (table_of (columns_of q) rows).n; offset = 0 })
          (record { answer = a; places = 0; factor = 0; rows = 0; offset = offset_at (text_of q) a }) → Roomed q rows z
      go a h true g e =
          accepted_room (h ∙ eqb-true a 0 g) (ap (λ (z : Room). z.answer) e) (ap (λ (z : Room). z.places) e) (ap (λ (z : Room). z.factor) e) (ap (λ (z : Room). z.rows) e)
      go a h false g e =
          refused_room_lem (ap (λ (z : Room). z.answer) e ∙ sym h) (rw h (above a (eqb-false a 0 g))) (ap (λ (z : Room). z.places) e) (ap (λ (z : Room). z.factor) e) (ap (λ (z : Room). z.rows) e)

  -- the number of pairs can be computed
  pub room_rows : Fits w64 (z.rows + 1)
  room_rows = go roomed
    where
      go : Roomed q rows z → Fits w64 (z.rows + 1)
      go (accepted_room ok a p v n) = record { fits = omega (arith, n, few_rows q rows ok) }
      go (refused_room_lem a h p v n) = record { fits = omega arith }

  few_entries : z.places * z.factor ≤ 2048
  few_entries = go roomed
    where
      go : Roomed q rows z → z.places * z.factor ≤ 2048
      go (accepted_room ok a p v n) = mul-le-mul (let hp : z.places ≤ 256 = omega (arith, p, few_places q rows ok) in hp) (let hf : z.factor ≤ 8 = omega (arith, v, few_values q rows ok) in hf)
      go (refused_room_lem a h p v n) = mul-le-mul (let hp : z.places ≤ 256 = omega arith in hp) (let hf : z.factor ≤ 8 = omega arith in hf)

  pub room_entries : Fits w64 (z.places * z.factor)
  room_entries = record { fits = omega (arith, few_entries) }

  pub room_pairs : Fits w64 (z.places * z.factor * (z.rows + 1))
  room_pairs = go roomed
    where
      go : Roomed q rows z → Fits w64 (z.places * z.factor * (z.rows + 1))
      go (accepted_room ok a p v n) =
          let hn : z.rows + 1 ≤ 4097 = omega (arith, n, few_rows q rows ok) in
          let m : z.places * z.factor * (z.rows + 1) ≤ 2048 * 4097 = mul-le-mul few_entries hn in
          record { fits = omega arith }
      go (refused_room_lem a h p v n) =
          let hn : z.rows + 1 ≤ 1 = omega arith in
          let m : z.places * z.factor * (z.rows + 1) ≤ 2048 * 1 = mul-le-mul few_entries hn in
          record { fits = omega arith }

  -- the verdict on these numbers is the definition's
  pub same_verdict : (bytes : ℕ) → input_verdict z.answer bytes (z.places * z.factor * (z.rows + 1)) ≡ input_verdict (room_answer q (bad_rows q rows)) bytes (pairs_of q rows)
  unfolding pairs_of
  same_verdict bytes = go roomed
    where
      go : Roomed q rows z → input_verdict z.answer bytes (z.places * z.factor * (z.rows + 1)) ≡ input_verdict (room_answer q (bad_rows q rows)) bytes (pairs_of q rows)
      go (accepted_room ok a p v n) = rw (a, ok, p, v, n, add-one)
      go (refused_room_lem a h p v n) = rw a (pairs-spared (room_answer q (bad_rows q rows)) bytes (z.places * z.factor * (z.rows + 1)) (pairs_of q rows) h)

module _ (q r : List ℕ) (l array : List ℤ) (k : ℕ) (filled : array ≡ wrote l 0 (rows_of r)) (counted : k ≡ length (rows_of r))
    (v : Verdict) (verdict_is : v ≡ input_verdict (room_answer q (bad_rows q (take k array))) (length r) (pairs_of q (take k array))) where
  prints : (w : Verdict) → v ≡ w → printed_for q r ≡ printed_verdict w q r
  prints w h =
      let i : v ≡ input_verdict (room_answer q (bad_rows q (rows_of r))) (length r) (pairs_of q (rows_of r)) = rw (← (same r l array k filled counted)) verdict_is in
      printed-verdict q r ∙ ap (λ (u : Verdict). printed_verdict u q r) (sym i ∙ h)

  -- what is written into the buffer o is the text of the way that is taken
  module _ (o m : Out) where
    pub query_refused : (a : ℕ) → v ≡ Refused a → Wrote o (refused_text a) m → Wrote o (printed_for q r) m
    unfolding printed_verdict
    query_refused a h p = rw (prints (Refused a) h) p

    pub query_large : v ≡ TooLarge → Wrote o too_large m → Wrote o (printed_for q r) m
    unfolding printed_verdict
    query_large h p = rw (prints TooLarge h) p

    pub query_searched : v ≡ Search → Wrote o (search_text (task_of q (take k array)) (walked (task_of q (take k array)) 8192 65536)) m → Wrote o (printed_for q r) m
    unfolding printed_verdict
    query_searched h p = rw (prints Search h) (rw (same r l array k filled counted) at p)

  pub query_found : v ≡ Search → Found q (take k array)
  query_found h =
      let s = searched (room_answer q (bad_rows q (take k array))) (length r) (pairs_of q (take k array)) (sym verdict_is ∙ h) in
      record { none = s.0; few = s.1 }

-- ---- the search's promise as text

module _ (q : List ℕ) (rows : List ℤ) (lent : Buffers) (ok : refusal q rows lent ≡ 0) where
  search_is : search_of q rows lent ≡ accepted (walk_report q rows lent) (walk_of q rows lent).state lent
  unfolding search_of walk_report walk_of
  search_is = search_accepted none q rows lent ok

  abbrev task : Task
  task = task_of q rows

  abbrev swept : Swept Kept
  swept = walk_of q rows lent

  answer_kept : (search_of q rows lent).result.answer ≡ answer_of q rows lent
  unfolding accepted walk_report report_within report_of answer_of
  answer_kept = ap (λ (m : Memory). m.result.answer) search_is

  matches-kept : (search_of q rows lent).result.matches ≡ length swept.matches
  unfolding accepted walk_report report_within report_of walk_of
  matches-kept = ap (λ (m : Memory). m.result.matches) search_is

  steps_kept : (search_of q rows lent).result.steps ≡ swept.state.steps
  unfolding accepted
  steps_kept = ap (λ (m : Memory). m.result.steps) search_is

  numbers-kept : (search_of q rows lent).buffers.numbers ≡ wrote lent.numbers 0 (numbers_of task.table task.measures task.places 0 swept.matches)
  unfolding accepted walk_report report_within report_of walk_of
  numbers-kept = ap (λ (m : Memory). m.buffers.numbers) search_is

  labels-kept : (search_of q rows lent).buffers.labels ≡ wrote lent.labels 0 (labels_of task.places swept.matches)
  unfolding accepted walk_report report_within report_of walk_of
  labels-kept = ap (λ (m : Memory). m.buffers.labels) search_is

  answer_at : answer_of q rows lent ≡ end_answer swept.end
  unfolding answer_of walk_of
  answer_at = answer_within_lem q rows lent none ok

  lengths : length lent.numbers ≡ 8192 → length lent.labels ≡ 65536 → swept ≡ walked task 8192 65536
  unfolding walk_of walk_within walked
  lengths en el = rw (en, el)

  -- the numbers of the matches are there
  pub search_numbers : (search_of q rows lent).result.matches * (3 + 2 * length (task_of q rows).measures) ≤ length (search_of q rows lent).buffers.numbers
  unfolding walk_of
  search_numbers =
      let f = (limits none q rows lent ok).numbers_fit in
      rw (matches-kept, numbers-kept, length-wrote lent.numbers (numbers_of task.table task.measures task.places 0 swept.matches) f)
      (rw numbers_long at f)

  pub search_printed : length lent.numbers ≡ 8192 → length lent.labels ≡ 65536
      → report_text (heading (not (eqb (search_of q rows lent).result.answer 0)) (search_of q rows lent).result.matches (search_of q rows lent).result.steps) (length (task_of q rows).measures)
      (search_of q rows lent).buffers.numbers (search_of q rows lent).buffers.labels
      ≡ search_text (task_of q rows) (walked (task_of q rows) 8192 65536)
  unfolding stopped
  search_printed en el =
      let s : not (eqb (search_of q rows lent).result.answer 0) ≡ stopped swept = ap (λ (a : ℕ). not (eqb a 0)) (answer_kept ∙ answer_at) in
      rw (s, matches-kept, steps_kept, numbers-kept, labels-kept) (report-printed task swept lent.numbers lent.labels ∙ ap (search_text task) (lengths en el))

-- One law for each way through the functions of this crate: the measures counted, the search's
-- report as text, and the program's text by what the input is.
use mathlib.Core.Bool.{not}
use mathlib.Core.Path.{◌≡◌, sym, ap, ◌∙◌}
use mathlib.Core.List.{List}
use mathlib.Core.Option.{none}
use Prim.Native.Nat.{ℕ, ◌+◌, ◌*◌, ◌-◌, ◌≤◌}
use native.Mathlib.Omega.{arith}
use lib.Dec.{eqb}
use lib.IntN.{ℤ}
use lib.ListN.{length, take, drop, length-take, length-drop}
use lib.Seq.{take_all}
use Rattle.std.specs.Prelude.{Ok, Err}
use Rattle.refusals.specs.declared.Refusal.{Refusal}
use Rattle.refusals.proofs.Numbers.{some_answer}
use Rattle.rules.specs.Answers.{task_of, walked, Buffers, Memory, refusal, search_of}
use Rattle.rules.specs.Program.{refused_text, too_large, search_text, printed_for, printed}
use Rattle.laws.proofs.Lists.{length-tabulate}
use Rattle.table.specs.Measures.{measure_in, measures_in}
use Rattle.reading.specs.declared.Query.{Query}
use Rattle.reading.specs.Reading.{query_answer, Asked}
use Rattle.outcome.specs.declared.Outcome.{Outcome}
use Rattle.outcome.specs.Results.{lent, memory}
use Rattle.search.specs.Promise.{Promised}
use Rattle.input.specs.declared.Input.{Input}
use Rattle.input.specs.declared.Input.TheVariants.{Refused, TooLarge, Go}
use Rattle.input.specs.Input.{most_read, input_of, printed_input}
use Rattle.put.specs.declared.Out.{Out}
use Rattle.put.specs.Put.{Wrote}
use Rattle.header.specs.Report.{report_text, heading}
use Rattle.input.proofs.Inputs.{Parted, parted, printed-input, prefix_decides}
use Rattle.put.proofs.Writing.{put_long}
use Rattle.run.specs.Run.{ProgramRan, MeasureCount, Found}
use Rattle.run.proofs.Joined.{room-accepts, no-query_answer, search_numbers, search_printed}

-- ---- the measures

pub measures_counted : (q measures₀ room defines measures : List ℕ) (r : Query)
    → Asked q measures₀ room defines measures (Ok r) → MeasureCount q r.measures
unfolding measures_in
measures_counted q measures₀ room defines measures r a =
    let w = a.good in
    record { is = λ z. w.good.measured ∙ sym (length-tabulate w.parts.measures (measure_in measures 0)) ∙ ap length w.decoded.measured }

-- a query that is refused has an answer
pub none_counted : (q measures₀ room defines measures : List ℕ) (e : Refusal) (k : ℕ)
    → Asked q measures₀ room defines measures (Err e) → MeasureCount q k
none_counted q measures₀ room defines measures e k a = record { is = λ z. absurd (some_answer e (a.answer ∙ z)) }

-- ---- the search's report: r and the buffers without a stroke are what the search leaves of those
-- with one, and k is the number of measures

module _ (q : List ℕ) (rows : List ℤ) (f : Found q rows) (notes' trail' : List ℕ) (numbers' : List ℤ) (labels' : List ℕ) (r : Outcome) (notes trail : List ℕ) (numbers : List ℤ) (labels : List ℕ)
    (p : Promised none q rows (lent notes' trail' numbers' labels') (memory r notes trail numbers labels)) (k : ℕ) (c : MeasureCount q k) (hn : length notes' ≡ 2000) (ht : length trail' ≡ 16000) where
  abbrev L : Buffers
  L = lent notes' trail' numbers' labels'

  accepts : refusal q rows L ≡ 0
  accepts = room-accepts q rows f.none L (omega arith) (omega arith) f.few

  whole : memory r notes trail numbers labels ≡ search_of q rows L
  unfolding search_of
  whole = p.whole

  measures : k ≡ length (task_of q rows).measures
  unfolding task_of query_answer
  measures = c.is (no-query_answer q rows f.none)

  pub numbers-there : r.matches * (3 + 2 * k) ≤ length numbers
  numbers-there =
      let t : (M : Memory) → M ≡ search_of q rows L → M.result.matches * (3 + 2 * k) ≤ length M.buffers.numbers = λ M e. rw (e, measures) (search_numbers q rows L accepts) in
      t _ whole

  report-is : (M : Memory) → M ≡ search_of q rows L → length numbers' ≡ 8192 → length labels' ≡ 65536
      → report_text (heading (not (eqb M.result.answer 0)) M.result.matches M.result.steps) k M.buffers.numbers M.buffers.labels
      ≡ search_text (task_of q rows) (walked (task_of q rows) 8192 65536)
  report-is M e n l = rw (e, measures) (search_printed q rows L accepts n l)

  pub report-put : length numbers' ≡ 8192 → length labels' ≡ 65536 → (o m : Out)
      → Wrote o (report_text (heading (not (eqb r.answer 0)) r.matches r.steps) k numbers labels) m → Wrote o (search_text (task_of q rows) (walked (task_of q rows) 8192 65536)) m
  report-put n l o m w = rw (← (report-is _ whole n l)) w

-- ---- the whole input

-- the first bytes decide
pub decided : (s t : List ℕ) → take most_read t ≡ s → printed t ≡ printed s
decided s t h = prefix_decides t ∙ ap printed h

module _ (s : List ℕ) (i : Input) (given : i ≡ input_of s) where
  case : (j : Input) → i ≡ j → printed s ≡ printed_input j s
  case j h = printed-input s ∙ ap (λ (k : Input). printed_input k s) (sym given ∙ h)

  -- where the query and the rows lie
  pub case_parted : (rows : ℕ) → i ≡ Go rows → Parted s rows
  case_parted rows h = parted s rows (sym given ∙ h)

  pub ran_refused : (o m : Out) (a : ℕ) → i ≡ Refused a → Wrote o (refused_text a) m → Wrote o (printed s) m
  unfolding printed_input
  ran_refused o m a h p = rw (case (Refused a) h) p

  pub ran_large : (o m : Out) → i ≡ TooLarge → Wrote o too_large m → Wrote o (printed s) m
  unfolding printed_input
  ran_large o m h p = rw (case TooLarge h) p

  pub ran_query : (o m : Out) (rows : ℕ) → i ≡ Go rows → Wrote o (printed_for (take (rows - 2) (drop 2 s)) (take (length s - rows) (drop rows s))) m → Wrote o (printed s) m
  unfolding printed_input
  ran_query o m rows h p =
      let w : take (length s - rows) (drop rows s) ≡ drop rows s = take_all (length s - rows) (drop rows s) (simp length-drop (omega arith)) in
      rw (case (Go rows) h) (rw w at p)

-- the text lies within the buffer, and is all that is counted
module _ (s l m : List ℕ) (b : ℕ) (r : ProgramRan s l m b) where
  pub ran_within : b ≤ length m
  ran_within = let p = r.text in omega (arith, put_long l 0 (printed s) m b p)

  pub ran_count : b ≡ length (printed s)
  ran_count = let e = r.text.ends in omega (arith, e)

  pub ran_long : b ≡ length (take b m)
  ran_long = let w = ran_within in simp length-take (omega arith)

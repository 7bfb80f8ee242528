-- The desk's answer from the search's promise alone: a done search of the desk's query holds a match
-- exactly if the log is cleared; and what is said of its answer and its matches is the desk's verdict.
use mathlib.Core.Path.{◌≡◌, refl, sym, ap, ◌∙◌}
use mathlib.Core.Bool.{Bool, true, false, true≢false}
use mathlib.Core.List.{List, [], ◌∷◌}
use mathlib.Core.Logic.{inl, ◌↔◌}
use mathlib.Core.Option.{Option, none, some}
use Rattle.std.specs.Prelude.{Option as StdOption, Some, None}
use Prim.Native.Nat.{ℕ, suc, ◌<◌}
use native.Mathlib.Omega.{arith}
use lib.Dec.{eqb}
use lib.IntN.{ℤ}
use lib.ListN.{length}
use borrow.Author.Tests.{eq-eqb, eqb-true}
use Rattle.rules.specs.Basics.{pick}
use Rattle.rules.specs.Rows.{Table}
use Rattle.rules.specs.Query.{text_of}
use Rattle.rules.specs.Language.{Tree, pattern, Written}
use Rattle.rules.specs.Readings.{SomeReading, row_sets}
use Rattle.rules.specs.Preferment.{Preferred, Reports, setting}
use Rattle.rules.specs.Search.{Match, done, to_next, shown, stand_at}
use Rattle.rules.specs.Report.{lent_room, fits}
use Rattle.rules.specs.Answers.{tree_in, task_of, letter_holds, Buffers, Memory, walk_within, search_of}
use Rattle.rules.specs.Demands.{Demands}
use Rattle.laws.proofs.DerivationReadings.{parses_reads, reads_parses}
use Rattle.laws.proofs.Grammar.{tree-exactly}
use Rattle.outcome.specs.declared.Outcome.{Outcome}
use Rattle.outcome.specs.Results.{lent, memory}
use Rattle.search.specs.Promise.{Promised}
use Rattle.modes.proofs.Done.{told}
use Rattle.bus_log.specs.declared.Verdict.{Verdict}
use Rattle.bus_log.specs.Log.{log_of, unreadable, cleared, last_refusal, handed, said, held_at, verdict_of}
use Rattle.desk_query.specs.Query.{desk_query}
use Rattle.desk_query.proofs.Letters.{desk_tree, desk_tree_lem, desk_table, desk_mode}
use Rattle.desk_query.proofs.Clearing.{cleared-exactly, cleared-reading, reading_cleared, none_written, one_written}
use Rattle.verdicts.specs.Verdicts.{verdict_by}
use Rattle.desk.specs.Promise.{desk_of, Desk}

-- ---- the report

written-desk : (p : Tree pattern) → Written p (text_of desk_query) → p ≡ desk_tree
unfolding tree_in
written-desk p w = let e : some p ≡ some desk_tree = sym ((tree-exactly (text_of desk_query) p).1 w) ∙ desk_tree_lem in cc

module _ (rows : List ℤ) (before : Buffers) (after : Memory) (y : Demands none desk_query rows before after) (z : after.result.answer ≡ 0) where
  abbrev n : ℕ
  n = (log_of rows).n

  abbrev H : ℕ → ℕ → Bool
  H = letter_holds (task_of desk_query rows)

  abbrev room : ℕ → ℕ → List ℕ → Bool
  room = fits (lent_room (length before.numbers) (length before.labels) (task_of desk_query rows).measures)

  abbrev Told : List Match → Type 0
  Told xs = Reports (setting desk_tree (row_sets n H) to_next room) (stand_at 0 0 0) (shown (task_of desk_query rows).places xs) done

  told_here : Told (walk_within none desk_query rows before).matches
  told_here = told none desk_query rows before after y z (written-desk y.tree y.written) refl (ap (λ (t : Table). t.n) (desk_table rows)) (desk_mode rows)

  none-cleared : Told [] → (b : Bool) → cleared (log_of rows) ≡ b → b ≡ false
  none-cleared r false e = refl
  none-cleared r true e = absurd (clash (cleared-reading rows e))
    where
      clash : (i : ℕ) × ((i < n) × SomeReading (row_sets n H) desk_tree i) → ⊥
      clash (i, (lt, (j, w, s))) = let x = reads_parses H n desk_tree i j w s in none_written desk_tree H n room r i (omega arith) lt x.0 j w x.1

  one-cleared : (x : Match) (xs : List Match) → Told (x ∷ xs) → cleared (log_of rows) ≡ true
  one-cleared x xs r = on (one_written desk_tree H n room r)
    where
      on : (i : ℕ) × (j : ℕ) × (w : List ℕ) × Preferred (row_sets n H) desk_tree i j w → cleared (log_of rows) ≡ true
      on (i, j, w, y) = reading_cleared rows i (j, w, parses_reads H n desk_tree y.derivation i j w y.parses)

  abbrev Clears : ℕ → Type 0
  Clears k = (k ≡ 0 → cleared (log_of rows) ≡ false) × ((k ≡ 0 → ⊥) → cleared (log_of rows) ≡ true)

  by-matches : (xs : List Match) → Told xs → Clears (length xs)
  by-matches [] r = (λ e. none-cleared r (cleared (log_of rows)) refl, λ d. absurd (d refl))
  by-matches (x ∷ xs) r = (λ e. absurd (omega arith), λ d. one-cleared x xs r)

  -- a match is written exactly if the log is cleared
  matches-clear : Clears after.result.matches
  matches-clear = rw y.matches (by-matches (walk_within none desk_query rows before).matches told_here)

pattern-clears : (rows : List ℤ) (p : Tree pattern) → Written p (text_of desk_query)
    → (cleared (log_of rows) ≡ true) ↔ ((i : ℕ) × ((i < (log_of rows).n) × SomeReading (row_sets (log_of rows).n (letter_holds (task_of desk_query rows))) p i))
pattern-clears rows p w = rw (written-desk p w) (cleared-exactly rows)

-- ---- what a verdict of 1 tells

cleared-says : (t : Table) → (verdict_of t).verdict ≡ 1 → (cleared t ≡ true) × (unreadable t ≡ false)
unfolding verdict_of
cleared-says t e = go (unreadable t) (cleared t) refl refl e
  where
    held-not : (o : StdOption ℕ) → (held_at o).verdict ≡ 1 → ⊥
    held-not None f = omega arith
    held-not (Some i) f = omega arith

    go : (u c : Bool) → unreadable t ≡ u → cleared t ≡ c → (pick u (said 3) (pick c (said 1) (held_at (last_refusal t)))).verdict ≡ 1 → (cleared t ≡ true) × (unreadable t ≡ false)
    go true c a b f = absurd (omega arith)
    go false true a b f = (b, a)
    go false false a b f = absurd (held-not (last_refusal t) f)

desk_says : (rows : List ℤ) (before : Buffers) → (desk_of rows before).verdict ≡ 1 → (cleared (log_of rows) ≡ true) × (unreadable (log_of rows) ≡ false) × ((search_of desk_query rows before).result.answer ≡ 0)
unfolding desk_of
desk_says rows before e = go (eqb (search_of desk_query rows before).result.answer 0) refl e
  where
    go : (t : Bool) → eqb (search_of desk_query rows before).result.answer 0 ≡ t → (pick t (verdict_of (log_of rows)) (handed (search_of desk_query rows before).result.answer)).verdict ≡ 1
        → (cleared (log_of rows) ≡ true) × (unreadable (log_of rows) ≡ false) × ((search_of desk_query rows before).result.answer ≡ 0)
    go true a f = let c = cleared-says (log_of rows) f in (c.0, c.1, eqb-true (search_of desk_query rows before).result.answer 0 a)
    go false a f = absurd (omega arith)

desk_is : (rows : List ℤ) (before after : Buffers) (v : Verdict) → v ≡ desk_of rows before → after ≡ (search_of desk_query rows before).buffers → Desk rows before after v
desk_is rows before after v e b = record { verdict = e; buffers = b; only_cleared = λ c. desk_says rows before (sym (ap (λ (x : Verdict). x.verdict) e) ∙ c); by_pattern = pattern-clears rows }

-- ---- the verdict

module _ (rows : List ℤ) (before : Buffers) (r : Outcome) (notes trail : List ℕ) (numbers : List ℤ) (labels : List ℕ) (p : Promised none desk_query rows before (memory r notes trail numbers labels)) where
  is-answer : r.answer ≡ (search_of desk_query rows before).result.answer
  unfolding search_of
  is-answer = ap (λ (m : Memory). m.result.answer) p.whole

  buffers-are : lent notes trail numbers labels ≡ (search_of desk_query rows before).buffers
  unfolding search_of
  buffers-are = ap (λ (m : Memory). m.buffers) p.whole

  module _ (z : r.answer ≡ 0) where
    clears : (r.matches ≡ 0 → cleared (log_of rows) ≡ false) × ((r.matches ≡ 0 → ⊥) → cleared (log_of rows) ≡ true)
    clears = matches-clear rows before (memory r notes trail numbers labels) (p.demands (inl z)) z

    -- where there is a match the log is cleared
    by-match : (m : Bool) → eqb r.matches 0 ≡ m → pick m (held_at (last_refusal (log_of rows))) (said 1) ≡ pick (cleared (log_of rows)) (said 1) (held_at (last_refusal (log_of rows)))
    by-match true f = rw (clears.0 (eqb-true r.matches 0 f))
    by-match false f = rw (clears.1 (λ e. true≢false (sym (eq-eqb r.matches 0 e) ∙ f)))

    by-log : pick (unreadable (log_of rows)) (said 3) (pick (eqb r.matches 0) (held_at (last_refusal (log_of rows))) (said 1)) ≡ verdict_of (log_of rows)
    unfolding verdict_of
    by-log = ap (pick (unreadable (log_of rows)) (said 3)) (by-match (eqb r.matches 0) refl)

  is-desk : verdict_by (log_of rows) r.answer r.matches ≡ desk_of rows before
  unfolding verdict_by desk_of
  is-desk = rw (← is-answer) (go (eqb r.answer 0) refl)
    where
      go : (t : Bool) → eqb r.answer 0 ≡ t
          → pick t (pick (unreadable (log_of rows)) (said 3) (pick (eqb r.matches 0) (held_at (last_refusal (log_of rows))) (said 1))) (handed r.answer) ≡ pick t (verdict_of (log_of rows)) (handed r.answer)
      go true f = by-log (eqb-true r.answer 0 f)
      go false f = refl

  pub desk_told : (v : Verdict) → v ≡ verdict_by (log_of rows) r.answer r.matches → Desk rows before (lent notes trail numbers labels) v
  desk_told v e = desk_is rows before (lent notes trail numbers labels) v (e ∙ is-desk) buffers-are

-- What the sweep over a prepared query leaves is what the definition leaves of an accepted search.
use mathlib.Core.Path.{◌≡◌, refl, sym, ap, ap₂, ◌∙◌}
use mathlib.Core.Bool.{Bool, false}
use mathlib.Core.List.{List, ◌++◌, append-nil}
use mathlib.Core.Option.{some}
use Prim.Native.Nat.{ℕ, ◌+◌, ◌-◌, ◌*◌}
use native.Mathlib.Numerals.{add-one}
use native.Mathlib.Omega.{arith}
use lib.IntN.{ℤ}
use lib.ListN.{length, replicate}
use Rattle.rules.specs.Basics.{wrote}
use Rattle.rules.specs.Search.{Match, End, done, full, stuck, unfinished, Swept, within}
use Rattle.rules.specs.Walk.{out_of_steps, out_of_rows, pairs, Kept}
use Rattle.rules.specs.Report.{lent_room, fits, numbers_of, labels_of, notes_of, zeros}
use Rattle.rules.specs.Answers.{task_of, letter_holds, walked_on, walk_within, halt_answer, end_answer, report_of, accepted}
use Rattle.matches.specs.Asked as S
use Rattle.matches.specs.Asked.{asked_of}
use Rattle.matches.specs.declared.Sweep.{Sweep}
use Rattle.matches.specs.declared.Task.{Task}
use Rattle.laws.proofs.Waits.{no-rows_end, search_no_wait}
use Rattle.pairs.specs.Layout.{N, layout_of}
use Rattle.sweep.specs.Searched.{gapped, Answered}
use Rattle.outcome.specs.declared.Outcome.{Outcome}
use Rattle.outcome.specs.Results.{lent, memory}
use Rattle.prepared.specs.Ready.{Ready}
use Rattle.prepared.specs.declared.Prepared.{Prepared}
use Rattle.starting.specs.declared.Terms.{Terms}
use Rattle.starting.specs.Starts.{ended, TaskFor, Walks}
use Rattle.starting.proofs.Starting.{found, numbered, labelled, counted}

module _ (T : List ℕ) (p : Prepared) (terms : Terms) (rows : List ℤ) (notes trail : List ℕ) (w : Walks T p terms rows notes trail) (t : Task) (h : TaskFor p terms t)
    (num : List ℤ) (lab notes' trail' : List ℕ) (num' : List ℤ) (lab' : List ℕ) (s : Sweep) (g : Answered T rows t notes trail num lab notes' trail' num' lab' s) where
  -- a search of rows that are all there does not wait
  waits-not : (e : End Match) → ((i : ℕ) (p : List ℕ) → e ≡ unfinished out_of_rows i p → ⊥) → end_answer e ≡ 23 → ⊥
  unfolding end_answer halt_answer
  waits-not done f h = let z : ◌≡◌ {A = ℕ} 0 23 = h in absurd (omega arith)
  waits-not (full m) f h = let z : ◌≡◌ {A = ℕ} 13 23 = h in absurd (omega arith)
  waits-not stuck f h = let z : ◌≡◌ {A = ℕ} 15 23 = h in absurd (omega arith)
  waits-not (unfinished out_of_steps i p) f h = let z : ◌≡◌ {A = ℕ} 16 23 = h in absurd (omega arith)
  waits-not (unfinished out_of_rows i p) f h = f i p refl

  never_waits : (q : List ℕ) → end_answer (walked_on (within (some terms.allowance) (task_of q rows).table.n) (task_of q rows) (length num) (length lab)).end ≡ 23 → ⊥
  unfolding walked_on
  never_waits q =
      waits-not (walked_on (within (some terms.allowance) (task_of q rows).table.n) (task_of q rows) (length num) (length lab)).end
      (no-rows_end _ (search_no_wait (task_of q rows).table.n (some terms.allowance) (letter_holds (task_of q rows)) (task_of q rows).table.n (task_of q rows).places (task_of q rows).skip (fits (lent_room (length num) (length lab) (task_of q rows).measures))))

  pub run-ended : (r : Outcome) → r ≡ record { answer = s.end; matches = s.matches; labels = s.labels; steps = s.steps; offset = 0 }
      → (q : List ℕ) → Ready q T p → memory r notes' trail' num' lab' ≡ ended terms.allowance q rows (lent notes trail num lab)
  unfolding ended accepted report_of walk_within
  run-ended r e q a =
      let fed = w.fed in
      let W : Swept Kept = walked_on (within (some terms.allowance) (task_of q rows).table.n) (task_of q rows) (length num) (length lab) in
      let R : Swept Kept = S.search_of (asked_of T rows t) (length num) (length lab) in
      let f : R ≡ W = found q T p a terms rows notes trail fed t h (length num) (length lab) ∙ ap (λ (b : Bool). walked_on (record { largest = (task_of q rows).table.n; more = b; allowance = some terms.allowance }) (task_of q rows) (length num) (length lab)) w.no_more in
      let end : s.end ≡ end_answer W.end = g.reported.end ∙ ap (λ (w : Swept Kept). end_answer w.end) f in
      let m : s.matches ≡ length W.matches = g.reported.matches ∙ ap (λ (w : Swept Kept). length w.matches) f in
      let l : s.labels ≡ length (labels_of (task_of q rows).places W.matches) =
      g.reported.labels ∙ ap length (labelled q T p a terms rows notes trail fed t h R.matches) ∙ ap (λ (w : Swept Kept). length (labels_of (task_of q rows).places w.matches)) f in
      let st : s.steps ≡ W.state.steps = g.reported.steps ∙ ap (λ (w : Swept Kept). w.state.steps) f in
      let nu : num' ≡ wrote num 0 (numbers_of (task_of q rows).table (task_of q rows).measures (task_of q rows).places 0 W.matches) =
      g.reported.numbers_is ∙ ap (wrote num 0) (numbered q T p a terms rows notes trail fed t h 0 R.matches ∙ ap (λ (w : Swept Kept). numbers_of (task_of q rows).table (task_of q rows).measures (task_of q rows).places 0 w.matches) f) in
      let la : lab' ≡ wrote lab 0 (labels_of (task_of q rows).places W.matches) =
      g.reported.labels_is ∙ ap (wrote lab 0) (labelled q T p a terms rows notes trail fed t h R.matches ∙ ap (λ (w : Swept Kept). labels_of (task_of q rows).places w.matches) f) in
      let kn : N (layout_of T t.size) t.size.rows ≡ length W.state.failed =
      counted q T p a terms rows notes trail fed t h (length num) (length lab)
      ∙ ap (λ (b : Bool). length (walked_on (record { largest = (task_of q rows).table.n; more = b; allowance = some terms.allowance }) (task_of q rows) (length num) (length lab)).state.failed) w.no_more in
      let pn : t.pairs ≡ length W.state.failed = h.pairs_are ∙ ap (λ (k : ℕ). p.places * k) (add-one terms.largest) ∙ ap (λ (k : ℕ). pairs p.places k) w.whole ∙ sym (ap₂ (λ (x y : ℕ). pairs x y) h.places h.rows) ∙ kn in
      let ga : gapped t.pairs W.state.failed ≡ W.state.failed = (let z : t.pairs - length W.state.failed ≡ 0 = omega arith in ap (λ (k : ℕ). W.state.failed ++ replicate k false) z ∙ append-nil W.state.failed) in
      let no : notes' ≡ wrote notes 0 (notes_of W.state.failed) = g.notes_is ∙ ap (λ (w : Swept Kept). wrote notes 0 (notes_of (gapped t.pairs w.state.failed))) f ∙ ap (λ (F : List Bool). wrote notes 0 (notes_of F)) ga in
      let tr : trail' ≡ wrote trail 0 (zeros (length W.state.failed)) = g.trailed.zeroed (λ (z : s.end ≡ 23). never_waits q (sym end ∙ z)) ∙ ap (λ (k : ℕ). wrote trail 0 (zeros k)) pn in
      rw (e, end, m, l, st, nu, la, no, tr)

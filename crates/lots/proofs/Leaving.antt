-- What the search of a call leaves in memory is what the definition of the call says (`leaves`),
-- where the notes hold the failed pairs and the trail is zeros unless it waits.
use mathlib.Core.Path.{◌≡◌, refl, ap, ap₂, sym, ◌∙◌}
use mathlib.Core.List.{List, [], ◌∷◌, ◌++◌}
use mathlib.Core.Bool.{Bool, true, false, not}
use mathlib.Core.Option.{some}
use Prim.Native.Nat.{ℕ, zero, suc, ◌+◌, ◌-◌, ◌*◌, ◌≤◌, ◌<◌}
use native.Mathlib.Numerals.{add-one}
use native.Mathlib.Omega.{arith}
use lib.IntN.{ℤ}
use lib.ListN.{length, drop, replicate, length-append, length-replicate}
use Rattle.rules.specs.Basics.{wrote}
use Rattle.rules.specs.Query.{text_of}
use Rattle.rules.specs.Places.{Unrolled, unroll, places}
use Rattle.rules.specs.Search.{unfinished, Swept, Terms, walk_search}
use Rattle.rules.specs.Walk.{out_of_rows, pairs, Kept, as_kept}
use Rattle.rules.specs.Report.{lent_room, fits, labels_of, numbers_of, notes_of, zeros}
use Rattle.rules.specs.Answers.{tree_in, letter_holds, Task, task_of, walked_on, end_answer, report_of, Result, Memory, accepted}
use Rattle.rules.specs.Lots.{Named, present_rows, present_task, named_pairs, begin_answer, lot_terms, lot_walk, lot_memory, Leaves}
use Rattle.rules.specs.LotDemands.{Lot}
use Rattle.laws.proofs.Accepted.{places_are}
use Rattle.laws.proofs.Appended.{length-wrote_at}
use Rattle.laws.proofs.Bounds.{Bounds, written-bounds}
use Rattle.laws.proofs.Grammar.{tree-exactly}
use Rattle.laws.proofs.Counting.{places-counted}
use Rattle.laws.proofs.Lots.{Begins_well, begins-well, task-n}
use Rattle.laws.proofs.Padded.{padded, beyond, more-pairs, search_padded}
use Rattle.laws.proofs.PatternWalk.{search_kept}
use Rattle.table.specs.Table.{places_in}
use Rattle.prepared.specs.Ready.{Ready}
use Rattle.prepared.specs.declared.Prepared.{Prepared}
use Rattle.matches.specs.declared.Task as C
use Rattle.matches.specs.declared.Sweep.{Sweep}
use Rattle.matches.specs.Asked.{asked_of, search_of}
use Rattle.sweep.specs.Searched.{Reported, gapped}
use Rattle.starting.specs.Starts.{TaskFor, Fed}
use Rattle.starting.proofs.Starting.{found, numbered, labelled, counted}
use Rattle.pairs.specs.Layout.{N, layout_of}
use Rattle.outcome.specs.declared.Outcome.{Outcome}
use Rattle.outcome.specs.Results.{memory}
use Rattle.lots.proofs.Pairs.{named-pairs}

-- what lies behind what was written is as it was
drop-wrote : (l vs : List ℕ) → drop (length vs) (wrote l 0 vs) ≡ drop (length vs) l
unfolding wrote
drop-wrote l vs = let e : 0 + length vs ≡ length vs = omega arith in go vs (drop (0 + length vs) l) ∙ ap (λ (k : ℕ). drop k l) e
  where
    go : (vs w : List ℕ) → drop (length vs) (vs ++ w) ≡ w
    go [] w = refl
    go (v ∷ vs) w = go vs w

module _ (s : Named) (begins : begin_answer s ≡ 0) (a : ℕ) (al : s.allowance ≡ some a) (T : List ℕ) (p : Prepared) (ready : Ready s.query T p) (rows : List ℤ) (n : ℕ) (lot : Lot s rows n) (last : Bool)
    (t : C.Task) (task : TaskFor p (record { rows = n; largest = s.largest; allowance = a; more = not last }) t)
    (notes₁ trail₁ : List ℕ) (fed : Fed p (record { rows = n; largest = s.largest; allowance = a; more = not last }) (present_rows s.query rows n) notes₁ trail₁) where
  abbrev q : List ℕ
  q = s.query

  ok : Begins_well s
  ok = begins-well s begins

  abbrev part : List ℤ
  part = present_rows q rows n

  abbrev t₂ : Task
  t₂ = present_task s rows n

  abbrev nums : ℕ
  nums = length s.lent.numbers

  abbrev labs : ℕ
  labs = length s.lent.labels

  abbrev U : Unrolled
  U = unroll ready.tree

  bounds : Bounds ready.tree
  unfolding tree_in
  bounds = written-bounds ((tree-exactly (text_of q) ready.tree).0 ready.has_tree)

  abbrev R : Swept Kept
  R = search_of (asked_of T part t) nums labs

  abbrev D : Swept Kept
  D = walked_on (record { largest = t₂.table.n; more = not last; allowance = some a }) t₂ nums labs

  R-is : R ≡ D
  unfolding present_task
  R-is = found q T p ready (record { rows = n; largest = s.largest; allowance = a; more = not last }) part notes₁ trail₁ fed t task nums labs

  places₂ : t₂.places ≡ places U
  unfolding present_task
  places₂ = places_are q part ready.tree ready.has_tree

  abbrev gap : List Bool
  gap = beyond U (letter_holds t₂) t₂.table.n s.largest

  few : t₂.table.n ≤ s.largest
  few = rw (task-n s ok rows n lot) lot.few

  walk_is : lot_walk s rows n last ≡ padded gap D
  unfolding lot_walk walked_on
  walk_is = rw (al, places₂) (search_padded U (letter_holds t₂) t₂.table.n (record { largest = s.largest; more = not last; allowance = some a }) few t₂.skip (fits (lent_room nums labs t₂.measures)))

  D-long : length D.state.failed ≡ N (layout_of T t.size) t.size.rows
  unfolding present_task
  D-long = sym (counted q T p ready (record { rows = n; largest = s.largest; allowance = a; more = not last }) part notes₁ trail₁ fed t task nums labs)

  pairs_are : t.pairs ≡ named_pairs s
  pairs_are = task.pairs_are ∙ sym (named-pairs s T p ready)

  -- the failed pairs of the rows there are, with those of rows that are not there, are as many as
  -- the pairs
  D-pairs : length D.state.failed ≡ pairs (length (places U)) t₂.table.n
  unfolding walked_on
  D-pairs = rw places₂ (search_kept U (letter_holds t₂) t₂.table.n (record { largest = t₂.table.n; more = not last; allowance = some a }) (omega arith) t₂.skip (fits (lent_room nums labs t₂.measures)))

  count-is : t.pairs ≡ pairs (length (places U)) s.largest
  count-is = task.pairs_are ∙ ap₂ (λ (x y : ℕ). x * y) (ready.places_are ∙ sym (places-counted ready.tree bounds)) (add-one s.largest)

  kept_is : gapped t.pairs R.state.failed ≡ (lot_walk s rows n last).state.failed
  kept_is =
      ap (λ (r : Swept Kept). gapped t.pairs r.state.failed) R-is
      ∙ ap₂ (λ (x y : ℕ). D.state.failed ++ replicate (x - y) false) count-is D-pairs
      ∙ sym (ap (λ (r : Swept Kept). r.state.failed) walk_is)

  kept_long : length (lot_walk s rows n last).state.failed ≡ t.pairs
  kept_long =
      let m = more-pairs U (letter_holds t₂) t₂.table.n s.largest few in
      let e : length (lot_walk s rows n last).state.failed ≡ length (D.state.failed ++ gap) = ap (λ (r : Swept Kept). length r.state.failed) walk_is in
      let f = length-append D.state.failed gap in
      let h = length-replicate (pairs (length (places U)) s.largest - pairs (length (places U)) t₂.table.n) false in
      let k = D-pairs in
      let c = count-is in
      omega arith

  module _ (notes trail : List ℕ) (numbers : List ℤ) (labels : List ℕ) (r : Sweep) (o : Outcome) (eo : o ≡ record { answer = r.end; matches = r.matches; labels = r.labels; steps = r.steps; offset = 0 })
      (reported : Reported (asked_of T part t) R s.lent.numbers s.lent.labels numbers labels r) (noted : notes ≡ wrote s.lent.notes 0 (notes_of (gapped t.pairs R.state.failed)))
      (zeroed : (r.end ≡ 23 → ⊥) → trail ≡ wrote s.lent.trail 0 (zeros t.pairs)) (trail_long : length trail ≡ length s.lent.trail) (trail_beyond : drop t.pairs trail ≡ drop t.pairs s.lent.trail)
      (room : t.pairs ≤ length s.lent.trail) where
    abbrev walk : Swept Kept
    walk = lot_walk s rows n last

    matches-are : R.matches ≡ walk.matches
    matches-are = ap (λ (w : Swept Kept). w.matches) R-is ∙ sym (ap (λ (w : Swept Kept). w.matches) walk_is)

    end_is : r.end ≡ end_answer walk.end
    end_is = reported.end ∙ ap (λ (w : Swept Kept). end_answer w.end) R-is ∙ sym (ap (λ (w : Swept Kept). end_answer w.end) walk_is)

    steps_are : r.steps ≡ walk.state.steps
    steps_are = reported.steps ∙ ap (λ (w : Swept Kept). w.state.steps) R-is ∙ sym (ap (λ (w : Swept Kept). w.state.steps) walk_is)

    -- where it waits, the start of its attempt and how many pairs are open are told
    pub waits-told : (i : ℕ) (u : List ℕ) → walk.end ≡ unfinished out_of_rows i u → (r.row ≡ i) × (r.opened ≡ length u)
    waits-told i u e = reported.waits i u (ap (λ (w : Swept Kept). w.end) R-is ∙ sym (ap (λ (w : Swept Kept). w.end) walk_is) ∙ e)

    zeros-long : (k : ℕ) → length (zeros k) ≡ k
    unfolding zeros
    zeros-long k = length-replicate k 0

    pub leaves : Leaves s (lot_memory s rows n last) (memory o notes trail numbers labels)
    unfolding lot_memory accepted report_of present_task
    leaves =
        let ms : labels_of (places_in T t.size.places) R.matches ≡ labels_of t₂.places walk.matches =
        labelled q T p ready (record { rows = n; largest = s.largest; allowance = a; more = not last }) part notes₁ trail₁ fed t task R.matches ∙ ap (labels_of t₂.places) matches-are in
        let m : r.matches ≡ length walk.matches = reported.matches ∙ ap length matches-are in
        let l : r.labels ≡ length (labels_of t₂.places walk.matches) = reported.labels ∙ ap length ms in
        let b : zeros t.pairs ≡ zeros (length walk.state.failed) = ap zeros (sym kept_long) in
        let z : length (zeros t.pairs) ≡ t.pairs = zeros-long t.pairs in
        record {
          result = rw (eo, end_is, m, l, steps_are) refl;
          notes = noted ∙ ap (λ (F : List Bool). wrote s.lent.notes 0 (notes_of F)) kept_is;
          numbers = reported.numbers_is ∙ ap (wrote s.lent.numbers 0) (numbered q T p ready (record { rows = n; largest = s.largest; allowance = a; more = not last }) part notes₁ trail₁ fed t task 0 R.matches
              ∙ ap (numbers_of t₂.table t₂.measures t₂.places 0) matches-are);
          labels = reported.labels_is ∙ ap (wrote s.lent.labels 0) ms;
          trail = λ e. zeroed (λ (h : r.end ≡ 23). e (sym end_is ∙ h)) ∙ ap (wrote s.lent.trail 0) b;
          trail_length = trail_long ∙ sym (length-wrote_at s.lent.trail 0 (zeros (length walk.state.failed)) (let c = ap length b in omega arith));
          trail_beyond =
              ap (λ (k : ℕ). drop k trail) (sym pairs_are) ∙ trail_beyond
              ∙ sym (ap₂ (λ (k : ℕ) (v : List ℕ). drop k (wrote s.lent.trail 0 v)) (sym pairs_are ∙ sym z) (sym b) ∙ drop-wrote s.lent.trail (zeros t.pairs) ∙ ap (λ (k : ℕ). drop k s.lent.trail) z);
        }

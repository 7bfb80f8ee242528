-- A later call that is not refused leaves what the definition says (`later-leaves`), where what is
-- kept stands for the call before: its report and notes are in the buffers, and it waited at the
-- start, with the open pairs, that is told.
use mathlib.Core.Path.{◌≡◌, refl, ap, ap₂, sym, ◌∙◌}
use mathlib.Core.List.{List, [], ◌∷◌}
use mathlib.Core.Bool.{Bool, false, not}
use mathlib.Core.Option.{some}
use Prim.Native.Nat.{ℕ, zero, suc, ◌+◌, ◌-◌, ◌*◌, ◌≤◌, ◌<◌}
use native.Mathlib.Nat.{not-suc-le-zero, le_of_suc-le-suc}
use native.Mathlib.Omega.{arith}
use lib.IntN.{ℤ}
use lib.ListN.{length, get_or, drop}
use Rattle.rules.specs.Basics.{wrote}
use Rattle.rules.specs.Search.{unfinished, Swept}
use Rattle.rules.specs.Walk.{out_of_rows, pairs, Kept}
use Rattle.rules.specs.Report.{labels_of, notes_of, zeros, bit_at}
use Rattle.rules.specs.Working.{bits_of}
use Rattle.rules.specs.Lots.{Named, present_rows, present_task, begin_answer, lot_walk, lot_memory, Leaves}
use Rattle.rules.specs.LotDemands.{Lot, Later}
use Rattle.laws.proofs.NotesWritten.{wrote-over}
use Rattle.pairs.specs.Layout.{N, layout_of}
use Rattle.prepared.specs.Ready.{Ready}
use Rattle.prepared.specs.declared.Prepared.{Prepared}
use Rattle.matches.specs.declared.Task as C
use Rattle.matches.specs.declared.Sweep.{Sweep}
use Rattle.matches.specs.Asked.{asked_of, search_of}
use Rattle.sweep.specs.Searched.{Came, WentOn, gapped, Answered}
use Rattle.sweep.proofs.Clearing.{zeros-long}
use Rattle.starting.specs.Starts.{TaskFor, Fed}
use Rattle.outcome.specs.declared.Outcome.{Outcome}
use Rattle.outcome.specs.Results.{memory}
use Rattle.lots.specs.declared.Feed.{Feed}
use Rattle.lots.specs.Feeds.{kept_in}
use Rattle.lots.proofs.Standing.{stands, later-noted}
use Rattle.lots.proofs.Leaving.{leaves, waits-told}

drop_at : (k : ℕ) (a b : List ℕ) → drop k a ≡ drop k b → (i : ℕ) → k ≤ i → length a ≡ length b → get_or a i 0 ≡ get_or b i 0
drop_at zero a b e i l len = ap (λ (v : List ℕ). get_or v i 0) e
drop_at (suc k) a b e zero l len = absurd (not-suc-le-zero l)
drop_at (suc k) [] [] e (suc i) l len = refl
drop_at (suc k) [] (y ∷ b) e (suc i) l len = absurd (let z : ◌≡◌ {A = ℕ} 0 (suc (length b)) = len in omega arith)
drop_at (suc k) (x ∷ a) [] e (suc i) l len = absurd (let z : ◌≡◌ {A = ℕ} (suc (length a)) 0 = len in omega arith)
drop_at (suc k) (x ∷ a) (y ∷ b) e (suc i) l len = drop_at k a b e i (le_of_suc-le-suc l) (let z : ◌≡◌ {A = ℕ} (suc (length a)) (suc (length b)) = len in omega arith)

module _ (s : Named) (begins : begin_answer s ≡ 0) (a : ℕ) (al : s.allowance ≡ some a) (T : List ℕ) (p : Prepared) (ready : Ready s.query T p) (rows₁ rows₂ : List ℤ) (n₁ n₂ : ℕ)
    (lot₁ : Lot s rows₁ n₁) (lot₂ : Lot s rows₂ n₂) (later : Later s rows₁ rows₂ n₁ n₂) (last : Bool) (i : ℕ) (u : List ℕ) (end : (lot_walk s rows₁ n₁ false).end ≡ unfinished out_of_rows i u)
    (t : C.Task) (task : TaskFor p (record { rows = n₂; largest = s.largest; allowance = a; more = not last }) t)
    (notes trail : List ℕ) (numbers : List ℤ) (labels : List ℕ) (fed : Fed p (record { rows = n₂; largest = s.largest; allowance = a; more = not last }) (present_rows s.query rows₂ n₂) notes trail)
    (left : Leaves s (lot_memory s rows₁ n₁ false) (record { result = (lot_memory s rows₁ n₁ false).result; buffers = record { notes = notes; trail = trail; numbers = numbers; labels = labels } }))
    (long-numbers : length numbers ≡ length s.lent.numbers) (long-labels : length labels ≡ length s.lent.labels) (long_trail : length trail ≡ length s.lent.trail)
    (trail_beyond : drop t.pairs trail ≡ drop t.pairs s.lent.trail) (room : t.pairs ≤ length s.lent.trail)
    (f : Feed) (row : f.row ≡ i) (matched : f.matches ≡ length (lot_walk s rows₁ n₁ false).matches) (labelled : f.labels ≡ length (labels_of (present_task s rows₂ n₂).places (lot_walk s rows₁ n₁ false).matches))
    (stepped : f.steps ≡ (lot_walk s rows₁ n₁ false).state.steps) (opened : f.opened ≡ length u) where
  abbrev part : List ℤ
  part = present_rows s.query rows₂ n₂

  abbrev R : Swept Kept
  R = search_of (asked_of T part t) (length s.lent.numbers) (length s.lent.labels)

  from_is : kept_in f ≡ record { end = 0; row = i; matches = length (lot_walk s rows₁ n₁ false).matches; labels = length (labels_of (present_task s rows₂ n₂).places (lot_walk s rows₁ n₁ false).matches); steps = (lot_walk s rows₁ n₁ false).state.steps - length u; opened = 0 }
  from_is = rw (row, matched, labelled, stepped, opened) refl

  module _ (notes' trail' : List ℕ) (numbers' : List ℤ) (labels' : List ℕ) (r : Sweep) (w : WentOn T part t notes trail numbers labels (kept_in f) notes' trail' numbers' labels' r)
      (bytes : (k : ℕ) → get_or notes' k 0 < 256) (bytes₀ : (k : ℕ) → get_or s.lent.notes k 0 < 256) where
    came : Came (asked_of T part t) s.lent.numbers s.lent.labels R notes' numbers' labels' r
    came =
        w.came s.lent.numbers s.lent.labels R
        (rw from_is (stands s begins a al T p ready rows₁ rows₂ n₁ n₂ lot₁ lot₂ later last i u end t task notes trail numbers labels fed left.notes left.numbers left.labels long-numbers long-labels))

    pairs-same : N (layout_of T t.size) t.size.rows ≡ pairs p.places n₂
    pairs-same = ap₂ (λ (x y : ℕ). pairs x y) task.places task.rows

    noted : notes' ≡ wrote s.lent.notes 0 (notes_of (gapped t.pairs R.state.failed))
    noted =
        rw task.pairs_are
        (later-noted s begins a al T p ready rows₁ rows₂ n₁ n₂ lot₁ lot₂ later last i u end t task notes trail numbers labels fed left.notes left.numbers left.labels long-numbers long-labels
        notes' R.state.failed (ap (λ (k : ℕ). bits_of notes' k) (sym pairs-same) ∙ came.kept) (λ z l. w.notes_beyond z (rw pairs-same l)) w.notes_long bytes bytes₀)

    zeroed : (r.end ≡ 23 → ⊥) → trail' ≡ wrote s.lent.trail 0 (zeros t.pairs)
    zeroed e =
        w.trailed.zeroed e
        ∙ wrote-over 0 trail s.lent.trail (zeros t.pairs) long_trail (rw (zeros-long t.pairs) room)
        (λ k l. drop_at t.pairs trail s.lent.trail trail_beyond k (rw (zeros-long t.pairs) at l) long_trail)

    pub later-leaves : (o : Outcome) → o ≡ record { answer = r.end; matches = r.matches; labels = r.labels; steps = r.steps; offset = 0 }
        → Leaves s (lot_memory s rows₂ n₂ last) (memory o notes' trail' numbers' labels')
    later-leaves o eo =
        leaves s begins a al T p ready rows₂ n₂ lot₂ last t task notes trail fed notes' trail' numbers' labels' r o eo came.reported noted zeroed (w.trailed.trail_long ∙ long_trail)
        (w.trailed.trail_beyond ∙ trail_beyond) room

    -- and tells where it waits
    pub later-waits : (o : Outcome) → o ≡ record { answer = r.end; matches = r.matches; labels = r.labels; steps = r.steps; offset = 0 }
        → (i : ℕ) (u : List ℕ) → (lot_walk s rows₂ n₂ last).end ≡ unfinished out_of_rows i u → (r.row ≡ i) × (r.opened ≡ length u)
    later-waits o eo =
        waits-told s begins a al T p ready rows₂ n₂ lot₂ last t task notes trail fed notes' trail' numbers' labels' r o eo came.reported noted zeroed (w.trailed.trail_long ∙ long_trail)
        (w.trailed.trail_beyond ∙ trail_beyond) room

-- the first call does too
module _ (s : Named) (begins : begin_answer s ≡ 0) (a : ℕ) (al : s.allowance ≡ some a) (T : List ℕ) (p : Prepared) (ready : Ready s.query T p) (rows : List ℤ) (n : ℕ) (lot : Lot s rows n) (last : Bool)
    (t : C.Task) (task : TaskFor p (record { rows = n; largest = s.largest; allowance = a; more = not last }) t)
    (fed : Fed p (record { rows = n; largest = s.largest; allowance = a; more = not last }) (present_rows s.query rows n) s.lent.notes s.lent.trail) (room : t.pairs ≤ length s.lent.trail)
    (notes trail : List ℕ) (numbers : List ℤ) (labels : List ℕ) (r : Sweep)
    (d : Answered T (present_rows s.query rows n) t s.lent.notes s.lent.trail s.lent.numbers s.lent.labels notes trail numbers labels r) where
  pub first-leaves : (o : Outcome) → o ≡ record { answer = r.end; matches = r.matches; labels = r.labels; steps = r.steps; offset = 0 }
      → Leaves s (lot_memory s rows n last) (memory o notes trail numbers labels)
  first-leaves o eo =
      leaves s begins a al T p ready rows n lot last t task s.lent.notes s.lent.trail fed notes trail numbers labels r o eo d.reported d.notes_is d.trailed.zeroed d.trailed.trail_long
      d.trailed.trail_beyond room

  pub first-waits : (o : Outcome) → o ≡ record { answer = r.end; matches = r.matches; labels = r.labels; steps = r.steps; offset = 0 }
      → (i : ℕ) (u : List ℕ) → (lot_walk s rows n last).end ≡ unfinished out_of_rows i u → (r.row ≡ i) × (r.opened ≡ length u)
  first-waits o eo =
      waits-told s begins a al T p ready rows n lot last t task s.lent.notes s.lent.trail fed notes trail numbers labels r o eo d.reported d.notes_is d.trailed.zeroed d.trailed.trail_long
      d.trailed.trail_beyond room

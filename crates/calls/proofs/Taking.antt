-- A call that is taken up: the search on the rows present leaves what the definition says, and what
-- is kept then stands for it (`taken_made`).
use mathlib.Core.Path.{◌≡◌, refl, ap, sym, ◌∙◌, subst}
use mathlib.Core.Bool.{Bool, true, false, not, true≢false}
use mathlib.Core.List.{List}
use mathlib.Core.Option.{some}
use Prim.Native.Nat.{ℕ, ◌*◌, ◌≤◌, ◌<◌}
use native.Mathlib.Decide.{ℕ_discrete}
use native.Mathlib.Numerals.{add-one}
use native.Mathlib.Omega.{arith}
use lib.IntN.{ℤ}
use lib.ListN.{length, get_or, take, drop, length-take}
use Rattle.rules.specs.Query.{columns_of, parts}
use Rattle.rules.specs.Walk.{out_of_rows, pairs}
use Rattle.rules.specs.Search.{unfinished}
use Rattle.rules.specs.Report.{labels_of, bytes_for}
use Rattle.rules.specs.Answers.{task_of, Buffers, Memory, Result}
use Rattle.rules.specs.Lots.{Named, Progress, present_rows, present_task, named_pairs, begin_answer, call_refusal, lot_walk, lot_memory, arrived, call_of, Leaves}
use Rattle.rules.specs.LotDemands.{Lot, Later}
use Rattle.laws.proofs.Lots.{Begins_well, begins-well, call-well}
use Rattle.prepared.specs.Ready.{Ready}
use Rattle.prepared.specs.declared.Prepared.{Prepared}
use Rattle.matches.specs.declared.Sweep.{Sweep}
use Rattle.matches.specs.declared.Task as C
use Rattle.sweep.specs.Searched.{WentOn, Answered}
use Rattle.starting.specs.declared.Terms.{Terms}
use Rattle.starting.specs.Starts as S
use Rattle.outcome.specs.declared.Outcome.{Outcome}
use Rattle.outcome.specs.Results.{lent, memory}
use Rattle.lots.specs.Feeds.{kept_in}
use Rattle.lots.proofs.Pairs.{named-pairs}
use Rattle.lots.proofs.Calling.{first-leaves, first-waits, later-leaves, later-waits}
use Rattle.calls.specs.declared.Call.{Call}
use Rattle.calls.specs.declared.Fed.{Fed}
use Rattle.calls.specs.Calls.{TakenUp, Stands, taken_up, Made}
use Rattle.calls.specs.Steps.{before, after, kept_by, outcome_by, Went}
use Rattle.calls.proofs.Bounds.{waiting-end, matches-are, labels-are, steps_are, trail_beyond}
use Rattle.calls.proofs.Unlimited.{call-begins}
use Rattle.calls.proofs.Standing.{notes_long, trail_long, numbers_long, labels_long, waits-going, waits-unended, made_by}

-- a result told anew
relabelled : (s : Named) (want : Memory) (r : Result) (b : Buffers) → Leaves s want (record { result = r; buffers = b }) → Leaves s want (record { result = want.result; buffers = b })
relabelled s want r b l = record { result = refl; notes = l.notes; numbers = l.numbers; labels = l.labels; trail = l.trail; trail_length = l.trail_length; trail_beyond = l.trail_beyond }

module _ (s : Named) (T : List ℕ) (p : Prepared) (ready : Ready s.query T p) (c : Call) (al : s.allowance ≡ some c.feed.allowance) (q : List ℕ) (rows : List ℤ)
    (notes trail : List ℕ) (numbers : List ℤ) (labels : List ℕ) (pr : Progress) (rows₁ : List ℤ) (st : Stands s pr rows₁ c.feed (lent notes trail numbers labels)) (waiting : c.feed.answer ≡ 23)
    (granted : call_refusal s pr rows c.present ≡ 0) (later : Later s rows₁ rows pr.present c.present) (part : List ℤ) (ep : part ≡ take (c.present * p.columns) rows)
    (notes' trail' : List ℕ) (numbers' : List ℤ) (labels' : List ℕ) (r : Fed) (w : Went T p c part notes trail numbers labels notes' trail' numbers' labels' r) where
  abbrev n : ℕ
  n = c.present

  abbrev a : ℕ
  a = c.feed.allowance

  abbrev b : Buffers
  b = lent notes trail numbers labels

  abbrev b' : Buffers
  b' = lent notes' trail' numbers' labels'

  abbrev present : List ℤ
  present = present_rows s.query rows n

  abbrev want : Memory
  want = lot_memory s rows n c.last

  begins : begin_answer s ≡ 0
  begins = call-begins s pr rows n granted

  ok : Begins_well s
  ok = begins-well s begins

  lot : Lot s rows n
  lot = (call-well s pr rows n granted).1

  columns_are : p.columns ≡ columns_of s.query
  unfolding parts
  columns_are = ready.columns_are

  part-is : part ≡ present
  unfolding present_rows
  part-is = ep ∙ ap (λ (k : ℕ). take (n * k) rows) columns_are

  abbrev t : C.Task
  t = w.task

  abbrev sweep : Sweep
  sweep = w.sweep

  abbrev o : Outcome
  o = outcome_by sweep

  abbrev terms : Terms
  terms = record { rows = n; largest = s.largest; allowance = a; more = not c.last }

  task : S.TaskFor p terms t
  task = subst (λ (k : ℕ). S.TaskFor p (record { rows = n; largest = k; allowance = a; more = not c.last }) t) st.largest w.task_for

  pairs_are : t.pairs ≡ named_pairs s
  pairs_are = task.pairs_are ∙ sym (named-pairs s T p ready)

  room : t.pairs ≤ length s.lent.trail
  room = let e = pairs_are in let l = ok.trail_long in omega arith

  present-long : length present ≡ n * p.columns
  unfolding present_rows
  present-long =
      let e : n * p.columns ≡ n * columns_of s.query = ap (λ (k : ℕ). n * k) columns_are in
      let l = lot.held in
      let k = length-take (n * columns_of s.query) rows in
      omega arith

  named-are : pairs p.places s.largest ≡ named_pairs s
  named-are = ap (λ (k : ℕ). p.places * k) (sym (add-one s.largest)) ∙ sym (named-pairs s T p ready)

  -- rows and room, in buffers as long as those that were named
  fed_in : (x y : List ℕ) → length x ≡ length s.lent.notes → length y ≡ length s.lent.trail → S.Fed p terms present x y
  unfolding bytes_for
  fed_in x y ex ey =
      let e = named-are in
      let k = ok.notes_long in
      let l = ok.trail_long in
      record { most = ok.few; few = lot.few; all = present-long; noted = omega arith; trailed = omega arith }

  -- ---- the first call

  module _ (z : c.feed.begun ≡ 0) where
    named : b ≡ s.lent
    named = (st.new z).named

    answered : Answered T present t s.lent.notes s.lent.trail s.lent.numbers s.lent.labels notes' trail' numbers' labels' sweep
    answered =
        subst (λ (x : Buffers). Answered T present t x.notes x.trail x.numbers x.labels notes' trail' numbers' labels' sweep) named
        (subst (λ (x : List ℤ). Answered T x t notes trail numbers labels notes' trail' numbers' labels' sweep) part-is (w.advanced.first z))

    leaves-first : Leaves s want (memory o notes' trail' numbers' labels')
    leaves-first = first-leaves s begins a al T p ready rows n lot c.last t task (fed_in s.lent.notes s.lent.trail refl refl) room notes' trail' numbers' labels' sweep answered o refl

    waits-first : (i : ℕ) (u : List ℕ) → (lot_walk s rows n c.last).end ≡ unfinished out_of_rows i u → (sweep.row ≡ i) × (sweep.opened ≡ length u)
    waits-first = first-waits s begins a al T p ready rows n lot c.last t task (fed_in s.lent.notes s.lent.trail refl refl) room notes' trail' numbers' labels' sweep answered o refl

    bytes-first : (k : ℕ) → get_or s.lent.notes k 0 < 256
    bytes-first = subst (λ (x : Buffers). (k : ℕ) → get_or x.notes k 0 < 256) named w.bytes₁

  -- ---- a later one

  module _ (d : c.feed.begun ≡ 0 → ⊥) where
    u : TakenUp s pr rows₁ c.feed b
    u = st.was_taken_up d

    abbrev n₁ : ℕ
    n₁ = pr.present

    unended : pr.ended ≡ false
    unended = waits-unended s pr rows₁ c.feed b st waiting

    left : Leaves s (lot_memory s rows₁ n₁ false) (record { result = pr.result; buffers = b })
    left = subst (λ (e : Bool). Leaves s (lot_memory s rows₁ n₁ e) (record { result = pr.result; buffers = b })) unended u.left

    result_is : (lot_memory s rows₁ n₁ false).result ≡ record { answer = c.feed.answer; matches = c.feed.matches; labels = c.feed.labels; steps = c.feed.steps; offset = 0 }
    result_is = sym left.result ∙ st.result

    waited : (i : ℕ) × ((v : List ℕ) × ((lot_walk s rows₁ n₁ false).end ≡ unfinished out_of_rows i v))
    waited = waiting-end s u.begins rows₁ n₁ u.lot false (ap (λ (x : Result). x.answer) result_is ∙ waiting)

    waits_there : (i : ℕ) (v : List ℕ) → (lot_walk s rows₁ n₁ false).end ≡ unfinished out_of_rows i v → (c.feed.row ≡ i) × (c.feed.opened ≡ length v)
    waits_there = subst (λ (e : Bool). (i : ℕ) (v : List ℕ) → (lot_walk s rows₁ n₁ e).end ≡ unfinished out_of_rows i v → (c.feed.row ≡ i) × (c.feed.opened ≡ length v)) unended u.waits

    stopped-at : (c.feed.row ≡ waited.0) × (c.feed.opened ≡ length waited.1.0)
    stopped-at = waits_there waited.0 waited.1.0 waited.1.1

    matched : c.feed.matches ≡ length (lot_walk s rows₁ n₁ false).matches
    matched = sym (ap (λ (x : Result). x.matches) result_is) ∙ matches-are s u.begins rows₁ n₁ u.lot false

    places_same : (present_task s rows₁ n₁).places ≡ (present_task s rows n).places
    unfolding present_task task_of
    places_same = refl

    labelled : c.feed.labels ≡ length (labels_of (present_task s rows n).places (lot_walk s rows₁ n₁ false).matches)
    labelled =
        sym (ap (λ (x : Result). x.labels) result_is) ∙ labels-are s u.begins rows₁ n₁ u.lot false
        ∙ ap (λ (pl : List _). length (labels_of pl (lot_walk s rows₁ n₁ false).matches)) places_same

    stepped : c.feed.steps ≡ (lot_walk s rows₁ n₁ false).state.steps
    stepped = sym (ap (λ (x : Result). x.steps) result_is) ∙ steps_are s u.begins rows₁ n₁ u.lot false

    long_trail : length trail ≡ length s.lent.trail
    long_trail = trail_long s pr rows₁ c.feed b st

    beyond : drop t.pairs trail ≡ drop t.pairs s.lent.trail
    beyond = ap (λ (k : ℕ). drop k trail) pairs_are ∙ left.trail_beyond ∙ trail_beyond s u.begins rows₁ n₁ u.lot false ∙ ap (λ (k : ℕ). drop k s.lent.trail) (sym pairs_are)

    went_on : WentOn T present t notes trail numbers labels (kept_in c.feed) notes' trail' numbers' labels' sweep
    went_on = subst (λ (x : List ℤ). WentOn T x t notes trail numbers labels (kept_in c.feed) notes' trail' numbers' labels' sweep) part-is (w.advanced.later d)

    leaves_later : Leaves s want (memory o notes' trail' numbers' labels')
    leaves_later =
        later-leaves s begins a al T p ready rows₁ rows n₁ n u.lot lot later c.last waited.0 waited.1.0 waited.1.1 t task notes trail numbers labels
        (fed_in notes trail (notes_long s pr rows₁ c.feed b st) long_trail) (relabelled s (lot_memory s rows₁ n₁ false) pr.result b left) (numbers_long s pr rows₁ c.feed b st)
        (labels_long s pr rows₁ c.feed b st) long_trail beyond room c.feed stopped-at.0 matched labelled stepped stopped-at.1 notes' trail' numbers' labels' sweep went_on w.bytes u.bytes o refl

    waits-later : (i : ℕ) (v : List ℕ) → (lot_walk s rows n c.last).end ≡ unfinished out_of_rows i v → (sweep.row ≡ i) × (sweep.opened ≡ length v)
    waits-later =
        later-waits s begins a al T p ready rows₁ rows n₁ n u.lot lot later c.last waited.0 waited.1.0 waited.1.1 t task notes trail numbers labels
        (fed_in notes trail (notes_long s pr rows₁ c.feed b st) long_trail) (relabelled s (lot_memory s rows₁ n₁ false) pr.result b left) (numbers_long s pr rows₁ c.feed b st)
        (labels_long s pr rows₁ c.feed b st) long_trail beyond room c.feed stopped-at.0 matched labelled stepped stopped-at.1 notes' trail' numbers' labels' sweep went_on w.bytes u.bytes o refl

  -- ---- either

  abbrev next : Progress
  next = record { present = n; ended = c.last; result = want.result }

  call-is : call_of s pr (arrived rows n) c.last b ≡ record { progress = next; memory = want }
  unfolding call_of
  call-is = rw (waits-going s pr rows₁ c.feed b st waiting, waits-unended s pr rows₁ c.feed b st waiting, granted) refl

  is-taken : taken_up s pr rows n ≡ true
  unfolding taken_up
  is-taken = rw (waits-going s pr rows₁ c.feed b st waiting, waits-unended s pr rows₁ c.feed b st waiting, granted) refl

  made-when : Leaves s want (memory o notes' trail' numbers' labels') → ((i : ℕ) (v : List ℕ) → (lot_walk s rows n c.last).end ≡ unfinished out_of_rows i v → (sweep.row ≡ i) × (sweep.opened ≡ length v))
      → ((k : ℕ) → get_or s.lent.notes k 0 < 256) → Made s pr rows₁ (before c q rows notes trail numbers labels) (after (record { feed = kept_by c sweep; outcome = o }) notes' trail' numbers' labels')
  made-when l waits bytes =
      made_by s pr rows₁ (before c q rows notes trail numbers labels) (after (record { feed = kept_by c sweep; outcome = o }) notes' trail' numbers' labels')
      (record { progress = next; memory = want }) true call-is is-taken l
      (record {
        largest = st.largest;
        allowance = st.allowance;
        present = refl;
        result = sym l.result;
        new = λ z. absurd (omega arith);
        was_taken_up = λ _. record { begins = begins; lot = lot; left = relabelled s want (memory o notes' trail' numbers' labels').result b' l; waits = waits; bytes = bytes };
      }) (λ z. absurd (true≢false z))

  pub taken_made : Made s pr rows₁ (before c q rows notes trail numbers labels) (after r notes' trail' numbers' labels')
  taken_made =
      subst (λ (x : Fed). Made s pr rows₁ (before c q rows notes trail numbers labels) (after x notes' trail' numbers' labels')) (sym w.result) (elim (ℕ_discrete c.feed.begun 0) [
        | yes z ↦ made-when (leaves-first z) (waits-first z) (bytes-first z)
        | no d ↦ made-when (leaves_later d) (waits-later d) (u d).bytes
      ])

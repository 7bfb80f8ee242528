-- What R-11 demands (specs/LotDemands), for whatever is named first without a refusal (`lots`).
use mathlib.Core.Path.{◌≡◌, refl, ap, sym, ◌∙◌}
use mathlib.Core.Bool.{Bool, true, false, not, true≢false, false≢true}
use mathlib.Core.List.{List, [], ◌∷◌, ◌++◌, append_assoc}
use mathlib.Core.Logic.{inl}
use mathlib.Core.Option.{Option, none, some}
use Prim.Native.Nat.{ℕ, zero, suc, ◌+◌, ◌-◌, ◌*◌, ◌/◌, ◌≤◌, ◌<◌}
use native.Mathlib.Omega.{arith}
use lib.Dec.{eqb}
use lib.IntN.{ℤ}
use lib.ListN.{length, get_or, replicate}
use borrow.Author.Tests.{eqb-true}
use Rattle.rules.specs.Basics.{Begins, pick, wrote}
use Rattle.rules.specs.Rows.{Table}
use Rattle.rules.specs.Query.{text_of, parts, Measure}
use Rattle.rules.specs.Language.{Tree, pattern, Written}
use Rattle.rules.specs.Places.{Place, p_fork, unroll, places}
use Rattle.rules.specs.Walk.{out_of_steps, out_of_rows, pairs, first_at, pair_ways, Kept}
use Rattle.rules.specs.Search.{Match, End, done, full, stuck, unfinished, Finished, Skip, Swept, labels, Terms, within, halting_of, plan_of, walk_search, seek}
use Rattle.rules.specs.Report.{numbers_of, labels_of, match_numbers, lent_room, fits, bytes_for, bit_at, notes_of}
use Rattle.rules.specs.Answers.{tree_in, offset_at, Task, task_of, letter_holds, walked_on, Buffers, halt_answer, end_answer, Report, report_of, Result, Memory, refused, accepted, walk_within, report_within, search_within}
use Rattle.rules.specs.Working.{thinned}
use Rattle.rules.specs.Lots.{present_rows, Named, Progress, settles, begin_answer, call_refusal, present_task, lot_terms, lot_walk, lot_memory, stays, Called, Arrived, arrived, call_of, Leaves}
use Rattle.rules.specs.LotDemands.{Lot, Later, LotDemands, Adds, OneRun, start, Lead, Lots}
use Rattle.laws.proofs.Accepted.{Granted, places_are, answer_within_lem}
use Rattle.laws.proofs.Allowed.{search_goes, goes_begins, goes_keeps, EndWithin, end-within, search_within_lem}
use Rattle.laws.proofs.Bounds.{written-bounds}
use Rattle.laws.proofs.Demands.{second, third, search_accepted, places-all, flags_unused}
use Rattle.laws.proofs.Distinct.{walk-thin}
use Rattle.laws.proofs.GoesOn.{Keeps, Sooner, and_then}
use Rattle.laws.proofs.Grammar.{tree-exactly}
use Rattle.laws.proofs.Lists.{front_wrote}
use Rattle.laws.proofs.Lots.{Begins_well, begins-well, call-well, call-unrefused, now-unrefused, now-granted, task-n, places-sooner, task-extends, letters-agree, every_holds, dollar-free, fitting}
use Rattle.laws.proofs.Noted.{length-notes, noted}
use Rattle.laws.proofs.Padded.{padded, beyond, search_padded}
use Rattle.laws.proofs.PathRows.{Within, search_rows}
use Rattle.laws.proofs.PatternWalk.{walk-finished}
use Rattle.laws.proofs.PlaceLetters.{Passes, places-pass}
use Rattle.laws.proofs.Present.{Extends, RowsIn, numbers-same, measures_fit}
use Rattle.laws.proofs.Stays.{SettledEnd, search_stays}
use Rattle.laws.proofs.ThinGoes.{thin-goes}
use Rattle.laws.proofs.Waits.{no-rows_end, not-done_end, search_no_wait, search_not_done}

-- ---- lists

numbers-append : (t : Table) (ms : List Measure) (pl : List Place) (k : ℕ) (xs ys : List Match) → numbers_of t ms pl k (xs ++ ys) ≡ numbers_of t ms pl k xs ++ numbers_of t ms pl (k + length xs) ys
unfolding numbers_of
numbers-append t ms pl k [] ys = let e : k + 0 ≡ k = omega arith in rw e
numbers-append t ms pl k (x ∷ xs) ys =
    let e : k + suc (length xs) ≡ suc k + length xs = omega arith in
    rw (e, numbers-append t ms pl (suc k) xs ys) (sym (append_assoc (match_numbers t ms (suc k) x.start (labels pl x.path)) (numbers_of t ms pl (suc k) xs) (numbers_of t ms pl (suc k + length xs) ys)))

labels_append : (pl : List Place) (xs ys : List Match) → labels_of pl (xs ++ ys) ≡ labels_of pl xs ++ labels_of pl ys
unfolding labels_of
labels_append pl [] ys = refl
labels_append pl (x ∷ xs) ys = rw (labels_append pl xs ys) (sym (append_assoc (labels pl x.path) (labels_of pl xs) (labels_of pl ys)))

get_d_pad : (F : List Bool) (k x : ℕ) → get_or (F ++ replicate k false) x false ≡ get_or F x false
get_d_pad [] k x = go k x
  where
    go : (k x : ℕ) → get_or (replicate k false) x false ≡ false
    go zero x = refl
    go (suc k) zero = refl
    go (suc k) (suc x) = go k x
get_d_pad (a ∷ F) k zero = refl
get_d_pad (a ∷ F) k (suc x) = get_d_pad F k x

-- ---- the walk of a pattern on rows that come later

module _ (p : Tree pattern) (pl : List Place) (e : pl ≡ places (unroll p)) (skip : Skip) (fit : ℕ → ℕ → List ℕ → Bool) (holds₁ holds₂ : ℕ → ℕ → Bool) (n₁ n₂ largest : ℕ)
    (allowance : Option ℕ) (more₂ : Bool) (le : n₁ ≤ n₂) (few : n₂ ≤ largest) where
  abbrev terms₁ : Terms
  terms₁ = record { largest = largest; more = true; allowance = allowance }

  abbrev terms₂ : Terms
  terms₂ = record { largest = largest; more = more₂; allowance = allowance }

  later-adds : Sooner (halting_of terms₁ pl n₁) (halting_of terms₂ pl n₂) (pair_ways holds₁ n₁ pl) (pair_ways holds₂ n₂ pl)
      → Begins (walk_search terms₁ (seek holds₁ n₁ pl skip fit)).matches (walk_search terms₂ (seek holds₂ n₂ pl skip fit)).matches × Keeps (walk_search terms₁ (seek holds₁ n₁ pl skip fit)).state (walk_search terms₂ (seek holds₂ n₂ pl skip fit)).state
  later-adds =
      rw e
      (λ sooner. (
        goes_begins (unroll p) skip fit holds₁ holds₂ n₁ n₂ terms₁ terms₂ refl le few sooner (inl refl),
        goes_keeps (unroll p) skip fit holds₁ holds₂ n₁ n₂ terms₁ terms₂ refl le few sooner (inl refl),
      ))

  later-goes : Sooner (halting_of terms₁ pl n₁) (halting_of terms₂ pl n₂) (pair_ways holds₁ n₁ pl) (pair_ways holds₂ n₂ pl)
      → walk_search terms₂ (seek holds₂ n₂ pl skip fit)
      ≡ and_then (halting_of terms₂ pl n₂) (pair_ways holds₂ n₂ pl) (pairs (length pl) largest) (first_at (length pl)) (plan_of pl n₂ more₂ skip fit) 0 0 (walk_search terms₁ (seek holds₁ n₁ pl skip fit))
  later-goes = rw e (λ sooner. search_goes (unroll p) skip fit holds₁ holds₂ n₁ n₂ terms₁ terms₂ refl le few sooner (inl refl))

  later-thin_goes : Sooner (halting_of terms₁ pl n₁) (halting_of terms₂ pl n₂) (pair_ways holds₁ n₁ pl) (pair_ways holds₂ n₂ pl)
      → walk_search terms₂ (seek holds₂ n₂ (thinned pl) skip fit)
      ≡ and_then (halting_of terms₂ (thinned pl) n₂) (pair_ways holds₂ n₂ (thinned pl)) (pairs (length (thinned pl)) largest) (first_at (length (thinned pl))) (plan_of (thinned pl) n₂ more₂ skip fit) 0 0
      (walk_search terms₁ (seek holds₁ n₁ (thinned pl) skip fit))
  later-thin_goes = rw e (λ sooner. thin-goes (unroll p) skip fit holds₁ holds₂ n₁ n₂ terms₁ terms₂ refl le few sooner (inl refl))

  later-stays : Sooner (halting_of terms₁ pl n₁) (halting_of terms₂ pl n₂) (pair_ways holds₁ n₁ pl) (pair_ways holds₂ n₂ pl)
      → SettledEnd (walk_search terms₁ (seek holds₁ n₁ pl skip fit)).end → walk_search terms₂ (seek holds₂ n₂ pl skip fit) ≡ walk_search terms₁ (seek holds₁ n₁ pl skip fit)
  later-stays = rw e (search_stays (unroll p) skip fit holds₁ holds₂ n₁ n₂ largest allowance more₂ le)

-- the rows of each match are there
module _ (p : Tree pattern) (t₁ t₂ : Table) (ext : Extends t₁ t₂) (holds : ℕ → ℕ → Bool) where
  rows_in : (xs : List Match) → Within (unroll p) holds t₁.n xs → RowsIn t₁ t₂ ext (places (unroll p)) xs
  rows_in [] a = tt
  rows_in (x ∷ xs) a = (a.0, rows_in xs a.1)

  matches-in : (pl : List Place) → pl ≡ places (unroll p) → (terms : Terms) → t₁.n ≤ terms.largest → (skip : Skip) (fit : ℕ → ℕ → List ℕ → Bool)
      → RowsIn t₁ t₂ ext pl (walk_search terms (seek holds t₁.n pl skip fit)).matches
  matches-in pl e terms le skip fit = rw e (rows_in (walk_search terms (seek holds t₁.n (places (unroll p)) skip fit)).matches (search_rows (unroll p) holds t₁.n skip fit terms le))

-- ---- what was named

settled-end : (e : End Match) → stays (end_answer e) ≡ true → SettledEnd e
unfolding stays end_answer halt_answer
settled-end done h = absurd (false≢true h)
settled-end (full m) h = tt
settled-end stuck h = tt
settled-end (unfinished out_of_steps i p) h = tt
settled-end (unfinished out_of_rows i p) h = absurd (false≢true h)

not-waiting : (e : End Match) → ((i : ℕ) (p : List ℕ) → e ≡ unfinished out_of_rows i p → ⊥) → end_answer e ≡ 23 → ⊥
unfolding end_answer halt_answer
not-waiting done f h = let z : ◌≡◌ {A = ℕ} 0 23 = h in absurd (omega arith)
not-waiting (full m) f h = let z : ◌≡◌ {A = ℕ} 13 23 = h in absurd (omega arith)
not-waiting stuck f h = let z : ◌≡◌ {A = ℕ} 15 23 = h in absurd (omega arith)
not-waiting (unfinished out_of_steps i p) f h = let z : ◌≡◌ {A = ℕ} 16 23 = h in absurd (omega arith)
not-waiting (unfinished out_of_rows i p) f h = f i p refl

-- an answer that stays is not 23
stays-answer : (a : ℕ) → stays a ≡ true → a ≡ 23 → ⊥
unfolding stays
stays-answer a h e = false≢true (rw e at h)

same_memory : (r₁ r₂ : Result) (n₁ n₂ t₁ t₂ : List ℕ) (z₁ z₂ : List ℤ) (l₁ l₂ : List ℕ) → r₁ ≡ r₂ → n₁ ≡ n₂ → t₁ ≡ t₂ → z₁ ≡ z₂ → l₁ ≡ l₂
    → ◌≡◌ {A = Memory} (record { result = r₁; buffers = record { notes = n₁; trail = t₁; numbers = z₁; labels = l₁ } })
    (record { result = r₂; buffers = record { notes = n₂; trail = t₂; numbers = z₂; labels = l₂ } })
same_memory r₁ r₂ n₁ n₂ t₁ t₂ z₁ z₂ l₁ l₂ a b c d e = rw (a, b, c, d, e) refl

-- where the answer is not 23 nothing is left free
pub leaves-same : (s : Named) (want got : Memory) → (want.result.answer ≡ 23 → ⊥) → Leaves s want got → got ≡ want
leaves-same s want got d l =
    same_memory got.result want.result got.buffers.notes want.buffers.notes got.buffers.trail want.buffers.trail got.buffers.numbers want.buffers.numbers
    got.buffers.labels want.buffers.labels l.result l.notes (l.trail d) l.numbers l.labels

module _ (s : Named) (ok : Begins_well s) where
  abbrev q : List ℕ
  q = s.query

  abbrev nums : ℕ
  nums = length s.lent.numbers

  abbrev labs : ℕ
  labs = length s.lent.labels

  -- ---- demands

  module _ (rows : List ℤ) (present : ℕ) (lot : Lot s rows present) where
    abbrev given : Granted q (present_rows q rows present) s.lent
    given = now-granted s ok rows present lot

    abbrev t : Task
    t = present_task s rows present

    few_rows : t.table.n ≤ s.largest
    few_rows = rw (task-n s ok rows present lot) lot.few

    places-in : t.places ≡ places (unroll given.tree)
    unfolding present_task
    places-in = places_are q (present_rows q rows present) given.tree given.has_tree

    notes_in : (last : Bool) (x : ℕ) → x < 8 * bytes_for (length (lot_walk s rows present last).state.failed)
        → bit_at (lot_memory s rows present last).buffers.notes x ≡ get_or (lot_walk s rows present last).state.failed x false
    unfolding lot_memory accepted bit_at
    notes_in last x h =
        let F : List Bool = (lot_walk s rows present last).state.failed in
        let l : x / 8 < length (notes_of F) = rw (length-notes F) (omega arith) in
        rw (front_wrote s.lent.notes (notes_of F) (x / 8) 0 l) (noted F x h)

    finished-in : (last : Bool) → last ≡ true → s.allowance ≡ none → Finished (lot_walk s rows present last).end
    unfolding lot_walk walked_on
    finished-in last a b =
        let d = search_padded (unroll given.tree) (letter_holds t) t.table.n (record { largest = s.largest; more = false; allowance = none }) few_rows t.skip
        (fits (lent_room nums labs t.measures)) in
        rw (a, b, places-in, d) (walk-finished (unroll given.tree) (letter_holds t) t.table.n t.skip (fits (lent_room nums labs t.measures)))

    not-done_in : (last : Bool) → last ≡ false → (lot_walk s rows present last).end ≡ done → ⊥
    unfolding lot_walk walked_on
    not-done_in last a =
        rw a (not-done_end (lot_walk s rows present false).end (search_not_done s.largest s.allowance (letter_holds t) t.table.n t.places t.skip (fits (lent_room nums labs t.measures))))

    pub no-wait_in : (last : Bool) → last ≡ true → (i : ℕ) (p : List ℕ) → (lot_walk s rows present last).end ≡ unfinished out_of_rows i p → ⊥
    unfolding lot_walk walked_on
    no-wait_in last a =
        rw a (no-rows_end (lot_walk s rows present true).end (search_no_wait s.largest s.allowance (letter_holds t) t.table.n t.places t.skip (fits (lent_room nums labs t.measures))))

    within_in : (last : Bool) (a : ℕ) → s.allowance ≡ some a → EndWithin a (lot_walk s rows present last).end (lot_walk s rows present last).state.steps
    unfolding lot_walk walked_on
    within_in last a e = rw e (search_within_lem a s.largest (not last) (letter_holds t) t.table.n t.places t.skip (fits (lent_room nums labs t.measures)))

    -- the search over the same places with each way of a fork once
    abbrev pub thin_walk : Bool → Swept Kept
    thin_walk last = walk_search (lot_terms s last) (seek (letter_holds t) t.table.n (thinned t.places) t.skip (fits (lent_room nums labs t.measures)))

    pub lot_thin : (last : Bool) → lot_walk s rows present last ≡ thin_walk last
    unfolding lot_walk walked_on
    lot_thin last =
        rw places-in
        (sym (walk-thin (unroll given.tree) (letter_holds t) t.table.n (lot_terms s last) few_rows t.skip (fits (lent_room nums labs t.measures))))

    lot_demands : (last : Bool) → LotDemands s rows present last
    unfolding lot_walk present_task tree_in
    lot_demands last =
        let w : Written given.tree (text_of q) = (tree-exactly (text_of q) given.tree).0 given.has_tree in
        record {
          tree = given.tree;
          written = w;
          counted = places-all q (present_rows q rows present) given.tree (written-bounds w) given.has_tree;
          rows_present = task-n s ok rows present lot;
          demand2 = second given.tree t places-in nums labs (lot_terms s last) few_rows (written-bounds w);
          demand3 = third given.tree t places-in nums labs (lot_terms s last) few_rows;
          noted = notes_in last;
          unused = flags_unused given.tree (written-bounds w) t places-in nums labs (lot_terms s last);
          not_done = not-done_in last;
          no_wait = no-wait_in last;
          finished = finished-in last;
          kept_to = λ a e. end-within a (lot_walk s rows present last).end (lot_walk s rows present last).state.steps (within_in last a e);
          used_up = λ a i p e d. rw d at (within_in last a e);
        }

  -- ---- later calls

  module _ (rows₁ rows₂ : List ℤ) (n₁ n₂ : ℕ) (lot₁ : Lot s rows₁ n₁) (lot₂ : Lot s rows₂ n₂) (later : Later s rows₁ rows₂ n₁ n₂) where
    abbrev t₁ : Task
    t₁ = present_task s rows₁ n₁

    abbrev t₂ : Task
    t₂ = present_task s rows₂ n₂

    abbrev given₁ : Granted q (present_rows q rows₁ n₁) s.lent
    given₁ = now-granted s ok rows₁ n₁ lot₁

    abbrev tree : Tree pattern
    tree = given₁.tree

    e₁ : t₁.places ≡ places (unroll tree)
    e₁ = places-in rows₁ n₁ lot₁

    -- both tasks have the same places, measures and skip mode
    pub same-places : t₂.places ≡ t₁.places
    unfolding present_task task_of
    same-places = refl

    more_rows : t₁.table.n ≤ t₂.table.n
    more_rows = rw (task-n s ok rows₁ n₁ lot₁, task-n s ok rows₂ n₂ lot₂) later.more

    abbrev few₂ : t₂.table.n ≤ s.largest
    few₂ = few_rows rows₂ n₂ lot₂

    passes : (x : ℕ) → Passes (settles q) (get_or t₁.places x (p_fork []))
    passes = rw e₁ (places-pass (settles q) tree (every_holds (settles q) (tree_in q) tree given₁.has_tree ok.settled) (dollar-free (tree_in q) tree given₁.has_tree ok.no_dollar))

    sooner : (last : Bool)
        → Sooner (halting_of (lot_terms s false) t₁.places t₁.table.n) (halting_of (lot_terms s last) t₁.places t₂.table.n)
        (pair_ways (letter_holds t₁) t₁.table.n t₁.places) (pair_ways (letter_holds t₂) t₂.table.n t₁.places)
    sooner last =
        places-sooner (settles q) (letter_holds t₁) (letter_holds t₂) t₁.table.n t₂.table.n more_rows
        (λ c i a h. letters-agree s ok rows₁ rows₂ n₁ n₂ lot₁ lot₂ later c i a (rw (task-n s ok rows₁ n₁ lot₁) at h)) (not last) t₁.places passes s.largest s.allowance

    walks : (last : Bool)
        → Begins (lot_walk s rows₁ n₁ false).matches (lot_walk s rows₂ n₂ last).matches × Keeps (lot_walk s rows₁ n₁ false).state (lot_walk s rows₂ n₂ last).state
    unfolding lot_walk walked_on present_task task_of
    walks last =
        later-adds tree t₁.places e₁ t₁.skip (fits (lent_room nums labs t₁.measures)) (letter_holds t₁) (letter_holds t₂) t₁.table.n t₂.table.n s.largest s.allowance (not last) more_rows few₂
        (sooner last)

    -- a later call's search goes on from where the earlier one waits, with its start, open pairs,
    -- failed pairs and steps
    pub lot_goes : (last : Bool) → lot_walk s rows₂ n₂ last
        ≡ and_then (halting_of (lot_terms s last) t₂.places t₂.table.n) (pair_ways (letter_holds t₂) t₂.table.n t₂.places) (pairs (length t₂.places) s.largest) (first_at (length t₂.places))
        (plan_of t₂.places t₂.table.n (not last) t₂.skip (fits (lent_room nums labs t₂.measures))) 0 0 (lot_walk s rows₁ n₁ false)
    unfolding lot_walk walked_on present_task task_of
    lot_goes last =
        later-goes tree t₁.places e₁ t₁.skip (fits (lent_room nums labs t₁.measures)) (letter_holds t₁) (letter_holds t₂) t₁.table.n t₂.table.n s.largest s.allowance (not last) more_rows few₂
        (sooner last)

    -- the same over places with each way of a fork once
    pub lot_thin_goes : (last : Bool) → thin_walk rows₂ n₂ lot₂ last
        ≡ and_then (halting_of (lot_terms s last) (thinned t₂.places) t₂.table.n) (pair_ways (letter_holds t₂) t₂.table.n (thinned t₂.places))
        (pairs (length (thinned t₂.places)) s.largest) (first_at (length (thinned t₂.places)))
        (plan_of (thinned t₂.places) t₂.table.n (not last) t₂.skip (fits (lent_room nums labs t₂.measures))) 0 0 (thin_walk rows₁ n₁ lot₁ false)
    unfolding present_task task_of
    lot_thin_goes last =
        later-thin_goes tree t₁.places e₁ t₁.skip (fits (lent_room nums labs t₁.measures)) (letter_holds t₁) (letter_holds t₂) t₁.table.n t₂.table.n s.largest s.allowance (not last) more_rows few₂
        (sooner last)

    -- the numbers of the matches so far are the same on the rows that are present later
    numbers-kept : numbers_of t₁.table t₁.measures t₁.places 0 (lot_walk s rows₁ n₁ false).matches ≡ numbers_of t₂.table t₁.measures t₁.places 0 (lot_walk s rows₁ n₁ false).matches
    unfolding lot_walk walked_on present_task task_of parts
    numbers-kept =
        let ext = task-extends s ok rows₁ rows₂ n₁ n₂ lot₁ lot₂ later in
        numbers-same t₁.table t₂.table ext t₁.measures t₁.places 0 (lot_walk s rows₁ n₁ false).matches (measures_fit q (fitting s ok))
        (matches-in tree t₁.table t₂.table ext (letter_holds t₁) t₁.places e₁ (lot_terms s false) (few_rows rows₁ n₁ lot₁) t₁.skip (fits (lent_room nums labs t₁.measures)))

    numbers-begin : (xs ys : List Match) → Begins xs ys → numbers_of t₁.table t₁.measures t₁.places 0 xs ≡ numbers_of t₂.table t₁.measures t₁.places 0 xs
        → Begins (numbers_of t₁.table t₁.measures t₁.places 0 xs) (numbers_of t₂.table t₁.measures t₁.places 0 ys)
    numbers-begin xs ys b e = (
      numbers_of t₂.table t₁.measures t₁.places (0 + length xs) b.0,
      ap (numbers_of t₂.table t₁.measures t₁.places 0) b.1 ∙ numbers-append t₂.table t₁.measures t₁.places 0 xs b.0
          ∙ ap (λ (v : List ℤ). v ++ numbers_of t₂.table t₁.measures t₁.places (0 + length xs) b.0) (sym e),
    )

    labels-begin : (xs ys : List Match) → Begins xs ys → Begins (labels_of t₁.places xs) (labels_of t₁.places ys)
    labels-begin xs ys b = (labels_of t₁.places b.0, ap (labels_of t₁.places) b.1 ∙ labels_append t₁.places xs b.0)

    pub lot_adds : (last : Bool) → Adds s rows₁ rows₂ n₁ n₂ last
    unfolding present_task task_of
    lot_adds last =
        let w = walks last in
        record {
          matches = w.0;
          numbers = numbers-begin (lot_walk s rows₁ n₁ false).matches (lot_walk s rows₂ n₂ last).matches w.0 numbers-kept;
          labels = labels-begin (lot_walk s rows₁ n₁ false).matches (lot_walk s rows₂ n₂ last).matches w.0;
          failed = w.1.failed;
          steps = w.1.steps;
        }

    -- 13, 15 and 16 stay
    walk-stays : (last : Bool) → stays (end_answer (lot_walk s rows₁ n₁ false).end) ≡ true → lot_walk s rows₂ n₂ last ≡ lot_walk s rows₁ n₁ false
    unfolding lot_walk walked_on present_task task_of
    walk-stays last h =
        later-stays tree t₁.places e₁ t₁.skip (fits (lent_room nums labs t₁.measures)) (letter_holds t₁) (letter_holds t₂) t₁.table.n t₂.table.n s.largest s.allowance (not last) more_rows few₂
        (sooner last) (settled-end (lot_walk s rows₁ n₁ false).end h)

    report-kept : (a : ℕ) → report_of a t₂ s.lent (lot_walk s rows₁ n₁ false) ≡ report_of a t₁ s.lent (lot_walk s rows₁ n₁ false)
    unfolding report_of present_task task_of
    report-kept a =
        ap (λ (v : List ℤ). record {
          answer = a;
          matches = length (lot_walk s rows₁ n₁ false).matches;
          labels = length (labels_of t₁.places (lot_walk s rows₁ n₁ false).matches);
          numbers = wrote s.lent.numbers 0 v;
          label_bytes = wrote s.lent.labels 0 (labels_of t₁.places (lot_walk s rows₁ n₁ false).matches);
        }) (sym numbers-kept)

    pub lot_stays : (last : Bool) → stays (end_answer (lot_walk s rows₁ n₁ false).end) ≡ true → lot_memory s rows₂ n₂ last ≡ lot_memory s rows₁ n₁ false
    unfolding lot_memory
    lot_stays last h =
        ap (λ (r : Swept Kept). accepted (report_of (end_answer r.end) t₂ s.lent r) r.state s.lent) (walk-stays last h)
        ∙ ap (λ (v : Report). accepted v (lot_walk s rows₁ n₁ false).state s.lent) (report-kept (end_answer (lot_walk s rows₁ n₁ false).end))

  -- ---- one run

  module _ (rows : List ℤ) (present : ℕ) (lot : Lot s rows present) where
    abbrev task : Task
    task = present_task s rows present

    abbrev once : Swept Kept
    once = walk_within s.allowance q (present_rows q rows present) s.lent

    abbrev gap : List Bool
    gap = beyond (unroll (given rows present lot).tree) (letter_holds task) task.table.n s.largest

    -- the last call's search is the one run, with an account for the pairs of rows that did not
    -- come
    padded-pattern : (pl : List Place) → pl ≡ places (unroll (given rows present lot).tree) → (skip : Skip) (fit : ℕ → ℕ → List ℕ → Bool)
        → walk_search (lot_terms s true) (seek (letter_holds task) task.table.n pl skip fit) ≡ padded gap (walk_search (within s.allowance task.table.n) (seek (letter_holds task) task.table.n pl skip fit))
    padded-pattern pl e skip fit =
        rw e (search_padded (unroll (given rows present lot).tree) (letter_holds task) task.table.n (lot_terms s true) (few_rows rows present lot) skip fit)

    padded-run : lot_walk s rows present true ≡ padded gap once
    unfolding lot_walk walk_within walked_on present_task
    padded-run = padded-pattern task.places (places-in rows present lot) task.skip (fits (lent_room nums labs task.measures))

    -- what is returned and reported depends on the matches, the end and the steps alone
    run-memory : (lot_memory s rows present true).result ≡ (search_within s.allowance q (present_rows q rows present) s.lent).result
    unfolding lot_memory report_within report_of accepted present_task
    run-memory =
        let u = now-unrefused s ok rows present lot in
        rw (search_accepted s.allowance q (present_rows q rows present) s.lent u, answer_within_lem q (present_rows q rows present) s.lent s.allowance u, padded-run) refl

    run-numbers : (lot_memory s rows present true).buffers.numbers ≡ (search_within s.allowance q (present_rows q rows present) s.lent).buffers.numbers
    unfolding lot_memory report_within report_of accepted present_task
    run-numbers = rw (search_accepted s.allowance q (present_rows q rows present) s.lent (now-unrefused s ok rows present lot), padded-run) refl

    run-labels : (lot_memory s rows present true).buffers.labels ≡ (search_within s.allowance q (present_rows q rows present) s.lent).buffers.labels
    unfolding lot_memory report_within report_of accepted present_task
    run-labels = rw (search_accepted s.allowance q (present_rows q rows present) s.lent (now-unrefused s ok rows present lot), padded-run) refl

    abbrev missing : ℕ
    missing = pairs (length (places (unroll (given rows present lot).tree))) s.largest - pairs (length (places (unroll (given rows present lot).tree))) task.table.n

    pub lot_run : OneRun s rows present
    lot_run =
        record {
          matches = ap (λ (r : Swept Kept). r.matches) padded-run;
          end = ap (λ (r : Swept Kept). r.end) padded-run;
          steps = ap (λ (r : Swept Kept). r.state.steps) padded-run;
          failed = λ x. ap (λ (r : Swept Kept). get_or r.state.failed x false) padded-run ∙ get_d_pad once.state.failed missing x;
          result = run-memory;
          numbers = run-numbers;
          label_bytes = run-labels;
        }

  -- ---- calls, one behind the other

  memory-answer : (rows : List ℤ) (present : ℕ) (last : Bool) → (lot_memory s rows present last).result.answer ≡ end_answer (lot_walk s rows present last).end
  unfolding lot_memory accepted report_of
  memory-answer rows present last = refl

  -- the answer of a last call is not 23
  last-answer : (rows : List ℤ) (present : ℕ) → Lot s rows present → (lot_memory s rows present true).result.answer ≡ 23 → ⊥
  last-answer rows present lot h = not-waiting (lot_walk s rows present true).end (no-wait_in rows present lot true refl) (sym (memory-answer rows present true) ∙ h)

  -- With the last call's rows in view: the end is not declared, no more rows were present than it
  -- has, and a search that has stopped has left what it would.
  record Kept_to (rows : List ℤ) (present : ℕ) (k : Called) : Type 0 where
    going : k.progress.ended ≡ false
    few : k.progress.present ≤ present
    stopped : stays k.progress.result.answer ≡ true → ◌≡◌ {A = Memory} (record { result = k.progress.result; buffers = k.memory.buffers }) (lot_memory s rows present true)

  kept_on : (rows : List ℤ) (present : ℕ) → Lot s rows present → (k : Called) → Kept_to rows present k → (c : Arrived)
      → (call_refusal s k.progress c.rows c.present ≡ 0 → Later s c.rows rows c.present present)
      → (got : Memory) → Leaves s (call_of s k.progress c false k.memory.buffers).memory got
      → Kept_to rows present (record { progress = (call_of s k.progress c false k.memory.buffers).progress; memory = got })
  unfolding call_of refused
  kept_on rows present lot k h c later got = go (stays p.result.answer) refl p.ended h.going (eqb (call_refusal s p c.rows c.present) 0) refl
    where
      p : Progress
      p = k.progress

      now : Buffers
      now = k.memory.buffers

      same : (r : Result) → stays p.result.answer ≡ false → Kept_to rows present (record { progress = p; memory = got })
      same r e = record { going = h.going; few = h.few; stopped = λ z. absurd (true≢false (sym z ∙ e)) }

      next : Called
      next = record {
        progress = record { present = c.present; ended = false; result = (lot_memory s c.rows c.present false).result };
        memory = lot_memory s c.rows c.present false;
      }

      no : Called
      no = record { progress = p; memory = refused (call_refusal s p c.rows c.present) (offset_at (text_of q) (call_refusal s p c.rows c.present)) now }

      go : (a : Bool) → stays p.result.answer ≡ a → (b : Bool) → b ≡ false → (d : Bool) → eqb (call_refusal s p c.rows c.present) 0 ≡ d
          → Leaves s (pick a (record { progress = p; memory = record { result = p.result; buffers = now } }) (pick b (record { progress = p; memory = refused 21 0 now }) (pick d next no))).memory got
          → Kept_to rows present (record { progress = (pick a (record { progress = p; memory = record { result = p.result; buffers = now } }) (pick b (record { progress = p; memory = refused 21 0 now }) (pick d next no))).progress; memory = got })
      go true e b _ d _ l =
          let w : ◌≡◌ {A = Memory} got (record { result = p.result; buffers = now }) = leaves-same s (record { result = p.result; buffers = now }) got (stays-answer p.result.answer e) l in
          record { going = h.going; few = h.few; stopped = λ z. rw w (h.stopped e) }
      go false e true z d _ l = absurd (true≢false z)
      go false e false z false _ l = same p.result e
      go false e false z true r l =
          let u : call_refusal s p c.rows c.present ≡ 0 = eqb-true (call_refusal s p c.rows c.present) 0 r in
          let v = later u in
          record {
            going = refl;
            few = v.more;
            stopped = λ y.
                let w : got ≡ lot_memory s c.rows c.present false = leaves-same s (lot_memory s c.rows c.present false) got (stays-answer (lot_memory s c.rows c.present false).result.answer y) l in
                rw w (sym (lot_stays c.rows rows c.present present (call-well s p c.rows c.present u).1 lot v true (rw (memory-answer c.rows c.present false) at y)));
          }

  call-last : (rows : List ℤ) (present : ℕ) → Lot s rows present → (k : Called) → Kept_to rows present k
      → (call_of s k.progress (arrived rows present) true k.memory.buffers).memory ≡ lot_memory s rows present true
  unfolding call_of
  call-last rows present lot k h =
      go (stays p.result.answer) refl p.ended h.going (eqb (call_refusal s p rows present) 0) (rw (call-unrefused s ok p rows present lot h.few) refl)
    where
      p : Progress
      p = k.progress

      now : Buffers
      now = k.memory.buffers

      next : Called
      next = record {
        progress = record { present = present; ended = true; result = (lot_memory s rows present true).result };
        memory = lot_memory s rows present true;
      }

      no : Called
      no = record { progress = p; memory = refused (call_refusal s p rows present) (offset_at (text_of q) (call_refusal s p rows present)) now }

      go : (a : Bool) → stays p.result.answer ≡ a → (b : Bool) → b ≡ false → (d : Bool) → d ≡ true
          → (pick {A = Called} a (record { progress = p; memory = record { result = p.result; buffers = now } }) (pick b (record { progress = p; memory = refused 21 0 now }) (pick d next no))).memory
          ≡ lot_memory s rows present true
      go true z b x d y = h.stopped z
      go false z true x d y = absurd (true≢false x)
      go false z false x false y = absurd (false≢true y)
      go false z false x true y = refl

  led : (rows : List ℤ) (present : ℕ) → Lot s rows present → (cs : List Arrived) (k k' : Called) → Kept_to rows present k → Lead s (arrived rows present) k cs k' → Kept_to rows present k'
  unfolding Lead
  led rows present lot [] k k' h e = rw (← e) h
  led rows present lot (c ∷ cs) k k' h e =
      led rows present lot cs (record { progress = (call_of s k.progress c false k.memory.buffers).progress; memory = e.1.0 }) k'
      (kept_on rows present lot k h c e.0 e.1.0 e.1.1.0) e.1.1.1

  start-kept : (rows : List ℤ) (present : ℕ) → Kept_to rows present (start s)
  unfolding stays
  start-kept rows present = record { going = refl; few = omega arith; stopped = λ h. absurd (false≢true h) }

  pub lot_cutting : (cs : List Arrived) (rows : List ℤ) (present : ℕ) (k : Called) (got : Memory) → Lot s rows present → Lead s (arrived rows present) (start s) cs k
      → Leaves s (call_of s k.progress (arrived rows present) true k.memory.buffers).memory got → got ≡ lot_memory s rows present true
  lot_cutting cs rows present k got lot lead l =
      let e = call-last rows present lot k (led rows present lot cs (start s) k (start-kept rows present) lead) in
      leaves-same s (lot_memory s rows present true) got (last-answer rows present lot) (rw e at l)

-- whatever is named first without a refusal
pub lots : (s : Named) → begin_answer s ≡ 0 → Lots s
lots s e =
    let ok = begins-well s e in
    record {
      demands = λ rows present last lot. lot_demands s ok rows present lot last;
      adds = λ rows₁ rows₂ n₁ n₂ last lot₁ lot₂ later. lot_adds s ok rows₁ rows₂ n₁ n₂ lot₁ lot₂ later last;
      stays = λ rows₁ rows₂ n₁ n₂ last lot₁ lot₂ later h. lot_stays s ok rows₁ rows₂ n₁ n₂ lot₁ lot₂ later last h;
      one_run = λ rows present lot. lot_run s ok rows present lot;
      cutting = lot_cutting s ok;
    }

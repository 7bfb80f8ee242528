-- What a search that waited is taken up with: the matches, the failed pairs and the steps that the
-- earlier call left, and the start at which it waited, stand so far for the later call's search
-- (`stands`).
use mathlib.Core.Path.{◌≡◌, refl, ap, ap₂, subst, sym, ◌∙◌}
use mathlib.Core.List.{List, [], ◌∷◌, ◌++◌}
use mathlib.Core.Bool.{Bool, true, false, not, ◌&&◌}
use mathlib.Core.Option.{Option, none, some}
use Prim.Native.Nat.{ℕ, zero, suc, ◌+◌, ◌-◌, ◌*◌, ◌/◌, ◌%◌, ◌≤◌, ◌<◌}
use native.Mathlib.Decide.{dec_lt}
use native.Mathlib.Numerals.{add-one}
use native.Mathlib.Nat.{mul-le-mul}
use native.Mathlib.Omega.{arith}
use lib.Dec.{ltb, eqb}
use lib.IntN.{ℤ}
use lib.ListN.{length, get_or, drop, replicate, length-append, length-replicate, get_or-eq_default}
use lib.Seq.{ext_get_or}
use Rattle.rules.specs.Basics.{wrote}
use Rattle.rules.specs.Rows.{Table, Condition, table_of, holds}
use Rattle.rules.specs.Query.{text_of, parts}
use Rattle.rules.specs.Places.{Place, p_letter, p_caret, p_dollar, p_fork, p_end, Unrolled, unroll, places}
use Rattle.rules.specs.Search.{Match, End, unfinished, open_of, Skip, Swept, Terms, halting_of, plan_of, walk_search, walk_at, sweep, seek, stand_at}
use Rattle.rules.specs.Walk.{out_of_rows, pairs, first_at, pass_if, pair_at, position_of, place_of, ways_at, pair_ways, Kept, as_kept}
use Rattle.rules.specs.Report.{lent_room, fits, bit_of, bit_at, bytes_for, notes_of, labels_of, numbers_of}
use Rattle.rules.specs.Answers.{tree_in, letter_holds, skip_of, Task, task_of, walked_on, report_of, accepted}
use Rattle.rules.specs.Working.{bits_of, thinned}
use Rattle.rules.specs.Lots.{Named, present_rows, present_task, named_pairs, settles, begin_answer, lot_terms, lot_walk, lot_memory}
use Rattle.rules.specs.LotDemands.{Lot, Later, LotDemands, Lots}
use Rattle.laws.proofs.Accepted.{places_are}
use Rattle.laws.proofs.Appended.{length-wrote_at}
use Rattle.laws.proofs.Bounds.{Lettered, written-letters}
use Rattle.laws.proofs.Distinct.{walk-thin, thinned-length}
use Rattle.laws.proofs.GoesOn.{Sooner}
use Rattle.laws.proofs.Grammar.{tree-exactly}
use Rattle.laws.proofs.Limits.{numbers_long}
use Rattle.laws.proofs.Lists.{beyond-wrote}
use Rattle.laws.proofs.Noted.{length-notes}
use Rattle.laws.proofs.NotesWritten.{notes_written}
use Rattle.laws.proofs.LotLaws.{lots}
use Rattle.laws.proofs.Lots.{Begins_well, begins-well, task-n, places-sooner, task-extends, letters-agree, every_holds, dollar-free, fitting}
use Rattle.laws.proofs.Notes.{bits_of-at, bits_from-length}
use Rattle.laws.proofs.Padded.{padded, beyond, search_padded}
use Rattle.laws.proofs.PathRows.{Within, search_rows}
use Rattle.laws.proofs.PlaceLetters.{Passes, places-pass}
use Rattle.laws.proofs.Present.{Extends, RowsIn, numbers-same, measures_fit}
use Rattle.laws.proofs.ThinPlaces.{Spelt, thinned-spelt}
use Rattle.table.specs.Table.{places_in}
use Rattle.table.specs.Tests.{holds_in, condition_in, test_at}
use Rattle.table.specs.Measures.{measures_in}
use Rattle.table_room.specs.Words.{measures_at, tests_at}
use Rattle.skips.specs.Skips.{skip_in}
use Rattle.matches.specs.declared.Task as C
use Rattle.matches.specs.declared.Sweep.{Sweep}
use Rattle.matches.specs.Asked as S
use Rattle.matches.specs.Asked.{Asked, asked_of, search_of}
use Rattle.starting.specs.Starts.{TaskFor, Fed}
use Rattle.prepared.specs.Ready.{Ready}
use Rattle.prepared.specs.declared.Prepared.{Prepared}
use Rattle.pairs.specs.Layout.{halts_in}
use Rattle.pairs.proofs.Ways.{in_length}
use Rattle.sweep.specs.Searched.{pre, swp, SoFar, gapped}
use Rattle.starting.proofs.Starting.{numbered, labelled}
use Rattle.lots.proofs.Pairs.{named-pairs}
use Rattle.lots.proofs.Again.{earlier, gap_at, long₂, again}

-- letters that agree lead the same ways
agreeing : (holds₁ holds₂ : ℕ → ℕ → Bool) → ((c : ℕ) → 65 ≤ c → c ≤ 90 → (i : ℕ) → holds₁ c i ≡ holds₂ c i) → (n : ℕ) (pl : List Place) → ((q : ℕ) → Spelt (get_or pl q (p_fork []))) → pair_ways holds₁ n pl ≡ pair_ways holds₂ n pl
unfolding pair_ways ways_at
agreeing holds₁ holds₂ agree n pl spelt = λ i x. at (length pl) (get_or pl (place_of (length pl) x) (p_fork [])) (spelt (place_of (length pl) x)) (position_of (length pl) x) i
  where
    at : (P : ℕ) (v : Place) → Spelt v → (i : ℕ) → ways_at holds₁ n P v i ≡ ways_at holds₂ n P v i
    at P (p_letter c k) w i = ap (λ (b : Bool). pass_if (ltb i n && b) (pair_at P (suc i) k)) (agree c w.0 w.1 i)
    at P (p_caret k) w i = refl
    at P (p_dollar k) w i = refl
    at P (p_fork ks) w i = refl
    at P p_end w i = refl

module _ (s : Named) (begins : begin_answer s ≡ 0) (a : ℕ) (al : s.allowance ≡ some a) (T : List ℕ) (p : Prepared) (ready : Ready s.query T p) (rows₁ rows₂ : List ℤ) (n₁ n₂ : ℕ)
    (lot₁ : Lot s rows₁ n₁) (lot₂ : Lot s rows₂ n₂) (later : Later s rows₁ rows₂ n₁ n₂) (last : Bool) where
  abbrev q : List ℕ
  q = s.query

  ok : Begins_well s
  ok = begins-well s begins

  abbrev t₁ : Task
  t₁ = present_task s rows₁ n₁

  abbrev t₂ : Task
  t₂ = present_task s rows₂ n₂

  abbrev m₁ : ℕ
  m₁ = t₁.table.n

  abbrev m₂ : ℕ
  m₂ = t₂.table.n

  abbrev U : Unrolled
  U = unroll ready.tree

  abbrev nums : ℕ
  nums = length s.lent.numbers

  abbrev labs : ℕ
  labs = length s.lent.labels

  abbrev fit : ℕ → ℕ → List ℕ → Bool
  fit = fits (lent_room nums labs t₂.measures)

  -- the search of the earlier call
  abbrev before₁ : Swept Kept
  before₁ = lot_walk s rows₁ n₁ false

  places₁ : t₁.places ≡ places U
  unfolding present_task
  places₁ = places_are q (present_rows q rows₁ n₁) ready.tree ready.has_tree

  le : m₁ ≤ m₂
  le = rw (task-n s ok rows₁ n₁ lot₁, task-n s ok rows₂ n₂ lot₂) later.more

  passes : (x : ℕ) → Passes (settles q) (get_or (places U) x (p_fork []))
  passes = places-pass (settles q) ready.tree (every_holds (settles q) (tree_in q) ready.tree ready.has_tree ok.settled) (dollar-free (tree_in q) ready.tree ready.has_tree ok.no_dollar)

  sooner : Sooner (halting_of (record { largest = m₂; more = true; allowance = some a }) (places U) m₁) (halting_of (record { largest = m₂; more = not last; allowance = some a }) (places U) m₂)
      (pair_ways (letter_holds t₁) m₁ (places U)) (pair_ways (letter_holds t₂) m₂ (places U))
  sooner =
      places-sooner (settles q) (letter_holds t₁) (letter_holds t₂) m₁ m₂ le (λ c i b h. letters-agree s ok rows₁ rows₂ n₁ n₂ lot₁ lot₂ later c i b (rw (task-n s ok rows₁ n₁ lot₁) at h)) (not last)
      (places U) passes m₂ (some a)

  abbrev early : Swept Kept
  early = earlier U t₂.skip fit (letter_holds t₁) (letter_holds t₂) m₁ m₂ a (not last) le sooner

  abbrev gap : List Bool
  gap = beyond U (letter_holds t₁) m₁ s.largest

  few₁ : m₁ ≤ s.largest
  few₁ = rw (task-n s ok rows₁ n₁ lot₁) lot₁.few

  -- the earlier search, by the places of the table
  early-is : before₁ ≡ padded gap early
  unfolding lot_walk walked_on present_task task_of
  early-is =
      rw (al, places₁)
      (search_padded U (letter_holds t₁) m₁ (record { largest = s.largest; more = true; allowance = some a }) few₁ t₂.skip fit
      ∙ ap (padded gap) (sym (walk-thin U (letter_holds t₁) m₁ (record { largest = m₁; more = true; allowance = some a }) (omega arith) t₂.skip fit)))

  demanded : LotDemands s rows₁ n₁ false
  demanded = (lots s begins).demands rows₁ n₁ false lot₁

  module _ (i : ℕ) (u : List ℕ) (end : before₁.end ≡ unfinished out_of_rows i u) where
    end₁ : early.end ≡ unfinished out_of_rows i u
    end₁ = sym (ap (λ (r : Swept Kept). r.end) early-is) ∙ end

    steps_is : before₁.state.steps ≡ early.state.steps
    steps_is = ap (λ (r : Swept Kept). r.state.steps) early-is

    few : length u ≤ early.state.steps
    few =
        let o : length (open_of before₁.end) ≡ length u = ap (λ (e : End Match). length (open_of e)) end in
        let d = demanded.demand3.sum in
        let e = steps_is in
        omega arith

    within : early.state.steps ≤ a
    within = let k = demanded.kept_to a al in let e = steps_is in omega arith

    -- the later search goes on from there, with n rows
    abbrev Goes : ℕ → Type 0
    Goes n =
        walk_search (record { largest = n; more = not last; allowance = some a }) (seek (letter_holds t₂) n (thinned (places U)) t₂.skip fit)
        ≡ pre early.matches (sweep (walk_at (halting_of (record { largest = n; more = not last; allowance = some a }) (thinned (places U)) n) (pair_ways (letter_holds t₂) n (thinned (places U))) (pairs (length (thinned (places U))) n)
        (first_at (length (thinned (places U))))) (plan_of (thinned (places U)) n (not last) t₂.skip fit) n (stand_at i (length early.matches) (length (labels_of (thinned (places U)) early.matches)))
        (as_kept (early.state.failed ++ replicate (pairs (length (places U)) n - pairs (length (places U)) m₁) false) (early.state.steps - length u)))

    goes_on : Goes n₂
    goes_on = subst Goes (task-n s ok rows₂ n₂ lot₂) (again U t₂.skip fit (letter_holds t₁) (letter_holds t₂) m₁ m₂ a (not last) le sooner i u end₁ few within)

    -- ---- the same by the table of the prepared query

    module _ (t : C.Task) (task : TaskFor p (record { rows = n₂; largest = s.largest; allowance = a; more = not last }) t) where
      abbrev part : List ℤ
      part = present_rows q rows₂ n₂

      abbrev pl : List Place
      pl = places_in T p.places

      -- the task of a prepared query, by its numbers
      abbrev by : C.Task
      by =
          record {
            size = record { rows = n₂; columns = p.columns; places = p.places; tests = tests_at p.places; allowance = a; more = not last };
            pairs = p.places * (s.largest + 1);
            measures = measures_at p.places;
            count = p.count;
            skip = t.skip;
          }

      abbrev mk : ℕ → ℕ → ℕ → ℕ → ℕ → Bool → ℕ → ℕ → ℕ → C.Task
      mk rows columns places tests allowance more pairs measures count =
          record { size = record { rows = rows; columns = columns; places = places; tests = tests; allowance = allowance; more = more }; pairs = pairs; measures = measures; count = count; skip = t.skip }

      task-is : t ≡ by
      task-is =
          let e : mk t.size.rows t.size.columns t.size.places t.size.tests t.size.allowance t.size.more t.pairs t.measures t.count ≡ by =
          rw (task.rows, task.columns, task.places, task.tests, task.allowance, task.more, task.pairs_are, task.measures, task.count) in e

      abbrev A : Asked
      A = asked_of T part by

      skip_is : skip_in t.skip ≡ t₂.skip
      unfolding present_task task_of
      skip_is = task.skip ∙ ap₂ (λ (m c : ℕ). skip_of m c) ready.skip_is ready.target_is

      measures_is : measures_in T (measures_at p.places) p.count ≡ t₂.measures
      unfolding present_task task_of
      measures_is = ready.measures_are

      -- letters by the table are letters by the query
      letter-is : (c : ℕ) → 65 ≤ c → c ≤ 90 → (x : ℕ) → holds_in T (tests_at p.places) p.columns part c x ≡ letter_holds t₂ c x
      unfolding holds_in letter_holds present_task task_of
      letter-is c lo hi x =
          let l : c - 65 < 26 = omega arith in
          let e : 65 + (c - 65) ≡ c = omega arith in
          let y : condition_in T p.columns (test_at (tests_at p.places) (c - 65)) ≡ (parts q).condition c = ready.letters (c - 65) l ∙ ap (λ (k : ℕ). (parts q).condition k) e in
          ap₂ (λ (w : Table) (d : Condition). holds w x d) (ap (λ (k : ℕ). table_of k part) ready.columns_are) y

      lettered : Lettered ready.tree
      unfolding tree_in
      lettered = written-letters ((tree-exactly (text_of q) ready.tree).0 ready.has_tree)

      ways-are : pair_ways (holds_in T (tests_at p.places) p.columns part) n₂ (thinned (places U)) ≡ pair_ways (letter_holds t₂) n₂ (thinned (places U))
      ways-are = agreeing (holds_in T (tests_at p.places) p.columns part) (letter_holds t₂) letter-is n₂ (thinned (places U)) (thinned-spelt ready.tree lettered)

      -- the search of the task is the matches so far and then the search from the start
      sought : search_of A nums labs ≡ pre early.matches (swp A nums labs n₂ (stand_at i (length early.matches) (length (labels_of pl early.matches)))
          (as_kept (early.state.failed ++ replicate (pairs (length (places U)) n₂ - pairs (length (places U)) m₁) false) (early.state.steps - length u)))
      unfolding search_of walk_search halts_in
      sought = rw (ready.placed, skip_is, measures_is, ways-are) goes_on

      -- ---- in memory

      module _ (notes trail : List ℕ) (numbers : List ℤ) (labels : List ℕ) (fed : Fed p (record { rows = n₂; largest = s.largest; allowance = a; more = not last }) part notes trail)
          (en : notes ≡ (lot_memory s rows₁ n₁ false).buffers.notes) (eu : numbers ≡ (lot_memory s rows₁ n₁ false).buffers.numbers) (eb : labels ≡ (lot_memory s rows₁ n₁ false).buffers.labels)
          (long-numbers : length numbers ≡ nums) (long-labels : length labels ≡ labs) where
        abbrev M : ℕ
        M = pairs p.places n₂

        abbrev F : List Bool
        F = early.state.failed ++ replicate (pairs (length (places U)) n₂ - pairs (length (places U)) m₁) false

        places-long : length (thinned (places U)) ≡ p.places
        places-long = ap length (sym ready.placed) ∙ in_length T p.places

        F-long : length F ≡ M
        F-long =
            subst (λ (n : ℕ). length (early.state.failed ++ replicate (pairs (length (places U)) n - pairs (length (places U)) m₁) false) ≡ pairs (length (thinned (places U))) n) (task-n s ok rows₂ n₂ lot₂)
            (long₂ U t₂.skip fit (letter_holds t₁) (letter_holds t₂) m₁ m₂ a (not last) le sooner)
            ∙ ap (λ (k : ℕ). pairs k n₂) places-long

        -- all pairs of the rows present are kept account of
        kept_long : M ≤ length before₁.state.failed
        kept_long =
            let e : length before₁.state.failed ≡ pairs (length t₁.places) s.largest = demanded.demand3.pairs_kept in
            let f : length t₁.places ≡ p.places = ap length places₁ ∙ sym (thinned-length (places U)) ∙ places-long in
            rw (e, f) (mul-le-mul (let z : p.places ≤ p.places = omega arith in z) (let z : suc n₂ ≤ suc s.largest = (let l = lot₂.few in omega arith) in z))

        bits : bits_of notes M ≡ F
        unfolding bytes_for
        bits =
            ext_get_or false (bits_of notes M) F (bits_from-length notes M 0 ∙ sym F-long)
            (λ x l.
            let k : x < M = rw (bits_from-length notes M 0) at l in
            let m = kept_long in
            bits_of-at notes M x k ∙ ap (λ (v : List ℕ). bit_at v x) en ∙ demanded.noted x (omega arith) ∙ ap (λ (r : Swept Kept). get_or r.state.failed x false) early-is
            ∙ gap_at early.state.failed (pairs (length (places U)) s.largest - pairs (length (places U)) m₁) x ∙ sym (gap_at early.state.failed (pairs (length (places U)) n₂ - pairs (length (places U)) m₁) x))

        -- the matches of both accounts are the same
        done-is : before₁.matches ≡ early.matches
        done-is = ap (λ (r : Swept Kept). r.matches) early-is

        -- their numbers are the same on the rows that are present now
        in_rows : (xs : List Match) → Within U (letter_holds t₁) m₁ xs → RowsIn t₁.table t₂.table (task-extends s ok rows₁ rows₂ n₁ n₂ lot₁ lot₂ later) (places U) xs
        in_rows [] w = tt
        in_rows (x ∷ xs) w = (w.0, in_rows xs w.1)

        numbers-kept : numbers_of t₁.table t₁.measures t₁.places 0 before₁.matches ≡ numbers_of t₂.table t₂.measures t₂.places 0 before₁.matches
        unfolding lot_walk walked_on present_task task_of parts
        numbers-kept =
            numbers-same t₁.table t₂.table (task-extends s ok rows₁ rows₂ n₁ n₂ lot₁ lot₂ later) t₁.measures t₁.places 0 before₁.matches (measures_fit q (fitting s ok))
            (placed t₁.places places₁)
          where
            placed : (v : List Place) → v ≡ places U → RowsIn t₁.table t₂.table (task-extends s ok rows₁ rows₂ n₁ n₂ lot₁ lot₂ later) v (walk_search (lot_terms s false) (seek (letter_holds t₁) m₁ v t₂.skip fit)).matches
            placed v e = rw e (in_rows (walk_search (lot_terms s false) (seek (letter_holds t₁) m₁ (places U) t₂.skip fit)).matches (search_rows U (letter_holds t₁) m₁ t₂.skip fit (lot_terms s false) few₁))

        -- what was written fits in the room
        long_enough : {X : Type 0} (l vs w : List X) → w ≡ wrote l 0 vs → length w ≡ length l → length vs ≤ length l
        unfolding wrote
        long_enough l vs w e k =
            let a : length w ≡ length (vs ++ drop (0 + length vs) l) = ap length e in
            let b = length-append vs (drop (0 + length vs) l) in
            omega arith

        numbers-in : numbers ≡ wrote s.lent.numbers 0 (numbers_of t₂.table t₂.measures t₂.places 0 before₁.matches)
        unfolding lot_memory accepted report_of
        numbers-in = eu ∙ ap (wrote s.lent.numbers 0) numbers-kept

        labels_in : labels ≡ wrote s.lent.labels 0 (labels_of t₂.places before₁.matches)
        unfolding lot_memory accepted report_of present_task task_of
        labels_in = eb

        numbers-at : numbers_of A.rows A.measures (S.pl A) 0 before₁.matches ≡ numbers_of t₂.table t₂.measures t₂.places 0 before₁.matches
        unfolding present_task
        numbers-at = rw task-is at (numbered q T p ready (record { rows = n₂; largest = s.largest; allowance = a; more = not last }) part notes trail fed t task 0 before₁.matches)

        labels_at : labels_of (S.pl A) before₁.matches ≡ labels_of t₂.places before₁.matches
        unfolding present_task
        labels_at = rw task-is at (labelled q T p ready (record { rows = n₂; largest = s.largest; allowance = a; more = not last }) part notes trail fed t task before₁.matches)

        abbrev from : Sweep
        from = record { end = 0; row = i; matches = length before₁.matches; labels = length (labels_of t₂.places before₁.matches); steps = before₁.state.steps - length u; opened = 0 }

        stands_by : SoFar T part by s.lent.numbers s.lent.labels (search_of A nums labs) notes numbers labels from
        stands_by =
            record {
              fuel = n₂;
              done = before₁.matches;
              enough = omega arith;
              total = total;
              going = refl;
              none_open = refl;
              m_is = refl;
              l_is = sym (ap length labels_at);
              numbers_is = numbers-in ∙ ap (wrote s.lent.numbers 0) (sym numbers-at);
              labels_is = labels_in ∙ ap (wrote s.lent.labels 0) (sym labels_at);
              nums = nums-in;
              labs_le = long_enough s.lent.labels (labels_of t₂.places before₁.matches) labels labels_in long-labels;
            }
          where
            nums-in : length before₁.matches * S.width A ≤ nums
            nums-in =
                let e = long_enough s.lent.numbers (numbers_of t₂.table t₂.measures t₂.places 0 before₁.matches) numbers numbers-in long-numbers in
                let f = ap length numbers-at in
                let l = numbers_long A.rows A.measures (S.pl A) 0 before₁.matches in
                omega arith

            total : pre before₁.matches (swp A nums labs n₂ (stand_at i (length before₁.matches) (length (labels_of t₂.places before₁.matches))) (as_kept (bits_of notes M) (before₁.state.steps - length u))) ≡ search_of A nums labs
            total =
                ap (λ (k : ℕ). pre before₁.matches (swp A nums labs n₂ (stand_at i (length before₁.matches) k) (as_kept (bits_of notes M) (before₁.state.steps - length u)))) (sym (ap length labels_at))
                ∙ ap (λ (G : List Bool). pre before₁.matches (swp A nums labs n₂ (stand_at i (length before₁.matches) (length (labels_of pl before₁.matches))) (as_kept G (before₁.state.steps - length u)))) bits
                ∙ ap (λ (k : ℕ). pre before₁.matches (swp A nums labs n₂ (stand_at i (length before₁.matches) (length (labels_of pl before₁.matches))) (as_kept F (k - length u)))) steps_is
                ∙ ap (λ (ms : List Match). pre ms (swp A nums labs n₂ (stand_at i (length ms) (length (labels_of pl ms))) (as_kept F (early.state.steps - length u)))) done-is
                ∙ sym sought

        -- the search stands so far
        pub stands : SoFar T part t s.lent.numbers s.lent.labels (search_of (asked_of T part t) nums labs) notes numbers labels from
        stands = rw task-is stands_by

        -- ---- and what it leaves in notes and trail, by the buffers as they were named

        -- no pair of a row that is not there has failed
        none-beyond : (x : ℕ) → M ≤ x → get_or before₁.state.failed x false ≡ false
        none-beyond x l =
            let e = length-append early.state.failed (replicate (pairs (length (places U)) n₂ - pairs (length (places U)) m₁) false) in
            let f = F-long in
            ap (λ (r : Swept Kept). get_or r.state.failed x false) early-is
            ∙ gap_at early.state.failed (pairs (length (places U)) s.largest - pairs (length (places U)) m₁) x
            ∙ get_or-eq_default early.state.failed false (let z : length early.state.failed ≤ x = omega arith in z)

        pairs_kept : length before₁.state.failed ≡ p.places * (s.largest + 1)
        pairs_kept =
            demanded.demand3.pairs_kept
            ∙ ap₂ (λ (x y : ℕ). x * y) (ap length places₁ ∙ sym (thinned-length (places U)) ∙ places-long) (sym (add-one s.largest))

        module _ (notes' : List ℕ) (R : List Bool) (kept : bits_of notes' M ≡ R) (beyond' : (z : ℕ) → M ≤ z → bit_at notes' z ≡ bit_at notes z) (long : length notes' ≡ length notes)
            (bytes : (k : ℕ) → get_or notes' k 0 < 256) (bytes₀ : (k : ℕ) → get_or s.lent.notes k 0 < 256) where
          abbrev G : List Bool
          G = gapped (p.places * (s.largest + 1)) R

          R-long : length R ≡ M
          R-long = sym (ap length kept) ∙ bits_from-length notes' M 0

          G-long : length G ≡ p.places * (s.largest + 1)
          G-long =
              let a = length-append R (replicate (p.places * (s.largest + 1) - length R) false) in
              let b = length-replicate (p.places * (s.largest + 1) - length R) false in
              let c = R-long in
              let d = kept_long in
              let e = pairs_kept in
              omega arith

          room₀ : bytes_for (p.places * (s.largest + 1)) ≤ length s.lent.notes
          room₀ = rw (named-pairs s T p ready) at ok.notes_long

          notes_are : notes ≡ wrote s.lent.notes 0 (notes_of before₁.state.failed)
          unfolding lot_memory accepted
          notes_are = en

          long₀ : length notes ≡ length s.lent.notes
          long₀ =
              rw notes_are (length-wrote_at s.lent.notes 0 (notes_of before₁.state.failed)
              (let a = length-notes before₁.state.failed in let b = room₀ in let c = ap bytes_for pairs_kept in omega arith))

          bits_in : (x : ℕ) → x < 8 * bytes_for (length G) → bit_at notes' x ≡ get_or G x false
          bits_in x l = elim (dec_lt x M) [
            | yes k ↦ sym (bits_of-at notes' M x k) ∙ ap (λ (K : List Bool). get_or K x false) kept ∙ sym (gap_at R (p.places * (s.largest + 1) - length R) x)
            | no k ↦
                let g : M ≤ x = omega arith in
                let c : bytes_for (length G) ≡ bytes_for (length before₁.state.failed) = ap bytes_for (G-long ∙ sym pairs_kept) in
                beyond' x g ∙ ap (λ (v : List ℕ). bit_at v x) en ∙ demanded.noted x (rw c at l) ∙ none-beyond x g
                ∙ sym (gap_at R (p.places * (s.largest + 1) - length R) x ∙ get_or-eq_default R false (let b = R-long in let z : length R ≤ x = omega arith in z))
          ]

          same-beyond : (x : ℕ) → 8 * bytes_for (length G) ≤ x → bit_at notes' x ≡ bit_at s.lent.notes x
          unfolding bytes_for bit_at
          same-beyond x l =
              let a = length-notes before₁.state.failed in
              let b = G-long in
              let c = pairs_kept in
              let d = kept_long in
              beyond' x (omega arith) ∙ ap (λ (v : ℕ). eqb (bit_of (x % 8) v) 1) (ap (λ (v : List ℕ). get_or v (x / 8) 0) notes_are ∙ beyond-wrote s.lent.notes (notes_of before₁.state.failed) (x / 8) 0 (omega arith))

          -- the notes hold the failed pairs of the later search
          pub later-noted : notes' ≡ wrote s.lent.notes 0 (notes_of (gapped (p.places * (s.largest + 1)) R))
          later-noted = notes_written s.lent.notes notes' G (long ∙ long₀) (rw G-long room₀) bytes bytes₀ bits_in same-beyond

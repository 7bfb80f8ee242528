-- The tender's demands hold of every accepted search (specs/Demands): for every query, all rows and
-- all lent buffers, every skip mode and every allowance of steps, done, stopped and halted.
use mathlib.Core.Path.{◌≡◌, refl, ap, sym, ◌∙◌}
use mathlib.Core.Bool.{Bool, true, false}
use mathlib.Core.List.{List, [], ◌∷◌, ◌++◌, append_assoc, map-append}
use mathlib.Core.Logic.{◌⊎◌, ◌↔◌}
use mathlib.Core.Option.{Option, none, some}
use Prim.Native.Nat.{ℕ, ◌+◌, ◌*◌, ◌/◌, ◌≤◌, ◌<◌, suc, ◌%◌, ◌^◌}
use native.Mathlib.Omega.{arith}
use lib.IntN.{ℤ}
use lib.ListN.{length, get_or, drop}
use Rattle.rules.specs.Basics.{Begins, wrote}
use Rattle.rules.specs.Query.{text_of, parts}
use Rattle.rules.specs.Language.{Tree, pattern, Written}
use Rattle.rules.specs.Places.{Place, unroll, places, places_of, size, factor_of, flags_at}
use Rattle.rules.specs.Readings.{SomeReading, row_sets}
use Rattle.rules.specs.Walk.{out_of_steps, out_of_rows, IsOpen, pairs, first_at, pair_ways, Kept}
use Rattle.rules.specs.Preferment.{Preferred, Reports, setting}
use Rattle.rules.specs.Search.{Match, End, done, full, stuck, unfinished, Finished, open_of, Skip, past_last, Swept, Terms, within, whole, walk_search, plain_search, labels, end_of, plain_from, shown_one, shown, shown_end, seek, stand_at}
use Rattle.rules.specs.Report.{numbers_of, labels_of, lent_room, fits, bytes_for, bit_at, notes_of, zeros}
use Rattle.rules.specs.Answers.{tree_in, Task, task_of, letter_holds, walked_on, backtracked, Buffers, Memory, refusal, halt_answer, end_answer, answer_by, answer_within, report_of, walk_within, plain_of, report_within, plain_report, accepted, search_within, search_of, P, F}
use Rattle.rules.specs.Entries.{reported_in, reported_one, reported_all}
use Rattle.rules.specs.Demands.{report_in, Demand2, Demand3, Demands, Allowing}
use Rattle.laws.proofs.Accepted.{Granted, accepted-within, answer_within_lem, granted_when, places_are}
use Rattle.laws.proofs.Allowed.{search_bound, search_each, search_within_lem, end-within, EndWithin, allows_begins, finished-whole, search_allowed, allowance_enough}
use Rattle.laws.proofs.Bounds.{Bounds, written-bounds}
use Rattle.laws.proofs.Counting.{places-counted, unroll-size, nest-counted}
use Rattle.laws.proofs.DerivationReadings.{parses_reads}
use Rattle.laws.proofs.EntriesRead.{entries-read, behind-wrote}
use Rattle.laws.proofs.FirstDemand.{no-waiting}
use Rattle.laws.proofs.FoundPaths.{Path, plain-each, follows_each}
use Rattle.laws.proofs.Grammar.{tree-exactly}
use Rattle.laws.proofs.GreatestDerivation.{found-is_greatest}
use Rattle.laws.proofs.Limits.{numbers_long}
use Rattle.laws.proofs.Lists.{front_wrote}
use Rattle.laws.proofs.Noted.{length-notes, noted}
use Rattle.laws.proofs.Paths.{failed-no_path}
use Rattle.laws.proofs.OpenPairs.{search_leads, open_once}
use Rattle.laws.proofs.PatternWalk.{falls, search_follows, search_sum, search_out, search_kept, walk-finished}
use Rattle.laws.proofs.PrefermentReports.{plain-reports, reports-one, reports-begin}
use Rattle.laws.proofs.Rank.{rank}
use Rattle.laws.proofs.TreeReadings.{match-exactly}
use Rattle.laws.proofs.Waits.{EndNoWait}
use Rattle.laws.proofs.Walk.{All-at}
use Rattle.rules.specs.Working.{All, Out}
use Rattle.laws.proofs.UsedFlags.{unused_zero}

-- ---- demand 2

module _ (p : Tree pattern) (o : Bounds p) (pl : List Place) (e : pl ≡ places (unroll p)) (holds : ℕ → ℕ → Bool) (n : ℕ) where
  matches-exactly : (i : ℕ) → ((path : List ℕ) × (plain_from holds n pl i ≡ some path)) ↔ SomeReading (row_sets n holds) p i
  matches-exactly = rw e (match-exactly p holds n o)

  matches-preferred : (i j : ℕ) (w : List ℕ)
      → ((path : List ℕ) × ((plain_from holds n pl i ≡ some path) × (end_of (length pl) path ≡ j) × (labels pl path ≡ w))) ↔ Preferred (row_sets n holds) p i j w
  matches-preferred = rw e (found-is_greatest p o holds n)

  matches-reported : (skip : Skip) (room : ℕ → ℕ → List ℕ → Bool)
      → Reports (setting p (row_sets n holds) skip room) (stand_at 0 0 0) (shown pl (plain_search (seek holds n pl skip room)).matches) (shown_end pl (plain_search (seek holds n pl skip room)).end)
  matches-reported = rw e (plain-reports p o holds n)

-- what is shown of the first of the matches is the first of what is shown
shown-append : (pl : List Place) (xs ys : List Match) → shown pl (xs ++ ys) ≡ shown pl xs ++ shown pl ys
shown-append pl [] ys = refl
shown-append pl (x ∷ xs) ys = ap (λ (r : List (ℕ × List ℕ)). shown_one pl x ∷ r) (shown-append pl xs ys)

shown-begins : (pl : List Place) (xs ys : List Match) → Begins xs ys → Begins (shown pl xs) (shown pl ys)
shown-begins pl xs ys b = (shown pl b.0, ap (shown pl) b.1 ∙ shown-append pl xs b.0)

begins-trans : {A : Type 0} (xs ys zs : List A) → Begins xs ys → Begins ys zs → Begins xs zs
begins-trans {A} xs ys zs a b = (a.0 ++ b.0, b.1 ∙ ap (λ (l : List A). l ++ b.0) a.1 ∙ append_assoc xs a.0 b.0)

-- for a task whose places are those of a pattern that is read, on any terms
module _ (p : Tree pattern) (t : Task) (e : t.places ≡ places (unroll p)) (nums labs : ℕ) (terms : Terms) (le : t.table.n ≤ terms.largest) where
  -- the walk follows plain backtracking
  pub task-follows : ((Finished (walked_on terms t nums labs).end) → ((walked_on terms t nums labs).matches ≡ (backtracked t nums labs).matches) × ((walked_on terms t nums labs).end ≡ (backtracked t nums labs).end))
      × Begins (walked_on terms t nums labs).matches (backtracked t nums labs).matches
  unfolding walked_on backtracked
  task-follows =
      rw e
      (let f = search_follows (unroll p) (letter_holds t) t.table.n terms le t.skip (fits (lent_room nums labs t.measures)) in
      (f.whole, f.begins))

  pub second : Bounds p → Demand2 p t nums labs (walked_on terms t nums labs)
  unfolding backtracked
  second o =
      let h = letter_holds t in
      let n = t.table.n in
      let r = fits (lent_room nums labs t.measures) in
      let told = matches-reported p o t.places e h n t.skip r in
      let unlimited = plain_search (seek h n t.places t.skip (λ m l w. true)) in
      let told-unlimited = matches-reported p o t.places e h n t.skip (λ m l w. true) in
      record {
        exists = matches-exactly p o t.places e h n;
        preferred = matches-preferred p o t.places e h n;
        reads = λ i j w x. parses_reads h n p x.derivation i j w x.parses;
        all = shown t.places (backtracked t nums labs).matches;
        last = shown_end t.places (backtracked t nums labs).end;
        report = told;
        only = λ ms end x. reports-one p h n t.skip r x told;
        holds_all = λ f. (ap (shown t.places) (task-follows.0 f).0, ap (shown_end t.places) (task-follows.0 f).1);
        holds_first = shown-begins t.places (walked_on terms t nums labs).matches (backtracked t nums labs).matches task-follows.1;
        unlimited = shown t.places unlimited.matches;
        unlimited_last = shown_end t.places unlimited.end;
        unlimited_report = told-unlimited;
        first_of_unlimited =
            begins-trans (shown t.places (walked_on terms t nums labs).matches) (shown t.places (backtracked t nums labs).matches) (shown t.places unlimited.matches)
            (shown-begins t.places (walked_on terms t nums labs).matches (backtracked t nums labs).matches task-follows.1)
            (reports-begin p h n t.skip r told told-unlimited);
      }

-- ---- demand 3

module _ (p : Tree pattern) (holds : ℕ → ℕ → Bool) (n : ℕ) where
  abbrev bound_by : Terms → Skip → (ℕ → ℕ → List ℕ → Bool) → Type 0
  bound_by terms skip room = skip ≡ past_last → (walk_search terms (seek holds n (places (unroll p)) skip room)).state.steps ≤ 2 * pairs (length (places (unroll p))) n

  bounded : (terms : Terms) → n ≤ terms.largest → (skip : Skip) (room : ℕ → ℕ → List ℕ → Bool) → bound_by terms skip room
  bounded terms le skip room e = rw e (search_bound (unroll p) room holds n terms le)

-- no pair still open has failed
task-out : (p : Tree pattern) (t : Task) (e : t.places ≡ places (unroll p)) (nums labs : ℕ) (terms : Terms) → t.table.n ≤ terms.largest
    → All (Out (walked_on terms t nums labs).state.failed) (open_of (walked_on terms t nums labs).end)
unfolding walked_on
task-out p t e nums labs terms le = rw e (search_out (unroll p) (letter_holds t) t.table.n terms le t.skip (fits (lent_room nums labs t.measures)))

-- the same for a task whose places are those of the pattern
pub third : (p : Tree pattern) (t : Task) (e : t.places ≡ places (unroll p)) (nums labs : ℕ) (terms : Terms) → t.table.n ≤ terms.largest
    → Demand3 t terms.largest (walked_on terms t nums labs) (backtracked t nums labs)
unfolding walked_on backtracked
third p t e nums labs terms le =
    let h = letter_holds t in
    let n = t.table.n in
    let r = fits (lent_room nums labs t.measures) in
    record {
      bound = rw e (bounded p h n terms le t.skip r);
      bound_each = rw e (search_each (unroll p) t.skip r h n terms le);
      sum = rw e (search_sum (unroll p) h n terms le t.skip r);
      paths =
          follows_each (Path h n t.places) (walked_on terms t nums labs) (backtracked t nums labs) (task-follows p t e nums labs terms le).1 (task-follows p t e nums labs terms le).0
          (plain-each h n t.places t.skip r);
      still_open = λ w i x d.
          let o : (x ≡ []) ⊎ IsOpen (pair_ways h n t.places) (first_at (length t.places) i) x = rw d at (search_leads terms h n t.places t.skip r) in
          (o, open_once (pair_ways h n t.places) (rank (unroll p) n) (pairs (length t.places) n) (rw e (falls (unroll p) h n)) o, λ y m. All-at (Out (walked_on terms t nums labs).state.failed) m (rw d at (task-out p t e nums labs terms le)));
      failed = rw e (failed-no_path (unroll p) h n terms le t.skip r);
      pairs_kept = rw e (search_kept (unroll p) h n terms le t.skip r);
      like_all = (task-follows p t e nums labs terms le).0;
      like_first = (task-follows p t e nums labs terms le).1;
    }

-- ---- the report and the notes

-- a report depends on the matches and the answer alone, and the answer of a search on how it ends
report-same : {S T : Type 0} (a b : ℕ) (t : Task) (lent : Buffers) (r : Swept S) (s : Swept T) → a ≡ b → r.matches ≡ s.matches → report_of a t lent r ≡ report_of b t lent s
unfolding report_of
report-same a b t lent r s e f = rw (e, f)

answer_same : {S T : Type 0} (q : List ℕ) (rows : List ℤ) (lent : Buffers) (r : Swept S) (s : Swept T) → r.end ≡ s.end → answer_by q rows lent r ≡ answer_by q rows lent s
unfolding answer_by
answer_same q rows lent r s e = rw e

-- an accepted search leaves what its report and its failed pairs say
pub search_accepted : (a : Option ℕ) (q : List ℕ) (rows : List ℤ) (lent : Buffers) → refusal q rows lent ≡ 0
    → search_within a q rows lent ≡ accepted (report_within a q rows lent) (walk_within a q rows lent).state lent
unfolding search_within
search_accepted a q rows lent ok = rw (accepted-within q rows lent a ok)

-- ---- places and flags

pub places-all : (q : List ℕ) (rows : List ℤ) (p : Tree pattern) → Bounds p → tree_in q ≡ some p → length (task_of q rows).places ≡ P (tree_in q) * F (tree_in q)
unfolding P F
places-all q rows p o e = ap length (places_are q rows p e) ∙ places-counted p o ∙ rw e

pub flags_unused : (p : Tree pattern) → Bounds p → (t : Task) → t.places ≡ places (unroll p) → (nums labs : ℕ) (terms : Terms) (x : ℕ) → get_or (walked_on terms t nums labs).state.failed x false ≡ true
    → x % factor_of p < 2 ^ flags_at (unroll p) (x / factor_of p % places_of p)
unfolding walked_on factor_of
flags_unused p o t e nums labs terms x h =
    let s : suc (size (unroll p)) ≡ places_of p = omega (arith, unroll-size p) in
    let h' : get_or (walk_search terms (seek (letter_holds t) t.table.n (places (unroll p)) t.skip (fits (lent_room nums labs t.measures)))).state.failed x false ≡ true = rw e at h in
    rw (← nest-counted p o, ← s) (unused_zero (unroll p) terms (letter_holds t) t.table.n t.skip (fits (lent_room nums labs t.measures)) x h')

-- document 01's search of a pattern does not halt
task-finished : (p : Tree pattern) (t : Task) (e : t.places ≡ places (unroll p)) (nums labs : ℕ) → Finished (walked_on (whole t.table.n) t nums labs).end
unfolding walked_on
task-finished p t e nums labs = rw e (walk-finished (unroll p) (letter_holds t) t.table.n t.skip (fits (lent_room nums labs t.measures)))

-- a search that has halted for steps has the answer 16
halted-16 : (e : End Match) → EndNoWait e → (end_answer e ≡ 16 → ⊥) → Finished e
unfolding end_answer halt_answer
halted-16 done w d = tt
halted-16 (full m) w d = tt
halted-16 stuck w d = tt
halted-16 (unfinished out_of_steps i p) w d = d refl
halted-16 (unfinished out_of_rows i p) w d = w

module _ (a : Option ℕ) (q : List ℕ) (rows : List ℤ) (lent : Buffers) (ok : refusal q rows lent ≡ 0) where
  abbrev t : Task
  t = task_of q rows

  abbrev r : Swept Kept
  r = walk_within a q rows lent

  abbrev g : Granted q rows lent
  g = granted_when q rows lent ok

  places-in : t.places ≡ places (unroll g.tree)
  places-in = places_are q rows g.tree g.has_tree

  bounds : Bounds g.tree
  unfolding tree_in
  bounds = written-bounds ((tree-exactly (text_of q) g.tree).0 g.has_tree)

  counted : length t.places ≡ places_of g.tree * factor_of g.tree
  counted = ap length places-in ∙ places-counted g.tree bounds

  third_in : Demand3 t t.table.n r (plain_of q rows lent)
  unfolding walk_within plain_of
  third_in = third g.tree t places-in (length lent.numbers) (length lent.labels) (within a t.table.n) (omega arith)

  kept_all : length r.state.failed ≡ pairs (places_of g.tree * factor_of g.tree) t.table.n
  kept_all = third_in.pairs_kept ∙ ap (λ (k : ℕ). pairs k t.table.n) counted

  abbrev m : Memory
  m = accepted (report_within a q rows lent) r.state lent

  noted_in : (x : ℕ) → x < 8 * bytes_for (pairs (places_of g.tree * factor_of g.tree) t.table.n) → bit_at m.buffers.notes x ≡ get_or r.state.failed x false
  unfolding accepted bit_at
  noted_in x h =
      let F : List Bool = r.state.failed in
      let h' : x < 8 * bytes_for (length F) = rw kept_all h in
      let l : x / 8 < length (notes_of F) = rw (length-notes F) (omega arith) in
      rw (front_wrote lent.notes (notes_of F) (x / 8) 0 l) (noted F x h')

  trail_in : m.buffers.trail ≡ wrote lent.trail 0 (zeros (pairs (places_of g.tree * factor_of g.tree) t.table.n))
  unfolding accepted
  trail_in = ap (λ (k : ℕ). wrote lent.trail 0 (zeros k)) kept_all

  notes_behind : drop (bytes_for (pairs (places_of g.tree * factor_of g.tree) t.table.n)) m.buffers.notes ≡ drop (bytes_for (pairs (places_of g.tree * factor_of g.tree) t.table.n)) lent.notes
  unfolding accepted
  notes_behind = behind-wrote lent.notes (notes_of r.state.failed) (bytes_for (pairs (places_of g.tree * factor_of g.tree) t.table.n)) (length-notes r.state.failed ∙ ap bytes_for kept_all)

  report-in : (report_in m ≡ report_within a q rows lent) × (m.result.answer ≡ end_answer r.end)
  unfolding accepted report_within report_of
  report-in = (refl, answer_within_lem q rows lent a ok)

  counts_in : (m.result.matches ≡ length r.matches) × (m.result.labels ≡ length (labels_of t.places r.matches))
  unfolding accepted report_within report_of
  counts_in = (refl, refl)

  entries-in : reported_in q m ≡ reported_all t.table t.measures (shown t.places r.matches)
  unfolding reported_in accepted report_within report_of wrote task_of
  entries-in =
      entries-read t.table t.measures t.places 0 r.matches (drop (0 + length (numbers_of t.table t.measures t.places 0 r.matches)) lent.numbers)
      (drop (0 + length (labels_of t.places r.matches)) lent.labels)

  numbers-in : m.buffers.numbers ≡ wrote lent.numbers 0 (numbers_of t.table t.measures t.places 0 r.matches)
  unfolding accepted report_within report_of
  numbers-in = refl

  numbers-behind : drop (length r.matches * (3 + 2 * length (parts q).measures)) m.buffers.numbers ≡ drop (length r.matches * (3 + 2 * length (parts q).measures)) lent.numbers
  unfolding accepted report_within report_of task_of
  numbers-behind =
      behind-wrote lent.numbers (numbers_of t.table t.measures t.places 0 r.matches) (length r.matches * (3 + 2 * length (parts q).measures))
      (numbers_long t.table t.measures t.places 0 r.matches)

  labels-behind : drop (length (labels_of t.places r.matches)) m.buffers.labels ≡ drop (length (labels_of t.places r.matches)) lent.labels
  unfolding accepted report_within report_of
  labels-behind = behind-wrote lent.labels (labels_of t.places r.matches) (length (labels_of t.places r.matches)) refl

  like : Finished r.end → report_within a q rows lent ≡ plain_report q rows lent
  unfolding report_within plain_report answer_within
  like f =
      report-same (answer_within a q rows lent) (answer_by q rows lent (plain_of q rows lent)) t lent r (plain_of q rows lent) (answer_same q rows lent r (plain_of q rows lent) (third_in.like_all f).1) (third_in.like_all f).0

  first_plain : Begins (reported_in q m) (reported_all t.table t.measures (shown t.places (plain_of q rows lent).matches))
  first_plain =
      rw entries-in
      (let b = shown-begins t.places r.matches (plain_of q rows lent).matches third_in.like_first in
      (reported_all t.table t.measures b.0, ap (reported_all t.table t.measures) b.1 ∙ map-append (reported_one t.table t.measures) (shown t.places r.matches) b.0))

  steps_in : m.result.steps ≡ r.state.steps
  unfolding accepted
  steps_in = refl

  finishes : a ≡ none → Finished r.end
  unfolding walk_within
  finishes n = rw n (task-finished g.tree t places-in (length lent.numbers) (length lent.labels))

  finishes_by : (m.result.answer ≡ 16 → ⊥) → Finished r.end
  finishes_by d = halted-16 r.end (no-waiting a q rows lent) (λ e. d (report-in.1 ∙ e))

  demands_in : Demands a q rows lent m
  unfolding walk_within tree_in
  demands_in =
      let p = g.tree in
      let w : Written p (text_of q) = (tree-exactly (text_of q) p).0 g.has_tree in
      record {
        tree = p;
        written = w;
        counted = places-all q rows p bounds g.has_tree;
        P_counted = counted;
        demand2 = second p t places-in (length lent.numbers) (length lent.labels) (within a t.table.n) (omega arith) (written-bounds w);
        demand3 = third_in;
        finished = finishes;
        not_halted = finishes_by;
        ended = report-in.1;
        steps = steps_in;
        bound = λ s. rw (steps_in, ← counted) (third_in.bound s);
        bound_each = rw (steps_in, ← counted) third_in.bound_each;
        sum = steps_in ∙ third_in.sum;
        noted = noted_in;
        unused = flags_unused p bounds t places-in (length lent.numbers) (length lent.labels) (within a t.table.n);
        trail = trail_in;
        notes_beyond = notes_behind;
        matches = counts_in.0;
        label_count = counts_in.1;
        reported = entries-in;
        numbers = numbers-in;
        numbers_beyond = rw counts_in.0 numbers-behind;
        labels_beyond = rw counts_in.1 labels-behind;
        like_plain = λ d. report-in.0 ∙ like (finishes_by d);
        first_of_plain = first_plain;
      }

-- ---- both, of what an accepted search leaves

pub demands : (a : Option ℕ) (q : List ℕ) (rows : List ℤ) (lent : Buffers) (after : Memory) → after ≡ search_within a q rows lent → refusal q rows lent ≡ 0 → Demands a q rows lent after
demands a q rows lent after e ok = rw (e, search_accepted a q rows lent ok) (demands_in a q rows lent ok)

-- ---- allowances

module _ (p : Tree pattern) (t : Task) (e : t.places ≡ places (unroll p)) (nums labs : ℕ) where
  task-larger : (a b : ℕ) → a ≤ b → Begins (walked_on (within (some a) t.table.n) t nums labs).matches (walked_on (within (some b) t.table.n) t nums labs).matches
  unfolding walked_on
  task-larger a b h = rw e (allows_begins (unroll p) t.skip (fits (lent_room nums labs t.measures)) (letter_holds t) t.table.n (some a) (some b) h)

  task-done : (a : ℕ) → Finished (walked_on (within (some a) t.table.n) t nums labs).end → walked_on (within (some a) t.table.n) t nums labs ≡ walked_on (whole t.table.n) t nums labs
  unfolding walked_on
  task-done a = rw e (λ f. sym (finished-whole (unroll p) t.skip (fits (lent_room nums labs t.measures)) (letter_holds t) t.table.n (some a) f))

  task-unpassed : (a : ℕ) → (walked_on (whole t.table.n) t nums labs).state.steps ≤ a → walked_on (within (some a) t.table.n) t nums labs ≡ walked_on (whole t.table.n) t nums labs
  unfolding walked_on
  task-unpassed a = rw e (search_allowed (unroll p) t.skip (fits (lent_room nums labs t.measures)) (letter_holds t) t.table.n a)

  task-enough : t.skip ≡ past_last → (a : ℕ) → 2 * pairs (length t.places) t.table.n ≤ a → walked_on (within (some a) t.table.n) t nums labs ≡ walked_on (whole t.table.n) t nums labs
  unfolding walked_on
  task-enough s a = rw (s, e) (allowance_enough (unroll p) (fits (lent_room nums labs t.measures)) (letter_holds t) t.table.n a)

-- a search within an allowance leaves what the walk does
walk-decides : (a b : Option ℕ) (q : List ℕ) (rows : List ℤ) (lent : Buffers) → walk_within a q rows lent ≡ walk_within b q rows lent → search_within a q rows lent ≡ search_within b q rows lent
unfolding search_within report_within answer_within
walk-decides a b q rows lent e = rw e

pub allowing : (q : List ℕ) (rows : List ℤ) (lent : Buffers) → refusal q rows lent ≡ 0 → Allowing q rows lent
unfolding walk_within walked_on search_of
allowing q rows lent ok =
    let a = granted_when q rows lent ok in
    let p = a.tree in
    let t = task_of q rows in
    let e = places_are q rows p a.has_tree in
    let nums = length lent.numbers in
    let labs = length lent.labels in
    let to : (a : ℕ) → EndWithin a (walk_within (some a) q rows lent).end (walk_within (some a) q rows lent).state.steps =
    λ a. search_within_lem a t.table.n false (letter_holds t) t.table.n t.places t.skip (fits (lent_room nums labs t.measures)) in
    record {
      kept_to = λ a. end-within a (walk_within (some a) q rows lent).end (walk_within (some a) q rows lent).state.steps (to a);
      used_up = λ a i p d. rw d at (to a);
      done = λ b f. walk-decides (some b) none q rows lent (task-done p t e nums labs b f);
      larger = task-larger p t e nums labs;
      unpassed = λ b h. walk-decides (some b) none q rows lent (task-unpassed p t e nums labs b h);
      enough = λ s b h. walk-decides (some b) none q rows lent (task-enough p t e nums labs s b h);
    }

-- Rows in lots (R-11): what specs/LotDemands states, for whatever is named first without a refusal.
use mathlib.Core.Path.{◌≡◌, refl, ap, sym, ◌∙◌}
use mathlib.Core.Bool.{Bool, true, false, not, ◌&&◌, ◌||◌, true≢false, and-eq-true_iff}
use mathlib.Core.List.{List, [], ◌∷◌}
use mathlib.Core.Logic.{◌⊎◌, inl, inr}
use mathlib.Core.Option.{Option, some}
use Prim.Native.Nat.{ℕ, zero, suc, ◌+◌, ◌*◌, ◌%◌, ◌≤◌, ◌<◌}
use native.Mathlib.Nat.{le_trans, not-suc-le-zero, le_of_suc-le-suc, mul-le-mul, mul-div_cancel, mul-mod_left}
use native.Mathlib.Omega.{arith}
use lib.Arith.{digits_lt}
use lib.Dec.{ltb, eqb}
use lib.IntN.{ℤ, pos}
use lib.ListN.{length, get_or, take}
use lib.Seq.{length-take-le}
use borrow.Author.Tests.{ltb-true, ltb-false, lt-ltb, le-ltb, eqb-true, leb-true}
use Rattle.rules.specs.Basics.{pick, in_range, every}
use Rattle.rules.specs.Rows.{Table, table_of, entry, holds}
use Rattle.rules.specs.Query.{Record, one_of, in_order, kinds, records, misplaced, unfit, field, first_of_kind, shape_fits, record_fits, columns_of, text_of, parts}
use Rattle.rules.specs.Language.{Tree, pattern, letters, has_dollar, WrongAt, Unfinished}
use Rattle.rules.specs.Reader.{tree_of, stop_of}
use Rattle.rules.specs.Places.{Place, p_letter, p_caret, p_dollar, p_fork, p_end}
use Rattle.rules.specs.Walk.{Ways, pairs, pass_if, pair_at, ways_at, pair_ways, place_of, position_of}
use Rattle.rules.specs.Search.{asks_row, halting_of}
use Rattle.rules.specs.Report.{bytes_for}
use Rattle.rules.specs.Answers.{no_tree, tree_in, wrong, incomplete, offset_at, P, letters_in, Task, task_of, letter_holds, bad_rows, pairs_of, short_notes, short_trail, Test, first_of, refuses, query_tests, refusal, F}
use Rattle.rules.specs.Lots.{present_rows, Named, named_pairs, bad_lot, Progress, dollar_in, settles, looks_ahead, lot_tests, begin_answer, call_refusal, present_task}
use Rattle.rules.specs.LotDemands.{Lot, Later}
use Rattle.laws.proofs.Accepted.{Granted, query_tests-refuse, granted_when}
use Rattle.laws.proofs.GoesOn.{Sooner}
use Rattle.laws.proofs.Level.{and-true, or-false}
use Rattle.laws.proofs.Limits.{task-rows}
use Rattle.laws.proofs.FirstTrue.{all_refuse, applies, given-applies, first-after, none_before, none_true}
use Rattle.laws.proofs.Stops.{wrong-exactly, incomplete-exactly}
use Rattle.laws.proofs.PlaceLetters.{Passes}
use Rattle.laws.proofs.Present.{comparisons_fit, Extends, holds_same}

-- ---- a query that is read has a column

module _ (s : List ℕ) (columns : ℕ) where
  first_kind : (rs : List Record) → in_order (kinds rs) ≡ true → every (record_fits s columns) rs ≡ true → 1 ≤ field s (first_of_kind 1 rs) 0
  unfolding in_order one_of kinds every first_of_kind record_fits shape_fits in_range
  first_kind [] o f = absurd (true≢false (sym o))
  first_kind (r ∷ rs) o f =
      let k : eqb r.kind 1 ≡ true = (and-true (eqb r.kind 1) _ o).0 in
      let a : shape_fits s r ≡ true = rw k at (and-true (record_fits s columns r) (every (record_fits s columns) rs) f).0 in
      let b = (and-true (eqb r.len 2) (in_range 1 8 (field s r 0) && eqb (field s r 1) 0) a).1 in
      let c = (and-true (in_range 1 8 (field s r 0)) (eqb (field s r 1) 0) b).0 in
      rw k (leb-true 1 (field s r 0) (and-true _ _ c).0)

not-false_is : (b : Bool) → not b ≡ false → b ≡ true
not-false_is true e = refl
not-false_is false e = absurd (true≢false e)

some_columns : (q : List ℕ) → misplaced q ≡ false → unfit q ≡ false → 1 ≤ columns_of q
unfolding misplaced unfit columns_of
some_columns q o f = first_kind q (columns_of q) (records q) (not-false_is _ o) (not-false_is _ f)

-- ---- what holds where the search may begin

pub record Begins_well (s : Named) : Type 0 where
  pub tests : first_of (query_tests s.query) ≡ 0
  pub no_dollar : dollar_in (tree_in s.query) ≡ false
  pub settled : every (settles s.query) (letters_in (tree_in s.query)) ≡ true
  pub few : s.largest ≤ 4096
  pub notes_long : bytes_for (named_pairs s) ≤ length s.lent.notes
  pub trail_long : named_pairs s ≤ length s.lent.trail

-- the tests behind those that ask the query alone
abbrev rest_tests : Named → Bool → Bool → List Test
rest_tests s bad fewer =
    (17, looks_ahead s.query)
    ∷ (10, ltb 4096 s.largest || bad)
    ∷ (11, ltb (length s.lent.notes) (bytes_for (named_pairs s)))
    ∷ (12, ltb (length s.lent.trail) (named_pairs s))
    ∷ (21, fewer)
    ∷ []

tests-refuse : (s : Named) (bad fewer : Bool) → all_refuse (lot_tests s bad fewer) ≡ true
unfolding lot_tests query_tests all_refuse every refuses
tests-refuse s bad fewer = refl

-- where no test is true; the tests that ask the query alone are indexed 0 to 9
pub tests-well : (s : Named) (bad fewer : Bool) → first_of (lot_tests s bad fewer) ≡ 0 → Begins_well s × (bad ≡ false) × (fewer ≡ false)
unfolding lot_tests query_tests looks_ahead refuses
tests-well s bad fewer e =
    let no : (i : ℕ) → (get_or (lot_tests s bad fewer) i (0, false)).1 ≡ false = none_true (lot_tests s bad fewer) (tests-refuse s bad fewer) e in
    let o = or-false (dollar_in (tree_in s.query)) (not (every (settles s.query) (letters_in (tree_in s.query)))) (no 10) in
    let r = or-false (ltb 4096 s.largest) bad (no 11) in (
      record {
        tests = none_before (query_tests s.query) (rest_tests s bad fewer) (query_tests-refuse s.query) (ap refuses e);
        no_dollar = o.0;
        settled = not-false_is _ o.1;
        few = ltb-false 4096 s.largest r.0;
        notes_long = ltb-false (length s.lent.notes) (bytes_for (named_pairs s)) (no 12);
        trail_long = ltb-false (length s.lent.trail) (named_pairs s) (no 13);
      },
      r.1,
      no 14,
    )

pub begins-well : (s : Named) → begin_answer s ≡ 0 → Begins_well s
unfolding begin_answer
begins-well s e = (tests-well s false false e).0

-- a call that is not refused: what was named is good, the rows are a lot, and not fewer than before
lot_from : (s : Named) (rows : List ℤ) (present : ℕ) → bad_lot s rows present ≡ false → Lot s rows present
unfolding bad_lot
lot_from s rows present e =
    let a = or-false (not (eqb (length rows % columns_of s.query) 0)) _ e in
    let b = or-false (ltb s.largest present) _ a.1 in
    record {
      whole = eqb-true (length rows % columns_of s.query) 0 (not-false_is _ a.0);
      few = ltb-false s.largest present b.0;
      held = ltb-false (length rows) (present * columns_of s.query) b.1;
    }

pub lot_good : (s : Named) (rows : List ℤ) (present : ℕ) → Lot s rows present → bad_lot s rows present ≡ false
unfolding bad_lot
lot_good s rows present lot = rw (lot.whole, le-ltb s.largest present lot.few, le-ltb (length rows) (present * columns_of s.query) lot.held)

pub call-well : (s : Named) (p : Progress) (rows : List ℤ) (present : ℕ) → call_refusal s p rows present ≡ 0 → Begins_well s × Lot s rows present × (p.present ≤ present)
unfolding call_refusal
call-well s p rows present e =
    let w = tests-well s (bad_lot s rows present) (ltb present p.present) e in
    (w.0, lot_from s rows present w.1, ltb-false present p.present w.2)

-- what a call is refused with, where what was named is good
pub call-refusal : (s : Named) → Begins_well s → (p : Progress) (rows : List ℤ) (present : ℕ)
    → call_refusal s p rows present ≡ pick (bad_lot s rows present) 10 (pick (ltb present p.present) 21 0)
unfolding call_refusal lot_tests first_of looks_ahead
call-refusal s ok p rows present =
    first-after (query_tests s.query) (rest_tests s (bad_lot s rows present) (ltb present p.present)) (query_tests-refuse s.query) ok.tests
    ∙ rw (
      ok.no_dollar,
      ok.settled,
      le-ltb 4096 s.largest ok.few,
      le-ltb (length s.lent.notes) (bytes_for (named_pairs s)) ok.notes_long,
      le-ltb (length s.lent.trail) (named_pairs s) ok.trail_long,
    ) refl

pub call-unrefused : (s : Named) → Begins_well s → (p : Progress) (rows : List ℤ) (present : ℕ) → Lot s rows present → p.present ≤ present → call_refusal s p rows present ≡ 0
call-unrefused s ok p rows present lot le =
    call-refusal s ok p rows present ∙ rw (lot_good s rows present lot, le-ltb present p.present le) refl

only-left : (b : Bool) → (b || false) ≡ true → b ≡ true
only-left true e = refl
only-left false e = e

-- answer 5: the query's text is wrong at the offset that goes with it; 14: it could go on, and its
-- length goes with it
pub refused-5 : (s : Named) (bad fewer : Bool) → first_of (lot_tests s bad fewer) ≡ 5 → WrongAt (text_of s.query) (offset_at (text_of s.query) 5)
unfolding lot_tests query_tests applies offset_at
refused-5 s bad fewer e =
    let t : wrong (text_of s.query) ≡ true = only-left (wrong (text_of s.query)) (given-applies (lot_tests s bad fewer) 5 (λ z. omega arith) e) in
    (wrong-exactly (text_of s.query) (stop_of (text_of s.query))).0 (t, refl)

pub refused-14 : (s : Named) (bad fewer : Bool) → first_of (lot_tests s bad fewer) ≡ 14 → Unfinished (text_of s.query) × (offset_at (text_of s.query) 14 ≡ length (text_of s.query))
unfolding lot_tests query_tests applies offset_at incomplete
refused-14 s bad fewer e =
    let t : incomplete (text_of s.query) ≡ true = only-left (incomplete (text_of s.query)) (given-applies (lot_tests s bad fewer) 14 (λ z. omega arith) e) in
    let l = (and-eq-true_iff (no_tree (tree_of (text_of s.query))) (eqb (stop_of (text_of s.query)) (length (text_of s.query)))).0 t in
    ((incomplete-exactly (text_of s.query)).0 t, eqb-true (stop_of (text_of s.query)) (length (text_of s.query)) l.1)

-- ---- the rows present

get_d_take : {A : Type 0} (k : ℕ) (xs : List A) (j : ℕ) (d : A) → j < k → get_or (take k xs) j d ≡ get_or xs j d
get_d_take zero xs j d h = absurd (not-suc-le-zero h)
get_d_take (suc k) [] j d h = refl
get_d_take (suc k) (x ∷ xs) zero d h = refl
get_d_take (suc k) (x ∷ xs) (suc j) d h = get_d_take k xs j d (le_of_suc-le-suc h)

bytes-more : (a b : ℕ) → a ≤ b → bytes_for a ≤ bytes_for b
unfolding bytes_for
bytes-more a b h = omega arith

product_le : (a b c d : ℕ) → a ≤ c → b ≤ d → a * b ≤ c * d
product_le a b c d h k = mul-le-mul h k

module _ (s : Named) (ok : Begins_well s) where
  abbrev q : List ℕ
  q = s.query

  no_test : (i : ℕ) → (get_or (query_tests q) i (0, false)).1 ≡ false
  no_test = none_true (query_tests q) (query_tests-refuse q) ok.tests

  ordered : misplaced q ≡ false
  unfolding query_tests
  ordered = no_test 1

  pub fitting : unfit q ≡ false
  unfolding query_tests
  fitting = no_test 2

  columns-some : 1 ≤ columns_of q
  columns-some = some_columns q ordered fitting

  module _ (rows : List ℤ) (present : ℕ) (lot : Lot s rows present) where
    abbrev now : List ℤ
    now = present_rows q rows present

    now-length : length now ≡ present * columns_of q
    unfolding present_rows
    now-length = length-take-le (present * columns_of q) rows lot.held

    now-rows : (table_of (columns_of q) now).n ≡ present
    unfolding table_of
    now-rows = rw now-length (mul-div_cancel present columns-some)

    -- the rows present are refused by nothing, with the buffers that were named
    pub now-unrefused : refusal q now s.lent ≡ 0
    unfolding refusal bad_rows short_notes short_trail pairs_of named_pairs first_of
    now-unrefused =
        let S : ℕ = P (tree_in q) * F (tree_in q) in
        let ps : pairs S present ≤ named_pairs s = product_le S (suc present) S (suc s.largest) (omega arith) (omega (arith, lot.few)) in
        let m : length now % columns_of q ≡ 0 = rw now-length (mul-mod_left present (columns_of q)) in
        let b₁ : bad_rows q now ≡ false = rw (m, now-rows, le-ltb 4096 present (omega (arith, lot.few, ok.few))) in
        let b₂ : short_notes q now s.lent ≡ false = rw now-rows (le-ltb (length s.lent.notes) (bytes_for (pairs S present)) (le_trans (bytes-more (pairs S present) (named_pairs s) ps) ok.notes_long)) in
        let b₃ : short_trail q now s.lent ≡ false = rw now-rows (le-ltb (length s.lent.trail) (pairs S present) (le_trans ps ok.trail_long)) in
        first-after (query_tests q) ((10, bad_rows q now) ∷ (11, short_notes q now s.lent) ∷ (12, short_trail q now s.lent) ∷ []) (query_tests-refuse q) ok.tests ∙ rw (b₁, b₂, b₃)

    pub now-granted : Granted q now s.lent
    now-granted = granted_when q now s.lent now-unrefused

    pub task-n : (present_task s rows present).table.n ≡ present
    unfolding present_task
    task-n = ap (λ (t : Table). t.n) (task-rows q now) ∙ now-rows

-- ---- rows that come later

and_none : (b : Bool) → (b && false) ≡ false
and_none true = refl
and_none false = refl

-- over places of which none is for `$`, and whose letters settle at their own row
module _ (f : ℕ → Bool) (holds₁ holds₂ : ℕ → ℕ → Bool) (n₁ n₂ : ℕ) (le : n₁ ≤ n₂) (agree : (c i : ℕ) → f c ≡ true → i < n₁ → holds₁ c i ≡ holds₂ c i) (more₂ : Bool) where
  abbrev Pairwise : Bool → Bool → Ways → Ways → Type 0
  Pairwise w₁ w₂ u v = (w₁ ≡ true) ⊎ ((w₁ ≡ false) × (w₂ ≡ false) × (u ≡ v))

  place-sooner : (N : ℕ) (p : Place) → Passes f p → (i : ℕ)
      → Pairwise (true && (asks_row p && not (ltb i n₁))) (more₂ && (asks_row p && not (ltb i n₂))) (ways_at holds₁ n₁ N p i) (ways_at holds₂ n₂ N p i)
  unfolding ways_at
  place-sooner N (p_letter c k) a i = go (ltb i n₁) refl
    where
      go : (t : Bool) → ltb i n₁ ≡ t
          → Pairwise (not t) (more₂ && not (ltb i n₂)) (pass_if (t && holds₁ c i) (pair_at N (suc i) k)) (pass_if (ltb i n₂ && holds₂ c i) (pair_at N (suc i) k))
      go false e = inl refl
      go true e =
          let l = ltb-true i n₁ e in
          let h : ltb i n₂ ≡ true = lt-ltb i n₂ (le_trans l le) in
          inr (refl, rw h (and_none more₂), rw (h, agree c i a l))
  place-sooner N (p_caret k) a i = inr (refl, and_none more₂, refl)
  place-sooner N (p_dollar k) a i = absurd a
  place-sooner N (p_fork ks) a i = inr (refl, and_none more₂, refl)
  place-sooner N p_end a i = inr (refl, and_none more₂, refl)

  pub places-sooner : (pl : List Place) → ((x : ℕ) → Passes f (get_or pl x (p_fork []))) → (largest : ℕ) (allowance : Option ℕ)
      → Sooner (halting_of (record { largest = largest; more = true; allowance = allowance }) pl n₁) (halting_of (record { largest = largest; more = more₂; allowance = allowance }) pl n₂)
      (pair_ways holds₁ n₁ pl) (pair_ways holds₂ n₂ pl)
  unfolding halting_of pair_ways
  places-sooner pl pass largest allowance =
      record {
        ways = λ x. place-sooner (length pl) (get_or pl (place_of (length pl) x) (p_fork [])) (pass (place_of (length pl) x)) (position_of (length pl) x);
        steps = λ s e. e;
      }

-- a letter at a row of a task
holds-is : (q : List ℕ) (rows : List ℤ) (c i : ℕ) → letter_holds (task_of q rows) c i ≡ holds (table_of (columns_of q) rows) i ((parts q).condition c)
unfolding letter_holds task_of parts
holds-is q rows c i = refl

pub every_holds : (f : ℕ → Bool) (o : Option (Tree pattern)) (p : Tree pattern) → o ≡ some p → every f (letters_in o) ≡ true → every f (letters p) ≡ true
unfolding letters_in
every_holds f o p e h = rw e at h

pub dollar-free : (o : Option (Tree pattern)) (p : Tree pattern) → o ≡ some p → dollar_in o ≡ false → has_dollar p ≡ false
unfolding dollar_in
dollar-free o p e h = rw e at h

module _ (s : Named) (ok : Begins_well s) (rows₁ rows₂ : List ℤ) (n₁ n₂ : ℕ) (lot₁ : Lot s rows₁ n₁) (lot₂ : Lot s rows₂ n₂) (later : Later s rows₁ rows₂ n₁ n₂) where
  abbrev t₁ : Task
  t₁ = present_task s rows₁ n₁

  abbrev t₂ : Task
  t₂ = present_task s rows₂ n₂

  -- the tables agree at the rows that were present
  tables-extend : Extends (table_of (columns_of s.query) (present_rows s.query rows₁ n₁)) (table_of (columns_of s.query) (present_rows s.query rows₂ n₂))
  unfolding table_of entry present_rows
  tables-extend =
      record {
        columns = refl;
        rows = rw (now-rows s ok rows₁ n₁ lot₁, now-rows s ok rows₂ n₂ lot₂) later.more;
        entries = λ row column a b.
            let c : ℕ = columns_of s.query in
            let k : row * c + column < n₁ * c = digits_lt {q = row} {m = n₁} (rw (now-rows s ok rows₁ n₁ lot₁) at a) b in
            let d : n₁ * c ≤ n₂ * c = product_le n₁ c n₂ c later.more (omega arith) in
            ap (λ (xs : List ℤ). get_or xs (row * c + column) (pos 0)) later.same
            ∙ get_d_take (n₁ * c) rows₂ (row * c + column) (pos 0) k ∙ sym (get_d_take (n₂ * c) rows₂ (row * c + column) (pos 0) (le_trans k d));
      }

  pub task-extends : Extends t₁.table t₂.table
  unfolding present_task task_of parts
  task-extends = tables-extend

  -- whether a letter of the pattern holds at a present row does not depend on the rows that come
  -- later
  pub letters-agree : (c i : ℕ) → settles s.query c ≡ true → i < n₁ → letter_holds t₁ c i ≡ letter_holds t₂ c i
  unfolding present_task settles
  letters-agree c i a h =
      holds-is s.query (present_rows s.query rows₁ n₁) c i
      ∙ holds_same (table_of (columns_of s.query) (present_rows s.query rows₁ n₁)) (table_of (columns_of s.query) (present_rows s.query rows₂ n₂)) tables-extend
      ((parts s.query).condition c) i (comparisons_fit s.query (fitting s ok) c) a (rw (now-rows s ok rows₁ n₁ lot₁) h)
      ∙ sym (holds-is s.query (present_rows s.query rows₂ n₂) c i)

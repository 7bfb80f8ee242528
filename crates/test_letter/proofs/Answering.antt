-- The test of a letter, by the ways through the code: what a prepared query gives, and the answers.
use mathlib.Core.Path.{◌≡◌, refl, sym, ap, ◌∙◌}
use mathlib.Core.Bool.{Bool, true, false, not, ◌&&◌}
use mathlib.Core.List.{List, [], ◌∷◌}
use Prim.Native.Nat.{ℕ, ◌+◌, ◌*◌, ◌-◌, ◌/◌, ◌%◌, ◌≤◌, ◌<◌, min}
use native.Mathlib.Nat.{mul-le-mul, div-add-mod'}
use native.Mathlib.Omega.{arith}
use lib.Dec.{eqb, ltb, leb}
use lib.IntN.{ℤ}
use lib.ListN.{length}
use mir.Syntax.{w64}
use mir.Val.{Fits}
use borrow.Author.Tests.{eqb-true, eq-eqb, ne_eqb, ltb-false, lt-leb, not-false}
use Rattle.std.specs.Prelude.{Result, Ok, Err, Some, None}
use Rattle.refusals.specs.Refusals.{answer_of, offset_of}
use Rattle.refusals.specs.declared.Refusal.{Refusal}
use Rattle.refusals.specs.declared.Refusal.TheVariants.{BadRows}
use Rattle.refusals.proofs.Numbers.{some_answer}
use Rattle.prepared.proofs.Enough.{too_few}
use Rattle.judging.specs.declared.Judged.{Judged}
use Rattle.rules.specs.Basics.{pick, in_range, is_letter, every}
use Rattle.rules.specs.Rows.{table_of, all_of, holds, judged_in, judged}
use Rattle.rules.specs.Query.{columns_of, text_of, unfit, parts}
use Rattle.rules.specs.Answers.{bad_rows, first_of, query_tests, offset_at, room_answer, task_of, letter_holds, test_of}
use Rattle.laws.proofs.Accepted.{query_tests-refuse}
use Rattle.laws.proofs.FirstTrue.{first-before, first-after, none_true}
use Rattle.laws.proofs.Judged.{no-letter}
use Rattle.laws.proofs.Level.{or-false}
use Rattle.laws.proofs.Truths.{all_met}
use Rattle.sizes.specs.Sizes.{bad_count}
use Rattle.reading.specs.Reading.{query_answer}
use Rattle.table.specs.Tests.{condition_in}
use Rattle.table_room.specs.Words.{tests_at}
use Rattle.comparisons.specs.Spots.{FarBack}
use Rattle.comparisons.proofs.Entries.{At}
use Rattle.comparisons.proofs.Reading.{Words}
use Rattle.prepared.specs.Ready.{Given, PreparedAs}
use Rattle.prepared.specs.declared.Prepared.{Prepared}
use Rattle.judging.specs.Judging.{holds_from, judged_from, Judgeable}
use Rattle.judging.proofs.Rules.{holds-judged}
use Rattle.test_letter.specs.declared.Tested.{Tested}
use Rattle.test_letter.specs.Tests.{Asks, TestedAs, refused_test, tested}

-- ---- the answers

fitting : (q : List ℕ) → query_answer q ≡ 0 → unfit q ≡ false
unfolding query_answer query_tests
fitting q e = none_true (query_tests q) (query_tests-refuse q) e 2

module _ (q : List ℕ) (rows : List ℤ) (letter row : ℕ) where
  -- a refusal
  refuses : (a k : ℕ) → room_answer q (bad_rows q rows) ≡ a → (a ≡ 0 → ⊥) → k ≡ offset_at (text_of q) a → (r : Tested) → r ≡ refused_test a k → TestedAs q rows letter row r
  unfolding test_of
  refuses a k e d o r b =
      let z : eqb (room_answer q (bad_rows q rows)) 0 ≡ false = ne_eqb (room_answer q (bad_rows q rows)) 0 (λ w. d (sym e ∙ w)) in
      rw b (record { answer = rw z (sym e); holds = rw z refl; judged = rw z refl; offset = rw (z, e) o })

  query_answer_lem : (query_answer q ≡ 0 → ⊥) → room_answer q (bad_rows q rows) ≡ query_answer q
  unfolding room_answer query_answer
  query_answer_lem d = first-before (query_tests q) ((10, bad_rows q rows) ∷ []) d

  rows-answer : query_answer q ≡ 0 → room_answer q (bad_rows q rows) ≡ pick (bad_rows q rows) 10 0
  unfolding room_answer query_answer first_of
  rows-answer e = first-after (query_tests q) ((10, bad_rows q rows) ∷ []) (query_tests-refuse q) e

  pub query_refused : (a k : ℕ) → a ≡ query_answer q → k ≡ offset_at (text_of q) a → (a ≡ 0 → ⊥) → (r : Tested) → r ≡ refused_test a k → TestedAs q rows letter row r
  query_refused a k e o d r b = refuses a k (query_answer_lem (λ z. d (e ∙ z)) ∙ sym e) d o r b

  module _ (z : query_answer q ≡ 0) where
    pub rows-refused : bad_rows q rows ≡ true → (r : Tested) → r ≡ refused_test 10 0 → TestedAs q rows letter row r
    unfolding offset_at
    rows-refused t r b = refuses 10 0 (rows-answer z ∙ rw t refl) (λ w. omega arith) refl r b

    -- a test that is made
    pub made : bad_rows q rows ≡ false → (h : Bool) (k : ℕ) → h ≡ holds (table_of (parts q).columns rows) row ((parts q).condition letter)
        → k ≡ judged (table_of (parts q).columns rows) row ((parts q).condition letter) → (r : Tested) → r ≡ tested h k → TestedAs q rows letter row r
    unfolding test_of letter_holds task_of
    made f h k eh ek r b =
        let y : eqb (room_answer q (bad_rows q rows)) 0 ≡ true = eq-eqb (room_answer q (bad_rows q rows)) 0 (rows-answer z ∙ rw f refl) in
        rw b (record { answer = rw y refl; holds = rw y (ap (λ (t : Bool). pick t 1 0) eh); judged = rw y ek; offset = rw y refl })

-- ---- what a prepared query gives

module _ (T : List ℕ) (p : Prepared) (a : Asks T (Ok p)) where
  pub some_column : 1 ≤ p.columns
  some_column = a.given.told.some_columns

  pub few_columns : p.columns ≤ 8
  few_columns = a.given.told.most_columns

  pub few_places : p.places ≤ 2048
  few_places = a.given.told.few

  -- the words of a letter
  module _ (letter : ℕ) (low : 65 ≤ letter) (high : letter ≤ 90) (tests : ℕ) (et : tests ≡ tests_at p.places) where
    pub judgeable : Judgeable T (tests + (letter - 65) * 16)
    judgeable =
        let r = a.given.told.tests in
        rw et (record {
          long = let l = r.long in omega arith;
          more = r.more (letter - 65) (omega arith);
          entries = r.entries (letter - 65) (omega arith);
        })

-- so few rows
module _ (entries columns n : ℕ) (h : (bad_count entries columns ≡ false) × (n ≡ entries / columns)) where
  counted : (entries % columns ≡ 0) × (entries / columns ≤ 4096)
  unfolding bad_count
  counted =
      let g = or-false (not (eqb (entries % columns) 0)) (ltb 4096 (entries / columns)) h.0 in
      (eqb-true (entries % columns) 0 (not-false (eqb (entries % columns) 0) g.0), ltb-false 4096 (entries / columns) g.1)

  pub few_rows : n ≤ 4096
  few_rows = let c = counted.1 in let e = h.1 in omega arith

pub base_fits : (near columns : ℕ) → near ≤ 4160 → columns ≤ 8 → Fits w64 (near * columns)
base_fits near columns a b = let m : near * columns ≤ 4160 * 8 = mul-le-mul a b in record { fits = omega arith }

-- ---- the ways

module _ (T : List ℕ) (rows : List ℤ) (letter row : ℕ) where
  pub test_refuses : (e : Refusal) → (q : List ℕ) → Given q T (Err e) → TestedAs q rows letter row (refused_test (answer_of e) (offset_of e))
  test_refuses e q g = query_refused q rows letter row (answer_of e) (offset_of e) g.told.answer g.told.offset (some_answer e) (refused_test (answer_of e) (offset_of e)) refl

  module _ (p : Prepared) where
    the_columns : (q : List ℕ) → Given q T (Ok p) → p.columns ≡ columns_of q
    unfolding parts
    the_columns q g = g.told.columns_are

    the_rows : (q : List ℕ) → Given q T (Ok p) → bad_rows q rows ≡ bad_count (length rows) p.columns
    unfolding bad_rows bad_count table_of
    the_rows q g = rw (← the_columns q g) refl

    pub test_rows : (e : Refusal) → (bad_count (length rows) p.columns ≡ true) × (e ≡ BadRows) → (q : List ℕ) → Given q T (Ok p) → TestedAs q rows letter row (refused_test (answer_of e) (offset_of e))
    test_rows e h q g = rw (h.1) (rows-refused q rows letter row g.told.none (the_rows q g ∙ h.0) (refused_test 10 0) refl)

    module _ (n : ℕ) (h : (bad_count (length rows) p.columns ≡ false) × (n ≡ length rows / p.columns)) where
      -- a byte that is no letter
      free : is_letter letter ≡ false → (q : List ℕ) → Given q T (Ok p) → TestedAs q rows letter row (tested true 0)
      unfolding judged judged_in every
      free x q g =
          let c : (parts q).condition letter ≡ all_of [] = no-letter q (fitting q g.told.none) letter x in
          made q rows letter row g.told.none (the_rows q g ∙ h.0) true 0 (rw c (sym (all_met (table_of (parts q).columns rows) row []))) (rw c refl) (tested true 0) refl

      pub test_low : letter < 65 → (q : List ℕ) → Given q T (Ok p) → TestedAs q rows letter row (tested true 0)
      unfolding is_letter in_range
      test_low l = free (rw (lt-leb 65 letter l) refl)

      pub test_high : 90 < letter → (q : List ℕ) → Given q T (Ok p) → TestedAs q rows letter row (tested true 0)
      unfolding is_letter in_range
      test_high l = free (high (leb 65 letter) (lt-leb letter 90 l))
        where
          high : (x : Bool) {y : Bool} → y ≡ false → (x && y) ≡ false
          high true e = e
          high false e = refl

      -- a letter
      pub test_made : 65 ≤ letter → letter ≤ 90 → Words T → (near from tests : ℕ) → near ≡ min row (n + 64) → FarBack p.columns (near * p.columns) from
          → tests ≡ tests_at p.places → (j : Judged) → j.holds ≡ holds_from T rows from (tests + (letter - 65) * 16) → j.count ≡ judged_from T rows from (tests + (letter - 65) * 16)
          → (q : List ℕ) → Given q T (Ok p) → TestedAs q rows letter row (tested j.holds j.count)
      test_made low high words near from tests en far et j eh ek q g =
          let a = g.told in
          let w = few_rows (length rows) p.columns n h in
          let v = (counted (length rows) p.columns n h).0 in
          let i = h.1 in
          let d : length rows / p.columns * p.columns + length rows % p.columns ≡ length rows = div-add-mod' (length rows) p.columns in
          let m : near ≡ min row (length rows / p.columns + 64) = en ∙ ap (λ (k : ℕ). min row (k + 64)) i in
          let is : At rows p.columns (length rows / p.columns) row from = record {
            some = a.some_columns;
            few = a.most_columns;
            most = omega arith;
            all = omega (arith, d, v);
            far = rw m at far;
          } in
          let u = holds-judged T words rows p.columns (length rows / p.columns) row from is (tests + (letter - 65) * 16) in
          let c : condition_in T p.columns (tests + (letter - 65) * 16) ≡ (parts q).condition letter =
          rw et (a.letters (letter - 65) (omega arith) ∙ ap (λ (i : ℕ). (parts q).condition i) (let e : 65 + (letter - 65) ≡ letter = omega arith in e)) in
          let o = a.columns_are in
          made q rows letter row a.none (the_rows q g ∙ h.0) j.holds j.count (eh ∙ u.0 ∙ rw (c, o) refl) (ek ∙ u.1 ∙ rw (c, o) refl) (tested j.holds j.count) refl

-- what the proof of `test_prepared` cites
pub ruleset tests = (few_rows, base_fits)

-- ---- prepared, then tested

-- a table of 16,076 words is enough
pub enough : (q T T' : List ℕ) → length T ≡ 16076 → PreparedAs q T T' None → ⊥
enough q T T' l h = let z = too_few q T T' 16076 h l (omega arith) in omega arith

module _ (q T T' : List ℕ) (r : Result Prepared Refusal) (h : PreparedAs q T T' (Some r)) where
  pub may_test : Asks T' r
  may_test = record { query = q; given = h.told }

  pub has_tested : (rows : List ℤ) (letter c row : ℕ) (t : Tested) → c ≡ letter → ((q : List ℕ) → Given q T' r → TestedAs q rows c row t) → TestedAs q rows letter row t
  has_tested rows letter c row t w e = rw (← w) (e q h.told)

pub ruleset tabled = (may_test, has_tested, enough)

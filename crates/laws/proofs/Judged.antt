-- R-6: how many comparisons of a letter are judged, and what the public test of a letter at a row
-- returns.
use mathlib.Core.Path.{◌≡◌, refl, ap, sym, ◌∙◌}
use mathlib.Core.Bool.{Bool, true, false, ◌&&◌, ◌||◌, true≢false}
use mathlib.Core.List.{List, [], ◌∷◌, ◌++◌}
use Prim.Native.Nat.{ℕ, zero, suc, ◌+◌, ◌*◌, ◌≤◌}
use native.Mathlib.Omega.{arith}
use lib.Dec.{leb, eqb}
use lib.IntN.{ℤ}
use lib.ListN.{length, take, length-append}
use borrow.Author.Tests.{leb-true, eqb-true, ne_eqb}
use Rattle.rules.specs.Basics.{pick, in_range, is_letter, every, every_below, tabulate}
use Rattle.rules.specs.Rows.{Table, Comparison, met, Condition, all_of, postfix, holds, comparisons_in, judged_in, judged}
use Rattle.rules.specs.Query.{Record, field, comparison_fits, comparison_at, define_fits, entries_fit, entries_end, entries_of, leaves_one, postfix_fits, record_fits, columns_of, records, unfit, is_define, comparisons_of, condition_of, condition_from, parts}
use Rattle.rules.specs.Answers.{Buffers, bad_rows, query_tests, short_notes, short_trail, refusal, refuses, first_of, room_answer, task_of, letter_holds, test_of}
use Rattle.laws.proofs.FirstTrue.{all_refuse, none_before}
use Rattle.laws.proofs.Level.{and-true}
use Rattle.laws.proofs.Present.{record_define, record_postfix, records-fit}
use Rattle.laws.proofs.Truths.{all_met}

-- ---- judged

module _ (t : Table) (row : ℕ) where
  judged-in_few : (cs : List Comparison) → judged_in t row cs ≤ length cs
  unfolding judged_in
  judged-in_few [] = omega arith
  judged-in_few (c ∷ cs) = go (met t row c) (judged-in_few cs)
    where
      go : (b : Bool) → judged_in t row cs ≤ length cs → suc (pick b (judged_in t row cs) 0) ≤ suc (length cs)
      go true h = omega arith
      go false h = omega arith

  -- no more are judged than there are
  pub judged-few : (c : Condition) → judged t row c ≤ length (comparisons_in c)
  unfolding judged comparisons_in
  judged-few (all_of cs) = judged-in_few cs
  judged-few (postfix es) = omega arith

  judged-met : (cs : List Comparison) → every (met t row) cs ≡ every (met t row) (take (judged_in t row cs) cs)
  unfolding judged_in every
  judged-met [] = refl
  judged-met (c ∷ cs) = go (met t row c) refl (judged-met cs)
    where
      go : (b : Bool) → met t row c ≡ b → every (met t row) cs ≡ every (met t row) (take (judged_in t row cs) cs)
          → (met t row c && every (met t row) cs) ≡ every (met t row) (take (suc (pick b (judged_in t row cs) 0)) (c ∷ cs))
      go true d ih = rw d ih
      go false d ih = rw d refl

  -- a letter of kind 3, or without DEFINE, holds exactly if all that are judged are met
  pub judged-enough : (cs : List Comparison) → holds t row (all_of cs) ≡ every (met t row) (take (judged t row (all_of cs)) cs)
  unfolding judged
  judged-enough cs = all_met t row cs ∙ judged-met cs

  -- all are judged if none is unmet
  pub judged-all : (cs : List Comparison) → every (met t row) cs ≡ true → judged t row (all_of cs) ≡ length cs
  unfolding judged judged_in every
  judged-all [] e = refl
  judged-all (c ∷ cs) e = let a = and-true (met t row c) (every (met t row) cs) e in rw a.0 (ap suc (judged-all cs a.1))

  -- up to and with the first unmet one: so many are met before it, and it is one more
  pub judged-first : (before : List Comparison) (c : Comparison) (behind : List Comparison) → every (met t row) before ≡ true → met t row c ≡ false
      → judged t row (all_of (before ++ (c ∷ behind))) ≡ suc (length before)
  unfolding judged judged_in every
  judged-first [] c behind e d = rw d refl
  judged-first (b ∷ before) c behind e d = let a = and-true (met t row b) (every (met t row) before) e in rw a.0 (ap suc (judged-first before c behind a.1 d))

-- ---- the letters of an accepted query

length-tabulate : {A : Type 0} (n : ℕ) (f : ℕ → A) → length (tabulate n f) ≡ n
unfolding tabulate
length-tabulate zero f = refl
length-tabulate (suc n) f = simp length-append (omega (arith, length-tabulate n f))

module _ (s : List ℕ) (columns : ℕ) where
  -- a kind 3 record has a letter and at most 8 comparisons
  fits-3 : (r : Record) → define_fits s columns r ≡ true → (is_letter (field s r 0) ≡ true) × (field s r 1 ≤ 8)
  unfolding define_fits in_range
  fits-3 r e =
      let each : Bool = every_below (field s r 1) (λ k. comparison_fits s columns (r.start + 2 + k * 12)) in
      let few : Bool = leb 1 (field s r 1) && leb (field s r 1) 8 in
      let z = (and-true (eqb r.len (2 + field s r 1 * 12)) (is_letter (field s r 0) && (few && each)) e).1 in
      let y = and-true (is_letter (field s r 0)) (few && each) z in
      let x = (and-true few each y.1).0 in
      (y.0, leb-true (field s r 1) 8 (and-true (leb 1 (field s r 1)) (leb (field s r 1) 8) x).1)

  fits-6 : (r : Record) → postfix_fits s columns r ≡ true → is_letter (field s r 0) ≡ true
  unfolding postfix_fits
  fits-6 r e =
      let last : Bool = entries_fit s columns (field s r 1) (r.start + 2) && leaves_one 0 (entries_of s r) in
      let z = (and-true (eqb (r.len + r.start) (entries_end s (field s r 1) (r.start + 2))) (is_letter (field s r 0) && (in_range 1 16 (field s r 1) && last)) e).1 in
      (and-true (is_letter (field s r 0)) (in_range 1 16 (field s r 1) && last) z).0

  define_letter : (r : Record) → is_define r.kind ≡ true → record_fits s columns r ≡ true → is_letter (field s r 0) ≡ true
  unfolding is_define
  define_letter r d e = go (eqb r.kind 3) refl d
    where
      go : (t : Bool) → eqb r.kind 3 ≡ t → (t || eqb r.kind 6) ≡ true → is_letter (field s r 0) ≡ true
      go true k w = (fits-3 r (record_define s columns r (eqb-true r.kind 3 k) e)).0
      go false k w = fits-6 r (record_postfix s columns r (eqb-true r.kind 6 w) e)

  none_from : (rs : List Record) (c : ℕ) → every (record_fits s columns) rs ≡ true → is_letter c ≡ false → condition_from s rs c ≡ all_of []
  unfolding every condition_from
  none_from [] c e n = refl
  none_from (r ∷ rs) c e n = go (is_define r.kind && eqb (field s r 0) c) refl (none_from rs c a.1 n)
    where
      a : (record_fits s columns r ≡ true) × (every (record_fits s columns) rs ≡ true)
      a = and-true (record_fits s columns r) (every (record_fits s columns) rs) e

      go : (t : Bool) → (is_define r.kind && eqb (field s r 0) c) ≡ t → condition_from s rs c ≡ all_of [] → pick t (condition_of s r) (condition_from s rs c) ≡ all_of []
      go true d ih =
          let b = and-true (is_define r.kind) (eqb (field s r 0) c) d in
          absurd (true≢false (sym (define_letter r b.0 a.0) ∙ ap is_letter (eqb-true (field s r 0) c b.1) ∙ n))
      go false d ih = ih

  judged-from : (rs : List Record) (c : ℕ) → every (record_fits s columns) rs ≡ true → (t : Table) (row : ℕ) → judged t row (condition_from s rs c) ≤ 8
  unfolding every condition_from condition_of judged
  judged-from [] c e t row = omega arith
  judged-from (r ∷ rs) c e t row = go (is_define r.kind && eqb (field s r 0) c) (judged-from rs c a.1 t row)
    where
      a : (record_fits s columns r ≡ true) × (every (record_fits s columns) rs ≡ true)
      a = and-true (record_fits s columns r) (every (record_fits s columns) rs) e

      one : (k : Bool) → eqb r.kind 3 ≡ k → judged t row (pick k (all_of (comparisons_of s r)) (postfix (entries_of s r))) ≤ 8
      one true k =
          let n = judged-in_few t row (comparisons_of s r) in
          let m : length (comparisons_of s r) ≡ field s r 1 = length-tabulate (field s r 1) (λ k. comparison_at s (r.start + 2 + k * 12)) in
          omega (arith, n, m, (fits-3 r (record_define s columns r (eqb-true r.kind 3 k) a.0)).1)
      one false k = omega arith

      go : (b : Bool) → judged t row (condition_from s rs c) ≤ 8 → judged t row (pick b (condition_of s r) (condition_from s rs c)) ≤ 8
      go true ih = one (eqb r.kind 3) refl
      go false ih = ih

-- a byte that is no letter has no DEFINE in a query whose fields fit
pub no-letter : (q : List ℕ) → unfit q ≡ false → (c : ℕ) → is_letter c ≡ false → (parts q).condition c ≡ all_of []
unfolding parts
no-letter q e c n = none_from q (columns_of q) (records q) c (records-fit q e) n

-- at most 8 are judged
pub judged-eight : (q : List ℕ) → unfit q ≡ false → (c : ℕ) (t : Table) (row : ℕ) → judged t row ((parts q).condition c) ≤ 8
unfolding parts
judged-eight q e c t row = judged-from q (columns_of q) (records q) c (records-fit q e) t row

-- ---- the public test

module _ (q : List ℕ) (rows : List ℤ) (letter row : ℕ) where
  -- a refused one returns its number, false and 0
  pub test_refused : (room_answer q (bad_rows q rows) ≡ 0 → ⊥) → ((test_of q rows letter row).answer ≡ room_answer q (bad_rows q rows)) × ((test_of q rows letter row).holds ≡ false) × ((test_of q rows letter row).judged ≡ 0)
  unfolding test_of
  test_refused d = let z : eqb (room_answer q (bad_rows q rows)) 0 ≡ false = ne_eqb (room_answer q (bad_rows q rows)) 0 d in (rw z refl, rw z refl, rw z refl)

  -- of an accepted search, whatever is lent, it returns what the search asks for
  pub test_accepted : (lent : Buffers) → refusal q rows lent ≡ 0
      → ((test_of q rows letter row).answer ≡ 0) × ((test_of q rows letter row).holds ≡ letter_holds (task_of q rows) letter row)
      × ((test_of q rows letter row).judged ≡ judged (task_of q rows).table row ((task_of q rows).condition letter))
  unfolding test_of room_answer refusal query_tests all_refuse every refuses
  test_accepted lent ok =
      let n : first_of (query_tests q ++ ((10, bad_rows q rows) ∷ [])) ≡ 0 =
      none_before (query_tests q ++ ((10, bad_rows q rows) ∷ [])) ((11, short_notes q rows lent) ∷ (12, short_trail q rows lent) ∷ []) refl (ap refuses ok) in
      let z : eqb (first_of (query_tests q ++ ((10, bad_rows q rows) ∷ []))) 0 ≡ true = rw n refl in
      (rw z refl, rw z refl, rw z refl)

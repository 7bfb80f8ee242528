-- Laws of the verdict: the tests in the code's order, what a search may rely on, and that the
-- program prints what each case prints.
use mathlib.Core.Path.{◌≡◌, refl, sym, ap, ◌∙◌}
use mathlib.Core.Bool.{Bool, true, false, not, ◌||◌}
use mathlib.Core.List.{List, [], ◌∷◌}
use Prim.Native.Nat.{ℕ, ◌%◌, ◌≤◌, ◌<◌}
use native.Mathlib.Omega.{arith}
use lib.Dec.{ltb, eqb}
use lib.ListN.{length}
use borrow.Author.Tests.{lt-ltb, le-ltb, ltb-true, ltb-false, eq-eqb, ne_eqb}
use Rattle.rules.specs.Basics.{pick}
use Rattle.rules.specs.Answers.{bad_rows, pairs_of, room_answer, query_tests, refuses, first_of}
use Rattle.rules.specs.Program.{refused_text, too_large, rows_of, printed_for}
use Rattle.laws.proofs.Accepted.{query_tests-refuse}
use Rattle.laws.proofs.FirstTrue.{first-after, first-wider, none_before}
use Rattle.input.specs.declared.Verdict.TheVariants.{Refused, TooLarge, Search}
use Rattle.input.specs.Verdict.{input_verdict, printed_verdict}

-- ---- the code's ways through the tests

module _ (answer bytes pairs : ℕ) where
  pub by_answer : 0 < answer → Refused answer ≡ input_verdict answer bytes pairs
  unfolding input_verdict
  by_answer h = simp (lt-ltb 0 answer h)

  module _ (a : answer ≤ 0) where
    pub by_bytes : (bytes % 4 ≡ 0 → ⊥) → Refused 10 ≡ input_verdict answer bytes pairs
    unfolding input_verdict
    by_bytes d = simp (le-ltb 0 answer a, ne_eqb (bytes % 4) 0 d)

    module _ (w : bytes % 4 ≡ 0) where
      pub by-pairs : 16000 < pairs → TooLarge ≡ input_verdict answer bytes pairs
      unfolding input_verdict
      by-pairs h = simp (le-ltb 0 answer a, eq-eqb (bytes % 4) 0 w, lt-ltb 16000 pairs h)

      pub to_search : pairs ≤ 16000 → Search ≡ input_verdict answer bytes pairs
      unfolding input_verdict
      to_search h = simp (le-ltb 0 answer a, eq-eqb (bytes % 4) 0 w, le-ltb 16000 pairs h)

-- ---- what the cases give

-- what a search may rely on
pub searched : (answer bytes pairs : ℕ) → input_verdict answer bytes pairs ≡ Search → (answer ≡ 0) × (pairs ≤ 16000)
unfolding input_verdict
searched answer bytes pairs e = go _ (not (eqb (bytes % 4) 0)) _ refl refl e
  where
    go : (a b c : Bool) → ltb 0 answer ≡ a → ltb 16000 pairs ≡ c
        → pick a (Refused answer) (pick b (Refused 10) (pick c TooLarge Search)) ≡ Search → (answer ≡ 0) × (pairs ≤ 16000)
    go true b c ea ec e = absurd (let z : ◌≡◌ {A = ℕ} 0 1 = cc in omega arith)
    go false true c ea ec e = absurd (let z : ◌≡◌ {A = ℕ} 0 1 = cc in omega arith)
    go false false true ea ec e = absurd (let z : ◌≡◌ {A = ℕ} 0 1 = cc in omega arith)
    go false false false ea ec e = (omega (arith, ltb-false 0 answer ea), ltb-false 16000 pairs ec)

-- with an answer the number of pairs does not matter
pub pairs-spared : (answer bytes p p' : ℕ) → 0 < answer → input_verdict answer bytes p ≡ input_verdict answer bytes p'
pairs-spared answer bytes p p' h = sym (by_answer answer bytes p h) ∙ by_answer answer bytes p' h

-- row bytes that are no whole numbers are a 10 where there is no other answer, and change no other
module _ (q : List ℕ) (bad : Bool) where
  ragged_ten : room_answer q bad ≡ 0 → room_answer q true ≡ 10
  unfolding room_answer refuses first_of
  ragged_ten e = first-after (query_tests q) ((10, true) ∷ []) (query_tests-refuse q) (none_before (query_tests q) ((10, bad) ∷ []) (query_tests-refuse q) (ap refuses e))

  ragged_same : (ragged : Bool) → 0 < room_answer q bad → room_answer q (ragged || bad) ≡ room_answer q bad
  unfolding room_answer
  ragged_same ragged h = first-wider (query_tests q) 10 ragged bad (λ e. omega arith)

-- the program prints what the cases print
pub printed-verdict : (q r : List ℕ)
    → printed_for q r ≡ printed_verdict (input_verdict (room_answer q (bad_rows q (rows_of r))) (length r) (pairs_of q (rows_of r))) q r
unfolding printed_for input_verdict printed_verdict
printed-verdict q r = go (ltb 0 (room_answer q bad)) (not (eqb (length r % 4) 0)) (ltb 16000 (pairs_of q (rows_of r))) refl
  where
    bad : Bool
    bad = bad_rows q (rows_of r)

    go : (t ragged large : Bool) → ltb 0 (room_answer q bad) ≡ t
        → pick (ltb 0 (room_answer q (ragged || bad))) (refused_text (room_answer q (ragged || bad))) (pick large too_large (printed_verdict Search q r))
        ≡ printed_verdict (pick t (Refused (room_answer q bad)) (pick ragged (Refused 10) (pick large TooLarge Search))) q r
    go true ragged large e =
        let h = ltb-true 0 (room_answer q bad) e in
        rw (ragged_same q bad ragged h, e)
    go false true large e = let h = ltb-false 0 (room_answer q bad) e in rw (ragged_ten q bad (omega arith))
    go false false true e = rw e
    go false false false e = rw e

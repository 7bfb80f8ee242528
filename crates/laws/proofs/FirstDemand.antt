-- Demand 1 (specs/Demands) holds of every input: the answer is the table's, a refusal changes
-- nothing, and 5 and 14 are given exactly if no tree is written in the text. And what an answer
-- that accepts tells (`accepts_when`, `unrefused_by`).
use mathlib.Core.Path.{◌≡◌, refl, ap, sym, ◌∙◌}
use mathlib.Core.Bool.{Bool, true, false, true≢false}
use mathlib.Core.List.{List, [], ◌∷◌, ◌++◌}
use mathlib.Core.Logic.{◌⊎◌, inl, inr, ◌↔◌}
use mathlib.Core.Option.{Option, none, some}
use Prim.Native.Nat.{ℕ, ◌+◌, ◌<◌}
use native.Mathlib.Omega.{arith}
use lib.Dec.{eqb}
use lib.IntN.{ℤ}
use lib.ListN.{length, take, drop, take-append-drop}
use borrow.Author.Tests.{ne_eqb}
use Rattle.rules.specs.Basics.{pick}
use Rattle.rules.specs.Query.{cut, misplaced, unfit, text_of}
use Rattle.rules.specs.Language.{Tree, pattern, Written, WrongAt, BeginsText}
use Rattle.rules.specs.Walk.{out_of_steps, out_of_rows}
use Rattle.rules.specs.Search.{Match, End, done, full, stuck, unfinished}
use Rattle.rules.specs.Reader.{tree_of}
use Rattle.rules.specs.Report.{lent_room, fits}
use Rattle.rules.specs.Answers.{too_deep, tree_in, no_tree, nested_loops, too_many, foreign, wrong, incomplete, offset_at, bad_rows, task_of, letter_holds, walked_on, Buffers, short_notes, short_trail, Memory, first_of, query_tests, refusal, refuses, halt_answer, end_answer, answer_by, walk_within, answer_within, report_within, report_of, refused, accepted, search_within}
use Rattle.rules.specs.Demands.{Accepts, Demand1}
use Rattle.laws.proofs.Accepted.{answer_within_lem, unrefused, tree-of}
use Rattle.laws.proofs.FirstTrue.{end-accepted}
use Rattle.laws.proofs.Grammar.{tree-exactly, one_tree}
use Rattle.laws.proofs.Stops.{begins-front, written-begins, tree-there, refusal_is, answered-5, answered-14}
use Rattle.laws.proofs.Waits.{EndNoWait, search_no_wait}

-- ---- an answer that accepts

accepting : (n : ℕ) → Accepts n → refuses n ≡ false
unfolding refuses
accepting n (inl e) = rw e
accepting n (inr (inl e)) = rw e
accepting n (inr (inr (inl e))) = rw e
accepting n (inr (inr (inr e))) = rw e

end-accepts : (e : End Match) → EndNoWait e → Accepts (end_answer e)
unfolding end_answer halt_answer
end-accepts done w = inl refl
end-accepts (full m) w = inr (inl refl)
end-accepts stuck w = inr (inr (inl refl))
end-accepts (unfinished out_of_steps i p) w = inr (inr (inr refl))
end-accepts (unfinished out_of_rows i p) w = absurd w

module _ (a : Option ℕ) (q : List ℕ) (rows : List ℤ) (lent : Buffers) where
  -- the answer returned is the answer to the input
  pub result_answer : (search_within a q rows lent).result.answer ≡ answer_within a q rows lent
  unfolding search_within refused accepted report_within report_of
  result_answer = go (refuses (answer_within a q rows lent))
    where
      go : (b : Bool) → (pick b (refused (answer_within a q rows lent) (offset_at (text_of q) (answer_within a q rows lent)) lent) (accepted (report_within a q rows lent) (walk_within a q rows lent).state lent)).result.answer
          ≡ answer_within a q rows lent
      go true = refl
      go false = refl

  pub no-waiting : EndNoWait (walk_within a q rows lent).end
  unfolding walk_within walked_on
  no-waiting =
      search_no_wait (task_of q rows).table.n a (letter_holds (task_of q rows)) (task_of q rows).table.n (task_of q rows).places (task_of q rows).skip
      (fits (lent_room (length lent.numbers) (length lent.labels) (task_of q rows).measures))

  -- where no test of a refusal is true the answer accepts, and where it accepts none is
  pub accepts_when : refusal q rows lent ≡ 0 → Accepts (answer_within a q rows lent)
  accepts_when z = rw (answer_within_lem q rows lent a z) (end-accepts (walk_within a q rows lent).end no-waiting)

  pub unrefused_by : Accepts (answer_within a q rows lent) → refusal q rows lent ≡ 0
  unrefused_by h = unrefused q rows lent a (accepting (answer_within a q rows lent) h)

  -- ---- refusals

  given : (k : ℕ) → refuses k ≡ true → refusal q rows lent ≡ k → answer_within a q rows lent ≡ k
  unfolding answer_within answer_by refuses
  given k t e = rw (e, ne_eqb k 0 (λ z. true≢false (sym t ∙ ap refuses z)))

  refused-whole : refuses (answer_within a q rows lent) ≡ true → search_within a q rows lent ≡ refused (answer_within a q rows lent) (offset_at (text_of q) (answer_within a q rows lent)) lent
  unfolding search_within
  refused-whole t = rw t

  unchanged : (Accepts (answer_within a q rows lent) → ⊥) → search_within a q rows lent ≡ refused (answer_within a q rows lent) (search_within a q rows lent).result.offset lent
  unfolding refused
  unchanged d = go (refuses (answer_within a q rows lent)) refl
    where
      go : (b : Bool) → refuses (answer_within a q rows lent) ≡ b → search_within a q rows lent ≡ refused (answer_within a q rows lent) (search_within a q rows lent).result.offset lent
      go true t = let e = refused-whole t in rw e
      go false t = absurd (d (accepts_when (unrefused q rows lent a t)))

  offset_none : (answer_within a q rows lent ≡ 5 → ⊥) → (answer_within a q rows lent ≡ 14 → ⊥) → (search_within a q rows lent).result.offset ≡ 0
  unfolding search_within refused accepted offset_at
  offset_none d e =
      rw (ne_eqb (answer_within a q rows lent) 5 d, ne_eqb (answer_within a q rows lent) 14 e)
      (go (refuses (answer_within a q rows lent)))
    where
      go : (b : Bool) → (pick b (refused (answer_within a q rows lent) 0 lent) (accepted (report_within a q rows lent) (walk_within a q rows lent).state lent)).result.offset ≡ 0
      go true = refl
      go false = refl

  -- ---- 5 and 14

  -- the first four tests are false where a later answer is given
  four-false : (w x y z : Bool) (r k : ℕ) → 4 < k → pick w 1 (pick x 2 (pick y 3 (pick z 4 r))) ≡ k → (w ≡ false) × (x ≡ false) × (y ≡ false) × (z ≡ false)
  four-false true x y z r k l e = absurd (omega arith)
  four-false false true y z r k l e = absurd (omega arith)
  four-false false false true z r k l e = absurd (omega arith)
  four-false false false false true r k l e = absurd (omega arith)
  four-false false false false false r k l e = (refl, refl, refl, refl)

  none_before : (k : ℕ) → 4 < k → refusal q rows lent ≡ k → (cut q ≡ false) × (misplaced q ≡ false) × (unfit q ≡ false) × (too_deep q ≡ false)
  unfolding refusal query_tests first_of
  none_before k l e = four-false (cut q) (misplaced q) (unfit q) (too_deep q) _ k l e

  wrong-outside : (k : ℕ) → WrongAt (text_of q) k → (p : Tree pattern) → Written p (text_of q) → ⊥
  wrong-outside k w p x =
      let e : take (k + 1) (text_of q) ++ drop (k + 1) (text_of q) ≡ text_of q = take-append-drop (k + 1) (text_of q) in
      let b : BeginsText (take (k + 1) (text_of q) ++ drop (k + 1) (text_of q)) = rw e (written-begins p (text_of q) x) in
      w.ends (begins-front (take (k + 1) (text_of q)) (drop (k + 1) (text_of q)) b)

  abbrev Outside : Type 0
  Outside = (cut q ≡ false) × (misplaced q ≡ false) × (unfit q ≡ false) × (too_deep q ≡ false) × ((p : Tree pattern) → Written p (text_of q) → ⊥)

  outside-when : (answer_within a q rows lent ≡ 5) ⊎ (answer_within a q rows lent ≡ 14) → Outside
  unfolding refuses
  outside-when (inl e) =
      let f = none_before 5 (omega arith) (refusal_is a q rows lent 5 refl e) in
      (f.0, f.1, f.2, f.3, wrong-outside (search_within a q rows lent).result.offset (answered-5 a q rows lent e))
  outside-when (inr e) =
      let f = none_before 14 (omega arith) (refusal_is a q rows lent 14 refl e) in
      (f.0, f.1, f.2, f.3, (answered-14 a q rows lent e).0.outside)

  refusal-5 : cut q ≡ false → misplaced q ≡ false → unfit q ≡ false → too_deep q ≡ false → wrong (text_of q) ≡ true → refusal q rows lent ≡ 5
  unfolding refusal query_tests first_of
  refusal-5 c m u d w = rw (c, m, u, d, w)

  refusal-14 : cut q ≡ false → misplaced q ≡ false → unfit q ≡ false → too_deep q ≡ false → wrong (text_of q) ≡ false → incomplete (text_of q) ≡ true → refusal q rows lent ≡ 14
  unfolding refusal query_tests first_of
  refusal-14 c m u d w i = rw (c, m, u, d, w, i)

  when_outside : Outside → (answer_within a q rows lent ≡ 5) ⊎ (answer_within a q rows lent ≡ 14)
  unfolding refuses
  when_outside (c, m, u, d, none_written) = go (wrong (text_of q)) (incomplete (text_of q)) refl refl
    where
      go : (w i : Bool) → wrong (text_of q) ≡ w → incomplete (text_of q) ≡ i → (answer_within a q rows lent ≡ 5) ⊎ (answer_within a q rows lent ≡ 14)
      go true i e f = inl (given 5 refl (refusal-5 c m u d e))
      go false true e f = inr (given 14 refl (refusal-14 c m u d e f))
      go false false e f = let t = tree-of (tree_of (text_of q)) (tree-there (text_of q) e f) in absurd (none_written t.0 ((tree-exactly (text_of q) t.0).0 t.1))

  -- ---- all of it

  -- the same of a number that is the answer
  module _ (n : ℕ) (e : n ≡ answer_within a q rows lent) where
    unchanged-by : (Accepts n → ⊥) → search_within a q rows lent ≡ refused n (search_within a q rows lent).result.offset lent
    unchanged-by = rw e unchanged

    outside-by : ((n ≡ 5) ⊎ (n ≡ 14)) ↔ Outside
    outside-by = rw e (outside-when, when_outside)

    no-offset_by : (n ≡ 5 → ⊥) → (n ≡ 14 → ⊥) → (search_within a q rows lent).result.offset ≡ 0
    no-offset_by = rw e offset_none

  demand1_of : Demand1 a q rows lent (search_within a q rows lent)
  unfolding tree_in
  demand1_of =
      let n : ℕ = (search_within a q rows lent).result.answer in
      record {
        answer = result_answer;
        untouched = unchanged-by n result_answer;
        tree = λ p. tree-exactly (text_of q) p;
        one_tree = λ p p' w w'. one_tree w w';
        outside = outside-by n result_answer;
        wrong = λ e. answered-5 a q rows lent (sym result_answer ∙ e);
        incomplete = λ e. answered-14 a q rows lent (sym result_answer ∙ e);
        no_offset = no-offset_by n result_answer;
      }

  pub demand1 : (after : Memory) → after ≡ search_within a q rows lent → Demand1 a q rows lent after
  demand1 after e = rw e demand1_of

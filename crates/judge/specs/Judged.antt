-- Answers 4, 5 or 14, 6 and 7 for a pattern's text, by the tests of the rules' Answers, the first
-- that applies; and what `judge` promises.
use Rattle.std.specs.Prelude.{◌≡◌, List, [], ◌∷◌, ℕ, ◌*◌, ◌≤◌, length, get_or, cond, ltb, Result, IfOk}
use Rattle.std.proofs.Math.Option.{some}
use Rattle.rules.specs.Language.{Tree, pattern}
use Rattle.rules.specs.Reader.{tree_of}
use Rattle.rules.specs.Answers.{deep, wrong, incomplete, nested_loops, too_many, P, F, Test, first_of, offset_at}
use Rattle.trees.specs.Held.{Top}
use Rattle.refusals.specs.Refusals.{answer_in, offset_in}
use Rattle.refusals.specs.declared.Refusal.{Refusal}
use Rattle.refusals.specs.declared.Refusal.TheVariants.{Broken, Unfinished}
use Rattle.judge.specs.declared.Judged.{Judged}

-- the tests that ask the pattern's text alone
unfoldable pub text_tests : List ℕ → List Test
unfolding deep tree_of wrong incomplete nested_loops too_many
text_tests s = (4, deep 0 0 s) ∷ (5, wrong s) ∷ (14, incomplete s) ∷ (6, nested_loops (tree_of s)) ∷ (7, too_many (tree_of s)) ∷ []

-- the answer, or 0
unfoldable pub text_answer : List ℕ → ℕ
unfolding first_of text_tests
text_answer s = first_of (text_tests s)

-- the refusal of a text that is no pattern, where reading it stops at a byte
abbrev pub stopped_at : List ℕ → ℕ → Refusal
stopped_at s at = cond (ltb at (length s)) (Broken at) (Unfinished at)

-- what `judge` promises: the answer and its offset; of a pattern with none P and F, and the room
-- holds the text's tree with its top at node `top`; words behind the tree's own room are as they
-- were
pub record Judging (text room exit : List ℕ) (r : Result Judged Refusal) : Type 0 where
  pub answer : answer_in r ≡ text_answer text
  pub offset : offset_in r ≡ offset_at text (answer_in r)
  pub places : IfOk r (λ v. v.places ≡ P (tree_of text))
  pub factor : IfOk r (λ v. v.factor ≡ F (tree_of text))
  pub top : IfOk r (λ v. (p : Tree pattern) → tree_of text ≡ some p → Top p v.top exit)
  pub kept : (j : ℕ) → 16 * length text ≤ j → get_or exit j 0 ≡ get_or room j 0
  pub len : length exit ≡ length room

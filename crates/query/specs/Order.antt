-- What the kinds of the records that follow must be at each stage of their order, and the lowest of
-- the answers 1, 2 and 3.
use Rattle.std.specs.Prelude.{◌≡◌, Bool, false, List, ◌∷◌, ℕ, ◌<◌}
use Rattle.rules.specs.Basics.{pick}
use Rattle.rules.specs.Query.{one_of, some_of, none_left, is_define, is_measure, cut, misplaced, unfit}
use Rattle.query.specs.declared.Stage.{Stage}
use Rattle.query.specs.declared.Stage.TheVariants.{Shape, Text, Defines, Measures, OutOfOrder}

-- what the kinds that follow must be at each stage of their order; `left` is how many more of a
-- kind may come
unfoldable pub rest_of : Stage → List ℕ → Bool
unfolding one_of some_of none_left is_define is_measure
rest_of Shape = one_of 1 (one_of 2 (some_of 26 is_define (one_of 4 (some_of 8 is_measure none_left))))
rest_of Text = one_of 2 (some_of 26 is_define (one_of 4 (some_of 8 is_measure none_left)))
rest_of (Defines left) = some_of left is_define (one_of 4 (some_of 8 is_measure none_left))
rest_of (Measures left) = some_of left is_measure none_left
rest_of OutOfOrder = λ ks. false

-- the number of a stage in their order
abbrev pub place : Stage → ℕ
place Shape = 0
place Text = 1
place (Defines left) = 2
place (Measures left) = 3
place OutOfOrder = 4

-- the stage `behind` follows the stage `before` by a record of this kind: it is none before the
-- first record, and behind a kind out of order (4) there is no other; at the first record that kind
-- is 1
pub record Follows (behind before : Stage) (kind : ℕ) : Type 0 where
  pub rest : (ks : List ℕ) → rest_of behind ks ≡ rest_of before (kind ∷ ks)
  pub on : 0 < place behind
  pub known : place behind < 4 → place before < 4
  pub first : place behind < 4 → place before ≡ 0 → kind ≡ 1

-- the lowest of the answers 1, 2 and 3 that applies, or 0
unfoldable pub first_answer : List ℕ → ℕ
unfolding cut misplaced unfit
first_answer s = pick (cut s) 1 (pick (misplaced s) 2 (pick (unfit s) 3 0))

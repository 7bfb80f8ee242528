-- A query with no answer of its own: its pattern does not nest too many unbounded quantifiers over
-- bodies that can take no row, and has not too many places.
use mathlib.Core.Path.{◌≡◌, ap, sym, ◌∙◌}
use mathlib.Core.Bool.{false}
use mathlib.Core.List.{List}
use Prim.Native.Nat.{ℕ, ◌≤◌}
use lib.ListN.{get_or}
use lib.Pow.{pow_mono}
use borrow.Author.Tests.{ltb-false}
use mathlib.Core.Option.{some}
use Rattle.rules.specs.Language.{Tree, pattern, loop_nesting}
use Rattle.rules.specs.Places.{factor_of}
use Rattle.rules.specs.Answers.{tree_in, nested_loops, too_many, P, F, query_tests}
use Rattle.laws.proofs.Accepted.{query_tests-refuse}
use Rattle.laws.proofs.FirstTrue.{none_true}
use Rattle.reading.specs.Reading.{query_answer}

pub record Clear (q : List ℕ) : Type 0 where
  pub loop : nested_loops (tree_in q) ≡ false
  pub many : too_many (tree_in q) ≡ false

pub clear_query : (q : List ℕ) → query_answer q ≡ 0 → Clear q
unfolding query_answer query_tests
clear_query q e =
    let no : (i : ℕ) → (get_or (query_tests q) i (0, false)).1 ≡ false = none_true (query_tests q) (query_tests-refuse q) e in
    record { loop = no 6; many = no 7 }

pub few_places : (q : List ℕ) → query_answer q ≡ 0 → P (tree_in q) ≤ 256
unfolding too_many
few_places q e = ltb-false 256 (P (tree_in q)) (clear_query q e).many

pub few_values : (q : List ℕ) → query_answer q ≡ 0 → (p : Tree pattern) → tree_in q ≡ some p → F (tree_in q) ≤ 8
unfolding nested_loops F factor_of
few_values q e p t =
    let h : loop_nesting p ≤ 3 = ltb-false 3 (loop_nesting p) (sym (ap nested_loops t) ∙ (clear_query q e).loop) in
    rw t (pow_mono {i = loop_nesting p} {j = 3} h)

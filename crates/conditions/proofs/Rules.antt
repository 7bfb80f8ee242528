-- The results of a letter's entries are those of the rules, at each row of the partition.
use mathlib.Core.Path.{◌≡◌, refl, ap, ◌∙◌}
use mathlib.Core.Bool.{Bool, true, false}
use mathlib.Core.List.{List, [], ◌∷◌}
use Prim.Native.Nat.{ℕ, zero, suc, ◌+◌}
use lib.Dec.{ltb, eqb}
use lib.IntN.{ℤ}
use lib.ListN.{get_or}
use Rattle.rules.specs.Basics.{pick}
use Rattle.rules.specs.Rows.{Table, table_of, Truth, truth_and, truth_or, is_yes, compared, conj, disj, neg, postfix, result_on, results_of, latest, condition_truth, holds}
use Rattle.table.specs.Tests.{comparison_in, entry_in, entry_words, entries_in}
use Rattle.comparisons.specs.Spots.{read_truth}
use Rattle.comparisons.proofs.Entries.{At}
use Rattle.comparisons.proofs.Reading.{Words, truth-is}
use Rattle.conditions.specs.Results.{join_latest, turn_latest, read_result, read_results}

module _ (t : Table) (row : ℕ) where
  join-and : (rs : List Truth) → join_latest truth_and rs ≡ result_on t row conj rs
  unfolding join_latest result_on
  join-and [] = refl
  join-and (b ∷ []) = refl
  join-and (b ∷ (a ∷ rs)) = refl

  join-or : (rs : List Truth) → join_latest truth_or rs ≡ result_on t row disj rs
  unfolding join_latest result_on
  join-or [] = refl
  join-or (b ∷ []) = refl
  join-or (b ∷ (a ∷ rs)) = refl

  turn_not : (rs : List Truth) → turn_latest rs ≡ result_on t row neg rs
  unfolding turn_latest result_on
  turn_not [] = refl
  turn_not (a ∷ rs) = refl

module _ (T : List ℕ) (words : Words T) (rows : List ℤ) (columns n row from : ℕ) (is : At rows columns n row from) where
  push : (at : ℕ) (rs : List Truth) → read_truth T rows from at ∷ rs ≡ result_on (table_of columns rows) row (compared (comparison_in T columns at)) rs
  unfolding result_on
  push at rs = ap (λ (v : Truth). v ∷ rs) (truth-is T words rows columns n row from is at)

  result_is : (at : ℕ) (rs : List Truth) → read_result T rows from at rs ≡ result_on (table_of columns rows) row (entry_in T columns at) rs
  unfolding read_result entry_in
  result_is at rs = by (ltb (get_or T at 0) 16) (eqb (get_or T at 0) 16) (eqb (get_or T at 0) 17)
    where
      by : (a b c : Bool) → pick a (read_truth T rows from at ∷ rs) (pick b (join_latest truth_and rs) (pick c (join_latest truth_or rs) (turn_latest rs)))
          ≡ result_on (table_of columns rows) row (pick a (compared (comparison_in T columns at)) (pick b conj (pick c disj neg))) rs
      by true b c = push at rs
      by false true c = join-and (table_of columns rows) row rs
      by false false true = join-or (table_of columns rows) row rs
      by false false false = turn_not (table_of columns rows) row rs

  results_are : (k at : ℕ) (rs : List Truth) → read_results T rows from k at rs ≡ results_of (table_of columns rows) row (entries_in T columns k at) rs
  unfolding read_results results_of entries_in
  results_are zero at rs = refl
  results_are (suc k) at rs =
      results_are k (at + entry_words T at) (read_result T rows from at rs)
      ∙ ap (results_of (table_of columns rows) row (entries_in T columns k (at + entry_words T at))) (result_is at rs)

  pub postfix-is : (k at : ℕ) → is_yes (latest (read_results T rows from k at [])) ≡ holds (table_of columns rows) row (postfix (entries_in T columns k at))
  unfolding holds condition_truth
  postfix-is k at = ap (λ (rs : List Truth). is_yes (latest rs)) (results_are k at [])

-- What is judged is what the rules say, at every row.
use mathlib.Core.Path.{◌≡◌, refl, sym, ap, ◌∙◌}
use mathlib.Core.Bool.{Bool, true, false, ◌&&◌}
use mathlib.Core.List.{List, [], ◌∷◌}
use Prim.Native.Nat.{ℕ, zero, suc, ◌+◌, ◌*◌, ◌-◌}
use native.Mathlib.Omega.{arith}
use lib.Dec.{eqb}
use lib.IntN.{ℤ}
use lib.ListN.{get_or}
use borrow.Author.Tests.{eq-eqb, ne_eqb, eqb-true, eqb-false}
use Rattle.rules.specs.Basics.{pick, every, tabulate}
use Rattle.rules.specs.Rows.{Comparison, table_of, met, all_of, holds, judged_in, judged}
use Rattle.laws.proofs.Choice.{decided}
use Rattle.laws.proofs.Truths.{all_met}
use Rattle.table.specs.Tests.{comparison_in, comparisons_in, defined_in, condition_in}
use Rattle.comparison_words.proofs.Same.{tabulate-first, tabulate-same}
use Rattle.comparisons.specs.Spots.{read_met, first_unmet}
use Rattle.comparisons.proofs.Entries.{At}
use Rattle.comparisons.proofs.Reading.{Words, met-is, every-is}
use Rattle.conditions.proofs.Rules.{postfix-is}
use Rattle.judging.specs.Judging.{judged_of, holds_from, judged_from}

-- the first of several comparisons
in_first_lem : (T : List ℕ) (columns at m : ℕ) → comparisons_in T columns at (suc m) ≡ comparison_in T columns at ∷ comparisons_in T columns (at + 5) m
unfolding comparisons_in
in_first_lem T columns at m =
    tabulate-first m (λ k. comparison_in T columns (at + k * 5))
    ∙ two (ap (comparison_in T columns) (let e : at + 0 * 5 ≡ at = omega arith in e))
    (tabulate-same m (λ k. comparison_in T columns (at + suc k * 5)) (λ k. comparison_in T columns (at + 5 + k * 5))
    (λ k l. ap (comparison_in T columns) (let e : at + suc k * 5 ≡ at + 5 + k * 5 = omega arith in e)))
  where
    two : {x y : Comparison} {xs ys : List Comparison} → x ≡ y → xs ≡ ys → x ∷ xs ≡ y ∷ ys
    two e f = rw (e, f) refl

suc-judged : (k m : ℕ) → judged_of (suc k) (suc m) ≡ suc (judged_of k m)
unfolding judged_of
suc-judged k m =
    decided (eqb k m)
    (λ e. let q = eqb-true k m e in rw (e, eq-eqb (suc k) (suc m) (ap suc q)) refl)
    (λ e. let q = eqb-false k m e in rw (e, ne_eqb (suc k) (suc m) (λ z. q (omega arith))) refl)

module _ (T : List ℕ) (words : Words T) (rows : List ℤ) (columns n row from : ℕ) (is : At rows columns n row from) where
  -- as many as `first_unmet` looks at
  pub judged-several : (m at : ℕ) → judged_of (first_unmet T rows from at m) m ≡ judged_in (table_of columns rows) row (comparisons_in T columns at m)
  unfolding first_unmet judged_in judged_of comparisons_in tabulate
  judged-several zero at = refl
  judged-several (suc m) at = by (read_met T rows from at) refl (judged-several m (at + 5)) ∙ sym (ap (judged_in (table_of columns rows) row) (in_first_lem T columns at m) ∙ rw (← met-is T words rows columns n row from is at) refl)
    where
      by : (t : Bool) → read_met T rows from at ≡ t → judged_of (first_unmet T rows from (at + 5) m) m ≡ judged_in (table_of columns rows) row (comparisons_in T columns (at + 5) m)
          → judged_of (pick (read_met T rows from at) (suc (first_unmet T rows from (at + 5) m)) 0) (suc m)
          ≡ suc (pick (read_met T rows from at) (judged_in (table_of columns rows) row (comparisons_in T columns (at + 5) m)) 0)
      by true e ih = rw e (suc-judged (first_unmet T rows from (at + 5) m) m ∙ ap suc ih)
      by false e ih = rw (e, ne_eqb 0 (suc m) (λ z. omega arith)) refl

  module _ (at : ℕ) where
    abbrev first : Comparison
    first = comparison_in T columns (at + 2)

    abbrev others : List Comparison
    others = comparisons_in T columns (get_or T (at + 1) 0) (get_or T at 0 - 1)

    first-met : read_met T rows from (at + 2) ≡ met (table_of columns rows) row first
    first-met = met-is T words rows columns n row from is (at + 2)

    compared-holds : pick (eqb (get_or T at 0) 0) true (read_met T rows from (at + 2) && eqb (first_unmet T rows from (get_or T (at + 1) 0) (get_or T at 0 - 1)) (get_or T at 0 - 1))
        ≡ holds (table_of columns rows) row (all_of (defined_in T columns at))
    unfolding defined_in every
    compared-holds = by (eqb (get_or T at 0) 0)
      where
        by : (t : Bool) → pick t true (read_met T rows from (at + 2) && eqb (first_unmet T rows from (get_or T (at + 1) 0) (get_or T at 0 - 1)) (get_or T at 0 - 1))
            ≡ holds (table_of columns rows) row (all_of (pick t [] (first ∷ others)))
        by true = sym (all_met (table_of columns rows) row [])
        by false = rw (first-met, every-is T words rows columns n row from is (get_or T (at + 1) 0) (get_or T at 0 - 1)) (sym (all_met (table_of columns rows) row (first ∷ others)))

    compared-judged : pick (eqb (get_or T at 0) 0) 0 (pick (read_met T rows from (at + 2)) (suc (judged_of (first_unmet T rows from (get_or T (at + 1) 0) (get_or T at 0 - 1)) (get_or T at 0 - 1))) 1)
        ≡ judged_in (table_of columns rows) row (defined_in T columns at)
    unfolding defined_in judged_in
    compared-judged = by (eqb (get_or T at 0) 0)
      where
        one : (t : Bool) → pick t (suc (judged_of (first_unmet T rows from (get_or T (at + 1) 0) (get_or T at 0 - 1)) (get_or T at 0 - 1))) 1 ≡ suc (pick t (judged_in (table_of columns rows) row others) 0)
        one true = ap suc (judged-several (get_or T at 0 - 1) (get_or T (at + 1) 0))
        one false = refl

        by : (t : Bool) → pick t 0 (pick (read_met T rows from (at + 2)) (suc (judged_of (first_unmet T rows from (get_or T (at + 1) 0) (get_or T at 0 - 1)) (get_or T at 0 - 1))) 1)
            ≡ judged_in (table_of columns rows) row (pick t [] (first ∷ others))
        by true = refl
        by false = rw (← first-met) (one (read_met T rows from (at + 2)))

    pub holds-judged : (holds_from T rows from at ≡ holds (table_of columns rows) row (condition_in T columns at)) × (judged_from T rows from at ≡ judged (table_of columns rows) row (condition_in T columns at))
    unfolding holds_from judged_from condition_in judged
    holds-judged = by (eqb (get_or T (at + 7) 0) 3) refl
      where
        Goal : Bool → Type 0
        Goal t = (holds_from T rows from at ≡ holds (table_of columns rows) row (condition_in T columns at)) × (judged_from T rows from at ≡ judged (table_of columns rows) row (condition_in T columns at))

        by : (t : Bool) → eqb (get_or T (at + 7) 0) 3 ≡ t → Goal t
        by true e = (rw e (postfix-is T words rows columns n row from is (get_or T (at + 2) 0) (get_or T (at + 1) 0)), rw e refl)
        by false e = (rw e compared-holds, rw e compared-judged)

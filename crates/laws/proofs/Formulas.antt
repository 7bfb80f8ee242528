-- R-7: what a list in postfix says. An accepted list of entries is a formula written in postfix,
-- and its truth is that of the formula, by SQL's tables.
use mathlib.Core.Path.{◌≡◌, refl, ap, sym, ◌∙◌}
use mathlib.Core.Bool.{Bool, true, ◌&&◌, true≢false}
use mathlib.Core.List.{List, [], ◌∷◌}
use Prim.Native.Nat.{ℕ, suc, ◌+◌, ◌-◌}
use native.Mathlib.Omega.{arith}
use lib.Dec.{leb}
use lib.ListN.{length}
use borrow.Author.Tests.{eqb-true, le-leb}
use Rattle.rules.specs.Rows.{Table, Comparison, Truth, truth_and, truth_or, truth_not, truth, Entry, compared, conj, disj, neg, postfix, result_on, results_of, latest, condition_truth}
use Rattle.rules.specs.Query.{leaves_one}
use Rattle.laws.proofs.Level.{and-true}

pub data Formula : Type 0 where
  atom : Comparison → Formula
  both : Formula → Formula → Formula
  either : Formula → Formula → Formula
  negated : Formula → Formula

unfoldable pub formula_truth : Table → ℕ → Formula → Truth
formula_truth t row (atom c) = truth t row c
formula_truth t row (both f g) = truth_and (formula_truth t row f) (formula_truth t row g)
formula_truth t row (either f g) = truth_or (formula_truth t row f) (formula_truth t row g)
formula_truth t row (negated f) = truth_not (formula_truth t row f)

-- in postfix: what an operator is of, in order, then the operator; in front of a list
unfoldable pub written : Formula → List Entry → List Entry
written (atom c) es = compared c ∷ es
written (both f g) es = written f (written g (conj ∷ es))
written (either f g) es = written f (written g (disj ∷ es))
written (negated f) es = written f (neg ∷ es)

-- a formula that is written adds its truth to the results
pub written-truth : (t : Table) (row : ℕ) (f : Formula) (es : List Entry) (rs : List Truth) → results_of t row (written f es) rs ≡ results_of t row es (formula_truth t row f ∷ rs)
unfolding results_of result_on written formula_truth
written-truth t row (atom c) es rs = refl
written-truth t row (both f g) es rs = written-truth t row f (written g (conj ∷ es)) rs ∙ written-truth t row g (conj ∷ es) (formula_truth t row f ∷ rs)
written-truth t row (either f g) es rs = written-truth t row f (written g (disj ∷ es)) rs ∙ written-truth t row g (disj ∷ es) (formula_truth t row f ∷ rs)
written-truth t row (negated f) es rs = written-truth t row f (neg ∷ es) rs

-- formulas in front of a list, the latest last
unfoldable pub written_all : List Formula → List Entry → List Entry
unfolding written
written_all [] es = es
written_all (f ∷ fs) es = written_all fs (written f es)

second : (a : Bool) {b : Bool} → (a && b) ≡ true → b ≡ true
second a {b} e = (and-true a b e).1

one-formula : (es : List Entry) (fs : List Formula) → leaves_one (length fs) es ≡ true → (f : Formula) × (written_all fs es ≡ written f [])
unfolding leaves_one written_all written
one-formula [] [] e = absurd (true≢false (sym e))
one-formula [] (f ∷ []) e = (f, refl)
one-formula [] (f ∷ (g ∷ fs)) e = let z : suc (suc (length fs)) ≡ 1 = eqb-true _ _ e in absurd (omega arith)
one-formula (compared c ∷ es) fs e = one-formula es (atom c ∷ fs) (let z : length fs + 1 ≡ suc (length fs) = omega arith in rw z at e)
one-formula (conj ∷ es) [] e = absurd (true≢false (sym e))
one-formula (conj ∷ es) (g ∷ []) e = absurd (true≢false (sym e))
one-formula (conj ∷ es) (g ∷ (f ∷ fs)) e =
    one-formula es (both f g ∷ fs) (let z : suc (suc (length fs)) - 1 ≡ suc (length fs) = omega arith in rw z at (second (leb 2 (suc (suc (length fs)))) e))
one-formula (disj ∷ es) [] e = absurd (true≢false (sym e))
one-formula (disj ∷ es) (g ∷ []) e = absurd (true≢false (sym e))
one-formula (disj ∷ es) (g ∷ (f ∷ fs)) e =
    one-formula es (either f g ∷ fs) (let z : suc (suc (length fs)) - 1 ≡ suc (length fs) = omega arith in rw z at (second (leb 2 (suc (suc (length fs)))) e))
one-formula (neg ∷ es) [] e = absurd (true≢false (sym e))
one-formula (neg ∷ es) (f ∷ fs) e = one-formula es (negated f ∷ fs) (second (leb 1 (suc (length fs))) e)

-- Entries that run nowhere short and leave one result are a formula in postfix, and at every row
-- their truth is the formula's.
pub postfix-formula : (es : List Entry) → leaves_one 0 es ≡ true → (f : Formula) × (es ≡ written f []) × ((t : Table) (row : ℕ) → condition_truth t row (postfix es) ≡ formula_truth t row f)
unfolding written_all condition_truth results_of latest
postfix-formula es e =
    let o = one-formula es [] e in
    (o.0, o.1, λ t row. ap (λ (v : List Entry). latest (results_of t row v [])) o.1 ∙ ap latest (written-truth t row o.0 [] []))

fewer : (es : List Entry) (d : ℕ) → leaves_one (suc d) es ≡ true → (leb 2 (suc (suc d)) && leaves_one (suc (suc d) - 1) es) ≡ true
fewer es d e =
    let l : leb 2 (suc (suc d)) ≡ true = le-leb 2 (suc (suc d)) (omega arith) in
    let z : suc (suc d) - 1 ≡ suc d = omega arith in
    rw (l, z) e

-- and every formula in postfix is accepted
written-leaves : (f : Formula) (es : List Entry) (d : ℕ) → leaves_one (suc d) es ≡ true → leaves_one d (written f es) ≡ true
unfolding leaves_one written
written-leaves (atom c) es d e = ap (λ (k : ℕ). leaves_one k es) (let z : d + 1 ≡ suc d = omega arith in z) ∙ e
written-leaves (both f g) es d e = written-leaves f (written g (conj ∷ es)) d (written-leaves g (conj ∷ es) (suc d) (fewer es d e))
written-leaves (either f g) es d e = written-leaves f (written g (disj ∷ es)) d (written-leaves g (disj ∷ es) (suc d) (fewer es d e))
written-leaves (negated f) es d e = written-leaves f (neg ∷ es) d (let l : leb 1 (suc d) ≡ true = le-leb 1 (suc d) (omega arith) in rw l e)

pub formula_leaves : (f : Formula) → leaves_one 0 (written f []) ≡ true
unfolding leaves_one
formula_leaves f = written-leaves f [] 0 refl

-- The measures of a match, one behind the other, and what a measure of the table keeps to.
use Rattle.std.proofs.Common.{◌≡◌, ℕ, ◌+◌, ◌*◌, ◌≤◌, ◌<◌, List, [], ◌∷◌, ◌++◌, length, refl, sym, arith, add-one, append_assoc, append-nil}
use lib.IntN.{ℤ, pos}
use Rattle.std.proofs.lemmas.Grind.{common_steps}
use Rattle.rules.specs.Basics.{wrote, tabulate, in_range}
use Rattle.rules.specs.Rows.{Table}
use Rattle.rules.specs.Query as Q
use Rattle.rules.specs.Query.{function_fits}
use Rattle.rules.specs.Report.{two_of, measured, measure_numbers, match_numbers}
use Rattle.laws.proofs.Lists.{length-tabulate}
use Rattle.laws.proofs.Limits.{match-long}
use Rattle.laws.proofs.Appended.{wrote_none, wrote_on}
use Rattle.table.specs.Measures.{measure_in, measures_in}
use Rattle.measure_list.specs.Measures.{MeasureFits}

-- ---- a measure of the table

-- a function of 1 to 7, and a column
pub fits_parts : (columns : ℕ) (m : Q.Measure) → MeasureFits columns m → (1 ≤ m.function) × (m.function ≤ 7) × (m.column < columns)
unfolding function_fits in_range
fits_parts columns m e = grind (arith, common_steps)

-- ---- the measures, one by one

module _ (t : Table) (first : ℕ) (ls : List ℕ) (T : List ℕ) (w : ℕ) where
  measures_on : (xs : List Q.Measure) (m : Q.Measure) → measure_numbers t first ls (xs ++ (m ∷ [])) ≡ measure_numbers t first ls xs ++ two_of (measured t first ls m)
  unfolding measure_numbers
  measures_on [] m = append-nil _
  measures_on (x ∷ xs) m = rw (measures_on xs m, append_assoc) refl

  one_more : (k : ℕ) → measure_numbers t first ls (measures_in T w (k + 1)) ≡ measure_numbers t first ls (measures_in T w k) ++ two_of (measured t first ls (measure_in T w k))
  unfolding measures_in tabulate
  one_more k = rw (add-one k) (measures_on (tabulate k (measure_in T w)) (measure_in T w k))

  numbers_long : (k : ℕ) → length (measure_numbers t first ls (measures_in T w k)) ≡ k * 2
  unfolding match_numbers measures_in
  numbers_long k = omega (arith, match-long t (measures_in T w k) 0 first ls, length-tabulate k (measure_in T w))

  module _ (l₀ : List ℤ) (at : ℕ) where
    pub reported_none : l₀ ≡ wrote l₀ at (measure_numbers t first ls (measures_in T w 0))
    unfolding measures_in tabulate measure_numbers
    reported_none = sym (wrote_none l₀ at)

    pub reported_more : (k : ℕ) (l l' : List ℤ) → at + k * 2 ≤ length l₀ → l ≡ wrote l₀ at (measure_numbers t first ls (measures_in T w k))
        → l' ≡ wrote l (at + k * 2) (two_of (measured t first ls (measure_in T w k))) → l' ≡ wrote l₀ at (measure_numbers t first ls (measures_in T w (k + 1)))
    reported_more k l l' r e q =
        let n = numbers_long k in
        let o = wrote_on l₀ at (measure_numbers t first ls (measures_in T w k)) (omega arith) in
        rw (q, e, one_more k, ← n) (o _)

    -- the three numbers of a match and the measures behind them
    pub match_reported : (count number : ℕ) (l l' : List ℤ) → at + 3 ≤ length l₀ → l ≡ wrote l₀ at (pos number ∷ pos first ∷ pos (length ls) ∷ [])
        → l' ≡ wrote l (at + 3) (measure_numbers t first ls (measures_in T w count)) → l' ≡ wrote l₀ at (match_numbers t (measures_in T w count) number first ls)
    unfolding match_numbers
    match_reported count number l l' r e q = rw (q, e) (wrote_on l₀ at (pos number ∷ pos first ∷ pos (length ls) ∷ []) r _)

-- Answers 10, 11, 12 and 21 of a call with a lot of rows (R-11) by its numbers, and when the
-- numbers are those of a call of the rules.
use Rattle.std.specs.Prelude.{◌≡◌, Bool, not, ◌||◌, List, [], ◌∷◌, ℕ, ◌*◌, ◌%◌, ◌≤◌, ltb, eqb, ℤ, length}
use Rattle.rules.specs.Query.{columns_of}
use Rattle.rules.specs.Walk.{pairs}
use Rattle.rules.specs.Report.{bytes_for}
use Rattle.rules.specs.Answers.{tree_in, P, F, first_of}
use Rattle.rules.specs.Lots.{Named, Progress}
use Rattle.lot_answers.specs.declared.Measured.{Measured}

-- the numbers of a prepared query: 1 to 8 columns, and at most 2,048 places with their flags
pub record Small (m : Measured) : Type 0 where
  pub some : 1 ≤ m.columns
  pub most : m.columns ≤ 8
  pub few : m.places ≤ 2048

-- answer 10: the largest number of rows is above 4,096, the slice is not whole rows, or more rows
-- are said to be present than the largest number, or than the slice holds
unfoldable pub bad_numbers : Measured → Bool
bad_numbers m = ltb 4096 m.largest || (not (eqb (m.entries % m.columns) 0) || (ltb m.largest m.present || ltb m.entries (m.present * m.columns)))

-- the first of the answers that applies, 0 if none does
unfoldable pub lot_answer : Measured → ℕ
unfolding first_of bad_numbers bytes_for
lot_answer m =
    first_of
    ((10, bad_numbers m)
    ∷ (11, ltb m.notes (bytes_for (pairs m.places m.largest)))
    ∷ (12, ltb m.trail (pairs m.places m.largest))
    ∷ (21, ltb m.present m.before)
    ∷ [])

-- the numbers are those of a call with so many rows present, after what is kept of earlier ones
pub record NumbersOf (s : Named) (p : Progress) (rows : List ℤ) (present : ℕ) (m : Measured) : Type 0 where
  pub places : m.places ≡ P (tree_in s.query) * F (tree_in s.query)
  pub columns : m.columns ≡ columns_of s.query
  pub largest : m.largest ≡ s.largest
  pub now_present : m.present ≡ present
  pub before : m.before ≡ p.present
  pub entries : m.entries ≡ length rows
  pub notes : m.notes ≡ length s.lent.notes
  pub trail : m.trail ≡ length s.lent.trail

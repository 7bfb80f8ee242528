-- A report depends on the labels alone, so that forks may list each of their ways once.
use mathlib.Core.Path.{◌≡◌, refl}
use mathlib.Core.List.{List, [], ◌∷◌}
use Prim.Native.Nat.{ℕ, suc}
use Rattle.rules.specs.Rows.{Table}
use Rattle.rules.specs.Query.{Measure}
use Rattle.rules.specs.Places.{Place}
use Rattle.rules.specs.Search.{Match}
use Rattle.rules.specs.Report.{numbers_of, labels_of}
use Rattle.rules.specs.Working.{thinned}
use Rattle.laws.proofs.Distinct.{labels-thin}

pub numbers-thin : (t : Table) (ms : List Measure) (pl : List Place) (k : ℕ) (xs : List Match) → numbers_of t ms (thinned pl) k xs ≡ numbers_of t ms pl k xs
unfolding numbers_of
numbers-thin t ms pl k [] = refl
numbers-thin t ms pl k (x ∷ xs) = simp (labels-thin pl x.path, numbers-thin t ms pl (suc k) xs)

pub labels-of_thin : (pl : List Place) (xs : List Match) → labels_of (thinned pl) xs ≡ labels_of pl xs
unfolding labels_of
labels-of_thin pl [] = refl
labels-of_thin pl (x ∷ xs) = rw (labels-thin pl x.path, labels-of_thin pl xs)

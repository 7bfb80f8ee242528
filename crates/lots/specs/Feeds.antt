-- What is kept between the calls of a search by lots, and what a call's search asks and leaves.
use Rattle.std.specs.Prelude.{◌≡◌, List, ℕ, ◌-◌, ◌≤◌, ℤ, length}
use Rattle.matches.specs.declared.Sweep.{Sweep}
use Rattle.matches.specs.declared.Task.{Task}
use Rattle.matches.specs.Found.{Searches}
use Rattle.sweep.specs.Searched.{Measures, WentOn, Answered}
use Rattle.lots.specs.declared.Feed.{Feed}

-- the largest number of rows and the steps allowed are named, and no row has come
abbrev pub new_feed : ℕ → ℕ → Feed
new_feed largest allowance =
    record { largest = largest; allowance = allowance; present = 0; begun = 0; answer = 23; row = 0; matches = 0; labels = 0; steps = 0; opened = 0 }

-- where the search goes on: at the start at which it waited, with the steps of its open pairs taken
-- back
abbrev pub kept_in : Feed → Sweep
kept_in f = record { end = 0; row = f.row; matches = f.matches; labels = f.labels; steps = f.steps - f.opened; opened = 0 }

-- the numbers of what is kept lie within their bounds
pub record Within (labs : List ℕ) (f : Feed) : Type 0 where
  pub few : f.matches ≤ f.row
  pub labels : f.labels ≤ length labs
  pub opened : f.opened ≤ f.steps
  pub steps : f.steps ≤ 4611686018427387904

-- what the search of a call asks: what a search does, and these where it is not the first
pub record Advances (T : List ℕ) (rows : List ℤ) (task : Task) (notes trail labs : List ℕ) (f : Feed) : Type 0 where
  pub searches : Searches T rows task notes trail
  pub measures : Measures T task notes trail
  pub within : (f.begun ≡ 0 → ⊥) → Within labs f

-- what it leaves: the first call is a whole search, a later one goes on
pub record Advanced (T : List ℕ) (rows : List ℤ) (task : Task) (n₁ t₁ : List ℕ) (numbers₁ : List ℤ) (labs₁ : List ℕ) (f : Feed) (notes trail : List ℕ) (numbers : List ℤ) (labs : List ℕ) (r : Sweep) : Type 0 where
  pub first : f.begun ≡ 0 → Answered T rows task n₁ t₁ numbers₁ labs₁ notes trail numbers labs r
  pub later : (f.begun ≡ 0 → ⊥) → WentOn T rows task n₁ t₁ numbers₁ labs₁ (kept_in f) notes trail numbers labs r

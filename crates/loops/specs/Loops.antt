-- What the two functions that walk over a tree's nodes promise.
use Rattle.std.specs.Prelude.{◌≡◌, Bool, List, ℕ, min}
use Rattle.rules.specs.Language.{Tree, pattern, nullable, loop_nesting}
use Rattle.trees.specs.Held.{Top}

-- r is right for whatever tree has its top at i
abbrev pub Nullable : List ℕ → ℕ → Bool → Type 0
Nullable s i r = (p : Tree pattern) → Top p i s → r ≡ nullable p

abbrev pub Nesting : List ℕ → ℕ → ℕ → Type 0
Nesting s i r = (p : Tree pattern) → Top p i s → r ≡ min (loop_nesting p) 4

-- R-4: "a named column outside the shape is the partition's answer 3".
use Rattle.std.specs.Prelude.{Bool, not, ◌&&◌, ◌||◌, List, ℕ, ltb}
use Rattle.rules.specs.Query.{cut, misplaced, columns_of}

-- a named column is outside the shape
unfoldable pub outside : List ℕ → ℕ → ℕ → Bool
unfolding columns_of
outside q depot month = not (ltb depot (columns_of q) && ltb month (columns_of q))

-- it is the answer, unless the lower 1 or 2 applies
unfoldable pub is_three : List ℕ → ℕ → ℕ → Bool
unfolding outside cut misplaced
is_three q depot month = outside q depot month && not (cut q || misplaced q)

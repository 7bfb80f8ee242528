-- The release desk's query (R-14), byte for byte: `O R* C $` in skip mode 1.
use Rattle.std.specs.Prelude.{List, [], ◌∷◌, ◌++◌, ℕ}
use Rattle.rules.specs.Basics.{bytes}

-- the 12 bytes of a comparison: the event equals k; a column equals that of the previous row (offset
-- -1 is the byte 255)
abbrev pub event_is : ℕ → List ℕ
event_is k = 1 ∷ 0 ∷ 1 ∷ 0 ∷ 0 ∷ 0 ∷ 0 ∷ 0 ∷ k ∷ 0 ∷ 0 ∷ 0 ∷ []

abbrev pub like_before : ℕ → List ℕ
like_before column = column ∷ 0 ∷ 1 ∷ 1 ∷ column ∷ 255 ∷ 0 ∷ 0 ∷ 0 ∷ 0 ∷ 0 ∷ 0 ∷ []

-- four columns; the pattern `O R* C $`; O (79) is an offer, R (82) a refusal and C (67) an
-- acceptance, both with the previous row's base and patch numbers; skip to the next row
unfoldable pub desk_query : List ℕ
unfolding bytes
desk_query =
    (2 ∷ 0 ∷ 1 ∷ 0 ∷ 4 ∷ 0 ∷ [])
    ++ ((8 ∷ 0 ∷ 2 ∷ 0 ∷ bytes "O R* C $")
    ++ ((14 ∷ 0 ∷ 3 ∷ 0 ∷ 79 ∷ 1 ∷ event_is 1)
    ++ ((38 ∷ 0 ∷ 3 ∷ 0 ∷ 82 ∷ 3 ∷ (event_is 2 ++ (like_before 2 ++ like_before 3)))
    ++ ((38 ∷ 0 ∷ 3 ∷ 0 ∷ 67 ∷ 3 ∷ (event_is 3 ++ (like_before 2 ++ like_before 3)))
    ++ (2 ∷ 0 ∷ 4 ∷ 0 ∷ 1 ∷ 0 ∷ [])))))

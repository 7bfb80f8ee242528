-- The places of a pattern as words of one table, written once when a query is prepared and read by
-- the walk and the report. Place q has four words:
--   4q      its code: 0 to 25 the letters A to Z, 26 `^`, 27 `$`, 28 a fork of two ways or more that
--           tries the place behind it first, 29 any other fork, 30 END
--   4q + 1  the place that is tried first from it; of a fork, its first way
--   4q + 2  of a fork with two ways, its second; of one with more, the word at which its ways
--           begin; of a letter, the word at which its test begins (`Pointed` of specs/Tests)
--   4q + 3  of a fork, how many ways it has; 0 for any other place
-- The ways of all forks stand behind the words of all places, a place to a word. A way is known by
-- its number in its fork, 0 for the first. Most forks have two ways, and the walk finds the second
-- of them at once. The places of `A+ B`, as an example, where a and b are the words at which the
-- tests of A and B begin, and x words that nobody reads:
--   place       0       1       2       3       4
--               A       fork    A       B       END
--   words       0 1 a 0 28 2 3 2  0 1 a 0 1 4 b 0 30 x x 0    and from word 20 on the ways: 2 3
use Rattle.std.specs.Prelude.{List, [], ◌∷◌, ℕ, zero, suc, ◌+◌, ◌-◌, ◌*◌, ltb, eqb, get_or}
use Rattle.rules.specs.Basics.{pick}
use Rattle.rules.specs.Places.{Place, p_letter, p_caret, p_dollar, p_fork, p_end}

abbrev pub code_at : List ℕ → ℕ → ℕ
code_at T q = get_or T (4 * q) 0

abbrev pub first_at : List ℕ → ℕ → ℕ
first_at T q = get_or T (4 * q + 1) 0

abbrev pub later_at : List ℕ → ℕ → ℕ
later_at T q = get_or T (4 * q + 2) 0

abbrev pub count_at : List ℕ → ℕ → ℕ
count_at T q = get_or T (4 * q + 3) 0

-- m words from j on
unfoldable pub span : List ℕ → ℕ → ℕ → List ℕ
span T j zero = []
span T j (suc m) = get_or T j 0 ∷ span T (suc j) m

-- way j of a fork, from the second on, which is way 1; by its later word and how many ways it has
unfoldable pub later_by : List ℕ → ℕ → ℕ → ℕ → ℕ
later_by T l c j = pick (eqb c 2) l (get_or T (l + j) 0)

-- way j of the fork at place q, from the second on
unfoldable pub later_way : List ℕ → ℕ → ℕ → ℕ
unfolding later_by
later_way T q j = later_by T (later_at T q) (count_at T q) j

-- m ways from way j on, which is not the first
unfoldable pub later_ways : List ℕ → ℕ → ℕ → ℕ → ℕ → List ℕ
unfolding later_by
later_ways T l c j zero = []
later_ways T l c j (suc m) = later_by T l c j ∷ later_ways T l c (suc j) m

-- the places that place q leads to, in the order in which they are tried
unfoldable pub ways_of : List ℕ → ℕ → List ℕ
unfolding later_ways
ways_of T q = first_at T q ∷ later_ways T (later_at T q) (count_at T q) 1 (count_at T q - 1)

-- a place by its code, the place that is tried first and all places that it leads to
unfoldable pub place_by : ℕ → ℕ → List ℕ → Place
place_by c k ks = pick (ltb c 26) (p_letter (c + 65) k) (pick (eqb c 26) (p_caret k) (pick (eqb c 27) (p_dollar k) (pick (ltb c 30) (p_fork ks) p_end)))

-- place q
unfoldable pub place_at : List ℕ → ℕ → Place
place_at T q = place_by (code_at T q) (first_at T q) (ways_of T q)

-- m places from q on
unfoldable pub places_from : List ℕ → ℕ → ℕ → List Place
unfolding place_at
places_from T q zero = []
places_from T q (suc m) = place_at T q ∷ places_from T (suc q) m

-- the first P places
unfoldable pub places_in : List ℕ → ℕ → List Place
unfolding places_from
places_in T P = places_from T 0 P

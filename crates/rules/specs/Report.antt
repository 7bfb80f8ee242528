-- Rules: document 01, "Report", with R-5. Measures, what one match appends to the numbers and the
-- labels, when it fits, and what the notes and the trail hold afterwards.
use Rattle.std.specs.Prelude.{Bool, false, ◌&&◌, ◌||◌, List, [], ◌∷◌, ◌++◌, ℕ, zero, suc, ◌+◌, ◌*◌, ◌/◌, ◌%◌, ◌^◌, leb, eqb, ℤ, pos, ◌+ℤ◌, length, get_or, replicate}
use Rattle.std.proofs.Math.Option.{Option, none, some}
use Rattle.std.specs.Int.Signed.{lt_z, quot_z}
use Rattle.rules.specs.Basics.{pick, keep, tabulate}
use Rattle.rules.specs.Rows.{Table, entry}
use Rattle.rules.specs.Query.{Measure}
use Rattle.rules.specs.Places.{Place}
use Rattle.rules.specs.Search.{Match, labels}

-- ---- measures

-- a measure is over the match's rows with its letter, or over all its rows (letter 0): the entries
-- of its column there, in order. The labels are those of the rows from `row` on.
unfoldable pub values : Table → Measure → ℕ → List ℕ → List ℤ
unfolding entry
values t m row [] = []
values t m row (l ∷ ls) = keep (eqb m.letter 0 || eqb l m.letter) (entry t row m.column) (values t m (row + 1) ls)

-- a value joined to the result of those before it: 2 SUM the sum, 3 MIN the lower, 4 MAX the
-- higher, 5 FIRST the earlier, 6 LAST the later. No other function joins.
unfoldable pub joined : ℕ → ℤ → ℤ → ℤ
joined f a b =
    pick (eqb f 2) (a +ℤ b)
    (pick (eqb f 3) (pick (lt_z b a) b a)
    (pick (eqb f 4) (pick (lt_z a b) b a)
    (pick (eqb f 5) a
    (pick (eqb f 6) b
    a))))

unfoldable pub join_all : ℕ → ℤ → List ℤ → ℤ
unfolding joined
join_all f a [] = a
join_all f a (x ∷ xs) = join_all f (joined f a x) xs

-- COUNT (1) of no rows is 0; the others are null (none).
unfoldable pub over_some : ℕ → List ℤ → Option ℤ
unfolding join_all
over_some f [] = none
over_some f (x ∷ xs) = some (join_all f x xs)

-- 7 AVG (R-5): the sum divided by the count, exact, cut toward zero; null for no rows
unfoldable pub average_of : List ℤ → Option ℤ
unfolding join_all
average_of [] = none
average_of (x ∷ xs) = some (quot_z (join_all 2 x xs) (pos (length (x ∷ xs))))

unfoldable pub result_of : ℕ → List ℤ → Option ℤ
unfolding over_some average_of
result_of f xs = pick (eqb f 1) (some (pos (length xs))) (pick (eqb f 7) (average_of xs) (over_some f xs))

unfoldable pub measured : Table → ℕ → List ℕ → Measure → Option ℤ
unfolding result_of values
measured t row ls m = result_of m.function (values t m row ls)

-- ---- a match's numbers and labels

-- per measure 1 and the result, or 0 and 0 for null
unfoldable pub two_of : Option ℤ → List ℤ
two_of (some v) = pos 1 ∷ v ∷ []
two_of none = pos 0 ∷ pos 0 ∷ []

unfoldable pub measure_numbers : Table → ℕ → List ℕ → List Measure → List ℤ
unfolding two_of measured
measure_numbers t row ls [] = []
measure_numbers t row ls (m ∷ ms) = two_of (measured t row ls m) ++ measure_numbers t row ls ms

-- match number k (from 1), its first row (its start where it is empty), the rows taken, and the
-- measures
unfoldable pub match_numbers : Table → List Measure → ℕ → ℕ → List ℕ → List ℤ
unfolding measure_numbers
match_numbers t ms k row ls = pos k ∷ pos row ∷ pos (length ls) ∷ measure_numbers t row ls ms

-- the numbers of all matches, one match behind the other, where k matches come before them; and
-- their labels
unfoldable pub numbers_of : Table → List Measure → List Place → ℕ → List Match → List ℤ
unfolding match_numbers labels
numbers_of t ms pl k [] = []
numbers_of t ms pl k (x ∷ xs) = match_numbers t ms (suc k) x.start (labels pl x.path) ++ numbers_of t ms pl (suc k) xs

unfoldable pub labels_of : List Place → List Match → List ℕ
unfolding labels
labels_of pl [] = []
labels_of pl (x ∷ xs) = labels pl x.path ++ labels_of pl xs

-- the room that a report has: so many numbers and so many labels are lent, for matches with these
-- measures
pub record LentRoom : Type 0 where
  pub numbers : ℕ
  pub labels : ℕ
  pub measures : List Measure

abbrev pub lent_room : ℕ → ℕ → List Measure → LentRoom
lent_room nums labs ms = record { numbers = nums; labels = labs; measures = ms }

-- A match with these labels fits whole behind m matches with l labels: its numbers, 3 and 2 for
-- each measure, and its labels.
unfoldable pub fits : LentRoom → ℕ → ℕ → List ℕ → Bool
fits room m l ls = leb (suc m * (3 + 2 * length room.measures)) room.numbers && leb (l + length ls) room.labels

-- ---- notes and trail

-- the bytes that so many bits take: a byte for every 8, rounded up
unfoldable pub bytes_for : ℕ → ℕ
bytes_for bits = (bits + 7) / 8

-- bit k of a number, lowest first; and bit x of a byte buffer, lowest bit first in each byte
unfoldable pub bit_of : ℕ → ℕ → ℕ
bit_of zero b = b % 2
bit_of (suc k) b = bit_of k (b / 2)

unfoldable pub bit_at : List ℕ → ℕ → Bool
unfolding bit_of
bit_at s x = eqb (bit_of (x % 8) (get_or s (x / 8) 0)) 1

-- the number whose bit j is 1 exactly if f j is true, for j below k
unfoldable pub weigh : ℕ → (ℕ → Bool) → ℕ
weigh zero f = 0
weigh (suc k) f = weigh k f + pick (f k) (2 ^ k) 0

-- The notes for these failed pairs: bit x is 1 exactly if pair x has failed; spare bits of the last
-- byte are 0. The law `noted` (crates/laws, Noted) says so.
unfoldable pub notes_of : List Bool → List ℕ
unfolding bytes_for weigh tabulate
notes_of F = tabulate (bytes_for (length F)) (λ b. weigh 8 (λ j. get_or F (8 * b + j) false))

-- the trail: as many zeros as there are pairs
unfoldable pub zeros : ℕ → List ℕ
zeros N = replicate N 0

-- No rule. How the tree of a text is computed, so that definitions which need it can be run. The law
-- `tree-exactly` (crates/laws, Grammar) says that `tree_of text` is `some p` exactly if p is
-- `Written` in the text (specs/Language), so nothing below has to be believed. Recursive descent
-- over the bytes: each reader begins at its first byte and ends behind its last token and the
-- spaces there. A reader that finds nothing stops at the first byte with which no text of the
-- language begins that way, or at the end; `wrong-exactly` and `incomplete-exactly` (crates/laws,
-- Stops) say so of `stop_of text`.
use Rattle.std.specs.Prelude.{Bool, true, false, List, [], ◌∷◌, ℕ, zero, suc, ◌+◌, ◌*◌, ◌-◌, eqb, leb, length}
use Rattle.std.proofs.Math.Option.{Option, none, some}
use Rattle.rules.specs.Basics.{pick, in_range, is_letter}
use Rattle.rules.specs.Language.{Form, star, plus, opt, exactly, at_least, at_most, between, Rank, pattern, branch, factor, primary, Tree, one, more, last, next, bare, times, letter, caret, dollar, empty, group}

-- what a reader finds: a tree and the bytes behind it, or nothing, and the bytes from the one at
-- which it stops
pub data Reading (A : Type 0) : Type 0 where
  got : A → List ℕ → Reading A
  bad : List ℕ → Reading A

-- the bytes that are left
unfoldable pub left : {A : Type 0} → Reading A → List ℕ
left (got x u) = u
left (bad u) = u

-- the first byte, 0 if there is none, and the bytes behind it
unfoldable pub peek : List ℕ → ℕ
peek [] = 0
peek (b ∷ s) = b

unfoldable pub rest : List ℕ → List ℕ
rest [] = []
rest (b ∷ s) = s

-- behind the spaces
unfoldable pub skip_spaces : List ℕ → List ℕ
skip_spaces [] = []
skip_spaces (b ∷ s) = pick (eqb b 32) (skip_spaces s) (b ∷ s)

unfoldable pub is_digit : ℕ → Bool
unfolding in_range
is_digit b = in_range 48 57 b

-- ---- quantifiers

-- a number of one digit, or of two of which the first is not 0
unfoldable pub number : List ℕ → Reading ℕ
unfolding peek rest is_digit
number s =
    pick (is_digit (peek s))
    (pick (is_digit (peek (rest s)))
    (pick (eqb (peek s) 48) (bad (rest s)) (got (10 * (peek s - 48) + (peek (rest s) - 48)) (rest (rest s))))
    (got (peek s - 48) (rest s)))
    (bad s)

-- An upper bound: a number that is 1 at least and n at least, n being 0 to 99. Its first digit is 1
-- to 9 and begins some number that is n at least, or else it is wrong there. A number that is below
-- n all the same is wrong at u, behind its first digit: at its second, or where it has none.
unfoldable pub bound_reached : ℕ → List ℕ → Reading ℕ → Reading ℕ
bound_reached n u (bad v) = bad v
bound_reached n u (got m v) = pick (leb n m) (got m v) (bad u)

unfoldable pub reaching : ℕ → List ℕ → Reading ℕ
unfolding in_range bound_reached number
reaching n s = pick (in_range 49 57 (peek s)) (pick (leb n (10 * (peek s - 48) + 9)) (bound_reached n (rest s) (number s)) (bad s)) (bad s)

unfoldable pub bounded : Form → Bool
bounded star = true
bounded plus = true
bounded opt = true
bounded (exactly n) = pick (leb 1 n) (leb n 99) false
bounded (at_least n) = leb n 99
bounded (at_most m) = pick (leb 1 m) (leb m 99) false
bounded (between n m) = pick (leb 1 m) (pick (leb n m) (leb m 99) false) false

-- at a quantifier's place: none, one with its reluctant mark and the bytes behind it, or one that
-- is broken, and the bytes from there on
pub data Marked : Type 0 where
  unmarked : Marked
  broken : List ℕ → Marked
  marked : Form → Bool → List ℕ → Marked

-- behind a quantifier: the reluctant mark, if it is there, and spaces
unfoldable pub reluctant : Form → List ℕ → Marked
unfolding peek rest skip_spaces
reluctant f s = pick (eqb (peek s) 63) (marked f true (skip_spaces (rest s))) (marked f false (skip_spaces s))

-- behind the last bound: `}`, and the bounds are in order
unfoldable pub shut : (ℕ → Form) → Reading ℕ → Marked
unfolding reluctant bounded
shut f (bad u) = broken u
shut f (got n s) = pick (eqb (peek s) 125) (pick (bounded (f n)) (reluctant (f n) (rest s)) (broken s)) (broken s)

-- behind `{n,`
unfoldable pub up_to : ℕ → List ℕ → Marked
unfolding shut reaching
up_to n s = pick (eqb (peek s) 125) (pick (bounded (at_least n)) (reluctant (at_least n) (rest s)) (broken s)) (shut (between n) (reaching n s))

-- behind `{n`
unfoldable pub from : Reading ℕ → Marked
unfolding up_to
from (bad u) = broken u
from (got n s) = pick (eqb (peek s) 44) (up_to n (rest s)) (shut exactly (got n s))

-- behind `{`
unfoldable pub braces : List ℕ → Marked
unfolding from
braces s = pick (eqb (peek s) 44) (shut at_most (reaching 1 (rest s))) (from (number s))

unfoldable pub quantifier : List ℕ → Marked
unfolding braces
quantifier s =
    pick (eqb (peek s) 42) (reluctant star (rest s))
    (pick (eqb (peek s) 43) (reluctant plus (rest s))
    (pick (eqb (peek s) 63) (reluctant opt (rest s))
    (pick (eqb (peek s) 123) (braces (rest s)) unmarked)))

-- ---- the four readers

-- a branch ends at the text's end, at `|` and at `)`
unfoldable pub branch_ends : ℕ → Bool
branch_ends b = pick (eqb b 0) true (pick (eqb b 124) true (eqb b 41))

-- what is found, under a constructor
unfoldable pub under : {A B : Type 0} → (A → B) → Reading A → Reading B
under f (bad u) = bad u
under f (got x s) = got (f x) s

-- branch, or branch | pattern
unfoldable pub alt_on : Bool → (List ℕ → Reading (Tree pattern)) → Tree branch → List ℕ → Reading (Tree pattern)
unfolding under rest skip_spaces
alt_on true again b s = under (more b) (again (skip_spaces (rest s)))
alt_on false again b s = got (one b) s

unfoldable pub alt_with : (List ℕ → Reading (Tree pattern)) → Reading (Tree branch) → Reading (Tree pattern)
unfolding alt_on peek
alt_with again (bad u) = bad u
alt_with again (got b s) = alt_on (eqb (peek s) 124) again b s

-- factor, or factor branch
unfoldable pub seq_on : Bool → (List ℕ → Reading (Tree branch)) → Tree factor → List ℕ → Reading (Tree branch)
unfolding under
seq_on true again f s = got (last f) s
seq_on false again f s = under (next f) (again s)

unfoldable pub seq_with : (List ℕ → Reading (Tree branch)) → Reading (Tree factor) → Reading (Tree branch)
unfolding seq_on peek branch_ends
seq_with again (bad u) = bad u
seq_with again (got f s) = seq_on (branch_ends (peek s)) again f s

-- primary, or primary and quantifier
unfoldable pub times_on : Tree primary → List ℕ → Marked → Reading (Tree factor)
times_on x s unmarked = got (bare x) s
times_on x s (broken u) = bad u
times_on x s (marked f z r) = got (times x f z) r

unfoldable pub times_with : Reading (Tree primary) → Reading (Tree factor)
unfolding times_on quantifier
times_with (bad u) = bad u
times_with (got x s) = times_on x s (quantifier s)

-- behind a pattern in parentheses: `)`
unfoldable pub closed : Reading (Tree pattern) → Reading (Tree primary)
unfolding peek rest skip_spaces
closed (bad u) = bad u
closed (got p s) = pick (eqb (peek s) 41) (got (group p) (skip_spaces (rest s))) (bad s)

-- behind `(` and spaces: `)`, or a pattern and `)`
unfoldable pub parted : Bool → (List ℕ → Reading (Tree pattern)) → List ℕ → Reading (Tree primary)
unfolding closed
parted true again s = got empty (skip_spaces (rest s))
parted false again s = closed (again s)

-- no parenthesis: a letter that no letter follows, or an anchor
unfoldable pub simple : List ℕ → Reading (Tree primary)
unfolding is_letter peek rest skip_spaces
simple s =
    pick (eqb (peek s) 94) (got caret (skip_spaces (rest s)))
    (pick (eqb (peek s) 36) (got dollar (skip_spaces (rest s)))
    (pick (is_letter (peek s)) (pick (is_letter (peek (rest s))) (bad (rest s)) (got (letter (peek s)) (skip_spaces (rest s)))) (bad s)))

unfoldable pub primary_on : Bool → (List ℕ → Reading (Tree pattern)) → List ℕ → Reading (Tree primary)
unfolding parted simple
primary_on true again s = parted (eqb (peek (skip_spaces (rest s))) 41) again (skip_spaces (rest s))
primary_on false again s = simple s

-- what the reader of a rank finds; the number bounds the depth of the readers. The law `read-enough`
-- (crates/laws, Depth) says that `depth`, below, is enough.
unfoldable pub read : ℕ → (k : Rank) → List ℕ → Reading (Tree k)
unfolding alt_with seq_with times_with primary_on
read zero k s = bad s
read (suc n) pattern s = alt_with (read n pattern) (read n branch s)
read (suc n) branch s = seq_with (read n branch) (read n factor s)
read (suc n) factor s = times_with (read n primary s)
read (suc n) primary s = primary_on (eqb (peek s) 40) (read n pattern) s

-- ranks, and a depth that is enough
unfoldable pub rank_of : Rank → ℕ
rank_of pattern = 3
rank_of branch = 2
rank_of factor = 1
rank_of primary = 0

unfoldable pub depth : Rank → List ℕ → ℕ
unfolding rank_of
depth k s = 4 * length s + rank_of k + 1

-- ---- a whole text

unfoldable pub whole_tree : Reading (Tree pattern) → Option (Tree pattern)
whole_tree (bad u) = none
whole_tree (got p []) = some p
whole_tree (got p (b ∷ s)) = none

-- the tree of a text, if it has one
unfoldable pub tree_of : List ℕ → Option (Tree pattern)
unfolding whole_tree read skip_spaces
tree_of s = whole_tree (read (4 * length s + 4) pattern (skip_spaces s))

-- where reading stops: how many bytes are read
unfoldable pub stop_of : List ℕ → ℕ
unfolding left read skip_spaces
stop_of s = length s - length (left (read (4 * length s + 4) pattern (skip_spaces s)))

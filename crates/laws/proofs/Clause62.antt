-- The lists that clause 6.2 of ISO/IEC 19075-5 prints, as a check of the order of preferment and of
-- specs/Clause627: each list is the whole parenthesised language of its pattern in descending order
-- (rows 1 to 9), or what clause 6.2.7 leaves of it (rows 10 to 12). First a derivation as the
-- clause writes it, in parentheses (`text`). Three or more branches, and three or more factors,
-- nest to the right, as the tree does: the clause prints none.
use mathlib.Core.Path.{◌≡◌, refl}
use mathlib.Core.List.{List, [], ◌∷◌, ◌++◌, map, flat_map, Memᴰ}
use mathlib.Core.Bool.{Bool, true, false}
use mathlib.Core.Logic.{inl, inr}
use Prim.Native.Nat.{ℕ, suc, ◌-◌}
use Prim.Native.String.{String, slice}
use Rattle.rules.specs.Basics.{keep}
use Rattle.rules.specs.Clause627.{allowed}
use Rattle.rules.specs.Language.{opt, between, Rank, pattern, factor, primary, Tree, one, more, last, next, bare, times, letter, caret, dollar, empty, group}
use Rattle.rules.specs.Preferment.{Derivation, Prefers}
use Rattle.laws.proofs.Listing.{Descends, bounded, listing, listing-descends, listing-complete}

-- ---- strings

-- ( ) - ^ $ and the letters
pub data Symbol : Type 0 where
  left right dash at_start at_end : Symbol
  name : ℕ → Symbol

-- 6.2.1: a dash stands for the branch that is not taken. 6.2.2, 6.2.3: a concatenation and an
-- expanded quantifier stand in parentheses. 6.2.5: an anchor is itself. 6.2.6: the empty pattern is
-- a pair of parentheses.
unfoldable pub text : {k : Rank} (t : Tree k) → Derivation t → List Symbol
unfolding Derivation flat_map
text (one b) d = text b d
text (more b p) (inl d) = left ∷ text b d ++ (dash ∷ right ∷ [])
text (more b p) (inr d) = left ∷ dash ∷ text p d ++ (right ∷ [])
text (last f) d = text f d
text (next f b) d = left ∷ text f d.0 ++ (text b d.1 ++ (right ∷ []))
text (bare x) d = text x d
text (times x f z) d = left ∷ flat_map (λ y. text x y) d.0 ++ (right ∷ [])
text (letter c) d = name c ∷ []
text caret d = at_start ∷ []
text dollar d = at_end ∷ []
text empty d = left ∷ right ∷ []
text (group p) d = text p d

-- a string as the standard prints it, with a space between two symbols except behind ( and before )

abbrev join : String → String → String
join a b = Prim.Native.String.◌++◌ a b

abbrev sign : Symbol → String
sign left = "("
sign right = ")"
sign dash = "-"
sign at_start = "^"
sign at_end = "$"
sign (name c) = slice "ABCDEFGHIJKLMNOPQRSTUVWXYZ" (c - 65) (suc (c - 65))

abbrev is_left : Symbol → Bool
is_left left = true
is_left right = false
is_left dash = false
is_left at_start = false
is_left at_end = false
is_left (name c) = false

abbrev is_right : Symbol → Bool
is_right left = false
is_right right = true
is_right dash = false
is_right at_start = false
is_right at_end = false
is_right (name c) = false

abbrev gap : Bool → Bool → String
gap true b = ""
gap false true = ""
gap false false = " "

abbrev printed : List Symbol → String
printed [] = ""
printed (x ∷ []) = sign x
printed (x ∷ y ∷ r) = join (sign x) (join (gap (is_left x) (is_right y)) (printed (y ∷ r)))

-- these are the strings of t's parenthesised language, each preferred to all behind it
record Prints (t : Tree pattern) (ss : List String) : Type 0 where
  all : List (Derivation t)
  descend : Descends (Prefers t) all
  complete : (d : Derivation t) → Memᴰ d all
  print : map (λ d. printed (text t d)) all ≡ ss

prints : (t : Tree pattern) (ss : List String) → bounded t ≡ true → map (λ d. printed (text t d)) (listing t) ≡ ss → Prints t ss
prints t ss b e = record { all = listing t; descend = listing-descends t; complete = listing-complete t b; print = e }

-- ---- the table

abbrev A : Tree primary
A = letter 65

abbrev B : Tree primary
B = letter 66

-- a factor only, two branches in parentheses, and a quantifier with two bounds
abbrev only : Tree factor → Tree pattern
only f = one (last f)

abbrev or : Tree factor → Tree factor → Tree pattern
or f g = more (last f) (only g)

abbrev choice : Tree primary → Tree primary → Tree primary
choice x y = group (or (bare x) (bare y))

-- 6.2: A | A
row1 : Prints (or (bare A) (bare A)) ("(A -)" ∷ "(- A)" ∷ [])
unfolding listing text bounded
row1 = prints _ _ refl refl

-- 6.2.1: A{1,2} | B{2,3}
row2 : Prints (or (times A (between 1 2) false) (times B (between 2 3) false)) ("((A A) -)" ∷ "((A) -)" ∷ "(- (B B B))" ∷ "(- (B B))" ∷ [])
unfolding listing text bounded
row2 = prints _ _ refl refl

-- 6.2.2: (A | B) (C | D)
row3 : Prints (one (next (bare (choice A B)) (last (bare (choice (letter 67) (letter 68)))))) ("((A -) (C -))" ∷ "((A -) (- D))" ∷ "((- B) (C -))" ∷ "((- B) (- D))" ∷ [])
unfolding listing text bounded
row3 = prints _ _ refl refl

-- 6.2.3: V{2,4}
row4 : Prints (only (times (letter 86) (between 2 4) false)) ("(V V V V)" ∷ "(V V V)" ∷ "(V V)" ∷ [])
unfolding listing text bounded
row4 = prints _ _ refl refl

-- 6.2.3: V{2,4}?
row5 : Prints (only (times (letter 86) (between 2 4) true)) ("(V V)" ∷ "(V V V)" ∷ "(V V V V)" ∷ [])
unfolding listing text bounded
row5 = prints _ _ refl refl

-- 6.2.3: (A|B){1,2}
row6 : Prints (only (times (choice A B) (between 1 2) false)) ("((A -) (A -))" ∷ "((A -) (- B))" ∷ "((A -))" ∷ "((- B) (A -))" ∷ "((- B) (- B))" ∷ "((- B))" ∷ [])
unfolding listing text bounded
row6 = prints _ _ refl refl

-- 6.2.3: (A|B){1,2}?
row7 : Prints (only (times (choice A B) (between 1 2) true)) ("((A -))" ∷ "((A -) (A -))" ∷ "((A -) (- B))" ∷ "((- B))" ∷ "((- B) (A -))" ∷ "((- B) (- B))" ∷ [])
unfolding listing text bounded
row7 = prints _ _ refl refl

-- 6.2.7: A? and A??
row8 : Prints (only (times A opt false)) ("(A)" ∷ "()" ∷ [])
unfolding listing text bounded
row8 = prints _ _ refl refl

row9 : Prints (only (times A opt true)) ("()" ∷ "(A)" ∷ [])
unfolding listing text bounded
row9 = prints _ _ refl refl

-- ---- 6.2.7: what is left of (A?){0,3}, (A?){1,3} and (A?){2,3}. The clause lists these by length
-- and not in their order.

unfoldable left_in : (t : Tree pattern) → List (Derivation t) → List String
unfolding text allowed
left_in t [] = []
left_in t (d ∷ ds) = keep (allowed t d) (printed (text t d)) (left_in t ds)

abbrev optional : ℕ → ℕ → Tree pattern
optional lo hi = only (times (group (only (times A opt false))) (between lo hi) false)

row10 : left_in (optional 0 3) (listing (optional 0 3)) ≡ "((A) (A) (A))" ∷ "((A) (A) ())" ∷ "((A) (A))" ∷ "((A) ())" ∷ "((A))" ∷ "(())" ∷ "()" ∷ []
unfolding left_in listing
row10 = refl

row11 : left_in (optional 1 3) (listing (optional 1 3)) ≡ "((A) (A) (A))" ∷ "((A) (A) ())" ∷ "((A) (A))" ∷ "((A) ())" ∷ "((A))" ∷ "(())" ∷ []
unfolding left_in listing
row11 = refl

row12 : left_in (optional 2 3) (listing (optional 2 3))
    ≡ "((A) (A) (A))" ∷ "((A) (A) ())" ∷ "((A) (A))" ∷ "((A) ())" ∷ "(() (A) (A))" ∷ "(() (A) ())" ∷ "(() (A))" ∷ "(() ())" ∷ []
unfolding left_in listing
row12 = refl

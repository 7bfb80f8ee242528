-- What the functions that unroll a tree into a table need and promise: forks, parts of a tree, and
-- the whole.
use Rattle.std.specs.Prelude.{◌≡◌, Bool, true, List, [], ◌∷◌, ℕ, ◌+◌, ◌*◌, ◌-◌, ◌≤◌, ◌<◌, length, get_or, Option, Some, None}
use Rattle.rules.specs.Basics.{is_letter, every}
use Rattle.rules.specs.Language.{pattern, factor, Tree, one, last, letters, Written, nullable}
use Rattle.rules.specs.Places.{Unrolled, u_star, copies, options, unrolled, unroll, Place, p_fork, ways_in_turn, size, sizes, places, fork, place_count, places_of, factor_of}
use Rattle.rules.specs.Working.{distinct, fresh, thinned}
use Rattle.trees.specs.Held.{body, lazy_of, Top}
use Rattle.table.specs.Table.{later_at, count_at, span, places_in}
use Rattle.table.specs.Sized.{Sized}
use Rattle.place_words.specs.Words.{put_ways, FitsOne, Fitting}
use Rattle.place_codes.specs.declared.Plane.{Plane}
use Rattle.place_codes.specs.declared.Behind.{Behind}
use Rattle.forks.specs.PlaneCode.{used, flags_copy, starts_in, plane_of, planes_of}

-- the starts of the branches of p that were not seen, each once
abbrev pub new_starts : Plane → List ℕ → Tree pattern → ℕ → ℕ → List ℕ
new_starts o seen p b k = fresh seen (starts_in o (unrolled p) b k)

pub record Starting (o : Plane) (s : List ℕ) (i : ℕ) (T : List ℕ) (from to b k : ℕ) : Type 0 where
  pub tree : Tree pattern
  pub top : Top tree i s
  pub order : from ≤ to
  pub small : length T < 65536
  pub way : to + length (new_starts o (span T from (to - from)) tree b k) ≤ length T
  pub place : b + sizes (unrolled tree) ≤ 256
  pub behind : k < 4096

pub record Started (o : Plane) (s : List ℕ) (i : ℕ) (T : List ℕ) (from to b k : ℕ) (exit : List ℕ) (r : ℕ) (h : Starting o s i T from to b k) : Type 0 where
  pub is : exit ≡ put_ways T to (new_starts o (span T from (to - from)) h.tree b k)
  pub way : r ≡ to + length (new_starts o (span T from (to - from)) h.tree b k)

-- a fork of two ways, as entry q
abbrev pub two_places : ℕ → ℕ → Place
two_places x y = p_fork (distinct (x ∷ y ∷ []))

pub record TwoWays (T : List ℕ) (q w x y : ℕ) : Type 0 where
  pub fits : FitsOne T q w (two_places x y)
  pub first : x < 65536
  pub second : y < 65536

-- a fork between a copy and leaving, as entry q
abbrev pub choice : Bool → ℕ → ℕ → Place
choice lazy copy leave = p_fork (distinct (ways_in_turn lazy copy leave))

pub record Choosing (T : List ℕ) (q w : ℕ) (lazy : Bool) (copy leave : ℕ) : Type 0 where
  pub fits : FitsOne T q w (choice lazy copy leave)
  pub copied : copy < 65536
  pub left : leave < 65536

-- the same as the one place at b, in a plane
abbrev pub choice_places : Plane → Bool → ℕ → Behind → List Place
choice_places o lazy copy k = used o k (choice lazy copy k.here) ∷ []

pub record Parting (o : Plane) (T : List ℕ) (b w : ℕ) (lazy : Bool) (copy : ℕ) (k : Behind) : Type 0 where
  pub fits : Fitting o T b w k (choice_places o lazy copy k)
  pub copied : copy < 65536

-- the fork of an alternation, as the one place at b
abbrev pub fork_places : Plane → Tree pattern → ℕ → Behind → List Place
fork_places o p b k = used o k (p_fork (distinct (starts_in o (unrolled p) (b + 1) k.here))) ∷ []

pub record Forking (o : Plane) (s : List ℕ) (i : ℕ) (T : List ℕ) (b w : ℕ) (k : Behind) : Type 0 where
  pub tree : Tree pattern
  pub top : Top tree i s
  pub fits : Fitting o T b w k (fork_places o tree b k)
  pub room : b + 1 + sizes (unrolled tree) ≤ 256

-- ---- a tree's places

-- m times a fork and a copy, or for no number a fork and a copy that leads back to it
abbrev pub turns_on : Option ℕ → Bool → Unrolled → Unrolled
turns_on None lazy t = u_star lazy t
turns_on (Some m) lazy t = options m lazy t

-- n copies, and these behind them
unfoldable pub turns : ℕ → Option ℕ → Bool → Unrolled → Unrolled
unfolding copies options
turns n m lazy t = copies n t (turns_on m lazy t)

-- in a plane, numbered from b on, where k is behind them
module _ (o : Plane) where
  abbrev pub tree_places : Tree pattern → ℕ → Behind → List Place
  tree_places p b k = thinned (plane_of o (unroll p) b k)

  -- the branches' places, without the fork of an alternation
  abbrev pub branch_places : Tree pattern → ℕ → Behind → List Place
  branch_places p b k = thinned (planes_of o (unrolled p) b k)

  -- a factor's body, without its quantifier
  abbrev pub body_places : Tree factor → ℕ → Behind → List Place
  body_places F b k = thinned (plane_of o (unrolled (body F)) b k)

  -- the turns of a factor's body
  abbrev pub turn_places : ℕ → Option ℕ → Tree factor → ℕ → Behind → List Place
  turn_places n m F b k = thinned (plane_of o (turns n m (lazy_of F) (unrolled (body F))) b k)

pub record Emitting (o : Plane) (s : List ℕ) (i : ℕ) (T : List ℕ) (b w : ℕ) (k : Behind) : Type 0 where
  pub tree : Tree pattern
  pub top : Top tree i s
  pub fits : Fitting o T b w k (tree_places o tree b k)

pub record Branching (o : Plane) (s : List ℕ) (i : ℕ) (T : List ℕ) (b w : ℕ) (k : Behind) : Type 0 where
  pub tree : Tree pattern
  pub top : Top tree i s
  pub fits : Fitting o T b w k (branch_places o tree b k)

pub record Bodying (o : Plane) (s : List ℕ) (i : ℕ) (T : List ℕ) (b w : ℕ) (k : Behind) : Type 0 where
  pub of : Tree factor
  pub top : Top (one (last of)) i s
  pub fits : Fitting o T b w k (body_places o of b k)

-- c: the places of a body; lazy: the quantifier is reluctant; empty: a copy that leads back to its
-- fork has a flag; end: the number behind the last place
pub record Turning (o : Plane) (s : List ℕ) (i c : ℕ) (lazy empty : Bool) (n : ℕ) (m : Option ℕ) (end : ℕ) (T : List ℕ) (b w : ℕ) (k : Behind) : Type 0 where
  pub of : Tree factor
  pub top : Top (one (last of)) i s
  pub each : c ≡ size (unrolled (body of))
  pub reluctant : lazy ≡ lazy_of of
  pub flags : empty ≡ flags_copy o.factor (unrolled (body of))
  pub ends : end ≡ b + size (turns n m (lazy_of of) (unrolled (body of)))
  pub fits : Fitting o T b w k (turn_places o n m of b k)

-- r is the number of places of whatever tree has its top at i, if it has at most 256
abbrev pub WholeSize : List ℕ → ℕ → ℕ → Type 0
WholeSize s i r = (p : Tree pattern) → Top p i s → place_count p ≤ 256 → r ≡ fork p + place_count p

abbrev pub BodySize : List ℕ → ℕ → ℕ → Type 0
BodySize s i r = (F : Tree factor) → Top (one (last F)) i s → place_count F ≤ 256 → r ≡ place_count (body F)

-- r says whether the body of whatever factor has its top at i can take no row
abbrev pub BodyEmpty : List ℕ → ℕ → Bool → Type 0
BodyEmpty s i r = (F : Tree factor) → Top (one (last F)) i s → r ≡ nullable (body F)

-- r says whether the copy of the body of whatever factor has its top at i has a flag
abbrev pub BodyFlag : ℕ → List ℕ → ℕ → Bool → Type 0
BodyFlag f s i r = (F : Tree factor) → Top (one (last F)) i s → r ≡ flags_copy f (unrolled (body F))

-- ---- the whole

-- room for four words and three ways to an entry
pub record Unrolling (s : List ℕ) (top P F : ℕ) (T : List ℕ) : Type 0 where
  pub tree : Tree pattern
  pub is : Top tree top s
  pub spelt : every is_letter (letters tree) ≡ true
  pub text : List ℕ
  pub written : Written tree text
  pub short : length text ≤ 256
  pub count : P ≡ places_of tree
  pub factor : F ≡ factor_of tree
  pub few : P ≤ 256
  pub nested : F ≤ 8
  pub long : 7 * (P * F) ≤ length T
  pub small : length T < 65536

-- The table holds the places of the tree with all values of their flags, each fork's ways once, and
-- keeps to what the walk relies on; the ways stand behind the words of all places and end before the
-- word r, and from there on no word is changed.
pub record PlacesTabled (p : Tree pattern) (N : ℕ) (T exit : List ℕ) (r : ℕ) : Type 0 where
  pub is : places_in exit N ≡ thinned (places (unroll p))
  pub sized : Sized exit N
  pub behind : (q : ℕ) → q < N → 2 < count_at exit q → 4 * N ≤ later_at exit q
  pub few : (4 * N ≤ r) × (r ≤ 7 * N)
  pub kept : (j : ℕ) → r ≤ j → get_or exit j 0 ≡ get_or T j 0
  pub len : length exit ≡ length T

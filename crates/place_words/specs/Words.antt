-- A table into which places are put one after another, in the layout of crates/table.
use Rattle.std.specs.Prelude.{◌≡◌, true, false, List, [], ◌∷◌, ℕ, suc, ◌+◌, ◌*◌, ◌-◌, ◌≤◌, ◌<◌, length, get_or, set, ltb}
use Rattle.rules.specs.Basics.{pick, has}
use Rattle.rules.specs.Places.{Place, p_letter, p_caret, p_dollar, p_fork, p_end}
use Rattle.table.specs.Table.{span}
use Rattle.place_codes.specs.Codes.{letter_code, fork_code, later_word}
use Rattle.place_codes.specs.Planes.{Low, slot}
use Rattle.place_codes.specs.declared.Plane.{Plane}
use Rattle.place_codes.specs.declared.Behind.{Behind}

-- ---- the table with places

-- ways from word w on
unfoldable pub put_ways : List ℕ → ℕ → List ℕ → List ℕ
put_ways T w [] = T
put_ways T w (k ∷ ks) = put_ways (set T w k) (suc w) ks

-- the four words of a place
pub record PlaceWords : Type 0 where
  pub code : ℕ
  pub first : ℕ
  pub later : ℕ
  pub count : ℕ

abbrev pub place_words : ℕ → ℕ → ℕ → ℕ → PlaceWords
place_words code first later count = record { code = code; first = first; later = later; count = count }

-- these words as those of place q
unfoldable pub put_words : List ℕ → ℕ → PlaceWords → List ℕ
put_words T q w = set (set (set (set T (4 * q) w.code) (4 * q + 1) w.first) (4 * q + 2) w.later) (4 * q + 3) w.count

-- place q, the ways of a fork from word w on
unfoldable pub put_place : List ℕ → ℕ → ℕ → Place → List ℕ
unfolding put_words put_ways
put_place T q w (p_letter c k) = put_words T q (place_words (letter_code c) k 0 0)
put_place T q w (p_caret k) = put_words T q (place_words 26 k 0 0)
put_place T q w (p_dollar k) = put_words T q (place_words 27 k 0 0)
put_place T q w (p_fork ks) =
    put_words (put_ways T w ks) q (place_words (fork_code (get_or ks 0 0) (q + 1) (length ks)) (get_or ks 0 0) (later_word (get_or ks 1 0) w (length ks)) (length ks))
put_place T q w p_end = put_words T q (place_words 30 0 0 0)

unfoldable pub way_count : Place → ℕ
way_count (p_letter c k) = 0
way_count (p_caret k) = 0
way_count (p_dollar k) = 0
way_count (p_fork ks) = length ks
way_count p_end = 0

unfoldable pub ways_in : List Place → ℕ
unfolding way_count
ways_in [] = 0
ways_in (p ∷ ps) = way_count p + ways_in ps

-- places from q on in the entries of a plane, their ways from word w on
unfoldable pub put_places : Plane → List ℕ → ℕ → ℕ → List Place → List ℕ
unfolding put_place way_count slot
put_places o T q w [] = T
put_places o T q w (p ∷ ps) = put_places o (put_place T (slot o q) w p) (suc q) (w + way_count p) ps

-- ---- what is put where

-- the table has room for a place as entry q and for its ways from word w on
pub record FitsOne (T : List ℕ) (q w : ℕ) (p : Place) : Type 0 where
  pub index : q < 4096
  pub long : 4 * q + 4 ≤ length T
  pub small : length T < 65536
  pub way : w + way_count p ≤ length T

-- it was put there, and r is the word behind its last way
pub record PutOne (T exit : List ℕ) (q w r : ℕ) (p : Place) : Type 0 where
  pub is : exit ≡ put_place T q w p
  pub way : r ≡ w + way_count p

-- the table has room in a plane for these places from place b on and for their ways from word w on,
-- and all numbers fit their words; k is behind them
pub record Fitting (o : Plane) (T : List ℕ) (b w : ℕ) (k : Behind) (pl : List Place) : Type 0 where
  pub long : (q : ℕ) → q < b + length pl → 4 * slot o q + 4 ≤ length T
  pub small : length T < 65536
  pub place : b + length pl ≤ 256
  pub way : w + ways_in pl ≤ length T
  pub behind : Low k

-- these places were put in a plane from place b on, their ways from word w on, and r is the word
-- behind the last way
pub record Emitted (o : Plane) (T exit : List ℕ) (b w r : ℕ) (pl : List Place) : Type 0 where
  pub is : exit ≡ put_places o T b w pl
  pub way : r ≡ w + ways_in pl

-- place q has its words in the table, and each number fits its word
pub record Wording (T : List ℕ) (q code first later count : ℕ) : Type 0 where
  pub long : 4 * q + 4 ≤ length T
  pub code_fits : code < 65536
  pub first_fits : first < 65536
  pub later_fits : later < 65536
  pub count_fits : count < 65536

-- place b without ways in a plane, with these words, where its flags have so many values
unfoldable pub put_single : List ℕ → Plane → ℕ → PlaceWords → ℕ → List ℕ
unfolding put_words slot
put_single T o b w values = pick (ltb o.flags values) (put_words T (slot o b) w) (put_words T (slot o b) (place_words 30 0 0 0))

pub record Single (T : List ℕ) (o : Plane) (b code k : ℕ) : Type 0 where
  pub place : b ≤ 256
  pub long : 4 * slot o b + 4 ≤ length T
  pub code_fits : code < 65536
  pub first_fits : k < 65536

-- ---- a fork's ways

-- the words of the fork at place q, whose ways stand from word w to word `to`
abbrev pub put_fork : List ℕ → ℕ → ℕ → ℕ → List ℕ
put_fork T q w to =
    put_words T q (place_words (fork_code (get_or T w 0) (q + 1) (to - w)) (get_or T w 0) (later_word (get_or T (w + 1) 0) w (to - w)) (to - w))

pub record ForkNeeds (T : List ℕ) (q w to : ℕ) : Type 0 where
  pub long : 4 * q + 4 ≤ length T
  pub some : w < to
  pub inside : to ≤ length T
  pub small : length T < 65536

-- a way is put unless it stands in the words from `from` to `to`
pub record WayPut (T exit : List ℕ) (from to y r : ℕ) : Type 0 where
  pub old : has y (span T from (to - from)) ≡ true → (exit ≡ T) × (r ≡ to)
  pub new : has y (span T from (to - from)) ≡ false → (exit ≡ set T to y) × (r ≡ to + 1)

pub record WayNeeds (T : List ℕ) (from to y : ℕ) : Type 0 where
  pub order : from ≤ to
  pub inside : to ≤ length T
  pub small : length T < 65536
  pub fits : has y (span T from (to - from)) ≡ false → to < length T
  pub low : y < 65536

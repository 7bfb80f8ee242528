-- Places in a table, in the layout of crates/table: those that were put are read back, and keep to
-- what the walk relies on; other words are as they were. A letter's place is read back only if its
-- letter is A to Z, and a fork only if it has a way (`Sound`).
use mathlib.Core.Path.{◌≡◌, refl, sym, ap, ◌∙◌}
use mathlib.Core.Bool.{Bool, true, false}
use mathlib.Core.List.{List, [], ◌∷◌, ◌++◌}
use Prim.Native.Nat.{ℕ, zero, suc, ◌+◌, ◌*◌, ◌-◌, ◌/◌, ◌%◌, ◌≤◌, ◌<◌}
use native.Mathlib.Omega.{arith}
use lib.Dec.{ltb, eqb}
use lib.ListN.{length, get_or, set, length-append, length-set}
use lib.Arith.{digits_div}
use lib.Seq.{get_or-set_same, get_or-set_other}
use borrow.Author.Tests.{lt-ltb, ltb-true, ne_eqb, eqb-true}
use Rattle.rules.specs.Basics.{pick}
use Rattle.rules.specs.Places.{Place, p_letter, p_caret, p_dollar, p_fork, p_end}
use Rattle.laws.proofs.ThinPlaces.{Spelt}
use Rattle.table.specs.Table.{code_at, first_at, later_at, count_at, span, later_by, later_ways, ways_of, place_by, place_at, places_from}
use Rattle.place_words.specs.Words.{put_ways, put_words, put_place, way_count, ways_in, put_places, FitsOne, PutOne, Fitting, Emitted, place_words}
use Rattle.place_codes.specs.Codes.{letter_code, fork_code, later_word}
use Rattle.place_codes.specs.Planes.{Low, slot}
use Rattle.place_codes.specs.declared.Plane.{Plane}
use Rattle.place_codes.specs.declared.Behind.{Behind}
use Rattle.place_codes.proofs.CodeLaws.{slot-low}

-- ---- the words of a place

abbrev ways_for : Place → List ℕ
ways_for (p_letter c k) = []
ways_for (p_caret k) = []
ways_for (p_dollar k) = []
ways_for (p_fork ks) = ks
ways_for p_end = []

abbrev code_for : ℕ → Place → ℕ
code_for q (p_letter c k) = letter_code c
code_for q (p_caret k) = 26
code_for q (p_dollar k) = 27
code_for q (p_fork ks) = fork_code (get_or ks 0 0) (q + 1) (length ks)
code_for q p_end = 30

abbrev first_for : Place → ℕ
first_for (p_letter c k) = k
first_for (p_caret k) = k
first_for (p_dollar k) = k
first_for (p_fork ks) = get_or ks 0 0
first_for p_end = 0

abbrev later_for : ℕ → Place → ℕ
later_for w (p_letter c k) = 0
later_for w (p_caret k) = 0
later_for w (p_dollar k) = 0
later_for w (p_fork ks) = later_word (get_or ks 1 0) w (length ks)
later_for w p_end = 0

place_is : (T : List ℕ) (q w : ℕ) (p : Place)
    → put_place T q w p ≡ put_words (put_ways T w (ways_for p)) q (place_words (code_for q p) (first_for p) (later_for w p) (length (ways_for p)))
unfolding put_place put_ways
place_is T q w (p_letter c k) = refl
place_is T q w (p_caret k) = refl
place_is T q w (p_dollar k) = refl
place_is T q w (p_fork ks) = refl
place_is T q w p_end = refl

count-is : (p : Place) → way_count p ≡ length (ways_for p)
unfolding way_count
count-is (p_letter c k) = refl
count-is (p_caret k) = refl
count-is (p_dollar k) = refl
count-is (p_fork ks) = refl
count-is p_end = refl

-- ---- lengths

pub ways-length : (T : List ℕ) (w : ℕ) (ks : List ℕ) → length (put_ways T w ks) ≡ length T
unfolding put_ways
ways-length T w [] = refl
ways-length T w (k ∷ ks) = ways-length (set T w k) (suc w) ks ∙ length-set T w k

pub words_are : (T : List ℕ) (q a b c d : ℕ)
    → set (set (set (set T (4 * q) a) (4 * q + 1) b) (4 * q + 2) c) (4 * q + 3) d ≡ put_words T q (place_words a b c d)
unfolding put_words
words_are T q a b c d = refl

pub words_length : (T : List ℕ) (q a b c d : ℕ) → length (put_words T q (place_words a b c d)) ≡ length T
unfolding put_words
words_length T q a b c d = simp length-set

pub place-length : (T : List ℕ) (q w : ℕ) (p : Place) → length (put_place T q w p) ≡ length T
place-length T q w p = ap length (place_is T q w p) ∙ words_length _ q _ _ _ _ ∙ ways-length T w (ways_for p)

pub places-length : (o : Plane) (T : List ℕ) (q w : ℕ) (ps : List Place) → length (put_places o T q w ps) ≡ length T
unfolding put_places
places-length o T q w [] = refl
places-length o T q w (p ∷ ps) = places-length o (put_place T (slot o q) w p) (suc q) (w + way_count p) ps ∙ place-length T (slot o q) w p

-- ---- one after another

pub ways-append : (T : List ℕ) (w : ℕ) (xs ys : List ℕ) → put_ways T w (xs ++ ys) ≡ put_ways (put_ways T w xs) (w + length xs) ys
unfolding put_ways
ways-append T w [] ys = ap (λ (v : ℕ). put_ways T v ys) (let e : w ≡ w + 0 = omega arith in e)
ways-append T w (x ∷ xs) ys = ways-append (set T w x) (suc w) xs ys ∙ ap (λ (v : ℕ). put_ways (put_ways (set T w x) (suc w) xs) v ys)
    (let e : suc w + length xs ≡ w + suc (length xs) = omega arith in e)

pub ways_in-append : (ps rs : List Place) → ways_in (ps ++ rs) ≡ ways_in ps + ways_in rs
unfolding ways_in
ways_in-append [] rs = omega arith
ways_in-append (p ∷ ps) rs = omega (arith, ways_in-append ps rs)

pub places-append : (o : Plane) (T : List ℕ) (q w : ℕ) (ps rs : List Place) → put_places o T q w (ps ++ rs) ≡ put_places o (put_places o T q w ps) (q + length ps) (w + ways_in ps) rs
unfolding put_places ways_in
places-append o T q w [] rs = ap (λ (v : ℕ). put_places o T v w rs) (let e : q ≡ q + 0 = omega arith in e)
    ∙ ap (λ (v : ℕ). put_places o T (q + 0) v rs) (let e : w ≡ w + 0 = omega arith in e)
places-append o T q w (p ∷ ps) rs =
    places-append o (put_place T (slot o q) w p) (suc q) (w + way_count p) ps rs
    ∙ ap (λ (v : ℕ). put_places o (put_places o (put_place T (slot o q) w p) (suc q) (w + way_count p) ps) v (w + way_count p + ways_in ps) rs)
    (let e : suc q + length ps ≡ q + suc (length ps) = omega arith in e)
    ∙ ap (λ (v : ℕ). put_places o (put_places o (put_place T (slot o q) w p) (suc q) (w + way_count p) ps) (q + suc (length ps)) v rs)
    (let e : w + way_count p + ways_in ps ≡ w + (way_count p + ways_in ps) = omega arith in e)

-- ---- what is put, in two parts

module _ (o : Plane) (T : List ℕ) (b w : ℕ) (k : Behind) (xs ys : List Place) where
  pub fit-left : (j : Behind) → Low j → Fitting o T b w k (xs ++ ys) → Fitting o T b w j xs
  fit-left j h f =
      record {
        long = λ q l. f.long q (omega (arith, length-append xs ys));
        small = f.small;
        place = omega (arith, f.place, length-append xs ys);
        way = omega (arith, f.way, ways_in-append xs ys);
        behind = h;
      }

  -- the second part begins at place v
  pub fit-right : (T1 : List ℕ) (v r : ℕ) → v ≡ b + length xs → Emitted o T T1 b w r xs → Fitting o T b w k (xs ++ ys) → Fitting o T1 v r k ys
  fit-right T1 v r ev e f =
      let l : length T1 ≡ length T = ap length e.is ∙ places-length o T b w xs in
      record {
        long = λ q m. omega (arith, f.long q (omega (arith, length-append xs ys)), l);
        small = omega (arith, f.small);
        place = omega (arith, f.place, length-append xs ys);
        way = omega (arith, f.way, ways_in-append xs ys, e.way);
        behind = f.behind;
      }

pub emitted_two : (o : Plane) (T T1 T2 : List ℕ) (b w v r q : ℕ) (xs ys : List Place) → v ≡ b + length xs → Emitted o T T1 b w r xs → Emitted o T1 T2 v r q ys → Emitted o T T2 b w q (xs ++ ys)
emitted_two o T T1 T2 b w v r q xs ys ev x y =
    record {
      is = y.is ∙ ap (λ (U : List ℕ). put_places o U v r ys) x.is ∙ ap (λ (u : ℕ). put_places o (put_places o T b w xs) u r ys) ev
          ∙ ap (λ (u : ℕ). put_places o (put_places o T b w xs) (b + length xs) u ys) x.way ∙ sym (places-append o T b w xs ys);
      way = omega (arith, x.way, y.way, ways_in-append xs ys);
    }

pub emitted_none : (o : Plane) (T : List ℕ) (b w : ℕ) → Emitted o T T b w w []
unfolding put_places ways_in
emitted_none o T b w = record { is = refl; way = omega arith }

pub emitted_length : (o : Plane) (T exit : List ℕ) (b w r : ℕ) (pl : List Place) → Emitted o T exit b w r pl → length exit ≡ length T
emitted_length o T exit b w r pl d = ap length d.is ∙ places-length o T b w pl

-- one place of a plane
module _ (o : Plane) (T : List ℕ) (b w : ℕ) (p : Place) where
  pub fit-one : (k : Behind) (ps : List Place) → Fitting o T b w k (p ∷ ps) → FitsOne T (slot o b) w p
  unfolding ways_in
  fit-one k ps f =
      record {
        index = slot-low o b (omega (arith, f.place));
        long = f.long b (omega arith);
        small = f.small;
        way = omega (arith, f.way);
      }

  pub emitted_one : (T1 : List ℕ) (r : ℕ) → PutOne T T1 (slot o b) w r p → Emitted o T T1 b w r (p ∷ [])
  unfolding put_places ways_in
  emitted_one T1 r d = record { is = d.is; way = omega (arith, d.way) }

-- ---- words that are as they were

words_kept : (T : List ℕ) (q a b c d j : ℕ) → (4 * q ≤ j → j < 4 * q + 4 → ⊥) → get_or (put_words T q (place_words a b c d)) j 0 ≡ get_or T j 0
unfolding put_words
words_kept T q a b c d j h =
    get_or-set_other (set (set (set T (4 * q) a) (4 * q + 1) b) (4 * q + 2) c) (4 * q + 3) j d 0 (λ e. h (omega arith) (omega arith))
    ∙ get_or-set_other (set (set T (4 * q) a) (4 * q + 1) b) (4 * q + 2) j c 0 (λ e. h (omega arith) (omega arith))
    ∙ get_or-set_other (set T (4 * q) a) (4 * q + 1) j b 0 (λ e. h (omega arith) (omega arith))
    ∙ get_or-set_other T (4 * q) j a 0 (λ e. h (omega arith) (omega arith))

ways-kept : (T : List ℕ) (w : ℕ) (ks : List ℕ) (j : ℕ) → (w ≤ j → j < w + length ks → ⊥) → get_or (put_ways T w ks) j 0 ≡ get_or T j 0
unfolding put_ways
ways-kept T w [] j h = refl
ways-kept T w (k ∷ ks) j h = ways-kept (set T w k) (suc w) ks j (λ a b. h (omega arith) (omega arith)) ∙ get_or-set_other T w j k 0 (λ e. h (omega arith) (omega arith))

place_kept : (T : List ℕ) (q w : ℕ) (p : Place) (j : ℕ) → (4 * q ≤ j → j < 4 * q + 4 → ⊥) → (w ≤ j → j < w + way_count p → ⊥) → get_or (put_place T q w p) j 0 ≡ get_or T j 0
place_kept T q w p j h g =
    ap (λ (U : List ℕ). get_or U j 0) (place_is T q w p) ∙ words_kept _ q _ _ _ _ j h
    ∙ ways-kept T w (ways_for p) j (λ a b. g a (omega (arith, count-is p)))

pub places-kept : (o : Plane) (T : List ℕ) (q w : ℕ) (ps : List Place) (j : ℕ)
    → ((i : ℕ) → q ≤ i → i < q + length ps → 4 * slot o i ≤ j → j < 4 * slot o i + 4 → ⊥) → (w ≤ j → j < w + ways_in ps → ⊥)
    → get_or (put_places o T q w ps) j 0 ≡ get_or T j 0
unfolding put_places ways_in
places-kept o T q w [] j h g = refl
places-kept o T q w (p ∷ ps) j h g =
    places-kept o (put_place T (slot o q) w p) (suc q) (w + way_count p) ps j (λ i a b. h i (omega arith) (omega arith)) (λ a b. g (omega arith) (omega arith))
    ∙ place_kept T (slot o q) w p j (λ a b. h q (omega arith) (omega arith) a b) (λ a b. g (omega arith) (omega arith))

-- ---- words that are read back

span_same : (T U : List ℕ) (j m : ℕ) → ((i : ℕ) → j ≤ i → i < j + m → get_or U i 0 ≡ get_or T i 0) → span U j m ≡ span T j m
unfolding span
span_same T U j zero f = refl
span_same T U j (suc m) f = λ i. f j (omega arith) (omega arith) i ∷ span_same T U (suc j) m (λ x a b. f x (omega arith) (omega arith)) i

span-put : (T : List ℕ) (w : ℕ) (ks : List ℕ) → w + length ks ≤ length T → span (put_ways T w ks) w (length ks) ≡ ks
unfolding span put_ways
span-put T w [] h = refl
span-put T w (k ∷ ks) h =
    let e : get_or (put_ways (set T w k) (suc w) ks) w 0 ≡ k = ways-kept (set T w k) (suc w) ks w (λ a b. omega arith) ∙ get_or-set_same T w k 0 (omega arith) in
    λ i. e i ∷ span-put (set T w k) (suc w) ks (omega (arith, length-set T w k)) i

-- the first way stands at word w
pub ways-first : (T : List ℕ) (w : ℕ) (ks : List ℕ) → 0 < length ks → w + length ks ≤ length T → get_or (put_ways T w ks) w 0 ≡ get_or ks 0 0
unfolding put_ways
ways-first T w [] s h = absurd (omega arith)
ways-first T w (k ∷ ks) s h =
    ways-kept (set T w k) (suc w) ks w (λ a b. omega arith) ∙ get_or-set_same T w k 0 (omega arith)

-- the second way stands at word w + 1
ways-second : (T : List ℕ) (w : ℕ) (ks : List ℕ) → 1 < length ks → w + length ks ≤ length T → get_or (put_ways T w ks) (w + 1) 0 ≡ get_or ks 1 0
unfolding put_ways
ways-second T w [] s h = absurd (omega arith)
ways-second T w (k ∷ ks) s h =
    let e : w + 1 ≡ suc w = omega arith in
    rw e (ways-first (set T w k) (suc w) ks (omega arith) (omega (arith, length-set T w k)))

-- so the later word of a fork is read off its ways
pub later-read : (T : List ℕ) (w : ℕ) (ks : List ℕ) → w + length ks ≤ length T
    → later_word (get_or (put_ways T w ks) (w + 1) 0) w (length ks) ≡ later_word (get_or ks 1 0) w (length ks)
later-read T w ks h = go (eqb (length ks) 2) refl
  where
    go : (t : Bool) → eqb (length ks) 2 ≡ t → pick t (get_or (put_ways T w ks) (w + 1) 0) w ≡ pick t (get_or ks 1 0) w
    go true e = let d = eqb-true (length ks) 2 e in ways-second T w ks (omega arith) h
    go false e = refl

record Words (U : List ℕ) (q a b c d : ℕ) : Type 0 where
  code : code_at U q ≡ a
  first : first_at U q ≡ b
  later : later_at U q ≡ c
  count : count_at U q ≡ d

words_put : (T : List ℕ) (q a b c d : ℕ) → 4 * q + 4 ≤ length T → Words (put_words T q (place_words a b c d)) q a b c d
unfolding put_words
words_put T q a b c d h =
    let l1 = length-set T (4 * q) a in
    let l2 = length-set (set T (4 * q) a) (4 * q + 1) b in
    let l3 = length-set (set (set T (4 * q) a) (4 * q + 1) b) (4 * q + 2) c in
    record {
      code = get_or-set_other (set (set (set T (4 * q) a) (4 * q + 1) b) (4 * q + 2) c) (4 * q + 3) (4 * q) d 0 (λ e. omega arith)
          ∙ get_or-set_other (set (set T (4 * q) a) (4 * q + 1) b) (4 * q + 2) (4 * q) c 0 (λ e. omega arith)
          ∙ get_or-set_other (set T (4 * q) a) (4 * q + 1) (4 * q) b 0 (λ e. omega arith)
          ∙ get_or-set_same T (4 * q) a 0 (omega arith);
      first = get_or-set_other (set (set (set T (4 * q) a) (4 * q + 1) b) (4 * q + 2) c) (4 * q + 3) (4 * q + 1) d 0 (λ e. omega arith)
          ∙ get_or-set_other (set (set T (4 * q) a) (4 * q + 1) b) (4 * q + 2) (4 * q + 1) c 0 (λ e. omega arith)
          ∙ get_or-set_same (set T (4 * q) a) (4 * q + 1) b 0 (omega arith);
      later = get_or-set_other (set (set (set T (4 * q) a) (4 * q + 1) b) (4 * q + 2) c) (4 * q + 3) (4 * q + 2) d 0 (λ e. omega arith)
          ∙ get_or-set_same (set (set T (4 * q) a) (4 * q + 1) b) (4 * q + 2) c 0 (omega arith);
      count = get_or-set_same (set (set (set T (4 * q) a) (4 * q + 1) b) (4 * q + 2) c) (4 * q + 3) d 0 (omega arith);
    }

words_same : (T U : List ℕ) (q a b c d : ℕ) → ((j : ℕ) → 4 * q ≤ j → j < 4 * q + 4 → get_or U j 0 ≡ get_or T j 0) → Words T q a b c d → Words U q a b c d
words_same T U q a b c d f h =
    record {
      code = f (4 * q) (omega arith) (omega arith) ∙ h.code;
      first = f (4 * q + 1) (omega arith) (omega arith) ∙ h.first;
      later = f (4 * q + 2) (omega arith) (omega arith) ∙ h.later;
      count = f (4 * q + 3) (omega arith) (omega arith) ∙ h.count;
    }

-- a place by its words
by-words : (U : List ℕ) (q a b c d : ℕ) → Words U q a b c d → place_at U q ≡ place_by a b (b ∷ later_ways U c d 1 (d - 1))
unfolding place_at ways_of
by-words U q a b c d h = rw (h.code, h.first, h.later, h.count) refl

-- ---- a place that is read back

-- a fork has a way, and at most 256
abbrev pub Wayed : Place → Type 0
Wayed (p_letter c k) = Unit {0}
Wayed (p_caret k) = Unit {0}
Wayed (p_dollar k) = Unit {0}
Wayed (p_fork ks) = (0 < length ks) × (length ks ≤ 256)
Wayed p_end = Unit {0}

abbrev pub Sound : Place → Type 0
Sound p = Spelt p × Wayed p

-- what the walk relies on for place q, of this code, first place, later word and count; its ways
-- begin at word o or behind it, and end by r
pub record Keeps (o q r a b c d : ℕ) : Type 0 where
  pub near : a ≡ 28 → (b ≡ q + 1) × (1 < d)
  pub one : a < 28 → d ≡ 0
  pub end : 29 < a → d ≡ 0
  pub many : d ≤ 256
  pub ways : 2 < d → c + d ≤ r
  pub behind : 2 < d → o ≤ c

-- a place that keeps to this without ways
keeps-one : (o q r a b c : ℕ) → (a ≡ 28 → ⊥) → Keeps o q r a b c 0
keeps-one o q r a b c h =
    record { near = λ e. absurd (h e); one = λ e. refl; end = λ e. refl; many = omega arith; ways = λ e. absurd (omega arith); behind = λ e. absurd (omega arith) }

keeps-fork : (o q r k y w m : ℕ) → m ≤ 256 → o ≤ w → w + m ≤ r → Keeps o q r (fork_code k (q + 1) m) k (later_word y w m) m
keeps-fork o q r k y w m h b l = go (ltb 1 m) (eqb k (q + 1)) refl refl
  where
    begins : 2 < m → later_word y w m + m ≤ r
    begins u = rw (ne_eqb m 2 (λ (e : m ≡ 2). omega arith)) l

    after : 2 < m → o ≤ later_word y w m
    after u = rw (ne_eqb m 2 (λ (e : m ≡ 2). omega arith)) b

    far : Keeps o q r 29 k (later_word y w m) m
    far = record { near = λ u. absurd (omega arith); one = λ u. absurd (omega arith); end = λ u. absurd (omega arith); many = h; ways = begins; behind = after }

    go : (s t : Bool) → ltb 1 m ≡ s → eqb k (q + 1) ≡ t → Keeps o q r (pick s (pick t 28 29) 29) k (later_word y w m) m
    go true true d e =
        record { near = λ u. (eqb-true k (q + 1) e, ltb-true 1 m d); one = λ u. absurd (omega arith); end = λ u. absurd (omega arith); many = h; ways = begins; behind = after }
    go true false d e = far
    go false t d e = far

keeps : (o q w r : ℕ) (p : Place) → Sound p → o ≤ w → w + way_count p ≤ r → Keeps o q r (code_for q p) (first_for p) (later_for w p) (length (ways_for p))
unfolding way_count
keeps o q w r (p_letter c k) s b l = keeps-one o q r (letter_code c) k 0 (λ e. omega (arith, s.0.0, s.0.1))
keeps o q w r (p_caret k) s b l = keeps-one o q r 26 k 0 (λ e. omega arith)
keeps o q w r (p_dollar k) s b l = keeps-one o q r 27 k 0 (λ e. omega arith)
keeps o q w r (p_fork ks) s b l = keeps-fork o q r (get_or ks 0 0) (get_or ks 1 0) w (length ks) s.1.1 b l
keeps o q w r p_end s b l = keeps-one o q r 30 0 0 (λ e. omega arith)

-- the table has the place p at q
pub record Back (U : List ℕ) (o q r : ℕ) (p : Place) : Type 0 where
  pub is : place_at U q ≡ p
  pub keeps_to_lem : Keeps o q r (code_at U q) (first_at U q) (later_at U q) (count_at U q)

by-letter : (c k : ℕ) (ks : List ℕ) → 65 ≤ c → c ≤ 90 → place_by (letter_code c) k ks ≡ p_letter c k
unfolding place_by
by-letter c k ks l h =
    let d : (c + 191) % 256 + 65 ≡ c = omega arith in
    let b : ltb ((c + 191) % 256) 26 ≡ true = lt-ltb ((c + 191) % 256) 26 (omega arith) in
    rw (b, d)

by-fork : (k : ℕ) (ks : List ℕ) (a b : Bool) → place_by (pick a (pick b 28 29) 29) k ks ≡ p_fork ks
unfolding place_by
by-fork k ks true true = refl
by-fork k ks true false = refl
by-fork k ks false b = refl

-- the later ways of a fork whose ways begin at word w, if it has not two
later-span : (U : List ℕ) (w c j m : ℕ) → eqb c 2 ≡ false → later_ways U w c j m ≡ span U (w + j) m
unfolding later_ways later_by span
later-span U w c j zero e = refl
later-span U w c j (suc m) e =
    let z : w + suc j ≡ suc (w + j) = omega arith in
    let h : later_by U w c j ≡ get_or U (w + j) 0 = rw e in
    let t : later_ways U w c (suc j) m ≡ span U (suc (w + j)) m = later-span U w c (suc j) m e ∙ ap (λ (i : ℕ). span U i m) z in
    λ i. h i ∷ t i

-- a fork's first way, and the ways from its second on
all_ways : (T U : List ℕ) (w : ℕ) (ks : List ℕ) → 0 < length ks → w + length ks ≤ length T
    → ((j : ℕ) → w ≤ j → j < w + length ks → get_or U j 0 ≡ get_or (put_ways T w ks) j 0)
    → (get_or ks 0 0 ∷ later_ways U (later_word (get_or ks 1 0) w (length ks)) (length ks) 1 (length ks - 1)) ≡ ks
unfolding put_ways later_ways later_by
all_ways T U w [] s l f = absurd (omega arith)
all_ways T U w (k ∷ []) s l f = refl
all_ways T U w (k ∷ y ∷ []) s l f = refl
all_ways T U w (k ∷ y ∷ x ∷ ks) s l f =
    let n : eqb (suc (suc (suc (length ks)))) 2 ≡ false = ne_eqb (suc (suc (suc (length ks)))) 2 (λ (e : suc (suc (suc (length ks))) ≡ 2). omega arith) in
    let m : suc (suc (suc (length ks))) - 1 ≡ suc (suc (length ks)) = omega arith in
    let z : w + 1 ≡ suc w = omega arith in
    let r : later_ways U w (suc (suc (suc (length ks)))) 1 (suc (suc (length ks))) ≡ span U (suc w) (suc (suc (length ks))) = later-span U w (suc (suc (suc (length ks)))) 1 (suc (suc (length ks))) n ∙ ap (λ (i : ℕ). span U i (suc (suc (length ks)))) z in
    rw (n, m, r)
    (ap (λ (l : List ℕ). k ∷ l)
    (span_same (put_ways (set T w k) (suc w) (y ∷ x ∷ ks)) U (suc w) (length (y ∷ x ∷ ks)) (λ j a b. f j (omega arith) (omega arith))
    ∙ span-put (set T w k) (suc w) (y ∷ x ∷ ks) (omega (arith, length-set T w k))))

-- a place that was put is read back from any table that has its words and its ways
module _ (T U : List ℕ) (q w : ℕ) (low : 4 * q + 4 ≤ w) where
  place-back : (p : Place) → Sound p → w + way_count p ≤ length T
      → ((j : ℕ) → w ≤ j → j < w + way_count p → get_or U j 0 ≡ get_or (put_place T q w p) j 0)
      → Words U q (code_for q p) (first_for p) (later_for w p) (length (ways_for p)) → place_at U q ≡ p
  unfolding put_place way_count place_by
  place-back (p_letter c k) s l g h = by-words U q _ _ _ _ h ∙ by-letter c k _ s.0.0 s.0.1
  place-back (p_caret k) s l g h = by-words U q _ _ _ _ h
  place-back (p_dollar k) s l g h = by-words U q _ _ _ _ h
  place-back (p_fork ks) s l g h =
      by-words U q _ _ _ _ h ∙ by-fork _ _ (ltb 1 (length ks)) (eqb (get_or ks 0 0) (q + 1))
      ∙ ap p_fork (all_ways T U w ks s.1.0 l (λ j a b. g j a b ∙ words_kept (put_ways T w ks) q _ _ _ _ j (λ c d. omega arith)))
  place-back p_end s l g h = by-words U q _ _ _ _ h

  one-back : (p : Place) (o r : ℕ) → Sound p → o ≤ w → w + way_count p ≤ length T → w + way_count p ≤ r
      → ((j : ℕ) → 4 * q ≤ j → j < 4 * q + 4 → get_or U j 0 ≡ get_or (put_place T q w p) j 0)
      → ((j : ℕ) → w ≤ j → j < w + way_count p → get_or U j 0 ≡ get_or (put_place T q w p) j 0) → Back U o q r p
  one-back p o r s b l e f g =
      let h : Words U q (code_for q p) (first_for p) (later_for w p) (length (ways_for p)) =
      words_same (put_words (put_ways T w (ways_for p)) q (place_words (code_for q p) (first_for p) (later_for w p) (length (ways_for p)))) U q _ _ _ _
      (λ j a b. f j a b ∙ ap (λ (X : List ℕ). get_or X j 0) (place_is T q w p))
      (words_put (put_ways T w (ways_for p)) q _ _ _ _ (omega (arith, ways-length T w (ways_for p)))) in
      record { is = place-back p s l g h; keeps_to_lem = rw (h.code, h.first, h.later, h.count) (keeps o q w r p s b e) }

-- entries of a plane are apart
pub slots_apart : (o : Plane) (i q j : ℕ) → (i ≡ q → ⊥) → 4 * slot o i ≤ j → j < 4 * slot o i + 4 → 4 * slot o q ≤ j → j < 4 * slot o q + 4 → ⊥
unfolding slot
slots_apart o i q j n a b c d =
    let e : i * o.factor + o.flags ≡ q * o.factor + o.flags = omega arith in
    n (sym (digits_div i o.flag) ∙ ap (λ (x : ℕ). x / o.factor) e ∙ digits_div q o.flag)

-- places that were put are read back from any table that has their words and their ways
pub places-back : (o : Plane) (T U : List ℕ) (from q w r : ℕ) (ps : List Place) → from ≤ w → ((i : ℕ) → i < q + length ps → 4 * slot o i + 4 ≤ w) → w + ways_in ps ≤ length T → w + ways_in ps ≤ r
    → ((i : ℕ) → i < length ps → Sound (get_or ps i (p_fork [])))
    → ((i j : ℕ) → q ≤ i → i < q + length ps → 4 * slot o i ≤ j → j < 4 * slot o i + 4 → get_or U j 0 ≡ get_or (put_places o T q w ps) j 0)
    → ((j : ℕ) → w ≤ j → j < w + ways_in ps → get_or U j 0 ≡ get_or (put_places o T q w ps) j 0)
    → (i : ℕ) → i < length ps → Back U from (slot o (q + i)) r (get_or ps i (p_fork []))
unfolding put_places ways_in
places-back o T U from q w r [] below h l e s m n i b = absurd (omega arith)
places-back o T U from q w r (p ∷ ps) below h l e s m n zero b =
    let z : q + 0 ≡ q = omega arith in
    let y = h q (omega arith) in
    rw z
    (one-back T U (slot o q) w y p from r (s 0 b) below (omega arith) (omega arith)
    (λ j u v. m q j (omega arith) (omega arith) u v
    ∙ places-kept o (put_place T (slot o q) w p) (suc q) (w + way_count p) ps j (λ i c d x k. slots_apart o i q j (λ f. omega arith) x k u v) (λ c d. omega arith))
    (λ j u v. n j u (omega arith)
    ∙ places-kept o (put_place T (slot o q) w p) (suc q) (w + way_count p) ps j (λ i c d x k. (let a = h i (omega arith) in omega arith)) (λ c d. omega arith)))
places-back o T U from q w r (p ∷ ps) below h l e s m n (suc i) b =
    let z : q + suc i ≡ suc q + i = omega arith in
    rw z
    (places-back o (put_place T (slot o q) w p) U from (suc q) (w + way_count p) r ps (omega arith) (λ j c. (let a = h j (omega arith) in omega arith)) (omega (arith, place-length T (slot o q) w p)) (omega arith)
    (λ j c. s (suc j) (omega arith)) (λ i j c d. m i j (omega arith) (omega arith)) (λ j c d. n j (omega arith) (omega arith)) i (omega arith))

-- so they are the table's places
pub places_are : (U : List ℕ) (q : ℕ) (ps : List Place) → ((i : ℕ) → i < length ps → place_at U (q + i) ≡ get_or ps i (p_fork []))
    → places_from U q (length ps) ≡ ps
unfolding places_from
places_are U q [] f = refl
places_are U q (p ∷ ps) f =
    let z : q + 0 ≡ q = omega arith in
    let a : place_at U q ≡ p = rw z at (f 0 (omega arith)) in
    let b = places_are U (suc q) ps (λ i h. (let y : suc q + i ≡ q + suc i = omega arith in rw y (f (suc i) (omega arith)))) in
    λ i. a i ∷ b i

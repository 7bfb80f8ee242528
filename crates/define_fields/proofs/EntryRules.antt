-- The entries of a DEFINE of kind 6, by the tests in the code: each law is one way through
-- entry_fits, entries_fit or postfix_fits, with its callees' results as premises.
use mathlib.Core.Path.{◌≡◌, refl, sym, ap, ◌∙◌}
use mathlib.Core.Bool.{Bool, true, false, ◌&&◌}
use mathlib.Core.List.{List, [], ◌∷◌}
use Prim.Native.Nat.{ℕ, zero, suc, ◌+◌, ◌-◌, ◌≤◌, ◌<◌}
use native.Mathlib.Omega.{arith}
use lib.Dec.{eqb, leb}
use lib.ListN.{length, get_or}
use borrow.Author.Tests.{eq-eqb, ne_eqb, eqb-true, eqb-false, le-leb, lt-leb, leb-true}
use Rattle.rules.specs.Basics.{pick, in_range, is_letter}
use Rattle.rules.specs.Rows.{Entry, compared, conj, disj, neg}
use Rattle.rules.specs.Query.{field, comparison_at, comparison_fits, entry_bytes, entry_fits, read_entry, entries_fit, entries_end, read_entries, entries_of, leaves_one, postfix_fits}
use Rattle.laws.proofs.Truths.{entries-behind}
use Rattle.records.specs.Read.{record_of}
use Rattle.records.proofs.Reading.{field-first}
use Rattle.define_fields.specs.Fields.{entries_good}

-- ---- one entry

module _ (s : List ℕ) (columns at tag : ℕ) (is : tag ≡ get_or s at 0) where
  pub comparison_there : tag ≡ 0 → at + entry_bytes s at ≤ length s → at + 1 + 12 ≤ length s
  unfolding entry_bytes
  comparison_there h l =
      let z : eqb (get_or s at 0) 0 ≡ true = rw (← is) (eq-eqb tag 0 h) in
      let m : at + 13 ≤ length s = rw z at l in
      omega arith

  pub entry-comparison : (r : Bool) → tag ≡ 0 → r ≡ comparison_fits s columns (at + 1) → r ≡ entry_fits s columns at
  unfolding entry_fits
  entry-comparison r h e = let z : eqb (get_or s at 0) 0 ≡ true = rw (← is) (eq-eqb tag 0 h) in rw z e

  pub entry-operator : (tag ≡ 0 → ⊥) → leb tag 3 ≡ entry_fits s columns at
  unfolding entry_fits
  entry-operator h = let z : eqb (get_or s at 0) 0 ≡ false = rw (← is) (ne_eqb tag 0 h) in rw (z, is) refl

-- how many results there are behind an entry with this first byte
abbrev after : ℕ → ℕ → ℕ
after tag d = pick (eqb tag 0) (d + 1) (pick (eqb tag 3) d (d - 1))

-- an entry's first byte
data Sort (tag : ℕ) : Type 0 where
  comparing : tag ≡ 0 → Sort tag
  conjoining : tag ≡ 1 → Sort tag
  disjoining : tag ≡ 2 → Sort tag
  negating : tag ≡ 3 → Sort tag

sort : (tag : ℕ) → tag ≤ 3 → Sort tag
sort tag l = by (eqb tag 0) refl (eqb tag 1) refl (eqb tag 2) refl
  where
    by : (t : Bool) → eqb tag 0 ≡ t → (u : Bool) → eqb tag 1 ≡ u → (v : Bool) → eqb tag 2 ≡ v → Sort tag
    by true e u f v g = comparing (eqb-true tag 0 e)
    by false e true f v g = conjoining (eqb-true tag 1 f)
    by false e false f true g = disjoining (eqb-true tag 2 g)
    by false e false f false g = negating (let x = eqb-false tag 0 e in let y = eqb-false tag 1 f in let z = eqb-false tag 2 g in omega arith)

-- AND and OR, where too few results are there, and where two are
pair-short : (d : ℕ) (es : List Entry) → d - 1 ≡ 0 → (leb 2 d && leaves_one (d - 1) es) ≡ false
pair-short d es h = let z : leb 2 d ≡ false = lt-leb 2 d (omega arith) in rw z refl

pair-more : (d : ℕ) (es : List Entry) → (d - 1 ≡ 0 → ⊥) → (leb 2 d && leaves_one (d - 1) es) ≡ leaves_one (d - 1) es
pair-more d es h = let z : leb 2 d ≡ true = le-leb 2 d (omega arith) in rw z refl

-- the first entry, by its first byte
module _ (s : List ℕ) (at d : ℕ) (es : List Entry) where
  read_as : (tag : ℕ) → tag ≡ get_or s at 0 → read_entry s at ≡ pick (eqb tag 0) (compared (comparison_at s (at + 1))) (pick (eqb tag 1) conj (pick (eqb tag 2) disj neg))
  unfolding read_entry
  read_as tag is = rw is refl

  short_by : (tag : ℕ) → Sort tag → after tag d ≡ 0 → leaves_one d (pick (eqb tag 0) (compared (comparison_at s (at + 1))) (pick (eqb tag 1) conj (pick (eqb tag 2) disj neg)) ∷ es) ≡ false
  unfolding leaves_one
  short_by tag (comparing h) e = absurd (let z : d + 1 ≡ 0 = rw h at e in omega arith)
  short_by tag (conjoining h) e = let z : d - 1 ≡ 0 = rw h at e in rw h (pair-short d es z)
  short_by tag (disjoining h) e = let z : d - 1 ≡ 0 = rw h at e in rw h (pair-short d es z)
  short_by tag (negating h) e = let z : d ≡ 0 = rw h at e in let l : leb 1 d ≡ false = lt-leb 1 d (omega arith) in rw (h, l) refl

  more_by : (tag : ℕ) → Sort tag → (after tag d ≡ 0 → ⊥)
      → leaves_one d (pick (eqb tag 0) (compared (comparison_at s (at + 1))) (pick (eqb tag 1) conj (pick (eqb tag 2) disj neg)) ∷ es) ≡ leaves_one (after tag d) es
  unfolding leaves_one
  more_by tag (comparing h) n = rw h refl
  more_by tag (conjoining h) n = let z : d - 1 ≡ 0 → ⊥ = rw h at n in rw h (pair-more d es z)
  more_by tag (disjoining h) n = let z : d - 1 ≡ 0 → ⊥ = rw h at n in rw h (pair-more d es z)
  more_by tag (negating h) n = let z : d ≡ 0 → ⊥ = rw h at n in let l : leb 1 d ≡ true = le-leb 1 d (omega arith) in rw (h, l) refl

-- ---- the entries, one by one

-- of `count` entries from index p on so many are left, from index `at` on, and so many results are
-- there
pub record Entered (s : List ℕ) (columns stop count p left results at : ℕ) : Type 0 where
  pub upto : at ≤ stop
  pub few : results + left ≤ count
  pub same : entries_good s columns stop count 0 p ≡ entries_good s columns stop left results at

pub entered-none : (s : List ℕ) (columns stop count p : ℕ) → p ≤ stop → Entered s columns stop count p count 0 p
entered-none s columns stop count p h = record { upto = h; few = omega arith; same = refl }

false-and : (a b : Bool) → a ≡ false → (a && b) ≡ false
false-and a b e = rw e refl

and-false : (a b : Bool) → b ≡ false → (a && b) ≡ false
and-false true b e = e
and-false false b e = refl

twice-false : (a b : Bool) → (a && (b && false)) ≡ false
twice-false true true = refl
twice-false true false = refl
twice-false false b = refl

-- behind the body
past_end : (s : List ℕ) (columns stop k d p : ℕ) → stop < entries_end s k p → entries_good s columns stop k d p ≡ false
unfolding entries_good
past_end s columns stop k d p h = false-and _ _ (ne_eqb stop (entries_end s k p) (λ e. omega arith))

-- the first of several entries
module _ (s : List ℕ) (columns stop k d at tag : ℕ) (is : tag ≡ get_or s at 0) where
  one_more : entries_good s columns stop (suc k) d at
      ≡ (eqb stop (entries_end s k (at + pick (eqb tag 0) 13 1)) && ((entry_fits s columns at && entries_fit s columns k (at + pick (eqb tag 0) 13 1)) && leaves_one d (read_entry s at ∷ read_entries s k (at + pick (eqb tag 0) 13 1))))
  unfolding entries_good entries_end entries_fit read_entries entry_bytes
  one_more = rw is refl

  unfit-one : entry_fits s columns at ≡ false → entries_good s columns stop (suc k) d at ≡ false
  unfit-one e = one_more ∙ rw e (and-false (eqb stop (entries_end s k (at + pick (eqb tag 0) 13 1))) false refl)

  short_one : tag ≤ 3 → after tag d ≡ 0 → entries_good s columns stop (suc k) d at ≡ false
  short_one l e =
      one_more ∙ rw (read_as s at d [] tag is, short_by s at d (read_entries s k (at + pick (eqb tag 0) 13 1)) tag (sort tag l) e)
      (twice-false (eqb stop (entries_end s k (at + pick (eqb tag 0) 13 1))) (entry_fits s columns at && entries_fit s columns k (at + pick (eqb tag 0) 13 1)))

  good_one : tag ≤ 3 → entry_fits s columns at ≡ true → (after tag d ≡ 0 → ⊥)
      → entries_good s columns stop (suc k) d at ≡ entries_good s columns stop k (after tag d) (at + pick (eqb tag 0) 13 1)
  unfolding entries_good
  good_one l f n = one_more ∙ rw (f, read_as s at d [] tag is, more_by s at d (read_entries s k (at + pick (eqb tag 0) 13 1)) tag (sort tag l) n) refl

-- an entry that fits has a first byte of at most 3
fits-tag : (s : List ℕ) (columns at tag : ℕ) → tag ≡ get_or s at 0 → entry_fits s columns at ≡ true → tag ≤ 3
unfolding entry_fits
fits-tag s columns at tag is e = by (eqb (get_or s at 0) 0) refl e
  where
    by : (t : Bool) → eqb (get_or s at 0) 0 ≡ t → pick t (comparison_fits s columns (at + 1)) (leb (get_or s at 0) 3) ≡ true → tag ≤ 3
    by true z f = let y = eqb-true (get_or s at 0) 0 z in omega arith
    by false z f = let y = leb-true (get_or s at 0) 3 f in omega arith

bytes-some : (tag : ℕ) → (1 ≤ pick (eqb tag 0) 13 1)
bytes-some tag = by (eqb tag 0)
  where
    by : (t : Bool) → 1 ≤ pick t 13 1
    by true = omega arith
    by false = omega arith

after-few : (tag d : ℕ) → after tag d ≤ d + 1
after-few tag d = by (eqb tag 0) (eqb tag 3)
  where
    by : (t u : Bool) → pick t (d + 1) (pick u d (d - 1)) ≤ d + 1
    by true u = omega arith
    by false true = omega arith
    by false false = omega arith

-- the loop, by its ways
module _ (s : List ℕ) (columns stop count p left results at : ℕ) (e : Entered s columns stop count p left results at) where
  at-end : left ≤ 0 → entries_good s columns stop left results at ≡ (eqb at stop && eqb results 1)
  unfolding entries_good entries_end entries_fit read_entries leaves_one
  at-end h = by left h (eqb at stop) refl
    where
      by : (k : ℕ) → k ≤ 0 → (b : Bool) → eqb at stop ≡ b → entries_good s columns stop k results at ≡ (eqb at stop && eqb results 1)
      by zero z true q = let w : eqb stop at ≡ true = eq-eqb stop at (sym (eqb-true at stop q)) in rw (q, w) refl
      by zero z false q = let w : eqb stop at ≡ false = ne_eqb stop at (λ v. eqb-false at stop q (sym v)) in rw (q, w) refl
      by (suc k) z b q = absurd (omega arith)

  pub entered_all : left ≤ 0 → at ≡ stop → eqb results 1 ≡ entries_good s columns stop count 0 p
  entered_all h q = sym (e.same ∙ at-end h ∙ ap (λ (t : Bool). t && eqb results 1) (eq-eqb at stop q))

  pub entered-past : left ≤ 0 → (at ≡ stop → ⊥) → eqb at stop ≡ entries_good s columns stop count 0 p
  entered-past h q = ne_eqb at stop q ∙ sym (e.same ∙ at-end h ∙ ap (λ (t : Bool). t && eqb results 1) (ne_eqb at stop q))

  -- where an entry is left
  pub entered-outside : 0 < left → stop ≤ at → false ≡ entries_good s columns stop count 0 p
  entered-outside h l = let z = (entries-behind s left at).0 in sym (e.same ∙ past_end s columns stop left results at (omega arith))

  module _ (tag : ℕ) (is : tag ≡ get_or s at 0) (h : 0 < left) where
    from_one : entries_good s columns stop left results at ≡ entries_good s columns stop (suc (left - 1)) results at
    from_one = ap (λ (k : ℕ). entries_good s columns stop k results at) (let z : left ≡ suc (left - 1) = omega arith in z)

    pub entered-cut : (bytes : ℕ) → bytes ≡ pick (eqb tag 0) 13 1 → stop - at < bytes → false ≡ entries_good s columns stop count 0 p
    unfolding entries_good
    entered-cut bytes eb l =
        let z = (entries-behind s (left - 1) (at + pick (eqb tag 0) 13 1)).0 in
        let y : stop < entries_end s (left - 1) (at + pick (eqb tag 0) 13 1) = omega (arith, e.upto) in
        sym (e.same ∙ from_one ∙ one_more s columns stop (left - 1) results at tag is ∙ false-and _ _ (ne_eqb stop _ (λ q. omega arith)))

    pub entered-unfit : (r : Bool) → r ≡ entry_fits s columns at → r ≡ false → false ≡ entries_good s columns stop count 0 p
    entered-unfit r er n = sym (e.same ∙ from_one ∙ unfit-one s columns stop (left - 1) results at tag is (sym er ∙ n))

    pub entered-short : (r : Bool) → r ≡ entry_fits s columns at → r ≡ true → (d : ℕ) → d ≡ pick (eqb tag 0) (results + 1) (pick (eqb tag 3) results (results - 1)) → d ≡ 0
        → false ≡ entries_good s columns stop count 0 p
    entered-short r er n d ed z =
        sym (e.same ∙ from_one ∙ short_one s columns stop (left - 1) results at tag is (fits-tag s columns at tag is (sym er ∙ n)) (sym ed ∙ z))

    pub entered-more : (left' : ℕ) → left' + 1 ≡ left → (bytes : ℕ) → bytes ≡ pick (eqb tag 0) 13 1 → bytes ≤ stop - at → (r : Bool) → r ≡ entry_fits s columns at → r ≡ true
        → (d : ℕ) → d ≡ pick (eqb tag 0) (results + 1) (pick (eqb tag 3) results (results - 1)) → (d ≡ 0 → ⊥) → Entered s columns stop count p left' d (at + bytes)
    entered-more left' el bytes eb l r er n d ed z =
        let f : entry_fits s columns at ≡ true = sym er ∙ n in
        let w : d ≤ results + 1 = rw ed (after-few tag results) in
        let i : left - 1 ≡ left' = omega arith in
        record {
          upto = omega (arith, e.upto);
          few = omega (arith, e.few);
          same = e.same ∙ from_one ∙ good_one s columns stop (left - 1) results at tag is (fits-tag s columns at tag is f) f (λ q. z (ed ∙ q)) ∙ rw (i, ← eb, ← ed) refl;
        }

-- the first byte, and the bytes, of the next entry lie in the query
pub entry-there : (s : List ℕ) (at tag bytes stop : ℕ) → tag ≡ get_or s at 0 → bytes ≡ pick (eqb tag 0) 13 1 → bytes ≤ stop - at → at < stop → stop ≤ length s → at + entry_bytes s at ≤ length s
unfolding entry_bytes
entry-there s at tag bytes stop is eb l h m = rw (← is, ← eb) (omega arith)

-- ---- kind 6

module _ (s : List ℕ) (columns b l : ℕ) where
  pub postfix_short : l < 2 → false ≡ postfix_fits s columns (record_of 6 b l)
  unfolding postfix_fits
  postfix_short h = let z = (entries-behind s (field s (record_of 6 b l) 1) (b + 2)).0 in sym (false-and _ _ (ne_eqb (l + b) _ (λ e. omega arith)))

  pub postfix_is : postfix_fits s columns (record_of 6 b l) ≡ (is_letter (get_or s b 0) && (in_range 1 16 (get_or s (b + 1) 0) && entries_good s columns (b + l) (get_or s (b + 1) 0) 0 (b + 2)))
  unfolding postfix_fits field is_letter entries_of entries_good
  postfix_is = sym (rw (← field-first s 6 b l, swap) (order (eqb (l + b) (entries_end s (get_or s (b + 1) 0) (b + 2))) (in_range 65 90 (field s (record_of 6 b l) 0)) (in_range 1 16 (get_or s (b + 1) 0)) (entries_fit s columns (get_or s (b + 1) 0) (b + 2) && leaves_one 0 (read_entries s (get_or s (b + 1) 0) (b + 2)))))
    where
      swap : b + l ≡ l + b
      swap = omega arith

      order : (a i c g : Bool) → (i && (c && (a && g))) ≡ (a && (i && (c && g)))
      order true true true g = refl
      order true true false g = refl
      order true false c g = refl
      order false true true g = refl
      order false true false g = refl
      order false false c g = refl

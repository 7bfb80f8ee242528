-- The comparisons of a letter, in the loops over them, and a place by its letter: a law for each
-- way through the code.
use mathlib.Core.Path.{◌≡◌, refl, sym, ap, ◌∙◌}
use mathlib.Core.Bool.{Bool, true, false, not, ◌&&◌}
use mathlib.Core.List.{List, [], ◌∷◌, ◌++◌}
use Prim.Native.Nat.{ℕ, zero, suc, ◌+◌, ◌*◌, ◌-◌, ◌≤◌, ◌<◌}
use native.Mathlib.Omega.{arith}
use lib.Dec.{ltb, eqb}
use lib.ListN.{length, get_or}
use borrow.Author.Tests.{lt-ltb, le-ltb, eq-eqb, ne_eqb}
use Rattle.std.specs.Bool.{MatchBool}
use Rattle.std.specs.List.{HoldsAt, AllWithin, range_with_len}
use Rattle.std.proofs.lemmas.List.FromFn.{get_or-range_with_len, length-range_with_len}
use Rattle.rules.specs.Basics.{pick, every, tabulate}
use Rattle.rules.specs.Rows as R
use Rattle.rules.specs.Rows.{Comparison, compared_in}
use Rattle.rules.specs.Lots.{ahead}
use Rattle.laws.proofs.Choice.{decided}
use Rattle.table.specs.Table.{code_at, later_at}
use Rattle.table.specs.Tests.{comparison_in, comparisons_in, defined_in, entry_in, entry_words, entries_in, entries_behind, condition_in}
use Rattle.entry_words.proofs.Same.{behind-low}
use Rattle.reads_ahead.specs.Ahead.{Columns, some_ahead, entry_ahead, letter_ahead, place_ahead, Readable}

-- ---- one comparison more

-- in front
some-cons : (x : Comparison) (cs : List Comparison) → some_ahead (x ∷ cs) ≡ pick (ahead x) true (some_ahead cs)
unfolding some_ahead every
some-cons x cs = by (ahead x)
  where
    by : (t : Bool) → not (not t && every (λ y. not (ahead y)) cs) ≡ pick t true (not (every (λ y. not (ahead y)) cs))
    by true = refl
    by false = refl

-- behind
some-last : (cs : List Comparison) (x : Comparison) → some_ahead (cs ++ (x ∷ [])) ≡ pick (some_ahead cs) true (ahead x)
unfolding some_ahead every
some-last [] x = by (ahead x)
  where
    by : (t : Bool) → not (not t && true) ≡ t
    by true = refl
    by false = refl
some-last (c ∷ cs) x = by (ahead c) (some-last cs x)
  where
    by : (t : Bool) → not (every (λ y. not (ahead y)) (cs ++ (x ∷ []))) ≡ pick (not (every (λ y. not (ahead y)) cs)) true (ahead x)
        → not (not t && every (λ y. not (ahead y)) (cs ++ (x ∷ []))) ≡ pick (not (not t && every (λ y. not (ahead y)) cs)) true (ahead x)
    by true e = refl
    by false e = e

-- ---- comparisons one behind the other

module _ (T : List ℕ) (columns at : ℕ) where
  none-ahead : some_ahead (comparisons_in T columns at 0) ≡ false
  unfolding comparisons_in tabulate some_ahead every
  none-ahead = refl

  one_more : (k : ℕ) → some_ahead (comparisons_in T columns at (k + 1)) ≡ pick (some_ahead (comparisons_in T columns at k)) true (ahead (comparison_in T columns (at + k * 5)))
  unfolding comparisons_in tabulate
  one_more k =
      let e : k + 1 ≡ suc k = omega arith in
      rw e (some-last (tabulate k (λ j. comparison_in T columns (at + j * 5))) (comparison_in T columns (at + k * 5)))

  -- and so on to the last of them
  stays-ahead : (d k : ℕ) → some_ahead (comparisons_in T columns at k) ≡ true → some_ahead (comparisons_in T columns at (k + d)) ≡ true
  stays-ahead zero k e = let z : k + 0 ≡ k = omega arith in rw z e
  stays-ahead (suc d) k e = let z : k + suc d ≡ k + d + 1 = omega arith in rw (z, one_more (k + d), stays-ahead d k e) refl

  -- as a test of each says
  all-clear : (count : ℕ) → ((k : ℕ) → k < count → ahead (comparison_in T columns (at + k * 5)) ≡ false) → some_ahead (comparisons_in T columns at count) ≡ false
  all-clear zero h = none-ahead
  all-clear (suc c) h =
      let e : c + 1 ≡ suc c = omega arith in
      rw (← e, one_more c, all-clear c (λ k l. h k (omega arith)), h c (omega arith)) refl

  one-found : (count k : ℕ) → k < count → ahead (comparison_in T columns (at + k * 5)) ≡ true → some_ahead (comparisons_in T columns at count) ≡ true
  one-found count k l e =
      let a : some_ahead (comparisons_in T columns at (k + 1)) ≡ true = rw (one_more k, e) (by (some_ahead (comparisons_in T columns at k))) in
      let z : k + 1 + (count - (k + 1)) ≡ count = omega arith in
      let b = stays-ahead (count - (k + 1)) (k + 1) a in
      rw z at b
    where
      by : (t : Bool) → pick t true true ≡ true
      by true = refl
      by false = refl

  abbrev pub IsAhead : ℕ → Type 0
  IsAhead k = ahead (comparison_in T columns (at + k * 5)) ≡ true

  abbrev pub NotAhead : ℕ → Type 0
  NotAhead k = ahead (comparison_in T columns (at + k * 5)) ≡ false

  at-k : (count k : ℕ) → k < count → get_or (range_with_len 0 count) k 0 ≡ k
  at-k count k l = get_or-range_with_len 0 count k 0 l ∙ omega arith

  pub any_ahead : (count : ℕ) (t : Bool) → MatchBool t ((k : ℕ) × (k < length (range_with_len 0 count)) × HoldsAt IsAhead (range_with_len 0 count) k)
      (AllWithin NotAhead (range_with_len 0 count) 0 (length (range_with_len 0 count))) → t ≡ some_ahead (comparisons_in T columns at count)
  any_ahead count true m =
      let l : m.0 < count = rw length-range_with_len at m.1 in
      let e = at-k count m.0 l in
      sym (one-found count m.0 l (rw e at (m.2 0)))
  any_ahead count false m =
      sym (all-clear count (λ k l. let e = at-k count k l in let f : k < length (range_with_len 0 count) = rw length-range_with_len l in rw e at (m k 0 (omega arith) f)))

-- ---- entries one behind the other

module _ (T : List ℕ) (columns : ℕ) where
  -- what is found among k entries from word `at` on
  unfoldable among : ℕ → ℕ → Bool
  unfolding some_ahead compared_in entries_in
  among k at = some_ahead (compared_in (entries_in T columns k at))

  one_entry : (k at : ℕ) → among (suc k) at ≡ pick (entry_ahead T columns at) true (among k (at + entry_words T at))
  unfolding among entries_in entry_in entry_ahead compared_in
  one_entry k at =
      decided (ltb (get_or T at 0) 16)
      (λ e. rw e (some-cons (comparison_in T columns at) (compared_in (entries_in T columns k (at + 5)))))
      (λ e. rw e (decided (eqb (get_or T at 0) 16) (λ a. rw a refl) (λ a. rw a (decided (eqb (get_or T at 0) 17) (λ b. rw b refl) (λ b. rw b refl)))))

  -- the entries before do not look ahead, and those left stand in the table
  pub record Going (count at left place : ℕ) : Type 0 where
    pub same : some_ahead (compared_in (entries_in T columns count at)) ≡ some_ahead (compared_in (entries_in T columns left place))
    pub there : entries_behind T left place ≤ length T

  pub going_none : (count at : ℕ) → entries_behind T count at ≤ length T → Going count at count at
  going_none count at h = record { same = refl; there = h }

  module _ (count at left place : ℕ) (h : Going count at left place) where
    pub going_all : left ≤ 0 → false ≡ some_ahead (compared_in (entries_in T columns count at))
    unfolding entries_in compared_in some_ahead every
    going_all l = let z : left ≡ 0 = omega arith in sym (h.same ∙ ap (λ (i : ℕ). some_ahead (compared_in (entries_in T columns i place))) z)

    module _ (l : 0 < left) where
      pub entry-stands : place + entry_words T place ≤ length T
      unfolding entries_behind
      entry-stands =
          let z : left ≡ suc (left - 1) = omega arith in
          let t = h.there in
          let g : entries_behind T (left - 1) (place + entry_words T place) ≤ length T = rw z at t in
          let b = behind-low T (left - 1) (place + entry_words T place) in
          omega arith

      pub word-there : place < length T
      unfolding entry_words
      word-there = let a = entry-stands in let b = some (ltb (get_or T place 0) 16) in omega arith
        where
          some : (t : Bool) → 1 ≤ pick t 5 1
          some true = omega arith
          some false = omega arith

      first_entry : (t : Bool) → t ≡ entry_ahead T columns place
          → some_ahead (compared_in (entries_in T columns count at)) ≡ pick t true (some_ahead (compared_in (entries_in T columns (left - 1) (place + entry_words T place))))
      unfolding among
      first_entry t e =
          let z : left ≡ suc (left - 1) = omega arith in
          h.same ∙ ap (λ (i : ℕ). among i place) z ∙ one_entry (left - 1) place ∙ ap (λ (u : Bool). pick u true (among (left - 1) (place + entry_words T place))) (sym e)

      module _ (t : Bool) (is-t : t ≡ entry_ahead T columns place) where
        pub going_found : t ≡ true → true ≡ some_ahead (compared_in (entries_in T columns count at))
        going_found e = sym (first_entry t is-t ∙ rw e refl)

        pub going_more : t ≡ false → (word words : ℕ) → word ≡ get_or T place 0 → words ≡ pick (ltb word 16) 5 1 → Going count at (left - 1) (place + words)
        unfolding entry_words entries_behind
        going_more e word words ew es =
            let z : left ≡ suc (left - 1) = omega arith in
            let w : words ≡ entry_words T place = es ∙ ap (λ (i : ℕ). pick (ltb i 16) 5 1) ew in
            let s = h.there in
            rw w (record { same = first_entry t is-t ∙ rw e refl; there = rw z at s })

-- ---- a letter

module _ (T : List ℕ) (at columns kind : ℕ) (is-kind : kind ≡ get_or T (at + 7) 0) where
  pub entries-there : Readable T at columns → kind ≡ 3 → (more count : ℕ) → more ≡ get_or T (at + 1) 0 → count ≡ get_or T (at + 2) 0
      → (entries_behind T count more ≤ length T) × Columns columns
  entries-there h k more count is_more is-count = (rw (is_more, is-count) (h.entries (sym is-kind ∙ k)).there, h.shape)

  pub by_entries : kind ≡ 3 → (more count : ℕ) → more ≡ get_or T (at + 1) 0 → count ≡ get_or T (at + 2) 0 → (t : Bool)
      → t ≡ some_ahead (compared_in (entries_in T columns count more)) → t ≡ letter_ahead T columns at
  unfolding letter_ahead condition_in R.comparisons_in
  by_entries k more count is_more is-count t e = rw (eq-eqb (get_or T (at + 7) 0) 3 (sym is-kind ∙ k), ← is_more, ← is-count) e

  module _ (n : kind ≡ 3 → ⊥) (count : ℕ) (is-count : count ≡ get_or T at 0) where
    by-defined : letter_ahead T columns at ≡ some_ahead (defined_in T columns at)
    unfolding letter_ahead condition_in R.comparisons_in
    by-defined = rw (ne_eqb (get_or T (at + 7) 0) 3 (λ q. n (is-kind ∙ q))) refl

    pub none-defined : count ≡ 0 → false ≡ letter_ahead T columns at
    unfolding defined_in some_ahead every
    none-defined z = sym (by-defined ∙ rw (eq-eqb (get_or T at 0) 0 (sym is-count ∙ z)) refl)

    module _ (some : count ≡ 0 → ⊥) (t : Bool) (is-t : t ≡ ahead (comparison_in T columns (at + 2))) where
      first_of : letter_ahead T columns at ≡ pick t true (some_ahead (comparisons_in T columns (get_or T (at + 1) 0) (get_or T at 0 - 1)))
      unfolding defined_in
      first_of =
          by-defined
          ∙ rw (ne_eqb (get_or T at 0) 0 (λ q. some (is-count ∙ q))) (some-cons (comparison_in T columns (at + 2)) (comparisons_in T columns (get_or T (at + 1) 0) (get_or T at 0 - 1)))
          ∙ ap (λ (u : Bool). pick u true (some_ahead (comparisons_in T columns (get_or T (at + 1) 0) (get_or T at 0 - 1)))) (sym is-t)

      pub first_found : t ≡ true → true ≡ letter_ahead T columns at
      first_found e = sym (first_of ∙ rw e refl)

      pub only-first : t ≡ false → count ≡ 1 → false ≡ letter_ahead T columns at
      unfolding comparisons_in tabulate some_ahead every
      only-first e o = sym (first_of ∙ rw (e, ← is-count, o) refl)

      pub by-more : t ≡ false → (more : ℕ) → more ≡ get_or T (at + 1) 0 → (u : Bool) → u ≡ some_ahead (comparisons_in T columns more (count - 1)) → u ≡ letter_ahead T columns at
      by-more e more is_more u is-u = is-u ∙ sym (first_of ∙ rw (e, ← is-count, ← is_more) refl)

    pub more-there : Readable T at columns → (count ≡ 0 → ⊥) → (count ≡ 1 → ⊥) → (more : ℕ) → more ≡ get_or T (at + 1) 0 → more + (count - 1) * 5 ≤ length T
    more-there h a b more is_more = let l = h.more (let y : 1 < get_or T at 0 = omega arith in y) in rw (is_more, is-count) l

-- ---- a place

module _ (T : List ℕ) (q columns code : ℕ) (is_code : code ≡ code_at T q) where
  pub dollar-ahead : code ≡ 27 → true ≡ place_ahead T columns q
  unfolding place_ahead
  dollar-ahead e = rw (eq-eqb (code_at T q) 27 (sym is_code ∙ e)) refl

  module _ (n : code ≡ 27 → ⊥) where
    pub place-readable : (code_at T q < 26 → Readable T (later_at T q) columns) → code < 26 → (at : ℕ) → at ≡ later_at T q → Readable T at columns
    place-readable h l at is_at = rw is_at (h (rw is_code at l))

    pub by-letter : code < 26 → (at : ℕ) → at ≡ later_at T q → (t : Bool) → t ≡ letter_ahead T columns at → t ≡ place_ahead T columns q
    unfolding place_ahead
    by-letter l at is_at t e =
        rw (ne_eqb (code_at T q) 27 (λ z. n (is_code ∙ z)), lt-ltb (code_at T q) 26 (rw is_code at l), ← is_at) e

    pub other_place : 26 ≤ code → false ≡ place_ahead T columns q
    unfolding place_ahead
    other_place l = rw (ne_eqb (code_at T q) 27 (λ z. n (is_code ∙ z)), le-ltb (code_at T q) 26 (rw is_code at l)) refl

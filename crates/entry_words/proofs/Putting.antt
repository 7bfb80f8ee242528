-- One entry put, by the ways through `put_entry`, and the loop that puts several, one behind the
-- other.
use mathlib.Core.Path.{◌≡◌, refl, sym, ap, ◌∙◌}
use mathlib.Core.Bool.{Bool, true, false, ◌&&◌}
use mathlib.Core.List.{List, [], ◌∷◌, ◌++◌}
use Prim.Native.Nat.{ℕ, suc, ◌+◌, ◌*◌, ◌/◌, ◌%◌, ◌≤◌, ◌<◌}
use native.Mathlib.Omega.{arith}
use native.Mathlib.Numerals.{add-one}
use lib.Dec.{eqb, leb, ltb}
use lib.ListN.{length, get_or, set, length-set}
use lib.Seq.{get_or-set_same, get_or-set_other}
use borrow.Author.Tests.{eq-eqb, ne_eqb, leb-true, lt-ltb, le-ltb, eqb-true, eqb-false}
use Rattle.rules.specs.Basics.{pick}
use Rattle.rules.specs.Rows.{Comparison, Entry, compared, conj, disj, neg}
use Rattle.rules.specs.Query.{comparison_at, comparison_fits, offset_fits, left_fits, right_fits, entry_bytes, entry_fits, read_entry, entries_end, read_entries}
use Rattle.laws.proofs.Choice.{decided, and_left, and_right}
use Rattle.table.specs.Tests.{comparison_in, entry_in, entry_words, entries_in, entries_behind}
use Rattle.comparison_words.specs.Words.{ComparisonRoom, ComparisonPut}
use Rattle.comparison_words.proofs.Same.{comparison_long, comparison_kept}
use Rattle.entry_words.specs.Words.{words_of, EntryRoom, EntryPut, EntriesRoom, EntriesPut, PostfixRoom, PostfixPut}
use Rattle.entry_words.proofs.Same.{grows_upto, end-next, read_next, words_next, fits-at, behind-next, in_next, behind-same, in_same, words_few}

-- ---- how many words

pub words_comparison : (tag : ℕ) → tag ≡ 0 → (◌≡◌ {A = ℕ} 5 (pick (eqb tag 0) 5 1)) × (5 ≤ 5)
words_comparison tag h = (simp (eq-eqb tag 0 h), omega arith)

pub words_operator : (tag : ℕ) → (tag ≡ 0 → ⊥) → (◌≡◌ {A = ℕ} 1 (pick (eqb tag 0) 5 1)) × (1 ≤ 5)
words_operator tag h = (simp (ne_eqb tag 0 h), omega arith)

-- ---- one entry

-- the right kind of a comparison that fits
kind_few : (columns k a b : ℕ) → right_fits columns k a b ≡ true → k ≤ 1
unfolding right_fits
kind_few columns k a b e = by (eqb k 0) refl e
  where
    by : (t : Bool) → eqb k 0 ≡ t → pick t (eqb a 0 && eqb b 0) (eqb k 1 && (ltb a columns && offset_fits b)) ≡ true → k ≤ 1
    by true q w = let z = eqb-true k 0 q in omega arith
    by false q w = let z = eqb-true k 1 (and_left (eqb k 1) _ w) in omega arith

module _ (s : List ℕ) (columns p tag : ℕ) (T : List ℕ) (at : ℕ) (h : EntryRoom s columns p tag T at) where
  module _ (z : tag ≡ 0) where
    byte_zero : eqb (get_or s p 0) 0 ≡ true
    byte_zero = eq-eqb (get_or s p 0) 0 (sym h.first ∙ z)

    fits-here : comparison_fits s columns (p + 1) ≡ true
    unfolding entry_fits
    fits-here = let e : pick (eqb (get_or s p 0) 0) (comparison_fits s columns (p + 1)) (leb (get_or s p 0) 3) ≡ true = h.fits in rw byte_zero at e

    five : ◌≡◌ {A = ℕ} (pick (eqb tag 0) 5 1) 5
    five = sym (words_comparison tag z).0

    pub comparison_room : ComparisonRoom s columns (p + 1) T at
    unfolding entry_bytes
    comparison_room = record {
      few = h.few;
      stands = let e : p + pick (eqb (get_or s p 0) 0) 13 1 ≤ length s = h.stands in let g : p + 13 ≤ length s = rw byte_zero at e in omega arith;
      fits = fits-here;
      room = let e = h.room in let g = five in omega arith;
    }

    module _ (T' : List ℕ) (put : ComparisonPut s columns (p + 1) T T' at) where
      -- its first word is that of a comparison
      first-low : get_or T' at 0 < 16
      unfolding comparison_in comparison_at comparison_fits
      first-low =
          let o : get_or T' at 0 % 8 ≡ get_or s (p + 1 + 2) 0 = ap (λ (c : Comparison). c.operator) put.is in
          let k : get_or T' at 0 / 8 ≡ get_or s (p + 1 + 3) 0 = ap (λ (c : Comparison). c.right_kind) put.is in
          let f = fits-here in
          let b = kind_few columns (get_or s (p + 1 + 3) 0) (get_or s (p + 1 + 4) 0) (get_or s (p + 1 + 5) 0)
          (and_left (right_fits columns (get_or s (p + 1 + 3) 0) (get_or s (p + 1 + 4) 0) (get_or s (p + 1 + 5) 0)) _
          (and_right (left_fits columns (get_or s (p + 1) 0) (get_or s (p + 1 + 1) 0) (get_or s (p + 1 + 2) 0)) _ f)) in
          omega arith

      pub comparison_put : EntryPut s columns p tag T T' at
      unfolding entry_in entry_words read_entry
      comparison_put =
          let l : ltb (get_or T' at 0) 16 ≡ true = lt-ltb (get_or T' at 0) 16 first-low in
          let b = byte_zero in
          record {
            len = comparison_long s columns (p + 1) T T' at put;
            is = rw (l, b) (ap compared put.is);
            words = rw l (words_comparison tag z).0;
            kept = λ j f. comparison_kept s columns (p + 1) T T' at put j (λ a b. f a (let g = five in omega arith));
          }

  module _ (z : tag ≡ 0 → ⊥) where
    byte_some : eqb (get_or s p 0) 0 ≡ false
    byte_some = ne_eqb (get_or s p 0) 0 (λ e. z (h.first ∙ e))

    pub tag_few : tag ≤ 3
    unfolding entry_fits
    tag_few =
        let e : pick (eqb (get_or s p 0) 0) (comparison_fits s columns (p + 1)) (leb (get_or s p 0) 3) ≡ true = h.fits in
        let g : leb (get_or s p 0) 3 ≡ true = rw byte_some at e in
        let y = leb-true (get_or s p 0) 3 g in
        let f = h.first in
        omega arith

    pub one-there : at < length T
    one-there = let e = h.room in let g = (words_operator tag z).0 in omega arith

    -- AND, OR and NOT by their byte and by their word
    same-operator : (x : ℕ) → x ≤ 3 → (x ≡ 0 → ⊥) → pick (eqb (15 + x) 16) conj (pick (eqb (15 + x) 17) disj neg) ≡ pick (eqb x 1) conj (pick (eqb x 2) disj neg)
    same-operator x l n =
        decided (eqb x 1)
        (λ a. let e = eqb-true x 1 a in rw e refl)
        (λ a. decided (eqb x 2)
        (λ b. let e = eqb-true x 2 b in rw e refl)
        (λ b. let i = eqb-false x 1 a in
        let j = eqb-false x 2 b in
        let e : x ≡ 3 = omega arith in
        rw e refl))

    pub operator-put : EntryPut s columns p tag T (set T at (15 + tag)) at
    unfolding entry_in entry_words read_entry
    operator-put =
        let w : get_or (set T at (15 + tag)) at 0 ≡ 15 + tag = get_or-set_same T at (15 + tag) 0 one-there in
        let l : ltb (15 + tag) 16 ≡ false = le-ltb (15 + tag) 16 (omega arith) in
        let b = byte_some in
        let o : get_or s p 0 ≡ tag = sym h.first in
        let g = (words_operator tag z).0 in
        record {
          len = length-set T at (15 + tag);
          is = rw (w, l, b, o) (same-operator tag tag_few z);
          words = rw (w, l) g;
          kept = λ j f. get_or-set_other T at j (15 + tag) 0 (λ e. f (omega arith) (omega arith));
        }

-- ---- several

-- the first k of them are put; the next one is read from index `from` on and written to word `to`
pub record Putting (s : List ℕ) (columns p count : ℕ) (T₀ : List ℕ) (at : ℕ) (T : List ℕ) (k from to : ℕ) : Type 0 where
  pub asked : EntriesRoom s columns p count T₀ at
  pub upto : k ≤ count
  pub len : length T ≡ length T₀
  pub reads : from ≡ entries_end s k p
  pub writes : to ≡ at + words_of s k p
  pub is : entries_in T columns k at ≡ read_entries s k p
  pub behind : entries_behind T k at ≡ to
  pub kept : (j : ℕ) → (at ≤ j → j < to → ⊥) → get_or T j 0 ≡ get_or T₀ j 0

module _ (s : List ℕ) (columns p count : ℕ) (T₀ : List ℕ) (at : ℕ) where
  pub putting_none : EntriesRoom s columns p count T₀ at → Putting s columns p count T₀ at T₀ 0 p at
  unfolding entries_end words_of entries_in read_entries entries_behind
  putting_none h = record { asked = h; upto = omega arith; len = refl; reads = refl; writes = omega arith; is = refl; behind = refl; kept = λ j f. refl }

  module _ (T : List ℕ) (k from to : ℕ) (h : Putting s columns p count T₀ at T k from to) where
    pub putting_all : count ≤ k → EntriesPut s columns p count T₀ T at
    putting_all l =
        let q : k ≡ count = let u = h.upto in omega arith in
        let w = h.writes in
        rw (← q) (record { len = h.len; is = h.is; behind = h.behind ∙ w; kept = λ j f. h.kept j (λ a b. f a (omega arith)) })

    pub word-there : to ≤ length T
    word-there =
        let g = grows_upto (λ i. words_of s i p) (λ i. let a = words_next s i p in omega arith) k count h.upto in
        let w = h.writes in
        let r = h.asked.room in
        let n = h.len in
        omega arith

    -- the bytes of the next one stand in the query, and its words have room
    module _ (l : k < count) where
      bytes-there : from + entry_bytes s from ≤ length s
      bytes-there =
          let e = end-next s k p in
          let g = grows_upto (λ i. entries_end s i p) (λ i. let a = end-next s i p in omega arith) (suc k) count (omega arith) in
          let t = h.asked.entered.there in
          let r = h.reads in
          rw r (omega arith)

      bytes-some : (t : Bool) → 1 ≤ pick t 13 1
      bytes-some true = omega arith
      bytes-some false = omega arith

      pub byte_there : from < length s
      unfolding entry_bytes
      byte_there = let a = bytes-there in let b = bytes-some (eqb (get_or s from 0) 0) in omega arith

      module _ (tag : ℕ) (is-tag : tag ≡ get_or s from 0) where
        words_there : to + pick (eqb tag 0) 5 1 ≡ at + words_of s (suc k) p
        words_there =
            let e = words_next s k p in
            let w = h.writes in
            let r : get_or s (entries_end s k p) 0 ≡ tag = ap (λ (i : ℕ). get_or s i 0) (sym h.reads) ∙ sym is-tag in
            let g : words_of s (suc k) p ≡ words_of s k p + pick (eqb tag 0) 5 1 = rw r at e in
            omega arith

        pub putting_room : EntryRoom s columns from tag T to
        putting_room =
            let w = words_there in
            let g = grows_upto (λ i. words_of s i p) (λ i. let a = words_next s i p in omega arith) (suc k) count (omega arith) in
            let r = h.asked.room in
            let n = h.len in
            record {
              few = h.asked.few;
              first = is-tag;
              stands = bytes-there;
              fits = ap (entry_fits s columns) h.reads ∙ fits-at s columns count p h.asked.entered.fit k l;
              room = omega arith;
            }

        module _ (T' : List ℕ) (put : EntryPut s columns from tag T T' to) where
          before-kept : (j : ℕ) → at ≤ j → j < entries_behind T k at → get_or T' j 0 ≡ get_or T j 0
          before-kept j a b = let e = h.behind in put.kept j (λ c d. omega arith)

          pub putting_more : (bytes words : ℕ) → bytes ≡ pick (eqb tag 0) 13 1 → words ≡ pick (eqb tag 0) 5 1 → Putting s columns p count T₀ at T' (k + 1) (from + bytes) (to + words)
          unfolding entry_bytes
          putting_more bytes words eb ew =
              let one = add-one k in
              let w = words_there in
              let x : entries_behind T' k at ≡ to = behind-same T T' k at before-kept ∙ h.behind in
              rw one (record {
                asked = h.asked;
                upto = omega arith;
                len = put.len ∙ h.len;
                reads = let e : entries_end s (suc k) p ≡ entries_end s k p + pick (eqb (get_or s (entries_end s k p) 0) 0) 13 1 = end-next s k p in
                    let r = h.reads in
                    rw (← r, ← is-tag, ← eb) at (sym e);
                writes = let e = w in rw ew e;
                is = in_next T' columns k at ∙ joined (in_same T T' columns k at before-kept ∙ h.is) (ap (entry_in T' columns) x ∙ put.is ∙ ap (read_entry s) h.reads) ∙ sym (read_next s k p);
                behind = behind-next T' k at ∙ rw x (ap (λ (i : ℕ). to + i) (put.words ∙ sym ew));
                kept = λ j f. put.kept j (λ c d. f (let u = h.writes in omega arith) (omega arith)) ∙ h.kept j (λ c d. f c (omega arith));
              })
            where
              joined : {x y : Entry} {xs ys : List Entry} → xs ≡ ys → x ≡ y → xs ++ (x ∷ []) ≡ ys ++ (y ∷ [])
              joined e f = rw (e, f) refl

-- ---- a letter

module _ (s : List ℕ) (columns d : ℕ) (T : List ℕ) (at more : ℕ) (h : PostfixRoom s columns d T at more) (count : ℕ) (is-count : count ≡ get_or s (d + 1) 0) where
  few_words : words_of s count (d + 2) ≤ count * 3 + 2
  few_words =
      let e = words_few s (get_or s (d + 1) 0) (d + 2) 0 h.body.entered.leaves in
      rw is-count (omega arith)

  -- four of its words are put, whatever they are
  module _ (a b c k : ℕ) where
    abbrev four : List ℕ
    four = set (set (set (set T at a) (at + 1) b) (at + 2) c) (at + 7) k

    pub entries-room : EntriesRoom s columns (d + 2) count four more
    entries-room = record {
      few = h.few;
      entered = rw is-count h.body.entered;
      room = simp length-set (let e = few_words in let r = h.room in let c = is-count in omega arith);
    }

    pub postfix-long : (p n w : ℕ) (T₂ : List ℕ) → EntriesPut s columns p n four T₂ w → length T₂ ≡ length T
    postfix-long p n w T₂ put = put.len ∙ simp length-set

  module _ (T₂ : List ℕ) (put : EntriesPut s columns (d + 2) count (four 0 more count 3) T₂ more) where
    own : (j : ℕ) → at ≤ j → j < at + 16 → get_or T₂ j 0 ≡ get_or (four 0 more count 3) j 0
    own j a b = put.kept j (λ c d. let e = h.before in omega arith)

    pub postfix-put : (r : ℕ) → r ≡ more + count * 3 + 2 → PostfixPut s columns d T T₂ at more r
    postfix-put r er =
        let c = is-count in
        let w = few_words in
        let l : at + 16 ≤ length T = let a = h.before in let b = h.room in omega arith in
        record {
          behind = omega arith;
          len = postfix-long 0 more count 3 (d + 2) count more T₂ put;
          none =
              own at (omega arith) (omega arith)
              ∙ get_or-set_other (set (set (set T at 0) (at + 1) more) (at + 2) count) (at + 7) at 3 0 (λ q. omega arith)
              ∙ get_or-set_other (set (set T at 0) (at + 1) more) (at + 2) at count 0 (λ q. omega arith)
              ∙ get_or-set_other (set T at 0) (at + 1) at more 0 (λ q. omega arith)
              ∙ get_or-set_same T at 0 0 (omega arith);
          from =
              own (at + 1) (omega arith) (omega arith)
              ∙ get_or-set_other (set (set (set T at 0) (at + 1) more) (at + 2) count) (at + 7) (at + 1) 3 0 (λ q. omega arith)
              ∙ get_or-set_other (set (set T at 0) (at + 1) more) (at + 2) (at + 1) count 0 (λ q. omega arith)
              ∙ get_or-set_same (set T at 0) (at + 1) more 0 (simp length-set (omega arith));
          counted =
              own (at + 2) (omega arith) (omega arith)
              ∙ get_or-set_other (set (set (set T at 0) (at + 1) more) (at + 2) count) (at + 7) (at + 2) 3 0 (λ q. omega arith)
              ∙ get_or-set_same (set (set T at 0) (at + 1) more) (at + 2) count 0 (simp length-set (omega arith))
              ∙ c;
          kind =
              own (at + 7) (omega arith) (omega arith)
              ∙ get_or-set_same (set (set (set T at 0) (at + 1) more) (at + 2) count) (at + 7) 3 0 (simp length-set (omega arith));
          is = rw c at put.is;
          upto = let e = put.behind in rw (← c) (omega arith);
          kept = λ j f g.
              put.kept j (λ a b. g a (omega arith))
              ∙ get_or-set_other (set (set (set T at 0) (at + 1) more) (at + 2) count) (at + 7) j 3 0 (λ q. f (omega arith) (omega arith))
              ∙ get_or-set_other (set (set T at 0) (at + 1) more) (at + 2) j count 0 (λ q. f (omega arith) (omega arith))
              ∙ get_or-set_other (set T at 0) (at + 1) j more 0 (λ q. f (omega arith) (omega arith))
              ∙ get_or-set_other T at j 0 0 (λ q. f (omega arith) (omega arith));
        }

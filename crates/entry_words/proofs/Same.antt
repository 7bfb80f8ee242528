-- Entries by the last of them; that they are the same where their words are; and how many words
-- they take at the most.
use mathlib.Core.Path.{◌≡◌, refl, sym, ap, ◌∙◌}
use mathlib.Core.Bool.{Bool, true, false}
use mathlib.Core.List.{List, [], ◌∷◌, ◌++◌}
use Prim.Native.Nat.{ℕ, zero, suc, ◌+◌, ◌*◌, ◌-◌, ◌≤◌, ◌<◌}
use native.Mathlib.Omega.{arith}
use lib.Dec.{eqb, leb, ltb}
use lib.ListN.{get_or}
use borrow.Author.Tests.{leb-true, eqb-true}
use Rattle.rules.specs.Basics.{pick}
use Rattle.rules.specs.Rows.{Comparison, Entry, compared, conj, disj, neg}
use Rattle.rules.specs.Query.{comparison_at, entry_bytes, entry_fits, read_entry, entries_fit, entries_end, read_entries, leaves_one}
use Rattle.laws.proofs.Choice.{and_left, and_right}
use Rattle.table.specs.Tests.{comparison_in, entry_in, entry_words, entries_in, entries_behind}
use Rattle.comparison_words.proofs.Same.{comparison_same}
use Rattle.entry_words.specs.Words.{words_of}

-- ---- the last of several

-- a number that grows with each step grows with several
pub grows : (f : ℕ → ℕ) → ((k : ℕ) → f k ≤ f (suc k)) → (d k : ℕ) → f k ≤ f (d + k)
grows f h zero k = let e : 0 + k ≡ k = omega arith in rw e (omega arith)
grows f h (suc d) k = let e : suc d + k ≡ suc (d + k) = omega arith in let a = grows f h d k in let b = h (d + k) in rw e (omega arith)

pub grows_upto : (f : ℕ → ℕ) → ((k : ℕ) → f k ≤ f (suc k)) → (k m : ℕ) → k ≤ m → f k ≤ f m
grows_upto f h k m l = let e : m - k + k ≡ m = omega arith in rw (← e) (grows f h (m - k) k)

module _ (s : List ℕ) where
  pub end-next : (k p : ℕ) → entries_end s (suc k) p ≡ entries_end s k p + entry_bytes s (entries_end s k p)
  unfolding entries_end
  end-next zero p = refl
  end-next (suc k) p = end-next k (p + entry_bytes s p)

  pub read_next : (k p : ℕ) → read_entries s (suc k) p ≡ read_entries s k p ++ (read_entry s (entries_end s k p) ∷ [])
  unfolding read_entries entries_end
  read_next zero p = refl
  read_next (suc k) p = ap (λ (es : List Entry). read_entry s p ∷ es) (read_next k (p + entry_bytes s p))

  pub words_next : (k p : ℕ) → words_of s (suc k) p ≡ words_of s k p + pick (eqb (get_or s (entries_end s k p) 0) 0) 5 1
  unfolding words_of entries_end
  words_next zero p = omega arith
  words_next (suc k) p = let e = words_next k (p + entry_bytes s p) in omega arith

  pub fits-at : (columns count p : ℕ) → entries_fit s columns count p ≡ true → (k : ℕ) → k < count → entry_fits s columns (entries_end s k p) ≡ true
  unfolding entries_fit entries_end
  fits-at columns zero p e k l = absurd (omega arith)
  fits-at columns (suc count) p e zero l = and_left (entry_fits s columns p) _ e
  fits-at columns (suc count) p e (suc k) l = fits-at columns count (p + entry_bytes s p) (and_right (entry_fits s columns p) _ e) k (omega arith)

module _ (T : List ℕ) where
  pub behind-next : (k at : ℕ) → entries_behind T (suc k) at ≡ entries_behind T k at + entry_words T (entries_behind T k at)
  unfolding entries_behind
  behind-next zero at = refl
  behind-next (suc k) at = behind-next k (at + entry_words T at)

  pub in_next : (columns k at : ℕ) → entries_in T columns (suc k) at ≡ entries_in T columns k at ++ (entry_in T columns (entries_behind T k at) ∷ [])
  unfolding entries_in entries_behind
  in_next columns zero at = refl
  in_next columns (suc k) at = ap (λ (es : List Entry). entry_in T columns at ∷ es) (in_next columns k (at + entry_words T at))

  pub behind-low : (k at : ℕ) → at + k ≤ entries_behind T k at
  unfolding entries_behind entry_words
  behind-low zero at = omega arith
  behind-low (suc k) at = by (ltb (get_or T at 0) 16) (behind-low k)
    where
      by : (t : Bool) → ((at : ℕ) → at + k ≤ entries_behind T k at) → at + suc k ≤ entries_behind T k (at + pick t 5 1)
      by true h = let z = h (at + 5) in omega arith
      by false h = let z = h (at + 1) in omega arith

-- ---- the same words

entry-low : (T : List ℕ) (columns at : ℕ) → ltb (get_or T at 0) 16 ≡ true → entry_in T columns at ≡ compared (comparison_in T columns at)
unfolding entry_in
entry-low T columns at e = rw e refl

module _ (T T' : List ℕ) where
  pub words_same : (at : ℕ) → get_or T' at 0 ≡ get_or T at 0 → entry_words T' at ≡ entry_words T at
  unfolding entry_words
  words_same at e = rw e refl

  pub behind-same : (k at : ℕ) → ((j : ℕ) → at ≤ j → j < entries_behind T k at → get_or T' j 0 ≡ get_or T j 0) → entries_behind T' k at ≡ entries_behind T k at
  unfolding entries_behind
  behind-same zero at h = refl
  behind-same (suc k) at h =
      let w : entry_words T' at ≡ entry_words T at = words_same at (h at (omega arith) (let z = behind-low T (suc k) at in omega arith)) in
      ap (λ (i : ℕ). entries_behind T' k (at + i)) w ∙ behind-same k (at + entry_words T at) (λ j a b. h j (omega arith) b)

  module _ (columns : ℕ) where
    pub entry-same : (at : ℕ) → ((j : ℕ) → at ≤ j → j < at + entry_words T at → get_or T' j 0 ≡ get_or T j 0) → entry_in T' columns at ≡ entry_in T columns at
    unfolding entry_in entry_words
    entry-same at h = by (ltb (get_or T at 0) 16) refl h
      where
        Kept : Bool → Type 0
        Kept t = (j : ℕ) → at ≤ j → j < at + pick t 5 1 → get_or T' j 0 ≡ get_or T j 0

        by : (t : Bool) → ltb (get_or T at 0) 16 ≡ t → Kept t → entry_in T' columns at ≡ entry_in T columns at
        by true e g =
            let w : get_or T' at 0 ≡ get_or T at 0 = g at (omega arith) (omega arith) in
            entry-low T' columns at (rw w e) ∙ ap compared (comparison_same T T' columns at g) ∙ sym (entry-low T columns at e)
        by false e g = let w : get_or T' at 0 ≡ get_or T at 0 = g at (omega arith) (omega arith) in rw (w, e) refl

    pub in_same : (k at : ℕ) → ((j : ℕ) → at ≤ j → j < entries_behind T k at → get_or T' j 0 ≡ get_or T j 0) → entries_in T' columns k at ≡ entries_in T columns k at
    unfolding entries_in entries_behind
    in_same zero at h = refl
    in_same (suc k) at h =
        let z = behind-low T k (at + entry_words T at) in
        let w : entry_words T' at ≡ entry_words T at = words_same at (h at (omega arith) (let y = behind-low T (suc k) at in omega arith)) in
        let e : entry_in T' columns at ≡ entry_in T columns at = entry-same at (λ j a b. h j a (omega arith)) in
        let r : entries_in T' columns k (at + entry_words T at) ≡ entries_in T columns k (at + entry_words T at) = in_same k (at + entry_words T at) (λ j a b. h j (omega arith) b) in
        rw (w, e, r) refl

-- of an operator: AND and OR take one result away, NOT none
module _ (s : List ℕ) (k p d : ℕ) (es : List Entry) (w : ℕ) (ih : (d : ℕ) → leaves_one d es ≡ true → w + 2 * d ≤ 3 * k + 2) where
  one_word : (t u : Bool) → leaves_one d (pick t conj (pick u disj neg) ∷ es) ≡ true → 1 + w + 2 * d ≤ 3 * suc k + 2
  unfolding leaves_one
  one_word true u e = let a = leb-true 2 d (and_left (leb 2 d) _ e) in let b = ih (d - 1) (and_right (leb 2 d) _ e) in omega arith
  one_word false true e = let a = leb-true 2 d (and_left (leb 2 d) _ e) in let b = ih (d - 1) (and_right (leb 2 d) _ e) in omega arith
  one_word false false e = let b = ih d (and_right (leb 1 d) _ e) in omega arith

  five_words : (c : Comparison) → leaves_one d (compared c ∷ es) ≡ true → 5 + w + 2 * d ≤ 3 * suc k + 2
  unfolding leaves_one
  five_words c e = let b = ih (d + 1) e in omega arith

none_left : (d : ℕ) → leaves_one d [] ≡ true → d ≡ 1
unfolding leaves_one
none_left d e = eqb-true d 1 e

-- entries that leave one result take three words each at the most, and two more
pub words_few : (s : List ℕ) (k p d : ℕ) → leaves_one d (read_entries s k p) ≡ true → words_of s k p + 2 * d ≤ 3 * k + 2
unfolding read_entries words_of read_entry entry_bytes
words_few s zero p d e = let z = none_left d e in omega arith
words_few s (suc k) p d e = by (eqb (get_or s p 0) 0) (eqb (get_or s p 0) 1) (eqb (get_or s p 0) 2) e (words_few s k)
  where
    by : (t u v : Bool) → leaves_one d (pick t (compared (comparison_at s (p + 1))) (pick u conj (pick v disj neg)) ∷ read_entries s k (p + pick t 13 1)) ≡ true
        → ((p d : ℕ) → leaves_one d (read_entries s k p) ≡ true → words_of s k p + 2 * d ≤ 3 * k + 2)
        → pick t 5 1 + words_of s k (p + pick t 13 1) + 2 * d ≤ 3 * suc k + 2
    by true u v e ih = five_words s k p d (read_entries s k (p + 13)) (words_of s k (p + 13)) (ih (p + 13)) (comparison_at s (p + 1)) e
    by false u v e ih = one_word s k p d (read_entries s k (p + 1)) (words_of s k (p + 1)) (ih (p + 1)) u v e

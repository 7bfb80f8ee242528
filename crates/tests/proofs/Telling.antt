-- What the words of a letter keep to stays where the words stay, and with it the letter's condition.
use mathlib.Core.Path.{◌≡◌, refl, sym, ap, ◌∙◌}
use mathlib.Core.Bool.{Bool, true, false}
use mathlib.Core.List.{List}
use Prim.Native.Nat.{ℕ, ◌+◌, ◌≤◌, ◌<◌}
use native.Mathlib.Omega.{arith}
use lib.Dec.{eqb}
use lib.ListN.{length, get_or}
use borrow.Author.Tests.{eq-eqb, ne_eqb, eqb-true}
use Rattle.rules.specs.Rows.{all_of, postfix}
use Rattle.rules.specs.Query.{leaves_one}
use Rattle.table.specs.Tests.{test_at, defined_in, entries_in, entries_behind, condition_in, Tests}
use Rattle.comparison_words.proofs.Same.{defined-same}
use Rattle.entry_words.proofs.Same.{behind-same, in_same}
use Rattle.interval_words.proofs.First.{first-same}
use Rattle.tests.specs.Prepared.{PointsBetween}

-- ---- a letter's condition, by how it is tested

module _ (T : List ℕ) (columns at : ℕ) where
  pub by-comparisons : (get_or T (at + 7) 0 ≡ 3 → ⊥) → condition_in T columns at ≡ all_of (defined_in T columns at)
  unfolding condition_in
  by-comparisons h = simp (ne_eqb (get_or T (at + 7) 0) 3 h)

  pub by_entries : (count more : ℕ) → get_or T (at + 7) 0 ≡ 3 → get_or T (at + 2) 0 ≡ count → get_or T (at + 1) 0 ≡ more → condition_in T columns at ≡ postfix (entries_in T columns count more)
  unfolding condition_in
  by_entries count more h c m = simp (eq-eqb (get_or T (at + 7) 0) 3 h, c, m)

-- ---- wider

pub told_wider : (T : List ℕ) (at low high low' high' : ℕ) → low' ≤ low → high ≤ high' → PointsBetween T at low high → PointsBetween T at low' high'
told_wider T at low high low' high' a b h = record {
  first = h.first;
  free = h.free;
  from = λ o. let f = h.from o in omega arith;
  upto = λ o. let f = h.upto o in omega arith;
  entries = h.entries;
  entries_from = λ o. let f = h.entries_from o in omega arith;
  entries_upto = λ o. let f = h.entries_upto o in omega arith;
}

-- ---- the same words

module _ (T T' : List ℕ) (at low high : ℕ) (h : PointsBetween T at low high) (own : (j : ℕ) → at ≤ j → j < at + 16 → get_or T' j 0 ≡ get_or T j 0)
    (reach : (j : ℕ) → low ≤ j → j < high → get_or T' j 0 ≡ get_or T j 0) where
  word-0 : get_or T' at 0 ≡ get_or T at 0
  word-0 = own at (omega arith) (omega arith)

  word-1 : get_or T' (at + 1) 0 ≡ get_or T (at + 1) 0
  word-1 = own (at + 1) (omega arith) (omega arith)

  word-2 : get_or T' (at + 2) 0 ≡ get_or T (at + 2) 0
  word-2 = own (at + 2) (omega arith) (omega arith)

  word-7 : get_or T' (at + 7) 0 ≡ get_or T (at + 7) 0
  word-7 = own (at + 7) (omega arith) (omega arith)

  module _ (z : get_or T (at + 7) 0 ≡ 3) where
    entries-kept : (j : ℕ) → get_or T (at + 1) 0 ≤ j → j < entries_behind T (get_or T (at + 2) 0) (get_or T (at + 1) 0) → get_or T' j 0 ≡ get_or T j 0
    entries-kept j a b = reach j (let f = h.entries_from z in omega arith) (let f = h.entries_upto z in omega arith)

    behind-kept : entries_behind T' (get_or T' (at + 2) 0) (get_or T' (at + 1) 0) ≡ entries_behind T (get_or T (at + 2) 0) (get_or T (at + 1) 0)
    behind-kept = rw (word-1, word-2) (behind-same T T' (get_or T (at + 2) 0) (get_or T (at + 1) 0) entries-kept)

    entries-same : (columns : ℕ) → entries_in T' columns (get_or T' (at + 2) 0) (get_or T' (at + 1) 0) ≡ entries_in T columns (get_or T (at + 2) 0) (get_or T (at + 1) 0)
    entries-same columns = rw (word-1, word-2) (in_same T T' columns (get_or T (at + 2) 0) (get_or T (at + 1) 0) entries-kept)

  pub told_same : length T' ≡ length T → PointsBetween T' at low high
  told_same len = record {
    first = λ o. first-same T T' at own (h.first (let e = word-0 in omega arith));
    free = λ o n. word-7 ∙ h.free (sym word-0 ∙ o) (λ z. n (word-7 ∙ z));
    from = λ o. let a = word-0 in let b = word-1 in let f = h.from (omega arith) in omega arith;
    upto = λ o. let a = word-0 in let b = word-1 in let f = h.upto (omega arith) in omega arith;
    entries = λ o. let z = sym word-7 ∙ o in let e = h.entries z in record {
      few = let a = word-2 in let f = e.few in omega arith;
      there = let a = behind-kept z in let f = e.there in omega arith;
      leaves = λ columns. ap (leaves_one 0) (entries-same z columns) ∙ e.leaves columns;
    };
    entries_from = λ o. let b = word-1 in let f = h.entries_from (sym word-7 ∙ o) in omega arith;
    entries_upto = λ o. let z = sym word-7 ∙ o in let b = behind-kept z in let f = h.entries_upto z in omega arith;
  }

  pub condition_same : (columns : ℕ) → condition_in T' columns at ≡ condition_in T columns at
  condition_same columns = by (eqb (get_or T (at + 7) 0) 3) refl
    where
      by : (t : Bool) → eqb (get_or T (at + 7) 0) 3 ≡ t → condition_in T' columns at ≡ condition_in T columns at
      by true e =
          let z = eqb-true (get_or T (at + 7) 0) 3 e in
          by_entries T' columns at (get_or T' (at + 2) 0) (get_or T' (at + 1) 0) (word-7 ∙ z) refl refl ∙ ap postfix (entries-same z columns)
          ∙ sym (by_entries T columns at (get_or T (at + 2) 0) (get_or T (at + 1) 0) z refl refl)
      by false e =
          let n : get_or T (at + 7) 0 ≡ 3 → ⊥ = borrow.Author.Tests.eqb-false (get_or T (at + 7) 0) 3 e in
          by-comparisons T' columns at (λ z. n (sym word-7 ∙ z))
          ∙ ap all_of (defined-same T T' columns at (λ j a b. own j a (omega arith)) (λ o j a b. reach j (let f = h.from o in omega arith) (let f = h.upto o in omega arith)))
          ∙ sym (by-comparisons T columns at n)

-- ---- all letters

pub tests-told : (T : List ℕ) (tests : ℕ) → tests + 416 ≤ length T → ((l : ℕ) → l < 26 → PointsBetween T (test_at tests l) tests (length T)) → Tests T tests
tests-told T tests long told = record {
  long = long;
  more = λ l f o. (told l f).upto o;
  first = λ l f o. (told l f).first o;
  free = λ l f o n. (told l f).free o n;
  entries = λ l f o. (told l f).entries o;
}

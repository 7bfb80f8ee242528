-- The loop over a letter's entries. The number stands for the results so far (`Evaluating`), and what
-- is to come leaves one.
use mathlib.Core.Path.{◌≡◌, refl, sym, ap, ◌∙◌}
use mathlib.Core.Bool.{Bool, true, false, ◌&&◌}
use mathlib.Core.List.{List, [], ◌∷◌}
use Prim.Native.Nat.{ℕ, suc, ◌+◌, ◌*◌, ◌-◌, ◌%◌, ◌≤◌, ◌<◌}
use native.Mathlib.Omega.{arith}
use lib.Dec.{ltb, leb, eqb}
use lib.IntN.{ℤ}
use lib.ListN.{length, get_or}
use borrow.Author.Tests.{lt-ltb, le-ltb, eqb-true, eqb-false, leb-true, ne_eqb}
use Rattle.rules.specs.Basics.{pick}
use Rattle.rules.specs.Rows.{Truth, truth_and, truth_or, latest, Entry, compared, conj, disj, neg}
use Rattle.rules.specs.Query.{leaves_one}
use Rattle.laws.proofs.Choice.{decided, and_left, and_right}
use Rattle.table.specs.Tests.{comparison_in, entry_in, entry_words, entries_in, entries_behind, Entries}
use Rattle.entry_words.proofs.Same.{behind-low}
use Rattle.comparisons.specs.Spots.{read_truth}
use Rattle.conditions.specs.Results.{truth_number, stacked, joined_number, join_latest, turn_latest, read_result, read_results}
use Rattle.conditions.proofs.Numbers.{latest-few, sixteen, stacked-and, stacked-or, stacked-not, one_result}

-- ---- one entry

module _ (T : List ℕ) (rows : List ℤ) (from at word results : ℕ) where
  pub five_there : word ≡ get_or T at 0 → word < 16 → at + entry_words T at ≤ length T → at + 5 ≤ length T
  unfolding entry_words
  five_there e h l = let z : ltb (get_or T at 0) 16 ≡ true = rw (← e) (lt-ltb word 16 h) in rw z at l

  pub by-comparison : word < 16 → (v : ℕ) → v ≡ truth_number (read_truth T rows from at)
      → results * 4 + v ≡ pick (ltb word 16) (results * 4 + truth_number (read_truth T rows from at)) (joined_number word results)
  by-comparison h v e = rw (lt-ltb word 16 h, ← e) refl

  pub by-operator : 16 ≤ word → (v : ℕ) → v ≡ joined_number word results → v ≡ pick (ltb word 16) (results * 4 + truth_number (read_truth T rows from at)) (joined_number word results)
  by-operator h v e = rw (le-ltb word 16 h) e

-- ---- an entry and its result, by its word

module _ (T : List ℕ) (at : ℕ) where
  entry-low : ltb (get_or T at 0) 16 ≡ true → entry_in T 1 at ≡ compared (comparison_in T 1 at)
  unfolding entry_in
  entry-low e = rw e refl

  entry-and : get_or T at 0 ≡ 16 → entry_in T 1 at ≡ conj
  unfolding entry_in
  entry-and e = rw e refl

  entry-or : get_or T at 0 ≡ 17 → entry_in T 1 at ≡ disj
  unfolding entry_in
  entry-or e = rw e refl

  entry-not : ltb (get_or T at 0) 16 ≡ false → (get_or T at 0 ≡ 16 → ⊥) → (get_or T at 0 ≡ 17 → ⊥) → entry_in T 1 at ≡ neg
  unfolding entry_in
  entry-not e n o = rw (e, ne_eqb (get_or T at 0) 16 n, ne_eqb (get_or T at 0) 17 o) refl

  -- the first of several
  leaves-as : (d k : ℕ) (e : Entry) → entry_in T 1 at ≡ e → leaves_one d (entries_in T 1 (suc k) at) ≡ true → leaves_one d (e ∷ entries_in T 1 k (at + entry_words T at)) ≡ true
  unfolding entries_in
  leaves-as d k e q h = ap (λ (x : Entry). leaves_one d (x ∷ entries_in T 1 k (at + entry_words T at))) (sym q) ∙ h

module _ (T : List ℕ) (rows : List ℤ) (from at : ℕ) (rs : List Truth) where
  result_low : ltb (get_or T at 0) 16 ≡ true → read_result T rows from at rs ≡ read_truth T rows from at ∷ rs
  unfolding read_result
  result_low e = rw e refl

  result_and : get_or T at 0 ≡ 16 → read_result T rows from at rs ≡ join_latest truth_and rs
  unfolding read_result
  result_and e = rw e refl

  result_or : get_or T at 0 ≡ 17 → read_result T rows from at rs ≡ join_latest truth_or rs
  unfolding read_result
  result_or e = rw e refl

  result_not : ltb (get_or T at 0) 16 ≡ false → (get_or T at 0 ≡ 16 → ⊥) → (get_or T at 0 ≡ 17 → ⊥) → read_result T rows from at rs ≡ turn_latest rs
  unfolding read_result
  result_not e n o = rw (e, ne_eqb (get_or T at 0) 16 n, ne_eqb (get_or T at 0) 17 o) refl

-- ---- the results of one more entry

-- the list of results that a number stands for, where so many entries are left
pub record Stack (T : List ℕ) (left at : ℕ) (rs : List Truth) (results : ℕ) : Type 0 where
  pub is : results ≡ stacked rs
  pub few : length rs + left ≤ 16
  pub leaves : leaves_one (length rs) (entries_in T 1 left at) ≡ true

module _ (T : List ℕ) (k at : ℕ) where
  -- a comparison
  pushed : (v : Truth) (rs : List Truth) (results : ℕ) → entry_in T 1 at ≡ compared (comparison_in T 1 at) → Stack T (suc k) at rs results
      → Stack T k (at + entry_words T at) (v ∷ rs) (results * 4 + truth_number v)
  unfolding leaves_one stacked
  pushed v rs results e h = record {
    is = ap (λ (i : ℕ). i * 4 + truth_number v) h.is;
    few = let f = h.few in omega arith;
    leaves =
        let m : leaves_one (length rs + 1) (entries_in T 1 k (at + entry_words T at)) ≡ true = leaves-as T at (length rs) k (compared (comparison_in T 1 at)) e h.leaves in
        let z : length rs + 1 ≡ suc (length rs) = omega arith in
        rw z at m;
  }

  -- AND and OR
  module _ (f : Truth → Truth → Truth) (word : ℕ) (stacks : (rs : List Truth) (a b : Truth) → stacked (f a b ∷ rs) ≡ joined_number word (stacked (b ∷ (a ∷ rs)))) where
    two : (rs : List Truth) → leb 2 (length rs) ≡ true → leaves_one (length rs - 1) (entries_in T 1 k (at + entry_words T at)) ≡ true → (results : ℕ) → Stack T (suc k) at rs results
        → Stack T k (at + entry_words T at) (join_latest f rs) (joined_number word results)
    unfolding join_latest
    two [] e l results h = absurd (let z = leb-true 2 0 e in omega arith)
    two (b ∷ []) e l results h = absurd (let z = leb-true 2 1 e in omega arith)
    two (b ∷ (a ∷ rs)) e l results h = record {
      is = ap (joined_number word) h.is ∙ sym (stacks rs a b);
      few = let g = h.few in omega arith;
      leaves = let z : suc (suc (length rs)) - 1 ≡ suc (length rs) = omega arith in rw z at l;
    }

  -- NOT
  one : (word : ℕ) → (word ≡ 16 → ⊥) → (word ≡ 17 → ⊥) → (rs : List Truth) → leb 1 (length rs) ≡ true → leaves_one (length rs) (entries_in T 1 k (at + entry_words T at)) ≡ true
      → (results : ℕ) → Stack T (suc k) at rs results → Stack T k (at + entry_words T at) (turn_latest rs) (joined_number word results)
  unfolding turn_latest
  one word n o [] e l results h = absurd (let z = leb-true 1 0 e in omega arith)
  one word n o (a ∷ rs) e l results h = record { is = ap (joined_number word) h.is ∙ sym (stacked-not rs a word n o); few = let g = h.few in omega arith; leaves = l }

module _ (T : List ℕ) (rows : List ℤ) (from k at : ℕ) (rs : List Truth) (results : ℕ) (h : Stack T (suc k) at rs results) where
  abbrev Next : List Truth → ℕ → Type 0
  Next = Stack T k (at + entry_words T at)

  by_and : get_or T at 0 ≡ 16 → Next (read_result T rows from at rs) (joined_number (get_or T at 0) results)
  unfolding leaves_one
  by_and e =
      let l : (leb 2 (length rs) && leaves_one (length rs - 1) (entries_in T 1 k (at + entry_words T at))) ≡ true = leaves-as T at (length rs) k conj (entry-and T at e) h.leaves in
      rw (result_and T rows from at rs e, e) (two T k at truth_and 16 stacked-and rs (and_left (leb 2 (length rs)) _ l) (and_right (leb 2 (length rs)) _ l) results h)

  by-or : get_or T at 0 ≡ 17 → Next (read_result T rows from at rs) (joined_number (get_or T at 0) results)
  unfolding leaves_one
  by-or e =
      let l : (leb 2 (length rs) && leaves_one (length rs - 1) (entries_in T 1 k (at + entry_words T at))) ≡ true = leaves-as T at (length rs) k disj (entry-or T at e) h.leaves in
      rw (result_or T rows from at rs e, e) (two T k at truth_or 17 stacked-or rs (and_left (leb 2 (length rs)) _ l) (and_right (leb 2 (length rs)) _ l) results h)

  by-not : ltb (get_or T at 0) 16 ≡ false → (get_or T at 0 ≡ 16 → ⊥) → (get_or T at 0 ≡ 17 → ⊥) → Next (read_result T rows from at rs) (joined_number (get_or T at 0) results)
  unfolding leaves_one
  by-not e n o =
      let l : (leb 1 (length rs) && leaves_one (length rs) (entries_in T 1 k (at + entry_words T at))) ≡ true = leaves-as T at (length rs) k neg (entry-not T at e n o) h.leaves in
      rw (result_not T rows from at rs e n o) (one T k at (get_or T at 0) n o rs (and_left (leb 1 (length rs)) _ l) (and_right (leb 1 (length rs)) _ l) results h)

  -- whatever entry it is
  stepped : Next (read_result T rows from at rs) (pick (ltb (get_or T at 0) 16) (results * 4 + truth_number (read_truth T rows from at)) (joined_number (get_or T at 0) results))
  stepped =
      decided (ltb (get_or T at 0) 16)
      (λ e. rw (e, result_low T rows from at rs e) (pushed T k at (read_truth T rows from at) rs results (entry-low T at e) h))
      (λ e. rw e (decided (eqb (get_or T at 0) 16)
      (λ a. by_and (eqb-true (get_or T at 0) 16 a))
      (λ a. decided (eqb (get_or T at 0) 17)
      (λ b. by-or (eqb-true (get_or T at 0) 17 b))
      (λ b. by-not e (eqb-false (get_or T at 0) 16 a) (eqb-false (get_or T at 0) 17 b)))))

-- ---- the loop

pub record Evaluating (T : List ℕ) (rows : List ℤ) (from at left place results : ℕ) : Type 0 where
  pub rs : List Truth
  pub stack : Stack T left place rs results
  pub there : entries_behind T left place ≤ length T
  pub same : read_results T rows from (get_or T (at + 2) 0) (get_or T (at + 1) 0) [] ≡ read_results T rows from left place rs

module _ (T : List ℕ) (rows : List ℤ) (from at : ℕ) where
  pub evaluating_none : Entries T at → (count place : ℕ) → count ≡ get_or T (at + 2) 0 → place ≡ get_or T (at + 1) 0 → Evaluating T rows from at count place 0
  unfolding stacked
  evaluating_none h count place ec ep =
      rw (ec, ep) (record { rs = []; stack = record { is = refl; few = let f = h.few in omega arith; leaves = h.leaves 1 }; there = h.there; same = refl })

  module _ (left place results : ℕ) (h : Evaluating T rows from at left place results) where
    -- the number of so few results is small
    pub few_results : results < 4294967296
    few_results = let f = h.stack.few in rw h.stack.is (sixteen h.rs (omega arith))

    pub few_latest : results % 4 ≤ 2
    few_latest = rw h.stack.is (latest-few h.rs)

    pub evaluating_all : left ≤ 0 → results ≡ truth_number (latest (read_results T rows from (get_or T (at + 2) 0) (get_or T (at + 1) 0) []))
    unfolding read_results entries_in leaves_one
    evaluating_all l =
        let z : left ≡ 0 = omega arith in
        h.stack.is ∙ single h.rs (none_left (length h.rs) (rw z at h.stack.leaves))
        ∙ sym (ap (λ (xs : List Truth). truth_number (latest xs)) (h.same ∙ ap (λ (i : ℕ). read_results T rows from i place h.rs) z))
      where
        none_left : (d : ℕ) → leaves_one d (entries_in T 1 0 place) ≡ true → d ≡ 1
        none_left d e = eqb-true d 1 e

        single : (rs : List Truth) → length rs ≡ 1 → stacked rs ≡ truth_number (latest rs)
        single [] e = absurd (omega arith)
        single (v ∷ []) e = one_result v
        single (v ∷ (w ∷ rs)) e = absurd (let z : suc (suc (length rs)) ≡ 1 = e in omega arith)

    module _ (l : 0 < left) where
      first-there : place + entry_words T place ≤ length T
      unfolding entries_behind
      first-there =
          let z : left ≡ suc (left - 1) = omega arith in
          let t = h.there in
          let g : entries_behind T (left - 1) (place + entry_words T place) ≤ length T = rw z at t in
          let b = behind-low T (left - 1) (place + entry_words T place) in
          omega arith

      pub entry-there : place + entry_words T place ≤ length T
      entry-there = first-there

      pub word-there : place < length T
      unfolding entry_words
      word-there = let a = first-there in let b = some (ltb (get_or T place 0) 16) in omega arith
        where
          some : (t : Bool) → 1 ≤ pick t 5 1
          some true = omega arith
          some false = omega arith

      pub evaluating_more : (word r words : ℕ) → word ≡ get_or T place 0
          → r ≡ pick (ltb word 16) (results * 4 + truth_number (read_truth T rows from place)) (joined_number word results) → words ≡ pick (ltb word 16) 5 1
          → Evaluating T rows from at (left - 1) (place + words) r
      unfolding entry_words entries_behind read_results
      evaluating_more word r words ew er es =
          let z : left ≡ suc (left - 1) = omega arith in
          let w : words ≡ entry_words T place = es ∙ ap (λ (i : ℕ). pick (ltb i 16) 5 1) ew in
          let t = h.there in
          let s : Stack T (suc (left - 1)) place h.rs results = rw z at h.stack in
          rw (er, w, ew) (record {
            rs = read_result T rows from place h.rs;
            stack = stepped T rows from (left - 1) place h.rs results s;
            there = rw z at t;
            same = h.same ∙ ap (λ (i : ℕ). read_results T rows from i place h.rs) z;
          })

-- What stays: a comparison that is put leaves all other words as they were, and comparisons are the
-- same where their words are. And a list of comparisons by its first.
use mathlib.Core.Path.{◌≡◌, refl, ap, ◌∙◌}
use mathlib.Core.List.{List, [], ◌∷◌, ◌++◌}
use Prim.Native.Nat.{ℕ, zero, suc, ◌+◌, ◌*◌, ◌-◌, ◌≤◌, ◌<◌}
use native.Mathlib.Omega.{arith}
use lib.Dec.{eqb}
use lib.ListN.{length, get_or}
use Rattle.rules.specs.Basics.{pick, tabulate}
use Rattle.rules.specs.Rows.{Comparison}
use Rattle.rules.specs.Query.{comparison_at}
use Rattle.define_list.specs.Defines.{comparisons_at}
use Rattle.table.specs.Tests.{comparison_in, comparisons_in, defined_in}
use Rattle.comparison_words.specs.Words.{put_comparison, ComparisonPut}
use Rattle.comparison_words.proofs.Comparing.{five_other, five_long}

-- ---- tables made by a function

module _ {A : Type 0} where
  pub tabulate-same : (n : ℕ) (f g : ℕ → A) → ((k : ℕ) → k < n → f k ≡ g k) → tabulate n f ≡ tabulate n g
  unfolding tabulate
  tabulate-same zero f g h = refl
  tabulate-same (suc n) f g h =
      let e : tabulate n f ≡ tabulate n g = tabulate-same n f g (λ k l. h k (omega arith)) in
      let q : f n ≡ g n = h n (omega arith) in
      rw (e, q) refl

  pub tabulate-first : (n : ℕ) (f : ℕ → A) → tabulate (suc n) f ≡ f 0 ∷ tabulate n (λ k. f (suc k))
  unfolding tabulate
  tabulate-first zero f = refl
  tabulate-first (suc n) f = ap (λ (xs : List A). xs ++ (f (suc n) ∷ [])) (tabulate-first n f)

-- ---- the comparisons of the query

pub comparisons_first : (s : List ℕ) (p count : ℕ) → 1 ≤ count → comparisons_at s p count ≡ comparison_at s p ∷ comparisons_at s (p + 12) (count - 1)
unfolding comparisons_at
comparisons_first s p zero h = absurd (omega arith)
comparisons_first s p (suc n) h =
    tabulate-first n (λ k. comparison_at s (p + k * 12))
    ∙ two (ap (comparison_at s) (let e : p + 0 * 12 ≡ p = omega arith in e))
    (tabulate-same n (λ k. comparison_at s (p + suc k * 12)) (λ k. comparison_at s (p + 12 + k * 12))
    (λ k l. ap (comparison_at s) (let e : p + suc k * 12 ≡ p + 12 + k * 12 = omega arith in e)))
    ∙ ap (λ (c : ℕ). comparison_at s p ∷ comparisons_at s (p + 12) c) (let e : n ≡ suc n - 1 = omega arith in e)
  where
    two : {x y : Comparison} {xs ys : List Comparison} → x ≡ y → xs ≡ ys → x ∷ xs ≡ y ∷ ys
    two e f = rw (e, f) refl

-- ---- the comparisons of the table

module _ (T T' : List ℕ) (columns at : ℕ) where
  pub comparison_same : ((j : ℕ) → at ≤ j → j < at + 5 → get_or T' j 0 ≡ get_or T j 0) → comparison_in T' columns at ≡ comparison_in T columns at
  unfolding comparison_in
  comparison_same h =
      let a = h at (omega arith) (omega arith) in
      let b = h (at + 1) (omega arith) (omega arith) in
      let c = h (at + 2) (omega arith) (omega arith) in
      let d = h (at + 3) (omega arith) (omega arith) in
      let e = h (at + 4) (omega arith) (omega arith) in
      rw (a, b, c, d, e) refl

module _ (T T' : List ℕ) (columns : ℕ) where
  pub comparisons_same : (at count : ℕ) → ((j : ℕ) → at ≤ j → j < at + count * 5 → get_or T' j 0 ≡ get_or T j 0) →
      comparisons_in T' columns at count ≡ comparisons_in T columns at count
  unfolding comparisons_in
  comparisons_same at count h =
      tabulate-same count (λ k. comparison_in T' columns (at + k * 5)) (λ k. comparison_in T columns (at + k * 5))
      (λ k l. comparison_same T T' columns (at + k * 5) (λ j f g. h j (omega arith) (omega arith)))

  -- the words of a letter's count and first comparison are the same, and so are those to which they
  -- point
  pub defined-same : (at : ℕ) → ((j : ℕ) → at ≤ j → j < at + 7 → get_or T' j 0 ≡ get_or T j 0) →
      (1 < get_or T at 0 → (j : ℕ) → get_or T (at + 1) 0 ≤ j → j < get_or T (at + 1) 0 + (get_or T at 0 - 1) * 5 → get_or T' j 0 ≡ get_or T j 0) →
      defined_in T' columns at ≡ defined_in T columns at
  unfolding defined_in
  defined-same at own more =
      let a : get_or T' at 0 ≡ get_or T at 0 = own at (omega arith) (omega arith) in
      let b : get_or T' (at + 1) 0 ≡ get_or T (at + 1) 0 = own (at + 1) (omega arith) (omega arith) in
      three a
      (comparison_same T T' columns (at + 2) (λ j f g. own j (omega arith) (omega arith)))
      (ap (λ (w : ℕ). comparisons_in T' columns w (get_or T' at 0 - 1)) b
      ∙ ap (λ (c : ℕ). comparisons_in T' columns (get_or T (at + 1) 0) (c - 1)) a
      ∙ comparisons_same (get_or T (at + 1) 0) (get_or T at 0 - 1) (λ j f g. more (omega arith) j f g))
    where
      three : {c c' : ℕ} {x x' : Comparison} {xs xs' : List Comparison} → c ≡ c' → x ≡ x' → xs ≡ xs' → pick (eqb c 0) [] (x ∷ xs) ≡ pick (eqb c' 0) [] (x' ∷ xs')
      three e f g = rw (e, f, g) refl

-- ---- what a comparison leaves as it was

module _ (s : List ℕ) (columns p : ℕ) (T T' : List ℕ) (at : ℕ) (put : ComparisonPut s columns p T T' at) where
  pub comparison_long : length T' ≡ length T
  unfolding put_comparison
  comparison_long = ap length put.words ∙ five_long T at _ _ _ _ _

  pub comparison_kept : (j : ℕ) → (at ≤ j → j < at + 5 → ⊥) → get_or T' j 0 ≡ get_or T j 0
  unfolding put_comparison
  comparison_kept j h = ap (λ (t : List ℕ). get_or t j 0) put.words ∙ five_other T at _ _ _ _ _ j h

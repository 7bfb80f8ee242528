-- For callers: the interval of a letter is the same where its words are, and beside the words of
-- the comparison itself it says the same comparison.
use Rattle.std.proofs.Common.{◌≡◌, ℕ, ◌+◌, ◌*◌, ◌/◌, ◌%◌, ◌<◌, ◌≤◌, List, get_or, sym, ap, ◌∙◌, arith}
use Rattle.rules.specs.Basics.{signed32}
use Rattle.rules.specs.Rows.{Comparison}
use Rattle.rules.specs.Query.{comparison_at}
use Rattle.table.specs.Tests.{number_in, comparison_in, word64, raised, raised_word, tested_by, low_of, width_of, First}
use Rattle.interval_words.specs.Interval.{written_number, IntervalPut}

-- ---- the same words

module _ (T T' : List ℕ) (at : ℕ) where
  pub word64-same : ((j : ℕ) → at ≤ j → j < at + 4 → get_or T' j 0 ≡ get_or T j 0) → word64 T' at ≡ word64 T at
  unfolding word64
  word64-same h =
      let a = h at (omega arith) (omega arith) in
      let b = h (at + 1) (omega arith) (omega arith) in
      let c = h (at + 2) (omega arith) (omega arith) in
      let d = h (at + 3) (omega arith) (omega arith) in
      omega arith

  number_same : ((j : ℕ) → at ≤ j → j < at + 5 → get_or T' j 0 ≡ get_or T j 0) → number_in T' at ≡ number_in T at
  unfolding number_in
  number_same h =
      let a = h (at + 3) (omega arith) (omega arith) in
      let b = h (at + 4) (omega arith) (omega arith) in
      ap signed32 (let e : get_or T' (at + 3) 0 + get_or T' (at + 4) 0 * 65536 ≡ get_or T (at + 3) 0 + get_or T (at + 4) 0 * 65536 = omega arith in e)

module _ (T T' : List ℕ) (at : ℕ) (same : (j : ℕ) → at ≤ j → j < at + 16 → get_or T' j 0 ≡ get_or T j 0) where
  abbrev sort : ℕ
  sort = get_or T (at + 2) 0

  sort-same : get_or T' (at + 2) 0 ≡ sort
  sort-same = same (at + 2) (omega arith) (omega arith)

  x-same : raised (number_in T' (at + 2)) ≡ raised (number_in T (at + 2))
  x-same = ap raised (number_same T T' (at + 2) (λ j a b. same j (omega arith) (omega arith)))

  pub first-same : First T at → First T' at
  first-same h = record {
    kind = same (at + 7) (omega arith) (omega arith) ∙ h.kind ∙ ap (λ (w : ℕ). tested_by (w / 8)) (sym sort-same);
    low =
        ap raised_word (word64-same T T' (at + 8) (λ j a b. same j (omega arith) (omega arith))) ∙ h.low
        ∙ ap (λ (w : ℕ). low_of (w % 8) (raised (number_in T (at + 2)))) (sym sort-same)
        ∙ ap (low_of (get_or T' (at + 2) 0 % 8)) (sym x-same);
    width =
        word64-same T T' (at + 12) (λ j a b. same j (omega arith) (omega arith)) ∙ h.width
        ∙ ap (λ (w : ℕ). width_of (w % 8) (raised (number_in T (at + 2)))) (sym sort-same)
        ∙ ap (width_of (get_or T' (at + 2) 0 % 8)) (sym x-same);
  }

-- ---- the words of the comparison say the same

module _ (T : List ℕ) (columns at : ℕ) (s : List ℕ) (p : ℕ) (is : comparison_in T columns at ≡ comparison_at s p) where
  operator-is : get_or T at 0 % 8 ≡ get_or s (p + 2) 0
  unfolding comparison_in comparison_at
  operator-is = ap (λ (c : Comparison). c.operator) is

  kind_is : get_or T at 0 / 8 ≡ get_or s (p + 3) 0
  unfolding comparison_in comparison_at
  kind_is = ap (λ (c : Comparison). c.right_kind) is

  number_is : number_in T at ≡ written_number s p
  unfolding comparison_in comparison_at written_number
  number_is = ap (λ (c : Comparison). c.number) is

-- the comparison and its interval stand in T
module _ (s : List ℕ) (columns p : ℕ) (T₀ T : List ℕ) (at : ℕ) (put : IntervalPut s p T₀ T at) (is : comparison_in T columns (at + 2) ≡ comparison_at s p) where
  op_is : get_or T (at + 2) 0 % 8 ≡ get_or s (p + 2) 0
  op_is = operator-is T columns (at + 2) s p is

  x-is : raised (number_in T (at + 2)) ≡ raised (written_number s p)
  x-is = ap raised (number_is T columns (at + 2) s p is)

  pub first-put : First T at
  first-put = record {
    kind = put.kind_is ∙ ap tested_by (sym (kind_is T columns (at + 2) s p is));
    low = put.low_is ∙ ap (λ (o : ℕ). low_of o (raised (written_number s p))) (sym op_is) ∙ ap (low_of (get_or T (at + 2) 0 % 8)) (sym x-is);
    width = put.width_is ∙ ap (λ (o : ℕ). width_of o (raised (written_number s p))) (sym op_is) ∙ ap (width_of (get_or T (at + 2) 0 % 8)) (sym x-is);
  }

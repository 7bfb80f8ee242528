-- The loop that puts several comparisons, one behind the other.
use mathlib.Core.Path.{◌≡◌, refl, sym, ap, ◌∙◌}
use mathlib.Core.List.{List, [], ◌∷◌, ◌++◌}
use Prim.Native.Nat.{ℕ, suc, ◌+◌, ◌*◌, ◌≤◌, ◌<◌}
use native.Mathlib.Omega.{arith}
use native.Mathlib.Numerals.{add-one}
use lib.ListN.{length, get_or}
use Rattle.rules.specs.Basics.{tabulate}
use Rattle.rules.specs.Rows.{Comparison}
use Rattle.define_list.specs.Defines.{comparisons_at}
use Rattle.table.specs.Tests.{comparisons_in}
use Rattle.comparison_words.specs.Words.{ComparisonRoom, ComparisonPut, ComparisonsRoom, ComparisonsPut}
use Rattle.comparison_words.proofs.Same.{comparison_long, comparison_kept, comparisons_same}

-- the first k of them are put

pub record Several (s : List ℕ) (columns p count : ℕ) (T₀ : List ℕ) (at : ℕ) (T : List ℕ) (k : ℕ) : Type 0 where
  pub asked : ComparisonsRoom s columns p count T₀ at
  pub upto : k ≤ count
  pub len : length T ≡ length T₀
  pub is : comparisons_in T columns at k ≡ comparisons_at s p k
  pub kept : (j : ℕ) → (at ≤ j → j < at + k * 5 → ⊥) → get_or T j 0 ≡ get_or T₀ j 0

module _ (s : List ℕ) (columns p count : ℕ) (T₀ : List ℕ) (at : ℕ) where
  pub several_none : ComparisonsRoom s columns p count T₀ at → Several s columns p count T₀ at T₀ 0
  unfolding comparisons_in comparisons_at
  several_none h = record { asked = h; upto = omega arith; len = refl; is = refl; kept = λ j f. refl }

  module _ (T : List ℕ) (k : ℕ) (h : Several s columns p count T₀ at T k) where
    pub several_room : k < count → ComparisonRoom s columns (p + k * 12) T (at + k * 5)
    several_room l = record {
      few = h.asked.few;
      stands = let a = h.asked.stand.there in omega arith;
      fits = h.asked.stand.fits k l;
      room = let a = h.asked.room in let b = h.len in omega arith;
    }

    pub several_all : count ≤ k → (r : ℕ) → r ≡ at + count * 5 → ComparisonsPut s columns p count T₀ T at r
    several_all l r e =
        let q : k ≡ count = let u = h.upto in omega arith in
        record {
          behind = e;
          len = h.len;
          is = ap (comparisons_in T columns at) (sym q) ∙ h.is ∙ ap (comparisons_at s p) q;
          kept = λ j f. h.kept j (λ a b. f a (omega arith));
        }

    module _ (T' : List ℕ) (l : k < count) (put : ComparisonPut s columns (p + k * 12) T T' (at + k * 5)) where
      one_more : comparisons_in T' columns at (suc k) ≡ comparisons_at s p (suc k)
      unfolding comparisons_in comparisons_at tabulate
      one_more =
          let e : comparisons_in T' columns at k ≡ comparisons_at s p k =
          comparisons_same T T' columns at k (λ j f g. comparison_kept s columns (p + k * 12) T T' (at + k * 5) put j (λ a b. omega arith)) ∙ h.is in
          joined e put.is
        where
          joined : {x y : Comparison} {xs ys : List Comparison} → xs ≡ ys → x ≡ y → xs ++ (x ∷ []) ≡ ys ++ (y ∷ [])
          joined e f = rw (e, f) refl

      pub several_more : Several s columns p count T₀ at T' (k + 1)
      several_more = record {
        asked = h.asked;
        upto = omega arith;
        len = comparison_long s columns (p + k * 12) T T' (at + k * 5) put ∙ h.len;
        is = ap (comparisons_in T' columns at) (add-one k) ∙ one_more ∙ ap (comparisons_at s p) (sym (add-one k));
        kept = λ j f. comparison_kept s columns (p + k * 12) T T' (at + k * 5) put j (λ a b. f (omega arith) (omega arith)) ∙ h.kept j (λ a b. f a (omega arith));
      }

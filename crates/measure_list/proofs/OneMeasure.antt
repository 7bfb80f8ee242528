-- One measure put at its three indices: it is read back, and those before it are as they were.
use mathlib.Core.Path.{◌≡◌, refl, ap, ◌∙◌}
use mathlib.Core.List.{List, [], ◌∷◌, ◌++◌}
use Prim.Native.Nat.{ℕ, zero, suc, ◌+◌, ◌*◌, ◌≤◌, ◌<◌}
use native.Mathlib.Omega.{arith}
use native.Mathlib.Numerals.{add-one}
use lib.ListN.{length}
use Rattle.rules.specs.Basics.{tabulate}
use Rattle.rules.specs.Query.{Measure}
use Rattle.table.specs.Measures.{measure_in, measures_in}
use Rattle.measure_list.specs.Measures.{set_three}
use Rattle.measure_list.proofs.Keeping.{kept_three, three_0, three_1, three_2}

pub tabulate-same : (n : ℕ) (f g : ℕ → Measure) → ((k : ℕ) → k < n → f k ≡ g k) → tabulate n f ≡ tabulate n g
unfolding tabulate
tabulate-same zero f g h = refl
tabulate-same (suc n) f g h =
    ap (λ (x : List Measure). x ++ (f n ∷ [])) (tabulate-same n f g (λ k q. h k (omega arith)))
    ∙ ap (λ (x : Measure). tabulate n g ++ (x ∷ [])) (h n (omega arith))

module _ (l : List ℕ) (at k a b c : ℕ) where
  pub measure_old : (j : ℕ) → j < k → measure_in (set_three l (at + k * 3) a b c) at j ≡ measure_in l at j
  unfolding measure_in
  measure_old j h =
      let t = kept_three l (at + k * 3) a b c in
      let e0 = t.before (at + j * 3) (omega arith) in
      let e1 = t.before (at + j * 3 + 1) (omega arith) in
      let e2 = t.before (at + j * 3 + 2) (omega arith) in
      rw (e0, e1, e2)

  module _ (h : at + k * 3 + 3 ≤ length l) where
    pub measure_new : measure_in (set_three l (at + k * 3) a b c) at k ≡ record { function = a; letter = b; column = c }
    unfolding measure_in
    measure_new = rw (three_0 l (at + k * 3) a b c h, three_1 l (at + k * 3) a b c h, three_2 l (at + k * 3) a b c h)

    pub measures_more : measures_in (set_three l (at + k * 3) a b c) at (k + 1)
        ≡ measures_in l at k ++ (record { function = a; letter = b; column = c } ∷ [])
    unfolding measures_in tabulate
    measures_more =
        ap (λ (i : ℕ). tabulate i (measure_in (set_three l (at + k * 3) a b c) at)) (add-one k)
        ∙ ap (λ (x : List Measure). x ++ (measure_in (set_three l (at + k * 3) a b c) at k ∷ []))
        (tabulate-same k (measure_in (set_three l (at + k * 3) a b c) at) (measure_in l at) measure_old)
        ∙ ap (λ (x : Measure). tabulate k (measure_in l at) ++ (x ∷ [])) measure_new

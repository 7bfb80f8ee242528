-- Laws of the lists in specs/Basics: a table made by a function, and a list written into a buffer.
use mathlib.Core.Path.{◌≡◌, refl, ap, ◌∙◌}
use mathlib.Core.List.{List, [], ◌∷◌, ◌++◌}
use Prim.Native.Nat.{ℕ, zero, suc, ◌+◌, ◌-◌, ◌≤◌, ◌<◌}
use native.Mathlib.Nat.{not-suc-le-zero}
use native.Mathlib.Omega.{arith}
use mathlib.Core.Bool.{Bool, true, false}
use lib.Dec.{ltb}
use borrow.Author.Tests.{ltb-true, ltb-false}
use lib.ListN.{length, get_or, drop, length-append, length-drop, get_or-append}
use lib.Seq.{get_or-append-add, get_or-drop, get_or_at}
use Rattle.rules.specs.Basics.{tabulate, wrote}

module _ {A : Type 0} where
  pub length-tabulate : (n : ℕ) (f : ℕ → A) → length (tabulate n f) ≡ n
  unfolding tabulate
  length-tabulate zero f = refl
  length-tabulate (suc n) f = simp length-append (omega (arith, length-tabulate n f))

  -- entry i of the table is f i
  pub get_d_tabulate : (n : ℕ) (f : ℕ → A) (i : ℕ) (d : A) → i < n → get_or (tabulate n f) i d ≡ f i
  unfolding tabulate
  get_d_tabulate zero f i d h = absurd (not-suc-le-zero h)
  get_d_tabulate (suc n) f i d h = go (λ l. get_d_tabulate n f i d l) (ltb i n) refl
    where
      go : (i < n → get_or (tabulate n f) i d ≡ f i) → (t : Bool) → ltb i n ≡ t → get_or (tabulate n f ++ (f n ∷ [])) i d ≡ f i
      go ih true e =
          let l : i < n = ltb-true i n e in
          get_or-append (tabulate n f) (f n ∷ []) d i (rw (length-tabulate n f) l) ∙ ih l
      go ih false e =
          let q : i ≡ n = omega (arith, ltb-false i n e) in
          rw q (get_or_at (tabulate n f) (f n) [] d n (length-tabulate n f))

  -- a buffer keeps its length, holds vs at its front, and is unchanged beyond
  pub length-wrote : (l vs : List A) → length vs ≤ length l → length (wrote l 0 vs) ≡ length l
  unfolding wrote
  length-wrote l vs h = simp (length-append, length-drop) (omega arith)

  pub front_wrote : (l vs : List A) (i : ℕ) (d : A) → i < length vs → get_or (wrote l 0 vs) i d ≡ get_or vs i d
  unfolding wrote
  front_wrote l vs i d h = get_or-append vs (drop (0 + length vs) l) d i h

  pub beyond-wrote : (l vs : List A) (i : ℕ) (d : A) → length vs ≤ i → get_or (wrote l 0 vs) i d ≡ get_or l i d
  unfolding wrote
  beyond-wrote l vs i d h =
      let e : i ≡ length vs + (i - length vs) = omega arith in
      let z : get_or (vs ++ drop (0 + length vs) l) (length vs + (i - length vs)) d ≡ get_or l (0 + length vs + (i - length vs)) d = get_or-append-add vs (drop (0 + length vs) l) (i - length vs) d ∙ get_or-drop (0 + length vs) l (i - length vs) d in
      let f : 0 + length vs + (i - length vs) ≡ i = omega arith in
      ap (λ (k : ℕ). get_or (vs ++ drop (0 + length vs) l) k d) e ∙ z ∙ ap (λ (k : ℕ). get_or l k d) f

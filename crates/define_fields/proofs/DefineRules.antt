-- The rules for DEFINEs of kind 3: what holds of each number below a count holds of each of the list
-- of those numbers, and the count of a DEFINE that is too short.
use mathlib.Core.Path.{◌≡◌, refl, ap, ◌∙◌}
use mathlib.Core.Bool.{Bool, true, false, ◌&&◌, and-true}
use mathlib.Core.List.{List, [], ◌∷◌, ◌++◌}
use Prim.Native.Nat.{ℕ, zero, suc, ◌+◌, ◌*◌, ◌<◌}
use native.Mathlib.Omega.{arith}
use borrow.Author.Tests.{ne_eqb}
use Rattle.std.specs.List.{list_all, range_with_len}
use Rattle.std.proofs.lemmas.List.Folds.{list_all-append}
use Rattle.rules.specs.Basics.{every_below}
use Rattle.rules.specs.Query.{field, define_fits}
use Rattle.records.specs.Read.{record_of}

range_end : (a n : ℕ) → range_with_len a (suc n) ≡ range_with_len a n ++ ((a + n) ∷ [])
range_end a zero = ap (λ (x : ℕ). x ∷ []) (let e : a ≡ a + 0 = omega arith in e)
range_end a (suc n) =
    ap (λ (xs : List ℕ). a ∷ xs) (range_end (a + 1) n ∙ ap (λ (x : ℕ). range_with_len (a + 1) n ++ (x ∷ [])) (let e : a + 1 + n ≡ a + suc n = omega arith in e))

pub all_below : (f : ℕ → Bool) (n : ℕ) → list_all f (range_with_len 0 n) ≡ every_below n f
unfolding every_below
all_below f zero = refl
all_below f (suc n) =
    ap (list_all f) (range_end 0 n) ∙ list_all-append f (range_with_len 0 n) ((0 + n) ∷ [])
    ∙ ap (λ (t : Bool). t && (f (0 + n) && true)) (all_below f n) ∙ ap (λ (t : Bool). every_below n f && t) (and-true (f (0 + n)) ∙ ap f (let e : 0 + n ≡ n = omega arith in e))

-- a body of fewer than two bytes has no count that it could have the length of
pub define_short : (s : List ℕ) (columns b l : ℕ) → l < 2 → false ≡ define_fits s columns (record_of 3 b l)
unfolding define_fits
define_short s columns b l h = simp (ne_eqb l (2 + field s (record_of 3 b l) 1 * 12) (λ e. omega arith))

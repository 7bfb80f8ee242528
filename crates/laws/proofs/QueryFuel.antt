-- The bound on the number of records in the definitions is large enough: a record takes 4 bytes at
-- least, so any bound that is not below the bytes left gives the same records and the same end.
use mathlib.Core.Path.{◌≡◌, refl, ap}
use mathlib.Core.Bool.{Bool, true, false}
use mathlib.Core.List.{List, [], ◌∷◌}
use Prim.Native.Nat.{ℕ, zero, suc, ◌+◌, ◌-◌, ◌≤◌}
use native.Mathlib.Omega.{arith}
use lib.ListN.{length}
use borrow.Author.Tests.{leb-true}
use Rattle.rules.specs.Query.{Record, whole_at, record_at, next_at, records_on, records_from, records, behind_on, behind_from}
use Rattle.laws.proofs.Level.{and-true}

-- a whole record lies within the query, and the next one stands 4 bytes on at least
whole-within : (s : List ℕ) (at : ℕ) → whole_at s at ≡ true → (at + 4 ≤ length s) × (at + 4 ≤ next_at s at)
unfolding whole_at next_at
whole-within s at e = let c = and-true _ _ e in (leb-true _ _ c.0, omega arith)

pub records-enough : (k l : ℕ) (s : List ℕ) (at : ℕ) → length s - at ≤ k → length s - at ≤ l → records_from k s at ≡ records_from l s at
unfolding records_from records_on
records-enough zero zero s at h i = refl
records-enough zero (suc l) s at h i = go (whole_at s at) refl
  where
    go : (t : Bool) → whole_at s at ≡ t → [] ≡ records_on t (records_from l s) s at
    go true e = let w = whole-within s at e in absurd (omega arith)
    go false e = refl
records-enough (suc k) zero s at h i = go (whole_at s at) refl
  where
    go : (t : Bool) → whole_at s at ≡ t → records_on t (records_from k s) s at ≡ []
    go true e = let w = whole-within s at e in absurd (omega arith)
    go false e = refl
records-enough (suc k) (suc l) s at h i = go (records-enough k l s (next_at s at)) (whole_at s at) refl
  where
    go : (length s - next_at s at ≤ k → length s - next_at s at ≤ l → records_from k s (next_at s at) ≡ records_from l s (next_at s at)) → (t : Bool) → whole_at s at ≡ t
        → records_on t (records_from k s) s at ≡ records_on t (records_from l s) s at
    go ih true e = let w = whole-within s at e in ap (λ (rs : List Record). record_at s at ∷ rs) (ih (omega arith) (omega arith))
    go ih false e = refl

pub behind-enough : (k l : ℕ) (s : List ℕ) (at : ℕ) → length s - at ≤ k → length s - at ≤ l → behind_from k s at ≡ behind_from l s at
unfolding behind_from behind_on
behind-enough zero zero s at h i = refl
behind-enough zero (suc l) s at h i = go (whole_at s at) refl
  where
    go : (t : Bool) → whole_at s at ≡ t → at ≡ behind_on t (behind_from l s) s at
    go true e = let w = whole-within s at e in absurd (omega arith)
    go false e = refl
behind-enough (suc k) zero s at h i = go (whole_at s at) refl
  where
    go : (t : Bool) → whole_at s at ≡ t → behind_on t (behind_from k s) s at ≡ at
    go true e = let w = whole-within s at e in absurd (omega arith)
    go false e = refl
behind-enough (suc k) (suc l) s at h i = go (behind-enough k l s (next_at s at)) (whole_at s at) refl
  where
    go : (length s - next_at s at ≤ k → length s - next_at s at ≤ l → behind_from k s (next_at s at) ≡ behind_from l s (next_at s at)) → (t : Bool) → whole_at s at ≡ t
        → behind_on t (behind_from k s) s at ≡ behind_on t (behind_from l s) s at
    go ih true e = let w = whole-within s at e in ih (omega arith) (omega arith)
    go ih false e = refl

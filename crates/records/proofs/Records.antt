-- The records from an index on, one record at a time: what every pass over a query's records goes
-- by. `records_at` and `behind_at` have enough fuel from every index, and answer 1 is where the walk
-- over the records stops.
use mathlib.Core.Path.{◌≡◌, refl, sym, ap, ◌∙◌}
use mathlib.Core.Bool.{true, false}
use mathlib.Core.List.{List, [], ◌∷◌}
use Prim.Native.Nat.{ℕ, zero, suc, ◌+◌, ◌-◌, ◌≤◌, ◌<◌}
use native.Mathlib.Omega.{arith}
use lib.Dec.{leb, ltb}
use lib.ListN.{length}
use borrow.Author.Tests.{leb-true, le-leb, lt-leb}
use Rattle.rules.specs.Basics.{le16}
use Rattle.rules.specs.Query.{Record, whole_at, record_at, next_at, records_on, records_from, behind_on, behind_from, cut}
use Rattle.laws.proofs.Choice.{decided, and_right}
use Rattle.records.specs.Read.{records_at}

-- where the whole records from an index on end
unfoldable pub behind_at : List ℕ → ℕ → ℕ
unfolding behind_from
behind_at s at = behind_from (length s) s at

module _ (s : List ℕ) (at : ℕ) where
  pub whole-yes : at + 4 ≤ length s → at + 4 + le16 s at ≤ length s → whole_at s at ≡ true
  unfolding whole_at
  whole-yes h g = simp (le-leb _ _ h, le-leb _ _ g)

  pub whole-short : length s < at + 4 → whole_at s at ≡ false
  unfolding whole_at
  whole-short h = simp (lt-leb _ _ h)

  pub whole-past : at + 4 ≤ length s → length s < at + 4 + le16 s at → whole_at s at ≡ false
  unfolding whole_at
  whole-past h g = simp (le-leb _ _ h, lt-leb _ _ g)

  -- a whole record ends within the query, at least four bytes on
  pub within : whole_at s at ≡ true → (at + 4 ≤ next_at s at) × (next_at s at ≤ length s)
  unfolding whole_at next_at
  within e = let z : at + 4 + le16 s at ≤ length s = leb-true _ _ (and_right (leb (at + 4) (length s)) _ e) in (omega arith, z)

module _ (s : List ℕ) where
  records-yes : (k at : ℕ) → whole_at s at ≡ true → records_from (suc k) s at ≡ record_at s at ∷ records_from k s (next_at s at)
  unfolding records_from records_on
  records-yes k at e = simp e

  records-no : (k at : ℕ) → whole_at s at ≡ false → records_from k s at ≡ []
  unfolding records_from records_on
  records-no zero at e = refl
  records-no (suc k) at e = simp e

  records-enough : (k m at : ℕ) → length s - at ≤ k → length s - at ≤ m → records_from k s at ≡ records_from m s at
  records-enough zero m at h g = decided (whole_at s at) (λ e. absurd (let w = within s at e in omega arith)) (λ e. records-no zero at e ∙ sym (records-no m at e))
  records-enough (suc k) zero at h g = decided (whole_at s at) (λ e. absurd (let w = within s at e in omega arith)) (λ e. records-no (suc k) at e ∙ sym (records-no zero at e))
  records-enough (suc k) (suc m) at h g =
      decided (whole_at s at)
      (λ e. let w = within s at e in records-yes k at e ∙ ap (λ (l : List Record). record_at s at ∷ l) (records-enough k m (next_at s at) (omega arith) (omega arith))
      ∙ sym (records-yes m at e))
      (λ e. records-no (suc k) at e ∙ sym (records-no (suc m) at e))

  behind-yes : (k at : ℕ) → whole_at s at ≡ true → behind_from (suc k) s at ≡ behind_from k s (next_at s at)
  unfolding behind_from behind_on
  behind-yes k at e = simp e

  behind-no : (k at : ℕ) → whole_at s at ≡ false → behind_from k s at ≡ at
  unfolding behind_from behind_on
  behind-no zero at e = refl
  behind-no (suc k) at e = simp e

  behind-enough : (k m at : ℕ) → length s - at ≤ k → length s - at ≤ m → behind_from k s at ≡ behind_from m s at
  behind-enough zero m at h g = decided (whole_at s at) (λ e. absurd (let w = within s at e in omega arith)) (λ e. behind-no zero at e ∙ sym (behind-no m at e))
  behind-enough (suc k) zero at h g = decided (whole_at s at) (λ e. absurd (let w = within s at e in omega arith)) (λ e. behind-no (suc k) at e ∙ sym (behind-no zero at e))
  behind-enough (suc k) (suc m) at h g =
      decided (whole_at s at)
      (λ e. let w = within s at e in behind-yes k at e ∙ behind-enough k m (next_at s at) (omega arith) (omega arith) ∙ sym (behind-yes m at e))
      (λ e. behind-no (suc k) at e ∙ sym (behind-no (suc m) at e))

one_on : (k at : ℕ) → at + 4 ≤ k → k ≡ suc (k - 1)
one_on k at h = omega arith

module _ (s : List ℕ) (at : ℕ) where
  pub records-more : whole_at s at ≡ true → records_at s at ≡ record_at s at ∷ records_at s (next_at s at)
  unfolding records_at
  records-more e =
      let w = within s at e in
      ap (λ (k : ℕ). records_from k s at) (one_on (length s) at (omega arith))
      ∙ records-yes s (length s - 1) at e
      ∙ ap (λ (l : List Record). record_at s at ∷ l) (records-enough s (length s - 1) (length s) (next_at s at) (omega arith) (omega arith))

  pub records-none : whole_at s at ≡ false → records_at s at ≡ []
  unfolding records_at
  records-none e = records-no s (length s) at e

  pub records-end : length s ≤ at → records_at s at ≡ []
  records-end h = records-none (whole-short s at (omega arith))

  pub behind_more : whole_at s at ≡ true → behind_at s at ≡ behind_at s (next_at s at)
  unfolding behind_at
  behind_more e =
      let w = within s at e in
      ap (λ (k : ℕ). behind_from k s at) (one_on (length s) at (omega arith))
      ∙ behind-yes s (length s - 1) at e
      ∙ behind-enough s (length s - 1) (length s) (next_at s at) (omega arith) (omega arith)

  pub behind-none : whole_at s at ≡ false → behind_at s at ≡ at
  unfolding behind_at
  behind-none e = behind-no s (length s) at e

-- answer 1, where the walk over the records stops
pub cut-is : (s : List ℕ) (at : ℕ) → behind_at s at ≡ behind_at s 0 → whole_at s at ≡ false → ltb at (length s) ≡ cut s
unfolding cut behind_at
cut-is s at e w = ap (λ (k : ℕ). ltb k (length s)) (sym (behind-none s at w) ∙ e)

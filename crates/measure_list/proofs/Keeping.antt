-- Stores that leave the rest as it was (`Kept`), and what stands after three of them in a row.
use mathlib.Core.Path.{◌≡◌, ◌∙◌}
use mathlib.Core.List.{List}
use Prim.Native.Nat.{ℕ, ◌+◌, ◌≤◌, ◌<◌}
use native.Mathlib.Omega.{arith}
use lib.ListN.{length, get_or, set, length-set}
use lib.Seq.{get_or-set_same, get_or-set_other}
use Rattle.measure_list.specs.Measures.{set_three}

-- the list has as many elements as before, and those before an index and from another on are as
-- they were
pub record Kept (l₀ l : List ℕ) (from to : ℕ) : Type 0 where
  pub long : length l ≡ length l₀
  pub before : (j : ℕ) → j < from → get_or l j 0 ≡ get_or l₀ j 0
  pub behind : (j : ℕ) → to ≤ j → get_or l j 0 ≡ get_or l₀ j 0

kept_set : (l : List ℕ) (i v a b : ℕ) → a ≤ i → i < b → Kept l (set l i v) a b
kept_set l i v a b h g = record {
  long = length-set l i v;
  before = λ j q. get_or-set_other l i j v 0 (λ e. omega arith);
  behind = λ j q. get_or-set_other l i j v 0 (λ e. omega arith);
}

kept_on : (l₀ l l' : List ℕ) (a b : ℕ) → Kept l₀ l a b → Kept l l' a b → Kept l₀ l' a b
kept_on l₀ l l' a b h g = record { long = g.long ∙ h.long; before = λ j q. g.before j q ∙ h.before j q; behind = λ j q. g.behind j q ∙ h.behind j q }

-- ---- three stores

module _ (l : List ℕ) (at a b c : ℕ) where
  pub kept_three : Kept l (set_three l at a b c) at (at + 3)
  unfolding set_three
  kept_three =
      kept_on l _ _ at (at + 3) (kept_set l at a at (at + 3) (omega arith) (omega arith))
      (kept_on (set l at a) _ _ at (at + 3) (kept_set (set l at a) (at + 1) b at (at + 3) (omega arith) (omega arith))
      (kept_set (set (set l at a) (at + 1) b) (at + 2) c at (at + 3) (omega arith) (omega arith)))

  module _ (h : at + 3 ≤ length l) where
    one : List ℕ
    one = set l at a

    two : List ℕ
    unfolding one
    two = set one (at + 1) b

    one-long : length one ≡ length l
    unfolding one
    one-long = length-set l at a

    two-long : length two ≡ length l
    unfolding two
    two-long = length-set one (at + 1) b ∙ one-long

    pub three_0 : get_or (set_three l at a b c) at 0 ≡ a
    unfolding set_three one two
    three_0 =
        get_or-set_other two (at + 2) at c 0 (λ e. omega arith) ∙ get_or-set_other one (at + 1) at b 0 (λ e. omega arith) ∙ get_or-set_same l at a 0 (omega arith)

    pub three_1 : get_or (set_three l at a b c) (at + 1) 0 ≡ b
    unfolding set_three one two
    three_1 = let e = one-long in get_or-set_other two (at + 2) (at + 1) c 0 (λ e. omega arith) ∙ get_or-set_same one (at + 1) b 0 (omega arith)

    pub three_2 : get_or (set_three l at a b c) (at + 2) 0 ≡ c
    unfolding set_three one two
    three_2 = let e = two-long in get_or-set_same two (at + 2) c 0 (omega arith)

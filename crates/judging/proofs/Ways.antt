-- A letter judged, by the ways through the code.
use mathlib.Core.Path.{◌≡◌, refl, sym, ap, ◌∙◌}
use mathlib.Core.Bool.{Bool, true, false, not}
use mathlib.Core.List.{List, []}
use Prim.Native.Nat.{ℕ, zero, suc, ◌+◌, ◌*◌, ◌-◌, ◌≤◌, ◌<◌}
use native.Mathlib.Omega.{arith}
use lib.Dec.{eqb}
use lib.IntN.{ℤ}
use lib.ListN.{length, get_or}
use borrow.Author.Tests.{eq-eqb, ne_eqb, not-true, not-false}
use Rattle.rules.specs.Basics.{pick}
use Rattle.rules.specs.Rows.{latest}
use Rattle.table.specs.Tests.{Entries}
use Rattle.comparisons.specs.Spots.{read_met, first_unmet}
use Rattle.conditions.specs.Results.{truth_number, read_results}
use Rattle.conditions.proofs.Numbers.{yes_number}
use Rattle.judging.specs.Judging.{judged_of, holds_from, judged_from, Judgeable, JudgedAs}

-- the first that is not met is no further than the last
unmet_few : (T : List ℕ) (rows : List ℤ) (from at m : ℕ) → first_unmet T rows from at m ≤ m
unfolding first_unmet
unmet_few T rows from at zero = omega arith
unmet_few T rows from at (suc m) = by (read_met T rows from at) (unmet_few T rows from (at + 5) m)
  where
    by : (t : Bool) → first_unmet T rows from (at + 5) m ≤ m → pick t (suc (first_unmet T rows from (at + 5) m)) 0 ≤ suc m
    by true h = omega arith
    by false h = omega arith

pub unmet_most : (T : List ℕ) (rows : List ℤ) (from at m k : ℕ) → k ≡ first_unmet T rows from at m → k ≤ m
unmet_most T rows from at m k e = let f = unmet_few T rows from at m in omega arith

module _ (T : List ℕ) (rows : List ℤ) (from at : ℕ) (kind : ℕ) (is-kind : kind ≡ get_or T (at + 7) 0) where
  -- what the promise says of a result
  abbrev Says : Bool → ℕ → Type 0
  Says h k = JudgedAs T rows from at (record { holds = h; count = k })

  pub by_entries : kind ≡ 3 → (x : ℕ) → x ≡ truth_number (latest (read_results T rows from (get_or T (at + 2) 0) (get_or T (at + 1) 0) [])) → Says (eqb x 2) 0
  unfolding holds_from judged_from
  by_entries k x e =
      let z : eqb (get_or T (at + 7) 0) 3 ≡ true = eq-eqb (get_or T (at + 7) 0) 3 (sym is-kind ∙ k) in
      record { holds = rw z (ap (λ (i : ℕ). eqb i 2) e ∙ yes_number _); count = rw z refl }

  module _ (n : kind ≡ 3 → ⊥) (all : ℕ) (is_all : all ≡ get_or T at 0) where
    not-3 : eqb (get_or T (at + 7) 0) 3 ≡ false
    not-3 = ne_eqb (get_or T (at + 7) 0) 3 (λ q. n (is-kind ∙ q))

    pub by-none : all ≡ 0 → Says true 0
    unfolding holds_from judged_from
    by-none z = let y : eqb (get_or T at 0) 0 ≡ true = eq-eqb (get_or T at 0) 0 (sym is_all ∙ z) in record { holds = rw (not-3, y) refl; count = rw (not-3, y) refl }

    module _ (some : all ≡ 0 → ⊥) (t : Bool) (is-t : t ≡ read_met T rows from (at + 2)) where
      not-0 : eqb (get_or T at 0) 0 ≡ false
      not-0 = ne_eqb (get_or T at 0) 0 (λ q. some (is_all ∙ q))

      pub first-unmet : not t ≡ true → Says false 1
      unfolding holds_from judged_from
      first-unmet u = let y : read_met T rows from (at + 2) ≡ false = sym is-t ∙ not-true t u in record { holds = rw (not-3, not-0, y) refl; count = rw (not-3, not-0, y) refl }

      module _ (u : not t ≡ false) where
        is-met : read_met T rows from (at + 2) ≡ true
        is-met = sym is-t ∙ not-false t u

        -- by those behind the first
        behind : (k : ℕ) → first_unmet T rows from (get_or T (at + 1) 0) (get_or T at 0 - 1) ≡ k
            → (holds_from T rows from at ≡ eqb k (get_or T at 0 - 1)) × (judged_from T rows from at ≡ suc (judged_of k (get_or T at 0 - 1)))
        unfolding holds_from judged_from
        behind k e = (rw (not-3, not-0, is-met, e) refl, rw (not-3, not-0, is-met, e) refl)

        pub by_one : all ≡ 1 → Says true 1
        unfolding judged_of first_unmet
        by_one o =
            let m : get_or T at 0 - 1 ≡ 0 = omega arith in
            let e : first_unmet T rows from (get_or T (at + 1) 0) (get_or T at 0 - 1) ≡ 0 = rw m refl in
            let b = behind 0 e in
            record { holds = sym (b.0 ∙ rw m refl); count = sym (b.1 ∙ rw m refl) }

        module _ (x k : ℕ) (is_x : x ≡ get_or T (at + 1) 0) (is-k : k ≡ first_unmet T rows from x (all - 1)) where
          the_first : first_unmet T rows from (get_or T (at + 1) 0) (get_or T at 0 - 1) ≡ k
          the_first = sym (is-k ∙ rw (is_x, is_all) refl)

          pub all_met : k ≡ all - 1 → Says true all
          unfolding judged_of
          all_met e =
              let b = behind k the_first in
              let z : eqb k (get_or T at 0 - 1) ≡ true = eq-eqb k (get_or T at 0 - 1) (e ∙ ap (λ (i : ℕ). i - 1) is_all) in
              record { holds = sym (b.0 ∙ z); count = sym (b.1 ∙ rw z (omega arith)) }

          pub some-unmet : (k ≡ all - 1 → ⊥) → Says false (k + 2)
          unfolding judged_of
          some-unmet d =
              let b = behind k the_first in
              let z : eqb k (get_or T at 0 - 1) ≡ false = ne_eqb k (get_or T at 0 - 1) (λ q. d (q ∙ ap (λ (i : ℕ). i - 1) (sym is_all))) in
              record { holds = sym (b.0 ∙ z); count = sym (b.1 ∙ rw z (omega arith)) }

-- ---- what is read stands in the table

module _ (T : List ℕ) (at : ℕ) (j : Judgeable T at) where
  pub entries-stand : (kind : ℕ) → kind ≡ get_or T (at + 7) 0 → kind ≡ 3 → (at + 16 ≤ length T) × Entries T at
  entries-stand kind is-kind k = (j.long, j.entries (sym is-kind ∙ k))

  pub others-there : (all : ℕ) → all ≡ get_or T at 0 → (all ≡ 0 → ⊥) → (all ≡ 1 → ⊥) → (x : ℕ) → x ≡ get_or T (at + 1) 0 → x + (all - 1) * 5 ≤ length T
  others-there all is_all a b x e = let m = j.more (let y : 1 < get_or T at 0 = omega arith in y) in omega arith

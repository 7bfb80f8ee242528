-- One law for each way through the two functions.
use mathlib.Core.Path.{◌≡◌, refl, sym, ◌∙◌}
use mathlib.Core.Bool.{Bool, true, false}
use Prim.Native.Nat.{ℕ, suc, ◌+◌, ◌*◌, ◌%◌, ◌≤◌, ◌<◌}
use native.Mathlib.Omega.{arith}
use native.Mathlib.Nat.{mul-le-mul}
use mir.Syntax.{w64}
use mir.Val.{Fits}
use lib.Dec.{ltb}
use borrow.Author.Tests.{lt-ltb, le-ltb, ltb-false, ne_eqb, eq-eqb}
use Rattle.rules.specs.Basics.{pick}
use Rattle.rules.specs.Report.{bytes_for}
use Rattle.rules.specs.Answers.{first_of}
use Rattle.laws.proofs.Choice.{decided, clash}
use Rattle.sizes.specs.Sizes.{short_for}
use Rattle.refusals.specs.Refusals.{answer_of}
use Rattle.refusals.specs.declared.Refusal.{Refusal}
use Rattle.refusals.proofs.Numbers.{some_answer}
use Rattle.lot_answers.specs.Lot.{Small, bad_numbers, lot_answer}
use Rattle.lot_answers.specs.declared.Measured.{Measured}

module _ (m : Measured) where
  pub too_large : 4096 < m.largest → true ≡ bad_numbers m
  unfolding bad_numbers
  too_large h = rw (lt-ltb 4096 m.largest h) refl

  module _ (l : m.largest ≤ 4096) where
    pub not_whole : (m.entries % m.columns ≡ 0 → ⊥) → true ≡ bad_numbers m
    unfolding bad_numbers
    not_whole d = rw (le-ltb 4096 m.largest l, ne_eqb (m.entries % m.columns) 0 d) refl

    module _ (w : m.entries % m.columns ≡ 0) where
      pub more_than_named : m.largest < m.present → true ≡ bad_numbers m
      unfolding bad_numbers
      more_than_named h = rw (le-ltb 4096 m.largest l, eq-eqb (m.entries % m.columns) 0 w, lt-ltb m.largest m.present h) refl

      pub by_entries : m.present ≤ m.largest → ltb m.entries (m.present * m.columns) ≡ bad_numbers m
      unfolding bad_numbers
      by_entries h = rw (le-ltb 4096 m.largest l, eq-eqb (m.entries % m.columns) 0 w, le-ltb m.largest m.present h) refl

    pub entries_fit : Small m → m.present ≤ m.largest → Fits w64 (m.present * m.columns)
    entries_fit s h =
        let r : m.present ≤ 4096 = omega arith in
        let a : m.present * m.columns ≤ 4096 * 8 = mul-le-mul r s.most in
        record { fits = omega arith }

  -- ---- the answer

  -- a largest number that is not refused is small
  pub named_small : bad_numbers m ≡ false → m.largest ≤ 4096
  unfolding bad_numbers
  named_small e = decided (ltb 4096 m.largest) (λ t. clash (sym (rw t at e))) (λ t. ltb-false 4096 m.largest t)

  pub answer_bad : bad_numbers m ≡ true → lot_answer m ≡ 10
  unfolding lot_answer first_of
  answer_bad e = rw e refl

  module _ (good : bad_numbers m ≡ false) where
    pub largest_fits : Fits w64 (m.largest + 1)
    largest_fits = let l = named_small good in record { fits = omega arith }

    pub few_pairs : Small m → m.places * (m.largest + 1) ≤ 8390656
    few_pairs s =
        let l = named_small good in
        let r : m.largest + 1 ≤ 4097 = omega arith in
        let a : m.places * (m.largest + 1) ≤ 2048 * 4097 = mul-le-mul s.few r in
        omega arith

    pub pairs_fit : Small m → Fits w64 (m.places * (m.largest + 1))
    pairs_fit s = let a = few_pairs s in record { fits = omega arith }

    -- the answers behind 10
    behind-bad : lot_answer m ≡ pick (ltb m.notes (bytes_for (m.places * (m.largest + 1)))) 11 (pick (ltb m.trail (m.places * (m.largest + 1))) 12 (pick (ltb m.present m.before) 21 0))
    unfolding lot_answer first_of
    behind-bad = let e : suc m.largest ≡ m.largest + 1 = omega arith in rw (good, e) refl

    pub answer_short : (e : Refusal) → answer_of e ≡ short_for (m.places * (m.largest + 1)) m.notes m.trail → answer_of e ≡ lot_answer m
    unfolding short_for
    answer_short e is = by (ltb m.notes (bytes_for (m.places * (m.largest + 1)))) (ltb m.trail (m.places * (m.largest + 1))) is ∙ sym behind-bad
      where
        by : (t u : Bool) → answer_of e ≡ pick t 11 (pick u 12 0) → answer_of e ≡ pick t 11 (pick u 12 (pick (ltb m.present m.before) 21 0))
        by true u h = h
        by false true h = h
        by false false h = absurd (some_answer e h)

    not_short : 0 ≡ short_for (m.places * (m.largest + 1)) m.notes m.trail → lot_answer m ≡ pick (ltb m.present m.before) 21 0
    unfolding short_for
    not_short z = behind-bad ∙ by (ltb m.notes (bytes_for (m.places * (m.largest + 1)))) (ltb m.trail (m.places * (m.largest + 1))) z
      where
        by : (t u : Bool) → ◌≡◌ {A = ℕ} 0 (pick t 11 (pick u 12 0)) → ◌≡◌ {A = ℕ} (pick t 11 (pick u 12 (pick (ltb m.present m.before) 21 0))) (pick (ltb m.present m.before) 21 0)
        by true u e = absurd (let y : ◌≡◌ {A = ℕ} 0 11 = e in omega arith)
        by false true e = absurd (let y : ◌≡◌ {A = ℕ} 0 12 = e in omega arith)
        by false false e = refl

    pub answer_fewer : 0 ≡ short_for (m.places * (m.largest + 1)) m.notes m.trail → m.present < m.before → lot_answer m ≡ 21
    answer_fewer z h = not_short z ∙ rw (lt-ltb m.present m.before h) refl

    pub answer_none : 0 ≡ short_for (m.places * (m.largest + 1)) m.notes m.trail → m.before ≤ m.present → lot_answer m ≡ 0
    answer_none z h = not_short z ∙ rw (le-ltb m.present m.before h) refl

-- what the proof of each function cites
pub ruleset lot = (too_large, not_whole, more_than_named, by_entries, entries_fit)

pub ruleset answers = (answer_bad, largest_fits, few_pairs, pairs_fit, answer_short, answer_fewer, answer_none)

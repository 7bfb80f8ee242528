-- The refusals of a call of the rules, by the query's own answer, whether it looks ahead, and the
-- numbers of the call.
use mathlib.Core.Path.{◌≡◌, refl, ◌∙◌}
use mathlib.Core.Bool.{true, false, ◌||◌}
use mathlib.Core.List.{List, [], ◌∷◌}
use Prim.Native.Nat.{ℕ}
use lib.IntN.{ℤ}
use lib.Dec.{ltb}
use lib.ListN.{length}
use Rattle.rules.specs.Report.{bytes_for}
use Rattle.rules.specs.Answers.{Test, first_of, query_tests}
use Rattle.rules.specs.Lots.{Named, Progress, named_pairs, bad_lot, looks_ahead, lot_tests, call_refusal}
use Rattle.laws.proofs.FirstTrue.{first-before, first-after}
use Rattle.laws.proofs.Accepted.{query_tests-refuse}
use Rattle.lot_answers.specs.Lot.{bad_numbers, lot_answer, NumbersOf}
use Rattle.lot_answers.specs.declared.Measured.{Measured}

module _ (s : Named) (p : Progress) (rows : List ℤ) (present : ℕ) where
  -- the tests behind the query's own
  abbrev behind : List Test
  behind =
      (17, looks_ahead s.query)
      ∷ (10, ltb 4096 s.largest || bad_lot s rows present)
      ∷ (11, ltb (length s.lent.notes) (bytes_for (named_pairs s)))
      ∷ (12, ltb (length s.lent.trail) (named_pairs s))
      ∷ (21, ltb present p.present)
      ∷ []

  -- the query's own answer
  pub refusal-query : (first_of (query_tests s.query) ≡ 0 → ⊥) → call_refusal s p rows present ≡ first_of (query_tests s.query)
  unfolding call_refusal lot_tests
  refusal-query d = first-before (query_tests s.query) behind d

  module _ (none : first_of (query_tests s.query) ≡ 0) where
    by-behind : call_refusal s p rows present ≡ first_of behind
    unfolding call_refusal lot_tests
    by-behind = first-after (query_tests s.query) behind (query_tests-refuse s.query) none

    -- 17
    pub refusal-ahead : looks_ahead s.query ≡ true → call_refusal s p rows present ≡ 17
    unfolding first_of
    refusal-ahead e = by-behind ∙ rw e refl

    -- any other
    pub refusal_is : looks_ahead s.query ≡ false → (m : Measured) → NumbersOf s p rows present m → call_refusal s p rows present ≡ lot_answer m
    unfolding first_of bad_lot bad_numbers named_pairs lot_answer
    refusal_is e m n =
        by-behind ∙ rw (e, n.places, n.columns, n.largest, n.now_present, n.before, n.entries, n.notes, n.trail) refl

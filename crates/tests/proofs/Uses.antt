-- For callers: the words in front of the tests may be written afterwards, and what `words_for` asks
-- follows from the bodies of the DEFINEs.
use mathlib.Core.Path.{◌≡◌, ◌∙◌}
use mathlib.Core.List.{List}
use Prim.Native.Nat.{ℕ, ◌≤◌, ◌<◌}
use native.Mathlib.Omega.{arith}
use lib.Dec.{eqb}
use lib.ListN.{length, get_or}
use borrow.Author.Tests.{eqb-true, eqb-false}
use Rattle.laws.proofs.Choice.{decided}
use Rattle.define_list.specs.Defines.{kind_at, defined_at, Body}
use Rattle.table.specs.Tests.{test_at, condition_in, Tests}
use Rattle.tests.specs.Prepared.{TestCounted, TestsCountable, PointsBetween, Prepared}
use Rattle.tests.proofs.Telling.{told_same, condition_same, tests-told}

counted : (s : List ℕ) (columns d : ℕ) → Body s columns d → TestCounted s d
counted s columns d b =
    decided (eqb (kind_at s d) 3)
    (λ t. let a = b.all (eqb-true (kind_at s d) 3 t) in
    record { header = b.header; there = b.there; one = a.one; few = λ z. a.few; most = let f = a.few in omega arith })
    (λ t. let n = eqb-false (kind_at s d) 3 t in
    let a = b.postfix n in
    record { header = b.header; there = b.there; one = a.one; few = λ z. absurd (n z); most = a.few })

pub countable : (s : List ℕ) (columns : ℕ) (defines : List ℕ) (letters : ℕ) → letters ≤ 26 →
    ((l : ℕ) → l < 26 → (get_or defines l 0 ≡ 0 → ⊥) → Body s columns (get_or defines l 0)) → TestsCountable s defines letters
countable s columns defines letters upto body = record { upto = upto; counted = λ l f o. counted s columns (get_or defines l 0) (body l f o) }

-- T'' has the same words from `tests` on
module _ (s : List ℕ) (columns : ℕ) (defines T T' : List ℕ) (tests : ℕ) (p : Prepared s columns defines T T' tests)
    (T'' : List ℕ) (len : length T'' ≡ length T') (same : (j : ℕ) → tests ≤ j → get_or T'' j 0 ≡ get_or T' j 0) where
  told-kept : (l : ℕ) → l < 26 → PointsBetween T'' (test_at tests l) tests (length T'')
  told-kept l f = rw len (told_same T' T'' (test_at tests l) tests (length T') (p.told l f) (λ j a b. same j (omega arith)) (λ j a b. same j a) len)

  pub tests-kept : Tests T'' tests
  tests-kept = tests-told T'' tests (let a = p.long in omega arith) told-kept

  pub defined-kept : (l : ℕ) → l < 26 → condition_in T'' columns (test_at tests l) ≡ defined_at s (get_or defines l 0)
  defined-kept l f =
      condition_same T' T'' (test_at tests l) tests (length T') (p.told l f) (λ j a b. same j (omega arith)) (λ j a b. same j a) columns ∙ p.is l f

-- What the test of a letter promises, and what its steps ask.
use Rattle.std.specs.Prelude.{◌≡◌, Result, Ok, Err, Bool, List, ℕ, ℤ}
use Rattle.rules.specs.Basics.{pick}
use Rattle.rules.specs.Answers.{test_of}
use Rattle.refusals.specs.Refusals.{answer_of, offset_of}
use Rattle.refusals.specs.declared.Refusal.{Refusal}
use Rattle.judging.specs.declared.Judged.{Judged}
use Rattle.prepared.specs.Ready.{Given}
use Rattle.prepared.specs.declared.Prepared.{Prepared}
use Rattle.test_letter.specs.declared.Tested.{Tested}

-- the rules' test, with 1 for a letter that holds and 0 for one that does not
pub record TestedAs (q : List ℕ) (rows : List ℤ) (letter row : ℕ) (r : Tested) : Type 0 where
  pub answer : r.answer ≡ (test_of q rows letter row).answer
  pub holds : r.holds ≡ pick (test_of q rows letter row).holds 1 0
  pub judged : r.judged ≡ (test_of q rows letter row).judged
  pub offset : r.offset ≡ (test_of q rows letter row).offset

-- a refusal, and a test that was made
abbrev pub refused_test : ℕ → ℕ → Tested
refused_test a k = record { answer = a; holds = 0; judged = 0; offset = k }

abbrev pub tested : Bool → ℕ → Tested
tested h k = record { answer = 0; holds = pick h 1 0; judged = k; offset = 0 }

abbrev pub told : Result Judged Refusal → Tested
told (Ok j) = tested j.holds j.count
told (Err e) = refused_test (answer_of e) (offset_of e)

-- the table and its numbers are told of some query
pub record Asks (T : List ℕ) (r : Result Prepared Refusal) : Type 0 where
  pub query : List ℕ
  pub given : Given query T r

-- What a run over a prepared query asks: what is told of some query, with its table. And on what
-- terms it is run, or why it is refused.
use Rattle.std.specs.Prelude.{◌≡◌, Result, IfOk, false, List, ℕ, ◌+◌, ◌*◌, ◌/◌}
use Rattle.refusals.specs.Refusals.{answer_in, offset_in}
use Rattle.refusals.specs.declared.Refusal.{Refusal}
use Rattle.rules.specs.Basics.{pick}
use Rattle.sizes.specs.Sizes.{bad_count, short_for}
use Rattle.prepared.specs.Ready.{Given}
use Rattle.prepared.specs.declared.Prepared.{Prepared}
use Rattle.starting.specs.declared.Terms.{Terms}

pub record Runs (T : List ℕ) (r : Result Prepared Refusal) : Type 0 where
  pub query : List ℕ
  pub given : Given query T r

-- answers 10 to 12 of a prepared query by numbers: those of the entries of the rows, of the bytes of
-- the notes, and of the numbers of the trail
abbrev pub numbers_answer : Prepared → ℕ → ℕ → ℕ → ℕ
numbers_answer p entries notes trail = pick (bad_count entries p.columns) 10 (short_for (p.places * (entries / p.columns + 1)) notes trail)

-- that answer; or all the rows, with so many steps allowed
pub record TermsFor (p : Prepared) (entries notes trail allowance : ℕ) (r : Result Terms Refusal) : Type 0 where
  pub answer : answer_in r ≡ numbers_answer p entries notes trail
  pub offset : offset_in r ≡ 0
  pub terms : IfOk r (λ (t : Terms). t ≡ record { rows = entries / p.columns; largest = entries / p.columns; allowance = allowance; more = false })

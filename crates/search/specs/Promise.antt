-- What the search promises, within an allowance of steps or without one, for every input: what it
-- returns and the later content of all four lent buffers are those of the rules' `search_within`,
-- and with it the tender's demands and what document 02 says of allowances, in words about what a
-- caller gets. Nothing has to be unfolded to use it.
use Rattle.std.specs.Prelude.{◌≡◌, List, ℕ, ℤ}
use Rattle.std.proofs.Math.Option.{Option}
use Rattle.rules.specs.Answers.{Buffers, Memory, search_within}
use Rattle.rules.specs.Demands.{Accepts, Demand1, Demands, Allowing}

-- `a`: the allowance (none: any number of steps); `q`: the query's bytes; `before`: the lent
-- buffers; `after`: what is returned, and the buffers as the call leaves them
pub record Promised (a : Option ℕ) (q : List ℕ) (rows : List ℤ) (before : Buffers) (after : Memory) : Type 0 where
  pub whole : after ≡ search_within a q rows before
  -- for every input
  pub demand1 : Demand1 a q rows before after
  -- where the answer is 0, 13, 15 or 16
  pub demands : Accepts after.result.answer → Demands a q rows before after
  pub allowing : Accepts after.result.answer → Allowing q rows before

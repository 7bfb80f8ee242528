-- What telling whether a query looks ahead asks: the table and its numbers stand for some query
-- that has no answer of its own.
use Rattle.std.specs.Prelude.{List, ℕ}
use Rattle.prepared.specs.Ready.{Ready}
use Rattle.prepared.specs.declared.Prepared.{Prepared}

pub record StandsFor (T : List ℕ) (p : Prepared) : Type 0 where
  pub query : List ℕ
  pub ready : Ready query T p

-- A query is prepared, and then the call is made over it.
use mathlib.Core.List.{List}
use Prim.Native.Nat.{ℕ}
use lib.IntN.{ℤ}
use Rattle.std.specs.Prelude.{Result, Some}
use Rattle.refusals.specs.declared.Refusal.{Refusal}
use Rattle.prepared.specs.Ready.{Given, PreparedAs}
use Rattle.prepared.specs.declared.Prepared.{Prepared}
use Rattle.prepared.proofs.Enough.{too_few}
use Rattle.calls.specs.declared.Call.{Call}
use Rattle.calls.specs.declared.Fed.{Fed}
use Rattle.calls.specs.Calls.{Calls}
use Rattle.calls.specs.Steps.{before, after, Told}

module _ (q T T' : List ℕ) (r : Result Prepared Refusal) (h : PreparedAs q T T' (Some r)) where
  pub may_call : Told T' r
  may_call = record { query = q; given = h.told }

  pub has_called : (c : Call) (rows : List ℤ) (notes trail : List ℕ) (numbers : List ℤ) (labels : List ℕ) (f : Fed) (notes' trail' : List ℕ) (numbers' : List ℤ) (labels' : List ℕ)
      → ((q : List ℕ) → Given q T' r → Calls (before c q rows notes trail numbers labels) (after f notes' trail' numbers' labels'))
      → Calls (before c q rows notes trail numbers labels) (after f notes' trail' numbers' labels')
  has_called c rows notes trail numbers labels f notes' trail' numbers' labels' e = e q h.told

pub ruleset tabled = (may_call, has_called, too_few)

-- A query with no answer 1 to 3 read in its order: what stands from an index on.
use Rattle.std.specs.Prelude.{◌≡◌, true, List, ℕ, ◌≤◌, length}
use Rattle.rules.specs.Basics.{every}
use Rattle.rules.specs.Query.{kinds, record_fits, columns_of}
use Rattle.records.specs.Read.{records_at}
use Rattle.query.specs.declared.Stage.{Stage}
use Rattle.query.specs.Order.{rest_of}

-- from an index on, the records stand in order from a stage on, and their fields fit
pub record Ahead (s : List ℕ) (stage : Stage) (at : ℕ) : Type 0 where
  pub upto : at ≤ length s
  pub order : rest_of stage (kinds (records_at s at)) ≡ true
  pub fits : every (record_fits s (columns_of s)) (records_at s at) ≡ true

-- `tests::put_defined` meets its contract by the laws of Putting.
use native.Mathlib.Omega.{arith}
use Rattle.tests.proofs.Putting.{first-room, interval_room, rest-room, define_long, define_put}
use Rattle.tests.proofs.put_defined.Goals as goal

pub put_comparison-requires : goal.put_comparison-requires
put_comparison-requires c = first-room _ _ _ _ _ _ c.requires _ c.from-count.ensures _ _

pub put_interval-requires : goal.put_interval-requires
put_interval-requires c =
    interval_room _ _ _ _ _ _
    c.requires _
    c.from-count.ensures _ _ _
    c.put_comparison.ensures _ (omega arith)

pub put_comparisons-requires : goal.put_comparisons-requires
put_comparisons-requires c =
    rest-room _ _ _ _ _ _
    c.requires _
    c.from-count.ensures _ _ _
    c.put_comparison.ensures _ _
    c.put_interval.ensures

pub shape_of-table : goal.shape_of-table
shape_of-table c =
    define_long _ _ _ _ _ _
    c.requires _
    c.from-count.ensures _ _ _
    c.put_comparison.ensures _ _
    c.put_interval.ensures _ _ _ _ _
    c.put_comparisons.ensures

pub returns : goal.returns
returns c =
    define_put _ _ _ _ _ _
    c.requires _
    c.from-count.ensures _
    c.put_comparison.ensures _
    c.put_interval.ensures _ _
    c.put_comparisons.ensures

-- `loops::can_be_empty`, which calls itself, meets its contract.
-- The measure: the node's height. The loop's invariant: Left. Laws: Laws.
use Rattle.loops.specs.Loops.{Nullable}
use Rattle.nodes.specs.Nodes.{node_at}
use Rattle.loops.proofs.Laws.{Left}
use Rattle.loops.proofs.+can_be_empty.Given as goal

abbrev pub decreases-can_be_empty : goal.decreases-can_be_empty
decreases-can_be_empty l = (node_at l.room.now l.i).height

abbrev pub invariant-loop-n : goal.invariant-loop-n
invariant-loop-n l = Left (Nullable l.room) l.room l.i l.node

abbrev pub decreases-loop-n : goal.decreases-loop-n
decreases-loop-n l = (node_at l.room l.node).height

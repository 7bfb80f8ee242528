-- `loops::nesting` and `loops::part_nesting`, which call each other, meet their contracts.
-- The measure: twice the node's height, and one more for `part_nesting`, which looks at a node
-- first. The loop's invariant: Deep. Laws: pattern's ByNode, Laws.
use Rattle.nodes.specs.Nodes.{node_at}
use Rattle.loops.proofs.Laws.{Deep}
use Prim.Native.Nat.{◌+◌, ◌*◌}
use Rattle.loops.proofs.+nesting_part_nesting.Given as goal

abbrev pub decreases-nesting : goal.decreases-nesting
decreases-nesting l = 2 * (node_at l.room.now l.i).height

abbrev pub decreases-part_nesting : goal.decreases-part_nesting
decreases-part_nesting l = 2 * (node_at l.room.now l.i).height + 1

abbrev pub invariant-nesting-loop-most : goal.invariant-nesting-loop-most
invariant-nesting-loop-most l = Deep l.room l.i l.node l.around l.most

abbrev pub decreases-nesting-loop-most : goal.decreases-nesting-loop-most
decreases-nesting-loop-most l = (node_at l.room l.node).height

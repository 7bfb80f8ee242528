-- `loops::nesting` and `loops::part_nesting`, which call each other, meet their contracts.
-- The measure: twice the node's height, and one more for `part_nesting`, which looks at a node
-- first. The loop's invariant: Deep. Laws: trees' ByNode, Laws.
use Rattle.loops.proofs.Laws.{two_look, deep-two_down, deep-group_down, deep-group_at, nest-letter_at, nest-letter, nest-still, nest-two, nest-group, nest-group_deeper, nest-group_rest}
use borrow.Author.Rules.{rules}
use native.Mathlib.Omega.{arith}
use Rattle.loops.proofs.+nesting_part_nesting.Goals as goal
use Rattle.loops.proofs.+nesting_part_nesting.Goals.{nesting-else-n-eq100-via-then-n-eq100+else-can_be_empty, nesting-else-n-eq100-via-else-n-eq100}

pub nesting-returns-in-Letter : goal.nesting-returns-in-Letter
nesting-returns-in-Letter t c = (search (rules, nest-letter), omega arith)

pub nesting-returns-in-Anchor : goal.nesting-returns-in-Anchor
nesting-returns-in-Anchor t c =
    (nest-still _ _ _ _ _ c.loop-most.invariant _ c.node_at-n.ensures c.in-Anchor.is _ _ c.looped.ensures.0 c.deepest-in-Anchor.ensures.0, omega arith)

pub nesting-part_nesting-requires : goal.nesting-part_nesting-requires
nesting-part_nesting-requires t c = two_look _ _ _ _ _ c.loop-most.invariant _ c.node_at-n.ensures _ c.decreases c.in-Sequence.is

pub nesting-loop-most-smaller-in-Sequence : goal.nesting-loop-most-smaller-in-Sequence
nesting-loop-most-smaller-in-Sequence t c = deep-two_down _ _ _ _ _ c.loop-most.invariant _ c.node_at-n.ensures c.in-Sequence.is

pub nesting-loop-most-preserved-in-Sequence : goal.nesting-loop-most-preserved-in-Sequence
nesting-loop-most-preserved-in-Sequence t c =
    nest-two _ _ _ _ _ c.loop-most.invariant _ c.node_at-n.ensures _ _ c.in-Sequence.is c.part_nesting.ensures.0 c.deepest-most.ensures.0

pub nesting-can_be_empty-requires : goal.nesting-can_be_empty-requires
nesting-can_be_empty-requires t c = search (rules, deep-group_at)

pub nesting-loop-most-smaller-then-can_be_empty : goal.nesting-loop-most-smaller-then-can_be_empty
nesting-loop-most-smaller-then-can_be_empty t c = search (rules, deep-group_down)

pub nesting-loop-most-preserved-then-can_be_empty : goal.nesting-loop-most-preserved-then-can_be_empty
nesting-loop-most-preserved-then-can_be_empty t c = search (rules, nest-group_deeper)

pub nesting-loop-most-smaller : goal.nesting-loop-most-smaller
nesting-loop-most-smaller t c = search (rules, deep-group_down)

pub nesting-loop-most-preserved : goal.nesting-loop-most-preserved
nesting-loop-most-preserved t c =
    elim c.else-n-eq100.branch [
      | nesting-else-n-eq100-via-then-n-eq100+else-can_be_empty w ↦
          nest-group_rest _ _ _ _ _ c.loop-most.invariant _ c.node_at-n.ensures _ c.in-Group.is w.if-n-eq100.true w.can_be_empty.ensures w.if-can_be_empty.false
      | nesting-else-n-eq100-via-else-n-eq100 w ↦ nest-group _ _ _ _ _ c.loop-most.invariant _ c.node_at-n.ensures c.in-Group.is w.if-n-eq100.false
    ]

pub part_nesting-returns-in-Letter : goal.part_nesting-returns-in-Letter
part_nesting-returns-in-Letter t c = (search (rules, nest-letter_at), omega arith)

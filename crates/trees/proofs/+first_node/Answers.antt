-- `trees::first_node`, which calls itself, meets its contract.
-- The measure: the node's height. Laws: ByNode, FirstNode.
use mathlib.Core.Logic.{inl, inr}
use Rattle.trees.proofs.ByNode.{seq-left, alt_left, group-left}
use Rattle.trees.proofs.FirstNode.{first_leaf, first_parted}
use Rattle.trees.proofs.+first_node.Goals as goal

pub first_node-requires : goal.first_node-requires
first_node-requires t c =
    elim c.in-Sequence.is [
      | inl e ↦ seq-left _ _ _ c.node_at-n.ensures _ c.decreases c.requires e
      | inr y ↦ elim y [
        | inl e ↦ alt_left _ _ _ c.node_at-n.ensures _ c.decreases c.requires e
        | inr e ↦ group-left _ _ _ c.node_at-n.ensures _ c.decreases c.requires e
      ]
    ]

pub returns-in-Letter : goal.returns-in-Letter
returns-in-Letter t c = first_leaf _ _ _ c.node_at-n.ensures c.in-Letter.is

pub returns-in-Sequence : goal.returns-in-Sequence
returns-in-Sequence t c = first_parted _ _ _ c.node_at-n.ensures _ c.first_node.ensures c.in-Sequence.is

-- `trees::first_node`, which calls itself, meets its contract.
-- The measure: the node's height. Laws: ByNode, FirstNode.
use Rattle.nodes.specs.Nodes.{node_at}
use Rattle.trees.proofs.+first_node.Given as goal

abbrev pub decreases-first_node : goal.decreases-first_node
decreases-first_node l = (node_at l.room.now l.i).height

-- `forks::fork_ways` meets its contract. The loop's invariant: WaysLeft; its measure: the node's
-- height. Laws: ForkLaws.
use Rattle.forks.proofs.ForkLaws.{WaysLeft}
use Rattle.nodes.specs.Nodes.{node_at}
use Rattle.forks.proofs.fork_ways.Given as goal

abbrev pub invariant-loop-o : goal.invariant-loop-o
invariant-loop-o l = WaysLeft l.o l.room l.i l.initial.table l.from l.to l.b l.k l.node l.table l.word l.place

abbrev pub decreases-loop-o : goal.decreases-loop-o
decreases-loop-o l = (node_at l.room l.node).height

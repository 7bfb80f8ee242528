-- `phrases::chain` meets its contract. The loop's invariant: joining what is left leaves what
-- joining all leaves. The measure is the node behind the parts that are left. Laws: ChainLaws.
use Rattle.phrases.proofs.ChainLaws.{Goes}
use mathlib.Core.Path.{◌≡◌}
use lib.ListN.{length}
use Rattle.phrases.proofs.chain.Given as goal

abbrev pub invariant-loop-to : goal.invariant-loop-to
invariant-loop-to l = Goes l.sort l.forks l.first l.initial.to l.initial.room l.initial.all l.room l.to l.all × (length l.room ≡ length l.initial.room)

abbrev pub decreases-loop-to : goal.decreases-loop-to
decreases-loop-to l = l.to

-- `phrases::chain` meets its contract. The loop's invariant: joining what is left leaves what
-- joining all leaves. The measure is the node behind the parts that are left. Laws: ChainLaws.
use Rattle.phrases.proofs.ChainLaws.{going_none, going_in, going_at, going_joins, going_less, going_more, going_all, joined_length}
use borrow.Author.Rules.{rules}
use native.Mathlib.Omega.{arith}
use mathlib.Core.Path.{refl}
use Rattle.phrases.proofs.chain.Goals as goal

pub loop-to-init : goal.loop-to-init
loop-to-init c = (going_none _ _ _ _ _ _, refl)

pub overflow_sub-top : goal.overflow_sub-top
overflow_sub-top c = omega arith

pub node_at-n-requires : goal.node_at-n-requires
node_at-n-requires c = search (rules, going_in, c.loop-to.invariant)

pub first_node-from-requires : goal.first_node-from-requires
first_node-from-requires c = search (rules, going_at)

pub join-all-requires : goal.join-all-requires
join-all-requires c = search (rules, going_joins)

pub loop-to-smaller : goal.loop-to-smaller
loop-to-smaller c = search (rules, going_less)

pub loop-to-preserved : goal.loop-to-preserved
loop-to-preserved c = (search (rules, going_more), search (rules, joined_length))

pub returns : goal.returns
returns c = λ h. going_all _ _ _ _ _ _ _ _ _ c.loop-to.invariant.0 h (search rules)

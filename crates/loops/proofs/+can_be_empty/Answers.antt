-- `loops::can_be_empty`, which calls itself, meets its contract.
-- The measure: the node's height. The loop's invariant: Left. Laws: Laws.
use Rattle.loops.proofs.Laws.{seq-call, seq-down, alt_call, alt_down, group-down, null_zero, null_letter, null_still, null_group, null_seq, null_seq_no, null_alt, null_alt_second}
use borrow.Author.Rules.{rules}
use Rattle.loops.proofs.+can_be_empty.Goals as goal

pub returns-then-n-eq0 : goal.returns-then-n-eq0
returns-then-n-eq0 t c = search (rules, null_zero)

pub returns-in-Letter : goal.returns-in-Letter
returns-in-Letter t c = search (rules, null_letter)

pub returns-in-Anchor : goal.returns-in-Anchor
returns-in-Anchor t c = null_still _ _ _ c.loop-n.invariant _ c.node_at-n.ensures c.if-n-eq0.false c.in-Anchor.is

pub can_be_empty-requires : goal.can_be_empty-requires
can_be_empty-requires t c = seq-call _ _ _ _ c.loop-n.invariant _ c.node_at-n.ensures _ c.decreases c.in-Sequence.is

pub returns-then-not-can_be_empty : goal.returns-then-not-can_be_empty
returns-then-not-can_be_empty t c = search (rules, null_seq_no)

pub loop-n-smaller-in-Sequence : goal.loop-n-smaller-in-Sequence
loop-n-smaller-in-Sequence t c = search (rules, seq-down)

pub loop-n-preserved-in-Sequence : goal.loop-n-preserved-in-Sequence
loop-n-preserved-in-Sequence t c = search (rules, null_seq)

pub can_be_empty-requires-in-Alternation : goal.can_be_empty-requires-in-Alternation
can_be_empty-requires-in-Alternation t c = alt_call _ _ _ _ c.loop-n.invariant _ c.node_at-n.ensures _ c.decreases c.in-Alternation.is

pub returns-then-can_be_empty : goal.returns-then-can_be_empty
returns-then-can_be_empty t c = search (rules, null_alt)

pub loop-n-smaller-in-Alternation : goal.loop-n-smaller-in-Alternation
loop-n-smaller-in-Alternation t c = search (rules, alt_down)

pub loop-n-preserved-in-Alternation : goal.loop-n-preserved-in-Alternation
loop-n-preserved-in-Alternation t c = search (rules, null_alt_second)

pub loop-n-smaller : goal.loop-n-smaller
loop-n-smaller t c = search (rules, group-down)

pub loop-n-preserved : goal.loop-n-preserved
loop-n-preserved t c = search (rules, null_group)

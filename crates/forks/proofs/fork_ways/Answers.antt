-- `forks::fork_ways` meets its contract. The loop's invariant: WaysLeft; its measure: the node's
-- height. Laws: ForkLaws.
use Rattle.forks.proofs.ForkLaws.{ways-none, ways-no_more, ways-last_fits, ways-last, ways-all, ways-left, ways-down, ways-fits, ways-one, ways-again}
use borrow.Author.Rules.{rules}
use Rattle.forks.proofs.fork_ways.Goals as goal

pub put_way-requires : goal.put_way-requires
put_way-requires c = search (rules, ways-none)

pub returns-then-n-eq0 : goal.returns-then-n-eq0
returns-then-n-eq0 c = search (rules, ways-no_more)

pub overflow_add-place : goal.overflow_add-place
overflow_add-place c = search (rules, ways-last_fits, c.in_default.not-Alternation)

pub put_way-requires-in_default : goal.put_way-requires-in_default
put_way-requires-in_default c = search (rules, ways-last, c.in_default.not-Alternation)

pub returns-in_default : goal.returns-in_default
returns-in_default c = search (rules, ways-all, c.in_default.not-Alternation)

pub places_at-requires : goal.places_at-requires
places_at-requires c = search (rules, ways-left)

pub overflow_add-end : goal.overflow_add-end
overflow_add-end c = search (rules, ways-fits)

pub put_way-word-requires : goal.put_way-word-requires
put_way-word-requires c = search (rules, ways-one)

pub loop-o-smaller : goal.loop-o-smaller
loop-o-smaller c = search (rules, ways-down)

pub loop-o-preserved : goal.loop-o-preserved
loop-o-preserved c = search (rules, ways-again)

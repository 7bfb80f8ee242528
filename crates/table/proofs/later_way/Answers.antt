-- `table::later_way` meets its contract by the laws of Laws.
use borrow.Author.Rules.{rules}
use Rattle.table.proofs.Laws.{later-two, later-in, later_more}
use Rattle.table.proofs.later_way.Goals as goal

pub returns-then-count_at-eq-TWO_WAYS : goal.returns-then-count_at-eq-TWO_WAYS
returns-then-count_at-eq-TWO_WAYS c = later-two _ _ _ _ _ c.later_at-later.ensures c.count_at.ensures c.if-count_at-eq-TWO_WAYS.true

pub word_at-requires : goal.word_at-requires
word_at-requires c = later-in _ _ _ _ _ c.later_at-later.ensures c.count_at.ensures c.requires c.if-count_at-eq-TWO_WAYS.false

pub returns : goal.returns
returns c =
    later_more _ _ _ _ _ c.later_at-later.ensures c.count_at.ensures c.if-count_at-eq-TWO_WAYS.false _ c.word_at.ensures

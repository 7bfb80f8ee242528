-- `reads_ahead::entries_ahead` meets its contract. The invariant is `Going`.
use Rattle.std.proofs.Common.{◌≡◌, ◌-◌, ◌+◌, arith}
use Rattle.reads_ahead.proofs.Letters.{going_none, going_more, going_found, going_all, entry-stands, word-there}
use Rattle.reads_ahead.proofs.entries_ahead.Goals as goal

pub loop-init : goal.loop-init
loop-init c =
    let e : c.args.count - 0 ≡ c.args.count = omega arith in
    rw e (going_none _ _ _ _ c.requires.0)

pub word_at-word-requires : goal.word_at-word-requires
word_at-word-requires c = word-there _ _ _ _ _ _ c.loop.invariant (omega arith)

pub entry_ahead-requires : goal.entry_ahead-requires
entry_ahead-requires c = (c.word_at-word.ensures.0, entry-stands _ _ _ _ _ _ c.loop.invariant (omega arith), c.requires.1)

pub returns-then-entry_ahead : goal.returns-then-entry_ahead
returns-then-entry_ahead c = going_found _ _ _ _ _ _ c.loop.invariant (omega arith) _ c.entry_ahead.ensures c.if-entry_ahead.true

pub overflow_add-place : goal.overflow_add-place
overflow_add-place c = omega (arith, word-there _ _ _ _ _ _ c.loop.invariant (omega arith))

pub loop-preserved : goal.loop-preserved
loop-preserved c =
    let e : c.args.count - (c.loop.counter + 1) ≡ c.args.count - c.loop.counter - 1 = omega arith in
    rw e (going_more _ _ _ _ _ _ c.loop.invariant (omega arith) _ c.entry_ahead.ensures c.if-entry_ahead.false _ _ c.word_at-word.ensures.0 c.entry_words-place.ensures.0)

pub returns : goal.returns
returns c = going_all _ _ _ _ _ _ c.loop.invariant (omega arith)

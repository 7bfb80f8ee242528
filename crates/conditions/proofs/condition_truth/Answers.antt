-- `conditions::condition_truth` meets its contract by the laws of Entering. The invariant is `Evaluating`.
use Rattle.conditions.proofs.Entering.{evaluating_none, few_results, few_latest, entry-there, word-there, evaluating_more, evaluating_all}
use Rattle.std.proofs.Common.{◌≡◌, ◌-◌, ◌+◌, arith}
use Rattle.conditions.proofs.condition_truth.Goals as goal

pub loop-init : goal.loop-init
loop-init c =
    let e : c.word_at-count.result - 0 ≡ c.word_at-count.result = omega arith in
    rw e (evaluating_none _ _ _ _ c.requires.1 _ _ c.word_at-count.ensures.0 c.word_at-place.ensures.0)

pub word_at-word-requires : goal.word_at-word-requires
word_at-word-requires c = word-there _ _ _ _ _ _ _ c.loop.invariant (omega arith)

pub after_entry-results-requires : goal.after_entry-results-requires
after_entry-results-requires c =
    (c.word_at-word.ensures.0, entry-there _ _ _ _ _ _ _ c.loop.invariant (omega arith), few_results _ _ _ _ _ _ _ c.loop.invariant, few_latest _ _ _ _ _ _ _ c.loop.invariant)

pub overflow_add-place : goal.overflow_add-place
overflow_add-place c = omega (arith, word-there _ _ _ _ _ _ _ c.loop.invariant (omega arith))

pub loop-preserved : goal.loop-preserved
loop-preserved c =
    let e : c.word_at-count.result - (c.loop.counter + 1) ≡ c.word_at-count.result - c.loop.counter - 1 = omega arith in
    rw e (evaluating_more _ _ _ _ _ _ _ c.loop.invariant (omega arith) _ _ _ c.word_at-word.ensures.0 c.after_entry-results.ensures c.entry_words-place.ensures.0)

pub returns : goal.returns
returns c = evaluating_all _ _ _ _ _ _ _ c.loop.invariant (omega arith)

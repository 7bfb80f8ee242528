-- `judging::judge_letter` meets its contract by the laws of Ways.
use mathlib.Core.Path.{ap}
use mathlib.Core.Bool.{not}
use Rattle.judging.proofs.Ways.{entries-stand, by_entries, by-none, first-unmet, by_one, all_met, some-unmet, others-there, unmet_most}
use native.Mathlib.Omega.{arith}
use borrow.Author.Rules.{rules}
use Rattle.judging.proofs.judge_letter.Goals as goal

pub condition_truth-holds-requires : goal.condition_truth-holds-requires
condition_truth-holds-requires c = entries-stand _ _ c.requires _ c.word_at.ensures.0 c.if-word_at-eq-BY_ENTRIES.true

pub returns-then-word_at-eq-BY_ENTRIES : goal.returns-then-word_at-eq-BY_ENTRIES
returns-then-word_at-eq-BY_ENTRIES c = search (rules, by_entries)

pub returns-then-all-eq0 : goal.returns-then-all-eq0
returns-then-all-eq0 c = search (rules, by-none)

pub returns-then-not-comparison_met : goal.returns-then-not-comparison_met
returns-then-not-comparison_met c = search (rules, first-unmet)

pub returns-then-all-eq1 : goal.returns-then-all-eq1
returns-then-all-eq1 c = search (rules, by_one)

pub first_unmet-unmet-requires : goal.first_unmet-unmet-requires
first_unmet-unmet-requires c =
    others-there _ _ c.requires _ c.word_at-all.ensures.0 c.if-all-eq0.false c.if-all-eq1.false _ c.word_at-2.ensures.0

pub returns-then-unmet-others : goal.returns-then-unmet-others
returns-then-unmet-others c =
    all_met _ _ _ _ _ c.word_at.ensures.0 c.if-word_at-eq-BY_ENTRIES.false _ c.word_at-all.ensures.0 c.if-all-eq0.false _ c.comparison_met.ensures (ap not c.if-not-comparison_met.false) _ _ c.word_at-2.ensures.0 c.first_unmet-unmet.ensures c.if-unmet-others.true

pub overflow_add-result : goal.overflow_add-result
overflow_add-result c = omega (arith, unmet_most _ _ _ _ _ _ c.first_unmet-unmet.ensures)

pub returns : goal.returns
returns c =
    some-unmet _ _ _ _ _ c.word_at.ensures.0 c.if-word_at-eq-BY_ENTRIES.false _ c.word_at-all.ensures.0 c.if-all-eq0.false _ c.comparison_met.ensures (ap not c.if-not-comparison_met.false) _ _ c.word_at-2.ensures.0 c.first_unmet-unmet.ensures c.if-unmet-others.false

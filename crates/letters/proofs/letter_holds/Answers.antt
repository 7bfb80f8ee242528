-- `letters::letter_holds` meets its contract by the laws of Testing.
use Rattle.letters.proofs.Testing.{free_holds, first-unmet, by-others, entries-stand, by_entries}
use Rattle.std.proofs.Common.{ap, not, arith, rules}
use Rattle.letters.proofs.letter_holds.Goals as goal

pub returns-then-not-column_met : goal.returns-then-not-column_met
returns-then-not-column_met c =
    first-unmet _ _ _ _ _ _ _ (omega arith) c.requires.2 c.requires.1 _ c.word_at-kind.ensures.0 (let e = c.in-1.is in omega arith) _ c.far_back-from.ensures _ c.column_met.ensures (search rules) (ap not c.if-not-column_met.true)

pub returns-else-not-column_met : goal.returns-else-not-column_met
returns-else-not-column_met c =
    by-others _ _ _ _ _ _ _ (omega arith) c.requires.2 c.requires.1 _ c.word_at-kind.ensures.0 (let e = c.in-1.is in omega arith) _ c.far_back-from.ensures _ c.column_met.ensures (search rules) _ _ (ap not c.if-not-column_met.false) c.word_at.ensures.0 c.others_met.ensures

pub returns-then-not-number_met : goal.returns-then-not-number_met
returns-then-not-number_met c =
    first-unmet _ _ _ _ _ _ _ (omega arith) c.requires.2 c.requires.1 _ c.word_at-kind.ensures.0 (let e = c.in-0.is in omega arith) _ c.far_back-from.ensures _ c.number_met.ensures (search rules) (ap not c.if-not-number_met.true)

pub returns-else-not-number_met : goal.returns-else-not-number_met
returns-else-not-number_met c =
    by-others _ _ _ _ _ _ _ (omega arith) c.requires.2 c.requires.1 _ c.word_at-kind.ensures.0 (let e = c.in-0.is in omega arith) _ c.far_back-from.ensures _ c.number_met.ensures (search rules) _ _ (ap not c.if-not-number_met.false) c.word_at-in-0.ensures.0 c.others_met-in-0.ensures

pub returns-in-2 : goal.returns-in-2
returns-in-2 c = search (rules, free_holds)

pub condition_holds-requires : goal.condition_holds-requires
condition_holds-requires c =
    entries-stand _ _ _ _ _ _ c.requires.2 c.requires.1 _ c.word_at-kind.ensures.0 (λ e. omega arith) (λ e. omega arith) (λ e. omega arith)

pub returns-in_default : goal.returns-in_default
returns-in_default c =
    let far = c.far_back-from.ensures in
    by_entries _ _ _ _ _ _ _ (omega arith) c.requires.2 c.requires.1 _ c.word_at-kind.ensures.0 (λ e. omega arith) (λ e. omega arith) (λ e. omega arith) _ far (search rules) _ c.condition_holds.ensures

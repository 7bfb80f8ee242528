-- `reads_ahead::letter_ahead` meets its contract: a law for each way through it.
use Rattle.reads_ahead.proofs.Letters.{entries-there, by_entries, none-defined, first_found, only-first, by-more, more-there}
use borrow.Author.Rules.{rules}
use Rattle.reads_ahead.proofs.letter_ahead.Goals as goal

pub entries_ahead-requires : goal.entries_ahead-requires
entries_ahead-requires c =
    entries-there _ _ _ _ c.word_at.ensures.0 c.requires c.if-word_at-eq-BY_ENTRIES.true _ _ c.word_at-then-word_at-eq-BY_ENTRIES.ensures.0 c.word_at-then-word_at-eq-BY_ENTRIES-2.ensures.0

pub returns-then-word_at-eq-BY_ENTRIES : goal.returns-then-word_at-eq-BY_ENTRIES
returns-then-word_at-eq-BY_ENTRIES c = search (rules, by_entries)

pub returns-then-count-eq0 : goal.returns-then-count-eq0
returns-then-count-eq0 c = search (rules, none-defined)

pub returns-then-comparison_ahead : goal.returns-then-comparison_ahead
returns-then-comparison_ahead c = search (rules, first_found)

pub returns-then-count-eq1 : goal.returns-then-count-eq1
returns-then-count-eq1 c = search (rules, only-first)

pub comparisons_ahead-requires : goal.comparisons_ahead-requires
comparisons_ahead-requires c =
    (more-there _ _ _ _ c.word_at.ensures.0 c.if-word_at-eq-BY_ENTRIES.false _ c.word_at-count.ensures.0 c.requires c.if-count-eq0.false c.if-count-eq1.false _ c.word_at-2.ensures.0, c.requires.shape)

pub returns : goal.returns
returns c = search (rules, by-more)

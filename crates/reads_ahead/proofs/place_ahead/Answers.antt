-- `reads_ahead::place_ahead` meets its contract: a law for each way through it.
use Rattle.std.proofs.Common.{◌∙◌, le-ltb, eq-eqb, rules}
use Rattle.reads_ahead.proofs.Letters.{dollar-ahead, place-readable, by-letter, other_place}
use Rattle.reads_ahead.proofs.place_ahead.Goals as goal

pub returns-then-code-eq-DOLLAR : goal.returns-then-code-eq-DOLLAR
returns-then-code-eq-DOLLAR c = eq-eqb _ 27 c.if-code-eq-DOLLAR.true ∙ (search (rules, dollar-ahead))

pub letter_ahead-requires : goal.letter_ahead-requires
letter_ahead-requires c =
    place-readable _ _ _ _ c.code_at-code.ensures.0 c.if-code-eq-DOLLAR.false c.requires.1 c.if-code-lt-LETTERS.true _ c.later_at.ensures.0

pub returns-then-code-lt-LETTERS : goal.returns-then-code-lt-LETTERS
returns-then-code-lt-LETTERS c = search (rules, by-letter)

pub returns-else-code-lt-LETTERS : goal.returns-else-code-lt-LETTERS
returns-else-code-lt-LETTERS c = le-ltb _ 26 c.if-code-lt-LETTERS.false ∙ (search (rules, other_place))

-- `reads_ahead::entry_ahead` meets its contract: a law for each way through it.
use Rattle.std.proofs.Common.{◌∙◌, le-ltb, rules}
use Rattle.reads_ahead.proofs.Spots.{entry-there, entry-comparison, entry-operator}
use Rattle.reads_ahead.proofs.entry_ahead.Goals as goal

pub comparison_ahead-requires : goal.comparison_ahead-requires
comparison_ahead-requires c = search (rules, entry-there)

pub returns-then-word-lt-AND : goal.returns-then-word-lt-AND
returns-then-word-lt-AND c = search (rules, entry-comparison)

pub returns-else-word-lt-AND : goal.returns-else-word-lt-AND
returns-else-word-lt-AND c = le-ltb _ 16 c.if-word-lt-AND.false ∙ (search (rules, entry-operator))

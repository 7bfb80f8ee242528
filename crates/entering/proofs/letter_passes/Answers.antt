-- `entering::letter_passes` meets its contract: a place tells the test of its letter.
use Rattle.entering.proofs.Letter.{letter_at, letter-passing}
use borrow.Author.Rules.{rules}
use Rattle.entering.proofs.letter_passes.Goals as goal

pub letter_holds-requires : goal.letter_holds-requires
letter_holds-requires c = search (rules, letter_at)

pub returns : goal.returns
returns c = search (rules, letter-passing)

-- `pairs::failed` meets its contract by the laws of rules' Notes.
use Rattle.laws.proofs.Notes.{bit_at-code}
use borrow.Author.Rules.{rules}
use Rattle.pairs.proofs.failed.Goals as goal

pub returns : goal.returns
returns c = bit_at-code _ _

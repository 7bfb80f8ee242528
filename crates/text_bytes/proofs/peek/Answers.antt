-- `text_bytes::peek` meets its contract. Laws: ByteLaws.
use Rattle.text_bytes.proofs.ByteLaws.{byte, no_byte}
use borrow.Author.Rules.{rules}
use Rattle.text_bytes.proofs.peek.Goals as goal

pub returns-then-at-text : goal.returns-then-at-text
returns-then-at-text c = search (rules, byte)

pub returns-else-at-text : goal.returns-else-at-text
returns-else-at-text c = search (rules, no_byte)

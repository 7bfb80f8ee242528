-- `reading::text_is_short` meets its contract, one law for each way out.
use borrow.Author.Rules.{rules}
use Rattle.reading.proofs.Short.{no_length, long_text, by-low_byte}
use Rattle.reading.proofs.text_is_short.Goals as goal

pub returns-then-query-lt8 : goal.returns-then-query-lt8
returns-then-query-lt8 c = search (rules, no_length)

pub returns-then-query-ne0 : goal.returns-then-query-ne0
returns-then-query-ne0 c = search (rules, long_text)

pub returns : goal.returns
returns c = search (rules, by-low_byte)

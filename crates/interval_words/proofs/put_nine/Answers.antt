-- `interval_words::put_nine` meets its contract by the laws of Writing.
use Rattle.std.proofs.Common.{rules}
use Rattle.interval_words.proofs.Writing.{nine_put}
use Rattle.interval_words.proofs.put_nine.Goals as goal

pub returns : goal.returns
returns c = search (rules, nine_put)

-- `interval_words::put_word64` meets its contract by the laws of Writing.
use Rattle.std.proofs.Common.{refl, arith}
use Rattle.interval_words.proofs.Writing.{four-put}
use Rattle.interval_words.proofs.put_word64.Goals as goal

pub returns : goal.returns
returns c = four-put _ _ _ _ _ _ (omega arith) _ refl refl refl refl

-- `interval_words::raised_at` meets its contract by the law of Raising.
use Rattle.interval_words.proofs.Raising.{raised_at}
use Rattle.interval_words.proofs.raised_at.Goals as goal

pub returns : goal.returns
returns c =
    raised_at _ _ _ c.signed_word.result _
    c.le32_at.ensures
    c.signed_word.ensures
    c.raise_number.ensures

-- `comparison_words::put_comparison` meets its contract by the law of Comparing.
use Rattle.comparison_words.proofs.Comparing.{left_near, right_near, comparison_put}
use borrow.Author.Rules.{rules}
use Rattle.comparison_words.proofs.put_comparison.Goals as goal

pub spot_at-left-requires : goal.spot_at-left-requires
spot_at-left-requires c = search (rules, left_near)

pub spot_at-right-requires : goal.spot_at-right-requires
spot_at-right-requires c = search (rules, right_near)

pub returns : goal.returns
returns c =
    comparison_put _ _ _
    c.requires.fits _ _
    c.requires.room _ _ _ _ _ _ _
    c.from.ensures
    c.from-2.ensures
    c.spot_at-left.ensures.0
    c.spot_at-right.ensures.0
    c.le16_at-low.ensures.0
    c.le16_at-high.ensures.0
    c.put_five.ensures

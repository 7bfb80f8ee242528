-- `interval_words::put_interval` meets its contract by the law of Writing.
use Rattle.std.proofs.Common.{arith, ◌≡◌, ◌+◌, ◌%◌}
use Rattle.interval_words.proofs.Writing.{interval_put}
use Rattle.interval_words.proofs.put_interval.Goals as goal

pub returns : goal.returns
returns c =
    let low = c.interval_of-low.result.low in
    let e : ((low + 18446744065119617024) % 18446744073709551616 + 8589934592) % 18446744073709551616 ≡ low = omega arith in
    interval_put _ _ _ _ _ _ _ _ _ _ _ _
    c.from-2.ensures c.from.ensures c.tested_by-kind.ensures.0 c.raised_at.ensures.0
    c.interval_of-low.ensures.low e c.interval_of-low.ensures.width c.put_nine.ensures

-- `digit_count`: the digits are one more than the logarithm.
use Rattle.std.proofs.Common.{rules}
use Rattle.put.proofs.Digits.{digits_counted}
use Rattle.put.proofs.digit_count.Goals as goal

pub returns : goal.returns
returns c = search (rules, digits_counted)

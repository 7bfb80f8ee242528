-- `put_digits` meets its contract by the laws of Digits.
use Rattle.std.proofs.Common.{rules}
use Rattle.put.proofs.Digits.{spelling_none, spelling_more}
use Rattle.put.proofs.put_digits.Goals as goal

pub loop-i-init : goal.loop-i-init
loop-i-init c = search (rules, spelling_none)

pub loop-i-preserved : goal.loop-i-preserved
loop-i-preserved c = search (rules, spelling_more)

-- `print` hands on what `run` wrote, as far as `write_whole` went: one law of proofs/Handed for
-- each end.
use Rattle.streams.proofs.Handed.{prints-cut, prints-entire, hands-cut, hands-entire}
use Rattle.streams.proofs.print.Goals as goal

pub returns-in-Some-clause-prints : goal.returns-in-Some-clause-prints
returns-in-Some-clause-prints g c =
    let w = c.write_whole-writing.ensures in
    prints-cut _ _ _ _ c.run-end.ensures _ _ w.told w.within _ c.in-Some.is

pub returns-in-Some-clause-bytes : goal.returns-in-Some-clause-bytes
returns-in-Some-clause-bytes g c =
    let w = c.write_whole-writing.ensures in
    hands-cut _ _ _ _ c.run-end.ensures _ _ w.told w.within _ _ w.bytes

pub returns-clause-prints : goal.returns-clause-prints
returns-clause-prints g c =
    let w = c.write_whole-writing.ensures in
    prints-entire _ _ _ _ c.run-end.ensures _ _ w.told w.within c.in_default.is

pub returns-clause-bytes : goal.returns-clause-bytes
returns-clause-bytes g c =
    let w = c.write_whole-writing.ensures in
    hands-entire _ _ _ _ c.run-end.ensures _ _ w.told w.within _ _ w.bytes c.in_default.is

-- `intervals::inside` meets its contract by the laws of Intervals.
use Rattle.std.proofs.Common.{◌≡◌, ◌+◌, ◌-◌, ◌%◌, ap, ◌∙◌, arith}
use Rattle.laws.proofs.Signed.{read_back}
use Rattle.table.specs.Tests.{raised}
use Rattle.intervals.proofs.Intervals.{plain-within}
use Rattle.intervals.proofs.inside.Goals as goal

pub raise-requires : goal.raise-requires
raise-requires c = rw (read_back c.args.d (omega arith)) (omega arith)

pub returns : goal.returns
returns c =
    let a = c.args in
    let u = (c.raise.result + 18446744065119617024) % 18446744073709551616 in
    let r = (u + (18446744073709551616 - a.low)) % 18446744073709551616 in
    let p : (u + 8589934592) % 18446744073709551616 ≡ c.raise.result = omega arith in
    let q : (r + a.low) % 18446744073709551616 ≡ u = omega arith in
    plain-within (raised a.d) a.low a.width c.raise.result u r (c.raise.ensures ∙ ap raised (read_back a.d (omega arith)))
    p q (omega arith) (omega arith)

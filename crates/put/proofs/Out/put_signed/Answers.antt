-- `put_signed` writes a minus and the size of a number below 0, and the size alone of any other.
use Rattle.std.proofs.Common.{rules}
use Rattle.put.proofs.Signed.{minus-room, digits-room, put_minus, plain-room, put_plain}
use Rattle.put.proofs.Out.put_signed.Goals as goal
use Rattle.put.proofs.Out.put_signed.Goals.{then-n-lt0, else-n-lt0}

pub put_byte-requires : goal.put_byte-requires
put_byte-requires c = search (rules, minus-room)

pub put_decimal-requires : goal.put_decimal-requires
put_decimal-requires c =
    elim c.if-n-lt0.branch [
      | then-n-lt0 w ↦ rw w.self-is (search (rules, digits-room))
      | else-n-lt0 w ↦ rw w.self-is (search (rules, plain-room))
    ]

pub returns : goal.returns
returns c =
    elim c.if-n-lt0.branch [
      | then-n-lt0 w ↦ let q = rw w.self-is at c.put_decimal.ensures.put in record { same = cc; put = search (rules, put_minus) }
      | else-n-lt0 w ↦ let q = rw w.self-is at c.put_decimal.ensures.put in record { same = cc; put = search (rules, put_plain) }
    ]

-- `put_outcome` writes the header's first word.
use Rattle.std.proofs.Common.{rules}
use Rattle.rules.specs.Basics.{bytes}
use Rattle.header.proofs.Lines.{put_stopped, put_matches}
use Rattle.header.proofs.put_outcome.Goals as goal
use Rattle.header.proofs.put_outcome.Goals.{then-stopped, else-stopped}

pub returns : goal.returns
unfolding bytes
returns c =
    elim c.if-stopped.branch [
      | then-stopped w ↦ let q = rw w.put_bytes-is at c.put_bytes.ensures.put in record { same = cc; put = search (rules, put_stopped) }
      | else-stopped w ↦ let q = rw w.put_bytes-is at c.put_bytes.ensures.put in record { same = cc; put = search (rules, put_matches) }
    ]

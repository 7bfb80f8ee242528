-- `put_too_large` writes its line.
use Rattle.std.proofs.Common.{rules}
use Rattle.rules.specs.Program.{too_large}
use Rattle.header.proofs.put_too_large.Goals as goal

pub put_bytes-requires : goal.put_bytes-requires
unfolding too_large
put_bytes-requires c = search rules

pub returns : goal.returns
unfolding too_large
returns c = search rules

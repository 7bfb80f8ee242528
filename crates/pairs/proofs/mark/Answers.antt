-- `pairs::mark` meets its contract by the laws of rules' Notes.
use native.Mathlib.Omega.{arith}
use Prim.Native.Nat.{◌/◌}
use Rattle.laws.proofs.Notes.{mark-fits, mark_code}
use borrow.Author.Rules.{rules}
use Rattle.pairs.proofs.mark.Goals as goal

pub overflow_add-notes : goal.overflow_add-notes
overflow_add-notes c = record { fits = mark-fits c.args.notes.now c.args.x (omega (arith, c.slice_known-1.given (c.args.x / 8))) c.requires.1 }

pub returns : goal.returns
returns c = mark_code _ _

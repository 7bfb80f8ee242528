-- What a function that writes text into a lent buffer promises: the text stands in the buffer from
-- an index on, all else is as it was, and the function's result is the index behind the text, which
-- lies within the buffer.
use Rattle.std.specs.Prelude.{◌≡◌, List, ℕ, ◌+◌, ◌≤◌, length}
use Rattle.rules.specs.Basics.{wrote}
use Rattle.put.specs.declared.Out.{Out}

pub record Put (before : List ℕ) (at : ℕ) (text after : List ℕ) (behind : ℕ) : Type 0 where
  pub holds : after ≡ wrote before at text
  pub ends : behind ≡ at + length text
  pub within : behind ≤ length before

-- the same of a writer: it writes its text behind what is written, into the buffer that it had
pub record Wrote (before : Out) (text : List ℕ) (after : Out) : Type 0 where
  pub same : after.buf.ghost_name ≡ before.buf.ghost_name
  pub put : Put before.buf.now before.at text after.buf.now after.at

-- What the loops over `read` and `write` promise: where the next call goes on, that the loops end,
-- and that they leave a place within the buffer. Which bytes a call reads or writes is known where
-- std knows what a reader has left (`remaining`) and a writer holds (`contents`), as of one over
-- memory; of the system's streams it knows neither, and then the words on bytes say nothing.
use Rattle.std.specs.Prelude.{◌≡◌, Bool, true, false, ◌&&◌, List, ℕ, ◌+◌, ◌-◌, ◌≤◌, ◌<◌, ltb, eqb, length, take, drop, Option, Some, None, Result, Ok, Err}
use Rattle.std.specs.Int.{w64}
use Rattle.std.proofs.Common.{Fits}
use Rattle.std.specs.declared.io.Error.{Error}
use Rattle.std.specs.declared.io.ErrorKind.{ErrorKind}
use Rattle.std.specs.declared.io.ErrorKind.TheVariants.{Interrupted}
use Rattle.std.specs.IoError.{error_kind}
use Rattle.std.specs.Io.KnownBytes.{Keeps, Appends, Consumes, IsAtEnd}
use Rattle.rules.specs.Basics.{pick}
use Rattle.transfer.specs.declared.Call.{Call}

-- what a call comes to: one more call; none, where it moved nothing; or that it failed, and why
abbrev pub Step : Type 0
Step = Result (Option Call) Error

-- the next call's place is a number of 64 bits
abbrev pub Moves : Result ℕ Error → Call → Type 0
Moves (Ok moved) call = Fits w64 (call.at + moved)
Moves (Err error) call = Unit {0}

-- a signal interrupted the call
abbrev pub is_interrupted : ErrorKind → Bool
is_interrupted Interrupted = true
is_interrupted _ = false

-- What follows from a call, by how many bytes it moved, or why it failed. An interrupted call may be
-- made again `left` times; any other failure is one.
abbrev pub step_of : Result ℕ Error → Call → Step
step_of (Ok moved) call = pick (eqb moved 0) (Ok None) (Ok (Some (record { at = call.at + moved; left = call.left })))
step_of (Err error) call =
    pick (is_interrupted (error_kind error) && ltb 0 call.left) (Ok (Some (record { at = call.at; left = call.left - 1 }))) (Err error)

-- the next call's place lies within n bytes, and fewer calls are left to make
pub record StreamAhead (n : ℕ) (call next : Call) : Type 0 where
  pub within : next.at ≤ n
  pub less : n - next.at + next.left < n - call.at + call.left

abbrev pub Steps : ℕ → Call → Step → Type 0
Steps n call (Ok (Some next)) = StreamAhead n call next
Steps n call (Ok None) = Unit {0}
Steps n call (Err error) = Unit {0}

-- a call that a signal interrupted has failed only where no more of them may be made again
abbrev pub IsGivenUp : ℕ → Step → Type 0
IsGivenUp left (Ok next) = Unit {0}
IsGivenUp left (Err error) = error_kind error ≡ Interrupted → left ≡ 0

-- ---- which bytes: `old` and `new` are what a reader has left, or what a writer holds, before and
-- after

-- a call that goes on read the bytes of the buffer from `at` to the next place; one that moved
-- nothing is at the end of the input; any other read nothing
abbrev pub Reads : Option (List ℕ) → Option (List ℕ) → List ℕ → ℕ → Step → Type 0
Reads old new buf at (Ok (Some next)) = at ≤ next.at × Consumes old new (take (next.at - at) (drop at buf))
Reads old new buf at (Ok None) = Keeps old new × (at < length buf → IsAtEnd new)
Reads old new buf at (Err error) = Keeps old new

-- a call that goes on wrote the bytes of the text from `at` to the next place; any other none
abbrev pub Writes : Option (List ℕ) → Option (List ℕ) → List ℕ → ℕ → Step → Type 0
Writes old new text at (Ok (Some next)) = at ≤ next.at × Appends old new (take (next.at - at) (drop at text))
Writes old new text at (Ok None) = Keeps old new
Writes old new text at (Err error) = Keeps old new

-- what was read stands at the front of the buffer, and where the buffer is not full the input is
-- at its end
abbrev pub ReadBytes : Option (List ℕ) → Option (List ℕ) → List ℕ → ℕ → Type 0
ReadBytes old new buf count = Consumes old new (take count buf) × (count < length buf → IsAtEnd new)

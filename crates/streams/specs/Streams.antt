-- What the program promises of its streams: how many bytes it handed on, of an input of so many;
-- and which bytes, where std knows what a reader has left (`remaining`) and a writer holds
-- (`contents`), as of those over memory. Of the system's streams it knows neither, and then the
-- words on bytes say nothing.
use Rattle.std.specs.Prelude.{◌≡◌, List, ℕ, ◌<◌, length, take, Option}
use Rattle.std.specs.Io.KnownBytes.{Keeps, Appends}
use Rattle.rules.specs.Program.{printed}
use Rattle.input.specs.Input.{most_read}
use Rattle.streams.specs.declared.Ended.{Ended}
use Rattle.streams.specs.declared.Ended.TheVariants.{Entire, Cut, Unread}

-- The input s has `read` bytes. It need be no more of standard input than the first 36,867 bytes:
-- the program prints the same of any input that goes on behind them.
pub record Read (s : List ℕ) (read : ℕ) : Type 0 where
  pub long : read ≡ length s
  pub enough : (t : List ℕ) → take most_read t ≡ s → printed t ≡ printed s

-- of the input s: the end is entire where the calls of `write` took as many bytes as are printed of
-- it, and cut where they took fewer
abbrev pub Prints : List ℕ → Ended → Type 0
Prints s (Entire read written) = Read s read × (written ≡ length (printed s))
Prints s (Cut read written) = Read s read × (written < length (printed s))
Prints s Unread = ⊥

-- of some input, where one was read
pub record OfSome (r : Ended) : Type 0 where
  pub input : List ℕ
  pub prints : Prints input r

abbrev pub Said : Ended → Type 0
Said (Entire read written) = OfSome (Entire read written)
Said (Cut read written) = OfSome (Cut read written)
Said Unread = Unit {0}

-- ---- which bytes: `old` and `new` are what a writer holds before and after

-- standard output got what is printed of the input s; or its first bytes, where it was cut; or
-- nothing
abbrev pub HandsOn : Option (List ℕ) → Option (List ℕ) → List ℕ → Ended → Type 0
HandsOn old new s (Entire read written) = Appends old new (printed s)
HandsOn old new s (Cut read written) = Appends old new (take written (printed s))
HandsOn old new s Unread = Keeps old new

-- standard error got nothing, where all was handed on
abbrev pub IsQuiet : Option (List ℕ) → Option (List ℕ) → Ended → Type 0
IsQuiet old new (Entire read written) = Keeps old new
IsQuiet old new (Cut read written) = Unit {0}
IsQuiet old new Unread = Unit {0}

-- What the run on bytes promises: for every input, the text that document 01 has the program print
-- of it.
use Rattle.std.specs.Prelude.{◌≡◌, List, ℕ, ◌≤◌, ℤ, length, take}
use Rattle.rules.specs.Query.{parts}
use Rattle.rules.specs.Answers.{bad_rows, pairs_of, room_answer}
use Rattle.rules.specs.Program.{printed}
use Rattle.reading.specs.Reading.{query_answer}
use Rattle.put.specs.Put.{Put}
use Rattle.input.specs.Input.{most_read}

-- The text is what the program prints of these bytes. They need be no more of its standard input
-- than the first 36,867 bytes: it prints the same of any input that goes on behind them.
pub record ProgramRan (input before after : List ℕ) (behind : ℕ) : Type 0 where
  pub text : Put before 0 (printed input) after behind
  pub enough : (s : List ℕ) → take most_read s ≡ input → printed s ≡ printed input

-- k is the number of measures, for a query with no answer 1 to 9
pub record MeasureCount (q : List ℕ) (k : ℕ) : Type 0 where
  pub is : query_answer q ≡ 0 → k ≡ length (parts q).measures

-- a query and rows that get no answer 1 to 10 and have at most 16,000 pairs: they are searched
pub record Found (q : List ℕ) (rows : List ℤ) : Type 0 where
  pub none : room_answer q (bad_rows q rows) ≡ 0
  pub few : pairs_of q rows ≤ 16000

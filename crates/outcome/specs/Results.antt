-- A result and the lent buffers as the rules have them.
use Rattle.std.specs.Prelude.{List, ℕ, ℤ}
use Rattle.rules.specs.Answers.{Buffers, Memory}
use Rattle.outcome.specs.declared.Outcome.{Outcome}

abbrev pub lent : List ℕ → List ℕ → List ℤ → List ℕ → Buffers
lent notes trail numbers labels = record { notes = notes; trail = trail; numbers = numbers; labels = labels }

-- a result and the buffers as the rules have them
abbrev pub memory : Outcome → List ℕ → List ℕ → List ℤ → List ℕ → Memory
memory r notes trail numbers labels =
    record { result = record { answer = r.answer; matches = r.matches; labels = r.labels; steps = r.steps; offset = r.offset }; buffers = lent notes trail numbers labels }

abbrev pub refusal : ℕ → ℕ → Outcome
refusal a k = record { answer = a; matches = 0; labels = 0; steps = 0; offset = k }

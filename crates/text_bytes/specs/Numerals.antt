-- What the answers of `number` and `reaching` say of the reading function's.
use Rattle.std.specs.Prelude.{◌≡◌, List, ℕ, ◌≤◌, length, drop, Result, Ok, Err, IfOk}
use Rattle.rules.specs.Reader.{Reading, got, bad, reaching}
use Rattle.text_bytes.specs.declared.Bound.{Bound}
use Rattle.text_bytes.specs.declared.Broken.{Broken}

pub record Numbered (s : List ℕ) (at : ℕ) (r : Bound) (v : ℕ) (u : List ℕ) : Type 0 where
  pub value : r.value ≡ v
  pub small : v ≤ 99
  pub rest : u ≡ drop r.at s
  pub on : at ≤ r.at
  pub inside : r.at ≤ length s

-- an error stops at a byte of the text, or at its end, with the bytes u from there on
pub record Stops (s : List ℕ) (e : Broken) (u : List ℕ) : Type 0 where
  pub rest : u ≡ drop e.at s
  pub inside : e.at ≤ length s

unfoldable pub SaysNumber : List ℕ → ℕ → Result Bound Broken → Reading ℕ → Type 0
SaysNumber s at (Err e) (bad u) = Stops s e u
SaysNumber s at (Ok r) (got v u) = Numbered s at r v u
SaysNumber s at (Err e) (got v u) = ⊥
SaysNumber s at (Ok r) (bad u) = ⊥

-- what `number` promises of its answer r, x being what is read there
pub record Numeral (s : List ℕ) (at : ℕ) (r : Result Bound Broken) (x : Reading ℕ) : Type 0 where
  pub says : SaysNumber s at r x
  pub small : IfOk r (λ m. m.value ≤ 99)

-- and what `reaching` promises
pub record BoundReached (s : List ℕ) (at low : ℕ) (r : Result Bound Broken) : Type 0 where
  pub numeral : Numeral s at r (reaching low (drop at s))
  pub least : IfOk r (λ m. low ≤ m.value)

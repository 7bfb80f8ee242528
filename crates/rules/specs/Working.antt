-- No rule. Notions that no rule of the papers names. The crates' own specs use them to say what
-- their code does: notes as bits, a stack of open pairs, a graph without a circle of ways that take
-- no row, and forks that list each way once.
use Rattle.std.specs.Prelude.{◌≡◌, Bool, true, false, ℕ, zero, suc, ◌+◌, ◌/◌, ◌%◌, ◌^◌, ◌<◌, get_or, set}
use mathlib.Core.List.{List, [], ◌∷◌, reverse_aux}
use Rattle.rules.specs.Basics.{has}
use Rattle.rules.specs.Places.{Place, p_letter, p_caret, p_dollar, p_fork, p_end}
use Rattle.rules.specs.Report.{bit_at}
use Rattle.rules.specs.Walk.{Ways, try, Halting, Outcome, found, failed, halted, or_else, inside, Kept}

-- all numbers of a list
abbrev pub All : (ℕ → Type 0) → List ℕ → Type 0
All P [] = Unit {0}
All P (y ∷ ys) = P y × All P ys

-- ---- notes

-- the notes with bit x set, where it is not
unfoldable pub marked : List ℕ → ℕ → List ℕ
marked notes x = set notes (x / 8) (get_or notes (x / 8) 0 + 2 ^ (x % 8))

-- n bits from bit i on
unfoldable pub bits_from : List ℕ → ℕ → ℕ → List Bool
unfolding bit_at
bits_from notes i zero = []
bits_from notes i (suc n) = bit_at notes i ∷ bits_from notes (suc i) n

abbrev pub bits_of : List ℕ → ℕ → List Bool
bits_of notes n = bits_from notes 0 n

-- pair z has failed, or it has not
abbrev pub In : List Bool → ℕ → Type 0
In F z = get_or F z false ≡ true

abbrev pub Out : List Bool → ℕ → Type 0
Out F z = get_or F z false ≡ false

-- ---- open pairs

-- every way leads below, and from one of the N pairs to another
abbrev pub Falls : (ℕ → Ways) → (ℕ → ℕ) → ℕ → Type 0
Falls ways ρ N = (x : ℕ) (ys : List ℕ) → ways x ≡ try ys → All (λ y. (ρ y < ρ x) × (x < N → y < N)) ys

-- each ranks below those behind it
abbrev pub Rising : (ℕ → ℕ) → List ℕ → Type 0
Rising ρ [] = Unit {0}
Rising ρ (x ∷ xs) = All (λ z. ρ x < ρ z) xs × Rising ρ xs

-- the open pairs, the last entered first: each led to the one before it, and none has failed
pub record Open (ρ : ℕ → ℕ) (N : ℕ) (F : List Bool) (st : List ℕ) : Type 0 where
  pub rising : Rising ρ st
  pub out : All (Out F) st
  pub pairs : All (λ z. z < N) st

-- the open pairs below lead the path, and stay open where the walk halts
abbrev pub lift : List ℕ → Outcome → Outcome
lift st (found p kept) = found (reverse_aux st p) kept
lift st (failed kept) = failed kept
lift st (halted w p kept) = halted w (reverse_aux st p) kept

-- what the recursive walk makes of a state: the last open pair goes on, and if it fails, the one
-- below
unfoldable pub resume : Halting → (ℕ → Ways) → ℕ → List ℕ → Kept → Outcome
resume h ways K [] kept = failed kept
resume h ways K (x ∷ st) kept = or_else (lift st (inside h ways K kept x)) (λ later. resume h ways K st later)

-- ---- forks that list each way once

abbrev pub keep_new : Bool → ℕ → List ℕ → List ℕ → List ℕ
keep_new true y old new = old
keep_new false y old new = y ∷ new

-- each of ys once, where it first stands, and none that was seen
unfoldable pub fresh : List ℕ → List ℕ → List ℕ
unfolding has
fresh seen [] = []
fresh seen (y ∷ ys) = keep_new (has y seen) y (fresh seen ys) (fresh (y ∷ seen) ys)

abbrev pub distinct : List ℕ → List ℕ
distinct ys = fresh [] ys

-- a fork with each way once
unfoldable pub thin_place : Place → Place
unfolding fresh
thin_place (p_letter c k) = p_letter c k
thin_place (p_caret k) = p_caret k
thin_place (p_dollar k) = p_dollar k
thin_place (p_fork ks) = p_fork (distinct ks)
thin_place p_end = p_end

unfoldable pub thinned : List Place → List Place
unfolding thin_place
thinned [] = []
thinned (p ∷ ps) = thin_place p ∷ thinned ps

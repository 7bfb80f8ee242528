-- A letter's place and the test that it tells; and what `enter` needs and does where it is asked.
use mathlib.Core.Path.{◌≡◌, ap, ◌∙◌}
use mathlib.Core.Bool.{Bool, true, false, not, ◌&&◌}
use mathlib.Core.List.{List}
use Prim.Native.Nat.{ℕ, ◌+◌, ◌*◌, ◌<◌}
use native.Mathlib.Omega.{arith}
use lib.Dec.{ltb}
use lib.IntN.{ℤ}
use lib.ListN.{set}
use Rattle.rules.specs.Report.{bit_at}
use Rattle.rules.specs.Rows.{table_of, holds}
use Rattle.rules.specs.Working.{marked}
use Rattle.table.specs.Table.{code_at, first_at, later_at}
use Rattle.table.specs.Tests.{condition_in, holds_in, LetterAt, Pointed}
use Rattle.pairs.specs.declared.Walk.{Walk}
use Rattle.pairs.specs.Layout.{layout, passes_by}
use Rattle.pairs.specs.Step.{walk_at, Enters}
use Rattle.pairs.proofs.Small.{EntersTo, letter-is, enter-shut, enter-stuck, enter-letter}

module _ (T : List ℕ) (P tests q : ℕ) (p : Pointed T P tests) (l : q < P) (c : code_at T q < 26) (at : ℕ) (e : (at ≡ later_at T q) × (at < 65536)) where
  pub letter_at : LetterAt tests at
  letter_at = record { letter = code_at T q; small = c; is = e.0 ∙ p q l c }

  pub letter-passing : (columns : ℕ) (rows : List ℤ) (n row : ℕ) (r : Bool) → r ≡ (ltb row n && holds (table_of columns rows) row (condition_in T columns at))
      → r ≡ passes_by (holds_in T tests columns rows) n (code_at T q) row
  letter-passing columns rows n row r d =
      letter-is T tests columns rows n (code_at T q) row r c (d ∙ ap (λ (a : ℕ). ltb row n && holds (table_of columns rows) row (condition_in T columns a)) (e.0 ∙ p q l c))

-- the code c that was read is the place's, and the letter was asked whether it passes
pub low-code : (c k : ℕ) → (c ≡ k) × (c < 65536) → c < 26 → k < 26
low-code c k e l = let z = e.0 in omega arith

module _ (holds : ℕ → ℕ → Bool) (n : ℕ) (words : List ℕ) (P a : ℕ) (more : Bool) (notes trail : List ℕ) (w : Walk) (h : Enters (layout words P a) n notes trail w) (c : ℕ)
    (ec : (c ≡ code_at words w.place) × (c < 65536)) (l : c < 26) (there : w.row < n) (p : Bool) (ep : p ≡ passes_by holds n (code_at words w.place) w.row) where
  as_read : p ≡ passes_by holds n c w.row
  as_read = rw ec.0 ep

  pub letter-shut : not p ≡ true → (notes' : List ℕ) (r : Walk)
      → (notes' ≡ marked notes (w.base + w.place)) × (r ≡ walk_at w.top (w.steps + 1) w.place w.row w.base 0) → EntersTo holds n words P a more notes trail w h notes' trail r
  letter-shut = enter-shut holds n words P a more notes trail w h c ec l there p as_read

  module _ (t : not p ≡ false) (x : ℕ) (ex : (x ≡ first_at words w.place) × (x < 65536)) (f : Bool) (ef : f ≡ bit_at notes (w.base + P + x)) where
    pub letter-stuck : f ≡ true → (notes' : List ℕ) (r : Walk)
        → (notes' ≡ marked notes (w.base + w.place)) × (r ≡ walk_at w.top (w.steps + 1) w.place w.row w.base 0) → EntersTo holds n words P a more notes trail w h notes' trail r
    letter-stuck = enter-stuck holds n words P a more notes trail w h c ec l there p as_read t x ex f ef

    pub letter-opens : f ≡ false → (trail' : List ℕ) → trail' ≡ set trail w.top (w.row * 2048 + w.place)
        → EntersTo holds n words P a more notes trail w h notes trail' (walk_at (w.top + 1) (w.steps + 1) x (w.row + 1) (w.base + P) 1)
    letter-opens = enter-letter holds n words P a more notes trail w h c ec l there p as_read t x ex f ef

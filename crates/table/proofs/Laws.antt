-- A fork's later ways, as they are read.
use mathlib.Core.Path.{◌≡◌, ◌∙◌}
use mathlib.Core.List.{List}
use Prim.Native.Nat.{ℕ, ◌+◌, ◌<◌}
use lib.ListN.{length, get_or}
use borrow.Author.Tests.{eq-eqb, ne_eqb}
use Rattle.table.specs.Table.{later_at, count_at, later_by, later_way}
use Rattle.table.specs.Sized.{LaterIn}

module _ (T : List ℕ) (q j l c : ℕ) (el : (l ≡ later_at T q) × (l < 65536)) (ec : (c ≡ count_at T q) × (c < 65536)) where
  pub later-two : c ≡ 2 → (l ≡ later_way T q j) × (l < 65536)
  unfolding later_way later_by
  later-two e = (rw (eq-eqb (count_at T q) 2 (rw ec.0 at e)) el.0, el.1)

  pub later-in : LaterIn T q j → (c ≡ 2 → ⊥) → l + j < length T
  later-in h n = rw el.0 (h.there (rw ec.0 at n))

  pub later_more : (c ≡ 2 → ⊥) → (v : ℕ) → (v ≡ get_or T (l + j) 0) × (v < 65536) → (v ≡ later_way T q j) × (v < 65536)
  unfolding later_way later_by
  later_more n v ev = (rw (ne_eqb (count_at T q) 2 (rw ec.0 at n)) (ev.0 ∙ rw el.0), ev.1)

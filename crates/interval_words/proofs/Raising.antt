-- The number of a comparison, raised by 2 ^ 33, is the one that stands in the query.
use Rattle.std.proofs.Common.{◌≡◌, ℕ, ◌+◌, ◌<◌, List, ℤ, ap, ◌∙◌, to_z-of_z, w32, to_z, of_z}
use lib.Signed.{mag}
use Rattle.rules.specs.Basics.{le32, signed32}
use Rattle.table.specs.Tests.{raised}
use Rattle.interval_words.specs.Interval.{written_number}

-- the number of the comparison at index p: w its four bytes, z these as a signed number
pub raised_at : (s : List ℕ) (p w : ℕ) (z : ℤ) (r : ℕ) → w ≡ le32 s (p + 8) → (z ≡ signed32 w) × (mag z < 2147483648) →
    (r ≡ raised (to_z w32 (of_z w32 z))) × (0 < r) × (r < 17179869184) → (r ≡ raised (written_number s p)) × (0 < r) × (r < 17179869184)
unfolding written_number
raised_at s p w z r e f g =
    (g.0 ∙ ap raised (to_z-of_z {w = w32} (record { sfits = f.1 }) ∙ f.0 ∙ ap signed32 e), g.1, g.2)

-- Two's complement of a byte and of a word: what `cast_signed` gives is what the rules say.
use Rattle.std.proofs.Common.{◌≡◌, ℕ, ◌<◌, to_z, w8, w32, arith}
use Rattle.std.proofs.lemmas.Bool.Decides.{nat_tests}
use lib.Signed.{mag}
use Rattle.rules.specs.Basics.{signed8, signed32}

pub byte_signed : (b : ℕ) → b < 256 → (to_z w8 b ≡ signed8 b) × (mag (to_z w8 b) < 128)
unfolding signed8
byte_signed b h = grind (arith, nat_tests)

pub word_signed : (w : ℕ) → w < 4294967296 → (to_z w32 w ≡ signed32 w) × (mag (to_z w32 w) < 2147483648)
unfolding signed32
word_signed w h = grind (arith, nat_tests)

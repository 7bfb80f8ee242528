-- An interval in the words of the table.
use Rattle.std.proofs.Common.{◌≡◌, ℕ, ◌+◌, ◌*◌, ◌<◌, Bool, List, get_or, ℤ, refl, ◌∙◌, arith, w64, to_z, of_z}
use lib.Signed.{mag}
use Rattle.laws.proofs.Signed.{read_back}
use Rattle.table.specs.Tests.{word64, raised, raised_word}
use Rattle.intervals.specs.Intervals.{in_interval}

pub four-words : (T : List ℕ) (at a b c d : ℕ) → a ≡ get_or T at 0 → b ≡ get_or T (at + 1) 0 → c ≡ get_or T (at + 2) 0 → d ≡ get_or T (at + 3) 0
    → a + b * 65536 + (c * 4294967296 + d * 281474976710656) ≡ word64 T at
unfolding word64
four-words T at a b c d ea eb ec ed = omega arith

-- what 64 bits hold of a number is the number
pub held-few : (d : ℤ) → mag d < 4294967296 → mag (to_z w64 (of_z w64 d)) < 4294967296
held-few d h = rw (read_back d (omega arith)) h

pub from-words : (T : List ℕ) (at low width : ℕ) (d : ℤ) (r : Bool) → low ≡ word64 T at → width ≡ word64 T (at + 4) → mag d < 4294967296
    → r ≡ in_interval (raised (to_z w64 (of_z w64 d))) (raised_word low) width → r ≡ in_interval (raised d) (raised_word (word64 T at)) (word64 T (at + 4))
from-words T at low width d r el ew h e = e ∙ rw (read_back d (omega arith), el, ew) refl

-- A DEFINE's comparisons and entries, by the rules for their fields.
use Rattle.std.specs.Prelude.{Bool, ◌&&◌, List, ℕ, ◌+◌, ◌*◌}
use Rattle.std.proofs.Math.Dec.{eqb}
use Rattle.rules.specs.Query.{comparison_fits, entries_end, entries_fit, read_entries, leaves_one}

-- comparison number k behind index p fits
unfoldable pub fits_at : List ℕ → ℕ → ℕ → ℕ → Bool
unfolding comparison_fits
fits_at s columns p k = comparison_fits s columns (p + k * 12)

-- k entries of kind 6 from index p on end at index `end`, fit, and leave one result where d are
-- there before them
module _ (s : List ℕ) (columns end : ℕ) where
  unfoldable pub entries_good : ℕ → ℕ → ℕ → Bool
  unfolding entries_end entries_fit read_entries leaves_one
  entries_good k d p = eqb end (entries_end s k p) && (entries_fit s columns k p && leaves_one d (read_entries s k p))

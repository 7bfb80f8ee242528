-- Answers 10, 11 and 12 by numbers alone. That these are the rules' tests for a query and rows that
-- have these numbers is said in crates/reading (`bad-rows`) and crates/search (`the_short`).
use Rattle.std.specs.Prelude.{Bool, not, ◌||◌, ℕ, ◌/◌, ◌%◌, eqb, ltb}
use Rattle.rules.specs.Basics.{pick}
use Rattle.rules.specs.Report.{bytes_for}

-- so many entries are not whole rows of so many columns, or more than 4,096 rows
unfoldable pub bad_count : ℕ → ℕ → Bool
bad_count entries columns = not (eqb (entries % columns) 0) || ltb 4096 (entries / columns)

-- 11 where so many bytes of notes are too few for so many pairs, else 12 where so many numbers of
-- the trail are too few, else 0
unfoldable pub short_for : ℕ → ℕ → ℕ → ℕ
unfolding bytes_for
short_for pairs notes trail = pick (ltb notes (bytes_for pairs)) 11 (pick (ltb trail pairs) 12 0)

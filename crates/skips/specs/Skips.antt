-- The skip mode and the next start of the code, as the rules have them.
use Rattle.std.proofs.Math.Option as rules
use Rattle.std.specs.Prelude.{ℕ}
use Rattle.std.specs.declared.option.Option.{Option}
use Rattle.std.specs.declared.option.Option.TheVariants.{Some, None}
use Rattle.rules.specs.Search as R
use Rattle.skips.specs.declared.Skip.{Skip}
use Rattle.skips.specs.declared.Skip.TheVariants.{PastLastRow, ToNextRow, ToFirst, ToLast}

-- the skip mode
abbrev pub skip_in : Skip → R.Skip
skip_in PastLastRow = R.past_last
skip_in ToNextRow = R.to_next
skip_in (ToFirst c) = R.to_first c
skip_in (ToLast c) = R.to_last c

-- the next start, where there is one
abbrev pub start_in : Option ℕ → rules.Option ℕ
start_in (Some row) = rules.some row
start_in None = rules.none

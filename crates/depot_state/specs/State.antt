-- What the calls of R-4 keep between them: the state's words and the lent list, told from the
-- reports of the partitions so far.
use Rattle.std.specs.Prelude.{◌≡◌, List, [], ◌∷◌, ◌++◌, ℕ, ◌*◌, ◌≤◌, ◌<◌, length, drop}
use Rattle.rules.specs.Basics.{wrote}
use Rattle.tally.specs.declared.NamedColumns.{NamedColumns}
use Rattle.tally.specs.Table.{DepotReport, counted, cells, listed}

-- the state's words: 64 times 12 cells and outside, how many partitions have a number, how many
-- numbers of the list are used, and the two named columns; behind them whatever else was lent
unfoldable pub state_of : NamedColumns → List DepotReport → List ℕ → List ℕ
unfolding cells listed
state_of w rs rest = cells w rs ++ (length rs ∷ length (listed 0 rs) ∷ w.depot ∷ w.month ∷ rest)

-- State and list stand for these reports, where `list₀` was lent at first and `rest` lies behind the
-- state's words: what only the calls change. There are 65,535 reports at most, and none has more
-- matches than rows.
pub record StateStands (w : NamedColumns) (rs : List DepotReport) (list₀ rest state list : List ℕ) : Type 0 where
  pub state_is : state ≡ state_of w rs rest
  pub list_is : list ≡ wrote list₀ 0 (listed 0 rs)
  pub room : length (listed 0 rs) ≤ length list₀
  pub few : length rs ≤ 65535
  pub small : (c : ℕ) → counted w c rs ≤ 4096 * length rs

-- what `begin` promises: a new state, which stands for no report, whatever list is lent; or 20 for a
-- slice that is too short, which is unchanged
pub record Begun (depot month : ℕ) (state state' : List ℕ) (r : ℕ) : Type 0 where
  pub short : length state < 773 → (r ≡ 20) × (state' ≡ state)
  pub new : 773 ≤ length state → (r ≡ 0) × ((list : List ℕ) → StateStands (record { depot = depot; month = month }) [] list (drop 773 state) state' list)

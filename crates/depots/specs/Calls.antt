-- What a call of R-4 promises: with a state and a list that stand for some reports (crates/
-- depot_state, specs/State), whether the partition gets a number, what is returned, and for which
-- reports state and list stand then. Cells and list are told from the reports alone.
use Rattle.std.specs.Prelude.{◌≡◌, List, [], ◌∷◌, ◌++◌, ◌⊎◌, ℕ, ◌+◌, ◌≤◌, ◌<◌, ℤ, length}
use Rattle.rules.specs.Answers.{Buffers, Memory, refused}
use Rattle.tally.specs.declared.NamedColumns.{NamedColumns}
use Rattle.tally.specs.Table.{DepotReport, listed}
use Rattle.depot_state.specs.State.{StateStands}
use Rattle.depots.specs.Partition.{partition_of, depot_report}

-- what goes in: the query, the rows, the search's lent buffers, the state and the list
pub record Input : Type 0 where
  pub query : List ℕ
  pub rows : List ℤ
  pub buffers : Buffers
  pub state : List ℕ
  pub list : List ℕ

-- what comes out: the result and the search's buffers, the state and the list
pub record Output : Type 0 where
  pub memory : Memory
  pub state : List ℕ
  pub list : List ℕ

-- the partition's memory, where the named columns are w, and its report
abbrev pub partition_in : NamedColumns → Input → Memory
partition_in w i = partition_of w i.query i.rows i.buffers

abbrev pub depot_report_in : NamedColumns → Input → DepotReport
depot_report_in w i = depot_report w i.query i.rows i.buffers

-- The state and the list stand for the reports rs.
pub record DepotCall (w : NamedColumns) (rs : List DepotReport) (list₀ rest : List ℕ) (i : Input) (o : Output) : Type 0 where
  -- A further partition is not searched: 20 and zeros, and nothing changes.
  pub further : 65535 ≤ length rs → (o.memory ≡ refused 20 0 i.buffers) × (o.state ≡ i.state) × (o.list ≡ i.list)
  -- One that is refused or stopped and whose entry does not fit gets 20 and zeros, and takes no
  -- number: state and list do not change, and the search's buffers are left as its own answer
  -- leaves them.
  pub unlisted : length rs < 65535 → ((depot_report_in w i).answer ≡ 0 → ⊥) → length list₀ < length (listed 0 rs) + 2
      → (o.memory ≡ refused 20 0 (partition_in w i).buffers) × (o.state ≡ i.state) × (o.list ≡ i.list)
  -- Any other takes the next number and gets its own result; state and list stand for its report
  -- too. One that is done needs no entry.
  pub numbered : length rs < 65535 → ((depot_report_in w i).answer ≡ 0) ⊎ (length (listed 0 rs) + 2 ≤ length list₀)
      → (o.memory ≡ partition_in w i) × StateStands w (rs ++ (depot_report_in w i ∷ [])) list₀ rest o.state o.list

-- for whatever reports they stand; any other state gets an answer, left free
pub record Calls (i : Input) (o : Output) : Type 0 where
  pub call : (w : NamedColumns) (rs : List DepotReport) (list₀ rest : List ℕ) → StateStands w rs list₀ rest i.state i.list → DepotCall w rs list₀ rest i o

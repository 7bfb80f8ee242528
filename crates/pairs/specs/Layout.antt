-- The layout of a walk: the words of the table of places (crates/table), how many places there are
-- and how many steps are allowed; the graph of the pairs that they stand for; and what the walk
-- relies on.
use Rattle.std.specs.Prelude.{List, ℤ, Bool, true, not, ◌&&◌, ℕ, ◌+◌, ◌-◌, ◌*◌, ◌≤◌, ◌<◌, ltb, eqb}
use Rattle.std.proofs.Math.Option.{some}
use Rattle.rules.specs.Basics.{pick}
use Rattle.rules.specs.Places.{Place, p_letter, p_caret, p_dollar, p_fork, p_end}
use Rattle.rules.specs.Search.{halting_of}
use Rattle.rules.specs.Walk.{Ways, pairs, pair_ways, Halting}
use Rattle.rules.specs.Working.{All, Falls}
use Rattle.table.specs.Table.{count_at, place_at, places_in}
use Rattle.table.specs.Sized as S
use Rattle.table.specs.Tests.{Letters, Pointed, holds_in}
use Rattle.table.specs.declared.Extent.{Extent}

pub record Layout : Type 0 where
  pub words : List ℕ
  pub places : ℕ
  pub limit : ℕ

abbrev pub layout : List ℕ → ℕ → ℕ → Layout
layout ws P a = record { words = ws; places = P; limit = a }

-- ---- a prepared query by its table T and the extent of its search

-- its places, and the steps that it is allowed
abbrev pub layout_of : List ℕ → Extent → Layout
layout_of T size = layout T size.places size.allowance

-- which letters hold at a row
abbrev pub letters_of : List ℕ → List ℤ → Extent → ℕ → ℕ → Bool
letters_of T rows size = holds_in T size.tests size.columns rows

-- its letters can be tested, and their places tell where
abbrev pub Tested : List ℕ → List ℤ → Extent → Type 0
Tested T rows size = Letters T size.tests rows size.columns size.rows × Pointed T size.places size.tests

-- ---- its pairs

-- how many places
abbrev pub P : Layout → ℕ
P T = T.places

-- how many pairs on n rows
abbrev pub N : Layout → ℕ → ℕ
N T n = pairs (P T) n

-- the most pairs of a search, and the most rows
abbrev pub most_pairs : ℕ
most_pairs = 16777216

abbrev pub most_rows : ℕ
most_rows = 4096

-- The way that is tried next is told by its number in its fork, 0 where none is left; the first way
-- of a place, number 0, is tried when it is entered. So this is the second way of place q, where it
-- has one.
unfoldable pub second : Layout → ℕ → ℕ
second T q = pick (ltb 1 (count_at T.words q)) 1 0

-- how many ways of place q there are from way j on
unfoldable pub left_from : Layout → ℕ → ℕ → ℕ
left_from T q j = pick (eqb j 0) 0 (count_at T.words q - j)

-- what the trail holds of place q when it is entered, below and above its row: the place, and its
-- second way
unfoldable pub entry_of : List ℕ → ℕ → ℕ
entry_of words q = q + pick (ltb 1 (count_at words q)) 1 0 * 16777216

-- the graph of the pairs on n rows, where `holds c i` says that letter c holds at row i
unfoldable pub graph_of : Layout → (ℕ → ℕ → Bool) → ℕ → ℕ → Ways
unfolding places_in pair_ways
graph_of T holds n = pair_ways holds n (places_in T.words (P T))

-- whether a place of this code passes at position i: a letter passes at a row where it holds, `^`
-- at 0, `$` at n, any other everywhere
unfoldable pub passes_by : (ℕ → ℕ → Bool) → ℕ → ℕ → ℕ → Bool
passes_by holds n c i = pick (ltb c 26) (ltb i n && holds (c + 65) i) (pick (eqb c 26) (eqb i 0) (pick (eqb c 27) (eqb i n) true))

-- a place of this code waits at position i where more rows than n may come: a letter whose row is
-- not yet there
unfoldable pub waits_by : Bool → ℕ → ℕ → ℕ → Bool
waits_by more n c i = more && (ltb c 26 && not (ltb i n))

-- when the walk halts: just before the entry that would pass the steps allowed, and, where more
-- rows than n may come, at a letter whose row is not yet there
unfoldable pub halts_in : Layout → Bool → ℕ → Halting
unfolding places_in halting_of
halts_in T more n = halting_of (record { largest = n; more = more; allowance = some T.limit }) (places_in T.words (P T)) n

-- ---- what the walk relies on

abbrev pub Sized : Layout → Type 0
Sized T = S.Sized T.words (P T)

-- a place leads to places
abbrev pub Leads : ℕ → Place → Type 0
Leads P (p_letter c k) = k < P
Leads P (p_caret k) = k < P
Leads P (p_dollar k) = k < P
Leads P (p_fork ks) = All (λ k. k < P) ks
Leads P p_end = Unit {0}

-- the graph is a search graph: every place leads to places, and a rank falls along every way
pub record Legal (T : Layout) (holds : ℕ → ℕ → Bool) (n : ℕ) : Type 0 where
  pub sized : Sized T
  pub leads : (q : ℕ) → q < P T → Leads (P T) (place_at T.words q)
  pub ρ : ℕ → ℕ
  pub falls : Falls (graph_of T holds n) ρ (N T n)
  pub bound : (x : ℕ) → ρ x < N T n
  pub small : N T n < most_pairs
  pub rows : n ≤ most_rows

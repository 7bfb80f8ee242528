-- The measures of a query in a lent array, three bytes each: function, letter, column. The array is
-- read as the words of a table are, from index 0 on (crates/table/specs/Measures).
use Rattle.std.specs.Prelude.{◌≡◌, true, List, ℕ, ◌+◌, ◌*◌, ◌≤◌, ◌<◌, length, get_or, set}
use Rattle.rules.specs.Query.{Measure, function_fits, columns_of, measures_from}
use Rattle.records.specs.Read.{records_at}
use Rattle.query.specs.Ahead.{Ahead}
use Rattle.query.specs.declared.Stage.TheVariants.{Measures}
use Rattle.table.specs.Measures.{measure_in, measures_in}
use Rattle.measure_list.specs.declared.Measure.{Measure as Three}

-- a measure's function, letter and column are within their values
abbrev pub MeasureFits : ℕ → Measure → Type 0
MeasureFits columns m = function_fits columns m.function m.letter m.column ≡ true

-- the measure of three bytes
abbrev pub measure_of : Three → Measure
measure_of m = record { function = m.function; letter = m.letter; column = m.column }

-- three numbers from an index on
unfoldable pub set_three : List ℕ → ℕ → ℕ → ℕ → ℕ → List ℕ
set_three l at a b c = set (set (set l at a) (at + 1) b) (at + 2) c

-- all measures, from an index on; r is how many there are
pub record MeasuresRoom (s : List ℕ) (from : ℕ) (measures : List ℕ) : Type 0 where
  pub ahead : Ahead s (Measures 8) from
  pub long : length measures ≡ 24

pub record PutMeasures (s : List ℕ) (from : ℕ) (measures₀ measures : List ℕ) (r : ℕ) : Type 0 where
  pub long : length measures ≡ 24
  pub is : measures_in measures 0 r ≡ measures_from s (records_at s from)
  pub few : r ≤ 8
  pub fit : (k : ℕ) → k < r → MeasureFits (columns_of s) (measure_in measures 0 k)
  pub rest : (j : ℕ) → r * 3 ≤ j → get_or measures j 0 ≡ get_or measures₀ j 0

-- the first `count` measures are words of the table T from word `at` on, each below 256; the words
-- before them and behind them are those of T₀
pub record MeasuresTabled (measures : List ℕ) (count : ℕ) (T₀ T : List ℕ) (at : ℕ) : Type 0 where
  pub long : length T ≡ length T₀
  pub is : measures_in T at count ≡ measures_in measures 0 count
  pub each : (k : ℕ) → k < count → measure_in T at k ≡ measure_in measures 0 k
  pub bytes : (j : ℕ) → at ≤ j → j < at + count * 3 → get_or T j 0 < 256
  pub before : (j : ℕ) → j < at → get_or T j 0 ≡ get_or T₀ j 0
  pub behind : (j : ℕ) → at + count * 3 ≤ j → get_or T j 0 ≡ get_or T₀ j 0

-- the `count` measures from word `at` of the table T on can be read: their words are there, each is
-- below 256, and each measure's function, letter and column are within their values
pub record Measurable (T : List ℕ) (at count columns : ℕ) : Type 0 where
  pub inside : at + count * 3 ≤ length T
  pub bytes : (j : ℕ) → at ≤ j → j < at + count * 3 → get_or T j 0 < 256
  pub fit : (k : ℕ) → k < count → MeasureFits columns (measure_in T at k)

-- What the steps of decoding need and leave: the records before and behind the DEFINEs.
use Rattle.std.specs.Prelude.{◌≡◌, true, ◌||◌, List, ℕ, ◌+◌, ◌*◌, ◌≤◌, ◌<◌, eqb, length, get_or, take, drop}
use Rattle.rules.specs.Basics.{is_letter}
use Rattle.rules.specs.Query.{records, field, first_of_kind, columns_of, defined, text_of, condition_from, measures_from}
use Rattle.records.specs.Read.{records_at}
use Rattle.query.specs.Ahead.{Ahead}
use Rattle.query.specs.declared.Stage.TheVariants.{Defines}
use Rattle.measure_list.specs.Measures.{MeasureFits}
use Rattle.table.specs.Measures.{measure_in, measures_in}
use Rattle.decode.specs.declared.Head.{Head}
use Rattle.decode.specs.declared.Tail.{Tail}

-- the shape and the text; from the index behind them on, the DEFINEs, the skip and the measures are
-- those of the query
pub record HeadOf (s : List ℕ) (h : Head) : Type 0 where
  pub columns : h.columns ≡ columns_of s
  pub some : 1 ≤ h.columns
  pub most : h.columns ≤ 8
  pub text : take h.len (drop h.start s) ≡ text_of s
  pub inside : h.start + h.len ≤ length s
  pub short : h.len ≤ 256
  pub ahead : Ahead s (Defines 26) h.next
  pub skip : first_of_kind 4 (records_at s h.next) ≡ first_of_kind 4 (records s)
  pub all : defined s (records_at s h.next) ≡ defined s (records s)
  pub letters : (letter : ℕ) → condition_from s (records_at s h.next) letter ≡ condition_from s (records s) letter
  pub measures : measures_from s (records_at s h.next) ≡ measures_from s (records s)

-- the skip, at this index, and the measures behind it
pub record TailRoom (s : List ℕ) (at : ℕ) (measures : List ℕ) : Type 0 where
  pub ahead : Ahead s (Defines 0) at
  pub long : length measures ≡ 24

pub record TailOf (s : List ℕ) (at : ℕ) (measures₀ measures : List ℕ) (t : Tail) : Type 0 where
  pub long : length measures ≡ 24
  pub skip : t.skip ≡ field s (first_of_kind 4 (records_at s at)) 0
  pub mode : t.skip ≤ 3
  pub target : t.target ≡ field s (first_of_kind 4 (records_at s at)) 1
  pub lettered : (eqb t.target 0 || is_letter t.target) ≡ true
  pub is : measures_in measures 0 t.measures ≡ measures_from s (records_at s at)
  pub few : t.measures ≤ 8
  pub fit : (k : ℕ) → k < t.measures → MeasureFits (columns_of s) (measure_in measures 0 k)
  pub rest : (j : ℕ) → t.measures * 3 ≤ j → get_or measures j 0 ≡ get_or measures₀ j 0

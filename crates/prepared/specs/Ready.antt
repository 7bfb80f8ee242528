-- What a table and the numbers beside it say of a query that is prepared, and what preparing one
-- asks and promises.
use Rattle.std.specs.Prelude.{◌≡◌, Option, Result, MatchOption, MatchResult, List, ℕ, ◌+◌, ◌*◌, ◌≤◌, ◌<◌, length}
use Rattle.std.proofs.Math.Option.{some}
use Rattle.rules.specs.Query.{parts, text_of}
use Rattle.rules.specs.Language.{Tree, pattern}
use Rattle.rules.specs.Places.{places, unroll, places_of, factor_of}
use Rattle.rules.specs.Answers.{tree_in, offset_at}
use Rattle.rules.specs.Working.{thinned}
use Rattle.refusals.specs.Refusals.{answer_of, offset_of}
use Rattle.refusals.specs.declared.Refusal.{Refusal}
use Rattle.measure_list.specs.Measures.{Measurable}
use Rattle.reading.specs.Reading.{query_answer, Whole}
use Rattle.reading.specs.declared.Query.{Query}
use Rattle.table.specs.Table.{places_in}
use Rattle.table.specs.Sized.{Sized}
use Rattle.table.specs.Tests.{Pointed, Tests, condition_in, test_at}
use Rattle.table.specs.Measures.{measures_in}
use Rattle.prepared.specs.declared.Prepared.{Prepared}
use Rattle.table_room.specs.Words.{measures_at, tests_at, needed}

-- ---- a prepared query

-- The query has no answer of its own, and the table T and the numbers p stand for it.
pub record Ready (q T : List ℕ) (p : Prepared) : Type 0 where
  pub none : query_answer q ≡ 0
  pub tree : Tree pattern
  pub has_tree : tree_in q ≡ some tree
  pub places_are : p.places ≡ places_of tree * factor_of tree
  pub few : p.places ≤ 2048
  pub placed : places_in T p.places ≡ thinned (places (unroll tree))
  pub sized : Sized T p.places
  pub columns_are : p.columns ≡ (parts q).columns
  pub some_columns : 1 ≤ p.columns
  pub most_columns : p.columns ≤ 8
  pub tests : Tests T (tests_at p.places)
  pub pointed : Pointed T p.places (tests_at p.places)
  pub letters : (l : ℕ) → l < 26 → condition_in T p.columns (test_at (tests_at p.places) l) ≡ (parts q).condition (65 + l)
  pub measures_are : measures_in T (measures_at p.places) p.count ≡ (parts q).measures
  pub count_few : p.count ≤ 8
  pub measurable : Measurable T (measures_at p.places) p.count p.columns
  pub skip_is : p.skip ≡ (parts q).skip
  pub target_is : p.target ≡ (parts q).skip_letter

-- what is told of a query: its own answer with its offset, or it is ready
pub record Refuses (q : List ℕ) (e : Refusal) : Type 0 where
  pub answer : answer_of e ≡ query_answer q
  pub offset : offset_of e ≡ offset_at (text_of q) (answer_of e)

pub record Given (q T : List ℕ) (r : Result Prepared Refusal) : Type 0 where
  pub told : MatchResult r (Ready q T) (Refuses q)

-- What preparing promises: that, or there is no room; and there is, in a table of 16,076 to 65,535
-- words.
pub record PreparedAs (q T T' : List ℕ) (r : Option (Result Prepared Refusal)) : Type 0 where
  pub told : MatchOption r (16076 ≤ length T → 65536 ≤ length T) (Given q T')
  pub len : length T' ≡ length T

-- ---- the steps of the code

-- a query that was read and has no answer, and a table with room for it
pub record Fills (s nodes defines measures : List ℕ) (q : Query) (T : List ℕ) : Type 0 where
  pub none : query_answer s ≡ 0
  pub measures₀ : List ℕ
  pub whole : Whole s measures₀ nodes defines measures q
  pub room : needed s defines (q.places * q.factor) q.letters ≤ length T
  pub small : length T < 65536

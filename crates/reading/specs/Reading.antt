-- What reading a query leaves: its answer 1 to 9 or 14 by the rules' tests, with its offset, and
-- where it is 0 the pattern's tree in the lent words, and in the lent arrays where the DEFINE of
-- each letter stands in the query and the measures (decode's specs/Layout says how); and how much
-- to lend.
use Rattle.std.specs.Prelude.{◌≡◌, Result, Ok, Err, IfOk, Bool, true, not, ◌&&◌, ◌||◌, ◌⊎◌, List, ℕ, ◌+◌, ◌*◌, ◌≤◌, ◌<◌, eqb, leb, length, take, drop}
use Rattle.std.proofs.Math.Option.{some}
use Rattle.rules.specs.Basics.{is_letter, every, has, le16}
use Rattle.rules.specs.Query.{Measure, doubled, text_of, parts}
use Rattle.query.specs.Order.{first_answer}
use Rattle.rules.specs.Language.{Tree, pattern}
use Rattle.rules.specs.Answers as A
use Rattle.rules.specs.Answers.{first_of, query_tests, offset_at, tree_in, P, F}
use Rattle.refusals.specs.Refusals.{answer_of, offset_of, answer_in, offset_in}
use Rattle.refusals.specs.declared.Refusal.{Refusal}
use Rattle.trees.specs.Held.{Top}
use Rattle.measure_list.specs.Measures.{MeasureFits}
use Rattle.table.specs.Measures.{measure_in, measures_in}
use Rattle.decode.specs.Layout.{Decoded}
use Rattle.decode.specs.declared.Parts.{Parts}
use Rattle.reading.specs.declared.Query.{Query}
use Rattle.reading.specs.declared.Size.{Size}

-- a letter is 0, or stands in the text; some of the first `count` measures has one that does not,
-- or the letter that the skip names does not
unfoldable pub known_in : List ℕ → ℕ → Bool
unfolding has
known_in text letter = eqb letter 0 || has letter text

unfoldable pub foreign_in : List ℕ → List ℕ → ℕ → ℕ → Bool
unfolding every known_in measures_in
foreign_in text measures count target = not (every (λ (m : Measure). known_in text m.letter) (measures_in measures 0 count)) || not (known_in text target)

-- the answer 1 to 9 or 14 of a query, or 0
unfoldable pub query_answer : List ℕ → ℕ
unfolding first_of query_tests
query_answer s = first_of (query_tests s)

-- what judging the parts asks: the query has no answer 1 to 3, the parts and measures are the
-- query's, the letter that the skip names is 0 or A to Z, it is told whether two DEFINEs are for
-- one letter, and there is room for the tree
pub record JudgeRoom (s room measures : List ℕ) (p : Parts) : Type 0 where
  pub clean : first_answer s ≡ 0
  pub text : take p.len (drop p.start s) ≡ text_of s
  pub inside : p.start + p.len ≤ length s
  pub short : p.len ≤ 256
  pub few : p.measures ≤ 8
  pub fit : (k : ℕ) → k < p.measures → MeasureFits p.columns (measure_in measures 0 k)
  pub measured : measures_in measures 0 p.measures ≡ (parts s).measures
  pub target : p.target ≡ (parts s).skip_letter
  pub lettered : (eqb p.target 0 || is_letter p.target) ≡ true
  pub doubled : p.twice ≡ doubled s
  pub space : 16 * p.len ≤ length room

-- what it leaves
pub record GoodParts (s room : List ℕ) (p : Parts) (r : Query) : Type 0 where
  pub tree : Tree pattern
  pub is : tree_in s ≡ some tree
  pub places : r.places ≡ P (tree_in s)
  pub factor : r.factor ≡ F (tree_in s)
  pub top : Top tree r.top room
  pub columns : r.columns ≡ p.columns
  pub skip : r.skip ≡ p.skip
  pub target : r.target ≡ p.target
  pub measured : r.measures ≡ p.measures
  pub letters : r.letters ≡ p.letters

pub record JudgedParts (s room measures : List ℕ) (p : Parts) (r : Result Query Refusal) : Type 0 where
  pub answer : answer_in r ≡ query_answer s
  pub offset : offset_in r ≡ offset_at (text_of s) (answer_in r)
  pub good : IfOk r (GoodParts s room p)

-- a query with no answer: its tree stands in the room, and its parts in the arrays
pub record Whole (s measures₀ room defines measures : List ℕ) (r : Query) : Type 0 where
  pub parts : Parts
  pub decoded : Decoded s measures₀ defines measures parts
  pub good : GoodParts s room parts r

-- so many words are enough for the pattern's tree: 16 for each byte of its text, where the query
-- has no answer 1 to 3
pub record Nodes (s : List ℕ) (words : ℕ) : Type 0 where
  pub enough : first_answer s ≡ 0 → 16 * length (text_of s) ≤ words

-- the length of the pattern's text, as bytes 6 and 7 say it: in a query with no answer 1 to 3 the
-- first record has 6 bytes, and the second begins with its body's length
unfoldable pub text_length : List ℕ → ℕ
unfolding le16
text_length s = le16 s 6

-- there are such bytes, and they say at most 16
unfoldable pub short_text : List ℕ → Bool
unfolding text_length
short_text s = leb 8 (length s) && leb (text_length s) 16

-- what reading a query is lent: such words, and room for the measures
pub record Space (s room measures : List ℕ) : Type 0 where
  pub nodes : Nodes s (length room)
  pub long : length measures ≡ 24

-- what `read_query` promises
pub record Asked (s measures₀ room defines measures : List ℕ) (r : Result Query Refusal) : Type 0 where
  pub answer : answer_in r ≡ query_answer s
  pub offset : offset_in r ≡ offset_at (text_of s) (answer_in r)
  pub good : IfOk r (Whole s measures₀ room defines measures)

-- the room that a caller is told, as the rules have it
abbrev pub as_room : Result Size Refusal → A.Room
as_room (Ok z) = record { answer = 0; places = z.places; rows = z.rows; offset = 0; factor = z.factor }
as_room (Err e) = record { answer = answer_of e; places = 0; rows = 0; offset = offset_of e; factor = 0 }

-- What the lent arrays hold once a query is decoded, and which parts of the query that is. Promised
-- (`Decoded`): each letter's DEFINE has the letter's condition, and all the bytes that a search
-- reads of it are there and fit; the first measures and the numbers are the query's, and the letter
-- that the skip names is 0 or A to Z; the rest of `measures` is as it was; and it is told whether a
-- letter has two DEFINEs, of which the first counts. Left free, since no answer depends on it:
-- `letters` may be any number up to 26 from which on no letter has a DEFINE; only the time that
-- preparing the tests takes does.
use Rattle.std.specs.Prelude.{◌≡◌, true, ◌||◌, List, ℕ, ◌+◌, ◌*◌, ◌≤◌, ◌<◌, eqb, length, get_or, take, drop}
use Rattle.rules.specs.Basics.{is_letter}
use Rattle.rules.specs.Query.{doubled, parts}
use Rattle.query.specs.Order.{first_answer}
use Rattle.define_list.specs.Defines.{Letter}
use Rattle.measure_list.specs.Measures.{MeasureFits}
use Rattle.table.specs.Measures.{measure_in, measures_in}
use Rattle.decode.specs.declared.Parts.{Parts}

-- a query with no answer 1 to 3, and room for its measures
pub record DecodeRoom (s measures : List ℕ) : Type 0 where
  pub clean : first_answer s ≡ 0
  pub long : length measures ≡ 24

-- What decoding leaves: the numbers of `p` and the arrays are the query's parts, and what the
-- measures do not need is as it was.
pub record Decoded (s measures₀ defines measures : List ℕ) (p : Parts) : Type 0 where
  pub counted : length defines ≡ 26
  pub long : length measures ≡ 24
  pub columns : p.columns ≡ (parts s).columns
  pub some : 1 ≤ p.columns
  pub most : p.columns ≤ 8
  pub text : take p.len (drop p.start s) ≡ (parts s).text
  pub inside : p.start + p.len ≤ length s
  pub short : p.len ≤ 256
  pub skip : p.skip ≡ (parts s).skip
  pub mode : p.skip ≤ 3
  pub target : p.target ≡ (parts s).skip_letter
  pub lettered : (eqb p.target 0 || is_letter p.target) ≡ true
  pub letters : (l : ℕ) → l < 26 → Letter s p.columns (get_or defines l 0) ((parts s).condition (65 + l))
  pub measured : measures_in measures 0 p.measures ≡ (parts s).measures
  pub few : p.measures ≤ 8
  pub fit : (k : ℕ) → k < p.measures → MeasureFits p.columns (measure_in measures 0 k)
  pub rest : (j : ℕ) → p.measures * 3 ≤ j → get_or measures j 0 ≡ get_or measures₀ j 0
  pub doubled : p.twice ≡ doubled s
  pub upto : p.letters ≤ 26
  pub free : (l : ℕ) → p.letters ≤ l → l < 26 → get_or defines l 0 ≡ 0

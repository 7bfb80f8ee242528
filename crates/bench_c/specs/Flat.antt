-- What a table and the flat numbers beside it say of a query, and what preparing one and running it
-- promise and ask of them: that of crates/prepared and crates/search, with numbers in place of
-- `Option` and `Result`.
use Rattle.std.specs.Prelude.{◌≡◌, List, ℕ, ◌≤◌, length}
use Rattle.rules.specs.Query.{text_of}
use Rattle.rules.specs.Answers.{offset_at}
use Rattle.reading.specs.Reading.{query_answer}
use Rattle.prepared.specs.Ready.{Ready}
use Rattle.prepared.specs.declared.Prepared as P
use Rattle.bench_c.specs.declared.Prepared.{Prepared}

-- a query that is not prepared
abbrev pub refused_prepared : ℕ → ℕ → Prepared
refused_prepared a k = record { answer = a; offset = k; places = 0; columns = 0; count = 0; skip = 0; target = 0 }

-- the numbers of a query that is
abbrev pub numbers_of : Prepared → P.Prepared
numbers_of p = record { places = p.places; columns = p.columns; count = p.count; skip = p.skip; target = p.target }

-- what is told of a query: its own answer with its offset, or 0 where it is ready
pub record Given (q T : List ℕ) (p : Prepared) : Type 0 where
  pub refused : (p.answer ≡ 0 → ⊥) → (p.answer ≡ query_answer q) × (p.offset ≡ offset_at (text_of q) p.answer)
  pub ready : p.answer ≡ 0 → Ready q T (numbers_of p)

-- What preparing promises: that, unless it tells that there is no room; and there is, in a table of
-- 16,076 to 65,535 words.
pub record PreparedAs (q T T' : List ℕ) (p : Prepared) : Type 0 where
  pub given : (p.answer ≡ 255 → ⊥) → Given q T' p
  pub no_room : p.answer ≡ 255 → 16076 ≤ length T → 65536 ≤ length T
  pub len : length T' ≡ length T

-- what a run over a prepared query asks
pub record Runs (T : List ℕ) (p : Prepared) : Type 0 where
  pub query : List ℕ
  pub given : Given query T p

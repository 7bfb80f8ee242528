-- Calls one behind the other (R-11): any cutting of the rows into lots gives the search of the
-- whole table in one run.
use Rattle.std.specs.Prelude.{◌≡◌, Bool, true, false, List, [], ◌∷◌, ℕ, ◌≤◌, ℤ}
use Rattle.rules.specs.Answers.{Buffers, Memory, search_within}
use Rattle.rules.specs.Lots.{Named, present_rows, lot_memory, Arrived}
use Rattle.lots.specs.declared.Feed.{Feed}
use Rattle.calls.specs.Calls.{Before, After, Calls}

-- the rows present at a call are the first of the whole table's, with n rows
abbrev pub First : List ℕ → List ℤ → ℕ → List ℤ → ℕ → Type 0
First q rows n lot present = (present ≤ n) × (present_rows q lot present ≡ present_rows q rows present)

-- what goes into a call
abbrev pub into : List ℕ → Feed → Buffers → List ℤ → ℕ → Bool → Before
into q f buffers lot present last = record { feed = f; query = q; rows = lot; present = present; last = last; buffers = buffers }

-- Calls, of which none is the last, lead from what is kept and the buffers to what is kept and the
-- buffers then: each finds what the one before left. Any may be refused.
unfoldable pub Follow : List ℕ → List ℤ → ℕ → Feed → Buffers → List Arrived → Feed → Buffers → Type 0
unfolding present_rows Calls
Follow q rows n f buffers [] f' buffers' = (f ≡ f') × (buffers ≡ buffers')
Follow q rows n f buffers (c ∷ cs) f' buffers' =
    First q rows n c.rows c.present
    × ((o : After) × (Calls (into q f buffers c.rows c.present false) o × Follow q rows n o.feed o.memory.buffers cs f' buffers'))

-- what the last call leaves: its result and both report buffers are those of the one run, and notes
-- and trail are as the definition of the last call says
pub record AsOneRun (s : Named) (rows : List ℤ) (n : ℕ) (got : Memory) : Type 0 where
  pub whole : got ≡ lot_memory s rows n true
  pub result : got.result ≡ (search_within s.allowance s.query (present_rows s.query rows n) s.lent).result
  pub numbers : got.buffers.numbers ≡ (search_within s.allowance s.query (present_rows s.query rows n) s.lent).buffers.numbers
  pub labels : got.buffers.labels ≡ (search_within s.allowance s.query (present_rows s.query rows n) s.lent).buffers.labels

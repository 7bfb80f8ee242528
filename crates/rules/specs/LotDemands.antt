-- Demands: what R-11 asks of a search by lots, in the words of the definitions (specs/Lots). `lots`
-- (crates/laws, LotLaws) proves all of it for whatever is named first without a refusal.
use Rattle.std.specs.Prelude.{◌≡◌, Bool, true, false, List, [], ◌∷◌, ℕ, ◌*◌, ◌%◌, ◌≤◌, ◌<◌, ◌/◌, ◌^◌, ℤ, length, get_or}
use Rattle.std.proofs.Math.Option.{none, some}
use Rattle.rules.specs.Basics.{Begins}
use Rattle.rules.specs.Query.{columns_of, text_of}
use Rattle.rules.specs.Language.{Tree, pattern, Written}
use Rattle.rules.specs.Walk.{out_of_steps, out_of_rows}
use Rattle.rules.specs.Search.{done, unfinished, Finished}
use Rattle.rules.specs.Report.{numbers_of, labels_of, bytes_for, bit_at}
use Rattle.rules.specs.Answers.{Memory, backtracked, end_answer, walk_within, search_within, tree_in, P, F}
use Rattle.rules.specs.Demands.{Demand2, Demand3}
use Rattle.rules.specs.Lots.{Named, present_rows, present_task, call_refusal, lot_walk, lot_memory, begun, stays, Called, Arrived, arrived, call_of, Leaves}
use Rattle.rules.specs.Places.{unroll, places_of, factor_of, flags_at}

-- so many rows are present: the slice is whole rows and holds them, and they are no more than named
pub record Lot (s : Named) (rows : List ℤ) (present : ℕ) : Type 0 where
  pub whole : length rows % columns_of s.query ≡ 0
  pub few : present ≤ s.largest
  pub held : present * columns_of s.query ≤ length rows

-- a later lot: at least as many rows, and those that were present have not changed
pub record Later (s : Named) (rows₁ rows₂ : List ℤ) (n₁ n₂ : ℕ) : Type 0 where
  pub more : n₁ ≤ n₂
  pub same : present_rows s.query rows₁ n₁ ≡ present_rows s.query rows₂ n₁

-- ---- demands 2 and 3 for the calls so far, on the rows present

pub record LotDemands (s : Named) (rows : List ℤ) (present : ℕ) (last : Bool) : Type 0 where
  pub tree : Tree pattern
  pub written : Written tree (text_of s.query)
  -- the list of places has each place once for each value of its flags: P times F
  pub counted : length (present_task s rows present).places ≡ P (tree_in s.query) * F (tree_in s.query)
  -- the table is that of the rows present
  pub rows_present : (present_task s rows present).table.n ≡ present
  -- the report holds the preferred matches on the rows present, or, where the walk waits or is out
  -- of steps, the first of them
  pub demand2 : Demand2 tree (present_task s rows present) (length s.lent.numbers) (length s.lent.labels) (lot_walk s rows present last)
  -- the bounds, the sum with the pairs still open, the failed pairs, and the first matches of plain
  -- backtracking on the rows present
  pub demand3 : Demand3 (present_task s rows present) s.largest (lot_walk s rows present last) (backtracked (present_task s rows present) (length s.lent.numbers) (length s.lent.labels))
  -- the failed pairs are exactly those noted, and spare bits are 0
  pub noted : (x : ℕ) → x < 8 * bytes_for (length (lot_walk s rows present last).state.failed) → bit_at (lot_memory s rows present last).buffers.notes x ≡ get_or (lot_walk s rows present last).state.failed x false
  -- and the unused bits of a failed pair's flags are 0
  pub unused : (x : ℕ) → get_or (lot_walk s rows present last).state.failed x false ≡ true → x % factor_of tree < 2 ^ flags_at (unroll tree) (x / factor_of tree % places_of tree)
  -- only a last call is done, and it never waits; without an allowance it does not halt
  pub not_done : last ≡ false → (lot_walk s rows present last).end ≡ done → ⊥
  pub no_wait : last ≡ true → (i : ℕ) (p : List ℕ) → (lot_walk s rows present last).end ≡ unfinished out_of_rows i p → ⊥
  pub finished : last ≡ true → s.allowance ≡ none → Finished (lot_walk s rows present last).end
  -- an allowance is not passed by all calls together, and where the search halts for it, it is used
  -- up
  pub kept_to : (a : ℕ) → s.allowance ≡ some a → (lot_walk s rows present last).state.steps ≤ a
  pub used_up : (a i : ℕ) (p : List ℕ) → s.allowance ≡ some a → (lot_walk s rows present last).end ≡ unfinished out_of_steps i p → (lot_walk s rows present last).state.steps ≡ a

-- ---- a later call only adds

pub record Adds (s : Named) (rows₁ rows₂ : List ℤ) (n₁ n₂ : ℕ) (last : Bool) : Type 0 where
  -- the matches, the numbers and the labels begin with those before
  pub matches : Begins (lot_walk s rows₁ n₁ false).matches (lot_walk s rows₂ n₂ last).matches
  pub numbers : Begins (numbers_of (present_task s rows₁ n₁).table (present_task s rows₁ n₁).measures (present_task s rows₁ n₁).places 0 (lot_walk s rows₁ n₁ false).matches)
      (numbers_of (present_task s rows₂ n₂).table (present_task s rows₂ n₂).measures (present_task s rows₂ n₂).places 0 (lot_walk s rows₂ n₂ last).matches)
  pub labels : Begins (labels_of (present_task s rows₁ n₁).places (lot_walk s rows₁ n₁ false).matches) (labels_of (present_task s rows₂ n₂).places (lot_walk s rows₂ n₂ last).matches)
  -- no failed pair is lost, and the steps do not fall
  pub failed : (x : ℕ) → get_or (lot_walk s rows₁ n₁ false).state.failed x false ≡ true → get_or (lot_walk s rows₂ n₂ last).state.failed x false ≡ true
  pub steps : (lot_walk s rows₁ n₁ false).state.steps ≤ (lot_walk s rows₂ n₂ last).state.steps

-- ---- any cutting gives by the end the search of the whole table in one run

pub record OneRun (s : Named) (rows : List ℤ) (present : ℕ) : Type 0 where
  pub matches : (lot_walk s rows present true).matches ≡ (walk_within s.allowance s.query (present_rows s.query rows present) s.lent).matches
  pub end : (lot_walk s rows present true).end ≡ (walk_within s.allowance s.query (present_rows s.query rows present) s.lent).end
  pub steps : (lot_walk s rows present true).state.steps ≡ (walk_within s.allowance s.query (present_rows s.query rows present) s.lent).state.steps
  -- the same pairs have failed, and none of a row that did not come
  pub failed : (x : ℕ) → get_or (lot_walk s rows present true).state.failed x false ≡ get_or (walk_within s.allowance s.query (present_rows s.query rows present) s.lent).state.failed x false
  -- the result and both report buffers are those of the one run
  pub result : (lot_memory s rows present true).result ≡ (search_within s.allowance s.query (present_rows s.query rows present) s.lent).result
  pub numbers : (lot_memory s rows present true).buffers.numbers ≡ (search_within s.allowance s.query (present_rows s.query rows present) s.lent).buffers.numbers
  pub label_bytes : (lot_memory s rows present true).buffers.labels ≡ (search_within s.allowance s.query (present_rows s.query rows present) s.lent).buffers.labels

-- ---- calls, one behind the other

-- before the first call
abbrev pub start : Named → Called
start s = record { progress = begun; memory = record { result = begun.result; buffers = s.lent } }

-- Calls of which none is the last, told by what has arrived at each, lead from the first to the
-- second: each finds the buffers as the one before left them. Any may be refused; one that is not
-- has rows that the last call, with `lot`, has too.
unfoldable pub Lead : Named → Arrived → Called → List Arrived → Called → Type 0
unfolding call_of call_refusal
Lead s lot k [] k' = k ≡ k'
Lead s lot k (c ∷ cs) k' =
    (call_refusal s k.progress c.rows c.present ≡ 0 → Later s c.rows lot.rows c.present lot.present)
    × ((got : Memory)
    × (Leaves s (call_of s k.progress c false k.memory.buffers).memory got
    × Lead s lot (record { progress = (call_of s k.progress c false k.memory.buffers).progress; memory = got }) cs k'))

-- ---- all of it

pub record Lots (s : Named) : Type 0 where
  pub demands : (rows : List ℤ) (present : ℕ) (last : Bool) → Lot s rows present → LotDemands s rows present last
  pub adds : (rows₁ rows₂ : List ℤ) (n₁ n₂ : ℕ) (last : Bool) → Lot s rows₁ n₁ → Lot s rows₂ n₂ → Later s rows₁ rows₂ n₁ n₂ → Adds s rows₁ rows₂ n₁ n₂ last
  -- 13, 15 and 16 stay: with more rows the search, and what it leaves, is the same
  pub stays : (rows₁ rows₂ : List ℤ) (n₁ n₂ : ℕ) (last : Bool) → Lot s rows₁ n₁ → Lot s rows₂ n₂ → Later s rows₁ rows₂ n₁ n₂ → stays (end_answer (lot_walk s rows₁ n₁ false).end) ≡ true
      → lot_memory s rows₂ n₂ last ≡ lot_memory s rows₁ n₁ false
  pub one_run : (rows : List ℤ) (present : ℕ) → Lot s rows present → OneRun s rows present
  -- whatever the calls before: the last call leaves what the search on the rows present does, and
  -- so returns and reports what the one run does
  pub cutting : (cs : List Arrived) (rows : List ℤ) (present : ℕ) (k : Called) (got : Memory) → Lot s rows present → Lead s (arrived rows present) (start s) cs k
      → Leaves s (call_of s k.progress (arrived rows present) true k.memory.buffers).memory got → got ≡ lot_memory s rows present true

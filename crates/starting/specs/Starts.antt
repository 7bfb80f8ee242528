-- What the search over a prepared query asks, and what it comes to.
use Rattle.std.specs.Prelude.{◌≡◌, List, false, ℕ, ◌+◌, ◌*◌, ◌≤◌, ℤ, length}
use Rattle.std.proofs.Math.Option.{some}
use Rattle.rules.specs.Walk.{pairs}
use Rattle.rules.specs.Answers.{Buffers, Memory, task_of, skip_of, walk_within, end_answer, report_of, accepted}
use Rattle.prepared.specs.Ready.{Ready}
use Rattle.table_room.specs.Words.{measures_at, tests_at}
use Rattle.prepared.specs.declared.Prepared.{Prepared}
use Rattle.skips.specs.Skips.{skip_in}
use Rattle.matches.specs.declared.Task.{Task}
use Rattle.starting.specs.declared.Terms.{Terms}

-- an accepted search within a steps as the definition ends it: done, stopped or halted
unfoldable pub ended : ℕ → List ℕ → List ℤ → Buffers → Memory
unfolding accepted report_of end_answer walk_within task_of
ended a q rows before =
    accepted (report_of (end_answer (walk_within (some a) q rows before).end) (task_of q rows) before (walk_within (some a) q rows before)) (walk_within (some a) q rows before).state before

-- what a prepared query asks on these terms
pub record TaskFor (p : Prepared) (terms : Terms) (t : Task) : Type 0 where
  pub rows : t.size.rows ≡ terms.rows
  pub allowance : t.size.allowance ≡ terms.allowance
  pub more : t.size.more ≡ terms.more
  pub pairs_are : t.pairs ≡ p.places * (terms.largest + 1)
  pub columns : t.size.columns ≡ p.columns
  pub places : t.size.places ≡ p.places
  pub tests : t.size.tests ≡ tests_at p.places
  pub measures : t.measures ≡ measures_at p.places
  pub count : t.count ≡ p.count
  pub skip : skip_in t.skip ≡ skip_of p.skip p.target

-- whole rows, no more than the largest number, which is at most 4,096, and working room for its
-- pairs
pub record Fed (p : Prepared) (terms : Terms) (rows : List ℤ) (notes trail : List ℕ) : Type 0 where
  pub most : terms.largest ≤ 4096
  pub few : terms.rows ≤ terms.largest
  pub all : length rows ≡ terms.rows * p.columns
  pub noted : pairs p.places terms.largest ≤ 8 * length notes
  pub trailed : pairs p.places terms.largest ≤ length trail

-- what the search asks: a query that is prepared, and these; and that all rows are there
pub record Walks (T : List ℕ) (p : Prepared) (terms : Terms) (rows : List ℤ) (notes trail : List ℕ) : Type 0 where
  pub query : List ℕ
  pub ready : Ready query T p
  pub fed : Fed p terms rows notes trail
  pub whole : terms.largest ≡ terms.rows
  pub no_more : terms.more ≡ false

-- A call of a search by lots (R-11): what the state that is kept between calls stands for
-- (`Stands`), and what a call promises (`Calls`). The definition of a call is `call_of` of the rules,
-- specs/Lots.
use Rattle.std.specs.Prelude.{◌≡◌, Bool, false, List, ◌⊎◌, ℕ, ◌<◌, eqb, ℤ, length, get_or}
use Rattle.std.proofs.Math.Option.{Option, none, some}
use Rattle.rules.specs.Basics.{pick}
use Rattle.rules.specs.Walk.{out_of_rows}
use Rattle.rules.specs.Search.{unfinished}
use Rattle.rules.specs.Answers.{Buffers, Memory}
use Rattle.rules.specs.Lots.{Named, Progress, begun, stays, begin_answer, call_refusal, lot_walk, lot_memory, arrived, call_of, Leaves}
use Rattle.rules.specs.LotDemands.{Lot, Later}
use Rattle.lots.specs.declared.Feed.{Feed}
use Rattle.lots.specs.Feeds.{new_feed}

-- ---- what goes in and comes out

-- what goes in: what was kept, the query, the rows lent, how many are present, whether the call is
-- the last, and the search's lent buffers
pub record Before : Type 0 where
  pub feed : Feed
  pub query : List ℕ
  pub rows : List ℤ
  pub present : ℕ
  pub last : Bool
  pub buffers : Buffers

-- what comes out: what is kept behind the call, the result and the search's buffers
pub record After : Type 0 where
  pub feed : Feed
  pub memory : Memory

-- ---- what is kept stands for

-- The allowance that was named, as a number: so many steps. The largest number of 64 bits also
-- stands for no allowance, since no search passes it.
abbrev pub Allowance : Option ℕ → ℕ → Type 0
Allowance o a = (o ≡ some a) ⊎ ((o ≡ none) × (a ≡ 18446744073709551615))

-- before the first call that is taken up: all is as it was named
pub record New (s : Named) (p : Progress) (f : Feed) (buffers : Buffers) : Type 0 where
  pub progress : p ≡ begun
  pub feed : f ≡ new_feed f.largest f.allowance
  pub named : buffers ≡ s.lent

-- behind it: the buffers are as the latest call that was taken up left them, with these rows; and
-- where the search waits, the start of its attempt and how many pairs are open are kept
pub record TakenUp (s : Named) (p : Progress) (rows : List ℤ) (f : Feed) (buffers : Buffers) : Type 0 where
  pub begins : begin_answer s ≡ 0
  pub lot : Lot s rows p.present
  pub left : Leaves s (lot_memory s rows p.present p.ended) (record { result = p.result; buffers = buffers })
  pub waits : (i : ℕ) (u : List ℕ) → (lot_walk s rows p.present p.ended).end ≡ unfinished out_of_rows i u → (f.row ≡ i) × (f.opened ≡ length u)
  pub bytes : (k : ℕ) → get_or s.lent.notes k 0 < 256

-- What is kept, with the buffers as they are, stands for what was named and for the progress so
-- far, of which it has the numbers.
pub record Stands (s : Named) (p : Progress) (rows : List ℤ) (f : Feed) (buffers : Buffers) : Type 0 where
  pub largest : f.largest ≡ s.largest
  pub allowance : Allowance s.allowance f.allowance
  pub present : f.present ≡ p.present
  pub result : p.result ≡ record { answer = f.answer; matches = f.matches; labels = f.labels; steps = f.steps; offset = 0 }
  pub new : f.begun ≡ 0 → New s p f buffers
  pub was_taken_up : (f.begun ≡ 0 → ⊥) → TakenUp s p rows f buffers

-- ---- what a call promises

-- whether a call is taken up: not where the search has stopped, the end was declared, or the call
-- is refused
unfoldable pub taken_up : Named → Progress → List ℤ → ℕ → Bool
unfolding stays call_refusal
taken_up s p rows present = pick (stays p.result.answer) false (pick p.ended false (eqb (call_refusal s p rows present) 0))

-- The result and the buffers are those of the definition. What is kept then stands for the progress
-- of the definition, with the rows of this call where it is taken up, and with those before where
-- not; then what is kept and the buffers are unchanged.
pub record Made (s : Named) (p : Progress) (rows₁ : List ℤ) (i : Before) (o : After) : Type 0 where
  pub leaves : Leaves s (call_of s p (arrived i.rows i.present) i.last i.buffers).memory o.memory
  pub stands : Stands s (call_of s p (arrived i.rows i.present) i.last i.buffers).progress (pick (taken_up s p i.rows i.present) i.rows rows₁) o.feed o.memory.buffers
  pub kept : taken_up s p i.rows i.present ≡ false → (o.feed ≡ i.feed) × (o.memory.buffers ≡ i.buffers)

-- The promise of a call, for whatever was named with this query and whatever the earlier calls came
-- to: if what is kept stands for it, and the rows that were present have not changed. Any other
-- state gets an answer too; which one is left free.
unfoldable pub Calls : Before → After → Type 0
Calls i o =
    (s : Named) (p : Progress) (rows₁ : List ℤ) → s.query ≡ i.query → Stands s p rows₁ i.feed i.buffers
    → (call_refusal s p i.rows i.present ≡ 0 → Later s rows₁ i.rows p.present i.present) → Made s p rows₁ i o

-- What the steps of a call's code ask and come to.
use Rattle.std.specs.Prelude.{◌≡◌, Result, MatchResult, Bool, true, false, not, ◌&&◌, ◌⊎◌, List, ℕ, ◌<◌, leb, ℤ, get_or}
use Rattle.refusals.specs.Refusals.{answer_of, offset_of}
use Rattle.refusals.specs.declared.Refusal.{Refusal}
use Rattle.refusals.specs.declared.Refusal.TheVariants.{LooksAhead}
use Rattle.rules.specs.Lots.{looks_ahead}
use Rattle.prepared.specs.Ready.{Ready, Given}
use Rattle.prepared.specs.declared.Prepared.{Prepared}
use Rattle.matches.specs.declared.Sweep.{Sweep}
use Rattle.matches.specs.declared.Task.{Task}
use Rattle.starting.specs.declared.Terms.{Terms}
use Rattle.starting.specs.Starts as S
use Rattle.outcome.specs.declared.Outcome.{Outcome}
use Rattle.outcome.specs.Results.{lent, memory, refusal}
use Rattle.lot_answers.specs.declared.Measured.{Measured}
use Rattle.lot_answers.specs.Lot.{lot_answer}
use Rattle.lots.specs.declared.Feed.{Feed}
use Rattle.lots.specs.Feeds.{Within, Advanced}
use Rattle.calls.specs.declared.Call.{Call}
use Rattle.calls.specs.declared.Fed.{Fed}
use Rattle.calls.specs.Calls.{Before, After}

-- a call over so many rows and buffers, and what it comes to
abbrev pub before : Call → List ℕ → List ℤ → List ℕ → List ℕ → List ℤ → List ℕ → Before
before c q rows notes trail numbers labels =
    record { feed = c.feed; query = q; rows = rows; present = c.present; last = c.last; buffers = lent notes trail numbers labels }

abbrev pub after : Fed → List ℕ → List ℕ → List ℤ → List ℕ → After
after r notes trail numbers labels = record { feed = r.feed; memory = memory r.outcome notes trail numbers labels }

-- nothing is changed, and the answer is given with zeros
abbrev pub refusing : Feed → ℕ → ℕ → Fed
refusing f a k = record { feed = f; outcome = refusal a k }

-- the same, and the result is as before
abbrev pub as_before : Feed → Fed
as_before f = record { feed = f; outcome = record { answer = f.answer; matches = f.matches; labels = f.labels; steps = f.steps; offset = 0 } }

-- the terms of a call's search
abbrev pub terms_of : Call → Terms
terms_of c = record { rows = c.present; largest = c.feed.largest; allowance = c.feed.allowance; more = not c.last }

-- what is kept behind a search
abbrev pub kept_by : Call → Sweep → Feed
kept_by c s =
    record {
      largest = c.feed.largest;
      allowance = c.feed.allowance;
      present = c.present;
      begun = 1;
      answer = s.end;
      row = s.row;
      matches = s.matches;
      labels = s.labels;
      steps = s.steps;
      opened = s.opened;
    }

abbrev pub outcome_by : Sweep → Outcome
outcome_by s = record { answer = s.end; matches = s.matches; labels = s.labels; steps = s.steps; offset = 0 }

-- what is told of some query
pub record Told (T : List ℕ) (r : Result Prepared Refusal) : Type 0 where
  pub query : List ℕ
  pub given : Given query T r

-- the numbers of a call
abbrev pub measured_of : Prepared → Call → ℕ → ℕ → ℕ → Measured
measured_of p c entries notes trail =
    record { places = p.places; columns = p.columns; largest = c.feed.largest; present = c.present; before = c.feed.present; entries = entries; notes = notes; trail = trail }

-- the numbers kept lie within their bounds
abbrev pub in_bounds : Feed → ℕ → Bool
in_bounds f room = leb f.matches f.row && (leb f.labels room && (leb f.opened f.steps && leb f.steps 4611686018427387904))

-- why a call over a prepared query is refused: the query looks ahead, or the numbers of the call
-- say so; or the numbers kept lie outside their bounds, and then which answer is given is left free
abbrev pub Hinders : Bool → ℕ → Bool → Refusal → Type 0
Hinders ahead answer bounded e =
    ((ahead ≡ true) × (e ≡ LooksAhead)) ⊎ ((ahead ≡ false) × (((answer_of e ≡ answer) × (offset_of e ≡ 0)) ⊎ ((answer ≡ 0) × (bounded ≡ false))))

-- whether it is refused
pub record Admits {U : Type 0} (T : List ℕ) (p : Prepared) (c : Call) (entries notes trail labels : ℕ) (r : Result U Refusal) : Type 0 where
  pub ahead : Bool
  pub is_ahead : (q : List ℕ) → Ready q T p → ahead ≡ looks_ahead q
  pub told : MatchResult r (λ (u : U). (ahead ≡ false) × ((lot_answer (measured_of p c entries notes trail) ≡ 0) × (in_bounds c.feed labels ≡ true)))
      (Hinders ahead (lot_answer (measured_of p c entries notes trail)) (in_bounds c.feed labels))

-- what the search of a call asks: a prepared query, the rows present and room, and numbers kept
-- that lie within their bounds
pub record Goes (T : List ℕ) (p : Prepared) (c : Call) (rows : List ℤ) (notes trail labs : List ℕ) : Type 0 where
  pub query : List ℕ
  pub ready : Ready query T p
  pub fed : S.Fed p (terms_of c) rows notes trail
  pub within : Within labs c.feed

-- what it comes to
pub record Went (T : List ℕ) (p : Prepared) (c : Call) (rows : List ℤ) (n₁ t₁ : List ℕ) (numbers₁ : List ℤ) (labs₁ : List ℕ) (notes trail : List ℕ) (numbers : List ℤ) (labs : List ℕ) (r : Fed) : Type 0 where
  pub task : Task
  pub task_for : S.TaskFor p (terms_of c) task
  pub sweep : Sweep
  pub advanced : Advanced T rows task n₁ t₁ numbers₁ labs₁ c.feed notes trail numbers labs sweep
  pub result : r ≡ record { feed = kept_by c sweep; outcome = outcome_by sweep }
  -- the notes are bytes
  pub bytes₁ : (k : ℕ) → get_or n₁ k 0 < 256
  pub bytes : (k : ℕ) → get_or notes k 0 < 256

-- What the search of a call leaves of numbers, by the definitions alone: how it may end, that what
-- it writes fits, and that what a later call is taken up with lies within its bounds.
use mathlib.Core.Path.{◌≡◌, refl, ap, sym, ◌∙◌}
use mathlib.Core.Bool.{Bool, true, false, not}
use mathlib.Core.List.{List, [], ◌∷◌, ◌++◌}
use mathlib.Core.Option.{Option, none, some}
use Prim.Native.Nat.{ℕ, zero, suc, ◌+◌, ◌*◌, ◌≤◌, ◌<◌}
use native.Mathlib.Nat.{mul-le-mul}
use native.Mathlib.Omega.{arith}
use lib.Dec.{ltb}
use lib.IntN.{ℤ}
use lib.ListN.{length, drop, replicate, length-replicate}
use Rattle.rules.specs.Basics.{wrote}
use Rattle.rules.specs.Walk.{Halt, out_of_steps, out_of_rows, pairs, first_at, pair_ways, Kept, as_kept}
use Rattle.rules.specs.Search.{Match, End, done, full, stuck, unfinished, open_of, Attempted, hit, miss, halts, Swept, Plan, ended, no_start, below, Standing, stand_at, one_row_on, behind_match, on_match, on_answer, sweep, walk_at, halting_of, plan_of, walk_search}
use Rattle.rules.specs.Report.{lent_room, fits, numbers_of, labels_of, notes_of, zeros, bytes_for}
use Rattle.rules.specs.Answers.{letter_holds, Task, walked_on, halt_answer, end_answer, report_of, Memory, accepted}
use Rattle.rules.specs.Lots.{Named, present_rows, present_task, named_pairs, begin_answer, stays, lot_terms, lot_walk, lot_memory}
use Rattle.rules.specs.LotDemands.{Lot, LotDemands}
use Rattle.laws.proofs.Appended.{length-wrote_at}
use Rattle.laws.proofs.Fuel.{plan-on}
use Rattle.laws.proofs.Limits.{Fitting, numbers_long, written-fits, limits}
use Rattle.laws.proofs.Lots.{Begins_well, begins-well, now-unrefused}
use Rattle.laws.proofs.LotLaws.{lots}
use Rattle.laws.proofs.Noted.{length-notes}

-- ---- a search halts at a start behind which no fewer rows lie than matches are written

module _ {S : Type 0} (att : ℕ → S → Attempted × S) (plan : Plan) (on : (i : ℕ) (p : List ℕ) (j : ℕ) → plan.next i p ≡ some j → i < j) where
  abbrev Behind : Swept S → ℕ → Type 0
  Behind r i = (h : Halt) (j : ℕ) (u : List ℕ) → r.end ≡ unfinished h j u → i + length r.matches ≤ j

  off : (more : Bool) (i : ℕ) (st : S) → Behind (ended (no_start more i) st) i
  off false i st h j u e = let z : ◌≡◌ {A = ℕ} 0 1 = cc in absurd (omega arith)
  off true i st h j u e = let z : i ≡ j = cc in omega arith

  abbrev Rest : (Standing → S → Swept S) → Type 0
  Rest f = (at : Standing) (st : S) → Behind (f at st) at.start

  fit : (f : Standing → S → Swept S) → Rest f → (at : Standing) (p : List ℕ) (st : S) (t : Bool) (o : Option ℕ) → plan.next at.start p ≡ o
      → Behind (on_match t o (record { start = at.start; path = p }) st (λ j. f (behind_match plan at p j) st)) at.start
  fit f ih at p st false o d h j u e = let z : ◌≡◌ {A = ℕ} 0 1 = cc in absurd (omega arith)
  fit f ih at p st true none d h j u e = let z : ◌≡◌ {A = ℕ} 0 1 = cc in absurd (omega arith)
  fit f ih at p st true (some v) d h j u e = omega (arith, ih (behind_match plan at p v) st h j u e, on at.start p v d)

  by : (f : Standing → S → Swept S) → Rest f → (at : Standing) (o : Attempted) (st : S) → Behind (on_answer plan f at o st) at.start
  by f ih at miss st h j u e = omega (arith, ih (one_row_on at) st h j u e)
  by f ih at (halts w p) st h j u e = let z : at.start ≡ j = cc in omega arith
  by f ih at (hit p) st h j u e = fit f ih at p st (plan.fits at.matches at.labels p) (plan.next at.start p) refl h j u e

  sweep-behind : (k : ℕ) → Rest (sweep att plan k)
  unfolding sweep
  sweep-behind zero at st = off plan.more at.start st
  sweep-behind (suc k) at st = start (sweep-behind k) (ltb at.start plan.n)
    where
      start : Rest (sweep att plan k) → (t : Bool)
          → Behind (below t (ended (no_start plan.more at.start) st) (λ _. on_answer plan (sweep att plan k) at (att at.start st).0 (att at.start st).1)) at.start
      start ih false = off plan.more at.start st
      start ih true = by (sweep att plan k) ih at (att at.start st).0 (att at.start st).1

-- ---- how it may end

-- the answer is 0, 23, or one that stays
ends_how : (e : End Match) → (end_answer e ≡ 23 → ⊥) → (end_answer e ≡ 0 → ⊥) → stays (end_answer e) ≡ true
unfolding end_answer halt_answer stays
ends_how done d z = absurd (z refl)
ends_how (full m) d z = refl
ends_how stuck d z = refl
ends_how (unfinished out_of_steps i p) d z = refl
ends_how (unfinished out_of_rows i p) d z = absurd (d refl)

is-waiting : (e : End Match) → end_answer e ≡ 23 → (i : ℕ) × ((p : List ℕ) × (e ≡ unfinished out_of_rows i p))
unfolding end_answer halt_answer
is-waiting done d = absurd (omega arith)
is-waiting (full m) d = absurd (omega arith)
is-waiting stuck d = absurd (omega arith)
is-waiting (unfinished out_of_steps i p) d = absurd (omega arith)
is-waiting (unfinished out_of_rows i p) d = (i, (p, refl))

is-done : (e : End Match) → end_answer e ≡ 0 → e ≡ done
unfolding end_answer halt_answer
is-done done d = refl
is-done (full m) d = absurd (omega arith)
is-done stuck d = absurd (omega arith)
is-done (unfinished out_of_steps i p) d = absurd (omega arith)
is-done (unfinished out_of_rows i p) d = absurd (omega arith)

-- what lies behind what was written is as it was
behind : (l vs : List ℕ) → drop (length vs) (wrote l 0 vs) ≡ drop (length vs) l
unfolding wrote
behind l vs = let e : 0 + length vs ≡ length vs = omega arith in go vs (drop (0 + length vs) l) ∙ ap (λ (k : ℕ). drop k l) e
  where
    go : (vs w : List ℕ) → drop (length vs) (vs ++ w) ≡ w
    go [] w = refl
    go (v ∷ vs) w = go vs w

module _ (s : Named) (begins : begin_answer s ≡ 0) (rows : List ℤ) (n : ℕ) (lot : Lot s rows n) (last : Bool) where
  ok : Begins_well s
  ok = begins-well s begins

  abbrev walk : Swept Kept
  walk = lot_walk s rows n last

  abbrev left : Memory
  left = lot_memory s rows n last

  abbrev t : Task
  t = present_task s rows n

  demanded : LotDemands s rows n last
  demanded = (lots s begins).demands rows n last lot

  answer_is : left.result.answer ≡ end_answer walk.end
  unfolding lot_memory accepted report_of
  answer_is = refl

  -- the numbers of the result
  pub matches-are : left.result.matches ≡ length walk.matches
  unfolding lot_memory accepted report_of
  matches-are = refl

  pub labels-are : left.result.labels ≡ length (labels_of t.places walk.matches)
  unfolding lot_memory accepted report_of
  labels-are = refl

  pub steps_are : left.result.steps ≡ walk.state.steps
  unfolding lot_memory accepted
  steps_are = refl

  -- any other answer than 0 and 23 stays
  pub answer_stays : (left.result.answer ≡ 23 → ⊥) → (left.result.answer ≡ 0 → ⊥) → stays left.result.answer ≡ true
  answer_stays d z = rw answer_is (ends_how walk.end (λ e. d (answer_is ∙ e)) (λ e. z (answer_is ∙ e)))

  -- 23 is the answer of a call that was not the last, 0 of the last one
  pub waits-more : left.result.answer ≡ 23 → last ≡ false
  waits-more e = by last refl
    where
      by : (b : Bool) → last ≡ b → last ≡ false
      by false d = d
      by true d = let w = is-waiting walk.end (sym answer_is ∙ e) in absurd (demanded.no_wait d w.0 w.1.0 w.1.1)

  pub done-last : left.result.answer ≡ 0 → last ≡ true
  done-last e = by last refl
    where
      by : (b : Bool) → last ≡ b → last ≡ true
      by true d = d
      by false d = absurd (demanded.not_done d (is-done walk.end (sym answer_is ∙ e)))

  pub waiting-end : left.result.answer ≡ 23 → (i : ℕ) × ((p : List ℕ) × (walk.end ≡ unfinished out_of_rows i p))
  waiting-end e = is-waiting walk.end (sym answer_is ∙ e)

  -- ---- numbers within their bounds

  pub matches-behind : (i : ℕ) (p : List ℕ) → walk.end ≡ unfinished out_of_rows i p → length walk.matches ≤ i
  unfolding lot_walk walked_on walk_search
  matches-behind i p e =
      let b = sweep-behind (walk_at (halting_of (lot_terms s last) t.places t.table.n) (pair_ways (letter_holds t) t.table.n t.places) (pairs (length t.places) s.largest) (first_at (length t.places)))
      (plan_of t.places t.table.n (not last) t.skip (fits (lent_room (length s.lent.numbers) (length s.lent.labels) t.measures)))
      (plan-on t.places t.table.n (not last) t.skip (fits (lent_room (length s.lent.numbers) (length s.lent.labels) t.measures)))
      t.table.n (stand_at 0 0 0) (as_kept (replicate (pairs (length t.places) s.largest) false) 0) out_of_rows i p e in
      omega arith

  pub opened_within : (i : ℕ) (p : List ℕ) → walk.end ≡ unfinished out_of_rows i p → length p ≤ walk.state.steps
  opened_within i p e =
      let o : length (open_of walk.end) ≡ length p = ap (λ (x : End Match). length (open_of x)) e in
      let d = demanded.demand3.sum in
      omega arith

  pub steps_few : walk.state.steps ≤ 17192452096
  unfolding present_task
  steps_few =
      let S : ℕ = length t.places in
      let m : ℕ = t.table.n in
      let c : S ≤ 2048 = (limits none s.query (present_rows s.query rows n) s.lent (now-unrefused s ok rows n lot)).few_places in
      let l : m ≤ 4096 = (let e = demanded.rows_present in let f = lot.few in let g = ok.few in omega arith) in
      let r : m * (m + 3) ≤ 4096 * 4099 = mul-le-mul l (let z : m + 3 ≤ 4099 = omega arith in z) in
      let b : S * (m * (m + 3)) ≤ 2048 * (4096 * 4099) = mul-le-mul c r in
      let d = demanded.demand3.bound_each in
      omega arith

  fitting : Fitting (length s.lent.numbers) (length s.lent.labels) t.measures t.places 0 0 walk.matches
  unfolding lot_walk
  fitting = written-fits (lot_terms s last) t (length s.lent.numbers) (length s.lent.labels)

  pub labels_fit : length (labels_of t.places walk.matches) ≤ length s.lent.labels
  labels_fit = let f = fitting.labels in omega arith

  -- ---- every buffer keeps its length

  pub numbers-kept : length left.buffers.numbers ≡ length s.lent.numbers
  unfolding lot_memory accepted report_of
  numbers-kept =
      let f = fitting.numbers in
      let l = numbers_long t.table t.measures t.places 0 walk.matches in
      length-wrote_at s.lent.numbers 0 (numbers_of t.table t.measures t.places 0 walk.matches) (omega arith)

  pub labels-kept : length left.buffers.labels ≡ length s.lent.labels
  unfolding lot_memory accepted report_of
  labels-kept = let f = labels_fit in length-wrote_at s.lent.labels 0 (labels_of t.places walk.matches) (omega arith)

  pairs_are : length walk.state.failed ≡ named_pairs s
  unfolding named_pairs
  pairs_are = demanded.demand3.pairs_kept ∙ ap (λ (k : ℕ). pairs k s.largest) demanded.counted

  pub notes_kept : length left.buffers.notes ≡ length s.lent.notes
  unfolding lot_memory accepted
  notes_kept =
      let a = length-notes walk.state.failed in
      let b = ap bytes_for pairs_are in
      let c = ok.notes_long in
      length-wrote_at s.lent.notes 0 (notes_of walk.state.failed) (omega arith)

  zeros-long : length (zeros (length walk.state.failed)) ≡ named_pairs s
  unfolding zeros
  zeros-long = length-replicate (length walk.state.failed) 0 ∙ pairs_are

  trail_room : 0 + length (zeros (length walk.state.failed)) ≤ length s.lent.trail
  trail_room = let a = zeros-long in let b = ok.trail_long in omega arith

  pub trail_kept : length left.buffers.trail ≡ length s.lent.trail
  unfolding lot_memory accepted
  trail_kept = length-wrote_at s.lent.trail 0 (zeros (length walk.state.failed)) trail_room

  -- and beyond the pairs the trail is as it was
  pub trail_beyond : drop (named_pairs s) left.buffers.trail ≡ drop (named_pairs s) s.lent.trail
  unfolding lot_memory accepted
  trail_beyond = ap (λ (k : ℕ). drop k (wrote s.lent.trail 0 (zeros (length walk.state.failed)))) (sym zeros-long) ∙ behind s.lent.trail (zeros (length walk.state.failed)) ∙ ap (λ (k : ℕ). drop k s.lent.trail) zeros-long

-- Without an allowance: the largest number of 64 bits is an allowance that no search by lots
-- passes, so whatever is named without one is as if it were named with that.
use mathlib.Core.Path.{◌≡◌, refl, ap}
use mathlib.Core.Bool.{Bool, true, false, not}
use mathlib.Core.List.{List}
use mathlib.Core.Option.{Option, none, some}
use Prim.Native.Nat.{ℕ, ◌≤◌}
use native.Mathlib.Omega.{arith}
use lib.Dec.{eqb, ltb}
use lib.IntN.{ℤ}
use lib.ListN.{length, replicate}
use borrow.Author.Tests.{lt-leb, eqb-true}
use Rattle.rules.specs.Basics.{pick}
use Rattle.rules.specs.Query.{text_of}
use Rattle.rules.specs.Walk.{pairs, first_at, pair_ways, Kept, as_kept}
use Rattle.rules.specs.Search.{Skip, Swept, seek, halting_of, plan_of, walk_search}
use Rattle.rules.specs.Places.{Place}
use Rattle.rules.specs.Report.{lent_room, fits}
use Rattle.rules.specs.Answers.{letter_holds, Task, walked_on, end_answer, report_of, Buffers, Memory, offset_at, refused, accepted}
use Rattle.rules.specs.Lots.{Named, Progress, present_task, named_pairs, bad_lot, lot_tests, begin_answer, call_refusal, lot_terms, lot_walk, lot_memory, stays, Called, unchanged, arrived, call_of, Leaves}
use Rattle.rules.specs.LotDemands.{Lot, Later}
use Rattle.laws.proofs.Allowed.{sweep-allowed}
use Rattle.laws.proofs.Lots.{tests-well, call-well}
use Rattle.calls.proofs.Bounds.{steps_few}

-- an allowance that the search does not pass changes nothing
allowed : (largest : ℕ) (more : Bool) (holds : ℕ → ℕ → Bool) (n : ℕ) (pl : List Place) (skip : Skip) (fit : ℕ → ℕ → List ℕ → Bool) (a : ℕ)
    → (walk_search (record { largest = largest; more = more; allowance = none }) (seek holds n pl skip fit)).state.steps ≤ a
    → walk_search (record { largest = largest; more = more; allowance = some a }) (seek holds n pl skip fit) ≡ walk_search (record { largest = largest; more = more; allowance = none }) (seek holds n pl skip fit)
unfolding walk_search halting_of plan_of
allowed largest more holds n pl skip fit a b =
    sweep-allowed (halting_of (record { largest = largest; more = more; allowance = some a }) pl n) (halting_of (record { largest = largest; more = more; allowance = none }) pl n) (λ x. refl) (λ s. refl) a
    (λ s lt. lt-leb a s lt) (pair_ways holds n pl) (pairs (length pl) largest) (first_at (length pl)) (plan_of pl n more skip fit) n 0 0 0 (as_kept (replicate (pairs (length pl) largest) false) 0) b

-- a call that is not refused: whatever was named may begin
pub call-begins : (s : Named) (p : Progress) (rows : List ℤ) (present : ℕ) → call_refusal s p rows present ≡ 0 → begin_answer s ≡ 0
unfolding call_refusal begin_answer
call-begins s p rows present e = let w = tests-well s (bad_lot s rows present) (ltb present p.present) e in rw (w.1, w.2) at e

-- the same named with an allowance
abbrev pub limited : Named → Named
limited s = record { query = s.query; largest = s.largest; allowance = some 18446744073709551615; lent = s.lent }

module _ (s : Named) where
  pub lot_limited : (rows : List ℤ) (n : ℕ) → Lot s rows n → Lot (limited s) rows n
  lot_limited rows n l = record { whole = l.whole; few = l.few; held = l.held }

  pub lot_free : (rows : List ℤ) (n : ℕ) → Lot (limited s) rows n → Lot s rows n
  lot_free rows n l = record { whole = l.whole; few = l.few; held = l.held }

  pub later-limited : (rows₁ rows₂ : List ℤ) (n₁ n₂ : ℕ) → Later s rows₁ rows₂ n₁ n₂ → Later (limited s) rows₁ rows₂ n₁ n₂
  later-limited rows₁ rows₂ n₁ n₂ l = record { more = l.more; same = l.same }

  pub begins-same : begin_answer (limited s) ≡ begin_answer s
  unfolding begin_answer lot_tests named_pairs
  begins-same = refl

  pub refusal-same : (p : Progress) (rows : List ℤ) (n : ℕ) → call_refusal (limited s) p rows n ≡ call_refusal s p rows n
  unfolding call_refusal lot_tests named_pairs bad_lot
  refusal-same p rows n = refl

  pub leaves-limited : (want got : Memory) → Leaves s want got → Leaves (limited s) want got
  unfolding named_pairs
  leaves-limited want got l =
      record { result = l.result; notes = l.notes; numbers = l.numbers; labels = l.labels; trail = l.trail; trail_length = l.trail_length; trail_beyond = l.trail_beyond }

  pub leaves_free : (want got : Memory) → Leaves (limited s) want got → Leaves s want got
  unfolding named_pairs
  leaves_free want got l =
      record { result = l.result; notes = l.notes; numbers = l.numbers; labels = l.labels; trail = l.trail; trail_length = l.trail_length; trail_beyond = l.trail_beyond }

  module _ (e : s.allowance ≡ none) where
    module _ (begins : begin_answer s ≡ 0) (rows : List ℤ) (n : ℕ) (lot : Lot s rows n) (last : Bool) where
      pub walk_same : lot_walk (limited s) rows n last ≡ lot_walk s rows n last
      unfolding lot_walk walked_on present_task
      walk_same =
          let t : Task = present_task s rows n in
          let b : (walk_search (lot_terms s last) (seek (letter_holds t) t.table.n t.places t.skip (fits (lent_room (length s.lent.numbers) (length s.lent.labels) t.measures)))).state.steps ≤ 18446744073709551615 =
          (let z = steps_few s begins rows n lot last in omega arith) in
          let w : (o : Option ℕ) → o ≡ none
          → (walk_search (record { largest = s.largest; more = not last; allowance = o }) (seek (letter_holds t) t.table.n t.places t.skip (fits (lent_room (length s.lent.numbers) (length s.lent.labels) t.measures)))).state.steps ≤ 18446744073709551615
          → walk_search (record { largest = s.largest; more = not last; allowance = some 18446744073709551615 }) (seek (letter_holds t) t.table.n t.places t.skip (fits (lent_room (length s.lent.numbers) (length s.lent.labels) t.measures)))
          ≡ walk_search (record { largest = s.largest; more = not last; allowance = o }) (seek (letter_holds t) t.table.n t.places t.skip (fits (lent_room (length s.lent.numbers) (length s.lent.labels) t.measures))) =
          λ o d c. rw d (allowed s.largest (not last) (letter_holds t) t.table.n t.places t.skip (fits (lent_room (length s.lent.numbers) (length s.lent.labels) t.measures)) 18446744073709551615 (rw d at c)) in
          w s.allowance e b

      pub memory-same : lot_memory (limited s) rows n last ≡ lot_memory s rows n last
      unfolding lot_memory present_task
      memory-same = ap (λ (r : Swept Kept). accepted (report_of (end_answer r.end) (present_task s rows n) s.lent r) r.state s.lent) walk_same

    pub call_same : (p : Progress) (rows : List ℤ) (n : ℕ) (last : Bool) (now : Buffers) → call_of (limited s) p (arrived rows n) last now ≡ call_of s p (arrived rows n) last now
    unfolding call_of
    call_same p rows n last now = rw (refusal-same p rows n) (go (stays p.result.answer) p.ended (eqb (call_refusal s p rows n) 0) refl)
      where
        next : Memory → Called
        next m = record { progress = record { present = n; ended = last; result = m.result }; memory = m }

        no : Called
        no = unchanged p (refused (call_refusal s p rows n) (offset_at (text_of s.query) (call_refusal s p rows n)) now)

        go : (a b c : Bool) → eqb (call_refusal s p rows n) 0 ≡ c
            → pick {A = Called} a (unchanged p (record { result = p.result; buffers = now })) (pick b (unchanged p (refused 21 0 now)) (pick c (next (lot_memory (limited s) rows n last)) no))
            ≡ pick {A = Called} a (unchanged p (record { result = p.result; buffers = now })) (pick b (unchanged p (refused 21 0 now)) (pick c (next (lot_memory s rows n last)) no))
        go true b c d = refl
        go false true c d = refl
        go false false false d = refl
        go false false true d =
            let z : call_refusal s p rows n ≡ 0 = eqb-true (call_refusal s p rows n) 0 d in
            ap next (memory-same (call-begins s p rows n z) rows n (call-well s p rows n z).1 last)

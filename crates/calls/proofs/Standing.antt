-- What follows of a state that stands for the progress so far: the lengths of the buffers, how it
-- goes on, and that what is kept lies within its bounds.
use mathlib.Core.Path.{◌≡◌, refl, ap, sym, ◌∙◌, subst}
use mathlib.Core.Bool.{Bool, true, false}
use mathlib.Core.List.{List}
use mathlib.Core.Logic.{inl, inr}
use mathlib.Core.Option.{none, some}
use Prim.Native.Nat.{ℕ}
use native.Mathlib.Decide.{ℕ_discrete}
use native.Mathlib.Omega.{arith}
use lib.IntN.{ℤ}
use lib.ListN.{length}
use Rattle.rules.specs.Basics.{pick}
use Rattle.rules.specs.Walk.{Kept}
use Rattle.rules.specs.Search.{Swept}
use Rattle.rules.specs.Report.{labels_of}
use Rattle.rules.specs.Answers.{Buffers, Memory, Result}
use Rattle.rules.specs.Lots.{Named, Progress, begun, present_task, stays, lot_tests, named_pairs, bad_lot, call_refusal, lot_walk, lot_memory, Called, arrived, call_of, Leaves}
use Rattle.lots.specs.declared.Feed.{Feed}
use Rattle.lots.specs.Feeds.{new_feed, Within}
use Rattle.calls.specs.Calls.{Before, After, Allowance, Stands, taken_up, Made}
use Rattle.calls.proofs.Bounds.{answer_stays, waits-more, done-last, waiting-end, matches-are, labels-are, steps_are, matches-behind, opened_within, steps_few, labels_fit, numbers-kept, labels-kept, notes_kept, trail_kept}
use Rattle.calls.proofs.Unlimited.{limited, lot_limited, lot_free, begins-same, leaves-limited, leaves_free, walk_same, memory-same, call_same}

-- `begin` gives a state that stands for what was named
pub begin_stands : (s : Named) (a : ℕ) → Allowance s.allowance a → (rows : List ℤ) → Stands s begun rows (new_feed s.largest a) s.lent
begin_stands s a e rows =
    record {
      largest = refl;
      allowance = e;
      present = refl;
      result = refl;
      new = λ _. record { progress = refl; feed = refl; named = refl };
      was_taken_up = λ d. absurd (d refl);
    }

module _ (s : Named) (pr : Progress) (rows₁ : List ℤ) (f : Feed) (b : Buffers) (st : Stands s pr rows₁ f b) where
  either : {X : Type 0} → (f.begun ≡ 0 → X) → ((f.begun ≡ 0 → ⊥) → X) → X
  either n t = elim (ℕ_discrete f.begun 0) [
    | yes z ↦ n z
    | no d ↦ t d
  ]

  -- ---- every buffer is as long as it was named

  pub notes_long : length b.notes ≡ length s.lent.notes
  notes_long =
      either (λ z. ap (λ (x : Buffers). length x.notes) (st.new z).named)
      (λ d. let u = st.was_taken_up d in ap length u.left.notes ∙ notes_kept s u.begins rows₁ pr.present u.lot pr.ended)

  pub trail_long : length b.trail ≡ length s.lent.trail
  trail_long =
      either (λ z. ap (λ (x : Buffers). length x.trail) (st.new z).named)
      (λ d. let u = st.was_taken_up d in u.left.trail_length ∙ trail_kept s u.begins rows₁ pr.present u.lot pr.ended)

  pub numbers_long : length b.numbers ≡ length s.lent.numbers
  numbers_long =
      either (λ z. ap (λ (x : Buffers). length x.numbers) (st.new z).named)
      (λ d. let u = st.was_taken_up d in ap length u.left.numbers ∙ numbers-kept s u.begins rows₁ pr.present u.lot pr.ended)

  pub labels_long : length b.labels ≡ length s.lent.labels
  labels_long =
      either (λ z. ap (λ (x : Buffers). length x.labels) (st.new z).named)
      (λ d. let u = st.was_taken_up d in ap length u.left.labels ∙ labels-kept s u.begins rows₁ pr.present u.lot pr.ended)

  -- ---- how it goes on

  pub answer_is : pr.result.answer ≡ f.answer
  answer_is = ap (λ (r : Result). r.answer) st.result

  left-answer : (d : f.begun ≡ 0 → ⊥) → (lot_memory s rows₁ pr.present pr.ended).result.answer ≡ f.answer
  left-answer d = sym (ap (λ (r : Result). r.answer) (st.was_taken_up d).left.result) ∙ answer_is

  new_answer : f.begun ≡ 0 → f.answer ≡ 23
  new_answer z = ap (λ (x : Feed). x.answer) (st.new z).feed

  -- 13, 15 and 16 stay
  pub is-stopped : (f.answer ≡ 23 → ⊥) → (f.answer ≡ 0 → ⊥) → stays pr.result.answer ≡ true
  is-stopped x y =
      either (λ z. absurd (x (new_answer z)))
      (λ d.
      let u = st.was_taken_up d in
      let e = left-answer d in
      ap stays (answer_is ∙ sym e) ∙ answer_stays s u.begins rows₁ pr.present u.lot pr.ended (λ h. x (sym e ∙ h)) (λ h. y (sym e ∙ h)))

  by_answer : (a : ℕ) → f.answer ≡ a → stays pr.result.answer ≡ stays a
  by_answer a e = ap stays (answer_is ∙ e)

  -- 0: the end was declared
  pub done-going : f.answer ≡ 0 → stays pr.result.answer ≡ false
  unfolding stays
  done-going e = by_answer 0 e

  pub done-ended : f.answer ≡ 0 → pr.ended ≡ true
  done-ended e =
      either (λ z. let y = new_answer z in absurd (omega arith))
      (λ d. let u = st.was_taken_up d in done-last s u.begins rows₁ pr.present u.lot pr.ended (left-answer d ∙ e))

  -- 23: it waits
  module _ (waiting : f.answer ≡ 23) where
    pub waits-going : stays pr.result.answer ≡ false
    unfolding stays
    waits-going = by_answer 23 waiting

    pub waits-unended : pr.ended ≡ false
    waits-unended =
        either (λ z. ap (λ (x : Progress). x.ended) (st.new z).progress)
        (λ d. let u = st.was_taken_up d in waits-more s u.begins rows₁ pr.present u.lot pr.ended (left-answer d ∙ waiting))

    pub lies_within : Within b.labels f
    lies_within = either by-new by-taken
      where
        by-new : f.begun ≡ 0 → Within b.labels f
        by-new z =
            let e = (st.new z).feed in
            let m : f.matches ≡ 0 = ap (λ (x : Feed). x.matches) e in
            let l : f.labels ≡ 0 = ap (λ (x : Feed). x.labels) e in
            let o : f.opened ≡ 0 = ap (λ (x : Feed). x.opened) e in
            let t : f.steps ≡ 0 = ap (λ (x : Feed). x.steps) e in
            record { few = omega arith; labels = omega arith; opened = omega arith; steps = omega arith }

        by-taken : (f.begun ≡ 0 → ⊥) → Within b.labels f
        by-taken d =
            let u = st.was_taken_up d in
            let n : ℕ = pr.present in
            let la : Bool = pr.ended in
            let w = waiting-end s u.begins rows₁ n u.lot la (left-answer d ∙ waiting) in
            let k = u.waits w.0 w.1.0 w.1.1 in
            let r : (lot_memory s rows₁ n la).result ≡ pr.result = sym u.left.result in
            let m : f.matches ≡ length (lot_walk s rows₁ n la).matches =
            sym (ap (λ (x : Result). x.matches) (r ∙ st.result)) ∙ matches-are s u.begins rows₁ n u.lot la in
            let l : f.labels ≡ length (labels_of (present_task s rows₁ n).places (lot_walk s rows₁ n la).matches) =
            sym (ap (λ (x : Result). x.labels) (r ∙ st.result)) ∙ labels-are s u.begins rows₁ n u.lot la in
            let t : f.steps ≡ (lot_walk s rows₁ n la).state.steps = sym (ap (λ (x : Result). x.steps) (r ∙ st.result)) ∙ steps_are s u.begins rows₁ n u.lot la in
            let a = matches-behind s u.begins rows₁ n u.lot la w.0 w.1.0 w.1.1 in
            let c = labels_fit s u.begins rows₁ n u.lot la in
            let g = labels_long in
            let o = opened_within s u.begins rows₁ n u.lot la w.0 w.1.0 w.1.1 in
            let h = steps_few s u.begins rows₁ n u.lot la in
            let x = k.0 in
            let y = k.1 in
            record { few = omega arith; labels = omega arith; opened = omega arith; steps = omega arith }

-- ---- a call by what it comes to

module _ (s : Named) (pr : Progress) (rows₁ : List ℤ) (i : Before) (o : After) where
  pub made_by : (k : Called) (t : Bool) → call_of s pr (arrived i.rows i.present) i.last i.buffers ≡ k → taken_up s pr i.rows i.present ≡ t → Leaves s k.memory o.memory
      → Stands s k.progress (pick t i.rows rows₁) o.feed o.memory.buffers → (t ≡ false → (o.feed ≡ i.feed) × (o.memory.buffers ≡ i.buffers)) → Made s pr rows₁ i o
  made_by k t ek et l st kept =
      record {
        leaves = subst (λ (x : Called). Leaves s x.memory o.memory) (sym ek) l;
        stands = subst (λ (x : Called). Stands s x.progress (pick (taken_up s pr i.rows i.present) i.rows rows₁) o.feed o.memory.buffers) (sym ek)
            (subst (λ (x : Bool). Stands s k.progress (pick x i.rows rows₁) o.feed o.memory.buffers) (sym et) st);
        kept = λ z. kept (sym et ∙ z);
      }

pub same-leaves : (s : Named) (m : Memory) → Leaves s m m
same-leaves s m = record { result = refl; notes = refl; numbers = refl; labels = refl; trail = λ _. refl; trail_length = refl; trail_beyond = refl }

-- ---- without an allowance

module _ (s : Named) (e : s.allowance ≡ none) where
  pub stands_limited : (pr : Progress) (rows : List ℤ) (f : Feed) (b : Buffers) → f.allowance ≡ 18446744073709551615 → Stands s pr rows f b → Stands (limited s) pr rows f b
  stands_limited pr rows f b ea st =
      record {
        largest = st.largest;
        allowance = inl (ap some (sym ea));
        present = st.present;
        result = st.result;
        new = λ z. let n = st.new z in record { progress = n.progress; feed = n.feed; named = n.named };
        was_taken_up = λ d.
            let u = st.was_taken_up d in
            record {
              begins = begins-same s ∙ u.begins;
              lot = lot_limited s rows pr.present u.lot;
              left = subst (λ (m : Memory). Leaves (limited s) m (record { result = pr.result; buffers = b })) (sym (memory-same s e u.begins rows pr.present u.lot pr.ended))
                  (leaves-limited s (lot_memory s rows pr.present pr.ended) (record { result = pr.result; buffers = b }) u.left);
              waits = λ i p h. u.waits i p (sym (ap (λ (r : Swept Kept). r.end) (walk_same s e u.begins rows pr.present u.lot pr.ended)) ∙ h);
              bytes = u.bytes;
            };
      }

  free_allowance : (a : ℕ) → Allowance (some 18446744073709551615) a → Allowance s.allowance a
  free_allowance a (inl h) = inr (e, let z : 18446744073709551615 ≡ a = cc in sym z)
  free_allowance a (inr h) = let g = h.0 in let z : ◌≡◌ {A = ℕ} 0 1 = cc in absurd (omega arith)

  pub stands_free : (pr : Progress) (rows : List ℤ) (f : Feed) (b : Buffers) → Stands (limited s) pr rows f b → Stands s pr rows f b
  stands_free pr rows f b st =
      record {
        largest = st.largest;
        allowance = free_allowance f.allowance st.allowance;
        present = st.present;
        result = st.result;
        new = λ z. let n = st.new z in record { progress = n.progress; feed = n.feed; named = n.named };
        was_taken_up = λ d.
            let u = st.was_taken_up d in
            let begins = sym (begins-same s) ∙ u.begins in
            let lot = lot_free s rows pr.present u.lot in
            record {
              begins = begins;
              lot = lot;
              left = subst (λ (m : Memory). Leaves s m (record { result = pr.result; buffers = b })) (memory-same s e begins rows pr.present lot pr.ended)
                  (leaves_free s (lot_memory (limited s) rows pr.present pr.ended) (record { result = pr.result; buffers = b }) u.left);
              waits = λ i p h. u.waits i p (ap (λ (r : Swept Kept). r.end) (walk_same s e begins rows pr.present lot pr.ended) ∙ h);
              bytes = u.bytes;
            };
      }

  taken-same : (pr : Progress) (rows : List ℤ) (n : ℕ) → taken_up (limited s) pr rows n ≡ taken_up s pr rows n
  unfolding taken_up call_refusal lot_tests named_pairs bad_lot
  taken-same pr rows n = refl

  pub made-free : (pr : Progress) (rows₁ : List ℤ) (i : Before) (o : After) → Made (limited s) pr rows₁ i o → Made s pr rows₁ i o
  made-free pr rows₁ i o m =
      made_by s pr rows₁ i o (call_of (limited s) pr (arrived i.rows i.present) i.last i.buffers) (taken_up (limited s) pr i.rows i.present) (sym (call_same s e pr i.rows i.present i.last i.buffers))
      (sym (taken-same pr i.rows i.present)) (leaves_free s (call_of (limited s) pr (arrived i.rows i.present) i.last i.buffers).memory o.memory m.leaves)
      (stands_free (call_of (limited s) pr (arrived i.rows i.present) i.last i.buffers).progress (pick (taken_up (limited s) pr i.rows i.present) i.rows rows₁) o.feed o.memory.buffers m.stands)
      m.kept

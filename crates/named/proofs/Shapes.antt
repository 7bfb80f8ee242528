-- The shape's count of columns stands in byte 4 of every query whose records are in order; what
-- `first_answer` tells of answers 1 and 2; and the loop that counts the measures.
use mathlib.Core.Path.{◌≡◌, refl, sym, ap, ◌∙◌}
use mathlib.Core.Bool.{Bool, true, false, not, ◌&&◌, ◌||◌, true≢false}
use mathlib.Core.List.{List, []}
use Prim.Native.Nat.{ℕ, zero, suc, ◌+◌, ◌*◌, ◌≤◌}
use native.Mathlib.Omega.{arith}
use lib.Dec.{eqb, ltb}
use lib.ListN.{length, get_or}
use borrow.Author.Tests.{not-false}
use Rattle.rules.specs.Basics.{pick, keep}
use Rattle.rules.specs.Query.{Record, whole_at, record_at, next_at, records_on, records_from, records, kinds, one_of, some_of, none_left, is_define, is_measure, in_order, cut, misplaced, unfit, first_of_kind, field, columns_of, measure_at, measures_from, parts}
use Rattle.laws.proofs.Choice.{and_left}
use Rattle.records.specs.declared.Read.TheVariants.{Record as whole, Cut}
use Rattle.records.specs.declared.Record.{Record as Whole}
use Rattle.records.specs.Read.{records_at, read_at}
use Rattle.records.proofs.Reading.{found, read_more, read-cut}
use Rattle.records.proofs.Records.{records-end}
use Rattle.query.specs.Order.{first_answer}
use Rattle.named.specs.Outside.{outside, is_three}

-- ---- the shape

shape_first : (q : List ℕ) (t : Bool) (more : ℕ → List Record) → in_order (kinds (records_on t more q 0)) ≡ true → field q (first_of_kind 1 (records_on t more q 0)) 0 ≡ get_or q 4 0
unfolding in_order kinds records_on first_of_kind field
shape_first q false more e = absurd (true≢false (sym e))
shape_first q true more e =
    let z : eqb (record_at q 0).kind 1 ≡ true = and_left (eqb (record_at q 0).kind 1) (one_of 2 (some_of 26 is_define (one_of 4 (some_of 8 is_measure none_left))) (kinds (more (next_at q 0)))) e in
    rw z

shape_from : (k : ℕ) (q : List ℕ) → in_order (kinds (records_from k q 0)) ≡ true → field q (first_of_kind 1 (records_from k q 0)) 0 ≡ get_or q 4 0
unfolding records_from
shape_from zero q e = shape_first q false (λ at. []) e
shape_from (suc k) q e = shape_first q (whole_at q 0) (records_from k q) e

pub shape_is : (q : List ℕ) → misplaced q ≡ false → columns_of q ≡ get_or q 4 0
unfolding misplaced columns_of records
shape_is q e = shape_from (length q) q (not-false (in_order (kinds (records q))) e)

-- a named column is outside the shape in byte 4
abbrev named : List ℕ → ℕ → ℕ → Bool
named q depot month = not (ltb depot (get_or q 4 0) && ltb month (get_or q 4 0))

-- ---- whether the answer is 3

module _ (q : List ℕ) (depot month : ℕ) where
  outside-is : misplaced q ≡ false → outside q depot month ≡ named q depot month
  unfolding outside
  outside-is f = rw (shape_is q f) refl

  -- the answers 1 and 2 come first
  pub three_is : is_three q depot month ≡ (named q depot month && not (eqb (first_answer q) 1 || eqb (first_answer q) 2))
  unfolding is_three first_answer
  three_is = by (cut q) (misplaced q) refl (unfit q)
    where
      and_none : (a b : Bool) → (a && false) ≡ (b && false)
      and_none true true = refl
      and_none true false = refl
      and_none false true = refl
      and_none false false = refl

      by : (a b : Bool) → misplaced q ≡ b → (c : Bool)
          → (outside q depot month && not (a || b)) ≡ (named q depot month && not (eqb (pick a 1 (pick b 2 (pick c 3 0))) 1 || eqb (pick a 1 (pick b 2 (pick c 3 0))) 2))
      by true b f c = and_none (outside q depot month) (named q depot month)
      by false true f c = and_none (outside q depot month) (named q depot month)
      by false false f true = ap (λ (t : Bool). t && true) (outside-is f)
      by false false f false = ap (λ (t : Bool). t && true) (outside-is f)

-- ---- measures

-- those before an index have been counted
pub record Counting (s : List ℕ) (at count : ℕ) : Type 0 where
  pub upto : at ≤ length s
  pub few : 4 * count ≤ at
  pub sum : count + length (measures_from s (records_at s at)) ≡ length (parts s).measures

pub counting_none : (s : List ℕ) → Counting s 0 0
unfolding records_at parts records
counting_none s = record { upto = omega arith; few = omega arith; sum = omega arith }

module _ (s : List ℕ) (at count : ℕ) (c : Counting s at count) where
  module _ (x : Whole) (e : whole x ≡ read_at s at) where
    front : measures_from s (records_at s at) ≡ keep (is_measure x.kind) (measure_at s x.start) (measures_from s (records_at s x.next))
    unfolding measures_from is_measure
    front = ap (measures_from s) (read_more s at x e)

    -- the record is a measure, or another
    pub counting_more : is_measure x.kind ≡ true → Counting s x.next (count + 1)
    counting_more t =
        let f = found s at x e in
        let g : length (measures_from s (records_at s at)) ≡ suc (length (measures_from s (records_at s x.next))) =
        ap length (front ∙ ap (λ (u : Bool). keep u (measure_at s x.start) (measures_from s (records_at s x.next))) t) in
        record { upto = f.inside; few = omega (arith, c.few, f.on); sum = omega (arith, c.sum, g) }

    pub counting_other : is_measure x.kind ≡ false → Counting s x.next count
    counting_other t =
        let f = found s at x e in
        let g : length (measures_from s (records_at s at)) ≡ length (measures_from s (records_at s x.next)) =
        ap length (front ∙ ap (λ (u : Bool). keep u (measure_at s x.start) (measures_from s (records_at s x.next))) t) in
        record { upto = f.inside; few = omega (arith, c.few, f.on); sum = omega (arith, c.sum, g) }

  ended : records_at s at ≡ [] → (count ≡ length (parts s).measures) × (4 * count ≤ length s)
  unfolding measures_from
  ended e =
      let g : length (measures_from s (records_at s at)) ≡ 0 = ap (λ (rs : List Record). length (measures_from s rs)) e in
      (omega (arith, c.sum, g), omega (arith, c.few, c.upto))

  pub counting_cut : Cut ≡ read_at s at → (count ≡ length (parts s).measures) × (4 * count ≤ length s)
  counting_cut e = ended (read-cut s at e)

  pub counting_all : length s ≤ at → (count ≡ length (parts s).measures) × (4 * count ≤ length s)
  counting_all h = ended (records-end s at h)

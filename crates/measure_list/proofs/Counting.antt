-- Measures written into the array: those written and those to come are the measures of the query
-- (`Counting`).
use mathlib.Core.Path.{◌≡◌, refl, sym, ap, ◌∙◌}
use mathlib.Core.Bool.{Bool, true}
use mathlib.Core.List.{List, [], ◌∷◌, ◌++◌, append_assoc, append-nil}
use Prim.Native.Nat.{ℕ, ◌+◌, ◌*◌, ◌-◌, ◌≤◌, ◌<◌}
use native.Mathlib.Omega.{arith}
use lib.Dec.{ltb}
use lib.ListN.{length, get_or}
use borrow.Author.Tests.{eq-eqb, ltb-true, ltb-false}
use Rattle.records.specs.declared.Read.TheVariants.{Record as whole, Cut}
use Rattle.records.specs.declared.Record.{Record as Whole}
use Rattle.rules.specs.Basics.{keep, tabulate}
use Rattle.rules.specs.Query.{Record, columns_of, Measure, measure_at, measures_from, function_fits}
use Rattle.laws.proofs.Choice.{decided}
use Rattle.records.specs.Read.{records_at, read_at}
use Rattle.records.proofs.Records.{records-end}
use Rattle.records.proofs.Reading.{found, read_more, read-cut}
use Rattle.table.specs.Measures.{measure_in, measures_in}
use Rattle.query.specs.Ahead.{Ahead}
use Rattle.query.specs.declared.Stage.TheVariants.{Measures}
use Rattle.measure_list.specs.Measures.{MeasureFits, set_three, measure_of, MeasuresRoom, PutMeasures}
use Rattle.measure_list.specs.declared.Measure.{Measure as Three}
use Rattle.measure_list.proofs.Keeping.{kept_three}
use Rattle.measure_list.proofs.OneMeasure.{measure_old, measure_new, measures_more}
use Rattle.query.proofs.Going.{this_fits, measure_next, measure_says}

pub record Counting (s : List ℕ) (from : ℕ) (measures₀ measures : List ℕ) (at count : ℕ) : Type 0 where
  pub long : length measures ≡ 24
  pub few : count ≤ 8
  pub ahead : Ahead s (Measures (8 - count)) at
  pub is : measures_in measures 0 count ++ measures_from s (records_at s at) ≡ measures_from s (records_at s from)
  pub fit : (k : ℕ) → k < count → MeasureFits (columns_of s) (measure_in measures 0 k)
  pub rest : (j : ℕ) → count * 3 ≤ j → get_or measures j 0 ≡ get_or measures₀ j 0

module _ (s : List ℕ) (from : ℕ) (measures₀ : List ℕ) where
  pub counting_none : MeasuresRoom s from measures₀ → Counting s from measures₀ measures₀ from 0
  unfolding measures_in tabulate
  counting_none r = record { long = r.long; few = omega arith; ahead = r.ahead; is = refl; fit = λ k h. absurd (omega arith); rest = λ j h. refl }

  module _ (measures : List ℕ) (at count : ℕ) (h : Counting s from measures₀ measures at count) where
    ended : records_at s at ≡ [] → PutMeasures s from measures₀ measures count
    unfolding measures_from
    ended e = record {
      long = h.long;
      is = sym (append-nil (measures_in measures 0 count)) ∙ ap (λ (x : List Record). measures_in measures 0 count ++ measures_from s x) (sym e) ∙ h.is;
      few = h.few;
      fit = h.fit;
      rest = h.rest;
    }

    pub counting_all : length s ≤ at → PutMeasures s from measures₀ measures count
    counting_all w = ended (records-end s at w)

    pub counting_cut : Cut ≡ read_at s at → PutMeasures s from measures₀ measures count
    counting_cut e = ended (read-cut s at e)

    module _ (x : Whole) (e : whole x ≡ read_at s at) where
      next : (x.kind ≡ 5) × (0 < 8 - count) × Ahead s (Measures (8 - count - 1)) x.next
      next = measure_next s at x e (8 - count) h.ahead

      says : (x.len ≡ 4) × (function_fits (columns_of s) (get_or s x.start 0) (get_or s (x.start + 1) 0) (get_or s (x.start + 2) 0) ≡ true)
      says = measure_says s (columns_of s) x.kind x.start x.len (this_fits s (Measures (8 - count)) at h.ahead x e) next.0

      pub counting_bytes : x.start + 4 ≤ length s
      counting_bytes = let f = found s at x e in let i = f.inside in let j = f.body in let y = says.0 in omega arith

      pub counting_room : count < 8
      counting_room = let y = next.1 in omega arith

      front : measures_from s (records_at s at) ≡ measure_at s x.start ∷ measures_from s (records_at s x.next)
      unfolding measures_from
      front = ap (measures_from s) (read_more s at x e) ∙ ap (λ (t : Bool). keep t (measure_at s x.start) (measures_from s (records_at s x.next))) (eq-eqb x.kind 5 next.0)

      module _ (v : Three) (ev : measure_of v ≡ measure_at s x.start) (measures' : List ℕ) (em₀ : measures' ≡ set_three measures (count * 3) v.function v.letter v.column) where
        put : measures' ≡ set_three measures (0 + count * 3) v.function v.letter v.column
        put = em₀ ∙ ap (λ (i : ℕ). set_three measures i v.function v.letter v.column) (let e : count * 3 ≡ 0 + count * 3 = omega arith in e)

        pub counting_more : Counting s from measures₀ measures' x.next (count + 1)
        unfolding measure_at
        counting_more =
            let lg = h.long in
            let cr = counting_room in
            let t = kept_three measures (0 + count * 3) v.function v.letter v.column in
            let em : measures' ≡ set_three measures (0 + count * 3) v.function v.letter v.column = put in
            let fit3 : 0 + count * 3 + 3 ≤ length measures = omega arith in
            let new : measure_in measures' 0 count ≡ measure_at s x.start = ap (λ (u : List ℕ). measure_in u 0 count) em
            ∙ measure_new measures 0 count v.function v.letter v.column fit3 ∙ ev in
            let more : measures_in measures' 0 (count + 1) ≡ measures_in measures 0 count ++ (measure_at s x.start ∷ []) =
            ap (λ (u : List ℕ). measures_in u 0 (count + 1)) em ∙ measures_more measures 0 count v.function v.letter v.column fit3
            ∙ ap (λ (u : Measure). measures_in measures 0 count ++ (u ∷ [])) ev in
            record {
              long = ap length em ∙ t.long ∙ lg;
              few = omega arith;
              ahead = let i : 8 - (count + 1) ≡ 8 - count - 1 = omega arith in rw i next.2;
              is =
                  ap (λ (u : List Measure). u ++ measures_from s (records_at s x.next)) more
                  ∙ append_assoc (measures_in measures 0 count) (measure_at s x.start ∷ []) (measures_from s (records_at s x.next))
                  ∙ ap (λ (u : List Measure). measures_in measures 0 count ++ u) (sym front) ∙ h.is;
              fit = λ j g. decided (ltb j count)
                  (λ w. let i = ltb-true j count w in rw em (rw (measure_old measures 0 count v.function v.letter v.column j i) (h.fit j i)))
                  (λ w. let i : j ≡ count = let u = ltb-false j count w in omega arith in rw (i, new) says.1);
              rest = λ j g. ap (λ (u : List ℕ). get_or u j 0) em ∙ t.behind j (omega arith) ∙ h.rest j (omega arith);
            }

-- The whole of a query: its shape and text are the first two records, the skip stands behind the
-- DEFINEs, the measures behind the skip; so what was read one after the other are the query's
-- parts.
use mathlib.Core.Path.{◌≡◌, refl, sym, ap, ◌∙◌}
use mathlib.Core.Bool.{true, false, ◌||◌}
use mathlib.Core.List.{List, ◌∷◌}
use Prim.Native.Nat.{ℕ, ◌+◌, ◌*◌, ◌^◌, ◌≤◌, ◌<◌}
use mir.Syntax.{w64}
use mir.Val.{Fits}
use native.Mathlib.Omega.{arith}
use lib.Dec.{eqb}
use lib.ListN.{length, get_or, take, drop}
use borrow.Author.Tests.{eq-eqb, ne_eqb}
use Rattle.records.specs.declared.Read.TheVariants.{Record as whole, Cut}
use Rattle.records.specs.declared.Record.{Record as Whole}
use Rattle.rules.specs.Basics.{is_letter}
use Rattle.rules.specs.Query.{Record, records, field, first_of_kind, columns_of, is_define, defined, text_of, condition_from, measures_from, parts}
use Rattle.records.specs.Read.{record_of, records_at, read_at}
use Rattle.query.specs.Order.{first_answer}
use Rattle.records.proofs.Reading.{found, read_more, field-first}
use Rattle.query.proofs.Order.{columns-at}
use Rattle.decode.specs.Layout.{DecodeRoom, Decoded}
use Rattle.define_list.specs.declared.Behind.{Behind}
use Rattle.decode.specs.declared.Head.{Head}
use Rattle.decode.specs.declared.Tail.{Tail}
use Rattle.query.specs.Ahead.{Ahead}
use Rattle.query.specs.declared.Stage.TheVariants.{Shape, Text, Defines, Measures}
use Rattle.decode.specs.Steps.{HeadOf, TailRoom, TailOf}
use Rattle.define_list.specs.Defines.{PutDefines}
use Rattle.measure_list.specs.Measures.{MeasuresRoom, PutMeasures}
use Rattle.query.proofs.Going.{at-start, before-end, not-cut, this_fits, shape_next, text-next, skip_next, shape_says, text_says, skip_says}
use Rattle.define_list.proofs.Defines.{other-kind, not-define}

-- ---- a record of another kind in front

module _ (s : List ℕ) (k b m : ℕ) (rs : List Record) where
  other-first : (j : ℕ) → (k ≡ j → ⊥) → first_of_kind j (record_of k b m ∷ rs) ≡ first_of_kind j rs
  unfolding first_of_kind
  other-first j f = simp (ne_eqb k j f)

  this_first : (j : ℕ) → k ≡ j → first_of_kind j (record_of k b m ∷ rs) ≡ record_of k b m
  unfolding first_of_kind
  this_first j e = simp (eq-eqb k j e)

  other-letters : (letter : ℕ) → is_define k ≡ false → condition_from s (record_of k b m ∷ rs) letter ≡ condition_from s rs letter
  unfolding condition_from
  other-letters letter f = simp f

  other-measures : (k ≡ 5 → ⊥) → measures_from s (record_of k b m ∷ rs) ≡ measures_from s rs
  unfolding measures_from
  other-measures f = simp (ne_eqb k 5 f)

-- ---- the shape and the text

module _ (s : List ℕ) (clean : first_answer s ≡ 0) where
  start : Ahead s Shape 0
  start = at-start s clean

  pub first-inside : 0 < length s
  first-inside = before-end s Shape 0 start (λ e. omega arith)

  pub first-whole : Cut ≡ read_at s 0 → ⊥
  first-whole e = not-cut s Shape 0 start (λ w. omega arith) e

  module _ (x1 : Whole) (e1 : whole x1 ≡ read_at s 0) where
    shape : (x1.kind ≡ 1) × Ahead s Text x1.next
    shape = shape_next s 0 x1 e1 start

    shaped : (x1.len ≡ 2) × (1 ≤ get_or s x1.start 0) × (get_or s x1.start 0 ≤ 8)
    shaped = shape_says s (columns_of s) x1.kind x1.start x1.len (this_fits s Shape 0 start x1 e1) shape.0

    pub shape_inside : x1.start < length s
    shape_inside = let f = found s 0 x1 e1 in let i = f.inside in let j = f.body in let y = shaped.0 in omega arith

    all_records : records s ≡ record_of x1.kind x1.start x1.len ∷ records_at s x1.next
    unfolding records records_at
    all_records = read_more s 0 x1 e1

    columns_are : columns_of s ≡ get_or s x1.start 0
    columns_are = columns-at s x1.kind x1.start x1.len (records_at s x1.next) shape.0 (sym all_records)

    pub second-inside : x1.next < length s
    second-inside = before-end s Text x1.next shape.1 (λ e. omega arith)

    pub second-whole : Cut ≡ read_at s x1.next → ⊥
    second-whole e = not-cut s Text x1.next shape.1 (λ w. omega arith) e

    module _ (x2 : Whole) (e2 : whole x2 ≡ read_at s x1.next) where
      text : (x2.kind ≡ 2) × Ahead s (Defines 26) x2.next
      text = text-next s x1.next x2 e2 shape.1

      both : List Record
      both = record_of x2.kind x2.start x2.len ∷ records_at s x2.next

      both-records : records s ≡ record_of x1.kind x1.start x1.len ∷ both
      unfolding both
      both-records = all_records ∙ ap (λ (x : List Record). record_of x1.kind x1.start x1.len ∷ x) (read_more s x1.next x2 e2)

      not_first : (j : ℕ) → 1 < j → x1.kind ≡ j → ⊥
      not_first j h w = let z = shape.0 in omega arith

      not-second : (j : ℕ) → 2 < j → x2.kind ≡ j → ⊥
      not-second j h w = let z = text.0 in omega arith

      -- neither is a DEFINE
      no-first : is_define x1.kind ≡ false
      no-first = other-kind x1.kind 1 shape.0 (λ w. omega arith) (λ w. omega arith)

      no_second : is_define x2.kind ≡ false
      no_second = other-kind x2.kind 2 text.0 (λ w. omega arith) (λ w. omega arith)

      text-is : take x2.len (drop x2.start s) ≡ text_of s
      unfolding text_of both
      text-is = ap (λ (x : Record). take x.len (drop x.start s)) (sym (ap (first_of_kind 2) both-records ∙ other-first s x1.kind x1.start x1.len both 2 (not_first 2 (omega arith))
          ∙ this_first s x2.kind x2.start x2.len (records_at s x2.next) 2 text.0))

      skip_is : first_of_kind 4 (records_at s x2.next) ≡ first_of_kind 4 (records s)
      unfolding both
      skip_is = sym (ap (first_of_kind 4) both-records ∙ other-first s x1.kind x1.start x1.len both 4 (not_first 4 (omega arith))
          ∙ other-first s x2.kind x2.start x2.len (records_at s x2.next) 4 (not-second 4 (omega arith)))

      all_are : defined s (records_at s x2.next) ≡ defined s (records s)
      unfolding both
      all_are = sym (ap (defined s) both-records ∙ not-define s (record_of x1.kind x1.start x1.len) both no-first
          ∙ not-define s (record_of x2.kind x2.start x2.len) (records_at s x2.next) no_second)

      letters-are : (letter : ℕ) → condition_from s (records_at s x2.next) letter ≡ condition_from s (records s) letter
      unfolding both
      letters-are letter =
          sym (ap (λ (x : List Record). condition_from s x letter) both-records ∙ other-letters s x1.kind x1.start x1.len both letter no-first
          ∙ other-letters s x2.kind x2.start x2.len (records_at s x2.next) letter no_second)

      measures_are : measures_from s (records_at s x2.next) ≡ measures_from s (records s)
      unfolding both
      measures_are = sym (ap (measures_from s) both-records ∙ other-measures s x1.kind x1.start x1.len both (not_first 5 (omega arith))
          ∙ other-measures s x2.kind x2.start x2.len (records_at s x2.next) (not-second 5 (omega arith)))

      pub head_is : (columns : ℕ) → columns ≡ get_or s x1.start 0 → HeadOf s (record { columns = columns; start = x2.start; len = x2.len; next = x2.next })
      head_is columns ec =
          let z1 = shaped.1 in
          let z2 = shaped.2 in
          let f = found s x1.next x2 e2 in
          let i = f.inside in
          let j = f.body in
          record {
            columns = ec ∙ sym columns_are;
            some = omega arith;
            most = omega arith;
            text = text-is;
            inside = omega arith;
            short = text_says s (columns_of s) x2.kind x2.start x2.len (this_fits s Text x1.next shape.1 x2 e2) text.0;
            ahead = text.1;
            skip = skip_is;
            all = all_are;
            letters = letters-are;
            measures = measures_are;
          }

-- ---- the skip and the measures

module _ (s : List ℕ) (at : ℕ) (measures₀ : List ℕ) (room : TailRoom s at measures₀) where
  pub skip_there : at < length s
  skip_there = before-end s (Defines 0) at room.ahead (λ e. omega arith)

  pub skip_whole : Cut ≡ read_at s at → ⊥
  skip_whole e = not-cut s (Defines 0) at room.ahead (λ w. omega arith) e

  module _ (x : Whole) (e : whole x ≡ read_at s at) where
    skip : (x.kind ≡ 4) × Ahead s (Measures 8) x.next
    skip = skip_next s at x e room.ahead

    skipped : (x.len ≡ 2) × (get_or s x.start 0 ≤ 3) × ((eqb (get_or s (x.start + 1) 0) 0 || is_letter (get_or s (x.start + 1) 0)) ≡ true)
    skipped = skip_says s (columns_of s) x.kind x.start x.len (this_fits s (Defines 0) at room.ahead x e) skip.0

    pub target_inside : x.start + 1 < length s
    target_inside = let f = found s at x e in let i = f.inside in let j = f.body in let y = skipped.0 in omega arith

    -- no list in memory is so long that an index into it would not fit
    pub target_fits : length s * 1 < 2 ^ 63 → Fits w64 (x.start + 1)
    target_fits h = let a = target_inside in record { fits = omega arith }

    pub skip_inside : x.start < length s
    skip_inside = omega (arith, target_inside)

    pub measures_room : MeasuresRoom s x.next measures₀
    measures_room = record { ahead = skip.1; long = room.long }

    -- the skip is the first of its kind from here on
    the_skip : record_of x.kind x.start x.len ≡ first_of_kind 4 (records_at s at)
    the_skip = sym (ap (first_of_kind 4) (read_more s at x e) ∙ this_first s x.kind x.start x.len (records_at s x.next) 4 skip.0)

    second-byte : get_or s (x.start + 1) 0 ≡ field s (record_of x.kind x.start x.len) 1
    unfolding field
    second-byte = refl

    pub tail-is : (mode : ℕ) → mode ≡ get_or s x.start 0 → (target : ℕ) → target ≡ get_or s (x.start + 1) 0 → (measures : List ℕ) (count : ℕ) → PutMeasures s x.next measures₀ measures count
        → TailOf s at measures₀ measures (record { skip = mode; target = target; measures = count })
    tail-is mode em target et measures count p =
        let y = skipped.1 in
        record {
          long = p.long;
          skip = em ∙ sym (field-first s x.kind x.start x.len) ∙ ap (λ (x : Record). field s x 0) the_skip;
          mode = omega arith;
          target = et ∙ second-byte ∙ ap (λ (x : Record). field s x 1) the_skip;
          lettered = ap (λ (c : ℕ). eqb c 0 || is_letter c) et ∙ skipped.2;
          is = p.is ∙ sym (ap (measures_from s) (read_more s at x e) ∙ other-measures s x.kind x.start x.len (records_at s x.next) (λ w. let z = skip.0 in omega arith));
          few = p.few;
          fit = p.fit;
          rest = p.rest;
        }

-- ---- all

module _ (s measures₀ : List ℕ) (room : DecodeRoom s measures₀) (h : Head) (f : HeadOf s h) (defines : List ℕ) (v : Behind) (d : PutDefines s h.next defines v) where
  pub decoded : (measures : List ℕ) (t : Tail) → TailOf s v.at measures₀ measures t
      → Decoded s measures₀ defines measures (record { columns = h.columns; start = h.start; len = h.len; skip = t.skip; target = t.target; measures = t.measures; twice = v.twice; letters = v.letters })
  unfolding parts
  decoded measures t g = record {
    counted = d.counted;
    long = g.long;
    columns = f.columns;
    some = f.some;
    most = f.most;
    text = f.text;
    inside = f.inside;
    short = f.short;
    skip = g.skip ∙ ap (λ (x : Record). field s x 0) (d.skip ∙ f.skip);
    mode = g.mode;
    target = g.target ∙ ap (λ (x : Record). field s x 1) (d.skip ∙ f.skip);
    lettered = g.lettered;
    letters = λ l w. rw (f.columns, ← f.letters (65 + l)) (d.letters l w);
    measured = g.is ∙ d.measures ∙ f.measures;
    few = g.few;
    fit = λ k w. rw f.columns (g.fit k w);
    rest = g.rest;
    doubled = d.doubled;
    upto = d.upto;
    free = d.free;
  }

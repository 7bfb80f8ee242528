-- A query that was read, and a table with room for it: the measures, the tests and the places may
-- be put one after the other, and then table and numbers stand for the query.
use mathlib.Core.Path.{◌≡◌, refl, ap, ap₂, sym, ◌∙◌}
use mathlib.Core.Bool.{Bool, true, false, ◌||◌}
use mathlib.Core.List.{List}
use Rattle.std.specs.Prelude.{Ok, Err, Some, None}
use Rattle.refusals.specs.declared.Refusal.{Refusal}
use Prim.Native.Nat.{ℕ, ◌+◌, ◌*◌, ◌≤◌, ◌<◌, min}
use native.Mathlib.Nat.{mul-le-mul}
use native.Mathlib.Omega.{arith}
use mir.Syntax.{w64}
use mir.Val.{Fits}
use lib.Dec.{ltb}
use lib.ListN.{length, get_or, drop, length-take}
use borrow.Author.Tests.{ltb-true, ltb-false}
use Rattle.rules.specs.Query.{text_of, parts}
use Rattle.rules.specs.Language.{Tree, pattern, Written}
use Rattle.rules.specs.Places.{places_of, factor_of}
use Rattle.rules.specs.Answers.{tree_in, P, F}
use Rattle.laws.proofs.Bounds.{Lettered, written-letters}
use Rattle.laws.proofs.Grammar.{tree-exactly}
use Rattle.laws.proofs.Level.{or-false}
use Rattle.define_list.specs.Defines.{Body}
use Rattle.table.specs.Measures.{measures_in}
use Rattle.measure_list.specs.Measures as M
use Rattle.measure_list.proofs.Tabling.{measures_kept, measurable_kept, put_measurable}
use Rattle.tests.specs.Prepared as T
use Rattle.tests.proofs.Uses.{countable, tests-kept, defined-kept}
use Rattle.forks.specs.Emitting as E
use Rattle.places.proofs.Spelling.{all_letters}
use Rattle.letter_places.specs.Pointing.{Points, Pointing}
use Rattle.letter_places.proofs.Same.{pointed, places_same, sized_same}
use Rattle.reading.specs.Reading.{query_answer, Asked}
use Rattle.reading.specs.declared.Query.{Query}
use Rattle.prepared.specs.declared.Prepared.{Prepared}
use Rattle.table_room.specs.Words.{measures_at, tests_at, needed, Sizing}
use Rattle.prepared.specs.Ready.{Ready, Fills, PreparedAs}
use Rattle.prepared.proofs.Clear.{few_places, few_values}

-- ---- the table is filled

module _ (s nodes defines measures : List ℕ) (q : Query) (T₀ : List ℕ) (f : Fills s nodes defines measures q T₀) where
  abbrev tree : Tree pattern
  tree = f.whole.good.tree

  pub places_are : q.places ≡ places_of tree
  unfolding P
  places_are = f.whole.good.places ∙ ap P f.whole.good.is

  pub factor-is : q.factor ≡ factor_of tree
  unfolding F
  factor-is = f.whole.good.factor ∙ ap F f.whole.good.is

  pub few_P : q.places ≤ 256
  few_P = omega (arith, f.whole.good.places, few_places s f.none)

  pub few_F : q.factor ≤ 8
  few_F = omega (arith, f.whole.good.factor, few_values s f.none tree f.whole.good.is)

  fill_few : q.places * q.factor ≤ 2048
  fill_few = mul-le-mul few_P few_F

  pub fill_entries : Fits w64 (q.places * q.factor)
  fill_entries = let a = fill_few in record { fits = omega arith }

  pub fill_measured : Fits w64 (7 * (q.places * q.factor))
  fill_measured = let a = fill_few in record { fits = omega arith }

  pub fill_behind : Fits w64 (7 * (q.places * q.factor) + 24)
  fill_behind = let a = fill_few in record { fits = omega arith }

  pub room : tests_at (q.places * q.factor) + 416 + T.words_for s defines q.letters ≤ length T₀
  unfolding needed
  room = f.room

  pub fill_count : q.measures ≤ 8
  fill_count = omega (arith, f.whole.good.measured, f.whole.decoded.few)

  pub fill_room : measures_at (q.places * q.factor) + 24 ≤ length T₀
  fill_room = omega (arith, room)

  body : (l : ℕ) → l < 26 → (get_or defines l 0 ≡ 0 → ⊥) → Body s q.columns (get_or defines l 0)
  body l h d = rw f.whole.good.columns ((f.whole.decoded.letters l h).body d)

  some_columns : 1 ≤ q.columns
  some_columns = omega (arith, f.whole.good.columns, f.whole.decoded.some)

  most_columns : q.columns ≤ 8
  most_columns = omega (arith, f.whole.good.columns, f.whole.decoded.most)

  pub the_written : Written tree (text_of s)
  unfolding tree_in
  the_written = (tree-exactly (text_of s) tree).0 f.whole.good.is

  pub short_text_lem : length (text_of s) ≤ 256
  unfolding parts
  short_text_lem =
      let d = f.whole.decoded in
      let e : length (text_of s) ≡ min f.whole.parts.len (length (drop f.whole.parts.start s)) = ap length (sym d.text) ∙ length-take _ _ in
      omega (arith, e, d.short)

  module _ (T₁ : List ℕ) (m : M.MeasuresTabled measures q.measures T₀ T₁ (measures_at (q.places * q.factor))) where
    pub fill_tests : T.Preparable s q.columns defines q.letters T₁ (tests_at (q.places * q.factor))
    fill_tests =
        record {
          some = some_columns;
          few = most_columns;
          upto = omega (arith, f.whole.good.letters, f.whole.decoded.upto);
          free = λ l h w. f.whole.decoded.free l (omega (arith, f.whole.good.letters)) w;
          body = body;
          room = rw m.long room;
          small = rw m.long f.small;
        }

    module _ (T₂ : List ℕ) (t : T.Prepared s q.columns defines T₁ T₂ (tests_at (q.places * q.factor))) where
      pub the_lettered : Lettered tree
      the_lettered = written-letters the_written

      unfoldable pub fill_places : E.Unrolling nodes q.top q.places q.factor T₂
      fill_places =
          record {
            tree = tree;
            is = f.whole.good.top;
            spelt = all_letters tree the_lettered;
            text = text_of s;
            written = the_written;
            short = short_text_lem;
            count = places_are;
            factor = factor-is;
            few = few_P;
            nested = few_F;
            long = let l = room in let a = t.len in let b = m.long in omega arith;
            small = let l = f.small in let a = t.len in let b = m.long in omega arith;
          }

      module _ (T₃ : List ℕ) (end : ℕ) (u : (h : E.Unrolling nodes q.top q.places q.factor T₂) → E.PlacesTabled h.tree (q.places * q.factor) T₂ T₃ end) where
        tabled : E.PlacesTabled tree (q.places * q.factor) T₂ T₃ end
        unfolding fill_places
        tabled = u fill_places

        pub fill_points : Points T₃ (q.places * q.factor) (tests_at (q.places * q.factor))
        fill_points = record { long = tabled.sized.long; small = let l = room in let k = f.small in omega arith }

        module _ (T₄ : List ℕ) (o : Pointing T₃ T₄ (q.places * q.factor) (tests_at (q.places * q.factor))) where
          -- the words behind those of the places are as they were
          behind : (j : ℕ) → measures_at (q.places * q.factor) ≤ j → get_or T₄ j 0 ≡ get_or T₂ j 0
          behind j h = o.behind j (omega arith) ∙ tabled.kept j (let e = tabled.few.1 in omega arith)

          -- and those of the measures are as they were put
          measured : (j : ℕ) → measures_at (q.places * q.factor) ≤ j → j < measures_at (q.places * q.factor) + 24 → get_or T₄ j 0 ≡ get_or T₁ j 0
          measured j h k = behind j h ∙ t.kept j (omega arith)

          the_measures : M.Measurable T₄ (measures_at (q.places * q.factor)) q.measures q.columns
          the_measures =
              measurable_kept T₁ T₄ (measures_at (q.places * q.factor)) q.measures fill_count measured q.columns (o.len ∙ tabled.len ∙ t.len)
              (put_measurable measures q.measures T₀ T₁ (measures_at (q.places * q.factor)) q.columns m
              (let a = fill_room in let b = fill_count in let e = m.long in omega arith)
              (λ k h. rw f.whole.good.columns (f.whole.decoded.fit k (rw f.whole.good.measured at h))))

          pub fill_ready : (p : Prepared)
              → p ≡ record { places = q.places * q.factor; columns = q.columns; count = q.measures; skip = q.skip; target = q.target } → Ready s T₄ p
          fill_ready p e =
              rw e
              (record {
                none = f.none;
                tree = tree;
                has_tree = f.whole.good.is;
                places_are = ap₂ ◌*◌ places_are factor-is;
                few = fill_few;
                placed = places_same T₃ T₄ (q.places * q.factor) (tests_at (q.places * q.factor)) o tabled.sized tabled.behind ∙ tabled.is;
                sized = sized_same T₃ T₄ (q.places * q.factor) (tests_at (q.places * q.factor)) o tabled.sized tabled.behind;
                columns_are = f.whole.good.columns ∙ f.whole.decoded.columns;
                some_columns = some_columns;
                most_columns = most_columns;
                tests = tests-kept s q.columns defines T₁ T₂ (tests_at (q.places * q.factor)) t T₄ (o.len ∙ tabled.len) (λ j h. behind j (omega arith));
                pointed = pointed T₃ T₄ (q.places * q.factor) (tests_at (q.places * q.factor)) o;
                letters = λ l h. defined-kept s q.columns defines T₁ T₂ (tests_at (q.places * q.factor)) t T₄ (o.len ∙ tabled.len) (λ j k. behind j (omega arith)) l h ∙ (f.whole.decoded.letters l h).is;
                measures_are = measures_kept T₁ T₄ (measures_at (q.places * q.factor)) q.measures fill_count measured ∙ m.is ∙ ap (measures_in measures 0) f.whole.good.measured ∙ f.whole.decoded.measured;
                count_few = fill_count;
                measurable = the_measures;
                skip_is = f.whole.good.skip ∙ f.whole.decoded.skip;
                target_is = f.whole.good.target ∙ f.whole.decoded.target;
              })

-- ---- the ways through `prepare_in`

module _ (s measures₀ nodes defines measures T : List ℕ) where
  pub not_ready : (e : Refusal) → Asked s measures₀ nodes defines measures (Err e) → PreparedAs s T T (Some (Err e))
  not_ready e a = record { told = record { told = record { answer = a.answer; offset = a.offset } }; len = refl }

  module _ (q : Query) (a : Asked s measures₀ nodes defines measures (Ok q)) where
    none_lem : query_answer s ≡ 0
    none_lem = sym a.answer

    few_all : q.places * q.factor ≤ 2048
    few_all =
        let w = a.good in
        mul-le-mul (let x : q.places ≤ 256 = omega (arith, w.good.places, few_places s none_lem) in x)
        (let x : q.factor ≤ 8 = omega (arith, w.good.factor, few_values s none_lem w.good.tree w.good.is) in x)

    pub all_fits : Fits w64 (q.places * q.factor)
    all_fits = record { fits = omega (arith, few_all) }

    pub sizing : Sizing s defines (q.places * q.factor) q.letters
    sizing =
        let w = a.good in
        record {
          few = few_all;
          countable = countable s w.parts.columns defines q.letters (omega (arith, w.good.letters, w.decoded.upto)) (λ l h d. (w.decoded.letters l h).body d);
        }

    module _ (k : ℕ) (ek : (k ≡ needed s defines (q.places * q.factor) q.letters) × (k ≤ 16076)) (t : Bool) (et : t ≡ (ltb (length T) k || ltb 65535 (length T))) where
      pub too_short : t ≡ true → PreparedAs s T T None
      too_short f = record { told = λ l. by (ltb (length T) k) refl l; len = refl }
        where
          by : (b : Bool) → ltb (length T) k ≡ b → 16076 ≤ length T → 65536 ≤ length T
          by true g l = absurd (let y = ltb-true (length T) k g in let x = ek.1 in omega arith)
          by false g l = let y = ltb-true 65535 (length T) (sym (rw g at et) ∙ f) in omega arith

      pub may_fill : t ≡ false → Fills s nodes defines measures q T
      may_fill f =
          let g = or-false (ltb (length T) k) (ltb 65535 (length T)) (sym et ∙ f) in
          let x = ltb-false (length T) k g.0 in
          let y = ltb-false 65535 (length T) g.1 in
          record { none = none_lem; measures₀ = measures₀; whole = a.good; room = rw (← ek.0) x; small = omega arith }

  pub filled : (T' : List ℕ) → length T' ≡ length T → (p : Prepared) → Ready s T' p → PreparedAs s T T' (Some (Ok p))
  filled T' l p h = record { told = record { told = h }; len = l }

-- what the proof of `prepare_in` cites
pub ruleset prepares = (not_ready, all_fits, sizing, too_short, may_fill, filled)

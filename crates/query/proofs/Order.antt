-- The pass for answers 1, 2 and 3. A stage follows another as the order of kinds says, by the ways
-- through `after`; what the pass has seen up to an index, with what is to come, is what the
-- definitions say of the whole query (`Judged`).
use mathlib.Core.Path.{◌≡◌, refl, sym, ap, ◌∙◌}
use mathlib.Core.Bool.{Bool, true, false, not, ◌&&◌, and_assoc}
use mathlib.Core.List.{List, [], ◌∷◌}
use Prim.Native.Nat.{ℕ, zero, suc, ◌-◌, ◌≤◌, ◌<◌}
use native.Mathlib.Omega.{arith}
use lib.Dec.{eqb}
use lib.ListN.{length, get_or}
use borrow.Author.Tests.{eq-eqb, ne_eqb, eqb-true, eqb-false}
use Rattle.records.specs.declared.Read.TheVariants.{Record as whole, Cut}
use Rattle.records.specs.declared.Record.{Record as Whole}
use Rattle.rules.specs.Basics.{pick, every}
use Rattle.rules.specs.Query.{Record, records, one_of, some_of, none_left, is_define, is_measure, in_order, kinds, misplaced, first_of_kind, record_fits, columns_of, unfit}
use Rattle.laws.proofs.Choice.{decided}
use Rattle.records.specs.Kinds.{Unknown}
use Rattle.records.specs.Read.{records_at, record_of, read_at}
use Rattle.query.specs.declared.Stage.{Stage}
use Rattle.query.specs.declared.Stage.TheVariants.{Shape, Text, Defines, Measures, OutOfOrder}
use Rattle.query.specs.Order.{rest_of, place, Follows, first_answer}
use Rattle.records.proofs.Records.{records-end}
use Rattle.records.proofs.Reading.{read_more, Along, along_none, along_more, along_cut, along_all, field-first}

-- ---- the order of kinds

module _ (k : ℕ) (rest : List ℕ → Bool) (x : ℕ) (ks : List ℕ) where
  one-yes : x ≡ k → one_of k rest (x ∷ ks) ≡ rest ks
  unfolding one_of
  one-yes e = simp (eq-eqb x k e)

  one-no : (x ≡ k → ⊥) → one_of k rest (x ∷ ks) ≡ false
  unfolding one_of
  one-no e = simp (ne_eqb x k e)

module _ (f : ℕ → Bool) (rest : List ℕ → Bool) (x : ℕ) (ks : List ℕ) where
  some_more : (m : ℕ) → 0 < m → f x ≡ true → some_of m f rest (x ∷ ks) ≡ some_of (m - 1) f rest ks
  unfolding some_of
  some_more zero h e = absurd (omega arith)
  some_more (suc m) h e = simp e (ap (λ (j : ℕ). some_of j f rest ks) (let q : m ≡ suc m - 1 = omega arith in q))

  some-other : (m : ℕ) → f x ≡ false → some_of m f rest (x ∷ ks) ≡ rest (x ∷ ks)
  unfolding some_of
  some-other zero e = refl
  some-other (suc m) e = simp e

  some-full : (m : ℕ) → m ≡ 0 → some_of m f rest (x ∷ ks) ≡ rest (x ∷ ks)
  unfolding some_of
  some-full m e = ap (λ (j : ℕ). some_of j f rest (x ∷ ks)) e

some-nil : (m : ℕ) (f : ℕ → Bool) (rest : List ℕ → Bool) → some_of m f rest [] ≡ rest []
unfolding some_of
some-nil zero f rest = refl
some-nil (suc m) f rest = refl

-- the skip is no DEFINE
skip_other : (k : ℕ) → k ≡ 4 → is_define k ≡ false
unfolding is_define
skip_other k e = simp (ne_eqb k 3 (λ q. omega arith), ne_eqb k 6 (λ q. omega arith))

-- what follows the skip, a DEFINE that is the last, the text, the shape
abbrev skipped : List ℕ → Bool
skipped = some_of 8 is_measure none_left

abbrev defined : List ℕ → Bool
defined = one_of 4 skipped

abbrev texted : List ℕ → Bool
texted = some_of 26 is_define defined

abbrev shaped : List ℕ → Bool
shaped = one_of 2 texted

module _ (kind : ℕ) where
  pub shape_yes : kind ≡ 1 → Follows Text Shape kind
  unfolding rest_of
  shape_yes g = record { rest = λ ks. sym (one-yes 1 shaped kind ks g); on = omega arith; known = λ q. omega arith; first = λ q z. g }

  pub text_yes : kind ≡ 2 → Follows (Defines 26) Text kind
  unfolding rest_of
  text_yes g = record { rest = λ ks. sym (one-yes 2 texted kind ks g); on = omega arith; known = λ q. omega arith; first = λ q z. absurd (omega arith) }

  module _ (left : ℕ) where
    pub skip_yes : kind ≡ 4 → Follows (Measures 8) (Defines left) kind
    unfolding rest_of
    skip_yes g = record {
      rest = λ ks. sym (some-other is_define defined kind ks left (skip_other kind g) ∙ one-yes 4 skipped kind ks g);
      on = omega arith;
      known = λ q. omega arith;
      first = λ q z. absurd (omega arith);
    }

    pub defines_more : is_define kind ≡ true → 0 < left → Follows (Defines (left - 1)) (Defines left) kind
    unfolding rest_of
    defines_more g h = record { rest = λ ks. sym (some_more is_define defined kind ks left h g); on = omega arith; known = λ q. omega arith; first = λ q z. absurd (omega arith) }

    pub measures_more : kind ≡ 5 → 0 < left → Follows (Measures (left - 1)) (Measures left) kind
    unfolding rest_of is_measure
    measures_more g h = record { rest = λ ks. sym (some_more is_measure none_left kind ks left h (eq-eqb kind 5 g)); on = omega arith; known = λ q. omega arith; first = λ q z. absurd (omega arith) }

  -- behind a kind out of order
  off : (stage : Stage) → ((ks : List ℕ) → rest_of stage (kind ∷ ks) ≡ false) → Follows OutOfOrder stage kind
  unfolding rest_of
  off stage f = record { rest = λ ks. sym (f ks); on = omega arith; known = λ q. absurd (omega arith); first = λ q. absurd (omega arith) }

  pub shape_no : (kind ≡ 1 → ⊥) → Follows OutOfOrder Shape kind
  unfolding rest_of
  shape_no g = off Shape (λ ks. one-no 1 shaped kind ks g)

  pub text_no : (kind ≡ 2 → ⊥) → Follows OutOfOrder Text kind
  unfolding rest_of
  text_no g = off Text (λ ks. one-no 2 texted kind ks g)

  module _ (left : ℕ) where
    pub defines_other : is_define kind ≡ false → (kind ≡ 4 → ⊥) → Follows OutOfOrder (Defines left) kind
    unfolding rest_of
    defines_other h g = off (Defines left) (λ ks. some-other is_define defined kind ks left h ∙ one-no 4 skipped kind ks g)

    pub defines_full : left ≡ 0 → (kind ≡ 4 → ⊥) → Follows OutOfOrder (Defines left) kind
    unfolding rest_of
    defines_full h g = off (Defines left) (λ ks. some-full is_define defined kind ks left h ∙ one-no 4 skipped kind ks g)

    pub measures_other : (kind ≡ 5 → ⊥) → Follows OutOfOrder (Measures left) kind
    unfolding rest_of none_left is_measure
    measures_other g = off (Measures left) (λ ks. some-other is_measure none_left kind ks left (ne_eqb kind 5 g))

    pub measures_full : left ≡ 0 → Follows OutOfOrder (Measures left) kind
    unfolding rest_of none_left
    measures_full h = off (Measures left) (λ ks. some-full is_measure none_left kind ks left h)

  pub out_stays : Follows OutOfOrder OutOfOrder kind
  unfolding rest_of
  out_stays = off OutOfOrder (λ ks. refl)

-- a kind of no such number is none in order
module _ (kind : ℕ) (u : Unknown kind) where
  pub unknown_out : (stage : Stage) → Follows OutOfOrder stage kind
  unfolding is_define
  unknown_out Shape = shape_no kind (λ e. omega (arith, u))
  unknown_out Text = text_no kind (λ e. omega (arith, u))
  unknown_out (Defines left) = defines_other kind left (simp (ne_eqb kind 3 (λ e. omega (arith, u)), ne_eqb kind 6 (λ e. omega (arith, u)))) (λ e. omega (arith, u))
  unknown_out (Measures left) = measures_other kind left (λ e. omega (arith, u))
  unknown_out OutOfOrder = out_stays kind

-- stage 3 is that of the measures
pub not_measures : (stage : Stage) → ((left : ℕ) → stage ≡ Measures left → ⊥) → place stage ≡ 3 → ⊥
not_measures Shape f = λ e. omega arith
not_measures Text f = λ e. omega arith
not_measures (Defines left) f = λ e. omega arith
not_measures (Measures left) f = λ e. f left refl
not_measures OutOfOrder f = λ e. omega arith

-- at the end the order is right exactly in stage 3
pub rest-nil : (stage : Stage) → rest_of stage [] ≡ eqb (place stage) 3
unfolding rest_of one_of none_left
rest-nil Shape = refl
rest-nil Text = refl
rest-nil (Defines left) = some-nil left is_define defined
rest-nil (Measures left) = some-nil left is_measure none_left
rest-nil OutOfOrder = refl

-- ---- what the pass has seen

-- At the index `at`, in this stage: the order of the whole query is that of the kinds to
-- come. Up to a kind out of order, the columns are those of the shape once that was read, and the
-- fields of the whole query fit exactly if those seen do (`fit`) and those to come.
pub record Judged (s : List ℕ) (at : ℕ) (stage : Stage) (columns : ℕ) (fit : Bool) : Type 0 where
  pub along : Along s at
  pub order : rest_of stage (kinds (records_at s at)) ≡ in_order (kinds (records s))
  pub first : place stage ≡ 0 → records_at s at ≡ records s
  pub shape : 0 < place stage → place stage < 4 → columns ≡ columns_of s
  pub fits : place stage < 4 → (fit && every (record_fits s (columns_of s)) (records_at s at)) ≡ every (record_fits s (columns_of s)) (records s)

pub columns-at : (s : List ℕ) (k b l : ℕ) (rs : List Record) → k ≡ 1 → record_of k b l ∷ rs ≡ records s → columns_of s ≡ get_or s b 0
unfolding columns_of first_of_kind
columns-at s k b l rs e q =
    ap (λ (x : List Record). Rattle.rules.specs.Query.field s (first_of_kind 1 x) 0) (sym q)
    ∙ ap (λ (t : Bool). Rattle.rules.specs.Query.field s (pick t (record_of k b l) (first_of_kind 1 rs)) 0) (eq-eqb k 1 e) ∙ field-first s k b l

module _ (s : List ℕ) where
  pub judged_none : Judged s 0 Shape 0 true
  unfolding rest_of in_order records records_at
  judged_none = record { along = along_none s; order = refl; first = λ e. refl; shape = λ h g. absurd (omega arith); fits = λ h. refl }

  module _ (at : ℕ) (stage : Stage) (columns : ℕ) (fit : Bool) (h : Judged s at stage columns fit) (x : Whole) (e : whole x ≡ read_at s at) where
    columns-known : (c : ℕ) → c ≡ pick (eqb (place stage) 0) (get_or s x.start 0) columns → place stage < 4 → (place stage ≡ 0 → x.kind ≡ 1) → c ≡ columns_of s
    columns-known c ec g f =
        decided (eqb (place stage) 0)
        (λ t. let z = eqb-true (place stage) 0 t in ec ∙ ap (λ (u : Bool). pick u (get_or s x.start 0) columns) t
        ∙ sym (columns-at s x.kind x.start x.len (records_at s x.next) (f z) (sym (read_more s at x e) ∙ h.first z)))
        (λ t. let z = eqb-false (place stage) 0 t in ec ∙ ap (λ (u : Bool). pick u (get_or s x.start 0) columns) t ∙ h.shape (let y : 0 < place stage = omega arith in y) g)

    fits_on : (c : ℕ) (v : Bool) → v ≡ (fit && record_fits s c (record_of x.kind x.start x.len)) → c ≡ columns_of s → place stage < 4
        → (v && every (record_fits s (columns_of s)) (records_at s x.next)) ≡ every (record_fits s (columns_of s)) (records s)
    unfolding every
    fits_on c v ev ec g =
        ap (λ (u : Bool). u && every (record_fits s (columns_of s)) (records_at s x.next)) (ev ∙ ap (λ (i : ℕ). fit && record_fits s i (record_of x.kind x.start x.len)) ec)
        ∙ and_assoc fit (record_fits s (columns_of s) (record_of x.kind x.start x.len)) (every (record_fits s (columns_of s)) (records_at s x.next))
        ∙ ap (λ (y : List Record). fit && every (record_fits s (columns_of s)) y) (sym (read_more s at x e)) ∙ h.fits g

    pub judged_more : (c : ℕ) (stage' : Stage) (v : Bool) → c ≡ pick (eqb (place stage) 0) (get_or s x.start 0) columns → v ≡ (fit && record_fits s c (record_of x.kind x.start x.len))
        → Follows stage' stage x.kind → Judged s x.next stage' c v
    unfolding kinds
    judged_more c stage' v ec ev f =
        record {
          along = along_more s at x h.along e;
          order = f.rest (kinds (records_at s x.next)) ∙ ap (λ (y : List Record). rest_of stage (kinds y)) (sym (read_more s at x e)) ∙ h.order;
          first = λ z. absurd (let y = f.on in omega arith);
          shape = λ y g. columns-known c ec (f.known g) (f.first g);
          fits = λ g. fits_on c v ev (columns-known c ec (f.known g) (f.first g)) (f.known g);
        }

  -- ---- the three answers

  module _ (at : ℕ) (stage : Stage) (columns : ℕ) (fit : Bool) (h : Judged s at stage columns fit) where
    pub judged_cut : at < length s → Cut ≡ read_at s at → 1 ≡ first_answer s
    unfolding first_answer
    judged_cut g e = simp (along_cut s at h.along g e)

    module _ (end : length s ≤ at) where
      none_left_lem : records_at s at ≡ []
      none_left_lem = records-end s at end

      ordered : in_order (kinds (records s)) ≡ eqb (place stage) 3
      unfolding kinds
      ordered = sym h.order ∙ ap (λ (x : List Record). rest_of stage (kinds x)) none_left_lem ∙ rest-nil stage

      fitting : place stage ≡ 3 → every (record_fits s (columns_of s)) (records s) ≡ fit
      unfolding every
      fitting e = sym (h.fits (let y : place stage < 4 = omega arith in y)) ∙ ap (λ (x : List Record). fit && every (record_fits s (columns_of s)) x) none_left_lem ∙ mathlib.Core.Bool.and-true fit

      pub judged_2 : (place stage ≡ 3 → ⊥) → 2 ≡ first_answer s
      unfolding first_answer misplaced
      judged_2 f = simp (along_all s at h.along end, ordered, ne_eqb (place stage) 3 f)

      pub judged_3 : place stage ≡ 3 → fit ≡ false → 3 ≡ first_answer s
      unfolding first_answer misplaced unfit
      judged_3 e f = simp (along_all s at h.along end, ordered, eq-eqb (place stage) 3 e, fitting e, f)

      pub judged_0 : place stage ≡ 3 → fit ≡ true → 0 ≡ first_answer s
      unfolding first_answer misplaced unfit
      judged_0 e f = simp (along_all s at h.along end, ordered, eq-eqb (place stage) 3 e, fitting e, f)

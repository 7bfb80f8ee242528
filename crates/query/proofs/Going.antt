-- A query with no answer 1 to 3 read in its order: which kind the next record has, what its fields
-- are, and that the rest is again in order (`Ahead`).
use mathlib.Core.Path.{◌≡◌, refl, sym, ap, ◌∙◌}
use mathlib.Core.Bool.{Bool, true, false, ◌&&◌, ◌||◌}
use mathlib.Core.List.{List, [], ◌∷◌}
use Prim.Native.Nat.{ℕ, zero, suc, ◌+◌, ◌*◌, ◌-◌, ◌≤◌, ◌<◌}
use native.Mathlib.Omega.{arith}
use lib.Dec.{eqb, leb}
use lib.ListN.{length, get_or}
use borrow.Author.Tests.{eq-eqb, ne_eqb, eqb-true, leb-true, leb-false, not-false}
use Rattle.records.specs.declared.Read.TheVariants.{Record as whole, Cut}
use Rattle.records.specs.declared.Record.{Record as Whole}
use Rattle.rules.specs.Basics.{pick, in_range, is_letter, every, every_below}
use Rattle.rules.specs.Query.{Record, records, one_of, some_of, none_left, is_define, is_measure, in_order, kinds, misplaced, field, shape_fits, text_fits, comparison_fits, define_fits, entries_fit, entries_end, read_entries, entries_of, leaves_one, postfix_fits, skip_fits, function_fits, measure_fits, record_fits, columns_of, unfit, cut}
use Rattle.laws.proofs.Choice.{decided, clash, and_left, and_right}
use Rattle.records.specs.Read.{record_of, records_at, read_at}
use Rattle.query.specs.declared.Stage.{Stage}
use Rattle.query.specs.declared.Stage.TheVariants.{Shape, Text, Defines, Measures}
use Rattle.query.specs.Order.{rest_of, place, first_answer}
use Rattle.records.proofs.Records.{records-end}
use Rattle.records.proofs.Reading.{found, read_more, read-cut}
use Rattle.query.proofs.Order.{rest-nil}
use Rattle.query.specs.Ahead.{Ahead}

-- ---- the start

clean : (s : List ℕ) → first_answer s ≡ 0 → (misplaced s ≡ false) × (unfit s ≡ false)
unfolding first_answer
clean s e = by (cut s) (misplaced s) (unfit s) e
  where
    by : (a b c : Bool) → pick {A = ℕ} a 1 (pick b 2 (pick c 3 0)) ≡ 0 → (b ≡ false) × (c ≡ false)
    by true b c q = absurd (omega arith)
    by false true c q = absurd (omega arith)
    by false false true q = absurd (omega arith)
    by false false false q = (refl, refl)

pub at-start : (s : List ℕ) → first_answer s ≡ 0 → Ahead s Shape 0
unfolding misplaced unfit in_order rest_of records records_at
at-start s e = let c = clean s e in record { upto = omega arith; order = not-false _ c.0; fits = not-false _ c.1 }

-- ---- the order, taken apart

module _ (k : ℕ) (rest : List ℕ → Bool) (x : ℕ) (ks : List ℕ) where
  one_in : one_of k rest (x ∷ ks) ≡ true → (x ≡ k) × (rest ks ≡ true)
  unfolding one_of
  one_in e = (eqb-true x k (and_left (eqb x k) (rest ks) e), and_right (eqb x k) (rest ks) e)

module _ (f : ℕ → Bool) (rest : List ℕ → Bool) (x : ℕ) (ks : List ℕ) where
  some_in : (m : ℕ) → (rest (x ∷ ks) ≡ true → ⊥) → f x ≡ true → some_of m f rest (x ∷ ks) ≡ true → (0 < m) × (some_of (m - 1) f rest ks ≡ true)
  unfolding some_of
  some_in zero h e q = absurd (h q)
  some_in (suc m) h e q =
      let z : some_of m f rest ks ≡ true = simp e at q in
      let i : suc m - 1 ≡ m = omega arith in
      (omega arith, ap (λ (j : ℕ). some_of j f rest ks) i ∙ z)

  some_out : (m : ℕ) → f x ≡ false → some_of m f rest (x ∷ ks) ≡ true → rest (x ∷ ks) ≡ true
  unfolding some_of
  some_out zero h q = q
  some_out (suc m) h q = simp h at q

-- a DEFINE is not the skip
define_not_4 : (k : ℕ) → is_define k ≡ true → k ≡ 4 → ⊥
unfolding is_define
define_not_4 k e q = let z : is_define k ≡ false = simp (ne_eqb k 3 (λ w. omega arith), ne_eqb k 6 (λ w. omega arith)) in clash (sym z ∙ e)

not_none : (x : ℕ) (ks : List ℕ) → none_left (x ∷ ks) ≡ true → ⊥
unfolding none_left
not_none x ks e = clash e

-- ---- one record

module _ (s : List ℕ) (stage : Stage) (at : ℕ) (h : Ahead s stage at) where
  ended : records_at s at ≡ [] → place stage ≡ 3
  unfolding kinds
  ended e = eqb-true (place stage) 3 (sym (rest-nil stage) ∙ ap (λ (x : List Record). rest_of stage (kinds x)) (sym e) ∙ h.order)

  -- before the measures there is a record more
  pub before-end : (place stage ≡ 3 → ⊥) → at < length s
  before-end f = decided (leb (suc at) (length s)) (λ t. leb-true (suc at) (length s) t) (λ t. absurd (f (ended (records-end s at (let y = leb-false (suc at) (length s) t in omega arith)))))

  pub not-cut : (place stage ≡ 3 → ⊥) → Cut ≡ read_at s at → ⊥
  not-cut f e = f (ended (read-cut s at e))

  module _ (x : Whole) (e : whole x ≡ read_at s at) where
    ordered : rest_of stage (x.kind ∷ kinds (records_at s x.next)) ≡ true
    unfolding kinds
    ordered = sym (ap (λ (y : List Record). rest_of stage (kinds y)) (read_more s at x e)) ∙ h.order

    both-fit : (record_fits s (columns_of s) (record_of x.kind x.start x.len) && every (record_fits s (columns_of s)) (records_at s x.next)) ≡ true
    unfolding every
    both-fit = sym (ap (every (record_fits s (columns_of s))) (read_more s at x e)) ∙ h.fits

    pub this_fits : record_fits s (columns_of s) (record_of x.kind x.start x.len) ≡ true
    this_fits = and_left _ _ both-fit

    go_on : (stage' : Stage) → rest_of stage' (kinds (records_at s x.next)) ≡ true → Ahead s stage' x.next
    go_on stage' o = record { upto = (found s at x e).inside; order = o; fits = and_right (record_fits s (columns_of s) (record_of x.kind x.start x.len)) _ both-fit }

-- the record at an index, by the stage there
module _ (s : List ℕ) (at : ℕ) (x : Whole) (e : whole x ≡ read_at s at) where
  ks : List ℕ
  ks = kinds (records_at s x.next)

  pub shape_next : Ahead s Shape at → (x.kind ≡ 1) × Ahead s Text x.next
  unfolding rest_of ks
  shape_next h = let z = one_in 1 (one_of 2 (some_of 26 is_define (one_of 4 (some_of 8 is_measure none_left)))) x.kind ks (ordered s Shape at h x e) in (z.0, go_on s Shape at h x e Text z.1)

  pub text-next : Ahead s Text at → (x.kind ≡ 2) × Ahead s (Defines 26) x.next
  unfolding rest_of ks
  text-next h = let z = one_in 2 (some_of 26 is_define (one_of 4 (some_of 8 is_measure none_left))) x.kind ks (ordered s Text at h x e) in (z.0, go_on s Text at h x e (Defines 26) z.1)

  pub define_next : (l : ℕ) → Ahead s (Defines l) at → is_define x.kind ≡ true → Ahead s (Defines (l - 1)) x.next
  unfolding rest_of ks
  define_next l h d =
      let z = some_in is_define (one_of 4 (some_of 8 is_measure none_left)) x.kind ks l (λ u. define_not_4 x.kind d (one_in 4 (some_of 8 is_measure none_left) x.kind ks u).0) d (ordered s (Defines l) at h x e) in
      go_on s (Defines l) at h x e (Defines (l - 1)) z.1

  -- no DEFINE comes: none may come any more
  pub defines-over : (l : ℕ) → Ahead s (Defines l) at → is_define x.kind ≡ false → Ahead s (Defines 0) at
  unfolding rest_of some_of kinds ks
  defines-over l h f =
      record {
        upto = h.upto;
        order = ap (λ (y : List Record). rest_of (Defines 0) (kinds y)) (read_more s at x e)
            ∙ some_out is_define (one_of 4 (some_of 8 is_measure none_left)) x.kind ks l f (ordered s (Defines l) at h x e);
        fits = h.fits;
      }

  pub skip_next : Ahead s (Defines 0) at → (x.kind ≡ 4) × Ahead s (Measures 8) x.next
  unfolding rest_of some_of ks
  skip_next h =
      let z = one_in 4 (some_of 8 is_measure none_left) x.kind ks (ordered s (Defines 0) at h x e) in
      (z.0, go_on s (Defines 0) at h x e (Measures 8) z.1)

  module _ (l : ℕ) (h : Ahead s (Measures l) at) where
    measure_kind : x.kind ≡ 5
    unfolding rest_of is_measure ks
    measure_kind = decided (eqb x.kind 5) (λ t. eqb-true x.kind 5 t) (λ t. absurd (not_none x.kind ks (some_out is_measure none_left x.kind ks l t (ordered s (Measures l) at h x e))))

    pub measure_next : (x.kind ≡ 5) × (0 < l) × Ahead s (Measures (l - 1)) x.next
    unfolding rest_of is_measure ks
    measure_next =
        let z = some_in is_measure none_left x.kind ks l (not_none x.kind ks) (eq-eqb x.kind 5 measure_kind) (ordered s (Measures l) at h x e) in
        (measure_kind, z.0, go_on s (Measures l) at h x e (Measures (l - 1)) z.1)

-- ---- what the fields of a kind are

-- the two bytes of a skip
two_bytes : (x y : ℕ) → pick (leb x 1) (eqb y 0) (leb x 3 && is_letter y) ≡ true → (x ≤ 3) × ((eqb y 0 || is_letter y) ≡ true)
two_bytes x y e = go (leb x 1) refl e
  where
    or-so : (a b : Bool) → b ≡ true → (a || b) ≡ true
    or-so true b q = refl
    or-so false b q = q

    go : (t : Bool) → leb x 1 ≡ t → pick t (eqb y 0) (leb x 3 && is_letter y) ≡ true → (x ≤ 3) × ((eqb y 0 || is_letter y) ≡ true)
    go true d q = (let w = leb-true x 1 d in omega arith, ap (λ (a : Bool). a || is_letter y) q)
    go false d q = (leb-true x 3 (and_left (leb x 3) (is_letter y) q), or-so (eqb y 0) (is_letter y) (and_right (leb x 3) (is_letter y) q))

module _ (s : List ℕ) (columns k b m : ℕ) (e : record_fits s columns (record_of k b m) ≡ true) where
  pub shape_says : k ≡ 1 → (m ≡ 2) × (1 ≤ get_or s b 0) × (get_or s b 0 ≤ 8)
  unfolding record_fits shape_fits in_range field
  shape_says h =
      let f : (eqb m 2 && ((leb 1 (get_or s (b + 0) 0) && leb (get_or s (b + 0) 0) 8) && eqb (get_or s (b + 1) 0) 0)) ≡ true = simp (eq-eqb k 1 h) at e in
      let g = and_left (leb 1 (get_or s (b + 0) 0) && leb (get_or s (b + 0) 0) 8) _ (and_right (eqb m 2) _ f) in
      let z : get_or s (b + 0) 0 ≡ get_or s b 0 = ap (λ (i : ℕ). get_or s i 0) (let y : b + 0 ≡ b = omega arith in y) in
      let u = leb-true 1 (get_or s (b + 0) 0) (and_left _ _ g) in
      let v = leb-true (get_or s (b + 0) 0) 8 (and_right (leb 1 (get_or s (b + 0) 0)) _ g) in
      (eqb-true m 2 (and_left (eqb m 2) _ f), omega arith, omega arith)

  pub text_says : k ≡ 2 → m ≤ 256
  unfolding record_fits text_fits
  text_says h = leb-true m 256 (simp (ne_eqb k 1 (λ w. omega arith), eq-eqb k 2 h) at e)

  -- the mode is at most 3, and the byte behind it 0 or a letter
  pub skip_says : k ≡ 4 → (m ≡ 2) × (get_or s b 0 ≤ 3) × ((eqb (get_or s (b + 1) 0) 0 || is_letter (get_or s (b + 1) 0)) ≡ true)
  unfolding record_fits skip_fits field
  skip_says h =
      let f : (eqb m 2 && pick (leb (get_or s (b + 0) 0) 1) (eqb (get_or s (b + 1) 0) 0) (leb (get_or s (b + 0) 0) 3 && is_letter (get_or s (b + 1) 0))) ≡ true =
      simp (ne_eqb k 1 (λ w. omega arith), ne_eqb k 2 (λ w. omega arith), ne_eqb k 3 (λ w. omega arith), eq-eqb k 4 h) at e in
      let z : get_or s (b + 0) 0 ≡ get_or s b 0 = ap (λ (i : ℕ). get_or s i 0) (let y : b + 0 ≡ b = omega arith in y) in
      let v = two_bytes (get_or s (b + 0) 0) (get_or s (b + 1) 0) (and_right (eqb m 2) _ f) in
      let u = v.0 in
      (eqb-true m 2 (and_left (eqb m 2) _ f), omega arith, v.1)

  pub measure_says : k ≡ 5 → (m ≡ 4) × (function_fits columns (get_or s b 0) (get_or s (b + 1) 0) (get_or s (b + 2) 0) ≡ true)
  unfolding record_fits measure_fits field
  measure_says h =
      let f : (eqb m 4 && (function_fits columns (get_or s (b + 0) 0) (get_or s (b + 1) 0) (get_or s (b + 2) 0) && eqb (get_or s (b + 3) 0) 0)) ≡ true =
      simp (ne_eqb k 1 (λ w. omega arith), ne_eqb k 2 (λ w. omega arith), ne_eqb k 3 (λ w. omega arith), ne_eqb k 4 (λ w. omega arith), eq-eqb k 5 h) at e in
      let z : b + 0 ≡ b = omega arith in
      let g : function_fits columns (get_or s (b + 0) 0) (get_or s (b + 1) 0) (get_or s (b + 2) 0) ≡ true = and_left _ (eqb (get_or s (b + 3) 0) 0) (and_right (eqb m 4) _ f) in
      (eqb-true m 4 (and_left (eqb m 4) _ f), rw z at g)

every_below-each : (n : ℕ) (f : ℕ → Bool) → every_below n f ≡ true → (k : ℕ) → k < n → f k ≡ true
unfolding every_below
every_below-each zero f e k h = absurd (omega arith)
every_below-each (suc n) f e k h =
    decided (leb (suc k) n)
    (λ q. every_below-each n f (and_left (every_below n f) (f n) e) k (leb-true (suc k) n q))
    (λ q. ap f (let z : k ≡ n = let w = leb-false (suc k) n q in omega arith in z) ∙ and_right (every_below n f) (f n) e)

pub record Says (s : List ℕ) (columns b m : ℕ) : Type 0 where
  pub long : m ≡ 2 + get_or s (b + 1) 0 * 12
  pub low : 65 ≤ get_or s b 0
  pub high : get_or s b 0 ≤ 90
  pub one : 1 ≤ get_or s (b + 1) 0
  pub few : get_or s (b + 1) 0 ≤ 8
  pub each : (i : ℕ) → i < get_or s (b + 1) 0 → comparison_fits s columns (b + 2 + i * 12) ≡ true

pub define_says : (s : List ℕ) (columns k b m : ℕ) → record_fits s columns (record_of k b m) ≡ true → k ≡ 3 → Says s columns b m
unfolding record_fits define_fits is_letter in_range field
define_says s columns k b m e h =
    let f : (eqb m (2 + get_or s (b + 1) 0 * 12) && ((leb 65 (get_or s (b + 0) 0) && leb (get_or s (b + 0) 0) 90) && ((leb 1 (get_or s (b + 1) 0) && leb (get_or s (b + 1) 0) 8)
    && every_below (get_or s (b + 1) 0) (λ i. comparison_fits s columns (b + 2 + i * 12))))) ≡ true = simp (ne_eqb k 1 (λ w. omega arith), ne_eqb k 2 (λ w. omega arith), eq-eqb k 3 h) at e in
    let z : get_or s (b + 0) 0 ≡ get_or s b 0 = ap (λ (i : ℕ). get_or s i 0) (let y : b + 0 ≡ b = omega arith in y) in
    let g = and_right (eqb m (2 + get_or s (b + 1) 0 * 12)) _ f in
    let t = and_left (leb 65 (get_or s (b + 0) 0) && leb (get_or s (b + 0) 0) 90) _ g in
    let r = and_right (leb 65 (get_or s (b + 0) 0) && leb (get_or s (b + 0) 0) 90) _ g in
    let u = and_left (leb 1 (get_or s (b + 1) 0) && leb (get_or s (b + 1) 0) 8) _ r in
    let lo = leb-true 65 (get_or s (b + 0) 0) (and_left _ _ t) in
    let hi = leb-true (get_or s (b + 0) 0) 90 (and_right (leb 65 (get_or s (b + 0) 0)) _ t) in
    record {
      long = eqb-true m _ (and_left (eqb m (2 + get_or s (b + 1) 0 * 12)) _ f);
      low = omega arith;
      high = omega arith;
      one = leb-true 1 (get_or s (b + 1) 0) (and_left _ _ u);
      few = leb-true (get_or s (b + 1) 0) 8 (and_right (leb 1 (get_or s (b + 1) 0)) _ u);
      each = every_below-each (get_or s (b + 1) 0) (λ i. comparison_fits s columns (b + 2 + i * 12)) (and_right (leb 1 (get_or s (b + 1) 0) && leb (get_or s (b + 1) 0) 8) _ r);
    }

-- ---- a DEFINE of kind 6

pub record SaysEntries (s : List ℕ) (columns b m : ℕ) : Type 0 where
  pub ends : m + b ≡ entries_end s (get_or s (b + 1) 0) (b + 2)
  pub low : 65 ≤ get_or s b 0
  pub high : get_or s b 0 ≤ 90
  pub one : 1 ≤ get_or s (b + 1) 0
  pub few : get_or s (b + 1) 0 ≤ 16
  pub fit : entries_fit s columns (get_or s (b + 1) 0) (b + 2) ≡ true
  pub leaves : leaves_one 0 (read_entries s (get_or s (b + 1) 0) (b + 2)) ≡ true

pub postfix-says : (s : List ℕ) (columns k b m : ℕ) → record_fits s columns (record_of k b m) ≡ true → k ≡ 6 → SaysEntries s columns b m
unfolding record_fits postfix_fits entries_of is_letter in_range field
postfix-says s columns k b m e h =
    let f : (eqb (m + b) (entries_end s (get_or s (b + 1) 0) (b + 2)) && ((leb 65 (get_or s (b + 0) 0) && leb (get_or s (b + 0) 0) 90) && ((leb 1 (get_or s (b + 1) 0) && leb (get_or s (b + 1) 0) 16)
    && (entries_fit s columns (get_or s (b + 1) 0) (b + 2) && leaves_one 0 (read_entries s (get_or s (b + 1) 0) (b + 2)))))) ≡ true =
    simp (ne_eqb k 1 (λ w. omega arith), ne_eqb k 2 (λ w. omega arith), ne_eqb k 3 (λ w. omega arith), ne_eqb k 4 (λ w. omega arith), ne_eqb k 5 (λ w. omega arith), eq-eqb k 6 h) at e in
    let z : get_or s (b + 0) 0 ≡ get_or s b 0 = ap (λ (i : ℕ). get_or s i 0) (let y : b + 0 ≡ b = omega arith in y) in
    let g = and_right (eqb (m + b) (entries_end s (get_or s (b + 1) 0) (b + 2))) _ f in
    let t = and_left (leb 65 (get_or s (b + 0) 0) && leb (get_or s (b + 0) 0) 90) _ g in
    let r = and_right (leb 65 (get_or s (b + 0) 0) && leb (get_or s (b + 0) 0) 90) _ g in
    let u = and_left (leb 1 (get_or s (b + 1) 0) && leb (get_or s (b + 1) 0) 16) _ r in
    let v = and_right (leb 1 (get_or s (b + 1) 0) && leb (get_or s (b + 1) 0) 16) _ r in
    let lo = leb-true 65 (get_or s (b + 0) 0) (and_left _ _ t) in
    let hi = leb-true (get_or s (b + 0) 0) 90 (and_right (leb 65 (get_or s (b + 0) 0)) _ t) in
    record {
      ends = eqb-true (m + b) _ (and_left (eqb (m + b) (entries_end s (get_or s (b + 1) 0) (b + 2))) _ f);
      low = omega arith;
      high = omega arith;
      one = leb-true 1 (get_or s (b + 1) 0) (and_left _ _ u);
      few = leb-true (get_or s (b + 1) 0) 16 (and_right (leb 1 (get_or s (b + 1) 0)) _ u);
      fit = and_left (entries_fit s columns (get_or s (b + 1) 0) (b + 2)) _ v;
      leaves = and_right (entries_fit s columns (get_or s (b + 1) 0) (b + 2)) _ v;
    }

-- Rows that are present and rows that come later (R-11): a comparison that reads no row behind its
-- own, and so a letter, is the same at a row that is present whatever comes behind it; and so are
-- the numbers of a match whose rows are present.
use mathlib.Core.Path.{◌≡◌, refl, ap, ap₂, sym, ◌∙◌}
use mathlib.Core.Bool.{Bool, true, false, not, ◌&&◌, ◌||◌, cond}
use mathlib.Core.List.{List, [], ◌∷◌, ◌++◌}
use mathlib.Core.Option.{some}
use Prim.Native.Nat.{ℕ, zero, suc, ◌+◌, ◌-◌, ◌*◌, ◌≤◌, ◌<◌}
use native.Mathlib.Nat.{le_trans}
use native.Mathlib.Omega.{arith}
use lib.Dec.{ltb, eqb}
use lib.IntN.{ℤ, pos, negsuc, ◌+ℤ◌}
use lib.Signed.{lt_z}
use lib.ListN.{length, get_or}
use borrow.Author.Tests.{ltb-true, ltb-false, lt-ltb, eqb-true, not-true, ne_eqb}
use Rattle.rules.specs.Basics.{pick, keep, every, every_below, tabulate, in_range, is_letter}
use Rattle.rules.specs.Rows.{Table, entry, entry_at, Comparison, plus_number, right_side, Truth, truth_and, truth_by, truth, is_yes, Entry, compared, conj, disj, neg, Condition, all_of, postfix, result_on, results_of, latest, all_truth, condition_truth, holds, compared_in, comparisons_in}
use Rattle.rules.specs.Query.{Record, field, offset_fits, left_fits, right_fits, comparison_fits, define_fits, function_fits, measure_fits, entry_bytes, entry_fits, read_entry, entries_fit, entries_end, read_entries, entries_of, leaves_one, postfix_fits, record_fits, columns_of, records, unfit, comparison_at, comparisons_of, is_define, condition_of, condition_from, Measure, measure_at, measures_from, parts}
use Rattle.rules.specs.Places.{Place}
use Rattle.rules.specs.Search.{Match, labels}
use Rattle.rules.specs.Report.{values, measured, measure_numbers, match_numbers, numbers_of}
use Rattle.rules.specs.Lots.{ahead}
use Rattle.laws.proofs.Level.{and-true, or-false}

-- ---- columns lie below the shape's count

-- a comparison's columns
unfoldable pub columns_fit : ℕ → Comparison → Bool
columns_fit columns x = ltb x.left columns && (not (eqb x.right_kind 1) || ltb x.right columns)

every-snoc : {A : Type 0} (f : A → Bool) (xs : List A) (x : A) → every f xs ≡ true → f x ≡ true → every f (xs ++ (x ∷ [])) ≡ true
unfolding every
every-snoc f [] x a b = rw b
every-snoc f (y ∷ ys) x a b = let c = and-true (f y) (every f ys) a in rw c.0 (every-snoc f ys x c.1 b)

every-tabulate : {A : Type 0} (f : A → Bool) (g : ℕ → Bool) (h : ℕ → A) → ((k : ℕ) → g k ≡ true → f (h k) ≡ true) → (n : ℕ) → every_below n g ≡ true → every f (tabulate n h) ≡ true
unfolding every_below tabulate every
every-tabulate f g h a zero e = refl
every-tabulate f g h a (suc n) e = let c = and-true (every_below n g) (g n) e in every-snoc f (tabulate n h) (h n) (every-tabulate f g h a n c.0) (a n c.1)

right-column : (columns kind column offset : ℕ) → right_fits columns kind column offset ≡ true → (not (eqb kind 1) || ltb column columns) ≡ true
unfolding right_fits
right-column columns kind column offset e = go (eqb kind 1) refl
  where
    go : (t : Bool) → eqb kind 1 ≡ t → (not t || ltb column columns) ≡ true
    go false d = refl
    go true d =
        let k : kind ≡ 1 = eqb-true kind 1 d in
        let z : eqb kind 0 ≡ false = ne_eqb kind 0 (λ q. omega arith) in
        let a : (eqb kind 1 && (ltb column columns && offset_fits offset)) ≡ true = rw z at e in
        (and-true (ltb column columns) (offset_fits offset) (and-true (eqb kind 1) (ltb column columns && offset_fits offset) a).1).0

comparison_columns : (s : List ℕ) (columns p : ℕ) → comparison_fits s columns p ≡ true → columns_fit columns (comparison_at s p) ≡ true
unfolding comparison_fits left_fits columns_fit comparison_at
comparison_columns s columns p e =
    let zeros : Bool = eqb (get_or s (p + 6) 0) 0 && eqb (get_or s (p + 7) 0) 0 in
    let right : Bool = right_fits columns (get_or s (p + 3) 0) (get_or s (p + 4) 0) (get_or s (p + 5) 0) in
    let a = and-true (left_fits columns (get_or s p 0) (get_or s (p + 1) 0) (get_or s (p + 2) 0)) (right && zeros) e in
    let l : ltb (get_or s p 0) columns ≡ true = (and-true (ltb (get_or s p 0) columns) (offset_fits (get_or s (p + 1) 0) && in_range 1 6 (get_or s (p + 2) 0)) a.0).0 in
    let c : (not (eqb (get_or s (p + 3) 0) 1) || ltb (get_or s (p + 4) 0) columns) ≡ true =
    right-column columns (get_or s (p + 3) 0) (get_or s (p + 4) 0) (get_or s (p + 5) 0) (and-true right zeros a.1).0 in
    rw (l, c)

define_columns : (s : List ℕ) (columns : ℕ) (r : Record) → define_fits s columns r ≡ true → every (columns_fit columns) (comparisons_of s r) ≡ true
unfolding define_fits comparisons_of
define_columns s columns r e =
    let each : Bool = every_below (field s r 1) (λ k. comparison_fits s columns (r.start + 2 + k * 12)) in
    let z = (and-true (eqb r.len (2 + field s r 1 * 12)) (is_letter (field s r 0) && (in_range 1 8 (field s r 1) && each)) e).1 in
    let y = (and-true (is_letter (field s r 0)) (in_range 1 8 (field s r 1) && each) z).1 in
    let a = (and-true (in_range 1 8 (field s r 1)) each y).1 in
    every-tabulate (columns_fit columns) (λ k. comparison_fits s columns (r.start + 2 + k * 12)) (λ k. comparison_at s (r.start + 2 + k * 12))
    (λ k h. comparison_columns s columns (r.start + 2 + k * 12) h) (field s r 1) a

pub record_define : (s : List ℕ) (columns : ℕ) (r : Record) → r.kind ≡ 3 → record_fits s columns r ≡ true → define_fits s columns r ≡ true
unfolding record_fits
record_define s columns r k e =
    let z₁ : eqb r.kind 1 ≡ false = ne_eqb r.kind 1 (λ q. omega arith) in
    let z₂ : eqb r.kind 2 ≡ false = ne_eqb r.kind 2 (λ q. omega arith) in
    let z₃ : eqb r.kind 3 ≡ true = rw k in
    rw (z₁, z₂, z₃) at e

record_measure : (s : List ℕ) (columns : ℕ) (r : Record) → r.kind ≡ 5 → record_fits s columns r ≡ true → measure_fits s columns r ≡ true
unfolding record_fits
record_measure s columns r k e =
    let z₁ : eqb r.kind 1 ≡ false = ne_eqb r.kind 1 (λ q. omega arith) in
    let z₂ : eqb r.kind 2 ≡ false = ne_eqb r.kind 2 (λ q. omega arith) in
    let z₃ : eqb r.kind 3 ≡ false = ne_eqb r.kind 3 (λ q. omega arith) in
    let z₄ : eqb r.kind 4 ≡ false = ne_eqb r.kind 4 (λ q. omega arith) in
    let z₅ : eqb r.kind 5 ≡ true = rw k in
    rw (z₁, z₂, z₃, z₄, z₅) at e

pub record_postfix : (s : List ℕ) (columns : ℕ) (r : Record) → r.kind ≡ 6 → record_fits s columns r ≡ true → postfix_fits s columns r ≡ true
unfolding record_fits
record_postfix s columns r k e =
    let z₁ : eqb r.kind 1 ≡ false = ne_eqb r.kind 1 (λ q. omega arith) in
    let z₂ : eqb r.kind 2 ≡ false = ne_eqb r.kind 2 (λ q. omega arith) in
    let z₃ : eqb r.kind 3 ≡ false = ne_eqb r.kind 3 (λ q. omega arith) in
    let z₄ : eqb r.kind 4 ≡ false = ne_eqb r.kind 4 (λ q. omega arith) in
    let z₅ : eqb r.kind 5 ≡ false = ne_eqb r.kind 5 (λ q. omega arith) in
    let z₆ : eqb r.kind 6 ≡ true = rw k in
    rw (z₁, z₂, z₃, z₄, z₅, z₆) at e

-- the columns of the comparisons among an entry's, and the entries', bytes
entry-columns : (s : List ℕ) (columns p : ℕ) (es : List Entry) → entry_fits s columns p ≡ true → every (columns_fit columns) (compared_in es) ≡ true
    → every (columns_fit columns) (compared_in (read_entry s p ∷ es)) ≡ true
unfolding entry_fits read_entry compared_in every
entry-columns s columns p es e ih = go (eqb (get_or s p 0) 0) refl (eqb (get_or s p 0) 1) (eqb (get_or s p 0) 2)
  where
    go : (t : Bool) → eqb (get_or s p 0) 0 ≡ t → (u v : Bool)
        → every (columns_fit columns) (compared_in (pick t (compared (comparison_at s (p + 1))) (pick u conj (pick v disj neg)) ∷ es)) ≡ true
    go true d u v = let a : comparison_fits s columns (p + 1) ≡ true = rw d at e in rw (comparison_columns s columns (p + 1) a) ih
    go false d true v = ih
    go false d false true = ih
    go false d false false = ih

entries-columns : (s : List ℕ) (columns k p : ℕ) → entries_fit s columns k p ≡ true → every (columns_fit columns) (compared_in (read_entries s k p)) ≡ true
unfolding entries_fit read_entries compared_in every
entries-columns s columns zero p e = refl
entries-columns s columns (suc k) p e =
    let c = and-true (entry_fits s columns p) (entries_fit s columns k (p + entry_bytes s p)) e in
    entry-columns s columns p (read_entries s k (p + entry_bytes s p)) c.0 (entries-columns s columns k (p + entry_bytes s p) c.1)

postfix-columns : (s : List ℕ) (columns : ℕ) (r : Record) → postfix_fits s columns r ≡ true → every (columns_fit columns) (compared_in (entries_of s r)) ≡ true
unfolding postfix_fits entries_of
postfix-columns s columns r e =
    let last : Bool = leaves_one 0 (read_entries s (field s r 1) (r.start + 2)) in
    let fit : Bool = entries_fit s columns (field s r 1) (r.start + 2) in
    let z = (and-true (eqb (r.len + r.start) (entries_end s (field s r 1) (r.start + 2))) (is_letter (field s r 0) && (in_range 1 16 (field s r 1) && (fit && last))) e).1 in
    let y = (and-true (is_letter (field s r 0)) (in_range 1 16 (field s r 1) && (fit && last)) z).1 in
    let x = (and-true (in_range 1 16 (field s r 1)) (fit && last) y).1 in
    entries-columns s columns (field s r 1) (r.start + 2) (and-true fit last x).0

condition_columns : (s : List ℕ) (columns : ℕ) (r : Record) → is_define r.kind ≡ true → record_fits s columns r ≡ true → every (columns_fit columns) (comparisons_in (condition_of s r)) ≡ true
unfolding condition_of is_define comparisons_in
condition_columns s columns r d e = go (eqb r.kind 3) refl d
  where
    go : (t : Bool) → eqb r.kind 3 ≡ t → (t || eqb r.kind 6) ≡ true → every (columns_fit columns) (comparisons_in (pick t (all_of (comparisons_of s r)) (postfix (entries_of s r)))) ≡ true
    go true k w = define_columns s columns r (record_define s columns r (eqb-true r.kind 3 k) e)
    go false k w = postfix-columns s columns r (record_postfix s columns r (eqb-true r.kind 6 w) e)

from-columns : (s : List ℕ) (columns : ℕ) (rs : List Record) (c : ℕ) → every (record_fits s columns) rs ≡ true → every (columns_fit columns) (comparisons_in (condition_from s rs c)) ≡ true
unfolding every condition_from comparisons_in
from-columns s columns [] c e = refl
from-columns s columns (r ∷ rs) c e =
    go (is_define r.kind && eqb (field s r 0) c) refl (from-columns s columns rs c (and-true (record_fits s columns r) (every (record_fits s columns) rs) e).1)
  where
    go : (t : Bool) → (is_define r.kind && eqb (field s r 0) c) ≡ t → every (columns_fit columns) (comparisons_in (condition_from s rs c)) ≡ true
        → every (columns_fit columns) (comparisons_in (pick t (condition_of s r) (condition_from s rs c))) ≡ true
    go true d ih = condition_columns s columns r (and-true (is_define r.kind) (eqb (field s r 0) c) d).0 (and-true (record_fits s columns r) (every (record_fits s columns) rs) e).0
    go false d ih = ih

function_column : (columns f l c : ℕ) → function_fits columns f l c ≡ true → ltb c columns ≡ true
unfolding function_fits
function_column columns f l c e =
    let a = (and-true (in_range 1 7 f) ((eqb l 0 || is_letter l) && (ltb c columns && (not (eqb f 1) || eqb c 0))) e).1 in
    let b = (and-true (eqb l 0 || is_letter l) (ltb c columns && (not (eqb f 1) || eqb c 0)) a).1 in
    (and-true (ltb c columns) (not (eqb f 1) || eqb c 0) b).0

measure_column : (s : List ℕ) (columns : ℕ) (r : Record) → measure_fits s columns r ≡ true → ltb (measure_at s r.start).column columns ≡ true
unfolding measure_fits measure_at field
measure_column s columns r e =
    let a = (and-true (eqb r.len 4) (function_fits columns (field s r 0) (field s r 1) (field s r 2) && eqb (field s r 3) 0) e).1 in
    function_column columns (field s r 0) (field s r 1) (field s r 2) (and-true (function_fits columns (field s r 0) (field s r 1) (field s r 2)) (eqb (field s r 3) 0) a).0

from-measures : (s : List ℕ) (columns : ℕ) (rs : List Record) → every (record_fits s columns) rs ≡ true → every (λ (m : Measure). ltb m.column columns) (measures_from s rs) ≡ true
unfolding every measures_from
from-measures s columns [] e = refl
from-measures s columns (r ∷ rs) e = go (eqb r.kind 5) refl (from-measures s columns rs (and-true (record_fits s columns r) (every (record_fits s columns) rs) e).1)
  where
    go : (t : Bool) → eqb r.kind 5 ≡ t → every (λ (m : Measure). ltb m.column columns) (measures_from s rs) ≡ true
        → every (λ (m : Measure). ltb m.column columns) (keep t (measure_at s r.start) (measures_from s rs)) ≡ true
    go true d ih = rw (measure_column s columns r (record_measure s columns r (eqb-true r.kind 5 d) (and-true (record_fits s columns r) (every (record_fits s columns) rs) e).0)) ih
    go false d ih = ih

pub records-fit : (q : List ℕ) → unfit q ≡ false → every (record_fits q (columns_of q)) (records q) ≡ true
unfolding unfit
records-fit q e = flip (every (record_fits q (columns_of q)) (records q)) e
  where
    flip : (b : Bool) → not b ≡ false → b ≡ true
    flip true e = refl
    flip false e = sym e

pub comparisons_fit : (q : List ℕ) → unfit q ≡ false → (c : ℕ) → every (columns_fit (columns_of q)) (comparisons_in ((parts q).condition c)) ≡ true
unfolding parts
comparisons_fit q e c = from-columns q (columns_of q) (records q) c (records-fit q e)

pub measures_fit : (q : List ℕ) → unfit q ≡ false → every (λ (m : Measure). ltb m.column (columns_of q)) (parts q).measures ≡ true
unfolding parts
measures_fit q e = from-measures q (columns_of q) (records q) (records-fit q e)

-- ---- two tables, of which the second has more rows

pub record Extends (t₁ t₂ : Table) : Type 0 where
  pub columns : t₁.columns ≡ t₂.columns
  pub rows : t₁.n ≤ t₂.n
  pub entries : (row column : ℕ) → row < t₁.n → column < t₁.columns → entry t₁ row column ≡ entry t₂ row column

-- a signed row number below n
abbrev Before : ℕ → ℤ → Type 0
Before n (pos row) = row < n
Before n (negsuc k) = Unit {0}

-- a row moved back, or not moved
moved : (n row : ℕ) (offset : ℤ) → lt_z (pos 0) offset ≡ false → row < n → Before n (pos row +ℤ offset)
moved n row (pos k) e h = omega (arith, ltb-false 0 k e)
moved n row (negsuc k) e h = go (ltb row (suc k))
  where
    go : (t : Bool) → Before n (cond t (negsuc (suc k - suc row)) (pos (row - suc k)))
    go true = tt
    go false = omega arith

module _ (t₁ t₂ : Table) (ext : Extends t₁ t₂) where
  entry-same : (z : ℤ) (column : ℕ) → Before t₁.n z → column < t₁.columns → entry_at t₁ z column ≡ entry_at t₂ z column
  unfolding entry_at
  entry-same (pos row) column b c = rw (lt-ltb row t₁.n b, lt-ltb row t₂.n (le_trans b ext.rows), ext.entries row column b c)
  entry-same (negsuc k) column b c = refl

  right-same : (x : Comparison) (row : ℕ) → columns_fit t₁.columns x ≡ true → lt_z (pos 0) x.right_offset ≡ false → row < t₁.n → right_side t₁ x row ≡ right_side t₂ x row
  unfolding right_side columns_fit
  right-same x row f o h = go (eqb x.right_kind 1) (and-true (ltb x.left t₁.columns) (not (eqb x.right_kind 1) || ltb x.right t₁.columns) f).1
    where
      go : (t : Bool) → (not t || ltb x.right t₁.columns) ≡ true
          → pick t (plus_number x.number (entry_at t₁ (pos row +ℤ x.right_offset) x.right)) (some x.number) ≡ pick t (plus_number x.number (entry_at t₂ (pos row +ℤ x.right_offset) x.right)) (some x.number)
      go true e = ap (plus_number x.number) (entry-same (pos row +ℤ x.right_offset) x.right (moved t₁.n row x.right_offset o h) (ltb-true x.right t₁.columns e))
      go false e = refl

  truth-same : (x : Comparison) (row : ℕ) → columns_fit t₁.columns x ≡ true → ahead x ≡ false → row < t₁.n → truth t₁ row x ≡ truth t₂ row x
  unfolding truth ahead columns_fit
  truth-same x row f a h =
      let o = or-false _ _ a in
      let c = ltb-true x.left t₁.columns (and-true _ _ f).0 in
      ap₂ (truth_by x.operator) (entry-same (pos row +ℤ x.left_offset) x.left (moved t₁.n row x.left_offset o.0 h) c) (right-same x row f o.1 h)

  all_same : (cs : List Comparison) (row : ℕ) → every (columns_fit t₁.columns) cs ≡ true → every (λ x. not (ahead x)) cs ≡ true → row < t₁.n → all_truth t₁ row cs ≡ all_truth t₂ row cs
  unfolding all_truth every
  all_same [] row f a h = refl
  all_same (x ∷ cs) row f a h =
      let c = and-true _ _ f in
      let b = and-true _ _ a in
      ap₂ truth_and (truth-same x row c.0 (not-true (ahead x) b.0) h) (all_same cs row c.1 b.1 h)

  results_same : (es : List Entry) (row : ℕ) (rs : List Truth) → every (columns_fit t₁.columns) (compared_in es) ≡ true → every (λ x. not (ahead x)) (compared_in es) ≡ true → row < t₁.n
      → results_of t₁ row es rs ≡ results_of t₂ row es rs
  unfolding results_of result_on compared_in every
  results_same [] row rs f a h = refl
  results_same (compared x ∷ es) row rs f a h =
      let c = and-true _ _ f in
      let b = and-true _ _ a in
      ap (λ (v : Truth). results_of t₁ row es (v ∷ rs)) (truth-same x row c.0 (not-true (ahead x) b.0) h) ∙ results_same es row (truth t₂ row x ∷ rs) c.1 b.1 h
  results_same (conj ∷ es) row [] f a h = results_same es row [] f a h
  results_same (conj ∷ es) row (u ∷ []) f a h = results_same es row (u ∷ []) f a h
  results_same (conj ∷ es) row (u ∷ (v ∷ rs)) f a h = results_same es row _ f a h
  results_same (disj ∷ es) row [] f a h = results_same es row [] f a h
  results_same (disj ∷ es) row (u ∷ []) f a h = results_same es row (u ∷ []) f a h
  results_same (disj ∷ es) row (u ∷ (v ∷ rs)) f a h = results_same es row _ f a h
  results_same (neg ∷ es) row [] f a h = results_same es row [] f a h
  results_same (neg ∷ es) row (u ∷ rs) f a h = results_same es row _ f a h

  -- whether a letter holds at a row that is present does not depend on the rows behind
  pub holds_same : (c : Condition) (row : ℕ) → every (columns_fit t₁.columns) (comparisons_in c) ≡ true → every (λ x. not (ahead x)) (comparisons_in c) ≡ true → row < t₁.n → holds t₁ row c ≡ holds t₂ row c
  unfolding holds condition_truth comparisons_in
  holds_same (all_of cs) row f a h = ap is_yes (all_same cs row f a h)
  holds_same (postfix es) row f a h = ap (λ (rs : List Truth). is_yes (latest rs)) (results_same es row [] f a h)

  -- ---- numbers

  values_same : (m : Measure) (row : ℕ) (ls : List ℕ) → m.column < t₁.columns → row + length ls ≤ t₁.n → values t₁ m row ls ≡ values t₂ m row ls
  unfolding values
  values_same m row [] c h = refl
  values_same m row (l ∷ ls) c h =
      ap₂ (λ (v : ℤ) (vs : List ℤ). keep (eqb m.letter 0 || eqb l m.letter) v vs) (ext.entries row m.column (omega arith) c) (values_same m (row + 1) ls c (omega arith))

  measures_same : (ms : List Measure) (row : ℕ) (ls : List ℕ) → every (λ (m : Measure). ltb m.column t₁.columns) ms ≡ true → row + length ls ≤ t₁.n → measure_numbers t₁ row ls ms ≡ measure_numbers t₂ row ls ms
  unfolding measure_numbers measured every
  measures_same [] row ls e h = refl
  measures_same (m ∷ ms) row ls e h =
      let c = and-true _ _ e in
      rw (values_same m row ls (ltb-true m.column t₁.columns c.0) h, measures_same ms row ls c.1 h)

  -- the rows of each match are present
  abbrev pub RowsIn : List Place → List Match → Type 0
  RowsIn pl [] = Unit {0}
  RowsIn pl (x ∷ xs) = (x.start + length (labels pl x.path) ≤ t₁.n) × RowsIn pl xs

  pub numbers-same : (ms : List Measure) (pl : List Place) (k : ℕ) (xs : List Match) → every (λ (m : Measure). ltb m.column t₁.columns) ms ≡ true → RowsIn pl xs → numbers_of t₁ ms pl k xs ≡ numbers_of t₂ ms pl k xs
  unfolding numbers_of match_numbers
  numbers-same ms pl k [] e r = refl
  numbers-same ms pl k (x ∷ xs) e r = rw (measures_same ms x.start (labels pl x.path) e r.0, numbers-same ms pl (suc k) xs e r.1)

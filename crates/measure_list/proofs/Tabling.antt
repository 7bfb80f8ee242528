-- Measures put into a table: those of the array, one behind the other, and that another table with
-- the same words from there on has the same measures.
use mathlib.Core.Path.{◌≡◌, refl, ◌∙◌}
use mathlib.Core.List.{List}
use Prim.Native.Nat.{ℕ, ◌+◌, ◌-◌, ◌*◌, ◌≤◌, ◌<◌}
use native.Mathlib.Omega.{arith}
use lib.ListN.{length, get_or}
use Rattle.table.specs.Measures.{measure_in, measures_in}
use Rattle.measure_list.specs.Measures.{MeasureFits, MeasuresTabled, Measurable}
use Rattle.measure_list.proofs.OneMeasure.{tabulate-same}

-- ---- another table with the same words

module _ (T T' : List ℕ) (at count : ℕ) (few : count ≤ 8) (same : (j : ℕ) → at ≤ j → j < at + 24 → get_or T' j 0 ≡ get_or T j 0) where
  pub measure_kept : (k : ℕ) → k < count → measure_in T' at k ≡ measure_in T at k
  unfolding measure_in
  measure_kept k h =
      let e0 = same (at + k * 3) (omega arith) (omega arith) in
      let e1 = same (at + k * 3 + 1) (omega arith) (omega arith) in
      let e2 = same (at + k * 3 + 2) (omega arith) (omega arith) in
      rw (e0, e1, e2)

  pub measures_kept : measures_in T' at count ≡ measures_in T at count
  unfolding measures_in
  measures_kept = tabulate-same count (measure_in T' at) (measure_in T at) measure_kept

  -- so what was put stands in the other table too
  pub tabled_kept : (measures T₀ : List ℕ) → MeasuresTabled measures count T₀ T at → MeasuresTabled measures count T' T' at
  tabled_kept measures T₀ t = record {
    long = refl;
    is = measures_kept ∙ t.is;
    each = λ k h. measure_kept k h ∙ t.each k h;
    bytes = λ j h g. rw (same j h (omega arith)) (t.bytes j h g);
    before = λ j h. refl;
    behind = λ j h. refl;
  }

  pub measurable_kept : (columns : ℕ) → length T' ≡ length T → Measurable T at count columns → Measurable T' at count columns
  measurable_kept columns e m = record {
    inside = rw e m.inside;
    bytes = λ j h g. rw (same j h (omega arith)) (m.bytes j h g);
    fit = λ k h. rw (measure_kept k h) (m.fit k h);
  }

-- measures that fit can be read from the table into which they were put
pub put_measurable : (measures : List ℕ) (count : ℕ) (T₀ T : List ℕ) (at columns : ℕ) → MeasuresTabled measures count T₀ T at → at + count * 3 ≤ length T
    → ((k : ℕ) → k < count → MeasureFits columns (measure_in measures 0 k)) → Measurable T at count columns
put_measurable measures count T₀ T at columns t h f = record { inside = h; bytes = t.bytes; fit = λ k g. rw (t.each k g) (f k g) }

-- ---- the words that were put

module _ (measures : List ℕ) (count : ℕ) (T : List ℕ) (at : ℕ) (each : (j : ℕ) → j < count * 3 → get_or T (at + j) 0 ≡ get_or measures j 0) where
  measure_same : (k : ℕ) → k < count → measure_in T at k ≡ measure_in measures 0 k
  unfolding measure_in
  measure_same k h =
      let e0 = each (k * 3) (omega arith) in
      let e1 = each (k * 3 + 1) (omega arith) in
      let e2 = each (k * 3 + 2) (omega arith) in
      let a1 : at + k * 3 + 1 ≡ at + (k * 3 + 1) = omega arith in
      let a2 : at + k * 3 + 2 ≡ at + (k * 3 + 2) = omega arith in
      let z : 0 + k * 3 ≡ k * 3 = omega arith in
      rw (a1, a2, e0, e1, e2, z) refl

  pub tabled : (T₀ : List ℕ) → length T ≡ length T₀ → ((j : ℕ) → get_or measures j 0 < 256)
      → ((j : ℕ) → j < at → get_or T j 0 ≡ get_or T₀ j 0) → ((j : ℕ) → at + count * 3 ≤ j → get_or T j 0 ≡ get_or T₀ j 0)
      → MeasuresTabled measures count T₀ T at
  unfolding measures_in
  tabled T₀ l b before behind = record {
    long = l;
    is = tabulate-same count (measure_in T at) (measure_in measures 0) measure_same;
    each = measure_same;
    bytes = λ j g h.
        let k : at + (j - at) ≡ j = omega arith in
        let e : get_or T j 0 ≡ get_or measures (j - at) 0 = rw k at (each (j - at) (omega arith)) in
        rw e (b (j - at));
    before = before;
    behind = behind;
  }

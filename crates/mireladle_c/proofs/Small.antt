-- The room of every query is small: P is at most 256, F at most 8 and n at most 4,096, so that the
-- pairs fit 64 bits.
use mathlib.Core.Path.{◌≡◌, refl}
use mathlib.Core.Bool.{Bool, true, false, not}
use mathlib.Core.List.{List, [], ◌∷◌, ◌++◌}
use Prim.Native.Nat.{ℕ, ◌+◌, ◌*◌, ◌%◌, ◌≤◌}
use native.Mathlib.Nat.{mul-le-mul}
use native.Mathlib.Omega.{arith}
use lib.Dec.{eqb, ltb}
use lib.IntN.{ℤ}
use lib.ListN.{length, get_or}
use borrow.Author.Tests.{ltb-false, eqb-true}
use Rattle.rules.specs.Basics.{pick, every}
use Rattle.rules.specs.Answers.{tree_in, P, F, nested_loops, too_many, bad_rows, Test, refuses, query_tests, offset_at, room_answer, room_of, Room}
use mathlib.Core.Option.{Option, none, some}
use lib.Pow.{pow_mono}
use Rattle.rules.specs.Language.{Tree, pattern, loop_nesting}
use Rattle.rules.specs.Places.{factor_of}
use Rattle.rules.specs.Query.{columns_of, text_of}
use Rattle.rules.specs.Rows.{table_of}
use Rattle.laws.proofs.Level.{or-false}
use Rattle.laws.proofs.FirstTrue.{all_refuse, none_true}

pub record Small (r : Room) : Type 0 where
  pub places : r.places ≤ 256
  pub factor : r.factor ≤ 8
  pub rows : r.rows ≤ 4096

-- where the room's answer is 0, the tests for answers 6, 7 and 10 are not true
clear : (q : List ℕ) (rows : List ℤ) → room_answer q (bad_rows q rows) ≡ 0 → (too_many (tree_in q) ≡ false) × (bad_rows q rows ≡ false) × (nested_loops (tree_in q) ≡ false)
unfolding room_answer query_tests all_refuse every refuses
clear q rows e =
    let tests : List Test = query_tests q ++ ((10, bad_rows q rows) ∷ []) in
    let no : (i : ℕ) → (get_or tests i (0, false)).1 ≡ false = none_true tests refl e in
    (no 7, no 10, no 6)

few_places : (q : List ℕ) → too_many (tree_in q) ≡ false → P (tree_in q) ≤ 256
unfolding too_many
few_places q = ltb-false 256 (P (tree_in q))

few_values : (t : Option (Tree pattern)) → nested_loops t ≡ false → F t ≤ 8
unfolding nested_loops F factor_of
few_values none e = omega arith
few_values (some p) e = pow_mono {i = loop_nesting p} {j = 3} (ltb-false 3 (loop_nesting p) e)

few_rows : (q : List ℕ) (rows : List ℤ) → bad_rows q rows ≡ false → (table_of (columns_of q) rows).n ≤ 4096
unfolding bad_rows
few_rows q rows e = ltb-false 4096 (table_of (columns_of q) rows).n (or-false (not (eqb (length rows % columns_of q) 0)) (ltb 4096 (table_of (columns_of q) rows).n) e).1

pub small : (q : List ℕ) (rows : List ℤ) → Small (room_of q rows)
unfolding room_of
small q rows = go (eqb (room_answer q (bad_rows q rows)) 0) refl
  where
    go : (t : Bool) → eqb (room_answer q (bad_rows q rows)) 0 ≡ t
        → Small (pick t (record { answer = 0; places = P (tree_in q); factor = F (tree_in q); rows = (table_of (columns_of q) rows).n; offset = 0 })
        (record { answer = room_answer q (bad_rows q rows); places = 0; factor = 0; rows = 0; offset = offset_at (text_of q) (room_answer q (bad_rows q rows)) }))
    go true e =
        let z = clear q rows (eqb-true (room_answer q (bad_rows q rows)) 0 e) in
        record { places = few_places q z.0; factor = few_values (tree_in q) z.2; rows = few_rows q rows z.1 }
    go false e = record { places = omega arith; factor = omega arith; rows = omega arith }

-- so for what is told: the pairs fit too
pub pairs_fit : (q : List ℕ) (rows : List ℤ) (r : Room) → r ≡ room_of q rows → (r.rows ≤ 4096) × (r.places * r.factor ≤ 2048) × (r.places * r.factor * (r.rows + 1) ≤ 8390656)
pairs_fit q rows r e =
    let s : Small r = rw e (small q rows) in
    let m : r.places * r.factor ≤ 256 * 8 = mul-le-mul s.places s.factor in
    let k : r.places * r.factor * (r.rows + 1) ≤ 2048 * 4097 = mul-le-mul m (let g : r.rows + 1 ≤ 4097 = omega (arith, s.rows) in g) in
    (s.rows, m, k)

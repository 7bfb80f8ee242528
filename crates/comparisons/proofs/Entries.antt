-- The entry at a spot of a row: its index is below the length of the rows exactly if the row that
-- is read is one of the partition, and then it is that row's entry. The row itself may be any.
use Rattle.std.proofs.Common.{◌≡◌, ℕ, suc, ◌+◌, ◌-◌, ◌*◌, ◌/◌, ◌%◌, ◌<◌, ◌≤◌, min, false, ltb, leb, List, length, ℤ, pos, negsuc, ◌+ℤ◌, sym, ap, ◌∙◌, le_refl, mod-lt, suc-mul, add-mul, mul-le-mul, div-add-mod', mul-div_cancel, arith, ltb-false, ltb-true, le-ltb, lt-ltb, leb-false, leb-true}
use mathlib.Core.Option.{none}
use lib.IntN.{+ℤ_assoc}
use Rattle.rules.specs.Rows.{table_of, entry, entry_at}
use Rattle.laws.proofs.Choice.{decided}
use Rattle.table.specs.Tests.{offset_of, column_of}
use Rattle.comparisons.specs.Spots.{FarBack, spot_index, entry_from}

-- The rows are n whole ones, at most 4,096, and `from` is 64 rows before this row. Any row may be
-- asked for: from the row 64 behind the last on, no comparison reads a row of the partition, so all
-- rows from there on are as that one.
pub record At (rows : List ℤ) (columns n row from : ℕ) : Type 0 where
  pub some : 1 ≤ columns
  pub few : columns ≤ 8
  pub most : n ≤ 4096
  pub all : length rows ≡ n * columns
  pub far : FarBack columns (min row (n + 64) * columns) from

-- the same of a row that is not so far behind
record Near (rows : List ℤ) (columns n row from : ℕ) : Type 0 where
  some : 1 ≤ columns
  few : columns ≤ 8
  most : n ≤ 4096
  all : length rows ≡ n * columns
  near : row ≤ n + 64
  far : FarBack columns (row * columns) from

-- an entry of row k is among those of n rows exactly if k is below n
row_below : (columns n k column : ℕ) → column < columns → ltb (k * columns + column) (n * columns) ≡ ltb k n
row_below columns n k column h =
    decided (ltb k n)
    (λ t. let l = ltb-true k n t in
    let a : suc k * columns ≤ n * columns = mul-le-mul l (le_refl columns) in
    let b : suc k * columns ≡ k * columns + columns = suc-mul k columns in
    lt-ltb (k * columns + column) (n * columns) (omega arith) ∙ sym t)
    (λ t. let l = ltb-false k n t in
    let a : n * columns ≤ k * columns = mul-le-mul l (le_refl columns) in
    le-ltb (k * columns + column) (n * columns) (omega arith) ∙ sym t)

module _ (rows : List ℤ) (columns n row from : ℕ) (at : Near rows columns n row from) (spot : ℕ) (word : spot < 65536) where
  rows_are : length rows / columns ≡ n
  rows_are = ap (λ (k : ℕ). k / columns) at.all ∙ mul-div_cancel n (let y : 0 < columns = let z = at.some in omega arith in y)

  rows_few : length rows ≤ 32768
  rows_few = let a : n * columns ≤ 4096 * 8 = mul-le-mul at.most at.few in let b = at.all in omega arith

  base_few : row * columns ≤ 33280
  base_few =
      let r : row ≤ 4160 = let i = at.near in let m = at.most in omega arith in
      let a : row * columns ≤ 4160 * 8 = mul-le-mul r at.few in
      omega arith

  -- the row that is read, 64 rows further on
  abbrev ahead : ℕ
  ahead = row + spot / columns

  column_below : column_of columns spot < columns
  unfolding column_of
  column_below = mod-lt spot (let y : 0 < columns = let z = at.some in omega arith in y)

  index_ahead : row * columns + spot ≡ ahead * columns + column_of columns spot
  unfolding column_of
  index_ahead =
      let b : spot / columns * columns + spot % columns ≡ spot = div-add-mod' spot columns in
      let c : (row + spot / columns) * columns ≡ row * columns + spot / columns * columns = add-mul row (spot / columns) columns in
      omega arith

  row-ahead : pos row +ℤ offset_of columns spot ≡ pos ahead +ℤ negsuc 63
  unfolding offset_of
  row-ahead = sym (+ℤ_assoc (pos row) (pos (spot / columns)) (negsuc 63))

  -- before the first row
  module _ (h : ahead < 64) where
    low : row * columns + spot < columns * 64
    low =
        let a : suc ahead * columns ≤ 64 * columns = mul-le-mul h (le_refl columns) in
        let b : suc ahead * columns ≡ ahead * columns + columns = suc-mul ahead columns in
        let c = index_ahead in
        let d = column_below in
        omega arith

    far_off : length rows ≤ spot_index from spot
    unfolding spot_index
    far_off =
        let a = low in
        let b = rows_few in
        let c = base_few in
        let d = at.far.is in
        let e = at.far.fits in
        let f = at.few in
        omega arith

    before-first : entry_from rows (spot_index from spot) ≡ entry_at (table_of columns rows) (pos row +ℤ offset_of columns spot) (column_of columns spot)
    unfolding entry_from entry_at
    before-first =
        let a : ltb (spot_index from spot) (length rows) ≡ false = le-ltb (spot_index from spot) (length rows) far_off in
        rw (a, row-ahead) (simp (lt-ltb ahead 64 h))

  -- at the first row, or behind it
  module _ (h : 64 ≤ ahead) where
    index_is : spot_index from spot ≡ (ahead - 64) * columns + column_of columns spot
    unfolding spot_index
    index_is =
        let a = index_ahead in
        let b : (ahead - 64 + 64) * columns ≡ (ahead - 64) * columns + 64 * columns = add-mul (ahead - 64) 64 columns in
        let g : (ahead - 64 + 64) * columns ≡ ahead * columns = ap (λ (i : ℕ). i * columns) (let e : ahead - 64 + 64 ≡ ahead = omega arith in e) in
        let c = base_few in
        let d = at.far.is in
        let e = at.far.fits in
        let f = at.few in
        omega arith

    there-is : ltb (spot_index from spot) (length rows) ≡ ltb (ahead - 64) (length rows / columns)
    there-is = rw (index_is, rows_are, at.all) (row_below columns n (ahead - 64) (column_of columns spot) column_below)

    from_first : entry_from rows (spot_index from spot) ≡ entry_at (table_of columns rows) (pos row +ℤ offset_of columns spot) (column_of columns spot)
    unfolding entry_from entry_at entry table_of
    from_first =
        rw (there-is, index_is, row-ahead) (simp (le-ltb ahead 64 h))

  near_is : entry_from rows (spot_index from spot) ≡ entry_at (table_of columns rows) (pos row +ℤ offset_of columns spot) (column_of columns spot)
  near_is =
      decided (ltb ahead 64)
      (λ t. before-first (ltb-true ahead 64 t))
      (λ t. from_first (ltb-false ahead 64 t))

-- ---- any row

-- far behind the last row nothing is read, 64 rows back at the most
beyond : (rows : List ℤ) (columns n row spot c : ℕ) → length rows / columns ≡ n → n + 64 ≤ row → entry_at (table_of columns rows) (pos row +ℤ offset_of columns spot) c ≡ none
unfolding entry_at table_of offset_of
beyond rows columns n row spot c e h =
    let g : pos row +ℤ offset_of columns spot ≡ pos (row + spot / columns) +ℤ negsuc 63 = moved row in
    let a : ltb (row + spot / columns) 64 ≡ false = le-ltb (row + spot / columns) 64 (omega arith) in
    let b : ltb (row + spot / columns - 64) (length rows / columns) ≡ false = le-ltb (row + spot / columns - 64) (length rows / columns) (omega arith) in
    rw g (simp (a, b))
  where
    moved : (row : ℕ) → pos row +ℤ offset_of columns spot ≡ pos (row + spot / columns) +ℤ negsuc 63
    moved row = sym (+ℤ_assoc (pos row) (pos (spot / columns)) (negsuc 63))

module _ (rows : List ℤ) (columns n row from : ℕ) (at : At rows columns n row from) (spot : ℕ) (word : spot < 65536) where
  counted : length rows / columns ≡ n
  counted = ap (λ (k : ℕ). k / columns) at.all ∙ mul-div_cancel n (let y : 0 < columns = let z = at.some in omega arith in y)

  nearly : (r : ℕ) → min row (n + 64) ≡ r → r ≤ n + 64 → Near rows columns n r from
  nearly r e h = record { some = at.some; few = at.few; most = at.most; all = at.all; near = h; far = rw (← e) at.far }

  pub entry-is : entry_from rows (spot_index from spot) ≡ entry_at (table_of columns rows) (pos row +ℤ offset_of columns spot) (column_of columns spot)
  entry-is =
      decided (leb row (n + 64))
      (λ t. let l = leb-true row (n + 64) t in near_is rows columns n row from (nearly row (omega arith) l) spot word)
      (λ t. let l = leb-false row (n + 64) t in
      near_is rows columns n (n + 64) from (nearly (n + 64) (omega arith) (omega arith)) spot word
      ∙ beyond rows columns n (n + 64) spot (column_of columns spot) counted (omega arith) ∙ sym (beyond rows columns n row spot (column_of columns spot) counted (omega arith)))

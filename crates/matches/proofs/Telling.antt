-- The report of a path that is on the trail: its rows, whether its match fits, its labels and its
-- numbers.
use mathlib.Core.Path.{◌≡◌, refl, sym, ap, ◌∙◌, subst}
use mathlib.Core.List.{List, [], ◌∷◌, ◌++◌, reverse_aux}
use mathlib.Core.Bool.{Bool, true, false}
use mathlib.Core.Option.{Option}
use Rattle.std.specs.declared.option.Option as rust
use Prim.Native.Nat.{ℕ, zero, suc, ◌+◌, ◌-◌, ◌*◌, ◌/◌, ◌%◌, ◌≤◌, ◌<◌}
use native.Mathlib.Nat.{add-zero, mul-le-mul_right, le_trans}
use native.Mathlib.Omega.{arith}
use lib.Arith.{digits_div}
use lib.IntN.{ℤ}
use lib.ListN.{length, get_or, take, drop}
use lib.Seq.{length-take-le, take_at, drop_at}
use Rattle.rules.specs.Basics.{wrote}
use Rattle.rules.specs.Query as Q
use Rattle.rules.specs.Report.{lent_room, fits, match_numbers}
use Rattle.rules.specs.Rows.{table_of}
use Rattle.rules.specs.Search.{Skip, hit, labels, last_of, end_of, next_start}
use Rattle.laws.proofs.Appended.{length-wrote_at, fits-room}
use Rattle.laws.proofs.Lists.{length-tabulate}
use Rattle.table.specs.Measures.{measures_in}
use Rattle.measures.specs.Measures.{Appendable}
use Rattle.pairs.specs.declared.Walk.{Walk}
use Rattle.pairs.specs.Layout.{Layout, P, layout, layout_of, second}
use Rattle.table.specs.Table.{ways_of, place_at, places_in, code_at, first_at}
use Rattle.pairs.specs.Step.{pair_in, stack, pair_of}
use Rattle.pairs.specs.State.{takes, Word}
use Rattle.pairs.proofs.Ways.{in_length, by_high}
use Rattle.pairs.proofs.Trails.{path_top, path_linked, path_row, path_at}
use Rattle.matches.specs.declared.Sweep.{Sweep}
use Rattle.matches.specs.declared.Task.{Task}
use Rattle.skips.specs.Skips.{skip_in, start_in}
use Rattle.matches.specs.Asked.{asked_of, path_on, labels_on}
use Rattle.matches.specs.Found.{Labels, swept_on, Told, Reports}
use Rattle.matches.proofs.Labelled.{Ends, rows_taken}

-- the last pair of a path
last_up : (d x : ℕ) (p xs : List ℕ) → last_of d (reverse_aux xs (x ∷ p)) ≡ last_of x p
last_up d x p [] = refl
last_up d x p (y ∷ xs) = last_up d y (x ∷ p) xs

takes-end : (T : Layout) (q : ℕ) → 29 < code_at T.words q → takes (place_at T.words q) ≡ 0
unfolding place_at
takes-end T q h = by_high (λ _ _. true) 0 (P T) (first_at T.words q) (ways_of T.words q) 0 (code_at T.words q) (omega arith)

ends_at : (T : Layout) (trail : List ℕ) (i : ℕ) → pair_in (P T) (get_or trail 0 0) / P T ≡ i → (t : ℕ) → Ends T (stack (P T) trail (suc t)) i
unfolding stack
ends_at T trail i e zero = e
ends_at T trail i e (suc t) = ends_at T trail i e t

-- what was written, read again
part-wrote : {A : Type 0} (d vs : List A) (at end : ℕ) → at + length vs ≤ length d → end ≡ at + length vs → take (end - at) (drop at (wrote d at vs)) ≡ vs
unfolding wrote
part-wrote d vs at end h e =
    let k : end - at ≡ length vs = omega arith in
    rw (k, drop_at (take at d) (vs ++ drop (at + length vs) d) at (length-take-le at d (omega arith)), take_at vs (drop (at + length vs) d) (length vs) refl)

measures_count : (T : List ℕ) (at count : ℕ) → length (measures_in T at count) ≡ count
unfolding measures_in
measures_count T at count = length-tabulate count _

module _ (W : List ℕ) (rows : List ℤ) (task : Task) (trail labs : List ℕ) (i : Sweep) (w : Walk) (h : Reports W rows task trail labs i w) where
  abbrev T : Layout
  T = layout_of W task.size

  abbrev n : ℕ
  n = task.size.rows

  abbrev count : ℕ
  count = task.count

  abbrev columns : ℕ
  columns = task.size.columns

  abbrev ms : List Q.Measure
  ms = measures_in W task.measures count

  abbrev p : List ℕ
  p = path_on (P T) trail w.top

  abbrev ls : List ℕ
  ls = labels (places_in T.words (P T)) p

  abbrev taken : ℕ
  taken = w.row - i.row

  stack_is : stack (P T) trail w.top ≡ pair_of w ∷ stack (P T) trail (w.top - 1)
  stack_is = path_top T trail w h.path h.going

  ends : Ends T (pair_of w ∷ stack (P T) trail (w.top - 1)) i.row
  ends =
      let b : pair_in (P T) (get_or trail 0 0) / P T ≡ i.row = rw h.bottom (rw add-zero at (digits_div i.row h.path.sized.some)) in
      let g = h.going in
      let k : w.top ≡ suc (w.top - 1) = omega arith in
      let e : Ends T (stack (P T) trail (suc (w.top - 1))) i.row = ends_at T trail i.row b (w.top - 1) in
      let f : Ends T (stack (P T) trail w.top) i.row = subst (λ (t : ℕ). Ends T (stack (P T) trail t) i.row) (sym k) e in
      rw stack_is at f

  rows_are : i.row + length ls ≡ w.row
  rows_are =
      let r = rows_taken T h.path.sized.some (pair_of w) (stack (P T) trail (w.top - 1)) i.row (path_linked T trail w h.path h.going) ends in
      let a = path_row T trail w h.path h.going in
      let t : takes (place_at T.words (pair_of w % P T)) ≡ 0 = rw (path_at T trail w h.path h.going) (takes-end T w.place h.last) in
      rw stack_is (omega arith)

  pub tell_row : i.row ≤ w.row
  tell_row = let r = rows_are in omega arith

  taken_is : length ls ≡ taken
  taken_is = let r = rows_are in omega arith

  on-is : labels_on (layout W task.size.places 0) trail w.top ≡ ls
  unfolding labels_on
  on-is = refl

  module _ (nums : ℕ) (r : Bool) (ef : (xs : List Q.Measure) (vs : List ℕ) → length xs ≡ count → length vs ≡ taken → r ≡ fits (lent_room nums (length labs) xs) i.matches i.labels vs) where
    fits-is : r ≡ fits (lent_room nums (length labs) ms) i.matches i.labels ls
    fits-is = ef ms ls (measures_count W task.measures count) taken_is

    module _ (et : r ≡ true) where
      rooms : (i.matches * (3 + 2 * count) + (3 + 2 * count) ≤ nums) × (i.labels + taken ≤ length labs)
      rooms = rw (measures_count W task.measures count, taken_is) at (fits-room nums (length labs) ms i.matches i.labels ls (sym fits-is ∙ et))

      -- the labels are those of the places, however many steps are allowed
      abbrev T₀ : Layout
      T₀ = layout W task.size.places 0

      word-as : (e : ℕ) → Word T e → Word T₀ e
      unfolding second
      word-as e x = record { place = x.place; some = x.some; behind = x.behind; before = x.before }

      pub tell_labels : Labels T₀ trail labs w.top (i.labels + taken)
      tell_labels = record { some = h.path.sized.some; long = h.path.sized.long; trailed = h.path.room; words = λ k l. word-as _ (h.path.words k l); end_room = rooms.1; enough = rw (on-is, taken_is) (omega arith) }

      module _ (labs' : List ℕ) (el : labs' ≡ wrote labs (i.labels + taken - length (labels_on T₀ trail w.top)) (labels_on T₀ trail w.top)) where
        written : labs' ≡ wrote labs i.labels ls
        written =
            let k : i.labels + taken - length ls ≡ i.labels = let t = taken_is in omega arith in
            rw k at (rw on-is at el)

        pub tell_long : length labs' ≡ length labs
        tell_long = let t = taken_is in let b = rooms.1 in rw written (length-wrote_at labs i.labels ls (omega arith))

        pub tell_end : i.labels + taken ≤ length labs'
        tell_end = let b = rooms.1 in let l = tell_long in omega arith

        part-is : take (i.labels + taken - i.labels) (drop i.labels labs') ≡ ls
        part-is = let t = taken_is in let b = rooms.1 in rw written (part-wrote labs ls i.labels (i.labels + taken) (omega arith) (omega arith))

        pub tell_appends : (numbers : List ℤ) → nums ≡ length numbers
            → Appendable numbers (i.matches * (3 + 2 * count)) (i.matches + 1) W task.measures count rows columns i.row (length (take (i.labels + taken - i.labels) (drop i.labels labs')))
        tell_appends numbers en =
            let m = h.measured in
            let b = h.behind in
            let f = m.few_rows in
            let e = h.row in
            let g = h.few in
            let t = taken_is in
            let r = rows_are in
            rw (part-is, taken_is) (record {
              few = omega arith;
              there = le_trans (mul-le-mul_right columns (let z : i.row + taken ≤ n = omega arith in z)) m.there;
              room = rw (← en) rooms.0;
              measured = m.measurable;
              numbered = omega arith;
              placed = omega arith;
            })

        next-is : (skip : Skip) → next_start skip i.row (end_of (length (places_in T.words (P T))) p) ls ≡ next_start skip i.row w.row ls
        next-is skip =
            let l : last_of 0 p ≡ pair_of w = ap (λ (s : List ℕ). last_of 0 (reverse_aux s [])) stack_is ∙ last_up 0 (pair_of w) [] (stack (P T) trail (w.top - 1)) in
            ap (λ (j : ℕ). next_start skip i.row j ls) (rw (l, in_length T.words (P T)) (path_row T trail w h.path h.going))

        pub tell_fits : (numbers numbers' : List ℤ) (nx : rust.Option ℕ) (o : Sweep) → nums ≡ length numbers
            → numbers' ≡ wrote numbers (i.matches * (3 + 2 * count)) (match_numbers (table_of columns rows) ms (i.matches + 1) i.row (take (i.labels + taken - i.labels) (drop i.labels labs')))
            → start_in nx ≡ next_start (skip_in task.skip) i.row w.row (take (i.labels + taken - i.labels) (drop i.labels labs'))
            → o ≡ swept_on (start_in nx) n (i.matches + 1) (i.labels + taken) w.steps
            → Told (asked_of W rows task) (hit p) i w.steps numbers numbers' labs labs' o
        tell_fits numbers numbers' nx o en e ex eo =
            let s : start_in nx ≡ next_start (skip_in task.skip) i.row (end_of (length (places_in T.words (P T))) p) ls = (rw part-is at ex) ∙ sym (next-is (skip_in task.skip)) in
            rw (← en, sym fits-is ∙ et) (record {
              numbers_is = rw (measures_count W task.measures count) (rw part-is at e);
              labels_is = written;
              sweep_is = eo ∙ ap (λ (x : Option ℕ). swept_on x n (i.matches + 1) (i.labels + taken) w.steps) s ∙ rw taken_is;
            })

    pub tell_full : (numbers : List ℤ) → nums ≡ length numbers → r ≡ false
        → Told (asked_of W rows task) (hit p) i w.steps numbers numbers labs labs
        (record { end = 13; row = n; matches = i.matches; labels = i.labels; steps = w.steps; opened = 0 })
    tell_full numbers en et = rw (← en, sym fits-is ∙ et) (record { numbers_is = refl; labels_is = refl; sweep_is = refl })

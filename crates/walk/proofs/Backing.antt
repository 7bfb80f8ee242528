-- The last open pair tries its next way, or fails where none is left.
use mathlib.Core.Path.{◌≡◌, refl, sym, ap, ap₂, ◌∙◌}
use mathlib.Core.List.{List}
use mathlib.Core.Bool.{Bool, true, false}
use mathlib.Core.Logic.{◌≢◌}
use Prim.Native.Nat.{ℕ, zero, suc, ◌+◌, ◌-◌, ◌*◌, ◌/◌, ◌≤◌, ◌<◌}
use native.Mathlib.Nat.{not-suc-le-zero}
use native.Mathlib.Decide.{ℕ_discrete}
use native.Mathlib.Omega.{arith}
use lib.Dec.{ltb}
use lib.ListN.{length, get_or, set, length-set}
use lib.Seq.{get_or-set_same, get_or-set_other}
use borrow.Author.Tests.{ltb-true, ltb-false}
use Rattle.rules.specs.Basics.{pick}
use Rattle.rules.specs.Report.{bit_at}
use Rattle.rules.specs.Walk.{Halting}
use Rattle.rules.specs.Working.{marked}
use Rattle.pairs.specs.declared.Walk.{Walk}
use Rattle.pairs.specs.Layout.{Layout, P, N, second, left_from, most_pairs}
use Rattle.table.specs.Table.{ways_of, code_at, count_at, later_way}
use Rattle.table.specs.Sized.{LaterIn}
use Rattle.pairs.specs.Step.{one_unless, place_in, row_in, way_in, pair_in, stack, walk_at, try_at, after, went_on, Noted}
use Rattle.pairs.specs.State.{Word, row_from, way_at, reach, Led, Stuck, Good, left, rest_at, resumed, comes, Reached, Backs, Backward, Quiet}
use Rattle.pairs.proofs.Ways.{left-none, left-some, ways-length, ways-later, second_is, takes-no_row}
use Rattle.pairs.proofs.Trails.{went-place, went-row, went-way, stack_same}
use Rattle.pairs.proofs.Going.{zero-two, not-two, roomy_on, roomy_top, good_room, comes-idle, top_word, top_below, top_out, top_byte, leave_reached, leave_less}
use Rattle.pairs.proofs.Trying.{turn_noted, turn_tried}

-- ---- the way behind a way

after_small : (stop j : ℕ) → stop ≤ 256 → after stop j < 256
unfolding after
after_small stop j h = go (ltb (j + 1) stop) refl
  where
    go : (b : Bool) → ltb (j + 1) stop ≡ b → pick b (j + 1) 0 < 256
    go true e = let l = ltb-true (j + 1) stop e in omega arith
    go false e = omega arith

after-some : (stop j : ℕ) → 0 < after stop j → (after stop j ≡ j + 1) × (j + 1 < stop)
unfolding after
after-some stop j h = go (ltb (j + 1) stop) refl h
  where
    go : (b : Bool) → ltb (j + 1) stop ≡ b → 0 < pick b (j + 1) 0 → (pick b (j + 1) 0 ≡ j + 1) × (j + 1 < stop)
    go true e h = (refl, ltb-true (j + 1) stop e)
    go false e h = absurd (not-suc-le-zero h)

after-zero : (stop j : ℕ) → after stop j ≡ 0 → stop ≤ j + 1
unfolding after
after-zero stop j h = go (ltb (j + 1) stop) refl h
  where
    go : (b : Bool) → ltb (j + 1) stop ≡ b → pick b (j + 1) 0 ≡ 0 → stop ≤ j + 1
    go true e h = absurd (omega arith)
    go false e h = ltb-false (j + 1) stop e

left_after : (T : Layout) (q j : ℕ) → left_from T q (after (count_at T.words q) j) ≡ count_at T.words q - j - 1
unfolding after
left_after T q j = go (ltb (j + 1) (count_at T.words q)) refl
  where
    go : (b : Bool) → ltb (j + 1) (count_at T.words q) ≡ b → left_from T q (pick b (j + 1) 0) ≡ count_at T.words q - j - 1
    go true e = left-some T q (j + 1) (omega arith) ∙ omega arith
    go false e = let l = ltb-false (j + 1) (count_at T.words q) e in left-none T q 0 refl ∙ omega arith

pub rest_top : (T : Layout) (trail : List ℕ) (t : ℕ) → 0 < t → rest_at T trail t ≡ left_from T (place_in (get_or trail (t - 1) 0)) (way_in (get_or trail (t - 1) 0))
unfolding rest_at
rest_top T trail zero h = absurd (not-suc-le-zero h)
rest_top T trail (suc t) h = let i : suc t - 1 ≡ t = omega arith in rw i

module _ (H : Halting) (T : Layout) (holds : ℕ → ℕ → Bool) (n : ℕ) (quiet : Quiet H T holds n) (notes trail : List ℕ) (w : Walk) (h : Backs T holds n notes trail w) where
  abbrev e : ℕ
  e = get_or trail (w.top - 1) 0

  abbrev g : Good T holds n notes trail w
  g = h.idle.state.good

  abbrev q : ℕ
  q = place_in e

  abbrev j : ℕ
  j = way_in e

  stuck : Stuck T notes e
  stuck = h.idle.state.stands.stuck h.idle.down h.idle.found h.going

  comes-is : resumed H T holds n notes trail w ≡ comes H T holds n notes trail w
  comes-is = sym (comes-idle H T holds n notes trail w h.idle.down)

  word : Word T e
  word = top_word H T holds n quiet notes trail w g h.going

  below : row_in e * P T + q < N T n
  below = top_below H T holds n quiet notes trail w g h.going

  top_room : w.top ≤ N T n
  top_room = let r = good_room T holds n notes trail w g in omega arith

  pub back_at : w.top - 1 < length trail
  back_at = let r = roomy_top T n trail w.top w.steps top_room g.trailed in let k = h.going in omega arith

  pub back_put : (a : ℕ) → a < 256 → (w.top - 1 < length trail) × (a < 256)
  back_put a l = (back_at, l)

  -- ---- it fails

  popped : ((m : ℕ) → m < length (ways_of T.words q) → bit_at notes (way_at T e m) ≡ true) → (x r b : ℕ)
      → Backward H T holds n notes trail w (marked notes (row_in e * P T + q)) trail (walk_at (w.top - 1) w.steps x r b 0)
  popped all x r b =
      let l = leave_less H T holds n quiet notes trail w g h.going stuck.going all x r b in
      record {
        reached = rw comes-is at (leave_reached H T holds n quiet notes trail w g h.going stuck.going all x r b);
        found = zero-two;
        less = omega arith;
        fewer = λ c. absurd (omega arith);
      }

  none_left : j ≡ 0 → (m : ℕ) → m < length (ways_of T.words q) → bit_at notes (way_at T e m) ≡ true
  unfolding reach
  none_left z m l = stuck.tried m (rw (left-none T q j z) (let k : m < suc (left_from T q (second T q)) = rw (ways-length T q) at l in omega arith))

  -- ---- it tries its next way

  module _ (some : 0 < j) where
    abbrev stop : ℕ
    stop = count_at T.words q

    abbrev first : ℕ
    first = second T q

    place : q < P T
    place = word.place

    has-second : 0 < first
    has-second = word.some some

    first-is : first ≡ 1
    first-is = (second_is T q has-second).0

    stop-small : stop ≤ 256
    stop-small = g.legal.sized.many q place

    later-in : LaterIn T.words q j
    later-in =
        record {
          place = let l = g.legal.sized.long in omega (arith, place);
          small = let b = word.before some in omega (arith, stop-small);
          there = λ two.
              let b = word.before some in
              let s = (second_is T q has-second).1 in
              let n : count_at T.words q ≢ 2 = two in
              let a = g.legal.sized.ways q place (omega arith) in
              omega arith;
        }

    abbrev v : ℕ
    v = went_on (after stop j) e

    v-place : place_in v ≡ q
    v-place = went-place e (after stop j) (after_small stop j stop-small)

    v-row : row_in v ≡ row_in e
    v-row = went-row e (after stop j) (after_small stop j stop-small)

    v-way : way_in v ≡ after stop j
    v-way = went-way e (after stop j) (after_small stop j stop-small)

    v-pair : pair_in (P T) v ≡ pair_in (P T) e
    v-pair = rw (v-place, v-row)

    v-word : Word T v
    v-word =
        record {
          place = rw v-place place;
          some = λ _. rw v-place has-second;
          behind = λ l. let s = after-some stop j (rw v-way at l) in let b = word.behind some in rw (v-place, v-way, s.0) (omega arith);
          before = λ l. let s = after-some stop j (rw v-way at l) in rw (v-place, v-way, s.0) s.1;
        }

    way_same : (m : ℕ) → way_at T v m ≡ way_at T e m
    unfolding way_at row_from
    way_same m = rw (v-place, v-row)

    reach-e : reach T e ≡ suc (j - first)
    unfolding reach
    reach-e =
        let a = word.behind some in
        let b = word.before some in
        rw (left-some T q first has-second, left-some T q j some) (omega arith)

    reach-v : reach T v ≡ suc (suc (j - first))
    unfolding reach
    reach-v =
        let a = word.behind some in
        let b = word.before some in
        rw (v-place, v-way, left-some T q first has-second, left_after T q j) (omega arith)

    abbrev trail₂ : List ℕ
    trail₂ = set trail (w.top - 1) v

    on-top : get_or trail₂ (w.top - 1) 0 ≡ v
    on-top = get_or-set_same trail (w.top - 1) v 0 back_at

    stack_is : stack (P T) trail₂ w.top ≡ stack (P T) trail w.top
    stack_is = stack_same (P T) trail w.top v h.going (roomy_top T n trail w.top w.steps top_room g.trailed) v-pair

    went-words : (k : ℕ) → k < w.top → Word T (get_or trail₂ k 0)
    went-words k l = elim (ℕ_discrete k (w.top - 1)) [
      | yes d ↦ rw (d, on-top) v-word
      | no d ↦ rw (get_or-set_other trail (w.top - 1) k v 0 d) (g.words k l)
    ]

    went-led : (k : ℕ) → suc k < w.top → Led T notes (get_or trail₂ k 0) (pair_in (P T) (get_or trail₂ (suc k) 0))
    went-led k l =
        let u : get_or trail₂ k 0 ≡ get_or trail k 0 = get_or-set_other trail (w.top - 1) k v 0 (λ (d : k ≡ w.top - 1). omega arith) in
        let p : pair_in (P T) (get_or trail₂ (suc k) 0) ≡ pair_in (P T) (get_or trail (suc k) 0) = above in
        rw (u, p) (g.led k l)
      where
        above : pair_in (P T) (get_or trail₂ (suc k) 0) ≡ pair_in (P T) (get_or trail (suc k) 0)
        above = elim (ℕ_discrete (suc k) (w.top - 1)) [
          | yes d ↦ ap (λ (i : ℕ). pair_in (P T) (get_or trail₂ i 0)) d ∙ ap (pair_in (P T)) on-top ∙ v-pair ∙ sym (ap (λ (i : ℕ). pair_in (P T) (get_or trail i 0)) d)
          | no d ↦ ap (pair_in (P T)) (get_or-set_other trail (w.top - 1) (suc k) v 0 d)
        ]

    went-good : Good T holds n notes trail₂ w
    went-good =
        record {
          legal = g.legal;
          noted = g.noted;
          trailed = roomy_on T n trail (set trail (w.top - 1) v) w.top w.steps w.top w.steps (length-set trail (w.top - 1) v) (omega arith) (λ l. l) g.trailed;
          opened = rw stack_is g.opened;
          linked = rw stack_is g.linked;
          passing = rw stack_is g.passing;
          words = went-words;
          led = went-led;
          steps = g.steps;
        }

    went-resumed : resumed H T holds n notes trail₂ w ≡ resumed H T holds n notes trail w
    unfolding resumed
    went-resumed = rw stack_is

    abbrev m : ℕ
    m = suc (j - first)

    code_is : code_at T.words (place_in (get_or trail₂ (w.top - 1) 0)) ≤ 29
    code_is = rw (on-top, v-place) stuck.going

    inside : m < length (ways_of T.words (place_in (get_or trail₂ (w.top - 1) 0)))
    inside =
        let a = word.behind some in
        let b = word.before some in
        rw (on-top, v-place, ways-length T q, left-some T q first has-second) (omega arith)

    reaches : reach T (get_or trail₂ (w.top - 1) 0) ≡ suc m
    reaches = rw on-top reach-v

    before : (i : ℕ) → i < m → bit_at notes (way_at T (get_or trail₂ (w.top - 1) 0) i) ≡ true
    before i l = rw (on-top, way_same i) (stuck.tried i (rw reach-e l))

    fork : 26 ≤ code_at T.words q
    fork = go (ltb (code_at T.words q) 28) refl
      where
        go : (b : Bool) → ltb (code_at T.words q) 28 ≡ b → 26 ≤ code_at T.words q
        go true d = let o = g.legal.sized.one q place (ltb-true (code_at T.words q) 28 d) in let s = (second_is T q has-second).1 in absurd (omega arith)
        go false d = let l = ltb-false (code_at T.words q) 28 d in omega arith

    row_here : row_in e ≡ row_from T e
    unfolding row_from
    row_here = rw (takes-no_row T holds n q (row_in e) place fork) (omega arith)

    row_from_lem : row_in e ≡ row_from T (get_or trail₂ (w.top - 1) 0)
    unfolding row_from
    row_from_lem = rw (on-top, v-place, v-row, takes-no_row T holds n q (row_in e) place fork) (omega arith)

    module _ (k : ℕ) (ek : k ≡ later_way T.words q j) where
      way_here : k ≡ get_or (ways_of T.words q) m 0
      way_here =
          let a = word.behind some in
          let b = word.before some in
          let o = first-is in
          let d : j ≡ suc (j - first) = omega arith in
          ek ∙ ap (λ (i : ℕ). later_way T.words q i) d ∙ sym (ways-later T q (j - first) (omega arith))

      way_is : k ≡ get_or (ways_of T.words (place_in (get_or trail₂ (w.top - 1) 0))) m 0
      way_is = rw (on-top, v-place) way_here

      way_noted : Noted notes (row_in e * P T + k)
      way_noted = turn_noted H T holds n quiet notes trail₂ w went-good h.going code_is m inside reaches before k (row_in e) (row_in e * P T) way_is row_from_lem refl

      -- the pair of the way is tried
      way_tried : Backward H T holds n notes trail w notes trail₂ (try_at notes w.top w.steps k (row_in e) (row_in e * P T))
      unfolding left
      way_tried =
          let t : Reached H T holds n notes trail₂ (resumed H T holds n notes trail₂ w) notes trail₂ (try_at notes w.top w.steps k (row_in e) (row_in e * P T)) =
          turn_tried H T holds n quiet notes trail₂ w went-good h.going code_is m inside reaches before k (row_in e) (row_in e * P T) way_is row_from_lem refl in
          let o = top_room in
          let gg = h.going in
          record {
            reached = record {
              good = t.good;
              stands = t.stands;
              same = t.same ∙ went-resumed ∙ comes-is;
              notes_long = refl;
              trail_long = length-set trail (w.top - 1) v;
              notes_beyond = λ z l. refl;
              trail_beyond = λ i l. get_or-set_other trail (w.top - 1) i v 0 (λ (z : i ≡ w.top - 1). omega arith);
            };
            found = not-two (bit_at notes (row_in e * P T + k));
            less = omega arith;
            fewer = λ _. fewer;
          }
        where
          fewer : rest_at T trail₂ w.top < rest_at T trail w.top
          fewer =
              let b = word.before some in
              let a : rest_at T trail₂ w.top ≡ stop - j - 1 = rest_top T trail₂ w.top h.going ∙ rw (on-top, v-place, v-way) (left_after T q j) in
              let c : rest_at T trail w.top ≡ stop - j = rest_top T trail w.top h.going ∙ left-some T q j some in
              rw (a, c) (omega arith)

      -- it was the last way, and its pair has failed: so have all
      all_left : after stop j ≡ 0 → bit_at notes (row_in e * P T + k) ≡ true → (i : ℕ) → i < length (ways_of T.words q) → bit_at notes (way_at T e i) ≡ true
      unfolding way_at
      all_left z o i l = elim (ℕ_discrete i m) [
        | yes d ↦ rw d last
        | no d ↦
            let c : i ≢ m = d in
            let a = word.behind some in
            let b = word.before some in
            let s = after-zero stop j z in
            let t : i < suc (stop - first) = rw (ways-length T q, left-some T q first has-second) at l in
            stuck.tried i (rw reach-e (omega arith))
      ]
        where
          pair_is : way_at T e m ≡ row_in e * P T + k
          pair_is = rw (row_here, way_here)

          last : bit_at notes (way_at T e m) ≡ true
          last = rw pair_is o

  -- ---- as the code reads it: the number u of the last open pair, its place p, its row r and its
  -- way v

  module _ (u : ℕ) (eu : (u ≡ e) × (u < 4294967296)) (p : ℕ) (ep : (p ≡ place_in u) × (p < 2048)) (r : ℕ) (er : (r ≡ row_in u) × (r < 8192)) where
    p-is : p ≡ q
    p-is = ep.0 ∙ ap (λ (x : ℕ). place_in x) eu.0

    r-is : r ≡ row_in e
    r-is = er.0 ∙ ap (λ (x : ℕ). row_in x) eu.0

    pub back_base : r * P T < most_pairs
    back_base = rw r-is (let b = below in let s = g.legal.small in omega arith)

    pub back_pair : r * P T + p < most_pairs
    back_pair = rw (p-is, r-is) (let b = below in let s = g.legal.small in omega arith)

    pub back_marks : ((r * P T + p) / 8 < length notes) × (bit_at notes (r * P T + p) ≡ false)
    back_marks = rw (p-is, r-is) (top_byte H T holds n quiet notes trail w g h.going, top_out H T holds n quiet notes trail w g h.going)

    as_read : (notes' : List ℕ) → notes' ≡ marked notes (r * P T + p)
        → Backward H T holds n notes trail w (marked notes (row_in e * P T + q)) trail (walk_at (w.top - 1) w.steps q (row_in e) (row_in e * P T) 0)
        → Backward H T holds n notes trail w notes' trail (walk_at (w.top - 1) w.steps p r (r * P T) 0)
    as_read notes' en b = rw (en, p-is, r-is) b

    module _ (v : ℕ) (ev : (v ≡ way_in u) × (v < 256)) where
      v-is : v ≡ j
      v-is = ev.0 ∙ ap (λ (x : ℕ). way_in x) eu.0

      pub back_none : v ≤ 0 → (notes' : List ℕ) → notes' ≡ marked notes (r * P T + p) → Backward H T holds n notes trail w notes' trail (walk_at (w.top - 1) w.steps p r (r * P T) 0)
      back_none z notes' en = as_read notes' en (popped (none_left (let d : v ≡ 0 = omega arith in sym v-is ∙ d)) q (row_in e) (row_in e * P T))

      module _ (nz : 0 < v) where
        some-way : 0 < j
        some-way = rw v-is at nz

        pub back_words : 4 * p + 4 ≤ length T.words
        back_words = rw p-is (let a = word.place in let l = g.legal.sized.long in omega arith)

        pub back_later : LaterIn T.words p v
        back_later = rw (p-is, v-is) (later-in some-way)

        module _ (k : ℕ) (ek : (k ≡ later_way T.words p v) × (k < 65536)) where
          k-is : k ≡ later_way T.words q j
          k-is = ek.0 ∙ ap₂ (λ (x y : ℕ). later_way T.words x y) p-is v-is

          pub back_noted : Noted notes (r * P T + k)
          back_noted = rw r-is (way_noted some-way k k-is)

          module _ (s : ℕ) (es : (s ≡ count_at T.words p) × (s < 65536)) where
            s_is : s ≡ count_at T.words q
            s_is = es.0 ∙ ap (λ (x : ℕ). count_at T.words x) p-is

            pub back_stop : (v < 65536) × (s ≤ 256)
            back_stop = (omega (arith, ev.1), rw s_is (stop-small some-way))

            module _ (a : ℕ) (ea : (a ≡ after s v) × (a < 256)) (f : Bool) (ef : f ≡ bit_at notes (r * P T + k)) where
              pub back_tried : (t : List ℕ) → t ≡ set trail (w.top - 1) (went_on a u) → (d : ℕ) → one_unless f ≡ d
                  → Backward H T holds n notes trail w notes t (walk_at w.top w.steps k r (r * P T) d)
              back_tried t et d ed =
                  let x : Backward H T holds n notes trail w notes (trail₂ some-way) (try_at notes w.top w.steps k (row_in e) (row_in e * P T)) = way_tried some-way k k-is in
                  let c : t ≡ trail₂ some-way = et ∙ ap₂ (λ (y z : ℕ). set trail (w.top - 1) (went_on y z)) (ea.0 ∙ ap₂ after s_is v-is) eu.0 in
                  rw (c, ← ed, ef, r-is) x

              pub back_last : f ≡ true → a ≤ 0 → (notes' : List ℕ) → notes' ≡ marked notes (r * P T + p)
                  → Backward H T holds n notes trail w notes' trail (walk_at (w.top - 1) w.steps p r (r * P T) 0)
              back_last t z notes' en =
                  let y : after (count_at T.words q) j ≡ 0 = sym (ea.0 ∙ ap₂ after s_is v-is) ∙ omega (arith, z) in
                  let o : bit_at notes (row_in e * P T + k) ≡ true = rw r-is at (sym ef ∙ t) in
                  as_read notes' en (popped (all_left some-way k k-is y o) q (row_in e) (row_in e * P T))

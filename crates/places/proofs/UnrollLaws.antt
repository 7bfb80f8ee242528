-- Laws of `unroll_plane` and `unroll`: in each plane the whole tree is put, and END behind it; what
-- was put in a plane is kept by those behind it; all of it is read back, and keeps to what the walk
-- relies on.
use Rattle.std.proofs.Math.Bridge.{le_prop}
use mathlib.Core.Path.{ap₂, subst, ◌≡◌, refl, sym, ap, ◌∙◌}
use mathlib.Core.Bool.{Bool, true, false}
use mathlib.Core.List.{List, [], ◌∷◌}
use Prim.Native.Nat.{ℕ, zero, suc, ◌+◌, ◌*◌, ◌-◌, ◌/◌, ◌%◌, ◌^◌, ◌≤◌, ◌<◌}
use native.Mathlib.Nat.{div-add-mod', mod-lt, div-lt_iff_lt-mul, mul-le-mul}
use native.Mathlib.Omega.{arith}
use mir.Val.{Fits as Fits-in}
use mir.Syntax.{w64}
use lib.Arith.{digits_lt, digits_mod}
use lib.Dec.{ltb}
use lib.Pow.{pow_pos}
use lib.ListN.{length, get_or, length-append}
use borrow.Author.Tests.{ltb-true, ltb-false}
use Rattle.rules.specs.Language.{Tree, pattern}
use Rattle.rules.specs.Places.{unroll, p_fork, p_end, size, nest, places, places_of, factor_of}
use Rattle.laws.proofs.Bounds.{Bounds, written-bounds}
use Rattle.laws.proofs.Counting.{unroll-size, nest-counted, places-counted}
use Rattle.laws.proofs.Distinct.{thinned-length}
use Rattle.rules.specs.Working.{thinned}
use Rattle.laws.proofs.ThinPlaces.{thinned-spelt}
use Rattle.table.specs.Table.{code_at, first_at, later_at, count_at, places_from, places_in}
use Rattle.place_codes.specs.Planes.{Low, slot, state_by}
use Rattle.place_codes.specs.declared.Plane.{Plane}
use Rattle.place_codes.specs.declared.Behind.{Behind}
use Rattle.place_codes.proofs.CodeLaws.{slot-low, product_low}
use Rattle.place_words.specs.Words.{put_words, put_place, way_count, ways_in, put_places, Wording, PutOne, Emitted, place_words}
use Rattle.forks.specs.Emitting.{tree_places, Emitting, Unrolling, PlacesTabled}
use Rattle.place_words.proofs.TableLaws.{Sound, Keeps, Back, ways_in-append, places-length, words_length, places-back, places_are, places-kept, emitted_two, emitted_one}
use Rattle.unrolling.proofs.CodeLaws.{tree-length}
use Rattle.places.specs.Flat.{Flat, plane_places}
use Rattle.places.proofs.Forking.{all_few, whole-wayed}
use Rattle.places.proofs.Planes.{plane-at}
use Rattle.places.proofs.Spelling.{lettered}

-- ---- one plane

module _ (o : Plane) (s : List ℕ) (top P : ℕ) (T : List ℕ) (w : ℕ) (h : Flat o s top P T w) where
  pub some_place : 1 ≤ P
  some_place = omega (arith, h.count, unroll-size h.tree)

  last-place : size (unroll h.tree) ≡ P - 1
  last-place = omega (arith, h.count, unroll-size h.tree)

  end_low : Low (state_by o 1 (P - 1))
  unfolding state_by
  end_low =
      record {
        some = omega arith;
        few = omega arith;
        here = slot-low o (P - 1) (omega (arith, h.few));
        set = omega (arith, product_low o (P - 1) (omega (arith, h.few)));
      }

  long : (k : Behind) → length (tree_places o h.tree 0 k) ≡ P - 1
  unfolding places_of
  long k = omega (arith, h.count, tree-length o h.tree 0 k)

  few : (k : Behind) → ways_in (tree_places o h.tree 0 k) ≤ 3 * (P - 1)
  few k = omega (arith, all_few o (unroll h.tree) 0 k, last-place)

  ways-all : ways_in (plane_places o h.tree P) ≤ 3 * P
  unfolding ways_in way_count
  ways-all = omega (arith, ways_in-append (tree_places o h.tree 0 (state_by o 1 (P - 1))) (p_end ∷ []), few (state_by o 1 (P - 1)))

  long_all : length (plane_places o h.tree P) ≡ P
  long_all = omega (arith, length-append (tree_places o h.tree 0 (state_by o 1 (P - 1))) (p_end ∷ []), long (state_by o 1 (P - 1)), some_place)

  module _ (k : Behind) (ek : k ≡ state_by o 1 (P - 1)) where
    pub plane-emitting : Emitting o s top T 0 w k
    plane-emitting =
        record {
          tree = h.tree;
          top = h.is;
          fits = record {
            long = λ q l. h.long q (omega (arith, long k));
            small = h.small;
            place = omega (arith, long k, h.few);
            way = omega (arith, few k, h.way);
            behind = rw ek end_low;
          };
        }

    here-is : k.here ≡ slot o (P - 1)
    unfolding state_by
    here-is = ap (λ (v : Behind). v.here) ek

    module _ (T1 : List ℕ) (r : ℕ) (d : (g : Emitting o s top T 0 w k) → Emitted o T T1 0 w r (tree_places o g.tree 0 k)) where
      put : Emitted o T T1 0 w r (tree_places o h.tree 0 (state_by o 1 (P - 1)))
      unfolding plane-emitting
      put = rw (← ek) (d plane-emitting)

      same : length T1 ≡ length T
      same = ap length put.is ∙ places-length o T 0 w (tree_places o h.tree 0 (state_by o 1 (P - 1)))

      pub end-words : Wording T1 k.here 30 0 0 0
      end-words =
          record {
            long = rw here-is (omega (arith, h.long (P - 1) (omega (arith, some_place)), same));
            code_fits = omega arith;
            first_fits = omega arith;
            later_fits = omega arith;
            count_fits = omega arith;
          }

      pub plane-done : (T2 : List ℕ) (to : ℕ) → (to ≡ r) × (T2 ≡ put_words T1 k.here (place_words 30 0 0 0)) → Emitted o T T2 0 w to (plane_places o h.tree P)
      unfolding put_place way_count
      plane-done T2 to e =
          let z : PutOne T1 T2 (slot o (P - 1)) r to p_end = record { is = e.1 ∙ ap (λ (x : ℕ). put_words T1 x (place_words 30 0 0 0)) here-is; way = omega (arith, e.0) } in
          emitted_two o T T1 T2 0 w (P - 1) r to (tree_places o h.tree 0 (state_by o 1 (P - 1))) (p_end ∷ []) (omega (arith, long (state_by o 1 (P - 1)))) put
          (emitted_one o T1 (P - 1) r p_end T2 to z)

      pub plane-length : (T2 : List ℕ) → T2 ≡ put_words T1 k.here (place_words 30 0 0 0) → length T2 ≡ length T
      plane-length T2 e = ap length e ∙ words_length T1 k.here 30 0 0 0 ∙ same

-- ---- all planes

abbrev pub plane : (F flags : ℕ) → F ≤ 8 → flags < F → Plane
plane F flags few flag = record { factor = F; flags = flags; few = few; flag = flag }

-- a plane is known by its numbers
plane_same : (F a b : ℕ) (u v : F ≤ 8) (la : a < F) (lb : b < F) → a ≡ b → plane F a u la ≡ plane F b v lb
plane_same F a b u v la lb e =
    subst (λ (x : ℕ). (z : x < F) → plane F a u la ≡ plane F x v z) e (λ z. ap₂ (plane F a) (le_prop u v) (le_prop la z)) lb

-- an entry is one of P times F
slot-in : (F flags q P : ℕ) (u : F ≤ 8) (l : flags < F) → q < P → slot (plane F flags u l) q < P * F
unfolding slot
slot-in F flags q P u l h = digits_lt h l

-- entries of two planes are apart
planes_apart : (F a b i q j : ℕ) (u v : F ≤ 8) (la : a < F) (lb : b < F) → (a ≡ b → ⊥) → 4 * slot (plane F a u la) i ≤ j → j < 4 * slot (plane F a u la) i + 4 → 4 * slot (plane F b v lb) q ≤ j → j < 4 * slot (plane F b v lb) q + 4 → ⊥
unfolding slot
planes_apart F a b i q j u v la lb n c d x y =
    let e : i * F + a ≡ q * F + b = omega arith in
    n (sym (digits_mod i la) ∙ ap (λ (z : ℕ). z % F) e ∙ digits_mod q lb)

-- a plane stands in the table: its words and its ways, which end by word `way`, are as they were
-- put
pub record PlaneIn (p : Tree pattern) (P : ℕ) (o : Plane) (N : ℕ) (T : List ℕ) (way : ℕ) : Type 0 where
  pub from : List ℕ
  pub at : ℕ
  pub low : 4 * N ≤ at
  pub high : at + ways_in (plane_places o p P) ≤ way
  pub long : length from ≡ length T
  pub slots : (i j : ℕ) → i < P → 4 * slot o i ≤ j → j < 4 * slot o i + 4 → get_or T j 0 ≡ get_or (put_places o from 0 at (plane_places o p P)) j 0
  pub ways : (j : ℕ) → at ≤ j → j < at + ways_in (plane_places o p P) → get_or T j 0 ≡ get_or (put_places o from 0 at (plane_places o p P)) j 0

-- the first planes are put
pub record Filled (s : List ℕ) (top P F : ℕ) (T0 T : List ℕ) (way flags : ℕ) : Type 0 where
  pub bound : flags ≤ F
  pub len : length T ≡ length T0
  pub low : 4 * (P * F) ≤ way
  pub high : way + 3 * (P * (F - flags)) ≤ 7 * (P * F)
  pub kept : (j : ℕ) → way ≤ j → get_or T j 0 ≡ get_or T0 j 0
  pub planes : (h : Unrolling s top P F T0) (a : ℕ) (l : a < F) → a < flags → PlaneIn h.tree P (plane F a h.nested l) (P * F) T way

module _ (s : List ℕ) (top P F : ℕ) (T0 : List ℕ) where
  pub all_fits : Unrolling s top P F T0 → P * F ≤ 2048
  all_fits h = mul-le-mul h.few h.nested

  module _ (T : List ℕ) (way flags : ℕ) (f : Filled s top P F T0 T way flags) (few : F ≤ 8) (more : flags < F) where
    turn : P * (F - flags) ≡ P + P * (F - (flags + 1))
    turn = let z : F - flags ≡ suc (F - (flags + 1)) = omega arith in rw z (omega arith)

    pub flat : Unrolling s top P F T0 → Flat (plane F flags few more) s top P T way
    flat h =
        record {
          tree = h.tree;
          is = h.is;
          count = h.count;
          few = h.few;
          long = λ q l. omega (arith, slot-in F flags q P few more l, h.long, f.len);
          small = omega (arith, h.small, f.len);
          way = omega (arith, f.high, turn, h.long, f.len);
        }

    module _ (h0 : Unrolling s top P F T0) (T1 : List ℕ) (r : ℕ)
        (d : (g : Flat (plane F flags few more) s top P T way) → Emitted (plane F flags few more) T T1 0 way r (plane_places (plane F flags few more) g.tree P)) where
      put_by : (h : Unrolling s top P F T0) → Emitted (plane F flags few more) T T1 0 way r (plane_places (plane F flags few more) h.tree P)
      unfolding flat
      put_by h = d (flat h)

      count_by : (h : Unrolling s top P F T0) → length (plane_places (plane F flags few more) h.tree P) ≡ P
      unfolding flat
      count_by h = long_all (plane F flags few more) s top P T way (flat h)

      few_by : (h : Unrolling s top P F T0) → ways_in (plane_places (plane F flags few more) h.tree P) ≤ 3 * P
      unfolding flat
      few_by h = ways-all (plane F flags few more) s top P T way (flat h)

      pub more-length : length T1 ≡ length T
      more-length = ap length (put_by h0).is ∙ places-length (plane F flags few more) T 0 way (plane_places (plane F flags few more) h0.tree P)

      -- a word that is no word of this plane is as it was
      kept_by : (j : ℕ) → ((i : ℕ) → i < P → 4 * slot (plane F flags few more) i ≤ j → j < 4 * slot (plane F flags few more) i + 4 → ⊥) → (way ≤ j → j < r → ⊥) → get_or T1 j 0 ≡ get_or T j 0
      kept_by j a b =
          ap (λ (U : List ℕ). get_or U j 0) (put_by h0).is
          ∙ places-kept (plane F flags few more) T 0 way (plane_places (plane F flags few more) h0.tree P) j (λ i c e u v. a i (omega (arith, count_by h0)) u v) (λ u v. b u (omega (arith, (put_by h0).way)))

      planes_more : (h : Unrolling s top P F T0) (a : ℕ) (l : a < F) → a < flags + 1 → PlaneIn h.tree P (plane F a h.nested l) (P * F) T1 r
      planes_more h a l below = go (ltb a flags) refl
        where
          old : a < flags → PlaneIn h.tree P (plane F a h.nested l) (P * F) T way → PlaneIn h.tree P (plane F a h.nested l) (P * F) T1 r
          old m x =
              record {
                from = x.from;
                at = x.at;
                low = x.low;
                high = omega (arith, x.high, (put_by h).way);
                long = omega (arith, x.long, more-length);
                slots =
                    λ i j b u v. kept_by j (λ q c y z. planes_apart F flags a q i j few h.nested more l (λ e. omega arith) y z u v)
                    (λ y z. (let n = slot-in F a i P h.nested l b in omega (arith, f.low)))
                    ∙ x.slots i j b u v;
                ways =
                    λ j u v. kept_by j (λ q c y z. (let n = slot-in F flags q P few more c in omega (arith, x.low))) (λ y z. omega (arith, x.high)) ∙ x.ways j u v;
              }

          new : a ≡ flags → PlaneIn h.tree P (plane F a h.nested l) (P * F) T1 r
          new e =
              subst (λ (o : Plane). PlaneIn h.tree P o (P * F) T1 r) (plane_same F flags a few h.nested more l (sym e)) (record {
                from = T;
                at = way;
                low = f.low;
                high = omega (arith, (put_by h).way);
                long = sym more-length;
                slots = λ i j b u v. ap (λ (U : List ℕ). get_or U j 0) (put_by h).is;
                ways = λ j u v. ap (λ (U : List ℕ). get_or U j 0) (put_by h).is;
              })

          go : (t : Bool) → ltb a flags ≡ t → PlaneIn h.tree P (plane F a h.nested l) (P * F) T1 r
          go true e = let m = ltb-true a flags e in old m (f.planes h a l m)
          go false e = let m = ltb-false a flags e in new (omega arith)

      pub more-filled : Filled s top P F T0 T1 r (flags + 1)
      more-filled =
          record {
            bound = omega arith;
            len = more-length ∙ f.len;
            low = omega (arith, (put_by h0).way, f.low);
            high = omega (arith, (put_by h0).way, few_by h0, turn, f.high);
            kept = λ j l. kept_by j (λ i c y z. (let n = slot-in F flags i P few more c in omega (arith, f.low, (put_by h0).way))) (λ y z. omega arith)
                ∙ f.kept j (omega (arith, (put_by h0).way));
            planes = planes_more;
          }

      pub more-fits : Fits-in w64 (flags + 1)
      more-fits = record { fits = omega (arith, h0.nested) }

  -- all of them
  module _ (T : List ℕ) (way flags : ℕ) (f : Filled s top P F T0 T way flags) (all : F ≤ flags) (h : Unrolling s top P F T0) where
    t-size : suc (size (unroll h.tree)) ≡ P
    t-size = omega (arith, h.count, unroll-size h.tree)

    bounds : Bounds h.tree
    bounds = written-bounds h.written

    factor-is : F ≡ 2 ^ nest (unroll h.tree)
    unfolding factor_of
    factor-is = h.factor ∙ ap (λ (n : ℕ). 2 ^ n) (sym (nest-counted h.tree bounds))

    places-long : length (thinned (places (unroll h.tree))) ≡ P * F
    places-long = thinned-length (places (unroll h.tree)) ∙ places-counted h.tree bounds ∙ rw (← h.count, ← h.factor)

    module _ (a : ℕ) (l : a < F) where
      in_plane : PlaneIn h.tree P (plane F a h.nested l) (P * F) T way
      in_plane = f.planes h a l (omega arith)

      last-is : P - 1 ≡ size (unroll h.tree)
      last-is = omega (arith, t-size)

      entry : (q : ℕ) → q < P → get_or (plane_places (plane F a h.nested l) h.tree P) q (p_fork []) ≡ get_or (thinned (places (unroll h.tree))) (slot (plane F a h.nested l) q) (p_fork [])
      entry q m = rw last-is (plane-at (plane F a h.nested l) (unroll h.tree) factor-is q (omega (arith, t-size)))

      count : length (plane_places (plane F a h.nested l) h.tree P) ≡ P
      unfolding places_of
      count = omega (arith, length-append (tree_places (plane F a h.nested l) h.tree 0 (state_by (plane F a h.nested l) 1 (P - 1))) (p_end ∷ []), tree-length (plane F a h.nested l) h.tree 0 (state_by (plane F a h.nested l) 1 (P - 1)), h.count)

      sound : (q : ℕ) → q < length (plane_places (plane F a h.nested l) h.tree P) → Sound (get_or (plane_places (plane F a h.nested l) h.tree P) q (p_fork []))
      sound q m = (
        rw (entry q (omega (arith, count))) (thinned-spelt h.tree (lettered h.tree h.spelt) (slot (plane F a h.nested l) q)),
        whole-wayed (plane F a h.nested l) h.tree (state_by (plane F a h.nested l) 1 (P - 1)) (omega (arith, t-size, h.few)) q m,
      )

      back : (q : ℕ) → q < P → Back T (4 * (P * F)) (slot (plane F a h.nested l) q) (length T) (get_or (thinned (places (unroll h.tree))) (slot (plane F a h.nested l) q) (p_fork []))
      back q m =
          let x = in_plane in
          let z : 0 + q ≡ q = omega arith in
          let y : Back T (4 * (P * F)) (slot (plane F a h.nested l) (0 + q)) (length T) (get_or (plane_places (plane F a h.nested l) h.tree P) q (p_fork [])) =
          places-back (plane F a h.nested l) x.from T (4 * (P * F)) 0 x.at (length T) (plane_places (plane F a h.nested l) h.tree P) x.low
          (λ i b. (let n = slot-in F a i P h.nested l (omega (arith, count)) in omega (arith, x.low))) (omega (arith, x.high, x.long, f.high, h.long, f.len))
          (omega (arith, x.high, f.high, h.long, f.len)) sound (λ i j b c u v. x.slots i j (omega (arith, count)) u v) x.ways q (omega (arith, count)) in
          rw (← entry q m) (rw z at y)

    each : (i : ℕ) → i < P * F → Back T (4 * (P * F)) i (length T) (get_or (thinned (places (unroll h.tree))) i (p_fork []))
    unfolding slot
    each i m =
        let some : 0 < F = positive F m in
        let e : i / F * F + i % F ≡ i = div-add-mod' i F in
        rw e at (back (i % F) (mod-lt i some) (i / F) ((div-lt_iff_lt-mul some).1 m))
      where
        positive : (G : ℕ) → i < P * G → 0 < G
        positive zero m = absurd (omega arith)
        positive (suc G) m = omega arith

    keeps : (q : ℕ) → q < P * F → Keeps (4 * (P * F)) q (length T) (code_at T q) (first_at T q) (later_at T q) (count_at T q)
    keeps q l = (each q l).keeps_to_lem

    pub unroll-done : PlacesTabled h.tree (P * F) T0 T way
    unfolding places_in
    unroll-done =
        let last : F - flags ≡ 0 = omega arith in
        let none : P * (F - flags) ≡ 0 = rw last (omega arith) in
        let one : 1 * 1 ≤ P * F = mul-le-mul (let z : 1 ≤ P = omega (arith, t-size) in z) (let z : 1 ≤ F = rw factor-is (pow_pos (nest (unroll h.tree))) in z) in
        let some : 0 < P * F = omega arith in
        record {
          is =
              ap (λ (m : ℕ). places_from T 0 m) (sym places-long)
              ∙ places_are T 0 (thinned (places (unroll h.tree))) (λ i l. (let z : 0 + i ≡ i = omega arith in rw z (each i (omega (arith, places-long))).is));
          sized = record {
            some = some;
            few = all_fits h;
            long = omega (arith, h.long, f.len);
            near = λ q l. (keeps q l).near;
            one = λ q l. (keeps q l).one;
            end = λ q l. (keeps q l).end;
            many = λ q l. (keeps q l).many;
            ways = λ q l. (keeps q l).ways;
          };
          behind = λ q l. (keeps q l).behind;
          few = (f.low, omega (arith, f.high, none));
          kept = λ j l. f.kept j l;
          len = f.len;
        }

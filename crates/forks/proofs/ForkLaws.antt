-- Laws of the functions that put forks: each is one way through one function.
use mathlib.Core.Path.{◌≡◌, refl, sym, ap, ◌∙◌, subst}
use mathlib.Core.Bool.{Bool, true, false, ◌||◌}
use mathlib.Core.List.{List, [], ◌∷◌}
use Prim.Native.Nat.{ℕ, ◌+◌, ◌*◌, ◌-◌, ◌≤◌, ◌<◌, min}
use native.Mathlib.Omega.{arith}
use mir.Val.{Fits as Fits-in}
use mir.Syntax.{w64}
use lib.ListN.{length, get_or}
use borrow.Author.Tests.{eq-eqb, lt-ltb, le-ltb}
use Rattle.rules.specs.Basics.{has}
use Rattle.rules.specs.Language.{pattern, branch, Tree, one, more, last, next}
use Rattle.rules.specs.Places.{Unrolled, Branches, u_nil, u_cons, unrolled, Place, p_fork, p_end, size, sizes, place_count}
use Rattle.laws.proofs.Counting.{unrolled-size}
use Rattle.rules.specs.Working.{distinct, fresh, keep_new}
use Rattle.nodes.specs.Nodes.{node_at}
use Rattle.nodes.specs.declared.Sort.TheVariants.{Alternation}
use Rattle.nodes.specs.declared.Node.{Node}
use Rattle.trees.specs.Held.{Top, At}
use Rattle.trees.proofs.ByNode.{as_any, as_alt, at_in, alt_left, alt_right, top_places}
use Rattle.table.specs.Table.{span}
use Rattle.place_words.specs.Words.{put_ways, put_words, put_place, put_fork, ForkNeeds, way_count, FitsOne, PutOne, Fitting, Emitted, WayPut, WayNeeds, place_words}
use Rattle.place_codes.specs.Codes.{later_word}
use Rattle.place_codes.specs.Planes.{slot, start_no}
use Rattle.place_codes.specs.declared.Plane.{Plane}
use Rattle.place_codes.specs.declared.Behind.{Behind}
use Rattle.forks.specs.PlaneCode.{used, starts_in}
use Rattle.forks.specs.Emitting.{new_starts, Starting, Started, two_places, TwoWays, choice, Choosing, choice_places, Parting, fork_places, Forking}
use Rattle.place_words.proofs.TableLaws.{ways-length, ways-first, later-read, fit-one, emitted_one}
use Rattle.place_words.proofs.WayLaws.{AfterWay, after-way}
use Rattle.place_codes.proofs.CodeLaws.{entry-end}

-- ---- a place that is put

-- a fork whose ways are put, and then its words
module _ (T T1 : List ℕ) (q w : ℕ) (ks : List ℕ) (to : ℕ) (f : FitsOne T q w (p_fork ks)) (s : 0 < length ks) (e1 : T1 ≡ put_ways T w ks) (e2 : to ≡ w + length ks) where
  fork-length : length T1 ≡ length T
  fork-length = ap length e1 ∙ ways-length T w ks

  fork-room : w + length ks ≤ length T
  unfolding way_count
  fork-room = omega (arith, f.way)

  pub fork-needs : ForkNeeds T1 q w to
  fork-needs =
      record {
        long = omega (arith, f.long, fork-length);
        some = omega arith;
        inside = omega (arith, fork-room, fork-length);
        small = omega (arith, f.small, fork-length);
      }

  fork-first : get_or T1 w 0 ≡ get_or ks 0 0
  fork-first = ap (λ (U : List ℕ). get_or U w 0) e1 ∙ ways-first T w ks s fork-room

  fork-later : later_word (get_or T1 (w + 1) 0) w (length ks) ≡ later_word (get_or ks 1 0) w (length ks)
  fork-later = ap (λ (U : List ℕ). later_word (get_or U (w + 1) 0) w (length ks)) e1 ∙ later-read T w ks fork-room

  pub fork-put : (T2 : List ℕ) (r : ℕ) → (r ≡ to) × (T2 ≡ put_fork T1 q w to) → PutOne T T2 q w r (p_fork ks)
  unfolding put_place way_count
  fork-put T2 r d =
      let m : to - w ≡ length ks = omega arith in
      record { is = d.1 ∙ rw (fork-first, m, fork-later, e1) refl; way = omega (arith, d.0) }

-- one that is not among those seen is new
one-new : (seen : List ℕ) (y : ℕ) (ys : List ℕ) → has y seen ≡ false → 1 ≤ length (fresh seen (y ∷ ys))
unfolding fresh
one-new seen y ys e = rw e (omega arith)

pub distinct-some : (ks : List ℕ) → 0 < length ks → 0 < length (distinct ks)
unfolding fresh has
distinct-some [] h = h
distinct-some (k ∷ ks) h = omega arith

-- an alternation has a branch
starts_some : (o : Plane) (p : Tree pattern) (b k : ℕ) → 0 < length (starts_in o (unrolled p) b k)
unfolding unrolled starts_in
starts_some o (one x) b k = omega arith
starts_some o (more x p) b k = omega arith

span_none : (T : List ℕ) (w : ℕ) → span T w (w - w) ≡ []
unfolding span
span_none T w = ap (span T w) (let e : w - w ≡ 0 = omega arith in e)

-- ---- two ways

module _ (T : List ℕ) (q w x y : ℕ) (h : TwoWays T q w x y) where
  pub two-first : WayNeeds T w w x
  unfolding way_count has
  two-first =
      let f = h.fits in let a = f.way in let z = f.small in
      record {
        order = omega arith;
        inside = omega arith;
        small = f.small;
        fits = λ e. (let n = one-new [] x (y ∷ []) refl in omega arith);
        low = h.first;
      }

  module _ (T1 : List ℕ) (r1 : ℕ) (p : WayPut T T1 w w x r1) where
    after : AfterWay T w w x (y ∷ []) T1 r1 two-first p
    after = after-way T w w x (y ∷ []) T1 r1 two-first p

    all_ways : fresh (span T w (w - w)) (x ∷ y ∷ []) ≡ distinct (x ∷ y ∷ [])
    all_ways = ap (λ (s : List ℕ). fresh s (x ∷ y ∷ [])) (span_none T w)

    sum : r1 + length (fresh (span T1 w (r1 - w)) (y ∷ [])) ≡ w + length (distinct (x ∷ y ∷ []))
    sum = ap (λ (s : List ℕ). r1 + length s) (sym after.seen) ∙ after.count ∙ ap (λ (s : List ℕ). w + length s) all_ways

    pub two-second : WayNeeds T1 w r1 y
    unfolding way_count
    two-second =
        let f = h.fits in let a = f.way in let l = after.len in let s = sum in
        record {
          order = after.order;
          inside = omega arith;
          small = omega (arith, f.small);
          fits = λ e. (let n = one-new (span T1 w (r1 - w)) y [] e in omega arith);
          low = h.second;
        }

    module _ (T2 : List ℕ) (to : ℕ) (g : WayPut T1 T2 w r1 y to) where
      then : AfterWay T1 w r1 y [] T2 to two-second g
      then = after-way T1 w r1 y [] T2 to two-second g

      two-put : T2 ≡ put_ways T w (distinct (x ∷ y ∷ []))
      unfolding fresh put_ways
      two-put =
          ap (put_ways T2 to) (sym then.seen) ∙ then.put
          ∙ ap (put_ways T1 r1) (sym after.seen) ∙ after.put ∙ ap (put_ways T w) all_ways

      two-count : to ≡ w + length (distinct (x ∷ y ∷ []))
      unfolding fresh
      two-count =
          let a : to ≡ to + length (fresh (span T2 w (to - w)) []) = omega arith in
          a ∙ ap (λ (s : List ℕ). to + length s) (sym then.seen) ∙ then.count ∙ sum

      pub two-needs : ForkNeeds T2 q w to
      two-needs = fork-needs T T2 q w (distinct (x ∷ y ∷ [])) to h.fits (distinct-some (x ∷ y ∷ []) (omega arith)) two-put two-count

      pub two-done : (T3 : List ℕ) (r : ℕ) → (r ≡ to) × (T3 ≡ put_fork T2 q w to) → PutOne T T3 q w r (two_places x y)
      two-done T3 r e = fork-put T T2 q w (distinct (x ∷ y ∷ [])) to h.fits (distinct-some (x ∷ y ∷ []) (omega arith)) two-put two-count T3 r e

-- ---- a place in a plane, or END where it does not have the plane's flags

module _ (o : Plane) (T : List ℕ) (b w : ℕ) (k : Behind) (p : Place) (f : Fitting o T b w k (used o k p ∷ [])) where
  module _ (q : ℕ) (eq : q ≡ slot o b) where
    used-here : o.flags < k.values → FitsOne T q w p
    unfolding used
    used-here l = rw eq (fit-one o T b w p k [] (rw (lt-ltb o.flags k.values l) at f))

    pub used-done : o.flags < k.values → (T1 : List ℕ) (r : ℕ) → PutOne T T1 q w r p → Emitted o T T1 b w r (used o k p ∷ [])
    unfolding used
    used-done l T1 r d = rw (lt-ltb o.flags k.values l) (emitted_one o T b w p T1 r (rw eq at d))

    pub unused_done : k.values ≤ o.flags → (T1 : List ℕ) (r : ℕ) → (r ≡ w) × (T1 ≡ put_words T q (place_words 30 0 0 0)) → Emitted o T T1 b w r (used o k p ∷ [])
    unfolding used put_place way_count
    unused_done l T1 r d = let z : PutOne T T1 q w r p_end = record { is = d.1; way = omega (arith, d.0) } in rw (le-ltb o.flags k.values l) (emitted_one o T b w p_end T1 r (rw eq at z))

-- ---- the fork between a copy and leaving, in a plane

module _ (o : Plane) (T : List ℕ) (b w : ℕ) (lazy : Bool) (copy : ℕ) (k : Behind) (h : Parting o T b w lazy copy k) where
  module _ (q : ℕ) (eq : (q ≡ slot o b) × (q < 4096)) where
    pub part_none : k.values ≤ o.flags → (T1 : List ℕ) (r : ℕ) → (r ≡ w) × (T1 ≡ put_words T q (place_words 30 0 0 0)) → Emitted o T T1 b w r (choice_places o lazy copy k)
    part_none = unused_done o T b w k (choice lazy copy k.here) h.fits q eq.0

    pub part-choose : o.flags < k.values → Choosing T q w lazy copy k.here
    part-choose l = record { fits = used-here o T b w k (choice lazy copy k.here) h.fits q eq.0 l; copied = h.copied; left = omega (arith, h.fits.behind.here) }

    pub part-done : o.flags < k.values → (T1 : List ℕ) (r : ℕ) → PutOne T T1 q w r (choice lazy copy k.here) → Emitted o T T1 b w r (choice_places o lazy copy k)
    part-done = used-done o T b w k (choice lazy copy k.here) h.fits q eq.0

-- ---- the ways of an alternation

module _ (o : Plane) (s : List ℕ) (i : ℕ) (n : Node) (en : n ≡ node_at s i) (T : List ℕ) (from to b k : ℕ) where
  start-at_node : Starting o s i T from to b k → At s i
  start-at_node h = record { tree = h.tree; is = h.top }

  module _ (e : n.sort ≡ Alternation) (m : ℕ) (em : m ≡ (node_at s n.left).places) where
    -- what is known of an alternation's branches
    record Alt (p : Tree pattern) : Type 0 where
      rest : Tree pattern
      rest_top : Top rest n.right s
      starts : starts_in o (unrolled p) b k ≡ start_no o b (b + m) k ∷ starts_in o (unrolled rest) (b + m) k
      size_is : sizes (unrolled p) ≡ m + sizes (unrolled rest)

    alt_facts : (p : Tree pattern) → Top p i s → b + sizes (unrolled p) ≤ 256 → Alt p
    unfolding unrolled sizes starts_in place_count
    alt_facts = as_alt s i n en (λ p. b + sizes (unrolled p) ≤ 256 → Alt p) e λ x p q h.
        let c : size (unrolled x) ≡ place_count x = unrolled-size x in
        let d = top_places s n.left (one x) q.left in
        let z : size (unrolled x) ≡ m = omega arith in
        record {
          rest = p;
          rest_top = q.right;
          starts = ap (λ (v : ℕ). start_no o b (b + v) k ∷ starts_in o (unrolled p) (b + v) k) z;
          size_is = ap (λ (v : ℕ). v + sizes (unrolled p)) z;
        }

    module _ (h : Starting o s i T from to b k) (y : ℕ) (ey : (y ≡ start_no o b (b + m) k) × (y < 4096)) where
      alt : Alt h.tree
      alt = alt_facts h.tree h.top h.place

      new_list : new_starts o (span T from (to - from)) h.tree b k ≡ fresh (span T from (to - from)) (y ∷ starts_in o (unrolled alt.rest) (b + m) k)
      new_list = ap (fresh (span T from (to - from))) (alt.starts ∙ ap (λ (v : ℕ). v ∷ starts_in o (unrolled alt.rest) (b + m) k) (sym ey.0))

      start-way : WayNeeds T from to y
      start-way =
          let w : to + length (fresh (span T from (to - from)) (y ∷ starts_in o (unrolled alt.rest) (b + m) k)) ≤ length T = subst (λ (ks : List ℕ). to + length ks ≤ length T)
          new_list h.way in
          record {
            order = h.order;
            inside = omega arith;
            small = h.small;
            fits = λ u. (let v = one-new (span T from (to - from)) y (starts_in o (unrolled alt.rest) (b + m) k) u in omega arith);
            low = omega (arith, ey.1);
          }

      module _ (T1 : List ℕ) (r1 : ℕ) (p : WayPut T T1 from to y r1) where
        after2 : AfterWay T from to y (starts_in o (unrolled alt.rest) (b + m) k) T1 r1 start-way p
        after2 = after-way T from to y (starts_in o (unrolled alt.rest) (b + m) k) T1 r1 start-way p

        rest-list : r1 + length (new_starts o (span T1 from (r1 - from)) alt.rest (b + m) k) ≡ to + length (new_starts o (span T from (to - from)) h.tree b k)
        rest-list = ap (λ (ks : List ℕ). r1 + length ks) (sym after2.seen) ∙ after2.count ∙ ap (λ (ks : List ℕ). to + length ks) (sym new_list)

        next_start : Starting o s n.right T1 from r1 (b + m) k
        next_start =
            let z = alt.size_is in let l = after2.len in let q = rest-list in
            record {
              tree = alt.rest;
              top = alt.rest_top;
              order = after2.order;
              small = omega (arith, h.small);
              way = omega (arith, h.way);
              place = omega (arith, h.place);
              behind = h.behind;
            }

        start-more : (exit : List ℕ) (r : ℕ) → ((g : Starting o s n.right T1 from r1 (b + m) k) → Started o s n.right T1 from r1 (b + m) k exit r g)
            → Started o s i T from to b k exit r h
        unfolding next_start
        start-more exit r f =
            let d = f next_start in
            record {
              is = d.is ∙ ap (put_ways T1 r1) (sym after2.seen) ∙ after2.put ∙ ap (put_ways T to) (sym new_list);
              way = d.way ∙ rest-list;
            }

    start_left : Starting o s i T from to b k → 8 * n.left + 8 ≤ length s
    start_left h = at_in s n.left (alt_left s i n en (node_at s i).height refl (start-at_node h) e).1

    start_fits : Starting o s i T from to b k → Fits-in w64 (b + m)
    start_fits h = let z = (alt_facts h.tree h.top h.place).size_is in let g = h.place in record { fits = omega arith }

  -- branches without places
  module _ (e : n.places ≡ 0) where
    same-starts : (ts : Branches) (c : ℕ) (S : List ℕ) → sizes ts ≡ 0 → has k S ≡ true → fresh S (starts_in o ts c k) ≡ []
    unfolding fresh starts_in sizes
    same-starts u_nil c S z h = refl
    same-starts (u_cons t ts) c S z h =
        let x : size t ≡ 0 = omega arith in
        let y : start_no o c (c + size t) k ≡ k = sym (entry-end o c (c + size t) k (omega arith)) in
        ap (λ (v : ℕ). keep_new (has v S) v (fresh S (starts_in o ts (c + size t) k)) (fresh (v ∷ S) (starts_in o ts (c + size t) k))) y
        ∙ ap (λ (b : Bool). keep_new b k (fresh S (starts_in o ts (c + size t) k)) (fresh (k ∷ S) (starts_in o ts (c + size t) k))) h
        ∙ same-starts ts (c + size t) S (omega arith) h

    one-start : (ts : Branches) (t : Unrolled) (S : List ℕ) → sizes (u_cons t ts) ≡ 0 → fresh S (starts_in o (u_cons t ts) b k) ≡ fresh S (k ∷ [])
    unfolding fresh starts_in sizes has
    one-start ts t S z =
        let x : size t ≡ 0 = omega arith in
        let y : start_no o b (b + size t) k ≡ k = sym (entry-end o b (b + size t) k (omega arith)) in
        ap (λ (v : ℕ). keep_new (has v S) v (fresh S (starts_in o ts (b + size t) k)) (fresh (v ∷ S) (starts_in o ts (b + size t) k))) y ∙ go (has k S) refl (omega arith)
      where
        go : (b2 : Bool) → has k S ≡ b2 → sizes ts ≡ 0 → keep_new b2 k (fresh S (starts_in o ts (b + size t) k)) (fresh (k ∷ S) (starts_in o ts (b + size t) k)) ≡ keep_new b2 k [] []
        go true h w = same-starts ts (b + size t) S w h
        go false h w = ap (λ (ks : List ℕ). k ∷ ks) (same-starts ts (b + size t) (k ∷ S) w (ap (λ (x : Bool). x || has k S) (eq-eqb k k refl)))

    no-places : (p : Tree pattern) → n.places ≡ min (place_count p) 257 → sizes (unrolled p) ≡ 0
    no-places p d = let c : sizes (unrolled p) ≡ place_count p = unrolled-size p in omega arith

    some-branch : (p : Tree pattern) → n.places ≡ min (place_count p) 257 → (S : List ℕ) → fresh S (starts_in o (unrolled p) b k) ≡ fresh S (k ∷ [])
    unfolding unrolled
    some-branch (one x) d S = one-start u_nil (unrolled x) S (no-places (one x) d)
    some-branch (more x p) d S = one-start (unrolled p) (unrolled x) S (no-places (more x p) d)

    module _ (h : Starting o s i T from to b k) where
      none_list : new_starts o (span T from (to - from)) h.tree b k ≡ fresh (span T from (to - from)) (k ∷ [])
      none_list = some-branch h.tree (ap (λ (y : Node). y.places) en ∙ top_places s i h.tree h.top) (span T from (to - from))

      none-way : WayNeeds T from to k
      none-way =
          let w : to + length (fresh (span T from (to - from)) (k ∷ [])) ≤ length T = subst (λ (ks : List ℕ). to + length ks ≤ length T) none_list h.way in
          record {
            order = h.order;
            inside = omega arith;
            small = h.small;
            fits = λ u. (let v = one-new (span T from (to - from)) k [] u in omega arith);
            low = omega (arith, h.behind);
          }

      none_done : (T1 : List ℕ) (r1 : ℕ) → WayPut T T1 from to k r1 → Started o s i T from to b k T1 r1 h
      unfolding put_ways fresh
      none_done T1 r1 p =
          let d = after-way T from to k [] T1 r1 none-way p in
          let c : r1 ≡ r1 + length (fresh (span T1 from (r1 - from)) []) = omega arith in
          record {
            is = ap (put_ways T1 r1) (sym d.seen) ∙ d.put ∙ ap (put_ways T to) (sym none_list);
            way = c ∙ ap (λ (ks : List ℕ). r1 + length ks) (sym d.seen) ∙ d.count ∙ ap (λ (ks : List ℕ). to + length ks) (sym none_list);
          }

  -- the last branch
  module _ (e : n.sort ≡ Alternation → ⊥) where
    record Single (p : Tree pattern) : Type 0 where
      starts : starts_in o (unrolled p) b k ≡ start_no o b (b + n.places) k ∷ []
      size_is : sizes (unrolled p) ≡ n.places

    one-facts : (x : Tree branch) → n.places ≡ min (place_count x) 257 → b + sizes (unrolled (one x)) ≤ 256 → Single (one x)
    unfolding unrolled sizes starts_in
    one-facts x d h =
        let c : size (unrolled x) ≡ place_count x = unrolled-size x in
        let z : size (unrolled x) ≡ n.places = omega arith in
        record {
          starts = ap (λ (v : ℕ). start_no o b (b + v) k ∷ []) z;
          size_is = omega arith;
        }

    single : (p : Tree pattern) → Top p i s → b + sizes (unrolled p) ≤ 256 → Single p
    unfolding place_count
    single = as_any s i n en (λ p. b + sizes (unrolled p) ≤ 256 → Single p) (λ F q h. one-facts (last F) q.places h) (λ f x q h. one-facts (next f x) q.places h)
        (λ x p q h. absurd (e q.sort))

    module _ (h : Starting o s i T from to b k) (y : ℕ) (ey : (y ≡ start_no o b (b + n.places) k) × (y < 4096)) where
      last-list : new_starts o (span T from (to - from)) h.tree b k ≡ fresh (span T from (to - from)) (y ∷ [])
      last-list = ap (fresh (span T from (to - from))) ((single h.tree h.top h.place).starts ∙ ap (λ (v : ℕ). v ∷ []) (sym ey.0))

      last-way : WayNeeds T from to y
      last-way =
          let w : to + length (fresh (span T from (to - from)) (y ∷ [])) ≤ length T = subst (λ (ks : List ℕ). to + length ks ≤ length T) last-list h.way in
          record {
            order = h.order;
            inside = omega arith;
            small = h.small;
            fits = λ u. (let v = one-new (span T from (to - from)) y [] u in omega arith);
            low = omega (arith, ey.1);
          }

      last_done : (T1 : List ℕ) (r1 : ℕ) → WayPut T T1 from to y r1 → Started o s i T from to b k T1 r1 h
      unfolding put_ways fresh
      last_done T1 r1 p =
          let d = after-way T from to y [] T1 r1 last-way p in
          let c : r1 ≡ r1 + length (fresh (span T1 from (r1 - from)) []) = omega arith in
          record {
            is = ap (put_ways T1 r1) (sym d.seen) ∙ d.put ∙ ap (put_ways T to) (sym last-list);
            way = c ∙ ap (λ (ks : List ℕ). r1 + length ks) (sym d.seen) ∙ d.count ∙ ap (λ (ks : List ℕ). to + length ks) (sym last-list);
          }

    last_fits : Starting o s i T from to b k → Fits-in w64 (b + n.places)
    last_fits h = let z = (single h.tree h.top h.place).size_is in let g = h.place in record { fits = omega arith }

-- ---- the loop over the branches

-- The loop is at node j: putting the ways of the branches from there on, the first of which has its
-- places from b on, puts all ways.
pub record WaysLeft (o : Plane) (s : List ℕ) (i : ℕ) (T0 : List ℕ) (from to0 b0 k j : ℕ) (T : List ℕ) (to b : ℕ) : Type 0 where
  pub now : Starting o s j T from to b k
  pub so : (h : Starting o s i T0 from to0 b0 k) (T2 : List ℕ) (r : ℕ) → ((g : Starting o s j T from to b k) → Started o s j T from to b k T2 r g) → Started o s i T0 from to0 b0 k T2 r h

module _ (o : Plane) (s : List ℕ) (i : ℕ) (T0 : List ℕ) (from to0 b0 k j : ℕ) (T : List ℕ) (to b : ℕ) (L : WaysLeft o s i T0 from to0 b0 k j T to b) where
  module _ (n : Node) (en : n ≡ node_at s j) where
    -- branches without places
    module _ (e : n.places ≡ 0) where
      pub ways-none : WayNeeds T from to k
      ways-none = none-way o s j n en T from to b k e L.now

      pub ways-no_more : (T1 : List ℕ) (r : ℕ) → WayPut T T1 from to k r → (h : Starting o s i T0 from to0 b0 k) → Started o s i T0 from to0 b0 k T1 r h
      ways-no_more T1 r p h = L.so h T1 r (λ g. none_done o s j n en T from to b k e g T1 r p)

    -- the last branch
    module _ (na : n.sort ≡ Alternation → ⊥) where
      pub ways-last_fits : Fits-in w64 (b + n.places)
      ways-last_fits = last_fits o s j n en T from to b k na L.now

      module _ (y : ℕ) (ey : (y ≡ start_no o b (b + n.places) k) × (y < 4096)) where
        pub ways-last : WayNeeds T from to y
        ways-last = last-way o s j n en T from to b k na L.now y ey

        pub ways-all : (T1 : List ℕ) (r : ℕ) → WayPut T T1 from to y r → (h : Starting o s i T0 from to0 b0 k) → Started o s i T0 from to0 b0 k T1 r h
        ways-all T1 r p h = L.so h T1 r (λ g. last_done o s j n en T from to b k na g y ey T1 r p)

    -- a branch, and others behind it
    module _ (e : n.sort ≡ Alternation) where
      pub ways-left : 8 * n.left + 8 ≤ length s
      ways-left = start_left o s j n en T from to b k e _ refl L.now

      pub ways-down : (node_at s n.right).height < (node_at s j).height
      ways-down = (alt_right s j n en _ refl (start-at_node o s j n en T from to b k L.now) e).0

      module _ (m : ℕ) (em : m ≡ (node_at s n.left).places) where
        pub ways-fits : Fits-in w64 (b + m)
        ways-fits = start_fits o s j n en T from to b k e m em L.now

        module _ (y : ℕ) (ey : (y ≡ start_no o b (b + m) k) × (y < 4096)) where
          pub ways-one : WayNeeds T from to y
          ways-one = start-way o s j n en T from to b k e m em L.now y ey

          pub ways-again : (T1 : List ℕ) (r1 : ℕ) → WayPut T T1 from to y r1 → WaysLeft o s i T0 from to0 b0 k n.right T1 r1 (b + m)
          ways-again T1 r1 p =
              record {
                now = next_start o s j n en T from to b k e m em L.now y ey T1 r1 p;
                so = λ h T2 r f. L.so h T2 r (λ g. start-more o s j n en T from to b k e m em g y ey T1 r1 p T2 r f);
              }

-- ---- the fork of an alternation

module _ (o : Plane) (s : List ℕ) (i : ℕ) (T : List ℕ) (b w : ℕ) (k : Behind) (h : Forking o s i T b w k) where
  ways : List ℕ
  ways = distinct (starts_in o (unrolled h.tree) (b + 1) k.here)

  starts_all : new_starts o (span T w (w - w)) h.tree (b + 1) k.here ≡ ways
  unfolding ways
  starts_all = ap (λ (v : List ℕ). fresh v (starts_in o (unrolled h.tree) (b + 1) k.here)) (span_none T w)

  pub fork-starting : o.flags < k.values → Starting o s i T w w (b + 1) k.here
  unfolding way_count ways
  fork-starting l =
      let f : FitsOne T (slot o b) w (p_fork ways) = used-here o T b w k (p_fork ways) h.fits (slot o b) refl l in
      let a = f.way in
      record {
        tree = h.tree;
        top = h.top;
        order = omega arith;
        small = f.small;
        way = subst (λ (ks : List ℕ). w + length ks ≤ length T) (sym starts_all) (omega arith);
        place = h.room;
        behind = h.fits.behind.here;
      }

  module _ (q : ℕ) (eq : (q ≡ slot o b) × (q < 4096)) where
    pub forking_none : k.values ≤ o.flags → (T1 : List ℕ) (r : ℕ) → (r ≡ w) × (T1 ≡ put_words T q (place_words 30 0 0 0)) → Emitted o T T1 b w r (fork_places o h.tree b k)
    unfolding ways
    forking_none = unused_done o T b w k (p_fork ways) h.fits q eq.0

    module _ (l : o.flags < k.values) where
      forking_fits : FitsOne T q w (p_fork ways)
      unfolding ways
      forking_fits = used-here o T b w k (p_fork ways) h.fits q eq.0 l

      module _ (T1 : List ℕ) (to : ℕ) (d : (g : Starting o s i T w w (b + 1) k.here) → Started o s i T w w (b + 1) k.here T1 to g) where
        ways-put : T1 ≡ put_ways T w ways
        unfolding fork-starting
        ways-put = (d (fork-starting l)).is ∙ ap (put_ways T w) starts_all

        ways-count : to ≡ w + length ways
        unfolding fork-starting
        ways-count = (d (fork-starting l)).way ∙ ap (λ (ks : List ℕ). w + length ks) starts_all

        ways-some : 0 < length ways
        unfolding ways
        ways-some = distinct-some (starts_in o (unrolled h.tree) (b + 1) k.here) (starts_some o h.tree (b + 1) k.here)

        pub forking_needs : ForkNeeds T1 q w to
        forking_needs = fork-needs T T1 q w ways to forking_fits ways-some ways-put ways-count

        pub forking_done : (T2 : List ℕ) (r : ℕ) → (r ≡ to) × (T2 ≡ put_fork T1 q w to) → Emitted o T T2 b w r (fork_places o h.tree b k)
        unfolding ways
        forking_done T2 r e = used-done o T b w k (p_fork ways) h.fits q eq.0 l T2 r (fork-put T T1 q w ways to forking_fits ways-some ways-put ways-count T2 r e)

-- The ways of a plane's places: a fork has a way, and each of its ways once is at most 256 ways if
-- the pattern has at most 256 places; and all forks have fewer than three ways to a place.
use mathlib.Core.Path.{◌≡◌, refl, ap}
use mathlib.Core.Bool.{Bool, true, false, ◌||◌}
use mathlib.Core.List.{List, [], ◌∷◌, ◌++◌}
use mathlib.Core.Option.{Option, none, some}
use Prim.Native.Nat.{ℕ, zero, suc, ◌+◌, ◌*◌, ◌-◌, ◌≤◌, ◌<◌, min}
use native.Mathlib.Nat.{le_of_suc-le-suc, not-suc-le-zero}
use native.Mathlib.Omega.{arith}
use lib.Dec.{eqb, ltb}
use lib.ListN.{length, get_or}
use borrow.Author.Tests.{eq-eqb, eqb-false}
use Rattle.rules.specs.Basics.{pick, has}
use Rattle.rules.specs.Language.{lower, upper, Rank, pattern, branch, factor, primary, Tree, one, more, last, next, bare, times, letter, caret, dollar, empty, group}
use Rattle.rules.specs.Places.{Unrolled, u_letter, u_caret, u_dollar, u_empty, u_seq, u_alt, u_opt, u_star, Branches, u_nil, u_cons, copies, options, behind, repeated, UnrolledAt, forked, unrolled, unroll, size, sizes, ways_in_turn, Place, p_letter, p_caret, p_dollar, p_fork, p_end}
use Rattle.laws.proofs.Counting.{forked-more}
use Rattle.laws.proofs.Distinct.{thinned-append}
use Rattle.rules.specs.Working.{distinct, fresh, keep_new, thin_place, thinned}
use Rattle.place_codes.specs.Planes.{slot, start_by, start_no, round_by}
use Rattle.place_codes.specs.declared.Plane.{Plane}
use Rattle.place_codes.specs.declared.Behind.{Behind}
use Rattle.place_words.specs.Words.{way_count, ways_in}
use Rattle.place_words.proofs.TableLaws.{Wayed, ways_in-append}
use Rattle.forks.specs.PlaneCode.{used, flags_copy, starts_in, plane_of, planes_of}
use Rattle.forks.proofs.ForkLaws.{distinct-some}

-- ---- how many ways

-- branches with places
unfoldable some_of : Branches → ℕ
unfolding size
some_of u_nil = 0
some_of (u_cons t ts) = min 1 (size t) + some_of ts

keep-le : (t : Bool) (y : ℕ) (old new : List ℕ) (m : ℕ) → (t ≡ true → length old ≤ m) → (t ≡ false → suc (length new) ≤ m) → length (keep_new t y old new) ≤ m
keep-le true y old new m f g = f refl
keep-le false y old new m f g = g refl

one-true : (b : Bool) → b ≡ true → ◌≡◌ {A = ℕ} (pick b 0 1) 0
one-true b e = ap (λ (x : Bool). pick {A = ℕ} x 0 1) e

one-false : (b : Bool) → b ≡ false → ◌≡◌ {A = ℕ} (pick b 0 1) 1
one-false b e = ap (λ (x : Bool). pick {A = ℕ} x 0 1) e

none-less : (a b : Bool) → pick (a || b) 0 1 ≤ pick b 0 1
none-less true true = omega arith
none-less true false = omega arith
none-less false b = omega arith

-- the starts of branches, each once: one for each branch with places, and one for all others
few_fresh : (o : Plane) (ts : Branches) (b k : ℕ) (seen : List ℕ) → length (fresh seen (starts_in o ts b k)) ≤ some_of ts + pick (has k seen) 0 1
unfolding starts_in start_no fresh some_of has
few_fresh o u_nil b k seen = omega arith
few_fresh o (u_cons t ts) b k seen = go (eqb b (b + size t)) refl (few_fresh o ts (b + size t) k)
  where
    go : (e : Bool) → eqb b (b + size t) ≡ e → ((s : List ℕ) → length (fresh s (starts_in o ts (b + size t) k)) ≤ some_of ts + pick (has k s) 0 1)
        → length (keep_new (has (pick e k (slot o b)) seen) (pick e k (slot o b)) (fresh seen (starts_in o ts (b + size t) k)) (fresh (pick e k (slot o b) ∷ seen) (starts_in o ts (b + size t) k))) ≤ min 1
        (size t) + some_of ts + pick (has k seen) 0 1
    go true q ih =
        keep-le (has k seen) k (fresh seen (starts_in o ts (b + size t) k)) (fresh (k ∷ seen) (starts_in o ts (b + size t) k)) _
        (λ e. omega (arith, ih seen))
        (λ e. omega (arith, ih (k ∷ seen), one-true (has k (k ∷ seen)) (ap (λ (x : Bool). x || has k seen) (eq-eqb k k refl)), one-false (has k seen) e))
    go false q ih =
        let n = eqb-false b (b + size t) q in
        let z : min 1 (size t) ≡ 1 = some (size t) (λ e. n (omega arith)) in
        keep-le (has (slot o b) seen) (slot o b) (fresh seen (starts_in o ts (b + size t) k)) (fresh (slot o b ∷ seen) (starts_in o ts (b + size t) k)) _
        (λ e. omega (arith, ih seen))
        (λ e. omega (arith, ih (slot o b ∷ seen), none-less (eqb (slot o b) k) (has k seen)))
      where
        some : (m : ℕ) → (m ≡ 0 → ⊥) → min 1 m ≡ 1
        some zero f = absurd (f refl)
        some (suc m) f = omega arith

two_ways : (lazy : Bool) (a b : ℕ) → length (distinct (ways_in_turn lazy a b)) ≤ 2
unfolding fresh has
two_ways lazy a b = go lazy
  where
    pair : (x y : ℕ) → length (distinct (x ∷ y ∷ [])) ≤ 2
    pair x y = let h = keep-le (eqb x y || false) y [] [] 1 (λ e. omega arith) (λ e. omega arith) in omega arith

    go : (z : Bool) → length (distinct (ways_in_turn z a b)) ≤ 2
    go false = pair a b
    go true = pair b a

-- an entry has no more ways than its place
used-ways : (o : Plane) (k : Behind) (ks : List ℕ) → way_count (thin_place (used o k (p_fork ks))) ≤ length (distinct ks)
unfolding used thin_place way_count
used-ways o k ks = go (ltb o.flags k.values)
  where
    go : (t : Bool) → way_count (thin_place (pick t (p_fork ks) p_end)) ≤ length (distinct ks)
    go true = omega arith
    go false = omega arith

used-none : (o : Plane) (k : Behind) (p : Place) → way_count (thin_place p) ≡ 0 → way_count (thin_place (used o k p)) ≡ 0
unfolding used thin_place way_count
used-none o k p e = go (ltb o.flags k.values)
  where
    go : (t : Bool) → way_count (thin_place (pick t p p_end)) ≡ 0
    go true = e
    go false = refl

-- a part's ways, and one more if it has places, are at most three to a place
mutual
  unfolding plane_of size thinned ways_in way_count thin_place some_of

  few_ways : (o : Plane) (t : Unrolled) (b : ℕ) (k : Behind) → ways_in (thinned (plane_of o t b k)) + min 1 (size t) ≤ 3 * size t
  few_ways o (u_letter c) b k = omega (arith, used-none o k (p_letter c k.set) refl)
  few_ways o u_caret b k = omega (arith, used-none o k (p_caret k.here) refl)
  few_ways o u_dollar b k = omega (arith, used-none o k (p_dollar k.here) refl)
  few_ways o u_empty b k = omega arith
  few_ways o (u_seq x y) b k =
      rw (
        thinned-append (plane_of o x b (start_by o (b + size x) (b + size x + size y) k)) (plane_of o y (b + size x) k),
        ways_in-append (thinned (plane_of o x b (start_by o (b + size x) (b + size x + size y) k))) (thinned (plane_of o y (b + size x) k)),
      )
      (omega (arith, few_ways o x b (start_by o (b + size x) (b + size x + size y) k), few_ways o y (b + size x) k))
  few_ways o (u_alt ts) b k =
      omega (arith, used-ways o k (starts_in o ts (suc b) k.here), few_fresh o ts (suc b) k.here [], few_ways_of o ts (suc b) k)
  few_ways o (u_opt lazy t) b k =
      let x : ℕ = (start_by o (suc b) (suc b + size t) k).here in
      omega (arith, used-ways o k (ways_in_turn lazy x k.here), two_ways lazy x k.here, few_ways o t (suc b) k)
  few_ways o (u_star lazy t) b k =
      let r : Behind = round_by o (flags_copy o.factor t) b k in
      let x : ℕ = (start_by o (suc b) (suc b + size t) r).here in
      omega (arith, used-ways o k (ways_in_turn lazy x k.here), two_ways lazy x k.here, few_ways o t (suc b) r)

  few_ways_of : (o : Plane) (ts : Branches) (b : ℕ) (k : Behind) → ways_in (thinned (planes_of o ts b k)) + some_of ts ≤ 3 * sizes ts
  few_ways_of o u_nil b k = omega arith
  few_ways_of o (u_cons t ts) b k =
      rw (thinned-append (plane_of o t b k) (planes_of o ts (b + size t) k), ways_in-append (thinned (plane_of o t b k)) (thinned (planes_of o ts (b + size t) k)))
      (omega (arith, few_ways o t b k, few_ways_of o ts (b + size t) k))

pub all_few : (o : Plane) (t : Unrolled) (b : ℕ) (k : Behind) → ways_in (thinned (plane_of o t b k)) ≤ 3 * size t
all_few o t b k = omega (arith, few_ways o t b k)

-- ---- each fork has a way

abbrev Some : Branches → Type 0
Some u_nil = 0 < 0
Some (u_cons t ts) = Unit {0}

-- every alternation of an unrolled part has a branch
unfoldable mutual
  WayedIn : Unrolled → Type 0
  WayedIn (u_letter c) = Unit {0}
  WayedIn u_caret = Unit {0}
  WayedIn u_dollar = Unit {0}
  WayedIn u_empty = Unit {0}
  WayedIn (u_seq a b) = WayedIn a × WayedIn b
  WayedIn (u_alt ts) = Some ts × WayedAll ts
  WayedIn (u_opt lazy t) = WayedIn t
  WayedIn (u_star lazy t) = WayedIn t

  WayedAll : Branches → Type 0
  WayedAll u_nil = Unit {0}
  WayedAll (u_cons t ts) = WayedIn t × WayedAll ts

abbrev Every : List Place → Type 0
Every [] = Unit {0}
Every (p ∷ ps) = Wayed p × Every ps

every_append : (ps qs : List Place) → Every ps → Every qs → Every (ps ++ qs)
every_append [] qs a b = b
every_append (p ∷ ps) qs a b = (a.0, every_append ps qs a.1 b)

every-at : (ps : List Place) → Every ps → (q : ℕ) → q < length ps → Wayed (get_or ps q (p_fork []))
every-at [] a q h = absurd (not-suc-le-zero h)
every-at (p ∷ ps) a zero h = a.0
every-at (p ∷ ps) a (suc q) h = every-at ps a.1 q (le_of_suc-le-suc h)

starts_some : (o : Plane) (ts : Branches) (b k : ℕ) → Some ts → 0 < length (starts_in o ts b k)
unfolding starts_in
starts_some o u_nil b k s = absurd (not-suc-le-zero s)
starts_some o (u_cons t ts) b k s = omega arith

turn_some : (lazy : Bool) (a b : ℕ) → 0 < length (ways_in_turn lazy a b)
turn_some true a b = omega arith
turn_some false a b = omega arith

-- no more branches have places than there are places
some-few : (ts : Branches) → some_of ts ≤ sizes ts
unfolding some_of sizes
some-few u_nil = omega arith
some-few (u_cons t ts) = omega (arith, some-few ts)

-- an alternation's ways, each once
alt_ways : (o : Plane) (ts : Branches) (b k : ℕ) → Some ts → suc (sizes ts) ≤ 256 → Wayed (p_fork (distinct (starts_in o ts b k)))
unfolding has
alt_ways o ts b k s h = (distinct-some (starts_in o ts b k) (starts_some o ts b k s), omega (arith, few_fresh o ts b k [], some-few ts))

-- so of its entry in a plane
used-wayed : (o : Plane) (k : Behind) (p : Place) → Wayed (thin_place p) → Wayed (thin_place (used o k p))
unfolding used thin_place
used-wayed o k p h = go (ltb o.flags k.values)
  where
    go : (t : Bool) → Wayed (thin_place (pick t p p_end))
    go true = h
    go false = tt

turn_ways : (lazy : Bool) (a b : ℕ) → Wayed (p_fork (distinct (ways_in_turn lazy a b)))
turn_ways lazy a b = (distinct-some (ways_in_turn lazy a b) (turn_some lazy a b), omega (arith, two_ways lazy a b))

mutual
  unfolding WayedIn plane_of thinned thin_place size

  plane-wayed : (o : Plane) (t : Unrolled) (b : ℕ) (k : Behind) → WayedIn t → size t ≤ 256 → Every (thinned (plane_of o t b k))
  plane-wayed o (u_letter c) b k s h = (used-wayed o k (p_letter c k.set) tt, tt)
  plane-wayed o u_caret b k s h = (used-wayed o k (p_caret k.here) tt, tt)
  plane-wayed o u_dollar b k s h = (used-wayed o k (p_dollar k.here) tt, tt)
  plane-wayed o u_empty b k s h = tt
  plane-wayed o (u_seq x y) b k s h =
      rw thinned-append
      (every_append (thinned (plane_of o x b (start_by o (b + size x) (b + size x + size y) k))) (thinned (plane_of o y (b + size x) k))
      (plane-wayed o x b (start_by o (b + size x) (b + size x + size y) k) s.0 (omega arith)) (plane-wayed o y (b + size x) k s.1 (omega arith)))
  plane-wayed o (u_alt ts) b k s h = (
    used-wayed o k (p_fork (starts_in o ts (suc b) k.here)) (alt_ways o ts (suc b) k.here s.0 h),
    planes_wayed o ts (suc b) k s.1 (omega arith),
  )
  plane-wayed o (u_opt lazy t) b k s h = (
    used-wayed o k (p_fork (ways_in_turn lazy (start_by o (suc b) (suc b + size t) k).here k.here)) (turn_ways lazy (start_by o (suc b) (suc b + size t) k).here k.here),
    plane-wayed o t (suc b) k s (omega arith),
  )
  plane-wayed o (u_star lazy t) b k s h = (
    used-wayed o k (p_fork (ways_in_turn lazy (start_by o (suc b) (suc b + size t) (round_by o (flags_copy o.factor t) b k)).here k.here))
        (turn_ways lazy (start_by o (suc b) (suc b + size t) (round_by o (flags_copy o.factor t) b k)).here k.here),
    plane-wayed o t (suc b) (round_by o (flags_copy o.factor t) b k) s (omega arith),
  )

  planes_wayed : (o : Plane) (ts : Branches) (b : ℕ) (k : Behind) → WayedAll ts → sizes ts ≤ 256 → Every (thinned (planes_of o ts b k))
  planes_wayed o u_nil b k s h = tt
  planes_wayed o (u_cons t ts) b k s h =
      rw thinned-append
      (every_append (thinned (plane_of o t b k)) (thinned (planes_of o ts (b + size t) k))
      (plane-wayed o t b k s.0 (omega arith)) (planes_wayed o ts (b + size t) k s.1 (omega arith)))

copies-wayed : (m : ℕ) (t r : Unrolled) → WayedIn t → WayedIn r → WayedIn (copies m t r)
unfolding copies WayedIn
copies-wayed zero t r a b = b
copies-wayed (suc m) t r a b = (a, copies-wayed m t r a b)

options-wayed : (m : ℕ) (lazy : Bool) (t : Unrolled) → WayedIn t → WayedIn (options m lazy t)
unfolding options WayedIn
options-wayed zero lazy t a = tt
options-wayed (suc m) lazy t a = (a, options-wayed m lazy t a)

behind-wayed : (hi : Option ℕ) (lo : ℕ) (lazy : Bool) (t : Unrolled) → WayedIn t → WayedIn (behind hi lo lazy t)
unfolding behind WayedIn
behind-wayed none lo lazy t a = a
behind-wayed (some hi) lo lazy t a = options-wayed (hi - lo) lazy t a

abbrev WayedAt : (k : Rank) → UnrolledAt k → Type 0
WayedAt pattern ts = WayedAll ts
WayedAt branch t = WayedIn t
WayedAt factor t = WayedIn t
WayedAt primary t = WayedIn t

forked-wayed : (p : Tree pattern) → WayedAll (unrolled p) → WayedIn (forked (unrolled p))
unfolding unrolled forked WayedIn
forked-wayed (one b) s = s.0
forked-wayed (more b p) s = rw (forked-more b p) (tt, s)

unrolled-wayed : {k : Rank} (t : Tree k) → WayedAt k (unrolled t)
unfolding unrolled WayedIn repeated
unrolled-wayed (one b) = (unrolled-wayed b, tt)
unrolled-wayed (more b p) = (unrolled-wayed b, unrolled-wayed p)
unrolled-wayed (last f) = unrolled-wayed f
unrolled-wayed (next f b) = (unrolled-wayed f, unrolled-wayed b)
unrolled-wayed (bare x) = unrolled-wayed x
unrolled-wayed (times x f z) =
    copies-wayed (lower f) (unrolled x) (behind (upper f) (lower f) z (unrolled x)) (unrolled-wayed x) (behind-wayed (upper f) (lower f) z (unrolled x) (unrolled-wayed x))
unrolled-wayed (letter c) = tt
unrolled-wayed caret = tt
unrolled-wayed dollar = tt
unrolled-wayed empty = tt
unrolled-wayed (group p) = forked-wayed p (unrolled-wayed p)

pub whole-wayed : (o : Plane) (p : Tree pattern) (k : Behind) → size (unroll p) ≤ 256 → (q : ℕ) → q < length (thinned (plane_of o (unroll p) 0 k) ++ (p_end ∷ []))
    → Wayed (get_or (thinned (plane_of o (unroll p) 0 k) ++ (p_end ∷ [])) q (p_fork []))
unfolding unroll
whole-wayed o p k h q l =
    every-at (thinned (plane_of o (unroll p) 0 k) ++ (p_end ∷ []))
    (every_append (thinned (plane_of o (unroll p) 0 k)) (p_end ∷ []) (plane-wayed o (unroll p) 0 k (forked-wayed p (unrolled-wayed p)) h) (tt, tt)) q l

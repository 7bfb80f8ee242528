-- A fork has at most 128 ways, whatever the flags: a text of at most 256 bytes has at most 128
-- branches in one alternation (`few_ways`). So the number of a fork's next way is less than 2 ^ 8.
use mathlib.Core.Path.{◌≡◌, refl, ap}
use mathlib.Core.Bool.{Bool, true, false}
use mathlib.Core.List.{List, [], ◌∷◌, ◌++◌}
use mathlib.Core.Option.{Option, none, some}
use Prim.Native.Nat.{ℕ, zero, suc, ◌+◌, ◌-◌, ◌*◌, ◌/◌, ◌%◌, ◌^◌, ◌≤◌, ◌<◌}
use native.Mathlib.Nat.{le_trans}
use native.Mathlib.Omega.{arith}
use lib.Dec.{ltb}
use lib.ListN.{length, get_or, get_or-eq_default}
use borrow.Author.Tests.{ltb-true, ltb-false}
use Rattle.rules.specs.Basics.{pick, tabulate, has}
use Rattle.rules.specs.Language.{lower, upper, Rank, pattern, branch, factor, primary, Tree, one, more, last, next, bare, times, letter, caret, dollar, empty, group, deeper, Token, a_bar, closing, a_mark, tokens, Written}
use Rattle.rules.specs.Places.{Unrolled, u_letter, u_caret, u_dollar, u_empty, u_seq, u_alt, u_opt, u_star, Branches, u_nil, u_cons, copies, options, behind, repeated, UnrolledAt, forked, unrolled, unroll, skips, nest, state_at, size, start_of, starts_of, round_end, code, codes, ways_in_turn, Place, p_letter, p_caret, p_dollar, p_fork, p_end, Flagged, flagged, flagged_places, with_flags, spread, places}
use Rattle.laws.proofs.Counting.{forked-more}
use Rattle.rules.specs.Working.{keep_new, fresh, thin_place, thinned}
use Rattle.laws.proofs.Distinct.{thinned-at}
use Rattle.laws.proofs.Lists.{length-tabulate, get_d_tabulate}
use Rattle.laws.proofs.Rank.{no_place}
use Rattle.laws.proofs.Sizes.{few_tokens}

-- how many ways a place has, if it is a fork
abbrev pub way_count : Place → ℕ
way_count (p_letter c k) = 0
way_count (p_caret k) = 0
way_count (p_dollar k) = 0
way_count (p_fork ks) = length ks
way_count p_end = 0

-- ---- branches of a tree against its tokens

unfoldable branch_count : Tree pattern → ℕ
branch_count (one b) = 1
branch_count (more b p) = suc (branch_count p)

-- no alternation of more than m branches
unfoldable Narrow : ℕ → {k : Rank} → Tree k → Type 0
unfolding branch_count
Narrow m (one b) = Narrow m b
Narrow m (more b p) = Narrow m b × Narrow m p
Narrow m (last f) = Narrow m f
Narrow m (next f b) = Narrow m f × Narrow m b
Narrow m (bare x) = Narrow m x
Narrow m (times x f z) = Narrow m x
Narrow m (letter c) = Unit {0}
Narrow m caret = Unit {0}
Narrow m dollar = Unit {0}
Narrow m empty = Unit {0}
Narrow m (group p) = (branch_count p ≤ m) × Narrow m p

-- every phrase has a token
some-token : {k : Rank} (x : Tree k) (ts : List Token) → length ts < length (tokens x ts)
unfolding tokens
some-token (one b) ts = some-token b ts
some-token (more b p) ts = omega (arith, some-token b (a_bar ∷ tokens p ts), some-token p ts)
some-token (last f) ts = some-token f ts
some-token (next f b) ts = omega (arith, some-token f (tokens b ts), some-token b ts)
some-token (bare x) ts = some-token x ts
some-token (times x f z) ts = omega (arith, some-token x (a_mark f z ∷ ts))
some-token (letter c) ts = omega arith
some-token caret ts = omega arith
some-token dollar ts = omega arith
some-token empty ts = omega arith
some-token (group p) ts = omega (arith, some-token p (closing ∷ ts))

-- two for each branch, but for the last bar
branch-tokens : (p : Tree pattern) (ts : List Token) → 2 * branch_count p + length ts ≤ suc (length (tokens p ts))
unfolding tokens branch_count
branch-tokens (one b) ts = omega (arith, some-token b ts)
branch-tokens (more b p) ts = omega (arith, some-token b (a_bar ∷ tokens p ts), branch-tokens p ts)

narrow_by : (m : ℕ) {k : Rank} (x : Tree k) (ts : List Token) → length (tokens x ts) ≤ 2 * m → Narrow m x
unfolding tokens Narrow
narrow_by m (one b) ts h = narrow_by m b ts h
narrow_by m (more b p) ts h = (narrow_by m b (a_bar ∷ tokens p ts) h, narrow_by m p ts (omega (arith, some-token b (a_bar ∷ tokens p ts))))
narrow_by m (last f) ts h = narrow_by m f ts h
narrow_by m (next f b) ts h = (narrow_by m f (tokens b ts) h, narrow_by m b ts (omega (arith, some-token f (tokens b ts))))
narrow_by m (bare x) ts h = narrow_by m x ts h
narrow_by m (times x f z) ts h = narrow_by m x (a_mark f z ∷ ts) h
narrow_by m (letter c) ts h = tt
narrow_by m caret ts h = tt
narrow_by m dollar ts h = tt
narrow_by m empty ts h = tt
narrow_by m (group p) ts h = (omega (arith, branch-tokens p (closing ∷ ts)), narrow_by m p (closing ∷ ts) (omega arith))

-- ---- so on the unrolled pattern

unfoldable count : Branches → ℕ
count u_nil = 0
count (u_cons t ts) = suc (count ts)

unfoldable mutual
  unfolding count

  NarrowIn : ℕ → Unrolled → Type 0
  NarrowIn m (u_letter c) = Unit {0}
  NarrowIn m u_caret = Unit {0}
  NarrowIn m u_dollar = Unit {0}
  NarrowIn m u_empty = Unit {0}
  NarrowIn m (u_seq a b) = NarrowIn m a × NarrowIn m b
  NarrowIn m (u_alt ts) = (count ts ≤ m) × NarrowAll m ts
  NarrowIn m (u_opt lazy t) = NarrowIn m t
  NarrowIn m (u_star lazy t) = NarrowIn m t

  NarrowAll : ℕ → Branches → Type 0
  NarrowAll m u_nil = Unit {0}
  NarrowAll m (u_cons t ts) = NarrowIn m t × NarrowAll m ts

copies-narrow : (m c : ℕ) (t r : Unrolled) → NarrowIn m t → NarrowIn m r → NarrowIn m (copies c t r)
unfolding copies NarrowIn
copies-narrow m zero t r a b = b
copies-narrow m (suc c) t r a b = (a, copies-narrow m c t r a b)

options-narrow : (m c : ℕ) (lazy : Bool) (t : Unrolled) → NarrowIn m t → NarrowIn m (options c lazy t)
unfolding options NarrowIn
options-narrow m zero lazy t a = tt
options-narrow m (suc c) lazy t a = (a, options-narrow m c lazy t a)

behind-narrow : (m : ℕ) (hi : Option ℕ) (lo : ℕ) (lazy : Bool) (t : Unrolled) → NarrowIn m t → NarrowIn m (behind hi lo lazy t)
unfolding behind NarrowIn
behind-narrow m none lo lazy t a = a
behind-narrow m (some hi) lo lazy t a = options-narrow m (hi - lo) lazy t a

abbrev NarrowAt : ℕ → (k : Rank) → UnrolledAt k → Type 0
NarrowAt m pattern ts = NarrowAll m ts
NarrowAt m branch t = NarrowIn m t
NarrowAt m factor t = NarrowIn m t
NarrowAt m primary t = NarrowIn m t

count-is : (p : Tree pattern) → count (unrolled p) ≡ branch_count p
unfolding count unrolled branch_count
count-is (one b) = refl
count-is (more b p) = ap suc (count-is p)

forked-narrow : (m : ℕ) (p : Tree pattern) → branch_count p ≤ m → NarrowAll m (unrolled p) → NarrowIn m (forked (unrolled p))
unfolding unrolled forked NarrowIn
forked-narrow m (one b) h a = a.0
forked-narrow m (more b p) h a = rw (forked-more b p) (go (count-is (more b p)))
  where
    go : count (unrolled (more b p)) ≡ branch_count (more b p) → (count (unrolled (more b p)) ≤ m) × NarrowAll m (unrolled (more b p))
    go e = (omega arith, a)

unrolled-narrow : (m : ℕ) {k : Rank} (t : Tree k) → Narrow m t → NarrowAt m k (unrolled t)
unfolding Narrow unrolled NarrowIn repeated
unrolled-narrow m (one b) h = (unrolled-narrow m b h, tt)
unrolled-narrow m (more b p) h = (unrolled-narrow m b h.0, unrolled-narrow m p h.1)
unrolled-narrow m (last f) h = unrolled-narrow m f h
unrolled-narrow m (next f b) h = (unrolled-narrow m f h.0, unrolled-narrow m b h.1)
unrolled-narrow m (bare x) h = unrolled-narrow m x h
unrolled-narrow m (times x f z) h =
    copies-narrow m (lower f) (unrolled x) (behind (upper f) (lower f) z (unrolled x)) (unrolled-narrow m x h) (behind-narrow m (upper f) (lower f) z (unrolled x) (unrolled-narrow m x h))
unrolled-narrow m (letter c) h = tt
unrolled-narrow m caret h = tt
unrolled-narrow m dollar h = tt
unrolled-narrow m empty h = tt
unrolled-narrow m (group p) h = forked-narrow m p h.0 (unrolled-narrow m p h.1)

-- ---- and of the places

abbrev Every : ℕ → List Flagged → Type 0
Every m [] = Unit {0}
Every m (p ∷ ps) = ((φ : ℕ) → way_count (p.place φ) ≤ m) × Every m ps

every_append : (m : ℕ) (ps qs : List Flagged) → Every m ps → Every m qs → Every m (ps ++ qs)
every_append m [] qs a b = b
every_append m (p ∷ ps) qs a b = (a.0, every_append m ps qs a.1 b)

every-at : (m : ℕ) (ps : List Flagged) → Every m ps → (q φ : ℕ) → way_count ((get_or ps q no_place).place φ) ≤ m
every-at m [] a q φ = omega arith
every-at m (p ∷ ps) a zero φ = a.0 φ
every-at m (p ∷ ps) a (suc q) φ = every-at m ps a.1 q φ

starts_count : (F : ℕ) (ts : Branches) (b : ℕ) (k : ℕ → ℕ) (φ : ℕ) → length (starts_of F ts b k φ) ≡ count ts
unfolding starts_of count
starts_count F u_nil b k φ = refl
starts_count F (u_cons t ts) b k φ = ap suc (starts_count F ts (b + size t) k φ)

two_ways : (lazy : Bool) (x y : ℕ) → length (ways_in_turn lazy x y) ≡ 2
two_ways false x y = refl
two_ways true x y = refl

mutual
  unfolding NarrowIn code

  code-narrow : (m : ℕ) → 2 ≤ m → (F : ℕ) (t : Unrolled) (d b : ℕ) (k : ℕ → ℕ) → NarrowIn m t → Every m (code F t d b k)
  code-narrow m two F (u_letter c) d b k h = (λ φ. omega arith, tt)
  code-narrow m two F u_caret d b k h = (λ φ. omega arith, tt)
  code-narrow m two F u_dollar d b k h = (λ φ. omega arith, tt)
  code-narrow m two F u_empty d b k h = tt
  code-narrow m two F (u_seq x y) d b k h =
      every_append m (code F x d b (start_of F y (b + size x) k)) (code F y d (b + size x) k) (code-narrow m two F x d b (start_of F y (b + size x) k) h.0) (code-narrow m two F y d (b + size x) k h.1)
  code-narrow m two F (u_alt ts) d b k h = (λ φ. omega (arith, h.0, starts_count F ts (suc b) k φ), codes-narrow m two F ts d (suc b) k h.1)
  code-narrow m two F (u_opt lazy t) d b k h = (λ φ. omega (arith, two_ways lazy (start_of F t (suc b) k φ) (k φ)), code-narrow m two F t d (suc b) k h)
  code-narrow m two F (u_star lazy t) d b k h = (
    λ φ. omega (arith, two_ways lazy (start_of F t (suc b) (round_end F (skips t) d b k) φ) (k φ)),
    code-narrow m two F t (deeper (skips t) d) (suc b) (round_end F (skips t) d b k) h,
  )

  codes-narrow : (m : ℕ) → 2 ≤ m → (F : ℕ) (ts : Branches) (d b : ℕ) (k : ℕ → ℕ) → NarrowAll m ts → Every m (codes F ts d b k)
  codes-narrow m two F u_nil d b k h = tt
  codes-narrow m two F (u_cons t ts) d b k h =
      every_append m (code F t d b k) (codes F ts d (b + size t) k) (code-narrow m two F t d b k h.0) (codes-narrow m two F ts d (b + size t) k h.1)

spread-narrow : (m F : ℕ) (ps : List Flagged) → Every m ps → (s : ℕ) → way_count (get_or (spread F ps) s (p_fork [])) ≤ m
unfolding spread
spread-narrow m F ps a s = go (ltb s (length ps * F)) refl
  where
    state : ℕ → Place
    state s = with_flags (get_or ps (s / F) no_place) (s % F)

    either : (c : Bool) (p : Place) → way_count p ≤ m → way_count (pick c p p_end) ≤ m
    either true p x = x
    either false p x = omega arith

    go : (c : Bool) → ltb s (length ps * F) ≡ c → way_count (get_or (tabulate (length ps * F) state) s (p_fork [])) ≤ m
    go true e =
        rw (get_d_tabulate (length ps * F) state s (p_fork []) (ltb-true s (length ps * F) e))
        (either (ltb (s % F) (2 ^ (get_or ps (s / F) no_place).flags)) ((get_or ps (s / F) no_place).place (s % F)) (every-at m ps a (s / F) (s % F)))
    go false e =
        rw (get_or-eq_default (tabulate (length ps * F) state) (p_fork []) {n = s} (rw (length-tabulate (length ps * F) state) (ltb-false s (length ps * F) e))) (omega arith)

pub few_ways : {p : Tree pattern} {text : List ℕ} → Written p text → length text ≤ 256 → (s : ℕ) → way_count (get_or (places (unroll p)) s (p_fork [])) ≤ 128
unfolding places flagged_places unroll
few_ways {p} {text} w h s =
    let t : Unrolled = unroll p in
    let F : ℕ = 2 ^ nest t in
    let l : length (tokens p []) ≤ 2 * 128 = le_trans (few_tokens w) h in
    let n : NarrowIn 128 t = forked-narrow 128 p (omega (arith, branch-tokens p [])) (unrolled-narrow 128 p (narrow_by 128 p [] l)) in
    spread-narrow 128 F (flagged_places F t)
    (every_append 128 (code F t 0 0 (state_at F (size t))) (flagged 0 (λ φ. p_end) ∷ []) (code-narrow 128 (omega arith) F t 0 0 (state_at F (size t)) n) (λ φ. omega arith, tt)) s

-- dropping repeated ways leaves no more
fresh-short : (seen ys : List ℕ) → length (fresh seen ys) ≤ length ys
unfolding fresh
fresh-short seen [] = omega arith
fresh-short seen (y ∷ ys) = go (has y seen) (fresh-short seen ys) (fresh-short (y ∷ seen) ys)
  where
    go : (b : Bool) → length (fresh seen ys) ≤ length ys → length (fresh (y ∷ seen) ys) ≤ length ys → length (keep_new b y (fresh seen ys) (fresh (y ∷ seen) ys)) ≤ suc (length ys)
    go true a c = omega arith
    go false a c = omega arith

thin-few : (m : ℕ) (p : Place) → way_count p ≤ m → way_count (thin_place p) ≤ m
unfolding thin_place
thin-few m (p_letter c k) h = h
thin-few m (p_caret k) h = h
thin-few m (p_dollar k) h = h
thin-few m (p_fork ks) h = le_trans (fresh-short [] ks) h
thin-few m p_end h = h

pub few_thinned : {p : Tree pattern} {text : List ℕ} → Written p text → length text ≤ 256 → (s : ℕ) → way_count (get_or (thinned (places (unroll p))) s (p_fork [])) ≤ 128
few_thinned {p} w h s = rw (thinned-at (places (unroll p)) s) (thin-few 128 (get_or (places (unroll p)) s (p_fork [])) (few_ways w h s))

-- The places of a pattern counted on its tree: P times F is the length of the list of places. What
-- can take no row and how deep repetitions of such bodies are nested are told on the tree as on the
-- unrolled pattern. And the count with a cap of 257 at every node: it says whether P is at most
-- 256, and it stays small.
use mathlib.Core.Path.{◌≡◌, refl, ap, sym, ◌∙◌}
use mathlib.Core.Bool.{Bool, true, false, ◌&&◌, ◌||◌}
use mathlib.Core.Logic.{◌↔◌}
use mathlib.Core.Option.{Option, none, some}
use Prim.Native.Nat.{ℕ, zero, suc, ◌+◌, ◌-◌, ◌*◌, ◌≤◌, suc-le-suc, min}
use native.Mathlib.Nat.{mul-le-mul_left}
use native.Mathlib.Omega.{arith}
use lib.ListN.{length}
use lib.Dec.{eqb}
use borrow.Author.Tests.{ne_eqb}
use Rattle.rules.specs.Language.{Form, star, plus, opt, exactly, at_least, at_most, between, lower, upper, InBounds, Rank, pattern, branch, factor, primary, Tree, one, more, last, next, bare, times, letter, caret, dollar, empty, group, nullable, unbounded, deeper, loop_nesting}
use Rattle.rules.specs.Places.{Unrolled, u_star, u_alt, copies, options, behind, repeated, UnrolledAt, forked, unrolled, unroll, size, sizes, places, round_places, fork, place_count, places_of, skips, any_skips, nest, nests, factor_of}
use Rattle.laws.proofs.Bounds.{Bounds}
use Rattle.laws.proofs.Level.{or-false}
use Rattle.laws.proofs.Rank.{places-length}

-- two or more branches have a fork
pub forked-more : (b : Tree branch) (p : Tree pattern) → forked (unrolled (more b p)) ≡ u_alt (unrolled (more b p))
unfolding unrolled forked
forked-more b (one c) = refl
forked-more b (more c p) = refl

-- ---- places

copies-size : (m : ℕ) (t r : Unrolled) → size (copies m t r) ≡ m * size t + size r
unfolding copies size
copies-size zero t r = omega arith
copies-size (suc m) t r = rw (copies-size m t r) (omega arith)

options-size : (m : ℕ) (lazy : Bool) (t : Unrolled) → size (options m lazy t) ≡ m * (1 + size t)
unfolding options size
options-size zero lazy t = omega arith
options-size (suc m) lazy t = rw (options-size m lazy t) (omega arith)

behind-size : (hi : Option ℕ) (lo : ℕ) (lazy : Bool) (t : Unrolled) → lo * size t + size (behind hi lo lazy t) ≡ round_places lo hi (size t)
unfolding behind size round_places
behind-size none lo lazy t = omega arith
behind-size (some hi) lo lazy t = rw (options-size (hi - lo) lazy t)

abbrev pub size_at : (k : Rank) → UnrolledAt k → ℕ
size_at pattern ts = sizes ts
size_at branch t = size t
size_at factor t = size t
size_at primary t = size t

pub forked-size : (p : Tree pattern) → size (forked (unrolled p)) ≡ fork p + sizes (unrolled p)
unfolding fork size unrolled forked
forked-size (one b) = omega arith
forked-size (more b p) = rw (forked-more b p) (omega arith)

pub unrolled-size : {k : Rank} (t : Tree k) → size_at k (unrolled t) ≡ place_count t
unfolding unrolled size place_count repeated
unrolled-size (one b) = rw (unrolled-size b) (omega arith)
unrolled-size (more b p) = rw (unrolled-size b, unrolled-size p)
unrolled-size (last f) = unrolled-size f
unrolled-size (next f b) = rw (unrolled-size f, unrolled-size b)
unrolled-size (bare x) = unrolled-size x
unrolled-size (times x f z) =
    copies-size (lower f) (unrolled x) (behind (upper f) (lower f) z (unrolled x)) ∙ behind-size (upper f) (lower f) z (unrolled x)
    ∙ ap (round_places (lower f) (upper f)) (unrolled-size x)
unrolled-size (letter c) = refl
unrolled-size caret = refl
unrolled-size dollar = refl
unrolled-size empty = refl
unrolled-size (group p) = forked-size p ∙ ap (λ (m : ℕ). fork p + m) (unrolled-size p)

pub unroll-size : (p : Tree pattern) → size (unroll p) + 1 ≡ places_of p
unfolding unroll places_of
unroll-size p = rw (forked-size p, unrolled-size p)

-- ---- what can take no row

-- what follows the required copies can always be left out
behind-skips : (hi : Option ℕ) (lo : ℕ) (lazy : Bool) (t : Unrolled) → skips (behind hi lo lazy t) ≡ true
unfolding behind skips
behind-skips none lo lazy t = refl
behind-skips (some hi) lo lazy t = go (hi - lo)
  where
    go : (m : ℕ) → skips (options m lazy t) ≡ true
    go zero = refl
    go (suc m) = refl

copies-skips : (m : ℕ) (t r : Unrolled) → skips r ≡ true → skips (copies m t r) ≡ (eqb m 0 || skips t)
unfolding copies skips
copies-skips zero t r h = h
copies-skips (suc m) t r h = rw (copies-skips m t r h, ne_eqb (suc m) 0 (λ (q : suc m ≡ 0). omega arith)) (go (eqb m 0) (skips t))
  where
    go : (a b : Bool) → (b && (a || b)) ≡ b
    go true true = refl
    go true false = refl
    go false true = refl
    go false false = refl

abbrev pub skips_at : (k : Rank) → UnrolledAt k → Bool
skips_at pattern ts = any_skips ts
skips_at branch t = skips t
skips_at factor t = skips t
skips_at primary t = skips t

forked-skips : (p : Tree pattern) → skips (forked (unrolled p)) ≡ any_skips (unrolled p)
unfolding skips unrolled forked
forked-skips (one b) = sym (mathlib.Core.Bool.or-false (skips (unrolled b)))
forked-skips (more b p) = rw (forked-more b p)

pub unrolled-skips : {k : Rank} (t : Tree k) → skips_at k (unrolled t) ≡ nullable t
unfolding unrolled skips nullable repeated
unrolled-skips (one b) = mathlib.Core.Bool.or-false (skips (unrolled b)) ∙ unrolled-skips b
unrolled-skips (more b p) = rw (unrolled-skips b, unrolled-skips p)
unrolled-skips (last f) = unrolled-skips f
unrolled-skips (next f b) = rw (unrolled-skips f, unrolled-skips b)
unrolled-skips (bare x) = unrolled-skips x
unrolled-skips (times x f z) =
    copies-skips (lower f) (unrolled x) (behind (upper f) (lower f) z (unrolled x)) (behind-skips (upper f) (lower f) z (unrolled x))
    ∙ ap (λ (b : Bool). eqb (lower f) 0 || b) (unrolled-skips x)
unrolled-skips (letter c) = refl
unrolled-skips caret = refl
unrolled-skips dollar = refl
unrolled-skips empty = refl
unrolled-skips (group p) = forked-skips p ∙ unrolled-skips p

pub nullable-skips : (p : Tree pattern) → nullable p ≡ skips (unroll p)
unfolding unroll
nullable-skips p = sym (forked-skips p ∙ unrolled-skips p)

-- ---- how deep unbounded quantifiers over bodies that can take no row are nested: a quantifier
-- with its bounds in order keeps at least one copy of its body

deeper-le : (s : Bool) (m : ℕ) → m ≤ deeper s m
deeper-le false m = omega arith
deeper-le true m = omega arith

copies-nest : (m : ℕ) (t r : Unrolled) → nest t ≤ nest r → nest (copies m t r) ≡ nest r
unfolding copies nest
copies-nest zero t r h = refl
copies-nest (suc m) t r h = omega (arith, copies-nest m t r h)

copies-some : (m : ℕ) (t r : Unrolled) → 1 ≤ m → nest r ≤ nest t → nest (copies m t r) ≡ nest t
unfolding copies nest
copies-some zero t r l h = absurd (omega arith)
copies-some (suc zero) t r l h = omega arith
copies-some (suc (suc m)) t r l h = omega (arith, copies-some (suc m) t r (omega arith) h)

options-few : (m : ℕ) (lazy : Bool) (t : Unrolled) → nest (options m lazy t) ≤ nest t
unfolding options nest
options-few zero lazy t = omega arith
options-few (suc m) lazy t = omega (arith, options-few m lazy t)

options-nest : (m : ℕ) (lazy : Bool) (t : Unrolled) → 1 ≤ m → nest (options m lazy t) ≡ nest t
unfolding options nest
options-nest zero lazy t l = absurd (omega arith)
options-nest (suc m) lazy t l = omega (arith, options-few m lazy t)

repeated-nest : (f : Form) (lazy : Bool) (t : Unrolled) → InBounds f → nest (repeated f lazy t) ≡ deeper (unbounded (upper f) && skips t) (nest t)
unfolding repeated copies behind lower upper InBounds unbounded nest
repeated-nest star lazy t o = refl
repeated-nest plus lazy t o = omega (arith, deeper-le (skips t) (nest t))
repeated-nest opt lazy t o = options-nest 1 lazy t (omega arith)
repeated-nest (exactly n) lazy t o = copies-some n t (options (n - n) lazy t) o.0 (options-few (n - n) lazy t)
repeated-nest (at_least n) lazy t o = copies-nest n t (u_star lazy t) (deeper-le (skips t) (nest t))
repeated-nest (at_most m) lazy t o = options-nest (m - 0) lazy t (omega arith)
repeated-nest (between zero m) lazy t o = options-nest (m - 0) lazy t (omega arith)
repeated-nest (between (suc n) m) lazy t o = copies-some (suc n) t (options (m - suc n) lazy t) (omega arith) (options-few (m - suc n) lazy t)

abbrev nest_at : (k : Rank) → UnrolledAt k → ℕ
nest_at pattern ts = nests ts
nest_at branch t = nest t
nest_at factor t = nest t
nest_at primary t = nest t

forked-nest : (p : Tree pattern) → nest (forked (unrolled p)) ≡ nests (unrolled p)
unfolding nest unrolled forked
forked-nest (one b) = omega arith
forked-nest (more b p) = rw (forked-more b p)

unrolled-nest : {k : Rank} (t : Tree k) → Bounds t → nest_at k (unrolled t) ≡ loop_nesting t
unfolding unrolled nest loop_nesting Bounds
unrolled-nest (one b) o = omega (arith, unrolled-nest b o)
unrolled-nest (more b p) o = omega (arith, unrolled-nest b o.0, unrolled-nest p o.1)
unrolled-nest (last f) o = unrolled-nest f o
unrolled-nest (next f b) o = omega (arith, unrolled-nest f o.0, unrolled-nest b o.1)
unrolled-nest (bare x) o = unrolled-nest x o
unrolled-nest (times x f z) o = repeated-nest f z (unrolled x) o.0 ∙ rw (unrolled-skips x, unrolled-nest x o.1)
unrolled-nest (letter c) o = refl
unrolled-nest caret o = refl
unrolled-nest dollar o = refl
unrolled-nest empty o = refl
unrolled-nest (group p) o = forked-nest p ∙ unrolled-nest p o

pub nest-counted : (p : Tree pattern) → Bounds p → nest (unroll p) ≡ loop_nesting p
unfolding unroll
nest-counted p o = forked-nest p ∙ unrolled-nest p o

-- the list of places with flags is P times F long
pub places-counted : (p : Tree pattern) → Bounds p → length (places (unroll p)) ≡ places_of p * factor_of p
unfolding factor_of
places-counted p o =
    let e : suc (size (unroll p)) ≡ places_of p = omega (arith, unroll-size p) in
    places-length (unroll p) ∙ rw (e, nest-counted p o)

-- ---- the cap: where P is too large to count, 257 stands for it

abbrev pub cap : ℕ → ℕ
cap x = min x 257

-- sums and products of numbers with equal caps have equal caps, so a count may be capped wherever
-- it likes
pub cap-again : (x : ℕ) → cap (cap x) ≡ cap x
cap-again x = omega arith

pub cap-sum : (a b c d : ℕ) → cap a ≡ cap c → cap b ≡ cap d → cap (a + b) ≡ cap (c + d)
cap-sum a b c d e h = omega arith

pub cap-product : (m a b : ℕ) → cap a ≡ cap b → cap (m * a) ≡ cap (m * b)
cap-product zero a b e = omega arith
cap-product (suc m) a b e =
    let l : suc m * a ≡ m * a + a = omega arith in
    let r : suc m * b ≡ m * b + b = omega arith in
    rw (l, r) (cap-sum (m * a) a (m * b) b (cap-product m a b e) e)

pub cap-rounds : (lo : ℕ) (hi : Option ℕ) (a b : ℕ) → cap a ≡ cap b → cap (round_places lo hi a) ≡ cap (round_places lo hi b)
unfolding round_places
cap-rounds lo none a b e = cap-sum (lo * a) (1 + a) (lo * b) (1 + b) (cap-product lo a b e) (cap-sum 1 a 1 b refl e)
cap-rounds lo (some hi) a b e =
    cap-sum (lo * a) ((hi - lo) * (1 + a)) (lo * b) ((hi - lo) * (1 + b)) (cap-product lo a b e) (cap-product (hi - lo) (1 + a) (1 + b) (cap-sum 1 a 1 b refl e))

-- the count with the cap at every node
unfoldable pub capped : {k : Rank} → Tree k → ℕ
unfolding round_places fork lower upper
capped (one b) = capped b
capped (more b p) = cap (capped b + capped p)
capped (last f) = capped f
capped (next f b) = cap (capped f + capped b)
capped (bare x) = capped x
capped (times x f z) = cap (round_places (lower f) (upper f) (capped x))
capped (letter c) = 1
capped caret = 1
capped dollar = 1
capped empty = 0
capped (group p) = cap (fork p + capped p)

pub capped_is : {k : Rank} (t : Tree k) → capped t ≡ cap (place_count t)
unfolding capped place_count
capped_is (one b) = capped_is b
capped_is (more b p) = omega (arith, capped_is b, capped_is p)
capped_is (last f) = capped_is f
capped_is (next f b) = omega (arith, capped_is f, capped_is b)
capped_is (bare x) = capped_is x
capped_is (times x f z) = cap-rounds (lower f) (upper f) (capped x) (place_count x) (omega (arith, capped_is x))
capped_is (letter c) = refl
capped_is caret = refl
capped_is dollar = refl
capped_is empty = refl
capped_is (group p) = omega (arith, capped_is p)

-- P with the cap
unfoldable pub capped_places : Tree pattern → ℕ
unfolding capped fork
capped_places p = cap (fork p + capped p + 1)

pub capped-places : (p : Tree pattern) → capped_places p ≡ cap (places_of p)
unfolding capped_places places_of
capped-places p = omega (arith, capped_is p)

-- it decides whether P is at most 256, and there it is P
pub capped-decides : (p : Tree pattern) → (capped_places p ≤ 256) ↔ (places_of p ≤ 256)
capped-decides p = (λ h. omega (arith, capped-places p), λ h. omega (arith, capped-places p))

pub capped-exact : (p : Tree pattern) → places_of p ≤ 256 → capped_places p ≡ places_of p
capped-exact p h = omega (arith, capped-places p)

-- ---- no number on the way passes 25,701, so none wraps

pub capped_small : {k : Rank} (t : Tree k) → capped t ≤ 257
capped_small t = omega (arith, capped_is t)

-- what is computed at a quantifier, before the cap: the two products and their sum
pub record SmallRounds (lo : ℕ) (hi : Option ℕ) (c : ℕ) : Type 0 where
  pub copies : lo * c ≤ 25443
  pub all : round_places lo hi c ≤ 25701

unbounded-small : (lo c : ℕ) → lo ≤ 99 → c ≤ 257 → SmallRounds lo none c
unfolding round_places
unbounded-small lo c h l = record { copies = omega (arith, mul-le-mul_left lo l); all = omega (arith, mul-le-mul_left lo l) }

bounded-small : (lo hi c : ℕ) → lo ≤ hi → hi ≤ 99 → c ≤ 257 → SmallRounds lo (some hi) c
unfolding round_places
bounded-small lo hi c o h l =
    record { copies = omega (arith, mul-le-mul_left lo l); all = omega (arith, mul-le-mul_left lo l, mul-le-mul_left (hi - lo) (suc-le-suc l)) }

pub rounds_small : (f : Form) → InBounds f → (c : ℕ) → c ≤ 257 → SmallRounds (lower f) (upper f) c
unfolding InBounds lower upper
rounds_small star o c h = unbounded-small 0 c (omega arith) h
rounds_small plus o c h = unbounded-small 1 c (omega arith) h
rounds_small opt o c h = bounded-small 0 1 c (omega arith) (omega arith) h
rounds_small (exactly n) o c h = bounded-small n n c (omega arith) o.1 h
rounds_small (at_least n) o c h = unbounded-small n c o h
rounds_small (at_most m) o c h = bounded-small 0 m c (omega arith) o.1 h
rounds_small (between n m) o c h = bounded-small n m c o.1 o.2 h

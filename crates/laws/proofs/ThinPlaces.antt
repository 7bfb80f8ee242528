-- The places of a pattern that is read, each fork's ways once: every place leads to places, a rank
-- falls along every way of their pairs, and the letters are A to Z.
use mathlib.Core.Path.{◌≡◌, refl, sym, ◌∙◌}
use mathlib.Core.Bool.{Bool, true, false}
use mathlib.Core.List.{List, [], ◌∷◌, ◌++◌}
use mathlib.Core.Option.{Option, none, some}
use Prim.Native.Nat.{ℕ, zero, suc, ◌+◌, ◌-◌, ◌≤◌, ◌<◌, ◌*◌, ◌/◌, ◌%◌, ◌^◌}
use native.Mathlib.Omega.{arith}
use lib.ListN.{length, get_or, get_or-eq_default}
use Rattle.rules.specs.Language.{lower, upper, Rank, pattern, branch, factor, primary, Tree, one, more, last, next, bare, times, letter, caret, dollar, empty, group, deeper}
use Rattle.rules.specs.Places.{Unrolled, u_letter, u_caret, u_dollar, u_empty, u_seq, u_alt, u_opt, u_star, Branches, u_nil, u_cons, copies, options, behind, repeated, UnrolledAt, forked, unrolled, unroll, size, start_of, code, codes, Place, p_letter, p_caret, p_dollar, p_fork, p_end, places, skips, nest, state_at, round_end, Flagged, flagged, flagged_places, with_flags, spread}
use Rattle.rules.specs.Walk.{Ways, accept, try, pairs, pair_ways}
use Rattle.laws.proofs.Bounds.{Lettered}
use Rattle.laws.proofs.Counting.{forked-more}
use Rattle.laws.proofs.Distinct.{thin, fresh-all, thinned-at, thin-pairs}
use Rattle.rules.specs.Working.{All, Falls, distinct, thin_place, thinned}
use Rattle.laws.proofs.PatternWalk.{falls}
use Rattle.laws.proofs.Rank.{rank, Edge, places-edges, places-length, Target, states, level_of, no_place}
use Rattle.laws.proofs.Walk.{All-map}
use lib.Dec.{ltb}
use borrow.Author.Tests.{ltb-true, ltb-false}
use Rattle.rules.specs.Basics.{pick, tabulate}
use Rattle.laws.proofs.Lists.{length-tabulate, get_d_tabulate}

-- ---- where a place leads

-- a place leads to places below P
abbrev pub Leads : ℕ → Place → Type 0
Leads P (p_letter c k) = k < P
Leads P (p_caret k) = k < P
Leads P (p_dollar k) = k < P
Leads P (p_fork ks) = All (λ k. k < P) ks
Leads P p_end = Unit {0}

edge_leads : (lv : ℕ → ℕ) (P m : ℕ) (p : Place) → Edge lv P m p → Leads P (thin_place p)
unfolding thin_place
edge_leads lv P m (p_letter c k) e = e
edge_leads lv P m (p_caret k) e = e.0
edge_leads lv P m (p_dollar k) e = e.0
edge_leads lv P m (p_fork ks) e = fresh-all (λ k. k < P) [] ks (All-map (λ k (r : Target lv P m k). r.0) ks e)
edge_leads lv P m p_end e = tt

pub thinned-leads : (t : Unrolled) (q : ℕ) → q < length (places t) → Leads (length (places t)) (get_or (thinned (places t)) q (p_fork []))
thinned-leads t q h =
    rw (thinned-at (places t) q)
    (rw (places-length t) (edge_leads (level_of t) (states t) (level_of t q) (get_or (places t) q (p_fork [])) (places-edges t q (rw (places-length t) at h))))

-- ---- the rank

thin-falls : (w : Ways) (ρ : ℕ → ℕ) (N x : ℕ) → ((ys : List ℕ) → w ≡ try ys → All (λ y. (ρ y < ρ x) × (x < N → y < N)) ys) → (ys : List ℕ) → thin w ≡ try ys
    → All (λ y. (ρ y < ρ x) × (x < N → y < N)) ys
thin-falls accept ρ N x f ys e = let z : ◌≡◌ {A = ℕ} 0 1 = cc in absurd (omega arith)
thin-falls (try zs) ρ N x f ys e =
    let q : distinct zs ≡ ys = cc in
    rw (← q) (fresh-all (λ y. (ρ y < ρ x) × (x < N → y < N)) [] zs (f zs refl))

pub thinned-falls : (t : Unrolled) (holds : ℕ → ℕ → Bool) (n : ℕ) → Falls (pair_ways holds n (thinned (places t))) (rank t n) (pairs (length (places t)) n)
thinned-falls t holds n x ys e =
    thin-falls (pair_ways holds n (places t) x) (rank t n) (pairs (length (places t)) n) x (λ zs d. falls t holds n x zs d) ys (sym (thin-pairs holds n (places t) x) ∙ e)

-- ---- letters

-- a place with a letter has one of A to Z
abbrev pub Spelt : Place → Type 0
Spelt (p_letter c k) = (65 ≤ c) × (c ≤ 90)
Spelt (p_caret k) = Unit {0}
Spelt (p_dollar k) = Unit {0}
Spelt (p_fork ks) = Unit {0}
Spelt p_end = Unit {0}

-- all letters of an unrolled part are A to Z
unfoldable mutual
  pub SpeltIn : Unrolled → Type 0
  SpeltIn (u_letter c) = (65 ≤ c) × (c ≤ 90)
  SpeltIn u_caret = Unit {0}
  SpeltIn u_dollar = Unit {0}
  SpeltIn u_empty = Unit {0}
  SpeltIn (u_seq a b) = SpeltIn a × SpeltIn b
  SpeltIn (u_alt ts) = SpeltAll ts
  SpeltIn (u_opt lazy t) = SpeltIn t
  SpeltIn (u_star lazy t) = SpeltIn t

  pub SpeltAll : Branches → Type 0
  SpeltAll u_nil = Unit {0}
  SpeltAll (u_cons t ts) = SpeltIn t × SpeltAll ts

-- true of every place of a list, whatever its flags
abbrev Every : List Flagged → Type 0
Every [] = Unit {0}
Every (p ∷ ps) = ((φ : ℕ) → Spelt (p.place φ)) × Every ps

every_append : (ps qs : List Flagged) → Every ps → Every qs → Every (ps ++ qs)
every_append [] qs a b = b
every_append (p ∷ ps) qs a b = (a.0, every_append ps qs a.1 b)

every-at : (ps : List Flagged) → Every ps → (q φ : ℕ) → Spelt ((get_or ps q no_place).place φ)
every-at [] a q φ = tt
every-at (p ∷ ps) a zero φ = a.0 φ
every-at (p ∷ ps) a (suc q) φ = every-at ps a.1 q φ

mutual
  unfolding SpeltIn code

  code-spelt : (F : ℕ) (t : Unrolled) (d b : ℕ) (k : ℕ → ℕ) → SpeltIn t → Every (code F t d b k)
  code-spelt F (u_letter c) d b k s = (λ φ. s, tt)
  code-spelt F u_caret d b k s = (λ φ. tt, tt)
  code-spelt F u_dollar d b k s = (λ φ. tt, tt)
  code-spelt F u_empty d b k s = tt
  code-spelt F (u_seq x y) d b k s =
      every_append (code F x d b (start_of F y (b + size x) k)) (code F y d (b + size x) k) (code-spelt F x d b (start_of F y (b + size x) k) s.0) (code-spelt F y d (b + size x) k s.1)
  code-spelt F (u_alt ts) d b k s = (λ φ. tt, codes-spelt F ts d (suc b) k s)
  code-spelt F (u_opt lazy t) d b k s = (λ φ. tt, code-spelt F t d (suc b) k s)
  code-spelt F (u_star lazy t) d b k s = (λ φ. tt, code-spelt F t (deeper (skips t) d) (suc b) (round_end F (skips t) d b k) s)

  codes-spelt : (F : ℕ) (ts : Branches) (d b : ℕ) (k : ℕ → ℕ) → SpeltAll ts → Every (codes F ts d b k)
  codes-spelt F u_nil d b k s = tt
  codes-spelt F (u_cons t ts) d b k s = every_append (code F t d b k) (codes F ts d (b + size t) k) (code-spelt F t d b k s.0) (codes-spelt F ts d (b + size t) k s.1)

-- so of every place with flags
spread-spelt : (F : ℕ) (ps : List Flagged) → Every ps → (s : ℕ) → Spelt (get_or (spread F ps) s (p_fork []))
unfolding spread
spread-spelt F ps a s = go (ltb s (length ps * F)) refl
  where
    state : ℕ → Place
    state s = with_flags (get_or ps (s / F) no_place) (s % F)

    either : (c : Bool) (p : Place) → Spelt p → Spelt (pick c p p_end)
    either true p x = x
    either false p x = tt

    go : (c : Bool) → ltb s (length ps * F) ≡ c → Spelt (get_or (tabulate (length ps * F) state) s (p_fork []))
    go true e =
        rw (get_d_tabulate (length ps * F) state s (p_fork []) (ltb-true s (length ps * F) e))
        (either (ltb (s % F) (2 ^ (get_or ps (s / F) no_place).flags)) ((get_or ps (s / F) no_place).place (s % F)) (every-at ps a (s / F) (s % F)))
    go false e = rw (get_or-eq_default (tabulate (length ps * F) state) (p_fork []) {n = s} (rw (length-tabulate (length ps * F) state) (ltb-false s (length ps * F) e))) tt

copies-spelt : (m : ℕ) (t r : Unrolled) → SpeltIn t → SpeltIn r → SpeltIn (copies m t r)
unfolding copies SpeltIn
copies-spelt zero t r a b = b
copies-spelt (suc m) t r a b = (a, copies-spelt m t r a b)

options-spelt : (m : ℕ) (lazy : Bool) (t : Unrolled) → SpeltIn t → SpeltIn (options m lazy t)
unfolding options SpeltIn
options-spelt zero lazy t a = tt
options-spelt (suc m) lazy t a = (a, options-spelt m lazy t a)

behind-spelt : (hi : Option ℕ) (lo : ℕ) (lazy : Bool) (t : Unrolled) → SpeltIn t → SpeltIn (behind hi lo lazy t)
unfolding behind SpeltIn
behind-spelt none lo lazy t a = a
behind-spelt (some hi) lo lazy t a = options-spelt (hi - lo) lazy t a

abbrev SpeltAt : (k : Rank) → UnrolledAt k → Type 0
SpeltAt pattern ts = SpeltAll ts
SpeltAt branch t = SpeltIn t
SpeltAt factor t = SpeltIn t
SpeltAt primary t = SpeltIn t

forked-spelt : (p : Tree pattern) → SpeltAll (unrolled p) → SpeltIn (forked (unrolled p))
unfolding unrolled forked SpeltIn
forked-spelt (one b) s = s.0
forked-spelt (more b p) s = rw (forked-more b p) s

unrolled-spelt : {k : Rank} (t : Tree k) → Lettered t → SpeltAt k (unrolled t)
unfolding Lettered unrolled SpeltIn repeated
unrolled-spelt (one b) l = (unrolled-spelt b l, tt)
unrolled-spelt (more b p) l = (unrolled-spelt b l.0, unrolled-spelt p l.1)
unrolled-spelt (last f) l = unrolled-spelt f l
unrolled-spelt (next f b) l = (unrolled-spelt f l.0, unrolled-spelt b l.1)
unrolled-spelt (bare x) l = unrolled-spelt x l
unrolled-spelt (times x f z) l =
    copies-spelt (lower f) (unrolled x) (behind (upper f) (lower f) z (unrolled x)) (unrolled-spelt x l) (behind-spelt (upper f) (lower f) z (unrolled x) (unrolled-spelt x l))
unrolled-spelt (letter c) l = l
unrolled-spelt caret l = tt
unrolled-spelt dollar l = tt
unrolled-spelt empty l = tt
unrolled-spelt (group p) l = forked-spelt p (unrolled-spelt p l)

thin-spelt : (p : Place) → Spelt p → Spelt (thin_place p)
unfolding thin_place
thin-spelt (p_letter c k) s = s
thin-spelt (p_caret k) s = s
thin-spelt (p_dollar k) s = s
thin-spelt (p_fork ks) s = s
thin-spelt p_end s = s

pub thinned-spelt : (p : Tree pattern) → Lettered p → (q : ℕ) → Spelt (get_or (thinned (places (unroll p))) q (p_fork []))
unfolding places flagged_places unroll
thinned-spelt p l q =
    let t : Unrolled = unroll p in
    let F : ℕ = 2 ^ nest t in
    rw (thinned-at (places t) q)
    (thin-spelt (get_or (places t) q (p_fork []))
    (spread-spelt F (flagged_places F t)
    (every_append (code F t 0 0 (state_at F (size t))) (flagged 0 (λ φ. p_end) ∷ []) (code-spelt F t 0 0 (state_at F (size t)) (forked-spelt p (unrolled-spelt p l))) (λ φ. tt, tt)) q))

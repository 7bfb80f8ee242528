-- Patterns without an unbounded quantifier over a body that can take no row read as in document 01:
-- F is 1, and the list of places is the list of document 01, which has no flags (`base_places`);
-- R-3's rule leaves no derivation out, so the preferred match is document 01's (`base_preferred`).
use mathlib.Core.Path.{◌≡◌, refl, ap, sym, ◌∙◌}
use mathlib.Core.List.{List, [], ◌∷◌, ◌++◌, map, map-append}
use mathlib.Core.Bool.{Bool, true, false}
use mathlib.Core.Logic.{◌↔◌}
use Prim.Native.Nat.{ℕ, suc, ◌+◌, ◌*◌, ◌/◌, ◌%◌, ◌^◌}
use native.Mathlib.Omega.{arith}
use lib.ListN.{length, get_or, length-map, get_or-map}
use lib.Seq.{ext_get_or}
use lib.Pow.{pow_pos}
use borrow.Author.Tests.{lt-ltb}
use Rattle.rules.specs.Language.{deeper, Rank, pattern, Tree, loop_nesting}
use Rattle.rules.specs.Places.{Unrolled, u_letter, u_caret, u_dollar, u_empty, u_seq, u_alt, u_opt, u_star, Branches, u_nil, u_cons, skips, nest, nests, state_at, size, start_of, starts_of, round_end, code, codes, ways_in_turn, Place, p_letter, p_caret, p_dollar, p_fork, p_end, Flagged, flagged, flagged_places, with_flags, spread, unroll, places, factor_of}
use Rattle.rules.specs.Readings.{RowSets}
use Rattle.rules.specs.Preferment.{Derivation, Parses, Prefers, Preferred}
use Rattle.laws.proofs.Bounds.{Bounds}
use Rattle.laws.proofs.Counting.{nest-counted}
use Rattle.laws.proofs.EmptyRounds.{base_kept}
use Rattle.laws.proofs.Lists.{length-tabulate, get_d_tabulate}
use Rattle.laws.proofs.Rank.{no_place}

-- ---- document 01's places, without flags

unfoldable pub base_start : Unrolled → ℕ → ℕ → ℕ
unfolding size
base_start (u_letter c) b k = b
base_start u_caret b k = b
base_start u_dollar b k = b
base_start u_empty b k = k
base_start (u_seq x y) b k = base_start x b (base_start y (b + size x) k)
base_start (u_alt ts) b k = b
base_start (u_opt lazy t) b k = b
base_start (u_star lazy t) b k = b

unfoldable pub base_starts : Branches → ℕ → ℕ → List ℕ
unfolding size base_start
base_starts u_nil b k = []
base_starts (u_cons t ts) b k = base_start t b k ∷ base_starts ts (b + size t) k

unfoldable mutual
  unfolding size base_start base_starts

  pub base_code : Unrolled → ℕ → ℕ → List Place
  base_code (u_letter c) b k = p_letter c k ∷ []
  base_code u_caret b k = p_caret k ∷ []
  base_code u_dollar b k = p_dollar k ∷ []
  base_code u_empty b k = []
  base_code (u_seq x y) b k = base_code x b (base_start y (b + size x) k) ++ base_code y (b + size x) k
  base_code (u_alt ts) b k = p_fork (base_starts ts (suc b) k) ∷ base_codes ts (suc b) k
  base_code (u_opt lazy t) b k = p_fork (ways_in_turn lazy (base_start t (suc b) k) k) ∷ base_code t (suc b) k
  base_code (u_star lazy t) b k = p_fork (ways_in_turn lazy (base_start t (suc b) b) k) ∷ base_code t (suc b) b

  pub base_codes : Branches → ℕ → ℕ → List Place
  base_codes u_nil b k = []
  base_codes (u_cons t ts) b k = base_code t b k ++ base_codes ts (b + size t) k

-- ---- they are the places whose F is 1

one_each : (b : ℕ) → state_at 1 b 0 ≡ b
one_each b = omega arith

start-same : (t : Unrolled) (b : ℕ) (k : ℕ → ℕ) → start_of 1 t b k 0 ≡ base_start t b (k 0)
unfolding start_of base_start
start-same (u_letter c) b k = one_each b
start-same u_caret b k = one_each b
start-same u_dollar b k = one_each b
start-same u_empty b k = refl
start-same (u_seq x y) b k = start-same x b (start_of 1 y (b + size x) k) ∙ ap (base_start x b) (start-same y (b + size x) k)
start-same (u_alt ts) b k = one_each b
start-same (u_opt lazy t) b k = one_each b
start-same (u_star lazy t) b k = one_each b

starts_same : (ts : Branches) (b : ℕ) (k : ℕ → ℕ) → starts_of 1 ts b k 0 ≡ base_starts ts b (k 0)
unfolding starts_of base_starts
starts_same u_nil b k = refl
starts_same (u_cons t ts) b k = rw (start-same t b k, starts_same ts (b + size t) k)

-- a place without flags
abbrev bare : Flagged → Place
bare p = p.place 0

not-deeper : (s : Bool) (m : ℕ) → deeper s m ≡ 0 → (s ≡ false) × (m ≡ 0)
not-deeper false m h = (refl, h)
not-deeper true m h = absurd (omega arith)

star-same : (lazy : Bool) (t : Unrolled) (b : ℕ) (k : ℕ → ℕ) (s : Bool) → s ≡ false → ((k' : ℕ → ℕ) → map bare (code 1 t 0 (suc b) k') ≡ base_code t (suc b) (k' 0))
    → p_fork (ways_in_turn lazy (start_of 1 t (suc b) (round_end 1 s 0 b k) 0) (k 0)) ∷ map bare (code 1 t (deeper s 0) (suc b) (round_end 1 s 0 b k))
    ≡ p_fork (ways_in_turn lazy (base_start t (suc b) b) (k 0)) ∷ base_code t (suc b) b
star-same lazy t b k true e ih = let z : ◌≡◌ {A = ℕ} 1 0 = ap (λ (c : Bool). deeper c 0) e in absurd (omega arith)
star-same lazy t b k false e ih =
    let a : start_of 1 t (suc b) (state_at 1 b) 0 ≡ base_start t (suc b) b = start-same t (suc b) (state_at 1 b) ∙ ap (base_start t (suc b)) (one_each b) in
    let c : map bare (code 1 t 0 (suc b) (state_at 1 b)) ≡ base_code t (suc b) b = ih (state_at 1 b) ∙ ap (base_code t (suc b)) (one_each b) in
    rw (a, c)

mutual
  unfolding code base_code nest

  code_same : (t : Unrolled) (b : ℕ) (k : ℕ → ℕ) → nest t ≡ 0 → map bare (code 1 t 0 b k) ≡ base_code t b (k 0)
  code_same (u_letter c) b k h = refl
  code_same u_caret b k h = refl
  code_same u_dollar b k h = refl
  code_same u_empty b k h = refl
  code_same (u_seq x y) b k h =
      let e : map bare (code 1 x 0 b (start_of 1 y (b + size x) k)) ≡ base_code x b (base_start y (b + size x) (k 0)) =
      code_same x b (start_of 1 y (b + size x) k) (omega arith) ∙ ap (base_code x b) (start-same y (b + size x) k) in
      map-append bare (code 1 x 0 b (start_of 1 y (b + size x) k)) (code 1 y 0 (b + size x) k) ∙ rw (e, code_same y (b + size x) k (omega arith))
  code_same (u_alt ts) b k h = rw (starts_same ts (suc b) k, codes_same ts (suc b) k h)
  code_same (u_opt lazy t) b k h = rw (start-same t (suc b) k, code_same t (suc b) k h)
  code_same (u_star lazy t) b k h = star-same lazy t b k (skips t) (not-deeper (skips t) (nest t) h).0 (λ k'. code_same t (suc b) k' (not-deeper (skips t) (nest t) h).1)

  codes_same : (ts : Branches) (b : ℕ) (k : ℕ → ℕ) → nests ts ≡ 0 → map bare (codes 1 ts 0 b k) ≡ base_codes ts b (k 0)
  codes_same u_nil b k h = refl
  codes_same (u_cons t ts) b k h =
      map-append bare (code 1 t 0 b k) (codes 1 ts 0 (b + size t) k) ∙ rw (code_same t b k (omega arith), codes_same ts (b + size t) k (omega arith))

spread-bare : (ps : List Flagged) → spread 1 ps ≡ map bare ps
unfolding spread
spread-bare ps =
    ext_get_or (p_fork []) (spread 1 ps) (map bare ps) (length-tabulate (length ps * 1) state ∙ long ∙ sym (length-map ps bare))
    (λ i h. get_d_tabulate (length ps * 1) state i (p_fork []) (rw (length-tabulate (length ps * 1) state) at h) ∙ here i ∙ sym (get_or-map bare ps i no_place))
  where
    state : ℕ → Place
    state s = with_flags (get_or ps (s / 1) no_place) (s % 1)

    long : length ps * 1 ≡ length ps
    long = omega arith

    here : (i : ℕ) → state i ≡ bare (get_or ps i no_place)
    here i =
        let d : i / 1 ≡ i = omega arith in
        let m : i % 1 ≡ 0 = omega arith in
        rw (d, m, lt-ltb 0 (2 ^ (get_or ps i no_place).flags) (pow_pos (get_or ps i no_place).flags))

-- the list of places is document 01's
pub base_places : (t : Unrolled) → nest t ≡ 0 → places t ≡ base_code t 0 (size t) ++ (p_end ∷ [])
unfolding places flagged_places
base_places t h =
    let f : 2 ^ nest t ≡ 1 = rw h in
    rw f (spread-bare (flagged_places 1 t) ∙ map-append bare (code 1 t 0 0 (state_at 1 (size t))) (flagged 0 (λ φ. p_end) ∷ [])
    ∙ rw (code_same t 0 (state_at 1 (size t)) h, one_each (size t)))

-- so it is for a tree, and its F is 1
pub base_factor : (p : Tree pattern) → loop_nesting p ≡ 0 → factor_of p ≡ 1
unfolding factor_of
base_factor p h = rw h

pub base_tree : (p : Tree pattern) → Bounds p → loop_nesting p ≡ 0 → places (unroll p) ≡ base_code (unroll p) 0 (size (unroll p)) ++ (p_end ∷ [])
base_tree p o h = base_places (unroll p) (nest-counted p o ∙ h)

-- the match that document 01 prefers, without R-3's rule
pub record Preferred01 (rows : RowSets) {k : Rank} (t : Tree k) (i j : ℕ) (w : List ℕ) : Type 0 where
  pub derivation : Derivation t
  pub parses : Parses rows t derivation i j w
  pub greatest : (e : Derivation t) (j' : ℕ) (w' : List ℕ) → Parses rows t e i j' w' → Prefers t e derivation → ⊥

-- is the one that R-3 prefers
pub base_preferred : {rows : RowSets} {k : Rank} {t : Tree k} {i j : ℕ} {w : List ℕ} → loop_nesting t ≡ 0 → Preferred rows t i j w ↔ Preferred01 rows t i j w
base_preferred {t} h = (
  λ x. record { derivation = x.derivation; parses = x.parses; greatest = λ e j w r l. x.greatest e j w (base_kept t h e) r l },
  λ x. record { derivation = x.derivation; kept = base_kept t h x.derivation; parses = x.parses; greatest = λ e j w a r l. x.greatest e j w r l },
)

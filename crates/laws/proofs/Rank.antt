-- The rank of a pair falls along every way: the search graph of every pattern. The places of a
-- pattern with their flags, and where they lead.
use mathlib.Core.Path.{◌≡◌, refl, ap, sym, ◌∙◌}
use mathlib.Core.List.{List, [], ◌∷◌, ◌++◌, map, append_assoc}
use mathlib.Core.Bool.{Bool, true, false, ◌&&◌}
use Prim.Native.Nat.{ℕ, zero, suc, ◌+◌, ◌-◌, ◌*◌, ◌/◌, ◌%◌, ◌≤◌, ◌<◌, max, suc-le-suc, ◌^◌}
use native.Mathlib.Nat.{le_trans, add-zero, mod-lt, le_of_suc-le-suc, not-suc-le-zero, div-lt_iff_lt-mul, mul_comm}
use native.Mathlib.Numerals.{add-one}
use native.Mathlib.Omega.{arith}
use lib.ListN.{length, get_or, drop, length-append}
use lib.Seq.{drop-drop, drop-append_seam, get_or-drop, get_or_at}
use lib.Arith.{digits_lt, digits_div, digits_mod}
use lib.Dec.{ltb, eqb}
use borrow.Author.Tests.{ltb-true, ltb-false, lt-ltb}
use Rattle.rules.specs.Places.{Unrolled, u_letter, u_caret, u_dollar, u_empty, u_seq, u_alt, u_opt, u_star, Branches, u_nil, u_cons, size, sizes, start_of, starts_of, code, codes, ways_in_turn, Place, p_letter, p_caret, p_dollar, p_fork, p_end, places, skips, nest, nests, full, state_at, round_end, Flagged, flagged, flagged_places, with_flags, spread}
use Rattle.rules.specs.Walk.{Ways, accept, try, pass_if, ways_at, pair_ways}
use Rattle.laws.proofs.Level.{level, highest, levels, levels_of, and-true, level_same, levels_low, Every, every_map, every_append, behind, wide, wide_factor, nest-low, nest-here, nest-inner}
use Rattle.laws.proofs.Walk.{All-map}
use Rattle.rules.specs.Working.{All, Falls}
use lib.Pow.{pow_pos, ones_lt}
use Rattle.rules.specs.Basics.{pick}
use Rattle.rules.specs.Language.{deeper}
use Rattle.laws.proofs.Lists.{length-tabulate, get_d_tabulate}

-- ---- lengths

mutual
  unfolding size code

  pub code-length : (F : ℕ) (t : Unrolled) (d b : ℕ) (k : ℕ → ℕ) → length (code F t d b k) ≡ size t
  code-length F (u_letter c) d b k = refl
  code-length F u_caret d b k = refl
  code-length F u_dollar d b k = refl
  code-length F u_empty d b k = refl
  code-length F (u_seq x y) d b k = rw (length-append, code-length F x d b (start_of F y (b + size x) k), code-length F y d (b + size x) k)
  code-length F (u_alt ts) d b k = ap suc (codes-length F ts d (suc b) k)
  code-length F (u_opt lazy t) d b k = ap suc (code-length F t d (suc b) k)
  code-length F (u_star lazy t) d b k = ap suc (code-length F t (deeper (skips t) d) (suc b) (round_end F (skips t) d b k))

  pub codes-length : (F : ℕ) (ts : Branches) (d b : ℕ) (k : ℕ → ℕ) → length (codes F ts d b k) ≡ sizes ts
  codes-length F u_nil d b k = refl
  codes-length F (u_cons t ts) d b k = rw (length-append, code-length F t d b k, codes-length F ts d (b + size t) k)

mutual
  unfolding size levels

  pub levels_length : (t : Unrolled) (d : ℕ) (e : ℕ → ℕ) → length (levels t d e) ≡ size t
  levels_length (u_letter c) d e = refl
  levels_length u_caret d e = refl
  levels_length u_dollar d e = refl
  levels_length u_empty d e = refl
  levels_length (u_seq x y) d e = rw (length-append, levels_length x d (λ φ. level y (e φ)), levels_length y d e)
  levels_length (u_alt ts) d e = ap suc (levels_of_length ts d e)
  levels_length (u_opt lazy t) d e = ap suc (levels_length t d e)
  levels_length (u_star lazy t) d e = ap suc (levels_length t (deeper (skips t) d) (behind (skips t) d e (λ φ. suc (max (level t (e φ)) (e φ)))))

  pub levels_of_length : (ts : Branches) (d : ℕ) (e : ℕ → ℕ) → length (levels_of ts d e) ≡ sizes ts
  levels_of_length u_nil d e = refl
  levels_of_length (u_cons t ts) d e = rw (length-append, levels_length t d e, levels_of_length ts d e)

-- ---- a list that stands in another from b on

pub record At {A : Type 0} (L : List A) (b : ℕ) (xs : List A) : Type 0 where
  pub rest : List A
  pub is : drop b L ≡ xs ++ rest

module _ {A : Type 0} (L : List A) where
  pub at_left : (b : ℕ) (xs ys : List A) → At L b (xs ++ ys) → At L b xs
  at_left b xs ys a = record { rest = ys ++ a.rest; is = a.is ∙ append_assoc xs ys a.rest }

  pub at_right : (b : ℕ) (xs ys : List A) → At L b (xs ++ ys) → At L (b + length xs) ys
  at_right b xs ys a =
      record {
        rest = a.rest;
        is = sym (drop-drop (length xs) b L) ∙ ap (drop (length xs)) (a.is ∙ append_assoc xs ys a.rest) ∙ drop-append_seam xs (ys ++ a.rest);
      }

  pub at_head : (b : ℕ) (x : A) (xs : List A) (d : A) → At L b (x ∷ xs) → get_or L b d ≡ x
  at_head b x xs d a = rw add-zero at (sym (get_or-drop b L 0 d) ∙ ap (λ (l : List A). get_or l 0 d) a.is)

  pub at_tail : (b : ℕ) (x : A) (xs : List A) → At L b (x ∷ xs) → At L (suc b) xs
  at_tail b x xs a = rw add-one at (at_right b (x ∷ []) xs a)

-- ---- places with flags

abbrev pub no_place : Flagged
no_place = flagged 0 (λ φ. p_fork [])

pub spread-length : (F : ℕ) (ps : List Flagged) → length (spread F ps) ≡ length ps * F
unfolding spread
spread-length F ps = length-tabulate (length ps * F) _

-- the number of a place with flags is below that of all
pub state_lt : (F m b φ : ℕ) → b < m → φ < F → state_at F b φ < m * F
state_lt F m b φ h l = digits_lt h l

-- it is there: the place, by its flags
pub spread_at : (F : ℕ) (ps : List Flagged) (b φ d : ℕ) (p : ℕ → Place) (z : Place) → b < length ps → φ < F → φ < 2 ^ d → get_or ps b no_place ≡ flagged d p
    → get_or (spread F ps) (state_at F b φ) z ≡ p φ
unfolding spread
spread_at F ps b φ d p z h l v e =
    get_d_tabulate (length ps * F) (λ s. with_flags (get_or ps (s / F) no_place) (s % F)) (state_at F b φ) z (state_lt F (length ps) b φ h l)
    ∙ rw (digits_div b l, digits_mod b l, e, lt-ltb φ (2 ^ d) v)

-- ---- the ways of a place lead to places, and those that take no row to lower levels

abbrev pub none : ℕ → ℕ
none φ = 0

-- m places with F values of flags each, the level of a place with flags
abbrev pub Target : (ℕ → ℕ) → ℕ → ℕ → ℕ → Type 0
Target lv S m k = (k < S) × (lv k < m)

abbrev pub Edge : (ℕ → ℕ) → ℕ → ℕ → Place → Type 0
Edge lv S m (p_letter c k) = k < S
Edge lv S m (p_caret k) = Target lv S m k
Edge lv S m (p_dollar k) = Target lv S m k
Edge lv S m (p_fork ks) = All (Target lv S m) ks
Edge lv S m p_end = Unit {0}

module _ (F : ℕ) (L : List (ℕ → ℕ)) (m : ℕ) where
  -- the level of a place with flags
  abbrev pub level_at : ℕ → ℕ
  level_at s = get_or L (s / F) none (s % F)

  abbrev S : ℕ
  S = m * F

  -- k leads to a place whose level, by the d flags, is e
  abbrev Leads : ℕ → (ℕ → ℕ) → (ℕ → ℕ) → Type 0
  Leads d k e = (φ : ℕ) → φ < 2 ^ d → (k φ < S) × (level_at (k φ) ≡ e φ)

  leads_place : (d b : ℕ) (e : ℕ → ℕ) → b < m → 2 ^ d ≤ F → get_or L b none ≡ e → Leads d (state_at F b) e
  leads_place d b e h f q φ l =
      let v : φ < F = le_trans l f in
      (state_lt F m b φ h v, rw (digits_div b v, digits_mod b v, q))

  leads_entry : (t : Unrolled) (d b : ℕ) (k e : ℕ → ℕ) → At L b (levels t d e) → b + size t ≤ m → 2 ^ d ≤ F → Leads d k e → Leads d (start_of F t b k) (λ φ. level t (e φ))
  unfolding start_of level levels size
  leads_entry (u_letter c) d b k e a h f l = leads_place d b _ (omega arith) f (at_head L b _ _ none a)
  leads_entry u_caret d b k e a h f l = leads_place d b _ (omega arith) f (at_head L b _ _ none a)
  leads_entry u_dollar d b k e a h f l = leads_place d b _ (omega arith) f (at_head L b _ _ none a)
  leads_entry u_empty d b k e a h f l = l
  leads_entry (u_seq x y) d b k e a h f l =
      leads_entry x d b (start_of F y (b + size x) k) (λ φ. level y (e φ)) (at_left L b (levels x d (λ φ. level y (e φ))) (levels y d e) a) (omega arith) f
      (leads_entry y d (b + size x) k e (rw (levels_length x d (λ φ. level y (e φ))) at (at_right L b (levels x d (λ φ. level y (e φ))) (levels y d e) a)) (omega arith) f l)
  leads_entry (u_alt ts) d b k e a h f l = leads_place d b _ (omega arith) f (at_head L b _ _ none a)
  leads_entry (u_opt lazy t) d b k e a h f l = leads_place d b _ (omega arith) f (at_head L b _ _ none a)
  leads_entry (u_star lazy t) d b k e a h f l = leads_place d b _ (omega arith) f (at_head L b _ _ none a)

  -- the end of a round
  leads_round : (s : Bool) (d b : ℕ) (k e fork : ℕ → ℕ) → b < m → 2 ^ d ≤ F → get_or L b none ≡ fork → Leads d k e → Leads (deeper s d) (round_end F s d b k) (behind s d e fork)
  leads_round false d b k e fork h f q l φ i = leads_place d b fork h f q φ i
  leads_round true d b k e fork h f q l φ i = go (ltb φ (2 ^ d)) refl
    where
      go : (c : Bool) → ltb φ (2 ^ d) ≡ c → (pick c (k φ) (state_at F b (φ - 2 ^ d)) < S) × (level_at (pick c (k φ) (state_at F b (φ - 2 ^ d))) ≡ pick c (e φ) (fork (φ - 2 ^ d)))
      go true z = l φ (ltb-true φ (2 ^ d) z)
      go false z = let v : φ < 2 ^ suc d = i in leads_place d b fork h f q (φ - 2 ^ d) (omega (arith, ltb-false φ (2 ^ d) z, pow_pos d))

  abbrev Below : (ℕ → ℕ) → ℕ → (ℕ → ℕ) → Type 0
  Below top d k = (φ : ℕ) → φ < 2 ^ d → Target level_at S (top φ) (k φ)

  abbrev pub Edges : List (ℕ → ℕ) → List Flagged → Type 0
  Edges [] [] = Unit {0}
  Edges [] (p ∷ ps) = ⊥
  Edges (e ∷ es) [] = ⊥
  Edges (e ∷ es) (p ∷ ps) = ((φ : ℕ) → φ < 2 ^ p.flags → Edge level_at S (e φ) (p.place φ)) × Edges es ps

  edges_append : (ms ns : List (ℕ → ℕ)) (ps qs : List Flagged) → Edges ms ps → Edges ns qs → Edges (ms ++ ns) (ps ++ qs)
  edges_append [] ns [] qs a b = b
  edges_append [] ns (p ∷ ps) qs a b = absurd a
  edges_append (m ∷ ms) ns [] qs a b = absurd a
  edges_append (m ∷ ms) ns (p ∷ ps) qs a b = (a.0, edges_append ms ns ps qs a.1 b)

  edges_at : (ms : List (ℕ → ℕ)) (ps : List Flagged) → Edges ms ps → (q : ℕ) → q < length ps → (φ : ℕ) → φ < 2 ^ (get_or ps q no_place).flags
      → Edge level_at S (get_or ms q none φ) ((get_or ps q no_place).place φ)
  edges_at [] [] a q h = absurd (not-suc-le-zero h)
  edges_at [] (p ∷ ps) a q h = absurd a
  edges_at (m ∷ ms) [] a q h = absurd a
  edges_at (m ∷ ms) (p ∷ ps) a zero h = a.0
  edges_at (m ∷ ms) (p ∷ ps) a (suc q) h = edges_at ms ps a.1 q (le_of_suc-le-suc h)

  order_all : (Q : ℕ → Type 0) (lazy : Bool) (x y : ℕ) → Q x → Q y → All Q (ways_in_turn lazy x y)
  order_all Q false x y a b = (a, (b, tt))
  order_all Q true x y a b = (b, (a, tt))

  below : (d : ℕ) (k e top : ℕ → ℕ) → ((φ : ℕ) → e φ < top φ) → Leads d k e → Below top d k
  below d k e top h l φ i = let r = l φ i in (r.0, rw r.1 (h φ))

  -- the ways of an alternation
  entries-edges : (ts : Branches) (d b : ℕ) (k e top : ℕ → ℕ) → At L b (levels_of ts d e) → b + sizes ts ≤ m → 2 ^ d ≤ F → Leads d k e
      → ((φ : ℕ) → highest ts (e φ) < top φ) → (φ : ℕ) → φ < 2 ^ d → All (Target level_at S (top φ)) (starts_of F ts b k φ)
  unfolding starts_of levels highest sizes
  entries-edges u_nil d b k e top a h f l hm φ i = tt
  entries-edges (u_cons t ts) d b k e top a h f l hm φ i = (
    below d (start_of F t b k) (λ φ. level t (e φ)) top (λ φ. omega (arith, hm φ)) (leads_entry t d b k e (at_left L b (levels t d e) (levels_of ts d e) a) (omega arith) f l) φ i,
    entries-edges ts d (b + size t) k e top (rw (levels_length t d e) at (at_right L b (levels t d e) (levels_of ts d e) a)) (omega arith) f l (λ φ. omega (arith, hm φ)) φ i,
  )

  -- a copy is entered with its flag at 0
  star-copy : (t : Unrolled) (s : Bool) → skips t ≡ s → (d b : ℕ) (k e top : ℕ → ℕ) → b < m → 2 ^ deeper s d ≤ F → 2 ^ d ≤ F → get_or L b none ≡ top → Leads d k e
      → ((φ : ℕ) → top φ ≡ suc (max (level t (e φ)) (e φ))) → At L (suc b) (levels t (deeper s d) (behind s d e top)) → suc b + size t ≤ m
      → Below top d (start_of F t (suc b) (round_end F s d b k))
  star-copy t false q d b k e top h f f' j l w a z φ v =
      let r = leads_entry t d (suc b) (state_at F b) top a z f (leads_round false d b k e top h f j l) φ v in
      let x : level_at (start_of F t (suc b) (state_at F b) φ) ≡ level t (top φ) = r.1 in
      let y = level_same t q (top φ) (e φ) in
      let u = w φ in
      (r.0, omega arith)
  star-copy t true q d b k e top h f f' j l w a z φ v =
      let v' : φ < 2 ^ suc d = omega arith in
      let r = leads_entry t (suc d) (suc b) (round_end F true d b k) (behind true d e top) a z f (leads_round true d b k e top h f' j l) φ v' in
      let c : behind true d e top φ ≡ e φ = rw (lt-ltb φ (2 ^ d) v) in
      let x : level_at (start_of F t (suc b) (round_end F true d b k) φ) ≡ level t (e φ) = r.1 ∙ ap (level t) c in
      let u = w φ in
      (r.0, omega arith)

  mutual
    unfolding code levels level highest size nest

    pub code-edges : (t : Unrolled) (d b : ℕ) (k e : ℕ → ℕ) → At L b (levels t d e) → b + size t ≤ m → 2 ^ (d + nest t) ≤ F → Leads d k e → Edges (levels t d e) (code F t d b k)
    code-edges (u_letter c) d b k e a h f l = (λ φ i. (l (full d) (ones_lt d)).0, tt)
    code-edges u_caret d b k e a h f l = (below d k e (λ φ. suc (e φ)) (λ φ. omega arith) l, tt)
    code-edges u_dollar d b k e a h f l = (below d k e (λ φ. suc (e φ)) (λ φ. omega arith) l, tt)
    code-edges u_empty d b k e a h f l = tt
    code-edges (u_seq x y) d b k e a h f l =
        let ay : At L (b + size x) (levels y d e) = rw (levels_length x d (λ φ. level y (e φ))) at (at_right L b (levels x d (λ φ. level y (e φ))) (levels y d e) a) in
        let fx = nest-low F d (max (nest x) (nest y)) (nest x) f (omega arith) in
        let fy = nest-low F d (max (nest x) (nest y)) (nest y) f (omega arith) in
        edges_append (levels x d (λ φ. level y (e φ))) (levels y d e) (code F x d b (start_of F y (b + size x) k)) (code F y d (b + size x) k)
        (code-edges x d b (start_of F y (b + size x) k) (λ φ. level y (e φ)) (at_left L b (levels x d (λ φ. level y (e φ))) (levels y d e) a) (omega arith) fx
        (leads_entry y d (b + size x) k e ay (omega arith) (nest-here F d (nest y) fy) l))
        (code-edges y d (b + size x) k e ay (omega arith) fy l)
    code-edges (u_alt ts) d b k e a h f l =
        let a' = at_tail L b _ (levels_of ts d e) a in (
          entries-edges ts d (suc b) k e (λ φ. suc (highest ts (e φ))) a' (omega arith) (nest-here F d (nests ts) f) l (λ φ. omega arith),
          codes-edges ts d (suc b) k e a' (omega arith) f l,
        )
    code-edges (u_opt lazy t) d b k e a h f l =
        let top : ℕ → ℕ = λ φ. suc (max (level t (e φ)) (e φ)) in
        let a' = at_tail L b _ (levels t d e) a in
        let g = nest-here F d (nest t) f in (
          λ φ i. order_all (Target level_at S (top φ)) lazy (start_of F t (suc b) k φ) (k φ)
              (below d (start_of F t (suc b) k) (λ φ. level t (e φ)) top (λ φ. omega arith) (leads_entry t d (suc b) k e a' (omega arith) g l) φ i)
              (below d k e top (λ φ. omega arith) l φ i),
          code-edges t d (suc b) k e a' (omega arith) f l,
        )
    code-edges (u_star lazy t) d b k e a h f l =
        let top : ℕ → ℕ = λ φ. suc (max (level t (e φ)) (e φ)) in
        let a' = at_tail L b _ (levels t (deeper (skips t) d) (behind (skips t) d e top)) a in
        let r = at_head L b _ _ none a in
        let f' = nest-inner F (skips t) d (nest t) f in
        let g = nest-here F d (deeper (skips t) (nest t)) f in (
          λ φ i. order_all (Target level_at S (top φ)) lazy (start_of F t (suc b) (round_end F (skips t) d b k) φ) (k φ)
              (star-copy t (skips t) refl d b k e top (omega arith) (nest-here F (deeper (skips t) d) (nest t) f') g r l (λ φ. refl) a' (omega arith) φ i)
              (below d k e top (λ φ. omega arith) l φ i),
          code-edges t (deeper (skips t) d) (suc b) (round_end F (skips t) d b k) (behind (skips t) d e top) a' (omega arith) f' (leads_round (skips t) d b k e top (omega arith) g r l),
        )

    pub codes-edges : (ts : Branches) (d b : ℕ) (k e : ℕ → ℕ) → At L b (levels_of ts d e) → b + sizes ts ≤ m → 2 ^ (d + nests ts) ≤ F → Leads d k e → Edges (levels_of ts d e) (codes F ts d b k)
    codes-edges u_nil d b k e a h f l = tt
    codes-edges (u_cons t ts) d b k e a h f l =
        edges_append (levels t d e) (levels_of ts d e) (code F t d b k) (codes F ts d (b + size t) k)
        (code-edges t d b k e (at_left L b (levels t d e) (levels_of ts d e) a) (omega arith) (nest-low F d (max (nest t) (nests ts)) (nest t) f (omega arith)) l)
        (codes-edges ts d (b + size t) k e (rw (levels_length t d e) at (at_right L b (levels t d e) (levels_of ts d e) a)) (omega arith)
        (nest-low F d (max (nest t) (nests ts)) (nests ts) f (omega arith)) l)

-- ---- the whole pattern

-- the factor F of an unrolled pattern, and how many places with flags there are
abbrev pub factor_in : Unrolled → ℕ
factor_in t = 2 ^ nest t

abbrev pub states : Unrolled → ℕ
states t = suc (size t) * factor_in t

-- the levels of all places
unfoldable pub levels_in : Unrolled → List (ℕ → ℕ)
unfolding levels
levels_in t = levels t 0 none ++ (none ∷ [])

-- the level of a place with flags
abbrev pub level_of : Unrolled → ℕ → ℕ
level_of t s = level_at (factor_in t) (levels_in t) (suc (size t)) s

unfoldable pub rank : Unrolled → ℕ → ℕ → ℕ
unfolding levels_in size
rank t n x = (n - x / states t) * states t + level_of t (x % states t)

pub flagged-length : (t : Unrolled) → length (flagged_places (factor_in t) t) ≡ suc (size t)
unfolding flagged_places
flagged-length t = rw (length-append, code-length (factor_in t) t 0 0 (state_at (factor_in t) (size t))) (omega arith)

pub places-length : (t : Unrolled) → length (places t) ≡ suc (size t) * 2 ^ nest t
unfolding places
places-length t = spread-length (factor_in t) (flagged_places (factor_in t) t) ∙ ap (λ (x : ℕ). x * factor_in t) (flagged-length t)

all_get_d : (Q : (ℕ → ℕ) → Type 0) (xs : List (ℕ → ℕ)) → Q none → Every Q xs → (q : ℕ) → Q (get_or xs q none)
all_get_d Q [] z a q = z
all_get_d Q (x ∷ xs) z a zero = a.0
all_get_d Q (x ∷ xs) z a (suc q) = all_get_d Q xs z a.1 q

pub some-state : (t : Unrolled) → 0 < states t
some-state t = let h = pow_pos (nest t) in let g = wide_factor t in omega arith

module _ (t : Unrolled) where
  level_bound : (s : ℕ) → level_of t s < states t
  unfolding levels_in
  level_bound s =
      all_get_d (λ e. (φ : ℕ) → e φ < states t) (levels t 0 none ++ (none ∷ [])) (λ φ. omega (arith, wide_factor t))
      (every_append (λ e. (φ : ℕ) → e φ < states t) (levels t 0 none) (none ∷ [])
      (every_map {P = λ e. (φ : ℕ) → e φ ≤ 0 + wide t} {Q = λ e. (φ : ℕ) → e φ < states t} (λ e h φ. omega (arith, h φ, wide_factor t)) (levels t 0 none)
      (levels_low t 0 none 0 (λ φ. omega arith))) (λ φ. omega (arith, wide_factor t), tt)) (s / factor_in t) (s % factor_in t)

  flagged-edges : Edges (factor_in t) (levels_in t) (suc (size t)) (levels_in t) (flagged_places (factor_in t) t)
  unfolding levels_in flagged_places
  flagged-edges =
      let F : ℕ = factor_in t in
      edges_append F (levels_in t) (suc (size t)) (levels t 0 none) (none ∷ []) (code F t 0 0 (state_at F (size t))) (flagged 0 (λ φ. p_end) ∷ [])
      (code-edges F (levels_in t) (suc (size t)) t 0 0 (state_at F (size t)) none (record { rest = none ∷ []; is = refl }) (omega arith) here
      (leads_place F (levels_in t) (suc (size t)) 0 (size t) none (omega arith) (pow_pos (nest t)) last)) (λ φ i. tt, tt)
    where
      here : 2 ^ (0 + nest t) ≤ factor_in t
      here = let e : 0 + nest t ≡ nest t = omega arith in rw e (omega arith)

      last : get_or (levels_in t) (size t) none ≡ none
      last = get_or_at (levels t 0 none) none [] none (size t) (levels_length t 0 none)

  -- where a place with flags leads
  pub places-edges : (s : ℕ) → s < states t → Edge (level_of t) (states t) (level_of t s) (get_or (places t) s (p_fork []))
  unfolding places spread
  places-edges s h =
      let F : ℕ = factor_in t in
      let Q : List Flagged = flagged_places F t in
      let l : length Q ≡ suc (size t) = flagged-length t in
      let e : get_or (places t) s (p_fork []) ≡ with_flags (get_or Q (s / F) no_place) (s % F) = get_d_tabulate (length Q * F) (λ s. with_flags (get_or Q (s / F) no_place) (s % F)) s (p_fork []) (rw l h) in
      rw e (go (get_or Q (s / F) no_place) (edges_at F (levels_in t) (suc (size t)) (levels_in t) Q flagged-edges (s / F) (rw l ((div-lt_iff_lt-mul (pow_pos (nest t))).1 h)) (s % F))
      (ltb (s % F) (2 ^ (get_or Q (s / F) no_place).flags)) refl)
    where
      go : (p : Flagged) → (s % factor_in t < 2 ^ p.flags → Edge (level_of t) (states t) (level_of t s) (p.place (s % factor_in t))) → (c : Bool) → ltb (s % factor_in t) (2 ^ p.flags) ≡ c
          → Edge (level_of t) (states t) (level_of t s) (pick c (p.place (s % factor_in t)) p_end)
      go p a true z = a (ltb-true (s % factor_in t) (2 ^ p.flags) z)
      go p a false z = tt

  -- over n rows, where pairs are counted for L rows, at least as many
  module _ (holds : ℕ → ℕ → Bool) (n L : ℕ) (le : n ≤ L) where
    -- a way without a row
    rank-level : (i k m : ℕ) → k < states t → level_of t k < m → rank t n (i * states t + k) < (n - i) * states t + m
    unfolding rank
    rank-level i k m h l = rw (digits_div i h, digits_mod i h) (omega arith)

    -- a way with a row
    rank-row : (i k m : ℕ) → k < states t → i < n → rank t n (suc i * states t + k) < (n - i) * states t + m
    unfolding rank
    rank-row i k m h l =
        let d : n - i ≡ suc (n - suc i) = omega arith in
        let b = level_bound k in
        rw (digits_div (suc i) h, digits_mod (suc i) h, d) (row-less (states t) (n - suc i) (level_of t k) m b)
      where
        row-less : (S a b m : ℕ) → b < S → a * S + b < suc a * S + m
        row-less S a b m h = omega arith

    pair-below : (i k : ℕ) → k < states t → i ≤ L → i * states t + k < states t * suc L
    pair-below i k h l = rw (mul_comm (states t) (suc L)) (digits_lt (suc-le-suc l) h)

    abbrev Falling : ℕ → ℕ → Ways → Type 0
    Falling i m accept = Unit {0}
    Falling i m (try ys) = All (λ y. (rank t n y < (n - i) * states t + m) × (i ≤ L → y < states t * suc L)) ys

    fork-falls : (i m : ℕ) (ks : List ℕ) → All (Target (level_of t) (states t) m) ks → Falling i m (try (map (λ k. i * states t + k) ks))
    fork-falls i m [] a = tt
    fork-falls i m (k ∷ ks) a = ((rank-level i k m a.0.0 a.0.1, λ l. pair-below i k a.0.0 l), fork-falls i m ks a.1)

    pass_falls : (i m y : ℕ) (c : Bool) → (c ≡ true → (rank t n y < (n - i) * states t + m) × (i ≤ L → y < states t * suc L)) → Falling i m (pass_if c y)
    pass_falls i m y true h = (h refl, tt)
    pass_falls i m y false h = tt

    at-falls : (i m : ℕ) (p : Place) → Edge (level_of t) (states t) m p → Falling i m (ways_at holds n (states t) p i)
    unfolding ways_at
    at-falls i m (p_letter c k) a =
        pass_falls i m (suc i * states t + k) (ltb i n && holds c i)
        (λ e. let l = ltb-true i n (and-true (ltb i n) (holds c i) e).0 in (rank-row i k m a l, λ h. pair-below (suc i) k a (le_trans l le)))
    at-falls i m (p_caret k) a = pass_falls i m (i * states t + k) (eqb i 0) (λ e. (rank-level i k m a.0 a.1, λ l. pair-below i k a.0 l))
    at-falls i m (p_dollar k) a = pass_falls i m (i * states t + k) (eqb i n) (λ e. (rank-level i k m a.0 a.1, λ l. pair-below i k a.0 l))
    at-falls i m (p_fork ks) a = fork-falls i m ks a
    at-falls i m p_end a = tt

    position_le : (x : ℕ) → x < states t * suc L → x / states t ≤ L
    position_le x h = le_of_suc-le-suc ((div-lt_iff_lt-mul (some-state t)).1 (rw mul_comm at h))

    pub pattern-falls : Falls (pair_ways holds n (places t)) (rank t n) (states t * suc L)
    unfolding pair_ways rank
    pattern-falls x ys e =
        let P : ℕ = states t in
        let ed = places-edges (x % P) (mod-lt x (some-state t)) in
        let f : Falling (x / P) (level_of t (x % P)) (try ys) = rw (rw (places-length t) at e) at (at-falls (x / P) (level_of t (x % P)) (get_or (places t) (x % P) (p_fork [])) ed) in
        All-map (λ y (r : (rank t n y < (n - x / P) * P + level_of t (x % P)) × (x / P ≤ L → y < P * suc L)). (r.0, λ h. r.1 (position_le x h))) ys f

    pub pattern-top : (x : ℕ) → rank t n x < states t * suc L
    unfolding rank
    pattern-top x = rw (mul_comm (states t) (suc L)) (digits_lt (omega arith) (level_bound (x % states t)))

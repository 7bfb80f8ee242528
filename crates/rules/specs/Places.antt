-- Rules: document 01, "Places and preferment", its first paragraph, with R-3. How a pattern is
-- unrolled into numbered places, and P and F.
use mathlib.Core.List.{List, [], ◌∷◌, ◌++◌}
use Rattle.std.specs.Prelude.{Bool, true, false, ◌&&◌, ◌||◌, ℕ, zero, suc, ◌+◌, ◌-◌, ◌*◌, ◌/◌, ◌%◌, ◌^◌, max, ltb, length, get_or}
use Rattle.std.proofs.Math.Option.{Option, none, some}
use Rattle.rules.specs.Language.{Form, lower, upper, Rank, pattern, branch, factor, primary, Tree, one, more, last, next, bare, times, letter, caret, dollar, empty, group, loop_nesting, deeper}
use Rattle.rules.specs.Basics.{pick, tabulate}

-- ---- unrolled

-- A pattern unrolled: what is left of a quantifier is copies of its body and forks. `u_opt` is a
-- fork and a copy that may be left out; `u_star` is a fork and a copy that leads back to that fork.
-- Their Bool: reluctant, so leaving is tried first.
mutual
  pub data Unrolled : Type 0 where
    u_letter : ℕ → Unrolled
    u_caret u_dollar u_empty : Unrolled
    u_seq : Unrolled → Unrolled → Unrolled
    u_alt : Branches → Unrolled
    u_opt : Bool → Unrolled → Unrolled
    u_star : Bool → Unrolled → Unrolled

  pub data Branches : Type 0 where
    u_nil : Branches
    u_cons : Unrolled → Branches → Branches

-- n copies, then the rest
unfoldable pub copies : ℕ → Unrolled → Unrolled → Unrolled
copies zero t r = r
copies (suc n) t r = u_seq t (copies n t r)

-- n times a fork and a copy. Each fork holds all that follows it, so leaving at any of them goes
-- straight behind the whole factor.
unfoldable pub options : ℕ → Bool → Unrolled → Unrolled
options zero lazy t = u_empty
options (suc n) lazy t = u_opt lazy (u_seq t (options n lazy t))

-- behind lo copies: hi - lo times a fork and a copy; or, unbounded, a fork and a copy that leads
-- back to it
unfoldable pub behind : Option ℕ → ℕ → Bool → Unrolled → Unrolled
unfolding options
behind none lo lazy t = u_star lazy t
behind (some hi) lo lazy t = options (hi - lo) lazy t

-- `{n,m}` is n copies of the body, then m - n times a fork and a copy; an unbounded quantifier with
-- lower bound n is n copies, then a fork and a copy that leads back to that fork.
unfoldable pub repeated : Form → Bool → Unrolled → Unrolled
unfolding copies behind lower upper
repeated f lazy t = copies (lower f) t (behind (upper f) (lower f) lazy t)

-- a pattern unrolls to its branches, any other phrase to one part
abbrev pub UnrolledAt : Rank → Type 0
UnrolledAt pattern = Branches
UnrolledAt branch = Unrolled
UnrolledAt factor = Unrolled
UnrolledAt primary = Unrolled

-- an alternation of two or more branches is one fork for all of them; one branch alone needs none
unfoldable pub forked : Branches → Unrolled
forked u_nil = u_alt u_nil
forked (u_cons t u_nil) = t
forked (u_cons t (u_cons u ts)) = u_alt (u_cons t (u_cons u ts))

unfoldable pub unrolled : {k : Rank} → Tree k → UnrolledAt k
unfolding repeated forked
unrolled (one b) = u_cons (unrolled b) u_nil
unrolled (more b p) = u_cons (unrolled b) (unrolled p)
unrolled (last f) = unrolled f
unrolled (next f b) = u_seq (unrolled f) (unrolled b)
unrolled (bare x) = unrolled x
unrolled (times x f z) = repeated f z (unrolled x)
unrolled (letter c) = u_letter c
unrolled caret = u_caret
unrolled dollar = u_dollar
unrolled empty = u_empty
unrolled (group p) = forked (unrolled p)

unfoldable pub unroll : Tree pattern → Unrolled
unfolding unrolled forked
unroll p = forked (unrolled p)

-- ---- flags

-- R-3: the copy behind the fork of an unbounded quantifier over a body that can take no row has a
-- flag, which says whether its present round has taken a row. Each place has a flag for each such
-- copy that holds it. The flags are a number: the outermost is its lowest bit.

-- can take no row
unfoldable mutual
  pub skips : Unrolled → Bool
  skips (u_letter c) = false
  skips u_caret = true
  skips u_dollar = true
  skips u_empty = true
  skips (u_seq a b) = skips a && skips b
  skips (u_alt ts) = any_skips ts
  skips (u_opt lazy t) = true
  skips (u_star lazy t) = true

  pub any_skips : Branches → Bool
  any_skips u_nil = false
  any_skips (u_cons t ts) = skips t || any_skips ts

-- how many such copies are nested in one another, at most; the law `nest-counted` (crates/laws,
-- Counting) says that it is the tree's `loop_nesting`
unfoldable mutual
  unfolding skips

  pub nest : Unrolled → ℕ
  nest (u_letter c) = 0
  nest u_caret = 0
  nest u_dollar = 0
  nest u_empty = 0
  nest (u_seq a b) = max (nest a) (nest b)
  nest (u_alt ts) = nests ts
  nest (u_opt lazy t) = nest t
  nest (u_star lazy t) = deeper (skips t) (nest t)

  pub nests : Branches → ℕ
  nests u_nil = 0
  nests (u_cons t ts) = max (nest t) (nests ts)

-- all of d flags set
abbrev pub full : ℕ → ℕ
full d = 2 ^ d - 1

-- A place with its flags is a number: place times F plus flags, where F is 2 to the power of the
-- deepest nesting.
abbrev pub state_at : ℕ → ℕ → ℕ → ℕ
state_at F place flags = place * F + flags

-- ---- places

-- The places of `A+ B`: A, then a fork and a copy of A that leads back to it, then B, then END.
--   0  A      leads to 1
--   1  fork   tries 2, one more A, and then 3, which leaves
--   2  A      leads back to 1
--   3  B      leads to 4
--   4  END
-- So P is 5. `A+? B` differs at place 1 alone, which tries 3 before 2.

-- a place with the places that it leads to, each with its flags; a fork's ways in the order in
-- which they are tried
pub data Place : Type 0 where
  p_letter : ℕ → ℕ → Place
  p_caret p_dollar : ℕ → Place
  p_fork : List ℕ → Place
  p_end : Place

-- a place, by its flags, and how many flags it has
pub record Flagged : Type 0 where
  pub flags : ℕ
  pub place : ℕ → Place

abbrev pub flagged : ℕ → (ℕ → Place) → Flagged
flagged d p = record { flags = d; place = p }

-- greedy (false) tries the copy before leaving; reluctant (true) tries leaving first
abbrev pub ways_in_turn : Bool → ℕ → ℕ → List ℕ
ways_in_turn false copy leave = copy ∷ leave ∷ []
ways_in_turn true copy leave = leave ∷ copy ∷ []

-- A letter or anchor is one place, `()` none. An alternation is one fork, then its branches.
unfoldable mutual
  pub size : Unrolled → ℕ
  size (u_letter c) = 1
  size u_caret = 1
  size u_dollar = 1
  size u_empty = 0
  size (u_seq a b) = size a + size b
  size (u_alt ts) = suc (sizes ts)
  size (u_opt lazy t) = suc (size t)
  size (u_star lazy t) = suc (size t)

  pub sizes : Branches → ℕ
  sizes u_nil = 0
  sizes (u_cons t ts) = size t + sizes ts

-- F is the factor: how many values of the flags a place is listed with
module _ (F : ℕ) where
  -- where a part begins, by the flags, if its places are numbered `from` a number on; `after` is
  -- what comes behind it, by the flags
  unfoldable pub start_of : Unrolled → ℕ → (ℕ → ℕ) → ℕ → ℕ
  unfolding size
  start_of (u_letter c) from after flags = state_at F from flags
  start_of u_caret from after flags = state_at F from flags
  start_of u_dollar from after flags = state_at F from flags
  start_of u_empty from after flags = after flags
  start_of (u_seq x y) from after flags = start_of x from (start_of y (from + size x) after) flags
  start_of (u_alt ts) from after flags = state_at F from flags
  start_of (u_opt lazy t) from after flags = state_at F from flags
  start_of (u_star lazy t) from after flags = state_at F from flags

  unfoldable pub starts_of : Branches → ℕ → (ℕ → ℕ) → ℕ → List ℕ
  unfolding size start_of
  starts_of u_nil from after flags = []
  starts_of (u_cons t ts) from after flags = start_of t from after flags ∷ starts_of ts (from + size t) after flags

  -- What comes behind a round of the copy at the fork `from`, which has d flags, where `after` is
  -- behind the whole repetition. A body that always takes a row leads back to the fork. The copy of
  -- any other (true) has a flag, number d: if it is set, the round has taken a row and leads back
  -- to the fork, which lacks that flag; else the round ends the repetition, and matching goes on
  -- behind it.
  abbrev pub round_end : Bool → ℕ → ℕ → (ℕ → ℕ) → ℕ → ℕ
  round_end false d from after flags = state_at F from flags
  round_end true d from after flags = pick (ltb flags (2 ^ d)) (after flags) (state_at F from (flags - 2 ^ d))

  -- the places of a part, which have d flags from what is around it, numbered `from` a number on
  -- from left to right. A letter that passes sets all flags that its place has; no other place
  -- changes a flag. A copy is entered with its own flag, number d, at 0, since the d flags of its
  -- fork are below 2 ^ d.
  unfoldable mutual
    unfolding skips size start_of starts_of

    pub code : Unrolled → ℕ → ℕ → (ℕ → ℕ) → List Flagged
    code (u_letter c) d from after = flagged d (λ flags. p_letter c (after (full d))) ∷ []
    code u_caret d from after = flagged d (λ flags. p_caret (after flags)) ∷ []
    code u_dollar d from after = flagged d (λ flags. p_dollar (after flags)) ∷ []
    code u_empty d from after = []
    code (u_seq x y) d from after = code x d from (start_of y (from + size x) after) ++ code y d (from + size x) after
    code (u_alt ts) d from after = flagged d (λ flags. p_fork (starts_of ts (suc from) after flags)) ∷ codes ts d (suc from) after
    code (u_opt lazy t) d from after = flagged d (λ flags. p_fork (ways_in_turn lazy (start_of t (suc from) after flags) (after flags))) ∷ code t d (suc from) after
    code (u_star lazy t) d from after =
        flagged d (λ flags. p_fork (ways_in_turn lazy (start_of t (suc from) (round_end (skips t) d from after) flags) (after flags)))
        ∷ code t (deeper (skips t) d) (suc from) (round_end (skips t) d from after)

    pub codes : Branches → ℕ → ℕ → (ℕ → ℕ) → List Flagged
    codes u_nil d from after = []
    codes (u_cons t ts) d from after = code t d from after ++ codes ts d (from + size t) after

  -- all places by their flags, END last
  unfoldable pub flagged_places : Unrolled → List Flagged
  unfolding size code
  flagged_places t = code t 0 0 (state_at F (size t)) ++ (flagged 0 (λ flags. p_end) ∷ [])

-- how many flags place q has
unfoldable pub flags_at : Unrolled → ℕ → ℕ
unfolding nest flagged_places
flags_at t q = (get_or (flagged_places (2 ^ nest t) t) q (flagged 0 (λ flags. p_fork []))).flags

-- a place with certain flags; bits beyond its flags are unused, and no way leads to a place with
-- one of them set, so that it is of no consequence what stands there: END, which leads nowhere
abbrev pub with_flags : Flagged → ℕ → Place
with_flags p flags = pick (ltb flags (2 ^ p.flags)) (p.place flags) p_end

-- all places, each once for each of F values of its flags
unfoldable pub spread : ℕ → List Flagged → List Place
unfolding tabulate
spread F ps = tabulate (length ps * F) (λ s. with_flags (get_or ps (s / F) (flagged 0 (λ flags. p_fork []))) (s % F))

unfoldable pub places : Unrolled → List Place
unfolding nest flagged_places spread
places t = spread (2 ^ nest t) (flagged_places (2 ^ nest t) t)

-- ---- P

-- P counts them all, END included, each once. It is told on the tree itself, so that it can be
-- computed where the places are too many to list; the law `places-counted` (crates/laws, Counting)
-- says that P times F is the length of the list of places with flags.

-- the places of lo to hi rounds of a body with c places
unfoldable pub round_places : ℕ → Option ℕ → ℕ → ℕ
round_places lo none c = lo * c + (1 + c)
round_places lo (some hi) c = lo * c + (hi - lo) * (1 + c)

-- the fork of an alternation
unfoldable pub fork : Tree pattern → ℕ
fork (one b) = 0
fork (more b p) = 1

-- of a pattern: the places of its branches, without its fork
unfoldable pub place_count : {k : Rank} → Tree k → ℕ
unfolding round_places fork lower upper
place_count (one b) = place_count b
place_count (more b p) = place_count b + place_count p
place_count (last f) = place_count f
place_count (next f b) = place_count f + place_count b
place_count (bare x) = place_count x
place_count (times x f z) = round_places (lower f) (upper f) (place_count x)
place_count (letter c) = 1
place_count caret = 1
place_count dollar = 1
place_count empty = 0
place_count (group p) = fork p + place_count p

unfoldable pub places_of : Tree pattern → ℕ
unfolding place_count fork
places_of p = fork p + place_count p + 1

-- R-3: the factor F, 2 to the power of the deepest nesting of unbounded quantifiers over bodies
-- that can take no row
unfoldable pub factor_of : Tree pattern → ℕ
unfolding loop_nesting
factor_of p = 2 ^ loop_nesting p

-- The path of a derivation: the pairs (place, flags, position) that it goes through, in the places
-- of document 01 and R-3 (`Runs`, `PathOf`). A derivation has one path at most (`path_one`).
use mathlib.Core.Path.{◌≡◌, ap, ap₂, sym, ◌∙◌, subst, refl}
use mathlib.Core.List.{List, [], ◌∷◌, ◌++◌}
use mathlib.Core.Logic.{inl, inr, ◌⊎◌, ⊎_elim}
use mathlib.Core.Option.{Option, none, some}
use Prim.Native.Nat.{ℕ, zero, suc, ◌+◌, ◌-◌, ◌^◌, ◌≤◌, ◌<◌}
use lib.ListN.{length}
use Rattle.rules.specs.Language.{lower, upper, Rank, pattern, Tree, one, more, last, next, bare, times, letter, caret, dollar, empty, group, deeper}
use Rattle.rules.specs.Places.{unrolled, unroll, size, places, fork, skips, nest, full, state_at}
use Rattle.rules.specs.Preferment.{Derivation, Either}
use Rattle.rules.specs.Walk.{pair_at}
use mathlib.Core.Bool.{Bool, true, false}
use native.Mathlib.Nat.{eq-or-lt_of_le}
use native.Mathlib.Omega.{arith}
use lib.Dec.{eqb}
use lib.Pow.{ones_lt}
use borrow.Author.Tests.{eq-eqb, ne_eqb}
use Rattle.rules.specs.Basics.{pick}

-- ---- the d flags behind a part that was entered with the flags φ at position i and left at j: all
-- are set if it took a row

unfoldable pub took : ℕ → ℕ → ℕ → ℕ → ℕ
took d φ i j = pick (eqb i j) φ (full d)

pub took-none : (d φ i j : ℕ) → j ≡ i → took d φ i j ≡ φ
unfolding took
took-none d φ i j e = rw (eq-eqb i j (sym e))

pub took-rows : (d φ i j : ℕ) → i < j → took d φ i j ≡ full d
unfolding took
took-rows d φ i j h = rw (ne_eqb i j (λ (e : i ≡ j). omega arith))

pub took_lt : (d φ i j : ℕ) → φ < 2 ^ d → took d φ i j < 2 ^ d
unfolding took
took_lt d φ i j h = go (eqb i j)
  where
    go : (c : Bool) → pick c φ (full d) < 2 ^ d
    go true = h
    go false = ones_lt d

pub le_cases : (i j : ℕ) → i ≤ j → (j ≡ i) ⊎ (i < j)
le_cases i j h = ⊎_elim (λ (e : i ≡ j). inl (sym e)) (λ (l : i < j). inr l) (eq-or-lt_of_le h)

pub took-then : (d φ i j k : ℕ) → i ≤ j → j ≤ k → took d (took d φ i j) j k ≡ took d φ i k
took-then d φ i j k h l = go (le_cases j k l) (le_cases i j h)
  where
    go : (k ≡ j) ⊎ (j < k) → (j ≡ i) ⊎ (i < j) → took d (took d φ i j) j k ≡ took d φ i k
    go (inl e) (inl q) = rw (took-none d (took d φ i j) j k e, took-none d φ i j q, took-none d φ i k (e ∙ q))
    go (inl e) (inr q) = rw (took-none d (took d φ i j) j k e, took-rows d φ i j q, took-rows d φ i k (omega arith))
    go (inr e) (inl q) = rw (took-rows d (took d φ i j) j k e, took-rows d φ i k (omega arith))
    go (inr e) (inr q) = rw (took-rows d (took d φ i j) j k e, took-rows d φ i k (omega arith))

-- without flags there is nothing to set
pub no-flags : (i j : ℕ) → took 0 0 i j ≡ 0
unfolding took
no-flags i j = go (eqb i j)
  where
    go : (c : Bool) → pick c 0 (full 0) ≡ 0
    go true = refl
    go false = refl

-- ---- routes

-- `T e j p`: e goes to position j through the pairs p; `T d b i φ e j p`: so with d flags around
-- it, its places numbered from b on, and from position i with the flags φ
abbrev pub Route : Type 0 → Type 1
Route A = A → ℕ → List ℕ → Type 0

abbrev pub Routes : Type 0 → Type 1
Routes A = ℕ → ℕ → ℕ → ℕ → Route A

-- F is the factor, S the number of all places with flags; s says whether the body can take no row,
-- z is the number of places of one copy

-- the pair of place b with the flags φ at position i
abbrev pub pair_of : ℕ → ℕ → ℕ → ℕ → ℕ → ℕ
pair_of F S i b φ = pair_at S i (state_at F b φ)

-- a loop, whose fork is b: behind a round that took rows it goes on at the fork, and a round that
-- took none is the last
unfoldable pub LoopRuns : {A : Type 0} → Routes A → ℕ → ℕ → Bool → Routes (List A)
LoopRuns T F S s d b i φ [] j p = (j ≡ i) × (p ≡ pair_of F S i b φ ∷ [])
LoopRuns T F S s d b i φ (e ∷ es) j p =
    (x : ℕ) × (u : List ℕ) × (v : List ℕ) × (T (deeper s d) (suc b) i φ e x u) × (((i < x) × LoopRuns T F S s d b x (full d) es j v) ⊎ ((x ≡ i) × (j ≡ i) × (v ≡ [])))
    × (p ≡ pair_of F S i b φ ∷ (u ++ v))

-- m times a fork and a copy
unfoldable pub OptionRuns : {A : Type 0} → Routes A → ℕ → ℕ → ℕ → ℕ → Routes (List A)
OptionRuns T F S z zero d b i φ es j p = (j ≡ i) × (p ≡ [])
OptionRuns T F S z (suc m) d b i φ [] j p = (j ≡ i) × (p ≡ pair_of F S i b φ ∷ [])
OptionRuns T F S z (suc m) d b i φ (e ∷ es) j p =
    (x : ℕ) × (u : List ℕ) × (v : List ℕ) × (T d (suc b) i φ e x u) × (OptionRuns T F S z m d (suc b + z) x (took d φ i x) es j v) × (p ≡ pair_of F S i b φ ∷ (u ++ v))

-- what follows lo copies
unfoldable pub BehindRuns : {A : Type 0} → Routes A → ℕ → ℕ → Bool → ℕ → Option ℕ → ℕ → Routes (List A)
unfolding LoopRuns OptionRuns
BehindRuns T F S s z none lo d b i φ es j p = LoopRuns T F S s d b i φ es j p
BehindRuns T F S s z (some hi) lo d b i φ es j p = OptionRuns T F S z (hi - lo) d b i φ es j p

-- m copies, then the rest
unfoldable pub CopyRuns : {A : Type 0} → Routes A → ℕ → Routes (List A) → ℕ → Routes (List A)
CopyRuns T z Rest zero d b i φ es j p = Rest d b i φ es j p
CopyRuns T z Rest (suc m) d b i φ [] j p = ⊥
CopyRuns T z Rest (suc m) d b i φ (e ∷ es) j p =
    (x : ℕ) × (u : List ℕ) × (v : List ℕ) × (T d b i φ e x u) × (CopyRuns T z Rest m d (b + z) x (took d φ i x) es j v) × (p ≡ u ++ v)

-- a pattern with its fork: none for one branch, one for more
unfoldable pub ForkRuns : {A : Type 0} → Routes A → ℕ → ℕ → ℕ → Routes A
ForkRuns T F S zero d b i φ e j p = T d b i φ e j p
ForkRuns T F S (suc m) d b i φ e j p = (q : List ℕ) × (T d (suc b) i φ e j q) × (p ≡ pair_of F S i b φ ∷ q)

-- of a pattern: through its branches, without its fork
unfoldable pub Runs : {k : Rank} → (t : Tree k) → ℕ → ℕ → Routes (Derivation t)
unfolding Derivation unrolled size skips fork lower upper CopyRuns BehindRuns ForkRuns
Runs (one t) F S d b i φ e j p = Runs t F S d b i φ e j p
Runs (more t ts) F S d b i φ e j p = Either (λ x. Runs t F S d b i φ x j p) (λ x. Runs ts F S d (b + size (unrolled t)) i φ x j p) e
Runs (last t) F S d b i φ e j p = Runs t F S d b i φ e j p
Runs (next s t) F S d b i φ e j p =
    (x : ℕ) × (u : List ℕ) × (v : List ℕ) × (Runs s F S d b i φ e.0 x u) × (Runs t F S d (b + size (unrolled s)) x (took d φ i x) e.1 j v) × (p ≡ u ++ v)
Runs (bare t) F S d b i φ e j p = Runs t F S d b i φ e j p
Runs (times t f z) F S d b i φ e j p =
    CopyRuns (λ d b i φ e j p. Runs t F S d b i φ e j p) (size (unrolled t))
    (BehindRuns (λ d b i φ e j p. Runs t F S d b i φ e j p) F S (skips (unrolled t)) (size (unrolled t)) (upper f) (lower f)) (lower f) d b i φ e.0 j p
Runs (letter c) F S d b i φ e j p = (j ≡ suc i) × (p ≡ pair_of F S i b φ ∷ [])
Runs caret F S d b i φ e j p = (j ≡ i) × (p ≡ pair_of F S i b φ ∷ [])
Runs dollar F S d b i φ e j p = (j ≡ i) × (p ≡ pair_of F S i b φ ∷ [])
Runs empty F S d b i φ e j p = (j ≡ i) × (p ≡ [])
Runs (group t) F S d b i φ e j p = ForkRuns (λ d b i φ e j p. Runs t F S d b i φ e j p) F S (fork t) d b i φ e j p

-- p is the path of e from the start i to the end j: the pairs of e, then END. A whole pattern has
-- its fork like a group.
pub record PathOf (t : Tree pattern) (e : Derivation t) (i j : ℕ) (p : List ℕ) : Type 0 where
  pub pairs : List ℕ
  pub runs : ForkRuns (Runs t (2 ^ nest (unroll t)) (length (places (unroll t)))) (2 ^ nest (unroll t)) (length (places (unroll t))) (fork t) 0 0 i 0 e j pairs
  pub is : p ≡ pairs ++ (pair_of (2 ^ nest (unroll t)) (length (places (unroll t))) j (size (unroll t)) 0 ∷ [])

-- ---- a derivation has one path at most

-- one stretch behind another
chain : (pre : List ℕ → List ℕ) (X : ℕ → List ℕ → Type 0) (Y : ℕ → ℕ → List ℕ → Type 0)
    → ((x x' : ℕ) (u u' : List ℕ) → X x u → X x' u' → (x ≡ x') × (u ≡ u')) → ((x j j' : ℕ) (v v' : List ℕ) → Y x j v → Y x j' v' → (j ≡ j') × (v ≡ v'))
    → (j j' : ℕ) (p p' : List ℕ) → (x : ℕ) × (u : List ℕ) × (v : List ℕ) × (X x u) × (Y x j v) × (p ≡ pre (u ++ v))
    → (x : ℕ) × (u : List ℕ) × (v : List ℕ) × (X x u) × (Y x j' v) × (p' ≡ pre (u ++ v)) → (j ≡ j') × (p ≡ p')
chain pre X Y hx hy j j' p p' r s =
    let a = hx r.0 s.0 r.1 s.1 r.3 s.3 in
    let b = hy s.0 j j' r.2 s.2 (subst (λ (x : ℕ). Y x j r.2) a.0 r.4) s.4 in
    (b.0, r.5 ∙ ap₂ (λ (u v : List ℕ). pre (u ++ v)) a.1 b.1 ∙ sym s.5)

both-same : (j j' x : ℕ) (p p' q : List ℕ) → (j ≡ x) × (p ≡ q) → (j' ≡ x) × (p' ≡ q) → (j ≡ j') × (p ≡ p')
both-same j j' x p p' q r s = (r.0 ∙ sym s.0, r.1 ∙ sym s.1)

abbrev One : {A : Type 0} → Routes A → Type 0
One {A} T = (d b i φ : ℕ) (e : A) (j j' : ℕ) (p p' : List ℕ) → T d b i φ e j p → T d b i φ e j' p' → (j ≡ j') × (p ≡ p')

module _ {A : Type 0} (T : Routes A) (same : One T) (F S z : ℕ) where
  -- behind one round of a loop
  rest-one : (i x : ℕ) (Y : ℕ → List ℕ → Type 0) → ((j j' : ℕ) (v v' : List ℕ) → Y j v → Y j' v' → (j ≡ j') × (v ≡ v')) → (j j' : ℕ) (v v' : List ℕ)
      → ((i < x) × Y j v) ⊎ ((x ≡ i) × (j ≡ i) × (v ≡ [])) → ((i < x) × Y j' v') ⊎ ((x ≡ i) × (j' ≡ i) × (v' ≡ [])) → (j ≡ j') × (v ≡ v')
  rest-one i x Y h j j' v v' (inl r) (inl r') = h j j' v v' r.1 r'.1
  rest-one i x Y h j j' v v' (inl r) (inr r') = let a = r.0 in let b = r'.0 in absurd (omega arith)
  rest-one i x Y h j j' v v' (inr r) (inl r') = let a = r'.0 in let b = r.0 in absurd (omega arith)
  rest-one i x Y h j j' v v' (inr r) (inr r') = (r.1 ∙ sym r'.1, r.2 ∙ sym r'.2)

  loop_one : (s : Bool) → One (LoopRuns T F S s)
  unfolding LoopRuns
  loop_one s d b i φ [] j j' p p' r r' = both-same j j' i p p' (pair_of F S i b φ ∷ []) r r'
  loop_one s d b i φ (e ∷ es) j j' p p' r r' =
      chain (λ l. pair_of F S i b φ ∷ l) (T (deeper s d) (suc b) i φ e) (λ x j v. ((i < x) × LoopRuns T F S s d b x (full d) es j v) ⊎ ((x ≡ i) × (j ≡ i) × (v ≡ [])))
      (λ x x' u u'. same (deeper s d) (suc b) i φ e x x' u u')
      (λ x j j' v v'. rest-one i x (LoopRuns T F S s d b x (full d) es) (λ j j' v v'. loop_one s d b x (full d) es j j' v v') j j' v v') j j' p p' r r'

  option_one : (m : ℕ) → One (OptionRuns T F S z m)
  unfolding OptionRuns
  option_one zero d b i φ es j j' p p' r r' = both-same j j' i p p' [] r r'
  option_one (suc m) d b i φ [] j j' p p' r r' = both-same j j' i p p' (pair_of F S i b φ ∷ []) r r'
  option_one (suc m) d b i φ (e ∷ es) j j' p p' r r' =
      chain (λ l. pair_of F S i b φ ∷ l) (T d (suc b) i φ e) (λ x j v. OptionRuns T F S z m d (suc b + z) x (took d φ i x) es j v) (λ x x' u u'. same d (suc b) i φ e x x' u u')
      (λ x j j' v v'. option_one m d (suc b + z) x (took d φ i x) es j j' v v') j j' p p' r r'

  behind-one : (s : Bool) (hi : Option ℕ) (lo : ℕ) → One (BehindRuns T F S s z hi lo)
  unfolding BehindRuns
  behind-one s none lo d b i φ es j j' p p' r r' = loop_one s d b i φ es j j' p p' r r'
  behind-one s (some hi) lo d b i φ es j j' p p' r r' = option_one (hi - lo) d b i φ es j j' p p' r r'

  copy-one : (U : Routes (List A)) → One U → (m : ℕ) → One (CopyRuns T z U m)
  unfolding CopyRuns
  copy-one U h zero d b i φ es j j' p p' r r' = h d b i φ es j j' p p' r r'
  copy-one U h (suc m) d b i φ [] j j' p p' r r' = absurd r
  copy-one U h (suc m) d b i φ (e ∷ es) j j' p p' r r' =
      chain (λ l. l) (T d b i φ e) (λ x j v. CopyRuns T z U m d (b + z) x (took d φ i x) es j v) (λ x x' u u'. same d b i φ e x x' u u')
      (λ x j j' v v'. copy-one U h m d (b + z) x (took d φ i x) es j j' v v') j j' p p' r r'

fork-one : {A : Type 0} (T : Routes A) → One T → (F S m : ℕ) → One (ForkRuns T F S m)
unfolding ForkRuns
fork-one T same F S zero d b i φ e j j' p p' r r' = same d b i φ e j j' p p' r r'
fork-one T same F S (suc m) d b i φ e j j' p p' r r' =
    let a = same d (suc b) i φ e j j' r.0 r'.0 r.1 r'.1 in
    (a.0, r.2 ∙ ap (λ (l : List ℕ). pair_of F S i b φ ∷ l) a.1 ∙ sym r'.2)

pub runs_one : (F S : ℕ) {k : Rank} (t : Tree k) → One (Runs t F S)
unfolding Derivation Runs
runs_one F S (one t) d b i φ e j j' p p' r r' = runs_one F S t d b i φ e j j' p p' r r'
runs_one F S (more t ts) d b i φ (inl e) j j' p p' r r' = runs_one F S t d b i φ e j j' p p' r r'
runs_one F S (more t ts) d b i φ (inr e) j j' p p' r r' = runs_one F S ts d (b + size (unrolled t)) i φ e j j' p p' r r'
runs_one F S (last t) d b i φ e j j' p p' r r' = runs_one F S t d b i φ e j j' p p' r r'
runs_one F S (next s t) d b i φ e j j' p p' r r' =
    chain (λ l. l) (λ x u. Runs s F S d b i φ e.0 x u) (λ x j v. Runs t F S d (b + size (unrolled s)) x (took d φ i x) e.1 j v)
    (λ x x' u u' a a'. runs_one F S s d b i φ e.0 x x' u u' a a')
    (λ x j j' v v' a a'. runs_one F S t d (b + size (unrolled s)) x (took d φ i x) e.1 j j' v v' a a') j j' p p' r r'
runs_one F S (bare t) d b i φ e j j' p p' r r' = runs_one F S t d b i φ e j j' p p' r r'
runs_one F S (times t f z) d b i φ e j j' p p' r r' =
    let T : Routes (Derivation t) = λ d b i φ e j p. Runs t F S d b i φ e j p in
    let h : One T = λ d b i φ e j j' p p' a a'. runs_one F S t d b i φ e j j' p p' a a' in
    let c : ℕ = size (unrolled t) in
    copy-one T h F S c (BehindRuns T F S (skips (unrolled t)) c (upper f) (lower f)) (behind-one T h F S c (skips (unrolled t)) (upper f) (lower f)) (lower f) d b i φ e.0 j j' p p' r r'
runs_one F S (letter c) d b i φ e j j' p p' r r' = both-same j j' (suc i) p p' (pair_of F S i b φ ∷ []) r r'
runs_one F S caret d b i φ e j j' p p' r r' = both-same j j' i p p' (pair_of F S i b φ ∷ []) r r'
runs_one F S dollar d b i φ e j j' p p' r r' = both-same j j' i p p' (pair_of F S i b φ ∷ []) r r'
runs_one F S empty d b i φ e j j' p p' r r' = both-same j j' i p p' [] r r'
runs_one F S (group t) d b i φ e j j' p p' r r' =
    fork-one (λ d b i φ e j p. Runs t F S d b i φ e j p) (λ d b i φ e j j' p p' a a'. runs_one F S t d b i φ e j j' p p' a a') F S (fork t) d b i φ e j j' p p' r r'

pub path_one : {t : Tree pattern} {e : Derivation t} {i j j' : ℕ} {p p' : List ℕ} → PathOf t e i j p → PathOf t e i j' p' → p ≡ p'
path_one {t} {e} {i} {j} {j'} x y =
    let F : ℕ = 2 ^ nest (unroll t) in
    let S : ℕ = length (places (unroll t)) in
    let a = fork-one (Runs t F S) (runs_one F S t) F S (fork t) 0 0 i 0 e j j' x.pairs y.pairs x.runs y.runs in
    x.is ∙ ap₂ (λ (l : List ℕ) (k : ℕ). l ++ (pair_of F S k (size (unroll t)) 0 ∷ [])) a.1 a.0 ∙ sym y.is

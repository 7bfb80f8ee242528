-- Rules: ISO/IEC 19075-5, clause 6.2, which the tender's demand 2 names, with R-3, on the pattern as
-- it is written. The parenthesised strings of a pattern (its derivations), the rows that one reads,
-- and their order of preferment; then the whole report told by that order. No place or walk is
-- named here.
use Rattle.std.specs.Prelude.{◌≡◌, Bool, true, false, ◌&&◌, ◌⊎◌, length, ltb}
use mathlib.Core.List.{List, [], ◌∷◌, ◌++◌, flat_map}
use Rattle.std.proofs.Common.{inl, inr}
use Rattle.std.proofs.Math.Option.{none, some, Option}
use Prim.Native.Nat.{ℕ, suc, ◌+◌, ◌≤◌, ◌<◌, zero}
use Rattle.rules.specs.Language.{lower, upper, Rank, pattern, Tree, one, more, last, next, bare, times, letter, caret, dollar, empty, group}
use Rattle.rules.specs.Readings.{Within, RowSets}
use Rattle.rules.specs.Search.{End, done, full, stuck, Skip, next_start, Standing, stand_at}
use Rattle.rules.specs.Basics.{every}

-- ---- derivations

-- what the strings of the parenthesised language tell apart: the branch taken, and what is derived
-- in each round
unfoldable pub Derivation : {k : Rank} → Tree k → Type 0
unfolding lower upper
Derivation (one b) = Derivation b
Derivation (more b p) = Derivation b ⊎ Derivation p
Derivation (last f) = Derivation f
Derivation (next f b) = Derivation f × Derivation b
Derivation (bare x) = Derivation x
Derivation (times x f z) = (ds : List (Derivation x)) × ((lower f ≤ length ds) × Within (length ds) (upper f))
Derivation (letter c) = Unit {0}
Derivation caret = Unit {0}
Derivation dollar = Unit {0}
Derivation empty = Unit {0}
Derivation (group p) = Derivation p

-- ---- the rows that a derivation reads

-- the rounds, one behind the other, of what R says of one round
module _ {A : Type 0} (R : A → ℕ → ℕ → List ℕ → Type 0) where
  unfoldable pub InTurn : List A → ℕ → ℕ → List ℕ → Type 0
  InTurn [] i j w = (j ≡ i) × (w ≡ [])
  InTurn (d ∷ ds) i k w = (j : ℕ) × (u : List ℕ) × (v : List ℕ) × (R d i j u) × (InTurn ds j k v) × (w ≡ u ++ v)

-- what is asked of the branch taken
abbrev pub Either : {A B : Type 0} → (A → Type 0) → (B → Type 0) → A ⊎ B → Type 0
Either R S (inl d) = R d
Either R S (inr e) = S e

-- d reads the rows i to j, not j itself, with the labels w, every letter holding at its row and
-- every anchor at its position
module _ (rows : RowSets) where
  unfoldable pub Parses : {k : Rank} → (t : Tree k) → Derivation t → ℕ → ℕ → List ℕ → Type 0
  unfolding Derivation InTurn
  Parses (one b) d i j w = Parses b d i j w
  Parses (more b p) d i j w = Either (λ x. Parses b x i j w) (λ x. Parses p x i j w) d
  Parses (last f) d i j w = Parses f d i j w
  Parses (next f b) d i k w = (j : ℕ) × (u : List ℕ) × (v : List ℕ) × (Parses f d.0 i j u) × (Parses b d.1 j k v) × (w ≡ u ++ v)
  Parses (bare x) d i j w = Parses x d i j w
  Parses (times x f z) d i j w = InTurn (Parses x) d.0 i j w
  Parses (letter c) d i j w = (i < rows.n) × (rows.holds c i ≡ true) × (j ≡ suc i) × (w ≡ c ∷ [])
  Parses caret d i j w = (i ≡ 0) × (j ≡ i) × (w ≡ [])
  Parses dollar d i j w = (i ≡ rows.n) × (j ≡ i) × (w ≡ [])
  Parses empty d i j w = (j ≡ i) × (w ≡ [])
  Parses (group p) d i j w = Parses p d i j w

-- ---- R-3: a round that takes no row ends the repetition

-- the labels of a derivation: its parenthesised string without the special symbols, one label for
-- each row
unfoldable pub word : {k : Rank} → (t : Tree k) → Derivation t → List ℕ
unfolding Derivation flat_map
word (one b) d = word b d
word (more b p) (inl d) = word b d
word (more b p) (inr d) = word p d
word (last f) d = word f d
word (next f b) d = word f d.0 ++ word b d.1
word (bare x) d = word x d
word (times x f z) d = flat_map (λ y. word x y) d.0
word (letter c) d = c ∷ []
word caret d = []
word dollar d = []
word empty d = []
word (group p) d = word p d

-- behind the lo required rounds of an unbounded quantifier a round that takes no row is the last
unfoldable pub empty_ends : {A : Type 0} → (A → List ℕ) → ℕ → List A → Bool
empty_ends f lo [] = true
empty_ends f (suc lo) (d ∷ ds) = empty_ends f lo ds
empty_ends f zero (d ∷ []) = true
empty_ends f zero (d ∷ e ∷ ds) = ltb 0 (length (f d)) && empty_ends f zero (e ∷ ds)

-- a bounded quantifier has no unbounded part
unfoldable pub empty_ends_in : {A : Type 0} → Option ℕ → (A → List ℕ) → ℕ → List A → Bool
unfolding empty_ends
empty_ends_in none f lo ds = empty_ends f lo ds
empty_ends_in (some hi) f lo ds = true

-- d keeps the rule, everywhere in it
unfoldable pub keeps : {k : Rank} → (t : Tree k) → Derivation t → Bool
unfolding Derivation empty_ends_in word every lower upper
keeps (one b) d = keeps b d
keeps (more b p) (inl d) = keeps b d
keeps (more b p) (inr d) = keeps p d
keeps (last f) d = keeps f d
keeps (next f b) d = keeps f d.0 && keeps b d.1
keeps (bare x) d = keeps x d
keeps (times x f z) d = empty_ends_in (upper f) (word x) (lower f) d.0 && every (λ y. keeps x y) d.0
keeps (letter c) d = true
keeps caret d = true
keeps dollar d = true
keeps empty d = true
keeps (group p) d = keeps p d

-- ---- the order

-- `(A|B)+` over two rows at which both letters hold has six derivations. From the most preferred on
-- their labels are AA, AB, A, BA, BB, B: the first round decides first, and of two that begin alike
-- the longer is preferred. For `(A|B)+?` it is the shorter: A, AA, AB, B, BA, BB.

-- 6.2.1, alternation: all of the first branch, in their order, before all of the others, in theirs
unfoldable pub FirstBranch : {A B : Type 0} → (A → A → Type 0) → (B → B → Type 0) → A ⊎ B → A ⊎ B → Type 0
FirstBranch P Q (inl d) (inl e) = P d e
FirstBranch P Q (inl d) (inr e) = Unit {0}
FirstBranch P Q (inr d) (inl e) = ⊥
FirstBranch P Q (inr d) (inr e) = Q d e

-- 6.2.2, concatenation: lexicographic
unfoldable pub Lexicographic : {A B : Type 0} → (A → A → Type 0) → (B → B → Type 0) → A × B → A × B → Type 0
Lexicographic P Q d e = P d.0 e.0 ⊎ ((d.0 ≡ e.0) × Q d.1 e.1)

-- 6.2.3, quantification: round by round first; where one is the beginning of the other, a greedy
-- quantifier (lazy is false) prefers the longer and a reluctant one the shorter
unfoldable pub RoundByRound : {A : Type 0} → Bool → (A → A → Type 0) → List A → List A → Type 0
RoundByRound lazy P [] [] = ⊥
RoundByRound lazy P (d ∷ ds) [] = lazy ≡ false
RoundByRound lazy P [] (e ∷ es) = lazy ≡ true
RoundByRound lazy P (d ∷ ds) (e ∷ es) = P d e ⊎ ((d ≡ e) × RoundByRound lazy P ds es)

-- d is preferred to e
unfoldable pub Prefers : {k : Rank} → (t : Tree k) → Derivation t → Derivation t → Type 0
unfolding Derivation FirstBranch Lexicographic RoundByRound
Prefers (one b) d e = Prefers b d e
Prefers (more b p) d e = FirstBranch (λ x y. Prefers b x y) (λ x y. Prefers p x y) d e
Prefers (last f) d e = Prefers f d e
Prefers (next f b) d e = Lexicographic (Prefers f) (Prefers b) d e
Prefers (bare x) d e = Prefers x d e
Prefers (times x f z) d e = RoundByRound z (Prefers x) d.0 e.0
Prefers (letter c) d e = ⊥
Prefers caret d e = ⊥
Prefers dollar d e = ⊥
Prefers empty d e = ⊥
Prefers (group p) d e = Prefers p d e

-- ---- the match at a start

-- no derivation reads from i on
abbrev pub NoneParses : RowSets → {k : Rank} → Tree k → ℕ → Type 0
NoneParses rows t i = (e : Derivation t) (j : ℕ) (w : List ℕ) → Parses rows t e i j w → ⊥

-- some derivation that keeps R-3's rule reads from i to j with the labels w, and none such that
-- reads from i, to whatever end, is preferred to it
pub record Preferred (rows : RowSets) {k : Rank} (t : Tree k) (i j : ℕ) (w : List ℕ) : Type 0 where
  pub derivation : Derivation t
  pub kept : keeps t derivation ≡ true
  pub parses : Parses rows t derivation i j w
  pub greatest : (e : Derivation t) (j' : ℕ) (w' : List ℕ) → keeps t e ≡ true → Parses rows t e i j' w' → Prefers t e derivation → ⊥

-- ---- the whole report

-- what a report is of: a pattern over a partition, with a skip mode and the room there is;
-- `fits m l w`: a match with the labels w fits behind m matches with l labels
pub record Setting : Type 0 where
  pub tree : Tree pattern
  pub rows : RowSets
  pub skip : Skip
  pub fits : ℕ → ℕ → List ℕ → Bool

abbrev pub setting : Tree pattern → RowSets → Skip → (ℕ → ℕ → List ℕ → Bool) → Setting
setting t rows skip fits = record { tree = t; rows = rows; skip = skip; fits = fits }

-- a match as a report tells it: its start and its labels
abbrev pub Shown : Type 0
Shown = ℕ × List ℕ

-- `Reports s (stand_at i m l) ms end`: from the start i on, behind m matches with l labels, the
-- matches written are ms, and `end` tells how it ends.
pub data Reports (s : Setting) : Standing → List Shown → End Shown → Type 0 where
  -- no row is left to start at: done
  finished : {i m l : ℕ} → s.rows.n ≤ i → Reports s (stand_at i m l) [] done
  -- no match at the start: the next start is one row on
  unmatched : {i m l : ℕ} {ms : List Shown} {end : End Shown} → i < s.rows.n → NoneParses s.rows s.tree i → Reports s (stand_at (suc i) m l) ms end → Reports s (stand_at i m l) ms end
  -- a match that fits is written, and the skip mode names the next start
  matched : {i j k m l : ℕ} {w : List ℕ} {ms : List Shown} {end : End Shown} → i < s.rows.n → Preferred s.rows s.tree i j w → s.fits m l w ≡ true
      → next_start s.skip i j w ≡ some k → Reports s (stand_at k (suc m) (l + length w)) ms end → Reports s (stand_at i m l) ((i, w) ∷ ms) end
  -- a match that fits is written, and names no next start: there it ends
  lost : {i j m l : ℕ} {w : List ℕ} → i < s.rows.n → Preferred s.rows s.tree i j w → s.fits m l w ≡ true → next_start s.skip i j w ≡ none → Reports s (stand_at i m l) ((i, w) ∷ []) stuck
  -- a match that does not fit is not written: there it ends
  stopped : {i j m l : ℕ} {w : List ℕ} → i < s.rows.n → Preferred s.rows s.tree i j w → s.fits m l w ≡ false → Reports s (stand_at i m l) [] (full (i, w))

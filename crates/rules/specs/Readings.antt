-- Rules: document 01, "Places and preferment", its second paragraph: "some reading exists". The
-- readings of a tree over sets of rows (for each letter the rows at which it holds), without order,
-- place or search.
use Rattle.std.specs.Prelude.{◌≡◌, Bool, true, ◌⊎◌}
use mathlib.Core.List.{List, [], ◌∷◌, ◌++◌}
use Rattle.std.proofs.Math.Option.{Option, none, some}
use Prim.Native.Nat.{ℕ, zero, suc, ◌≤◌, ◌<◌}
use Rattle.rules.specs.Language.{lower, upper, Rank, Tree, one, more, last, next, bare, times, letter, caret, dollar, empty, group}

-- c is at most the upper bound, if there is one
abbrev pub Within : ℕ → Option ℕ → Type 0
Within c none = Unit {0}
Within c (some hi) = c ≤ hi

-- c rounds, one behind the other, of what R says of one round: from which row, to which, and with
-- which labels
module _ (R : ℕ → ℕ → List ℕ → Type 0) where
  unfoldable pub Rounds : ℕ → ℕ → ℕ → List ℕ → Type 0
  Rounds zero i j w = (j ≡ i) × (w ≡ [])
  Rounds (suc c) i k w = (j : ℕ) × (u : List ℕ) × (v : List ℕ) × (R i j u) × (Rounds c j k v) × (w ≡ u ++ v)

-- The sets of rows: of n rows, those at which letter c holds are the rows i with `holds c i`. A
-- pattern sees nothing else of them.
pub record RowSets : Type 0 where
  pub n : ℕ
  pub holds : ℕ → ℕ → Bool

abbrev pub row_sets : ℕ → (ℕ → ℕ → Bool) → RowSets
row_sets n holds = record { n = n; holds = holds }

module _ (rows : RowSets) where
  -- a tree reads the rows i to j, not j itself, with the labels w
  unfoldable pub Reads : {k : Rank} → Tree k → ℕ → ℕ → List ℕ → Type 0
  unfolding Rounds lower upper
  Reads (one b) i j w = Reads b i j w
  Reads (more b p) i j w = Reads b i j w ⊎ Reads p i j w
  Reads (last f) i j w = Reads f i j w
  Reads (next f b) i k w = (j : ℕ) × (u : List ℕ) × (v : List ℕ) × (Reads f i j u) × (Reads b j k v) × (w ≡ u ++ v)
  Reads (bare x) i j w = Reads x i j w
  Reads (times x f z) i j w = (c : ℕ) × (lower f ≤ c) × (Within c (upper f)) × (Rounds (λ i j w. Reads x i j w) c i j w)
  Reads (letter c) i j w = (i < rows.n) × (rows.holds c i ≡ true) × (j ≡ suc i) × (w ≡ c ∷ [])
  Reads caret i j w = (i ≡ 0) × (j ≡ i) × (w ≡ [])
  Reads dollar i j w = (i ≡ rows.n) × (j ≡ i) × (w ≡ [])
  Reads empty i j w = (j ≡ i) × (w ≡ [])
  Reads (group p) i j w = Reads p i j w

  -- some reading of the tree exists at the start i
  abbrev pub SomeReading : {k : Rank} → Tree k → ℕ → Type 0
  SomeReading t i = (j : ℕ) × (w : List ℕ) × Reads t i j w

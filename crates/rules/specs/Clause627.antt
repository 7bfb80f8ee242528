-- No rule. ISO/IEC 19075-5, clause 6.2.7, on rounds that take no row: the derivations that it leaves
-- in the parenthesised language. Document 01 leaves none out in bounded quantifiers, and R-3 says
-- what it leaves out in unbounded ones; these decide, and no rule uses this file. It is here to say
-- where the two agree (crates/laws, EmptyRounds) and where they do not (crates/laws, Differs).
use Rattle.std.specs.Prelude.{◌≡◌, List, [], ◌∷◌, Bool, true, not, ◌&&◌, ◌||◌, ℕ, ◌-◌, length, ltb, leb, eqb}
use Rattle.std.proofs.Common.{inl, inr}
use Rattle.std.proofs.Math.Option.{Option, none, some}
use Rattle.rules.specs.Basics.{every}
use Rattle.rules.specs.Language.{lower, upper, Rank, Tree, one, more, last, next, bare, times, letter, caret, dollar, empty, group, nullable}
use Rattle.rules.specs.Readings.{RowSets}
use Rattle.rules.specs.Preferment.{Derivation, Parses, Prefers, word}

-- A round that takes no row is left in the language only as the last round, or at one of the
-- positions 1 to lo - 1 of a quantifier with lower bound lo: so the first round, where another
-- follows, takes a row or stands at such a position; the same holds of the rounds behind it, whose
-- positions count one less.
unfoldable pub empty_late : {A : Type 0} → (A → List ℕ) → ℕ → List A → Bool
empty_late f lo [] = true
empty_late f lo (d ∷ []) = true
empty_late f lo (d ∷ e ∷ ds) = (leb 2 lo || ltb 0 (length (f d))) && empty_late f (lo - 1) (e ∷ ds)

-- clause 6.2.7 leaves d in the language
unfoldable pub allowed : {k : Rank} → (t : Tree k) → Derivation t → Bool
unfolding Derivation empty_late word every lower
allowed (one b) d = allowed b d
allowed (more b p) (inl d) = allowed b d
allowed (more b p) (inr d) = allowed p d
allowed (last f) d = allowed f d
allowed (next f b) d = allowed f d.0 && allowed b d.1
allowed (bare x) d = allowed x d
allowed (times x f z) d = empty_late (word x) (lower f) d.0 && every (λ y. allowed x y) d.0
allowed (letter c) d = true
allowed caret d = true
allowed dollar d = true
allowed empty d = true
allowed (group p) d = allowed p d

-- the match that the clause prefers: as `Preferred`, among the derivations that it leaves in the
-- language
pub record Preferred627 (rows : RowSets) {k : Rank} (t : Tree k) (i j : ℕ) (w : List ℕ) : Type 0 where
  pub derivation : Derivation t
  pub kept : allowed t derivation ≡ true
  pub parses : Parses rows t derivation i j w
  pub greatest : (e : Derivation t) (j' : ℕ) (w' : List ℕ) → allowed t e ≡ true → Parses rows t e i j' w' → Prefers t e derivation → ⊥

-- The clause and R-3 leave the same rounds of a body that can take no row: a bounded quantifier
-- over it allows no optional round behind another round, as its upper bound is at most its lower
-- bound, or at most 1; an unbounded one has lower bound 0, so that for both a round that takes no
-- row is the last. The law `same-language` (crates/laws, EmptyRounds) says that they leave the same
-- derivations then.
unfoldable pub same_rounds : ℕ → Option ℕ → Bool
same_rounds lo none = eqb lo 0
same_rounds lo (some hi) = leb hi lo || leb hi 1

unfoldable pub like_clause : {k : Rank} → Tree k → Bool
unfolding nullable same_rounds lower upper
like_clause (one b) = like_clause b
like_clause (more b p) = like_clause b && like_clause p
like_clause (last f) = like_clause f
like_clause (next f b) = like_clause f && like_clause b
like_clause (bare x) = like_clause x
like_clause (times x f z) = (not (nullable x) || same_rounds (lower f) (upper f)) && like_clause x
like_clause (letter c) = true
like_clause caret = true
like_clause dollar = true
like_clause empty = true
like_clause (group p) = like_clause p

-- One law for each way through the two functions.
use mathlib.Core.Path.{◌≡◌}
use mathlib.Core.Bool.{true, false}
use Prim.Native.Nat.{ℕ, ◌+◌, ◌/◌, ◌%◌, ◌≤◌, ◌<◌}
use borrow.Author.Tests.{lt-ltb, le-ltb, ne_eqb, eq-eqb}
use Rattle.rules.specs.Report.{bytes_for}
use Rattle.sizes.specs.Sizes.{bad_count, short_for}

module _ (entries columns : ℕ) where
  pub not_whole : (entries % columns ≡ 0 → ⊥) → bad_count entries columns ≡ true
  unfolding bad_count
  not_whole d = rw (ne_eqb (entries % columns) 0 d)

  pub too_many : entries % columns ≡ 0 → 4096 < entries / columns → bad_count entries columns ≡ true
  unfolding bad_count
  too_many e h = rw (eq-eqb (entries % columns) 0 e, lt-ltb 4096 (entries / columns) h)

  pub good : entries % columns ≡ 0 → entries / columns ≤ 4096 → bad_count entries columns ≡ false
  unfolding bad_count
  good e h = rw (eq-eqb (entries % columns) 0 e, le-ltb 4096 (entries / columns) h)

module _ (pairs notes trail : ℕ) where
  pub notes_short : notes < (pairs + 7) / 8 → short_for pairs notes trail ≡ 11
  unfolding short_for bytes_for
  notes_short h = rw (lt-ltb notes ((pairs + 7) / 8) h)

  pub trail_short : (pairs + 7) / 8 ≤ notes → trail < pairs → short_for pairs notes trail ≡ 12
  unfolding short_for bytes_for
  trail_short g h = rw (le-ltb notes ((pairs + 7) / 8) g, lt-ltb trail pairs h)

  pub both_long : (pairs + 7) / 8 ≤ notes → pairs ≤ trail → short_for pairs notes trail ≡ 0
  unfolding short_for bytes_for
  both_long g h = rw (le-ltb notes ((pairs + 7) / 8) g, le-ltb trail pairs h)

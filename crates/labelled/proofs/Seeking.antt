-- The rows of a measure over all rows of a match need no counting; those of a letter are counted one
-- by one.
use Rattle.std.proofs.Common.{◌≡◌, ℕ, ◌+◌, ◌-◌, ◌<◌, true, false, List, [], ◌∷◌, length, take, drop, get_or, refl, sym, ap, ◌∙◌, arith}
use Rattle.std.proofs.lemmas.List.{length-drop, take_all}
use Rattle.std.proofs.lemmas.List.Sums.{count_by_more_yes, count_by_more_no}
use Rattle.std.proofs.lemmas.Grind.{common_steps}
use Rattle.labelled.specs.Labelled.{is_of, count_of}

every_counted : (letter : ℕ) (ls : List ℕ) → letter ≡ 0 → length ls ≡ count_of letter ls
every_counted letter [] e = refl
every_counted letter (l ∷ ls) e = grind (arith, common_steps, every_counted letter ls e)

-- over all rows there is nothing to count
pub all_counted : (letter : ℕ) (ls : List ℕ) (at : ℕ) → letter ≡ 0 → length ls - at ≡ count_of letter (drop at ls)
all_counted letter ls at e = sym (length-drop at ls) ∙ every_counted letter (drop at ls) e

-- the rows counted so far are those of the front: one more where the next is of the letter
module _ (letter : ℕ) (ls : List ℕ) (i : ℕ) where
  pub next_counted : i < length ls → is_of letter (get_or ls i 0) ≡ true → count_of letter (take (i + 1) ls) ≡ count_of letter (take i ls) + 1
  next_counted l e = count_by_more_yes (is_of letter) ls i 0 l e

  pub next_passed : i < length ls → is_of letter (get_or ls i 0) ≡ false → count_of letter (take (i + 1) ls) ≡ count_of letter (take i ls)
  next_passed l e = count_by_more_no (is_of letter) ls i 0 l e

-- at the end all are
pub whole_counted : (letter : ℕ) (ls : List ℕ) → count_of letter (take (length ls) ls) ≡ count_of letter ls
whole_counted letter ls = ap (count_of letter) (take_all (length ls) ls (omega arith))

-- The letters of a tree are A to Z: as `unroll` asks for it, by a test of the list of its letters,
-- and as the rules say it of the tree. Each follows from the other.
use mathlib.Core.Path.{◌≡◌, refl}
use mathlib.Core.Bool.{Bool, true, false, ◌&&◌, false≢true}
use mathlib.Core.List.{List, [], ◌∷◌, ◌++◌}
use Prim.Native.Nat.{ℕ}
use lib.Dec.{leb}
use borrow.Author.Tests.{leb-true, le-leb}
use Rattle.rules.specs.Basics.{in_range, is_letter, every}
use Rattle.rules.specs.Language.{Rank, Tree, one, more, last, next, bare, times, letter, caret, dollar, empty, group, letters}
use Rattle.laws.proofs.Bounds.{Lettered}

both : (a b : Bool) → (a && b) ≡ true → (a ≡ true) × (b ≡ true)
both true b e = (refl, e)
both false b e = absurd (false≢true e)

and_both : (a b : Bool) → a ≡ true → b ≡ true → (a && b) ≡ true
and_both a b e f = rw (e, f)

every-left : (f : ℕ → Bool) (xs ys : List ℕ) → every f (xs ++ ys) ≡ true → (every f xs ≡ true) × (every f ys ≡ true)
unfolding every
every-left f [] ys e = (refl, e)
every-left f (x ∷ xs) ys e =
    let h = both (f x) (every f (xs ++ ys)) e in
    let i = every-left f xs ys h.1 in
    (and_both (f x) (every f xs) h.0 i.0, i.1)

every_two : (f : ℕ → Bool) (xs ys : List ℕ) → every f xs ≡ true → every f ys ≡ true → every f (xs ++ ys) ≡ true
unfolding every
every_two f [] ys e g = g
every_two f (x ∷ xs) ys e g =
    let h = both (f x) (every f xs) e in and_both (f x) (every f (xs ++ ys)) h.0 (every_two f xs ys h.1 g)

pub lettered : {k : Rank} (t : Tree k) → every is_letter (letters t) ≡ true → Lettered t
unfolding Lettered letters every is_letter in_range
lettered (one b) e = lettered b e
lettered (more b p) e = let h = every-left is_letter (letters b) (letters p) e in (lettered b h.0, lettered p h.1)
lettered (last f) e = lettered f e
lettered (next f b) e = let h = every-left is_letter (letters f) (letters b) e in (lettered f h.0, lettered b h.1)
lettered (bare x) e = lettered x e
lettered (times x f z) e = lettered x e
lettered (letter c) e =
    let h = both (leb 65 c) (leb c 90) (both (leb 65 c && leb c 90) true e).0 in (leb-true 65 c h.0, leb-true c 90 h.1)
lettered caret e = tt
lettered dollar e = tt
lettered empty e = tt
lettered (group p) e = lettered p e

pub all_letters : {k : Rank} (t : Tree k) → Lettered t → every is_letter (letters t) ≡ true
unfolding Lettered letters every is_letter in_range
all_letters (one b) l = all_letters b l
all_letters (more b p) l = every_two is_letter (letters b) (letters p) (all_letters b l.0) (all_letters p l.1)
all_letters (last f) l = all_letters f l
all_letters (next f b) l = every_two is_letter (letters f) (letters b) (all_letters f l.0) (all_letters b l.1)
all_letters (bare x) l = all_letters x l
all_letters (times x f z) l = all_letters x l
all_letters (letter c) l = rw (le-leb 65 c l.0, le-leb c 90 l.1)
all_letters caret l = refl
all_letters dollar l = refl
all_letters empty l = refl
all_letters (group p) l = all_letters p l

-- Laws of `first_of` of specs/Answers: how the answer of the first test that is true, or 0, depends
-- on the front of the list, on the rest and on each test. The tests of the front all stand for
-- refusals.
use mathlib.Core.Path.{◌≡◌, refl, sym, ap, ◌∙◌}
use mathlib.Core.Bool.{Bool, true, false, ◌&&◌, ◌||◌, true≢false, and-eq-true_iff}
use mathlib.Core.List.{List, [], ◌∷◌, ◌++◌}
use Prim.Native.Nat.{ℕ, zero, suc}
use lib.Dec.{eqb}
use lib.ListN.{get_or}
use borrow.Author.Tests.{eq-eqb}
use Rattle.rules.specs.Basics.{every}
use Rattle.rules.specs.Walk.{out_of_steps, out_of_rows}
use Rattle.rules.specs.Search.{Match, End, done, full, stuck, unfinished}
use Rattle.rules.specs.Answers.{Test, first_of, halt_answer, end_answer, refuses}

-- the answers of a search's end refuse nothing
pub end-accepted : (e : End Match) → refuses (end_answer e) ≡ false
unfolding refuses end_answer halt_answer
end-accepted done = refl
end-accepted (full m) = refl
end-accepted stuck = refl
end-accepted (unfinished out_of_steps i p) = refl
end-accepted (unfinished out_of_rows i p) = refl

-- every test of the list stands for a refusal
unfoldable pub all_refuse : List Test → Bool
unfolding every refuses
all_refuse ts = every (λ (t : Test). refuses t.0) ts

refuses-some : (n : ℕ) → refuses n ≡ true → n ≡ 0 → ⊥
unfolding refuses
refuses-some n r e = true≢false (sym r ∙ ap refuses e)

-- a number that is given refuses
pub first-refuses : (ts : List Test) → all_refuse ts ≡ true → (first_of ts ≡ 0 → ⊥) → refuses (first_of ts) ≡ true
unfolding first_of all_refuse every
first-refuses [] a d = absurd (d refl)
first-refuses ((n, true) ∷ ts) a d = ((and-eq-true_iff (refuses n) (all_refuse ts)).0 a).0
first-refuses ((n, false) ∷ ts) a d = first-refuses ts ((and-eq-true_iff (refuses n) (all_refuse ts)).0 a).1 d

-- a test for this answer is true
unfoldable pub applies : ℕ → List Test → Bool
applies n [] = false
applies n (t ∷ ts) = (eqb t.0 n && t.1) || applies n ts

-- so it is of the answer given
pub given-applies : (ts : List Test) (n : ℕ) → (n ≡ 0 → ⊥) → first_of ts ≡ n → applies n ts ≡ true
unfolding first_of applies
given-applies [] n d e = absurd (d (sym e))
given-applies ((m, true) ∷ ts) n d e = rw (eq-eqb m n e) refl
given-applies ((m, false) ∷ ts) n d e = go (eqb m n) (given-applies ts n d e)
  where
    go : (t : Bool) → applies n ts ≡ true → ((t && false) || applies n ts) ≡ true
    go true h = h
    go false h = h

-- where a test of the front is true, the rest does not matter
pub first-before : (ts us : List Test) → (first_of ts ≡ 0 → ⊥) → first_of (ts ++ us) ≡ first_of ts
unfolding first_of
first-before [] us d = absurd (d refl)
first-before ((n, true) ∷ ts) us d = refl
first-before ((n, false) ∷ ts) us d = first-before ts us d

-- where none of the front is true, the rest decides
pub first-after : (ts us : List Test) → all_refuse ts ≡ true → first_of ts ≡ 0 → first_of (ts ++ us) ≡ first_of us
unfolding first_of all_refuse every
first-after [] us a e = refl
first-after ((n, true) ∷ ts) us a e = absurd (refuses-some n ((and-eq-true_iff (refuses n) (all_refuse ts)).0 a).0 e)
first-after ((n, false) ∷ ts) us a e = first-after ts us ((and-eq-true_iff (refuses n) (all_refuse ts)).0 a).1 e

-- where the number of the whole does not refuse, none of the front is true
pub none_before : (ts us : List Test) → all_refuse ts ≡ true → refuses (first_of (ts ++ us)) ≡ false → first_of ts ≡ 0
unfolding first_of all_refuse every
none_before [] us a d = refl
none_before ((n, true) ∷ ts) us a d = absurd (true≢false (sym ((and-eq-true_iff (refuses n) (all_refuse ts)).0 a).0 ∙ d))
none_before ((n, false) ∷ ts) us a d = none_before ts us ((and-eq-true_iff (refuses n) (all_refuse ts)).0 a).1 d

-- where the number is 0, no test is true
pub none_true : (ts : List Test) → all_refuse ts ≡ true → first_of ts ≡ 0 → (i : ℕ) → (get_or ts i (0, false)).1 ≡ false
unfolding first_of all_refuse every
none_true [] a e i = refl
none_true ((n, true) ∷ ts) a e i = absurd (refuses-some n ((and-eq-true_iff (refuses n) (all_refuse ts)).0 a).0 e)
none_true ((n, false) ∷ ts) a e zero = refl
none_true ((n, false) ∷ ts) a e (suc i) = none_true ts ((and-eq-true_iff (refuses n) (all_refuse ts)).0 a).1 e i

-- where some test is true, the last may be true more often
pub first-wider : (ts : List Test) (n : ℕ) (a b : Bool) → (first_of (ts ++ ((n, b) ∷ [])) ≡ 0 → ⊥) → first_of (ts ++ ((n, a || b) ∷ [])) ≡ first_of (ts ++ ((n, b) ∷ []))
unfolding first_of
first-wider [] n true true d = refl
first-wider [] n false b d = refl
first-wider [] n true false d = absurd (d refl)
first-wider ((m, true) ∷ ts) n a b d = refl
first-wider ((m, false) ∷ ts) n a b d = first-wider ts n a b d

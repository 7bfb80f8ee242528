-- Laws of the transfer: what the loops keep from call to call. a, b and c are what a reader has
-- left, or what a writer holds: at the start, before a call and after it.
use Rattle.std.proofs.Common.{◌≡◌, ℕ, ◌+◌, ◌-◌, ◌≤◌, List, ◌++◌, take, drop, sym, ap, subst, ◌∙◌, arith}
use Rattle.std.proofs.Math.Seq.{take-add}
use Rattle.std.proofs.KnownBytes.{Appends-trans, Consumes-trans}
use Rattle.std.specs.Prelude.{Option}
use Rattle.std.specs.Io.KnownBytes.{Appends, Consumes}

-- the front up to the next place: the front up to this one, and what lies between
take_on : (at at' : ℕ) (xs : List ℕ) → at ≤ at' → take at' xs ≡ take at xs ++ take (at' - at) (drop at xs)
take_on at at' xs h =
    let e : at' ≡ at + (at' - at) = omega arith in
    ap (λ n. take n xs) e ∙ take-add at (at' - at) xs

-- a call read into the buffer from `at` on, and left what stood before
pub read_on : (a b c : Option (List ℕ)) (before after : List ℕ) (at at' : ℕ) → at ≤ at' → take at after ≡ take at before
    → Consumes a b (take at before) → Consumes b c (take (at' - at) (drop at after)) → Consumes a c (take at' after)
read_on a b c before after at at' h same first second =
    let all : take at' after ≡ take at before ++ take (at' - at) (drop at after) =
    take_on at at' after h ∙ ap (λ l. l ++ take (at' - at) (drop at after)) same in
    subst (Consumes a c) (sym all) (Consumes-trans a b c _ _ first second)

-- a call wrote the text from `at` on
pub written_on : (a b c : Option (List ℕ)) (text : List ℕ) (at at' : ℕ) → at ≤ at'
    → Appends a b (take at text) → Appends b c (take (at' - at) (drop at text)) → Appends a c (take at' text)
written_on a b c text at at' h first second =
    subst (Appends a c) (sym (take_on at at' text h)) (Appends-trans a b c _ _ first second)

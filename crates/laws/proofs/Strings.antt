-- The strings of clause 6.2 (`text` of proofs/Clause62) tell derivations apart: no two derivations
-- of a phrase have the same one (`text-own`), as the clause says of its parenthesised language.
use mathlib.Core.Path.{◌≡◌, refl, ap, ap₂, sym, ◌∙◌}
use mathlib.Core.List.{List, [], ◌∷◌, ◌++◌, append_assoc, flat_map, tail-eq_of_cons-eq}
use mathlib.Core.Bool.{Bool, true, false}
use mathlib.Core.Logic.{inl, inr}
use mathlib.Core.HLevel.{×_prop, Σ_prop_path}
use Prim.Native.Nat.{ℕ}
use native.Mathlib.Bridge.{le_prop}
use native.Mathlib.Omega.{arith}
use lib.ListN.{length}
use Rattle.rules.specs.Language.{upper, Rank, Tree, one, more, last, next, bare, times, letter, caret, dollar, empty, group}
use Rattle.rules.specs.Preferment.{Derivation}
use Rattle.laws.proofs.Clause62.{Symbol, left, right, dash, at_start, at_end, name, text}
use Rattle.laws.proofs.PrefermentOrder.{within-prop}

-- a symbol that can begin a string
abbrev opens : Symbol → Bool
opens left = true
opens right = false
opens dash = false
opens at_start = true
opens at_end = true
opens (name c) = true

abbrev begins : List Symbol → Bool
begins [] = false
begins (s ∷ ss) = opens s

text-begins : {k : Rank} (t : Tree k) (d : Derivation t) (xs : List Symbol) → begins (text t d ++ xs) ≡ true
unfolding Derivation text
text-begins (one b) d xs = text-begins b d xs
text-begins (more b p) (inl d) xs = refl
text-begins (more b p) (inr d) xs = refl
text-begins (last f) d xs = text-begins f d xs
text-begins (next f b) d xs = refl
text-begins (bare x) d xs = text-begins x d xs
text-begins (times x f z) d xs = refl
text-begins (letter c) d xs = refl
text-begins caret d xs = refl
text-begins dollar d xs = refl
text-begins empty d xs = refl
text-begins (group p) d xs = text-begins p d xs

-- what begins otherwise is no string
text-not : {k : Rank} (t : Tree k) (d : Derivation t) (xs : List Symbol) (s : Symbol) (ys : List Symbol) → opens s ≡ false → text t d ++ xs ≡ s ∷ ys → ⊥
text-not t d xs s ys h e =
    let a : begins (text t d ++ xs) ≡ opens s = ap (λ (l : List Symbol). begins l) e in
    let z : ◌≡◌ {A = ℕ} 0 1 = cc (text-begins t d xs) in
    omega arith

module _ {A : Type 0} (f : A → List Symbol) (own : (d e : A) (xs ys : List Symbol) → f d ++ xs ≡ f e ++ ys → (d ≡ e) × (xs ≡ ys))
    (not : (d : A) (xs ys : List Symbol) → f d ++ xs ≡ right ∷ ys → ⊥) where
  rounds_own : (ds es : List A) (xs ys : List Symbol) → flat_map f ds ++ (right ∷ xs) ≡ flat_map f es ++ (right ∷ ys) → (ds ≡ es) × (xs ≡ ys)
  unfolding flat_map
  rounds_own [] [] xs ys h = (refl, tail-eq_of_cons-eq h)
  rounds_own [] (e ∷ es) xs ys h = absurd (not e (flat_map f es ++ (right ∷ ys)) xs (sym (append_assoc (f e) (flat_map f es) (right ∷ ys)) ∙ sym h))
  rounds_own (d ∷ ds) [] xs ys h = absurd (not d (flat_map f ds ++ (right ∷ xs)) ys (sym (append_assoc (f d) (flat_map f ds) (right ∷ xs)) ∙ h))
  rounds_own (d ∷ ds) (e ∷ es) xs ys h =
      let p = own d e (flat_map f ds ++ (right ∷ xs)) (flat_map f es ++ (right ∷ ys))
      (sym (append_assoc (f d) (flat_map f ds) (right ∷ xs)) ∙ h ∙ append_assoc (f e) (flat_map f es) (right ∷ ys)) in
      let q = rounds_own ds es xs ys p.1 in
      (ap₂ (λ (x : A) (l : List A). x ∷ l) p.0 q.0, q.1)

-- behind a part, what is closed
closed : (a b xs : List Symbol) → (a ++ (b ++ (right ∷ []))) ++ xs ≡ a ++ (b ++ (right ∷ xs))
closed a b xs = append_assoc a (b ++ (right ∷ [])) xs ∙ ap (λ (l : List Symbol). a ++ l) (append_assoc b (right ∷ []) xs)

own : {k : Rank} (t : Tree k) (d e : Derivation t) (xs ys : List Symbol) → text t d ++ xs ≡ text t e ++ ys → (d ≡ e) × (xs ≡ ys)
unfolding Derivation text
own (one b) d e xs ys h = own b d e xs ys h
own (more b p) (inl d) (inl e) xs ys h =
    let q = own b d e (dash ∷ right ∷ xs) (dash ∷ right ∷ ys)
    (sym (append_assoc (text b d) (dash ∷ right ∷ []) xs) ∙ tail-eq_of_cons-eq h ∙ append_assoc (text b e) (dash ∷ right ∷ []) ys) in
    (ap (λ (x : Derivation b). inl x) q.0, tail-eq_of_cons-eq (tail-eq_of_cons-eq q.1))
own (more b p) (inl d) (inr e) xs ys h =
    absurd (text-not b d (dash ∷ right ∷ xs) dash ((text p e ++ (right ∷ [])) ++ ys) refl (sym (append_assoc (text b d) (dash ∷ right ∷ []) xs) ∙ tail-eq_of_cons-eq h))
own (more b p) (inr d) (inl e) xs ys h =
    absurd (text-not b e (dash ∷ right ∷ ys) dash ((text p d ++ (right ∷ [])) ++ xs) refl (sym (append_assoc (text b e) (dash ∷ right ∷ []) ys) ∙ sym (tail-eq_of_cons-eq h)))
own (more b p) (inr d) (inr e) xs ys h =
    let q = own p d e (right ∷ xs) (right ∷ ys) (sym (append_assoc (text p d) (right ∷ []) xs) ∙ tail-eq_of_cons-eq (tail-eq_of_cons-eq h) ∙ append_assoc (text p e) (right ∷ []) ys) in
    (ap (λ (x : Derivation p). inr x) q.0, tail-eq_of_cons-eq q.1)
own (last f) d e xs ys h = own f d e xs ys h
own (next f b) d e xs ys h =
    let h₁ : text f d.0 ++ (text b d.1 ++ (right ∷ xs)) ≡ text f e.0 ++ (text b e.1 ++ (right ∷ ys)) =
    sym (closed (text f d.0) (text b d.1) xs) ∙ tail-eq_of_cons-eq h ∙ closed (text f e.0) (text b e.1) ys in
    let p = own f d.0 e.0 (text b d.1 ++ (right ∷ xs)) (text b e.1 ++ (right ∷ ys)) h₁ in
    let q = own b d.1 e.1 (right ∷ xs) (right ∷ ys) p.1 in
    (λ i. (p.0 i, q.0 i), tail-eq_of_cons-eq q.1)
own (bare x) d e xs ys h = own x d e xs ys h
own (times x f z) d e xs ys h =
    let s : List (Derivation x) → List Symbol = flat_map (λ y. text x y) in
    let h₁ : s d.0 ++ (right ∷ xs) ≡ s e.0 ++ (right ∷ ys) = sym (append_assoc (s d.0) (right ∷ []) xs) ∙ tail-eq_of_cons-eq h ∙ append_assoc (s e.0) (right ∷ []) ys in
    let p = rounds_own (λ y. text x y) (λ d e xs ys h. own x d e xs ys h) (λ d xs ys h. text-not x d xs right ys refl h) d.0 e.0 xs ys h₁ in
    (Σ_prop_path (λ ds. ×_prop le_prop (within-prop (length ds) (upper f))) p.0, p.1)
own (letter c) d e xs ys h = (refl, tail-eq_of_cons-eq h)
own caret d e xs ys h = (refl, tail-eq_of_cons-eq h)
own dollar d e xs ys h = (refl, tail-eq_of_cons-eq h)
own empty d e xs ys h = (refl, tail-eq_of_cons-eq (tail-eq_of_cons-eq h))
own (group p) d e xs ys h = own p d e xs ys h

pub text-own : {k : Rank} (t : Tree k) (d e : Derivation t) → text t d ≡ text t e → d ≡ e
text-own t d e h = (own t d e [] [] (ap (λ (l : List Symbol). l ++ []) h)).0

-- What holds of every tree that is written in a text: its quantifiers' bounds are in order
-- (`written-bounds`), its letters are A to Z (`written-letters`), and they are the letters among
-- the text's bytes (`letters-exactly`, `letters-of_text`), so that whoever asks whether a letter
-- stands in the pattern may look for it in the text.
use mathlib.Core.Path.{◌≡◌, refl, sym, ap, ◌∙◌}
use mathlib.Core.Bool.{Bool, true, false, ◌&&◌, ◌||◌, or_assoc, or-false, true≢false}
use mathlib.Core.List.{List, [], ◌∷◌, ◌++◌}
use Prim.Native.Nat.{ℕ, zero, suc, ◌+◌, ◌/◌, ◌%◌, ◌≤◌}
use native.Mathlib.Omega.{arith}
use lib.Dec.{eqb, ltb}
use borrow.Author.Tests.{ltb-true, ne_eqb}
use Rattle.rules.specs.Basics.{pick, is_letter, has}
use Rattle.rules.specs.Language.{Form, star, plus, opt, exactly, at_least, at_most, between, lower, upper, InBounds, Rank, pattern, Tree, one, more, last, next, bare, times, letter, caret, dollar, empty, group, Token, a_letter, a_caret, a_dollar, opening, closing, a_bar, a_mark, tokens, digits, mark, spell, Proper, spaces, Laid, Written, letters}
use Rattle.rules.specs.Readings.{Within}
use Rattle.laws.proofs.GrammarSound.{in_letters, letter-in}

-- every quantifier of the tree has its bounds in order
unfoldable pub Bounds : {k : Rank} → Tree k → Type 0
unfolding InBounds
Bounds (one b) = Bounds b
Bounds (more b p) = Bounds b × Bounds p
Bounds (last f) = Bounds f
Bounds (next f b) = Bounds f × Bounds b
Bounds (bare x) = Bounds x
Bounds (times x f z) = InBounds f × Bounds x
Bounds (letter c) = Unit {0}
Bounds caret = Unit {0}
Bounds dollar = Unit {0}
Bounds empty = Unit {0}
Bounds (group p) = Bounds p

-- every letter of the tree is A (65) to Z (90)
unfoldable pub Lettered : {k : Rank} → Tree k → Type 0
Lettered (one b) = Lettered b
Lettered (more b p) = Lettered b × Lettered p
Lettered (last f) = Lettered f
Lettered (next f b) = Lettered f × Lettered b
Lettered (bare x) = Lettered x
Lettered (times x f z) = Lettered x
Lettered (letter c) = (65 ≤ c) × (c ≤ 90)
Lettered caret = Unit {0}
Lettered dollar = Unit {0}
Lettered empty = Unit {0}
Lettered (group p) = Lettered p

-- the lower bound is at most the upper, if there is one
pub in_order : (f : Form) → InBounds f → Within (lower f) (upper f)
unfolding InBounds lower upper
in_order star h = tt
in_order plus h = tt
in_order opt h = omega arith
in_order (exactly n) h = omega arith
in_order (at_least n) h = tt
in_order (at_most m) h = omega arith
in_order (between n m) h = h.1

-- ---- tokens that are laid are proper

unfoldable AllProper : List Token → Type 0
unfolding Proper
AllProper [] = Unit {0}
AllProper (t ∷ ts) = Proper t × AllProper ts

all_proper : (ts : List Token) (s : List ℕ) → Laid ts s → AllProper ts
unfolding Laid AllProper
all_proper [] s h = tt
all_proper (t ∷ ts) s h = (h.3, all_proper ts h.1 h.5)

-- so what a tree's tokens hold the tree holds
in_tree : {k : Rank} (x : Tree k) (ts : List Token) → AllProper (tokens x ts) → (Bounds x) × (Lettered x) × (AllProper ts)
unfolding AllProper tokens Bounds Lettered
in_tree (one b) ts h = in_tree b ts h
in_tree (more b p) ts h =
    let i = in_tree b (a_bar ∷ tokens p ts) h in
    let j = in_tree p ts i.2.1 in
    ((i.0, j.0), (i.1, j.1), j.2)
in_tree (last f) ts h = in_tree f ts h
in_tree (next f b) ts h =
    let i = in_tree f (tokens b ts) h in
    let j = in_tree b ts i.2 in
    ((i.0, j.0), (i.1, j.1), j.2)
in_tree (bare x) ts h = in_tree x ts h
in_tree (times x f z) ts h = let i = in_tree x (a_mark f z ∷ ts) h in ((i.2.0, i.0), i.1, i.2.1)
in_tree (letter c) ts h = (tt, h.0, h.1)
in_tree caret ts h = (tt, tt, h.1)
in_tree dollar ts h = (tt, tt, h.1)
in_tree empty ts h = (tt, tt, h.1.1)
in_tree (group p) ts h = let i = in_tree p (closing ∷ ts) h.1 in (i.0, i.1, i.2.1)

pub written-bounds : {p : Tree pattern} {text : List ℕ} → Written p text → Bounds p
written-bounds {p} w = (in_tree p [] (all_proper (tokens p []) w.rest w.laid)).0

pub written-letters : {p : Tree pattern} {text : List ℕ} → Written p text → Lettered p
written-letters {p} w = (in_tree p [] (all_proper (tokens p []) w.rest w.laid)).1

-- ---- the letters of a tree, of its tokens and of its text

pub has-append : (c : ℕ) (s t : List ℕ) → has c (s ++ t) ≡ (has c s || has c t)
unfolding has
has-append c [] t = refl
has-append c (b ∷ s) t = ap (λ (x : Bool). eqb b c || x) (has-append c s t) ∙ sym (or_assoc (eqb b c) (has c s) (has c t))

-- c is the letter of some token
unfoldable among : ℕ → List Token → Bool
among c [] = false
among c (a_letter b ∷ ts) = eqb b c || among c ts
among c (a_caret ∷ ts) = among c ts
among c (a_dollar ∷ ts) = among c ts
among c (opening ∷ ts) = among c ts
among c (closing ∷ ts) = among c ts
among c (a_bar ∷ ts) = among c ts
among c (a_mark f z ∷ ts) = among c ts

tree-tokens : {k : Rank} (x : Tree k) (c : ℕ) (ts : List Token) → among c (tokens x ts) ≡ (has c (letters x) || among c ts)
unfolding among tokens letters has
tree-tokens (one b) c ts = tree-tokens b c ts
tree-tokens (more b p) c ts = simp (tree-tokens b, tree-tokens p, has-append, or_assoc)
tree-tokens (last f) c ts = tree-tokens f c ts
tree-tokens (next f b) c ts = simp (tree-tokens f, tree-tokens b, has-append, or_assoc)
tree-tokens (bare x) c ts = tree-tokens x c ts
tree-tokens (times x f z) c ts = tree-tokens x c (a_mark f z ∷ ts)
tree-tokens (letter b) c ts = simp or_assoc
tree-tokens caret c ts = refl
tree-tokens dollar c ts = refl
tree-tokens empty c ts = refl
tree-tokens (group p) c ts = tree-tokens p c (closing ∷ ts)

-- what is spelled has no letters besides the letter tokens
module _ (c : ℕ) (low : 65 ≤ c) (high : c ≤ 90) where
  other : (b : ℕ) (s : List ℕ) → (b ≡ c → ⊥) → has c (b ∷ s) ≡ has c s
  unfolding has
  other b s h = simp (ne_eqb b c h)

  in_digits : (n : ℕ) (s : List ℕ) → n ≤ 99 → has c (digits n s) ≡ has c s
  unfolding digits
  in_digits n s h = go (ltb n 10) refl
    where
      go : (t : Bool) → ltb n 10 ≡ t → has c (pick t ((48 + n) ∷ s) ((48 + n / 10) ∷ (48 + n % 10) ∷ s)) ≡ has c s
      go true e = let l = ltb-true n 10 e in other (48 + n) s (λ q. omega arith)
      go false e = other (48 + n / 10) ((48 + n % 10) ∷ s) (λ q. omega arith) ∙ other (48 + n % 10) s (λ q. omega arith)

  in_mark : (f : Form) (s : List ℕ) → InBounds f → has c (mark f s) ≡ has c s
  unfolding mark InBounds
  in_mark star s h = other 42 s (λ q. omega arith)
  in_mark plus s h = other 43 s (λ q. omega arith)
  in_mark opt s h = other 63 s (λ q. omega arith)
  in_mark (exactly n) s h = other 123 _ (λ q. omega arith) ∙ in_digits n (125 ∷ s) h.1 ∙ other 125 s (λ q. omega arith)
  in_mark (at_least n) s h =
      other 123 _ (λ q. omega arith) ∙ in_digits n (44 ∷ 125 ∷ s) h ∙ other 44 (125 ∷ s) (λ q. omega arith) ∙ other 125 s (λ q. omega arith)
  in_mark (at_most m) s h =
      other 123 _ (λ q. omega arith) ∙ other 44 _ (λ q. omega arith) ∙ in_digits m (125 ∷ s) h.1 ∙ other 125 s (λ q. omega arith)
  in_mark (between n m) s h =
      other 123 _ (λ q. omega arith)
      ∙ in_digits n (44 ∷ digits m (125 ∷ s)) (omega (arith, h.1, h.2))
      ∙ other 44 _ (λ q. omega arith)
      ∙ in_digits m (125 ∷ s) h.2
      ∙ other 125 s (λ q. omega arith)

  in_spaces : (n : ℕ) (s : List ℕ) → has c (spaces n s) ≡ has c s
  unfolding spaces
  in_spaces zero s = refl
  in_spaces (suc n) s = other 32 (spaces n s) (λ q. omega arith) ∙ in_spaces n s

  in_tokens : (t : Token) (ts : List Token) (s : List ℕ) → Proper t → among c ts ≡ has c s → among c (t ∷ ts) ≡ has c (spell t s)
  unfolding among spell Proper has
  in_tokens (a_letter b) ts s h e = ap (λ (x : Bool). eqb b c || x) e
  in_tokens a_caret ts s h e = e ∙ sym (other 94 s (λ q. omega arith))
  in_tokens a_dollar ts s h e = e ∙ sym (other 36 s (λ q. omega arith))
  in_tokens opening ts s h e = e ∙ sym (other 40 s (λ q. omega arith))
  in_tokens closing ts s h e = e ∙ sym (other 41 s (λ q. omega arith))
  in_tokens a_bar ts s h e = e ∙ sym (other 124 s (λ q. omega arith))
  in_tokens (a_mark f true) ts s h e = e ∙ sym (in_mark f (63 ∷ s) h ∙ other 63 s (λ q. omega arith))
  in_tokens (a_mark f false) ts s h e = e ∙ sym (in_mark f s h)

  laid_letters : (ts : List Token) (s : List ℕ) → Laid ts s → among c ts ≡ has c s
  unfolding Laid among has
  laid_letters [] s h = rw h refl
  laid_letters (t ∷ ts) s h =
      in_tokens t ts (spaces h.0 h.1) h.3 (laid_letters ts h.1 h.5 ∙ sym (in_spaces h.0 h.1)) ∙ ap (has c) (sym h.2)

-- a letter stands in the pattern exactly if it stands in the text
pub letters-exactly : {p : Tree pattern} {text : List ℕ} → Written p text → (c : ℕ) → is_letter c ≡ true → has c (letters p) ≡ has c text
unfolding among
letters-exactly {p} {text} w c l =
    let h = in_letters c l in
    sym (or-false (has c (letters p)))
    ∙ sym (tree-tokens p c [])
    ∙ laid_letters c h.0 h.1 (tokens p []) w.rest w.laid
    ∙ sym (in_spaces c h.0 h.1 w.front w.rest)
    ∙ ap (has c) (sym w.is)

-- and a byte that is no letter does not stand in the pattern
no-letters : {k : Rank} (x : Tree k) (c : ℕ) → Lettered x → is_letter c ≡ false → has c (letters x) ≡ false
unfolding Lettered letters has
no-letters (one b) c h n = no-letters b c h n
no-letters (more b p) c h n = simp (has-append, no-letters b c h.0 n, no-letters p c h.1 n)
no-letters (last f) c h n = no-letters f c h n
no-letters (next f b) c h n = simp (has-append, no-letters f c h.0 n, no-letters b c h.1 n)
no-letters (bare x) c h n = no-letters x c h n
no-letters (times x f z) c h n = no-letters x c h n
no-letters (letter b) c h n = simp (ne_eqb b c λ e. true≢false (sym (letter-in b h.0 h.1) ∙ ap is_letter e ∙ n))
no-letters caret c h n = refl
no-letters dollar c h n = refl
no-letters empty c h n = refl
no-letters (group p) c h n = no-letters p c h n

-- the same of every byte
pub letters-of_text : {p : Tree pattern} {text : List ℕ} → Written p text → (c : ℕ) → has c (letters p) ≡ (is_letter c && has c text)
letters-of_text {p} {text} w c = go (is_letter c) refl
  where
    go : (t : Bool) → is_letter c ≡ t → has c (letters p) ≡ (t && has c text)
    go true e = letters-exactly w c e
    go false e = no-letters p c (written-letters w) e

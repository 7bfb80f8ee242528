-- How large the tree of a text can be, for whoever lays it out in fixed room. A text of L bytes has
-- at most L tokens (`few_tokens`) and its tree fewer than 2 L nodes (`few_nodes`); its height is
-- below its nodes' number (`low-height`). Where answer 4 does not apply to the text, groups stand
-- at most 8 deep in one another (`shallow`).
use mathlib.Core.Path.{◌≡◌, refl, sym, ap, ◌∙◌}
use mathlib.Core.Bool.{Bool, true, false, true≢false}
use mathlib.Core.List.{List, [], ◌∷◌}
use Prim.Native.Nat.{ℕ, zero, suc, ◌+◌, ◌*◌, ◌/◌, ◌%◌, ◌≤◌, ◌<◌, max}
use native.Mathlib.Omega.{arith}
use lib.Dec.{eqb, ltb}
use lib.ListN.{length}
use borrow.Author.Tests.{ltb-false, ne_eqb}
use Rattle.rules.specs.Basics.{pick}
use Rattle.rules.specs.Language.{Form, star, plus, opt, exactly, at_least, at_most, between, Rank, pattern, branch, factor, primary, Tree, one, more, last, next, bare, times, letter, caret, dollar, empty, group, Token, a_letter, a_caret, a_dollar, opening, closing, a_bar, a_mark, tokens, digits, mark, spell, Proper, spaces, Laid, Written}
use Rattle.rules.specs.Answers.{deep}
use Rattle.laws.proofs.GrammarComplete.{spaces-length, mark-longer}

-- ---- nodes

-- a node for each `|`, each factor behind another, each group and each other primary; a primary's
-- own node counts for its factor
unfoldable pub node_count : {k : Rank} → Tree k → ℕ
node_count (one b) = node_count b
node_count (more b p) = node_count b + node_count p + 1
node_count (last f) = node_count f
node_count (next f b) = node_count f + node_count b + 1
node_count (bare x) = node_count x + 1
node_count (times x f z) = node_count x + 1
node_count (letter c) = 0
node_count caret = 0
node_count dollar = 0
node_count empty = 0
node_count (group p) = node_count p

-- the edges from the top to the lowest of those nodes
unfoldable pub height : {k : Rank} → Tree k → ℕ
height (one b) = height b
height (more b p) = max (height b) (height p) + 1
height (last f) = height f
height (next f b) = max (height f) (height b) + 1
height (bare x) = height x
height (times x f z) = height x
height (letter c) = 0
height caret = 0
height dollar = 0
height empty = 0
height (group p) = height p + 1

-- the nodes of a primary's parts, and of other phrases, against their tokens
unfoldable Few : Rank → ℕ → ℕ → ℕ → Type 0
Few pattern n t u = n + 1 + 2 * t ≤ 2 * u
Few branch n t u = n + 1 + 2 * t ≤ 2 * u
Few factor n t u = n + 1 + 2 * t ≤ 2 * u
Few primary n t u = n + 2 + 2 * t ≤ 2 * u

few : {k : Rank} (x : Tree k) (ts : List Token) → Few k (node_count x) (length ts) (length (tokens x ts))
unfolding Few node_count tokens
few (one b) ts = few b ts
few (more b p) ts = omega (arith, few b (a_bar ∷ tokens p ts), few p ts)
few (last f) ts = few f ts
few (next f b) ts = omega (arith, few f (tokens b ts), few b ts)
few (bare x) ts = omega (arith, few x ts)
few (times x f z) ts = omega (arith, few x (a_mark f z ∷ ts))
few (letter c) ts = omega arith
few caret ts = omega arith
few dollar ts = omega arith
few empty ts = omega arith
few (group p) ts = omega (arith, few p (closing ∷ ts))

-- each token is a byte at least
spell-longer : (t : Token) (s : List ℕ) → length s < length (spell t s)
unfolding spell
spell-longer (a_letter c) s = omega arith
spell-longer a_caret s = omega arith
spell-longer a_dollar s = omega arith
spell-longer opening s = omega arith
spell-longer closing s = omega arith
spell-longer a_bar s = omega arith
spell-longer (a_mark f z) s = mark-longer f z s

laid_longer : (ts : List Token) (s : List ℕ) → Laid ts s → length ts ≤ length s
unfolding Laid
laid_longer [] s h = omega arith
laid_longer (t ∷ ts) s h =
    let e : length s ≡ length (spell t (spaces h.0 h.1)) = ap length h.2 in
    omega (arith, laid_longer ts h.1 h.5, spell-longer t (spaces h.0 h.1), spaces-length h.0 h.1)

pub few_tokens : {p : Tree pattern} {text : List ℕ} → Written p text → length (tokens p []) ≤ length text
few_tokens {p} {text} w =
    let e : length text ≡ length (spaces w.front w.rest) = ap length w.is in
    omega (arith, laid_longer (tokens p []) w.rest w.laid, spaces-length w.front w.rest)

pub few_nodes : {p : Tree pattern} {text : List ℕ} → Written p text → node_count p < 2 * length text
unfolding Few
few_nodes {p} w = omega (arith, few p [], few_tokens w)

unfoldable Low : Rank → ℕ → ℕ → Type 0
Low pattern h n = h < n
Low branch h n = h < n
Low factor h n = h < n
Low primary h n = h ≤ n

low : {k : Rank} (x : Tree k) → Low k (height x) (node_count x)
unfolding Low height node_count
low (one b) = low b
low (more b p) = omega (arith, low b, low p)
low (last f) = low f
low (next f b) = omega (arith, low f, low b)
low (bare x) = omega (arith, low x)
low (times x f z) = omega (arith, low x)
low (letter c) = omega arith
low caret = omega arith
low dollar = omega arith
low empty = omega arith
low (group p) = omega (arith, low p)

pub low-height : (p : Tree pattern) → height p < node_count p
unfolding Low
low-height p = low p

-- ---- groups inside groups

unfoldable pub nesting : {k : Rank} → Tree k → ℕ
nesting (one b) = nesting b
nesting (more b p) = max (nesting b) (nesting p)
nesting (last f) = nesting f
nesting (next f b) = max (nesting f) (nesting b)
nesting (bare x) = nesting x
nesting (times x f z) = nesting x
nesting (letter c) = 0
nesting caret = 0
nesting dollar = 0
nesting empty = 0
nesting (group p) = nesting p + 1

-- with o open before these tokens, none is opened where 8 are open
unfoldable Shallow : ℕ → List Token → Type 0
Shallow o [] = Unit {0}
Shallow o (a_letter c ∷ ts) = Shallow o ts
Shallow o (a_caret ∷ ts) = Shallow o ts
Shallow o (a_dollar ∷ ts) = Shallow o ts
Shallow o (opening ∷ ts) = (o < 8) × Shallow (suc o) ts
Shallow zero (closing ∷ ts) = Unit {0}
Shallow (suc o) (closing ∷ ts) = Shallow o ts
Shallow o (a_bar ∷ ts) = Shallow o ts
Shallow o (a_mark f z ∷ ts) = Shallow o ts

nests : {k : Rank} (x : Tree k) (o : ℕ) (ts : List Token) → o ≤ 8 → Shallow o (tokens x ts) → (o + nesting x ≤ 8) × (Shallow o ts)
unfolding Shallow tokens nesting
nests (one b) o ts l h = nests b o ts l h
nests (more b p) o ts l h =
    let i = nests b o (a_bar ∷ tokens p ts) l h in
    let j = nests p o ts l i.1 in
    (omega (arith, i.0, j.0), j.1)
nests (last f) o ts l h = nests f o ts l h
nests (next f b) o ts l h =
    let i = nests f o (tokens b ts) l h in
    let j = nests b o ts l i.1 in
    (omega (arith, i.0, j.0), j.1)
nests (bare x) o ts l h = nests x o ts l h
nests (times x f z) o ts l h = nests x o (a_mark f z ∷ ts) l h
nests (letter c) o ts l h = (omega arith, h)
nests caret o ts l h = (omega arith, h)
nests dollar o ts l h = (omega arith, h)
nests empty o ts l h = (omega arith, h.1)
nests (group p) o ts l h = let i = nests p (suc o) (closing ∷ ts) (omega (arith, h.0)) h.1 in (omega (arith, i.0), i.1)

-- what `deep` says behind a byte
behind : (t u : Bool) → pick t true u ≡ false → (t ≡ false) × (u ≡ false)
behind true u e = absurd (true≢false e)
behind false u e = (refl, e)

module _ (a c : ℕ) where
  past : (b : ℕ) (s : List ℕ) → (b ≡ 40 → ⊥) → (b ≡ 41 → ⊥) → deep a c (b ∷ s) ≡ false → deep a c s ≡ false
  unfolding deep
  past b s h g e =
      let p : eqb b 40 ≡ false = ne_eqb b 40 h in
      let q : eqb b 41 ≡ false = ne_eqb b 41 g in
      let f : pick (ltb (c + 8) a) true (deep a c s) ≡ false = simp (p, q) at e in
      (behind (ltb (c + 8) a) (deep a c s) f).1

  past-digits : (n : ℕ) (s : List ℕ) → deep a c (digits n s) ≡ false → deep a c s ≡ false
  unfolding digits
  past-digits n s = go (ltb n 10)
    where
      go : (t : Bool) → deep a c (pick t ((48 + n) ∷ s) ((48 + n / 10) ∷ (48 + n % 10) ∷ s)) ≡ false → deep a c s ≡ false
      go true e = past (48 + n) s (λ q. omega arith) (λ q. omega arith) e
      go false e = past (48 + n % 10) s (λ q. omega arith) (λ q. omega arith) (past (48 + n / 10) _ (λ q. omega arith) (λ q. omega arith) e)

  past_open : (s : List ℕ) → deep a c (123 ∷ s) ≡ false → deep a c s ≡ false
  past_open s e = past 123 s (λ q. omega arith) (λ q. omega arith) e

  past-comma : (s : List ℕ) → deep a c (44 ∷ s) ≡ false → deep a c s ≡ false
  past-comma s e = past 44 s (λ q. omega arith) (λ q. omega arith) e

  past-shut : (s : List ℕ) → deep a c (125 ∷ s) ≡ false → deep a c s ≡ false
  past-shut s e = past 125 s (λ q. omega arith) (λ q. omega arith) e

  past-mark : (f : Form) (s : List ℕ) → deep a c (mark f s) ≡ false → deep a c s ≡ false
  unfolding mark
  past-mark star s e = past 42 s (λ q. omega arith) (λ q. omega arith) e
  past-mark plus s e = past 43 s (λ q. omega arith) (λ q. omega arith) e
  past-mark opt s e = past 63 s (λ q. omega arith) (λ q. omega arith) e
  past-mark (exactly n) s e = past-shut s (past-digits n (125 ∷ s) (past_open _ e))
  past-mark (at_least n) s e = past-shut s (past-comma _ (past-digits n _ (past_open _ e)))
  past-mark (at_most m) s e = past-shut s (past-digits m _ (past-comma _ (past_open _ e)))
  past-mark (between n m) s e = past-shut s (past-digits m _ (past-comma _ (past-digits n _ (past_open _ e))))

  past-spaces : (n : ℕ) (s : List ℕ) → deep a c (spaces n s) ≡ false → deep a c s ≡ false
  unfolding spaces
  past-spaces zero s e = e
  past-spaces (suc n) s e = past-spaces n s (past 32 (spaces n s) (λ q. omega arith) (λ q. omega arith) e)

-- with a opened and c closed in the text so far, o are open; `on` is the same behind the token
token_shallow : (t : Token) (ts : List Token) (s : List ℕ) (o a c : ℕ) → a ≡ c + o → Proper t → deep a c (spell t s) ≡ false
    → ((o a c : ℕ) → a ≡ c + o → deep a c s ≡ false → Shallow o ts) → Shallow o (t ∷ ts)
unfolding Shallow spell Proper deep
token_shallow (a_letter b) ts s o a c q p e on =
    let l = p.0 in
    on o a c q (past a c b s (λ i. omega arith) (λ i. omega arith) e)
token_shallow a_caret ts s o a c q p e on = on o a c q (past a c 94 s (λ i. omega arith) (λ i. omega arith) e)
token_shallow a_dollar ts s o a c q p e on = on o a c q (past a c 36 s (λ i. omega arith) (λ i. omega arith) e)
token_shallow opening ts s o a c q p e on =
    let f = behind (ltb (c + 8) (a + 1)) (deep (a + 1) c s) e in
    (omega (arith, ltb-false (c + 8) (a + 1) f.0), on (suc o) (a + 1) c (omega arith) f.1)
token_shallow closing ts s zero a c q p e on = tt
token_shallow closing ts s (suc o) a c q p e on = on o a (c + 1) (omega arith) (behind (ltb (c + 1 + 8) a) (deep a (c + 1) s) e).1
token_shallow a_bar ts s o a c q p e on = on o a c q (past a c 124 s (λ i. omega arith) (λ i. omega arith) e)
token_shallow (a_mark f true) ts s o a c q p e on = on o a c q (past a c 63 s (λ i. omega arith) (λ i. omega arith) (past-mark a c f (63 ∷ s) e))
token_shallow (a_mark f false) ts s o a c q p e on = on o a c q (past-mark a c f s e)

laid_shallow : (ts : List Token) (s : List ℕ) (o a c : ℕ) → a ≡ c + o → Laid ts s → deep a c s ≡ false → Shallow o ts
unfolding Laid Shallow
laid_shallow [] s o a c q h e = tt
laid_shallow (t ∷ ts) s o a c q h e =
    token_shallow t ts (spaces h.0 h.1) o a c q h.3 (ap (deep a c) (sym h.2) ∙ e)
    λ o a c q d. laid_shallow ts h.1 o a c q h.5 (past-spaces a c h.0 h.1 d)

pub shallow : {p : Tree pattern} {text : List ℕ} → Written p text → deep 0 0 text ≡ false → nesting p ≤ 8
unfolding Shallow
shallow {p} w e =
    let d = past-spaces 0 0 w.front w.rest (ap (deep 0 0) (sym w.is) ∙ e) in
    omega (arith, (nests p 0 [] (omega arith) (laid_shallow (tokens p []) w.rest 0 0 0 (omega arith) w.laid d)).0)

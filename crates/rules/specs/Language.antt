-- Rules: document 01, "Pattern language", with R-1 and R-3. Trees, their tokens, and the texts that
-- spell them; then what can take no row. A text is in the language exactly if some tree is
-- `Written` in it. No reading of a text is described here.
use Rattle.std.specs.Prelude.{◌≡◌, Bool, true, false, ◌&&◌, ◌||◌, List, [], ◌∷◌, ◌++◌, ℕ, zero, suc, ◌+◌, ◌/◌, ◌%◌, ◌≤◌, ◌<◌, max, ltb, eqb, length, take}
use Rattle.std.proofs.Math.Option.{Option, none, some}
use Rattle.rules.specs.Basics.{pick}

-- ---- trees

-- a quantifier as it is written: `*`, `+`, `?`, `{n}`, `{n,}`, `{,m}`, `{n,m}`
pub data Form : Type 0 where
  star plus opt : Form
  exactly at_least at_most : ℕ → Form
  between : ℕ → ℕ → Form

-- its lower bound, which is 0 in `{,m}`
unfoldable pub lower : Form → ℕ
lower star = 0
lower plus = 1
lower opt = 0
lower (exactly n) = n
lower (at_least n) = n
lower (at_most m) = 0
lower (between n m) = n

-- its upper bound; none: it is unbounded
unfoldable pub upper : Form → Option ℕ
upper star = none
upper plus = none
upper opt = some 1
upper (exactly n) = some n
upper (at_least n) = none
upper (at_most m) = some m
upper (between n m) = some m

-- bounds are 0 to 99; an upper bound is at least 1 and at least the lower, and in `{n}` n is at
-- least 1
unfoldable pub InBounds : Form → Type 0
InBounds star = Unit {0}
InBounds plus = Unit {0}
InBounds opt = Unit {0}
InBounds (exactly n) = (1 ≤ n) × (n ≤ 99)
InBounds (at_least n) = n ≤ 99
InBounds (at_most m) = (1 ≤ m) × (m ≤ 99)
InBounds (between n m) = (1 ≤ m) × (n ≤ m) × (m ≤ 99)

-- the four sorts of phrases
pub data Rank : Type 0 where
  pattern branch factor primary : Rank

-- A pattern is one or more branches parted by `|`: `one` or `more`. A branch is one or more
-- factors: `last` or `next`. A factor is a primary and at most one quantifier: `bare`, or `times`
-- with its form and whether it is reluctant. Primaries are a letter, `^`, `$`, `()`, or a pattern
-- in parentheses.
pub data Tree : Rank → Type 0 where
  one : Tree branch → Tree pattern
  more : Tree branch → Tree pattern → Tree pattern
  last : Tree factor → Tree branch
  next : Tree factor → Tree branch → Tree branch
  bare : Tree primary → Tree factor
  times : Tree primary → Form → Bool → Tree factor
  letter : ℕ → Tree primary
  caret dollar empty : Tree primary
  group : Tree pattern → Tree primary

-- ---- tokens

-- each letter, anchor, parenthesis, `|` and quantifier, the braces with what they hold and the
-- reluctant mark, is one token
pub data Token : Type 0 where
  a_letter : ℕ → Token
  a_caret a_dollar opening closing a_bar : Token
  a_mark : Form → Bool → Token

-- the tokens of a tree, then others
unfoldable pub tokens : {k : Rank} → Tree k → List Token → List Token
tokens (one b) ts = tokens b ts
tokens (more b p) ts = tokens b (a_bar ∷ tokens p ts)
tokens (last f) ts = tokens f ts
tokens (next f b) ts = tokens f (tokens b ts)
tokens (bare x) ts = tokens x ts
tokens (times x f z) ts = tokens x (a_mark f z ∷ ts)
tokens (letter c) ts = a_letter c ∷ ts
tokens caret ts = a_caret ∷ ts
tokens dollar ts = a_dollar ∷ ts
tokens empty ts = opening ∷ closing ∷ ts
tokens (group p) ts = opening ∷ tokens p (closing ∷ ts)

-- ---- texts

-- a bound of 0 to 99 in decimal without leading zero, then other bytes
unfoldable pub digits : ℕ → List ℕ → List ℕ
digits n s = pick (ltb n 10) ((48 + n) ∷ s) ((48 + n / 10) ∷ (48 + n % 10) ∷ s)

-- a quantifier without its reluctant mark, then other bytes: * is 42, + 43, ? 63, { 123, comma 44,
-- } 125
unfoldable pub mark : Form → List ℕ → List ℕ
unfolding digits
mark star s = 42 ∷ s
mark plus s = 43 ∷ s
mark opt s = 63 ∷ s
mark (exactly n) s = 123 ∷ digits n (125 ∷ s)
mark (at_least n) s = 123 ∷ digits n (44 ∷ 125 ∷ s)
mark (at_most m) s = 123 ∷ 44 ∷ digits m (125 ∷ s)
mark (between n m) s = 123 ∷ digits n (44 ∷ digits m (125 ∷ s))

-- a token, then other bytes: ^ is 94, $ 36, ( 40, ) 41, | 124; a `?` directly behind a quantifier
-- makes it reluctant
unfoldable pub spell : Token → List ℕ → List ℕ
unfolding mark
spell (a_letter c) s = c ∷ s
spell a_caret s = 94 ∷ s
spell a_dollar s = 36 ∷ s
spell opening s = 40 ∷ s
spell closing s = 41 ∷ s
spell a_bar s = 124 ∷ s
spell (a_mark f true) s = mark f (63 ∷ s)
spell (a_mark f false) s = mark f s

-- letters are A (65) to Z (90), and the bounds of a quantifier are in order
unfoldable pub Proper : Token → Type 0
unfolding InBounds
Proper (a_letter c) = (65 ≤ c) × (c ≤ 90)
Proper a_caret = Unit {0}
Proper a_dollar = Unit {0}
Proper opening = Unit {0}
Proper closing = Unit {0}
Proper a_bar = Unit {0}
Proper (a_mark f z) = InBounds f

-- a token is a letter; a letter comes first
unfoldable pub lettered : Token → Bool
lettered (a_letter c) = true
lettered a_caret = false
lettered a_dollar = false
lettered opening = false
lettered closing = false
lettered a_bar = false
lettered (a_mark f z) = false

unfoldable pub letter_first : List Token → Bool
unfolding lettered
letter_first [] = false
letter_first (t ∷ ts) = lettered t

-- n spaces (32), then other bytes
unfoldable pub spaces : ℕ → List ℕ → List ℕ
spaces zero s = s
spaces (suc n) s = 32 ∷ spaces n s

-- the text is these tokens, each with spaces behind it or none; two letters must not touch
unfoldable pub Laid : List Token → List ℕ → Type 0
unfolding spell spaces Proper letter_first
Laid [] s = s ≡ []
Laid (t ∷ ts) s =
    (n : ℕ) × (rest : List ℕ) × (s ≡ spell t (spaces n rest)) × (Proper t)
    × (lettered t ≡ true → letter_first ts ≡ true → 1 ≤ n) × (Laid ts rest)

-- The grammar: p is a tree of the text. Spaces may stand between tokens and at either end, and
-- nowhere inside one.
pub record Written (p : Tree pattern) (text : List ℕ) : Type 0 where
  pub front : ℕ
  pub rest : List ℕ
  pub is : text ≡ spaces front rest
  pub laid : Laid (tokens p []) rest

-- ---- where a text is wrong (request R-1)

-- a text begins a text of the language: with some bytes behind it, or none, a tree is written in
-- it. Neither the text's length nor the limit of parentheses plays a part.
unfoldable pub BeginsText : List ℕ → Type 0
BeginsText s = (v : List ℕ) × (p : Tree pattern) × Written p (s ++ v)

-- the text is wrong at byte k: what stands before k, and each beginning of that, begins a text of
-- the language, and with byte k it begins none
pub record WrongAt (text : List ℕ) (k : ℕ) : Type 0 where
  pub inside : k < length text
  pub begins : (j : ℕ) → j ≤ k → BeginsText (take j text)
  pub ends : BeginsText (take (k + 1) text) → ⊥

-- the text ends but could go on: it begins a text of the language and is none
pub record Unfinished (text : List ℕ) : Type 0 where
  pub begins : BeginsText text
  pub outside : (p : Tree pattern) → Written p text → ⊥

-- ---- what a pattern can do

-- Can take no row: `^`, `$`, `()`; a sequence whose factors all can; an alternation with a branch
-- that can; a factor with lower bound 0 or a body that can.
unfoldable pub nullable : {k : Rank} → Tree k → Bool
unfolding lower
nullable (one b) = nullable b
nullable (more b p) = nullable b || nullable p
nullable (last f) = nullable f
nullable (next f b) = nullable f && nullable b
nullable (bare x) = nullable x
nullable (times x f z) = eqb (lower f) 0 || nullable x
nullable (letter c) = false
nullable caret = true
nullable dollar = true
nullable empty = true
nullable (group p) = nullable p

unfoldable pub unbounded : Option ℕ → Bool
unbounded none = true
unbounded (some m) = false

-- R-3: a quantifier that is unbounded over a body that can take no row adds one to the nesting
abbrev pub deeper : Bool → ℕ → ℕ
deeper false m = m
deeper true m = suc m

-- how many such quantifiers are nested in one another, at most
unfoldable pub loop_nesting : {k : Rank} → Tree k → ℕ
unfolding nullable unbounded upper
loop_nesting (one b) = loop_nesting b
loop_nesting (more b p) = max (loop_nesting b) (loop_nesting p)
loop_nesting (last f) = loop_nesting f
loop_nesting (next f b) = max (loop_nesting f) (loop_nesting b)
loop_nesting (bare x) = loop_nesting x
loop_nesting (times x f z) = deeper (unbounded (upper f) && nullable x) (loop_nesting x)
loop_nesting (letter c) = 0
loop_nesting caret = 0
loop_nesting dollar = 0
loop_nesting empty = 0
loop_nesting (group p) = loop_nesting p

-- the letters that stand in a pattern
unfoldable pub letters : {k : Rank} → Tree k → List ℕ
letters (one b) = letters b
letters (more b p) = letters b ++ letters p
letters (last f) = letters f
letters (next f b) = letters f ++ letters b
letters (bare x) = letters x
letters (times x f z) = letters x
letters (letter c) = c ∷ []
letters caret = []
letters dollar = []
letters empty = []
letters (group p) = letters p

-- a `$` stands in a pattern
unfoldable pub has_dollar : {k : Rank} → Tree k → Bool
has_dollar (one b) = has_dollar b
has_dollar (more b p) = has_dollar b || has_dollar p
has_dollar (last f) = has_dollar f
has_dollar (next f b) = has_dollar f || has_dollar b
has_dollar (bare x) = has_dollar x
has_dollar (times x f z) = has_dollar x
has_dollar (letter c) = false
has_dollar caret = false
has_dollar dollar = true
has_dollar empty = false
has_dollar (group p) = has_dollar p

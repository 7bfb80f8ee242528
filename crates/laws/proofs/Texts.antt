-- Texts in the pattern language and texts outside it, as one table that the reading function is run
-- on; then trees in full, and texts with their answers, 4 to 7. A row `text ⇒ plain` says that the
-- text has a tree, whose tokens are spelled `plain`, with a space between two letters and no other;
-- a row `outside text` says that it has none. `texts_hold` is the run, `texts_mean` the same of the
-- grammar.
use mathlib.Core.Path.{◌≡◌, refl}
use mathlib.Core.Bool.{true, false}
use mathlib.Core.List.{List, [], ◌∷◌, map}
use mathlib.Core.Option.{Option, none, some}
use Prim.Native.Nat.{ℕ}
use Prim.Native.String.{String}
use native.Mathlib.Omega.{arith}
use Rattle.rules.specs.Basics.{pick, bytes}
use Rattle.rules.specs.Language.{star, plus, opt, between, Tree, pattern, one, more, last, next, bare, times, letter, caret, empty, group, Token, a_letter, a_caret, a_dollar, opening, closing, a_bar, a_mark, tokens, spell, letter_first, Written}
use Rattle.rules.specs.Reader.{tree_of}
use Rattle.rules.specs.Answers.{deep, wrong, incomplete, offset_at, too_many, nested_loops}
use Rattle.laws.proofs.Grammar.{tree-exactly, outside-exactly}

infix 5 ◌⇒◌
pub data Row : Type 0 where
  ◌⇒◌ : String → String → Row
  outside : String → Row

-- tokens spelled with one space between two letters and no other
unfoldable pub plainly : List Token → List ℕ
unfolding spell letter_first
plainly [] = []
plainly (a_letter c ∷ ts) = c ∷ pick (letter_first ts) (32 ∷ plainly ts) (plainly ts)
plainly (a_caret ∷ ts) = spell a_caret (plainly ts)
plainly (a_dollar ∷ ts) = spell a_dollar (plainly ts)
plainly (opening ∷ ts) = spell opening (plainly ts)
plainly (closing ∷ ts) = spell closing (plainly ts)
plainly (a_bar ∷ ts) = spell a_bar (plainly ts)
plainly (a_mark f z ∷ ts) = spell (a_mark f z) (plainly ts)

unfoldable pub plain : Option (Tree pattern) → Option (List ℕ)
unfolding plainly tokens
plain none = none
plain (some p) = some (plainly (tokens p []))

-- what is read of a row's text, and what the row says of it
unfoldable pub found : Row → Option (List ℕ)
unfolding plain tree_of bytes
found (text ⇒ s) = plain (tree_of (bytes text))
found (outside text) = plain (tree_of (bytes text))

unfoldable pub told : Row → Option (List ℕ)
unfolding bytes
told (text ⇒ s) = some (bytes s)
told (outside text) = none

unfoldable pub table : List Row
table =
    -- the paper's own
    ("A+ B" ⇒ "A+B")
    ∷ ("A*" ⇒ "A*")
    ∷ ("A*?" ⇒ "A*?")
    ∷ ("B A | A B" ⇒ "B A|A B")
    ∷ ("A A" ⇒ "A A")
    ∷ ("A $" ⇒ "A$")
    ∷ ("(A{51}){5}" ⇒ "(A{51}){5}")
    ∷ ("(A{16}){16}" ⇒ "(A{16}){16}")
    ∷ ("(A*)*" ⇒ "(A*)*")
    ∷ ("(A?){3}" ⇒ "(A?){3}")
    ∷ ("(A+)+" ⇒ "(A+)+")
    ∷ ("((((((((A))))))))" ⇒ "((((((((A))))))))")
    ∷ ("(((((((((A)))))))))" ⇒ "(((((((((A)))))))))")
    ∷ ("A | A B" ⇒ "A|A B")
    ∷ ("A ?" ⇒ "A?")
    ∷ ("( )" ⇒ "()")
    ∷ outside "A**"
    ∷ outside "A? ?"
    ∷ outside "A |"
    ∷ outside "AB"
    ∷ outside "A{,}"
    -- spaces: between tokens and at the ends, only byte 32, and not alone
    ∷ (" A " ⇒ "A")
    ∷ ("  (  ^ | A  Z {2,2} )  *?  " ⇒ "(^|A Z{2,2})*?")
    ∷ ("(A)(B)" ⇒ "(A)(B)")
    ∷ ("A(B)" ⇒ "A(B)")
    ∷ outside ""
    ∷ outside "   "
    ∷ outside "A\tB"
    ∷ outside "A\t"
    ∷ outside "A\n"
    ∷ outside "^AB"
    ∷ outside "( A B ) C AB"
    ∷ outside "A{ 1}"
    ∷ outside "A{1 }"
    ∷ outside "A {1, 2}"
    -- alternations and parentheses
    ∷ ("()" ⇒ "()")
    ∷ ("A|()" ⇒ "A|()")
    ∷ ("A|B|(C|D)E" ⇒ "A|B|(C|D)E")
    ∷ outside "|A"
    ∷ outside "A||B"
    ∷ outside "(|A)"
    ∷ outside "(A|)"
    ∷ outside "("
    ∷ outside "(A"
    ∷ outside "A)"
    ∷ outside "()A)"
    ∷ outside ")((((((((("
    ∷ outside ")(((((((((("
    -- one quantifier at most, and its reluctant mark directly behind it
    ∷ ("A??" ⇒ "A??")
    ∷ ("A ??" ⇒ "A??")
    ∷ ("A+?B" ⇒ "A+?B")
    ∷ ("A{2}?" ⇒ "A{2}?")
    ∷ ("A{,1}?" ⇒ "A{,1}?")
    ∷ ("A{10,99}? B" ⇒ "A{10,99}?B")
    ∷ outside "*"
    ∷ outside "?"
    ∷ outside "A **"
    ∷ outside "A* ?"
    ∷ outside "A+ +"
    ∷ outside "A???"
    ∷ outside "A{2} ?"
    ∷ outside "A{1}{2}"
    -- bounds
    ∷ ("A{1}" ⇒ "A{1}")
    ∷ ("A{99}" ⇒ "A{99}")
    ∷ ("A{0,}" ⇒ "A{0,}")
    ∷ ("A{0,1}" ⇒ "A{0,1}")
    ∷ ("A{0,5}" ⇒ "A{0,5}")
    ∷ ("A{9,10}" ⇒ "A{9,10}")
    ∷ outside "A{0}"
    ∷ outside "A{0,0}"
    ∷ outside "A{,0}"
    ∷ outside "A{00}"
    ∷ outside "A{07}"
    ∷ outside "A{100}"
    ∷ outside "A{1,100}"
    ∷ outside "A{3,2}"
    ∷ outside "A{-1}"
    ∷ outside "A{1,,2}"
    ∷ outside "A{}"
    ∷ outside "A{1"
    ∷ outside "A{"
    -- anchors and `()`, also with quantifiers; those that are unbounded are refused later, and are
    -- in the language
    ∷ ("^" ⇒ "^")
    ∷ ("^^$$" ⇒ "^^$$")
    ∷ ("^?" ⇒ "^?")
    ∷ ("()?" ⇒ "()?")
    ∷ ("(){99}" ⇒ "(){99}")
    ∷ ("^*" ⇒ "^*")
    ∷ ("$*" ⇒ "$*")
    ∷ ("$+" ⇒ "$+")
    ∷ ("(){3,}" ⇒ "(){3,}")
    ∷ ("((A?){99}){3,}" ⇒ "((A?){99}){3,}")
    -- other bytes, 0 among them
    ∷ outside "a"
    ∷ outside "A."
    ∷ outside "()()()x"
    ∷ outside "A\0"
    ∷ outside "\0"
    ∷ []

pub texts_hold : map found table ≡ map told table
unfolding found told table
texts_hold = refl

-- ---- the same of the grammar

unfoldable pub Means : Row → Type 0
unfolding plainly tokens bytes
Means (text ⇒ s) = (p : Tree pattern) × (Written p (bytes text)) × (plainly (tokens p []) ≡ bytes s)
Means (outside text) = (p : Tree pattern) → Written p (bytes text) → ⊥

unfoldable pub AllMean : List Row → Type 0
unfolding Means
AllMean [] = Unit {0}
AllMean (r ∷ rs) = Means r × AllMean rs

row-means : (r : Row) → found r ≡ told r → Means r
unfolding found told plain Means
row-means (text ⇒ s) e = go (tree_of (bytes text)) refl e
  where
    go : (x : Option (Tree pattern)) → tree_of (bytes text) ≡ x → plain x ≡ some (bytes s) → Means (text ⇒ s)
    go none q h = let z : ◌≡◌ {A = ℕ} 0 1 = cc in absurd (omega arith)
    go (some p) q h = (p, (tree-exactly (bytes text) p).0 q, (cc))
row-means (outside text) e = go (tree_of (bytes text)) refl e
  where
    go : (x : Option (Tree pattern)) → tree_of (bytes text) ≡ x → plain x ≡ none → Means (outside text)
    go none q h = (outside-exactly (bytes text)).0 q
    go (some p) q h = let z : ◌≡◌ {A = ℕ} 0 1 = cc in absurd (omega arith)

rows-mean : (rs : List Row) → map found rs ≡ map told rs → AllMean rs
unfolding AllMean
rows-mean [] e = tt
rows-mean (r ∷ rs) e =
    let h : found r ≡ told r = cc in
    let t : map found rs ≡ map told rs = cc in
    (row-means r h, rows-mean rs t)

pub texts_mean : AllMean table
texts_mean = rows-mean table texts_hold

-- ---- trees in full: what binds to what

unfoldable pub tree_table : List (String × Tree pattern)
tree_table =
    ("A+ B", one (next (times (letter 65) plus false) (last (bare (letter 66)))))
    ∷ ("A|B C*?", more (last (bare (letter 65))) (one (next (bare (letter 66)) (last (times (letter 67) star true)))))
    ∷ ("A|B|C", more (last (bare (letter 65))) (more (last (bare (letter 66))) (one (last (bare (letter 67))))))
    ∷ ("(A|B){2,3} ^", one (next (times (group (more (last (bare (letter 65))) (one (last (bare (letter 66)))))) (between 2 3) false) (last (bare caret))))
    ∷ ("A??", one (last (times (letter 65) opt true)))
    ∷ ("( )", one (last (bare empty)))
    ∷ []

pub trees_hold : map (λ r. tree_of (bytes r.0)) tree_table ≡ map (λ r. some r.1) tree_table
unfolding tree_of bytes tree_table
trees_hold = refl

-- ---- answers

-- the first of answers 4, 5, 14, 6 and 7 that applies to a text, else 0
unfoldable pub answer_of : List ℕ → ℕ
unfolding deep wrong incomplete nested_loops too_many tree_of
answer_of s =
    pick (deep 0 0 s) 4 (pick (wrong s) 5 (pick (incomplete s) 14 (pick (nested_loops (tree_of s)) 6 (pick (too_many (tree_of s)) 7 0))))

unfoldable pub answer_table : List (String × ℕ)
answer_table =
    -- 4: opened less closed, with a sign, in any text
    ("((((((((A))))))))", 0)
    ∷ ("(((((((((A)))))))))", 4)
    ∷ ("(((((((((", 4)
    ∷ (")(((((((((", 5)
    ∷ (")((((((((((", 4)
    ∷ ("A**|(((((((((A)))))))))", 4)
    -- 5 and 14: outside the language
    ∷ ("", 14)
    ∷ (" ", 14)
    ∷ ("\t", 5)
    ∷ ("^**", 5)
    -- 6: more than three unbounded quantifiers over bodies that can take no row, nested in one
    -- another
    ∷ ("(A*)*", 0)
    ∷ ("^*", 0)
    ∷ ("$+", 0)
    ∷ ("(){3,}", 0)
    ∷ ("(A|^)*", 0)
    ∷ ("(A? B*){0,}", 0)
    ∷ ("A|B (C{,2})+", 0)
    ∷ ("(((A*)*)*)*", 0)
    ∷ ("((((A*)*)*)*)*", 6)
    ∷ ("(((()*)*)*)*", 6)
    ∷ ("(((()*){2})*)*", 0)
    ∷ ("(((()*|A)* B)*)* (()*)*", 0)
    ∷ ("(((()*|A)* B?)*)+", 6)
    ∷ ("A*", 0)
    ∷ ("(A+)+", 0)
    ∷ ("(A? B)+", 0)
    ∷ ("(A?){3}", 0)
    ∷ ("^?", 0)
    ∷ ("()?", 0)
    ∷ ("(){99}", 0)
    -- 7: P above 256; 6 comes before it
    ∷ ("(A{51}){5}", 0)
    ∷ ("(A{16}){16}", 7)
    ∷ ("((A?){99}){3}", 7)
    ∷ ("((A?){99}){3,}", 7)
    ∷ ("((((((A?){99}){2})*)*)*)*", 6)
    ∷ []

pub answers_hold : map (λ r. answer_of (bytes r.0)) answer_table ≡ map (λ r. r.1) answer_table
unfolding answer_of bytes answer_table
answers_hold = refl

-- ---- where a text is wrong: the answer and its offset

unfoldable pub offset_table : List (String × (ℕ × ℕ))
offset_table =
    -- a text that ends but could go on: 14, with its length
    ("", (14, 0))
    ∷ ("  ", (14, 2))
    ∷ ("(", (14, 1))
    ∷ ("( ", (14, 2))
    ∷ ("(A", (14, 2))
    ∷ ("A |", (14, 3))
    ∷ ("(A | ", (14, 5))
    ∷ ("A{", (14, 2))
    ∷ ("A{,", (14, 3))
    ∷ ("A{0", (14, 3))
    ∷ ("A{99,", (14, 5))
    ∷ ("((((((((", (14, 8))
    -- a text that is wrong at a byte: 5, with that byte's offset
    ∷ ("*", (5, 0))
    ∷ ("|A", (5, 0))
    ∷ ("A)", (5, 1))
    ∷ ("AB", (5, 1))
    ∷ ("A**", (5, 2))
    ∷ ("A? ?", (5, 3))
    ∷ ("A???", (5, 3))
    ∷ ("A{2} ?", (5, 5))
    ∷ ("A||B", (5, 2))
    ∷ ("(A|)", (5, 3))
    ∷ ("A\tB", (5, 1))
    ∷ ("A \0", (5, 2))
    ∷ ("a", (5, 0))
    ∷ (")(((((((((", (5, 0))
    ∷ ("^AB C", (5, 2))
    -- inside braces
    ∷ ("A{ 1}", (5, 2))
    ∷ ("A{1 }", (5, 3))
    ∷ ("A{,}", (5, 3))
    ∷ ("A{,0}", (5, 3))
    ∷ ("A{0}", (5, 3))
    ∷ ("A{00}", (5, 3))
    ∷ ("A{07}", (5, 3))
    ∷ ("A{100}", (5, 4))
    ∷ ("A{0,0}", (5, 4))
    ∷ ("A{30,2", (5, 5))
    ∷ ("A{3,2", (14, 5))
    ∷ ("A{3,2}", (5, 5))
    ∷ ("A{3,29", (14, 6))
    ∷ ("A{99,98", (5, 6))
    ∷ ("A{99,9", (14, 6))
    ∷ ("A{25,2", (14, 6))
    ∷ ("A{25,24", (5, 6))
    ∷ ("A{25,2}", (5, 6))
    ∷ ("A{3,1x", (5, 5))
    ∷ ("A{3,100", (5, 6))
    -- a text of the language, and one that is in order but for its depth
    ∷ ("A{3,29}?", (0, 0))
    ∷ ("(((((((((A)))))))))", (4, 0))
    ∷ []

unfoldable pub answered : String → ℕ × ℕ
unfolding answer_of offset_at bytes
answered text = (answer_of (bytes text), offset_at (bytes text) (answer_of (bytes text)))

pub offsets_hold : map (λ r. answered r.0) offset_table ≡ map (λ r. r.1) offset_table
unfolding answered offset_table
offsets_hold = refl

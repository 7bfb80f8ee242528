-- The grammar (specs/Language) and the reading function (specs/Reader) agree: a text has a tree
-- exactly if the reading function finds one, and then that one alone. GrammarSound and
-- GrammarComplete have the two halves; these three statements are what others cite.
use mathlib.Core.Path.{◌≡◌, refl, sym, ◌∙◌}
use mathlib.Core.List.{List}
use mathlib.Core.Logic.{◌↔◌}
use mathlib.Core.Option.{Option, none, some}
use Prim.Native.Nat.{ℕ}
use native.Mathlib.Omega.{arith}
use Rattle.rules.specs.Language.{Tree, pattern, Written}
use Rattle.rules.specs.Reader.{tree_of}
use Rattle.laws.proofs.GrammarSound.{found-written}
use Rattle.laws.proofs.GrammarComplete.{written-found}

-- the tree that is found is the tree that is written
pub tree-exactly : (text : List ℕ) (p : Tree pattern) → (tree_of text ≡ some p) ↔ Written p text
tree-exactly text p = (found-written p text, written-found p text)

-- none is found exactly if the text is outside the pattern language
pub outside-exactly : (text : List ℕ) → (tree_of text ≡ none) ↔ ((p : Tree pattern) → Written p text → ⊥)
outside-exactly text = (unread, back (tree_of text) refl)
  where
    unread : tree_of text ≡ none → (p : Tree pattern) → Written p text → ⊥
    unread e p w = let f = written-found p text w in let z : ◌≡◌ {A = ℕ} 0 1 = cc in omega arith

    back : (x : Option (Tree pattern)) → tree_of text ≡ x → ((p : Tree pattern) → Written p text → ⊥) → tree_of text ≡ none
    back none e f = e
    back (some p) e f = absurd (f p (found-written p text e))

-- a text has at most one tree
pub one_tree : {p q : Tree pattern} {text : List ℕ} → Written p text → Written q text → p ≡ q
one_tree {p} {q} {text} a b = let e : some p ≡ some q = sym (written-found p text a) ∙ written-found q text b in cc

-- Laws of nodes that are put.
use mathlib.Core.Path.{◌≡◌, refl, sym, ap, ◌∙◌}
use mathlib.Core.Bool.{Bool, true, false}
use mathlib.Core.List.{List, [], ◌∷◌, ◌++◌}
use Prim.Native.Nat.{ℕ, suc, ◌+◌, ◌-◌, ◌*◌, ◌/◌, ◌%◌, ◌<◌, ◌≤◌}
use native.Mathlib.Omega.{arith}
use lib.Dec.{eqb}
use borrow.Author.Tests.{eq-eqb, ne_eqb, eqb-true, eqb-false}
use lib.ListN.{length, get_or, set, take, drop, length-append, length-set, get_or-append}
use lib.Seq.{sets-eq, length-take-le, get_or-append-add, get_or-set_other}
use Rattle.rules.specs.Basics.{pick}
use Rattle.nodes.specs.Nodes.{node_at, put_node, sort_of, word_of, form_of, number_of, bit_of_bool}
use Rattle.nodes.specs.declared.Form.{Form}
use Rattle.nodes.specs.declared.Form.TheVariants.{Bare, Star, Plus, Opt, Exactly, AtLeast, AtMost, Between, Other}
use Rattle.nodes.specs.declared.Sort.{Sort}
use Rattle.nodes.specs.declared.Sort.TheVariants.{Letter, Anchor, Empty, Sequence, Alternation, Group}
use Rattle.nodes.specs.declared.Node.{Node}

put_sets : (s : List ℕ) (i : ℕ) (n : Node) → 8 * i + 8 ≤ length s
    → put_node s i n ≡ take (i * 8) s ++ (word_of n.sort ∷ (number_of n.form * 2 + bit_of_bool n.lazy) ∷ n.low ∷ n.high ∷ n.left ∷ n.right ∷ n.height ∷ n.places ∷ []) ++ drop
    (i * 8 + 8) s
unfolding put_node
put_sets s i n h =
    ap (λ (k : ℕ). set (set (set (set (set (set (set (set s (i * 8) (word_of n.sort)) k (number_of n.form * 2 + bit_of_bool n.lazy)) (i * 8 + 2) n.low) (i * 8 + 3) n.high)
    (i * 8 + 4) n.left) (i * 8 + 5) n.right) (i * 8 + 6) n.height) (i * 8 + 7) n.places) (let e : i * 8 + 1 ≡ suc (i * 8) = omega arith in e)
    ∙ ap (λ (k : ℕ). set (set (set (set (set (set (set (set s (i * 8) (word_of n.sort)) (suc (i * 8)) (number_of n.form * 2 + bit_of_bool n.lazy)) k n.low) (i * 8 + 3) n.high)
    (i * 8 + 4) n.left) (i * 8 + 5) n.right) (i * 8 + 6) n.height) (i * 8 + 7) n.places) (let e : i * 8 + 2 ≡ suc (suc (i * 8)) = omega arith in e)
    ∙ ap (λ (k : ℕ). set (set (set (set (set (set (set (set s (i * 8) (word_of n.sort)) (suc (i * 8)) (number_of n.form * 2 + bit_of_bool n.lazy)) (suc (suc (i * 8))) n.low) k
    n.high) (i * 8 + 4) n.left) (i * 8 + 5) n.right) (i * 8 + 6) n.height) (i * 8 + 7) n.places)
    (let e : i * 8 + 3 ≡ suc (suc (suc (i * 8))) = omega arith in e)
    ∙ ap (λ (k : ℕ). set (set (set (set (set (set (set (set s (i * 8) (word_of n.sort)) (suc (i * 8)) (number_of n.form * 2 + bit_of_bool n.lazy)) (suc (suc (i * 8))) n.low)
    (suc (suc (suc (i * 8)))) n.high) k n.left) (i * 8 + 5) n.right) (i * 8 + 6) n.height) (i * 8 + 7) n.places)
    (let e : i * 8 + 4 ≡ suc (suc (suc (suc (i * 8)))) = omega arith in e)
    ∙ ap (λ (k : ℕ). set (set (set (set (set (set (set (set s (i * 8) (word_of n.sort)) (suc (i * 8)) (number_of n.form * 2 + bit_of_bool n.lazy)) (suc (suc (i * 8))) n.low)
    (suc (suc (suc (i * 8)))) n.high) (suc (suc (suc (suc (i * 8))))) n.left) k n.right) (i * 8 + 6) n.height) (i * 8 + 7) n.places)
    (let e : i * 8 + 5 ≡ suc (suc (suc (suc (suc (i * 8))))) = omega arith in e)
    ∙ ap (λ (k : ℕ). set (set (set (set (set (set (set (set s (i * 8) (word_of n.sort)) (suc (i * 8)) (number_of n.form * 2 + bit_of_bool n.lazy)) (suc (suc (i * 8))) n.low)
    (suc (suc (suc (i * 8)))) n.high) (suc (suc (suc (suc (i * 8))))) n.left) (suc (suc (suc (suc (suc (i * 8)))))) n.right) k n.height) (i * 8 + 7) n.places)
    (let e : i * 8 + 6 ≡ suc (suc (suc (suc (suc (suc (i * 8)))))) = omega arith in e)
    ∙ ap (λ (k : ℕ). set (set (set (set (set (set (set (set s (i * 8) (word_of n.sort)) (suc (i * 8)) (number_of n.form * 2 + bit_of_bool n.lazy)) (suc (suc (i * 8))) n.low)
    (suc (suc (suc (i * 8)))) n.high) (suc (suc (suc (suc (i * 8))))) n.left) (suc (suc (suc (suc (suc (i * 8)))))) n.right)
    (suc (suc (suc (suc (suc (suc (i * 8))))))) n.height) k n.places) (let e : i * 8 + 7 ≡ suc (suc (suc (suc (suc (suc (suc (i * 8))))))) = omega arith in e)
    ∙ sets-eq (word_of n.sort ∷ (number_of n.form * 2 + bit_of_bool n.lazy) ∷ n.low ∷ n.high ∷ n.left ∷ n.right ∷ n.height ∷ n.places ∷ []) s (i * 8) (omega arith)

window : (s vs : List ℕ) (a k : ℕ) → a + length vs ≤ length s → k < length vs → get_or (take a s ++ vs ++ drop (a + length vs) s) (a + k) 0 ≡ get_or vs k 0
window s vs a k h l =
    let t : length (take a s) ≡ a = length-take-le a s (omega arith) in
    get_or-append (take a s ++ vs) (drop (a + length vs) s) 0 (a + k) (omega (arith, length-append (take a s) vs))
    ∙ ap (λ (j : ℕ). get_or (take a s ++ vs) (j + k) 0) (sym t)
    ∙ get_or-append-add (take a s) vs k 0

-- a sort's byte is a byte
unfoldable pub SmallSort : Sort → Type 0
SmallSort (Letter b) = b < 256
SmallSort (Anchor b) = b < 256
SmallSort Empty = Unit {0}
SmallSort Sequence = Unit {0}
SmallSort Alternation = Unit {0}
SmallSort Group = Unit {0}

sort-word : (k : Sort) → SmallSort k → sort_of (word_of k) ≡ k
unfolding sort_of SmallSort
sort-word (Letter b) h = simp (let e : b / 256 ≡ 0 = omega arith in e) (ap Letter (let e : b % 256 ≡ b = omega arith in e))
sort-word (Anchor b) h = simp (let e : (256 + b) / 256 ≡ 1 = omega arith in e) (ap Anchor (let e : (256 + b) % 256 ≡ b = omega arith in e))
sort-word Empty h = refl
sort-word Sequence h = refl
sort-word Alternation h = refl
sort-word Group h = refl

form_back : (f : ℕ) (b : Bool) → (f * 2 + bit_of_bool b) / 2 ≡ f
form_back f true = omega arith
form_back f false = omega arith

form-number : (f : Form) → form_of (number_of f) ≡ f
unfolding form_of
form-number Bare = refl
form-number Star = refl
form-number Plus = refl
form-number Opt = refl
form-number Exactly = refl
form-number AtLeast = refl
form-number AtMost = refl
form-number Between = refl
form-number (Other k) =
    simp (ne 0 (omega arith), ne 1 (omega arith), ne 2 (omega arith), ne 3 (omega arith), ne 4 (omega arith), ne 5 (omega arith), ne 6 (omega arith), ne 7 (omega arith))
    (ap Other (let e : 8 + k - 8 ≡ k = omega arith in e))
  where
    ne : (j : ℕ) → j < 8 → eqb (8 + k) j ≡ false
    ne j h = ne_eqb (8 + k) j (λ e. omega arith)

number-pick : (w j : ℕ) (a b : Form) → number_of a ≡ j → ((w ≡ j → ⊥) → number_of b ≡ w) → number_of (pick (eqb w j) a b) ≡ w
number-pick w j a b e f = go (eqb w j) refl
  where
    go : (z : Bool) → eqb w j ≡ z → number_of (pick z a b) ≡ w
    go true q = e ∙ sym (eqb-true w j q)
    go false q = f (eqb-false w j q)

number-form : (w : ℕ) → number_of (form_of w) ≡ w
unfolding form_of
number-form w =
    number-pick w 0 _ _ refl λ a.
    number-pick w 1 _ _ refl λ b.
    number-pick w 2 _ _ refl λ c.
    number-pick w 3 _ _ refl λ d.
    number-pick w 4 _ _ refl λ e.
    number-pick w 5 _ _ refl λ f.
    number-pick w 6 _ _ refl λ g.
    number-pick w 7 _ _ refl λ h. omega arith

-- a form that is read tells the number that its word has
pub form-told : (s : List ℕ) (i : ℕ) → number_of (node_at s i).form ≡ get_or s (i * 8 + 1) 0 / 2
unfolding node_at
form-told s i = number-form (get_or s (i * 8 + 1) 0 / 2)

bit-back : (f : ℕ) (b : Bool) → eqb ((f * 2 + bit_of_bool b) % 2) 1 ≡ b
bit-back f true = eq-eqb ((f * 2 + 1) % 2) 1 (omega arith)
bit-back f false = ne_eqb ((f * 2 + 0) % 2) 1 (λ e. omega arith)

node-is : (s : List ℕ) (i : ℕ) (n : Node) → get_or s (i * 8) 0 ≡ word_of n.sort → SmallSort n.sort → get_or s (i * 8 + 1) 0 ≡ number_of n.form * 2 + bit_of_bool n.lazy
    → get_or s (i * 8 + 2) 0 ≡ n.low → get_or s (i * 8 + 3) 0 ≡ n.high → get_or s (i * 8 + 4) 0 ≡ n.left → get_or s (i * 8 + 5) 0 ≡ n.right → get_or s (i * 8 + 6) 0 ≡ n.height
    → get_or s (i * 8 + 7) 0 ≡ n.places → node_at s i ≡ n
unfolding node_at
node-is s i n e0 k e1 e2 e3 e4 e5 e6 e7 = rw (e0, sort-word n.sort k, e1, form_back (number_of n.form) n.lazy, form-number n.form, bit-back (number_of n.form) n.lazy, e2, e3, e4, e5, e6, e7) refl

-- what was put is read back
pub read-put : (s : List ℕ) (i : ℕ) (n : Node) → 8 * i + 8 ≤ length s → SmallSort n.sort → node_at (put_node s i n) i ≡ n
read-put s i n h k =
    rw (put_sets s i n h)
    (node-is (take (i * 8) s ++ vs ++ drop (i * 8 + 8) s) i n (ap (λ (j : ℕ). get_or (take (i * 8) s ++ vs ++ drop (i * 8 + 8) s) j 0)
    (let e : i * 8 ≡ i * 8 + 0 = omega arith in e) ∙ at 0 (omega arith)) k
    (at 1 (omega arith)) (at 2 (omega arith)) (at 3 (omega arith)) (at 4 (omega arith)) (at 5 (omega arith)) (at 6 (omega arith)) (at 7 (omega arith)))
  where
    vs : List ℕ
    vs = word_of n.sort ∷ (number_of n.form * 2 + bit_of_bool n.lazy) ∷ n.low ∷ n.high ∷ n.left ∷ n.right ∷ n.height ∷ n.places ∷ []

    at : (j : ℕ) → j < 8 → get_or (take (i * 8) s ++ vs ++ drop (i * 8 + 8) s) (i * 8 + j) 0 ≡ get_or vs j 0
    at j l = window s vs (i * 8) j (omega arith) l

-- a word that is not the node's is as it was
pub put_other : (s : List ℕ) (i j : ℕ) (n : Node) → (8 * i ≤ j → j < 8 * i + 8 → ⊥) → get_or (put_node s i n) j 0 ≡ get_or s j 0
unfolding put_node
put_other s i j n h =
    get_or-set_other (set (set (set (set (set (set (set s (i * 8) (word_of n.sort)) (i * 8 + 1) (number_of n.form * 2 + bit_of_bool n.lazy)) (i * 8 + 2) n.low) (i * 8 + 3) n.high)
    (i * 8 + 4) n.left) (i * 8 + 5) n.right) (i * 8 + 6) n.height) (i * 8 + 7) j n.places 0 (λ e. h (omega arith) (omega arith))
    ∙ get_or-set_other (set (set (set (set (set (set s (i * 8) (word_of n.sort)) (i * 8 + 1) (number_of n.form * 2 + bit_of_bool n.lazy)) (i * 8 + 2) n.low) (i * 8 + 3) n.high)
    (i * 8 + 4) n.left) (i * 8 + 5) n.right) (i * 8 + 6) j n.height 0 (λ e. h (omega arith) (omega arith))
    ∙ get_or-set_other (set (set (set (set (set s (i * 8) (word_of n.sort)) (i * 8 + 1) (number_of n.form * 2 + bit_of_bool n.lazy)) (i * 8 + 2) n.low) (i * 8 + 3) n.high) (i * 8 + 4)
    n.left) (i * 8 + 5) j n.right 0 (λ e. h (omega arith) (omega arith))
    ∙ get_or-set_other (set (set (set (set s (i * 8) (word_of n.sort)) (i * 8 + 1) (number_of n.form * 2 + bit_of_bool n.lazy)) (i * 8 + 2) n.low) (i * 8 + 3) n.high) (i * 8 + 4) j
    n.left 0 (λ e. h (omega arith) (omega arith))
    ∙ get_or-set_other (set (set (set s (i * 8) (word_of n.sort)) (i * 8 + 1) (number_of n.form * 2 + bit_of_bool n.lazy)) (i * 8 + 2) n.low) (i * 8 + 3) j n.high 0
    (λ e. h (omega arith) (omega arith))
    ∙ get_or-set_other (set (set s (i * 8) (word_of n.sort)) (i * 8 + 1) (number_of n.form * 2 + bit_of_bool n.lazy)) (i * 8 + 2) j n.low 0 (λ e. h (omega arith) (omega arith))
    ∙ get_or-set_other (set s (i * 8) (word_of n.sort)) (i * 8 + 1) j (number_of n.form * 2 + bit_of_bool n.lazy) 0 (λ e. h (omega arith) (omega arith))
    ∙ get_or-set_other s (i * 8) j (word_of n.sort) 0 (λ e. h (omega arith) (omega arith))

pub put_length : (s : List ℕ) (i : ℕ) (n : Node) → length (put_node s i n) ≡ length s
unfolding put_node
put_length s i n = simp length-set

-- another node is as it was
pub node-other : (s : List ℕ) (i j : ℕ) (n : Node) → (j ≡ i → ⊥) → node_at (put_node s i n) j ≡ node_at s j
unfolding node_at
node-other s i j n h = rw (zeroth, at 1 (omega arith), at 2 (omega arith), at 3 (omega arith), at 4 (omega arith), at 5 (omega arith), at 6 (omega arith), at 7 (omega arith))
    refl
  where
    zeroth : get_or (put_node s i n) (j * 8) 0 ≡ get_or s (j * 8) 0
    zeroth = put_other s i (j * 8) n (λ a b. h (omega arith))

    at : (k : ℕ) → k < 8 → get_or (put_node s i n) (j * 8 + k) 0 ≡ get_or s (j * 8 + k) 0
    at k l = put_other s i (j * 8 + k) n (λ a b. h (omega arith))

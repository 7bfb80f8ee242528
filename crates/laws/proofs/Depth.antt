-- The readers (specs/Reader) end behind where they begin (`read-shorter`), so the depth `depth` is
-- enough: with more, nothing else is found (`read-enough`), and any reading that is deep enough
-- gives `tree_of` (`tree-by_depth`).
use mathlib.Core.Path.{◌≡◌, refl, ap, ◌∙◌}
use mathlib.Core.Bool.{Bool, true, false}
use mathlib.Core.List.{List}
use Prim.Native.Nat.{ℕ, zero, suc, ◌+◌, ◌*◌, ◌≤◌, ◌<◌}
use native.Mathlib.Omega.{arith}
use lib.Dec.{eqb}
use lib.ListN.{length}
use borrow.Author.Tests.{eqb-true}
use Rattle.rules.specs.Basics.{is_letter}
use Rattle.rules.specs.Language.{Rank, pattern, branch, factor, primary, Tree, more, next, a_mark, spell, spaces}
use Rattle.rules.specs.Reader.{Reading, got, bad, peek, rest, skip_spaces, Marked, unmarked, broken, marked, quantifier, branch_ends, under, alt_on, alt_with, seq_on, seq_with, times_on, times_with, closed, parted, simple, primary_on, read, rank_of, depth, whole_tree, tree_of}
use Rattle.laws.proofs.GrammarSound.{pick-both, in_letters, peeked, skipped, marked-spelled}
use Rattle.laws.proofs.GrammarComplete.{spaces-length, mark-longer}

-- ---- what is left is shorter

pub skip_shorter : (s : List ℕ) → length (skip_spaces s) ≤ length s
skip_shorter s =
    let k = skipped s in
    let e : length s ≡ length (spaces k.0 (skip_spaces s)) = ap length k.1 in
    omega (arith, spaces-length k.0 (skip_spaces s))

-- behind a byte that is not 0, and spaces
rest-shorter : (s : List ℕ) (b : ℕ) → 1 ≤ b → peek s ≡ b → length (skip_spaces (rest s)) < length s
rest-shorter s b h e =
    let l : length s ≡ suc (length (rest s)) = ap length (peeked s b h e) in
    omega (arith, skip_shorter (rest s))

byte_shorter : (s : List ℕ) (b : ℕ) → 1 ≤ b → eqb (peek s) b ≡ true → length (skip_spaces (rest s)) < length s
byte_shorter s b h e = rest-shorter s b h (eqb-true (peek s) b e)

unfoldable pub Shorter : {A : Type 0} → List ℕ → Reading A → Type 0
Shorter s (bad v) = Unit {0}
Shorter s (got x u) = length u < length s

under-shorter : {A B : Type 0} (f : A → B) (s u : List ℕ) (r : Reading A) → length u ≤ length s → Shorter u r → Shorter s (under f r)
unfolding Shorter under
under-shorter f s u (bad w) l h = tt
under-shorter f s u (got x v) l h = omega arith

alt_shorter : (again : List ℕ → Reading (Tree pattern)) (s : List ℕ) (r : Reading (Tree branch))
    → ((u : List ℕ) → Shorter u (again u)) → Shorter s r → Shorter s (alt_with again r)
unfolding Shorter alt_with alt_on
alt_shorter again s (bad w) f h = tt
alt_shorter again s (got b u) f h = on (eqb (peek u) 124) refl
  where
    on : (t : Bool) → eqb (peek u) 124 ≡ t → Shorter s (alt_on t again b u)
    on true e =
        under-shorter (more b) s (skip_spaces (rest u)) (again (skip_spaces (rest u))) (omega (arith, byte_shorter u 124 (omega arith) e)) (f (skip_spaces (rest u)))
    on false e = h

seq-shorter : (again : List ℕ → Reading (Tree branch)) (s : List ℕ) (r : Reading (Tree factor))
    → ((u : List ℕ) → Shorter u (again u)) → Shorter s r → Shorter s (seq_with again r)
unfolding Shorter seq_with seq_on
seq-shorter again s (bad w) f h = tt
seq-shorter again s (got b u) f h = on (branch_ends (peek u))
  where
    on : (t : Bool) → Shorter s (seq_on t again b u)
    on true = h
    on false = under-shorter (next b) s u (again u) (omega arith) (f u)

times-shorter : (s : List ℕ) (r : Reading (Tree primary)) → Shorter s r → Shorter s (times_with r)
unfolding Shorter times_with times_on
times-shorter s (bad w) h = tt
times-shorter s (got x u) h = on (quantifier u) refl
  where
    on : (m : Marked) → quantifier u ≡ m → Shorter s (times_on x u m)
    on unmarked e = h
    on (broken v) e = tt
    on (marked f z v) e =
        let k = marked-spelled u f z v e in
        let l : length u ≡ length (spell (a_mark f z) (spaces k.0 v)) = ap length k.2 in
        omega (arith, mark-longer f z (spaces k.0 v), spaces-length k.0 v)

closed-shorter : (s u : List ℕ) (r : Reading (Tree pattern)) → length u ≤ length s → Shorter u r → Shorter s (closed r)
unfolding Shorter closed
closed-shorter s u (bad w) l h = tt
closed-shorter s u (got p v) l h = pick-both (Shorter s) (eqb (peek v) 41) _ _ (λ e. omega (arith, byte_shorter v 41 (omega arith) e)) (λ e. tt)

simple-shorter : (s : List ℕ) → Shorter s (simple s)
unfolding Shorter simple
simple-shorter s =
    pick-both (Shorter s) (eqb (peek s) 94) _ _ (λ e. byte_shorter s 94 (omega arith) e) λ e1.
    pick-both (Shorter s) (eqb (peek s) 36) _ _ (λ e. byte_shorter s 36 (omega arith) e) λ e2.
    pick-both (Shorter s) (is_letter (peek s)) _ _
    (λ e. pick-both (Shorter s) (is_letter (peek (rest s))) _ _ (λ d. tt) (λ d. rest-shorter s (peek s) (omega (arith, (in_letters (peek s) e).0)) refl))
    (λ e. tt)

parted-shorter : (again : List ℕ → Reading (Tree pattern)) (s u : List ℕ) (t : Bool) → eqb (peek u) 41 ≡ t → length u ≤ length s
    → ((v : List ℕ) → Shorter v (again v)) → Shorter s (parted t again u)
unfolding Shorter parted
parted-shorter again s u true e l f = omega (arith, byte_shorter u 41 (omega arith) e)
parted-shorter again s u false e l f = closed-shorter s u (again u) l (f u)

primary-shorter : (again : List ℕ → Reading (Tree pattern)) (s : List ℕ) → ((v : List ℕ) → Shorter v (again v)) → (t : Bool) → eqb (peek s) 40 ≡ t → Shorter s (primary_on t again s)
unfolding primary_on
primary-shorter again s f true e =
    let l = byte_shorter s 40 (omega arith) e in
    parted-shorter again s (skip_spaces (rest s)) (eqb (peek (skip_spaces (rest s))) 41) refl (omega arith) f
primary-shorter again s f false e = simple-shorter s

pub read-shorter : (n : ℕ) (k : Rank) (s : List ℕ) → Shorter s (read n k s)
unfolding read Shorter
read-shorter zero k s = tt
read-shorter (suc n) pattern s = alt_shorter (read n pattern) s (read n branch s) (read-shorter n pattern) (read-shorter n branch s)
read-shorter (suc n) branch s = seq-shorter (read n branch) s (read n factor s) (read-shorter n branch) (read-shorter n factor s)
read-shorter (suc n) factor s = times-shorter s (read n primary s) (read-shorter n primary s)
read-shorter (suc n) primary s = primary-shorter (read n pattern) s (read-shorter n pattern) (eqb (peek s) 40) refl

-- ---- two readings that are deep enough

alt_same : (f g : List ℕ → Reading (Tree pattern)) (s : List ℕ) (r : Reading (Tree branch)) → Shorter s r
    → ((u : List ℕ) → length u < length s → f u ≡ g u) → alt_with f r ≡ alt_with g r
unfolding Shorter alt_with alt_on
alt_same f g s (bad w) h e = refl
alt_same f g s (got b u) h e = on (eqb (peek u) 124) refl
  where
    on : (t : Bool) → eqb (peek u) 124 ≡ t → alt_on t f b u ≡ alt_on t g b u
    on true q = ap (under (more b)) (e (skip_spaces (rest u)) (omega (arith, byte_shorter u 124 (omega arith) q)))
    on false q = refl

seq-same : (f g : List ℕ → Reading (Tree branch)) (s : List ℕ) (r : Reading (Tree factor)) → Shorter s r
    → ((u : List ℕ) → length u < length s → f u ≡ g u) → seq_with f r ≡ seq_with g r
unfolding Shorter seq_with seq_on
seq-same f g s (bad w) h e = refl
seq-same f g s (got b u) h e = on (branch_ends (peek u))
  where
    on : (t : Bool) → seq_on t f b u ≡ seq_on t g b u
    on true = refl
    on false = ap (under (next b)) (e u h)

primary-same : (f g : List ℕ → Reading (Tree pattern)) (s : List ℕ) → ((u : List ℕ) → length u < length s → f u ≡ g u)
    → (t : Bool) → eqb (peek s) 40 ≡ t → primary_on t f s ≡ primary_on t g s
unfolding primary_on parted
primary-same f g s e true q = on (eqb (peek (skip_spaces (rest s))) 41)
  where
    on : (t : Bool) → parted t f (skip_spaces (rest s)) ≡ parted t g (skip_spaces (rest s))
    on true = refl
    on false = ap closed (e (skip_spaces (rest s)) (byte_shorter s 40 (omega arith) q))
primary-same f g s e false q = refl

pub read-enough : (n m : ℕ) (k : Rank) (s : List ℕ) → depth k s ≤ n → depth k s ≤ m → read n k s ≡ read m k s
unfolding read depth rank_of
read-enough zero m k s h g = absurd (omega arith)
read-enough (suc n) zero k s h g = absurd (omega arith)
read-enough (suc n) (suc m) pattern s h g =
    alt_same (read n pattern) (read m pattern) s (read n branch s) (read-shorter n branch s) (λ u l. read-enough n m pattern u (omega arith) (omega arith))
    ∙ ap (alt_with (read m pattern)) (read-enough n m branch s (omega arith) (omega arith))
read-enough (suc n) (suc m) branch s h g =
    seq-same (read n branch) (read m branch) s (read n factor s) (read-shorter n factor s) (λ u l. read-enough n m branch u (omega arith) (omega arith))
    ∙ ap (seq_with (read m branch)) (read-enough n m factor s (omega arith) (omega arith))
read-enough (suc n) (suc m) factor s h g = ap times_with (read-enough n m primary s (omega arith) (omega arith))
read-enough (suc n) (suc m) primary s h g =
    primary-same (read n pattern) (read m pattern) s (λ u l. read-enough n m pattern u (omega arith) (omega arith)) (eqb (peek s) 40) refl

pub tree-by_depth : (n : ℕ) (s : List ℕ) → depth pattern (skip_spaces s) ≤ n → tree_of s ≡ whole_tree (read n pattern (skip_spaces s))
unfolding tree_of depth rank_of
tree-by_depth n s h = ap whole_tree (read-enough (4 * length s + 4) n pattern (skip_spaces s) (omega (arith, skip_shorter s)) h)

-- What is written in a text the reading function finds: `written-found`. By induction on the tree:
-- where the tokens of a phrase, then others that may follow it, are laid, the reader of its rank
-- finds the phrase and stops where the others begin, if its depth is at least `depth`. What may
-- follow is told by classes of tokens, and what a reader looks at by the first byte of the next
-- token.
use mathlib.Core.Path.{◌≡◌, refl, sym, ap, ◌∙◌, subst}
use mathlib.Core.Bool.{Bool, true, false, true≢false}
use mathlib.Core.List.{List, [], ◌∷◌}
use mathlib.Core.Option.{some}
use Prim.Native.Nat.{ℕ, zero, suc, ◌+◌, ◌*◌, ◌-◌, ◌/◌, ◌%◌, ◌≤◌, ◌<◌}
use native.Mathlib.Omega.{arith}
use lib.Dec.{eqb, ltb, leb}
use lib.ListN.{length}
use borrow.Author.Tests.{ltb-true, ltb-false, le-leb, eq-eqb, ne_eqb}
use Rattle.rules.specs.Basics.{pick, is_letter}
use Rattle.rules.specs.Language.{Form, star, plus, opt, exactly, at_least, at_most, between, InBounds, Rank, pattern, branch, factor, primary, Tree, one, more, last, next, bare, times, letter, caret, dollar, empty, group, Token, a_letter, a_caret, a_dollar, opening, closing, a_bar, a_mark, tokens, digits, mark, spell, Proper, lettered, letter_first, spaces, Laid, Written}
use Rattle.rules.specs.Reader.{Reading, got, peek, rest, skip_spaces, is_digit, number, bound_reached, reaching, bounded, marked, reluctant, shut, up_to, from, braces, quantifier, branch_ends, under, alt_on, alt_with, seq_on, seq_with, times_on, times_with, closed, parted, simple, primary_on, read, rank_of, depth, whole_tree, tree_of}
use Rattle.laws.proofs.GrammarSound.{range_in, letter-in}

-- ---- what may follow: a phrase of a rank is followed by the end, or by a token of at least that
-- class

class : Token → ℕ
class (a_mark f z) = 0
class (a_letter b) = 1
class a_caret = 1
class a_dollar = 1
class opening = 1
class a_bar = 2
class closing = 3

classes : List Token → ℕ
classes [] = 4
classes (t ∷ ts) = class t

-- what the first byte of a token of class c is not
record Facts (c b : ℕ) : Type 0 where
  space : b ≡ 32 → ⊥
  mark_1 : 1 ≤ c → b ≡ 42 → ⊥
  mark_2 : 1 ≤ c → b ≡ 43 → ⊥
  mark_3 : 1 ≤ c → b ≡ 63 → ⊥
  mark_4 : 1 ≤ c → b ≡ 123 → ⊥
  part : 3 ≤ c → b ≡ 124 → ⊥
  stop : 2 ≤ c → branch_ends b ≡ true
  going : c ≡ 1 → branch_ends b ≡ false

at_mark : (b : ℕ) → (b ≡ 32 → ⊥) → Facts 0 b
at_mark b h =
    record {
      space = h;
      mark_1 = λ c. absurd (omega arith);
      mark_2 = λ c. absurd (omega arith);
      mark_3 = λ c. absurd (omega arith);
      mark_4 = λ c. absurd (omega arith);
      part = λ c. absurd (omega arith);
      stop = λ c. absurd (omega arith);
      going = λ c. absurd (omega arith);
    }

at-start : (b : ℕ) → (b ≡ 32 → ⊥) → (b ≡ 42 → ⊥) → (b ≡ 43 → ⊥) → (b ≡ 63 → ⊥) → (b ≡ 123 → ⊥) → branch_ends b ≡ false → Facts 1 b
at-start b h1 h2 h3 h4 h5 e =
    record {
      space = h1;
      mark_1 = λ c. h2;
      mark_2 = λ c. h3;
      mark_3 = λ c. h4;
      mark_4 = λ c. h5;
      part = λ c. absurd (omega arith);
      stop = λ c. absurd (omega arith);
      going = λ c. e;
    }

letter-goes : (b : ℕ) → 65 ≤ b → b ≤ 90 → branch_ends b ≡ false
unfolding branch_ends
letter-goes b l h = simp (ne_eqb b 0 (λ e. omega arith), ne_eqb b 124 (λ e. omega arith), ne_eqb b 41 (λ e. omega arith))

mark-facts : (f : Form) (u : List ℕ) → Facts 0 (peek (mark f u))
unfolding peek mark
mark-facts star u = at_mark 42 (λ e. omega arith)
mark-facts plus u = at_mark 43 (λ e. omega arith)
mark-facts opt u = at_mark 63 (λ e. omega arith)
mark-facts (exactly n) u = at_mark 123 (λ e. omega arith)
mark-facts (at_least n) u = at_mark 123 (λ e. omega arith)
mark-facts (at_most m) u = at_mark 123 (λ e. omega arith)
mark-facts (between n m) u = at_mark 123 (λ e. omega arith)

token_facts : (t : Token) (u : List ℕ) → Proper t → Facts (class t) (peek (spell t u))
unfolding class peek spell Proper branch_ends
token_facts (a_letter b) u p =
    let l = p.0 in
    let h = p.1 in
    at-start b (λ e. omega arith) (λ e. omega arith) (λ e. omega arith) (λ e. omega arith) (λ e. omega arith) (letter-goes b l h)
token_facts a_caret u p = at-start 94 (λ e. omega arith) (λ e. omega arith) (λ e. omega arith) (λ e. omega arith) (λ e. omega arith) refl
token_facts a_dollar u p = at-start 36 (λ e. omega arith) (λ e. omega arith) (λ e. omega arith) (λ e. omega arith) (λ e. omega arith) refl
token_facts opening u p = at-start 40 (λ e. omega arith) (λ e. omega arith) (λ e. omega arith) (λ e. omega arith) (λ e. omega arith) refl
token_facts a_bar u p =
    record {
      space = λ e. omega arith;
      mark_1 = λ c e. omega arith;
      mark_2 = λ c e. omega arith;
      mark_3 = λ c e. omega arith;
      mark_4 = λ c e. omega arith;
      part = λ c. absurd (omega arith);
      stop = λ c. refl;
      going = λ c. absurd (omega arith);
    }
token_facts closing u p =
    record {
      space = λ e. omega arith;
      mark_1 = λ c e. omega arith;
      mark_2 = λ c e. omega arith;
      mark_3 = λ c e. omega arith;
      mark_4 = λ c e. omega arith;
      part = λ c e. omega arith;
      stop = λ c. refl;
      going = λ c. absurd (omega arith);
    }
token_facts (a_mark f true) u p = mark-facts f (63 ∷ u)
token_facts (a_mark f false) u p = mark-facts f u

facts : (ts : List Token) (r : List ℕ) → Laid ts r → Facts (classes ts) (peek r)
unfolding Laid classes peek branch_ends
facts [] r h =
    rw h (record {
      space = λ e. omega arith;
      mark_1 = λ c e. omega arith;
      mark_2 = λ c e. omega arith;
      mark_3 = λ c e. omega arith;
      mark_4 = λ c e. omega arith;
      part = λ c e. omega arith;
      stop = λ c. refl;
      going = λ c. absurd (omega arith);
    })
facts (t ∷ ts) r h = subst (λ (x : List ℕ). Facts (class t) (peek x)) (sym h.2) (token_facts t (spaces h.0 h.1) h.3)

-- every phrase begins with a token of class 1
starts : {k : Rank} (x : Tree k) (ts : List Token) → classes (tokens x ts) ≡ 1
unfolding tokens classes class
starts (one b) ts = starts b ts
starts (more b p) ts = starts b _
starts (last f) ts = starts f ts
starts (next f b) ts = starts f _
starts (bare x) ts = starts x ts
starts (times x f z) ts = starts x _
starts (letter b) ts = refl
starts caret ts = refl
starts dollar ts = refl
starts empty ts = refl
starts (group p) ts = refl

-- ---- spaces

skip_spaces_lem : (n : ℕ) (r : List ℕ) → (peek r ≡ 32 → ⊥) → skip_spaces (spaces n r) ≡ r
unfolding spaces skip_spaces peek
skip_spaces_lem zero [] h = refl
skip_spaces_lem zero (b ∷ r) h = simp (ne_eqb b 32 h)
skip_spaces_lem (suc n) r h = skip_spaces_lem n r h

pub spaces-length : (n : ℕ) (r : List ℕ) → length (spaces n r) ≡ n + length r
unfolding spaces
spaces-length zero r = omega arith
spaces-length (suc n) r = let e = spaces-length n r in omega arith

behind-spaces : (P : ℕ → Type 0) (n : ℕ) (r : List ℕ) → P 32 → P (peek r) → P (peek (spaces n r))
unfolding spaces peek
behind-spaces P zero r h g = g
behind-spaces P (suc n) r h g = h

no-letter_mark : (f : Form) (u : List ℕ) → is_letter (peek (mark f u)) ≡ false
unfolding peek mark is_letter
no-letter_mark star u = refl
no-letter_mark plus u = refl
no-letter_mark opt u = refl
no-letter_mark (exactly n) u = refl
no-letter_mark (at_least n) u = refl
no-letter_mark (at_most m) u = refl
no-letter_mark (between n m) u = refl

no-letter_first : (ts : List Token) (r : List ℕ) → Laid ts r → letter_first ts ≡ false → is_letter (peek r) ≡ false
unfolding Laid peek spell is_letter letter_first
no-letter_first [] r h e = rw h refl
no-letter_first (a_letter c ∷ ts) r h e = absurd (true≢false e)
no-letter_first (a_caret ∷ ts) r h e = rw h.2 refl
no-letter_first (a_dollar ∷ ts) r h e = rw h.2 refl
no-letter_first (opening ∷ ts) r h e = rw h.2 refl
no-letter_first (closing ∷ ts) r h e = rw h.2 refl
no-letter_first (a_bar ∷ ts) r h e = rw h.2 refl
no-letter_first (a_mark f true ∷ ts) r h e = rw h.2 (no-letter_mark f (63 ∷ spaces h.0 h.1))
no-letter_first (a_mark f false ∷ ts) r h e = rw h.2 (no-letter_mark f (spaces h.0 h.1))

-- ---- quantifiers

a-digit : (b : ℕ) → 48 ≤ b → b ≤ 57 → is_digit b ≡ true
unfolding is_digit
a-digit b l h = range_in 48 57 b l h

number-finds : (n c : ℕ) (s : List ℕ) → n ≤ 99 → is_digit c ≡ false → number (digits n (c ∷ s)) ≡ got n (c ∷ s)
unfolding number digits peek rest
number-finds n c s h d = go (ltb n 10) refl
  where
    go : (t : Bool) → ltb n 10 ≡ t → number (pick t ((48 + n) ∷ c ∷ s) ((48 + n / 10) ∷ (48 + n % 10) ∷ c ∷ s)) ≡ got n (c ∷ s)
    go true e =
        let l = ltb-true n 10 e in
        let v : 48 + n - 48 ≡ n = omega arith in
        simp (a-digit (48 + n) (omega arith) (omega arith), d) (ap (λ (x : ℕ). got x (c ∷ s)) v)
    go false e =
        let l = ltb-false n 10 e in
        let v : 10 * (48 + n / 10 - 48) + (48 + n % 10 - 48) ≡ n = omega arith in
        let d₁ = a-digit (48 + n / 10) (omega arith) (omega arith) in
        let d₂ = a-digit (48 + n % 10) (omega arith) (omega arith) in
        simp (d₁, d₂, ne_eqb (48 + n / 10) 48 (λ z. omega arith)) (ap (λ (x : ℕ). got x (c ∷ s)) v)

-- the first digit of a number from 1 to 99
first-digit : (m : ℕ) (s : List ℕ) → 1 ≤ m → m ≤ 99 → (49 ≤ peek (digits m s)) × (peek (digits m s) ≤ 57) × (m ≤ 10 * (peek (digits m s) - 48) + 9)
unfolding digits peek
first-digit m s l h = go (ltb m 10) refl
  where
    go : (t : Bool) → ltb m 10 ≡ t
        → (49 ≤ peek (pick t ((48 + m) ∷ s) ((48 + m / 10) ∷ (48 + m % 10) ∷ s))) × (peek (pick t ((48 + m) ∷ s) ((48 + m / 10) ∷ (48 + m % 10) ∷ s)) ≤ 57)
        × (m ≤ 10 * (peek (pick t ((48 + m) ∷ s) ((48 + m / 10) ∷ (48 + m % 10) ∷ s)) - 48) + 9)
    go true e = let k = ltb-true m 10 e in (omega arith, omega arith, omega arith)
    go false e = let k = ltb-false m 10 e in (omega arith, omega arith, omega arith)

reaching-finds : (n m c : ℕ) (s : List ℕ) → 1 ≤ m → n ≤ m → m ≤ 99 → is_digit c ≡ false → reaching n (digits m (c ∷ s)) ≡ got m (c ∷ s)
unfolding reaching bound_reached
reaching-finds n m c s l r h d =
    let f = first-digit m (c ∷ s) l h in
    let a : leb n (10 * (peek (digits m (c ∷ s)) - 48) + 9) ≡ true = le-leb n (10 * (peek (digits m (c ∷ s)) - 48) + 9) (omega (arith, f.2)) in
    simp (range_in 49 57 (peek (digits m (c ∷ s))) f.0 f.1, a, number-finds m c s h d, le-leb n m r)

in_bounded : (f : Form) → InBounds f → bounded f ≡ true
unfolding bounded InBounds
in_bounded star h = refl
in_bounded plus h = refl
in_bounded opt h = refl
in_bounded (exactly n) h = simp (le-leb 1 n h.0, le-leb n 99 h.1)
in_bounded (at_least n) h = le-leb n 99 h
in_bounded (at_most m) h = simp (le-leb 1 m h.0, le-leb m 99 h.1)
in_bounded (between n m) h = simp (le-leb 1 m h.0, le-leb n m h.1, le-leb m 99 h.2)

shut-finds : (f : ℕ → Form) (n : ℕ) (s : List ℕ) → InBounds (f n) → shut f (got n (125 ∷ s)) ≡ reluctant (f n) s
unfolding shut peek rest
shut-finds f n s h = simp (in_bounded (f n) h)

no-comma : (n : ℕ) (s : List ℕ) → eqb (peek (digits n s)) 44 ≡ false
unfolding digits peek
no-comma n s = ne_eqb _ _ (go (ltb n 10))
  where
    go : (t : Bool) → peek (pick t ((48 + n) ∷ s) ((48 + n / 10) ∷ (48 + n % 10) ∷ s)) ≡ 44 → ⊥
    go true e = omega arith
    go false e = omega arith

no-brace : (n : ℕ) (s : List ℕ) → n ≤ 99 → eqb (peek (digits n s)) 125 ≡ false
unfolding digits peek
no-brace n s h = ne_eqb _ _ (go (ltb n 10) refl)
  where
    go : (t : Bool) → ltb n 10 ≡ t → peek (pick t ((48 + n) ∷ s) ((48 + n / 10) ∷ (48 + n % 10) ∷ s)) ≡ 125 → ⊥
    go true l e = let k = ltb-true n 10 l in omega arith
    go false l e = omega arith

mark-finds : (f : Form) (s : List ℕ) → InBounds f → quantifier (mark f s) ≡ reluctant f s
unfolding quantifier mark peek rest braces from up_to InBounds is_digit
mark-finds star s h = refl
mark-finds plus s h = refl
mark-finds opt s h = refl
mark-finds (exactly n) s h = simp (no-comma n (125 ∷ s), number-finds n 125 s h.1 refl) (shut-finds exactly n s h)
mark-finds (at_least n) s h = simp (no-comma n (44 ∷ 125 ∷ s), number-finds n 44 (125 ∷ s) h refl, le-leb n 99 h)
mark-finds (at_most m) s h = simp (reaching-finds 1 m 125 s h.0 h.0 h.1 refl) (shut-finds at_most m s h)
mark-finds (between n m) s h =
    let e = number-finds n 44 (digits m (125 ∷ s)) (omega (arith, h.1, h.2)) refl in
    simp (no-comma n (44 ∷ digits m (125 ∷ s)), e, no-brace m (125 ∷ s) h.2, reaching-finds n m 125 s h.0 h.1 h.2 refl) (shut-finds (between n) m s h)

quantifier-finds : (f : Form) (z : Bool) (n : ℕ) (r : List ℕ) → InBounds f → (peek r ≡ 32 → ⊥) → (peek r ≡ 63 → ⊥) → quantifier (spell (a_mark f z) (spaces n r)) ≡ marked f z r
unfolding spell reluctant peek rest
quantifier-finds f true n r i h g = mark-finds f (63 ∷ spaces n r) i ∙ ap (marked f true) (skip_spaces_lem n r h)
quantifier-finds f false n r i h g =
    mark-finds f (spaces n r) i
    ∙ (let e : eqb (peek (spaces n r)) 63 ≡ false = ne_eqb _ _ (behind-spaces (λ b. b ≡ 63 → ⊥) n r (λ q. omega arith) g) in
    simp e (ap (marked f false) (skip_spaces_lem n r h)))

-- ---- the readers

record Found (k : Rank) (x : Tree k) (ts : List Token) (s : List ℕ) (r : Reading (Tree k)) : Type 0 where
  left : List ℕ
  is : r ≡ got x left
  laid : Laid ts left
  less : length left < length s

find_one : (m : ℕ) (s : List ℕ) (ts : List Token) (b : Tree branch) → 3 ≤ classes ts → Found branch b ts s (read m branch s) → Found pattern (one b) ts s (read (suc m) pattern s)
unfolding read alt_with alt_on
find_one m s ts b c h =
    record {
      left = h.left;
      is = simp (h.is, ne_eqb (peek h.left) 124 ((facts ts h.left h.laid).part c));
      laid = h.laid;
      less = h.less;
    }

-- behind a token of one byte: the spaces are skipped
after : (ts : List Token) (b n : ℕ) (u v : List ℕ) → u ≡ b ∷ spaces n v → Laid ts v → (skip_spaces (rest u) ≡ v) × (length v < length u) × (peek u ≡ b)
unfolding rest peek
after ts b n u v q h = (
  ap (λ (x : List ℕ). skip_spaces (rest x)) q ∙ skip_spaces_lem n v (facts ts v h).space,
  (let l : length u ≡ suc (length (spaces n v)) = ap length q in omega (arith, spaces-length n v)),
  ap peek q,
)

find_more : (m : ℕ) (s : List ℕ) (ts : List Token) (b : Tree branch) (p : Tree pattern) → Found branch b (a_bar ∷ tokens p ts) s (read m branch s)
    → ((u : List ℕ) → Laid (tokens p ts) u → length u < length s → Found pattern p ts u (read m pattern u)) → Found pattern (more b p) ts s (read (suc m) pattern s)
unfolding read alt_with alt_on under Laid spell
find_more m s ts b p h f =
    let a = after (tokens p ts) 124 h.laid.0 h.left h.laid.1 h.laid.2 h.laid.5 in
    let g = f h.laid.1 h.laid.5 (omega (arith, a.1, h.less)) in
    record {
      left = g.left;
      is = simp (h.is, eq-eqb (peek h.left) 124 a.2, a.0, g.is);
      laid = g.laid;
      less = omega (arith, a.1, h.less, g.less);
    }

find_last : (m : ℕ) (s : List ℕ) (ts : List Token) (f : Tree factor) → 2 ≤ classes ts → Found factor f ts s (read m factor s) → Found branch (last f) ts s (read (suc m) branch s)
unfolding read seq_with seq_on
find_last m s ts f c h = record { left = h.left; is = simp (h.is, (facts ts h.left h.laid).stop c); laid = h.laid; less = h.less }

find_next : (m : ℕ) (s : List ℕ) (ts : List Token) (x : Tree factor) (b : Tree branch) → Found factor x (tokens b ts) s (read m factor s)
    → ((u : List ℕ) → Laid (tokens b ts) u → length u < length s → Found branch b ts u (read m branch u)) → Found branch (next x b) ts s (read (suc m) branch s)
unfolding read seq_with seq_on under
find_next m s ts x b h f =
    let g = f h.left h.laid h.less in
    record {
      left = g.left;
      is = simp (h.is, (facts (tokens b ts) h.left h.laid).going (starts b ts), g.is);
      laid = g.laid;
      less = omega (arith, h.less, g.less);
    }

find_bare : (m : ℕ) (s : List ℕ) (ts : List Token) (x : Tree primary) → 1 ≤ classes ts → Found primary x ts s (read m primary s)
    → Found factor (bare x) ts s (read (suc m) factor s)
unfolding read times_with times_on quantifier
find_bare m s ts x c h =
    let k = facts ts h.left h.laid in
    record {
      left = h.left;
      is =
          simp (
            h.is,
            ne_eqb (peek h.left) 42 (k.mark_1 c),
            ne_eqb (peek h.left) 43 (k.mark_2 c),
            ne_eqb (peek h.left) 63 (k.mark_3 c),
            ne_eqb (peek h.left) 123 (k.mark_4 c),
          );
      laid = h.laid;
      less = h.less;
    }

two_ways : (t : Bool) (a b c : ℕ) (s : List ℕ) → length s < length (pick t (a ∷ s) (b ∷ c ∷ s))
two_ways true a b c s = omega arith
two_ways false a b c s = omega arith

digits-longer : (n : ℕ) (s : List ℕ) → length s < length (digits n s)
unfolding digits
digits-longer n s = two_ways (ltb n 10) (48 + n) (48 + n / 10) (48 + n % 10) s

form_longer : (f : Form) (s : List ℕ) → length s < length (mark f s)
unfolding mark
form_longer star s = omega arith
form_longer plus s = omega arith
form_longer opt s = omega arith
form_longer (exactly n) s = let e = digits-longer n (125 ∷ s) in omega arith
form_longer (at_least n) s = let e = digits-longer n (44 ∷ 125 ∷ s) in omega arith
form_longer (at_most n) s = let e = digits-longer n (125 ∷ s) in omega arith
form_longer (between n m) s = let e = digits-longer m (125 ∷ s) in let d = digits-longer n (44 ∷ digits m (125 ∷ s)) in omega arith

pub mark-longer : (f : Form) (z : Bool) (s : List ℕ) → length s < length (spell (a_mark f z) s)
unfolding spell
mark-longer f true s = let e = form_longer f (63 ∷ s) in omega arith
mark-longer f false s = form_longer f s

find_times : (m : ℕ) (s : List ℕ) (ts : List Token) (x : Tree primary) (f : Form) (z : Bool) → 1 ≤ classes ts → Found primary x (a_mark f z ∷ ts) s (read m primary s)
    → Found factor (times x f z) ts s (read (suc m) factor s)
unfolding read times_with times_on Laid Proper
find_times m s ts x f z c h =
    let k = facts ts h.laid.1 h.laid.5 in
    let q : quantifier h.left ≡ marked f z h.laid.1 = ap quantifier h.laid.2 ∙ quantifier-finds f z h.laid.0 h.laid.1 h.laid.3 k.space (k.mark_3 c) in
    let l : length h.left ≡ length (spell (a_mark f z) (spaces h.laid.0 h.laid.1)) = ap length h.laid.2 in
    record {
      left = h.laid.1;
      is = simp (h.is, q);
      laid = h.laid.5;
      less = omega (arith, h.less, spaces-length h.laid.0 h.laid.1, mark-longer f z (spaces h.laid.0 h.laid.1));
    }

find_letter : (m : ℕ) (s : List ℕ) (ts : List Token) (b : ℕ) → Laid (a_letter b ∷ ts) s → Found primary (letter b) ts s (read (suc m) primary s)
unfolding read primary_on simple Laid spell Proper rest peek lettered
find_letter m s ts b h =
    let a = after ts b h.0 s h.1 h.2 h.5 in
    let e : rest s ≡ spaces h.0 h.1 = ap rest h.2 in
    let i : is_letter (peek (rest s)) ≡ false = rw e (gap h.0 (h.4 refl)) in
    record {
      left = h.1;
      is =
          simp (
            a.2,
            ne_eqb b 40 (λ q. omega (arith, h.3.0)),
            ne_eqb b 94 (λ q. omega (arith, h.3.1)),
            ne_eqb b 36 (λ q. omega (arith, h.3.0)),
            letter-in b h.3.0 h.3.1,
            i,
            a.0,
          );
      laid = h.5;
      less = a.1;
    }
  where
    first : (t : Bool) → letter_first ts ≡ t → (letter_first ts ≡ true → 1 ≤ 0) → is_letter (peek h.1) ≡ false
    first true e g = absurd (let z = g e in omega arith)
    first false e g = no-letter_first ts h.1 h.5 e

    gap : (n : ℕ) → (letter_first ts ≡ true → 1 ≤ n) → is_letter (peek (spaces n h.1)) ≡ false
    gap zero g = first (letter_first ts) refl g
    gap (suc n) g = refl

find_caret : (m : ℕ) (s : List ℕ) (ts : List Token) → Laid (a_caret ∷ ts) s → Found primary caret ts s (read (suc m) primary s)
unfolding read primary_on simple Laid spell
find_caret m s ts h =
    let a = after ts 94 h.0 s h.1 h.2 h.5 in
    record { left = h.1; is = simp (a.2, a.0); laid = h.5; less = a.1 }

find_dollar : (m : ℕ) (s : List ℕ) (ts : List Token) → Laid (a_dollar ∷ ts) s → Found primary dollar ts s (read (suc m) primary s)
unfolding read primary_on simple Laid spell
find_dollar m s ts h =
    let a = after ts 36 h.0 s h.1 h.2 h.5 in
    record { left = h.1; is = simp (a.2, a.0); laid = h.5; less = a.1 }

find_empty : (m : ℕ) (s : List ℕ) (ts : List Token) → Laid (opening ∷ closing ∷ ts) s → Found primary empty ts s (read (suc m) primary s)
unfolding read primary_on parted Laid spell
find_empty m s ts h =
    let a = after (closing ∷ ts) 40 h.0 s h.1 h.2 h.5 in
    let g = h.5 in
    let b = after ts 41 g.0 h.1 g.1 g.2 g.5 in
    record { left = g.1; is = simp (a.2, a.0, b.2, b.0); laid = g.5; less = omega (arith, a.1, b.1) }

find_group : (m : ℕ) (s : List ℕ) (ts : List Token) (p : Tree pattern) → Laid (opening ∷ tokens p (closing ∷ ts)) s
    → ((u : List ℕ) → Laid (tokens p (closing ∷ ts)) u → length u < length s → Found pattern p (closing ∷ ts) u (read m pattern u))
    → Found primary (group p) ts s (read (suc m) primary s)
unfolding read primary_on parted closed Laid spell
find_group m s ts p h f =
    let a = after (tokens p (closing ∷ ts)) 40 h.0 s h.1 h.2 h.5 in
    let k = facts (tokens p (closing ∷ ts)) h.1 h.5 in
    let n : eqb (peek h.1) 41 ≡ false = not-shut (peek h.1) (k.going (starts p (closing ∷ ts))) in
    let g = f h.1 h.5 a.1 in
    let l = g.laid in
    let b = after ts 41 l.0 g.left l.1 l.2 l.5 in
    record { left = l.1; is = simp (a.2, a.0, n, g.is, b.2, b.0); laid = l.5; less = omega (arith, a.1, g.less, b.1) }
  where
    not-shut : (b : ℕ) → branch_ends b ≡ false → eqb b 41 ≡ false
    not-shut b e = ne_eqb b 41 (λ q. true≢false (sym (ap branch_ends q) ∙ e))

at_suc : (P : ℕ → Type 0) (k : ℕ) → ((m : ℕ) → k ≤ m → P (suc m)) → (n : ℕ) → k + 1 ≤ n → P n
at_suc P k f zero h = absurd (omega arith)
at_suc P k f (suc m) h = f m (omega arith)

-- with enough depth, what is laid is found
finds : {k : Rank} (x : Tree k) (ts : List Token) (s : List ℕ) (m : ℕ) → rank_of k ≤ classes ts → Laid (tokens x ts) s → depth k s ≤ m → Found k x ts s (read m k s)
unfolding depth rank_of tokens classes class
finds (one b) ts s m c l = at_suc (λ m. Found pattern (one b) ts s (read m pattern s)) (4 * length s + 3)
    (λ m d. find_one m s ts b c (finds b ts s m (omega arith) l (omega arith))) m
finds (more b p) ts s m c l = at_suc (λ m. Found pattern (more b p) ts s (read m pattern s)) (4 * length s + 3)
    (λ m d. find_more m s ts b p (finds b (a_bar ∷ tokens p ts) s m (omega arith) l (omega arith)) λ u g h. finds p ts u m c g (omega arith)) m
finds (last f) ts s m c l = at_suc (λ m. Found branch (last f) ts s (read m branch s)) (4 * length s + 2)
    (λ m d. find_last m s ts f c (finds f ts s m (omega arith) l (omega arith))) m
finds (next f b) ts s m c l = at_suc (λ m. Found branch (next f b) ts s (read m branch s)) (4 * length s + 2)
    (λ m d. find_next m s ts f b (finds f (tokens b ts) s m (omega (arith, starts b ts)) l (omega arith)) λ u g h. finds b ts u m c g (omega arith)) m
finds (bare x) ts s m c l = at_suc (λ m. Found factor (bare x) ts s (read m factor s)) (4 * length s + 1)
    (λ m d. find_bare m s ts x c (finds x ts s m (omega arith) l (omega arith))) m
finds (times x f z) ts s m c l = at_suc (λ m. Found factor (times x f z) ts s (read m factor s)) (4 * length s + 1)
    (λ m d. find_times m s ts x f z c (finds x (a_mark f z ∷ ts) s m (omega arith) l (omega arith))) m
finds (letter b) ts s m c l = at_suc (λ m. Found primary (letter b) ts s (read m primary s)) (4 * length s + 0) (λ m d. find_letter m s ts b l) m
finds caret ts s m c l = at_suc (λ m. Found primary caret ts s (read m primary s)) (4 * length s + 0) (λ m d. find_caret m s ts l) m
finds dollar ts s m c l = at_suc (λ m. Found primary dollar ts s (read m primary s)) (4 * length s + 0) (λ m d. find_dollar m s ts l) m
finds empty ts s m c l = at_suc (λ m. Found primary empty ts s (read m primary s)) (4 * length s + 0) (λ m d. find_empty m s ts l) m
finds (group p) ts s m c l = at_suc (λ m. Found primary (group p) ts s (read m primary s)) (4 * length s + 0)
    (λ m d. find_group m s ts p l λ u g h. finds p (closing ∷ ts) u m (omega arith) g (omega arith)) m

-- ---- whole texts

pub written-found : (p : Tree pattern) (s : List ℕ) → Written p s → tree_of s ≡ some p
unfolding tree_of Laid classes rank_of depth whole_tree
written-found p s w =
    let k = facts (tokens p []) w.rest w.laid in
    let e : skip_spaces s ≡ w.rest = ap skip_spaces w.is ∙ skip_spaces_lem w.front w.rest k.space in
    let l : length s ≡ w.front + length w.rest = ap length w.is ∙ spaces-length w.front w.rest in
    let f = finds p [] w.rest (4 * length s + 4) (omega arith) w.laid (omega arith) in
    rw e (rw f.is (ended-there f.left f.laid))
  where
    ended-there : (u : List ℕ) → u ≡ [] → whole_tree (got p u) ≡ some p
    ended-there u q = rw q refl

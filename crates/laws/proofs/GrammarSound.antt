-- What the reading function finds is written in the text: `found-written`; and what it has read of
-- any text begins a text of the language: `read-begins`. Each reader's result is `Good`. Where it
-- finds a tree, the bytes read spell it: put in front of any tokens that are laid behind them, its
-- tokens are laid there. Where it stops, more bytes behind those read spell some tree. Bounds and
-- letters that are read are in order.
use mathlib.Core.Path.{◌≡◌, refl, sym, ap, ◌∙◌, subst}
use mathlib.Core.Bool.{Bool, true, false, true≢false, false≢true, and-eq-true_iff}
use mathlib.Core.List.{List, [], ◌∷◌, ◌++◌, append_assoc}
use mathlib.Core.Option.{some}
use Prim.Native.Nat.{ℕ, zero, suc, ◌+◌, ◌*◌, ◌-◌, ◌/◌, ◌%◌, ◌≤◌, max}
use native.Mathlib.Omega.{arith}
use lib.Dec.{eqb, leb, ltb}
use lib.ListN.{length}
use borrow.Author.Tests.{eqb-true, eqb-false, ne_eqb, leb-true, le-leb, lt-ltb, le-ltb}
use Rattle.rules.specs.Basics.{pick, in_range, is_letter}
use Rattle.rules.specs.Language.{Form, star, plus, opt, exactly, at_least, at_most, between, InBounds, Rank, pattern, branch, factor, primary, Tree, one, more, last, next, bare, times, letter, caret, group, Token, a_letter, a_caret, a_dollar, opening, closing, a_bar, a_mark, tokens, digits, mark, spell, Proper, lettered, letter_first, spaces, Laid, Written, BeginsText}
use Rattle.rules.specs.Reader.{Reading, got, bad, left, peek, rest, skip_spaces, is_digit, number, bound_reached, reaching, bounded, Marked, unmarked, broken, marked, reluctant, shut, up_to, from, braces, quantifier, branch_ends, under, alt_on, alt_with, seq_on, seq_with, times_on, times_with, closed, parted, simple, primary_on, read, whole_tree, tree_of}

-- ---- tests and bytes

pub pick-both : {A : Type 0} (P : A → Type 0) (t : Bool) (x y : A) → (t ≡ true → P x) → (t ≡ false → P y) → P (pick t x y)
pick-both P true x y f g = f refl
pick-both P false x y f g = g refl

pub both : (t u : Bool) → pick t u false ≡ true → (t ≡ true) × (u ≡ true)
both true u e = (refl, e)
both false u e = absurd (false≢true e)

pub in_range_lem : (lo hi b : ℕ) → in_range lo hi b ≡ true → (lo ≤ b) × (b ≤ hi)
unfolding in_range
in_range_lem lo hi b e = let h = (and-eq-true_iff (leb lo b) (leb b hi)).0 e in (leb-true _ _ h.0, leb-true _ _ h.1)

pub range_in : (lo hi b : ℕ) → lo ≤ b → b ≤ hi → in_range lo hi b ≡ true
unfolding in_range
range_in lo hi b l h = simp (le-leb _ _ l, le-leb _ _ h)

pub in_letters : (b : ℕ) → is_letter b ≡ true → (65 ≤ b) × (b ≤ 90)
unfolding is_letter
in_letters b e = in_range_lem 65 90 b e

pub letter-in : (b : ℕ) → 65 ≤ b → b ≤ 90 → is_letter b ≡ true
unfolding is_letter
letter-in b l h = range_in 65 90 b l h

in_digits : (b : ℕ) → is_digit b ≡ true → (48 ≤ b) × (b ≤ 57)
unfolding is_digit
in_digits b e = in_range_lem 48 57 b e

-- a byte that is not 0 stands first
pub peeked : (s : List ℕ) (b : ℕ) → 1 ≤ b → peek s ≡ b → s ≡ b ∷ rest s
unfolding peek rest
peeked [] b h e = absurd (omega arith)
peeked (c ∷ s) b h e = ap (λ (x : ℕ). x ∷ s) e

pub skipped : (s : List ℕ) → (n : ℕ) × (s ≡ spaces n (skip_spaces s))
unfolding skip_spaces spaces
skipped [] = (0, refl)
skipped (b ∷ s) = go (eqb b 32) refl (skipped s)
  where
    go : (t : Bool) → eqb b 32 ≡ t → (n : ℕ) × (s ≡ spaces n (skip_spaces s)) → (n : ℕ) × (b ∷ s ≡ spaces n (pick t (skip_spaces s) (b ∷ s)))
    go true e h = (suc h.0, ap (λ (x : ℕ). x ∷ s) (eqb-true _ _ e) ∙ ap (λ (x : List ℕ). 32 ∷ x) h.1)
    go false e h = (0, refl)

-- ---- bytes in front of others

spaces-front : (n : ℕ) (r : List ℕ) → spaces n [] ++ r ≡ spaces n r
unfolding spaces
spaces-front zero r = refl
spaces-front (suc n) r = ap (λ (x : List ℕ). 32 ∷ x) (spaces-front n r)

digits-front : (n : ℕ) (a r : List ℕ) → digits n a ++ r ≡ digits n (a ++ r)
unfolding digits
digits-front n a r = go (ltb n 10)
  where
    go : (t : Bool) → pick t ((48 + n) ∷ a) ((48 + n / 10) ∷ (48 + n % 10) ∷ a) ++ r ≡ pick t ((48 + n) ∷ (a ++ r)) ((48 + n / 10) ∷ (48 + n % 10) ∷ (a ++ r))
    go true = refl
    go false = refl

mark-front : (f : Form) (a r : List ℕ) → mark f a ++ r ≡ mark f (a ++ r)
unfolding mark
mark-front star a r = refl
mark-front plus a r = refl
mark-front opt a r = refl
mark-front (exactly n) a r = ap (λ (x : List ℕ). 123 ∷ x) (digits-front n (125 ∷ a) r)
mark-front (at_least n) a r = ap (λ (x : List ℕ). 123 ∷ x) (digits-front n (44 ∷ 125 ∷ a) r)
mark-front (at_most m) a r = ap (λ (x : List ℕ). 123 ∷ 44 ∷ x) (digits-front m (125 ∷ a) r)
mark-front (between n m) a r =
    ap (λ (x : List ℕ). 123 ∷ x) (digits-front n (44 ∷ digits m (125 ∷ a)) r ∙ ap (λ (x : List ℕ). digits n (44 ∷ x)) (digits-front m (125 ∷ a) r))

spell-front : (t : Token) (n : ℕ) (r : List ℕ) → spell t (spaces n []) ++ r ≡ spell t (spaces n r)
unfolding spell
spell-front (a_letter c) n r = ap (λ (x : List ℕ). c ∷ x) (spaces-front n r)
spell-front a_caret n r = ap (λ (x : List ℕ). 94 ∷ x) (spaces-front n r)
spell-front a_dollar n r = ap (λ (x : List ℕ). 36 ∷ x) (spaces-front n r)
spell-front opening n r = ap (λ (x : List ℕ). 40 ∷ x) (spaces-front n r)
spell-front closing n r = ap (λ (x : List ℕ). 41 ∷ x) (spaces-front n r)
spell-front a_bar n r = ap (λ (x : List ℕ). 124 ∷ x) (spaces-front n r)
spell-front (a_mark f true) n r = mark-front f (63 ∷ spaces n []) r ∙ ap (λ (x : List ℕ). mark f (63 ∷ x)) (spaces-front n r)
spell-front (a_mark f false) n r = mark-front f (spaces n []) r ∙ ap (mark f) (spaces-front n r)

-- ---- what the bytes spell that are read from s to u; T puts tokens in front of others

-- they spell the tokens that T adds: tokens laid behind them may be any, as long as they begin with
-- a letter only where u does
pub record Leads (s u : List ℕ) (T : List Token → List Token) : Type 0 where
  pub front : List ℕ
  pub is : s ≡ front ++ u
  pub first : (ts : List Token) → letter_first (T ts) ≡ true → is_letter (peek s) ≡ true
  pub laid : (ts : List Token) (r : List ℕ) → Laid ts r → (letter_first ts ≡ true → is_letter (peek u) ≡ true) → Laid (T ts) (front ++ r)

-- with more bytes behind them they do so: tokens laid behind those may be any that do not begin
-- with a letter
pub record Ends (s u : List ℕ) (T : List Token → List Token) : Type 0 where
  pub front : List ℕ
  pub is : s ≡ front ++ u
  pub more : List ℕ
  pub first : (ts : List Token) → letter_first (T ts) ≡ true → is_letter (peek s) ≡ true
  pub laid : (ts : List Token) (r : List ℕ) → Laid ts r → letter_first ts ≡ false → Laid (T ts) (front ++ (more ++ r))

-- one behind the other
module _ (s u v : List ℕ) (T T' : List Token → List Token) (a : Leads s u T) where
  then-leads : Leads u v T' → Leads s v (λ ts. T (T' ts))
  then-leads b =
      record {
        front = a.front ++ b.front;
        is = a.is ∙ ap (λ (x : List ℕ). a.front ++ x) b.is ∙ sym (append_assoc a.front b.front v);
        first = λ ts. a.first (T' ts);
        laid = λ ts r l h. subst (Laid (T (T' ts))) (sym (append_assoc a.front b.front r)) (a.laid (T' ts) (b.front ++ r) (b.laid ts r l h) (b.first ts));
      }

  then-ends : Ends u v T' → Ends s v (λ ts. T (T' ts))
  then-ends b =
      record {
        front = a.front ++ b.front;
        is = a.is ∙ ap (λ (x : List ℕ). a.front ++ x) b.is ∙ sym (append_assoc a.front b.front v);
        more = b.more;
        first = λ ts. a.first (T' ts);
        laid = λ ts r l h.
            subst (Laid (T (T' ts))) (sym (append_assoc a.front b.front (b.more ++ r))) (a.laid (T' ts) (b.front ++ (b.more ++ r)) (b.laid ts r l h) (b.first ts));
      }

-- ---- tokens

-- a token that is no letter, and spaces
spelled_leads : (t : Token) (n : ℕ) (s u : List ℕ) → lettered t ≡ false → Proper t → s ≡ spell t (spaces n u) → Leads s u (λ ts. t ∷ ts)
unfolding Laid letter_first
spelled_leads t n s u l p e =
    record {
      front = spell t (spaces n []);
      is = e ∙ sym (spell-front t n u);
      first = λ ts z. absurd (true≢false (sym z ∙ l));
      laid = λ ts r k h. (n, r, spell-front t n r, p, (λ i j. absurd (true≢false (sym i ∙ l))), k);
    }

token_leads : (t : Token) (s w : List ℕ) → lettered t ≡ false → Proper t → s ≡ spell t w → Leads s (skip_spaces w) (λ ts. t ∷ ts)
token_leads t s w l p e = let k = skipped w in spelled_leads t k.0 s (skip_spaces w) l p (e ∙ ap (spell t) k.1)

-- a letter that no letter follows, and spaces
letter-leads : (b : ℕ) (s w : List ℕ) → 65 ≤ b → b ≤ 90 → is_letter (peek w) ≡ false → s ≡ b ∷ w → Leads s (skip_spaces w) (λ ts. a_letter b ∷ ts)
unfolding Laid letter_first spell peek spaces
letter-leads b s w l g i e =
    let k = skipped w in
    record {
      front = b ∷ spaces k.0 [];
      is = e ∙ ap (λ (x : List ℕ). b ∷ x) (k.1 ∙ sym (spaces-front k.0 (skip_spaces w)));
      first = λ ts z. rw e (letter-in b l g);
      laid = λ ts r m h. (k.0, r, ap (λ (x : List ℕ). b ∷ x) (spaces-front k.0 r), (l, g), (λ x y. gap k.0 k.1 (h y)), m);
    }
  where
    gap : (n : ℕ) → w ≡ spaces n (skip_spaces w) → is_letter (peek (skip_spaces w)) ≡ true → 1 ≤ n
    gap zero q y = absurd (true≢false (sym y ∙ ap (λ (x : List ℕ). is_letter (peek x)) (sym q) ∙ i))
    gap (suc n) q y = omega arith

-- a letter that touches another could be the last
letter-ends : (b : ℕ) (s w : List ℕ) → 65 ≤ b → b ≤ 90 → s ≡ b ∷ w → Ends s w (λ ts. a_letter b ∷ ts)
unfolding Laid letter_first spell peek spaces
letter-ends b s w l g e =
    record {
      front = b ∷ [];
      is = e;
      more = [];
      first = λ ts z. rw e (letter-in b l g);
      laid = λ ts r m h. (0, r, refl, (l, g), (λ x y. absurd (true≢false (sym y ∙ h))), m);
    }

-- where a primary is missing, `^` could stand
caret-ends : (s : List ℕ) → Ends s s (λ ts. a_caret ∷ ts)
unfolding Laid letter_first spell spaces
caret-ends s =
    record {
      front = [];
      is = refl;
      more = 94 ∷ [];
      first = λ ts z. absurd (false≢true z);
      laid = λ ts r m h. (0, r, refl, tt, (λ x y. absurd (false≢true x)), m);
    }

-- where a group is open, `)` could stand
closing-ends : (s : List ℕ) → Ends s s (λ ts. closing ∷ ts)
unfolding Laid letter_first spell spaces
closing-ends s =
    record {
      front = [];
      is = refl;
      more = 41 ∷ [];
      first = λ ts z. absurd (false≢true z);
      laid = λ ts r m h. (0, r, refl, tt, (λ x y. absurd (false≢true x)), m);
    }

then-closing : (s u : List ℕ) (T : List Token → List Token) → Ends s u T → Ends s u (λ ts. T (closing ∷ ts))
unfolding Laid letter_first spell spaces
then-closing s u T a =
    record {
      front = a.front;
      is = a.is;
      more = a.more ++ (41 ∷ []);
      first = λ ts. a.first (closing ∷ ts);
      laid = λ ts r m h.
          subst (Laid (T (closing ∷ ts))) (ap (λ (x : List ℕ). a.front ++ x) (sym (append_assoc a.more (41 ∷ []) r)))
          (a.laid (closing ∷ ts) (41 ∷ r) (0, r, refl, tt, (λ x y. absurd (false≢true x)), m) refl);
    }

-- ---- numbers

two_digits : (b c : ℕ) (r : List ℕ) → 49 ≤ b → b ≤ 57 → 48 ≤ c → c ≤ 57 → b ∷ c ∷ r ≡ digits (10 * (b - 48) + (c - 48)) r
unfolding digits
two_digits b c r h1 h2 h3 h4 =
    let t : ltb (10 * (b - 48) + (c - 48)) 10 ≡ false = le-ltb (10 * (b - 48) + (c - 48)) 10 (omega arith) in
    let d : b ≡ 48 + (10 * (b - 48) + (c - 48)) / 10 = omega arith in
    let e : c ≡ 48 + (10 * (b - 48) + (c - 48)) % 10 = omega arith in
    rw t (ap (λ (x : ℕ). x ∷ c ∷ r) d ∙ ap (λ (x : ℕ). (48 + (10 * (b - 48) + (c - 48)) / 10) ∷ x ∷ r) e)

one-digit : (b : ℕ) (r : List ℕ) → 48 ≤ b → b ≤ 57 → b ∷ r ≡ digits (b - 48) r
unfolding digits
one-digit b r h1 h2 =
    let t : ltb (b - 48) 10 ≡ true = lt-ltb (b - 48) 10 (omega arith) in
    let d : b ≡ 48 + (b - 48) = omega arith in
    rw t (ap (λ (x : ℕ). x ∷ r) d)

-- a number of at least lo is cut off at u: with more bytes it is one
record CutNumber (lo : ℕ) (s u : List ℕ) : Type 0 where
  front : List ℕ
  is : s ≡ front ++ u
  more : List ℕ
  value : ℕ
  least : lo ≤ value
  small : value ≤ 99
  whole_is : (r : List ℕ) → front ++ (more ++ r) ≡ digits value r

GoodN : ℕ → List ℕ → Reading ℕ → Type 0
GoodN lo s (bad u) = CutNumber lo s u
GoodN lo s (got v r) = (lo ≤ v) × (v ≤ 99) × (s ≡ digits v r)

-- a whole number is one that could end there
whole-number : (lo v : ℕ) (s u : List ℕ) → lo ≤ v → v ≤ 99 → s ≡ digits v u → CutNumber lo s u
whole-number lo v s u l h e =
    record { front = digits v []; is = e ∙ sym (digits-front v [] u); more = []; value = v; least = l; small = h; whole_is = λ r. digits-front v [] r }

number-good : (s : List ℕ) → GoodN 0 s (number s)
unfolding number GoodN digits
number-good s =
    pick-both (GoodN 0 s) (is_digit (peek s)) _ _
    (λ d. let k = in_digits (peek s) d in let q = peeked s (peek s) (omega arith) refl in
    pick-both (GoodN 0 s) (is_digit (peek (rest s))) _ _
    (λ e. let m = in_digits (peek (rest s)) e in let p = peeked (rest s) (peek (rest s)) (omega arith) refl in
    pick-both (GoodN 0 s) (eqb (peek s) 48) _ _
    (λ z. record { front = 48 ∷ []; is = peeked s 48 (omega arith) (eqb-true _ _ z); more = []; value = 0; least = omega arith; small = omega arith; whole_is = λ r. refl })
    (λ z. let y = eqb-false (peek s) 48 z in
    let w : 49 ≤ peek s = above (peek s) k.0 y in
    (omega arith, omega arith, q ∙ ap (λ (x : List ℕ). peek s ∷ x) p ∙ two_digits (peek s) (peek (rest s)) (rest (rest s)) w k.1 m.0 m.1)))
    (λ e. (omega arith, omega arith, q ∙ one-digit (peek s) (rest s) k.0 k.1)))
    (λ d. record { front = []; is = refl; more = 49 ∷ []; value = 1; least = omega arith; small = omega arith; whole_is = λ r. refl })
  where
    above : (b : ℕ) → 48 ≤ b → (b ≡ 48 → ⊥) → 49 ≤ b
    above b h n = omega (arith, n)

-- a number that begins with 1 to 9
pub number-begun : (s : List ℕ) → 49 ≤ peek s → peek s ≤ 57
    → number s ≡ pick (is_digit (peek (rest s))) (got (10 * (peek s - 48) + (peek (rest s) - 48)) (rest (rest s))) (got (peek s - 48) (rest s))
unfolding number is_digit
number-begun s l h = simp (range_in 48 57 (peek s) (omega arith) h, ne_eqb (peek s) 48 (λ e. omega arith))

-- an upper bound
reaching-good : (n : ℕ) (s : List ℕ) → n ≤ 99 → GoodN (max 1 n) s (reaching n s)
unfolding reaching GoodN bound_reached digits
reaching-good n s small =
    pick-both (GoodN (max 1 n) s) (in_range 49 57 (peek s)) _ _
    (λ d. let k = in_range_lem 49 57 (peek s) d in let q = peeked s (peek s) (omega arith) refl in
    pick-both (GoodN (max 1 n) s) (leb n (10 * (peek s - 48) + 9)) _ _
    (λ e. let l = leb-true n (10 * (peek s - 48) + 9) e in
    subst (λ (r : Reading ℕ). GoodN (max 1 n) s (bound_reached n (rest s) r)) (sym (number-begun s k.0 k.1))
    (pick-both (λ (r : Reading ℕ). GoodN (max 1 n) s (bound_reached n (rest s) r)) (is_digit (peek (rest s))) _ _
    (λ f. let m = in_digits (peek (rest s)) f in let p = peeked (rest s) (peek (rest s)) (omega arith) refl in
    pick-both (GoodN (max 1 n) s) (leb n (10 * (peek s - 48) + (peek (rest s) - 48))) _ _
    (λ g. let w = leb-true n (10 * (peek s - 48) + (peek (rest s) - 48)) g in
    (omega arith, omega arith, q ∙ ap (λ (x : List ℕ). peek s ∷ x) p ∙ two_digits (peek s) (peek (rest s)) (rest (rest s)) k.0 k.1 m.0 m.1))
    (λ g. short q k.0 k.1 l))
    (λ f.
    pick-both (GoodN (max 1 n) s) (leb n (peek s - 48)) _ _
    (λ g. let w = leb-true n (peek s - 48) g in (omega arith, omega arith, q ∙ one-digit (peek s) (rest s) (omega arith) k.1))
    (λ g. short q k.0 k.1 l))))
    (λ e. none_yet))
    (λ d. none_yet)
  where
    none_yet : CutNumber (max 1 n) s s
    none_yet = record { front = []; is = refl; more = 57 ∷ 57 ∷ []; value = 99; least = omega arith; small = omega arith; whole_is = λ r. refl }

    short : s ≡ peek s ∷ rest s → 49 ≤ peek s → peek s ≤ 57 → n ≤ 10 * (peek s - 48) + 9 → CutNumber (max 1 n) s (rest s)
    short q a b l =
        record {
          front = peek s ∷ [];
          is = q;
          more = 57 ∷ [];
          value = 10 * (peek s - 48) + 9;
          least = omega arith;
          small = omega arith;
          whole_is = λ r. two_digits (peek s) 57 r a b (omega arith) (omega arith);
        }

-- ---- quantifiers

bounded-in : (f : Form) → bounded f ≡ true → InBounds f
unfolding bounded InBounds
bounded-in star e = tt
bounded-in plus e = tt
bounded-in opt e = tt
bounded-in (exactly n) e = let h = both (leb 1 n) (leb n 99) e in (leb-true _ _ h.0, leb-true _ _ h.1)
bounded-in (at_least n) e = leb-true _ _ e
bounded-in (at_most m) e = let h = both (leb 1 m) (leb m 99) e in (leb-true _ _ h.0, leb-true _ _ h.1)
bounded-in (between n m) e =
    let h = both (leb 1 m) (pick (leb n m) (leb m 99) false) e in let g = both (leb n m) (leb m 99) h.1 in
    (leb-true _ _ h.0, leb-true _ _ g.0, leb-true _ _ g.1)

-- a quantifier is broken at u: with more bytes it is one
Broken : List ℕ → List ℕ → Type 0
Broken s u = (f : Form) × Ends s u (λ ts. a_mark f false ∷ ts)

break_ends : (f : Form) (s u front tail : List ℕ) → InBounds f → s ≡ front ++ u → ((r : List ℕ) → front ++ (tail ++ r) ≡ mark f r) → Broken s u
unfolding Broken Laid letter_first spell spaces Proper
break_ends f s u front tail i e w =
    (f, record { front = front; is = e; more = tail; first = λ ts z. absurd (false≢true z); laid = λ ts r m h. (0, r, w r, i, (λ x y. absurd (false≢true x)), m) })

-- a quantifier that is pre, a number and tail, where the number is cut off
number-breaks : (lo : ℕ) (pre tail s t u : List ℕ) (f : ℕ → Form) → t ≡ pre ++ s → ((m : ℕ) → lo ≤ m → m ≤ 99 → InBounds (f m))
    → ((m : ℕ) (r : List ℕ) → pre ++ digits m (tail ++ r) ≡ mark (f m) r) → CutNumber lo s u → Broken t u
number-breaks lo pre tail s t u f e i w c =
    break_ends (f c.value) t u (pre ++ c.front) (c.more ++ tail) (i c.value c.least c.small)
    (e ∙ ap (λ (x : List ℕ). pre ++ x) c.is ∙ sym (append_assoc pre c.front u))
    λ r. append_assoc pre c.front ((c.more ++ tail) ++ r)
    ∙ ap (λ (x : List ℕ). pre ++ (c.front ++ x)) (append_assoc c.more tail r)
    ∙ ap (λ (x : List ℕ). pre ++ x) (c.whole_is (tail ++ r))
    ∙ w c.value r

GoodM : List ℕ → Marked → Type 0
GoodM s unmarked = Unit {0}
GoodM s (broken u) = Broken s u
GoodM s (marked f z r) = (n : ℕ) × (InBounds f) × (s ≡ spell (a_mark f z) (spaces n r))

reluctant-good : (f : Form) (t s : List ℕ) → InBounds f → t ≡ mark f s → GoodM t (reluctant f s)
unfolding reluctant GoodM spell
reluctant-good f t s i e =
    pick-both (GoodM t) (eqb (peek s) 63) _ _
    (λ z. let k = skipped (rest s) in
    (k.0, i, e ∙ ap (mark f) (peeked s 63 (omega arith) (eqb-true _ _ z) ∙ ap (λ (x : List ℕ). 63 ∷ x) k.1)))
    (λ z. let k = skipped s in (k.0, i, e ∙ ap (mark f) k.1))

checked_good : (f : Form) (t s u : List ℕ) → t ≡ mark f s → Broken t u → GoodM t (pick (bounded f) (reluctant f s) (broken u))
unfolding GoodM
checked_good f t s u e h = pick-both (GoodM t) (bounded f) _ _ (λ b. reluctant-good f t s (bounded-in f b) e) (λ b. h)

shut-good : (f : ℕ → Form) (lo : ℕ) (t s : List ℕ) (r : Reading ℕ) → GoodN lo s r → ((n : ℕ) (u : List ℕ) → s ≡ digits n (125 ∷ u) → t ≡ mark (f n) u)
    → ((u : List ℕ) → CutNumber lo s u → Broken t u) → GoodM t (shut f r)
unfolding shut GoodM GoodN
shut-good f lo t s (bad u) h k j = j u h
shut-good f lo t s (got n r) h k j =
    pick-both (GoodM t) (eqb (peek r) 125) _ _
    (λ z. checked_good (f n) t (rest r) r (k n (rest r) (h.2 ∙ ap (digits n) (peeked r 125 (omega arith) (eqb-true _ _ z)))) (j r (whole-number lo n s r h.0 h.1 h.2)))
    (λ z. j r (whole-number lo n s r h.0 h.1 h.2))

-- `{n,` before `}` or an upper bound
up_to-good : (t s : List ℕ) (n : ℕ) → n ≤ 99 → t ≡ 123 ∷ digits n (44 ∷ s) → GoodM t (up_to n s)
unfolding up_to GoodM mark InBounds
up_to-good t s n small e =
    pick-both (GoodM t) (eqb (peek s) 125) _ _
    (λ z. checked_good (at_least n) t (rest s) s (e ∙ ap (λ (x : List ℕ). 123 ∷ digits n (44 ∷ x)) (peeked s 125 (omega arith) (eqb-true _ _ z)))
    (break_ends (at_least n) t s (123 ∷ digits n (44 ∷ [])) (125 ∷ []) small cut λ r. ap (λ (x : List ℕ). 123 ∷ x) (digits-front n (44 ∷ []) (125 ∷ r))))
    (λ z. shut-good (between n) (max 1 n) t s (reaching n s) (reaching-good n s small) (λ m u q. e ∙ ap (λ (x : List ℕ). 123 ∷ digits n (44 ∷ x)) q)
    λ u. number-breaks (max 1 n) (123 ∷ digits n (44 ∷ [])) (125 ∷ []) s t u (between n) cut (λ m a b. (omega arith, omega arith, b))
    λ m r. ap (λ (x : List ℕ). 123 ∷ x) (digits-front n (44 ∷ []) (digits m (125 ∷ r))))
  where
    cut : t ≡ (123 ∷ digits n (44 ∷ [])) ++ s
    cut = e ∙ ap (λ (x : List ℕ). 123 ∷ x) (sym (digits-front n (44 ∷ []) s))

-- a lower bound that is cut off could go on as `{n,}`
lower-breaks : (t s u : List ℕ) → t ≡ 123 ∷ s → CutNumber 0 s u → Broken t u
unfolding mark InBounds
lower-breaks t s u e = number-breaks 0 (123 ∷ []) (44 ∷ 125 ∷ []) s t u at_least e (λ m a b. b) (λ m r. refl)

from-good : (t s : List ℕ) (r : Reading ℕ) → t ≡ 123 ∷ s → GoodN 0 s r → GoodM t (from r)
unfolding from GoodM GoodN mark
from-good t s (bad u) e h = lower-breaks t s u e h
from-good t s (got n r) e h =
    pick-both (GoodM t) (eqb (peek r) 44) _ _
    (λ z. up_to-good t (rest r) n h.1 (e ∙ ap (λ (x : List ℕ). 123 ∷ x) (h.2 ∙ ap (digits n) (peeked r 44 (omega arith) (eqb-true _ _ z)))))
    (λ z. shut-good exactly 0 t s (got n r) h (λ m u q. e ∙ ap (λ (x : List ℕ). 123 ∷ x) q) λ u. lower-breaks t s u e)

braces-good : (t s : List ℕ) → t ≡ 123 ∷ s → GoodM t (braces s)
unfolding braces mark InBounds
braces-good t s e =
    pick-both (GoodM t) (eqb (peek s) 44) _ _
    (λ z. let c = peeked s 44 (omega arith) (eqb-true _ _ z) in
    shut-good at_most (max 1 1) t (rest s) (reaching 1 (rest s)) (reaching-good 1 (rest s) (omega arith)) (λ m u q.
    e ∙ ap (λ (x : List ℕ). 123 ∷ x) (c ∙ ap (λ (x : List ℕ). 44 ∷ x) q))
    λ u. number-breaks (max 1 1) (123 ∷ 44 ∷ []) (125 ∷ []) (rest s) t u at_most (e ∙ ap (λ (x : List ℕ). 123 ∷ x) c) (λ m a b. (omega arith, b)) (λ m r. refl))
    (λ z. from-good t s (number s) e (number-good s))

quantifier-good : (s : List ℕ) → GoodM s (quantifier s)
unfolding quantifier GoodM mark InBounds
quantifier-good s =
    pick-both (GoodM s) (eqb (peek s) 42) _ _ (λ z. reluctant-good star s (rest s) tt (peeked s 42 (omega arith) (eqb-true _ _ z))) λ z1.
    pick-both (GoodM s) (eqb (peek s) 43) _ _ (λ z. reluctant-good plus s (rest s) tt (peeked s 43 (omega arith) (eqb-true _ _ z))) λ z2.
    pick-both (GoodM s) (eqb (peek s) 63) _ _ (λ z. reluctant-good opt s (rest s) tt (peeked s 63 (omega arith) (eqb-true _ _ z))) λ z3.
    pick-both (GoodM s) (eqb (peek s) 123) _ _ (λ z. braces-good s (rest s) (peeked s 123 (omega arith) (eqb-true _ _ z))) λ z4. tt

-- a quantifier that is read is spelled there, and its bounds are in order
pub marked-spelled : (s : List ℕ) (f : Form) (z : Bool) (u : List ℕ) → quantifier s ≡ marked f z u → (n : ℕ) × (InBounds f) × (s ≡ spell (a_mark f z) (spaces n u))
unfolding GoodM
marked-spelled s f z u e = subst (GoodM s) e (quantifier-good s)

pub marked-in : (s : List ℕ) (f : Form) (z : Bool) (u : List ℕ) → quantifier s ≡ marked f z u → InBounds f
marked-in s f z u e = (marked-spelled s f z u e).1

-- ---- the readers

unfoldable pub Good : {k : Rank} → List ℕ → Reading (Tree k) → Type 0
Good {k} s (bad u) = (x : Tree k) × Ends s u (tokens x)
Good s (got x u) = Leads s u (tokens x)

alt_good : (again : List ℕ → Reading (Tree pattern)) (s : List ℕ) (r : Reading (Tree branch)) → ((u : List ℕ) → Good u (again u)) → Good s r → Good s (alt_with again r)
unfolding alt_with Good under tokens spell Proper lettered alt_on
alt_good again s (bad v) f h = (one h.0, h.1)
alt_good again s (got b u) f h = on (eqb (peek u) 124) refl
  where
    second : Leads u (skip_spaces (rest u)) (λ ts. a_bar ∷ ts) → (r : Reading (Tree pattern)) → Good (skip_spaces (rest u)) r → Good s (under (more b) r)
    second q (bad v) g = (more b g.0, then-ends s u v (tokens b) _ h (then-ends u (skip_spaces (rest u)) v (λ ts. a_bar ∷ ts) (tokens g.0) q g.1))
    second q (got p v) g = then-leads s u v (tokens b) _ h (then-leads u (skip_spaces (rest u)) v (λ ts. a_bar ∷ ts) (tokens p) q g)

    on : (t : Bool) → eqb (peek u) 124 ≡ t → Good s (alt_on t again b u)
    on true e = second (token_leads a_bar u (rest u) refl tt (peeked u 124 (omega arith) (eqb-true _ _ e))) (again (skip_spaces (rest u))) (f (skip_spaces (rest u)))
    on false e = h

seq-good : (again : List ℕ → Reading (Tree branch)) (s : List ℕ) (r : Reading (Tree factor)) → ((u : List ℕ) → Good u (again u)) → Good s r → Good s (seq_with again r)
unfolding seq_with Good under tokens seq_on
seq-good again s (bad v) f h = (last h.0, h.1)
seq-good again s (got b u) f h = on (branch_ends (peek u))
  where
    second : (r : Reading (Tree branch)) → Good u r → Good s (under (next b) r)
    second (bad v) g = (next b g.0, then-ends s u v (tokens b) (tokens g.0) h g.1)
    second (got p v) g = then-leads s u v (tokens b) (tokens p) h g

    on : (t : Bool) → Good s (seq_on t again b u)
    on true = h
    on false = second (again u) (f u)

times-good : (s : List ℕ) (r : Reading (Tree primary)) → Good s r → Good s (times_with r)
unfolding times_with Good times_on tokens GoodM Broken lettered Proper
times-good s (bad v) h = (bare h.0, h.1)
times-good s (got x u) h = on (quantifier u) (quantifier-good u)
  where
    on : (m : Marked) → GoodM u m → Good s (times_on x u m)
    on unmarked g = h
    on (broken v) g = (times x g.0 false, then-ends s u v (tokens x) (λ ts. a_mark g.0 false ∷ ts) h g.1)
    on (marked f z r) g = then-leads s u r (tokens x) (λ ts. a_mark f z ∷ ts) h (spelled_leads (a_mark f z) g.0 u r refl g.1 g.2)

closed-good : (s u : List ℕ) (r : Reading (Tree pattern)) → Leads s (skip_spaces u) (λ ts. opening ∷ ts) → Good (skip_spaces u) r → Good s (closed r)
unfolding closed Good tokens lettered Proper spell
closed-good s u (bad v) a h =
    (group h.0, then-ends s (skip_spaces u) v (λ ts. opening ∷ ts) _ a (then-closing (skip_spaces u) v (tokens h.0) h.1))
closed-good s u (got p v) a h =
    pick-both (Good s) (eqb (peek v) 41) _ _
    (λ z. then-leads s (skip_spaces u) (skip_spaces (rest v)) (λ ts. opening ∷ ts) _ a
    (then-leads (skip_spaces u) v (skip_spaces (rest v)) (tokens p) (λ ts. closing ∷ ts) h
    (token_leads closing v (rest v) refl tt (peeked v 41 (omega arith) (eqb-true _ _ z)))))
    (λ z. (group p, then-ends s (skip_spaces u) v (λ ts. opening ∷ ts) _ a (then-ends (skip_spaces u) v v (tokens p) (λ ts. closing ∷ ts) h (closing-ends v))))

parted-good : (again : List ℕ → Reading (Tree pattern)) (s u : List ℕ) → ((v : List ℕ) → Good v (again v)) → s ≡ 40 ∷ u
    → (t : Bool) → eqb (peek (skip_spaces u)) 41 ≡ t → Good s (parted t again (skip_spaces u))
unfolding parted Good tokens lettered Proper spell
parted-good again s u f e true z =
    then-leads s (skip_spaces u) (skip_spaces (rest (skip_spaces u))) (λ ts. opening ∷ ts) (λ ts. closing ∷ ts) (token_leads opening s u refl tt e)
    (token_leads closing (skip_spaces u) (rest (skip_spaces u)) refl tt (peeked (skip_spaces u) 41 (omega arith) (eqb-true _ _ z)))
parted-good again s u f e false z = closed-good s u (again (skip_spaces u)) (token_leads opening s u refl tt e) (f (skip_spaces u))

simple-good : (s : List ℕ) → Good s (simple s)
unfolding simple Good tokens lettered Proper spell
simple-good s =
    pick-both (Good s) (eqb (peek s) 94) _ _ (λ z. token_leads a_caret s (rest s) refl tt (peeked s 94 (omega arith) (eqb-true _ _ z))) λ z1.
    pick-both (Good s) (eqb (peek s) 36) _ _ (λ z. token_leads a_dollar s (rest s) refl tt (peeked s 36 (omega arith) (eqb-true _ _ z))) λ z2.
    pick-both (Good s) (is_letter (peek s)) _ _
    (λ z. let k = in_letters (peek s) z in let q = peeked s (peek s) (omega arith) refl in
    pick-both (Good s) (is_letter (peek (rest s))) _ _ (λ y. (letter (peek s), letter-ends (peek s) s (rest s) k.0 k.1 q))
    (λ y. letter-leads (peek s) s (rest s) k.0 k.1 y q))
    (λ z. (caret, caret-ends s))

primary-good : (again : List ℕ → Reading (Tree pattern)) (s : List ℕ) → ((v : List ℕ) → Good v (again v)) → (t : Bool) → eqb (peek s) 40 ≡ t → Good s (primary_on t again s)
unfolding primary_on
primary-good again s f true e = parted-good again s (rest s) f (peeked s 40 (omega arith) (eqb-true _ _ e)) (eqb (peek (skip_spaces (rest s))) 41) refl
primary-good again s f false e = simple-good s

-- `^` as a tree of any rank
caret_of : (k : Rank) → (x : Tree k) × ((s : List ℕ) → Ends s s (tokens x))
unfolding tokens
caret_of pattern = (one (last (bare caret)), caret-ends)
caret_of branch = (last (bare caret), caret-ends)
caret_of factor = (bare caret, caret-ends)
caret_of primary = (caret, caret-ends)

pub read-good : (n : ℕ) (k : Rank) (s : List ℕ) → Good s (read n k s)
unfolding read Good
read-good zero k s = ((caret_of k).0, (caret_of k).1 s)
read-good (suc n) pattern s = alt_good (read n pattern) s (read n branch s) (read-good n pattern) (read-good n branch s)
read-good (suc n) branch s = seq-good (read n branch) s (read n factor s) (read-good n branch) (read-good n factor s)
read-good (suc n) factor s = times-good s (read n primary s) (read-good n primary s)
read-good (suc n) primary s = primary-good (read n pattern) s (read-good n pattern) (eqb (peek s) 40) refl

-- a whole text
pub found-written : (p : Tree pattern) (s : List ℕ) → tree_of s ≡ some p → Written p s
unfolding tree_of Good whole_tree Laid letter_first
found-written p s e = go (read (4 * length s + 4) pattern (skip_spaces s)) (read-good (4 * length s + 4) pattern (skip_spaces s)) e
  where
    go : (r : Reading (Tree pattern)) → Good (skip_spaces s) r → whole_tree r ≡ some p → Written p s
    go (bad v) h q = let z : ◌≡◌ {A = ℕ} 0 1 = cc in absurd (omega arith)
    go (got x []) h q =
        let k = skipped s in let i : x ≡ p = cc in
        let l : Laid (tokens x []) (skip_spaces s) = subst (Laid (tokens x [])) (sym h.is) (h.laid [] [] refl (λ z. absurd (false≢true z))) in
        record { front = k.0; rest = skip_spaces s; is = k.1; laid = subst (λ (y : Tree pattern). Laid (tokens y []) (skip_spaces s)) i l }
    go (got x (b ∷ u)) h q = let z : ◌≡◌ {A = ℕ} 0 1 = cc in absurd (omega arith)

-- what is read of a text, at any depth, begins a text of the language
pub read-begins : (n : ℕ) (s : List ℕ) → (w : List ℕ) × (s ≡ w ++ left (read n pattern (skip_spaces s))) × BeginsText w
unfolding BeginsText spaces Good left Laid letter_first
read-begins n s = go (read n pattern (skip_spaces s)) (read-good n pattern (skip_spaces s))
  where
    begun : (m : ℕ) (w v : List ℕ) → spaces m w ++ v ≡ spaces m (w ++ v)
    begun zero w v = refl
    begun (suc m) w v = ap (λ (x : List ℕ). 32 ∷ x) (begun m w v)

    go : (r : Reading (Tree pattern)) → Good (skip_spaces s) r → (w : List ℕ) × (s ≡ w ++ left r) × BeginsText w
    go (bad u) h =
        let k = skipped s in let a = h.1 in (
          spaces k.0 a.front,
          k.1 ∙ ap (spaces k.0) a.is ∙ sym (begun k.0 a.front u),
          (a.more ++ [], h.0, record { front = k.0; rest = a.front ++ (a.more ++ []); is = begun k.0 a.front (a.more ++ []); laid = a.laid [] [] refl refl }),
        )
    go (got p u) a =
        let k = skipped s in (
          spaces k.0 a.front,
          k.1 ∙ ap (spaces k.0) a.is ∙ sym (begun k.0 a.front u),
          ([], p, record { front = k.0; rest = a.front ++ []; is = begun k.0 a.front []; laid = a.laid [] [] refl (λ z. absurd (false≢true z)) }),
        )

-- The readers (specs/Reader) look at no byte behind the one at which they end or stop: with other
-- bytes behind that one, each of them ends or stops there too (`read_same`).
use mathlib.Core.Path.{◌≡◌, refl, sym, ap, ◌∙◌, subst}
use mathlib.Core.Bool.{Bool, true, false}
use mathlib.Core.List.{List, [], ◌∷◌}
use Prim.Native.Nat.{ℕ, zero, suc, ◌+◌, ◌*◌, ◌-◌, ◌≤◌, ◌<◌}
use native.Mathlib.Omega.{arith}
use lib.Dec.{eqb, leb}
use lib.ListN.{length}
use borrow.Author.Tests.{le-leb}
use Rattle.rules.specs.Basics.{pick, in_range, is_letter}
use Rattle.rules.specs.Language.{Form, star, plus, opt, exactly, at_least, at_most, between, Rank, pattern, branch, factor, primary, Tree, more, next}
use Rattle.rules.specs.Reader.{Reading, got, bad, left, peek, rest, skip_spaces, is_digit, number, bound_reached, reaching, bounded, Marked, unmarked, broken, marked, reluctant, shut, up_to, from, braces, quantifier, branch_ends, under, alt_on, alt_with, seq_on, seq_with, times_on, times_with, closed, parted, simple, primary_on, read}
use Rattle.laws.proofs.GrammarSound.{pick-both, in_range_lem, range_in}

rest-shorter : (s : List ℕ) → length (rest s) ≤ length s
unfolding rest
rest-shorter [] = omega arith
rest-shorter (b ∷ s) = omega arith

skip_shorter : (s : List ℕ) → length (skip_spaces s) ≤ length s
unfolding skip_spaces
skip_shorter [] = omega arith
skip_shorter (b ∷ s) =
    pick-both (λ (x : List ℕ). length x ≤ suc (length s)) (eqb b 32) (skip_spaces s) (b ∷ s) (λ e. omega (arith, skip_shorter s)) (λ e. omega arith)

-- other bytes v in place of the last m
module _ (m : ℕ) (v : List ℕ) where
  unfoldable pub other : List ℕ → List ℕ
  other [] = v
  other (b ∷ s) = pick (leb m (length s)) (b ∷ other s) v

  pub other-on : (b : ℕ) (s : List ℕ) → m ≤ length s → other (b ∷ s) ≡ b ∷ other s
  unfolding other
  other-on b s h = rw (le-leb m (length s) h)

  pub other-peek : (s : List ℕ) → m < length s → peek (other s) ≡ peek s
  unfolding peek
  other-peek [] h = absurd (omega arith)
  other-peek (b ∷ s) h = ap peek (other-on b s (omega arith))

  pub other-rest : (s : List ℕ) → m < length s → rest (other s) ≡ other (rest s)
  unfolding rest
  other-rest [] h = absurd (omega arith)
  other-rest (b ∷ s) h = ap rest (other-on b s (omega arith))

  pub other-skip : (s : List ℕ) → m < length (skip_spaces s) → skip_spaces (other s) ≡ other (skip_spaces s)
  unfolding skip_spaces
  other-skip [] = λ h. absurd (omega arith)
  other-skip (b ∷ s) = go (other-skip s) (eqb b 32) refl
    where
      go : (m < length (skip_spaces s) → skip_spaces (other s) ≡ other (skip_spaces s)) → (t : Bool) → eqb b 32 ≡ t → m < length (pick t (skip_spaces s) (b ∷ s))
          → skip_spaces (other (b ∷ s)) ≡ other (pick t (skip_spaces s) (b ∷ s))
      go f true e h = ap skip_spaces (other-on b s (omega (arith, skip_shorter s))) ∙ rw e (f h)
      go f false e h = ap skip_spaces (other-on b s (omega arith)) ∙ rw e (sym (other-on b s (omega arith)))

  -- behind a byte and the spaces there
  record Behind (s : List ℕ) : Type 0 where
    long : m < length s
    first : peek (other s) ≡ peek s
    skips : skip_spaces (rest (other s)) ≡ other (skip_spaces (rest s))

  behind : (s : List ℕ) → m < length (skip_spaces (rest s)) → Behind s
  behind s h =
      let k : m < length s = omega (arith, skip_shorter (rest s), rest-shorter s) in
      record { long = k; first = other-peek s k; skips = ap skip_spaces (other-rest s k) ∙ other-skip (rest s) h }

  -- ---- the same, with other bytes

  -- r is read from s on; then r' is the same with other bytes, if it ends or stops before them
  unfoldable pub Same : {A : Type 0} → List ℕ → Reading A → Reading A → Type 0
  Same s (bad u) r' = m < length u → (m < length s) × (r' ≡ bad (other u))
  Same s (got x u) r' = m < length u → (m < length s) × (r' ≡ got x (other u))

  -- the same of a quantifier; and of none
  SameM : List ℕ → Marked → Marked → Type 0
  SameM s unmarked M' = ⊥
  SameM s (broken u) M' = m < length u → (m < length s) × (M' ≡ broken (other u))
  SameM s (marked f z u) M' = m < length u → (m < length s) × (M' ≡ marked f z (other u))

  SameQ : List ℕ → Marked → Marked → Type 0
  SameQ s unmarked M' = m < length s → M' ≡ unmarked
  SameQ s (broken u) M' = m < length u → (m < length s) × (M' ≡ broken (other u))
  SameQ s (marked f z u) M' = m < length u → (m < length s) × (M' ≡ marked f z (other u))

  -- ---- numbers

  through : {A : Type 0} → Reading A → Reading A
  through (got x u) = got x (other u)
  through (bad u) = bad (other u)

  -- a number is known by its first two bytes
  number-far : (s : List ℕ) → m < length (rest s) → number (other s) ≡ through (number s)
  unfolding number through
  number-far s k =
      let l : m < length s = omega (arith, rest-shorter s) in
      pick-both (λ (r : Reading ℕ). number (other s) ≡ through r) (is_digit (peek s)) _ _
      (λ z. pick-both (λ (r : Reading ℕ). number (other s) ≡ through r) (is_digit (peek (rest s))) _ _
      (λ y. pick-both (λ (r : Reading ℕ). number (other s) ≡ through r) (eqb (peek s) 48) _ _
      (λ x. simp (other-peek s l, z, other-rest s l, other-peek (rest s) k, y, x))
      (λ x. simp (other-peek s l, z, other-rest s l, other-peek (rest s) k, y, x, other-rest (rest s) k)))
      (λ y. simp (other-peek s l, z, other-rest s l, other-peek (rest s) k, y)))
      (λ z. simp (other-peek s l, z))

  number-left : (s : List ℕ) → is_digit (peek s) ≡ true → length (left (number s)) ≤ length (rest s)
  unfolding number left
  number-left s z =
      rw z
      (pick-both (λ (r : Reading ℕ). length (left r) ≤ length (rest s)) (is_digit (peek (rest s))) _ _
      (λ y. pick-both (λ (r : Reading ℕ). length (left r) ≤ length (rest s)) (eqb (peek s) 48) _ _ (λ x. omega arith) (λ x. rest-shorter (rest s)))
      (λ y. omega arith))

  number_same : (s : List ℕ) → Same s (number s) (number (other s))
  unfolding Same through left number
  number_same s = on (is_digit (peek s)) refl
    where
      far : (r : Reading ℕ) → length (left r) ≤ length (rest s) → (m < length (rest s) → number (other s) ≡ through r) → Same s r (number (other s))
      far (bad u) l f = λ h. (omega (arith, rest-shorter s), f (omega arith))
      far (got x u) l f = λ h. (omega (arith, rest-shorter s), f (omega arith))

      on : (t : Bool) → is_digit (peek s) ≡ t → Same s (number s) (number (other s))
      on true z = far (number s) (number-left s z) (number-far s)
      on false z =
          let e : number s ≡ bad s = rw z refl in
          subst (λ (r : Reading ℕ). Same s r (number (other s))) (sym e) (λ h. (h, simp (other-peek s h, z)))

  reaching-is : (n : ℕ) (s : List ℕ) → in_range 49 57 (peek s) ≡ true → leb n (10 * (peek s - 48) + 9) ≡ true → reaching n s ≡ bound_reached n (rest s) (number s)
  unfolding reaching
  reaching-is n s z y = rw (z, y) refl

  reaching-same : (n : ℕ) (s : List ℕ) → Same s (reaching n s) (reaching n (other s))
  unfolding Same reaching bound_reached through left is_digit
  reaching-same n s =
      pick-both (λ (r : Reading ℕ). Same s r (reaching n (other s))) (in_range 49 57 (peek s)) _ _
      (λ z. pick-both (λ (r : Reading ℕ). Same s r (reaching n (other s))) (leb n (10 * (peek s - 48) + 9)) _ _
      (λ y. far z y (number s) (number-left s (let k = in_range_lem 49 57 (peek s) z in range_in 48 57 (peek s) (omega arith) k.1)) (number-far s))
      (λ y h. (h, simp (other-peek s h, z, y))))
      (λ z h. (h, simp (other-peek s h, z)))
    where
      far : in_range 49 57 (peek s) ≡ true → leb n (10 * (peek s - 48) + 9) ≡ true → (r : Reading ℕ) → length (left r) ≤ length (rest s)
          → (m < length (rest s) → number (other s) ≡ through r) → Same s (bound_reached n (rest s) r) (reaching n (other s))
      far z y r b f = go r b f
        where
          is : m < length s → reaching n (other s) ≡ bound_reached n (rest (other s)) (number (other s))
          is l = reaching-is n (other s) (ap (in_range 49 57) (other-peek s l) ∙ z) (ap (λ (b : ℕ). leb n (10 * (b - 48) + 9)) (other-peek s l) ∙ y)

          go : (r : Reading ℕ) → length (left r) ≤ length (rest s) → (m < length (rest s) → number (other s) ≡ through r) → Same s (bound_reached n (rest s) r) (reaching n (other s))
          go (bad u) b f = λ h. let l : m < length s = omega (arith, rest-shorter s) in (l, is l ∙ ap (bound_reached n (rest (other s))) (f (omega arith)))
          go (got x u) b f =
              pick-both (λ (r : Reading ℕ). Same s r (reaching n (other s))) (leb n x) _ _
              (λ w h. let l : m < length s = omega (arith, rest-shorter s) in (l, is l ∙ ap (bound_reached n (rest (other s))) (f (omega arith)) ∙ rw w refl))
              (λ w h. let l : m < length s = omega (arith, rest-shorter s) in (l, is l ∙ ap (bound_reached n (rest (other s))) (f h) ∙ rw (w, other-rest s l) refl))

  -- ---- quantifiers

  reluctant-same : (f : Form) (s : List ℕ) → SameM s (reluctant f s) (reluctant f (other s))
  unfolding reluctant SameM
  reluctant-same f s =
      pick-both (λ (M : Marked). SameM s M (reluctant f (other s))) (eqb (peek s) 63) _ _
      (λ z h. let b = behind s h in (b.long, simp (b.first, z, b.skips)))
      (λ z h. let k : m < length s = omega (arith, skip_shorter s) in (k, simp (other-peek s k, z, other-skip s h)))

  -- what is found from w on, which is read behind s
  onward : (s w : List ℕ) (M M' M'' : Marked) → (m < length w → (m < length s) × (M'' ≡ M')) → SameM w M M' → SameM s M M''
  unfolding SameM
  onward s w unmarked M' M'' e h = h
  onward s w (broken u) M' M'' e h = λ l. let k = h l in ((e k.0).0, (e k.0).1 ∙ k.1)
  onward s w (marked f z u) M' M'' e h = λ l. let k = h l in ((e k.0).0, (e k.0).1 ∙ k.1)

  shut-same : (f : ℕ → Form) (s : List ℕ) (r r' : Reading ℕ) → Same s r r' → SameM s (shut f r) (shut f r')
  unfolding shut Same SameM
  shut-same f s (bad u) r' h = λ l. let k = h l in (k.0, ap (shut f) k.1)
  shut-same f s (got n u) r' h =
      pick-both (λ (M : Marked). SameM s M (shut f r')) (eqb (peek u) 125) _ _
      (λ z. pick-both (λ (M : Marked). SameM s M (shut f r')) (bounded (f n)) _ _
      (λ y. onward s (rest u) (reluctant (f n) (rest u)) _ _
      (λ l. let k : m < length u = omega (arith, rest-shorter u) in ((h k).0, ap (shut f) (h k).1 ∙ simp (other-peek u k, z, y, other-rest u k)))
      (reluctant-same (f n) (rest u)))
      (λ y l. ((h l).0, ap (shut f) (h l).1 ∙ simp (other-peek u l, z, y))))
      (λ z l. ((h l).0, ap (shut f) (h l).1 ∙ simp (other-peek u l, z)))

  up_to-same : (n : ℕ) (s : List ℕ) → SameM s (up_to n s) (up_to n (other s))
  unfolding up_to SameM
  up_to-same n s =
      pick-both (λ (M : Marked). SameM s M (up_to n (other s))) (eqb (peek s) 125) _ _
      (λ z. pick-both (λ (M : Marked). SameM s M (up_to n (other s))) (bounded (at_least n)) _ _
      (λ y. onward s (rest s) (reluctant (at_least n) (rest s)) _ _
      (λ l. let k : m < length s = omega (arith, rest-shorter s) in (k, simp (other-peek s k, z, y, other-rest s k)))
      (reluctant-same (at_least n) (rest s)))
      (λ y l. (l, simp (other-peek s l, z, y))))
      (λ z. onward s s (shut (between n) (reaching n s)) _ _ (λ l. (l, rw (other-peek s l, z) refl)) (shut-same (between n) s (reaching n s) (reaching n (other s)) (reaching-same n s)))

  from-same : (s : List ℕ) (r r' : Reading ℕ) → Same s r r' → SameM s (from r) (from r')
  unfolding from Same SameM
  from-same s (bad u) r' h = λ l. let k = h l in (k.0, ap from k.1)
  from-same s (got n u) r' h =
      pick-both (λ (M : Marked). SameM s M (from r')) (eqb (peek u) 44) _ _
      (λ z. onward s (rest u) (up_to n (rest u)) _ _
      (λ l. let k : m < length u = omega (arith, rest-shorter u) in ((h k).0, ap from (h k).1 ∙ rw (other-peek u k, z, other-rest u k) refl))
      (up_to-same n (rest u)))
      (λ z. onward s u (shut exactly (got n u)) (shut exactly (got n (other u))) _
      (λ l. ((h l).0, ap from (h l).1 ∙ rw (other-peek u l, z) refl))
      (shut-same exactly u (got n u) (got n (other u)) (λ l. (l, refl))))

  braces-same : (s : List ℕ) → SameM s (braces s) (braces (other s))
  unfolding braces SameM
  braces-same s =
      pick-both (λ (M : Marked). SameM s M (braces (other s))) (eqb (peek s) 44) _ _
      (λ z. onward s (rest s) (shut at_most (reaching 1 (rest s))) (shut at_most (reaching 1 (other (rest s)))) _
      (λ l. let k : m < length s = omega (arith, rest-shorter s) in (k, rw (other-peek s k, z, other-rest s k) refl))
      (shut-same at_most (rest s) (reaching 1 (rest s)) (reaching 1 (other (rest s))) (reaching-same 1 (rest s))))
      (λ z. onward s s (from (number s)) (from (number (other s))) _ (λ l. (l, rw (other-peek s l, z) refl)) (from-same s (number s) (number (other s)) (number_same s)))

  -- a quantifier that is there
  there : (s : List ℕ) (M M' : Marked) → SameM s M M' → SameQ s M M'
  unfolding SameM SameQ
  there s unmarked M' h = absurd h
  there s (broken u) M' h = h
  there s (marked f z u) M' h = h

  quantifier-same : (s : List ℕ) → SameQ s (quantifier s) (quantifier (other s))
  unfolding quantifier SameQ
  quantifier-same s =
      pick-both (λ (M : Marked). SameQ s M (quantifier (other s))) (eqb (peek s) 42) _ _ (λ z. simply star (λ k. simp (other-peek s k, z, other-rest s k))) λ z1.
      pick-both (λ (M : Marked). SameQ s M (quantifier (other s))) (eqb (peek s) 43) _ _ (λ z. simply plus (λ k. simp (other-peek s k, z1, z, other-rest s k))) λ z2.
      pick-both (λ (M : Marked). SameQ s M (quantifier (other s))) (eqb (peek s) 63) _ _ (λ z. simply opt (λ k. simp (other-peek s k, z1, z2, z, other-rest s k))) λ z3.
      pick-both (λ (M : Marked). SameQ s M (quantifier (other s))) (eqb (peek s) 123) _ _
      (λ z. there s (braces (rest s)) (quantifier (other s))
      (onward s (rest s) (braces (rest s)) (braces (other (rest s))) (quantifier (other s))
      (λ l. let k : m < length s = omega (arith, rest-shorter s) in (k, rw (other-peek s k, z1, z2, z3, z, other-rest s k) refl)) (braces-same (rest s))))
      λ z4 k. simp (other-peek s k, z1, z2, z3, z4)
    where
      simply : (f : Form) → (m < length s → quantifier (other s) ≡ reluctant f (other (rest s))) → SameQ s (reluctant f (rest s)) (quantifier (other s))
      simply f e =
          there s (reluctant f (rest s)) (quantifier (other s))
          (onward s (rest s) (reluctant f (rest s)) (reluctant f (other (rest s))) (quantifier (other s))
          (λ l. let k : m < length s = omega (arith, rest-shorter s) in (k, e k)) (reluctant-same f (rest s)))

  -- ---- the readers

  alt_same : (again : List ℕ → Reading (Tree pattern)) (s : List ℕ) (r r' : Reading (Tree branch)) → ((u : List ℕ) → Same u (again u) (again (other u))) → Same s r r'
      → Same s (alt_with again r) (alt_with again r')
  unfolding alt_with alt_on Same under
  alt_same again s (bad u) r' f h = λ l. let k = h l in (k.0, ap (alt_with again) k.1)
  alt_same again s (got b u) r' f h = on (eqb (peek u) 124) refl
    where
      second : eqb (peek u) 124 ≡ true → (r : Reading (Tree pattern)) → Same (skip_spaces (rest u)) r (again (other (skip_spaces (rest u)))) → Same s (under (more b) r) (alt_with again r')
      second e (bad w) g = λ l. let k = g l in let d = behind u k.0 in let c = h d.long in (c.0, ap (alt_with again) c.1 ∙ rw (d.first, e, d.skips, k.1) refl)
      second e (got p w) g = λ l. let k = g l in let d = behind u k.0 in let c = h d.long in (c.0, ap (alt_with again) c.1 ∙ rw (d.first, e, d.skips, k.1) refl)

      on : (t : Bool) → eqb (peek u) 124 ≡ t → Same s (alt_on t again b u) (alt_with again r')
      on true e = second e (again (skip_spaces (rest u))) (f (skip_spaces (rest u)))
      on false e = λ l. let c = h l in (c.0, ap (alt_with again) c.1 ∙ rw (other-peek u l, e) refl)

  seq-same : (again : List ℕ → Reading (Tree branch)) (s : List ℕ) (r r' : Reading (Tree factor)) → ((u : List ℕ) → Same u (again u) (again (other u))) → Same s r r'
      → Same s (seq_with again r) (seq_with again r')
  unfolding seq_with seq_on Same under
  seq-same again s (bad u) r' f h = λ l. let k = h l in (k.0, ap (seq_with again) k.1)
  seq-same again s (got b u) r' f h = on (branch_ends (peek u)) refl
    where
      second : branch_ends (peek u) ≡ false → (r : Reading (Tree branch)) → Same u r (again (other u)) → Same s (under (next b) r) (seq_with again r')
      second e (bad w) g = λ l. let k = g l in let c = h k.0 in (c.0, ap (seq_with again) c.1 ∙ rw (other-peek u k.0, e, k.1) refl)
      second e (got p w) g = λ l. let k = g l in let c = h k.0 in (c.0, ap (seq_with again) c.1 ∙ rw (other-peek u k.0, e, k.1) refl)

      on : (t : Bool) → branch_ends (peek u) ≡ t → Same s (seq_on t again b u) (seq_with again r')
      on true e = λ l. let c = h l in (c.0, ap (seq_with again) c.1 ∙ rw (other-peek u l, e) refl)
      on false e = second e (again u) (f u)

  times-same : (s : List ℕ) (r r' : Reading (Tree primary)) → Same s r r' → Same s (times_with r) (times_with r')
  unfolding times_with times_on Same SameQ
  times-same s (bad u) r' h = λ l. let k = h l in (k.0, ap times_with k.1)
  times-same s (got x u) r' h = on (quantifier u) (quantifier-same u)
    where
      on : (M : Marked) → SameQ u M (quantifier (other u)) → Same s (times_on x u M) (times_with r')
      on unmarked g = λ l. let c = h l in (c.0, ap times_with c.1 ∙ rw (g l) refl)
      on (broken w) g = λ l. let k = g l in let c = h k.0 in (c.0, ap times_with c.1 ∙ rw k.1 refl)
      on (marked f z w) g = λ l. let k = g l in let c = h k.0 in (c.0, ap times_with c.1 ∙ rw k.1 refl)

  closed_same : (s : List ℕ) (r r' : Reading (Tree pattern)) → Same s r r' → Same s (closed r) (closed r')
  unfolding closed Same
  closed_same s (bad u) r' h = λ l. let k = h l in (k.0, ap closed k.1)
  closed_same s (got p u) r' h =
      pick-both (λ (r : Reading (Tree primary)). Same s r (closed r')) (eqb (peek u) 41) _ _
      (λ z l. let d = behind u l in let c = h d.long in (c.0, ap closed c.1 ∙ rw (d.first, z, d.skips) refl))
      (λ z l. let c = h l in (c.0, ap closed c.1 ∙ rw (other-peek u l, z) refl))

  simple-same : (s : List ℕ) → Same s (simple s) (simple (other s))
  unfolding simple Same
  simple-same s =
      pick-both (λ (r : Reading (Tree primary)). Same s r (simple (other s))) (eqb (peek s) 94) _ _
      (λ z l. let d = behind s l in (d.long, simp (d.first, z, d.skips))) λ z1.
      pick-both (λ (r : Reading (Tree primary)). Same s r (simple (other s))) (eqb (peek s) 36) _ _
      (λ z l. let d = behind s l in (d.long, simp (d.first, z1, z, d.skips))) λ z2.
      pick-both (λ (r : Reading (Tree primary)). Same s r (simple (other s))) (is_letter (peek s)) _ _
      (λ z. pick-both (λ (r : Reading (Tree primary)). Same s r (simple (other s))) (is_letter (peek (rest s))) _ _
      (λ y l. let k : m < length s = omega (arith, rest-shorter s) in (k, simp (other-peek s k, z1, z2, z, other-rest s k, other-peek (rest s) l, y)))
      (λ y l. let d = behind s l in let k : m < length (rest s) = omega (arith, skip_shorter (rest s)) in
      (d.long, simp (d.first, z1, z2, z, other-rest s d.long, other-peek (rest s) k, y, other-skip (rest s) l))))
      (λ z l. (l, simp (other-peek s l, z1, z2, z)))

  parted-same : (again : List ℕ → Reading (Tree pattern)) (s : List ℕ) → ((u : List ℕ) → Same u (again u) (again (other u)))
      → (t : Bool) → eqb (peek s) 41 ≡ t → Same s (parted t again s) (parted (eqb (peek (other s)) 41) again (other s))
  unfolding parted Same
  parted-same again s f true e = λ l. let d = behind s l in (d.long, rw (d.first, e, d.skips) refl)
  parted-same again s f false e = go (closed (again s)) (closed_same s (again s) (again (other s)) (f s))
    where
      go : (r : Reading (Tree primary)) → Same s r (closed (again (other s))) → Same s r (parted (eqb (peek (other s)) 41) again (other s))
      go (bad u) g = λ l. let k = g l in (k.0, rw (other-peek s k.0, e) k.1)
      go (got x u) g = λ l. let k = g l in (k.0, rw (other-peek s k.0, e) k.1)

  primary-same : (again : List ℕ → Reading (Tree pattern)) (s : List ℕ) → ((u : List ℕ) → Same u (again u) (again (other u)))
      → (t : Bool) → eqb (peek s) 40 ≡ t → Same s (primary_on t again s) (primary_on (eqb (peek (other s)) 40) again (other s))
  unfolding primary_on Same
  primary-same again s f true e =
      go (parted (eqb (peek (skip_spaces (rest s))) 41) again (skip_spaces (rest s))) (parted-same again (skip_spaces (rest s)) f (eqb (peek (skip_spaces (rest s))) 41) refl)
    where
      go : (r : Reading (Tree primary)) → Same (skip_spaces (rest s)) r (parted (eqb (peek (other (skip_spaces (rest s)))) 41) again (other (skip_spaces (rest s))))
          → Same s r (primary_on (eqb (peek (other s)) 40) again (other s))
      go (bad u) g = λ l. let k = g l in let d = behind s k.0 in (d.long, rw (d.first, e, d.skips) k.1)
      go (got x u) g = λ l. let k = g l in let d = behind s k.0 in (d.long, rw (d.first, e, d.skips) k.1)
  primary-same again s f false e = go (simple s) (simple-same s)
    where
      go : (r : Reading (Tree primary)) → Same s r (simple (other s)) → Same s r (primary_on (eqb (peek (other s)) 40) again (other s))
      go (bad u) g = λ l. let k = g l in (k.0, rw (other-peek s k.0, e) k.1)
      go (got x u) g = λ l. let k = g l in (k.0, rw (other-peek s k.0, e) k.1)

  pub read_same : (n : ℕ) (k : Rank) (s : List ℕ) → Same s (read n k s) (read n k (other s))
  unfolding read Same
  read_same zero k s = λ l. (l, refl)
  read_same (suc n) pattern s = alt_same (read n pattern) s (read n branch s) (read n branch (other s)) (read_same n pattern) (read_same n branch s)
  read_same (suc n) branch s = seq-same (read n branch) s (read n factor s) (read n factor (other s)) (read_same n branch) (read_same n factor s)
  read_same (suc n) factor s = times-same s (read n primary s) (read n primary (other s)) (read_same n primary s)
  read_same (suc n) primary s = primary-same (read n pattern) s (read_same n pattern) (eqb (peek s) 40) refl

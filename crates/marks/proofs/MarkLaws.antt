-- Laws of quantifiers: each is one way through one function.
use mathlib.Core.Path.{◌≡◌, refl, sym, ap, ◌∙◌}
use mathlib.Core.Bool.{Bool, true, false}
use mathlib.Core.List.{List}
use Prim.Native.Nat.{ℕ, ◌+◌, ◌≤◌, ◌<◌}
use native.Mathlib.Omega.{arith}
use lib.Dec.{eqb}
use mir.Val.{bool_byte}
use Rattle.rules.specs.Basics.{pick}
use lib.ListN.{length, drop}
use borrow.Author.Tests.{le-leb, lt-leb, eq-eqb, ne_eqb, eqb-true}
use Rattle.std.specs.Prelude.{Result, Ok, Err, Some, None}
use Rattle.rules.specs.Language.{Form, star, plus, opt, exactly, at_least, at_most, between, lower, upper}
use Rattle.rules.specs.Reader.{got, peek, rest, skip_spaces, number, bounded, Marked, unmarked, broken, marked, reluctant, shut, up_to, from, braces, quantifier}
use Rattle.marks.specs.Shows.{code_of, highest, high_of, Codes, bounded_by, Shows, Shown}
use Rattle.text_bytes.specs.Numerals.{Numeral, BoundReached}
use Rattle.text_bytes.specs.declared.Bound.{Bound}
use Rattle.text_bytes.specs.declared.Broken.{Broken}
use Rattle.nodes.specs.declared.Form.{Form as Kind}
use Rattle.nodes.specs.declared.Form.TheVariants.{Star, Plus, Opt, Exactly, AtLeast, AtMost, Between}
use Rattle.marks.specs.declared.Mark.{Mark}
use Rattle.text_bytes.proofs.ByteLaws.{inside, rest-drop, says-bad, says-got}

-- ---- quantifiers

weaken : (s : List ℕ) (a b : ℕ) (r : Result Mark Broken) (m : Marked) → a ≤ b → Shown s b r m → Shown s a r m
unfolding Shown
weaken s a b r unmarked h g = absurd g
weaken s a b (Err e) (broken u) h g = g
weaken s a b (Ok r) (broken u) h g = absurd g
weaken s a b (Err e) (marked f z u) h g = absurd g
weaken s a b (Ok r) (marked f z u) h g = record { codes = g.codes; lazy = g.lazy; rest = g.rest; on = omega (arith, g.on); inside = g.inside }

-- a text that is wrong at a position
abbrev broken_at : ℕ → Result Mark Broken
broken_at at = Err (record { at = at })

abbrev pub Reluct : List ℕ → ℕ → Kind → ℕ → ℕ → Mark → Type 0
Reluct s at form low high r = (f : Form) → Codes f form low high → Shown s at (Ok r) (reluctant f (drop at s))

abbrev pub Shut : List ℕ → ℕ → Kind → ℕ → ℕ → Result Mark Broken → Type 0
Shut s at form low high r = (f : ℕ → Form) → Codes (f high) form low high → bounded_by (f high) low high → Shown s at r (shut f (got high (drop at s)))

module _ (s : List ℕ) (at b : ℕ) (eb : b ≡ peek (drop at s)) where
  -- a reluctant mark is one byte
  pub reluctant-to : (k : ℕ) → at ≤ length s → k ≡ bool_byte (eqb b 63) → at + k ≤ length s
  reluctant-to k i e = go (eqb b 63) refl
    where
      go : (z : Bool) → eqb b 63 ≡ z → at + k ≤ length s
      go true q = let l = inside s at 63 (omega arith) (sym eb ∙ eqb-true b 63 q) in let z : k ≡ 1 = e ∙ ap bool_byte q in omega arith
      go false q = let z : k ≡ 0 = e ∙ ap bool_byte q in omega arith

  pub reluctant-is : (form : Kind) (low high k to : ℕ) → k ≡ bool_byte (eqb b 63) → (drop to s ≡ skip_spaces (drop (at + k) s)) × (at + k ≤ to) × (to ≤ length s)
      → Reluct s at form low high (record { form = form; low = low; high = high; lazy = eqb b 63; at = to })
  unfolding reluctant Shown
  reluctant-is form low high k to e h f g =
      let w : eqb (peek (drop at s)) 63 ≡ eqb b 63 = ap (λ (x : ℕ). eqb x 63) (sym eb) in
      rw w (go (eqb b 63) refl)
    where
      go : (z : Bool) → eqb b 63 ≡ z
          → Shown s at (Ok (record { form = form; low = low; high = high; lazy = z; at = to })) (pick z (marked f true (skip_spaces (rest (drop at s)))) (marked f false (skip_spaces (drop at s))))
      go true q =
          let n : k ≡ 1 = e ∙ ap bool_byte q in
          record { codes = g; lazy = refl; rest = ap skip_spaces (rest-drop s at) ∙ sym (h.0 ∙ ap (λ (i : ℕ). skip_spaces (drop (at + i) s)) n); on = omega (arith, h.1); inside = h.2 }
      go false q =
          let n : at + k ≡ at = (let z : k ≡ 0 = e ∙ ap bool_byte q in omega arith) in
          record { codes = g; lazy = refl; rest = sym (h.0 ∙ ap (λ (i : ℕ). skip_spaces (drop i s)) n); on = omega (arith, h.1); inside = h.2 }

  module _ (form : Kind) (low high : ℕ) where
    pub shut_open : at ≤ length s → (b ≡ 125 → ⊥) → Shut s at form low high (broken_at at)
    unfolding shut Shown
    shut_open i e f k o = simp (ne_eqb (peek (drop at s)) 125 (λ x. e (eb ∙ x))) (record { rest = refl; inside = i })

    pub shut_none : at ≤ length s → b ≡ 125 → high < 1 → Shut s at form low high (broken_at at)
    unfolding shut Shown
    shut_none i e h f k o = simp (eq-eqb (peek (drop at s)) 125 (sym eb ∙ e), o.none h) (record { rest = refl; inside = i })

    pub shut-fine : (r : Mark) → b ≡ 125 → 1 ≤ high → low ≤ high → Reluct s (at + 1) form low high r → Shut s at form low high (Ok r)
    unfolding shut
    shut-fine r e h l g f k o =
        simp (eq-eqb (peek (drop at s)) 125 (sym eb ∙ e), o.fine h l, rest-drop s at) (weaken s at (at + 1) (Ok r) _ (omega arith) (g (f high) k))

  pub up-shut : (n : ℕ) (r : Mark) → n ≤ 99 → b ≡ 125 → Reluct s (at + 1) AtLeast n 100 r → Shown s at (Ok r) (up_to n (drop at s))
  unfolding up_to bounded code_of lower high_of highest upper
  up-shut n r l e g =
      simp (eq-eqb (peek (drop at s)) 125 (sym eb ∙ e), le-leb n 99 l, rest-drop s at)
      (weaken s at (at + 1) (Ok r) _ (omega arith) (g (at_least n) (record { code = refl; from = refl; upto = refl })))

-- the bounds of the forms that are shut
exactly-by : (n : ℕ) → n ≤ 99 → bounded_by (exactly n) n n
unfolding bounded
exactly-by n l = record { none = λ h. simp (lt-leb 1 n h); fine = λ h g. simp (le-leb 1 n h, le-leb n 99 l) }

at_most-by : (m : ℕ) → m ≤ 99 → bounded_by (at_most m) 0 m
unfolding bounded
at_most-by m l = record { none = λ h. simp (lt-leb 1 m h); fine = λ h g. simp (le-leb 1 m h, le-leb m 99 l) }

between-by : (n m : ℕ) → m ≤ 99 → bounded_by (between n m) n m
unfolding bounded
between-by n m l = record { none = λ h. simp (lt-leb 1 m h); fine = λ h g. simp (le-leb 1 m h, le-leb n m g, le-leb m 99 l) }

module _ (s : List ℕ) (at b : ℕ) (eb : b ≡ peek (drop at s)) where
  pub up-bad : (n : ℕ) (e : Broken) → (b ≡ 125 → ⊥) → BoundReached s at n (Err e) → Shown s at (Err e) (up_to n (drop at s))
  unfolding up_to shut Shown
  up-bad n e g h =
      let k = says-bad s at e _ h.numeral.says in
      rw (ne_eqb (peek (drop at s)) 125 (λ x. g (eb ∙ x)), k.is) (record { rest = refl; inside = k.inside })

  pub up-got : (n : ℕ) (m : Bound) (r : Result Mark Broken) → (b ≡ 125 → ⊥) → BoundReached s at n (Ok m) → Shut s m.at Between n m.value r → Shown s at r (up_to n (drop at s))
  unfolding up_to code_of lower high_of highest upper
  up-got n m r e h g =
      let k = says-got s at m _ h.numeral.says in
      rw (ne_eqb (peek (drop at s)) 125 (λ x. e (eb ∙ x)), k.is)
      (weaken s at m.at r _ k.on (g (between n) (record { code = refl; from = refl; upto = refl }) (between-by n m.value k.small)))

  -- `{,`
  pub brace_comma_bad : (e : Broken) → b ≡ 44 → BoundReached s (at + 1) 1 (Err e) → Shown s at (Err e) (braces (drop at s))
  unfolding braces shut Shown
  brace_comma_bad e g h =
      let k = says-bad s (at + 1) e _ h.numeral.says in
      rw (eq-eqb (peek (drop at s)) 44 (sym eb ∙ g), rest-drop s at, k.is) (record { rest = refl; inside = k.inside })

  pub brace_comma : (m : Bound) (r : Result Mark Broken) → b ≡ 44 → BoundReached s (at + 1) 1 (Ok m) → Shut s m.at AtMost 0 m.value r → Shown s at r (braces (drop at s))
  unfolding braces code_of lower high_of highest upper
  brace_comma m r e h g =
      let k = says-got s (at + 1) m _ h.numeral.says in
      rw (eq-eqb (peek (drop at s)) 44 (sym eb ∙ e), rest-drop s at, k.is)
      (weaken s at m.at r _ (omega (arith, k.on)) (g at_most (record { code = refl; from = refl; upto = refl }) (at_most-by m.value k.small)))

  -- `{n`
  pub brace_bad : (e : Broken) → (b ≡ 44 → ⊥) → Numeral s at (Err e) (number (drop at s)) → Shown s at (Err e) (braces (drop at s))
  unfolding braces from Shown
  brace_bad e g h =
      let k = says-bad s at e _ h.says in
      rw (ne_eqb (peek (drop at s)) 44 (λ x. g (eb ∙ x)), k.is) (record { rest = refl; inside = k.inside })

  module _ (m : Bound) (c : ℕ) (ec : c ≡ peek (drop m.at s)) (r : Result Mark Broken) where
    pub brace_up : (b ≡ 44 → ⊥) → Numeral s at (Ok m) (number (drop at s)) → c ≡ 44 → Shown s (m.at + 1) r (up_to m.value (drop (m.at + 1) s)) → Shown s at r (braces (drop at s))
    unfolding braces from
    brace_up e h i g =
        let k = says-got s at m _ h.says in
        rw (ne_eqb (peek (drop at s)) 44 (λ x. e (eb ∙ x)), k.is, eq-eqb (peek (drop m.at s)) 44 (sym ec ∙ i), rest-drop s m.at)
        (weaken s at (m.at + 1) r _ (omega (arith, k.on)) g)

    pub brace_exactly : (b ≡ 44 → ⊥) → Numeral s at (Ok m) (number (drop at s)) → (c ≡ 44 → ⊥) → Shut s m.at Exactly m.value m.value r → Shown s at r (braces (drop at s))
    unfolding braces from code_of lower high_of highest upper
    brace_exactly e h i g =
        let k = says-got s at m _ h.says in
        rw (ne_eqb (peek (drop at s)) 44 (λ x. e (eb ∙ x)), k.is, ne_eqb (peek (drop m.at s)) 44 (λ x. i (ec ∙ x)))
        (weaken s at m.at r _ k.on (g exactly (record { code = refl; from = refl; upto = refl }) (exactly-by m.value k.small)))

-- where a quantifier has begun, as where one may stand
began : (s : List ℕ) (at : ℕ) (r : Mark) (m : Marked) → Shown s (at + 1) (Ok r) m → Shows s at (Ok (Some r)) m
unfolding Shows Shown
began s at r unmarked g = absurd g
began s at r (broken u) g = absurd g
began s at r (marked f z u) g = record { codes = g.codes; lazy = g.lazy; rest = g.rest; on = omega (arith, g.on); inside = g.inside }

began-bad : (s : List ℕ) (at : ℕ) (e : Broken) (m : Marked) → Shown s (at + 1) (Err e) m → Shows s at (Err e) m
unfolding Shows Shown
began-bad s at e unmarked g = absurd g
began-bad s at e (broken u) g = g
began-bad s at e (marked f z u) g = absurd g

module _ (s : List ℕ) (at b : ℕ) (eb : b ≡ peek (drop at s)) where
  is_eq : (c : ℕ) → b ≡ c → eqb (peek (drop at s)) c ≡ true
  is_eq c e = eq-eqb (peek (drop at s)) c (sym eb ∙ e)

  is_ne : (c : ℕ) → (b ≡ c → ⊥) → eqb (peek (drop at s)) c ≡ false
  is_ne c e = ne_eqb (peek (drop at s)) c (λ x. e (eb ∙ x))

  pub mark-star : (r : Mark) → b ≡ 42 → Reluct s (at + 1) Star 0 100 r → Shows s at (Ok (Some r)) (quantifier (drop at s))
  unfolding quantifier code_of lower high_of highest upper
  mark-star r e g = simp (is_eq 42 e, rest-drop s at) (began s at r _ (g star (record { code = refl; from = refl; upto = refl })))

  pub mark-plus : (r : Mark) → b ≡ 43 → Reluct s (at + 1) Plus 1 100 r → Shows s at (Ok (Some r)) (quantifier (drop at s))
  unfolding quantifier code_of lower high_of highest upper
  mark-plus r e g = simp (is_ne 42 (λ x. omega arith), is_eq 43 e, rest-drop s at) (began s at r _ (g plus (record { code = refl; from = refl; upto = refl })))

  pub mark-opt : (r : Mark) → b ≡ 63 → Reluct s (at + 1) Opt 0 1 r → Shows s at (Ok (Some r)) (quantifier (drop at s))
  unfolding quantifier code_of lower high_of highest upper
  mark-opt r e g = simp (is_ne 42 (λ x. omega arith), is_ne 43 (λ x. omega arith), is_eq 63 e, rest-drop s at)
      (began s at r _ (g opt (record { code = refl; from = refl; upto = refl })))

  pub mark-braces : (r : Mark) → b ≡ 123 → Shown s (at + 1) (Ok r) (braces (drop (at + 1) s)) → Shows s at (Ok (Some r)) (quantifier (drop at s))
  unfolding quantifier
  mark-braces r e g = simp (is_ne 42 (λ x. omega arith), is_ne 43 (λ x. omega arith), is_ne 63 (λ x. omega arith), is_eq 123 e, rest-drop s at) (began s at r _ g)

  pub mark-braces_bad : (r : Broken) → b ≡ 123 → Shown s (at + 1) (Err r) (braces (drop (at + 1) s)) → Shows s at (Err r) (quantifier (drop at s))
  unfolding quantifier
  mark-braces_bad r e g = simp (is_ne 42 (λ x. omega arith), is_ne 43 (λ x. omega arith), is_ne 63 (λ x. omega arith), is_eq 123 e, rest-drop s at) (began-bad s at r _ g)

  pub mark-none : (b ≡ 42 → ⊥) → (b ≡ 43 → ⊥) → (b ≡ 63 → ⊥) → (b ≡ 123 → ⊥) → Shows s at (Ok None) (quantifier (drop at s))
  unfolding quantifier Shows
  mark-none e1 e2 e3 e4 = simp (is_ne 42 e1, is_ne 43 e2, is_ne 63 e3, is_ne 123 e4) tt

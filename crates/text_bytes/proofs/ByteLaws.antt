-- Laws of bytes, spaces, letters, digits and numbers of a text: each is one way through one
-- function.
use mathlib.Core.Path.{◌≡◌, refl, sym, ap, ◌∙◌}
use mathlib.Core.Bool.{Bool, true, false}
use mathlib.Core.List.{List, [], ◌∷◌}
use Prim.Native.Nat.{ℕ, suc, ◌+◌, ◌*◌, ◌-◌, ◌≤◌, ◌<◌}
use native.Mathlib.Omega.{arith}
use native.Mathlib.Decide.{dec_lt}
use lib.Dec.{leb}
use lib.ListN.{length, get_or, drop, drop_of_length-le}
use lib.Seq.{drop-cons}
use borrow.Author.Tests.{le-leb, lt-leb, eq-eqb, ne_eqb}
use Rattle.rules.specs.Basics.{pick, in_range, is_letter}
use Rattle.rules.specs.Reader.{Reading, got, bad, peek, rest, skip_spaces, is_digit, number, bound_reached, reaching}
use Rattle.laws.proofs.GrammarSound.{in_range_lem, range_in, letter-in, in_letters, number-begun}
use Rattle.std.specs.Prelude.{Result, Ok, Err}
use Rattle.text_bytes.specs.Numerals.{SaysNumber, Stops, Numeral, BoundReached}
use Rattle.text_bytes.specs.declared.Bound.{Bound}
use Rattle.text_bytes.specs.declared.Broken.{Broken}

-- ---- bytes

pub byte : (s : List ℕ) (at : ℕ) → at < length s → get_or s at 0 ≡ peek (drop at s)
unfolding peek
byte s at h = rw (drop-cons s at 0 h) refl

pub no_byte : (s : List ℕ) (at : ℕ) → length s ≤ at → 0 ≡ peek (drop at s)
unfolding peek
no_byte s at h = rw (drop_of_length-le s h) refl

-- a byte that is not 0 stands before the end
pub inside : (s : List ℕ) (at b : ℕ) → 1 ≤ b → peek (drop at s) ≡ b → at < length s
inside s at b p e = elim (dec_lt at (length s)) [ yes l ↦ l | no g ↦ absurd (let z = no_byte s at (omega (arith, g)) in omega arith) ]

pub rest-drop : (s : List ℕ) (at : ℕ) → rest (drop at s) ≡ drop (at + 1) s
unfolding rest
rest-drop s at = elim (dec_lt at (length s)) [
  | yes l ↦ rw (drop-cons s at 0 l) (ap (λ (k : ℕ). drop k s) (let e : suc at ≡ at + 1 = omega arith in e))
  | no g ↦
      rw (drop_of_length-le s {i = at} (omega (arith, g)), drop_of_length-le s {i = at + 1} (omega (arith, g))) refl
]

-- ---- spaces

pub stays : (u : List ℕ) → (peek u ≡ 32 → ⊥) → skip_spaces u ≡ u
unfolding peek skip_spaces
stays [] f = refl
stays (b ∷ u) f = simp (ne_eqb b 32 f)

pub record Skipped (s : List ℕ) (at to : ℕ) : Type 0 where
  pub same : skip_spaces (drop at s) ≡ skip_spaces (drop to s)
  pub on : at ≤ to
  pub in_text : to ≤ length s

module _ (s : List ℕ) (at : ℕ) where
  pub skip_none : at ≤ length s → Skipped s at at
  skip_none h = record { same = refl; on = omega arith; in_text = h }

  module _ (to b : ℕ) where
    pub skip_more : Skipped s at to → b ≡ peek (drop to s) → b ≡ 32 → Skipped s at (to + 1)
    unfolding skip_spaces
    skip_more h eb e =
        let l = inside s to 32 (omega arith) (sym eb ∙ e) in
        let q : drop to s ≡ 32 ∷ drop (to + 1) s = drop-cons s to 0 l ∙ ap (λ (x : ℕ). x ∷ drop (suc to) s) (byte s to l ∙ sym eb ∙ e)
        ∙ ap (λ (k : ℕ). 32 ∷ drop k s) (let i : suc to ≡ to + 1 = omega arith in i) in
        record { same = h.same ∙ ap skip_spaces q; on = omega (arith, h.on); in_text = omega arith }

    pub skip_all : Skipped s at to → b ≡ peek (drop to s) → (b ≡ 32 → ⊥) → (drop to s ≡ skip_spaces (drop at s)) × (at ≤ to) × (to ≤ length s)
    skip_all h eb e = (sym (h.same ∙ stays (drop to s) (λ q. e (eb ∙ q))), h.on, h.in_text)

pub skip_less : (s : List ℕ) (to b : ℕ) → b ≡ peek (drop to s) → b ≡ 32 → length s - (to + 1) < length s - to
skip_less s to b eb e = let l = inside s to 32 (omega arith) (sym eb ∙ e) in omega arith

-- ---- letters, digits

pub letter-yes : (b : ℕ) → 65 ≤ b → b ≤ 90 → is_letter b ≡ true
letter-yes b l h = letter-in b l h

pub letter-no : (b : ℕ) → (65 ≤ b → b ≤ 90 → ⊥) → is_letter b ≡ false
letter-no b n = go (is_letter b) refl
  where
    go : (t : Bool) → is_letter b ≡ t → t ≡ false
    go false e = refl
    go true e = let k = in_letters b e in absurd (n k.0 k.1)

pub digits_from : (b v : ℕ) (d : Bool) → d ≡ is_digit b → d ≡ true → v ≡ b → 48 ≤ v
unfolding is_digit
digits_from b v d ed e ev = omega (arith, in_range_lem 48 57 b (sym ed ∙ e))

pub digits-to : (b : ℕ) (d : Bool) → d ≡ is_digit b → d ≡ true → b ≤ 57
unfolding is_digit
digits-to b d ed e = (in_range_lem 48 57 b (sym ed ∙ e)).1

-- ---- numbers

-- a text that is wrong at a position
abbrev pub broken_at : ℕ → Result Bound Broken
broken_at at = Err (record { at = at })

module _ (s : List ℕ) (at b : ℕ) (d : Bool) (eb : b ≡ peek (drop at s)) (ed : d ≡ is_digit b) where
  first : is_digit (peek (drop at s)) ≡ d
  first = ap is_digit (sym eb) ∙ sym ed

  pub number-none : at ≤ length s → d ≡ false → Numeral s at (broken_at at) (number (drop at s))
  unfolding number SaysNumber
  number-none h e = record { says = simp (first ∙ e) (record { rest = refl; inside = h }); small = tt }

  module _ (c : ℕ) (e : Bool) (ec : c ≡ peek (drop (at + 1) s)) (ee : e ≡ is_digit c) where
    second : is_digit (peek (rest (drop at s))) ≡ e
    second = ap (λ (u : List ℕ). is_digit (peek u)) (rest-drop s at) ∙ ap is_digit (sym ec) ∙ sym ee

    pub number-one : (v : ℕ) → d ≡ true → e ≡ false → v ≡ b → Numeral s at (Ok (record { value = v - 48; at = at + 1 })) (number (drop at s))
    unfolding number SaysNumber
    number-one v i j ev =
        let l = digits_from b b d ed i refl in let h = digits-to b d ed i in
        let n = inside s at b (omega arith) (sym eb) in
        record {
          says = simp (first ∙ i, second ∙ j)
              (record { value = ap (λ (x : ℕ). x - 48) (ev ∙ eb); small = omega arith; rest = rest-drop s at; on = omega arith; inside = omega arith });
          small = omega arith;
        }

    pub number-zero : d ≡ true → e ≡ true → b ≡ 48 → Numeral s at (broken_at (at + 1)) (number (drop at s))
    unfolding number SaysNumber
    number-zero i j z =
        let n = inside s at 48 (omega arith) (sym eb ∙ z) in
        record {
          says = simp (first ∙ i, second ∙ j, eq-eqb (peek (drop at s)) 48 (sym eb ∙ z)) (record { rest = rest-drop s at; inside = omega arith });
          small = tt;
        }

    pub number-two : (v w : ℕ) → d ≡ true → e ≡ true → (b ≡ 48 → ⊥) → v ≡ b → w ≡ c → Numeral s at (Ok (record { value = 10 * (v - 48) + (w - 48); at = at + 2 })) (number (drop at s))
    unfolding number SaysNumber
    number-two v w i j z ev ew =
        let l = digits_from b b d ed i refl in let h = digits-to b d ed i in
        let l2 = digits_from c c e ee j refl in let h2 = digits-to c e ee j in
        let n = inside s (at + 1) c (omega arith) (sym ec) in
        let q : rest (rest (drop at s)) ≡ drop (at + 2) s = ap rest (rest-drop s at) ∙ rest-drop s (at + 1)
        ∙ ap (λ (k : ℕ). drop k s) (let k : at + 1 + 1 ≡ at + 2 = omega arith in k) in
        let p : peek (rest (drop at s)) ≡ c = ap peek (rest-drop s at) ∙ sym ec in
        record {
          says = simp (first ∙ i, second ∙ j, ne_eqb (peek (drop at s)) 48 (λ x. z (eb ∙ x)))
              (record { value = val v w ev ew p; small = omega arith; rest = q; on = omega arith; inside = omega arith });
          small = omega arith;
        }
      where
        val : (v w : ℕ) → v ≡ b → w ≡ c → peek (rest (drop at s)) ≡ c → 10 * (v - 48) + (w - 48) ≡ 10 * (peek (drop at s) - 48) + (peek (rest (drop at s)) - 48)
        val v w ev ew p = omega (arith, eb)

-- ---- what an answer says

pub record Bad (s : List ℕ) (e : Broken) (x : Reading ℕ) : Type 0 where
  pub is : x ≡ bad (drop e.at s)
  pub inside : e.at ≤ length s

pub says-bad : (s : List ℕ) (at : ℕ) (e : Broken) (x : Reading ℕ) → SaysNumber s at (Err e) x → Bad s e x
unfolding SaysNumber
says-bad s at e (bad u) h = record { is = ap bad h.rest; inside = h.inside }
says-bad s at e (got v u) h = absurd h

pub record Got (s : List ℕ) (at : ℕ) (m : Bound) (x : Reading ℕ) : Type 0 where
  pub is : x ≡ got m.value (drop m.at s)
  pub small : m.value ≤ 99
  pub on : at ≤ m.at
  pub inside : m.at ≤ length s

pub says-got : (s : List ℕ) (at : ℕ) (m : Bound) (x : Reading ℕ) → SaysNumber s at (Ok m) x → Got s at m x
unfolding SaysNumber
says-got s at m (bad u) h = absurd h
says-got s at m (got v u) h = record { is = rw (h.rest, h.value) refl; small = omega (arith, h.small, h.value); on = h.on; inside = h.inside }

pub bound_in : (s : List ℕ) (at : ℕ) (m : Bound) (x : Reading ℕ) → Numeral s at (Ok m) x → m.at ≤ length s
bound_in s at m x h = (says-got s at m x h.says).inside

-- ---- upper bounds

module _ (s : List ℕ) (at low b : ℕ) (eb : b ≡ peek (drop at s)) where
  wrong-here : at ≤ length s → reaching low (drop at s) ≡ bad (drop at s) → BoundReached s at low (broken_at at)
  unfolding SaysNumber
  wrong-here h e = record { numeral = record { says = rw e (record { rest = refl; inside = h }); small = tt }; least = tt }

  pub reach-below : at ≤ length s → b < 49 → BoundReached s at low (broken_at at)
  unfolding reaching in_range
  reach-below h l = wrong-here h (simp (lt-leb 49 (peek (drop at s)) (omega arith)))

  pub reach-above : at ≤ length s → 57 < b → BoundReached s at low (broken_at at)
  unfolding reaching in_range
  reach-above h g = wrong-here h (simp (le-leb 49 (peek (drop at s)) (omega arith), lt-leb (peek (drop at s)) 57 (omega arith)))

  module _ (l : 49 ≤ b) (g : b ≤ 57) where
    digit : in_range 49 57 (peek (drop at s)) ≡ true
    digit = range_in 49 57 (peek (drop at s)) (omega arith) (omega arith)

    pub reach-short : (v : ℕ) → at ≤ length s → v ≡ b → 10 * (v - 48) + 9 < low → BoundReached s at low (broken_at at)
    unfolding reaching
    reach-short v h e k = wrong-here h (simp (digit, lt-leb low (10 * (peek (drop at s) - 48) + 9) (omega arith)))

    module _ (v : ℕ) (ev : v ≡ b) (k : low ≤ 10 * (v - 48) + 9) where
      reach-number : reaching low (drop at s) ≡ bound_reached low (rest (drop at s)) (number (drop at s))
      unfolding reaching
      reach-number = rw (digit, le-leb low (10 * (peek (drop at s) - 48) + 9) (omega arith)) refl

      no-clash : (t : Bool) (x y : ℕ) (p q u : List ℕ) → pick t (got x p) (got y q) ≡ bad u → ⊥
      no-clash true x y p q u e = let z : ◌≡◌ {A = ℕ} 0 1 = cc in omega arith
      no-clash false x y p q u e = let z : ◌≡◌ {A = ℕ} 0 1 = cc in omega arith

      -- a number begins with the digit
      pub reach-never : (e : Broken) → Numeral s at (Err e) (number (drop at s)) → ⊥
      reach-never e h =
          no-clash (is_digit (peek (rest (drop at s)))) (10 * (peek (drop at s) - 48) + (peek (rest (drop at s)) - 48)) (peek (drop at s) - 48) (rest (rest (drop at s)))
          (rest (drop at s)) (drop e.at s) (sym (number-begun (drop at s) (omega arith) (omega arith)) ∙ (says-bad s at e _ h.says).is)

      module _ (m : Bound) (h : Numeral s at (Ok m) (number (drop at s))) where
        there : Got s at m (number (drop at s))
        there = says-got s at m _ h.says

        pub reach-less : m.value < low → BoundReached s at low (broken_at (at + 1))
        unfolding SaysNumber bound_reached
        reach-less f =
            let i = inside s at b (omega arith) (sym eb) in
            let e : reaching low (drop at s) ≡ bad (drop (at + 1) s) =
            reach-number ∙ ap (bound_reached low (rest (drop at s))) there.is ∙ rw (lt-leb low m.value f) (ap bad (rest-drop s at)) in
            record { numeral = record { says = rw e (record { rest = refl; inside = omega arith }); small = tt }; least = tt }

        pub reach-found : low ≤ m.value → BoundReached s at low (Ok m)
        unfolding SaysNumber bound_reached
        reach-found f =
            let e : reaching low (drop at s) ≡ got m.value (drop m.at s) =
            reach-number ∙ ap (bound_reached low (rest (drop at s))) there.is ∙ rw (le-leb low m.value f) refl in
            record {
              numeral = record {
                says = rw e (record { value = refl; small = there.small; rest = refl; on = there.on; inside = there.inside });
                small = there.small;
              };
              least = f;
            }

pub next-in : (s : List ℕ) (at b k : ℕ) → b ≡ peek (drop at s) → b ≡ k → 1 ≤ k → at + 1 ≤ length s
next-in s at b k eb e h = let l = inside s at k h (sym eb ∙ e) in omega arith

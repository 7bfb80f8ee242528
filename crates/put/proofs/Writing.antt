-- Laws of text written into a buffer, one piece behind the other.
use mathlib.Core.Path.{◌≡◌, refl, sym, ap, ◌∙◌}
use mathlib.Core.List.{List, [], ◌∷◌, ◌++◌, append_assoc, append-nil}
use Prim.Native.Nat.{ℕ, suc, ◌+◌, ◌-◌, ◌≤◌, ◌<◌}
use native.Mathlib.Omega.{arith}
use native.Mathlib.Numerals.{add-one}
use native.Mathlib.Nat.{add-zero}
use lib.ListN.{length, get_or, set, take, drop, length-append, length-take, length-drop, take-append-drop}
use lib.Seq.{set_at, take_at, drop_at, drop-drop, length-take-le, take-suc}
use borrow.Rule.Slice.PartMut.{put_mid}
use Rattle.rules.specs.Basics.{wrote}
use Rattle.put.specs.Put.{Put}

module _ {A : Type 0} (l : List A) (at : ℕ) where
  pub wrote_none : wrote l at [] ≡ l
  unfolding wrote
  wrote_none = rw add-zero (take-append-drop at l)

  pub length-wrote : (vs : List A) → at + length vs ≤ length l → length (wrote l at vs) ≡ length l
  unfolding wrote
  length-wrote vs h = simp (length-append, length-take, length-drop) (omega arith)

  -- one element before a text that is written
  pub wrote-before : (v : A) (vs : List A) → at + 1 + length vs ≤ length l → set (wrote l (at + 1) vs) at v ≡ wrote l at (v ∷ vs)
  unfolding wrote
  wrote-before v vs h =
      let first : take (at + 1) l ≡ take at l ++ (get_or l at v ∷ []) = rw (add-one at) (take-suc l at v (omega arith)) in
      let count : at + 1 + length vs ≡ at + suc (length vs) = omega arith in
      let R : List A = vs ++ drop (at + suc (length vs)) l in
      rw (first, count) (ap (λ (w : List A). set w at v) (append_assoc (take at l) (get_or l at v ∷ []) R) ∙ set_at (take at l) (get_or l at v) R v at (length-take-le at l (omega arith)))

  -- a text behind a text
  pub wrote-behind : (xs ys : List A) → at + length xs + length ys ≤ length l → wrote (wrote l at xs) (at + length xs) ys ≡ wrote l at (xs ++ ys)
  unfolding wrote
  wrote-behind xs ys h =
      let p : List A = take at l in
      let D : List A = drop (at + length xs) l in
      let n : length (p ++ xs) ≡ at + length xs = simp (length-append, length-take) (omega arith) in
      let a : p ++ (xs ++ D) ≡ (p ++ xs) ++ D = sym (append_assoc p xs D) in
      let front : take (at + length xs) ((p ++ xs) ++ D) ≡ p ++ xs = take_at (p ++ xs) D (at + length xs) n in
      let back : drop (at + length xs + length ys) ((p ++ xs) ++ D) ≡ drop (at + length xs + length ys) l =
      sym (drop-drop (length ys) (at + length xs) ((p ++ xs) ++ D)) ∙ ap (drop (length ys)) (drop_at (p ++ xs) D (at + length xs) n) ∙ drop-drop (length ys) (at + length xs) l
      in
      let count : at + length xs + length ys ≡ at + length (xs ++ ys) = simp length-append (omega arith) in
      rw (a, front, back, count, append_assoc p xs, append_assoc xs ys)

-- one element, and one behind others
pub wrote_one : {A : Type 0} (l : List A) (at : ℕ) (v : A) → at < length l → set l at v ≡ wrote l at (v ∷ [])
wrote_one {A} l at v h = ap (λ (w : List A). set w at v) (sym (wrote_none l (at + 1))) ∙ wrote-before l at v [] (omega arith)

pub wrote-next : {A : Type 0} (l : List A) (at : ℕ) (xs : List A) (v : A) → at + length xs < length l
    → set (wrote l at xs) (at + length xs) v ≡ wrote l at (xs ++ (v ∷ []))
wrote-next l at xs v h =
    wrote_one (wrote l at xs) (at + length xs) v (omega (arith, length-wrote l at xs (omega arith))) ∙ wrote-behind l at xs (v ∷ []) (omega arith)

-- one byte
pub put_one : (l : List ℕ) (at v : ℕ) → at < length l → Put l at (v ∷ []) (set l at v) (at + 1)
put_one l at v h = record { holds = wrote_one l at v h; ends = refl; within = omega arith }

pub put_long : (l : List ℕ) (at : ℕ) (xs m : List ℕ) (b : ℕ) → Put l at xs m b → length m ≡ length l
put_long l at xs m b p = ap length p.holds ∙ length-wrote l at xs (omega (arith, p.ends, p.within))

-- two texts, one behind the other
pub put_both : (l : List ℕ) (at : ℕ) (xs : List ℕ) (m : List ℕ) (b : ℕ) (ys : List ℕ) (o : List ℕ) (e : ℕ) → Put l at xs m b → Put m b ys o e → Put l at (xs ++ ys) o e
put_both l at xs m b ys o e p q =
    let n = put_long l at xs m b p in
    let a = p.ends in
    let z = q.ends in
    let h = q.within in
    record {
      holds = q.holds ∙ ap (λ (k : ℕ). wrote m k ys) p.ends ∙ ap (λ (w : List ℕ). wrote w (at + length xs) ys) p.holds ∙ wrote-behind l at xs ys (omega arith);
      ends = rw length-append (omega arith);
      within = omega arith;
    }

-- a text that is copied into its part of the buffer
pub put_part : (l : List ℕ) (at : ℕ) (text new : List ℕ) → at + length text ≤ length l → new ≡ text → Put l at text (put_mid at (at + length text - at) l new) (at + length text)
unfolding wrote
put_part l at text new h e =
    let k : at + length text - at ≡ length text = omega arith in
    let d : drop (at + length text - at) (drop at l) ≡ drop (at + length text) l = rw k (drop-drop (length text) at l) in
    record { holds = rw (e, d); ends = refl; within = h }

-- ---- a text of several pieces: those written so far, and those that are left

pub record Partly (before : List ℕ) (at : ℕ) (text now : List ℕ) (behind : ℕ) (left : List ℕ) : Type 0 where
  pub done : List ℕ
  pub is : Put before at done now behind
  pub whole : done ++ left ≡ text
  pub long : length now ≡ length before

-- nothing is written, and the whole text, perhaps in other words, is left
pub partly_from : {l : List ℕ} {at : ℕ} (t xs : List ℕ) → xs ≡ t → at ≤ length l → Partly l at t l at xs
partly_from {l} {at} t xs e h =
    record { done = []; is = record { holds = sym (wrote_none l at); ends = omega arith; within = h }; whole = e; long = refl }

pub partly_none : {l : List ℕ} {at : ℕ} (t : List ℕ) → at ≤ length l → Partly l at t l at t
partly_none t h = partly_from t t refl h

module _ {l : List ℕ} {at : ℕ} {t n : List ℕ} {b : ℕ} where
  pub partly_more : (xs ys : List ℕ) {m : List ℕ} {e : ℕ} → Partly l at t n b (xs ++ ys) → Put n b xs m e → Partly l at t m e ys
  partly_more xs ys {m} {e} s p =
      record {
        done = s.done ++ xs;
        is = put_both l at s.done n b xs m e s.is p;
        whole = append_assoc s.done xs ys ∙ s.whole;
        long = put_long n b xs m e p ∙ s.long;
      }

  pub partly_all : Partly l at t n b [] → Put l at t n b
  partly_all s = rw (← s.whole, append-nil s.done) s.is

  -- the last piece
  pub partly_last : (xs : List ℕ) {m : List ℕ} {e : ℕ} → Partly l at t n b xs → Put n b xs m e → Put l at t m e
  partly_last xs {m} {e} s p = rw (← s.whole) (put_both l at s.done n b xs m e s.is p)

  -- where there is room for the whole, there is for the next piece
  module _ (room : at + length t ≤ length l) where
    sizes : (ys : List ℕ) (s : Partly l at t n b ys) → length s.done + length ys ≡ length t
    sizes ys s = simp length-append at (ap length s.whole)

    pub partly_room : (xs ys : List ℕ) → Partly l at t n b (xs ++ ys) → b + length xs ≤ length n
    partly_room xs ys s = omega (arith, s.is.ends, s.long, sizes (xs ++ ys) s, length-append xs ys)

-- A number's decimal digits by its last digit and those before it, and how many there are.
use mathlib.Core.Path.{◌≡◌, refl, sym, ap, ◌∙◌}
use mathlib.Core.Bool.{Bool, true, false}
use mathlib.Core.List.{List, [], ◌∷◌, ◌++◌, append_assoc, append-nil}
use Prim.Native.Nat.{ℕ, zero, suc, ◌+◌, ◌*◌, ◌-◌, ◌/◌, ◌%◌, ◌^◌, ◌≤◌, ◌<◌}
use native.Mathlib.Nat.{not-suc-le-zero}
use native.Mathlib.Omega.{arith}
use lib.Dec.{ltb}
use lib.ListN.{length, set, length-append, length-set}
use Rattle.std.specs.Prelude.{Option, Some, None, IfSome, unwrap_or}
use Rattle.std.specs.Option.{IfNone}
use borrow.Author.Tests.{ltb-true, ltb-false, lt-ltb, le-ltb}
use Rattle.rules.specs.Basics.{pick, wrote}
use Rattle.rules.specs.Program.{digits_of, decimal}
use Rattle.laws.proofs.Decimal.{decimal-is}
use Rattle.put.specs.Put.{Put}
use Rattle.put.proofs.Writing.{wrote_none, wrote-before}

-- any bound above the number gives the same digits
same_digits : (k j n : ℕ) → n < k → n < j → digits_of k n ≡ digits_of j n
unfolding digits_of
same_digits zero j n h g = absurd (not-suc-le-zero h)
same_digits (suc k) zero n h g = absurd (not-suc-le-zero g)
same_digits (suc k) (suc j) n h g = go (λ a b. same_digits k j (n / 10) a b) (ltb n 10) refl
  where
    go : (n / 10 < k → n / 10 < j → digits_of k (n / 10) ≡ digits_of j (n / 10)) → (t : Bool) → ltb n 10 ≡ t
        → pick t ((48 + n) ∷ []) (digits_of k (n / 10) ++ ((48 + n % 10) ∷ [])) ≡ pick t ((48 + n) ∷ []) (digits_of j (n / 10) ++ ((48 + n % 10) ∷ []))
    go ih true e = refl
    go ih false e = let b = ltb-false n 10 e in rw (ih (omega arith) (omega arith))

pub one-digit : (n : ℕ) → n < 10 → decimal n ≡ (48 + n) ∷ []
unfolding digits_of
one-digit n h = decimal-is n ∙ simp (lt-ltb n 10 h)

pub last-digit : (n : ℕ) → 10 ≤ n → decimal n ≡ decimal (n / 10) ++ ((48 + n % 10) ∷ [])
unfolding digits_of
last-digit n h =
    decimal-is n ∙ rw (le-ltb n 10 h)
    (ap (λ (ds : List ℕ). ds ++ ((48 + n % 10) ∷ [])) (same_digits n (suc (n / 10)) (n / 10) (omega arith) (omega arith) ∙ sym (decimal-is (n / 10))))

pub more-digits : (n : ℕ) → 10 ≤ n → length (decimal n) ≡ length (decimal (n / 10)) + 1
more-digits n h = rw (last-digit n h) (simp length-append)

pub some-digit : (n : ℕ) → 1 ≤ length (decimal n)
some-digit n = go (ltb n 10) refl
  where
    go : (t : Bool) → ltb n 10 ≡ t → 1 ≤ length (decimal n)
    go true e = rw (one-digit n (ltb-true n 10 e)) (omega arith)
    go false e = omega (arith, more-digits n (ltb-false n 10 e))

-- a number below 10 ^ k has at most k digits
pub few_digits : (k n : ℕ) → n < 10 ^ suc k → length (decimal n) ≤ suc k
few_digits zero n h = rw (one-digit n h) (omega arith)
few_digits (suc k) n h = go (λ l. few_digits k (n / 10) l) (ltb n 10) refl
  where
    go : (n / 10 < 10 ^ suc k → length (decimal (n / 10)) ≤ suc k) → (t : Bool) → ltb n 10 ≡ t → length (decimal n) ≤ suc (suc k)
    go ih true e = rw (one-digit n (ltb-true n 10 e)) (omega arith)
    go ih false e = let b = ltb-false n 10 e in let i = ih (omega arith) in omega (arith, more-digits n b)

-- a number from 10 ^ k on and below the next power has k + 1 digits, and 0 has one
as_many : (k n : ℕ) → 10 ^ k ≤ n → n < 10 * 10 ^ k → length (decimal n) ≡ k + 1
as_many zero n g h = rw (one-digit n (omega arith))
as_many (suc k) n g h = omega (arith, more-digits n (omega arith), as_many k (n / 10) (omega arith) (omega arith))

pub digits_counted : (n : ℕ) (o : Option ℕ) → IfNone o (n ≡ 0) → IfSome o (λ k. 10 ^ k ≤ n) → IfSome o (λ k. n < 10 * 10 ^ k) → unwrap_or o 0 + 1 ≡ length (decimal n)
digits_counted n None z a b = rw (one-digit n (omega arith))
digits_counted n (Some k) z a b = sym (as_many k n a b)

-- ---- digits written from the last to the first

-- the digits behind those of `rest` stand in the buffer, and i is the index of the last digit of
-- `rest`
pub record Spelled (before : List ℕ) (at n : ℕ) (now : List ℕ) (i rest : ℕ) : Type 0 where
  pub later : List ℕ
  pub is : now ≡ wrote before (i + 1) later
  pub whole : decimal rest ++ later ≡ decimal n
  pub here : i + 1 ≡ at + length (decimal rest)
  pub room : at + length (decimal n) ≤ length before
  pub long : length now ≡ length before
  pub inside : i < length before

module _ (l : List ℕ) (at n : ℕ) where
  pub spelled_none : (i : ℕ) → at + length (decimal n) ≤ length l → i + 1 ≡ at + length (decimal n) → Spelled l at n l i n
  spelled_none i h e = record { later = []; is = sym (wrote_none l (i + 1)); whole = append-nil (decimal n); here = e; room = h; long = refl; inside = omega arith }

  -- the length of what is written so far
  sizes : (now : List ℕ) (i rest : ℕ) (s : Spelled l at n now i rest) → length (decimal rest) + length s.later ≡ length (decimal n)
  sizes now i rest s = simp length-append at (ap length s.whole)

  pub spelled_more : (now : List ℕ) (i rest : ℕ) → Spelled l at n now i rest → 10 ≤ rest → Spelled l at n (set now i (48 + rest % 10)) (i - 1) (rest / 10)
  spelled_more now i rest s h =
      let m = more-digits rest h in
      let z = sizes now i rest s in
      let d = some-digit (rest / 10) in
      let r = s.room in
      let q = s.here in
      let e : i ≡ i - 1 + 1 = omega arith in
      record {
        later = (48 + rest % 10) ∷ s.later;
        is =
            ap (λ (w : List ℕ). set w i (48 + rest % 10)) s.is
            ∙ wrote-before l i (48 + rest % 10) s.later (omega arith)
            ∙ ap (λ (k : ℕ). wrote l k ((48 + rest % 10) ∷ s.later)) e;
        whole = sym (append_assoc (decimal (rest / 10)) ((48 + rest % 10) ∷ []) s.later) ∙ ap (λ (w : List ℕ). w ++ s.later) (sym (last-digit rest h)) ∙ s.whole;
        here = omega arith;
        room = r;
        long = length-set now i (48 + rest % 10) ∙ s.long;
        inside = omega arith;
      }

  pub spelled_all : (now : List ℕ) (i rest b : ℕ) → Spelled l at n now i rest → rest < 10 → b ≡ at + length (decimal n) → Put l at (decimal n) (set now i (48 + rest)) b
  spelled_all now i rest b s h e =
      let o = one-digit rest h in
      let z = sizes now i rest s in
      let r = s.room in
      let q = s.here in
      let u : length (decimal rest) ≡ 1 = ap length o in
      let w : i ≡ at = omega arith in
      record {
        holds =
            ap (λ (x : List ℕ). set x i (48 + rest)) s.is
            ∙ wrote-before l i (48 + rest) s.later (omega arith)
            ∙ ap (λ (k : ℕ). wrote l k ((48 + rest) ∷ s.later)) w
            ∙ ap (wrote l at) (ap (λ (x : List ℕ). x ++ s.later) (sym o) ∙ s.whole);
        ends = e;
        within = omega arith;
      }

-- the digits from i on stand in the buffer, and those of `rest` are left; where none is left, all do
pub record Spelling (before : List ℕ) (at n : ℕ) (now : List ℕ) (i rest : ℕ) : Type 0 where
  pub some : at < i → Spelled before at n now (i - 1) rest
  pub all : i ≤ at → Put before at (decimal n) now (at + length (decimal n))

module _ (l : List ℕ) (at n : ℕ) where
  pub spelling_none : (count : ℕ) → count ≡ length (decimal n) → at + length (decimal n) ≤ length l → Spelling l at n l (at + count) n
  spelling_none count e h =
      let d = some-digit n in
      record { some = λ g. spelled_none l at n (at + count - 1) h (omega arith); all = λ g. absurd (omega arith) }

  pub spelling_more : (now : List ℕ) (i rest : ℕ) → Spelling l at n now i rest → at < i → Spelling l at n (set now (i - 1) (48 + rest % 10)) (i - 1) (rest / 10)
  spelling_more now i rest s g = go (ltb rest 10) refl
    where
      w : Spelled l at n now (i - 1) rest
      w = s.some g

      go : (t : Bool) → ltb rest 10 ≡ t → Spelling l at n (set now (i - 1) (48 + rest % 10)) (i - 1) (rest / 10)
      go true e =
          let h = ltb-true rest 10 e in
          let d : length (decimal rest) ≡ 1 = ap length (one-digit rest h) in
          let u = w.here in
          let r : rest % 10 ≡ rest = omega arith in
          record { some = λ q. absurd (omega arith); all = λ q. rw r (spelled_all l at n now (i - 1) rest (at + length (decimal n)) w h refl) }
      go false e =
          let h = ltb-false rest 10 e in
          let m = more-digits rest h in
          let d = some-digit (rest / 10) in
          let u = w.here in
          record { some = λ q. spelled_more l at n now (i - 1) rest w h; all = λ q. absurd (omega arith) }

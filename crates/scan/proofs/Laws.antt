-- Passes over the bytes of a text: the depth of parentheses so far, and a byte in a text.
use mathlib.Core.Path.{◌≡◌, refl, sym, ap, ◌∙◌}
use mathlib.Core.Bool.{Bool, true, false, ◌||◌}
use mathlib.Core.List.{List, [], ◌∷◌}
use Rattle.std.specs.List.{list_any}
use Prim.Native.Nat.{ℕ, suc, ◌+◌, ◌≤◌, ◌<◌}
use native.Mathlib.Omega.{arith}
use lib.Dec.{eqb, ltb}
use lib.ListN.{length, get_or, drop, drop_of_length-le}
use lib.Seq.{drop-cons}
use borrow.Author.Tests.{lt-ltb, le-ltb, eqb-true, eqb-false}
use Rattle.rules.specs.Basics.{pick, has}
use Rattle.rules.specs.Answers.{deep}
use Rattle.scan.specs.Depth.{Behind}
use Rattle.scan.specs.declared.Depth.{Depth}

-- ---- depth of parentheses

pub record Deep (s : List ℕ) (d : Depth) (i : ℕ) : Type 0 where
  pub same : deep 0 0 s ≡ deep d.opened d.closed (drop i s)
  pub few_open : d.opened ≤ i
  pub few_closed : d.closed ≤ i
  pub inside : i ≤ length s

-- the counts by tests
behind-is : (b : ℕ) (d r : Depth) → Behind b d r → (r.opened ≡ pick (eqb b 40) (d.opened + 1) d.opened) × (r.closed ≡ pick (eqb b 41) (d.closed + 1) d.closed)
behind-is b d r h = go (eqb b 40) (eqb b 41) refl refl
  where
    go : (x y : Bool) → eqb b 40 ≡ x → eqb b 41 ≡ y → (r.opened ≡ pick x (d.opened + 1) d.opened) × (r.closed ≡ pick y (d.closed + 1) d.closed)
    go true true e f = let a = eqb-true b 40 e in let c = eqb-true b 41 f in absurd (omega arith)
    go true false e f = h.open_counted (eqb-true b 40 e)
    go false true e f = h.shut_counted (eqb-true b 41 f)
    go false false e f = h.others (eqb-false b 40 e) (eqb-false b 41 f)

module _ (s : List ℕ) (d : Depth) (i : ℕ) (h : Deep s d i) where
  pub deep-end : length s ≤ i → false ≡ deep 0 0 s
  unfolding deep
  deep-end l = sym (h.same ∙ ap (deep d.opened d.closed) (drop_of_length-le s l))

  module _ (l : i < length s) (r : Depth) (g : Behind (get_or s i 0) d r) where
    deep_step : deep d.opened d.closed (drop i s) ≡ pick (ltb (r.closed + 8) r.opened) true (deep r.opened r.closed (drop (i + 1) s))
    unfolding deep
    deep_step =
        let b : ℕ = get_or s i 0 in
        let q = behind-is b d r g in
        ap (deep d.opened d.closed) (drop-cons s i 0 l ∙ ap (λ (k : ℕ). b ∷ drop k s) (let z : suc i ≡ i + 1 = omega arith in z))
        ∙ ap (λ (x : ℕ). pick (ltb (pick (eqb b 41) (d.closed + 1) d.closed + 8) x) true (deep x (pick (eqb b 41) (d.closed + 1) d.closed) (drop (i + 1) s))) (sym q.0)
        ∙ ap (λ (x : ℕ). pick (ltb (x + 8) r.opened) true (deep r.opened x (drop (i + 1) s))) (sym q.1)

    pub deep-found : r.closed + 8 < r.opened → true ≡ deep 0 0 s
    deep-found f = sym (h.same ∙ deep_step ∙ ap (λ (t : Bool). pick t true (deep r.opened r.closed (drop (i + 1) s))) (lt-ltb (r.closed + 8) r.opened f))

    few_more : (r.opened ≤ i + 1) × (r.closed ≤ i + 1)
    few_more = let q = behind-is (get_or s i 0) d r g in (
      at_most (eqb (get_or s i 0) 40) d.opened r.opened q.0 h.few_open,
      at_most (eqb (get_or s i 0) 41) d.closed
          r.closed q.1 h.few_closed,
    )
      where
        at_most : (t : Bool) (x y : ℕ) → y ≡ pick t (x + 1) x → x ≤ i → y ≤ i + 1
        at_most true x y e k = omega arith
        at_most false x y e k = omega arith

    pub deep_more : r.opened ≤ r.closed + 8 → Deep s r (i + 1)
    deep_more f =
        record {
          same = h.same ∙ deep_step ∙ ap (λ (t : Bool). pick t true (deep r.opened r.closed (drop (i + 1) s))) (le-ltb (r.closed + 8) r.opened f);
          few_open = few_more.0;
          few_closed = few_more.1;
          inside = omega arith;
        }

-- ---- a byte in a text

pub has-any : (b : ℕ) (s : List ℕ) → list_any (λ y. eqb y b) s ≡ has b s
unfolding has
has-any b [] = refl
has-any b (x ∷ s) = ap (λ (t : Bool). eqb x b || t) (has-any b s)

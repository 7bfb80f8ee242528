-- A fork's ways in a table: those that do not yet stand there are put, each once.
use mathlib.Core.Path.{◌≡◌, refl, sym, ap, ◌∙◌}
use mathlib.Core.Bool.{Bool, true, false, ◌||◌, or_comm, true≢false}
use mathlib.Core.List.{List, [], ◌∷◌, ◌++◌}
use Prim.Native.Nat.{ℕ, zero, suc, ◌+◌, ◌-◌, ◌≤◌, ◌<◌}
use native.Mathlib.Omega.{arith}
use lib.Dec.{eqb}
use lib.ListN.{length, get_or, set, length-set, take, drop}
use lib.Seq.{get_or-set_same, get_or-set_other, drop-cons}
use borrow.Author.Tests.{eq-eqb, ne_eqb}
use Rattle.std.specs.List.{list_any}
use Rattle.rules.specs.Basics.{has}
use Rattle.laws.proofs.Bounds.{has-append}
use Rattle.rules.specs.Working.{fresh, keep_new}
use Rattle.table.specs.Table.{span}
use Rattle.place_words.specs.Words.{put_ways, WayPut, WayNeeds}

-- ---- a way among words

-- it stands among the words from `from` on exactly if it stands among those from j on
pub record Looked (T : List ℕ) (from to y j : ℕ) : Type 0 where
  pub same : has y (span T from (to - from)) ≡ has y (span T j (to - j))
  pub order : j ≤ to
  pub inside : to ≤ length T

pub looked_none : (T : List ℕ) (from to y : ℕ) → (from ≤ to) × (to ≤ length T) → Looked T from to y from
looked_none T from to y h = record { same = refl; order = h.0; inside = h.1 }

module _ (T : List ℕ) (from to y j : ℕ) (h : Looked T from to y j) where
  pub looked_end : to ≤ j → false ≡ has y (span T from (to - from))
  unfolding has span
  looked_end l = sym (h.same ∙ ap (λ (m : ℕ). has y (span T j m)) (let e : to - j ≡ 0 = omega arith in e))

  module _ (v : ℕ) (l : j < to) (ev : (v ≡ get_or T j 0) × (v < 65536)) where
    looked_step : has y (span T j (to - j)) ≡ (eqb v y || has y (span T (j + 1) (to - (j + 1))))
    unfolding has span
    looked_step =
        ap (λ (m : ℕ). has y (span T j m)) (let e : to - j ≡ suc (to - suc j) = omega arith in e)
        ∙ ap (λ (x : ℕ). eqb x y || has y (span T (suc j) (to - suc j))) (sym ev.0)
        ∙ ap (λ (i : ℕ). eqb v y || has y (span T i (to - i))) (let e : suc j ≡ j + 1 = omega arith in e)

    pub looked_found : v ≡ y → true ≡ has y (span T from (to - from))
    looked_found e = sym (h.same ∙ looked_step ∙ ap (λ (t : Bool). t || has y (span T (j + 1) (to - (j + 1)))) (eq-eqb v y e))

    pub looked_more : (v ≡ y → ⊥) → Looked T from to y (j + 1)
    looked_more n = record {
      same = h.same ∙ looked_step ∙ ap (λ (t : Bool). t || has y (span T (j + 1) (to - (j + 1)))) (ne_eqb v y n);
      order = omega arith;
      inside = h.inside;
    }

-- the words from a word on are the end of the table that begins there
pub span_taken : (T : List ℕ) (j m : ℕ) → j + m ≤ length T → span T j m ≡ take m (drop j T)
unfolding span
span_taken T j zero h = refl
span_taken T j (suc m) h =
    let l : j < length T = omega arith in
    let e : suc j + m ≤ length T = omega arith in
    rw (drop-cons T j 0 l) (ap (λ (ks : List ℕ). get_or T j 0 ∷ ks) (span_taken T (suc j) m e))

-- a number stands among others if one of them is it
pub has_any : (y : ℕ) (ks : List ℕ) → list_any (λ (v : ℕ). eqb v y) ks ≡ has y ks
unfolding has
has_any y [] = refl
has_any y (k ∷ ks) = ap (λ (b : Bool). eqb k y || b) (has_any y ks)

-- ---- a way that is put

module _ (T : List ℕ) (from to y : ℕ) (d : Bool) (ed : d ≡ has y (span T from (to - from))) where
  pub way_old : d ≡ true → WayPut T T from to y to
  way_old o = record { old = λ h. (refl, refl); new = λ h. absurd (true≢false (sym o ∙ ed ∙ h)) }

  pub way_new : d ≡ false → WayPut T (set T to y) from to y (to + 1)
  way_new o = record { old = λ h. absurd (true≢false (sym h ∙ sym ed ∙ o)); new = λ h. (refl, refl) }

  pub way_fits : WayNeeds T from to y → d ≡ false → to < length T
  way_fits n o = n.fits (sym ed ∙ o)

-- what was seen matters by its members only
fresh-cong : (s t ys : List ℕ) → ((z : ℕ) → has z s ≡ has z t) → fresh s ys ≡ fresh t ys
unfolding fresh has
fresh-cong s t [] h = refl
fresh-cong s t (y ∷ ys) h =
    ap (λ (b : Bool). keep_new b y (fresh s ys) (fresh (y ∷ s) ys)) (h y)
    ∙ ap (λ (zs : List ℕ). keep_new (has y t) y zs (fresh (y ∷ s) ys)) (fresh-cong s t ys h)
    ∙ ap (λ (zs : List ℕ). keep_new (has y t) y (fresh t ys) zs) (fresh-cong (y ∷ s) (y ∷ t) ys (λ z. ap (λ (b : Bool). eqb y z || b) (h z)))

span-snoc : (T : List ℕ) (j m : ℕ) → span T j (suc m) ≡ span T j m ++ (get_or T (j + m) 0 ∷ [])
unfolding span
span-snoc T j zero = ap (λ (i : ℕ). get_or T i 0 ∷ []) (let e : j ≡ j + 0 = omega arith in e)
span-snoc T j (suc m) = ap (λ (xs : List ℕ). get_or T j 0 ∷ xs) (span-snoc T (suc j) m ∙ ap (λ (i : ℕ). span T (suc j) m ++ (get_or T i 0 ∷ []))
    (let e : suc j + m ≡ j + suc m = omega arith in e))

span_set : (T : List ℕ) (j m i v : ℕ) → j + m ≤ i → span (set T i v) j m ≡ span T j m
unfolding span
span_set T j zero i v h = refl
span_set T j (suc m) i v h = λ x. get_or-set_other T i j v 0 (λ e. omega arith) x ∷ span_set T (suc j) m i v (omega arith) x

has-seen : (T : List ℕ) (from to y z : ℕ) → from ≤ to → to < length T → has z (span (set T to y) from (to + 1 - from)) ≡ has z (y ∷ span T from (to - from))
unfolding has
has-seen T from to y z h l =
    ap (λ (m : ℕ). has z (span (set T to y) from m)) (let e : to + 1 - from ≡ suc (to - from) = omega arith in e)
    ∙ ap (has z) (span-snoc (set T to y) from (to - from) ∙ ap (λ (xs : List ℕ). xs ++ (get_or (set T to y) (from + (to - from)) 0 ∷ []))
    (span_set T from (to - from) to y (omega arith)))
    ∙ ap (λ (i : ℕ). has z (span T from (to - from) ++ (get_or (set T to y) i 0 ∷ []))) (let e : from + (to - from) ≡ to = omega arith in e)
    ∙ ap (λ (v : ℕ). has z (span T from (to - from) ++ (v ∷ []))) (get_or-set_same T to y 0 l)
    ∙ has-append z (span T from (to - from)) (y ∷ [])
    ∙ or_comm (has z (span T from (to - from))) (eqb y z || false)
    ∙ ap (λ (b : Bool). b || has z (span T from (to - from))) (or-false (eqb y z))
  where
    or-false : (b : Bool) → (b || false) ≡ b
    or-false true = refl
    or-false false = refl

-- a way, and then others
module _ (T : List ℕ) (from to y : ℕ) (ys : List ℕ) (T1 : List ℕ) (r1 : ℕ) (n : WayNeeds T from to y) (p : WayPut T T1 from to y r1) where
  pub record AfterWay : Type 0 where
    pub list : List ℕ
    pub seen : list ≡ fresh (span T1 from (r1 - from)) ys
    pub put : put_ways T1 r1 list ≡ put_ways T to (fresh (span T from (to - from)) (y ∷ ys))
    pub count : r1 + length list ≡ to + length (fresh (span T from (to - from)) (y ∷ ys))
    pub order : from ≤ r1
    pub len : length T1 ≡ length T

  pub after-way : AfterWay
  unfolding fresh put_ways
  after-way = go (has y (span T from (to - from))) refl
    where
      go : (b : Bool) → has y (span T from (to - from)) ≡ b → AfterWay
      go true e =
          let q = p.old e in
          record {
            list = fresh (span T1 from (r1 - from)) ys;
            seen = refl;
            put = rw (e, q.0, q.1) refl;
            count = rw (e, q.0, q.1) refl;
            order = rw q.1 n.order;
            len = ap length q.0;
          }
      go false e =
          let q = p.new e in
          let l = n.fits e in
          let f : fresh (span T1 from (r1 - from)) ys ≡ fresh (y ∷ span T from (to - from)) ys =
          rw (q.0, q.1) (fresh-cong (span (set T to y) from (to + 1 - from)) (y ∷ span T from (to - from)) ys (λ z. has-seen T from to y z n.order l)) in
          let s : to + 1 ≡ suc to = omega arith in
          record {
            list = fresh (span T1 from (r1 - from)) ys;
            seen = refl;
            put = rw (e, f, q.0, q.1, s) refl;
            count = rw (e, f, q.1) (omega arith);
            order = omega (arith, n.order, q.1);
            len = ap length q.0 ∙ length-set T to y;
          }

-- The labels of a path, written from the last to the first while the walk goes back along the
-- trail; and the rows that a path takes.
use mathlib.Core.Path.{◌≡◌, refl, sym, ap, ◌∙◌, subst}
use mathlib.Core.List.{List, [], ◌∷◌, reverse_aux}
use mathlib.Core.Bool.{Bool, true, false}
use Prim.Native.Nat.{ℕ, zero, suc, ◌+◌, ◌-◌, ◌/◌, ◌%◌, ◌≤◌, ◌<◌}
use native.Mathlib.Nat.{mod-lt}
use native.Mathlib.Omega.{arith}
use lib.ListN.{length, get_or, set}
use lib.Dec.{ltb, eqb}
use borrow.Author.Tests.{lt-ltb, le-ltb}
use Rattle.rules.specs.Basics.{pick, wrote}
use Rattle.rules.specs.Places.{Place, p_letter, p_caret, p_dollar, p_fork, p_end}
use Rattle.rules.specs.Search.{labels, label_of}
use Rattle.laws.proofs.Appended.{wrote_none, length-wrote_at}
use Rattle.pairs.specs.Layout.{Layout, P}
use Rattle.table.specs.Table.{ways_of, place_by, place_at, places_in, code_at, first_at}
use Rattle.pairs.specs.Step.{place_in, pair_in, stack}
use Rattle.pairs.specs.State.{takes, Onto, Linked, Word}
use Rattle.pairs.proofs.Ways.{in_length, in_at}
use Rattle.pairs.proofs.Trails.{word-place}
use Rattle.matches.specs.Asked.{labels_on}
use Rattle.matches.specs.Found.{if_letter, label_by, OneMore, PutsLabel, Labels}

-- ---- one label

pub wrote-before : {A : Type 0} (d vs : List A) (e : ℕ) (c : A) → suc e + length vs ≤ length d → set (wrote d (suc e) vs) e c ≡ wrote d e (c ∷ vs)
unfolding wrote
wrote-before [] vs e c h = absurd (omega arith)
wrote-before (x ∷ xs) vs zero c h =
    let a : 1 + length vs ≡ suc (length vs) = omega arith in
    let b : 0 + suc (length vs) ≡ suc (length vs) = omega arith in
    rw (a, b)
wrote-before {A} (x ∷ xs) vs (suc e) c h =
    let a : suc (suc e) + length vs ≡ suc (suc e + length vs) = omega arith in
    let b : suc e + suc (length vs) ≡ suc (e + suc (length vs)) = omega arith in
    rw (a, b) (ap (λ (l : List A). x ∷ l) (wrote-before xs vs e c (omega arith)))

pub puts_some : (words labs : List ℕ) (q e : ℕ) → PutsLabel words labs q e → (c : ℕ) → (c ≡ code_at words q) × (c < 65536) → c < 26 → (0 < e) × (e ≤ length labs)
puts_some words labs q e h c ec l = (h.room (omega (arith, ec.0, l)), h.end)

module _ (l l' : List ℕ) (c e : ℕ) where
  put_letter_at : c < 26 → 0 < e → l' ≡ set l (e - 1) (c + 65) → OneMore l l' c e (e - 1)
  unfolding label_by
  put_letter_at h g el d vs ed room =
      let k : e ≡ suc (e - 1) = omega arith in
      let w : set (wrote d e vs) (e - 1) (c + 65) ≡ wrote d (e - 1) ((c + 65) ∷ vs) = subst (λ (z : ℕ). set (wrote d z vs) (e - 1) (c + 65) ≡ wrote d (e - 1) ((c + 65) ∷ vs)) (sym k) (wrote-before d vs (e - 1) (c + 65) (omega arith)) in
      rw (lt-ltb c 26 h) (el ∙ ap (λ (z : List ℕ). set z (e - 1) (c + 65)) ed ∙ w, omega arith)

  put_other_at : 26 ≤ c → l' ≡ l → OneMore l l' c e e
  unfolding label_by
  put_other_at h el d vs ed room = rw (le-ltb c 26 h) (el ∙ ed, refl)

-- with the code as it was read
module _ (l l' words : List ℕ) (q e : ℕ) (a : PutsLabel words l q e) (c : ℕ) (ec : (c ≡ code_at words q) × (c < 65536)) where
  pub put_letter : c < 26 → (v : ℕ) → v ≡ c + 65 → l' ≡ set l (e - 1) v → OneMore l l' (code_at words q) e (e - 1)
  put_letter h v ev el = subst (λ (x : ℕ). OneMore l l' x e (e - 1)) ec.0 (put_letter_at l l' c e h (puts_some words l q e a c ec h).0 (el ∙ rw ev))

  pub put_other : 26 ≤ c → l' ≡ l → OneMore l l' (code_at words q) e e
  put_other h el = subst (λ (x : ℕ). OneMore l l' x e e) ec.0 (put_other_at l l' c e h el)

-- ---- the labels of a stack, before others

unfoldable pub labels_up : List Place → List ℕ → List ℕ → List ℕ
labels_up pl [] vs = vs
labels_up pl (x ∷ xs) vs = labels_up pl xs (label_of (get_or pl (x % length pl) (p_fork [])) vs)

labels-up : (pl : List Place) (xs p : List ℕ) → labels pl (reverse_aux xs p) ≡ labels_up pl xs (labels pl p)
unfolding labels_up labels
labels-up pl [] p = refl
labels-up pl (x ∷ xs) p = labels-up pl xs (x ∷ p)

label_length : (p : Place) (vs : List ℕ) → length (label_of p vs) ≡ takes p + length vs
label_length (p_letter c k) vs = omega arith
label_length (p_caret k) vs = omega arith
label_length (p_dollar k) vs = omega arith
label_length (p_fork ks) vs = omega arith
label_length p_end vs = omega arith

up-length : (pl : List Place) (xs vs : List ℕ) → length vs ≤ length (labels_up pl xs vs)
unfolding labels_up
up-length pl [] vs = omega arith
up-length pl (x ∷ xs) vs =
    let p : Place = get_or pl (x % length pl) (p_fork []) in
    let a = up-length pl xs (label_of p vs) in
    let b = label_length p vs in
    omega arith

label_of_lem : (c k : ℕ) (ks vs : List ℕ) (a x y z : Bool) → label_of (pick a (p_letter c k) (pick x (p_caret k) (pick y (p_dollar k) (pick z (p_fork ks) p_end)))) vs ≡ if_letter a c vs
label_of_lem c k ks vs true x y z = refl
label_of_lem c k ks vs false true y z = refl
label_of_lem c k ks vs false false true z = refl
label_of_lem c k ks vs false false false true = refl
label_of_lem c k ks vs false false false false = refl

label_at : (T : Layout) (q : ℕ) (vs : List ℕ) → label_of (place_at T.words q) vs ≡ label_by (code_at T.words q) vs
unfolding place_at place_by label_by
label_at T q vs = label_of_lem _ (first_at T.words q) (ways_of T.words q) vs (ltb (code_at T.words q) 26) (eqb (code_at T.words q) 26) (eqb (code_at T.words q) 27) (ltb (code_at T.words q) 30)

up-cons : (pl : List Place) (x : ℕ) (xs vs : List ℕ) → labels_up pl (x ∷ xs) vs ≡ labels_up pl xs (label_of (get_or pl (x % length pl) (p_fork [])) vs)
unfolding labels_up
up-cons pl x xs vs = refl

module _ (T : Layout) where
  abbrev pl : List Place
  pl = places_in T.words (P T)

  place_of : (x : ℕ) → 0 < P T → get_or pl (x % length pl) (p_fork []) ≡ place_at T.words (x % P T)
  place_of x h = rw (in_length T.words (P T)) (in_at T.words (P T) (x % P T) (mod-lt x h))

  -- the stack's bottom is at row i
  abbrev pub Ends : List ℕ → ℕ → Type 0
  Ends [] i = Unit {0}
  Ends (x ∷ []) i = x / P T ≡ i
  Ends (x ∷ (y ∷ ys)) i = Ends (y ∷ ys) i

  -- the rows that a path takes, by its first and last position
  rows-up : 0 < P T → (x : ℕ) (xs : List ℕ) (i : ℕ) (vs : List ℕ) → Linked T (x ∷ xs) → Ends (x ∷ xs) i
      → i + length (labels_up pl (x ∷ xs) vs) ≡ x / P T + takes (place_at T.words (x % P T)) + length vs
  unfolding labels_up Onto
  rows-up z x [] i vs l e = let a = label_length (place_at T.words (x % P T)) vs in rw (place_of x z) (omega arith)
  rows-up z x (y ∷ ys) i vs l e =
      let p : Place = place_at T.words (x % P T) in
      let a = label_length p vs in
      let b = rows-up z y ys i (label_of p vs) l.1 e in
      let c = l.0 in
      rw (place_of x z) (omega arith)

  pub rows_taken : 0 < P T → (x : ℕ) (xs : List ℕ) (i : ℕ) → Linked T (x ∷ xs) → Ends (x ∷ xs) i
      → i + length (labels pl (reverse_aux (x ∷ xs) [])) ≡ x / P T + takes (place_at T.words (x % P T))
  unfolding labels
  rows_taken z x xs i l e = let r = rows-up z x xs i [] l e in rw (labels-up pl (x ∷ xs) []) (omega arith)

-- ---- one pair back

module _ (T : Layout) (trail : List ℕ) (some : 0 < P T) where
  up-back : (k : ℕ) → Word T (get_or trail k 0) → (vs : List ℕ)
      → labels_up (places_in T.words (P T)) (stack (P T) trail (suc k)) vs ≡ labels_up (places_in T.words (P T)) (stack (P T) trail k) (label_by (code_at T.words (place_in (get_or trail k 0))) vs)
  unfolding stack
  up-back k h vs = up-cons (places_in T.words (P T)) (pair_in (P T) (get_or trail k 0)) (stack (P T) trail k) vs ∙ ap (labels_up (places_in T.words (P T)) (stack (P T) trail k)) label_is
    where
      label_is : label_of (get_or (places_in T.words (P T)) (pair_in (P T) (get_or trail k 0) % length (places_in T.words (P T))) (p_fork [])) vs ≡ label_by (code_at T.words (place_in (get_or trail k 0))) vs
      label_is = ap (λ (p : Place). label_of p vs) (place_of T (pair_in (P T) (get_or trail k 0)) some ∙ ap (place_at T.words) (word-place T (get_or trail k 0) h.place)) ∙ label_at T (place_in (get_or trail k 0)) vs

-- ---- the loop

pub record Labelling (T : Layout) (trail d : List ℕ) (top₁ fin : ℕ) (lab : List ℕ) (k e : ℕ) : Type 0 where
  pub asks : Labels T trail d top₁ fin
  pub within : k ≤ top₁
  pub vs : List ℕ
  pub lab_is : lab ≡ wrote d e vs
  pub end : e + length vs ≡ fin
  pub up : labels_up (places_in T.words (P T)) (stack (P T) trail k) vs ≡ labels_on T trail top₁

up_none : (pl : List Place) (P : ℕ) (trail vs L : List ℕ) (t : ℕ) → t ≤ 0 → labels_up pl (stack P trail t) vs ≡ L → vs ≡ L
unfolding labels_up stack
up_none pl P trail vs L zero h e = e
up_none pl P trail vs L (suc t) h e = absurd (omega arith)

one-longer : (c : ℕ) (vs : List ℕ) → c < 26 → length (label_by c vs) ≡ suc (length vs)
unfolding label_by
one-longer c vs e = rw (lt-ltb c 26 e)

module _ (T : Layout) (trail d : List ℕ) (top₁ fin : ℕ) where
  pub labelling_none : Labels T trail d top₁ fin → Labelling T trail d top₁ fin d top₁ fin
  unfolding labels_on labels
  labelling_none h =
      record {
        asks = h;
        within = omega arith;
        vs = [];
        lab_is = sym (wrote_none d fin);
        end = omega arith;
        up = sym (labels-up (places_in T.words (P T)) (stack (P T) trail top₁) []);
      }

  module _ (lab : List ℕ) (k e : ℕ) (u : Labelling T trail d top₁ fin lab k e) where
    pub labelling_long : length lab ≡ length d
    labelling_long = let a = u.end in let b = u.asks.end_room in rw u.lab_is (length-wrote_at d e u.vs (omega arith))

    pub labelling_all : k ≤ 0 → lab ≡ wrote d (fin - length (labels_on T trail top₁)) (labels_on T trail top₁)
    labelling_all l =
        let v : u.vs ≡ labels_on T trail top₁ = up_none (places_in T.words (P T)) (P T) trail u.vs _ k l u.up in
        let a = u.end in
        let z : e ≡ fin - length (labels_on T trail top₁) = rw v at (let y : e ≡ fin - length u.vs = omega arith in y) in
        rw (z, v) at u.lab_is

    module _ (going : 0 < k) where
      abbrev code : ℕ
      code = code_at T.words (place_in (get_or trail (k - 1) 0))

      word : Word T (get_or trail (k - 1) 0)
      word = u.asks.words (k - 1) (let a = u.within in omega arith)

      up_is : labels_up (places_in T.words (P T)) (stack (P T) trail (k - 1)) (label_by code u.vs) ≡ labels_on T trail top₁
      up_is =
          let s : suc (k - 1) ≡ k = omega arith in
          let a : labels_up (places_in T.words (P T)) (stack (P T) trail k) u.vs ≡ labels_up (places_in T.words (P T)) (stack (P T) trail (k - 1)) (label_by code u.vs) =
          subst (λ (t : ℕ). labels_up (places_in T.words (P T)) (stack (P T) trail t) u.vs ≡ labels_up (places_in T.words (P T)) (stack (P T) trail (k - 1)) (label_by code u.vs)) s (up-back T trail u.asks.some (k - 1) word u.vs) in
          sym a ∙ u.up

      room : code < 26 → 0 < e
      room s =
          let a = u.end in
          let b = u.asks.enough in
          let c : length (label_by code u.vs) ≤ length (labels_on T trail top₁) = rw (← up_is) (up-length (places_in T.words (P T)) (stack (P T) trail (k - 1)) (label_by code u.vs)) in
          let f : length (label_by code u.vs) ≡ suc (length u.vs) = one-longer code u.vs s in
          omega arith

      pub labelling_puts : (x : ℕ) → (x ≡ get_or trail (k - 1) 0) × (x < 4294967296) → (q : ℕ) → (q ≡ place_in x) × (q < 2048) → PutsLabel T.words lab q e
      labelling_puts x ex q eq =
          let a = u.end in
          let b = u.asks.end_room in
          let l = labelling_long in
          rw (eq.0 ∙ ap (λ (y : ℕ). place_in y) ex.0) (record { place = let p = word.place in let o = u.asks.long in omega arith; end = omega arith; room = room })

      pub labelling_more : (x : ℕ) → (x ≡ get_or trail (k - 1) 0) × (x < 4294967296) → (q : ℕ) → (q ≡ place_in x) × (q < 2048) → (lab' : List ℕ) (e' : ℕ) → OneMore lab lab' (code_at T.words q) e e' → Labelling T trail d top₁ fin lab' (k - 1) e'
      labelling_more x ex q eq lab' e' o =
          let a = u.end in
          let b = u.asks.end_room in
          let f : (lab' ≡ wrote d e' (label_by code u.vs)) × (e' + length (label_by code u.vs) ≡ e + length u.vs) = rw (eq.0 ∙ ap (λ (y : ℕ). place_in y) ex.0) at (o d u.vs u.lab_is (omega arith)) in
          record {
            asks = u.asks;
            within = let w = u.within in omega arith;
            vs = label_by code u.vs;
            lab_is = f.0;
            end = f.1 ∙ u.end;
            up = up_is;
          }

-- The parenthesised language of a phrase without unbounded quantifiers as a list (`listing`): each
-- derivation stands before all that it is preferred to (`listing-descends`), and every derivation
-- is in it (`listing-complete`).
use mathlib.Core.Path.{◌≡◌, refl, subst}
use mathlib.Core.List.Memᴰ
use mathlib.Core.List.{List, [], ◌∷◌, ◌++◌, map, flat_map, Memᴰ}
use mathlib.Core.Bool.{Bool, true, false, not, ◌&&◌, true≢false}
use mathlib.Core.Logic.{inl, inr, ⊎_elim}
use mathlib.Core.Option.{Option, none, some}
use mathlib.Core.HLevel.{×_prop, Σ_prop_path}
use Prim.Native.Nat.{ℕ, zero, suc, ◌≤◌}
use native.Mathlib.Nat.{le_of_suc-le-suc, not-suc-le-zero}
use native.Mathlib.Decide.{dec_le}
use native.Mathlib.Bridge.{le_prop}
use lib.ListN.{length}
use borrow.Author.Tests.{not-true}
use Rattle.rules.specs.Language.{Form, lower, upper, Rank, Tree, one, more, last, next, bare, times, letter, caret, dollar, empty, group, unbounded}
use Rattle.rules.specs.Preferment.{Derivation, FirstBranch, Lexicographic, RoundByRound, Prefers}
use Rattle.rules.specs.Readings.{Within}
use Rattle.laws.proofs.Level.{and-true}
use Rattle.laws.proofs.PrefermentOrder.{within-prop}

-- ---- the list

-- each of the first with each of the second, the first deciding first
unfoldable pub each : {A B C : Type 0} → (A → B → C) → List A → List B → List C
unfolding flat_map
each f xs ys = flat_map (λ x. map (f x) ys) xs

-- no round more: last for a greedy quantifier, first for a reluctant one
abbrev pub stopping : {A : Type 0} → Bool → List (List A) → List (List A)
stopping false xs = xs ++ ([] ∷ [])
stopping true xs = [] ∷ xs

-- up to m rounds
unfoldable pub up_to : {A : Type 0} → Bool → ℕ → List A → List (List A)
unfolding each
up_to lazy zero xs = [] ∷ []
up_to lazy (suc m) xs = stopping lazy (each (λ x l. x ∷ l) xs (up_to lazy m xs))

-- those that have the property W
abbrev pub add_if : {A : Type 0} {W : A → Type 0} (x : A) → Dec (W x) → List ((x : A) × W x) → List ((x : A) × W x)
add_if x (yes w) l = (x, w) ∷ l
add_if x (no w) l = l

unfoldable pub those : {A : Type 0} (W : A → Type 0) → ((x : A) → Dec (W x)) → List A → List ((x : A) × W x)
those W dec [] = []
those W dec (x ∷ xs) = add_if {W = W} x (dec x) (those W dec xs)

abbrev pub both : {A B : Type 0} → Dec A → Dec B → Dec (A × B)
both (yes a) (yes b) = yes (a, b)
both (yes a) (no b) = no (λ x. b x.1)
both (no a) b = no (λ x. a x.0)

unfoldable pub dec_within : (c : ℕ) (hi : Option ℕ) → Dec (Within c hi)
unfolding dec_le
dec_within c none = yes tt
dec_within c (some hi) = dec_le c hi

abbrev pub most : Option ℕ → ℕ
most none = 0
most (some hi) = hi

-- so many rounds as a quantifier allows
abbrev pub Fit : {A : Type 0} → Form → List A → Type 0
Fit f ds = (lower f ≤ length ds) × Within (length ds) (upper f)

unfoldable pub dec_fit : {A : Type 0} (f : Form) (ds : List A) → Dec (Fit f ds)
unfolding dec_le dec_within lower upper
dec_fit f ds = both (dec_le (lower f) (length ds)) (dec_within (length ds) (upper f))

unfoldable pub listing : {k : Rank} (t : Tree k) → List (Derivation t)
unfolding Derivation each up_to those dec_fit upper
listing (one b) = listing b
listing (more b p) = map (λ x. inl x) (listing b) ++ map (λ x. inr x) (listing p)
listing (last f) = listing f
listing (next f b) = each (λ x y. (x, y)) (listing f) (listing b)
listing (bare x) = listing x
listing (times x f z) = those (Fit f) (dec_fit f) (up_to z (most (upper f)) (listing x))
listing (letter c) = tt ∷ []
listing caret = tt ∷ []
listing dollar = tt ∷ []
listing empty = tt ∷ []
listing (group p) = listing p

-- ---- in descending order

-- each before all that come behind it
abbrev pub Descends : {A : Type 0} → (A → A → Type 0) → List A → Type 0
Descends P [] = Unit {0}
Descends {A} P (x ∷ xs) = ((y : A) → Memᴰ y xs → P x y) × Descends P xs

descends_one : {A : Type 0} (P : A → A → Type 0) (x : A) → Descends P (x ∷ [])
descends_one P x = (λ y m. absurd (Memᴰ.not-nil m), tt)

descends_append : {A : Type 0} (P : A → A → Type 0) (xs ys : List A) → Descends P xs → Descends P ys → ((x y : A) → Memᴰ x xs → Memᴰ y ys → P x y) → Descends P (xs ++ ys)
descends_append P [] ys a b c = b
descends_append P (x ∷ xs) ys a b c = (
  λ y m. ⊎_elim (λ (n : Memᴰ y xs). a.0 y n) (λ (n : Memᴰ y ys). c x y (Memᴰ.head refl) n) (Memᴰ.append_cases xs m),
  descends_append P xs ys a.1 b (λ x y m n. c x y (Memᴰ.tail m) n),
)

descends_map : {A B : Type 0} (P : A → A → Type 0) (Q : B → B → Type 0) (f : A → B) → ((x y : A) → P x y → Q (f x) (f y)) → (xs : List A) → Descends P xs → Descends Q (map f xs)
descends_map P Q f h [] a = tt
descends_map P Q f h (x ∷ xs) a = (λ z m. let r = Memᴰ.of_map f xs m in rw (← r.2) (h x r.0 (a.0 r.0 r.1)), descends_map P Q f h xs a.1)

module _ {A C : Type 0} (g : A → List C) where
  in_flat : {x : A} {c : C} (xs : List A) → Memᴰ x xs → Memᴰ c (g x) → Memᴰ c (flat_map g xs)
  unfolding flat_map
  in_flat {x} {c} [] m n = elim m [ ]
  in_flat {x} {c} (y ∷ xs) (Memᴰ.head e) n = Memᴰ.append_left (flat_map g xs) (rw e at n)
  in_flat (y ∷ xs) (Memᴰ.tail m) n = Memᴰ.append_right (g y) (in_flat xs m n)

  of_flat : {c : C} (xs : List A) → Memᴰ c (flat_map g xs) → (x : A) × (Memᴰ x xs) × (Memᴰ c (g x))
  unfolding flat_map
  of_flat [] m = absurd (Memᴰ.not-nil m)
  of_flat {c} (y ∷ xs) m =
      ⊎_elim (λ (n : Memᴰ c (g y)). (y, Memᴰ.head refl, n)) (λ (n : Memᴰ c (flat_map g xs)). let r = of_flat xs n in (r.0, Memᴰ.tail r.1, r.2))
      (Memᴰ.append_cases (g y) m)

  flat_descends : (P : A → A → Type 0) (S : C → C → Type 0) → ((x y : A) → P x y → (c d : C) → Memᴰ c (g x) → Memᴰ d (g y) → S c d) → ((x : A) → Descends S (g x))
      → (xs : List A) → Descends P xs → Descends S (flat_map g xs)
  unfolding flat_map
  flat_descends P S h o [] a = tt
  flat_descends P S h o (x ∷ xs) a =
      descends_append S (g x) (flat_map g xs) (o x) (flat_descends P S h o xs a.1) (λ c d m n. let r = of_flat xs n in h x r.0 (a.0 r.0 r.1) c d m r.2)

module _ {A B C : Type 0} (f : A → B → C) where
  in_each : {x : A} {y : B} (xs : List A) (ys : List B) → Memᴰ x xs → Memᴰ y ys → Memᴰ (f x y) (each f xs ys)
  unfolding each
  in_each {x} {y} xs ys m n = in_flat (λ x. map (f x) ys) xs m (Memᴰ.map (f x) n)

  of_each : {c : C} (xs : List A) (ys : List B) → Memᴰ c (each f xs ys) → (x : A) × (y : B) × (f x y ≡ c)
  unfolding each
  of_each xs ys m = let r = of_flat (λ x. map (f x) ys) xs m in let s = Memᴰ.of_map (f r.0) ys r.2 in (r.0, s.0, s.2)

  each-descends : (P : A → A → Type 0) (Q : B → B → Type 0) (S : C → C → Type 0) → ((x x' : A) (y y' : B) → P x x' → S (f x y) (f x' y'))
      → ((x : A) (y y' : B) → Q y y' → S (f x y) (f x y')) → (xs : List A) (ys : List B) → Descends P xs → Descends Q ys → Descends S (each f xs ys)
  unfolding each
  each-descends P Q S h g xs ys a b =
      flat_descends (λ x. map (f x) ys) P S
      (λ x y l c d m n. let r = Memᴰ.of_map (f x) ys m in let s = Memᴰ.of_map (f y) ys n in rw (← r.2, ← s.2) (h x y r.0 s.0 l))
      (λ x. descends_map Q S (f x) (g x) ys b) xs a

module _ {A : Type 0} (P : A → A → Type 0) where
  stopping-descends : (lazy : Bool) (xs : List A) (ys : List (List A)) → Descends (RoundByRound lazy P) (each (λ x l. x ∷ l) xs ys)
      → Descends (RoundByRound lazy P) (stopping lazy (each (λ x l. x ∷ l) xs ys))
  unfolding RoundByRound
  stopping-descends false xs ys d =
      descends_append (RoundByRound false P) (each (λ x l. x ∷ l) xs ys) ([] ∷ []) d (descends_one (RoundByRound false P) [])
      (λ l e m n. let r = of_each (λ x l. x ∷ l) xs ys m in rw (← r.2, Memᴰ.eq_of_singleton n) refl)
  stopping-descends true xs ys d = (λ l m. let r = of_each (λ x l. x ∷ l) xs ys m in rw (← r.2) refl, d)

  up_to-descends : (lazy : Bool) (m : ℕ) (xs : List A) → Descends P xs → Descends (RoundByRound lazy P) (up_to lazy m xs)
  unfolding up_to RoundByRound
  up_to-descends lazy zero xs d = descends_one (RoundByRound lazy P) []
  up_to-descends lazy (suc m) xs d =
      stopping-descends lazy xs (up_to lazy m xs)
      (each-descends (λ x l. x ∷ l) P (RoundByRound lazy P) (RoundByRound lazy P) (λ x x' y y' l. inl l) (λ x y y' l. inr (refl, l)) xs (up_to lazy m xs) d (up_to-descends lazy m xs d))

module _ {A : Type 0} (W : A → Type 0) (dec : (x : A) → Dec (W x)) where
  of_those : {d : (x : A) × W x} (xs : List A) → Memᴰ d (those W dec xs) → Memᴰ d.0 xs
  unfolding those
  of_those [] m = absurd (Memᴰ.not-nil m)
  of_those {d} (x ∷ xs) m = go (dec x) m (λ n. of_those xs n)
    where
      go : (r : Dec (W x)) → Memᴰ d (add_if {W = W} x r (those W dec xs)) → (Memᴰ d (those W dec xs) → Memᴰ d.0 xs) → Memᴰ d.0 (x ∷ xs)
      go (yes w) (Memᴰ.head e) ih = Memᴰ.head (λ i. (e i).0)
      go (yes w) (Memᴰ.tail n) ih = Memᴰ.tail (ih n)
      go (no w) n ih = Memᴰ.tail (ih n)

  those-descends : (P : A → A → Type 0) (xs : List A) → Descends P xs → Descends (λ x y. P x.0 y.0) (those W dec xs)
  unfolding those
  those-descends P [] a = tt
  those-descends P (x ∷ xs) a = go (dec x) (those-descends P xs a.1)
    where
      go : (r : Dec (W x)) → Descends (λ x y. P x.0 y.0) (those W dec xs) → Descends (λ x y. P x.0 y.0) (add_if {W = W} x r (those W dec xs))
      go (yes w) b = (λ y m. a.0 y.0 (of_those xs m), b)
      go (no w) b = b

pub listing-descends : {k : Rank} (t : Tree k) → Descends (Prefers t) (listing t)
unfolding Derivation Prefers listing FirstBranch Lexicographic
listing-descends (one b) = listing-descends b
listing-descends (more b p) =
    descends_append (Prefers (more b p)) (map (λ x. inl x) (listing b)) (map (λ x. inr x) (listing p))
    (descends_map (Prefers b) (Prefers (more b p)) (λ x. inl x) (λ x y l. l) (listing b) (listing-descends b))
    (descends_map (Prefers p) (Prefers (more b p)) (λ x. inr x) (λ x y l. l) (listing p) (listing-descends p))
    (λ x y m n. let r = Memᴰ.of_map (λ x. inl x) (listing b) m in let s = Memᴰ.of_map (λ x. inr x) (listing p) n in rw (← r.2, ← s.2) tt)
listing-descends (last f) = listing-descends f
listing-descends (next f b) =
    each-descends (λ x y. (x, y)) (Prefers f) (Prefers b) (Prefers (next f b)) (λ x x' y y' l. inl l) (λ x y y' l. inr (refl, l))
    (listing f) (listing b) (listing-descends f) (listing-descends b)
listing-descends (bare x) = listing-descends x
listing-descends (times x f z) =
    those-descends (Fit f) (dec_fit f) (RoundByRound z (Prefers x)) (up_to z (most (upper f)) (listing x))
    (up_to-descends (Prefers x) z (most (upper f)) (listing x) (listing-descends x))
listing-descends (letter c) = descends_one (Prefers (letter c)) tt
listing-descends caret = descends_one (Prefers caret) tt
listing-descends dollar = descends_one (Prefers dollar) tt
listing-descends empty = descends_one (Prefers empty) tt
listing-descends (group p) = listing-descends p

-- ---- and complete

-- every quantifier has an upper bound
unfoldable pub bounded : {k : Rank} → Tree k → Bool
unfolding unbounded upper
bounded (one b) = bounded b
bounded (more b p) = bounded b && bounded p
bounded (last f) = bounded f
bounded (next f b) = bounded f && bounded b
bounded (bare x) = bounded x
bounded (times x f z) = not (unbounded (upper f)) && bounded x
bounded (letter c) = true
bounded caret = true
bounded dollar = true
bounded empty = true
bounded (group p) = bounded p

within-most : (c : ℕ) (hi : Option ℕ) → unbounded hi ≡ false → Within c hi → c ≤ most hi
unfolding unbounded
within-most c none u w = absurd (true≢false u)
within-most c (some hi) u w = w

module _ {A : Type 0} (xs : List A) (complete : (x : A) → Memᴰ x xs) where
  in_stopping : (lazy : Bool) (ds : List A) (ls : List (List A)) → Memᴰ ds ls → Memᴰ ds (stopping lazy ls)
  in_stopping false ds ls m = Memᴰ.append_left ([] ∷ []) m
  in_stopping true ds ls m = Memᴰ.tail m

  stops : (lazy : Bool) (ls : List (List A)) → Memᴰ [] (stopping lazy ls)
  stops false ls = Memᴰ.append_right ls (Memᴰ.head refl)
  stops true ls = Memᴰ.head refl

  up_to-complete : (lazy : Bool) (m : ℕ) (ds : List A) → length ds ≤ m → Memᴰ ds (up_to lazy m xs)
  unfolding up_to
  up_to-complete lazy zero [] h = Memᴰ.head refl
  up_to-complete lazy zero (d ∷ ds) h = absurd (not-suc-le-zero h)
  up_to-complete lazy (suc m) [] h = stops lazy (each (λ x l. x ∷ l) xs (up_to lazy m xs))
  up_to-complete lazy (suc m) (d ∷ ds) h =
      in_stopping lazy (d ∷ ds) (each (λ x l. x ∷ l) xs (up_to lazy m xs)) (in_each (λ x l. x ∷ l) xs (up_to lazy m xs) (complete d) (up_to-complete lazy m ds (le_of_suc-le-suc h)))

in_those : {A : Type 0} (W : A → Type 0) (dec : (x : A) → Dec (W x)) → ((x : A) → IsProp (W x)) → (d : (x : A) × W x) (xs : List A) → Memᴰ d.0 xs
    → Memᴰ d (those W dec xs)
unfolding those
in_those W dec prop d [] m = elim m [ ]
in_those W dec prop d (x ∷ xs) (Memᴰ.head e) = go (dec x)
  where
    go : (r : Dec (W x)) → Memᴰ d (add_if {W = W} x r (those W dec xs))
    go (yes w) = Memᴰ.head (Σ_prop_path prop e)
    go (no w) = absurd (w (subst W e d.1))
in_those W dec prop d (x ∷ xs) (Memᴰ.tail m) = go (dec x) (in_those W dec prop d xs m)
  where
    go : (r : Dec (W x)) → Memᴰ d (those W dec xs) → Memᴰ d (add_if {W = W} x r (those W dec xs))
    go (yes w) k = Memᴰ.tail k
    go (no w) k = k

pub listing-complete : {k : Rank} (t : Tree k) → bounded t ≡ true → (d : Derivation t) → Memᴰ d (listing t)
unfolding Derivation listing bounded
listing-complete (one b) h d = listing-complete b h d
listing-complete (more b p) h (inl d) = Memᴰ.append_left (map (λ x. inr x) (listing p)) (Memᴰ.map (λ x. inl x) (listing-complete b (and-true (bounded b) (bounded p) h).0 d))
listing-complete (more b p) h (inr d) = Memᴰ.append_right (map (λ x. inl x) (listing b)) (Memᴰ.map (λ x. inr x) (listing-complete p (and-true (bounded b) (bounded p) h).1 d))
listing-complete (last f) h d = listing-complete f h d
listing-complete (next f b) h d =
    let g = and-true (bounded f) (bounded b) h in
    in_each (λ x y. (x, y)) (listing f) (listing b) (listing-complete f g.0 d.0) (listing-complete b g.1 d.1)
listing-complete (bare x) h d = listing-complete x h d
listing-complete (times x f z) h d =
    let g = and-true (not (unbounded (upper f))) (bounded x) h in
    in_those (Fit f) (dec_fit f) (λ ds. ×_prop le_prop (within-prop (length ds) (upper f))) d (up_to z (most (upper f)) (listing x))
    (up_to-complete (listing x) (λ y. listing-complete x g.1 y) z (most (upper f)) d.0
    (within-most (length d.0) (upper f) (not-true (unbounded (upper f)) g.0) d.1.1))
listing-complete (letter c) h d = Memᴰ.head refl
listing-complete caret h d = Memᴰ.head refl
listing-complete dollar h d = Memᴰ.head refl
listing-complete empty h d = Memᴰ.head refl
listing-complete (group p) h d = listing-complete p h d

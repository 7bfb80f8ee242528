-- The counted walk over any graph, whatever may halt it: what it keeps, and that its steps are the
-- pairs that failed, those of the path found, and those still open where it halts.
use mathlib.Core.Path.{◌≡◌, refl, ap, sym, ◌∙◌}
use mathlib.Core.List.{List, [], ◌∷◌, ◌++◌, Memᴰ}
use mathlib.Core.Bool.{Bool, true, false, true≢false, false≢true}
use mathlib.Core.Logic.{◌⊎◌, inl, inr, ⊎_elim, ◌≢◌}
use Prim.Native.Nat.{ℕ, zero, suc, ◌+◌, ◌≤◌, ◌<◌, zero-le, suc-le-suc}
use native.Mathlib.Nat.{le_trans, le_of_suc-le-suc, not-suc-le-zero}
use native.Mathlib.Omega.{arith}
use lib.ListN.{length, get_or, set, length-set}
use lib.Seq.{get_or-set_same, get_or-set_other}
use Rattle.rules.specs.Walk.{Ways, accept, try, Halting, Outcome, found, failed, halted, or_else, close, enter_unless, tries, inside, inside_by, count_true, as_kept}
use Rattle.rules.specs.Working.{All, In, Out, Rising, Falls}

pub All-map : {P Q : ℕ → Type 0} → ((y : ℕ) → P y → Q y) → (ys : List ℕ) → All P ys → All Q ys
All-map f [] a = tt
All-map f (y ∷ ys) a = (f y a.0, All-map f ys a.1)

pub All-append : (P : ℕ → Type 0) (xs ys : List ℕ) → All P xs → All P ys → All P (xs ++ ys)
All-append P [] ys a b = b
All-append P (x ∷ xs) ys a b = (a.0, All-append P xs ys a.1 b)

pub All-at : (P : ℕ → Type 0) {y : ℕ} {ys : List ℕ} → Memᴰ y ys → All P ys → P y
All-at P (Memᴰ.head e) a = rw e a.0
All-at P (Memᴰ.tail m) a = All-at P m a.1

-- ---- marking

pub in_below : (F : List Bool) (z : ℕ) → In F z → z < length F
in_below [] z h = absurd (false≢true h)
in_below (a ∷ F) zero h = suc-le-suc zero-le
in_below (a ∷ F) (suc z) h = suc-le-suc (in_below F z h)

pub in_mark : (F : List Bool) (x z : ℕ) → In F z → In (set F x true) z
in_mark [] x z h = h
in_mark (a ∷ F) zero zero h = refl
in_mark (a ∷ F) zero (suc z) h = h
in_mark (a ∷ F) (suc x) zero h = h
in_mark (a ∷ F) (suc x) (suc z) h = in_mark F x z h

pub mark-in : (F : List Bool) (x z : ℕ) → In (set F x true) z → In F z ⊎ (z ≡ x)
mark-in [] x z h = inl h
mark-in (a ∷ F) zero zero h = inr refl
mark-in (a ∷ F) zero (suc z) h = inl h
mark-in (a ∷ F) (suc x) zero h = inl h
mark-in (a ∷ F) (suc x) (suc z) h = ⊎_elim (λ i. inl i) (λ e. inr (ap suc e)) (mark-in F x z h)

pub count-mark : (F : List Bool) (x : ℕ) → x < length F → Out F x → count_true (set F x true) ≡ suc (count_true F)
unfolding count_true
count-mark [] x h o = absurd (not-suc-le-zero h)
count-mark (true ∷ F) zero h o = absurd (true≢false o)
count-mark (false ∷ F) zero h o = refl
count-mark (true ∷ F) (suc x) h o = ap suc (count-mark F x (le_of_suc-le-suc h) o)
count-mark (false ∷ F) (suc x) h o = count-mark F x (le_of_suc-le-suc h) o

pub count-le : (F : List Bool) → count_true F ≤ length F
unfolding count_true
count-le [] = zero-le
count-le (true ∷ F) = suc-le-suc (count-le F)
count-le (false ∷ F) = let h : count_true F ≤ length F = count-le F in omega arith

pub out-of_not_in : (F : List Bool) (x : ℕ) → (In F x → ⊥) → Out F x
out-of_not_in F x h = go (get_or F x false) refl
  where
    go : (t : Bool) → get_or F x false ≡ t → Out F x
    go true e = absurd (h e)
    go false e = e

-- ---- a list of pairs that have not failed, and of which each ranks below those behind it: with
-- the failed ones they are at most all

pub out-mark : (F : List Bool) (x z : ℕ) → z ≢ x → Out F z → Out (set F x true) z
out-mark F x z h o = get_or-set_other F x z true false h ∙ o

-- no pair stands twice
abbrev pub Apart : List ℕ → Type 0
Apart [] = Unit {0}
Apart (x ∷ xs) = All (λ z. z ≢ x) xs × Apart xs

pub All-map₂ : {P Q R : ℕ → Type 0} → ((y : ℕ) → P y → Q y → R y) → (ys : List ℕ) → All P ys → All Q ys → All R ys
All-map₂ f [] a b = tt
All-map₂ f (y ∷ ys) a b = (f y a.0 b.0, All-map₂ f ys a.1 b.1)

pub rising_apart : (ρ : ℕ → ℕ) (xs : List ℕ) → Rising ρ xs → Apart xs
rising_apart ρ [] r = tt
rising_apart ρ (x ∷ xs) r =
    (All-map {Q = λ z. z ≢ x} (λ z (h : ρ x < ρ z) (e : z ≡ x). let q : ρ z ≡ ρ x = ap ρ e in omega arith) xs r.0, rising_apart ρ xs r.1)

pub room : (xs : List ℕ) (F : List Bool) → Apart xs → All (Out F) xs → All (λ z. z < length F) xs → length xs + count_true F ≤ length F
room [] F a o b = omega (arith, count-le F)
room (x ∷ xs) F a o b =
    let G : List Bool = set F x true in
    let l : length G ≡ length F = length-set F x true in
    let c : count_true G ≡ suc (count_true F) = count-mark F x b.0 o.0 in
    let ih : length xs + count_true G ≤ length G =
    room xs G a.1 (All-map₂ (λ z (h : z ≢ x) (i : Out F z). out-mark F x z h i) xs a.0 o.1)
    (All-map (λ z (h : z < length F). le_trans h (omega arith)) xs b.1) in
    omega arith

-- ---- how the failed pairs grow: none is lost, and a new one ranks below b

pub record Grew (ρ : ℕ → ℕ) (b : ℕ) (F F' : List Bool) : Type 0 where
  pub len : length F' ≡ length F
  pub keeps : (z : ℕ) → In F z → In F' z
  pub new : (z : ℕ) → In F' z → In F z ⊎ (ρ z < b)

module _ (ρ : ℕ → ℕ) where
  pub grew_refl : (b : ℕ) (F : List Bool) → Grew ρ b F F
  grew_refl b F = record { len = refl; keeps = λ z h. h; new = λ z h. inl h }

  pub grew_trans : (a b c : ℕ) (F G H : List Bool) → a ≤ c → b ≤ c → Grew ρ a F G → Grew ρ b G H → Grew ρ c F H
  grew_trans a b c F G H ha hb g h =
      record {
        len = h.len ∙ g.len;
        keeps = λ z i. h.keeps z (g.keeps z i);
        new = λ z i. ⊎_elim (λ j. ⊎_elim (λ o. inl o) (λ r. inr (le_trans r ha)) (g.new z j)) (λ r. inr (le_trans r hb)) (h.new z i);
      }

  pub grew_mark : (b : ℕ) (F : List Bool) (x : ℕ) → ρ x < b → Grew ρ b F (set F x true)
  grew_mark b F x h =
      record {
        len = length-set F x true;
        keeps = in_mark F x;
        new = λ z i. ⊎_elim (λ o. inl o) (λ e. inr (rw e h)) (mark-in F x z i);
      }

-- ---- what the walk leaves, by its result

pub record TriesDead (ρ : ℕ → ℕ) (b : ℕ) (F : List Bool) (s : ℕ) (ys : List ℕ) (F' : List Bool) (s' : ℕ) : Type 0 where
  pub grew : Grew ρ b F F'
  pub all : All (In F') ys
  pub sum : s' + count_true F ≡ s + count_true F'

pub record TriesFound (ρ : ℕ → ℕ) (b : ℕ) (F : List Bool) (s : ℕ) (p : List ℕ) (F' : List Bool) (s' : ℕ) : Type 0 where
  pub grew : Grew ρ b F F'
  pub off : All (Out F') p
  pub sum : s' + count_true F ≡ s + count_true F' + length p

pub record InsideDead (ρ : ℕ → ℕ) (F : List Bool) (s x : ℕ) (F' : List Bool) (s' : ℕ) : Type 0 where
  pub grew : Grew ρ (suc (ρ x)) F F'
  pub it : In F' x
  pub sum : suc (s' + count_true F) ≡ s + count_true F'

pub record InsideFound (ρ : ℕ → ℕ) (F : List Bool) (s x : ℕ) (p : List ℕ) (F' : List Bool) (s' : ℕ) : Type 0 where
  pub grew : Grew ρ (ρ x) F F'
  pub off : All (Out F') p
  pub sum : suc (s' + count_true F) ≡ s + count_true F' + length p

-- what a halt leaves, p being the pairs still open, is what a path found would
abbrev pub TriesPost : (ℕ → ℕ) → ℕ → List Bool → ℕ → List ℕ → Outcome → Type 0
TriesPost ρ b F s ys (found p kept') = TriesFound ρ b F s p kept'.failed kept'.steps
TriesPost ρ b F s ys (failed kept') = TriesDead ρ b F s ys kept'.failed kept'.steps
TriesPost ρ b F s ys (halted h p kept') = TriesFound ρ b F s p kept'.failed kept'.steps

abbrev pub InsidePost : (ℕ → ℕ) → List Bool → ℕ → ℕ → Outcome → Type 0
InsidePost ρ F s x (found p kept') = InsideFound ρ F s x p kept'.failed kept'.steps
InsidePost ρ F s x (failed kept') = InsideDead ρ F s x kept'.failed kept'.steps
InsidePost ρ F s x (halted h p kept') = InsideFound ρ F s x p kept'.failed kept'.steps

module _ (ρ : ℕ → ℕ) (b : ℕ) (F : List Bool) (s y : ℕ) (ys : List ℕ) where
  -- the first pair had failed before
  skipped : (r : Outcome) → In F y → TriesPost ρ b F s ys r → TriesPost ρ b F s (y ∷ ys) r
  skipped (found p kept') i t = t
  skipped (failed kept') i t = record { grew = t.grew; all = (t.grew.keeps y i, t.all); sum = t.sum }
  skipped (halted h p kept') i t = t

  -- the first pair has failed now
  after : (F₁ : List Bool) (s₁ : ℕ) → ρ y < b → InsideDead ρ F (suc s) y F₁ s₁ → (r : Outcome) → TriesPost ρ b F₁ s₁ ys r → TriesPost ρ b F s (y ∷ ys) r
  after F₁ s₁ h d (found p kept') t =
      record { grew = grew_trans ρ _ _ b F F₁ kept'.failed h (omega arith) d.grew t.grew; off = t.off; sum = omega arith }
  after F₁ s₁ h d (failed kept') t =
      record { grew = grew_trans ρ _ _ b F F₁ kept'.failed h (omega arith) d.grew t.grew; all = (t.grew.keeps y d.it, t.all); sum = omega arith }
  after F₁ s₁ h d (halted w p kept') t =
      record { grew = grew_trans ρ _ _ b F F₁ kept'.failed h (omega arith) d.grew t.grew; off = t.off; sum = omega arith }

module _ (h : Halting) (ways : ℕ → Ways) (ρ : ℕ → ℕ) (N : ℕ) where
  abbrev pub InsideAt : ℕ → Type 0
  InsideAt k = (F : List Bool) (s y : ℕ) → ρ y < k → y < N → length F ≡ N → Out F y → InsidePost ρ F s y (inside h ways k (as_kept F s) y)

  -- one more pair to try
  tries-cons : (k : ℕ) → InsideAt k → (b : ℕ) → b ≤ k → (F : List Bool) (s y : ℕ) (ys : List ℕ) → length F ≡ N → ρ y < b → y < N
      → ((F' : List Bool) (s' : ℕ) → length F' ≡ N → TriesPost ρ b F' s' ys (tries h (inside h ways k) (as_kept F' s') ys))
      → (t : Bool) → get_or F y false ≡ t → (u : Bool)
      → TriesPost ρ b F s (y ∷ ys) (or_else (enter_unless t u (inside h ways k) (as_kept F s) y) (λ kept'. tries h (inside h ways k) kept' ys))
  tries-cons k ih b hb F s y ys len hy lt rest true e u = skipped ρ b F s y ys (tries h (inside h ways k) (as_kept F s) ys) e (rest F s len)
  tries-cons k ih b hb F s y ys len hy lt rest false e true = record { grew = grew_refl ρ b F; off = tt; sum = omega arith }
  tries-cons k ih b hb F s y ys len hy lt rest false e false = go (inside h ways k (as_kept F (suc s)) y) (ih F (suc s) y (le_trans hy hb) lt len e)
    where
      go : (r : Outcome) → InsidePost ρ F (suc s) y r → TriesPost ρ b F s (y ∷ ys) (or_else r (λ kept'. tries h (inside h ways k) kept' ys))
      go (found p kept') d = record { grew = grew_trans ρ _ _ b F F kept'.failed hy (omega arith) (grew_refl ρ _ F) d.grew; off = d.off; sum = omega arith }
      go (failed kept') d = after ρ b F s y ys kept'.failed kept'.steps hy d (tries h (inside h ways k) kept' ys) (rest kept'.failed kept'.steps (d.grew.len ∙ len))
      go (halted w p kept') d = record { grew = grew_trans ρ _ _ b F F kept'.failed hy (omega arith) (grew_refl ρ _ F) d.grew; off = d.off; sum = omega arith }

  tries-post : (k : ℕ) → InsideAt k → (b : ℕ) → b ≤ k → (ys : List ℕ) → All (λ y. (ρ y < b) × (y < N)) ys
      → (F : List Bool) (s : ℕ) → length F ≡ N → TriesPost ρ b F s ys (tries h (inside h ways k) (as_kept F s) ys)
  unfolding tries
  tries-post k ih b hb [] a F s len = record { grew = grew_refl ρ b F; all = tt; sum = refl }
  tries-post k ih b hb (y ∷ ys) a F s len =
      tries-cons k ih b hb F s y ys len a.0.0 a.0.1 (λ F' s' l. tries-post k ih b hb ys a.1 F' s' l) (get_or F y false) refl (h.spent s)

  -- a pair that is no failed one is none after its tries, since what fails there ranks below it
  still_out : (F F' : List Bool) (x : ℕ) → Out F x → Grew ρ (ρ x) F F' → Out F' x
  still_out F F' x o g = out-of_not_in F' x (λ i. ⊎_elim (λ j. true≢false (sym j ∙ o)) (λ r. omega arith) (g.new x i))

  close-post : (F : List Bool) (s x : ℕ) (ys : List ℕ) → length F ≡ N → x < N → Out F x → (r : Outcome) → TriesPost ρ (ρ x) F s ys r → InsidePost ρ F s x (close x r)
  close-post F s x ys len lt o (found p kept') t =
      record { grew = t.grew; off = (still_out F kept'.failed x o t.grew, t.off); sum = omega arith }
  close-post F s x ys len lt o (failed kept') t =
      let l : x < length kept'.failed = rw t.grew.len (omega arith) in
      record {
        grew = grew_trans ρ (ρ x) (suc (ρ x)) (suc (ρ x)) F kept'.failed (set kept'.failed x true) (omega arith) (omega arith) t.grew (grew_mark ρ (suc (ρ x)) kept'.failed x (omega arith));
        it = get_or-set_same kept'.failed x true false l;
        sum = omega (arith, t.sum, count-mark kept'.failed x l (still_out F kept'.failed x o t.grew));
      }
  close-post F s x ys len lt o (halted w p kept') t =
      record { grew = t.grew; off = (still_out F kept'.failed x o t.grew, t.off); sum = omega arith }

module _ (h : Halting) (ways : ℕ → Ways) (ρ : ℕ → ℕ) (N : ℕ) (falls : Falls ways ρ N) where
  pub inside-post : (k : ℕ) → InsideAt h ways ρ N k
  unfolding inside inside_by
  inside-post zero F s x hx lt len o = absurd (not-suc-le-zero hx)
  inside-post (suc k) F s x hx lt len o = go (inside-post k) (h.waits x) (ways x) refl
    where
      go : InsideAt h ways ρ N k → (u : Bool) (w : Ways) → ways x ≡ w
          → InsidePost ρ F s x (inside_by h u w (inside h ways k) (as_kept F s) x)
      go ih true w e = record { grew = grew_refl ρ (ρ x) F; off = (o, tt); sum = omega arith }
      go ih false accept e = record { grew = grew_refl ρ (ρ x) F; off = (o, tt); sum = omega arith }
      go ih false (try ys) e =
          close-post h ways ρ N F s x ys len lt o (tries h (inside h ways k) (as_kept F s) ys)
          (tries-post h ways ρ N k ih (ρ x) (le_of_suc-le-suc hx) ys
          (All-map (λ y (r : (ρ y < ρ x) × (x < N → y < N)). (r.0, r.1 lt)) ys (falls x ys e)) F s len)

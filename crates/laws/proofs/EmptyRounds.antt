-- Clause 6.2.7 of ISO/IEC 19075-5 against R-3: where no bounded quantifier over a body that can
-- take no row allows an optional round behind another round, and each unbounded one has lower bound
-- 0, both leave the same derivations (`same-language`), so they choose the same match
-- (`same-match`). proofs/Differs shows that they may differ elsewhere. And where no quantifier over
-- such a body is unbounded, R-3 leaves nothing out (`base_kept`).
use mathlib.Core.Path.{◌≡◌, refl, ap, sym, ◌∙◌}
use mathlib.Core.List.{List, [], ◌∷◌, ◌++◌, flat_map}
use mathlib.Core.Bool.{Bool, true, false, not, ◌||◌, true≢false, ◌&&◌}
use mathlib.Core.Logic.{◌⊎◌, inl, inr, ⊎_elim, ◌↔◌}
use mathlib.Core.Option.{Option, none, some}
use Prim.Native.Nat.{ℕ, ◌-◌, ◌≤◌, ◌<◌, zero, suc}
use native.Mathlib.Omega.{arith}
use lib.ListN.{length, length-append}
use lib.Dec.{ltb, leb, eqb}
use borrow.Author.Tests.{eqb-false, lt-ltb, le-leb, leb-true, not-true, eqb-true}
use Rattle.rules.specs.Basics.{every}
use Rattle.rules.specs.Clause627.{empty_late, allowed, Preferred627, same_rounds, like_clause}
use Rattle.rules.specs.Language.{lower, upper, Rank, Tree, one, more, last, next, bare, times, letter, caret, dollar, empty, group, nullable, unbounded, deeper, loop_nesting, primary}
use Rattle.rules.specs.Preferment.{Derivation, Preferred, word, empty_ends, empty_ends_in, keeps}
use Rattle.rules.specs.Readings.{Within, RowSets}
use Rattle.laws.proofs.Level.{and-true, and-false, or-false}

-- ---- what cannot take no row takes one

rounds_row : {A : Type 0} (f : A → List ℕ) → ((d : A) → 0 < length (f d)) → (ds : List A) → 0 < length ds → 0 < length (flat_map f ds)
unfolding flat_map
rounds_row f h [] l = l
rounds_row f h (d ∷ ds) l = simp length-append (omega (arith, h d))

some-row : (u v : List ℕ) → (0 < length u) ⊎ (0 < length v) → 0 < length (u ++ v)
some-row u v (inl y) = simp length-append (omega arith)
some-row u v (inr y) = simp length-append (omega arith)

pub takes-row : {k : Rank} (t : Tree k) → nullable t ≡ false → (d : Derivation t) → 0 < length (word t d)
unfolding Derivation word nullable
takes-row (one b) h d = takes-row b h d
takes-row (more b p) h (inl d) = takes-row b (or-false (nullable b) (nullable p) h).0 d
takes-row (more b p) h (inr d) = takes-row p (or-false (nullable b) (nullable p) h).1 d
takes-row (last f) h d = takes-row f h d
takes-row (next f b) h d =
    some-row (word f d.0) (word b d.1)
    (⊎_elim (λ (x : nullable f ≡ false). inl (takes-row f x d.0)) (λ (x : nullable b ≡ false). inr (takes-row b x d.1)) (and-false (nullable f) (nullable b) h))
takes-row (bare x) h d = takes-row x h d
takes-row (times x f z) h d =
    let g = or-false (eqb (lower f) 0) (nullable x) h in
    let c = eqb-false (lower f) 0 g.0 in
    rounds_row (λ y. word x y) (λ y. takes-row x g.1 y) d.0 (omega (arith, d.1.0))
takes-row (letter c) h d = omega arith
takes-row caret h d = absurd (true≢false h)
takes-row dollar h d = absurd (true≢false h)
takes-row empty h d = absurd (true≢false h)
takes-row (group p) h d = takes-row p h d

-- ---- where the two languages are the same

or_cases : (a b : Bool) → (a || b) ≡ true → (a ≡ true) ⊎ (b ≡ true)
or_cases true b e = inl refl
or_cases false b e = inr e

or_right : (a b : Bool) → b ≡ true → (a || b) ≡ true
or_right true b e = refl
or_right false b e = e

late_row : {A : Type 0} (f : A → List ℕ) → ((d : A) → 0 < length (f d)) → (lo : ℕ) (ds : List A) → empty_late f lo ds ≡ true
unfolding empty_late
late_row f h lo [] = refl
late_row f h lo (d ∷ []) = refl
late_row f h lo (d ∷ e ∷ ds) = rw (or_right (leb 2 lo) (ltb 0 (length (f d))) (lt-ltb 0 (length (f d)) (h d))) (late_row f h (lo - 1) (e ∷ ds))

late_few : {A : Type 0} (f : A → List ℕ) (lo : ℕ) (ds : List A) → (length ds ≤ lo) ⊎ (length ds ≤ 1) → empty_late f lo ds ≡ true
unfolding empty_late
late_few f lo [] h = refl
late_few f lo (d ∷ []) h = refl
late_few f lo (d ∷ e ∷ ds) h =
    let l : length (d ∷ e ∷ ds) ≤ lo = ⊎_elim (λ (x : length (d ∷ e ∷ ds) ≤ lo). x) (λ (x : length (d ∷ e ∷ ds) ≤ 1). absurd (omega arith)) h in
    rw (le-leb 2 lo (omega arith)) (late_few f (lo - 1) (e ∷ ds) (inl (omega arith)))

ends_row : {A : Type 0} (f : A → List ℕ) → ((d : A) → 0 < length (f d)) → (lo : ℕ) (ds : List A) → empty_ends f lo ds ≡ true
unfolding empty_ends
ends_row f h lo [] = refl
ends_row f h (suc lo) (d ∷ ds) = ends_row f h lo ds
ends_row f h zero (d ∷ []) = refl
ends_row f h zero (d ∷ e ∷ ds) = rw (lt-ltb 0 (length (f d)) (h d)) (ends_row f h zero (e ∷ ds))

ends_row_in : {A : Type 0} (hi : Option ℕ) (f : A → List ℕ) → ((d : A) → 0 < length (f d)) → (lo : ℕ) (ds : List A) → empty_ends_in hi f lo ds ≡ true
unfolding empty_ends_in
ends_row_in none f h lo ds = ends_row f h lo ds
ends_row_in (some hi) f h lo ds = refl

-- with lower bound 0 a round that takes no row is the last for both
ends_late : {A : Type 0} (f : A → List ℕ) (ds : List A) → empty_ends f 0 ds ≡ empty_late f 0 ds
unfolding empty_ends empty_late
ends_late f [] = refl
ends_late f (d ∷ []) = refl
ends_late f (d ∷ e ∷ ds) = ap (λ (b : Bool). ltb 0 (length (f d)) && b) (ends_late f (e ∷ ds))

same_in : {A : Type 0} (f : A → List ℕ) (lo : ℕ) (hi : Option ℕ) (ds : List A) → Within (length ds) hi → same_rounds lo hi ≡ true → empty_ends_in hi f lo ds ≡ empty_late f lo ds
unfolding empty_ends_in same_rounds
same_in f lo none ds w m = let z : lo ≡ 0 = eqb-true lo 0 m in rw z (ends_late f ds)
same_in f lo (some hi) ds w m =
    sym (late_few f lo ds
    (⊎_elim (λ (x : leb hi lo ≡ true). inl (omega (arith, leb-true hi lo x))) (λ (x : leb hi 1 ≡ true). inr (omega (arith, leb-true hi 1 x))) (or_cases (leb hi lo) (leb hi 1) m)))

every-all : {A : Type 0} (f : A → Bool) → ((x : A) → f x ≡ true) → (xs : List A) → every f xs ≡ true
unfolding every
every-all f h [] = refl
every-all f h (x ∷ xs) = rw (h x) (every-all f h xs)

every-same : {A : Type 0} (f g : A → Bool) → ((x : A) → f x ≡ g x) → (xs : List A) → every f xs ≡ every g xs
unfolding every
every-same f g h [] = refl
every-same f g h (x ∷ xs) = rw (h x, every-same f g h xs)

pub same-language : {k : Rank} (t : Tree k) → like_clause t ≡ true → (d : Derivation t) → keeps t d ≡ allowed t d
unfolding Derivation keeps allowed like_clause
same-language (one b) h d = same-language b h d
same-language (more b p) h (inl d) = same-language b (and-true (like_clause b) (like_clause p) h).0 d
same-language (more b p) h (inr d) = same-language p (and-true (like_clause b) (like_clause p) h).1 d
same-language (last f) h d = same-language f h d
same-language (next f b) h d =
    let g = and-true (like_clause f) (like_clause b) h in
    rw (same-language f g.0 d.0, same-language b g.1 d.1)
same-language (bare x) h d = same-language x h d
same-language (times x f z) h d =
    let g = and-true (not (nullable x) || same_rounds (lower f) (upper f)) (like_clause x) h in
    let l : empty_ends_in (upper f) (word x) (lower f) d.0 ≡ empty_late (word x) (lower f) d.0 =
    ⊎_elim
    (λ (y : not (nullable x) ≡ true).
    let r = takes-row x (not-true (nullable x) y) in
    ends_row_in (upper f) (word x) r (lower f) d.0 ∙ sym (late_row (word x) r (lower f) d.0))
    (λ (y : same_rounds (lower f) (upper f) ≡ true). same_in (word x) (lower f) (upper f) d.0 d.1.1 y) (or_cases (not (nullable x)) (same_rounds (lower f) (upper f)) g.0) in
    rw (l, every-same (λ y. keeps x y) (λ y. allowed x y) (λ y. same-language x g.1 y) d.0)
same-language (letter c) h d = refl
same-language caret h d = refl
same-language dollar h d = refl
same-language empty h d = refl
same-language (group p) h d = same-language p h d

-- so the match is the same
pub same-match : {rows : RowSets} {k : Rank} {t : Tree k} {i j : ℕ} {w : List ℕ} → like_clause t ≡ true → Preferred rows t i j w ↔ Preferred627 rows t i j w
same-match {t} h = (
  λ x. record { derivation = x.derivation; kept = sym (same-language t h x.derivation) ∙ x.kept; parses = x.parses; greatest = λ e j w a r l. x.greatest e j w (same-language t h e ∙ a) r l },
  λ x. record { derivation = x.derivation; kept = same-language t h x.derivation ∙ x.kept; parses = x.parses; greatest = λ e j w a r l. x.greatest e j w (sym (same-language t h e) ∙ a) r l },
)

-- ---- document 01 alone

base_rounds : (x : Tree primary) (hi : Option ℕ) (lo : ℕ) (s : Bool) → nullable x ≡ s → deeper (unbounded hi && s) (loop_nesting x) ≡ 0
    → (loop_nesting x ≡ 0 → (y : Derivation x) → keeps x y ≡ true) → (ds : List (Derivation x)) → (empty_ends_in hi (word x) lo ds && every (λ y. keeps x y) ds) ≡ true
unfolding unbounded empty_ends_in
base_rounds x none lo true e g ih ds = absurd (omega arith)
base_rounds x none lo false e g ih ds = rw (ends_row (word x) (takes-row x e) lo ds) (every-all (λ y. keeps x y) (ih g) ds)
base_rounds x (some hi) lo s e g ih ds = every-all (λ y. keeps x y) (ih g) ds

-- where no quantifier over a body that can take no row is unbounded, R-3's rule leaves nothing out
pub base_kept : {k : Rank} (t : Tree k) → loop_nesting t ≡ 0 → (d : Derivation t) → keeps t d ≡ true
unfolding Derivation keeps loop_nesting
base_kept (one b) h d = base_kept b h d
base_kept (more b p) h (inl d) = base_kept b (omega arith) d
base_kept (more b p) h (inr d) = base_kept p (omega arith) d
base_kept (last f) h d = base_kept f h d
base_kept (next f b) h d = rw (base_kept f (omega arith) d.0) (base_kept b (omega arith) d.1)
base_kept (bare x) h d = base_kept x h d
base_kept (times x f z) h d =
    base_rounds x (upper f) (lower f) (nullable x) refl h (λ g y. base_kept x g y) d.0
base_kept (letter c) h d = refl
base_kept caret h d = refl
base_kept dollar h d = refl
base_kept empty h d = refl
base_kept (group p) h d = base_kept p h d

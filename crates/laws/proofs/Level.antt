-- Levels: how far a place can lead on without a row, by its flags. They fall along every way that
-- takes no row, and every level is below P times F.
use mathlib.Core.Path.{◌≡◌, refl, ap}
use mathlib.Core.List.{List, [], ◌∷◌, ◌++◌}
use mathlib.Core.Bool.{Bool, true, false, ◌&&◌, ◌||◌, true≢false, false≢true}
use mathlib.Core.Logic.{◌⊎◌, inl, inr, ⊎_elim}
use Prim.Native.Nat.{ℕ, suc, ◌+◌, ◌≤◌, max, zero, ◌-◌, ◌*◌, ◌^◌, ◌<◌}
use native.Mathlib.Omega.{arith}
use Rattle.rules.specs.Places.{Unrolled, u_letter, u_caret, u_dollar, u_empty, u_seq, u_alt, u_opt, u_star, Branches, u_nil, u_cons, size, sizes, skips, any_skips, nest, nests}
use native.Mathlib.Nat.{le_trans, mul-le-mul_right}
use lib.Dec.{ltb}
use lib.Pow.{pow_pos, pow_mono}
use Rattle.rules.specs.Basics.{pick}
use Rattle.rules.specs.Language.{deeper}

-- ---- Booleans

pub or-false : (a b : Bool) → (a || b) ≡ false → (a ≡ false) × (b ≡ false)
or-false true b e = absurd (true≢false e)
or-false false b e = (refl, e)

pub and-true : (a b : Bool) → (a && b) ≡ true → (a ≡ true) × (b ≡ true)
and-true true b e = (refl, e)
and-true false b e = absurd (false≢true e)

pub and-false : (a b : Bool) → (a && b) ≡ false → (a ≡ false) ⊎ (b ≡ false)
and-false true b e = inr e
and-false false b e = inl refl

-- ---- levels

abbrev pub Every : {A : Type 0} → (A → Type 0) → List A → Type 0
Every P [] = Unit {0}
Every P (y ∷ ys) = P y × Every P ys

pub every_map : {A : Type 0} {P Q : A → Type 0} → ((y : A) → P y → Q y) → (ys : List A) → Every P ys → Every Q ys
every_map f [] a = tt
every_map f (y ∷ ys) a = (f y a.0, every_map f ys a.1)

pub every_append : {A : Type 0} (P : A → Type 0) (xs ys : List A) → Every P xs → Every P ys → Every P (xs ++ ys)
every_append P [] ys a b = b
every_append P (x ∷ xs) ys a b = (a.0, every_append P xs ys a.1 b)

-- the level of the place where t begins, where e is the level behind t under the present flags. No
-- flag changes on the way without a row, and a copy is entered with its flag at 0, so no flags
-- stand here.
unfoldable mutual
  pub level : Unrolled → ℕ → ℕ
  level (u_letter c) e = 0
  level u_caret e = suc e
  level u_dollar e = suc e
  level u_empty e = e
  level (u_seq a b) e = level a (level b e)
  level (u_alt ts) e = suc (highest ts e)
  level (u_opt lazy t) e = suc (max (level t e) e)
  level (u_star lazy t) e = suc (max (level t e) e)

  pub highest : Branches → ℕ → ℕ
  highest u_nil e = 0
  highest (u_cons t ts) e = max (level t e) (highest ts e)

-- the level behind a loop's copy: the fork's if the round has taken a row, or if the body always
-- takes one; else the level behind the loop
abbrev pub behind : Bool → ℕ → (ℕ → ℕ) → (ℕ → ℕ) → ℕ → ℕ
behind false d e fork ψ = fork ψ
behind true d e fork ψ = pick (ltb ψ (2 ^ d)) (e ψ) (fork (ψ - 2 ^ d))

-- the levels of t's places, as `code` numbers them, each a function of the place's flags; e: the
-- level behind t by the flags around t
unfoldable mutual
  unfolding level skips

  pub levels : Unrolled → ℕ → (ℕ → ℕ) → List (ℕ → ℕ)
  levels (u_letter c) d e = (λ φ. 0) ∷ []
  levels u_caret d e = (λ φ. suc (e φ)) ∷ []
  levels u_dollar d e = (λ φ. suc (e φ)) ∷ []
  levels u_empty d e = []
  levels (u_seq a b) d e = levels a d (λ φ. level b (e φ)) ++ levels b d e
  levels (u_alt ts) d e = (λ φ. suc (highest ts (e φ))) ∷ levels_of ts d e
  levels (u_opt lazy t) d e = (λ φ. suc (max (level t (e φ)) (e φ))) ∷ levels t d e
  levels (u_star lazy t) d e = (λ φ. suc (max (level t (e φ)) (e φ))) ∷ levels t (deeper (skips t) d) (behind (skips t) d e (λ φ. suc (max (level t (e φ)) (e φ))))

  pub levels_of : Branches → ℕ → (ℕ → ℕ) → List (ℕ → ℕ)
  levels_of u_nil d e = []
  levels_of (u_cons t ts) d e = levels t d e ++ levels_of ts d e

-- ---- behind a body that must take a row nothing matters

mutual
  unfolding skips level

  pub level_same : (t : Unrolled) → skips t ≡ false → (e d : ℕ) → level t e ≡ level t d
  level_same (u_letter c) h e d = refl
  level_same u_caret h e d = absurd (true≢false h)
  level_same u_dollar h e d = absurd (true≢false h)
  level_same u_empty h e d = absurd (true≢false h)
  level_same (u_seq a b) h e d =
      ⊎_elim (λ (i : skips a ≡ false). level_same a i (level b e) (level b d)) (λ (i : skips b ≡ false). ap (level a) (level_same b i e d)) (and-false (skips a) (skips b) h)
  level_same (u_alt ts) h e d = ap suc (highest-same ts h e d)
  level_same (u_opt lazy t) h e d = absurd (true≢false h)
  level_same (u_star lazy t) h e d = absurd (true≢false h)

  pub highest-same : (ts : Branches) → any_skips ts ≡ false → (e d : ℕ) → highest ts e ≡ highest ts d
  highest-same u_nil h e d = refl
  highest-same (u_cons t ts) h e d = rw (level_same t (or-false (skips t) (any_skips ts) h).0 e d, highest-same ts (or-false (skips t) (any_skips ts) h).1 e d)

-- ---- a level is at most the places that are left, times the loops around it

mutual
  unfolding level size

  pub level_le : (t : Unrolled) (e : ℕ) → level t e ≤ e + size t
  level_le (u_letter c) e = omega arith
  level_le u_caret e = omega arith
  level_le u_dollar e = omega arith
  level_le u_empty e = omega arith
  level_le (u_seq a b) e = omega (arith, level_le a (level b e), level_le b e)
  level_le (u_alt ts) e = omega (arith, highest-le ts e)
  level_le (u_opt lazy t) e = omega (arith, level_le t e)
  level_le (u_star lazy t) e = omega (arith, level_le t e)

  pub highest-le : (ts : Branches) (e : ℕ) → highest ts e ≤ e + sizes ts
  highest-le u_nil e = omega arith
  highest-le (u_cons t ts) e = omega (arith, level_le t e, highest-le ts e)

-- how far a pair of t can lead on: a round that has taken a row can be followed by one that takes
-- none
abbrev wide_star : Bool → ℕ → ℕ → ℕ
wide_star false s w = suc w
wide_star true s w = suc (s + w)

unfoldable mutual
  unfolding size skips

  pub wide : Unrolled → ℕ
  wide (u_letter c) = 1
  wide u_caret = 1
  wide u_dollar = 1
  wide u_empty = 0
  wide (u_seq a b) = wide a + wide b
  wide (u_alt ts) = suc (wides ts)
  wide (u_opt lazy t) = suc (wide t)
  wide (u_star lazy t) = wide_star (skips t) (size t) (wide t)

  pub wides : Branches → ℕ
  wides u_nil = 0
  wides (u_cons t ts) = wide t + wides ts

star-size : (s : Bool) (m w : ℕ) → m ≤ w → suc m ≤ wide_star s m w
star-size false m w h = omega arith
star-size true m w h = omega arith

mutual
  unfolding size wide

  pub size-wide : (t : Unrolled) → size t ≤ wide t
  size-wide (u_letter c) = omega arith
  size-wide u_caret = omega arith
  size-wide u_dollar = omega arith
  size-wide u_empty = omega arith
  size-wide (u_seq a b) = omega (arith, size-wide a, size-wide b)
  size-wide (u_alt ts) = omega (arith, sizes-wides ts)
  size-wide (u_opt lazy t) = omega (arith, size-wide t)
  size-wide (u_star lazy t) = star-size (skips t) (size t) (wide t) (size-wide t)

  pub sizes-wides : (ts : Branches) → sizes ts ≤ wides ts
  sizes-wides u_nil = omega arith
  sizes-wides (u_cons t ts) = omega (arith, size-wide t, sizes-wides ts)

star-wide : (s : Bool) (D m v w : ℕ) → deeper s v ≤ D → ((D : ℕ) → v ≤ D → w ≤ suc D * m) → wide_star s m w ≤ suc D * suc m
star-wide false D m v w h f = let g = f D h in omega arith
star-wide true zero m v w h f = absurd (omega arith)
star-wide true (suc D) m v w h f = let g = f D (omega arith) in omega arith

mutual
  unfolding size wide nest

  pub wide_le : (t : Unrolled) (D : ℕ) → nest t ≤ D → wide t ≤ suc D * size t
  wide_le (u_letter c) D h = omega arith
  wide_le u_caret D h = omega arith
  wide_le u_dollar D h = omega arith
  wide_le u_empty D h = omega arith
  wide_le (u_seq a b) D h = let x = wide_le a D (omega arith) in let y = wide_le b D (omega arith) in omega arith
  wide_le (u_alt ts) D h = let x = wides_le ts D h in omega arith
  wide_le (u_opt lazy t) D h = let x = wide_le t D h in omega arith
  wide_le (u_star lazy t) D h = star-wide (skips t) D (size t) (nest t) (wide t) h (λ D' h'. wide_le t D' h')

  pub wides_le : (ts : Branches) (D : ℕ) → nests ts ≤ D → wides ts ≤ suc D * sizes ts
  wides_le u_nil D h = omega arith
  wides_le (u_cons t ts) D h = let x = wide_le t D (omega arith) in let y = wides_le ts D (omega arith) in omega arith

pow_above : (D : ℕ) → suc D ≤ 2 ^ D
pow_above zero = omega arith
pow_above (suc D) = let h = pow_above D in omega arith

-- every level is below P times F
pub wide_factor : (t : Unrolled) → wide t < suc (size t) * 2 ^ nest t
wide_factor t =
    let h = wide_le t (nest t) (omega arith) in
    let g : suc (nest t) * size t ≤ 2 ^ nest t * size t = mul-le-mul_right (size t) (pow_above (nest t)) in
    let p = pow_pos (nest t) in
    omega arith

abbrev Low : Unrolled → ℕ → (ℕ → ℕ) → Type 0
Low t E m = (φ : ℕ) → m φ ≤ E + wide t

-- a place of a body that must take a row leads either not behind the body, or from behind its row
abbrev Either : Unrolled → ℕ → (ℕ → ℕ) → Type 0
Either t E m = (φ : ℕ) → (m φ ≤ wide t) ⊎ (level t 0 + m φ ≤ E + wide t)

abbrev EitherOf : Branches → ℕ → (ℕ → ℕ) → Type 0
EitherOf ts E m = (φ : ℕ) → (m φ ≤ wides ts) ⊎ (highest ts 0 + m φ ≤ E + wides ts)

pick-le : (z : Bool) (a b E : ℕ) → a ≤ E → b ≤ E → pick z a b ≤ E
pick-le true a b E h g = h
pick-le false a b E h g = g

-- the places of a loop's copy
star-low : (t : Unrolled) (s : Bool) → skips t ≡ s
    → ((d : ℕ) (e : ℕ → ℕ) (E : ℕ) → ((φ : ℕ) → e φ ≤ E) → Every (Low t E) (levels t d e))
    → (skips t ≡ false → (d : ℕ) (e : ℕ → ℕ) (E : ℕ) → ((φ : ℕ) → e φ ≤ E) → Every (Either t E) (levels t d e))
    → (d : ℕ) (e : ℕ → ℕ) (E : ℕ) → ((φ : ℕ) → e φ ≤ E)
    → Every (λ m. (φ : ℕ) → m φ ≤ E + wide_star s (size t) (wide t)) (levels t (deeper s d) (behind s d e (λ φ. suc (max (level t (e φ)) (e φ)))))
star-low t false q low either d e E h =
    every_map {P = Either t (suc (max (level t 0) E))} {Q = λ m. (φ : ℕ) → m φ ≤ E + suc (wide t)}
    (λ m r φ. ⊎_elim (λ (i : m φ ≤ wide t). omega arith) (λ (i : level t 0 + m φ ≤ suc (max (level t 0) E) + wide t). omega arith) (r φ))
    (levels t d (λ ψ. suc (max (level t (e ψ)) (e ψ))))
    (either q d (λ ψ. suc (max (level t (e ψ)) (e ψ))) (suc (max (level t 0) E)) (λ φ. let x = h φ in let y = level_same t q (e φ) 0 in omega arith))
star-low t true q low either d e E h =
    every_map {P = Low t (E + suc (size t))} {Q = λ m. (φ : ℕ) → m φ ≤ E + suc (size t + wide t)} (λ m r φ. let x = r φ in omega arith)
    (levels t (suc d) (behind true d e (λ φ. suc (max (level t (e φ)) (e φ)))))
    (low (suc d) (behind true d e (λ φ. suc (max (level t (e φ)) (e φ)))) (E + suc (size t))
    (λ ψ. let φ : ℕ = ψ - 2 ^ d in let x = h φ in let y = level_le t (e φ) in let z = h ψ in
    pick-le (ltb ψ (2 ^ d)) (e ψ) (suc (max (level t (e φ)) (e φ))) (E + suc (size t)) (omega arith) (omega arith)))

mutual
  unfolding skips level levels size wide

  pub levels_low : (t : Unrolled) (d : ℕ) (e : ℕ → ℕ) (E : ℕ) → ((φ : ℕ) → e φ ≤ E) → Every (λ m. (φ : ℕ) → m φ ≤ E + wide t) (levels t d e)
  levels_low (u_letter c) d e E h = (λ φ. omega arith, tt)
  levels_low u_caret d e E h = (λ φ. omega (arith, h φ), tt)
  levels_low u_dollar d e E h = (λ φ. omega (arith, h φ), tt)
  levels_low u_empty d e E h = tt
  levels_low (u_seq a b) d e E h =
      let sa = size-wide a in
      let sb = size-wide b in
      every_append (Low (u_seq a b) E) (levels a d (λ φ. level b (e φ))) (levels b d e)
      (every_map {P = Low a (E + size b)} {Q = Low (u_seq a b) E} (λ m r φ. let x = r φ in omega arith) (levels a d (λ φ. level b (e φ)))
      (levels_low a d (λ φ. level b (e φ)) (E + size b) (λ φ. omega (arith, h φ, level_le b (e φ)))))
      (every_map {P = Low b E} {Q = Low (u_seq a b) E} (λ m r φ. let x = r φ in omega arith) (levels b d e) (levels_low b d e E h))
  levels_low (u_alt ts) d e E h = (
    λ φ. omega (arith, h φ, highest-le ts (e φ), sizes-wides ts),
    every_map {P = λ m. (φ : ℕ) → m φ ≤ E + wides ts} {Q = Low (u_alt ts) E} (λ m r φ. let x = r φ in omega arith) (levels_of ts d e) (levels_of_low ts d e E h),
  )
  levels_low (u_opt lazy t) d e E h = (
    λ φ. omega (arith, h φ, level_le t (e φ), size-wide t),
    every_map {P = Low t E} {Q = Low (u_opt lazy t) E} (λ m r φ. let x = r φ in omega arith) (levels t d e) (levels_low t d e E h),
  )
  levels_low (u_star lazy t) d e E h = (
    λ φ. omega (arith, h φ, level_le t (e φ), star-size (skips t) (size t) (wide t) (size-wide t)),
    star-low t (skips t) refl (λ d' e' E' h'. levels_low t d' e' E' h') (λ q d' e' E' h'. levels_either t q d' e' E' h') d e E h,
  )

  pub levels_of_low : (ts : Branches) (d : ℕ) (e : ℕ → ℕ) (E : ℕ) → ((φ : ℕ) → e φ ≤ E) → Every (λ m. (φ : ℕ) → m φ ≤ E + wides ts) (levels_of ts d e)
  levels_of_low u_nil d e E h = tt
  levels_of_low (u_cons t ts) d e E h =
      every_append (λ m. (φ : ℕ) → m φ ≤ E + (wide t + wides ts)) (levels t d e) (levels_of ts d e)
      (every_map {P = Low t E} {Q = λ m. (φ : ℕ) → m φ ≤ E + (wide t + wides ts)} (λ m r φ. let x = r φ in omega arith) (levels t d e) (levels_low t d e E h))
      (every_map {P = λ m. (φ : ℕ) → m φ ≤ E + wides ts} {Q = λ m. (φ : ℕ) → m φ ≤ E + (wide t + wides ts)} (λ m r φ. let x = r φ in omega arith) (levels_of ts d e) (levels_of_low ts d e E h))

  pub levels_either : (t : Unrolled) → skips t ≡ false → (d : ℕ) (e : ℕ → ℕ) (E : ℕ) → ((φ : ℕ) → e φ ≤ E)
      → Every (λ m. (φ : ℕ) → (m φ ≤ wide t) ⊎ (level t 0 + m φ ≤ E + wide t)) (levels t d e)
  levels_either (u_letter c) q d e E h = (λ φ. inl (omega arith), tt)
  levels_either u_caret q d e E h = absurd (true≢false q)
  levels_either u_dollar q d e E h = absurd (true≢false q)
  levels_either u_empty q d e E h = absurd (true≢false q)
  levels_either (u_seq a b) q d e E h =
      let sa = size-wide a in
      let sb = size-wide b in
      let la = level_le a 0 in
      let lb = level_le b 0 in
      ⊎_elim
      (λ (i : skips a ≡ false).
      let same : level a (level b 0) ≡ level a 0 = level_same a i (level b 0) 0 in
      every_append (Either (u_seq a b) E) (levels a d (λ φ. level b (e φ))) (levels b d e)
      (every_map {P = Either a (E + size b)} {Q = Either (u_seq a b) E}
      (λ m r φ. ⊎_elim (λ (j : m φ ≤ wide a). inl (omega arith)) (λ (j : level a 0 + m φ ≤ E + size b + wide a). inr (omega arith)) (r φ))
      (levels a d (λ φ. level b (e φ))) (levels_either a i d (λ φ. level b (e φ)) (E + size b) (λ φ. omega (arith, h φ, level_le b (e φ)))))
      (every_map {P = Low b E} {Q = Either (u_seq a b) E} (λ m r φ. let x = r φ in inr (omega arith)) (levels b d e) (levels_low b d e E h)))
      (λ (i : skips b ≡ false).
      let ha = level_le a (level b 0) in
      every_append (Either (u_seq a b) E) (levels a d (λ φ. level b (e φ))) (levels b d e)
      (every_map {P = Low a (level b 0)} {Q = Either (u_seq a b) E} (λ m r φ. let x = r φ in inl (omega arith)) (levels a d (λ φ. level b (e φ)))
      (levels_low a d (λ φ. level b (e φ)) (level b 0) (λ φ. let s : level b (e φ) ≡ level b 0 = level_same b i (e φ) 0 in omega arith)))
      (every_map {P = Either b E} {Q = Either (u_seq a b) E}
      (λ m r φ. ⊎_elim (λ (j : m φ ≤ wide b). inl (omega arith)) (λ (j : level b 0 + m φ ≤ E + wide b). inr (omega arith)) (r φ)) (levels b d e) (levels_either b i d e E h)))
      (and-false (skips a) (skips b) q)
  levels_either (u_alt ts) q d e E h =
      let sw = sizes-wides ts in
      let hl = highest-le ts 0 in (
        λ φ. let s : highest ts (e φ) ≡ highest ts 0 = highest-same ts q (e φ) 0 in inl (omega arith),
        every_map {P = EitherOf ts E} {Q = Either (u_alt ts) E}
            (λ m r φ. ⊎_elim (λ (j : m φ ≤ wides ts). inl (omega arith)) (λ (j : highest ts 0 + m φ ≤ E + wides ts). inr (omega arith)) (r φ)) (levels_of ts d e) (levels_of_either ts q d e E h),
      )
  levels_either (u_opt lazy t) q d e E h = absurd (true≢false q)
  levels_either (u_star lazy t) q d e E h = absurd (true≢false q)

  pub levels_of_either : (ts : Branches) → any_skips ts ≡ false → (d : ℕ) (e : ℕ → ℕ) (E : ℕ) → ((φ : ℕ) → e φ ≤ E)
      → Every (λ m. (φ : ℕ) → (m φ ≤ wides ts) ⊎ (highest ts 0 + m φ ≤ E + wides ts)) (levels_of ts d e)
  levels_of_either u_nil q d e E h = tt
  levels_of_either (u_cons t ts) q d e E h =
      let g = or-false (skips t) (any_skips ts) q in
      let lt = level_le t 0 in
      let ls = highest-le ts 0 in
      let st = size-wide t in
      let ss = sizes-wides ts in
      every_append (EitherOf (u_cons t ts) E) (levels t d e) (levels_of ts d e)
      (every_map {P = Either t E} {Q = EitherOf (u_cons t ts) E}
      (λ m r φ. ⊎_elim (λ (j : m φ ≤ wide t). inl (omega arith)) (λ (j : level t 0 + m φ ≤ E + wide t). inr (omega arith)) (r φ)) (levels t d e) (levels_either t g.0 d e E h))
      (every_map {P = EitherOf ts E} {Q = EitherOf (u_cons t ts) E}
      (λ m r φ. ⊎_elim (λ (j : m φ ≤ wides ts). inl (omega arith)) (λ (j : highest ts 0 + m φ ≤ E + wides ts). inr (omega arith)) (r φ)) (levels_of ts d e) (levels_of_either ts g.1 d e E h))

-- ---- F is enough for the flags of a part with d flags around it

pub nest-low : (F d v w : ℕ) → 2 ^ (d + v) ≤ F → w ≤ v → 2 ^ (d + w) ≤ F
nest-low F d v w h l = le_trans (pow_mono (omega arith)) h

pub nest-here : (F d v : ℕ) → 2 ^ (d + v) ≤ F → 2 ^ d ≤ F
nest-here F d v h = le_trans (pow_mono (omega arith)) h

pub nest-inner : (F : ℕ) (s : Bool) (d v : ℕ) → 2 ^ (d + deeper s v) ≤ F → 2 ^ (deeper s d + v) ≤ F
nest-inner F false d v h = h
nest-inner F true d v h = let e : suc d + v ≡ d + suc v = omega arith in rw e h

-- flags are flags of a copy, whose own flag is at 0
pub wider : (s : Bool) (d φ : ℕ) → φ < 2 ^ d → φ < 2 ^ deeper s d
wider false d φ h = h
wider true d φ h = let z : φ < 2 ^ suc d = omega arith in z

-- Answer 8 in the pass over the DEFINEs. A letter is taken if its entry is not 0. Two DEFINEs of
-- the whole query are for one letter exactly if that was told so far, or two to come are for one
-- letter, or one to come is for a letter that is taken (`Twice`).
use mathlib.Core.Path.{◌≡◌, refl, sym, ap, ◌∙◌}
use mathlib.Core.Bool.{Bool, true, false, not, ◌||◌, or-true, or-false, or_assoc}
use mathlib.Core.List.{List, [], ◌∷◌}
use Prim.Native.Nat.{ℕ, zero, suc, ◌-◌, ◌≤◌, ◌<◌}
use native.Mathlib.Omega.{arith}
use lib.Dec.{eqb, leb}
use lib.ListN.{length, get_or, set, replicate}
use lib.Seq.{get_or-set_same, get_or-set_other}
use borrow.Author.Tests.{eq-eqb, ne_eqb, eqb-true, eqb-false, le-leb, leb-true}
use Rattle.records.specs.declared.Read.TheVariants.{Record as whole}
use Rattle.records.specs.declared.Record.{Record as Whole}
use Rattle.rules.specs.Basics.{pick, keep, has, repeats}
use Rattle.rules.specs.Query.{field, records, is_define, defined, doubled}
use Rattle.laws.proofs.Choice.{decided}
use Rattle.records.specs.Read.{record_of, records_at, read_at}
use Rattle.records.proofs.Reading.{read_more, field-first}
use Rattle.define_list.specs.Defines.{PutDefine}

-- ---- letters that are taken

-- the letter's entry is not 0
unfoldable pub taken : List ℕ → ℕ → Bool
taken defines x = pick (leb 65 x) (not (eqb (get_or defines (x - 65) 0) 0)) false

-- some letter of the list is taken
unfoldable pub meets : List ℕ → List ℕ → Bool
meets defines [] = false
meets defines (x ∷ xs) = taken defines x || meets defines xs

-- two letters of the list are the same, or one is taken
unfoldable pub again : List ℕ → List ℕ → Bool
again defines xs = repeats xs || meets defines xs

free_entry : (n i : ℕ) → get_or {A = ℕ} (replicate n 0) i 0 ≡ 0
free_entry zero i = refl
free_entry (suc n) zero = refl
free_entry (suc n) (suc i) = free_entry n i

-- where all entries are free no letter is taken
taken_none : (n x : ℕ) → taken (replicate n 0) x ≡ false
unfolding taken
taken_none n x = rw (free_entry n (x - 65)) (same (leb 65 x))
  where
    same : (t : Bool) → pick t false false ≡ false
    same true = refl
    same false = refl

meets-none : (n : ℕ) (xs : List ℕ) → meets (replicate n 0) xs ≡ false
unfolding meets
meets-none n [] = refl
meets-none n (x ∷ xs) = ap (λ (u : Bool). u || meets (replicate n 0) xs) (taken_none n x) ∙ meets-none n xs

again-none : (n : ℕ) (xs : List ℕ) → again (replicate n 0) xs ≡ repeats xs
unfolding again
again-none n xs = ap (λ (u : Bool). repeats xs || u) (meets-none n xs) ∙ or-false (repeats xs)

module _ (defines : List ℕ) (x : ℕ) (low : 65 ≤ x) where
  is-taken : (get_or defines (x - 65) 0 ≡ 0 → ⊥) → taken defines x ≡ true
  unfolding taken
  is-taken f = simp (le-leb 65 x low, ne_eqb (get_or defines (x - 65) 0) 0 f)

  is_free : get_or defines (x - 65) 0 ≡ 0 → taken defines x ≡ false
  unfolding taken
  is_free e = simp (le-leb 65 x low, eq-eqb (get_or defines (x - 65) 0) 0 e)

  -- a letter that is taken comes again
  again-taken : (xs : List ℕ) → taken defines x ≡ true → again defines (x ∷ xs) ≡ true
  unfolding again meets
  again-taken xs e = ap (λ (u : Bool). repeats (x ∷ xs) || (u || meets defines xs)) e ∙ or-true (repeats (x ∷ xs))

  -- one letter more is taken
  module _ (b : ℕ) (b0 : 0 < b) (within : x - 65 < length defines) where
    taken_here : taken (set defines (x - 65) b) x ≡ true
    unfolding taken
    taken_here = simp (le-leb 65 x low, get_or-set_same defines (x - 65) b 0 within, ne_eqb b 0 (λ z. omega arith))

    taken-other : (y : ℕ) → (y ≡ x → ⊥) → taken (set defines (x - 65) b) y ≡ taken defines y
    unfolding taken
    taken-other y f =
        decided (leb 65 y)
        (λ t. let g = leb-true 65 y t in rw (get_or-set_other defines (x - 65) (y - 65) b 0 (λ z. f (omega arith))))
        (λ t. simp t)

    taken-one : (y : ℕ) → taken (set defines (x - 65) b) y ≡ (eqb y x || taken defines y)
    taken-one y =
        decided (eqb y x)
        (λ t. let e = eqb-true y x t in rw (t, e) taken_here)
        (λ t. rw t (taken-other y (eqb-false y x t)))

    meets-one : (xs : List ℕ) → meets (set defines (x - 65) b) xs ≡ (has x xs || meets defines xs)
    unfolding meets has
    meets-one [] = refl
    meets-one (y ∷ ys) =
        ap (λ (u : Bool). u || meets (set defines (x - 65) b) ys) (taken-one y)
        ∙ ap (λ (u : Bool). (eqb y x || taken defines y) || u) (meets-one ys) ∙ swap (eqb y x) (taken defines y) (has x ys) (meets defines ys)
      where
        swap : (p q r s : Bool) → ((p || q) || (r || s)) ≡ ((p || r) || (q || s))
        swap true q r s = refl
        swap false true true s = refl
        swap false true false s = refl
        swap false false r s = refl

    again-one : (xs : List ℕ) → taken defines x ≡ false → again defines (x ∷ xs) ≡ again (set defines (x - 65) b) xs
    unfolding again meets repeats
    again-one xs e =
        ap (λ (u : Bool). (has x xs || repeats xs) || (u || meets defines xs)) e ∙ swap (has x xs) (repeats xs) (meets defines xs)
        ∙ ap (λ (u : Bool). repeats xs || u) (sym (meets-one xs))
      where
        swap : (p q r : Bool) → ((p || q) || r) ≡ (q || (p || r))
        swap true true r = refl
        swap true false r = refl
        swap false q r = refl

-- ---- the pass

pub record Twice (s defines : List ℕ) (at : ℕ) (twice : Bool) : Type 0 where
  pub same : (twice || again defines (defined s (records_at s at))) ≡ doubled s

module _ (s : List ℕ) where
  pub twice-none : (from : ℕ) → defined s (records_at s from) ≡ defined s (records s) → Twice s (replicate 26 0) from false
  unfolding doubled
  twice-none from e = record { same = again-none 26 (defined s (records_at s from)) ∙ ap repeats e }

  pub twice-over : (defines : List ℕ) (at : ℕ) (twice : Bool) → Twice s defines at twice → defined s (records_at s at) ≡ [] → twice ≡ doubled s
  unfolding again repeats meets
  twice-over defines at twice h e = sym (or-false twice) ∙ ap (λ (xs : List ℕ). twice || again defines xs) (sym e) ∙ h.same

  -- the letter of the DEFINE in front
  in_front : (at : ℕ) (x : Whole) → whole x ≡ read_at s at → is_define x.kind ≡ true → defined s (records_at s at) ≡ get_or s x.start 0 ∷ defined s (records_at s x.next)
  unfolding defined
  in_front at x e dk =
      ap (defined s) (read_more s at x e) ∙ ap (λ (t : Bool). keep t (field s (record_of x.kind x.start x.len) 0) (defined s (records_at s x.next))) dk
      ∙ ap (λ (y : ℕ). y ∷ defined s (records_at s x.next)) (field-first s x.kind x.start x.len)

  -- what `put_define` tells
  again-put : (defines defines' : List ℕ) (b : ℕ) (before : Bool) (xs : List ℕ) → 65 ≤ get_or s b 0 → get_or s b 0 ≤ 90 → 0 < b → length defines ≡ 26 → PutDefine s b defines defines' before
      → again defines (get_or s b 0 ∷ xs) ≡ (before || again defines' xs)
  again-put defines defines' b before xs low high b0 long d =
      decided (eqb (get_or defines (get_or s b 0 - 65) 0) 0)
      (λ t. let c0 = eqb-true (get_or defines (get_or s b 0 - 65) 0) 0 t in
      let p = d.put c0 in
      rw (p.0, p.1) (again-one defines (get_or s b 0) low b b0 (omega arith) xs (is_free defines (get_or s b 0) low c0)))
      (λ t. let c0 = eqb-false (get_or defines (get_or s b 0 - 65) 0) 0 t in
      rw (d.taken c0).1 (again-taken defines (get_or s b 0) low xs (is-taken defines (get_or s b 0) low c0)))

  pub twice-more : (defines : List ℕ) (at : ℕ) (x : Whole) → whole x ≡ read_at s at → is_define x.kind ≡ true → 65 ≤ get_or s x.start 0 → get_or s x.start 0 ≤ 90 → 0 < x.start → length defines ≡ 26
      → (defines' : List ℕ) (before twice twice' : Bool) → PutDefine s x.start defines defines' before → twice' ≡ (twice || before) → Twice s defines at twice → Twice s defines' x.next twice'
  twice-more defines at x e dk low high b0 long defines' before twice twice' d et h = record {
    same =
        ap (λ (u : Bool). u || again defines' (defined s (records_at s x.next))) et ∙ or_assoc twice before (again defines' (defined s (records_at s x.next)))
        ∙ ap (λ (u : Bool). twice || u) (sym (again-put defines defines' x.start before (defined s (records_at s x.next)) low high b0 long d))
        ∙ ap (λ (xs : List ℕ). twice || again defines xs) (sym (in_front at x e dk)) ∙ h.same;
  }

-- The entries of a measure's rows: none, how many, from its first row on, and up to its last; and
-- what each function makes of them.
use Rattle.std.proofs.Common.{◌≡◌, ◌≢◌, ℕ, zero, suc, ◌+◌, ◌≤◌, ◌<◌, Bool, true, false, List, [], ◌∷◌, ◌++◌, length, get_or, take, drop, refl, ap, ◌∙◌, arith, add-one, drop-cons, drop_of_length-le}
use Rattle.std.proofs.lemmas.Grind.{common_steps}
use Rattle.std.proofs.lemmas.List.Sums.{sum_by-drop_more}
use mathlib.Core.Bool.{cond}
use Rattle.std.specs.declared.option.Option.TheVariants.{None}
use mathlib.Core.Option.{some}
use lib.IntN.{ℤ, pos}
use lib.Signed.{quot_z}
use Rattle.rules.specs.Basics.{pick, keep}
use Rattle.rules.specs.Rows.{Table, entry}
use Rattle.rules.specs.Query.{Measure}
use Rattle.rules.specs.Report.{values, joined, join_all, over_some, average_of, result_of, measured, two_of}
use Rattle.labelled.specs.Labelled.{is_of, count_of, NoneIn, FirstAt, LastAt}
use Rattle.joins.specs.declared.Join.{Join}
use Rattle.joins.specs.declared.Join.TheVariants.{Sum, Min, Max}
use Rattle.joins.specs.Entries.{number_of}
use Rattle.measures.specs.Measures.{numbers_for}

module _ (t : Table) (m : Measure) where
  values_none : (row : ℕ) (ls : List ℕ) → NoneIn m.letter ls 0 (length ls) → values t m row ls ≡ []
  unfolding values
  values_none row [] h = refl
  values_none row (l ∷ ls) h =
      let e : is_of m.letter l ≡ false = h 0 (omega arith) (omega arith) in
      rw e (values_none (row + 1) ls (λ k a b. h (suc k) (omega arith) (omega arith)))

  length-values : (row : ℕ) (ls : List ℕ) → length (values t m row ls) ≡ count_of m.letter ls
  unfolding values
  length-values row [] = refl
  length-values row (l ∷ ls) = let h = length-values (row + 1) ls in grind (arith, common_steps, h)

  -- those from row i on, and from its next row on
  values_at : (row : ℕ) (ls : List ℕ) (i : ℕ) → i < length ls
      → values t m (row + i) (drop i ls) ≡ keep (is_of m.letter (get_or ls i 0)) (entry t (row + i) m.column) (values t m (row + (i + 1)) (drop (i + 1) ls))
  unfolding values
  values_at row ls i l =
      let a : row + i + 1 ≡ row + (i + 1) = omega arith in
      let d : drop i ls ≡ get_or ls i 0 ∷ drop (i + 1) ls = rw add-one (drop-cons ls i 0 l) in
      rw (d, ← a) refl

  values_first : (row : ℕ) (ls : List ℕ) (i : ℕ) → FirstAt m.letter ls i → values t m row ls ≡ entry t (row + i) m.column ∷ values t m (row + (i + 1)) (drop (i + 1) ls)
  unfolding values
  values_first row ls i h =
      let a = passed row ls i h.none_before (omega (arith, h.inside)) in
      a ∙ values_at row ls i h.inside ∙ rw h.of_letter refl
    where
      passed : (row : ℕ) (ls : List ℕ) (i : ℕ) → NoneIn m.letter ls 0 i → i ≤ length ls → values t m row ls ≡ values t m (row + i) (drop i ls)
      passed row ls zero n b = let z : row ≡ row + 0 = omega arith in ap (λ k. values t m k ls) z
      passed row [] (suc i) n b = absurd (omega arith)
      passed row (l ∷ ls) (suc i) n b =
          let e : is_of m.letter l ≡ false = n 0 (omega arith) (omega arith) in
          let z : row + 1 + i ≡ row + suc i = omega arith in
          rw e (passed (row + 1) ls i (λ k a c. n (suc k) (omega arith) (omega arith)) (omega arith) ∙ rw z refl)

  values_last : (row : ℕ) (ls : List ℕ) (i : ℕ) → LastAt m.letter ls i → values t m row ls ≡ values t m row (take i ls) ++ (entry t (row + i) m.column ∷ [])
  unfolding values
  values_last row ls i h = go row ls i h.inside h.of_letter h.none_behind
    where
      kept : (u : Bool) (x : ℤ) (xs ys : List ℤ) → keep u x (xs ++ ys) ≡ keep u x xs ++ ys
      kept true x xs ys = refl
      kept false x xs ys = refl

      go : (row : ℕ) (ls : List ℕ) (i : ℕ) → i < length ls → is_of m.letter (get_or ls i 0) ≡ true → NoneIn m.letter ls (i + 1) (length ls) → values t m row ls ≡ values t m row (take i ls) ++ (entry t (row + i) m.column ∷ [])
      go row [] i l e n = absurd (omega arith)
      go row (x ∷ ls) zero l e n =
          let z : row ≡ row + 0 = omega arith in
          rw e (ap (λ v. entry t row m.column ∷ v) (values_none (row + 1) ls (λ k a b. n (suc k) (omega arith) (omega arith))) ∙ rw (← z) refl)
      go row (x ∷ ls) (suc i) l e n =
          let z : row + 1 + i ≡ row + suc i = omega arith in
          ap (keep (is_of m.letter x) (entry t row m.column)) (go (row + 1) ls i (omega arith) e (λ k a b. n (suc k) (omega arith) (omega arith)) ∙ rw z refl)
          ∙ kept (is_of m.letter x) (entry t row m.column) _ _

  -- ---- SUM, MIN and MAX, row by row

  module _ (first : ℕ) (ls : List ℕ) (f : ℕ) (i : ℕ) where
    pub joining_first : FirstAt m.letter ls i → (x : ℤ) → x ≡ entry t (first + i) m.column
        → over_some f (values t m first ls) ≡ some (join_all f x (values t m (first + (i + 1)) (drop (i + 1) ls)))
    unfolding over_some
    joining_first h x e = rw (values_first first ls i h, e) refl

    pub joining_more : i < length ls → (v x : ℤ) → x ≡ pick (is_of m.letter (get_or ls i 0)) (joined f v (entry t (first + i) m.column)) v
        → join_all f v (values t m (first + i) (drop i ls)) ≡ join_all f x (values t m (first + (i + 1)) (drop (i + 1) ls))
    unfolding join_all
    joining_more l v x e = rw (values_at first ls i l, e) (go (is_of m.letter (get_or ls i 0)))
      where
        go : (b : Bool) → join_all f v (keep b (entry t (first + i) m.column) (values t m (first + (i + 1)) (drop (i + 1) ls)))
            ≡ join_all f (pick b (joined f v (entry t (first + i) m.column)) v) (values t m (first + (i + 1)) (drop (i + 1) ls))
        go true = refl
        go false = refl

    pub joining_all : length ls ≤ i → (v : ℤ) → join_all f v (values t m (first + i) (drop i ls)) ≡ v
    unfolding join_all values
    joining_all l v = rw (drop_of_length-le ls l) refl

  -- ---- what each function makes of them

  module _ (first : ℕ) (ls : List ℕ) where
    abbrev two : List ℤ
    two = two_of (measured t first ls m)

    pub counted : (k : ℕ) → k ≡ count_of m.letter (drop 0 ls) → m.function ≡ 1 → pos 1 ∷ pos k ∷ [] ≡ two
    unfolding measured result_of two_of
    counted k c f = rw (f, length-values first ls, c) refl

    pub null : m.function ≢ 1 → NoneIn m.letter ls 0 (length ls) → numbers_for None ≡ two
    unfolding measured result_of two_of over_some average_of
    null f h = rw (values_none first ls h) (grind (arith, common_steps))

    pub average_null : NoneIn m.letter ls 0 (length ls) → numbers_for None ≡ two_of (average_of (values t m first ls))
    unfolding two_of average_of
    average_null h = rw (values_none first ls h) refl

    pub average_some : (i : ℕ) → FirstAt m.letter ls i → (s : ℤ) → over_some 2 (values t m first ls) ≡ some s
        → (k : ℕ) → k ≡ count_of m.letter (drop i ls) → (x : ℤ) → x ≡ quot_z s (pos k) → pos 1 ∷ x ∷ [] ≡ two_of (average_of (values t m first ls))
    unfolding over_some average_of two_of
    average_some i h s e k c x q =
        let v = values_first first ls i h in
        let a = length-values (first + (i + 1)) (drop (i + 1) ls) in
        let d = sum_by-drop_more (λ l. cond (is_of m.letter l) 1 0) ls i 0 h.inside in
        let w : cond {A = ℕ} (is_of m.letter (get_or ls i 0)) 1 0 ≡ 1 = rw h.of_letter refl in
        let n : k ≡ length (values t m first ls) = rw v (omega arith) in
        rw (q, n) (of_some (values t m first ls) e)
      where
        of_some : (xs : List ℤ) → over_some 2 xs ≡ some s → pos 1 ∷ quot_z s (pos (length xs)) ∷ [] ≡ two_of (average_of xs)
        of_some [] q = cc
        of_some (x ∷ xs) q = cc

    pub joined_to : (j : Join) (z : ℤ) → m.function ≡ number_of j → over_some (number_of j) (values t m first ls) ≡ some z → pos 1 ∷ z ∷ [] ≡ two
    unfolding measured result_of two_of
    joined_to Sum z f h = rw (f, h) refl
    joined_to Min z f h = rw (f, h) refl
    joined_to Max z f h = rw (f, h) refl

    pub from_first : (i : ℕ) → FirstAt m.letter ls i → m.function ≡ 5 → (x : ℤ) → x ≡ entry t (first + i) m.column → pos 1 ∷ x ∷ [] ≡ two
    unfolding measured result_of two_of over_some
    from_first i h f x e = rw (f, e, values_first first ls i h, stays (entry t (first + i) m.column) (values t m (first + (i + 1)) (drop (i + 1) ls))) refl
      where
        stays : (a : ℤ) (xs : List ℤ) → join_all 5 a xs ≡ a
        stays a [] = refl
        stays a (x ∷ xs) = stays a xs

    pub from_last : (i : ℕ) → LastAt m.letter ls i → m.function ≡ 6 → (x : ℤ) → x ≡ entry t (first + i) m.column → pos 1 ∷ x ∷ [] ≡ two
    unfolding measured result_of two_of over_some join_all joined
    from_last i h f x e = rw (f, e, values_last first ls i h) (ends (values t m first (take i ls)) (entry t (first + i) m.column))
      where
        stays : (a : ℤ) (xs : List ℤ) (x : ℤ) → join_all 6 a (xs ++ (x ∷ [])) ≡ x
        stays a [] x = refl
        stays a (y ∷ xs) x = stays y xs x

        ends : (xs : List ℤ) (x : ℤ) → pos 1 ∷ x ∷ [] ≡ two_of (over_some 6 (xs ++ (x ∷ [])))
        ends [] x = refl
        ends (y ∷ xs) x = rw (stays y xs x) refl

    pub averaged : m.function ≡ 7 → two_of (average_of (values t m first ls)) ≡ two
    unfolding measured result_of
    averaged f = rw f refl

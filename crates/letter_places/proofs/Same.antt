-- A table whose letters' places are told their tests holds the same places.
use mathlib.Core.Path.{◌≡◌, refl, ap}
use mathlib.Core.Bool.{Bool, true, false}
use mathlib.Core.List.{List, ◌∷◌}
use Prim.Native.Nat.{ℕ, zero, suc, ◌+◌, ◌*◌, ◌-◌, ◌≤◌, ◌<◌}
use native.Mathlib.Omega.{arith}
use lib.Dec.{ltb, eqb}
use lib.ListN.{length}
use borrow.Author.Tests.{ltb-true, ltb-false}
use Rattle.rules.specs.Basics.{pick}
use Rattle.table.specs.Table.{code_at, first_at, later_at, count_at, later_by, later_ways, ways_of, place_by, place_at, places_from, places_in}
use Rattle.table.specs.Sized.{Sized}
use Rattle.table.specs.Tests.{Pointed}
use Rattle.letter_places.specs.Pointing.{Pointing}

-- a letter is known by its code and the place that it leads to
by-letter : (c k : ℕ) (ks ms : List ℕ) → ltb c 26 ≡ true → place_by c k ks ≡ place_by c k ms
unfolding place_by
by-letter c k ks ms e = rw e refl

-- the later ways of a fork, if each is the same
ways-same : (T U : List ℕ) (l c : ℕ) → ((j : ℕ) → later_by U l c j ≡ later_by T l c j) → (j m : ℕ) → later_ways U l c j m ≡ later_ways T l c j m
unfolding later_ways
ways-same T U l c f j zero = refl
ways-same T U l c f j (suc m) = let a = f j in let b = ways-same T U l c f (suc j) m in λ i. a i ∷ b i

module _ (T U : List ℕ) (P tests : ℕ) (h : Pointing T U P tests) where
  same_code : (q : ℕ) → code_at U q ≡ code_at T q
  same_code q = h.kept (4 * q) (λ e. omega arith)

  same_first : (q : ℕ) → first_at U q ≡ first_at T q
  same_first q = h.kept (4 * q + 1) (λ e. omega arith)

  same_count : (q : ℕ) → count_at U q ≡ count_at T q
  same_count q = h.kept (4 * q + 3) (λ e. omega arith)

  pub pointed : Pointed U P tests
  pointed q l c = rw (same_code q) (h.each q l (rw (same_code q) at c))

  module _ (s : Sized T P) (far : (q : ℕ) → q < P → 2 < count_at T q → 4 * P ≤ later_at T q) where
    -- what a fork of more than two ways reads at its ways
    read_same : (q : ℕ) → q < P → 2 < count_at T q → (j : ℕ) → later_by U (later_at T q) (count_at T q) j ≡ later_by T (later_at T q) (count_at T q) j
    unfolding later_by
    read_same q l m j = ap (λ (x : ℕ). pick (eqb (count_at T q) 2) (later_at T q) x) (h.behind (later_at T q + j) (let a = far q l m in omega arith))

    later_same : (q : ℕ) → q < P → later_ways U (later_at T q) (count_at T q) 1 (count_at T q - 1) ≡ later_ways T (later_at T q) (count_at T q) 1 (count_at T q - 1)
    unfolding later_ways later_by
    later_same q l = go (ltb 2 (count_at T q)) refl
      where
        few : (c : ℕ) → c ≤ 2 → later_ways U (later_at T q) c 1 (c - 1) ≡ later_ways T (later_at T q) c 1 (c - 1)
        few zero k = refl
        few (suc zero) k = refl
        few (suc (suc zero)) k = refl
        few (suc (suc (suc c))) k = absurd (omega arith)

        go : (b : Bool) → ltb 2 (count_at T q) ≡ b → later_ways U (later_at T q) (count_at T q) 1 (count_at T q - 1) ≡ later_ways T (later_at T q) (count_at T q) 1 (count_at T q - 1)
        go true e = ways-same T U (later_at T q) (count_at T q) (read_same q l (ltb-true 2 (count_at T q) e)) 1 (count_at T q - 1)
        go false e = few (count_at T q) (ltb-false 2 (count_at T q) e)

    place_same : (q : ℕ) → q < P → place_at U q ≡ place_at T q
    unfolding place_at ways_of
    place_same q l = go (ltb (code_at T q) 26) refl
      where
        go : (b : Bool) → ltb (code_at T q) 26 ≡ b → place_at U q ≡ place_at T q
        go true e = rw (same_code q, same_first q) (by-letter (code_at T q) (first_at T q) _ _ e)
        go false e =
            rw (same_code q, same_first q, same_count q, h.other q (ltb-false (code_at T q) 26 e))
            (ap (λ (ks : List ℕ). place_by (code_at T q) (first_at T q) (first_at T q ∷ ks)) (later_same q l))

    from-same : (q m : ℕ) → q + m ≤ P → places_from U q m ≡ places_from T q m
    unfolding places_from
    from-same q zero l = refl
    from-same q (suc m) l = let a = place_same q (omega arith) in let b = from-same (suc q) m (omega arith) in λ i. a i ∷ b i

    pub places_same : places_in U P ≡ places_in T P
    unfolding places_in
    places_same = from-same 0 P (omega arith)

    -- and keeps to what the walk relies on
    pub sized_same : Sized U P
    sized_same =
        record {
          some = s.some;
          few = s.few;
          long = omega (arith, s.long, h.len);
          near = λ q l e. rw (same_first q, same_count q) (s.near q l (rw (same_code q) at e));
          one = λ q l e. rw (same_count q) (s.one q l (rw (same_code q) at e));
          end = λ q l e. rw (same_count q) (s.end q l (rw (same_code q) at e));
          many = λ q l. rw (same_count q) (s.many q l);
          ways = λ q l e. ways q l (rw (same_count q) at e);
        }
      where
        ways : (q : ℕ) → q < P → 2 < count_at T q → later_at U q + count_at U q ≤ length U
        ways q l m =
            let c : 26 ≤ code_at T q = fork q l m in
            rw (same_count q, h.other q c, h.len) (s.ways q l m)
          where
            fork : (q : ℕ) → q < P → 2 < count_at T q → 26 ≤ code_at T q
            fork q l m = go (ltb (code_at T q) 26) refl
              where
                go : (b : Bool) → ltb (code_at T q) 26 ≡ b → 26 ≤ code_at T q
                go true e = absurd (let y = ltb-true (code_at T q) 26 e in let z = s.one q l (omega arith) in omega arith)
                go false e = ltb-false (code_at T q) 26 e

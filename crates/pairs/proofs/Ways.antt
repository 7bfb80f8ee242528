-- What the tables say of a pair: its ways, by the code of its place.
use mathlib.Core.Path.{◌≡◌, refl, sym, ap, ◌∙◌}
use mathlib.Core.List.{List, [], ◌∷◌, map}
use mathlib.Core.Bool.{Bool, true, false, true≢false}
use Prim.Native.Nat.{ℕ, zero, suc, ◌+◌, ◌-◌, ◌*◌, ◌/◌, ◌%◌, ◌≤◌, ◌<◌}
use native.Mathlib.Nat.{le_of_suc-le-suc, not-suc-le-zero, add-zero}
use mathlib.Core.Logic.{◌≢◌}
use native.Mathlib.Decide.{ℕ_discrete}
use native.Mathlib.Omega.{arith}
use lib.Arith.{digits_div, digits_mod}
use lib.Dec.{ltb, eqb}
use lib.ListN.{length, get_or}
use borrow.Author.Tests.{ne_eqb, eqb-false, lt-ltb, le-ltb, ltb-true, ltb-false}
use Rattle.rules.specs.Basics.{pick}
use Rattle.rules.specs.Places.{Place, p_letter, p_caret, p_dollar, p_fork, p_end}
use Rattle.rules.specs.Walk.{Ways, accept, try, ways_at, pair_ways}
use Rattle.rules.specs.Working.{All}
use Rattle.pairs.specs.Layout.{Layout, P, left_from, second, graph_of, passes_by, Sized, Leads}
use Rattle.table.specs.Table.{later_by, later_way, later_ways, ways_of, place_by, place_at, places_from, places_in, code_at, first_at, later_at, count_at}
use Rattle.pairs.specs.State.{takes}

-- ---- the places

module _ (T : List ℕ) where
  from-length : (m q : ℕ) → length (places_from T q m) ≡ m
  unfolding places_from
  from-length zero q = refl
  from-length (suc m) q = ap suc (from-length m (suc q))

  from_at : (m q i : ℕ) → i < m → get_or (places_from T q m) i (p_fork []) ≡ place_at T (q + i)
  unfolding places_from
  from_at zero q i h = absurd (not-suc-le-zero h)
  from_at (suc m) q zero h = rw add-zero
  from_at (suc m) q (suc i) h =
      let e : q + suc i ≡ suc q + i = omega arith in
      rw e (from_at m (suc q) i (le_of_suc-le-suc h))

  pub in_length : (P : ℕ) → length (places_in T P) ≡ P
  unfolding places_in
  in_length P = from-length P 0

  pub in_at : (P q : ℕ) → q < P → get_or (places_in T P) q (p_fork []) ≡ place_at T q
  unfolding places_in
  in_at P q h = let e : 0 + q ≡ q = omega arith in rw e at (from_at P 0 q h)

-- ---- the ways of a place

later-length : (w : List ℕ) (l c m j : ℕ) → length (later_ways w l c j m) ≡ m
unfolding later_ways
later-length w l c zero j = refl
later-length w l c (suc m) j = ap suc (later-length w l c m (suc j))

later-at : (w : List ℕ) (l c m j i : ℕ) → i < m → get_or (later_ways w l c j m) i 0 ≡ later_by w l c (j + i)
unfolding later_ways
later-at w l c zero j i h = absurd (not-suc-le-zero h)
later-at w l c (suc m) j zero h = rw add-zero
later-at w l c (suc m) j (suc i) h = let e : j + suc i ≡ suc j + i = omega arith in rw e (later-at w l c m (suc j) i (le_of_suc-le-suc h))

pub left-none : (T : Layout) (q j : ℕ) → j ≡ 0 → left_from T q j ≡ 0
unfolding left_from
left-none T q j e = rw e

pub left-some : (T : Layout) (q j : ℕ) → 0 < j → left_from T q j ≡ count_at T.words q - j
unfolding left_from
left-some T q j h = rw (ne_eqb j 0 (λ (e : j ≡ 0). omega arith))

second_none : (T : Layout) (q : ℕ) → count_at T.words q ≤ 1 → second T q ≡ 0
unfolding second
second_none T q h = rw (le-ltb 1 (count_at T.words q) h)

second-some : (T : Layout) (q : ℕ) → 1 < count_at T.words q → second T q ≡ 1
unfolding second
second-some T q h = rw (lt-ltb 1 (count_at T.words q) h)

-- behind the first way there are as many as are left from the second on
left-second : (T : Layout) (q : ℕ) → left_from T q (second T q) ≡ count_at T.words q - 1
left-second T q = go (ltb 1 (count_at T.words q)) refl
  where
    go : (b : Bool) → ltb 1 (count_at T.words q) ≡ b → left_from T q (second T q) ≡ count_at T.words q - 1
    go true e = let h = ltb-true 1 (count_at T.words q) e in rw (second-some T q h) (left-some T q 1 (omega arith))
    go false e = let h = ltb-false 1 (count_at T.words q) e in rw (second_none T q h) (left-none T q 0 refl ∙ omega arith)

module _ (T : Layout) (q : ℕ) where
  pub ways-length : length (ways_of T.words q) ≡ suc (left_from T q (second T q))
  unfolding ways_of
  ways-length = rw (left-second T q) (ap suc (later-length T.words (later_at T.words q) (count_at T.words q) (count_at T.words q - 1) 1))

  pub ways-first : get_or (ways_of T.words q) 0 0 ≡ first_at T.words q
  unfolding ways_of
  ways-first = refl

  -- the ways behind the first, by their numbers
  pub ways-later : (m : ℕ) → suc m < count_at T.words q → get_or (ways_of T.words q) (suc m) 0 ≡ later_way T.words q (suc m)
  unfolding ways_of later_way
  ways-later m h =
      let e : suc m ≡ 1 + m = omega arith in
      later-at T.words (later_at T.words q) (count_at T.words q) (count_at T.words q - 1) 1 m (omega arith)
      ∙ ap (λ (i : ℕ). later_by T.words (later_at T.words q) (count_at T.words q) i) (sym e)

  -- a place that is no fork leads to one place
  pub ways-one : count_at T.words q ≡ 0 → ways_of T.words q ≡ first_at T.words q ∷ []
  unfolding ways_of later_ways
  ways-one e = rw e

  -- what is second is way 1, and there are at least two ways then
  pub second_is : 0 < second T q → (second T q ≡ 1) × (1 < count_at T.words q)
  second_is s = go (ltb 1 (count_at T.words q)) refl
    where
      go : (b : Bool) → ltb 1 (count_at T.words q) ≡ b → (second T q ≡ 1) × (1 < count_at T.words q)
      go true e = let h = ltb-true 1 (count_at T.words q) e in (second-some T q h, h)
      go false e = let z = second_none T q (ltb-false 1 (count_at T.words q) e) in absurd (omega (arith, s, z))

pub each : (Q : ℕ → Type 0) (ks : List ℕ) → All Q ks → (m : ℕ) → m < length ks → Q (get_or ks m 0)
each Q [] a m h = absurd (not-suc-le-zero h)
each Q (k ∷ ks) a zero h = a.0
each Q (k ∷ ks) a (suc m) h = each Q ks a.1 m (le_of_suc-le-suc h)

-- ---- by the code

module _ (holds : ℕ → ℕ → Bool) (n P k : ℕ) (ks : List ℕ) (i : ℕ) where
  abbrev At : ℕ → Ways
  At c = ways_at holds n P (place_by c k ks) i

  -- a place that does not pass tries nothing
  by-shut : (c : ℕ) → passes_by holds n c i ≡ false → At c ≡ try []
  unfolding place_by ways_at passes_by
  by-shut c e = low (ltb c 26) refl
    where
      low : (b : Bool) → ltb c 26 ≡ b → At c ≡ try []
      low true l = let d = rw l at e in rw (l, d)
      low false l = caret (eqb c 26) refl
        where
          caret : (b : Bool) → eqb c 26 ≡ b → At c ≡ try []
          caret true x = let d = rw (l, x) at e in rw (l, x, d)
          caret false x = dollar (eqb c 27) refl
            where
              dollar : (b : Bool) → eqb c 27 ≡ b → At c ≡ try []
              dollar true y = let d = rw (l, x, y) at e in rw (l, x, y, d)
              dollar false y = let d : true ≡ false = rw (l, x, y) at e in absurd (true≢false d)

  by-letter : (c : ℕ) → c < 26 → passes_by holds n c i ≡ true → At c ≡ try ((suc i * P + k) ∷ [])
  unfolding place_by ways_at passes_by
  by-letter c l e = let d = rw (lt-ltb c 26 l) at e in rw (lt-ltb c 26 l, d)

  by-caret : (c : ℕ) → c ≡ 26 → passes_by holds n c i ≡ true → At c ≡ try ((i * P + k) ∷ [])
  unfolding place_by ways_at passes_by
  by-caret c l e = let d : eqb i 0 ≡ true = rw l at e in rw (l, d)

  by-dollar : (c : ℕ) → c ≡ 27 → passes_by holds n c i ≡ true → At c ≡ try ((i * P + k) ∷ [])
  unfolding place_by ways_at passes_by
  by-dollar c l e = let d : eqb i n ≡ true = rw l at e in rw (l, d)

  is-fork : (c : ℕ) → 28 ≤ c → c ≤ 29 → place_by c k ks ≡ p_fork ks
  unfolding place_by
  is-fork c l m =
      rw (le-ltb c 26 (omega arith), ne_eqb c 26 (λ (e : c ≡ 26). omega arith), ne_eqb c 27 (λ (e : c ≡ 27). omega arith), lt-ltb c 30 (let z : c < 30 = omega arith in z))

  by-fork : (c : ℕ) → 28 ≤ c → c ≤ 29 → At c ≡ try (map (λ k. i * P + k) ks)
  unfolding ways_at
  by-fork c l m = rw (is-fork c l m)

  by_end : (c : ℕ) → 29 < c → place_by c k ks ≡ p_end
  unfolding place_by
  by_end c l =
      rw (le-ltb c 26 (omega arith), ne_eqb c 26 (λ (e : c ≡ 26). omega arith), ne_eqb c 27 (λ (e : c ≡ 27). omega arith), le-ltb c 30 (let z : 30 ≤ c = omega arith in z))

  by-low : (c : ℕ) → c < 26 → place_by c k ks ≡ p_letter (c + 65) k
  unfolding place_by
  by-low c l = rw (lt-ltb c 26 l)

  pub by_high : (c : ℕ) → 26 ≤ c → takes (place_by c k ks) ≡ 0
  unfolding place_by
  by_high c l = rw (le-ltb c 26 l) (caret (eqb c 26) (eqb c 27) (ltb c 30))
    where
      caret : (x y z : Bool) → takes (pick x (p_caret k) (pick y (p_dollar k) (pick z (p_fork ks) p_end))) ≡ 0
      caret true y z = refl
      caret false true z = refl
      caret false false true = refl
      caret false false false = refl

  -- a place before the forks leads on
  by-leads : (c : ℕ) → c < 28 → Leads P (place_by c k ks) → k < P
  unfolding place_by
  by-leads c h l = low (ltb c 26) refl l
    where
      high : (x y z : Bool) → eqb c 26 ≡ x → eqb c 27 ≡ y → 26 ≤ c → Leads P (pick x (p_caret k) (pick y (p_dollar k) (pick z (p_fork ks) p_end))) → k < P
      high true y z a b m l = l
      high false true z a b m l = l
      high false false z a b m l = let u : c ≢ 26 = eqb-false c 26 a in let v : c ≢ 27 = eqb-false c 27 b in absurd (omega arith)

      low : (b : Bool) → ltb c 26 ≡ b → Leads P (pick b (p_letter (c + 65) k) (pick (eqb c 26) (p_caret k) (pick (eqb c 27) (p_dollar k) (pick (ltb c 30) (p_fork ks) p_end)))) → k < P
      low true e l = l
      low false e l = high (eqb c 26) (eqb c 27) (ltb c 30) refl refl (ltb-false c 26 e) l

  by-leads_fork : (c : ℕ) → 28 ≤ c → c ≤ 29 → Leads P (place_by c k ks) → All (λ k. k < P) ks
  by-leads_fork c h m l = let d : Leads P (p_fork ks) = rw (is-fork c h m) at l in d

-- ---- the pair of a place q at row i

module _ (T : Layout) (holds : ℕ → ℕ → Bool) (n q i : ℕ) (place : q < P T) where
  abbrev x : ℕ
  x = i * P T + q

  abbrev code : ℕ
  code = code_at T.words q

  abbrev next : ℕ
  next = first_at T.words q

  pub pair_row : x / P T ≡ i
  pair_row = digits_div i place

  pub pair_place : x % P T ≡ q
  pair_place = digits_mod i place

  graph_at : graph_of T holds n x ≡ ways_at holds n (P T) (place_at T.words q) i
  unfolding graph_of pair_ways
  graph_at = rw (in_length T.words (P T), pair_row, pair_place, in_at T.words (P T) q place)

  pub ways-shut : passes_by holds n code i ≡ false → graph_of T holds n x ≡ try []
  unfolding place_at
  ways-shut e = graph_at ∙ by-shut holds n (P T) next (ways_of T.words q) i code e

  -- a letter that passes leads to one pair
  pub ways-letter : code < 26 → passes_by holds n code i ≡ true → graph_of T holds n x ≡ try ((suc i * P T + next) ∷ [])
  unfolding place_at
  ways-letter l p = graph_at ∙ by-letter holds n (P T) next (ways_of T.words q) i code l p

  pub ways-end : 29 < code → graph_of T holds n x ≡ accept
  unfolding place_at ways_at
  ways-end h = graph_at ∙ ap (λ (p : Place). ways_at holds n (P T) p i) (by_end holds n (P T) next (ways_of T.words q) i code h)

  pub takes-row : code < 26 → takes (place_at T.words q) ≡ 1
  unfolding place_at
  takes-row h = ap takes (by-low holds n (P T) next (ways_of T.words q) i code h)

  pub takes-no_row : 26 ≤ code → takes (place_at T.words q) ≡ 0
  unfolding place_at
  takes-no_row h = by_high holds n (P T) next (ways_of T.words q) i code h

  -- the places of all its ways
  pub leads_each : Sized T → code ≤ 29 → Leads (P T) (place_at T.words q) → (m : ℕ) → m < length (ways_of T.words q) → get_or (ways_of T.words q) m 0 < P T
  unfolding place_at
  leads_each z h l m b = go (ltb code 28) refl
    where
      go : (t : Bool) → ltb code 28 ≡ t → get_or (ways_of T.words q) m 0 < P T
      go true e =
          let c = ltb-true code 28 e in
          each (λ k. k < P T) (ways_of T.words q) (rw (ways-one T q (z.one q place c)) (by-leads holds n (P T) next (ways_of T.words q) i code c l, tt)) m b
      go false e = each (λ k. k < P T) (ways_of T.words q) (by-leads_fork holds n (P T) next (ways_of T.words q) i code (ltb-false code 28 e) h l) m b

  module _ (z : Sized T) (p : passes_by holds n code i ≡ true) (h : code ≤ 29) where
    -- a place that passes tries all its ways
    pub ways-are : graph_of T holds n x ≡ try (map (λ k. (i + takes (place_at T.words q)) * P T + k) (ways_of T.words q))
    unfolding place_at
    ways-are = graph_at ∙ by_code (ltb code 26) refl
      where
        one : code < 28 → ways_of T.words q ≡ next ∷ []
        one l = ways-one T q (z.one q place l)

        anchor : 26 ≤ code → code < 28 → ways_at holds n (P T) (place_at T.words q) i ≡ try ((i * P T + next) ∷ []) → ways_at holds n (P T) (place_at T.words q) i ≡ try (map (λ k. (i + takes (place_at T.words q)) * P T + k) (ways_of T.words q))
        anchor l m e =
            let t : i + takes (place_at T.words q) ≡ i = let a = takes-no_row l in omega arith in
            let r : try ((i * P T + next) ∷ []) ≡ try (map (λ k. (i + takes (place_at T.words q)) * P T + k) (ways_of T.words q)) = rw (t, one m) in
            e ∙ r

        by_code : (b : Bool) → ltb code 26 ≡ b → ways_at holds n (P T) (place_at T.words q) i ≡ try (map (λ k. (i + takes (place_at T.words q)) * P T + k) (ways_of T.words q))
        by_code true e =
            let l = ltb-true code 26 e in
            let t : i + takes (place_at T.words q) ≡ suc i = let a = takes-row l in omega arith in
            let r : try ((suc i * P T + next) ∷ []) ≡ try (map (λ k. (i + takes (place_at T.words q)) * P T + k) (ways_of T.words q)) = rw (t, one (omega arith)) in
            by-letter holds n (P T) next (ways_of T.words q) i code l p ∙ r
        by_code false e = let l = ltb-false code 26 e in elim (ℕ_discrete code 26) [
          | yes c ↦ anchor l (omega arith) (by-caret holds n (P T) next (ways_of T.words q) i code c p)
          | no c ↦ elim (ℕ_discrete code 27) [
            | yes d ↦ anchor l (omega arith) (by-dollar holds n (P T) next (ways_of T.words q) i code d p)
            | no d ↦ fork (omega arith)
          ]
        ]
          where
            fork : 28 ≤ code → ways_at holds n (P T) (place_at T.words q) i ≡ try (map (λ k. (i + takes (place_at T.words q)) * P T + k) (ways_of T.words q))
            fork f =
                let t : i + takes (place_at T.words q) ≡ i = let a = takes-no_row (omega arith) in omega arith in
                let r : try (map (λ k. i * P T + k) (ways_of T.words q)) ≡ try (map (λ k. (i + takes (place_at T.words q)) * P T + k) (ways_of T.words q)) = rw t in
                by-fork holds n (P T) next (ways_of T.words q) i code f h ∙ r

pub takes_one : (p : Place) → takes p ≤ 1
takes_one (p_letter c k) = omega arith
takes_one (p_caret k) = omega arith
takes_one (p_dollar k) = omega arith
takes_one (p_fork ks) = omega arith
takes_one p_end = omega arith

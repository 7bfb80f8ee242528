-- A state that stands for some reports: its words, and the state that stands for one report more, by
-- what the code writes.
use mathlib.Core.Path.{◌≡◌, refl, sym, ap, ap₂, ◌∙◌}
use mathlib.Core.Bool.{true}
use mathlib.Core.List.{List, [], ◌∷◌, ◌++◌, map, append_assoc}
use Prim.Native.Nat.{ℕ, zero, suc, ◌+◌, ◌≤◌, ◌<◌}
use native.Mathlib.Numerals.{add-one}
use native.Mathlib.Omega.{arith}
use lib.Dec.{leb}
use lib.ListN.{length, get_or, set, take, drop, replicate, length-append}
use lib.Seq.{sets-eq}
use borrow.Author.Tests.{leb-true, ne_eqb}
use Rattle.rules.specs.Basics.{tabulate, wrote}
use Rattle.rules.specs.Working.{All}
use Rattle.rules.specs.Entries.{Reported}
use Rattle.laws.proofs.Appended.{wrote_none}
use Rattle.laws.proofs.Lists.{length-wrote}
use Rattle.tally.specs.declared.NamedColumns.{NamedColumns}
use Rattle.tally.specs.Table.{DepotReport, match_cell, counted, cells, listed}
use Rattle.tally.specs.Counting.{all_up}
use Rattle.tally.proofs.Tallying.{counted-on, listed-on, refused_none, done_all, cells-refused, cells-done, cells-long, match-cells, occurs-few, all_up-front, list_on, listed-done}
use Rattle.depot_state.specs.State.{state_of, StateStands, Begun}
use Rattle.depot_state.specs.Steps.{named_in, list_fits, list_with, state_with, state_up}
use Rattle.depot_state.proofs.Words.{get_d_tail, set-tail, new_words}

-- ---- a new state

rep_last : (n : ℕ) → ◌≡◌ {A = List ℕ} (replicate n 0 ++ (0 ∷ [])) (0 ∷ replicate n 0)
rep_last zero = refl
rep_last (suc n) = ap (λ (l : List ℕ). 0 ∷ l) (rep_last n)

no-counts : (n : ℕ) → ◌≡◌ {A = List ℕ} (tabulate n (λ c. 0)) (replicate n 0)
unfolding tabulate
no-counts zero = refl
no-counts (suc n) = ap (λ (l : List ℕ). l ++ (0 ∷ [])) (no-counts n) ∙ rep_last n

cells-none : (w : NamedColumns) → cells w [] ≡ replicate 769 0
unfolding cells counted
cells-none w = no-counts 769

state_none : (w : NamedColumns) (rest : List ℕ) → state_of w [] rest ≡ replicate 769 0 ++ (0 ∷ 0 ∷ w.depot ∷ w.month ∷ rest)
unfolding state_of
state_none w rest = ap (λ (l : List ℕ). l ++ (0 ∷ 0 ∷ w.depot ∷ w.month ∷ rest)) (cells-none w)

new_stands : (w : NamedColumns) (state state' list : List ℕ) → state' ≡ replicate 769 0 ++ (0 ∷ 0 ∷ w.depot ∷ w.month ∷ drop 773 state) → StateStands w [] list (drop 773 state) state' list
unfolding listed counted
new_stands w state state' list e =
    record {
      state_is = e ∙ sym (state_none w (drop 773 state));
      list_is = sym (wrote_none list 0);
      room = omega arith;
      few = omega arith;
      small = λ c. omega arith;
    }

module _ (depot month : ℕ) (state : List ℕ) where
  pub begin_short : length state < 773 → Begun depot month state state 20
  begin_short h = record { short = λ g. (refl, refl); new = λ g. absurd (omega arith) }

  pub begin_new : 773 ≤ length state → (s : List ℕ) → s ≡ replicate 771 0 ++ drop 771 state → Begun depot month state (set (set s 771 depot) 772 month) 0
  begin_new h s e =
      record {
        short = λ g. absurd (omega arith);
        new = λ g. (refl, λ list. new_stands (record { depot = depot; month = month }) state (set (set s 771 depot) 772 month) list (ap (λ (l : List ℕ). set (set l 771 depot) 772 month) e ∙ new_words state depot month h));
      }

-- two numbers written one behind the other
two-written : (l : List ℕ) (u a b : ℕ) → u + 2 ≤ length l → set (set l u a) (u + 1) b ≡ wrote l u (a ∷ b ∷ [])
unfolding wrote
two-written l u a b h = let z : u + 1 ≡ suc u = add-one u in rw z (sets-eq (a ∷ b ∷ []) l u h ∙ append_assoc (take u l) (a ∷ b ∷ []) (drop (u + length (a ∷ b ∷ [])) l))

-- ---- the words of a state that stands for reports

module _ (w : NamedColumns) (rs : List DepotReport) (list₀ rest state list : List ℕ) (s : StateStands w rs list₀ rest state list) where
  abbrev tail : List ℕ
  tail = length rs ∷ length (listed 0 rs) ∷ w.depot ∷ w.month ∷ rest

  is : state ≡ cells w rs ++ tail
  unfolding state_of
  is = s.state_is

  word : (i : ℕ) → get_or state (769 + i) 0 ≡ get_or tail i 0
  word i = ap (λ (l : List ℕ). get_or l (769 + i) 0) is ∙ get_d_tail (cells w rs) tail 769 i (cells-long w rs)

  pub partitions_are : get_or state 769 0 ≡ length rs
  partitions_are = word 0

  pub listed-are : get_or state 770 0 ≡ length (listed 0 rs)
  listed-are = word 1

  pub named-are : named_in state ≡ w
  unfolding named_in
  named-are = ap₂ (λ (a b : ℕ). record { depot = a; month = b }) (word 2) (word 3)

  pub state_long : 773 ≤ length state
  state_long =
      let a : length state ≡ length (cells w rs) + length tail = ap length is ∙ length-append (cells w rs) tail in
      omega (arith, a, cells-long w rs)

  list_long : length list ≡ length list₀
  list_long = ap length s.list_is ∙ length-wrote list₀ (listed 0 rs) s.room

  pub fits-when : list_fits state list ≡ leb (length (listed 0 rs) + 2) (length list₀)
  unfolding list_fits
  fits-when = rw (listed-are, list_long)

  -- ---- one report more

  module _ (r : DepotReport) (left : length rs < 65535) where
    abbrev rs' : List DepotReport
    rs' = rs ++ (r ∷ [])

    one-longer : length rs' ≡ length rs + 1
    one-longer = length-append rs (r ∷ [])

    -- ---- refused or stopped

    module _ (d : r.answer ≡ 0 → ⊥) (fits : list_fits state list ≡ true) where
      two-longer : length (listed 0 rs') ≡ length (listed 0 rs) + 2
      two-longer =
          let e = listed-on 0 rs r in
          let f : listed 0 rs' ≡ listed 0 rs ++ (suc (0 + length rs) ∷ r.answer ∷ []) = rw (ne_eqb r.answer 0 d) at e in
          ap length f ∙ length-append (listed 0 rs) (suc (0 + length rs) ∷ r.answer ∷ [])

      state_listed : state_with state ≡ state_of w rs' rest
      unfolding state_with state_of
      state_listed =
          let u : ℕ = length (listed 0 rs) + 2 in
          let p : ℕ = length rs + 1 in
          let e : set state 770 u ≡ cells w rs ++ set tail 1 u = ap (λ (l : List ℕ). set l 770 u) is ∙ set-tail (cells w rs) tail 769 1 u (cells-long w rs) in
          let f : set (cells w rs ++ set tail 1 u) 769 p ≡ cells w rs ++ set (set tail 1 u) 0 p = set-tail (cells w rs) (set tail 1 u) 769 0 p (cells-long w rs) in
          rw (partitions_are, listed-are) (ap (λ (l : List ℕ). set l 769 p) e ∙ f
          ∙ ap₂ (λ (l : List ℕ) (t : List ℕ). l ++ t) (sym (cells-refused w rs r d)) (ap₂ (λ (a b : ℕ). a ∷ b ∷ w.depot ∷ w.month ∷ rest) (sym one-longer) (sym two-longer)))

      inside : length (listed 0 rs) + 2 ≤ length list₀
      inside = leb-true (length (listed 0 rs) + 2) (length list₀) (sym fits-when ∙ fits)

      list_listed : list_with state list r.answer ≡ wrote list₀ 0 (listed 0 rs')
      unfolding list_with
      list_listed =
          let u : ℕ = length (listed 0 rs) in
          rw (partitions_are, listed-are)
          (two-written list u (length rs + 1) r.answer (omega (arith, inside, list_long))
          ∙ ap₂ (λ (l : List ℕ) (k : ℕ). wrote l u (k ∷ r.answer ∷ [])) s.list_is (add-one (length rs)) ∙ list_on list₀ rs r d s.room)

      pub stands_listed : StateStands w rs' list₀ rest (state_with state) (list_with state list r.answer)
      stands_listed =
          record {
            state_is = state_listed;
            list_is = list_listed;
            room = omega (arith, two-longer, inside);
            few = omega (arith, one-longer);
            small = λ c. omega (arith, counted-on w c rs r, refused_none w c r d, s.small c, one-longer);
          }

    -- ---- done

    module _ (z : r.answer ≡ 0) (few : length r.matches ≤ 4096) where
      abbrev cs : List ℕ
      cs = map (match_cell w r.rows) r.matches

      all_below : (l : List ℕ) → All (λ c. c < 769) l → All (λ c. c < length (cells w rs)) l
      all_below [] a = tt
      all_below (c ∷ l) (a, b) = (rw (cells-long w rs) a, all_below l b)

      map-long : (es : List Reported) → length (map (match_cell w r.rows) es) ≡ length es
      map-long [] = refl
      map-long (e ∷ es) = ap suc (map-long es)

      state_counted : state_up state cs ≡ state_of w rs' rest
      unfolding state_up state_of
      state_counted =
          let p : ℕ = length rs + 1 in
          let a : all_up state cs ≡ cells w rs' ++ tail =
          ap (λ (l : List ℕ). all_up l cs) is ∙ all_up-front (cells w rs) tail cs (all_below cs (match-cells w r.rows r.matches))
          ∙ ap (λ (l : List ℕ). l ++ tail) (cells-done w rs r z (λ c. omega (arith, s.small c, s.few))) in
          let f : set (cells w rs' ++ tail) 769 p ≡ cells w rs' ++ set tail 0 p = set-tail (cells w rs') tail 769 0 p (cells-long w rs') in
          rw partitions_are (ap (λ (l : List ℕ). set l 769 p) a ∙ f
          ∙ ap₂ (λ (x : ℕ) (l : List ℕ). cells w rs' ++ (x ∷ length l ∷ w.depot ∷ w.month ∷ rest)) (sym one-longer) (sym (listed-done rs r z)))

      pub stands_counted : StateStands w rs' list₀ rest (state_up state cs) list
      stands_counted =
          record {
            state_is = state_counted;
            list_is = rw (listed-done rs r z) s.list_is;
            room = rw (listed-done rs r z) s.room;
            few = omega (arith, one-longer);
            small = λ c. omega (arith, counted-on w c rs r, done_all w c r z, occurs-few c cs, map-long r.matches, s.small c, one-longer);
          }

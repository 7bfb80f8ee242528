-- What the places of a table tell of the query that it stands for: it looks ahead exactly if one of
-- them does.
use mathlib.Core.Path.{◌≡◌, refl, sym, ap, ◌∙◌}
use mathlib.Core.Bool.{Bool, true, false, not, ◌||◌}
use mathlib.Core.List.{List, []}
use Prim.Native.Nat.{ℕ, ◌+◌, ◌*◌, ◌≤◌, ◌<◌}
use native.Mathlib.Omega.{arith}
use lib.Dec.{ltb, eqb}
use lib.ListN.{length, get_or}
use borrow.Author.Tests.{ltb-true, eqb-true, ne_eqb}
use Rattle.std.specs.Bool.{MatchBool}
use Rattle.std.specs.List.{HoldsAt, AllWithin, range_with_len}
use Rattle.std.proofs.lemmas.List.FromFn.{get_or-range_with_len, length-range_with_len}
use Rattle.rules.specs.Basics.{every}
use Rattle.rules.specs.Query.{parts, text_of}
use Rattle.rules.specs.Language.{letters, has_dollar}
use Rattle.rules.specs.Places.{Place, p_letter, p_caret, p_dollar, p_fork, p_end, unroll, places}
use Rattle.rules.specs.Answers.{tree_in, letters_in}
use Rattle.rules.specs.Lots.{dollar_in, settles, looks_ahead}
use Rattle.rules.specs.Working.{thin_place}
use Rattle.laws.proofs.Bounds.{Bounds, written-bounds}
use Rattle.laws.proofs.Choice.{decided, clash}
use Rattle.laws.proofs.Counting.{places-counted}
use Rattle.laws.proofs.Distinct.{thinned-at}
use Rattle.laws.proofs.Grammar.{tree-exactly}
use Rattle.laws.proofs.Level.{or-false}
use Rattle.laws.proofs.PlaceLetters.{Passes, places-pass}
use Rattle.table.specs.Table.{code_at, later_at, place_by, place_at}
use Rattle.table.specs.Tests.{condition_in}
use Rattle.places.proofs.Legal.{in_at}
use Rattle.prepared.specs.Ready.{Ready}
use Rattle.prepared.specs.declared.Prepared.{Prepared}
use Rattle.reads_ahead.specs.Ahead.{some_ahead, letter_ahead, place_ahead, Readable}
use Rattle.ahead.specs.Looking.{StandsFor}
use Rattle.ahead.proofs.LettersPlaced.{places-back}

not-false : (t : Bool) → not t ≡ false → t ≡ true
not-false true e = refl
not-false false e = sym e

not-true : (t : Bool) → not t ≡ true → t ≡ false
not-true true e = sym e
not-true false e = refl

-- a fork's repeated ways play no part
thin-passes : (f : ℕ → Bool) (p : Place) → Passes f p → Passes f (thin_place p)
unfolding thin_place
thin-passes f (p_letter c k) s = s
thin-passes f (p_caret k) s = s
thin-passes f (p_dollar k) s = s
thin-passes f (p_fork ks) s = s
thin-passes f p_end s = s

thick_passes : (f : ℕ → Bool) (p : Place) → Passes f (thin_place p) → Passes f p
unfolding thin_place
thick_passes f (p_letter c k) s = s
thick_passes f (p_caret k) s = s
thick_passes f (p_dollar k) s = s
thick_passes f (p_fork ks) s = s
thick_passes f p_end s = s

module _ (s T : List ℕ) (p : Prepared) (a : Ready s T p) where
  -- ---- a place

  abbrev settled : ℕ → Bool
  settled = settles s

  -- the words of a letter tell its condition
  letter-is : (q : ℕ) → q < p.places → code_at T q < 26 → letter_ahead T p.columns (later_at T q) ≡ not (settled (code_at T q + 65))
  unfolding letter_ahead some_ahead settles
  letter-is q h l =
      let z : 65 + code_at T q ≡ code_at T q + 65 = omega arith in
      let e : condition_in T p.columns (later_at T q) ≡ (parts s).condition (code_at T q + 65) =
      ap (condition_in T p.columns) (a.pointed q h l) ∙ a.letters (code_at T q) l ∙ ap (parts s).condition z in
      rw e refl

  -- a place that does not look ahead passes
  place-passes : (q : ℕ) → q < p.places → place_ahead T p.columns q ≡ false → Passes settled (place_at T q)
  unfolding place_ahead place_at place_by
  place-passes q h e =
      decided (ltb (code_at T q) 26)
      (λ l. let i = ltb-true (code_at T q) 26 l in
      let n = ne_eqb (code_at T q) 27 (λ y. omega arith) in
      rw l (not-false (settled (code_at T q + 65)) (sym (letter-is q h i) ∙ (rw (n, l) at e))))
      (λ l. rw l (decided (eqb (code_at T q) 26)
      (λ c. rw c tt)
      (λ c. rw c (decided (eqb (code_at T q) 27)
      (λ d. clash (sym (rw d at e)))
      (λ d. rw d (decided (ltb (code_at T q) 30) (λ k. rw k tt) (λ k. rw k tt)))))))

  -- and one that does, does not
  place-fails : (q : ℕ) → q < p.places → place_ahead T p.columns q ≡ true → Passes settled (place_at T q) → ⊥
  unfolding place_ahead place_at place_by
  place-fails q h e x =
      decided (ltb (code_at T q) 26)
      (λ l. let i = ltb-true (code_at T q) 26 l in
      let n = ne_eqb (code_at T q) 27 (λ y. omega arith) in
      let y : settled (code_at T q + 65) ≡ true = rw l at x in
      let z : settled (code_at T q + 65) ≡ false = not-true (settled (code_at T q + 65)) (sym (letter-is q h i) ∙ (rw (n, l) at e)) in
      clash (sym z ∙ y))
      (λ l. decided (eqb (code_at T q) 27)
      (λ d. let n = ne_eqb (code_at T q) 26 (let k = eqb-true (code_at T q) 27 d in λ y. omega arith) in rw (l, n, d) at x)
      (λ d. clash (rw (d, l) at e)))

  -- ---- all places

  the_bounds : Bounds a.tree
  unfolding tree_in
  the_bounds = written-bounds ((tree-exactly (text_of s) a.tree).0 a.has_tree)

  all_count : length (places (unroll a.tree)) ≡ p.places
  all_count = places-counted a.tree the_bounds ∙ sym a.places_are

  place_is : (q : ℕ) → q < p.places → place_at T q ≡ thin_place (get_or (places (unroll a.tree)) q (p_fork []))
  place_is q h = sym (in_at T p.places q h) ∙ ap (λ (ps : List Place). get_or ps q (p_fork [])) a.placed ∙ thinned-at (places (unroll a.tree)) q

  -- by the tree
  looks_by : looks_ahead s ≡ (has_dollar a.tree || not (every settled (letters a.tree)))
  unfolding looks_ahead dollar_in letters_in
  looks_by = rw a.has_tree refl

  pub none-looks : ((q : ℕ) → q < p.places → place_ahead T p.columns q ≡ false) → false ≡ looks_ahead s
  none-looks h =
      let b = places-back settled a.tree the_bounds
      (λ q l. let i : q < p.places = omega (arith, all_count) in thick_passes settled (get_or (places (unroll a.tree)) q (p_fork [])) (rw (place_is q i) at (place-passes q i (h q i)))) in
      sym (looks_by ∙ rw (b.1, b.0) refl)

  pub one-looks : (q : ℕ) → q < p.places → place_ahead T p.columns q ≡ true → true ≡ looks_ahead s
  one-looks q h e =
      decided (looks_ahead s) (λ y. sym y) λ n.
      let o = or-false (has_dollar a.tree) (not (every settled (letters a.tree))) (sym looks_by ∙ n) in
      let c : Passes settled (get_or (places (unroll a.tree)) q (p_fork [])) = places-pass settled a.tree (not-false (every settled (letters a.tree)) o.1) o.0 q in
      absurd (place-fails q h e (rw (place_is q h) (thin-passes settled (get_or (places (unroll a.tree)) q (p_fork [])) c)))

-- ---- one of the places

module _ (T : List ℕ) (p : Prepared) where
  abbrev pub IsAhead : ℕ → Type 0
  IsAhead q = place_ahead T p.columns q ≡ true

  abbrev pub NotAhead : ℕ → Type 0
  NotAhead q = place_ahead T p.columns q ≡ false

  at-q : (q : ℕ) → q < p.places → get_or (range_with_len 0 p.places) q 0 ≡ q
  at-q q l = get_or-range_with_len 0 p.places q 0 l ∙ omega arith

  pub any_looks : (t : Bool) → MatchBool t ((q : ℕ) × (q < length (range_with_len 0 p.places)) × HoldsAt IsAhead (range_with_len 0 p.places) q)
      (AllWithin NotAhead (range_with_len 0 p.places) 0 (length (range_with_len 0 p.places))) → (s : List ℕ) → Ready s T p → t ≡ looks_ahead s
  any_looks true m s a =
      let l : m.0 < p.places = rw length-range_with_len at m.1 in
      let e = at-q m.0 l in
      one-looks s T p a m.0 l (rw e at (m.2 0))
  any_looks false m s a =
      none-looks s T p a (λ q l. let e = at-q q l in let f : q < length (range_with_len 0 p.places) = rw length-range_with_len l in rw e at (m q 0 (omega arith) f))

  -- what a place asks
  module _ (w : StandsFor T p) (q : ℕ) (h : q < p.places) where
    pub place-there : 4 * q + 4 ≤ length T
    place-there = let l = w.ready.sized.long in omega arith

    pub letter-there : code_at T q < 26 → Readable T (later_at T q) p.columns
    letter-there l = rw (w.ready.pointed q h l) (record {
      shape = record { some = w.ready.some_columns; few = w.ready.most_columns };
      long = let g = w.ready.tests.long in omega arith;
      more = w.ready.tests.more (code_at T q) l;
      entries = w.ready.tests.entries (code_at T q) l;
    })

    pub place-asks : (4 * q + 4 ≤ length T) × (code_at T q < 26 → Readable T (later_at T q) p.columns)
    place-asks = (place-there, letter-there)

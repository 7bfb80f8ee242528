-- The calls of R-4 from the search's promise alone: one law for each way through the code.
use mathlib.Core.Path.{◌≡◌, refl, sym, ap, ◌∙◌}
use mathlib.Core.Bool.{Bool, true, false, not, ◌&&◌, ◌||◌, true≢false}
use mathlib.Core.List.{List, [], ◌∷◌, ◌++◌, map}
use mathlib.Core.Logic.{◌⊎◌, inl, inr}
use mathlib.Core.Option.{none}
use Prim.Native.Nat.{ℕ, ◌+◌, ◌*◌, ◌≤◌, ◌<◌}
use native.Mathlib.Omega.{arith}
use lib.Dec.{eqb, leb, ltb}
use lib.IntN.{ℤ}
use lib.ListN.{length, get_or}
use borrow.Author.Tests.{leb-true, le-leb, ltb-true}
use Rattle.rules.specs.Basics.{pick, every}
use Rattle.rules.specs.Rows.{table_of}
use Rattle.rules.specs.Query.{cut, misplaced, columns_of, parts}
use Rattle.rules.specs.Walk.{out_of_steps, out_of_rows}
use Rattle.rules.specs.Search.{Match, End, done, full, stuck, unfinished}
use Rattle.rules.specs.Answers as A
use Rattle.rules.specs.Answers.{Buffers, Memory, Test, first_of, query_tests, halt_answer, end_answer, answer_by, answer_within, walk_within, refused, search_of}
use Rattle.rules.specs.Entries.{reported_in}
use Rattle.laws.proofs.Accepted.{granted_when}
use Rattle.laws.proofs.Choice.{and_left, and_right}
use Rattle.laws.proofs.FirstDemand.{result_answer, unrefused_by}
use Rattle.outcome.specs.declared.Outcome.{Outcome}
use Rattle.outcome.specs.Results.{lent, memory, refusal}
use Rattle.search.specs.Promise.{Promised}
use Rattle.named.specs.Outside.{outside, is_three}
use Rattle.tally.specs.declared.NamedColumns.{NamedColumns}
use Rattle.tally.specs.Table.{DepotReport, match_cell, listed}
use Rattle.tally.specs.Counting.{cells_in}
use Rattle.depot_state.specs.State.{StateStands}
use Rattle.depot_state.specs.Steps.{named_in, list_fits, list_with, state_with, state_up, cells_named, Counts}
use Rattle.depot_state.proofs.Standing.{partitions_are, named-are, state_long, fits-when, stands_listed, stands_counted}
use Rattle.depots.specs.Partition.{partition_of, depot_report, Parted}
use Rattle.depots.specs.Calls.{Input, Calls}
use Rattle.depots.proofs.Firsts.{countable, few_matches, cells_are}

-- ---- answers are small

first_below : (ts : List Test) (m : ℕ) → every (λ (t : Test). leb t.0 m) ts ≡ true → first_of ts ≤ m
unfolding first_of every
first_below [] m e = omega arith
first_below ((n, true) ∷ ts) m e = leb-true n m (and_left (leb n m) (every (λ (t : Test). leb t.0 m) ts) e)
first_below ((n, false) ∷ ts) m e = first_below ts m (and_right (leb n m) (every (λ (t : Test). leb t.0 m) ts) e)

end_below : (e : End Match) → end_answer e ≤ 23
unfolding end_answer halt_answer
end_below done = omega arith
end_below (full m) = omega arith
end_below stuck = omega arith
end_below (unfinished out_of_steps i p) = omega arith
end_below (unfinished out_of_rows i p) = omega arith

module _ (q : List ℕ) (rows : List ℤ) (before : Buffers) where
  refusal-below : A.refusal q rows before ≤ 14
  unfolding A.refusal query_tests every
  refusal-below = first_below (query_tests q ++ ((10, A.bad_rows q rows) ∷ (11, A.short_notes q rows before) ∷ (12, A.short_trail q rows before) ∷ [])) 14 refl

  answer_below : answer_within none q rows before ≤ 23
  unfolding answer_within answer_by
  answer_below = go (eqb (A.refusal q rows before) 0)
    where
      go : (t : Bool) → pick t (end_answer (walk_within none q rows before).end) (A.refusal q rows before) ≤ 23
      go true = end_below (walk_within none q rows before).end
      go false = omega (arith, refusal-below)

  partition_below : (w : NamedColumns) → (partition_of w q rows before).result.answer ≤ 23
  unfolding partition_of refused search_of
  partition_below w = go (is_three q w.depot w.month)
    where
      go : (t : Bool) → (pick t (refused 3 0 before) (search_of q rows before)).result.answer ≤ 23
      go true = omega arith
      go false = omega (arith, result_answer none q rows before, answer_below)

-- ---- the search of a partition

module _ (q : List ℕ) (w : NamedColumns) (rows : List ℤ) (t : Bool) (e : t ≡ is_three q w.depot w.month) where
  pub parted-three : (notes trail : List ℕ) (numbers : List ℤ) (labels : List ℕ) → t ≡ true → (r : Outcome) → r ≡ refusal 3 0
      → Parted w q rows (lent notes trail numbers labels) (memory r notes trail numbers labels)
  unfolding partition_of refused
  parted-three notes trail numbers labels f r g =
      record { whole = rw (← e, f, g); searched = λ h. absurd (true≢false (sym f ∙ e ∙ h)) }

  pub parted-searched : (before : Buffers) (after : Memory) → t ≡ false → Promised none q rows before after → Parted w q rows before after
  unfolding partition_of search_of
  parted-searched before after f p = record { whole = rw (← e, f) p.whole; searched = λ h. p }

-- ---- the calls

module _ (q : List ℕ) (rows : List ℤ) (notes trail : List ℕ) (numbers : List ℤ) (labels state list : List ℕ) where
  abbrev before : Buffers
  before = lent notes trail numbers labels

  abbrev input : Input
  input = record { query = q; rows = rows; buffers = before; state = state; list = list }

  -- a state that is too short stands for nothing
  pub call-short : length state < 773 → (r : Outcome) → r ≡ refusal 20 0 → Calls input (record { memory = memory r notes trail numbers labels; state = state; list = list })
  call-short h r e = record { call = λ w rs list₀ rest s. absurd (omega (arith, state_long w rs list₀ rest state list s)) }

  -- a further partition
  pub call-further : 65535 ≤ get_or state 769 0 → (r : Outcome) → r ≡ refusal 20 0 → Calls input (record { memory = memory r notes trail numbers labels; state = state; list = list })
  unfolding refused
  call-further h r e =
      record {
        call = λ w rs list₀ rest s.
            let p = partitions_are w rs list₀ rest state list s in
            record { further = λ g. (rw e, refl, refl); unlisted = λ g d f. absurd (omega (arith, p)); numbered = λ g f. absurd (omega (arith, p)) };
      }

  module _ (r : Outcome) (notes' trail' : List ℕ) (numbers' : List ℤ) (labels' : List ℕ)
      (p : Parted (record { depot = get_or state 771 0; month = get_or state 772 0 }) q rows before (memory r notes' trail' numbers' labels')) where
    abbrev after : Memory
    after = memory r notes' trail' numbers' labels'

    parted : (w : NamedColumns) → named_in state ≡ w → Parted w q rows before after
    unfolding named_in
    parted w e = let z : Parted (named_in state) q rows before after = p in rw e at z

    is-answer : (w : NamedColumns) → named_in state ≡ w → (depot_report w q rows before).answer ≡ r.answer
    unfolding depot_report
    is-answer w e = ap (λ (m : Memory). m.result.answer) (sym (parted w e).whole)

    pub answer_small : r.answer < 4294967296
    answer_small =
        let e : r.answer ≡ (partition_of (record { depot = get_or state 771 0; month = get_or state 772 0 }) q rows before).result.answer = ap (λ (m : Memory). m.result.answer) p.whole in
        omega (arith, e, partition_below q rows before (record { depot = get_or state 771 0; month = get_or state 772 0 }))

    module _ (left : get_or state 769 0 < 65535) where
      -- refused or stopped
      module _ (d : r.answer ≡ 0 → ⊥) (t : Bool) (e : t ≡ list_fits state list) (state' : List ℕ) (es : state' ≡ pick t (state_with state) state) (list' : List ℕ)
          (el : list' ≡ pick t (list_with state list r.answer) list) where
        pub call-listed : t ≡ true → Calls input (record { memory = after; state = state'; list = list' })
        call-listed f =
            record {
              call = λ w rs list₀ rest s.
                  let c = partitions_are w rs list₀ rest state list s in
                  let n = named-are w rs list₀ rest state list s in
                  let a = is-answer w n in
                  let fits : list_fits state list ≡ true = sym e ∙ f in
                  let l : length (listed 0 rs) + 2 ≤ length list₀ = leb-true (length (listed 0 rs) + 2) (length list₀) (sym (fits-when w rs list₀ rest state list s) ∙ fits) in
                  let new = stands_listed w rs list₀ rest state list s (depot_report w q rows before) (omega (arith, c)) (λ z. d (sym a ∙ z)) fits in
                  let s₁ : state' ≡ state_with state = es ∙ rw f in
                  let l₁ : list' ≡ list_with state list (depot_report w q rows before).answer = el ∙ rw (f, a) in
                  record {
                    further = λ g. absurd (omega (arith, c));
                    unlisted = λ g d g'. absurd (omega (arith, l));
                    numbered = λ g h. ((parted w n).whole, rw (s₁, l₁) new);
                  };
            }

        pub call-unlisted : t ≡ false → (o : Outcome) → o ≡ refusal 20 0 → Calls input (record { memory = memory o notes' trail' numbers' labels'; state = state'; list = list' })
        unfolding refused
        call-unlisted f o eo =
            record {
              call = λ w rs list₀ rest s.
                  let c = partitions_are w rs list₀ rest state list s in
                  let n = named-are w rs list₀ rest state list s in
                  let a = is-answer w n in
                  let b : lent notes' trail' numbers' labels' ≡ (partition_of w q rows before).buffers = ap (λ (m : Memory). m.buffers) (parted w n).whole in
                  let s₁ : state' ≡ state = es ∙ rw f in
                  let l₁ : list' ≡ list = el ∙ rw f in
                  record {
                    further = λ g. absurd (omega (arith, c));
                    unlisted = λ g d g'. (rw eo (ap (λ (m : Buffers). refused 20 0 m) b), s₁, l₁);
                    numbered = λ g h. absurd (no_room w rs list₀ rest s a h);
                  };
            }
          where
            no_room : (w : NamedColumns) (rs : List DepotReport) (list₀ rest : List ℕ) → StateStands w rs list₀ rest state list → (depot_report w q rows before).answer ≡ r.answer
                → ((depot_report w q rows before).answer ≡ 0) ⊎ (length (listed 0 rs) + 2 ≤ length list₀) → ⊥
            no_room w rs list₀ rest s a (inl z) = d (sym a ∙ z)
            no_room w rs list₀ rest s a (inr h) = true≢false (sym (le-leb (length (listed 0 rs) + 2) (length list₀) h) ∙ sym (fits-when w rs list₀ rest state list s) ∙ sym e ∙ f)

      -- done
      module _ (z : r.answer ≡ 0) where
        not_three : is_three q (get_or state 771 0) (get_or state 772 0) ≡ false
        unfolding partition_of refused
        not_three = go (is_three q (get_or state 771 0) (get_or state 772 0)) refl (ap (λ (m : Memory). m.result.answer) p.whole)
          where
            go : (t : Bool) → is_three q (get_or state 771 0) (get_or state 772 0) ≡ t → r.answer ≡ (pick t (refused 3 0 before) (search_of q rows before)).result.answer → is_three q (get_or state 771 0) (get_or state 772 0) ≡ false
            go true f g = absurd (omega (arith, z, g))
            go false f g = f

        promised : Promised none q rows before after
        promised = p.searched not_three

        accepted : A.refusal q rows before ≡ 0
        accepted = unrefused_by none q rows before (inl (sym promised.demand1.answer ∙ z))

        -- both columns are in the shape
        both-inside : (get_or state 771 0 < columns_of q) × (get_or state 772 0 < columns_of q)
        unfolding is_three outside
        both-inside =
            let g = granted_when q rows before accepted in
            in_shape (ltb (get_or state 771 0) (columns_of q)) (ltb (get_or state 772 0) (columns_of q)) (cut q) (misplaced q) refl refl g.whole g.ordered not_three
          where
            in_shape : (a b c m : Bool) → ltb (get_or state 771 0) (columns_of q) ≡ a → ltb (get_or state 772 0) (columns_of q) ≡ b → c ≡ false → m ≡ false → (not (a && b) && not (c || m)) ≡ false
                → (get_or state 771 0 < columns_of q) × (get_or state 772 0 < columns_of q)
            in_shape true true c m ea eb ec em h = (ltb-true (get_or state 771 0) (columns_of q) ea, ltb-true (get_or state 772 0) (columns_of q) eb)
            in_shape true false false false ea eb ec em h = absurd (true≢false h)
            in_shape false b false false ea eb ec em h = absurd (true≢false h)
            in_shape true false true m ea eb ec em h = absurd (true≢false ec)
            in_shape false b true m ea eb ec em h = absurd (true≢false ec)
            in_shape true false false true ea eb ec em h = absurd (true≢false em)
            in_shape false b false true ea eb ec em h = absurd (true≢false em)

        pub counts_asked : 773 ≤ length state → Counts state q rows numbers' r.matches
        unfolding named_in
        counts_asked h =
            record {
              long = h;
              left = left;
              ordered = (granted_when q rows before accepted).ordered;
              countable = countable q rows before after (promised.demands (inl z)) z accepted (named_in state) both-inside.0 both-inside.1 state (omega arith);
            }

        cells-named : (w : NamedColumns) → named_in state ≡ w → cells_named state q rows numbers' r.matches ≡ map (match_cell w (table_of (columns_of q) rows)) (reported_in q after)
        unfolding cells_named
        cells-named w e =
            ap (λ (v : NamedColumns). cells_in (table_of (columns_of q) rows) v numbers' (3 + 2 * length (parts q).measures) r.matches) e ∙ cells_are q rows before after (promised.demands (inl z)) z accepted w

        report-is : (w : NamedColumns) → named_in state ≡ w → depot_report w q rows before ≡ record { answer = r.answer; rows = table_of (columns_of q) rows; matches = reported_in q after }
        unfolding depot_report
        report-is w e = ap (λ (m : Memory). record { answer = m.result.answer; rows = table_of (columns_of q) rows; matches = reported_in q m }) (sym (parted w e).whole)

        few : (w : NamedColumns) → named_in state ≡ w → length (depot_report w q rows before).matches ≤ 4096
        few w e = rw (report-is w e) (few_matches q rows before after (promised.demands (inl z)) z accepted)

        cells_of : (w : NamedColumns) → named_in state ≡ w → cells_named state q rows numbers' r.matches ≡ map (match_cell w (depot_report w q rows before).rows) (depot_report w q rows before).matches
        cells_of w e = rw (report-is w e) (cells-named w e)

        pub call-counted : (state' : List ℕ) → state' ≡ state_up state (cells_named state q rows numbers' r.matches) → Calls input (record { memory = after; state = state'; list = list })
        call-counted state' es =
            record {
              call = λ w rs list₀ rest s.
                  let c = partitions_are w rs list₀ rest state list s in
                  let n = named-are w rs list₀ rest state list s in
                  let a = is-answer w n in
                  let new = stands_counted w rs list₀ rest state list s (depot_report w q rows before) (omega (arith, c)) (a ∙ z) (few w n) in
                  let s₁ : state' ≡ state_up state (map (match_cell w (depot_report w q rows before).rows) (depot_report w q rows before).matches) = es ∙ ap (state_up state) (cells_of w n) in
                  record {
                    further = λ g. absurd (omega (arith, c));
                    unlisted = λ g d g'. absurd (d (a ∙ z));
                    numbered = λ g h. ((parted w n).whole, rw s₁ new);
                  };
            }

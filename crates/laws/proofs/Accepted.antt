-- What is known of an accepted search: none of the tests for 1 to 12 and 14 is true, so the pattern
-- has a tree, P is 1 to 256, at most three repetitions are nested, the rows are whole and at most
-- 4,096, and the notes and the trail are long enough. Everything that an implementation may rely on
-- follows from these.
use mathlib.Core.Path.{◌≡◌, refl, sym, ◌∙◌}
use mathlib.Core.Bool.{Bool, true, false, not, true≢false}
use mathlib.Core.List.{List, [], ◌∷◌, ◌++◌}
use mathlib.Core.Option.{Option, none, some}
use Prim.Native.Nat.{ℕ, ◌%◌, ◌≤◌, ◌*◌}
use lib.Dec.{ltb, eqb}
use lib.IntN.{ℤ}
use lib.ListN.{length, get_or}
use borrow.Author.Tests.{ltb-false, eqb-true, eqb-false}
use Rattle.rules.specs.Basics.{pick, every}
use Rattle.rules.specs.Rows.{table_of}
use Rattle.rules.specs.Query.{cut, misplaced, unfit, doubled, columns_of, text_of}
use Rattle.rules.specs.Language.{Tree, pattern, loop_nesting}
use Rattle.rules.specs.Places.{unroll, places, places_of, factor_of}
use Rattle.rules.specs.Walk.{pairs}
use Rattle.rules.specs.Report.{bytes_for}
use Rattle.rules.specs.Answers.{places_of_tree, task_of, too_deep, tree_in, no_tree, P, too_many, foreign, bad_rows, Buffers, pairs_of, short_notes, short_trail, end_answer, Test, first_of, refuses, query_tests, refusal, answer_by, walk_within, answer_within, walk_of, answer_of, nested_loops, F}
use Rattle.laws.proofs.Level.{or-false}
use Rattle.laws.proofs.Stops.{tree-there}
use Rattle.laws.proofs.FirstTrue.{end-accepted, all_refuse, first-refuses, none_true}

-- the input is accepted: its answer is none that refuses, within an allowance and without one
abbrev pub AcceptedWithin : Option ℕ → List ℕ → List ℤ → Buffers → Type 0
AcceptedWithin a q rows lent = refuses (answer_within a q rows lent) ≡ false

abbrev pub Accepted : List ℕ → List ℤ → Buffers → Type 0
Accepted q rows lent = refuses (answer_of q rows lent) ≡ false

-- what holds of an accepted input
pub record Granted (q : List ℕ) (rows : List ℤ) (lent : Buffers) : Type 0 where
  pub whole : cut q ≡ false
  pub ordered : misplaced q ≡ false
  pub fitting : unfit q ≡ false
  pub shallow : too_deep q ≡ false
  pub tree : Tree pattern
  pub has_tree : tree_in q ≡ some tree
  pub few_nested : loop_nesting tree ≤ 3
  pub few : places_of tree ≤ 256
  pub single : doubled q ≡ false
  pub known : foreign q ≡ false
  pub rows_whole : length rows % columns_of q ≡ 0
  pub rows_few : (table_of (columns_of q) rows).n ≤ 4096
  pub notes_long : bytes_for (pairs (places_of tree * factor_of tree) (table_of (columns_of q) rows).n) ≤ length lent.notes
  pub trail_long : pairs (places_of tree * factor_of tree) (table_of (columns_of q) rows).n ≤ length lent.trail

-- the tests that ask the query alone all stand for refusals
pub query_tests-refuse : (q : List ℕ) → all_refuse (query_tests q) ≡ true
unfolding all_refuse every refuses query_tests
query_tests-refuse q = refl

pub tree-of : (t : Option (Tree pattern)) → no_tree t ≡ false → (p : Tree pattern) × (t ≡ some p)
unfolding no_tree
tree-of none e = absurd (true≢false e)
tree-of (some p) e = (p, refl)

not-false_is : (b : Bool) → not b ≡ false → b ≡ true
not-false_is true e = refl
not-false_is false e = absurd (true≢false e)

module _ (q : List ℕ) (rows : List ℤ) (lent : Buffers) where
  -- the tests for answers 1 to 12 and 14
  abbrev refusals : List Test
  refusals = query_tests q ++ ((10, bad_rows q rows) ∷ (11, short_notes q rows lent) ∷ (12, short_trail q rows lent) ∷ [])

  all_refuse_lem : all_refuse refusals ≡ true
  unfolding all_refuse every refuses query_tests
  all_refuse_lem = refl

  refused-in : (r a : ℕ) → ((r ≡ 0 → ⊥) → refuses r ≡ true) → refuses (pick (eqb r 0) a r) ≡ false → r ≡ 0
  refused-in r a h e = go (eqb r 0) refl e
    where
      go : (t : Bool) → eqb r 0 ≡ t → refuses (pick t a r) ≡ false → r ≡ 0
      go true d e' = eqb-true r 0 d
      go false d e' = absurd (true≢false (sym (h (eqb-false r 0 d)) ∙ e'))

  -- an accepted input is not refused, whatever the allowance; and its answer is that of the
  -- search's end
  pub unrefused : (a : Option ℕ) → AcceptedWithin a q rows lent → refusal q rows lent ≡ 0
  unfolding answer_within answer_by refusal query_tests
  unrefused a ok = refused-in (first_of refusals) (end_answer (walk_within a q rows lent).end) (λ d. first-refuses refusals all_refuse_lem d) ok

  pub answer_within_lem : (a : Option ℕ) → refusal q rows lent ≡ 0 → answer_within a q rows lent ≡ end_answer (walk_within a q rows lent).end
  unfolding answer_within answer_by
  answer_within_lem a ok = rw ok

  pub accepted-within : (a : Option ℕ) → refusal q rows lent ≡ 0 → AcceptedWithin a q rows lent
  accepted-within a ok = rw (answer_within_lem a ok) (end-accepted (walk_within a q rows lent).end)

  -- no test is true: those for answers 1 to 5, 14, 6 to 12, in this order
  pub granted_when : refusal q rows lent ≡ 0 → Granted q rows lent
  unfolding refusal query_tests nested_loops too_many P F bad_rows short_notes short_trail pairs_of
  granted_when ok =
      let no : (i : ℕ) → (get_or refusals i (0, false)).1 ≡ false = none_true refusals all_refuse_lem ok in
      let t = tree-of (tree_in q) (tree-there (text_of q) (no 4) (no 5)) in
      let r = or-false _ _ (no 10) in
      let z6 : nested_loops (tree_in q) ≡ false = no 6 in
      let z7 : too_many (tree_in q) ≡ false = no 7 in
      let z11 : ltb (length lent.notes) (bytes_for (pairs (P (tree_in q) * F (tree_in q)) (table_of (columns_of q) rows).n)) ≡ false = no 11 in
      let z12 : ltb (length lent.trail) (pairs (P (tree_in q) * F (tree_in q)) (table_of (columns_of q) rows).n) ≡ false = no 12 in
      record {
        whole = no 0;
        ordered = no 1;
        fitting = no 2;
        shallow = no 3;
        tree = t.0;
        has_tree = t.1;
        few_nested = ltb-false _ _ (rw t.1 at z6);
        few = ltb-false _ _ (rw t.1 at z7);
        single = no 8;
        known = no 9;
        rows_whole = eqb-true _ _ (not-false_is _ r.0);
        rows_few = ltb-false _ _ r.1;
        notes_long = ltb-false _ _ (rw t.1 at z11);
        trail_long = ltb-false _ _ (rw t.1 at z12);
      }

  -- and of document 01's search
  module _ (ok : Accepted q rows lent) where
    pub none-refused : refusal q rows lent ≡ 0
    unfolding answer_of
    none-refused = unrefused none ok

    pub answer_is : answer_of q rows lent ≡ end_answer (walk_of q rows lent).end
    unfolding answer_of walk_of
    answer_is = answer_within_lem none none-refused

    pub granted : Granted q rows lent
    granted = granted_when none-refused

-- the places of the search are those of the tree
pub places_are : (q : List ℕ) (rows : List ℤ) (p : Tree pattern) → tree_in q ≡ some p → (task_of q rows).places ≡ places (unroll p)
unfolding task_of places_of_tree
places_are q rows p e = rw e

-- What the sweep asks, from a query that is prepared: the table stands for the query's search.
use mathlib.Core.Path.{◌≡◌, ap, ap₂, sym, ◌∙◌}
use mathlib.Core.Bool.{Bool}
use mathlib.Core.List.{List}
use mathlib.Core.Option.{some}
use Prim.Native.Nat.{ℕ, suc, ◌+◌, ◌-◌, ◌*◌, ◌/◌, ◌≤◌, ◌<◌}
use native.Mathlib.Nat.{mul-le-mul, mul-div_cancel}
use native.Mathlib.Numerals.{add-one}
use native.Mathlib.Omega.{arith}
use lib.IntN.{ℤ}
use lib.ListN.{length}
use Rattle.rules.specs.Rows.{Table, Condition, table_of, holds}
use Rattle.rules.specs.Query.{Measure, text_of, parts}
use Rattle.rules.specs.Places.{Place, p_letter, p_caret, p_dollar, p_fork, p_end, unroll, places}
use Rattle.rules.specs.Walk.{pairs}
use Rattle.rules.specs.Search as R
use Rattle.rules.specs.Search.{Match, walk_search, seek}
use Rattle.rules.specs.Report.{lent_room, fits, numbers_of, labels_of}
use Rattle.rules.specs.Answers.{tree_in, letter_holds, skip_of, task_of, walked_on}
use Rattle.rules.specs.Working.{thinned}
use Rattle.laws.proofs.Accepted.{places_are}
use Rattle.laws.proofs.Bounds.{Bounds, Lettered, written-bounds, written-letters}
use Rattle.laws.proofs.Counting.{places-counted}
use Rattle.laws.proofs.Distinct.{walk-thin}
use Rattle.laws.proofs.Grammar.{tree-exactly}
use Rattle.laws.proofs.PatternWalk.{search_kept}
use Rattle.laws.proofs.SameLetters.{search_agrees}
use Rattle.laws.proofs.ThinPlaces.{Leads, thinned-spelt}
use Rattle.laws.proofs.Rank.{rank}
use Rattle.table.specs.Table.{place_at, places_in}
use Rattle.table.specs.Tests.{holds_in, condition_in, test_at}
use Rattle.table.specs.Measures.{measures_in}
use Rattle.pairs.specs.Layout as W
use Rattle.pairs.specs.Layout.{layout_of}
use Rattle.matches.specs.Asked as S
use Rattle.matches.specs.Asked.{asked_of}
use Rattle.matches.specs.Found.{Searches}
use Rattle.sweep.specs.Searched.{Measures}
use Rattle.skips.specs.Skips.{skip_in}
use Rattle.skips.specs.declared.Skip.{Skip}
use Rattle.matches.specs.declared.Task.{Task}
use Rattle.prepared.specs.Ready.{Ready}
use Rattle.table_room.specs.Words.{measures_at, tests_at}
use Rattle.prepared.specs.declared.Prepared.{Prepared}
use Rattle.starting.specs.declared.Terms.{Terms}
use Rattle.starting.specs.Starts.{TaskFor, Fed, Walks}
use Rattle.places.proofs.Legal.{placed_leads, placed_falls, placed_bound}
use Rattle.starting.proofs.Thin.{numbers-thin, labels-of_thin}

-- the walk's word for where a place leads is the rules'
same-leads : (P : ℕ) (p : Place) → Leads P p → W.Leads P p
same-leads P (p_letter c k) l = l
same-leads P (p_caret k) l = l
same-leads P (p_dollar k) l = l
same-leads P (p_fork ks) l = l
same-leads P p_end l = l

-- the task of a prepared query, by its numbers
abbrev task_by : Prepared → Terms → Task → Task
task_by p terms t =
    record {
      size = record { rows = terms.rows; columns = p.columns; places = p.places; tests = tests_at p.places; allowance = terms.allowance; more = terms.more };
      pairs = p.places * (terms.largest + 1);
      measures = measures_at p.places;
      count = p.count;
      skip = t.skip;
    }

abbrev mk : ℕ → ℕ → ℕ → ℕ → ℕ → Bool → ℕ → ℕ → ℕ → Skip → Task
mk rows columns places tests allowance more pairs measures count skip = record { size = record { rows = rows; columns = columns; places = places; tests = tests; allowance = allowance; more = more }; pairs = pairs; measures = measures; count = count; skip = skip }

task-is : (p : Prepared) (terms : Terms) (t : Task) → TaskFor p terms t → t ≡ task_by p terms t
task-is p terms t f =
    let e : mk t.size.rows t.size.columns t.size.places t.size.tests t.size.allowance t.size.more t.pairs t.measures t.count t.skip ≡ task_by p terms t = rw (f.rows, f.columns, f.places, f.tests, f.allowance, f.more, f.pairs_are, f.measures, f.count) in e

module _ (q T : List ℕ) (p : Prepared) (a : Ready q T p) (terms : Terms) (rows : List ℤ) (notes trail : List ℕ) (f : Fed p terms rows notes trail) where
  abbrev n : ℕ
  n = terms.rows

  -- on what terms the definition searches
  abbrev on : ℕ → R.Terms
  on m = record { largest = m; more = terms.more; allowance = some terms.allowance }

  abbrev holds_at : ℕ → ℕ → Bool
  holds_at = holds_in T (tests_at p.places) p.columns rows

  abbrev L : W.Layout
  L = W.layout T p.places terms.allowance

  the_lettered : Lettered a.tree
  unfolding tree_in
  the_lettered = written-letters ((tree-exactly (text_of q) a.tree).0 a.has_tree)

  the_bounds : Bounds a.tree
  unfolding tree_in
  the_bounds = written-bounds ((tree-exactly (text_of q) a.tree).0 a.has_tree)

  -- ---- the task

  the_table : table_of p.columns rows ≡ (task_of q rows).table
  unfolding task_of
  the_table = ap (λ (c : ℕ). table_of c rows) a.columns_are

  the_rows : n ≡ (task_of q rows).table.n
  unfolding table_of
  the_rows =
      let z : 0 < p.columns = a.some_columns in
      sym (ap (λ (k : ℕ). k / p.columns) f.all ∙ mul-div_cancel n z) ∙ ap (λ (t : Table). t.n) the_table

  the_measures : measures_in T (measures_at p.places) p.count ≡ (task_of q rows).measures
  unfolding task_of
  the_measures = a.measures_are

  the_skip : skip_of p.skip p.target ≡ (task_of q rows).skip
  unfolding task_of
  the_skip = ap₂ (λ (m c : ℕ). skip_of m c) a.skip_is a.target_is

  the_places : (task_of q rows).places ≡ places (unroll a.tree)
  the_places = places_are q rows a.tree a.has_tree

  -- letters by the table are letters by the query
  letters-agree : (c : ℕ) → 65 ≤ c → c ≤ 90 → (i : ℕ) → holds_at c i ≡ letter_holds (task_of q rows) c i
  unfolding holds_in letter_holds task_of
  letters-agree c lo hi i =
      let l : c - 65 < 26 = omega arith in
      let e : 65 + (c - 65) ≡ c = omega arith in
      let y : condition_in T p.columns (test_at (tests_at p.places) (c - 65)) ≡ (parts q).condition c = a.letters (c - 65) l ∙ ap (λ (k : ℕ). (parts q).condition k) e in
      ap₂ (λ (t : Table) (c : Condition). holds t i c) the_table y

  -- ---- what the starts ask

  product_le : (x y z w : ℕ) → x ≤ z → y ≤ w → x * y ≤ z * w
  product_le x y z w h k = mul-le-mul h k

  most-rows : n ≤ 4096
  most-rows = let m = f.most in let l = f.few in omega arith

  all_pairs : pairs p.places terms.largest < W.most_pairs
  all_pairs = let h : p.places * suc terms.largest ≤ 2048 * 4097 = product_le p.places (suc terms.largest) 2048 4097 a.few (let m = f.most in omega arith) in omega arith

  pub more-pairs : pairs p.places n ≤ pairs p.places terms.largest
  more-pairs = product_le p.places (suc n) p.places (suc terms.largest) (omega arith) (let l = f.few in omega arith)

  few_pairs : pairs p.places n < W.most_pairs
  few_pairs = let m = more-pairs in let l = all_pairs in omega arith

  legal : W.Legal L holds_at n
  unfolding W.graph_of
  legal =
      record {
        sized = a.sized;
        leads = λ x h. same-leads p.places (place_at T x) (placed_leads T p.places a.tree a.places_are a.placed the_bounds x h);
        ρ = rank (unroll a.tree) n;
        falls = placed_falls T p.places a.tree a.places_are a.placed the_bounds holds_at n;
        bound = placed_bound T p.places a.tree a.places_are a.placed the_bounds holds_at n;
        small = few_pairs;
        rows = most-rows;
      }

  module _ (t : Task) (h : TaskFor p terms t) where
    searches_by : Searches T rows (task_by p terms t) notes trail
    searches_by =
        let e = f.all in
        record {
          letters = (record { tests_there = a.tests; some = a.some_columns; few = a.most_columns; most = most-rows; all = f.all }, a.pointed);
          measured = record { few = a.count_few; few_rows = most-rows; there = omega arith; measurable = a.measurable };
          legal = legal;
          noted = let m = more-pairs in let b = f.noted in omega arith;
          trailed = let m = more-pairs in let b = f.trailed in omega arith;
        }

    pub may_search : Searches T rows t notes trail
    may_search = rw (task-is p terms t h) searches_by

    measures_by : Measures T (task_by p terms t) notes trail
    measures_by =
        let e : p.places * (terms.largest + 1) ≡ pairs p.places terms.largest = ap (λ (k : ℕ). p.places * k) (add-one terms.largest) in
        record { more = rw e more-pairs; small = rw e all_pairs; noted = rw e f.noted; trailed = rw e f.trailed }

    pub may_measure : Measures T t notes trail
    may_measure = rw (task-is p terms t h) measures_by

    -- ---- and what they come to

    found-by : (nums labs : ℕ) → S.search_of (asked_of T rows (task_by p terms t)) nums labs ≡ walked_on (on (task_of q rows).table.n) (task_of q rows) nums labs
    unfolding S.search_of walked_on
    found-by nums labs =
        rw a.placed
        (search_agrees holds_at (letter_holds (task_of q rows)) letters-agree n (thinned (places (unroll a.tree))) (thinned-spelt a.tree the_lettered) (on n) (skip_in t.skip) (fits (lent_room nums labs (measures_in T (measures_at p.places) p.count)))
        ∙ walk-thin (unroll a.tree) (letter_holds (task_of q rows)) n (on n) (omega arith) (skip_in t.skip) (fits (lent_room nums labs (measures_in T (measures_at p.places) p.count)))
        ∙ same-search (places (unroll a.tree)) (task_of q rows).places n (task_of q rows).table.n (skip_in t.skip) (task_of q rows).skip (measures_in T (measures_at p.places) p.count) (task_of q rows).measures (sym the_places) the_rows (h.skip ∙ the_skip) the_measures)
      where
        same-search : (pl pl' : List Place) (m m' : ℕ) (o o' : R.Skip) (x x' : List Measure) → pl ≡ pl' → m ≡ m' → o ≡ o' → x ≡ x'
            → walk_search (on m) (seek (letter_holds (task_of q rows)) m pl o (fits (lent_room nums labs x))) ≡ walk_search (on m') (seek (letter_holds (task_of q rows)) m' pl' o' (fits (lent_room nums labs x')))
        same-search pl pl' m m' o o' x x' e f h i = rw (e, f, h, i)

    pub found : (nums labs : ℕ) → S.search_of (asked_of T rows t) nums labs ≡ walked_on (on (task_of q rows).table.n) (task_of q rows) nums labs
    found nums labs = rw (task-is p terms t h) (found-by nums labs)

    pub numbered : (k : ℕ) (xs : List Match)
        → numbers_of (table_of t.size.columns rows) (measures_in T t.measures t.count) (places_in T t.size.places) k xs ≡ numbers_of (task_of q rows).table (task_of q rows).measures (task_of q rows).places k xs
    numbered k xs =
        rw (h.columns, h.measures, h.count, h.places, a.placed, the_table, the_measures, the_places)
        (numbers-thin (task_of q rows).table (task_of q rows).measures (places (unroll a.tree)) k xs)

    pub labelled : (xs : List Match) → labels_of (places_in T t.size.places) xs ≡ labels_of (task_of q rows).places xs
    labelled xs = rw (h.places, a.placed, the_places) (labels-of_thin (places (unroll a.tree)) xs)

    pub counted : (nums labs : ℕ) → W.N (layout_of T t.size) t.size.rows ≡ length (walked_on (on (task_of q rows).table.n) (task_of q rows) nums labs).state.failed
    unfolding walked_on
    counted nums labs =
        ap₂ (λ (x y : ℕ). pairs x y) (h.places ∙ a.places_are ∙ sym (places-counted a.tree the_bounds) ∙ ap length (sym the_places)) (h.rows ∙ the_rows)
        ∙ sym (rw the_places (search_kept (unroll a.tree) (letter_holds (task_of q rows)) (task_of q rows).table.n (on (task_of q rows).table.n) (omega arith) (task_of q rows).skip (fits (lent_room nums labs (task_of q rows).measures))))

-- as the code asks it
pub walk-searches : (T : List ℕ) (p : Prepared) (terms : Terms) (rows : List ℤ) (notes trail : List ℕ) → Walks T p terms rows notes trail → (t : Task) → TaskFor p terms t → Searches T rows t notes trail × Measures T t notes trail
walk-searches T p terms rows notes trail w t h =
    (may_search w.query T p w.ready terms rows notes trail w.fed t h, may_measure w.query T p w.ready terms rows notes trail w.fed t h)

pub walk-terms : (T : List ℕ) (p : Prepared) (terms : Terms) (rows : List ℤ) (notes trail : List ℕ) → Walks T p terms rows notes trail → (p.places ≤ 2048) × (terms.largest ≤ 4096)
walk-terms T p terms rows notes trail w = (w.ready.few, w.fed.most)

-- the pairs of the task
pub task-pairs : (places largest : ℕ) → places ≤ 2048 → largest ≤ 4096 → places * (largest + 1) ≤ 2048 * 4097
task-pairs places largest a b = mul-le-mul a (let z : largest + 1 ≤ 4097 = omega arith in z)

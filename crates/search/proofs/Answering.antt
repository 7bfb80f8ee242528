-- The search's answers: one law for each way through `run`. The answer is that of the first of the
-- rules' tests that is true.
use mathlib.Core.Path.{◌≡◌, refl, ap, ap₂, sym, ◌∙◌}
use mathlib.Core.Bool.{Bool, true, false, not, true≢false}
use mathlib.Core.List.{List, [], ◌∷◌, ◌++◌}
use mathlib.Core.Option.{Option, none, some}
use Prim.Native.Nat.{ℕ, suc, ◌+◌, ◌*◌, ◌/◌, ◌%◌, ◌≤◌}
use native.Mathlib.Nat.{mul-le-mul, le_trans, div-add-mod'}
use native.Mathlib.Decide.{ℕ_discrete}
use native.Mathlib.Numerals.{add-one}
use native.Mathlib.Omega.{arith}
use lib.Dec.{eqb, ltb}
use lib.IntN.{ℤ}
use lib.ListN.{length}
use mir.Syntax.{w64}
use mir.Val.{Fits}
use borrow.Author.Tests.{le-ltb, ltb-false, eqb-true, ne_eqb, not-false}
use Rattle.std.specs.Prelude.{Result, Ok, Err, Some}
use Rattle.refusals.specs.Refusals.{answer_of, offset_of}
use Rattle.refusals.specs.declared.Refusal.{Refusal}
use Rattle.refusals.specs.declared.Refusal.TheVariants.{BadRows}
use Rattle.refusals.proofs.Numbers.{some_answer}
use Rattle.rules.specs.Basics.{pick, every}
use Rattle.rules.specs.Rows.{table_of}
use Rattle.rules.specs.Query.{columns_of, text_of, parts}
use Rattle.rules.specs.Report.{bytes_for}
use Rattle.rules.specs.Language.{Tree, pattern}
use Rattle.rules.specs.Answers as A
use Rattle.rules.specs.Answers.{tree_in, P, F, bad_rows, Buffers, Memory, task_of, pairs_of, short_notes, short_trail, end_answer, Test, first_of, refuses, offset_at, query_tests, answer_by, answer_within, walk_within, report_within, report_of, refused, accepted, search_within}
use Rattle.rules.specs.Demands.{Accepts}
use Rattle.laws.proofs.Accepted.{query_tests-refuse}
use Rattle.laws.proofs.Demands.{demands, allowing}
use Rattle.laws.proofs.FirstDemand.{result_answer, unrefused_by, demand1}
use Rattle.laws.proofs.Limits.{limits}
use Rattle.laws.proofs.FirstTrue.{end-accepted, all_refuse, first-refuses, first-before, first-after}
use Rattle.laws.proofs.Choice.{decided}
use Rattle.laws.proofs.Level.{or-false}
use Rattle.sizes.specs.Sizes.{bad_count, short_for}
use Rattle.reading.specs.Reading.{query_answer}
use Rattle.outcome.specs.declared.Outcome.{Outcome}
use Rattle.outcome.specs.Results.{lent, memory, refusal}
use Rattle.prepared.specs.Ready.{Ready, Given, PreparedAs}
use Rattle.prepared.specs.declared.Prepared.{Prepared}
use Rattle.prepared.proofs.Enough.{too_few}
use Rattle.starting.specs.Starts.{ended, Walks}
use Rattle.starting.specs.declared.Terms.{Terms}
use Rattle.search.specs.Promise.{Promised}
use Rattle.search.specs.Runs.{Runs, TermsFor}

-- ---- the promise is kept where result and buffers are the definition's

seen : (a : Option ℕ) (q : List ℕ) (rows : List ℤ) (before : Buffers) (after : Memory) → after ≡ search_within a q rows before → after.result.answer ≡ answer_within a q rows before
seen a q rows before after e = ap (λ (m : Memory). m.result.answer) e ∙ result_answer a q rows before

accepted-by : (a : Option ℕ) (q : List ℕ) (rows : List ℤ) (before : Buffers) (n : ℕ) → n ≡ answer_within a q rows before → Accepts n → A.refusal q rows before ≡ 0
accepted-by a q rows before n e = rw e (unrefused_by a q rows before)

pub promised : (a : Option ℕ) (q : List ℕ) (rows : List ℤ) (before : Buffers) (after : Memory) → after ≡ search_within a q rows before → Promised a q rows before after
promised a q rows before after e =
    let ok : Accepts after.result.answer → A.refusal q rows before ≡ 0 = accepted-by a q rows before after.result.answer (seen a q rows before after e) in
    record {
      whole = e;
      demand1 = demand1 a q rows before after e;
      demands = λ h. demands a q rows before after e (ok h);
      allowing = λ h. allowing q rows before (ok h);
    }

-- ---- the answers

module _ (al : ℕ) (q : List ℕ) (rows : List ℤ) (notes trail : List ℕ) (numbers : List ℤ) (labels : List ℕ) where
  abbrev before : Buffers
  before = lent notes trail numbers labels

  -- a refusal is the answer
  refused-by : (n : ℕ) → A.refusal q rows before ≡ n → refuses n ≡ true → answer_within (some al) q rows before ≡ n
  unfolding answer_within answer_by refuses
  refused-by n e t = rw (e, ne_eqb n 0 (λ z. true≢false (sym t ∙ ap refuses z)))

  -- it is given with its offset and zeros, and nothing is changed
  refuse : (n k : ℕ) → A.refusal q rows before ≡ n → refuses n ≡ true → k ≡ offset_at (text_of q) n → (r : Outcome) → r ≡ refusal n k → Promised (some al) q rows before (memory r notes trail numbers labels)
  unfolding search_within refused
  refuse n k e t o r b =
      let a = refused-by n e t in
      promised (some al) q rows before (memory r notes trail numbers labels) (rw (b, a, t, o))

  abbrev rest : List Test
  rest = (10, bad_rows q rows) ∷ (11, short_notes q rows before) ∷ (12, short_trail q rows before) ∷ []

  the_refusal_before : (query_answer q ≡ 0 → ⊥) → A.refusal q rows before ≡ query_answer q
  unfolding A.refusal query_answer
  the_refusal_before d = first-before (query_tests q) rest d

  the_refusal_after : query_answer q ≡ 0 → A.refusal q rows before ≡ first_of rest
  unfolding A.refusal query_answer
  the_refusal_after e = first-after (query_tests q) rest (query_tests-refuse q) e

  -- answers 1 to 9 and 14
  pub query_refused : (a k : ℕ) → a ≡ query_answer q → k ≡ offset_at (text_of q) a → (a ≡ 0 → ⊥) → (r : Outcome) → r ≡ refusal a k
      → Promised (some al) q rows before (memory r notes trail numbers labels)
  unfolding query_answer
  query_refused a k e o d r b =
      let w : refuses a ≡ true = ap refuses e ∙ first-refuses (query_tests q) (query_tests-refuse q) (λ z. d (e ∙ z)) in
      refuse a k (the_refusal_before (λ z. d (e ∙ z)) ∙ sym e) w o r b

  module _ (z : query_answer q ≡ 0) where
    -- answer 10
    pub rows-refused : bad_rows q rows ≡ true → (r : Outcome) → r ≡ refusal 10 0 → Promised (some al) q rows before (memory r notes trail numbers labels)
    unfolding first_of refuses offset_at
    rows-refused t r b = refuse 10 0 (the_refusal_after z ∙ rw t) refl refl r b

    -- answers 11 and 12
    the_room : bad_rows q rows ≡ false → A.refusal q rows before ≡ pick (short_notes q rows before) 11 (pick (short_trail q rows before) 12 0)
    unfolding first_of
    the_room f = the_refusal_after z ∙ rw f

    pub room-refused : bad_rows q rows ≡ false → (s : ℕ) → s ≡ pick (short_notes q rows before) 11 (pick (short_trail q rows before) 12 0) → (s ≡ 0 → ⊥) → (r : Outcome) → r ≡ refusal s 0
        → Promised (some al) q rows before (memory r notes trail numbers labels)
    unfolding refuses offset_at
    room-refused f s e d r b = go (short_notes q rows before) (short_trail q rows before) refl refl
      where
        go : (u v : Bool) → short_notes q rows before ≡ u → short_trail q rows before ≡ v → Promised (some al) q rows before (memory r notes trail numbers labels)
        go true v eu ev = refuse 11 0 (the_room f ∙ rw eu) refl refl r (b ∙ ap (λ (k : ℕ). refusal k 0) (e ∙ rw eu))
        go false true eu ev = refuse 12 0 (the_room f ∙ rw (eu, ev)) refl refl r (b ∙ ap (λ (k : ℕ). refusal k 0) (e ∙ rw (eu, ev)))
        go false false eu ev = absurd (d (e ∙ rw (eu, ev)))

    -- done, stopped or halted
    answer_ended : A.refusal q rows before ≡ 0 → answer_within (some al) q rows before ≡ end_answer (walk_within (some al) q rows before).end
    unfolding answer_within answer_by
    answer_ended e = rw e

    pub search_ended : bad_rows q rows ≡ false → short_notes q rows before ≡ false → short_trail q rows before ≡ false → (m : Memory) → m ≡ ended al q rows before → Promised (some al) q rows before m
    unfolding search_within ended report_within
    search_ended f g h m e =
        let w = walk_within (some al) q rows before in
        let z : A.refusal q rows before ≡ 0 = the_room f ∙ rw (g, h) in
        let x : answer_within (some al) q rows before ≡ end_answer w.end = answer_ended z in
        let y : refuses (answer_within (some al) q rows before) ≡ false = ap refuses x ∙ end-accepted w.end in
        promised (some al) q rows before m (e ∙ sym (rw y (ap (λ (n : ℕ). accepted (report_of n (task_of q rows) before w) w.state before) x)))

-- ---- the terms of a run

-- so many entries that make good rows of so many columns, and their pairs with up to 2,048 places
-- of the table
module _ (columns places entries : ℕ) (f : bad_count entries columns ≡ false) where
  few_rows : (entries % columns ≡ 0) × (entries / columns ≤ 4096)
  unfolding bad_count
  few_rows =
      let g = or-false (not (eqb (entries % columns) 0)) (ltb 4096 (entries / columns)) f in
      (eqb-true (entries % columns) 0 (not-false (eqb (entries % columns) 0) g.0), ltb-false 4096 (entries / columns) g.1)

  pairs-most : places ≤ 2048 → places * (entries / columns + 1) ≤ 8390656
  pairs-most few =
      let k : places * (entries / columns + 1) ≤ 2048 * 4097 = mul-le-mul few (let g : entries / columns + 1 ≤ 4097 = omega (arith, few_rows.1) in g) in
      omega arith

module _ (p : Prepared) (entries notes trail al : ℕ) where
  pub rows_refuse : (e : Refusal) → (bad_count entries p.columns ≡ true) × (e ≡ BadRows) → TermsFor p entries notes trail al (Err e)
  rows_refuse e h = rw (h.1) (record { answer = rw (h.0) refl; offset = refl; terms = tt })

  module _ (n : ℕ) (h : (bad_count entries p.columns ≡ false) × (n ≡ entries / p.columns)) where
    pub rows_fit : Fits w64 (n + 1)
    rows_fit = record { fits = omega (arith, h.1, (few_rows p.columns p.places entries h.0).1) }

    pub pairs_few : p.places ≤ 2048 → p.places * (n + 1) ≤ 8390656
    pairs_few few = rw (h.1) (pairs-most p.columns p.places entries h.0 few)

    pub pairs_fit : p.places ≤ 2048 → Fits w64 (p.places * (n + 1))
    pairs_fit few = record { fits = omega (arith, pairs_few few) }

    pub room_refuses : (e : Refusal) → answer_of e ≡ short_for (p.places * (n + 1)) notes trail → offset_of e ≡ 0 → TermsFor p entries notes trail al (Err e)
    room_refuses e a o = record { answer = a ∙ rw (h.0, h.1) refl; offset = o; terms = tt }

    pub terms_told : 0 ≡ short_for (p.places * (n + 1)) notes trail → TermsFor p entries notes trail al (Ok (record { rows = n; largest = n; allowance = al; more = false }))
    terms_told e = record { answer = e ∙ rw (h.0, h.1) refl; offset = refl; terms = rw (h.1) refl }

-- what the proof of `terms_for` cites
pub ruleset admits = (rows_refuse, rows_fit, pairs_few, pairs_fit, room_refuses, terms_told)

-- ---- what a prepared query gives

module _ (al : ℕ) (T : List ℕ) (rows : List ℤ) (notes trail : List ℕ) (numbers : List ℤ) (labels : List ℕ) where
  abbrev buffers : Buffers
  buffers = lent notes trail numbers labels

  -- the query has an answer of its own
  pub own_refuses : (e : Refusal) (o : Outcome) → o ≡ refusal (answer_of e) (offset_of e)
      → (q : List ℕ) → Given q T (Err e) → Promised (some al) q rows buffers (memory o notes trail numbers labels)
  own_refuses e o b q g = query_refused al q rows notes trail numbers labels (answer_of e) (offset_of e) g.told.answer g.told.offset (some_answer e) o b

  module _ (p : Prepared) where
    abbrev n : ℕ
    n = length rows / p.columns

    module _ (q : List ℕ) (g : Ready q T p) where
      the_columns : p.columns ≡ columns_of q
      unfolding parts
      the_columns = g.columns_are

      the_rows : bad_rows q rows ≡ bad_count (length rows) p.columns
      unfolding bad_rows bad_count table_of
      the_rows = rw (← the_columns) refl

      the_places : p.places ≡ P (tree_in q) * F (tree_in q)
      unfolding P F
      the_places = g.places_are ∙ ap (λ (t : Option (Tree pattern)). P t * F t) (sym g.has_tree)

      the_pairs : pairs_of q rows ≡ p.places * (n + 1)
      unfolding pairs_of table_of
      the_pairs = rw (← the_columns, ← the_places, add-one)

      -- answers 11 and 12 by numbers
      the_short : short_for (p.places * (n + 1)) (length notes) (length trail) ≡ pick (short_notes q rows buffers) 11 (pick (short_trail q rows buffers) 12 0)
      unfolding short_for short_notes short_trail
      the_short = rw (the_pairs) refl

    -- answers 10 to 12
    pub run_refuses : (e : Refusal) → TermsFor p (length rows) (length notes) (length trail) al (Err e) → (o : Outcome) → o ≡ refusal (answer_of e) (offset_of e)
        → (q : List ℕ) → Given q T (Ok p) → Promised (some al) q rows buffers (memory o notes trail numbers labels)
    run_refuses e t o b q g =
        decided (bad_count (length rows) p.columns)
        (λ f. rows-refused al q rows notes trail numbers labels g.told.none (the_rows q g.told ∙ f) o
        (b ∙ ap₂ refusal (let a : answer_of e ≡ 10 = t.answer ∙ rw f refl in a) t.offset))
        (λ f. room-refused al q rows notes trail numbers labels g.told.none (the_rows q g.told ∙ f) (answer_of e)
        (t.answer ∙ rw f (the_short q g.told)) (some_answer e) o (b ∙ ap (refusal (answer_of e)) t.offset))

    module _ (t : Terms) (told : TermsFor p (length rows) (length notes) (length trail) al (Ok t)) where
      good-rows : bad_count (length rows) p.columns ≡ false
      good-rows = decided (bad_count (length rows) p.columns) (λ f. absurd (let y : ◌≡◌ {A = ℕ} 0 10 = told.answer ∙ rw f refl in omega arith)) (λ f. f)

      no-short : ◌≡◌ {A = ℕ} 0 (short_for (p.places * (n + 1)) (length notes) (length trail))
      no-short = told.answer ∙ rw good-rows refl

      both_long : (bytes_for (p.places * (n + 1)) ≤ length notes) × (p.places * (n + 1) ≤ length trail)
      unfolding short_for
      both_long = go (ltb (length notes) (bytes_for (p.places * (n + 1)))) (ltb (length trail) (p.places * (n + 1))) refl refl no-short
        where
          go : (u v : Bool) → ltb (length notes) (bytes_for (p.places * (n + 1))) ≡ u → ltb (length trail) (p.places * (n + 1)) ≡ v → ◌≡◌ {A = ℕ} 0 (pick u 11 (pick v 12 0))
              → (bytes_for (p.places * (n + 1)) ≤ length notes) × (p.places * (n + 1) ≤ length trail)
          go true v eu ev e = absurd (omega arith)
          go false true eu ev e = absurd (omega arith)
          go false false eu ev e = (ltb-false (length notes) (bytes_for (p.places * (n + 1))) eu, ltb-false (length trail) (p.places * (n + 1)) ev)

      long-enough : (q : List ℕ) → Ready q T p → (short_notes q rows buffers ≡ false) × (short_trail q rows buffers ≡ false)
      unfolding short_notes short_trail
      long-enough q g = (
        rw (the_pairs q g) (le-ltb (length notes) (bytes_for (p.places * (n + 1))) both_long.0),
        rw (the_pairs q g) (le-ltb (length trail) (p.places * (n + 1)) both_long.1),
      )

      -- the walk may begin
      pub run_walks : Runs T (Ok p) → Walks T p t rows notes trail
      unfolding bytes_for
      run_walks a =
          let s : n + 1 ≡ suc n = add-one n in
          let w = few_rows p.columns p.places (length rows) good-rows in
          let d : n * p.columns + length rows % p.columns ≡ length rows = div-add-mod' (length rows) p.columns in
          let f' : (p.places * suc n + 7) / 8 ≤ length notes = rw (← s) both_long.0 in
          let g' : p.places * suc n ≤ length trail = rw (← s) both_long.1 in
          rw told.terms (record {
            query = a.query;
            ready = a.given.told;
            whole = refl;
            no_more = refl;
            fed = record { most = w.1; few = omega arith; all = omega (arith, d, w.0); noted = omega (arith, f'); trailed = g' };
          })

      -- done, stopped or halted
      pub run_ends : (m : Memory) → ((q : List ℕ) → Ready q T p → m ≡ ended t.allowance q rows buffers) → (q : List ℕ) → Given q T (Ok p) → Promised (some al) q rows buffers m
      run_ends m e q g =
          let l = long-enough q g.told in
          search_ended al q rows notes trail numbers labels g.told.none (the_rows q g.told ∙ good-rows) l.0 l.1 m
          (e q g.told ∙ ap (λ (t : Terms). ended t.allowance q rows buffers) told.terms)

-- a prepared query has columns and few places
module _ (T : List ℕ) (p : Prepared) (a : Runs T (Ok p)) where
  pub some_column : 1 ≤ p.columns
  some_column = a.given.told.some_columns

  pub few_places : p.places ≤ 2048
  few_places = a.given.told.few

-- what the proof of `run` cites
pub ruleset runs = (some_column, few_places)

-- ---- prepared, then run

module _ (q T T' : List ℕ) (r : Result Prepared Refusal) (h : PreparedAs q T T' (Some r)) where
  pub may_run : Runs T' r
  may_run = record { query = q; given = h.told }

  pub has_run : (al : ℕ) (rows : List ℤ) (before : Buffers) (m : Memory) → ((q : List ℕ) → Given q T' r → Promised (some al) q rows before m) → Promised (some al) q rows before m
  has_run al rows b m e = e q h.told

pub ruleset tabled = (may_run, has_run, too_few)

-- ---- without a limit

module _ (q : List ℕ) (rows : List ℤ) (before : Buffers) where
  abbrev tests : List Test
  tests = query_tests q ++ ((10, bad_rows q rows) ∷ (11, short_notes q rows before) ∷ (12, short_trail q rows before) ∷ [])

  all_refuse_lem : all_refuse tests ≡ true
  unfolding all_refuse every refuses query_tests
  all_refuse_lem = refl

  -- a refusal does not ask for the allowance
  same-refusal : (a b : Option ℕ) → (A.refusal q rows before ≡ 0 → ⊥) → search_within a q rows before ≡ search_within b q rows before
  unfolding search_within answer_within answer_by A.refusal
  same-refusal a b d =
      let z : eqb (first_of tests) 0 ≡ false = ne_eqb (first_of tests) 0 d in
      let t : refuses (first_of tests) ≡ true = first-refuses tests all_refuse_lem d in
      rw (z, t)

  -- more steps than any search takes: the allowance changes nothing
  unpassed : (a : ℕ) → 17192452096 ≤ a → search_within (some a) q rows before ≡ search_within none q rows before
  unfolding A.search_of
  unpassed a l = elim (ℕ_discrete (A.refusal q rows before) 0) [
    | yes z ↦ (allowing q rows before z).unpassed a (le_trans (limits none q rows before z).few_steps l)
    | no d ↦ same-refusal (some a) none d
  ]

pub unlimited : (q : List ℕ) (rows : List ℤ) (before : Buffers) (m : Memory) → Promised (some 18446744073709551615) q rows before m → Promised none q rows before m
unlimited q rows before m h = promised none q rows before m (h.whole ∙ unpassed q rows before 18446744073709551615 (omega arith))

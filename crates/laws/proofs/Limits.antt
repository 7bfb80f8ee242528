-- What an implementation may rely on for every accepted search: P is 1 to 256, F at most 8, P times
-- F the length of the list of places, n at most 4,096, the pairs at most 8,390,656, the matches at
-- most n; what is written fits the lent buffers, so that every buffer keeps its length; the steps
-- fit 64 bits in every skip mode.
use mathlib.Core.Path.{◌≡◌, refl, ap, ap₂, sym, ◌∙◌}
use mathlib.Core.Bool.{Bool, true, false}
use mathlib.Core.List.{List, [], ◌∷◌}
use mathlib.Core.Option.{Option, none, some}
use Prim.Native.Nat.{ℕ, zero, suc, ◌+◌, ◌*◌, ◌≤◌}
use native.Mathlib.Nat.{mul-le-mul}
use native.Mathlib.Omega.{arith}
use lib.Dec.{ltb}
use lib.IntN.{ℤ}
use lib.ListN.{length, length-append, replicate}
use borrow.Author.Tests.{leb-true}
use Rattle.rules.specs.Rows.{Table, table_of}
use Rattle.rules.specs.Query.{Measure, columns_of, parts, text_of}
use Rattle.rules.specs.Places.{Place, unroll, places, places_of, factor_of}
use Rattle.rules.specs.Walk.{pairs, first_at, pair_ways, Kept, as_kept}
use Rattle.rules.specs.Search.{Match, Skip, Attempted, hit, miss, halts, Swept, Plan, labels, ended, no_start, below, on_answer, sweep, Terms, within, halting_of, plan_of, walk_at, walk_search, Standing, on_match, stand_at}
use Rattle.rules.specs.Report.{measure_numbers, match_numbers, numbers_of, labels_of, lent_room, fits, two_of, measured, notes_of}
use Rattle.rules.specs.Answers.{Task, task_of, walked_on, Buffers, walk_within, letter_holds, refusal, tree_in, P, F}
use Rattle.rules.specs.Language.{Tree, pattern, loop_nesting}
use Rattle.laws.proofs.Accepted.{granted_when, places_are}
use Rattle.laws.proofs.Counting.{places-counted}
use Rattle.laws.proofs.Level.{and-true}
use Rattle.laws.proofs.Noted.{length-notes}
use Rattle.laws.proofs.PatternWalk.{search_kept}
use Rattle.laws.proofs.Allowed.{search_each}
use Rattle.laws.proofs.Rank.{places-length, some-state}
use lib.Pow.{pow_mono}
use Rattle.laws.proofs.Bounds.{Bounds, written-bounds}
use Rattle.laws.proofs.Grammar.{tree-exactly}

-- ---- the matches are no more than the attempts

sweep-few : {S : Type 0} (att : ℕ → S → Attempted × S) (plan : Plan) (k i m l : ℕ) (st : S) → length (sweep att plan k (stand_at i m l) st).matches ≤ k
unfolding sweep
sweep-few att plan zero i m l st = omega arith
sweep-few att plan (suc k) i m l st = start (sweep-few att plan k) (ltb i plan.n)
  where
    fit : ((i m l : ℕ) (st : _) → length (sweep att plan k (stand_at i m l) st).matches ≤ k) → (p : List ℕ) (su : _) (o : Option ℕ) (t : Bool)
        → length (on_match t o (record { start = i; path = p }) su (λ j. sweep att plan k (stand_at j (suc m) (l + plan.rows p)) su)).matches ≤ suc k
    fit ih p su o false = omega arith
    fit ih p su none true = omega arith
    fit ih p su (some j) true = omega (arith, ih j (suc m) (l + plan.rows p) su)

    on : ((i m l : ℕ) (st : _) → length (sweep att plan k (stand_at i m l) st).matches ≤ k) → (o : Attempted) (su : _) → length (on_answer plan (sweep att plan k) (stand_at i m l) o su).matches ≤ suc k
    on ih miss su = omega (arith, ih (suc i) m l su)
    on ih (halts w p) su = omega arith
    on ih (hit p) su = fit ih p su (plan.next i p) (plan.fits m l p)

    start : ((i m l : ℕ) (st : _) → length (sweep att plan k (stand_at i m l) st).matches ≤ k) → (t : Bool)
        → length (below t (ended (no_start plan.more i) st) (λ _. on_answer plan (sweep att plan k) (stand_at i m l) (att i st).0 (att i st).1)).matches ≤ suc k
    start ih false = omega arith
    start ih true = on ih (att i st).0 (att i st).1

-- ---- what is written fits

two-long : (o : Option ℤ) → length (two_of o) ≡ 2
unfolding two_of
two-long none = refl
two-long (some v) = refl

measures_long : (t : Table) (row : ℕ) (ls : List ℕ) (ms : List Measure) → length (measure_numbers t row ls ms) ≡ 2 * length ms
unfolding measure_numbers
measures_long t row ls [] = refl
measures_long t row ls (m ∷ ms) = simp length-append (omega (arith, two-long (measured t row ls m), measures_long t row ls ms))

-- a match appends three numbers, and two for each measure
pub match-long : (t : Table) (ms : List Measure) (k row : ℕ) (ls : List ℕ) → length (match_numbers t ms k row ls) ≡ 3 + 2 * length ms
unfolding match_numbers
match-long t ms k row ls = omega (arith, measures_long t row ls ms)

pub numbers_long : (t : Table) (ms : List Measure) (pl : List Place) (k : ℕ) (xs : List Match) → length (numbers_of t ms pl k xs) ≡ length xs * (3 + 2 * length ms)
unfolding numbers_of
numbers_long t ms pl k [] = omega arith
numbers_long t ms pl k (x ∷ xs) =
    simp length-append (omega (arith, match-long t ms (suc k) x.start (labels pl x.path), numbers_long t ms pl (suc k) xs))

-- behind m matches with l labels, all matches of r fit
pub record Fitting (nums labs : ℕ) (ms : List Measure) (pl : List Place) (m l : ℕ) (xs : List Match) : Type 0 where
  pub numbers : (m + length xs) * (3 + 2 * length ms) ≤ nums
  pub labels : l + length (labels_of pl xs) ≤ labs

module _ {S : Type 0} (att : ℕ → S → Attempted × S) (pl : List Place) (n : ℕ) (more : Bool) (skip : Skip) (nums labs : ℕ) (ms : List Measure) where
  abbrev plan : Plan
  plan = plan_of pl n more skip (fits (lent_room nums labs ms))

  abbrev FitsOn : (Standing → S → Swept S) → Type 0
  FitsOn f = (i m l : ℕ) (st : S) → m * (3 + 2 * length ms) ≤ nums → l ≤ labs → Fitting nums labs ms pl m l (f (stand_at i m l) st).matches

  no-match : (m l : ℕ) → m * (3 + 2 * length ms) ≤ nums → l ≤ labs → Fitting nums labs ms pl m l []
  unfolding labels_of
  no-match m l a b = record { numbers = let e : m + 0 ≡ m = omega arith in rw e a; labels = omega arith }

  fit_on : (f : Standing → S → Swept S) → FitsOn f → (i m l : ℕ) (p : List ℕ) (st : S) → m * (3 + 2 * length ms) ≤ nums → l ≤ labs
      → (o : Option ℕ) (t : Bool) → fits (lent_room nums labs ms) m l (labels pl p) ≡ t
      → Fitting nums labs ms pl m l (on_match t o (record { start = i; path = p }) st (λ j. f (stand_at j (suc m) (l + length (labels pl p))) st)).matches
  unfolding labels_of fits
  fit_on f ih i m l p st a b o false e = no-match m l a b
  fit_on f ih i m l p st a b o true e = further (fits_both e) o
    where
      fits_both : fits (lent_room nums labs ms) m l (labels pl p) ≡ true → (suc m * (3 + 2 * length ms) ≤ nums) × (l + length (labels pl p) ≤ labs)
      fits_both e = let c = and-true _ _ e in (leb-true _ _ c.0, leb-true _ _ c.1)

      behind : (xs : List Match) → Fitting nums labs ms pl (suc m) (l + length (labels pl p)) xs → Fitting nums labs ms pl m l (record { start = i; path = p } ∷ xs)
      behind xs r =
          let e : m + suc (length xs) ≡ suc m + length xs = omega arith in
          record { numbers = rw e r.numbers; labels = simp length-append (omega (arith, r.labels)) }

      further : (suc m * (3 + 2 * length ms) ≤ nums) × (l + length (labels pl p) ≤ labs) → (o : Option ℕ)
          → Fitting nums labs ms pl m l (on_match true o (record { start = i; path = p }) st (λ j. f (stand_at j (suc m) (l + length (labels pl p))) st)).matches
      further c none = behind [] (no-match (suc m) (l + length (labels pl p)) c.0 c.1)
      further c (some j) = behind (f (stand_at j (suc m) (l + length (labels pl p))) st).matches (ih j (suc m) (l + length (labels pl p)) st c.0 c.1)

  answer_on : (f : Standing → S → Swept S) → FitsOn f → (i m l : ℕ) (o : Attempted) (st : S) → m * (3 + 2 * length ms) ≤ nums → l ≤ labs
      → Fitting nums labs ms pl m l (on_answer plan f (stand_at i m l) o st).matches
  unfolding plan_of
  answer_on f ih i m l miss st a b = ih (suc i) m l st a b
  answer_on f ih i m l (halts w p) st a b = no-match m l a b
  answer_on f ih i m l (hit p) st a b = fit_on f ih i m l p st a b (plan.next i p) (fits (lent_room nums labs ms) m l (labels pl p)) refl

  pub sweep-fits : (k : ℕ) → FitsOn (sweep att plan k)
  unfolding sweep plan_of
  sweep-fits zero i m l st a b = no-match m l a b
  sweep-fits (suc k) i m l st a b = go (sweep-fits k) (ltb i n)
    where
      go : FitsOn (sweep att plan k) → (t : Bool) → Fitting nums labs ms pl m l (below t (ended (no_start more i) st) (λ _. on_answer plan (sweep att plan k) (stand_at i m l) (att i st).0 (att i st).1)).matches
      go ih false = no-match m l a b
      go ih true = answer_on (sweep att plan k) ih i m l (att i st).0 (att i st).1 a b

-- ---- for an accepted input, within an allowance

pub record Limits (a : Option ℕ) (q : List ℕ) (rows : List ℤ) (lent : Buffers) : Type 0 where
  pub some_place : 1 ≤ length (task_of q rows).places
  pub few_places : length (task_of q rows).places ≤ 2048
  pub small_P : P (tree_in q) ≤ 256
  pub small_F : F (tree_in q) ≤ 8
  pub few_rows : (task_of q rows).table.n ≤ 4096
  pub few_pairs : pairs (length (task_of q rows).places) (task_of q rows).table.n ≤ 8390656
  pub few_matches : length (walk_within a q rows lent).matches ≤ (task_of q rows).table.n
  pub few_steps : (walk_within a q rows lent).state.steps ≤ 17192452096
  -- what is written fits, and every buffer keeps its length
  pub numbers_fit : length (numbers_of (task_of q rows).table (task_of q rows).measures (task_of q rows).places 0 (walk_within a q rows lent).matches) ≤ length lent.numbers
  pub labels_fit : length (labels_of (task_of q rows).places (walk_within a q rows lent).matches) ≤ length lent.labels
  pub notes_fit : length (notes_of (walk_within a q rows lent).state.failed) ≤ length lent.notes
  pub trail_fit : length (walk_within a q rows lent).state.failed ≤ length lent.trail

-- the task's table is the rows by the shape's columns
pub task-rows : (q : List ℕ) (rows : List ℤ) → (task_of q rows).table ≡ table_of (columns_of q) rows
unfolding task_of parts
task-rows q rows = refl

product_le : (a b c d : ℕ) → a ≤ c → b ≤ d → a * b ≤ c * d
product_le a b c d h k = mul-le-mul h k

-- the search of a task on any terms is a sweep by attempts of the counted walk
module _ (terms : Terms) (t : Task) (nums labs : ℕ) where
  abbrev N : ℕ
  N = pairs (length t.places) terms.largest

  abbrev attempt : ℕ → Kept → Attempted × Kept
  attempt = walk_at (halting_of terms t.places t.table.n) (pair_ways (letter_holds t) t.table.n t.places) N (first_at (length t.places))

  pub written-fits : Fitting nums labs t.measures t.places 0 0 (walked_on terms t nums labs).matches
  unfolding walked_on walk_search
  written-fits = sweep-fits attempt t.places t.table.n terms.more t.skip nums labs t.measures t.table.n 0 0 0 (as_kept (replicate N false) 0) (omega arith) (omega arith)

  pub written-few : length (walked_on terms t nums labs).matches ≤ t.table.n
  unfolding walked_on walk_search
  written-few = sweep-few attempt (plan_of t.places t.table.n terms.more t.skip (fits (lent_room nums labs t.measures))) t.table.n 0 0 0 (as_kept (replicate N false) 0)

  module _ (p : Tree pattern) (e : t.places ≡ places (unroll p)) (le : t.table.n ≤ terms.largest) where
    pub kept_all : length (walked_on terms t nums labs).state.failed ≡ N
    unfolding walked_on
    kept_all = rw e (search_kept (unroll p) (letter_holds t) t.table.n terms le t.skip (fits (lent_room nums labs t.measures)))

    pub cost-all : 2 * (walked_on terms t nums labs).state.steps ≤ length t.places * (t.table.n * (t.table.n + 3))
    unfolding walked_on
    cost-all = rw e (search_each (unroll p) t.skip (fits (lent_room nums labs t.measures)) (letter_holds t) t.table.n terms le)

few_factor : (p : Tree pattern) → loop_nesting p ≤ 3 → factor_of p ≤ 8
unfolding factor_of
few_factor p h = pow_mono {i = loop_nesting p} {j = 3} h

pub limits : (a : Option ℕ) (q : List ℕ) (rows : List ℤ) (lent : Buffers) → refusal q rows lent ≡ 0 → Limits a q rows lent
unfolding walk_within tree_in P F
limits al q rows lent ok =
    let a = granted_when q rows lent ok in
    let p = a.tree in
    let e : (task_of q rows).places ≡ places (unroll p) = places_are q rows p a.has_tree in
    let S : ℕ = length (task_of q rows).places in
    let n : ℕ = (task_of q rows).table.n in
    let o : Bounds p = written-bounds ((tree-exactly (text_of q) p).0 a.has_tree) in
    let c : S ≡ places_of p * factor_of p = ap length e ∙ places-counted p o in
    let m : n ≡ (table_of (columns_of q) rows).n = ap (λ (t : Table). t.n) (task-rows q rows) in
    let few : S ≤ 256 * 8 = rw c (product_le (places_of p) (factor_of p) 256 8 a.few (few_factor p a.few_nested)) in
    let rs : n ≤ 4096 = omega (arith, a.rows_few) in
    let ps : pairs S n ≤ 2048 * 4097 = product_le S (suc n) 2048 4097 few (omega arith) in
    let ts : Terms = within al n in
    let kept = kept_all ts (task_of q rows) (length lent.numbers) (length lent.labels) p e (omega arith) in
    let cost = cost-all ts (task_of q rows) (length lent.numbers) (length lent.labels) p e (omega arith) in
    let top : S * (n * (n + 3)) ≤ 2048 * (4096 * 4099) = product_le S (n * (n + 3)) 2048 (4096 * 4099) few (product_le n (n + 3) 4096 4099 rs (omega arith)) in
    let w = written-fits ts (task_of q rows) (length lent.numbers) (length lent.labels) in
    let pairs_are : pairs (places_of p * factor_of p) (table_of (columns_of q) rows).n ≡ length (walk_within al q rows lent).state.failed = sym (kept ∙ ap₂ (λ (x y : ℕ). pairs x y) c m) in
    record {
      some_place = rw (e, places-length (unroll p)) (some-state (unroll p));
      few_places = few;
      small_P = rw a.has_tree a.few;
      small_F = rw a.has_tree (few_factor p a.few_nested);
      few_rows = rs;
      few_pairs = ps;
      few_matches = written-few ts (task_of q rows) (length lent.numbers) (length lent.labels);
      few_steps = omega (arith, cost, top);
      numbers_fit = rw (numbers_long (task_of q rows).table (task_of q rows).measures (task_of q rows).places 0 (walk_within al q rows lent).matches) (omega (arith, w.numbers));
      labels_fit = omega (arith, w.labels);
      notes_fit = rw (length-notes (walk_within al q rows lent).state.failed, ← pairs_are) a.notes_long;
      trail_fit = rw (← pairs_are) a.trail_long;
    }

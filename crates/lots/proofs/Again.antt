-- A later call's search, by the table of the prepared query: it is the matches of the earlier call
-- and then the search from the start at which that one waited, with the steps of its open pairs
-- taken back.
use mathlib.Core.Path.{◌≡◌, refl, ap, ap₂, sym, ◌∙◌}
use mathlib.Core.List.{List, [], ◌∷◌, ◌++◌}
use mathlib.Core.Bool.{Bool, true, false, not}
use mathlib.Core.Logic.{◌⊎◌, inl, inr, ⊎_elim}
use mathlib.Core.Option.{Option, none, some}
use Prim.Native.Nat.{ℕ, zero, suc, ◌+◌, ◌-◌, ◌*◌, ◌≤◌, ◌<◌}
use native.Mathlib.Omega.{arith}
use lib.Dec.{leb}
use lib.ListN.{length, get_or, replicate, length-append, length-replicate}
use borrow.Author.Tests.{lt-leb}
use Rattle.rules.specs.Places.{Place, Unrolled, places}
use Rattle.rules.specs.Search.{Match, End, unfinished, Skip, Swept, Plan, Terms, halting_of, labels, plan_of, walk_search, walk_at, sweep, with_match, seek, stand_at}
use Rattle.rules.specs.Report.{labels_of}
use Rattle.rules.specs.Walk.{Ways, Halting, out_of_rows, pairs, first_at, pair_ways, Kept, as_kept, tried}
use Rattle.rules.specs.Working.{All, Falls, Out, thinned}
use Rattle.laws.proofs.Distinct.{thin, thin-pairs, halting_thin, walk-thin, thinned-length}
use Rattle.laws.proofs.Fuel.{plan-on}
use Rattle.laws.proofs.GoesOn.{Sooner, and_then, resumed, resumed_by, rows_in, behind}
use Rattle.laws.proofs.Machine.{first_open}
use Rattle.laws.proofs.Padded.{padded, more-pairs, search_padded}
use Rattle.laws.proofs.PatternWalk.{top, starts, search_kept}
use Rattle.laws.proofs.Rank.{rank}
use Rattle.laws.proofs.ThinGoes.{thin-goes}
use Rattle.laws.proofs.ThinPlaces.{thinned-falls}
use Rattle.sweep.specs.Searched.{pre}
use Rattle.lots.proofs.Retrace.{Trace, trace_later, EndTraced, sweep-traced, goes_again}

behind-pre : (ms : List Match) (r : Swept Kept) → behind ms r ≡ pre ms r
behind-pre [] r = refl
behind-pre (m ∷ ms) r = ap (with_match m) (behind-pre ms r)

-- the labels of matches by the places
rows_are : (pl : List Place) (n : ℕ) (more : Bool) (skip : Skip) (fit : ℕ → ℕ → List ℕ → Bool) (ms : List Match) → rows_in (plan_of pl n more skip fit) ms ≡ length (labels_of pl ms)
unfolding plan_of labels_of
rows_are pl n more skip fit [] = refl
rows_are pl n more skip fit (m ∷ ms) = let e = rows_are pl n more skip fit ms in let l = length-append (labels pl m.path) (labels_of pl ms) in omega arith

-- pairs of rows that are not there have not failed
pub gap_at : (F : List Bool) (k x : ℕ) → get_or (F ++ replicate k false) x false ≡ get_or F x false
gap_at [] k x = none-at k x
  where
    none-at : (k x : ℕ) → get_or (replicate k false) x false ≡ false
    none-at zero x = refl
    none-at (suc k) zero = refl
    none-at (suc k) (suc x) = none-at k x
gap_at (b ∷ F) k zero = refl
gap_at (b ∷ F) k (suc x) = gap_at F k x

gap-first : (F : List Bool) (k : ℕ) (ys : List ℕ) → first_open (F ++ replicate k false) ys ≡ first_open F ys
unfolding first_open
gap-first F k [] = refl
gap-first F k (y ∷ ys) = rw (gap_at F k y, gap-first F k ys) refl

gap-trace : (h : Halting) (ways : ℕ → Ways) (F : List Bool) (k x : ℕ) (p : List ℕ) → Trace h ways F x p → Trace h ways (F ++ replicate k false) x p
gap-trace h ways F k x [] a = a
gap-trace h ways F k x (z ∷ []) a = a
gap-trace h ways F k x (z ∷ (y ∷ p)) a =
    (a.0, record { ys = a.1.ys; still = a.1.still; tried = a.1.tried; first = gap-first F k a.1.ys ∙ a.1.first }, gap-trace h ways F k y (y ∷ p) a.2)

gap-out : (F : List Bool) (k : ℕ) (p : List ℕ) → All (Out F) p → All (Out (F ++ replicate k false)) p
gap-out F k [] a = tt
gap-out F k (x ∷ p) a = (gap_at F k x ∙ a.0, gap-out F k p a.1)

module _ (t : Unrolled) (skip : Skip) (fit : ℕ → ℕ → List ℕ → Bool) (holds₁ holds₂ : ℕ → ℕ → Bool) (n₁ n₂ a : ℕ) (more : Bool) (le : n₁ ≤ n₂)
    (sooner : Sooner (halting_of (record { largest = n₂; more = true; allowance = some a }) (places t) n₁) (halting_of (record { largest = n₂; more = more; allowance = some a }) (places t) n₂)
    (pair_ways holds₁ n₁ (places t)) (pair_ways holds₂ n₂ (places t))) where
  abbrev pub pl : List Place
  pl = thinned (places t)

  abbrev terms₁ : Terms
  terms₁ = record { largest = n₂; more = true; allowance = some a }

  abbrev terms₂ : Terms
  terms₂ = record { largest = n₂; more = more; allowance = some a }

  -- the same over places with each way of a fork once; how many pairs are kept account of plays no
  -- part
  thin-sooner : Sooner (halting_of (record { largest = n₁; more = true; allowance = some a }) pl n₁) (halting_of terms₂ pl n₂) (pair_ways holds₁ n₁ pl) (pair_ways holds₂ n₂ pl)
  unfolding halting_of
  thin-sooner =
      let e₁ : pair_ways holds₁ n₁ pl ≡ (λ x. thin (pair_ways holds₁ n₁ (places t) x)) = λ i x. thin-pairs holds₁ n₁ (places t) x i in
      let e₂ : pair_ways holds₂ n₂ pl ≡ (λ x. thin (pair_ways holds₂ n₂ (places t) x)) = λ i x. thin-pairs holds₂ n₂ (places t) x i in
      rw (halting_thin (record { largest = n₁; more = true; allowance = some a }) (places t) n₁, halting_thin terms₂ (places t) n₂, e₁, e₂) (record { ways = λ x. by x (sooner.ways x); steps = sooner.steps })
    where
      by : (x : ℕ)
          → ((halting_of terms₁ (places t) n₁).waits x ≡ true) ⊎ (((halting_of terms₁ (places t) n₁).waits x ≡ false) × ((halting_of terms₂ (places t) n₂).waits x ≡ false) × (pair_ways holds₁ n₁ (places t) x ≡ pair_ways holds₂ n₂ (places t) x))
          → ((halting_of terms₁ (places t) n₁).waits x ≡ true) ⊎ (((halting_of terms₁ (places t) n₁).waits x ≡ false) × ((halting_of terms₂ (places t) n₂).waits x ≡ false) × (thin (pair_ways holds₁ n₁ (places t) x) ≡ thin (pair_ways holds₂ n₂ (places t) x)))
      by x (inl e) = inl e
      by x (inr e) = inr (e.0, e.1, ap thin e.2)

  -- the earlier search, with an account for the rows that were there, and for those that are there
  -- now
  abbrev pub earlier : Swept Kept
  earlier = walk_search (record { largest = n₁; more = true; allowance = some a }) (seek holds₁ n₁ pl skip fit)

  abbrev pub gap : List Bool
  gap = replicate (pairs (length (places t)) n₂ - pairs (length (places t)) n₁) false

  earlier-is : walk_search terms₁ (seek holds₁ n₁ pl skip fit) ≡ padded gap earlier
  earlier-is =
      walk-thin t holds₁ n₁ terms₁ le skip fit ∙ search_padded t holds₁ n₁ terms₁ le skip fit
      ∙ ap (padded gap) (sym (walk-thin t holds₁ n₁ (record { largest = n₁; more = true; allowance = some a }) (omega arith) skip fit))

  abbrev halts₂ : Halting
  halts₂ = halting_of terms₂ pl n₂

  abbrev ways₂ : ℕ → Ways
  ways₂ = pair_ways holds₂ n₂ pl

  abbrev pub N₂ : ℕ
  N₂ = pairs (length pl) n₂

  abbrev plan₂ : Plan
  plan₂ = plan_of pl n₂ more skip fit

  abbrev pub F₂ : List Bool
  F₂ = earlier.state.failed ++ gap

  long₁ : length earlier.state.failed ≡ pairs (length pl) n₁
  long₁ = ap (λ (r : Swept Kept). length r.state.failed) (walk-thin t holds₁ n₁ (record { largest = n₁; more = true; allowance = some a }) (omega arith) skip fit)
      ∙ search_kept t holds₁ n₁ (record { largest = n₁; more = true; allowance = some a }) (omega arith) skip fit ∙ ap (λ (k : ℕ). pairs k n₁) (sym (thinned-length (places t)))

  pub long₂ : length F₂ ≡ N₂
  long₂ =
      let e = length-append earlier.state.failed gap in
      let f = length-replicate (pairs (length (places t)) n₂ - pairs (length (places t)) n₁) false in
      let m = more-pairs t holds₁ n₁ n₂ le in
      let d = long₁ in
      let k : length pl ≡ length (places t) = thinned-length (places t) in
      rw (e, f, d, k) (omega arith)

  falls₁ : Falls (pair_ways holds₁ n₁ pl) (rank t n₁) (pairs (length pl) n₁)
  falls₁ = rw (thinned-length (places t)) (thinned-falls t holds₁ n₁)

  falls₂ : Falls ways₂ (rank t n₂) N₂
  falls₂ = rw (thinned-length (places t)) (thinned-falls t holds₂ n₂)

  tops : (n : ℕ) (holds : ℕ → ℕ → Bool) (x : ℕ) → rank t n x < pairs (length pl) n
  tops n holds x = rw (thinned-length (places t)) (top t holds n x)

  firsts : (n : ℕ) (holds : ℕ → ℕ → Bool) (i : ℕ) → i < n → first_at (length pl) i < pairs (length pl) n
  firsts n holds i h = rw (thinned-length (places t)) (starts t holds n i h).0

  starts_in_lem : (n : ℕ) (holds : ℕ → ℕ → Bool) (b : Bool) (i : ℕ) → i < (plan_of pl n b skip fit).n → first_at (length pl) i < pairs (length pl) n
  unfolding plan_of
  starts_in_lem n holds b i h = firsts n holds i h

  module _ (i : ℕ) (p : List ℕ) (end : earlier.end ≡ unfinished out_of_rows i p) (few : length p ≤ earlier.state.steps) (within : earlier.state.steps ≤ a) where
    traced : EndTraced (halting_of (record { largest = n₁; more = true; allowance = some a }) pl n₁) (pair_ways holds₁ n₁ pl) (rank t n₁) (pairs (length pl) n₁) falls₁ (pairs (length pl) n₁) (tops n₁ holds₁) (first_at (length pl))
        (plan_of pl n₁ true skip fit) (starts_in_lem n₁ holds₁ true) earlier.end earlier.state
    unfolding walk_search plan_of
    traced =
        sweep-traced (halting_of (record { largest = n₁; more = true; allowance = some a }) pl n₁) (pair_ways holds₁ n₁ pl) (rank t n₁) (pairs (length pl) n₁) falls₁ (pairs (length pl) n₁) (tops n₁ holds₁) (first_at (length pl))
        (plan_of pl n₁ true skip fit) (starts_in_lem n₁ holds₁ true) n₁ 0 0 0 (as_kept (replicate (pairs (length pl) n₁) false) 0) (length-replicate (pairs (length pl) n₁) false)

    traced₂ : (p ≡ []) ⊎ ((i < n₂) × Trace halts₂ ways₂ F₂ (first_at (length pl) i) p × All (Out F₂) p)
    unfolding plan_of
    traced₂ =
        ⊎_elim (λ (d : p ≡ []). inl d)
        (λ (d : (i < n₁) × Trace (halting_of (record { largest = n₁; more = true; allowance = some a }) pl n₁) (pair_ways holds₁ n₁ pl) earlier.state.failed (first_at (length pl) i) p × All (Out earlier.state.failed) p).
        inr (
          omega (arith, d.0, le),
          gap-trace halts₂ ways₂ earlier.state.failed (pairs (length (places t)) n₂ - pairs (length (places t)) n₁) (first_at (length pl) i) p
              (trace_later (halting_of (record { largest = n₁; more = true; allowance = some a }) pl n₁) halts₂ (pair_ways holds₁ n₁ pl) ways₂ thin-sooner earlier.state.failed (first_at (length pl) i) p d.1),
          gap-out earlier.state.failed (pairs (length (places t)) n₂ - pairs (length (places t)) n₁) p d.2,
        )) (rw end at traced)

    unspent : (j : ℕ) → j < earlier.state.steps → halts₂.spent j ≡ false
    unfolding halting_of
    unspent j l = lt-leb a j (omega (arith, l, within))

    pub again : walk_search terms₂ (seek holds₂ n₂ pl skip fit)
        ≡ pre earlier.matches (sweep (walk_at halts₂ ways₂ N₂ (first_at (length pl))) plan₂ n₂ (stand_at i (length earlier.matches) (length (labels_of pl earlier.matches))) (as_kept F₂ (earlier.state.steps - length p)))
    unfolding plan_of
    again =
        let ms : List Match = earlier.matches in
        let st : Kept = (as_kept F₂ (earlier.state.steps - length p)) in
        let on : ℕ → Swept Kept = λ l. sweep (walk_at halts₂ ways₂ N₂ (first_at (length pl))) plan₂ n₂ (stand_at i (length ms) l) st in
        let a : walk_search terms₂ (seek holds₂ n₂ pl skip fit) ≡ and_then halts₂ ways₂ N₂ (first_at (length pl)) plan₂ 0 0 (walk_search terms₁ (seek holds₁ n₁ pl skip fit)) =
        thin-goes t skip fit holds₁ holds₂ n₁ n₂ terms₁ terms₂ refl le (omega arith) sooner (inl refl) in
        let b : and_then halts₂ ways₂ N₂ (first_at (length pl)) plan₂ 0 0 (walk_search terms₁ (seek holds₁ n₁ pl skip fit)) ≡ and_then halts₂ ways₂ N₂ (first_at (length pl)) plan₂ 0 0 (padded gap earlier) =
        ap (and_then halts₂ ways₂ N₂ (first_at (length pl)) plan₂ 0 0) earlier-is in
        let z₁ : 0 + length ms ≡ length ms = omega arith in
        let z₂ : 0 + rows_in plan₂ ms ≡ rows_in plan₂ ms = omega arith in
        let c₀ : and_then halts₂ ways₂ N₂ (first_at (length pl)) plan₂ 0 0 (padded gap earlier) ≡ resumed_by halts₂ ways₂ N₂ (first_at (length pl)) plan₂ earlier.end 0 0 ms (as_kept F₂ earlier.state.steps) = refl in
        let c₁ : resumed_by halts₂ ways₂ N₂ (first_at (length pl)) plan₂ earlier.end 0 0 ms (as_kept F₂ earlier.state.steps) ≡ resumed_by halts₂ ways₂ N₂ (first_at (length pl)) plan₂ (unfinished out_of_rows i p) 0 0 ms (as_kept F₂ earlier.state.steps) =
        ap (λ (e : End Match). resumed_by halts₂ ways₂ N₂ (first_at (length pl)) plan₂ e 0 0 ms (as_kept F₂ earlier.state.steps)) end in
        let c₂ : resumed_by halts₂ ways₂ N₂ (first_at (length pl)) plan₂ (unfinished out_of_rows i p) 0 0 ms (as_kept F₂ earlier.state.steps) ≡ behind ms (resumed halts₂ ways₂ N₂ (first_at (length pl)) plan₂ i p (length ms) (rows_in plan₂ ms) (as_kept F₂ earlier.state.steps)) =
        ap₂ (λ (x y : ℕ). behind ms (resumed halts₂ ways₂ N₂ (first_at (length pl)) plan₂ i p x y (as_kept F₂ earlier.state.steps))) z₁ z₂ in
        let d : resumed halts₂ ways₂ N₂ (first_at (length pl)) plan₂ i p (length ms) (rows_in plan₂ ms) (as_kept F₂ earlier.state.steps) ≡ on (rows_in plan₂ ms) =
        goes_again halts₂ ways₂ (rank t n₂) N₂ falls₂ N₂ (tops n₂ holds₂) (first_at (length pl)) plan₂ (starts_in_lem n₂ holds₂ more) (plan-on pl n₂ more skip fit) i p (length ms) (rows_in plan₂ ms) F₂ earlier.state.steps long₂ traced₂ few unspent in
        a ∙ b ∙ c₀ ∙ c₁ ∙ c₂ ∙ ap (behind ms) d ∙ behind-pre ms (on (rows_in plan₂ ms)) ∙ ap (λ (l : ℕ). pre ms (on l)) (rows_are pl n₂ more skip fit ms)

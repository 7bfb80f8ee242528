-- The whole report told by the order of preferment alone (`Reports` of specs/Preferment): what the
-- counted walk writes, and the match at which it stops, is such a report, in every skip mode and
-- whatever the room (`walk-reports`), and there is one at most (`reports-one`).
use mathlib.Core.Path.{◌≡◌, refl, ap, ap₂, sym, ◌∙◌}
use mathlib.Core.List.{List, [], ◌∷◌}
use mathlib.Core.Bool.{Bool, true, false, true≢false}
use mathlib.Core.Option.{Option, none, some}
use Prim.Native.Nat.{ℕ, zero, suc, ◌+◌, ◌≤◌, ◌<◌}
use native.Mathlib.Omega.{arith}
use lib.ListN.{length}
use lib.Dec.{ltb}
use borrow.Author.Tests.{ltb-true, ltb-false}
use Rattle.rules.specs.Basics.{Begins}
use Rattle.rules.specs.Language.{pattern, Tree}
use Rattle.rules.specs.Places.{Place, places, unroll}
use Rattle.rules.specs.Readings.{row_sets}
use Rattle.rules.specs.Preferment.{Reports, finished, unmatched, matched, lost, stopped, setting}
use Rattle.rules.specs.Search.{Standing, on_match, plain_from, End, done, full, Skip, shown, shown_end, Swept, labels, end_of, next_start, whole, plainly, ended, below, on_answer, sweep, plain_at, plan_of, walk_search, plain_search, seek, stand_at}
use Rattle.rules.specs.Walk.{pairs, first_at, pair_ways}
use Rattle.laws.proofs.Bounds.{Bounds}
use Rattle.laws.proofs.GreatestDerivation.{Answers, preferred, greatest_same}
use Rattle.laws.proofs.PatternWalk.{walk-plain}
use Rattle.laws.proofs.Starts.{next-on}

-- ---- the walk's report

module _ (p : Tree pattern) (o : Bounds p) (holds : ℕ → ℕ → Bool) (n : ℕ) (skip : Skip) (room : ℕ → ℕ → List ℕ → Bool) where
  abbrev pl : List Place
  pl = places (unroll p)

  -- the search by plain backtracking, from a start on
  abbrev run : ℕ → Standing → Unit {0} → Swept (Unit {0})
  run = sweep (plain_at (pair_ways holds n pl) (pairs (length pl) n) (first_at (length pl))) (plan_of pl n false skip room)

  abbrev Told : ℕ → ℕ → ℕ → Swept (Unit {0}) → Type 0
  Told i m l r = Reports (setting p (row_sets n holds) skip room) (stand_at i m l) (shown pl r.matches) (shown_end pl r.end)

  abbrev ToldWith : ℕ → Type 0
  ToldWith k = (i m l : ℕ) (st : Unit {0}) → n ≤ i + k → Told i m l (run k (stand_at i m l) st)

  swept : (k : ℕ) → ToldWith k
  unfolding sweep plan_of
  swept zero i m l st h = finished {i = i} (omega arith)
  swept (suc k) i m l st h = go (swept k) (ltb i n) refl
    where
      -- the next start behind a path
      on : List ℕ → Option ℕ
      on path = next_start skip i (end_of (length pl) path) (labels pl path)

      fit : ToldWith k → i < n → (path : List ℕ) → Answers p holds n i (some path) → (o : Option ℕ) → on path ≡ o → (b : Bool) → room m l (labels pl path) ≡ b
          → Told i m l (on_match b o (record { start = i; path = path }) st (λ j. run k (stand_at j (suc m) (l + length (labels pl path))) st))
      fit ih lt path a o d false e = stopped lt a.best e
      fit ih lt path a none d true e = lost lt a.best e d
      fit ih lt path a (some j) d true e = matched lt a.best e d (ih j (suc m) (l + length (labels pl path)) st (omega (arith, next-on skip i (end_of (length pl) path) (labels pl path) j d)))

      hit : ToldWith k → i < n → (r : Option (List ℕ)) → Answers p holds n i r → Told i m l (on_answer (plan_of pl n false skip room) (run k) (stand_at i m l) (plainly r) st)
      hit ih lt none a = unmatched lt a (ih (suc i) m l st (omega arith))
      hit ih lt (some path) a = fit ih lt path a (on path) refl (room m l (labels pl path)) refl

      go : ToldWith k → (b : Bool) → ltb i n ≡ b → Told i m l (below b (ended done st) (λ _. on_answer (plan_of pl n false skip room) (run k) (stand_at i m l) (plainly (plain_from holds n (places (unroll p)) i)) st))
      go ih false e = finished (ltb-false i n e)
      go ih true e = hit ih (ltb-true i n e) (plain_from holds n (places (unroll p)) i) (preferred p o holds n i)

  -- the matches written, and the one at which the search stops, are the greatest derivations at
  -- their starts, and no start is left out
  pub plain-reports : Reports (setting p (row_sets n holds) skip room) (stand_at 0 0 0) (shown pl (plain_search (seek holds n pl skip room)).matches) (shown_end pl (plain_search (seek holds n pl skip room)).end)
  unfolding plain_search
  plain-reports = swept n 0 0 0 tt (omega arith)

  pub walk-reports : Reports (setting p (row_sets n holds) skip room) (stand_at 0 0 0) (shown pl (walk_search (whole n) (seek holds n pl skip room)).matches) (shown_end pl (walk_search (whole n) (seek holds n pl skip room)).end)
  walk-reports =
      let a = walk-plain (unroll p) holds n skip room in
      rw (a.matches, a.end) plain-reports

-- ---- and there is one such report at most

module _ (p : Tree pattern) (holds : ℕ → ℕ → Bool) (n : ℕ) (skip : Skip) (room : ℕ → ℕ → List ℕ → Bool) where
  clash : {m l : ℕ} (w w' : List ℕ) → w ≡ w' → room m l w ≡ true → room m l w' ≡ false → ⊥
  clash {m} {l} w w' e x y = true≢false (sym x ∙ ap (room m l) e ∙ y)

  next-same : (i j j' : ℕ) (w w' : List ℕ) → j ≡ j' → w ≡ w' → next_start skip i j w ≡ next_start skip i j' w'
  next-same i j j' w w' e f = ap₂ (λ (a : ℕ) (u : List ℕ). next_start skip i a u) e f

  some_same : {a b : ℕ} → ◌≡◌ {A = Option ℕ} (some a) (some b) → a ≡ b
  some_same e = cc

  none-some : {a : ℕ} → ◌≡◌ {A = Option ℕ} none (some a) → ⊥
  none-some e = let z : ◌≡◌ {A = ℕ} 0 1 = cc in omega arith

  pub reports-one : {i m l : ℕ} {ms ms' : List (ℕ × List ℕ)} {end end' : End (ℕ × List ℕ)} → Reports (setting p (row_sets n holds) skip room) (stand_at i m l) ms end
      → Reports (setting p (row_sets n holds) skip room) (stand_at i m l) ms' end' → (ms ≡ ms') × (end ≡ end')
  reports-one (finished h) (finished h') = (refl, refl)
  reports-one (finished h) (unmatched lt x r) = absurd (omega arith)
  reports-one (finished h) (matched lt x b d r) = absurd (omega arith)
  reports-one (finished h) (lost lt x b d) = absurd (omega arith)
  reports-one (finished h) (stopped lt x b) = absurd (omega arith)
  reports-one (unmatched lt x r) (finished h') = absurd (omega arith)
  reports-one (unmatched lt x r) (unmatched lt' x' r') = reports-one r r'
  reports-one (unmatched lt x r) (matched {j = j} {w = w} lt' x' b' d' r') = absurd (x x'.derivation j w x'.parses)
  reports-one (unmatched lt x r) (lost {j = j} {w = w} lt' x' b' d') = absurd (x x'.derivation j w x'.parses)
  reports-one (unmatched lt x r) (stopped {j = j} {w = w} lt' x' b') = absurd (x x'.derivation j w x'.parses)
  reports-one (matched lt x b d r) (finished h') = absurd (omega arith)
  reports-one (matched {j = j} {w = w} lt x b d r) (unmatched lt' x' r') = absurd (x' x.derivation j w x.parses)
  reports-one (matched {i = i} {j = j} {k = k} {m = m} {l = l} {w = w} lt x b d r) (matched {j = j'} {k = k'} {w = v} {ms = ks} {end = end} lt' x' b' d' r') =
      let s = greatest_same x x' in
      let q : k' ≡ k = some_same (sym d' ∙ next-same i j' j v w (sym s.0) (sym s.1) ∙ d) in
      let r₁ : Reports (setting p (row_sets n holds) skip room) (stand_at k (suc m) (l + length w)) ks end = rw (← q, s.1) r' in
      let y = reports-one r r₁ in
      (ap₂ (λ (u : List ℕ) (z : List (ℕ × List ℕ)). (i, u) ∷ z) s.1 y.0, y.1)
  reports-one (matched {i = i} {j = j} {k = k} {w = w} lt x b d r) (lost {j = j'} {w = v} lt' x' b' d') =
      let s = greatest_same x x' in
      absurd (none-some (sym d' ∙ next-same i j' j v w (sym s.0) (sym s.1) ∙ d))
  reports-one (matched {m = m} {l = l} {w = w} lt x b d r) (stopped {w = v} lt' x' b') = absurd (clash {m = m} {l = l} w v (greatest_same x x').1 b b')
  reports-one (lost lt x b d) (finished h') = absurd (omega arith)
  reports-one (lost {j = j} {w = w} lt x b d) (unmatched lt' x' r') = absurd (x' x.derivation j w x.parses)
  reports-one (lost {i = i} {j = j} {w = w} lt x b d) (matched {j = j'} {k = k'} {w = v} lt' x' b' d' r') =
      let s = greatest_same x x' in
      absurd (none-some (sym d ∙ next-same i j j' w v s.0 s.1 ∙ d'))
  reports-one (lost {i = i} lt x b d) (lost lt' x' b' d') = (ap (λ (u : List ℕ). (i, u) ∷ []) (greatest_same x x').1, refl)
  reports-one (lost {m = m} {l = l} {w = w} lt x b d) (stopped {w = v} lt' x' b') = absurd (clash {m = m} {l = l} w v (greatest_same x x').1 b b')
  reports-one (stopped lt x b) (finished h') = absurd (omega arith)
  reports-one (stopped {j = j} {w = w} lt x b) (unmatched lt' x' r') = absurd (x' x.derivation j w x.parses)
  reports-one (stopped {m = m} {l = l} {w = w} lt x b) (matched {w = v} lt' x' b' d' r') = absurd (clash {m = m} {l = l} v w (greatest_same x' x).1 b' b)
  reports-one (stopped {m = m} {l = l} {w = w} lt x b) (lost {w = v} lt' x' b' d') = absurd (clash {m = m} {l = l} v w (greatest_same x' x).1 b' b)
  reports-one (stopped {i = i} {w = w} lt x b) (stopped {w = v} lt' x' b') = (refl, ap (λ (u : List ℕ). full (i, u)) (greatest_same x x').1)

-- ---- a report in less room is the first part of one with room for every match

module _ (p : Tree pattern) (holds : ℕ → ℕ → Bool) (n : ℕ) (skip : Skip) (room : ℕ → ℕ → List ℕ → Bool) where
  begins-on : (x y : ℕ × List ℕ) (xs ys : List (ℕ × List ℕ)) → x ≡ y → Begins xs ys → Begins (x ∷ xs) (y ∷ ys)
  begins-on x y xs ys e b = (b.0, ap₂ (λ (z : ℕ × List ℕ) (zs : List (ℕ × List ℕ)). z ∷ zs) (sym e) b.1)

  abbrev Unlimited : ℕ → ℕ → ℕ → List (ℕ × List ℕ) → End (ℕ × List ℕ) → Type 0
  Unlimited i m l ms end = Reports (setting p (row_sets n holds) skip (λ m l w. true)) (stand_at i m l) ms end

  pub reports-begin : {i m l m' l' : ℕ} {ms ms' : List (ℕ × List ℕ)} {end end' : End (ℕ × List ℕ)} → Reports (setting p (row_sets n holds) skip room) (stand_at i m l) ms end → Unlimited i m' l' ms' end' → Begins ms ms'
  reports-begin {ms' = ms'} (finished h) r' = (ms', refl)
  reports-begin {ms' = ms'} (stopped lt x b) r' = (ms', refl)
  reports-begin (unmatched lt x r) (finished h') = absurd (omega arith)
  reports-begin (unmatched lt x r) (unmatched lt' x' r') = reports-begin r r'
  reports-begin (unmatched lt x r) (matched {j = j} {w = w} lt' x' b' d' r') = absurd (x x'.derivation j w x'.parses)
  reports-begin (unmatched lt x r) (lost {j = j} {w = w} lt' x' b' d') = absurd (x x'.derivation j w x'.parses)
  reports-begin (unmatched lt x r) (stopped lt' x' b') = absurd (true≢false b')
  reports-begin (matched lt x b d r) (finished h') = absurd (omega arith)
  reports-begin (matched {j = j} {w = w} lt x b d r) (unmatched lt' x' r') = absurd (x' x.derivation j w x.parses)
  reports-begin (matched {i = i} {j = j} {k = k} {w = w} {ms = ks} lt x b d r) (matched {j = j'} {k = k'} {m = m'} {l = l'} {w = v} {ms = ks'} {end = end} lt' x' b' d' r') =
      let s = greatest_same x x' in
      let q : k' ≡ k = some_same p holds n skip room (sym d' ∙ next-same p holds n skip room i j' j v w (sym s.0) (sym s.1) ∙ d) in
      let r₁ : Unlimited k (suc m') (l' + length v) ks' end = rw (← q) r' in
      begins-on (i, w) (i, v) ks ks' (ap (λ (u : List ℕ). (i, u)) s.1) (reports-begin r r₁)
  reports-begin (matched {i = i} {j = j} {k = k} {w = w} lt x b d r) (lost {j = j'} {w = v} lt' x' b' d') =
      let s = greatest_same x x' in
      absurd (none-some p holds n skip room (sym d' ∙ next-same p holds n skip room i j' j v w (sym s.0) (sym s.1) ∙ d))
  reports-begin (matched lt x b d r) (stopped lt' x' b') = absurd (true≢false b')
  reports-begin (lost lt x b d) (finished h') = absurd (omega arith)
  reports-begin (lost {j = j} {w = w} lt x b d) (unmatched lt' x' r') = absurd (x' x.derivation j w x.parses)
  reports-begin (lost {i = i} {j = j} {w = w} lt x b d) (matched {j = j'} {k = k'} {w = v} lt' x' b' d' r') =
      let s = greatest_same x x' in
      absurd (none-some p holds n skip room (sym d ∙ next-same p holds n skip room i j j' w v s.0 s.1 ∙ d'))
  reports-begin (lost {i = i} {w = w} lt x b d) (lost {w = v} lt' x' b' d') = begins-on (i, w) (i, v) [] [] (ap (λ (u : List ℕ). (i, u)) (greatest_same x x').1) ([], refl)
  reports-begin (lost lt x b d) (stopped lt' x' b') = absurd (true≢false b')

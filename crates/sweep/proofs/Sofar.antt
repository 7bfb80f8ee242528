-- The loop over the starts: what is written so far, and what the definition still finds.
use mathlib.Core.Path.{◌≡◌, refl, sym, ap, ◌∙◌, subst}
use mathlib.Core.List.{List, [], ◌∷◌, ◌++◌, append_assoc, append-nil}
use mathlib.Core.Bool.{Bool, true, false}
use mathlib.Core.Option.{Option, none, some}
use Prim.Native.Nat.{ℕ, zero, suc, ◌+◌, ◌*◌, ◌≤◌, ◌<◌}
use native.Mathlib.Nat.{suc-mul}
use native.Mathlib.Omega.{arith}
use lib.IntN.{ℤ}
use lib.ListN.{length, replicate, length-append}
use borrow.Author.Tests.{lt-ltb, le-ltb}
use Rattle.rules.specs.Answers.{halt_answer, end_answer}
use Rattle.rules.specs.Basics.{wrote}
use Rattle.rules.specs.Report.{match_numbers, numbers_of, labels_of, lent_room, fits}
use Rattle.rules.specs.Search as R
use Rattle.rules.specs.Search.{Match, End, Swept, Plan, Attempted, hit, miss, halts, halting_of, sweep, on_answer, with_match, walk_at, labels, end_of, plan_of, walk_search, Standing, stand_at, on_match}
use Rattle.rules.specs.Walk.{Halt, out_of_steps, out_of_rows, pairs, first_at, pair_ways, Kept, as_kept}
use Rattle.laws.proofs.Appended.{wrote_none, wrote_on, length-wrote_at, numbers_on, labels-on, fits-room}
use Rattle.laws.proofs.Limits.{numbers_long}
use Rattle.rules.specs.Working.{bits_of}
use Rattle.laws.proofs.Starts.{next-on}
use Rattle.pairs.specs.Layout.{P, N, graph_of, halts_in}
use Rattle.pairs.proofs.Ways.{in_length}
use Rattle.matches.specs.declared.Sweep.{Sweep}
use Rattle.matches.specs.declared.Task.{Task}
use Rattle.matches.specs.Asked.{Asked, pl, width, search_of, asked_of}
use Rattle.matches.specs.Found.{swept, swept_at, swept_on, next_at, Quiet, Written, ToldBy, Told, attempt_at, Visited}
use Rattle.sweep.specs.Searched.{pre, swp, SoFar, WaitsAt, Came}

abbrev pub M : Asked → ℕ
M A = N A.layout A.n

sweep-on : (att : ℕ → Kept → Attempted × Kept) (plan : Plan) (k i m l : ℕ) (kept : Kept) → i < plan.n
    → sweep att plan (suc k) (stand_at i m l) kept ≡ on_answer plan (sweep att plan k) (stand_at i m l) (att i kept).0 (att i kept).1
unfolding sweep
sweep-on att plan k i m l kept h = rw (lt-ltb i plan.n h)

sweep-off : (att : ℕ → Kept → Attempted × Kept) (plan : Plan) (k i m l : ℕ) (kept : Kept) → plan.n ≤ i
    → sweep att plan k (stand_at i m l) kept ≡ record { matches = []; end = R.no_start plan.more i; state = kept }
unfolding sweep
sweep-off att plan zero i m l kept h = refl
sweep-off att plan (suc k) i m l kept h = rw (le-ltb i plan.n h)

one_more : (ms : List Match) (t : Match) (r : Swept Kept) → pre (ms ++ (t ∷ [])) r ≡ pre ms (with_match t r)
one_more ms t r = ap (λ (l : List Match). record { matches = l; end = r.end; state = r.state }) (append_assoc ms (t ∷ []) r.matches)

-- ---- the search comes to its goal

module _ (W : List ℕ) (rows : List ℤ) (task : Task) (num₁ : List ℤ) (lab₁ : List ℕ) (goal : Swept Kept) where
  abbrev A : Asked
  A = asked_of W rows task

  abbrev sw : ℕ → Standing → Kept → Swept Kept
  sw = swp A (length num₁) (length lab₁)

  abbrev fit : ℕ → ℕ → List ℕ → Bool
  fit = fits (lent_room (length num₁) (length lab₁) A.measures)

  abbrev plan : Plan
  plan = plan_of (pl A) A.n A.more A.skip fit

  abbrev walks : ℕ → Kept → Attempted × Kept
  walks = walk_at (halts_in A.layout A.more A.n) (pair_ways A.holds A.n (pl A)) (pairs (length (pl A)) A.n) (first_at (length (pl A)))

  module _ (notes : List ℕ) (numbers : List ℤ) (labs : List ℕ) (i : Sweep) (h : SoFar W rows task num₁ lab₁ goal notes numbers labs i) where
    abbrev F : List Bool
    F = bits_of notes (M A)

    room : 0 + length (numbers_of A.rows A.measures (pl A) 0 h.done) ≤ length num₁
    room = let b = h.nums in let c = h.m_is in rw (numbers_long A.rows A.measures (pl A) 0 h.done, ← h.m_is) (omega arith)

    so_numbers : length numbers ≡ length num₁
    so_numbers = rw h.numbers_is (length-wrote_at num₁ 0 _ room)

    so_labels : length labs ≡ length lab₁
    so_labels = let b = h.labs_le in let c = h.l_is in rw h.labels_is (length-wrote_at lab₁ 0 (labels_of (pl A) h.done) (omega arith))

    -- no match is left to find: the search is over so
    ends : (e : End Match) (F' : List Bool) (s' : ℕ) → sw h.fuel (stand_at i.row i.matches i.labels) (as_kept F i.steps) ≡ record { matches = []; end = e; state = as_kept F' s' }
        → goal ≡ record { matches = h.done; end = e; state = as_kept F' s' }
    ends e F' s' d = sym h.total ∙ ap (pre h.done) d ∙ ap (λ (l : List Match). record { matches = l; end = e; state = as_kept F' s' }) (append-nil h.done)

    over_came : (e : End Match) (notes' : List ℕ) (F' : List Bool) (s' : ℕ) (eF : bits_of notes' (M A) ≡ F') (numbers' : List ℤ) (labs' : List ℕ) (r : Sweep)
        → sw h.fuel (stand_at i.row i.matches i.labels) (as_kept F i.steps) ≡ record { matches = []; end = e; state = as_kept F' s' }
        → r.end ≡ end_answer e → r.matches ≡ i.matches → r.labels ≡ i.labels → r.steps ≡ s' → WaitsAt e r → numbers' ≡ numbers → labs' ≡ labs
        → Came A num₁ lab₁ goal notes' numbers' labs' r
    over_came e notes' F' s' eF numbers' labs' r d ee em el es ew en eb =
        rw (ends e F' s' d) (record {
          reported = record {
            end = ee;
            matches = em ∙ h.m_is;
            labels = el ∙ h.l_is;
            steps = es;
            waits = ew;
            numbers_is = en ∙ h.numbers_is;
            labels_is = eb ∙ h.labels_is;
          };
          kept = eF;
        })

    -- no row is there to start at
    off : A.n ≤ i.row → sw h.fuel (stand_at i.row i.matches i.labels) (as_kept F i.steps) ≡ record { matches = []; end = R.no_start A.more i.row; state = as_kept F i.steps }
    unfolding plan_of
    off ge = sweep-off walks plan h.fuel i.row i.matches i.labels (as_kept F i.steps) ge

    pub so_all : A.n ≤ i.row → A.more ≡ false → Came A num₁ lab₁ goal notes numbers labs i
    unfolding end_answer
    so_all ge em =
        over_came R.done notes F i.steps refl numbers labs i (off ge ∙ ap (λ (b : Bool). record { matches = []; end = R.no_start b i.row; state = as_kept F i.steps }) em) h.going refl refl refl
        (λ j p (d : R.done ≡ R.unfinished out_of_rows j p). let z : ◌≡◌ {A = ℕ} 0 1 = cc in absurd (omega arith)) refl refl

    pub so_waits : A.n ≤ i.row → A.more ≡ true → (r : Sweep) → r ≡ record { end = 23; row = i.row; matches = i.matches; labels = i.labels; steps = i.steps; opened = 0 }
        → Came A num₁ lab₁ goal notes numbers labs r
    unfolding end_answer halt_answer
    so_waits ge em r er =
        rw er
        (over_came (R.unfinished out_of_rows i.row []) notes F i.steps refl numbers labs _
        (off ge ∙ ap (λ (b : Bool). record { matches = []; end = R.no_start b i.row; state = as_kept F i.steps }) em) refl refl refl refl
        (λ j p (d : R.unfinished out_of_rows i.row [] ≡ R.unfinished out_of_rows j p). let a : i.row ≡ j = cc in let b : [] ≡ p = cc in (a, ap length b)) refl refl)

    module _ (lt : i.row < A.n) where
      abbrev att : Attempted × Kept
      att = attempt_at A F i.steps i.row

      att-same : walks i.row (as_kept F i.steps) ≡ att
      unfolding graph_of
      att-same = rw (in_length A.layout.words (P A.layout))

      -- the definition's next step
      rest-is : (k : ℕ) → h.fuel ≡ suc k → sw h.fuel (stand_at i.row i.matches i.labels) (as_kept F i.steps) ≡ on_answer plan (sw k) (stand_at i.row i.matches i.labels) att.0 att.1
      unfolding plan_of
      rest-is k e =
          ap (λ (f : ℕ). sw f (stand_at i.row i.matches i.labels) (as_kept F i.steps)) e
          ∙ sweep-on walks plan k i.row i.matches i.labels (as_kept F i.steps) lt
          ∙ ap (λ (a : Attempted × Kept). on_answer plan (sw k) (stand_at i.row i.matches i.labels) a.0 a.1) att-same

      module _ (notes' trail trail' : List ℕ) (numbers' : List ℤ) (labs' : List ℕ) (r : Sweep) (v : Visited A notes notes' trail trail' numbers numbers' labs labs' i r) where
        -- it goes on, or has come to its goal
        record Goal (q : Sweep) : Type 0 where
          on : q.end ≡ 0 → SoFar W rows task num₁ lab₁ goal notes' numbers' labs' q
          over : (q.end ≡ 0 → ⊥) → Came A num₁ lab₁ goal notes' numbers' labs' q

        module _ (k : ℕ) (ek : h.fuel ≡ suc k) (F' : List Bool) (s' : ℕ) (eF : bits_of notes' (M A) ≡ F') where
          -- no match
          quiet_on : att ≡ (miss, as_kept F' s') → Quiet numbers numbers' labs labs' r (swept 0 (i.row + 1) i.matches i.labels s') → Goal r
          quiet_on ea q =
              let e : sw h.fuel (stand_at i.row i.matches i.labels) (as_kept F i.steps) ≡ sw k (stand_at (suc i.row) i.matches i.labels) (as_kept F' s') =
              rest-is k ek ∙ ap (λ (a : Attempted × Kept). on_answer plan (sw k) (stand_at i.row i.matches i.labels) a.0 a.1) ea in
              let o : i.row + 1 ≡ suc i.row = omega arith in
              let en = h.enough in
              subst Goal (sym q.sweep_is) (record {
                over = λ f. absurd (f refl);
                on = λ _. record {
                  fuel = k;
                  done = h.done;
                  enough = omega arith;
                  total = rw (eF, o) (ap (pre h.done) (sym e) ∙ h.total);
                  going = refl;
                  none_open = refl;
                  m_is = h.m_is;
                  l_is = h.l_is;
                  numbers_is = q.numbers_is ∙ h.numbers_is;
                  labels_is = q.labels_is ∙ h.labels_is;
                  nums = h.nums;
                  labs_le = h.labs_le;
                };
              })

          -- nothing is written, and the search is over
          over_on : (e : End Match) (to : Sweep) → (to.end ≡ 0 → ⊥) → to.end ≡ end_answer e → to.matches ≡ i.matches → to.labels ≡ i.labels → to.steps ≡ s' → WaitsAt e to
              → sw h.fuel (stand_at i.row i.matches i.labels) (as_kept F i.steps) ≡ record { matches = []; end = e; state = as_kept F' s' }
              → Quiet numbers numbers' labs labs' r to → Goal r
          over_on e to not-Going ee em el es ew d q =
              subst Goal (sym q.sweep_is) (record {
                on = λ z. absurd (not-Going z);
                over = λ _. over_came e notes' F' s' eF numbers' labs' to d ee em el es ew q.numbers_is q.labels_is;
              })

          -- the attempt has halted
          halted-on : (w : Halt) (p : List ℕ) → att ≡ (halts w p, as_kept F' s') → Quiet numbers numbers' labs labs' r (swept_at w p i.row i.matches i.labels s') → Goal r
          unfolding end_answer halt_answer
          halted-on w p ea q =
              over_on (R.unfinished w i.row p) (swept_at w p i.row i.matches i.labels s') (some w) refl refl refl refl (waits w)
              (rest-is k ek ∙ ap (λ (a : Attempted × Kept). on_answer plan (sw k) (stand_at i.row i.matches i.labels) a.0 a.1) ea) q
            where
              some : (w : Halt) → halt_answer w ≡ 0 → ⊥
              some out_of_steps e = let z : ◌≡◌ {A = ℕ} 16 0 = e in omega arith
              some out_of_rows e = let z : ◌≡◌ {A = ℕ} 23 0 = e in omega arith

              waits : (w : Halt) → WaitsAt (R.unfinished w i.row p) (swept_at w p i.row i.matches i.labels s')
              waits out_of_steps j u d = let z : ◌≡◌ {A = ℕ} 0 1 = cc in absurd (omega arith)
              waits out_of_rows j u d = let a : i.row ≡ j = cc in let b : p ≡ u = cc in (a, ap length b)

          module _ (p : List ℕ) (ea : att ≡ (hit p, as_kept F' s')) where
            abbrev t : Match
            t = record { start = i.row; path = p }

            abbrev on : ℕ → Swept Kept
            on j = sw k (stand_at j (suc i.matches) (i.labels + length (labels (pl A) p))) (as_kept F' s')

            rest-fit : (b : Bool) → fit i.matches i.labels (labels (pl A) p) ≡ b
                → sw h.fuel (stand_at i.row i.matches i.labels) (as_kept F i.steps) ≡ on_match b (next_at A i.row p) t (as_kept F' s') on
            unfolding plan_of
            rest-fit b eb =
                rest-is k ek
                ∙ ap (λ (a : Attempted × Kept). on_answer plan (sw k) (stand_at i.row i.matches i.labels) a.0 a.1) ea
                ∙ ap (λ (c : Bool). on_match c (next_at A i.row p) t (as_kept F' s') on) eb

            no_wait : (e : End Match) (o : Sweep) → ((j : ℕ) (u : List ℕ) → e ≡ R.unfinished out_of_rows j u → ⊥) → WaitsAt e o
            no_wait e o f j u d = absurd (f j u d)

            -- a match that does not fit
            full-on : fit i.matches i.labels (labels (pl A) p) ≡ false → Quiet numbers numbers' labs labs' r (swept 13 A.n i.matches i.labels s') → Goal r
            unfolding end_answer
            full-on eb q =
                over_on (R.full t) (swept 13 A.n i.matches i.labels s') (λ (e : ◌≡◌ {A = ℕ} 13 0). omega arith) refl refl refl refl
                (no_wait (R.full t) (swept 13 A.n i.matches i.labels s') (λ j u (d : R.full t ≡ R.unfinished out_of_rows j u). let z : ◌≡◌ {A = ℕ} 0 1 = cc in omega arith)) (rest-fit false eb) q

            -- a match that fits is written
            module _ (eb : fit i.matches i.labels (labels (pl A) p) ≡ true) (to : Sweep) (q : Written A p i numbers numbers' labs labs' r to) where
              numbers-at : numbers' ≡ wrote num₁ 0 (numbers_of A.rows A.measures (pl A) 0 (h.done ++ (t ∷ [])))
              numbers-at =
                  let vs : List ℤ = numbers_of A.rows A.measures (pl A) 0 h.done in
                  let new : ℕ → List ℤ = λ z. match_numbers A.rows A.measures z i.row (labels (pl A) p) in
                  let a : i.matches * width A ≡ 0 + length vs = (let l = numbers_long A.rows A.measures (pl A) 0 h.done in let e : i.matches * width A ≡ length h.done * width A = ap (λ (z : ℕ). z * width A) h.m_is in omega arith) in
                  let b : i.matches + 1 ≡ suc (0 + length h.done) = (let m = h.m_is in omega arith) in
                  q.numbers_is
                  ∙ ap (λ (z : List ℤ). wrote z (i.matches * width A) (new (i.matches + 1))) h.numbers_is
                  ∙ ap (λ (z : ℕ). wrote (wrote num₁ 0 vs) z (new (i.matches + 1))) a
                  ∙ wrote_on num₁ 0 vs room (new (i.matches + 1))
                  ∙ ap (λ (z : ℕ). wrote num₁ 0 (vs ++ new z)) b
                  ∙ ap (wrote num₁ 0) (sym (numbers_on A.rows A.measures (pl A) 0 h.done t))

              labels_at : labs' ≡ wrote lab₁ 0 (labels_of (pl A) (h.done ++ (t ∷ [])))
              labels_at =
                  let c = h.labs_le in
                  let d = h.l_is in
                  let a : i.labels ≡ 0 + length (labels_of (pl A) h.done) = omega arith in
                  q.labels_is
                  ∙ ap (λ (z : List ℕ). wrote z i.labels (labels (pl A) p)) h.labels_is
                  ∙ ap (λ (z : ℕ). wrote (wrote lab₁ 0 (labels_of (pl A) h.done)) z (labels (pl A) p)) a
                  ∙ wrote_on lab₁ 0 (labels_of (pl A) h.done) (omega arith) (labels (pl A) p)
                  ∙ ap (wrote lab₁ 0) (sym (labels-on (pl A) h.done t))

              m-on : i.matches + 1 ≡ length (h.done ++ (t ∷ []))
              m-on = let em = h.m_is in simp length-append (omega arith)

              l_on : i.labels + length (labels (pl A) p) ≡ length (labels_of (pl A) (h.done ++ (t ∷ [])))
              l_on = let el = h.l_is in rw (labels-on (pl A) h.done t, length-append) (omega arith)

              fr : (i.matches * width A + width A ≤ length num₁) × (i.labels + length (labels (pl A) p) ≤ length lab₁)
              fr = fits-room (length num₁) (length lab₁) A.measures i.matches i.labels (labels (pl A) p) eb

            by_next : (x : Option ℕ) → next_at A i.row p ≡ x → (eb : fit i.matches i.labels (labels (pl A) p) ≡ true)
                → Written A p i numbers numbers' labs labs' r (swept_on x A.n (i.matches + 1) (i.labels + length (labels (pl A) p)) s') → Goal r
            unfolding end_answer
            by_next (some nx) ex eb q =
                let o : i.matches + 1 ≡ suc i.matches = omega arith in
                let ge : i.row < nx = next-on A.skip i.row (end_of (length (pl A)) p) (labels (pl A) p) nx ex in
                let en = h.enough in
                let e : sw h.fuel (stand_at i.row i.matches i.labels) (as_kept F i.steps) ≡ with_match t (on nx) = rest-fit true eb ∙ ap (λ (y : Option ℕ). on_match true y t (as_kept F' s') on) ex in
                subst Goal (sym q.sweep_is) (record {
                  over = λ f. absurd (f refl);
                  on = λ _. record {
                    fuel = k;
                    done = h.done ++ (t ∷ []);
                    enough = omega arith;
                    total = rw (eF, o) (one_more h.done t (on nx) ∙ ap (pre h.done) (sym e) ∙ h.total);
                    going = refl;
                    none_open = refl;
                    m_is = m-on eb _ q;
                    l_is = l_on eb _ q;
                    numbers_is = numbers-at eb _ q;
                    labels_is = labels_at eb _ q;
                    nums = let f = (fr eb _ q).0 in rw (o, suc-mul i.matches (width A)) f;
                    labs_le = (fr eb _ q).1;
                  };
                })
            by_next none ex eb q =
                let e : sw h.fuel (stand_at i.row i.matches i.labels) (as_kept F i.steps) ≡ with_match t (record { matches = []; end = R.stuck; state = as_kept F' s' }) = rest-fit true eb ∙ ap (λ (y : Option ℕ). on_match true y t (as_kept F' s') on) ex in
                let g : goal ≡ record { matches = h.done ++ (t ∷ []); end = R.stuck; state = as_kept F' s' } = sym h.total ∙ ap (pre h.done) e in
                subst Goal (sym q.sweep_is) (record {
                  on = λ z. absurd (let y : ◌≡◌ {A = ℕ} 15 0 = z in omega arith);
                  over = λ _. rw g (record {
                    reported = record {
                      end = refl;
                      matches = m-on eb _ q;
                      labels = l_on eb _ q;
                      steps = refl;
                      waits = no_wait R.stuck (swept 15 A.n (i.matches + 1) (i.labels + length (labels (pl A) p)) s') (λ j u (d : R.stuck ≡ R.unfinished out_of_rows j u). let z : ◌≡◌ {A = ℕ} 0 1 = cc in omega arith);
                      numbers_is = numbers-at eb _ q;
                      labels_is = labels_at eb _ q;
                    };
                    kept = eF;
                  });
                })

            by-fit : (b : Bool) → fit i.matches i.labels (labels (pl A) p) ≡ b → ToldBy b A p i s' numbers numbers' labs labs' r → Goal r
            by-fit true eb q = by_next (next_at A i.row p) refl eb q
            by-fit false eb q = full-on eb q

          by-att : (o : Attempted) → att ≡ (o, as_kept F' s') → Told A o i s' numbers numbers' labs labs' r → Goal r
          by-att miss ea q = quiet_on ea q
          by-att (halts w p) ea q = halted-on w p ea q
          by-att (hit p) ea q = by-fit p ea (fit i.matches i.labels (labels (pl A) p)) refl (rw (so_numbers, so_labels) at q)

        by-fuel : (f : ℕ) → h.fuel ≡ f → Goal r
        by-fuel zero e = absurd (let en = h.enough in omega arith)
        by-fuel (suc k) e = by-att k e att.1.failed att.1.steps v.kept att.0 refl v.told

        pub so_more : r.end ≡ 0 → SoFar W rows task num₁ lab₁ goal notes' numbers' labs' r
        so_more e = (by-fuel h.fuel refl).on e

        pub so_over : (r.end ≡ 0 → ⊥) → Came A num₁ lab₁ goal notes' numbers' labs' r
        so_over e = (by-fuel h.fuel refl).over e

-- ---- the search from its beginning

pub so_first : (W : List ℕ) (rows : List ℤ) (task : Task) (notes : List ℕ) (numbers : List ℤ) (labs : List ℕ)
    → bits_of notes (M (asked_of W rows task)) ≡ replicate (M (asked_of W rows task)) false
    → SoFar W rows task numbers labs (search_of (asked_of W rows task) (length numbers) (length labs)) notes numbers labs (record { end = 0; row = 0; matches = 0; labels = 0; steps = 0; opened = 0 })
unfolding search_of walk_search halting_of halts_in numbers_of labels_of
so_first W rows task notes numbers labs none-failed =
    record {
      fuel = task.size.rows;
      done = [];
      enough = omega arith;
      total = rw (in_length W task.size.places, none-failed) refl;
      going = refl;
      none_open = refl;
      m_is = refl;
      l_is = refl;
      numbers_is = sym (wrote_none numbers 0);
      labels_is = sym (wrote_none labs 0);
      nums = omega arith;
      labs_le = omega arith;
    }

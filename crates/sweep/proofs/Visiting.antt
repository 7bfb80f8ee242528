-- One start of the search: what its attempt leaves, against the definition.
use mathlib.Core.Path.{◌≡◌, refl, sym, ap, ◌∙◌}
use mathlib.Core.List.{List, [], ◌∷◌, reverse_aux}
use mathlib.Core.Bool.{Bool, true, false}
use Prim.Native.Nat.{ℕ, zero, suc, ◌+◌, ◌*◌, ◌≤◌, ◌<◌, suc-le-suc, zero-le}
use native.Mathlib.Nat.{not-suc-le-zero}
use native.Mathlib.Omega.{arith}
use lib.Dec.{eqb}
use lib.IntN.{ℤ}
use lib.ListN.{length, get_or}
use borrow.Author.Tests.{eq-eqb, ne_eqb}
use Rattle.rules.specs.Answers.{halt_answer}
use Rattle.rules.specs.Basics.{pick}
use Rattle.rules.specs.Search.{Attempted, hit, halts, answered}
use Rattle.rules.specs.Walk.{Ways, accept, try, Halting, out_of_steps, out_of_rows, Outcome, found, failed, halted, close, tries, enter_unless, inside, inside_by, count_true, Kept, as_kept}
use mathlib.Core.Logic.{inl}
use Rattle.laws.proofs.Machine.{open_room}
use Rattle.laws.proofs.Notes.{bits_from-length}
use Rattle.rules.specs.Working.{bits_of}
use Rattle.laws.proofs.Walk.{InsidePost, inside-post}
use Rattle.pairs.specs.declared.Walk.{Walk}
use Rattle.pairs.specs.Layout.{Layout, P, N, graph_of, halts_in, most_pairs}
use Rattle.pairs.specs.Step.{pair_in, pair_of, stack, before_by, before, outcome_by, result_by}
use Rattle.pairs.specs.State.{Good, Stands, Ready, Done, Quiet}
use Rattle.pairs.proofs.Trails.{stack-length}
use Rattle.pairs.proofs.Trying.{pair-in, before-other, fair_quiet, halts-fair}
use Rattle.pairs.proofs.Going.{roomy_top, good_room, top_row}
use Rattle.matches.specs.declared.Sweep.{Sweep}
use Rattle.matches.specs.declared.Task.{Task}
use Rattle.matches.specs.Asked.{Asked, path_on, asked_of}
use Rattle.matches.specs.Found.{Told, Reports, Visits, attempt_at, Visited}
use Rattle.sweep.specs.Searched.{by_top, waits_on, came_to, Tells}

-- ---- a path begins where its attempt began

abbrev head_of : List ℕ → ℕ
head_of [] = 0
head_of (x ∷ p) = x

abbrev HeadIs : ℕ → Outcome → Type 0
HeadIs x (found p kept) = head_of p ≡ x
HeadIs x (failed kept) = Unit {0}
HeadIs x (halted h p kept) = Unit {0}

inside-head : (H : Halting) (ways : ℕ → Ways) (k : ℕ) (F : List Bool) (s x : ℕ) → HeadIs x (inside H ways k (as_kept F s) x)
unfolding inside inside_by
inside-head H ways zero F s x = tt
inside-head H ways (suc k) F s x = go (H.waits x) (ways x)
  where
    closed : (r : Outcome) → HeadIs x (close x r)
    closed (found p kept) = refl
    closed (failed kept) = tt
    closed (halted h p kept) = tt

    go : (b : Bool) (w : Ways) → HeadIs x (inside_by H b w (inside H ways k) (as_kept F s) x)
    go true w = tt
    go false accept = refl
    go false (try ys) = closed (tries H (inside H ways k) (as_kept F s) ys)

enter-head : (b u : Bool) (H : Halting) (ways : ℕ → Ways) (k : ℕ) (F : List Bool) (s x : ℕ) → HeadIs x (enter_unless b u (inside H ways k) (as_kept F s) x)
enter-head true u H ways k F s x = tt
enter-head false true H ways k F s x = tt
enter-head false false H ways k F s x = inside-head H ways k F (suc s) x

head_up : (P : ℕ) (trail p : List ℕ) (t : ℕ) → head_of (reverse_aux (stack P trail (suc t)) p) ≡ pair_in P (get_or trail 0 0)
unfolding stack
head_up P trail p zero = refl
head_up P trail p (suc t) = head_up P trail (pair_in P (get_or trail (suc t) 0) ∷ p) t

head_out : (P : ℕ) (trail : List ℕ) (F : List Bool) (s x t : ℕ) → 0 < t → HeadIs x (outcome_by P t trail F s) → pair_in P (get_or trail 0 0) ≡ x
unfolding outcome_by
head_out P trail F s x zero l h = absurd (not-suc-le-zero l)
head_out P trail F s x (suc t) l h = sym (head_up P trail [] t) ∙ h

-- ---- what an attempt came to, by the walk's status

result_over : (P : ℕ) (trail : List ℕ) (F : List Bool) (w : Walk) → (w.status ≡ 1 → ⊥) → (w.status ≡ 3 → ⊥) → result_by P trail F w ≡ outcome_by P w.top trail F w.steps
unfolding result_by
result_over P trail F w e c = rw (ne_eqb w.status 1 e, ne_eqb w.status 3 c)

answered-by : (P : ℕ) (trail : List ℕ) (F : List Bool) (w : Walk) → answered (result_by P trail F w) ≡ (came_to P trail w, as_kept F w.steps)
unfolding result_by outcome_by came_to
answered-by P trail F w = go (eqb w.status 1) (eqb w.status 3) w.top (waits_on P trail w)
  where
    go : (b c : Bool) (t : ℕ) (q : List ℕ)
        → answered (pick b (halted out_of_steps (path_on P trail t) (as_kept F w.steps)) (pick c (halted out_of_rows q (as_kept F w.steps)) (outcome_by P t trail F w.steps)))
        ≡ (pick b (halts out_of_steps (path_on P trail t)) (pick c (halts out_of_rows q) (by_top P trail t)), as_kept F w.steps)
    go true c t q = refl
    go false true t q = refl
    go false false zero q = refl
    go false false (suc t) q = refl

length_up : (xs p : List ℕ) → length (reverse_aux xs p) ≡ length xs + length p
length_up [] p = omega arith
length_up (x ∷ xs) p = let r = length_up xs (x ∷ p) in omega arith

waits-long : (P : ℕ) (trail : List ℕ) (w : Walk) → length (waits_on P trail w) ≡ w.top + 1
waits-long P trail w = let a = length_up (stack P trail w.top) (pair_of w ∷ []) in let b = stack-length P trail w.top in omega arith

module _ (W : List ℕ) (rows : List ℤ) (task : Task) (trail labs : List ℕ) (i : Sweep) (w : Walk) where
  pub tell_row : Tells W rows task trail labs i w → i.row + 1 ≤ 4097
  tell_row h = let a = h.row in omega arith

  pub tell_top : Tells W rows task trail labs i w → w.top + 1 ≤ most_pairs
  tell_top h = let a = h.top in omega arith

  pub tell_reports : Tells W rows task trail labs i w → (w.status ≡ 1 → ⊥) → (w.status ≡ 3 → ⊥) → (w.top ≡ 0 → ⊥) → Reports W rows task trail labs i w
  tell_reports h e c t = h.reports e c t

  pub tell_halted : (numbers : List ℤ) → w.status ≡ 1
      → Told (asked_of W rows task) (came_to task.size.places trail w) i w.steps numbers numbers labs labs (record { end = 16; row = i.row; matches = i.matches; labels = i.labels; steps = w.steps; opened = 0 })
  unfolding came_to halt_answer
  tell_halted numbers e = rw (eq-eqb w.status 1 e) (record { numbers_is = refl; labels_is = refl; sweep_is = refl })

  pub tell_waits : (numbers : List ℤ) → (w.status ≡ 1 → ⊥) → w.status ≡ 3
      → Told (asked_of W rows task) (came_to task.size.places trail w) i w.steps numbers numbers labs labs (record { end = 23; row = i.row; matches = i.matches; labels = i.labels; steps = w.steps; opened = w.top + 1 })
  unfolding came_to halt_answer
  tell_waits numbers e c = rw (ne_eqb w.status 1 e, eq-eqb w.status 3 c) (record { numbers_is = refl; labels_is = refl; sweep_is = rw (waits-long task.size.places trail w) refl })

  pub tell_none : (numbers : List ℤ) → (w.status ≡ 1 → ⊥) → (w.status ≡ 3 → ⊥) → w.top ≡ 0
      → Told (asked_of W rows task) (came_to task.size.places trail w) i w.steps numbers numbers labs labs (record { end = 0; row = i.row + 1; matches = i.matches; labels = i.labels; steps = w.steps; opened = 0 })
  unfolding came_to
  tell_none numbers e c t = rw (ne_eqb w.status 1 e, ne_eqb w.status 3 c, t) (record { numbers_is = refl; labels_is = refl; sweep_is = refl })

  pub tell_path : (numbers : List ℤ) → (w.status ≡ 1 → ⊥) → (w.status ≡ 3 → ⊥) → (w.top ≡ 0 → ⊥) → (numbers' : List ℤ) (labs' : List ℕ) (r : Sweep)
      → Told (asked_of W rows task) (hit (path_on task.size.places trail w.top)) i w.steps numbers numbers' labs labs' r → Told (asked_of W rows task) (came_to task.size.places trail w) i w.steps numbers numbers' labs labs' r
  unfolding came_to
  tell_path numbers e c t numbers' labs' r told = rw (ne_eqb w.status 1 e, ne_eqb w.status 3 c) (go w.top t told)
    where
      go : (k : ℕ) → (k ≡ 0 → ⊥) → Told (asked_of W rows task) (hit (path_on task.size.places trail k)) i w.steps numbers numbers' labs labs' r → Told (asked_of W rows task) (by_top task.size.places trail k) i w.steps numbers numbers' labs labs' r
      go zero n h = absurd (n refl)
      go (suc k) n h = h

-- ---- an attempt takes no more steps than there are pairs

-- the steps of an outcome, and how many pairs are open or have failed
abbrev steps_of : Outcome → ℕ
steps_of (found p kept) = kept.steps
steps_of (failed kept) = kept.steps
steps_of (halted h p kept) = kept.steps

abbrev held_by : Outcome → ℕ
held_by (found p kept) = length p + count_true kept.failed
held_by (failed kept) = count_true kept.failed
held_by (halted h p kept) = length p + count_true kept.failed

steps_by : (ρ : ℕ → ℕ) (N : ℕ) (F : List Bool) (s x : ℕ) (o : Outcome) → held_by o ≤ N → InsidePost ρ F (suc s) x o → steps_of o ≤ s + N
steps_by ρ N F s x (found p kept') l d = let q = d.sum in omega arith
steps_by ρ N F s x (failed kept') l d = let q = d.sum in omega arith
steps_by ρ N F s x (halted h p kept') l d = let q = d.sum in omega arith

module _ (P : ℕ) (trail : List ℕ) (F : List Bool) (w : Walk) where
  path_long : (t : ℕ) → length (path_on P trail t) ≡ t
  path_long t = let a = length_up (stack P trail t) [] in let b = stack-length P trail t in omega arith

  result_steps : steps_of (result_by P trail F w) ≡ w.steps
  unfolding result_by outcome_by
  result_steps = go (eqb w.status 1) (eqb w.status 3) w.top
    where
      go : (b c : Bool) (t : ℕ) → steps_of (pick b (halted out_of_steps (path_on P trail t) (as_kept F w.steps)) (pick c (halted out_of_rows (waits_on P trail w) (as_kept F w.steps)) (outcome_by P t trail F w.steps))) ≡ w.steps
      go true c t = refl
      go false true t = refl
      go false false zero = refl
      go false false (suc t) = refl

  -- the pairs on the trail, and the one that waits
  abbrev held : ℕ
  held = pick (eqb w.status 3) (w.top + 1) w.top

  result_held : held_by (result_by P trail F w) ≤ held + count_true F
  unfolding result_by outcome_by
  result_held = go (eqb w.status 1) (eqb w.status 3)
    where
      by : (t : ℕ) → held_by (outcome_by P t trail F w.steps) ≤ t + count_true F
      by zero = omega arith
      by (suc t) = let a = path_long (suc t) in omega arith

      go : (b c : Bool) → held_by (pick b (halted out_of_steps (path_on P trail w.top) (as_kept F w.steps)) (pick c (halted out_of_rows (waits_on P trail w) (as_kept F w.steps)) (outcome_by P w.top trail F w.steps))) ≤ pick c (w.top + 1) w.top + count_true F
      go true true = let a = path_long w.top in omega arith
      go true false = let a = path_long w.top in omega arith
      go false true = let a = waits-long P trail w in omega arith
      go false false = by w.top

-- ---- the start

module _ (W : List ℕ) (rows : List ℤ) (task : Task) (notes trail labs : List ℕ) (i : Sweep) (h : Visits W rows task notes trail labs i) where
  abbrev A : Asked
  A = asked_of W rows task

  abbrev T : Layout
  T = A.layout

  abbrev M : ℕ
  M = N A.layout A.n

  abbrev F : List Bool
  F = bits_of notes M

  abbrev H : Halting
  H = halts_in T A.more A.n

  quiet : Quiet H T A.holds A.n
  quiet = fair_quiet H T A.more A.holds A.n (halts-fair T h.searches.legal.sized A.more A.n)

  abbrev att : Attempted × Kept
  att = attempt_at A F i.steps i.row

  pub visit_ready : Ready T A.holds A.n notes trail i.row i.steps
  visit_ready = record { legal = h.searches.legal; noted = h.searches.noted; trailed = inl h.searches.trailed; row = h.row; steps = h.steps }

  first_below : i.row * P T < M
  first_below = let a = pair-in (P T) A.n 0 i.row (i.row * P T) refl h.searches.legal.sized.some (let r = h.row in omega arith) in omega arith

  module _ (notes₁ trail₁ : List ℕ) (w : Walk) (d : Done H T A.holds A.n notes trail i.row i.steps notes₁ trail₁ w) where
    abbrev F₁ : List Bool
    F₁ = bits_of notes₁ M

    att-is : att ≡ (came_to (P T) trail₁ w, as_kept F₁ w.steps)
    att-is = ap answered d.same ∙ answered-by (P T) trail₁ F₁ w

    -- all open pairs are pairs that have not failed
    room : held (P T) trail₁ F₁ w + count_true F₁ ≤ M
    unfolding before
    room = go (eqb w.status 3) refl
      where
        waits : (z : Walk) → z.status ≡ 1 → Good T A.holds A.n notes₁ trail₁ z → Stands T A.holds A.n notes₁ trail₁ z → z.top + 1 + count_true F₁ ≤ M
        waits z e g s =
            let r = open_room (s.next e).good.legal.ρ M F₁ ((z.base + z.place) ∷ stack (P T) trail₁ z.top) (bits_from-length notes₁ M 0) (s.next e).opened in
            let l = stack-length (P T) trail₁ z.top in
            omega arith

        go : (b : Bool) → eqb w.status 3 ≡ b → pick b (w.top + 1) w.top + count_true F₁ ≤ M
        go true e =
            let k : before w ≡ before_by true w = ap (λ (b : Bool). before_by b w) e in
            waits (before_by true w) refl (rw k at d.reached.good) (rw k at d.reached.stands)
        go false e =
            let k : before w ≡ w = ap (λ (b : Bool). before_by b w) e in
            good_room T A.holds A.n notes₁ trail₁ w (rw k at d.reached.good)

    top_few : w.top + count_true F₁ ≤ M
    top_few = go (eqb w.status 3) room
      where
        go : (b : Bool) → pick b (w.top + 1) w.top + count_true F₁ ≤ M → w.top + count_true F₁ ≤ M
        go true l = omega arith
        go false l = l

    steps_more : w.steps ≤ i.steps + M
    steps_more = rw (result_steps (P T) trail₁ F₁ w) at (go (get_or F (i.row * P T) false) refl (H.spent i.steps) d.same)
      where
        go : (b : Bool) → get_or F (i.row * P T) false ≡ b → (u : Bool) → enter_unless b u (inside H (graph_of T A.holds A.n) M) (as_kept F i.steps) (i.row * P T) ≡ result_by (P T) trail₁ F₁ w
            → steps_of (result_by (P T) trail₁ F₁ w) ≤ i.steps + M
        go true o u e = rw (← e) (omega arith)
        go false o true e = rw (← e) (omega arith)
        go false o false e =
            let p = inside-post H (graph_of T A.holds A.n) h.searches.legal.ρ M h.searches.legal.falls M F (suc i.steps) (i.row * P T) (h.searches.legal.bound (i.row * P T)) first_below (bits_from-length notes M 0) o in
            let a = room in
            let b = result_held (P T) trail₁ F₁ w in
            steps_by h.searches.legal.ρ M F i.steps (i.row * P T) (result_by (P T) trail₁ F₁ w) (omega arith) (rw e at p)

    pub visit_told : (numbers numbers' : List ℤ) (labs' : List ℕ) (r : Sweep) → Told A (came_to (P T) trail₁ w) i w.steps numbers numbers' labs labs' r
        → Visited A notes notes₁ trail trail₁ numbers numbers' labs labs' i r
    visit_told numbers numbers' labs' r told =
        let a = att-is in
        let m = steps_more in
        record {
          kept = rw a;
          told = rw a told;
          notes_long = d.reached.notes_long;
          trail_long = d.reached.trail_long;
          notes_beyond = d.reached.notes_beyond;
          trail_beyond = d.reached.trail_beyond;
          more = rw a m;
        }

    module _ (u : w.status ≡ 1 → ⊥) (v : w.status ≡ 3 → ⊥) (t : w.top ≡ 0 → ⊥) where
      going : 0 < w.top
      going = some_of w.top t
        where
          some_of : (k : ℕ) → (k ≡ 0 → ⊥) → 0 < k
          some_of zero n = absurd (n refl)
          some_of (suc k) n = suc-le-suc zero-le

      head : HeadIs (i.row * P T) (outcome_by (P T) w.top trail₁ F₁ w.steps)
      head =
          rw (d.same ∙ result_over (P T) trail₁ F₁ w u v)
          at (enter-head (get_or F (i.row * P T) false) (H.spent i.steps) H (graph_of T A.holds A.n) M F i.steps (i.row * P T))

      reports : Reports W rows task trail₁ labs i w
      reports =
          let g : Good T A.holds A.n notes₁ trail₁ w = rw (before-other w v) at d.reached.good in
          let a = top_few in
          record {
            measured = h.searches.measured;
            path = record { sized = h.searches.legal.sized; room = roomy_top T A.n trail₁ w.top w.steps (omega arith) g.trailed; words = g.words; linked = g.linked; spot = λ _. (d.over.last u v going).spot };
            going = going;
            last = (d.over.last u v going).end;
            bottom = head_out (P T) trail₁ F₁ w.steps (i.row * P T) w.top going head;
            row = h.row;
            behind = rw (d.over.last u v going).spot.row at (top_row H T A.holds A.n quiet notes₁ trail₁ w g going);
            few = h.few;
            labels = h.labels;
          }

    pub visit_tells : Tells W rows task trail₁ labs i w
    visit_tells = record { row = let a = h.row in let b = h.searches.measured.few_rows in omega arith; top = let a = top_few in let b = h.searches.legal.small in omega arith; reports = reports }

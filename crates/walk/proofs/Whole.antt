-- The loops: on while a pair is to be entered, back until one is, and both in turn; and the
-- attempt, from the pair that it tries to its result.
use mathlib.Core.Path.{◌≡◌, refl, sym, ap, subst, ◌∙◌}
use mathlib.Core.List.{List}
use mathlib.Core.Bool.{Bool, true, false}
use mathlib.Core.Logic.{◌≢◌}
use Prim.Native.Nat.{ℕ, zero, suc, ◌+◌, ◌-◌, ◌*◌, ◌/◌, ◌≤◌, ◌<◌}
use native.Mathlib.Nat.{not-suc-le-zero}
use native.Mathlib.Decide.{ℕ_discrete}
use native.Mathlib.Omega.{arith}
use borrow.Author.Tests.{eq-eqb, ne_eqb}
use lib.ListN.{length, get_or}
use Rattle.rules.specs.Report.{bit_at}
use Rattle.rules.specs.Walk.{Halting, enter_unless, inside, as_kept}
use Rattle.laws.proofs.Machine.{resume-one, resume-waits}
use Rattle.rules.specs.Working.{bits_of, resume}
use Rattle.laws.proofs.Notes.{bits_of-at}
use Rattle.pairs.specs.declared.Walk.{Walk}
use Rattle.pairs.specs.Layout.{Layout, P, N, graph_of, passes_by, waits_by, halts_in, entry_of, most_pairs}
use Rattle.table.specs.Table.{code_at, first_at}
use Rattle.pairs.specs.Step.{one_unless, Mem, mem, place_in, way_in, stack, walk_at, try_at, waiting, entered_by, before, outcome_by, result_by, Noted, Enters}
use Rattle.pairs.specs.State.{Word, Good, Next, Ends, Stands, State, Goes, Idle, Backs, Moves, left, rest_at, rest, resumed, entering, facing, comes, Reached, Onward, Backward, Descended, Waited, Retreated, Over, Ran, Ready, attempt_by, Done, Idling, Quiet, Fair}
use Rattle.pairs.proofs.Ways.{left-none, left-some, pair_row, pair_place}
use Rattle.pairs.proofs.Going.{never, zero-two, one-two, zero-three, comes-idle, comes-next, faces_halt, reached_none, reached_on, top_end}
use Rattle.pairs.proofs.Trying.{pair-in, three_one, before-waiting, before-other, fair_quiet, halts-fair, halts-spent, goes_enters, goes_on}

pub state_of_lem : (H : Halting) (T : Layout) (holds : ℕ → ℕ → Bool) (n : ℕ) (n₁ t₁ notes trail : List ℕ) (w₁ w : Walk)
    → Reached H T holds n n₁ t₁ (comes H T holds n n₁ t₁ w₁) notes trail w → State T holds n notes trail w
state_of_lem H T holds n n₁ t₁ notes trail w₁ w r = record { good = r.good; stands = r.stands }

-- a state does not wait
calm : (T : Layout) (holds : ℕ → ℕ → Bool) (n : ℕ) (notes trail : List ℕ) (w : Walk) → Stands T holds n notes trail w → w.status ≡ 3 → ⊥
calm T holds n notes trail w s e = let k = s.known in omega arith

-- ---- on while a pair is to be entered

pub record Descending (H : Halting) (T : Layout) (holds : ℕ → ℕ → Bool) (n : ℕ) (n₁ t₁ : List ℕ) (w₁ : Walk) (notes trail : List ℕ) (w : Walk) : Type 0 where
  pub reached : Reached H T holds n n₁ t₁ (comes H T holds n n₁ t₁ w₁) notes trail w
  pub less : left (N T n) notes w ≤ left (N T n) n₁ w₁
  pub down : w.status ≡ 1

pub on_none : (H : Halting) (T : Layout) (holds : ℕ → ℕ → Bool) (n : ℕ) (n₁ t₁ : List ℕ) (w₁ : Walk) → Goes T holds n n₁ t₁ w₁ → Descending H T holds n n₁ t₁ w₁ n₁ t₁ w₁
on_none H T holds n n₁ t₁ w₁ s = record { reached = reached_none H T holds n n₁ t₁ w₁ s.state; less = omega arith; down = s.down }

module _ (H : Halting) (T : Layout) (more : Bool) (holds : ℕ → ℕ → Bool) (n : ℕ) (fair : Fair H T more n) (n₁ t₁ : List ℕ) (w₁ : Walk) (notes trail : List ℕ) (w : Walk)
    (h : Descending H T holds n n₁ t₁ w₁ notes trail w) where
  quiet : Quiet H T holds n
  quiet = fair_quiet H T more holds n fair

  -- no step is left
  pub on-halt : T.limit ≤ w.steps → Descended H T holds n n₁ t₁ w₁ notes trail w
  on-halt l =
      record {
        reached = rw (before-other w (calm T holds n notes trail w h.reached.stands)) h.reached;
        less = λ e. absurd (e h.down);
        down = λ _. l;
        waited = λ e. absurd (calm T holds n notes trail w h.reached.stands e);
      }

  module _ (few : w.steps < T.limit) where
    goes : Goes T holds n notes trail w
    goes = record { state = state_of_lem H T holds n n₁ t₁ notes trail w₁ w h.reached; down = h.down }

    unspent : H.spent w.steps ≡ false
    unspent = fair.spends w.steps few

    nx : Next T holds n notes trail w w.place w.row w.base
    nx = h.reached.stands.next h.down

    abbrev code : ℕ
    code = code_at T.words w.place

    waits-is : H.waits (w.base + w.place) ≡ waits_by more n code w.row
    waits-is =
        fair.waits (w.base + w.place)
        ∙ rw (nx.base_is, pair_row T holds n w.place w.row nx.place, pair_place T holds n w.place w.row nx.place) refl

    pub on-enters : Enters T n notes trail w
    on-enters = goes_enters H T holds n quiet notes trail w goes unspent few

    abbrev EntersTo : Bool → List ℕ → List ℕ → Walk → Type 0
    EntersTo u notes' trail' r = mem notes' trail' r ≡ entered_by u (passes_by holds n code w.row) (mem notes trail w) code (entry_of T.words w.place) (first_at T.words w.place) (P T)

    module _ (notes' trail' : List ℕ) (r : Walk) (e : EntersTo (waits_by more n code w.row) notes' trail' r) where
      onward : waits_by more n code w.row ≡ false → Onward H T holds n notes trail w notes' trail' r
      onward d = goes_on H T holds n quiet notes trail w goes unspent few (waits-is ∙ d) notes' trail' r (rw d at e)

      reached_now : (d : waits_by more n code w.row ≡ false) → Reached H T holds n n₁ t₁ (comes H T holds n n₁ t₁ w₁) notes' trail' r
      reached_now d = reached_on H T holds n n₁ t₁ _ notes trail w notes' trail' r h.reached (onward d).reached

      -- the pair waits
      still_here : waits_by more n code w.row ≡ true → mem notes' trail' r ≡ mem notes trail (waiting w)
      unfolding entered_by
      still_here d = rw d at e

      -- the walk does not, so the pair did not
      moves : (r.status ≡ 3 → ⊥) → waits_by more n code w.row ≡ false
      moves c = go (waits_by more n code w.row) refl
        where
          go : (u : Bool) → waits_by more n code w.row ≡ u → u ≡ false
          go false d = refl
          go true d = absurd (c (ap (λ (m : Mem). m.walk.status) (still_here d)))

      pub on-less : r.status ≡ 1 → left (N T n) notes' r < left (N T n) notes w
      on-less d = (onward (moves (λ (z : r.status ≡ 3). three_one (sym z ∙ d)))).less

      -- no pair is to be entered
      pub on-end : (r.status ≡ 1 → ⊥) → Descended H T holds n n₁ t₁ w₁ notes' trail' r
      on-end c = go (waits_by more n code w.row) refl
        where
          go : (u : Bool) → waits_by more n code w.row ≡ u → Descended H T holds n n₁ t₁ w₁ notes' trail' r
          go false d =
              let a = h.less in
              let b = (onward d).less in
              let k = calm T holds n notes' trail' r (reached_now d).stands in
              record {
                reached = rw (before-other r k) (reached_now d);
                less = λ _ _. omega arith;
                down = λ z. absurd (c z);
                waited = λ z. absurd (k z);
              }
          go true d = subst (λ (m : Mem). Descended H T holds n n₁ t₁ w₁ m.notes m.trail m.walk) (sym (still_here d)) (here d)
            where
              here : waits_by more n code w.row ≡ true → Descended H T holds n n₁ t₁ w₁ notes trail (waiting w)
              here d =
                  record {
                    reached = rw (before-waiting w h.down) h.reached;
                    less = λ _ z. absurd (z refl);
                    down = λ z. absurd (three_one z);
                    waited = λ _. record { some = omega arith; left = omega arith; waits = waits-is ∙ d };
                  }

      pub on-more : r.status ≡ 1 → Descending H T holds n n₁ t₁ w₁ notes' trail' r
      on-more c =
          let d = moves (λ (z : r.status ≡ 3). three_one (sym z ∙ c)) in
          let a = h.less in
          let b = (onward d).less in
          record { reached = reached_now d; less = omega arith; down = c }

-- ---- back until one is to be entered

pub record Retreating (H : Halting) (T : Layout) (holds : ℕ → ℕ → Bool) (n : ℕ) (n₁ t₁ : List ℕ) (w₁ : Walk) (notes trail : List ℕ) (w : Walk) : Type 0 where
  pub reached : Reached H T holds n n₁ t₁ (comes H T holds n n₁ t₁ w₁) notes trail w
  pub found : w.status ≡ 2 → ⊥
  pub less : left (N T n) notes w ≤ left (N T n) n₁ w₁

-- what is left, and below it the ways that the last open pair has left
abbrev pub behind : Layout → ℕ → List ℕ → List ℕ → Walk → ℕ
behind T n notes trail w = 4096 * left (N T n) notes w + rest T trail w

pub off_none : (H : Halting) (T : Layout) (holds : ℕ → ℕ → Bool) (n : ℕ) (n₁ t₁ : List ℕ) (w₁ : Walk) → Idle T holds n n₁ t₁ w₁ → Retreating H T holds n n₁ t₁ w₁ n₁ t₁ w₁
off_none H T holds n n₁ t₁ w₁ s = record { reached = reached_none H T holds n n₁ t₁ w₁ s.state; found = s.found; less = omega arith }

module _ (H : Halting) (T : Layout) (holds : ℕ → ℕ → Bool) (n : ℕ) (quiet : Quiet H T holds n) (n₁ t₁ : List ℕ) (w₁ : Walk) (notes trail : List ℕ) (w : Walk) (h : Retreating H T holds n n₁ t₁ w₁ notes trail w) where
  pub off_down : w.status ≡ 1 → Retreated H T holds n n₁ t₁ w₁ notes trail w
  off_down d = record { reached = h.reached; less = h.less; still = λ e. absurd (e d) }

  pub off_end : w.top ≤ 0 → Retreated H T holds n n₁ t₁ w₁ notes trail w
  off_end l = record { reached = h.reached; less = h.less; still = λ _. omega arith }

  pub off_halts : 0 < w.top → (w.status ≡ 1 → ⊥) → Backs T holds n notes trail w
  off_halts l d = record { idle = record { state = state_of_lem H T holds n n₁ t₁ notes trail w₁ w h.reached; down = d; found = h.found }; going = l }

  module _ (notes' trail' : List ℕ) (r : Walk) (o : Backward H T holds n notes trail w notes' trail' r) where
    pub off_more : Retreating H T holds n n₁ t₁ w₁ notes' trail' r
    off_more =
        let a = h.less in
        let b = o.less in
        record { reached = reached_on H T holds n n₁ t₁ _ notes trail w notes' trail' r h.reached o.reached; found = o.found; less = omega arith }

    few : (t : ℕ) → r.top ≡ t → rest_at T trail' t ≤ 2048
    unfolding rest_at
    few zero e = omega arith
    few (suc t) e =
        let g = o.reached.good in
        let d : Word T (get_or trail' t 0) = g.words t (omega arith) in
        elim (ℕ_discrete (way_in (get_or trail' t 0)) 0) [
          | yes z ↦ rw (left-none T (place_in (get_or trail' t 0)) (way_in (get_or trail' t 0)) z) (omega arith)
          | no z ↦
              let c : way_in (get_or trail' t 0) ≢ 0 = z in
              let l : 0 < way_in (get_or trail' t 0) = omega arith in
              let a = g.legal.sized.many (place_in (get_or trail' t 0)) d.place in
              rw (left-some T (place_in (get_or trail' t 0)) (way_in (get_or trail' t 0)) l) (omega arith)
        ]

    pub off_less : behind T n notes' trail' r < behind T n notes trail w
    off_less = elim (ℕ_discrete (left (N T n) notes' r) (left (N T n) notes w)) [
      | yes z ↦ let f = o.fewer z in omega arith
      | no z ↦ let c : left (N T n) notes' r ≢ left (N T n) notes w = z in let l = o.less in let f = few r.top refl in omega arith
    ]

-- ---- both in turn

pub record Running (H : Halting) (T : Layout) (holds : ℕ → ℕ → Bool) (n : ℕ) (n₁ t₁ : List ℕ) (w₁ : Walk) (notes trail : List ℕ) (w : Walk) : Type 0 where
  pub reached : Reached H T holds n n₁ t₁ (comes H T holds n n₁ t₁ w₁) notes trail w
  pub still : (w.status ≡ 1 → ⊥) → w.top ≡ 0

pub run_none : (H : Halting) (T : Layout) (holds : ℕ → ℕ → Bool) (n : ℕ) (n₁ t₁ : List ℕ) (w₁ : Walk) → Moves T holds n n₁ t₁ w₁ → Running H T holds n n₁ t₁ w₁ n₁ t₁ w₁
run_none H T holds n n₁ t₁ w₁ s = record { reached = reached_none H T holds n n₁ t₁ w₁ s.state; still = s.still }

module _ (H : Halting) (T : Layout) (holds : ℕ → ℕ → Bool) (n : ℕ) (quiet : Quiet H T holds n) (n₁ t₁ : List ℕ) (w₁ : Walk) (notes trail : List ℕ) (w : Walk) (h : Running H T holds n n₁ t₁ w₁ notes trail w) where
  pub run-goes : w.status ≡ 1 → Goes T holds n notes trail w
  run-goes d = record { state = state_of_lem H T holds n n₁ t₁ notes trail w₁ w h.reached; down = d }

  pub run_end : (w.status ≡ 1 → ⊥) → Ran H T holds n n₁ t₁ w₁ notes trail w
  run_end d =
      let k = calm T holds n notes trail w h.reached.stands in
      record {
        reached = rw (before-other w k) h.reached;
        over = record { down = λ e. absurd (d e); waited = λ e. absurd (k e); last = λ _ _ l. let z = h.still d in absurd (omega arith) };
      }

  module _ (n₂ t₂ : List ℕ) (w₂ : Walk) (d : Descended H T holds n notes trail w n₂ t₂ w₂) where
    on : Reached H T holds n n₁ t₁ (comes H T holds n n₁ t₁ w₁) n₂ t₂ (before w₂)
    on = reached_on H T holds n n₁ t₁ _ notes trail w n₂ t₂ (before w₂) h.reached d.reached

    -- a walk that does not wait stands where it is
    pub here : (w₂.status ≡ 3 → ⊥) → Reached H T holds n notes trail (comes H T holds n notes trail w) n₂ t₂ w₂
    here e = rw (before-other w₂ e) at d.reached

    -- END is open, or the walk has halted
    pub run-stop : (w₂.status ≡ 0 → ⊥) → Ran H T holds n n₁ t₁ w₁ n₂ t₂ w₂
    run-stop z =
        record {
          reached = on;
          over = record { down = d.down; waited = d.waited; last = λ a b l. (here b).stands.ends (found a b) };
        }
      where
        found : (w₂.status ≡ 1 → ⊥) → (w₂.status ≡ 3 → ⊥) → w₂.status ≡ 2
        found a b = let k = (here b).stands.known in omega (arith, z, a)

    -- going back: it does not ask which letters hold
    module _ (o : w₂.status ≡ 0) where
      pub moving : w₂.status ≡ 3 → ⊥
      moving e = zero-three (sym o ∙ e)

      unfoldable pub run_idling : Idling T n n₂ t₂ w₂
      run_idling =
          record {
            halting = H;
            holds = holds;
            quiet = quiet;
            idle = record { state = state_of_lem H T holds n notes trail n₂ t₂ w w₂ (here moving); down = λ (e : w₂.status ≡ 1). never (sym o ∙ e); found = λ (e : w₂.status ≡ 2). zero-two (sym o ∙ e) };
          }

      module _ (notes' trail' : List ℕ) (r : Walk) (back : (h : Idling T n n₂ t₂ w₂) → Retreated h.halting T h.holds n n₂ t₂ w₂ notes' trail' r) where
        retreated : Retreated H T holds n n₂ t₂ w₂ notes' trail' r
        unfolding run_idling
        retreated = back run_idling

        pub run_more : Running H T holds n n₁ t₁ w₁ notes' trail' r
        run_more = record { reached = reached_on H T holds n n₁ t₁ _ n₂ t₂ w₂ notes' trail' r (reached_on H T holds n n₁ t₁ _ notes trail w n₂ t₂ w₂ h.reached (here moving)) retreated.reached; still = retreated.still }

        pub run-less : left (N T n) notes' r < left (N T n) notes w
        run-less = let x = retreated.less in let y = d.less (λ (e : w₂.status ≡ 1). never (sym o ∙ e)) moving in omega arith

-- ---- the attempt

-- no pair is open, or END is on top
comes-out : (H : Halting) (T : Layout) (holds : ℕ → ℕ → Bool) (n : ℕ) (quiet : Quiet H T holds n) (notes trail : List ℕ) (w : Walk) → Good T holds n notes trail w → (0 < w.top → Ends T trail w)
    → resumed H T holds n notes trail w ≡ outcome_by (P T) w.top trail (bits_of notes (N T n)) w.steps
unfolding resumed stack resume outcome_by
comes-out H T holds n quiet notes trail w g last = go w.top refl
  where
    none : (t : ℕ) → t ≡ 0 → resume H (graph_of T holds n) (N T n) (stack (P T) trail t) (as_kept (bits_of notes (N T n)) w.steps) ≡ outcome_by (P T) t trail (bits_of notes (N T n)) w.steps
    none t e = rw e

    go : (t : ℕ) → w.top ≡ t → resume H (graph_of T holds n) (N T n) (stack (P T) trail w.top) (as_kept (bits_of notes (N T n)) w.steps) ≡ outcome_by (P T) w.top trail (bits_of notes (N T n)) w.steps
    go zero e = none w.top e
    go (suc t) e = let l : 0 < w.top = omega arith in top_end H T holds n quiet notes trail w g l (rw (last l).spot.place (last l).end)

-- what a walk that is over comes to
module _ (H : Halting) (T : Layout) (holds : ℕ → ℕ → Bool) (n : ℕ) (quiet : Quiet H T holds n) (notes trail : List ℕ) (w : Walk) where
  over_still : (w.status ≡ 3 → ⊥) → Good T holds n notes trail w → (w.status ≡ 1 → H.spent w.steps ≡ true) → ((w.status ≡ 1 → ⊥) → 0 < w.top → Ends T trail w)
      → comes H T holds n notes trail w ≡ result_by (P T) trail (bits_of notes (N T n)) w
  unfolding result_by
  over_still c g down last = elim (ℕ_discrete w.status 1) [
    | yes d ↦ comes-next H T holds n notes trail w d ∙ faces_halt H T holds n notes trail w (w.base + w.place) (down d) ∙ rw (eq-eqb w.status 1 d)
    | no d ↦ comes-idle H T holds n notes trail w d ∙ comes-out H T holds n quiet notes trail w g (last d) ∙ rw (ne_eqb w.status 1 d, ne_eqb w.status 3 c)
  ]

  -- one that waits halts with its pair open
  over_waits : w.status ≡ 3 → Waited H T w → H.spent (w.steps - 1) ≡ false → Good T holds n notes trail (before w)
      → comes H T holds n notes trail (before w) ≡ result_by (P T) trail (bits_of notes (N T n)) w
  unfolding before comes facing entering result_by
  over_waits c h u g =
      let e : suc (w.steps - 1) ≡ w.steps = let k = h.some in omega arith in
      rw (c, u, e)
      (resume-waits H (graph_of T holds n) g.legal.ρ (N T n) g.legal.falls (N T n) g.legal.bound (stack (P T) trail w.top) (bits_of notes (N T n)) w.steps (w.base + w.place) h.waits)

  pub over_comes : (spends : (s : ℕ) → s < T.limit → H.spent s ≡ false) (spent : (s : ℕ) → T.limit ≤ s → H.spent s ≡ true) → Good T holds n notes trail (before w) → Over H T trail w
      → comes H T holds n notes trail (before w) ≡ result_by (P T) trail (bits_of notes (N T n)) w
  over_comes spends spent g o = elim (ℕ_discrete w.status 3) [
    | yes c ↦ let h = o.waited c in over_waits c h (spends (w.steps - 1) (let k = h.some in let l = h.left in omega arith)) g
    | no c ↦
        let b = before-other w c in
        rw b (over_still c (rw b at g) (λ d. spent w.steps (o.down d)) (λ d. o.last d c))
  ]

module _ (T : Layout) (holds : ℕ → ℕ → Bool) (n : ℕ) (notes trail : List ℕ) (i s : ℕ) (h : Ready T holds n notes trail i s) where
  abbrev F : List Bool
  F = bits_of notes (N T n)

  first_below : i * P T + 0 < N T n
  first_below = pair-in (P T) n 0 i (i * P T) refl h.legal.sized.some (let r = h.row in omega arith)

  pub first_fits : i * P T < 18446744073709551616
  first_fits = let b = first_below in let m = h.legal.small in omega arith

  first-noted : Noted notes (i * P T + 0)
  first-noted = let b = first_below in let no = h.noted in let sm = h.legal.small in (omega arith, omega arith)

  pub first_small : i * P T + 0 < most_pairs
  first_small = first-noted.0

  pub first-inside : (i * P T + 0) / 8 < length notes
  first-inside = first-noted.1

  first_good : (d : ℕ) → Good T holds n notes trail (walk_at 0 s 0 i (i * P T) d)
  unfolding stack
  first_good d =
      let a = h.steps in
      record {
        legal = h.legal;
        noted = h.noted;
        trailed = h.trailed;
        opened = record { rising = tt; out = tt; pairs = tt };
        linked = tt;
        passing = tt;
        words = λ k l. absurd (not-suc-le-zero l);
        led = λ k l. absurd (not-suc-le-zero l);
        steps = omega arith;
      }

  first_next : bit_at notes (i * P T + 0) ≡ false → Next T holds n notes trail (walk_at 0 s 0 i (i * P T) 1) 0 i (i * P T)
  unfolding stack
  first_next o =
      record {
        good = first_good 1;
        place = h.legal.sized.some;
        base_is = refl;
        opened = record { rising = (tt, tt); out = (bits_of-at notes (N T n) (i * P T + 0) first_below ∙ o, tt); pairs = (first_below, tt) };
        linked = tt;
        led = λ l. absurd (not-suc-le-zero l);
      }

  bit_is : (b : Bool) → bit_at notes (i * P T + 0) ≡ b → get_or F (i * P T) false ≡ b
  bit_is b o = let z : i * P T + 0 ≡ i * P T = omega arith in rw z at (bits_of-at notes (N T n) (i * P T + 0) first_below ∙ o)

  first-stands : (b : Bool) → bit_at notes (i * P T + 0) ≡ b → Stands T holds n notes trail (walk_at 0 s 0 i (i * P T) (one_unless b))
  unfolding one_unless
  first-stands true o = record { next = λ d. absurd (never d); known = omega arith; stuck = λ _ _ l. absurd (not-suc-le-zero l); ends = λ d. absurd (zero-two d) }
  first-stands false o = record { next = λ _. first_next o; known = omega arith; stuck = λ d. absurd (d refl); ends = λ d. absurd (one-two d) }

  pub first-moves : (v : Walk) → v ≡ try_at notes 0 s 0 i (i * P T) → Moves T holds n notes trail v
  first-moves v e =
      rw e (record {
        state = record { good = first_good (one_unless (bit_at notes (i * P T + 0))); stands = first-stands (bit_at notes (i * P T + 0)) refl };
        still = λ _. refl;
      })

module _ (H : Halting) (T : Layout) (holds : ℕ → ℕ → Bool) (n : ℕ) (quiet : Quiet H T holds n) (notes trail : List ℕ) (i s : ℕ) (h : Ready T holds n notes trail i s) where
  first-same : (b : Bool) → bit_at notes (i * P T + 0) ≡ b → comes H T holds n notes trail (walk_at 0 s 0 i (i * P T) (one_unless b)) ≡ attempt_by H T holds n (bits_of notes (N T n)) s i
  unfolding comes facing resumed entering stack resume one_unless
  first-same true o = rw (bit_is T holds n notes trail i s h true o)
  first-same false o = rw (bit_is T holds n notes trail i s h false o) (go (H.spent s) refl)
    where
      go : (u : Bool) → H.spent s ≡ u
          → facing H T holds n notes trail (walk_at 0 s 0 i (i * P T) 1) (i * P T + 0) ≡ enter_unless false (H.spent s) (inside H (graph_of T holds n) (N T n)) (as_kept (bits_of notes (N T n)) s) (i * P T)
      go true d = rw d
      go false d =
          let z : i * P T + 0 ≡ i * P T = omega arith in
          rw (d, z) (resume-one H (graph_of T holds n) (N T n) (bits_of notes (N T n)) (suc s) (i * P T))

  module _ (v : Walk) (e : v ≡ try_at notes 0 s 0 i (i * P T)) where
    first-reached : Reached H T holds n notes trail (attempt_by H T holds n (bits_of notes (N T n)) s i) notes trail v
    first-reached =
        rw e (record {
          good = first_good T holds n notes trail i s h (one_unless (bit_at notes (i * P T + 0)));
          stands = first-stands T holds n notes trail i s h (bit_at notes (i * P T + 0)) refl;
          same = first-same (bit_at notes (i * P T + 0)) refl;
          notes_long = refl;
          trail_long = refl;
          notes_beyond = λ z l. refl;
          trail_beyond = λ k l. refl;
        })

    pub attempt-done : (spends : (s : ℕ) → s < T.limit → H.spent s ≡ false) (spent : (s : ℕ) → T.limit ≤ s → H.spent s ≡ true)
        → (notes' trail' : List ℕ) (r : Walk) → Ran H T holds n notes trail v notes' trail' r → Done H T holds n notes trail i s notes' trail' r
    attempt-done spends spent notes' trail' r d =
        let a : Reached H T holds n notes trail (attempt_by H T holds n (bits_of notes (N T n)) s i) notes' trail' (before r) =
        reached_on H T holds n notes trail _ notes trail v notes' trail' (before r) first-reached d.reached in
        record {
          same = sym a.same ∙ over_comes H T holds n quiet notes' trail' r spends spent a.good d.over;
          reached = a;
          over = d.over;
        }

-- the attempt by what halts it by the definition
module _ (T : Layout) (more : Bool) (holds : ℕ → ℕ → Bool) (n : ℕ) (notes trail : List ℕ) (i s : ℕ) (h : Ready T holds n notes trail i s) where
  abbrev halts : Halting
  halts = halts_in T more n

  fair : Fair halts T more n
  fair = halts-fair T h.legal.sized more n

  pub attempt-halts : (v : Walk) → v ≡ try_at notes 0 s 0 i (i * P T) → (notes' trail' : List ℕ) (r : Walk) → ((H : Halting) → Fair H T more n → Ran H T holds n notes trail v notes' trail' r)
      → Done halts T holds n notes trail i s notes' trail' r
  attempt-halts v e notes' trail' r d =
      attempt-done halts T holds n (fair_quiet halts T more holds n fair) notes trail i s h v e fair.spends (halts-spent T h.legal.sized more n) notes' trail' r (d halts fair)

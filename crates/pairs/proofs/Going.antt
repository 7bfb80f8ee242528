-- An attempt that goes on: opening a pair and leaving one keep what holds of it (`Good`, `Stands`),
-- the state comes to what it came to before, and less is left.
use mathlib.Core.Path.{◌≡◌, refl, sym, ap, ◌∙◌}
use mathlib.Core.List.{List, [], ◌∷◌, reverse_aux, map}
use mathlib.Core.Bool.{Bool, true, false, false≢true}
use mathlib.Core.Logic.{◌≢◌, inl, inr, ⊎_elim}
use mathlib.Core.Option.{none, some}
use Prim.Native.Nat.{ℕ, zero, suc, ◌+◌, ◌-◌, ◌*◌, ◌/◌, ◌%◌, ◌≤◌, ◌<◌}
use native.Mathlib.Nat.{le_of_suc-le-suc, not-suc-le-zero, div-lt_iff_lt-mul, mul_comm}
use native.Mathlib.Numerals.{add-one}
use native.Mathlib.Decide.{ℕ_discrete}
use native.Mathlib.Omega.{arith}
use lib.Arith.{digits_div}
use borrow.Author.Tests.{eq-eqb, ne_eqb}
use lib.ListN.{length, get_or, set, length-set}
use lib.Seq.{get_or-set_same, get_or-set_other}
use Rattle.rules.specs.Report.{bit_at}
use Rattle.rules.specs.Walk.{accept, try, Halting, out_of_steps, Outcome, found, halted, count_true, as_kept, tried}
use Rattle.laws.proofs.Machine.{first_open, resume-accept, resume-pop, resume-push, resume-spent, open_room, open_push, open_pop}
use Rattle.rules.specs.Working.{All, Open, bits_of, marked, resume}
use Rattle.laws.proofs.Notes.{bits_of-at, bits_from-length, bits_mark, bit-keep}
use Rattle.laws.proofs.Walk.{count-mark}
use Rattle.pairs.specs.declared.Walk.{Walk}
use Rattle.pairs.specs.Layout.{Layout, P, N, second, graph_of, passes_by, entry_of, most_pairs}
use Rattle.table.specs.Table.{ways_of, code_at}
use Rattle.pairs.specs.Step.{one_unless, place_in, row_in, way_in, pair_in, stack, walk_at, outcome_by}
use Rattle.pairs.specs.State.{Onto, Linked, Passing, Word, row_from, way_at, Led, Stuck, Good, Next, Stands, State, left, resumed, entering, facing, comes, Reached, Quiet, Roomy}
use Rattle.pairs.proofs.Ways.{second_is, pair_row, pair_place, ways-end, ways-are, leads_each}
use Rattle.pairs.proofs.Trails.{second-most, word_row, word-place, entry_place, entry_row, entry-way, stack-length, stack_push, stack_top, linked_under}

pub path_is : (P : ℕ) (trail : List ℕ) (F : List Bool) (s t : ℕ) → 0 < t → found (reverse_aux (stack P trail t) []) (as_kept F s) ≡ outcome_by P t trail F s
unfolding outcome_by
path_is P trail F s zero h = absurd (not-suc-le-zero h)
path_is P trail F s (suc t) h = refl

-- ---- room on the trail

module _ (T : Layout) (n : ℕ) (trail : List ℕ) where
  pub roomy_on : (trail' : List ℕ) (t s t' s' : ℕ) → length trail' ≡ length trail → t' + s ≤ t + s' → (s ≤ T.limit → s' ≤ T.limit) → Roomy T n trail t s → Roomy T n trail' t' s'
  roomy_on trail' t s t' s' len le most r =
      ⊎_elim (λ (a : N T n ≤ length trail). inl (rw len a)) (λ (b : (t + T.limit ≤ length trail + s) × (s ≤ T.limit)). inr (rw len (omega (arith, b.0, le)), most b.1)) r

  pub roomy_top : (t s : ℕ) → t ≤ N T n → Roomy T n trail t s → t ≤ length trail
  roomy_top t s l r = ⊎_elim (λ (a : N T n ≤ length trail). omega (arith, a, l)) (λ (b : (t + T.limit ≤ length trail + s) × (s ≤ T.limit)). omega (arith, b.0, b.1)) r

  pub roomy_next : (t s : ℕ) → t < N T n → s < T.limit → Roomy T n trail t s → t < length trail
  roomy_next t s l few r = ⊎_elim (λ (a : N T n ≤ length trail). omega (arith, a, l)) (λ (b : (t + T.limit ≤ length trail + s) × (s ≤ T.limit)). omega (arith, b.0, few)) r

-- ---- a good state

pub good_room : (T : Layout) (holds : ℕ → ℕ → Bool) (n : ℕ) (notes trail : List ℕ) (w : Walk) → Good T holds n notes trail w → w.top + count_true (bits_of notes (N T n)) ≤ N T n
good_room T holds n notes trail w g =
    rw (stack-length (P T) trail w.top) at (open_room g.legal.ρ (N T n) (bits_of notes (N T n)) (stack (P T) trail w.top) (bits_from-length notes (N T n) 0) g.opened)

-- it is one of the open pairs and the steps alone
unfoldable pub good_as : (T : Layout) (holds : ℕ → ℕ → Bool) (n : ℕ) (notes trail : List ℕ) (t s q r b d q' r' b' d' : ℕ)
    → Good T holds n notes trail (walk_at t s q r b d) → Good T holds n notes trail (walk_at t s q' r' b' d')
good_as T holds n notes trail t s q r b d q' r' b' d' g =
    record {
      legal = g.legal;
      noted = g.noted;
      trailed = g.trailed;
      opened = g.opened;
      linked = g.linked;
      passing = g.passing;
      words = g.words;
      led = g.led;
      steps = g.steps;
    }

-- the statuses differ
pub never : ◌≡◌ {A = ℕ} 0 1 → ⊥
never e = omega arith

pub zero-two : ◌≡◌ {A = ℕ} 0 2 → ⊥
zero-two e = omega arith

pub one-two : ◌≡◌ {A = ℕ} 1 2 → ⊥
one-two e = omega arith

pub two-one : ◌≡◌ {A = ℕ} 2 1 → ⊥
two-one e = omega arith

pub zero-three : ◌≡◌ {A = ℕ} 0 3 → ⊥
zero-three e = omega arith

-- a pair that is tried is not END and open
pub not-two : (b : Bool) → one_unless b ≡ 2 → ⊥
unfolding one_unless
not-two true e = zero-two e
not-two false e = one-two e

-- what a state comes to, where no pair is to be entered, and where one is
pub comes-idle : (H : Halting) (T : Layout) (holds : ℕ → ℕ → Bool) (n : ℕ) (notes trail : List ℕ) (w : Walk) → (w.status ≡ 1 → ⊥) → comes H T holds n notes trail w ≡ resumed H T holds n notes trail w
unfolding comes
comes-idle H T holds n notes trail w d = rw (ne_eqb w.status 1 d)

pub comes-next : (H : Halting) (T : Layout) (holds : ℕ → ℕ → Bool) (n : ℕ) (notes trail : List ℕ) (w : Walk) → w.status ≡ 1
    → comes H T holds n notes trail w ≡ facing H T holds n notes trail w (w.base + w.place)
unfolding comes
comes-next H T holds n notes trail w d = rw (eq-eqb w.status 1 d)

-- where a step is left the pair is entered, and where none is the walk halts
pub faces_on : (H : Halting) (T : Layout) (holds : ℕ → ℕ → Bool) (n : ℕ) (notes trail : List ℕ) (w : Walk) (x : ℕ) → H.spent w.steps ≡ false
    → facing H T holds n notes trail w x ≡ entering H T holds n notes trail w x
unfolding facing
faces_on H T holds n notes trail w x e = rw e

pub faces_halt : (H : Halting) (T : Layout) (holds : ℕ → ℕ → Bool) (n : ℕ) (notes trail : List ℕ) (w : Walk) (x : ℕ) → H.spent w.steps ≡ true
    → facing H T holds n notes trail w x ≡ halted out_of_steps (reverse_aux (stack (P T) trail w.top) []) (as_kept (bits_of notes (N T n)) w.steps)
unfolding facing
faces_halt H T holds n notes trail w x e = rw e

-- a state comes to itself
pub reached_none : (H : Halting) (T : Layout) (holds : ℕ → ℕ → Bool) (n : ℕ) (notes trail : List ℕ) (w : Walk) → State T holds n notes trail w
    → Reached H T holds n notes trail (comes H T holds n notes trail w) notes trail w
reached_none H T holds n notes trail w s =
    record { good = s.good; stands = s.stands; same = refl; notes_long = refl; trail_long = refl; notes_beyond = λ z l. refl; trail_beyond = λ k l. refl }

-- and on from a state that was reached
module _ (H : Halting) (T : Layout) (holds : ℕ → ℕ → Bool) (n : ℕ) (n₁ t₁ : List ℕ) (R : Outcome) (n₂ t₂ : List ℕ) (w₂ : Walk) (notes trail : List ℕ) (w : Walk) where
  pub reached_on : Reached H T holds n n₁ t₁ R n₂ t₂ w₂ → Reached H T holds n n₂ t₂ (comes H T holds n n₂ t₂ w₂) notes trail w → Reached H T holds n n₁ t₁ R notes trail w
  reached_on a b =
      record {
        good = b.good;
        stands = b.stands;
        same = b.same ∙ a.same;
        notes_long = b.notes_long ∙ a.notes_long;
        trail_long = b.trail_long ∙ a.trail_long;
        notes_beyond = λ z l. b.notes_beyond z l ∙ a.notes_beyond z l;
        trail_beyond = λ k l. b.trail_beyond k l ∙ a.trail_beyond k l;
      }

-- ---- the ways that a pair has tried

-- a note is not taken back
pub keeps-marked : (notes : List ℕ) (x : ℕ) → x / 8 < length notes → bit_at notes x ≡ false → (z : ℕ) → bit_at notes z ≡ true → bit_at (marked notes x) z ≡ true
keeps-marked notes x l o z e = bit-keep notes x z l o (λ (q : z ≡ x). false≢true (sym o ∙ sym (ap (bit_at notes) q) ∙ e)) ∙ e

module _ (T : Layout) (notes notes' : List ℕ) (e y : ℕ) (l : Led T notes e y) (keeps : (z : ℕ) → bit_at notes z ≡ true → bit_at notes' z ≡ true) where
  pub led_keeps : Led T notes' e y
  led_keeps = record { going = l.going; tried = λ m b d. keeps _ (l.tried m b d) }

  -- the pair above has failed too
  pub led_stuck : bit_at notes' y ≡ true → Stuck T notes' e
  led_stuck h = record {
    going = l.going;
    tried = λ m b. elim (ℕ_discrete (way_at T e m) y) [
      | yes d ↦ rw d h
      | no d ↦ keeps _ (l.tried m b d)
    ];
  }

-- ---- a pair is entered

module _ (H : Halting) (T : Layout) (holds : ℕ → ℕ → Bool) (n : ℕ) (quiet : Quiet H T holds n) (notes trail : List ℕ) (w : Walk) (q row base : ℕ) (h : Next T holds n notes trail w q row base)
    (few : w.steps < T.limit) where
  abbrev y : ℕ
  y = base + q

  abbrev G : List Bool
  G = bits_of notes (N T n)

  abbrev v : ℕ
  v = row * 2048 + entry_of T.words q

  -- what it comes to once the pair is entered
  abbrev then : Outcome
  then = entering H T holds n notes trail w y

  abbrev passing : Bool
  passing = passes_by holds n (code_at T.words q) row

  below : y < N T n
  below = h.opened.pairs.0

  pub next_row : row ≤ n
  next_row =
      let l : y < suc n * P T = rw (mul_comm (suc n) (P T)) below in
      let k : y / P T < suc n = (div-lt_iff_lt-mul h.good.legal.sized.some).1 l in
      let d : y / P T ≡ row = rw h.base_is (digits_div row h.place) in
      omega arith

  pub next-few : row ≤ 4096
  next-few = let a = next_row in let b = h.good.legal.rows in omega arith

  pub next-out : bit_at notes y ≡ false
  next-out = sym (bits_of-at notes (N T n) y below) ∙ h.opened.out.0

  room : w.top + 1 + count_true G ≤ N T n
  room =
      let r = open_room h.good.legal.ρ (N T n) G (y ∷ stack (P T) trail w.top) (bits_from-length notes (N T n) 0) h.opened in
      let l = stack-length (P T) trail w.top in
      omega arith

  pub next-noted : (y < most_pairs) × (y / 8 < length notes)
  next-noted = let b = below in let no = h.good.noted in let sm = h.good.legal.small in (omega arith, omega arith)

  pub next-room : w.top < length trail
  next-room = let r = room in roomy_next T n trail w.top w.steps (omega arith) few h.good.trailed

  pub next_small : w.top < most_pairs
  next_small = let r = room in let sm = h.good.legal.small in omega arith

  pub next-steps : w.steps + 1 < 18446744073709551616
  next-steps = let r = room in let st = h.good.steps in omega arith

  pub next_word : row * 2048 + entry_of T.words q < 4294967296
  unfolding entry_of second
  next_word =
      let s = second-most T q in
      let f = next-few in
      let p = h.place in
      let pf = h.good.legal.sized.few in
      omega arith

  keeps : (z : ℕ) → bit_at notes z ≡ true → bit_at (marked notes y) z ≡ true
  keeps = keeps-marked notes y next-noted.1 next-out

  -- it passes
  module _ (p : passing ≡ true) where
    pub v-place : place_in v ≡ q
    v-place = entry_place T h.good.legal.sized q row h.place next-few

    pub v-row : row_in v ≡ row
    v-row = entry_row T h.good.legal.sized q row h.place next-few

    pub v-way : way_in v ≡ second T q
    v-way = entry-way T h.good.legal.sized q row h.place next-few

    pair_is : pair_in (P T) v ≡ y
    pair_is = rw (v-place, v-row, h.base_is)

    stack_is : stack (P T) (set trail w.top v) (w.top + 1) ≡ y ∷ stack (P T) trail w.top
    stack_is = stack_push (P T) trail w.top v next-room ∙ ap (λ (z : ℕ). z ∷ stack (P T) trail w.top) pair_is

    y-passes : Passing T holds n y
    unfolding Passing
    y-passes = rw (h.base_is, pair_row T holds n q row h.place, pair_place T holds n q row h.place) p

    v-word : Word T v
    v-word =
        record {
          place = rw v-place h.place;
          some = λ l. rw v-place (rw v-way at l);
          behind = λ l. rw (v-place, v-way) (omega arith);
          before = λ l. let s = second_is T q (rw v-way at l) in rw (v-place, v-way) (omega (arith, s.0, s.1));
        }

    open_words : (k : ℕ) → k < w.top + 1 → Word T (get_or (set trail w.top v) k 0)
    open_words k l = elim (ℕ_discrete k w.top) [
      | yes e ↦ rw (e, get_or-set_same trail w.top v 0 next-room) v-word
      | no d ↦ let c : k ≢ w.top = d in rw (get_or-set_other trail w.top k v 0 d) (h.good.words k (omega arith))
    ]

    open_led : (k : ℕ) → suc k < w.top + 1 → Led T notes (get_or (set trail w.top v) k 0) (pair_in (P T) (get_or (set trail w.top v) (suc k) 0))
    open_led k l =
        let u : get_or (set trail w.top v) k 0 ≡ get_or trail k 0 = get_or-set_other trail w.top k v 0 (λ (e : k ≡ w.top). omega arith) in
        rw u (elim (ℕ_discrete (suc k) w.top) [
          | yes e ↦ last e
          | no d ↦ let c : suc k ≢ w.top = d in rw (get_or-set_other trail w.top (suc k) v 0 d) (h.good.led k (omega arith))
        ])
      where
        last : suc k ≡ w.top → Led T notes (get_or trail k 0) (pair_in (P T) (get_or (set trail w.top v) (suc k) 0))
        last e =
            let i : w.top - 1 ≡ k = omega arith in
            rw (e, get_or-set_same trail w.top v 0 next-room, pair_is) (rw i at (h.led (omega arith)))

    pub open_good : (d : ℕ) → Good T holds n notes (set trail w.top v) (walk_at (w.top + 1) (w.steps + 1) q row base d)
    open_good d =
        let g = h.good in
        let r = room in
        let s = g.steps in
        record {
          legal = g.legal;
          noted = g.noted;
          trailed = roomy_on T n trail (set trail w.top v) w.top w.steps (w.top + 1) (w.steps + 1) (length-set trail w.top v) (omega arith) (λ _. omega (arith, few)) g.trailed;
          opened = rw stack_is h.opened;
          linked = rw stack_is h.linked;
          passing = rw stack_is (y-passes, g.passing);
          words = open_words;
          led = open_led;
          steps = omega arith;
        }

    pub open_top : get_or (set trail w.top v) (w.top + 1 - 1) 0 ≡ v
    open_top = let o : w.top + 1 - 1 ≡ w.top = omega arith in rw (o, get_or-set_same trail w.top v 0 next-room)

    pub open_resumed : (d : ℕ) → resumed H T holds n notes (set trail w.top v) (walk_at (w.top + 1) (w.steps + 1) q row base d) ≡ then
    unfolding resumed entering
    open_resumed d = rw (stack_is, add-one w.steps)

    -- as it was before, but for the trail at the new pair
    pub open_reached : (r : Walk) → Good T holds n notes (set trail w.top v) r → Stands T holds n notes (set trail w.top v) r
        → comes H T holds n notes (set trail w.top v) r ≡ then → Reached H T holds n notes trail then notes (set trail w.top v) r
    open_reached r good stands same =
        let a = room in
        record {
          good = good;
          stands = stands;
          same = same;
          notes_long = refl;
          trail_long = length-set trail w.top v;
          notes_beyond = λ z l. refl;
          trail_beyond = λ k l. get_or-set_other trail w.top k v 0 (λ (e : k ≡ w.top). omega arith);
        }

    -- END is open
    pub open_end : 29 < code_at T.words q → Reached H T holds n notes trail then notes (set trail w.top v) (walk_at (w.top + 1) (w.steps + 1) q row base 2)
    open_end l = open_reached (walk_at (w.top + 1) (w.steps + 1) q row base 2) (open_good 2) stands (comes-idle H T holds n notes _ _ two-one ∙ open_resumed 2)
      where
        stands : Stands T holds n notes (set trail w.top v) (walk_at (w.top + 1) (w.steps + 1) q row base 2)
        stands =
            record {
              next = λ d. absurd (two-one d);
              stuck = λ _ d. absurd (d refl);
              ends = λ _. record { spot = rw open_top (record { place = v-place; row = v-row; base = h.base_is }); end = l };
              known = omega arith;
            }

    pub open_less : (k r b d : ℕ) → left (N T n) notes (walk_at (w.top + 1) (w.steps + 1) k r b d) < left (N T n) notes w
    unfolding left
    open_less k r b d = let a = room in omega arith

  -- no way of it is open
  module _ (still : H.waits y ≡ false) (ys : List ℕ) (tries : graph_of T holds n y ≡ try ys) (closed : first_open G ys ≡ none) where
    abbrev G' : List Bool
    G' = bits_of (marked notes y) (N T n)

    bits_is : G' ≡ set G y true
    bits_is = bits_mark notes (N T n) y below next-noted.1 next-out

    count-is : count_true G' ≡ suc (count_true G)
    count-is = rw bits_is (count-mark G y (rw (bits_from-length notes (N T n) 0) below) h.opened.out.0)

    shut-marked : bit_at (marked notes y) y ≡ true
    shut-marked =
        sym (bits_of-at (marked notes y) (N T n) y below) ∙ ap (λ (l : List Bool). get_or l y false) bits_is
        ∙ get_or-set_same G y true false (rw (bits_from-length notes (N T n) 0) below)

    shut-good : Good T holds n (marked notes y) trail (walk_at w.top (w.steps + 1) w.place w.row w.base 0)
    unfolding marked
    shut-good =
        let g = h.good in
        let c = count-is in
        let r = room in
        let s = g.steps in
        record {
          legal = g.legal;
          noted = simp length-set g.noted;
          trailed = roomy_on T n trail trail w.top w.steps w.top (w.steps + 1) refl (omega arith) (λ _. omega (arith, few)) g.trailed;
          opened = rw bits_is (open_pop g.legal.ρ (N T n) G (stack (P T) trail w.top) y h.opened);
          linked = g.linked;
          passing = g.passing;
          words = g.words;
          led = λ k l. led_keeps T notes (marked notes y) _ _ (g.led k l) keeps;
          steps = omega arith;
        }

    shut-stands : Stands T holds n (marked notes y) trail (walk_at w.top (w.steps + 1) w.place w.row w.base 0)
    shut-stands = record { next = λ d. absurd (never d); ends = λ d. absurd (zero-two d); known = omega arith; stuck = λ _ _ l. led_stuck T notes (marked notes y) _ _ (h.led l) keeps shut-marked }

    shut-same : resumed H T holds n (marked notes y) trail (walk_at w.top (w.steps + 1) w.place w.row w.base 0) ≡ then
    unfolding resumed entering
    shut-same =
        rw (bits_is, add-one w.steps)
        (sym (resume-pop H (graph_of T holds n) h.good.legal.ρ (N T n) h.good.legal.falls (N T n) h.good.legal.bound (stack (P T) trail w.top) G (suc w.steps) y ys still tries closed))

    pub shut-reached : Reached H T holds n notes trail then (marked notes y) trail (walk_at w.top (w.steps + 1) w.place w.row w.base 0)
    unfolding marked
    shut-reached =
        let b = below in
        record {
          good = shut-good;
          stands = shut-stands;
          same = comes-idle H T holds n _ _ _ never ∙ shut-same;
          notes_long = length-set notes (y / 8) _;
          trail_long = refl;
          notes_beyond = λ z l. bit-keep notes y z next-noted.1 next-out (λ (e : z ≡ y). omega arith);
          trail_beyond = λ k l. refl;
        }

    pub shut-less : left (N T n) (marked notes y) (walk_at w.top (w.steps + 1) w.place w.row w.base 0) < left (N T n) notes w
    unfolding left
    shut-less = let r = room in let c = count-is in omega arith

-- ---- the first open way

-- all ways have failed
shut-all : (F : List Bool) (b : ℕ) (ks : List ℕ) → ((m : ℕ) → m < length ks → get_or F (b + get_or ks m 0) false ≡ true) → first_open F (map (λ k. b + k) ks) ≡ none
unfolding first_open
shut-all F b [] a = refl
shut-all F b (k ∷ ks) a = rw (a 0 (omega arith)) (shut-all F b ks (λ m l. a (suc m) (omega arith)))

-- those before way m have
first-at : (F : List Bool) (b : ℕ) (ks : List ℕ) (m : ℕ) → m < length ks → ((i : ℕ) → i < m → get_or F (b + get_or ks i 0) false ≡ true) → get_or F (b + get_or ks m 0) false ≡ false
    → first_open F (map (λ k. b + k) ks) ≡ some (b + get_or ks m 0)
unfolding first_open
first-at F b [] m l a o = absurd (not-suc-le-zero l)
first-at F b (k ∷ ks) zero l a o = rw o
first-at F b (k ∷ ks) (suc m) l a o = rw (a 0 (omega arith)) (first-at F b ks m (le_of_suc-le-suc l) (λ i j. a (suc i) (omega arith)) o)

each_map : (Q : ℕ → Type 0) (b : ℕ) (ks : List ℕ) → All Q (map (λ k. b + k) ks) → (m : ℕ) → m < length ks → Q (b + get_or ks m 0)
each_map Q b [] a m l = absurd (not-suc-le-zero l)
each_map Q b (k ∷ ks) a zero l = a.0
each_map Q b (k ∷ ks) a (suc m) l = each_map Q b ks a.1 m (le_of_suc-le-suc l)

-- ---- the last open pair

module _ (H : Halting) (T : Layout) (holds : ℕ → ℕ → Bool) (n : ℕ) (quiet : Quiet H T holds n) (notes trail : List ℕ) (w : Walk) (g : Good T holds n notes trail w) (going : 0 < w.top) where
  abbrev e : ℕ
  e = get_or trail (w.top - 1) 0

  abbrev x : ℕ
  x = pair_in (P T) e

  abbrev F : List Bool
  F = bits_of notes (N T n)

  pub top_word : Word T e
  top_word = g.words (w.top - 1) (omega arith)

  top_is : stack (P T) trail w.top ≡ x ∷ stack (P T) trail (w.top - 1)
  top_is = stack_top (P T) trail w.top going

  opened : Open g.legal.ρ (N T n) F (x ∷ stack (P T) trail (w.top - 1))
  opened = rw top_is at g.opened

  linked : Linked T (x ∷ stack (P T) trail (w.top - 1))
  linked = rw top_is at g.linked

  pub top_below : x < N T n
  top_below = opened.pairs.0

  pub top_out : bit_at notes x ≡ false
  top_out = sym (bits_of-at notes (N T n) x top_below) ∙ opened.out.0

  pub top_byte : x / 8 < length notes
  top_byte = let b = top_below in let no = g.noted in omega arith

  row_is : x / P T ≡ row_in e
  row_is = word_row T e top_word.place

  place_is : x % P T ≡ place_in e
  place_is = word-place T e top_word.place

  pub top_row : row_in e ≤ n
  top_row =
      let l : x < suc n * P T = rw (mul_comm (suc n) (P T)) top_below in
      let q : x / P T < suc n = (div-lt_iff_lt-mul g.legal.sized.some).1 l in
      rw row_is at (le_of_suc-le-suc q)

  -- the last open pair passes
  pub top_passes : passes_by holds n (code_at T.words (place_in e)) (row_in e) ≡ true
  unfolding Passing
  top_passes =
      let a : All (Passing T holds n) (x ∷ stack (P T) trail (w.top - 1)) = rw top_is at g.passing in
      rw (row_is, place_is) at a.0

  x-passes : Passing T holds n x
  x-passes = let a : All (Passing T holds n) (x ∷ stack (P T) trail (w.top - 1)) = rw top_is at g.passing in a.0

  -- END is on top: the open pairs are the path
  pub top_end : 29 < code_at T.words (place_in e) → resumed H T holds n notes trail w ≡ outcome_by (P T) w.top trail (bits_of notes (N T n)) w.steps
  unfolding resumed
  top_end h =
      let d : graph_of T holds n x ≡ accept = ways-end T holds n (place_in e) (row_in e) top_word.place h in
      let a : resume H (graph_of T holds n) (N T n) (stack (P T) trail w.top) (as_kept F w.steps) ≡ found (reverse_aux (stack (P T) trail w.top) []) (as_kept F w.steps) =
      rw top_is (resume-accept H (graph_of T holds n) g.legal.ρ (N T n) g.legal.falls (N T n) g.legal.bound (stack (P T) trail (w.top - 1)) F w.steps x (quiet x x-passes) d) in
      a ∙ path_is (P T) trail F w.steps w.top going

  module _ (more : code_at T.words (place_in e) ≤ 29) where
    abbrev ks : List ℕ
    ks = ways_of T.words (place_in e)

    abbrev ys : List ℕ
    ys = map (λ k. row_from T e * P T + k) ks

    tries : graph_of T holds n x ≡ try ys
    unfolding row_from
    tries = ways-are T holds n (place_in e) (row_in e) top_word.place g.legal.sized top_passes more

    -- its way m
    module _ (m : ℕ) (l : m < length ks) where
      pub way_place : get_or ks m 0 < P T
      way_place = leads_each T holds n (place_in e) (row_in e) top_word.place g.legal.sized more (g.legal.leads (place_in e) top_word.place) m l

      way_ranks : (g.legal.ρ (way_at T e m) < g.legal.ρ x) × (x < N T n → way_at T e m < N T n)
      unfolding way_at
      way_ranks = each_map (λ z. (g.legal.ρ z < g.legal.ρ x) × (x < N T n → z < N T n)) (row_from T e * P T) ks (g.legal.falls x ys tries) m l

      pub way_below : way_at T e m < N T n
      way_below = way_ranks.1 top_below

      -- it is the next to be entered, where those before it have failed
      module _ (before : (i : ℕ) → i < m → bit_at notes (way_at T e i) ≡ true) (q row base : ℕ) (eq : q ≡ get_or ks m 0) (er : row ≡ row_from T e) (eb : base ≡ row * P T)
          (led : Led T notes e (base + q)) (out : bit_at notes (base + q) ≡ false) where
        y-is : base + q ≡ way_at T e m
        unfolding way_at
        y-is = rw (eb, er, eq)

        open_way : get_or F (way_at T e m) false ≡ false
        open_way = bits_of-at notes (N T n) (way_at T e m) way_below ∙ rw y-is at out

        first : first_open F ys ≡ some (way_at T e m)
        unfolding way_at
        first = first-at F (row_from T e * P T) ks m l (λ i j. bits_of-at notes (N T n) (way_at T e i) (below_each i j) ∙ before i j) open_way
          where
            below_each : (i : ℕ) → i < m → way_at T e i < N T n
            below_each i j = (each_map (λ z. (g.legal.ρ z < g.legal.ρ x) × (x < N T n → z < N T n)) (row_from T e * P T) ks (g.legal.falls x ys tries) i (omega arith)).1 top_below

        onto : Onto T x (base + q)
        unfolding Onto row_from
        onto = rw (place_is, row_is, eb, digits_div row (let p : q < P T = rw eq way_place in p)) er

        pub top_next : Next T holds n notes trail w q row base
        top_next =
            record {
              good = g;
              place = rw eq way_place;
              base_is = eb;
              opened = rw (top_is, y-is) (open_push g.legal.ρ (N T n) F (stack (P T) trail (w.top - 1)) x (way_at T e m) way_ranks.0 way_below open_way opened);
              linked = rw top_is (onto, linked);
              led = λ _. led;
            }

        pub next-same : facing H T holds n notes trail w (base + q) ≡ resumed H T holds n notes trail w
        unfolding resumed entering
        next-same = go (H.spent w.steps) refl
          where
            go : (b : Bool) → H.spent w.steps ≡ b → facing H T holds n notes trail w (base + q) ≡ resumed H T holds n notes trail w
            go true d =
                faces_halt H T holds n notes trail w (base + q) d
                ∙ rw top_is
                (sym (resume-spent H (graph_of T holds n) g.legal.ρ (N T n) g.legal.falls (N T n) g.legal.bound (stack (P T) trail (w.top - 1)) F w.steps x ys (way_at T e m)
                (quiet x x-passes) tries first d))
            go false d =
                faces_on H T holds n notes trail w (base + q) d
                ∙ rw (top_is, y-is)
                (sym (resume-push H (graph_of T holds n) g.legal.ρ (N T n) g.legal.falls (N T n) g.legal.bound (stack (P T) trail (w.top - 1)) F w.steps x ys (way_at T e m)
                (quiet x x-passes) tries first d (bits_from-length notes (N T n) 0) way_below open_way))

    -- all its ways have failed: it fails
    module _ (all : (m : ℕ) → m < length ks → bit_at notes (way_at T e m) ≡ true) where
      shut : first_open F ys ≡ none
      unfolding way_at
      shut = shut-all F (row_from T e * P T) ks (λ m l. bits_of-at notes (N T n) (way_at T e m) (way_below m l) ∙ all m l)

      abbrev F' : List Bool
      F' = bits_of (marked notes x) (N T n)

      marked-is : F' ≡ set F x true
      marked-is = bits_mark notes (N T n) x top_below top_byte top_out

      marked-count : count_true F' ≡ suc (count_true F)
      marked-count = rw marked-is (count-mark F x (rw (bits_from-length notes (N T n) 0) top_below) opened.out.0)

      marked-it : bit_at (marked notes x) x ≡ true
      marked-it =
          sym (bits_of-at (marked notes x) (N T n) x top_below) ∙ ap (λ (l : List Bool). get_or l x false) marked-is
          ∙ get_or-set_same F x true false (rw (bits_from-length notes (N T n) 0) top_below)

      module _ (q row base : ℕ) where
        abbrev under : Walk
        under = walk_at (w.top - 1) w.steps q row base 0

        leave_good : Good T holds n (marked notes x) trail under
        unfolding marked
        leave_good =
            let c = marked-count in
            let s = g.steps in
            let a : All (Passing T holds n) (x ∷ stack (P T) trail (w.top - 1)) = rw top_is at g.passing in
            record {
              legal = g.legal;
              noted = simp length-set g.noted;
              trailed = roomy_on T n trail trail w.top w.steps (w.top - 1) w.steps refl (omega arith) (λ l. l) g.trailed;
              opened = rw marked-is (open_pop g.legal.ρ (N T n) F (stack (P T) trail (w.top - 1)) x opened);
              linked = linked_under T x (stack (P T) trail (w.top - 1)) linked;
              passing = a.1;
              words = λ k l. g.words k (omega arith);
              led = λ k l. led_keeps T notes (marked notes x) _ _ (g.led k (omega arith)) (keeps-marked notes x top_byte top_out);
              steps = omega arith;
            }

        -- the pair below had tried it last
        leave_stands : Stands T holds n (marked notes x) trail under
        leave_stands =
            record { next = λ d. absurd (never d); ends = λ d. absurd (zero-two d); known = omega arith; stuck = λ _ _ l. below (w.top - 1) refl l }
          where
            below : (t : ℕ) → w.top - 1 ≡ t → 0 < t → Stuck T (marked notes x) (get_or trail (t - 1) 0)
            below zero d l = absurd (not-suc-le-zero l)
            below (suc t) d l =
                let i : suc t - 1 ≡ t = omega arith in
                let k : Led T notes (get_or trail t 0) (pair_in (P T) (get_or trail (suc t) 0)) = g.led t (omega arith) in
                rw i (led_stuck T notes (marked notes x) (get_or trail t 0) x (rw (← d) at k) (keeps-marked notes x top_byte top_out) marked-it)

        leave_same : resumed H T holds n (marked notes x) trail under ≡ resumed H T holds n notes trail w
        unfolding resumed
        leave_same =
            rw (top_is, marked-is)
            (sym (resume-pop H (graph_of T holds n) g.legal.ρ (N T n) g.legal.falls (N T n) g.legal.bound (stack (P T) trail (w.top - 1)) F w.steps x ys (quiet x x-passes) tries shut))

        pub leave_reached : Reached H T holds n notes trail (resumed H T holds n notes trail w) (marked notes x) trail under
        unfolding marked
        leave_reached =
            let b = top_below in
            record {
              good = leave_good;
              stands = leave_stands;
              same = comes-idle H T holds n _ _ _ never ∙ leave_same;
              notes_long = length-set notes (x / 8) _;
              trail_long = refl;
              notes_beyond = λ z l. bit-keep notes x z top_byte top_out (λ (e : z ≡ x). omega arith);
              trail_beyond = λ k l. refl;
            }

        pub leave_less : left (N T n) (marked notes x) under < left (N T n) notes w
        unfolding left
        leave_less =
            let r = good_room T holds n notes trail w g in
            let c = marked-count in
            omega arith

-- The last open pair tries a way, and the walk's pair is entered: it is open then, and tries its
-- first way, or it is END, or it has failed.
use mathlib.Core.Path.{◌≡◌, refl, sym, ap, ◌∙◌, subst}
use mathlib.Core.List.{List, [], ◌∷◌}
use mathlib.Core.Bool.{Bool, true, false, not, ◌&&◌}
use mathlib.Core.Option.{none}
use mathlib.Core.Logic.{◌≢◌}
use Prim.Native.Nat.{ℕ, suc, ◌+◌, ◌-◌, ◌*◌, ◌/◌, ◌%◌, ◌≤◌, ◌<◌, suc-le-suc}
use native.Mathlib.Nat.{mul_comm, not-suc-le-zero, suc-mul, mod-lt}
use native.Mathlib.Decide.{ℕ_discrete}
use native.Mathlib.Omega.{arith}
use lib.Arith.{digits_lt}
use lib.Dec.{ltb, eqb}
use lib.ListN.{length, get_or, set}
use borrow.Author.Tests.{ltb-true, ltb-false, lt-ltb, ne_eqb, lt-leb, le-leb}
use Rattle.rules.specs.Basics.{pick}
use Rattle.rules.specs.Report.{bit_at}
use Rattle.rules.specs.Places.{Place, p_letter, p_caret, p_dollar, p_fork, p_end}
use Rattle.rules.specs.Search.{asks_row, halting_of}
use Rattle.rules.specs.Walk.{try, Halting, tried}
use Rattle.laws.proofs.Machine.{first_open}
use Rattle.laws.proofs.Notes.{bits_of-at}
use Rattle.rules.specs.Working.{bits_of}
use Rattle.laws.proofs.Level.{and-true}
use Rattle.pairs.specs.declared.Walk.{Walk}
use Rattle.pairs.specs.Layout.{Layout, P, N, Sized, graph_of, passes_by, waits_by, halts_in, entry_of}
use Rattle.table.specs.Table.{ways_of, place_by, place_at, code_at, first_at}
use Rattle.pairs.specs.Step.{Mem, mem, place_in, walk_at, one_unless, try_at, opens, opened_by, open_if, waiting, entered_by, before, Noted, Enters}
use Rattle.pairs.specs.State.{Passing, Fair, row_from, way_at, reach, Led, Good, Next, Stands, resumed, entering, facing, comes, Reached, Goes, Onward, Quiet}
use Rattle.pairs.proofs.Ways.{in_length, in_at, ways-length, ways-first, ways-shut, ways-letter, takes-row, takes-no_row, leads_each}
use Rattle.pairs.proofs.Going.{good_as, never, zero-two, one-two, comes-idle, comes-next, faces_on, led_stuck, next-few, next-noted, next-out, next-room, next_small, next-steps, next_word, next_row, v-place, v-row, v-way, open_good, open_top, open_resumed, open_reached, open_end, open_less, shut-reached, shut-less, way_below, top_next, next-same}

pub pair-in : (P n q row base : ℕ) → base ≡ row * P → q < P → row ≤ n → base + q < P * suc n
pair-in P n q row base eb h l = rw (eb, mul_comm P (suc n)) (digits_lt (suc-le-suc l) h)

pub letter-in : (holds : ℕ → ℕ → Bool) (n c i : ℕ) → c < 26 → passes_by holds n c i ≡ true → i < n
unfolding passes_by
letter-in holds n c i e p = let d : (ltb i n && holds (c + 65) i) ≡ true = rw (lt-ltb c 26 e) at p in ltb-true i n (and-true _ _ d).0

-- the next pair is one of the open pairs and the steps alone
next-as : (T : Layout) (holds : ℕ → ℕ → Bool) (n : ℕ) (notes trail : List ℕ) (w : Walk) (q row base x r b d : ℕ) → Next T holds n notes trail w q row base
    → Next T holds n notes trail (walk_at w.top w.steps x r b d) q row base
unfolding good_as
next-as T holds n notes trail w q row base x r b d h =
    record {
      good = good_as T holds n notes trail w.top w.steps w.place w.row w.base w.status x r b d h.good;
      place = h.place;
      base_is = h.base_is;
      opened = h.opened;
      linked = h.linked;
      led = h.led;
    }

-- ---- the last open pair tries its way m, where the ways before it have failed and the next way is
-- the one behind it

module _ (H : Halting) (T : Layout) (holds : ℕ → ℕ → Bool) (n : ℕ) (quiet : Quiet H T holds n) (notes trail : List ℕ) (w : Walk) (g : Good T holds n notes trail w) (going : 0 < w.top)
    (more : code_at T.words (place_in (get_or trail (w.top - 1) 0)) ≤ 29) (m : ℕ) (inside : m < length (ways_of T.words (place_in (get_or trail (w.top - 1) 0))))
    (reaches : reach T (get_or trail (w.top - 1) 0) ≡ suc m) (before : (i : ℕ) → i < m → bit_at notes (way_at T (get_or trail (w.top - 1) 0) i) ≡ true)
    (q row base : ℕ) (eq : q ≡ get_or (ways_of T.words (place_in (get_or trail (w.top - 1) 0))) m 0) (er : row ≡ row_from T (get_or trail (w.top - 1) 0)) (eb : base ≡ row * P T) where
  abbrev e : ℕ
  e = get_or trail (w.top - 1) 0

  y-is : way_at T e m ≡ base + q
  unfolding way_at
  y-is = rw (eb, er, eq)

  led : Led T notes e (base + q)
  led = record {
    going = more;
    tried = λ i l d. elim (ℕ_discrete i m) [
      | yes z ↦ absurd (d (ap (way_at T e) z ∙ y-is))
      | no z ↦ let c : i ≢ m = z in before i (let k = reaches in omega arith)
    ];
  }

  pub turn_noted : Noted notes (base + q)
  turn_noted =
      let b : base + q < N T n = rw y-is at (way_below H T holds n quiet notes trail w g going more m inside) in
      let no = g.noted in
      let sm = g.legal.small in
      (omega arith, omega arith)

  abbrev State_of : Bool → Walk
  State_of b = walk_at w.top w.steps q row base (one_unless b)

  good : (b : Bool) → Good T holds n notes trail (State_of b)
  good b = good_as T holds n notes trail w.top w.steps w.place w.row w.base w.status q row base (one_unless b) g

  -- the pair has failed, or it is the next to be entered
  stands : (b : Bool) → bit_at notes (base + q) ≡ b → Stands T holds n notes trail (State_of b)
  unfolding one_unless
  stands true eb =
      record {
        next = λ d. absurd (never d);
        stuck = λ _ _ _. led_stuck T notes notes e (base + q) led (λ z h. h) eb;
        ends = λ d. absurd (zero-two d);
        known = omega arith;
      }
  stands false o =
      record {
        next = λ _. next-as T holds n notes trail w q row base q row base 1 (top_next H T holds n quiet notes trail w g going more m inside before q row base eq er eb led o);
        stuck = λ d. absurd (d refl);
        ends = λ d. absurd (one-two d);
        known = omega arith;
      }

  same : (b : Bool) → bit_at notes (base + q) ≡ b → comes H T holds n notes trail (State_of b) ≡ resumed H T holds n notes trail w
  unfolding resumed entering facing one_unless
  same true o = comes-idle H T holds n notes trail (State_of true) never
  same false o = comes-next H T holds n notes trail (State_of false) refl ∙ next-same H T holds n quiet notes trail w g going more m inside before q row base eq er eb led o

  pub turn_tried : Reached H T holds n notes trail (resumed H T holds n notes trail w) notes trail (try_at notes w.top w.steps q row base)
  turn_tried =
      record {
        good = good (bit_at notes (base + q));
        stands = stands (bit_at notes (base + q)) refl;
        same = same (bit_at notes (base + q)) refl;
        notes_long = refl;
        trail_long = refl;
        notes_beyond = λ z l. refl;
        trail_beyond = λ k l. refl;
      }

-- ---- the walk's pair is entered

module _ (H : Halting) (T : Layout) (holds : ℕ → ℕ → Bool) (n : ℕ) (quiet : Quiet H T holds n) (notes trail : List ℕ) (w : Walk) (h : Goes T holds n notes trail w)
    (unspent : H.spent w.steps ≡ false) (few : w.steps < T.limit) where
  abbrev q : ℕ
  q = w.place

  abbrev c : ℕ
  c = code_at T.words q

  abbrev k : ℕ
  k = first_at T.words q

  abbrev v : ℕ
  v = w.row * 2048 + entry_of T.words q

  abbrev passing : Bool
  passing = passes_by holds n c w.row

  nx : Next T holds n notes trail w q w.row w.base
  nx = h.state.stands.next h.down

  some-way : 0 < length (ways_of T.words q)
  some-way = rw (ways-length T q) (omega arith)

  first-place : c ≤ 29 → k < P T
  first-place l = rw (ways-first T q) at (leads_each T holds n q w.row nx.place nx.good.legal.sized l (nx.good.legal.leads q nx.place) 0 some-way)

  ahead-is : w.base + P T ≡ (w.row + 1) * P T
  ahead-is = let o : w.row + 1 ≡ suc w.row = omega arith in rw (o, suc-mul w.row (P T), nx.base_is)

  noted : (x : ℕ) → x < N T n → Noted notes x
  noted x l = let no = nx.good.noted in let sm = nx.good.legal.small in (omega arith, omega arith)

  pub goes_enters : Enters T n notes trail w
  goes_enters =
      let z = nx.good.legal.sized in
      record {
        place = nx.place;
        words = let l = z.long in let p = nx.place in omega arith;
        places = z.few;
        one = z.one q nx.place;
        row = next_row H T holds n quiet notes trail w q w.row w.base nx few;
        few = next-few H T holds n quiet notes trail w q w.row w.base nx few;
        noted = next-noted H T holds n quiet notes trail w q w.row w.base nx few;
        out = next-out H T holds n quiet notes trail w q w.row w.base nx few;
        word = next_word H T holds n quiet notes trail w q w.row w.base nx few;
        room = next-room H T holds n quiet notes trail w q w.row w.base nx few;
        small = next_small H T holds n quiet notes trail w q w.row w.base nx few;
        steps = next-steps H T holds n quiet notes trail w q w.row w.base nx few;
        near = λ e. z.near q nx.place e;
        letter = λ l r. noted (w.base + P T + k) (pair-in (P T) n k (w.row + 1) (w.base + P T) ahead-is (first-place (omega arith)) (omega arith));
        other = λ _ l. noted (w.base + k) (pair-in (P T) n k w.row w.base nx.base_is (first-place l) (next_row H T holds n quiet notes trail w q w.row w.base nx few));
      }

  abbrev OnTo : Mem → Type 0
  OnTo m = Onward H T holds n notes trail w m.notes m.trail m.walk

  comes-is : entering H T holds n notes trail w (w.base + q) ≡ comes H T holds n notes trail w
  comes-is = sym (comes-next H T holds n notes trail w h.down ∙ faces_on H T holds n notes trail w (w.base + q) unspent)

  to : (notes' trail' : List ℕ) (r : Walk) → Reached H T holds n notes trail (entering H T holds n notes trail w (w.base + q)) notes' trail' r
      → Reached H T holds n notes trail (comes H T holds n notes trail w) notes' trail' r
  to notes' trail' r a = rw comes-is at a

  -- it is open, and tries its first way
  module _ (p : passing ≡ true) (l : c ≤ 29) (row base : ℕ) (er : row ≡ row_from T v) (eb : base ≡ row * P T) where
    abbrev trail₁ : List ℕ
    trail₁ = set trail w.top v

    abbrev w₁ : Walk
    w₁ = walk_at (w.top + 1) (w.steps + 1) q w.row w.base 0

    top_is : get_or trail₁ (w.top + 1 - 1) 0 ≡ v
    top_is = open_top H T holds n quiet notes trail w q w.row w.base nx few p

    place_is : place_in (get_or trail₁ (w.top + 1 - 1) 0) ≡ q
    place_is = rw top_is (v-place H T holds n quiet notes trail w q w.row w.base nx few p)

    reach-one : reach T (get_or trail₁ (w.top + 1 - 1) 0) ≡ 1
    unfolding reach
    reach-one = rw (top_is, v-place H T holds n quiet notes trail w q w.row w.base nx few p, v-way H T holds n quiet notes trail w q w.row w.base nx few p) (omega arith)

    first-tried : Reached H T holds n notes trail₁ (resumed H T holds n notes trail₁ w₁) notes trail₁ (try_at notes (w.top + 1) (w.steps + 1) k row base)
    first-tried =
        turn_tried H T holds n quiet notes trail₁ w₁ (open_good H T holds n quiet notes trail w q w.row w.base nx few p 0) (omega arith) (rw place_is l) 0 (rw place_is some-way) reach-one
        (λ i b. absurd (not-suc-le-zero b)) k row base (rw place_is (sym (ways-first T q))) (rw top_is er) eb

    onward : OnTo (mem notes trail₁ (try_at notes (w.top + 1) (w.steps + 1) k row base))
    onward =
        record {
          reached = to _ _ _
              (open_reached H T holds n quiet notes trail w q w.row w.base nx few p _ first-tried.good first-tried.stands
              (first-tried.same ∙ open_resumed H T holds n quiet notes trail w q w.row w.base nx few p 0));
          less = open_less H T holds n quiet notes trail w q w.row w.base nx few p k row base _;
        }

  -- a letter
  row-ahead : passing ≡ true → c < 26 → w.row + 1 ≡ row_from T v
  unfolding row_from
  row-ahead p l =
      rw (v-place H T holds n quiet notes trail w q w.row w.base nx few p, v-row H T holds n quiet notes trail w q w.row w.base nx few p, takes-row T holds n q w.row nx.place l)

  row_same : passing ≡ true → 26 ≤ c → w.row ≡ row_from T v
  unfolding row_from
  row_same p l =
      rw (v-place H T holds n quiet notes trail w q w.row w.base nx few p, v-row H T holds n quiet notes trail w q w.row w.base nx few p, takes-no_row T holds n q w.row nx.place l)
      (omega arith)

  opened : passing ≡ true → OnTo (mem notes (set trail w.top v) (opened_by c k (P T) notes w))
  unfolding opened_by
  opened p = go (ltb c 26) refl (ltb 29 c) refl
    where
      go : (a : Bool) → ltb c 26 ≡ a → (b : Bool) → ltb 29 c ≡ b
          → OnTo (mem notes (set trail w.top v) (pick a (try_at notes (w.top + 1) (w.steps + 1) k (w.row + 1) (w.base + P T))
          (pick b (walk_at (w.top + 1) (w.steps + 1) q w.row w.base 2) (try_at notes (w.top + 1) (w.steps + 1) k w.row w.base))))
      go true ea b eb = let l = ltb-true c 26 ea in onward p (omega arith) (w.row + 1) (w.base + P T) (row-ahead p l) ahead-is
      go false ea true eb =
          record {
            reached = to _ _ _ (open_end H T holds n quiet notes trail w q w.row w.base nx few p (ltb-true 29 c eb));
            less = open_less H T holds n quiet notes trail w q w.row w.base nx few p q w.row w.base 2;
          }
      go false ea false eb =
          let l = ltb-false c 26 ea in
          let m = ltb-false 29 c eb in
          onward p (omega arith) w.row w.base (row_same p (omega arith)) nx.base_is

  -- it fails at once, where none of its ways is open: it does not pass and has none, or it is a
  -- letter whose one pair has failed
  shuts : H.waits (w.base + q) ≡ false → (ys : List ℕ) → graph_of T holds n (w.base + q) ≡ try ys → first_open (bits_of notes (N T n)) ys ≡ none → OnTo (open_if false (mem notes trail w) c (entry_of T.words q) k (P T))
  unfolding open_if
  shuts still ys t e =
      record {
        reached = to _ _ _ (shut-reached H T holds n quiet notes trail w q w.row w.base nx few still ys t e);
        less = shut-less H T holds n quiet notes trail w q w.row w.base nx few still ys t e;
      }

  shut_none : H.waits (w.base + q) ≡ false → passing ≡ false → OnTo (open_if false (mem notes trail w) c (entry_of T.words q) k (P T))
  unfolding first_open
  shut_none still p = shuts still [] (rw nx.base_is (ways-shut T holds n q w.row nx.place p)) refl

  shut_one : H.waits (w.base + q) ≡ false → passing ≡ true → c < 26 → bit_at notes (w.base + P T + k) ≡ true → OnTo (open_if false (mem notes trail w) c (entry_of T.words q) k (P T))
  unfolding first_open
  shut_one still p l e =
      let r = letter-in holds n c w.row l p in
      let b : w.base + P T + k < N T n = pair-in (P T) n k (w.row + 1) (w.base + P T) ahead-is (first-place (omega arith)) (omega arith) in
      let o : w.row + 1 ≡ suc w.row = omega arith in
      shuts still ((w.base + P T + k) ∷ []) (rw (ahead-is, o, nx.base_is) (ways-letter T holds n q w.row nx.place l p)) (rw (bits_of-at notes (N T n) (w.base + P T + k) b, e))

  entered : H.waits (w.base + q) ≡ false → (p : Bool) → passing ≡ p → (a : Bool) → ltb c 26 ≡ a → (b : Bool) → bit_at notes (w.base + P T + k) ≡ b
      → OnTo (open_if (p && not (a && b)) (mem notes trail w) c (entry_of T.words q) k (P T))
  unfolding open_if
  entered still true ep true ea true eb = shut_one still ep (ltb-true c 26 ea) eb
  entered still true ep true ea false eb = opened ep
  entered still true ep false ea b eb = opened ep
  entered still false ep a ea b eb = shut_none still ep

  -- it does not wait
  pub goes_on : H.waits (w.base + q) ≡ false → (notes' trail' : List ℕ) (r : Walk) → mem notes' trail' r ≡ entered_by false passing (mem notes trail w) c (entry_of T.words q) k (P T)
      → Onward H T holds n notes trail w notes' trail' r
  unfolding entered_by opens
  goes_on still notes' trail' r e = subst OnTo (sym e) (entered still passing refl (ltb c 26) refl (bit_at notes (w.base + P T + k)) refl)

-- ---- an entered pair waits, or it does not

pub three_one : ◌≡◌ {A = ℕ} 3 1 → ⊥
three_one e = omega arith

-- the walk before the entry that waits, and before any other
pub before-waiting : (w : Walk) → w.status ≡ 1 → before (waiting w) ≡ w
unfolding before
before-waiting w d = let e : w.steps + 1 - 1 ≡ w.steps = omega arith in rw (e, ← d) refl

pub before-other : (w : Walk) → (w.status ≡ 3 → ⊥) → before w ≡ w
unfolding before
before-other w d = rw (ne_eqb w.status 3 d) refl

-- a pair that passes does not wait
pub fair_quiet : (H : Halting) (T : Layout) (more : Bool) (holds : ℕ → ℕ → Bool) (n : ℕ) → Fair H T more n → Quiet H T holds n
unfolding Passing waits_by
fair_quiet H T more holds n f x p = f.waits x ∙ go (ltb (code_at T.words (x % P T)) 26) refl
  where
    none : (b : Bool) → (b && false) ≡ false
    none true = refl
    none false = refl

    go : (b : Bool) → ltb (code_at T.words (x % P T)) 26 ≡ b → (more && (b && not (ltb (x / P T) n))) ≡ false
    go false e = none more
    go true e = let l = letter-in holds n (code_at T.words (x % P T)) (x / P T) (ltb-true _ 26 e) p in rw (lt-ltb (x / P T) n l) (none more)

-- what halts a walk by the definition is fair to it
module _ (T : Layout) (sized : Sized T) (more : Bool) (n : ℕ) where
  asks-is : (q : ℕ) → asks_row (place_at T.words q) ≡ ltb (code_at T.words q) 26
  unfolding place_at place_by
  asks-is q = go (ltb (code_at T.words q) 26) (eqb (code_at T.words q) 26) (eqb (code_at T.words q) 27) (ltb (code_at T.words q) 30)
    where
      go : (a b c d : Bool) → asks_row (pick a (p_letter (code_at T.words q + 65) (first_at T.words q)) (pick b (p_caret (first_at T.words q)) (pick c (p_dollar (first_at T.words q)) (pick d (p_fork (ways_of T.words q)) p_end)))) ≡ a
      go true b c d = refl
      go false true c d = refl
      go false false true d = refl
      go false false false true = refl
      go false false false false = refl

  waits-is : (x : ℕ) → (halts_in T more n).waits x ≡ waits_by more n (code_at T.words (x % P T)) (x / P T)
  unfolding halts_in halting_of waits_by
  waits-is x =
      rw (in_length T.words (P T), in_at T.words (P T) (x % P T) (mod-lt x sized.some), asks-is (x % P T)) refl

  pub halts-fair : Fair (halts_in T more n) T more n
  unfolding halts_in halting_of
  halts-fair = record { spends = λ s l. lt-leb T.limit s l; waits = waits-is }

  pub halts-spent : (s : ℕ) → T.limit ≤ s → (halts_in T more n).spent s ≡ true
  unfolding halts_in halting_of
  halts-spent s l = le-leb T.limit s l

-- What the small functions do, one law for each way through their code: a letter, a place that
-- passes, a pair entered or tried, and the way behind a way.
use mathlib.Core.Path.{◌≡◌, refl, sym, ap, ◌∙◌}
use mathlib.Core.List.{List}
use mathlib.Core.Bool.{Bool, true, false, not, ◌&&◌, false≢true, true≢false}
use Prim.Native.Nat.{ℕ, ◌+◌, ◌-◌, ◌*◌, ◌/◌, ◌≤◌, ◌<◌}
use native.Mathlib.Omega.{arith}
use lib.Dec.{eqb, ltb}
use lib.IntN.{ℤ}
use lib.ListN.{length, set}
use borrow.Author.Tests.{ne_eqb, lt-ltb, le-ltb}
use Rattle.rules.specs.Basics.{pick}
use Rattle.rules.specs.Report.{bit_at}
use Rattle.rules.specs.Rows.{table_of, holds}
use Rattle.rules.specs.Working.{marked}
use Rattle.table.specs.Tests.{test_at, condition_in, holds_in}
use Rattle.pairs.specs.declared.Walk.{Walk}
use Rattle.table.specs.Table.{code_at, first_at, count_at}
use Rattle.pairs.specs.Layout.{layout, P, entry_of, passes_by, waits_by, most_pairs}
use Rattle.pairs.specs.Step.{one_unless, mem, walk_at, try_at, after, opens, opened_by, open_if, entered_by, absent_notes, absent_status, Noted, Enters}

-- ---- a letter

pub letter-is : (T : List ℕ) (tests columns : ℕ) (rows : List ℤ) (n c row : ℕ) (r : Bool) → c < 26
    → r ≡ (ltb row n && holds (table_of columns rows) row (condition_in T columns (test_at tests c))) → r ≡ passes_by (holds_in T tests columns rows) n c row
unfolding holds_in passes_by
letter-is T tests columns rows n c row r h d = let z : c + 65 - 65 ≡ c = omega arith in rw (lt-ltb c 26 h, z) d

-- ---- a place passes

module _ (holds : ℕ → ℕ → Bool) (n c i : ℕ) where
  pub passes_caret : c ≡ 26 → eqb i 0 ≡ passes_by holds n c i
  unfolding passes_by
  passes_caret e = rw e

  pub passes_dollar : c ≡ 27 → eqb i n ≡ passes_by holds n c i
  unfolding passes_by
  passes_dollar e = rw e

  pub passes_any : 26 ≤ c → (c ≡ 26 → ⊥) → (c ≡ 27 → ⊥) → true ≡ passes_by holds n c i
  unfolding passes_by
  passes_any l a b = rw (le-ltb c 26 l, ne_eqb c 26 a, ne_eqb c 27 b)

  pub passes_fork : c ≡ 28 → true ≡ passes_by holds n c i
  unfolding passes_by
  passes_fork e = rw e

pub shut-of : (b : Bool) → not b ≡ true → b ≡ false
shut-of true e = sym e
shut-of false e = refl

pub open_of : (b : Bool) → not b ≡ false → b ≡ true
open_of true e = refl
open_of false e = sym e

-- ---- a pair is tried, and entered

pub is_one : (f : Bool) → not f ≡ true → one_unless f ≡ 1
unfolding one_unless
is_one true e = absurd (false≢true e)
is_one false e = refl

pub is_zero : (f : Bool) → not f ≡ false → one_unless f ≡ 0
unfolding one_unless
is_zero true e = refl
is_zero false e = absurd (true≢false e)

pub tried-is : (notes : List ℕ) (top steps q row base : ℕ) (f : Bool) (d : ℕ) → f ≡ bit_at notes (base + q) → d ≡ one_unless f → walk_at top steps q row base d ≡ try_at notes top steps q row base
tried-is notes top steps q row base f d e g = rw (g, e)

module _ (notes trail : List ℕ) (w : Walk) (c v k P : ℕ) (p : Bool) (trail' : List ℕ) (et : trail' ≡ set trail w.top (w.row * 2048 + v)) (r : Walk) where
  pub entered-letter : true ≡ p → c < 26 → (x : ℕ) → x ≡ k → bit_at notes (w.base + P + x) ≡ false → r ≡ walk_at (w.top + 1) (w.steps + 1) x (w.row + 1) (w.base + P) 1
      → mem notes trail' r ≡ entered_by false p (mem notes trail w) c v k P
  unfolding entered_by opens open_if opened_by one_unless
  entered-letter e l x ex o er = let b : bit_at notes (w.base + P + k) ≡ false = rw ex at o in rw (← e, lt-ltb c 26 l, b, et, er, ex, lt-ltb c 26 l, b)

  pub entered-other : true ≡ p → 26 ≤ c → c ≤ 29 → (x : ℕ) → x ≡ k → r ≡ try_at notes (w.top + 1) (w.steps + 1) x w.row w.base → mem notes trail' r ≡ entered_by false p (mem notes trail w) c v k P
  unfolding entered_by opens open_if opened_by
  entered-other e l m x ex er = rw (← e, le-ltb c 26 l, et, er, ex, le-ltb c 26 l, le-ltb 29 c m)

  pub entered-end : true ≡ p → 29 < c → r ≡ walk_at (w.top + 1) (w.steps + 1) w.place w.row w.base 2 → mem notes trail' r ≡ entered_by false p (mem notes trail w) c v k P
  unfolding entered_by opens open_if opened_by
  entered-end e l er = let z : 26 ≤ c = omega arith in rw (← e, le-ltb c 26 z, et, er, le-ltb c 26 z, lt-ltb 29 c l)

-- it fails at once
module _ (notes trail : List ℕ) (w : Walk) (c v k P : ℕ) (p : Bool) (notes' : List ℕ) (en : notes' ≡ marked notes (w.base + w.place)) (r : Walk)
    (er : r ≡ walk_at w.top (w.steps + 1) w.place w.row w.base 0) where
  pub entered-shut : false ≡ p → mem notes' trail r ≡ entered_by false p (mem notes trail w) c v k P
  unfolding entered_by opens open_if
  entered-shut e = rw (← e, en, er)

  pub entered-stuck : true ≡ p → c < 26 → (x : ℕ) → x ≡ k → bit_at notes (w.base + P + x) ≡ true → mem notes' trail r ≡ entered_by false p (mem notes trail w) c v k P
  unfolding entered_by opens open_if
  entered-stuck e l x ex o = let b : bit_at notes (w.base + P + k) ≡ true = rw ex at o in rw (← e, lt-ltb c 26 l, b, en, er)

-- a letter whose row is not there waits for it, or fails
module _ (notes : List ℕ) (w : Walk) (s : ℕ) (more : Bool) where
  abbrev pub Absent : List ℕ → Walk → Type 0
  Absent notes' r = (notes' ≡ absent_notes more notes (w.base + w.place)) × (r ≡ walk_at w.top s w.place w.row w.base (absent_status more))

  pub absent_more : more ≡ true → Absent notes (walk_at w.top s w.place w.row w.base 3)
  unfolding absent_notes absent_status
  absent_more e = rw e (refl, refl)

  pub absent_none : more ≡ false → (notes' : List ℕ) (r : Walk) → (notes' ≡ marked notes (w.base + w.place)) × (r ≡ walk_at w.top s w.place w.row w.base 0) → Absent notes' r
  unfolding absent_notes absent_status
  absent_none e notes' r f = rw e f

-- ---- the way behind a way

pub after_more : (count j : ℕ) → count ≤ 256 → j + 1 < count → (j + 1 ≡ after count j) × (j + 1 < 256)
unfolding after
after_more count j s h = (rw (lt-ltb (j + 1) count h), omega arith)

pub after_none : (count j : ℕ) → count ≤ j + 1 → (0 ≡ after count j) × (0 < 256)
unfolding after
after_none count j h = (rw (le-ltb (j + 1) count h), omega arith)

-- ---- what the trail holds of a place when it is entered

pub entry-one : (words : List ℕ) (q : ℕ) → count_at words q ≤ 1 → q ≡ entry_of words q
unfolding entry_of
entry-one words q h = rw (le-ltb 1 (count_at words q) h) (omega arith)

entry-two : (words : List ℕ) (q : ℕ) → 1 < count_at words q → q + 16777216 ≡ entry_of words q
unfolding entry_of
entry-two words q h = rw (lt-ltb 1 (count_at words q) h)

module _ (words : List ℕ) (q k : ℕ) (ek : k ≡ count_at words q) (few : q < 2048) where
  pub entry-with : 1 < k → (q + 16777216 ≡ entry_of words q) × (q + 16777216 < 16779264)
  entry-with h = (entry-two words q (omega (arith, ek, h)), omega arith)

  pub entry-without : k ≤ 1 → (q ≡ entry_of words q) × (q < 16779264)
  entry-without h = (entry-one words q (omega (arith, ek, h)), omega arith)

-- ---- what `enter` needs and does, one law for each way through its code

module _ (n : ℕ) (words : List ℕ) (P a : ℕ) (notes trail : List ℕ) (w : Walk) (h : Enters (layout words P a) n notes trail w) (c : ℕ) (ec : (c ≡ code_at words w.place) × (c < 65536)) where
  fork-noted : c ≡ 28 → Noted notes (w.base + (w.place + 1))
  fork-noted e = let z : code_at words w.place ≡ 28 = sym ec.0 ∙ e in rw (h.near z).0 at (h.other (omega arith) (omega arith))

  pub fork-small : c ≡ 28 → w.base + (w.place + 1) < most_pairs
  fork-small e = (fork-noted e).0

  pub fork-inside : c ≡ 28 → (w.base + (w.place + 1)) / 8 < length notes
  fork-inside e = (fork-noted e).1

  module _ (x : ℕ) (ex : (x ≡ first_at words w.place) × (x < 65536)) where
    anchor_noted : 26 ≤ c → c ≤ 29 → Noted notes (w.base + x)
    anchor_noted l m = rw ex.0 (h.other (omega (arith, ec.0)) (omega (arith, ec.0)))

    pub anchor_small : 26 ≤ c → c ≤ 29 → w.base + x < most_pairs
    anchor_small l m = (anchor_noted l m).0

    pub anchor_inside : 26 ≤ c → c ≤ 29 → (w.base + x) / 8 < length notes
    anchor_inside l m = (anchor_noted l m).1

    pub letter-inside : c < 26 → w.row < n → (w.base + P + x) / 8 < length notes
    letter-inside l t = let a : Noted notes (w.base + P + x) = rw ex.0 (h.letter (omega (arith, ec.0)) t) in a.1

-- whether a place waits: only a letter does, and only where there is no row
module _ (more : Bool) (n c i : ℕ) where
  never_more : (b : Bool) → (b && false) ≡ false
  never_more true = refl
  never_more false = refl

  still_other : 26 ≤ c → waits_by more n c i ≡ false
  unfolding waits_by
  still_other l = rw (le-ltb c 26 l) (never_more more)

  still_there : c < 26 → i < n → waits_by more n c i ≡ false
  unfolding waits_by
  still_there m l = rw (lt-ltb c 26 m, lt-ltb i n l) (never_more more)

absent_waits : (more : Bool) (n c i : ℕ) → c < 26 → n ≤ i → waits_by more n c i ≡ more
unfolding waits_by
absent_waits more n c i m l = rw (lt-ltb c 26 m, le-ltb i n l) (go more)
  where
    go : (b : Bool) → (b && true) ≡ b
    go true = refl
    go false = refl

absent_shut : (holds : ℕ → ℕ → Bool) (n c i : ℕ) → c < 26 → n ≤ i → false ≡ passes_by holds n c i
unfolding passes_by
absent_shut holds n c i m l = rw (lt-ltb c 26 m, le-ltb i n l) refl

module _ (holds : ℕ → ℕ → Bool) (n : ℕ) (words : List ℕ) (P a : ℕ) (more : Bool) (notes trail : List ℕ) (w : Walk) (h : Enters (layout words P a) n notes trail w) where
  abbrev code : ℕ
  code = code_at words w.place

  abbrev entry : ℕ
  entry = entry_of words w.place

  abbrev passing : Bool
  passing = passes_by holds n code w.row

  abbrev waits : Bool
  waits = waits_by more n code w.row

  -- what `enter` promises
  abbrev pub EntersTo : List ℕ → List ℕ → Walk → Type 0
  EntersTo notes' trail' r = mem notes' trail' r ≡ entered_by waits passing (mem notes trail w) code entry (first_at words w.place) P

  still_enters : waits ≡ false → (notes' trail' : List ℕ) (r : Walk) → mem notes' trail' r ≡ entered_by false passing (mem notes trail w) code entry (first_at words w.place) P → EntersTo notes' trail' r
  still_enters e notes' trail' r g = rw e g

  abbrev Pushed : ℕ → List ℕ → Type 0
  Pushed v trail' = trail' ≡ set trail w.top (w.row * 2048 + v)

  abbrev Fallen : List ℕ → Walk → Type 0
  Fallen notes' r = (notes' ≡ marked notes (w.base + w.place)) × (r ≡ walk_at w.top (w.steps + 1) w.place w.row w.base 0)

  module _ (c : ℕ) (ec : (c ≡ code) × (c < 65536)) where
    as_code : c ≡ code
    as_code = ec.0

    pushed : (v : ℕ) (trail' : List ℕ) → v ≡ entry → Pushed v trail' → trail' ≡ set trail w.top (w.row * 2048 + entry)
    pushed v trail' ev et = et ∙ rw ev

    pub enter-fork : c ≡ 28 → (v : ℕ) → v ≡ w.place + 16777216 → (trail' : List ℕ) → Pushed v trail' → (r : Walk)
        → r ≡ try_at notes (w.top + 1) (w.steps + 1) (w.place + 1) w.row w.base → EntersTo notes trail' r
    enter-fork e v ev trail' et r er =
        let z : code ≡ 28 = sym as_code ∙ e in
        let u : v ≡ entry = ev ∙ entry-two words w.place (h.near z).1 in
        still_enters (still_other more n code w.row (omega arith)) notes trail' r
        (entered-other notes trail w code entry (first_at words w.place) P passing trail' (pushed v trail' u et) r (passes_fork holds n code w.row z) (omega arith) (omega arith)
        (w.place + 1) (sym (h.near z).0) er)

    -- a letter whose row is not there
    pub enter-absent : c < 26 → n ≤ w.row → (notes' : List ℕ) (r : Walk) → Absent notes w (w.steps + 1) more notes' r → EntersTo notes' trail r
    unfolding absent_notes absent_status entered_by
    enter-absent l m notes' r f = rw (f.0, f.1, absent_waits more n code w.row (omega (arith, as_code, l)) m) (go more)
      where
        go : (b : Bool) → mem (pick b notes (marked notes (w.base + w.place))) trail (walk_at w.top (w.steps + 1) w.place w.row w.base (pick b 3 0))
            ≡ entered_by b passing (mem notes trail w) code entry (first_at words w.place) P
        go true = refl
        go false = entered-shut notes trail w code entry (first_at words w.place) P passing _ refl _ refl (absent_shut holds n code w.row (omega (arith, as_code, l)) m)

    module _ (still : waits ≡ false) (p : Bool) (ep : p ≡ passes_by holds n c w.row) where
      as_passing : p ≡ passing
      as_passing = ep ∙ ap (λ (x : ℕ). passes_by holds n x w.row) as_code

      -- it does not pass
      shut : not p ≡ true → (notes' : List ℕ) (r : Walk) → Fallen notes' r → EntersTo notes' trail r
      shut t notes' r f = still_enters still notes' trail r (entered-shut notes trail w code entry (first_at words w.place) P passing notes' f.0 r f.1 (sym (shut-of p t) ∙ as_passing))

      passes : not p ≡ false → true ≡ passing
      passes t = sym (open_of p t) ∙ as_passing

    -- a letter whose row is there
    module _ (l : c < 26) (there : w.row < n) (p : Bool) (ep : p ≡ passes_by holds n c w.row) where
      low : code < 26
      low = omega (arith, as_code, l)

      still_letter : waits ≡ false
      still_letter = still_there more n code w.row low there

      pub enter-shut : not p ≡ true → (notes' : List ℕ) (r : Walk) → Fallen notes' r → EntersTo notes' trail r
      enter-shut = shut still_letter p ep

      -- its next pair has failed or not
      module _ (t : not p ≡ false) (x : ℕ) (ex : (x ≡ first_at words w.place) × (x < 65536)) (f : Bool) (ef : f ≡ bit_at notes (w.base + P + x)) where
        pub enter-stuck : f ≡ true → (notes' : List ℕ) (r : Walk) → Fallen notes' r → EntersTo notes' trail r
        enter-stuck o notes' r g =
            still_enters still_letter notes' trail r
            (entered-stuck notes trail w code entry (first_at words w.place) P passing notes' g.0 r g.1 (passes still_letter p ep t) low x ex.0 (sym ef ∙ o))

        pub enter-letter : f ≡ false → (trail' : List ℕ) → Pushed w.place trail'
            → EntersTo notes trail' (walk_at (w.top + 1) (w.steps + 1) x (w.row + 1) (w.base + P) 1)
        enter-letter o trail' et =
            let v : w.place ≡ entry = entry-one words w.place (omega (arith, h.one (omega (arith, low)))) in
            still_enters still_letter notes trail' _
            (entered-letter notes trail w code entry (first_at words w.place) P passing trail' (pushed w.place trail' v et) _ (passes still_letter p ep t) low x ex.0 (sym ef ∙ o) refl)

    -- any other place, of which it is told whether it passes, whatever letters hold
    module _ (high : 26 ≤ c) (p : Bool) (ea : (holds : ℕ → ℕ → Bool) → p ≡ passes_by holds n c w.row) where
      still_anchor : waits ≡ false
      still_anchor = still_other more n code w.row (omega (arith, as_code, high))

      pub anchor_shut : not p ≡ true → (notes' : List ℕ) (r : Walk) → Fallen notes' r → EntersTo notes' trail r
      anchor_shut = shut still_anchor p (ea holds)

      module _ (t : not p ≡ false) (v : ℕ) (ev : (v ≡ entry) × (v < 16779264)) (trail' : List ℕ) (et : Pushed v trail') where
        pub enter-end : 29 < c → EntersTo notes trail' (walk_at (w.top + 1) (w.steps + 1) w.place w.row w.base 2)
        enter-end l =
            still_enters still_anchor notes trail' _
            (entered-end notes trail w code entry (first_at words w.place) P passing trail' (pushed v trail' ev.0 et) _ (passes still_anchor p (ea holds) t) (omega (arith, as_code, l)) refl)

        pub enter-anchor : c ≤ 29 → (x : ℕ) → (x ≡ first_at words w.place) × (x < 65536) → (r : Walk) → r ≡ try_at notes (w.top + 1) (w.steps + 1) x w.row w.base
            → EntersTo notes trail' r
        enter-anchor m x ex r er =
            still_enters still_anchor notes trail' r
            (entered-other notes trail w code entry (first_at words w.place) P passing trail' (pushed v trail' ev.0 et) r (passes still_anchor p (ea holds) t) (omega (arith, as_code, high)) (omega (arith, as_code, m)) x ex.0 er)

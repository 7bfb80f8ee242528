-- The ways through a call over a prepared query: the refusals by rank, and the call that is taken
-- up.
use mathlib.Core.Path.{◌≡◌, refl, ap, sym, ◌∙◌, subst}
use mathlib.Core.Bool.{Bool, true, false, not, ◌&&◌, ◌||◌, true≢false}
use mathlib.Core.List.{List, [], ◌∷◌}
use mathlib.Core.Logic.{inl, inr, ⊎_elim}
use mathlib.Core.Option.{Option, none, some}
use Prim.Native.Nat.{ℕ, ◌*◌, ◌%◌, ◌≤◌}
use native.Mathlib.Nat.{mul-le-mul}
use native.Mathlib.Omega.{arith}
use lib.Dec.{eqb, ltb, leb}
use lib.IntN.{ℤ}
use lib.ListN.{length, get_or, take, length-take}
use mir.Syntax.{w64}
use mir.Val.{Fits}
use borrow.Author.Tests.{ne_eqb, ltb-false, leb-true, le-leb}
use Rattle.std.specs.Prelude.{Ok, Err}
use Rattle.refusals.specs.Refusals.{answer_of, offset_of}
use Rattle.refusals.specs.declared.Refusal.{Refusal}
use Rattle.refusals.specs.declared.Refusal.TheVariants.{LooksAhead}
use Rattle.refusals.proofs.Numbers.{some_answer}
use Rattle.rules.specs.Basics.{every}
use Rattle.rules.specs.Query.{text_of, parts}
use Rattle.rules.specs.Language.{Tree, pattern}
use Rattle.rules.specs.Report.{bytes_for}
use Rattle.rules.specs.Walk.{pairs}
use Rattle.rules.specs.Answers.{P, F, Buffers, Test, first_of, query_tests, offset_at, refuses, refused}
use Rattle.rules.specs.Lots.{Named, Progress, looks_ahead, call_refusal, unchanged, arrived, call_of}
use Rattle.rules.specs.LotDemands.{Later}
use Rattle.laws.proofs.FirstTrue.{all_refuse, none_true}
use Rattle.laws.proofs.Level.{or-false, and-true}
use Rattle.reading.specs.Reading.{query_answer}
use Rattle.prepared.specs.Ready.{Ready, Given}
use Rattle.prepared.specs.declared.Prepared.{Prepared}
use Rattle.outcome.specs.Results.{lent}
use Rattle.lots.specs.declared.Feed.{Feed}
use Rattle.lots.specs.Feeds.{Within}
use Rattle.ahead.specs.Looking.{StandsFor}
use Rattle.lot_answers.specs.declared.Measured.{Measured}
use Rattle.lot_answers.specs.Lot.{Small, bad_numbers, lot_answer, NumbersOf}
use Rattle.lot_answers.proofs.Refusals.{refusal-query, refusal-ahead, refusal_is}
use Rattle.calls.specs.declared.Call.{Call}
use Rattle.calls.specs.declared.Fed.{Fed}
use Rattle.calls.specs.Calls.{Stands, taken_up, Made, Calls}
use Rattle.calls.specs.Steps.{before, after, refusing, measured_of, in_bounds, Told, Admits, Goes, Went}
use Rattle.calls.proofs.Unlimited.{limited, refusal-same, later-limited}
use Rattle.calls.proofs.Standing.{notes_long, trail_long, waits-going, waits-unended, lies_within, made_by, same-leaves, stands_limited, made-free}
use Rattle.calls.proofs.Taking.{taken_made}

-- ---- numbers for which no answer applies

record Good (m : Measured) : Type 0 where
  most : m.largest ≤ 4096
  few : m.present ≤ m.largest
  held : m.present * m.columns ≤ m.entries
  noted : bytes_for (pairs m.places m.largest) ≤ m.notes
  trailed : pairs m.places m.largest ≤ m.trail

abbrev four : Bool → Bool → Bool → Bool → List Test
four a b c d = (10, a) ∷ (11, b) ∷ (12, c) ∷ (21, d) ∷ []

four-refuse : (a b c d : Bool) → all_refuse (four a b c d) ≡ true
unfolding all_refuse every refuses
four-refuse a b c d = refl

good : (m : Measured) → lot_answer m ≡ 0 → Good m
unfolding lot_answer bad_numbers
good m e =
    let notes : Bool = ltb m.notes (bytes_for (pairs m.places m.largest)) in
    let trail : Bool = ltb m.trail (pairs m.places m.largest) in
    let fewer : Bool = ltb m.present m.before in
    let no : (i : ℕ) → (get_or (four (bad_numbers m) notes trail fewer) i (0, false)).1 ≡ false = none_true (four (bad_numbers m) notes trail fewer) (four-refuse (bad_numbers m) notes trail fewer) e in
    let a = or-false (ltb 4096 m.largest) (not (eqb (m.entries % m.columns) 0) || (ltb m.largest m.present || ltb m.entries (m.present * m.columns))) (no 0) in
    let b = or-false (not (eqb (m.entries % m.columns) 0)) (ltb m.largest m.present || ltb m.entries (m.present * m.columns)) a.1 in
    let c = or-false (ltb m.largest m.present) (ltb m.entries (m.present * m.columns)) b.1 in
    record {
      most = ltb-false 4096 m.largest a.0;
      few = ltb-false m.largest m.present c.0;
      held = ltb-false m.entries (m.present * m.columns) c.1;
      noted = ltb-false m.notes (bytes_for (pairs m.places m.largest)) (no 1);
      trailed = ltb-false m.trail (pairs m.places m.largest) (no 2);
    }

-- none of these answers has an offset
no_offset : (text : List ℕ) (m : Measured) → 0 ≡ offset_at text (lot_answer m)
unfolding offset_at lot_answer first_of
no_offset text m = go (bad_numbers m) (ltb m.notes (bytes_for (pairs m.places m.largest))) (ltb m.trail (pairs m.places m.largest)) (ltb m.present m.before)
  where
    go : (a b c d : Bool) → 0 ≡ offset_at text (first_of (four a b c d))
    go true b c d = refl
    go false true c d = refl
    go false false true d = refl
    go false false false true = refl
    go false false false false = refl

-- ---- what the code asks

bounds_within : (f : Feed) (labs : List ℕ) → in_bounds f (length labs) ≡ true → Within labs f
bounds_within f labs e =
    let a = and-true (leb f.matches f.row) (leb f.labels (length labs) && (leb f.opened f.steps && leb f.steps 4611686018427387904)) e in
    let b = and-true (leb f.labels (length labs)) (leb f.opened f.steps && leb f.steps 4611686018427387904) a.1 in
    let c = and-true (leb f.opened f.steps) (leb f.steps 4611686018427387904) b.1 in
    record { few = leb-true _ _ a.0; labels = leb-true _ _ b.0; opened = leb-true _ _ c.0; steps = leb-true _ _ c.1 }

within-bounds : (f : Feed) (labs : List ℕ) → Within labs f → in_bounds f (length labs) ≡ true
within-bounds f labs w =
    rw (le-leb f.matches f.row w.few, le-leb f.labels (length labs) w.labels, le-leb f.opened f.steps w.opened, le-leb f.steps 4611686018427387904 w.steps) refl

-- whether a call is refused
module _ (T : List ℕ) (p : Prepared) (c : Call) (entries notes trail labels : ℕ) (h : Bool) (eh : (q : List ℕ) → Ready q T p → h ≡ looks_ahead q) where
  abbrev m : Measured
  m = measured_of p c entries notes trail

  module _ {U : Type 0} where
    pub ahead_refused : h ≡ true → Admits {U = U} T p c entries notes trail labels (Err LooksAhead)
    ahead_refused t = record { ahead = h; is_ahead = eh; told = inl (t, refl) }

    pub numbers_refused : h ≡ false → (e : Refusal) → answer_of e ≡ lot_answer m → offset_of e ≡ 0 → Admits {U = U} T p c entries notes trail labels (Err e)
    numbers_refused f e a o = record { ahead = h; is_ahead = eh; told = inr (f, inl (a, o)) }

    pub bounds_refused : h ≡ false → ◌≡◌ {A = ℕ} 0 (lot_answer m) → (t : Bool) → t ≡ in_bounds c.feed labels → t ≡ false → (e : Refusal) → Admits {U = U} T p c entries notes trail labels (Err e)
    bounds_refused f a t et n e = record { ahead = h; is_ahead = eh; told = inr (f, inr (sym a, sym et ∙ n)) }

    pub admitted : h ≡ false → ◌≡◌ {A = ℕ} 0 (lot_answer m) → (t : Bool) → t ≡ in_bounds c.feed labels → t ≡ true → (u : U) → Admits {U = U} T p c entries notes trail labels (Ok u)
    admitted f a t et y u = record { ahead = h; is_ahead = eh; told = (f, (sym a, sym et ∙ y)) }

pub small : (T : List ℕ) (p : Prepared) → StandsFor T p → (c : Call) (entries notes trail : ℕ) → Small (measured_of p c entries notes trail)
small T p a c entries notes trail = record { some = a.ready.some_columns; most = a.ready.most_columns; few = a.ready.few }

-- what the proof of `admit` cites
pub ruleset admits = (small, ahead_refused, numbers_refused, bounds_refused, admitted)

module _ (T : List ℕ) (p : Prepared) (told : Told T (Ok p)) where
  ready_of : Ready told.query T p
  ready_of = told.given.told

  pub may_look : StandsFor T p
  may_look = record { query = told.query; ready = ready_of }

  module _ (c : Call) (rows : List ℤ) (notes trail : List ℕ) (labels : List ℕ) {U : Type 0} (u : U) (a : Admits T p c (length rows) (length notes) (length trail) (length labels) (Ok u)) where
    nums : Good (measured_of p c (length rows) (length notes) (length trail))
    nums = good (measured_of p c (length rows) (length notes) (length trail)) a.told.1.0

    pub entries_fit : Fits w64 (c.present * p.columns)
    entries_fit =
        let k : c.present * p.columns ≤ 4096 * 8 = mul-le-mul (let l : c.present ≤ 4096 = (let a = nums.most in let b = nums.few in omega arith) in l) ready_of.most_columns in
        record { fits = omega arith }

    pub part_long : c.present * p.columns ≡ length (take (c.present * p.columns) rows)
    part_long = let l = nums.held in let k = length-take (c.present * p.columns) rows in omega arith

    pub part_within : c.present * p.columns ≤ length rows
    part_within = nums.held

    pub may_go : Goes T p c (take (c.present * p.columns) rows) notes trail labels
    unfolding bytes_for
    may_go =
        let e = nums.noted in
        record {
          query = told.query;
          ready = ready_of;
          fed = record { most = nums.most; few = nums.few; all = sym part_long; noted = omega arith; trailed = nums.trailed };
          within = bounds_within c.feed labels a.told.1.1;
        }

-- ---- what a call comes to

module _ (T : List ℕ) (c : Call) (waiting : c.feed.answer ≡ 23) (rows : List ℤ) (notes trail : List ℕ) (numbers : List ℤ) (labels : List ℕ) where
  abbrev b : Buffers
  b = lent notes trail numbers labels

  -- it is refused, whatever was named
  abbrev Refused : List ℕ → ℕ → Type 0
  Refused q a = (s : Named) (pr : Progress) (rows₁ : List ℤ) → s.query ≡ q → Stands s pr rows₁ c.feed b → call_refusal s pr rows c.present ≡ a

  abbrev Keeps : List ℕ → Fed → Type 0
  Keeps q r = Calls (before c q rows notes trail numbers labels) (after r notes trail numbers labels)

  module _ (s : Named) (pr : Progress) (rows₁ : List ℤ) (st : Stands s pr rows₁ c.feed b) (a k : ℕ) (d : a ≡ 0 → ⊥) (e : call_refusal s pr rows c.present ≡ a)
      (ek : k ≡ offset_at (text_of s.query) a) where
    call-refused : call_of s pr (arrived rows c.present) c.last b ≡ unchanged pr (refused a k b)
    unfolding call_of
    call-refused = rw (waits-going s pr rows₁ c.feed b st waiting, waits-unended s pr rows₁ c.feed b st waiting, e, ne_eqb a 0 d, ek) refl

    not_taken : taken_up s pr rows c.present ≡ false
    unfolding taken_up
    not_taken = rw (waits-going s pr rows₁ c.feed b st waiting, waits-unended s pr rows₁ c.feed b st waiting, e, ne_eqb a 0 d) refl

    refused-made : (q : List ℕ) → Made s pr rows₁ (before c q rows notes trail numbers labels) (after (refusing c.feed a k) notes trail numbers labels)
    unfolding refused
    refused-made q =
        made_by s pr rows₁ (before c q rows notes trail numbers labels) (after (refusing c.feed a k) notes trail numbers labels) (unchanged pr (refused a k b)) false call-refused not_taken
        (same-leaves s (refused a k b)) st (λ _. (refl, refl))

  refused-keeps : (q : List ℕ) (a k : ℕ) → (a ≡ 0 → ⊥) → k ≡ offset_at (text_of q) a → Refused q a → (r : Fed) → r ≡ refusing c.feed a k → Keeps q r
  unfolding Calls
  refused-keeps q a k d ek by r er s pr rows₁ eq st later =
      subst (λ (x : Fed). Made s pr rows₁ (before c q rows notes trail numbers labels) (after x notes trail numbers labels)) (sym er)
      (refused-made s pr rows₁ st a k d (by s pr rows₁ eq st) (ek ∙ ap (λ (x : List ℕ). offset_at (text_of x) a) (sym eq)) q)

  own-refusal : (s : Named) (pr : Progress) (a : ℕ) → (a ≡ 0 → ⊥) → a ≡ query_answer s.query → call_refusal s pr rows c.present ≡ a
  unfolding query_answer
  own-refusal s pr a d e = refusal-query s pr rows c.present (λ h. d (e ∙ h)) ∙ sym e

  -- the query's own answer
  pub own_refuses : (e : Refusal) (r : Fed) → r ≡ refusing c.feed (answer_of e) (offset_of e) → (q : List ℕ) → Given q T (Err e) → Keeps q r
  own_refuses e r er q g =
      refused-keeps q (answer_of e) (offset_of e) (some_answer e) g.told.offset
      (λ s pr rows₁ eq st. own-refusal s pr (answer_of e) (some_answer e) (g.told.answer ∙ ap query_answer (sym eq))) r er

  module _ (p : Prepared) (h : Bool) (eh : (q : List ℕ) → Ready q T p → h ≡ looks_ahead q) where
    none_of : (q : List ℕ) → Ready q T p → first_of (query_tests q) ≡ 0
    unfolding query_answer
    none_of q g = g.none

    -- a query that looks ahead
    ahead-refuses : h ≡ true → (r : Fed) → r ≡ refusing c.feed 17 0 → (q : List ℕ) → Ready q T p → Keeps q r
    unfolding offset_at
    ahead-refuses t r er q g =
        refused-keeps q 17 0 (λ (e : 17 ≡ 0). absurd (omega arith)) refl
        (λ s pr rows₁ eq st. let y : Ready s.query T p = subst (λ (x : List ℕ). Ready x T p) (sym eq) g in refusal-ahead s pr rows c.present (none_of s.query y) (sym (eh s.query y) ∙ t)) r er

    module _ (f : h ≡ false) where
      abbrev n : ℕ
      n = lot_answer (measured_of p c (length rows) (length notes) (length trail))

      numbers_of : (s : Named) (pr : Progress) (rows₁ : List ℤ) → Ready s.query T p → Stands s pr rows₁ c.feed b → NumbersOf s pr rows c.present (measured_of p c (length rows) (length notes) (length trail))
      unfolding parts P F
      numbers_of s pr rows₁ y st =
          record {
            places = y.places_are ∙ ap (λ (o : Option (Tree pattern)). P o * F o) (sym y.has_tree);
            columns = y.columns_are;
            largest = st.largest;
            now_present = refl;
            before = st.present;
            entries = refl;
            notes = notes_long s pr rows₁ c.feed b st;
            trail = trail_long s pr rows₁ c.feed b st;
          }

      by-numbers : (q : List ℕ) → Ready q T p → Refused q n
      by-numbers q g s pr rows₁ eq st =
          let y : Ready s.query T p = subst (λ (x : List ℕ). Ready x T p) (sym eq) g in
          refusal_is s pr rows c.present (none_of s.query y) (sym (eh s.query y) ∙ f) (measured_of p c (length rows) (length notes) (length trail)) (numbers_of s pr rows₁ y st)

      -- answers 10, 11, 12 and 21
      numbers-refuse : (a : ℕ) → (a ≡ 0 → ⊥) → a ≡ n → (r : Fed) → r ≡ refusing c.feed a 0 → (q : List ℕ) → Ready q T p → Keeps q r
      numbers-refuse a d ea r er q g =
          refused-keeps q a 0 d (no_offset (text_of q) (measured_of p c (length rows) (length notes) (length trail)) ∙ ap (offset_at (text_of q)) (sym ea))
          (λ s pr rows₁ eq st. by-numbers q g s pr rows₁ eq st ∙ sym ea) r er

      -- numbers outside their bounds are those of no state that stands for anything
      bounds-refuse : in_bounds c.feed (length labels) ≡ false → (r : Fed) (q : List ℕ) → Keeps q r
      unfolding Calls
      bounds-refuse u r q s pr rows₁ eq st later =
          absurd (true≢false (sym (within-bounds c.feed labels (lies_within s pr rows₁ c.feed b st waiting)) ∙ u))

      -- the call is taken up
      taken : n ≡ 0 → (part : List ℤ) → part ≡ take (c.present * p.columns) rows → (notes' trail' : List ℕ) (numbers' : List ℤ) (labels' : List ℕ) (r : Fed)
          → Went T p c part notes trail numbers labels notes' trail' numbers' labels' r → (q : List ℕ) → Ready q T p → Calls (before c q rows notes trail numbers labels) (after r notes' trail' numbers' labels')
      unfolding Calls
      taken zn part ep notes' trail' numbers' labels' r w q g s pr rows₁ eq st later =
          let y : Ready s.query T p = subst (λ (x : List ℕ). Ready x T p) (sym eq) g in
          let granted : call_refusal s pr rows c.present ≡ 0 = by-numbers q g s pr rows₁ eq st ∙ zn in
          let l : Later s rows₁ rows pr.present c.present = later granted in
          ⊎_elim (λ (al : s.allowance ≡ some c.feed.allowance). taken_made s T p y c al q rows notes trail numbers labels pr rows₁ st waiting granted l part ep notes' trail' numbers' labels' r w)
          (λ (al : (s.allowance ≡ none) × (c.feed.allowance ≡ 18446744073709551615)).
          made-free s al.0 pr rows₁ (before c q rows notes trail numbers labels) (after r notes' trail' numbers' labels')
          (taken_made (limited s) T p y c (ap some (sym al.1)) q rows notes trail numbers labels pr rows₁ (stands_limited s al.0 pr rows₁ c.feed b al.1 st) waiting
          (refusal-same s pr rows c.present ∙ granted) (later-limited s rows₁ rows pr.present c.present l) part ep notes' trail' numbers' labels' r w)) st.allowance

  -- it is refused
  pub call_refuses : {U : Type 0} (p : Prepared) (e : Refusal) → Admits {U = U} T p c (length rows) (length notes) (length trail) (length labels) (Err e)
      → (r : Fed) → r ≡ refusing c.feed (answer_of e) (offset_of e) → (q : List ℕ) → Given q T (Ok p) → Keeps q r
  call_refuses p e a r er q g =
      ⊎_elim (λ (x : (a.ahead ≡ true) × (e ≡ LooksAhead)). ahead-refuses p a.ahead a.is_ahead x.0 r (er ∙ ap (λ (e : Refusal). refusing c.feed (answer_of e) (offset_of e)) x.1) q g.told)
      (λ x. ⊎_elim (λ y. numbers-refuse p a.ahead a.is_ahead x.0 (answer_of e) (some_answer e) y.0 r (er ∙ ap (refusing c.feed (answer_of e)) y.1) q g.told)
      (λ y. bounds-refuse p a.ahead a.is_ahead x.0 y.1 r q) x.1) a.told

  -- or taken up
  pub call_taken : {U : Type 0} (p : Prepared) (u : U) → Admits T p c (length rows) (length notes) (length trail) (length labels) (Ok u)
      → (part : List ℤ) → part ≡ take (c.present * p.columns) rows → (notes' trail' : List ℕ) (numbers' : List ℤ) (labels' : List ℕ) (r : Fed)
      → Went T p c part notes trail numbers labels notes' trail' numbers' labels' r → (q : List ℕ) → Given q T (Ok p) → Calls (before c q rows notes trail numbers labels) (after r notes' trail' numbers' labels')
  call_taken p u a part ep notes' trail' numbers' labels' r w q g = taken p a.ahead a.is_ahead a.told.0 a.told.1.0 part ep notes' trail' numbers' labels' r w q g.told

-- DEFINEs by the index of their bodies. At each index of the pass a letter's entry is 0, and then
-- its condition is that of the records to come; or it is not 0, and then it is the index of the
-- body of its DEFINE (`Slot`). Twice says how the entries tell of two DEFINEs for one letter.
use mathlib.Core.Path.{◌≡◌, refl, sym, ap, ◌∙◌}
use mathlib.Core.Bool.{Bool, true, false, ◌&&◌, ◌||◌}
use mathlib.Core.List.{List, [], ◌∷◌}
use Prim.Native.Nat.{ℕ, zero, suc, ◌+◌, ◌-◌, ◌≤◌, ◌<◌, max}
use native.Mathlib.Omega.{arith}
use lib.Dec.{eqb}
use lib.ListN.{length, get_or, set, length-set, replicate, length-replicate, get_or-replicate}
use lib.Seq.{get_or-set_same, get_or-set_other}
use borrow.Author.Tests.{eq-eqb, ne_eqb, eqb-true, eqb-false}
use Rattle.records.specs.declared.Read.TheVariants.{Record as whole, Cut}
use Rattle.records.specs.declared.Record.{Record as Whole}
use Rattle.rules.specs.Basics.{pick, keep, le16}
use Rattle.rules.specs.Rows.{all_of}
use Rattle.rules.specs.Query.{Record, record_at, kinds, one_of, some_of, none_left, is_define, is_measure, field, first_of_kind, columns_of, defined, comparisons_of, entries_of, condition_of, condition_from, measures_from}
use Rattle.laws.proofs.Truths.{entries-behind}
use Rattle.laws.proofs.Choice.{decided, clash, and_left, and_right}
use Rattle.records.specs.Read.{record_of, records_at, read_at}
use Rattle.query.specs.declared.Stage.TheVariants.{Defines}
use Rattle.query.specs.Order.{rest_of}
use Rattle.records.proofs.Reading.{found, read_more, field-first}
use Rattle.define_list.specs.Defines.{comparisons_at, kind_at, defined_at, Body}
use Rattle.query.specs.Ahead.{Ahead}
use Rattle.define_list.specs.Defines.{DefineRoom, PutDefine, DefinesRoom, PutDefines}
use Rattle.query.proofs.Going.{before-end, not-cut, this_fits, define_next, defines-over, Says, define_says, SaysEntries, postfix-says}
use Rattle.define_list.proofs.Twice.{Twice, twice-none, twice-more, twice-over}

-- ---- a letter's condition, by the record in front

-- a DEFINE is of kind 3 or 6
by_kind : {A : Type 0} (k : ℕ) → is_define k ≡ true → (k ≡ 3 → A) → (k ≡ 6 → A) → A
unfolding is_define
by_kind k e f g = decided (eqb k 3) (λ t. f (eqb-true k 3 t)) (λ t. g (eqb-true k 6 (let z : eqb k 6 ≡ true = simp t at e in z)))

module _ (s : List ℕ) (k b m : ℕ) (rs : List Record) (letter : ℕ) where
  in_front : condition_from s (record_of k b m ∷ rs) letter ≡ pick (is_define k && eqb (get_or s b 0) letter) (condition_of s (record_of k b m)) (condition_from s rs letter)
  unfolding condition_from
  in_front = ap (λ (x : ℕ). pick (is_define k && eqb x letter) (condition_of s (record_of k b m)) (condition_from s rs letter)) (field-first s k b m)

  its_own : is_define k ≡ true → get_or s b 0 ≡ letter → condition_from s (record_of k b m ∷ rs) letter ≡ condition_of s (record_of k b m)
  its_own e q = in_front ∙ simp (e, eq-eqb (get_or s b 0) letter q)

  another : is_define k ≡ true → (get_or s b 0 ≡ letter → ⊥) → condition_from s (record_of k b m ∷ rs) letter ≡ condition_from s rs letter
  another e q = in_front ∙ simp (e, ne_eqb (get_or s b 0) letter q)

  skip_front : is_define k ≡ true → first_of_kind 4 (record_of k b m ∷ rs) ≡ first_of_kind 4 rs
  unfolding first_of_kind
  skip_front e = simp (ne_eqb k 4 (λ q. by_kind k e (λ g. omega arith) (λ g. omega arith)))

  measures_front : is_define k ≡ true → measures_from s (record_of k b m ∷ rs) ≡ measures_from s rs
  unfolding measures_from
  measures_front e = simp (ne_eqb k 5 (λ q. by_kind k e (λ g. omega arith) (λ g. omega arith)))

-- ---- behind the DEFINEs

pub other-kind : (k i : ℕ) → k ≡ i → (i ≡ 3 → ⊥) → (i ≡ 6 → ⊥) → is_define k ≡ false
unfolding is_define
other-kind k i e f g = simp (ne_eqb k 3 (λ q. f (sym e ∙ q)), ne_eqb k 6 (λ q. g (sym e ∙ q)))

module _ (s : List ℕ) where
  pub not-define : (r : Record) (rs : List Record) → is_define r.kind ≡ false → defined s (r ∷ rs) ≡ defined s rs
  unfolding defined
  not-define r rs f = simp f

  none_left_lem : (rs : List Record) → none_left (kinds rs) ≡ true → defined s rs ≡ []
  unfolding none_left kinds defined
  none_left_lem [] e = refl
  none_left_lem (r ∷ rs) e = clash e

  measures_only : (m : ℕ) (rs : List Record) → some_of m is_measure none_left (kinds rs) ≡ true → defined s rs ≡ []
  unfolding some_of is_measure kinds defined
  measures_only zero rs e = none_left_lem rs e
  measures_only (suc m) [] e = refl
  measures_only (suc m) (r ∷ rs) e = by (eqb r.kind 5) refl e (measures_only m rs)
    where
      by : (t : Bool) → eqb r.kind 5 ≡ t → pick t (some_of m is_measure none_left (kinds rs)) (none_left (r.kind ∷ kinds rs)) ≡ true
          → (some_of m is_measure none_left (kinds rs) ≡ true → defined s rs ≡ [])
          → defined s (r ∷ rs) ≡ []
      by true q w g = not-define r rs (other-kind r.kind 5 (eqb-true r.kind 5 q) (λ z. omega arith) (λ z. omega arith)) ∙ g w
      by false q w g = none_left_lem (r ∷ rs) w

  skip_only : (rs : List Record) → one_of 4 (some_of 8 is_measure none_left) (kinds rs) ≡ true → defined s rs ≡ []
  unfolding one_of kinds defined
  skip_only [] e = refl
  skip_only (r ∷ rs) e =
      not-define r rs (other-kind r.kind 4 (eqb-true r.kind 4 (and_left (eqb r.kind 4) _ e)) (λ z. omega arith) (λ z. omega arith)) ∙ measures_only 8 rs (and_right (eqb r.kind 4) _ e)

  over : (at : ℕ) → Ahead s (Defines 0) at → defined s (records_at s at) ≡ []
  unfolding rest_of some_of
  over at h = skip_only (records_at s at) h.order

  -- no DEFINEs, no condition
  nothing : (letter : ℕ) (rs : List Record) → defined s rs ≡ [] → condition_from s rs letter ≡ all_of []
  unfolding defined condition_from
  nothing letter [] e = refl
  nothing letter (r ∷ rs) e = by (is_define r.kind) e (nothing letter rs)
    where
      by : (t : Bool) → keep t (field s r 0) (defined s rs) ≡ [] → (defined s rs ≡ [] → condition_from s rs letter ≡ all_of [])
          → pick (t && eqb (field s r 0) letter) (condition_of s r) (condition_from s rs letter) ≡ all_of []
      by true w g = absurd (let z : ◌≡◌ {A = ℕ} 0 1 = cc in omega arith)
      by false w g = g w

-- ---- a letter's entry

pub record Slot (s : List ℕ) (from at l d : ℕ) : Type 0 where
  pub open' : d ≡ 0 → condition_from s (records_at s at) (65 + l) ≡ condition_from s (records_at s from) (65 + l)
  pub shut : (d ≡ 0 → ⊥) → defined_at s d ≡ condition_from s (records_at s from) (65 + l)
  pub body : (d ≡ 0 → ⊥) → Body s (columns_of s) d

-- the letter and the count of a body at index b
record Lettered (s : List ℕ) (b : ℕ) : Type 0 where
  there : b + 2 ≤ length s
  low : 65 ≤ get_or s b 0
  high : get_or s b 0 ≤ 90

pub record Lettering (s : List ℕ) (from : ℕ) (defines : List ℕ) (at : ℕ) (twice : Bool) (letters : ℕ) : Type 0 where
  pub left : ℕ
  pub ahead : Ahead s (Defines left) at
  pub counted : length defines ≡ 26
  pub skip : first_of_kind 4 (records_at s at) ≡ first_of_kind 4 (records_at s from)
  pub measures : measures_from s (records_at s at) ≡ measures_from s (records_at s from)
  pub each : (l : ℕ) → l < 26 → Slot s from at l (get_or defines l 0)
  pub told : Twice s defines at twice
  pub upto : letters ≤ 26
  pub free : (l : ℕ) → letters ≤ l → l < 26 → get_or defines l 0 ≡ 0

-- the DEFINE at d, and none at 0
defined-here : (s : List ℕ) (k d m : ℕ) → 0 < d → kind_at s d ≡ k → defined_at s d ≡ condition_of s (record_of k d m)
unfolding defined_at comparisons_at condition_of comparisons_of entries_of field
defined-here s k d m h e = simp (ne_eqb d 0 (λ e. omega arith), e)

not-defined : (s : List ℕ) (d : ℕ) → d ≡ 0 → defined_at s d ≡ all_of []
unfolding defined_at
not-defined s d e = simp (eq-eqb d 0 e)

module _ (s : List ℕ) (from : ℕ) where
  pub lettering_none : DefinesRoom s from → Lettering s from (replicate 26 0) from false 0
  lettering_none r = record {
    left = 26;
    ahead = r.ahead;
    counted = length-replicate {A = ℕ} 26 0;
    skip = refl;
    measures = refl;
    each = λ l h. let z : get_or {A = ℕ} (replicate 26 0) l 0 ≡ 0 = get_or-replicate {A = ℕ} 26 l 0 0 h in
        record { open' = λ e. refl; shut = λ f. absurd (f z); body = λ f. absurd (f z) };
    told = twice-none s from r.all;
    upto = omega arith;
    free = λ l g h. get_or-replicate {A = ℕ} 26 l 0 0 h;
  }

  module _ (defines : List ℕ) (at : ℕ) (twice : Bool) (letters : ℕ) (h : Lettering s from defines at twice letters) where
    lettering_inside : at < length s
    lettering_inside = before-end s (Defines h.left) at h.ahead (λ e. omega arith)

    -- the skip is still to come
    pub lettering_end : length s ≤ at → PutDefines s from defines (record { at = at; twice = twice; letters = letters })
    lettering_end w = absurd (let z = lettering_inside in omega arith)

    pub lettering_cut : Cut ≡ read_at s at → PutDefines s from defines (record { at = at; twice = twice; letters = letters })
    lettering_cut e = absurd (not-cut s (Defines h.left) at h.ahead (λ w. omega arith) e)

    module _ (x : Whole) (e : whole x ≡ read_at s at) where
      says : x.kind ≡ 3 → Says s (columns_of s) x.start x.len
      says k3 = define_says s (columns_of s) x.kind x.start x.len (this_fits s (Defines h.left) at h.ahead x e) k3

      says-6 : x.kind ≡ 6 → SaysEntries s (columns_of s) x.start x.len
      says-6 k6 = postfix-says s (columns_of s) x.kind x.start x.len (this_fits s (Defines h.left) at h.ahead x e) k6

      -- its letter, and that its count stands there
      lettered : is_define x.kind ≡ true → Lettered s x.start
      lettered dk =
          let f = found s at x e in
          let i = f.inside in
          let j = f.body in
          by_kind x.kind dk
          (λ k3. let y = says k3 in let g = y.long in record { there = omega arith; low = y.low; high = y.high })
          (λ k6. let y = says-6 k6 in
          let g = y.ends in
          let z = (entries-behind s (get_or s (x.start + 1) 0) (x.start + 2)).0 in
          record { there = omega arith; low = y.low; high = y.high })

      pub lettering_room : is_define x.kind ≡ true → DefineRoom s x.start
      lettering_room dk = let y = lettered dk in let z = y.there in record { there = omega arith; low = y.low; high = y.high }

      -- a header stands before the body
      not_first : 0 < x.start
      unfolding record_at
      not_first = let z : at + 4 ≡ x.start = ap (λ (x : Record). x.start) (found s at x e).that in omega arith

      far_on : 4 ≤ x.start
      unfolding record_at
      far_on = let z : at + 4 ≡ x.start = ap (λ (x : Record). x.start) (found s at x e).that in omega arith

      kind_here : kind_at s x.start ≡ x.kind
      unfolding record_at kind_at
      kind_here =
          let z : at + 4 ≡ x.start = ap (λ (x : Record). x.start) (found s at x e).that in
          ap (le16 s) (let i : x.start - 2 ≡ at + 2 = omega arith in i) ∙ ap (λ (x : Record). x.kind) (found s at x e).that

      -- its body, by its kind
      body-here : is_define x.kind ≡ true → Body s (columns_of s) x.start
      body-here dk =
          let f = found s at x e in
          let i = f.inside in
          let j = f.body in
          record {
            header = far_on;
            there = (lettered dk).there;
            all = λ z. let y = says (sym kind_here ∙ z) in let g = y.long in record { one = y.one; few = y.few; stand = record { there = omega arith; fits = y.each } };
            postfix = λ z. let y = says-6 (by_kind x.kind dk (λ k3. absurd (z (kind_here ∙ k3))) (λ k6. k6)) in
                let g = y.ends in
                record { one = y.one; few = y.few; entered = record { there = omega arith; fit = y.fit; leaves = y.leaves } };
          }

      fewer_left : records_at s at ≡ record_of x.kind x.start x.len ∷ records_at s x.next
      fewer_left = read_more s at x e

      rest-other : (l : ℕ) → is_define x.kind ≡ true → (get_or s x.start 0 ≡ 65 + l → ⊥) → condition_from s (records_at s x.next) (65 + l) ≡ condition_from s (records_at s at) (65 + l)
      rest-other l dk f = sym (ap (λ (x : List Record). condition_from s x (65 + l)) fewer_left ∙ another s x.kind x.start x.len (records_at s x.next) (65 + l) dk f)

      module _ (dk : is_define x.kind ≡ true) (defines' : List ℕ) (before : Bool) (d : PutDefine s x.start defines defines' before) where
        letter : ℕ
        letter = get_or s x.start 0 - 65

        letter-is : 65 + letter ≡ get_or s x.start 0
        unfolding letter
        letter-is = let y = (lettered dk).low in omega arith

        letter-low : letter < 26
        unfolding letter
        letter-low = let y = (lettered dk).high in let z = (lettered dk).low in omega arith

        -- its entry is taken already
        slot-taken : (get_or defines letter 0 ≡ 0 → ⊥) → (l : ℕ) → l < 26 → Slot s from x.next l (get_or defines' l 0)
        unfolding letter
        slot-taken c0 l w =
            let o = h.each l w in
            rw (d.taken c0).0 (record {
              open' = λ z. rest-other l dk (λ f. c0 (ap (λ (i : ℕ). get_or defines i 0) (let i : get_or s x.start 0 - 65 ≡ l = omega arith in i) ∙ z)) ∙ o.open' z;
              shut = o.shut;
              body = o.body;
            })

        -- its entry is free
        module _ (c0 : get_or defines letter 0 ≡ 0) where
          defines-are : defines' ≡ set defines letter x.start
          unfolding letter
          defines-are = (d.put c0).0

          slot_same : Slot s from x.next letter (get_or defines' letter 0)
          slot_same =
              let o = h.each letter letter-low in
              let ll = h.counted in
              let il = letter-low in
              let f = found s at x e in
              let b0 = not_first in
              let c1 : get_or defines' letter 0 ≡ x.start = ap (λ (x : List ℕ). get_or x letter 0) defines-are ∙ get_or-set_same defines letter x.start 0 (omega arith) in
              rw c1 (record {
                open' = λ z. absurd (omega arith);
                shut = λ z. defined-here s x.kind x.start x.len b0 kind_here ∙ sym (its_own s x.kind x.start x.len (records_at s x.next) (65 + letter) dk (sym letter-is))
                    ∙ sym (ap (λ (x : List Record). condition_from s x (65 + letter)) fewer_left) ∙ o.open' c0;
                body = λ z. body-here dk;
              })

          slot-other : (l : ℕ) → l < 26 → (l ≡ letter → ⊥) → Slot s from x.next l (get_or defines' l 0)
          slot-other l w f =
              let o = h.each l w in
              let c1 : get_or defines' l 0 ≡ get_or defines l 0 = ap (λ (x : List ℕ). get_or x l 0) defines-are ∙ get_or-set_other defines letter l x.start 0 f in
              rw c1 (record {
                open' = λ z. rest-other l dk (λ g. f (let i = letter-is in omega arith)) ∙ o.open' z;
                shut = o.shut;
                body = o.body;
              })

        by-entry : {A : Type 0} → ((get_or defines letter 0 ≡ 0 → ⊥) → A) → (get_or defines letter 0 ≡ 0 → A) → A
        by-entry f g = decided (eqb (get_or defines letter 0) 0) (λ t. g (eqb-true (get_or defines letter 0) 0 t)) (λ t. f (eqb-false (get_or defines letter 0) 0 t))

        counted-on : length defines' ≡ 26
        unfolding letter
        counted-on = by-entry (λ f. ap length (d.taken f).0 ∙ h.counted) (λ f. ap length (d.put f).0 ∙ length-set defines letter x.start ∙ h.counted)

        -- no entry is taken behind the largest letter
        free_on : (letters' : ℕ) → letters' ≡ max letters (get_or s x.start 0 - 64) → (l : ℕ) → letters' ≤ l → l < 26 → get_or defines' l 0 ≡ 0
        unfolding letter
        free_on letters' el l g w =
            let low = (lettered dk).low in
            by-entry (λ f. ap (λ (x : List ℕ). get_or x l 0) (d.taken f).0 ∙ h.free l (omega arith) w)
            (λ f. ap (λ (x : List ℕ). get_or x l 0) (d.put f).0 ∙ get_or-set_other defines (get_or s x.start 0 - 65) l x.start 0 (λ z. omega arith) ∙ h.free l (omega arith) w)

        pub lettering_more : (twice' : Bool) (letters' : ℕ) → twice' ≡ (twice || before) → letters' ≡ max letters (get_or s x.start 0 - 64) → Lettering s from defines' x.next twice' letters'
        lettering_more twice' letters' et el = record {
          left = h.left - 1;
          ahead = define_next s at x e h.left h.ahead dk;
          counted = counted-on;
          skip = sym (ap (first_of_kind 4) fewer_left ∙ skip_front s x.kind x.start x.len (records_at s x.next) 0 dk) ∙ h.skip;
          measures = sym (ap (measures_from s) fewer_left ∙ measures_front s x.kind x.start x.len (records_at s x.next) 0 dk) ∙ h.measures;
          each = λ l w. by-entry
              (λ f. slot-taken f l w)
              (λ f. decided (eqb l letter) (λ t. let y = eqb-true l letter t in rw y (slot_same f)) (λ t. slot-other f l w (eqb-false l letter t)));
          told = twice-more s defines at x e dk (lettered dk).low (lettered dk).high not_first h.counted defines' before twice twice' d et h.told;
          upto = let y = (lettered dk).high in let z = h.upto in omega arith;
          free = free_on letters' el;
        }

      -- the DEFINEs are over
      pub lettering_over : is_define x.kind ≡ false → PutDefines s from defines (record { at = at; twice = twice; letters = letters })
      lettering_over dk =
          let a = defines-over s at x e h.left h.ahead dk in
          record {
            counted = h.counted;
            ahead = a;
            skip = h.skip;
            measures = h.measures;
            letters = λ l w. let o = h.each l w in record {
              is = decided (eqb (get_or defines l 0) 0)
                  (λ t. let z = eqb-true (get_or defines l 0) 0 t in not-defined s (get_or defines l 0) z ∙ sym (nothing s (65 + l) (records_at s at) (over s at a)) ∙ o.open' z)
                  (λ t. o.shut (eqb-false (get_or defines l 0) 0 t));
              body = o.body;
            };
            doubled = twice-over s defines at twice h.told (over s at a);
            upto = h.upto;
            free = h.free;
          }

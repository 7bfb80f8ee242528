-- A query with another skip mode differs in one byte, and so in nothing else that a query says: its
-- records, its columns, its text, its letters' conditions and its measures are the same.
use mathlib.Core.Path.{◌≡◌, refl, sym, ap, ap₂, ◌∙◌}
use mathlib.Core.Bool.{Bool, true, false, not, ◌&&◌, ◌||◌, true≢false, false≢true}
use mathlib.Core.List.{List, [], ◌∷◌, ◌++◌}
use mathlib.Core.Logic.{◌⊎◌, inl, inr}
use Prim.Native.Nat.{ℕ, zero, suc, ◌+◌, ◌*◌, ◌-◌, ◌≤◌, ◌<◌}
use native.Mathlib.Omega.{arith}
use lib.Dec.{leb, eqb}
use lib.ListN.{length, get_or, set, take, drop, length-set}
use lib.Seq.{get_or-set_same, get_or-set_other, take-set-le, drop-set-lt, drop-set-add}
use borrow.Author.Tests.{leb-true, eqb-true, eqb-false}
use Rattle.rules.specs.Basics.{pick, every, tabulate, keep, has, le16, le32}
use Rattle.rules.specs.Rows.{Entry, compared, conj, disj, neg}
use Rattle.rules.specs.Query.{Record, whole_at, record_at, next_at, records_on, records_from, records, one_of, some_of, none_left, is_define, is_measure, in_order, kinds, misplaced, first_of_kind, field, define_fits, entry_bytes, read_entry, entries_end, read_entries, entries_of, postfix_fits, skip_fits, record_fits, columns_of, unfit, text_of, comparison_at, comparisons_of, condition_of, condition_from, measure_at, measures_from, parts}
use Rattle.laws.proofs.Choice.{and_left, and_right}
use Rattle.laws.proofs.Truths.{entries-behind}
use Rattle.modes.specs.Chosen.{skip_at, in_mode}

-- ---- a DEFINE is of kind 3 or 6

define_kind : (kind : ℕ) → is_define kind ≡ true → (kind ≡ 3) ⊎ (kind ≡ 6)
unfolding is_define
define_kind kind h = go (eqb kind 3) refl h
  where
    go : (t : Bool) → eqb kind 3 ≡ t → (t || eqb kind 6) ≡ true → (kind ≡ 3) ⊎ (kind ≡ 6)
    go true e h = inl (eqb-true kind 3 e)
    go false e h = inr (eqb-true kind 6 h)

-- ---- one byte of a query is another

module _ (q : List ℕ) (k v : ℕ) where
  abbrev q' : List ℕ
  q' = set q k v

  same_at : (i : ℕ) → (i ≡ k → ⊥) → get_or q' i 0 ≡ get_or q i 0
  same_at i d = get_or-set_other q k i v 0 d

  same-16 : (at : ℕ) → (at ≡ k → ⊥) → (at + 1 ≡ k → ⊥) → le16 q' at ≡ le16 q at
  unfolding le16
  same-16 at d e = rw (same_at at d, same_at (at + 1) e)

  -- the byte lies before a record's header or behind it
  abbrev Beside : ℕ → Type 0
  Beside at = (k < at) ⊎ (at + 4 ≤ k)

  beside_not : (at i : ℕ) → i < 4 → Beside at → at + i ≡ k → ⊥
  beside_not at i h (inl l) e = omega arith
  beside_not at i h (inr l) e = omega arith

  module _ (at : ℕ) (b : Beside at) where
    len_same : le16 q' at ≡ le16 q at
    len_same = same-16 at (λ e. beside_not at 0 (omega arith) b (let z : at + 0 ≡ k = omega arith in z)) (beside_not at 1 (omega arith) b)

    kind_same : le16 q' (at + 2) ≡ le16 q (at + 2)
    kind_same = same-16 (at + 2) (beside_not at 2 (omega arith) b) (λ e. beside_not at 3 (omega arith) b (let z : at + 3 ≡ k = omega arith in z))

    whole_same : whole_at q' at ≡ whole_at q at
    unfolding whole_at
    whole_same = rw (len_same, length-set q k v)

    record_same : record_at q' at ≡ record_at q at
    unfolding record_at
    record_same = rw (len_same, kind_same)

    next-same : next_at q' at ≡ next_at q at
    unfolding next_at
    next-same = rw len_same

  next-on : (at : ℕ) → at + 4 ≤ next_at q at
  unfolding next_at
  next-on at = omega arith

  -- a record beside the byte, and those behind it
  on_same : (j at : ℕ) → Beside at → (t : Bool) → records_from j q' (next_at q at) ≡ records_from j q (next_at q at) → records_on t (records_from j q') q' at ≡ records_on t (records_from j q) q at
  unfolding records_on
  on_same j at b true e = rw (record_same at b, next-same at b) (ap (λ (rs : List Record). record_at q at ∷ rs) e)
  on_same j at b false e = refl

  -- records behind the byte
  records-behind : (j at : ℕ) → k < at → records_from j q' at ≡ records_from j q at
  unfolding records_from records_on
  records-behind zero at h = refl
  records-behind (suc j) at h =
      rw (whole_same at (inl h)) (on_same j at (inl h) (whole_at q at) (records-behind j (next_at q at) (omega (arith, next-on at))))

  -- ---- the byte is the first of the body of the first record of kind 4

  pub data Skips : List Record → Type 0 where
    here : {r : Record} {rs : List Record} → r.kind ≡ 4 → r.start ≡ k → 1 ≤ r.len → Skips (r ∷ rs)
    there : {r : Record} {rs : List Record} → (r.kind ≡ 4 → ⊥) → Skips rs → Skips (r ∷ rs)

  skips-none : Skips [] → ⊥
  skips-none h = elim h [ ]

  -- it lies behind the header of each record up to that one
  skips-on : (j at : ℕ) → Skips (records_from j q at) → at + 4 ≤ k
  unfolding records_from records_on record_at
  skips-on zero at h = absurd (skips-none h)
  skips-on (suc j) at h = go (whole_at q at) (skips-on j (next_at q at)) h
    where
      go : (t : Bool) → (Skips (records_from j q (next_at q at)) → next_at q at + 4 ≤ k) → Skips (records_on t (records_from j q) q at) → at + 4 ≤ k
      go true ih (here a b c) = omega (arith, b)
      go true ih (there a b) = omega (arith, ih b, next-on at)
      go false ih z = absurd (skips-none z)

  -- and inside the query
  skips-inside : (j at : ℕ) → Skips (records_from j q at) → k < length q
  unfolding records_from records_on record_at whole_at
  skips-inside zero at h = absurd (skips-none h)
  skips-inside (suc j) at h = go (whole_at q at) refl (skips-inside j (next_at q at)) h
    where
      go : (t : Bool) → whole_at q at ≡ t → (Skips (records_from j q (next_at q at)) → k < length q) → Skips (records_on t (records_from j q) q at) → k < length q
      go true e ih (here a b c) = let w = leb-true (at + 4 + le16 q at) (length q) (and_right (leb (at + 4) (length q)) (leb (at + 4 + le16 q at) (length q)) e) in omega arith
      go true e ih (there a b) = ih b
      go false e ih z = absurd (skips-none z)

  -- so the records are the same
  records-same : (j at : ℕ) → Skips (records_from j q at) → records_from j q' at ≡ records_from j q at
  unfolding records_from records_on record_at next_at
  records-same zero at h = refl
  records-same (suc j) at h = let b : Beside at = inr (skips-on (suc j) at h) in rw (whole_same at b) (go b (whole_at q at) (records-same j (next_at q at)) h)
    where
      go : Beside at → (t : Bool) → (Skips (records_from j q (next_at q at)) → records_from j q' (next_at q at) ≡ records_from j q (next_at q at)) → Skips (records_on t (records_from j q) q at)
          → records_on t (records_from j q') q' at ≡ records_on t (records_from j q) q at
      go s true ih (here a b c) = on_same j at s true (records-behind j (next_at q at) (omega arith))
      go s true ih (there a b) = on_same j at s true (ih b)
      go s false ih z = refl

  -- ---- the byte lies apart from the bodies of all records of other kinds

  abbrev Apart : Record → Type 0
  Apart r = (k < r.start) ⊎ (r.start + r.len + 4 ≤ k)

  abbrev AllApart : List Record → Type 0
  AllApart [] = Unit {0}
  AllApart (r ∷ rs) = ((r.kind ≡ 4) ⊎ Apart r) × AllApart rs

  behind-apart : (j at : ℕ) → k < at → AllApart (records_from j q at)
  unfolding records_from records_on record_at
  behind-apart zero at h = tt
  behind-apart (suc j) at h = go (whole_at q at) (behind-apart j (next_at q at) (omega (arith, next-on at)))
    where
      go : (t : Bool) → AllApart (records_from j q (next_at q at)) → AllApart (records_on t (records_from j q) q at)
      go true a = (inr (inl (omega arith)), a)
      go false a = tt

  all_apart : (j at : ℕ) → Skips (records_from j q at) → AllApart (records_from j q at)
  unfolding records_from records_on record_at next_at
  all_apart zero at h = tt
  all_apart (suc j) at h = go (whole_at q at) (all_apart j (next_at q at)) (skips-on j (next_at q at)) h
    where
      go : (t : Bool) → (Skips (records_from j q (next_at q at)) → AllApart (records_from j q (next_at q at))) → (Skips (records_from j q (next_at q at)) → next_at q at + 4 ≤ k)
          → Skips (records_on t (records_from j q) q at) → AllApart (records_on t (records_from j q) q at)
      go true ih on (here a b c) = (inl a, behind-apart j (next_at q at) (omega arith))
      go true ih on (there a b) = (inr (inr (omega (arith, on b))), ih b)
      go false ih on z = tt

  first-apart : (n : ℕ) → (n ≡ 4 → ⊥) → 4 ≤ k → (rs : List Record) → AllApart rs → Apart (first_of_kind n rs)
  unfolding first_of_kind
  first-apart n d h [] a = inr (omega arith)
  first-apart n d h (r ∷ rs) (a, b) = go (eqb r.kind n) refl (first-apart n d h rs b)
    where
      mine : r.kind ≡ n → (r.kind ≡ 4) ⊎ Apart r → Apart r
      mine e (inl f) = absurd (d (sym e ∙ f))
      mine e (inr b) = b

      go : (t : Bool) → eqb r.kind n ≡ t → Apart (first_of_kind n rs) → Apart (pick t r (first_of_kind n rs))
      go true e ih = mine (eqb-true r.kind n e) a
      go false e ih = ih

  -- ---- what such a record says is the same

  apart_at : (r : Record) (i : ℕ) → i < r.len + 4 → Apart r → r.start + i ≡ k → ⊥
  apart_at r i h (inl l) e = omega arith
  apart_at r i h (inr l) e = omega arith

  field-same : (r : Record) (i : ℕ) → i < r.len + 4 → Apart r → field q' r i ≡ field q r i
  unfolding field
  field-same r i h a = same_at (r.start + i) (apart_at r i h a)

  body_same : (r : Record) → Apart r → take r.len (drop r.start q') ≡ take r.len (drop r.start q)
  body_same r (inl l) = ap (take r.len) (drop-set-lt r.start q k v l)
  body_same r (inr l) =
      let d : ℕ = k - r.start in
      let e : k ≡ r.start + d = omega arith in
      let z : take r.len (drop r.start (set q (r.start + d) v)) ≡ take r.len (drop r.start q) =
      ap (take r.len) (drop-set-add r.start q d v) ∙ take-set-le r.len (drop r.start q) d v (omega arith) in
      ap (λ (i : ℕ). take r.len (drop r.start (set q i v))) e ∙ z

  -- a comparison whose 12 bytes are apart from the byte
  comparison_same : (p : ℕ) → ((i : ℕ) → i < 12 → p + i ≡ k → ⊥) → comparison_at q' p ≡ comparison_at q p
  unfolding comparison_at le32
  comparison_same p d =
      rw (same_at p (λ e. d 0 (omega arith) (let z : p + 0 ≡ k = omega arith in z)), same_at (p + 1) (d 1 (omega arith)), same_at (p + 2) (d 2 (omega arith)), same_at (p + 3) (d 3 (omega arith)), same_at (p + 4) (d 4 (omega arith)), same_at (p + 5) (d 5 (omega arith)), same_at (p + 8) (d 8 (omega arith)), same_at (p + 8 + 1) (λ e. d 9 (omega arith) (let z : p + 9 ≡ k = omega arith in z)), same_at (p + 8 + 2) (λ e. d 10 (omega arith) (let z : p + 10 ≡ k = omega arith in z)), same_at (p + 8 + 3) (λ e. d 11 (omega arith) (let z : p + 11 ≡ k = omega arith in z)))

  tabulate-same : {A : Type 0} (n : ℕ) (f g : ℕ → A) → ((i : ℕ) → i < n → f i ≡ g i) → tabulate n f ≡ tabulate n g
  unfolding tabulate
  tabulate-same zero f g h = refl
  tabulate-same {A} (suc n) f g h = ap₂ (λ (xs : List A) (x : A). xs ++ (x ∷ [])) (tabulate-same n f g (λ i l. h i (omega arith))) (h n (omega arith))

  define_same : (r : Record) → Apart r → r.len ≡ 2 + field q r 1 * 12 → comparisons_of q' r ≡ comparisons_of q r
  unfolding comparisons_of
  define_same r a e =
      rw (field-same r 1 (omega arith) a)
      (tabulate-same (field q r 1) (λ i. comparison_at q' (r.start + 2 + i * 12)) (λ i. comparison_at q (r.start + 2 + i * 12))
      (λ i l. comparison_same (r.start + 2 + i * 12) (λ d h z. apart_at r (2 + i * 12 + d) (omega arith) a (let y : r.start + (2 + i * 12 + d) ≡ k = omega arith in y))))

  -- entries whose bytes, from an index up to the end of the entries, are apart from the byte

  abbrev Away : ℕ → ℕ → Type 0
  Away a b = (k < a) ⊎ (b ≤ k)

  away_part : (a b c d : ℕ) → a ≤ c → d ≤ b → Away a b → Away c d
  away_part a b c d g h (inl l) = inl (omega arith)
  away_part a b c d g h (inr l) = inr (omega arith)

  away_at : (a b i : ℕ) → a ≤ i → i < b → Away a b → i ≡ k → ⊥
  away_at a b i g h (inl l) e = omega arith
  away_at a b i g h (inr l) e = omega arith

  entry-long : (p : ℕ) → 1 ≤ entry_bytes q p
  unfolding entry_bytes
  entry-long p = go (eqb (get_or q p 0) 0)
    where
      go : (t : Bool) → 1 ≤ pick t 13 1
      go true = omega arith
      go false = omega arith

  bytes_same : (p : ℕ) → (p ≡ k → ⊥) → entry_bytes q' p ≡ entry_bytes q p
  unfolding entry_bytes
  bytes_same p d = rw (same_at p d)

  entry-same : (p : ℕ) → Away p (p + entry_bytes q p) → read_entry q' p ≡ read_entry q p
  unfolding read_entry entry_bytes
  entry-same p a = rw (same_at p (away_at p (p + entry_bytes q p) p (omega arith) (omega (arith, entry-long p)) a)) (go (eqb (get_or q p 0) 0) a)
    where
      other : Entry
      other = pick (eqb (get_or q p 0) 1) conj (pick (eqb (get_or q p 0) 2) disj neg)

      go : (t : Bool) → Away p (p + pick t 13 1) → pick t (compared (comparison_at q' (p + 1))) other ≡ pick t (compared (comparison_at q (p + 1))) other
      go true a = ap compared (comparison_same (p + 1) (λ i h e. away_at p (p + 13) (p + 1 + i) (omega arith) (omega arith) a e))
      go false a = refl

  entries-same : (n p : ℕ) → Away p (entries_end q n p) → read_entries q' n p ≡ read_entries q n p
  unfolding read_entries entries_end
  entries-same zero p a = refl
  entries-same (suc n) p a =
      let e : ℕ = entries_end q n (p + entry_bytes q p) in
      let mine : Away p (p + entry_bytes q p) = away_part p e p (p + entry_bytes q p) (omega arith) (omega (arith, (entries-behind q n (p + entry_bytes q p)).0)) a in
      let behind : Away (p + entry_bytes q p) e = away_part p e (p + entry_bytes q p) e (omega arith) (omega arith) a in
      rw (entry-same p mine, bytes_same p (away_at p (p + entry_bytes q p) p (omega arith) (omega (arith, entry-long p)) mine)) (ap (λ (es : List Entry). read_entry q p ∷ es) (entries-same n (p + entry_bytes q p) behind))

  postfix-same : (r : Record) → Apart r → r.len + r.start ≡ entries_end q (field q r 1) (r.start + 2) → entries_of q' r ≡ entries_of q r
  unfolding entries_of
  postfix-same r a e = rw (field-same r 1 (omega arith) a) (entries-same (field q r 1) (r.start + 2) (body a))
    where
      body : Apart r → Away (r.start + 2) (entries_end q (field q r 1) (r.start + 2))
      body (inl l) = inl (omega arith)
      body (inr l) = inr (omega (arith, e))

  not-four : (r : Record) (n : ℕ) → (n ≡ 4 → ⊥) → r.kind ≡ n → (r.kind ≡ 4) ⊎ Apart r → Apart r
  not-four r n d e (inl f) = absurd (d (sym e ∙ f))
  not-four r n d e (inr b) = b

  -- a DEFINE's length is that of its comparisons
  define_long : (columns : ℕ) (r : Record) → r.kind ≡ 3 → record_fits q columns r ≡ true → r.len ≡ 2 + field q r 1 * 12
  unfolding record_fits define_fits
  define_long columns r e h = eqb-true r.len (2 + field q r 1 * 12) (and_left (eqb r.len (2 + field q r 1 * 12)) _ (rw e at h))

  -- one in postfix ends where its entries end
  postfix-long : (columns : ℕ) (r : Record) → r.kind ≡ 6 → record_fits q columns r ≡ true → r.len + r.start ≡ entries_end q (field q r 1) (r.start + 2)
  unfolding record_fits postfix_fits
  postfix-long columns r e h =
      eqb-true (r.len + r.start) (entries_end q (field q r 1) (r.start + 2)) (and_left (eqb (r.len + r.start) (entries_end q (field q r 1) (r.start + 2))) _ (rw e at h))

  skip_long : (columns : ℕ) (r : Record) → r.kind ≡ 4 → record_fits q columns r ≡ true → r.len ≡ 2
  unfolding record_fits skip_fits
  skip_long columns r e h = eqb-true r.len 2 (and_left (eqb r.len 2) _ (rw e at h))

  -- a DEFINE of either kind is apart from the byte and asks for the same
  define_apart : (r : Record) → (r.kind ≡ 3) ⊎ (r.kind ≡ 6) → (r.kind ≡ 4) ⊎ Apart r → Apart r
  define_apart r (inl e) a = not-four r 3 (λ z. omega arith) e a
  define_apart r (inr e) a = not-four r 6 (λ z. omega arith) e a

  asks-same : (columns : ℕ) (r : Record) → (r.kind ≡ 3) ⊎ (r.kind ≡ 6) → Apart r → record_fits q columns r ≡ true → condition_of q' r ≡ condition_of q r
  unfolding condition_of
  asks-same columns r (inl e) a h = rw (e, define_same r a (define_long columns r e h))
  asks-same columns r (inr e) a h = rw (e, postfix-same r a (postfix-long columns r e h))

  conditions_same : (columns : ℕ) (rs : List Record) → AllApart rs → every (record_fits q columns) rs ≡ true → (letter : ℕ) → condition_from q' rs letter ≡ condition_from q rs letter
  unfolding condition_from every
  conditions_same columns [] a h letter = refl
  conditions_same columns (r ∷ rs) (a, b) h letter =
      go (is_define r.kind) refl (conditions_same columns rs b (and_right (record_fits q columns r) (every (record_fits q columns) rs) h) letter)
    where
      go : (t : Bool) → is_define r.kind ≡ t → condition_from q' rs letter ≡ condition_from q rs letter
          → pick (t && eqb (field q' r 0) letter) (condition_of q' r) (condition_from q' rs letter) ≡ pick (t && eqb (field q r 0) letter) (condition_of q r) (condition_from q rs letter)
      go true e ih =
          let d = define_kind r.kind e in
          let b = define_apart r d a in
          rw (field-same r 0 (omega arith) b, asks-same columns r d b (and_left (record_fits q columns r) (every (record_fits q columns) rs) h), ih)
      go false e ih = ih

  measures_same : (rs : List Record) → AllApart rs → measures_from q' rs ≡ measures_from q rs
  unfolding measures_from measure_at
  measures_same [] a = refl
  measures_same (r ∷ rs) (a, b) = go (eqb r.kind 5) refl (measures_same rs b)
    where
      go : (t : Bool) → eqb r.kind 5 ≡ t → measures_from q' rs ≡ measures_from q rs → keep t (measure_at q' r.start) (measures_from q' rs) ≡ keep t (measure_at q r.start) (measures_from q rs)
      go true e ih =
          let b = not-four r 5 (λ z. omega arith) (eqb-true r.kind 5 e) a in
          rw (same_at r.start (λ z. apart_at r 0 (omega arith) b (let y : r.start + 0 ≡ k = omega arith in y)), same_at (r.start + 1) (apart_at r 1 (omega arith) b), same_at (r.start + 2) (apart_at r 2 (omega arith) b), ih)
      go false e ih = ih

  -- ---- the first record of kind 4 of a query in order

  skips : (columns : ℕ) (rs : List Record) → has 4 (kinds rs) ≡ true → every (record_fits q columns) rs ≡ true → (first_of_kind 4 rs).start ≡ k → Skips rs
  unfolding has kinds every first_of_kind
  skips columns [] s h e = absurd (false≢true s)
  skips columns (r ∷ rs) s h e = go (eqb r.kind 4) refl (skips columns rs) s e
    where
      go : (t : Bool) → eqb r.kind 4 ≡ t → (has 4 (kinds rs) ≡ true → every (record_fits q columns) rs ≡ true → (first_of_kind 4 rs).start ≡ k → Skips rs) → (t || has 4 (kinds rs)) ≡ true
          → (pick t r (first_of_kind 4 rs)).start ≡ k → Skips (r ∷ rs)
      go true z ih s' e' =
          let f : r.kind ≡ 4 = eqb-true r.kind 4 z in
          let l = skip_long columns r f (and_left (record_fits q columns r) (every (record_fits q columns) rs) h) in
          here {r = r} {rs = rs} f e' (omega arith)
      go false z ih s' e' = there (eqb-false r.kind 4 z) (ih s' (and_right (record_fits q columns r) (every (record_fits q columns) rs) h) e')

-- a list of kinds in order has a 4
or_right : (a b : Bool) → b ≡ true → (a || b) ≡ true
or_right true b e = refl
or_right false b e = e

one-4 : (rest : List ℕ → Bool) (ks : List ℕ) → one_of 4 rest ks ≡ true → has 4 ks ≡ true
unfolding one_of has
one-4 rest [] e = absurd (false≢true e)
one-4 rest (x ∷ ks) e = rw (and_left (eqb x 4) (rest ks) e)

behind-one : (n : ℕ) (rest : List ℕ → Bool) → ((ks : List ℕ) → rest ks ≡ true → has 4 ks ≡ true) → (ks : List ℕ) → one_of n rest ks ≡ true → has 4 ks ≡ true
unfolding one_of has
behind-one n rest h [] e = absurd (false≢true e)
behind-one n rest h (x ∷ ks) e = or_right (eqb x 4) (has 4 ks) (h ks (and_right (eqb x n) (rest ks) e))

behind-some : (m : ℕ) (f : ℕ → Bool) (rest : List ℕ → Bool) → ((ks : List ℕ) → rest ks ≡ true → has 4 ks ≡ true) → (ks : List ℕ) → some_of m f rest ks ≡ true → has 4 ks ≡ true
unfolding some_of has
behind-some zero f rest h ks e = h ks e
behind-some (suc m) f rest h [] e = h [] e
behind-some (suc m) f rest h (x ∷ ks) e = go (f x) (behind-some m f rest h ks) e
  where
    go : (t : Bool) → (some_of m f rest ks ≡ true → has 4 ks ≡ true) → pick t (some_of m f rest ks) (rest (x ∷ ks)) ≡ true → (eqb x 4 || has 4 ks) ≡ true
    go true ih z = or_right (eqb x 4) (has 4 ks) (ih z)
    go false ih z = h (x ∷ ks) z

ordered_4 : (ks : List ℕ) → in_order ks ≡ true → has 4 ks ≡ true
unfolding in_order
ordered_4 ks e = behind-one 1 _ (behind-one 2 _ (behind-some 26 is_define _ (one-4 (some_of 8 is_measure none_left)))) ks e

not-not : (b : Bool) → not b ≡ false → b ≡ true
not-not true e = refl
not-not false e = absurd (true≢false e)

-- ---- so the query says the same, and its skip mode is the one set

pub record SameButSkip (q q' : List ℕ) : Type 0 where
  pub columns : (parts q').columns ≡ (parts q).columns
  pub text : text_of q' ≡ text_of q
  pub condition : (letter : ℕ) → (parts q').condition letter ≡ (parts q).condition letter
  pub measures : (parts q').measures ≡ (parts q).measures

module _ (q : List ℕ) (v : ℕ) (ordered : misplaced q ≡ false) (fitting : unfit q ≡ false) where
  abbrev k : ℕ
  k = skip_at q

  in_order_lem : has 4 (kinds (records q)) ≡ true
  unfolding misplaced
  in_order_lem = ordered_4 (kinds (records q)) (not-not (in_order (kinds (records q))) ordered)

  all_fit : every (record_fits q (columns_of q)) (records q) ≡ true
  unfolding unfit
  all_fit = not-not (every (record_fits q (columns_of q)) (records q)) fitting

  skipping : Skips q k v (records q)
  unfolding skip_at
  skipping = skips q k v (columns_of q) (records q) in_order_lem all_fit refl

  same-records : records (in_mode v q) ≡ records q
  unfolding records in_mode
  same-records = rw (length-set q k v) (records-same q k v (length q) 0 skipping)

  apart : AllApart q k v (records q)
  unfolding records
  apart = all_apart q k v (length q) 0 skipping

  far : 4 ≤ k
  unfolding records
  far = skips-on q k v (length q) 0 skipping

  inside : k < length q
  unfolding records
  inside = skips-inside q k v (length q) 0 skipping

  same-columns : columns_of (in_mode v q) ≡ columns_of q
  unfolding columns_of in_mode
  same-columns = rw same-records (field-same q k v (first_of_kind 1 (records q)) 0 (omega arith) (first-apart q k v 1 (λ e. omega arith) far (records q) apart))

  same_text : text_of (in_mode v q) ≡ text_of q
  unfolding text_of in_mode
  same_text = rw same-records (body_same q k v (first_of_kind 2 (records q)) (first-apart q k v 2 (λ e. omega arith) far (records q) apart))

  same-condition : (letter : ℕ) → condition_from (in_mode v q) (records (in_mode v q)) letter ≡ condition_from q (records q) letter
  unfolding in_mode
  same-condition letter = rw same-records (conditions_same q k v (columns_of q) (records q) apart all_fit letter)

  same-measures : measures_from (in_mode v q) (records (in_mode v q)) ≡ measures_from q (records q)
  unfolding in_mode
  same-measures = rw same-records (measures_same q k v (records q) apart)

  pub same-but_skip : SameButSkip q (in_mode v q)
  unfolding parts
  same-but_skip = record { columns = same-columns; text = same_text; condition = same-condition; measures = same-measures }

  pub mode_set : (parts (in_mode v q)).skip ≡ v
  unfolding parts field in_mode skip_at
  mode_set =
      let z : k + 0 ≡ k = omega arith in
      rw same-records (ap (λ (i : ℕ). get_or (set q k v) i 0) z ∙ get_or-set_same q k v 0 inside)

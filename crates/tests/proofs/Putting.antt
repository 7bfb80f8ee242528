-- The words of one letter.
use mathlib.Core.Path.{◌≡◌, refl, sym, ap, ◌∙◌}
use mathlib.Core.Bool.{Bool, true, false, ◌&&◌}
use mathlib.Core.List.{List, [], ◌∷◌}
use Prim.Native.Nat.{ℕ, zero, suc, ◌+◌, ◌*◌, ◌-◌, ◌/◌, ◌≤◌, ◌<◌}
use native.Mathlib.Omega.{arith}
use lib.Dec.{ltb, leb, eqb}
use lib.ListN.{length, get_or, set, length-set}
use lib.Seq.{get_or-set_same, get_or-set_other}
use borrow.Author.Tests.{eq-eqb, ne_eqb}
use Rattle.rules.specs.Basics.{pick, le16}
use Rattle.rules.specs.Rows.{Comparison, compared, conj, disj, neg, all_of, postfix}
use Rattle.rules.specs.Query.{comparison_at, read_entries, leaves_one}
use Rattle.laws.proofs.Choice.{and_left, and_right}
use Rattle.define_list.specs.Defines.{comparisons_at, kind_at, defined_at}
use Rattle.table.specs.Tests.{comparison_in, comparisons_in, defined_in, entry_in, entry_words, entries_in, condition_in, tested_by}
use Rattle.tests.specs.Prepared.{more_of, PointsBetween, LetterRoom, TestRoom, LetterPut}
use Rattle.tests.proofs.Telling.{by-comparisons, by_entries}
use Rattle.entry_words.specs.Words.{PostfixRoom, PostfixPut}
use Rattle.comparison_words.specs.Words.{ComparisonRoom, ComparisonPut, ComparisonsRoom, ComparisonsPut}
use Rattle.comparison_words.proofs.Same.{comparison_long, comparison_kept, comparison_same, comparisons_first}
use Rattle.interval_words.specs.Interval.{IntervalRoom, IntervalPut}
use Rattle.interval_words.proofs.First.{first-same, first-put}

-- whether entries leave one result does not depend on the columns by which their words are read
both : (a : Bool) {b : Bool} → a ≡ true → b ≡ true → (a && b) ≡ true
both a e f = rw (e, f) refl

any-leaves : (T : List ℕ) (c c' k at d : ℕ) → leaves_one d (entries_in T c k at) ≡ true → leaves_one d (entries_in T c' k at) ≡ true
unfolding entries_in entry_in leaves_one
any-leaves T c c' zero at d e = e
any-leaves T c c' (suc k) at d e = by (ltb (get_or T at 0) 16) (eqb (get_or T at 0) 16) (eqb (get_or T at 0) 17) e (any-leaves T c c' k (at + entry_words T at))
  where
    by : (t u v : Bool) → leaves_one d (pick t (compared (comparison_in T c at)) (pick u conj (pick v disj neg)) ∷ entries_in T c k (at + entry_words T at)) ≡ true
        → ((d : ℕ) → leaves_one d (entries_in T c k (at + entry_words T at)) ≡ true → leaves_one d (entries_in T c' k (at + entry_words T at)) ≡ true)
        → leaves_one d (pick t (compared (comparison_in T c' at)) (pick u conj (pick v disj neg)) ∷ entries_in T c' k (at + entry_words T at)) ≡ true
    by true u v e ih = ih (d + 1) e
    by false true v e ih = both (leb 2 d) (and_left (leb 2 d) _ e) (ih (d - 1) (and_right (leb 2 d) _ e))
    by false false true e ih = both (leb 2 d) (and_left (leb 2 d) _ e) (ih (d - 1) (and_right (leb 2 d) _ e))
    by false false false e ih = both (leb 1 d) (and_left (leb 1 d) _ e) (ih d (and_right (leb 1 d) _ e))

-- ---- a letter without DEFINE

module _ (s : List ℕ) (d : ℕ) where
  pub more-none : d ≡ 0 → more_of s d ≡ 0
  unfolding more_of
  more-none h = simp (eq-eqb d 0 h)

  pub more-some : (d ≡ 0 → ⊥) → kind_at s d ≡ 3 → more_of s d ≡ (get_or s (d + 1) 0 - 1) * 5
  unfolding more_of
  more-some h k = simp (ne_eqb d 0 h, eq-eqb (kind_at s d) 3 k)

  pub more-entries : (d ≡ 0 → ⊥) → (kind_at s d ≡ 3 → ⊥) → more_of s d ≡ get_or s (d + 1) 0 * 3 + 2
  unfolding more_of
  more-entries h k = simp (ne_eqb d 0 h, ne_eqb (kind_at s d) 3 k)

  pub defined-none : d ≡ 0 → defined_at s d ≡ all_of []
  unfolding defined_at
  defined-none h = simp (eq-eqb d 0 h)

  defined-some : (d ≡ 0 → ⊥) → kind_at s d ≡ 3 → defined_at s d ≡ all_of (comparisons_at s (d + 2) (get_or s (d + 1) 0))
  unfolding defined_at
  defined-some h k = simp (ne_eqb d 0 h, eq-eqb (kind_at s d) 3 k)

  defined-entries : (d ≡ 0 → ⊥) → (kind_at s d ≡ 3 → ⊥) → defined_at s d ≡ postfix (read_entries s (get_or s (d + 1) 0) (d + 2))
  unfolding defined_at
  defined-entries h k = simp (ne_eqb d 0 h, ne_eqb (kind_at s d) 3 k)

-- a letter without DEFINE
none-defined : (T : List ℕ) (columns at : ℕ) → get_or T at 0 ≡ 0 → defined_in T columns at ≡ []
unfolding defined_in
none-defined T columns at h = simp (eq-eqb (get_or T at 0) 0 h)

pub letter-free : (T : List ℕ) (columns at : ℕ) → get_or T at 0 ≡ 0 → get_or T (at + 7) 0 ≡ 2 → condition_in T columns at ≡ all_of []
letter-free T columns at h k = by-comparisons T columns at (λ z. omega arith) ∙ ap all_of (none-defined T columns at h)

-- and what its words keep to, wherever they point
pub told_none : (T : List ℕ) (at low high : ℕ) → get_or T at 0 ≡ 0 → get_or T (at + 7) 0 ≡ 2 → PointsBetween T at low high
told_none T at low high h k = record {
  first = λ o. absurd (omega arith);
  free = λ o n. k;
  from = λ o. absurd (omega arith);
  upto = λ o. absurd (omega arith);
  entries = λ o. absurd (omega arith);
  entries_from = λ o. absurd (omega arith);
  entries_upto = λ o. absurd (omega arith);
}

module _ (s : List ℕ) (columns d : ℕ) (T : List ℕ) (at more : ℕ) (h : LetterRoom s columns d T at more) where
  abbrev freed : List ℕ
  freed = set (set T at 0) (at + 7) 2

  pub letter-none : d ≡ 0 → LetterPut s columns d T freed at more more
  letter-none z =
      let w : get_or freed at 0 ≡ 0 =
      get_or-set_other (set T at 0) (at + 7) at 2 0 (λ q. omega arith) ∙ get_or-set_same T at 0 0 (let a = h.before in let b = h.room in omega arith) in
      let v : get_or freed (at + 7) 0 ≡ 2 = get_or-set_same (set T at 0) (at + 7) 2 0 (simp length-set (let a = h.before in let b = h.room in omega arith)) in
      record {
        behind = let e = more-none s d z in omega arith;
        len = length-set (set T at 0) (at + 7) 2 ∙ length-set T at 0;
        is = letter-free freed columns at w v ∙ sym (defined-none s d z);
        told = told_none freed at more more w v;
        kept = λ j f g. get_or-set_other (set T at 0) (at + 7) j 2 0 (λ q. f (omega arith) (omega arith)) ∙ get_or-set_other T at j 0 0 (λ q. f (omega arith) (omega arith));
      }

  -- where it has one, its header can be read
  pub header_read : (d ≡ 0 → ⊥) → d - 2 + 1 < length s
  header_read o = let a = (h.body o).header in let b = (h.body o).there in omega arith

  pub define_room : (d ≡ 0 → ⊥) → (k : ℕ) → k ≡ le16 s (d - 2) → k ≡ 3 → TestRoom s columns d T at more
  unfolding kind_at
  define_room o k ek z = record {
    few = h.few;
    some = o;
    kind = sym ek ∙ z;
    body = (h.body o).all (sym ek ∙ z);
    before = h.before;
    room = let e = more-some s d o (sym ek ∙ z) in let r = h.room in omega arith;
    small = h.small;
  }

  -- and by its entries
  module _ (o : d ≡ 0 → ⊥) (k : ℕ) (ek : k ≡ le16 s (d - 2)) (n : k ≡ 3 → ⊥) where
    pub postfix-room : PostfixRoom s columns d T at more
    unfolding kind_at
    postfix-room = record {
      few = h.few;
      there = (h.body o).there;
      body = (h.body o).postfix (λ z. n (ek ∙ z));
      before = h.before;
      room = let e = more-entries s d o (λ z. n (ek ∙ z)) in let r = h.room in omega arith;
      small = h.small;
    }

    pub postfix-is_put : (T' : List ℕ) (r : ℕ) → PostfixPut s columns d T T' at more r → LetterPut s columns d T T' at more r
    unfolding kind_at
    postfix-is_put T' r put =
        let b = (h.body o).postfix (λ z. n (ek ∙ z)) in
        let c = put.counted in
        let f = put.from in
        let e = put.behind in
        let zero = put.none in
        let m = more-entries s d o (λ z. n (ek ∙ z)) in
        record {
          behind = omega arith;
          len = put.len;
          is = by_entries T' columns at (get_or s (d + 1) 0) more put.kind c f ∙ ap postfix put.is ∙ sym (defined-entries s d o (λ z. n (ek ∙ z)));
          told = record {
            first = λ o. absurd (omega arith);
            free = λ o n. absurd (n put.kind);
            from = λ o. absurd (omega arith);
            upto = λ o. absurd (omega arith);
            entries = λ o. record {
              few = let g = b.few in omega arith;
              there = rw (c, f) (let g = put.upto in let i = h.room in let j = put.len in omega arith);
              leaves = λ any. rw (c, f) (any-leaves T' columns any (get_or s (d + 1) 0) more 0 (ap (leaves_one 0) put.is ∙ b.entered.leaves));
            };
            entries_from = λ o. omega arith;
            entries_upto = λ o. rw (c, f) put.upto;
          };
          kept = put.kept;
        }

-- ---- a letter with one of kind 3

tested_low : (x : ℕ) → tested_by x ≡ 3 → ⊥
unfolding tested_by
tested_low x e = by (eqb x 1) e
  where
    by : (t : Bool) → ◌≡◌ {A = ℕ} (pick t 1 0) 3 → ⊥
    by true q = absurd (omega arith)
    by false q = absurd (omega arith)

module _ (s : List ℕ) (columns d : ℕ) (T : List ℕ) (at more : ℕ) (h : TestRoom s columns d T at more) (count : ℕ) (is-count : count ≡ get_or s (d + 1) 0) where
  -- its first two words are put, whatever they are: then there is room for its comparisons
  module _ (a b : ℕ) where
    pub first-room : ComparisonRoom s columns (d + 2) (set (set T at a) (at + 1) b) (at + 2)
    first-room = record {
      few = h.few;
      stands = let a = h.body.one in let b = h.body.stand.there in omega arith;
      fits = let a = h.body.one in let f = h.body.stand.fits 0 (omega arith) in rw (let q : d + 2 + 0 * 12 ≡ d + 2 = omega arith in q) at f;
      room = simp length-set (let a = h.before in let b = h.room in omega arith);
    }

    module _ (T₂ : List ℕ) (first : ComparisonPut s columns (d + 2) (set (set T at a) (at + 1) b) T₂ (at + 2)) where
      long₂ : length T₂ ≡ length T
      long₂ = comparison_long s columns (d + 2) (set (set T at a) (at + 1) b) T₂ (at + 2) first ∙ simp length-set

      -- the comparison of the interval starts where the first one does, or before it
      pub interval_room : (p : ℕ) → p ≤ d + 2 → IntervalRoom s p T₂ at
      interval_room p f = record {
        stands = let a = h.body.one in let b = h.body.stand.there in omega arith;
        room = let a = h.before in let b = h.room in let e = long₂ in omega arith;
      }

      module _ (p₃ : ℕ) (T₃ : List ℕ) (interval : IntervalPut s p₃ T₂ T₃ at) where
        pub rest-room : ComparisonsRoom s columns (d + 2 + 12) (count - 1) T₃ more
        rest-room = record {
          few = h.few;
          stand = record {
            there = let a = h.body.one in let b = h.body.stand.there in omega arith;
            fits = λ k l. let f = h.body.stand.fits (suc k) (omega arith) in rw (let q : d + 2 + suc k * 12 ≡ d + 2 + 12 + k * 12 = omega arith in q) at f;
          };
          room = let a = h.room in let b = long₂ in let c = interval.len in omega arith;
        }

        pub define_long : (p n w : ℕ) (T₄ : List ℕ) (r : ℕ) → ComparisonsPut s columns p n T₃ T₄ w r → length T₄ ≡ length T
        define_long p n w T₄ r rest = rest.len ∙ interval.len ∙ long₂

  -- they are its count and the word of its comparisons behind the first
  abbrev T₁ : List ℕ
  T₁ = set (set T at count) (at + 1) more

  module _ (T₂ : List ℕ) (first : ComparisonPut s columns (d + 2) T₁ T₂ (at + 2)) (T₃ : List ℕ) (interval : IntervalPut s (d + 2) T₂ T₃ at) where
    first-is₃ : comparison_in T₃ columns (at + 2) ≡ comparison_at s (d + 2)
    first-is₃ = comparison_same T₂ T₃ columns (at + 2) (λ j f g. interval.kept j (λ a b. omega arith)) ∙ first.is

    module _ (T₄ : List ℕ) (r : ℕ) (rest : ComparisonsPut s columns (d + 2 + 12) (count - 1) T₃ T₄ more r) where
      word-0 : get_or T₄ at 0 ≡ count
      word-0 =
          rest.kept at (λ a b. let c = h.before in omega arith)
          ∙ interval.kept at (λ a b. omega arith)
          ∙ comparison_kept s columns (d + 2) T₁ T₂ (at + 2) first at (λ a b. omega arith)
          ∙ get_or-set_other (set T at count) (at + 1) at more 0 (λ q. omega arith)
          ∙ get_or-set_same T at count 0 (let a = h.before in let b = h.room in omega arith)

      word-1 : get_or T₄ (at + 1) 0 ≡ more
      word-1 =
          rest.kept (at + 1) (λ a b. let c = h.before in omega arith)
          ∙ interval.kept (at + 1) (λ a b. omega arith)
          ∙ comparison_kept s columns (d + 2) T₁ T₂ (at + 2) first (at + 1) (λ a b. omega arith)
          ∙ get_or-set_same (set T at count) (at + 1) more 0 (simp length-set (let a = h.before in let b = h.room in omega arith))

      own-kept : (j : ℕ) → at ≤ j → j < at + 16 → get_or T₄ j 0 ≡ get_or T₃ j 0
      own-kept j f g = rest.kept j (λ a b. let c = h.before in omega arith)

      first-is : comparison_in T₄ columns (at + 2) ≡ comparison_at s (d + 2)
      first-is = comparison_same T₃ T₄ columns (at + 2) (λ j f g. own-kept j (omega arith) (omega arith)) ∙ first-is₃

      told : (c m : ℕ) (x : Comparison) (xs : List Comparison) → get_or T₄ at 0 ≡ c → (c ≡ 0 → ⊥) → get_or T₄ (at + 1) 0 ≡ m → comparison_in T₄ columns (at + 2) ≡ x →
          comparisons_in T₄ columns m (c - 1) ≡ xs → defined_in T₄ columns at ≡ x ∷ xs
      unfolding defined_in
      told c m x xs e o f g i = rw (e, f, ne_eqb c 0 o) (both g i)
        where
          both : {x y : Comparison} {xs ys : List Comparison} → x ≡ y → xs ≡ ys → x ∷ xs ≡ y ∷ ys
          both e f = rw (e, f) refl

      word-7 : get_or T₄ (at + 7) 0 ≡ 3 → ⊥
      word-7 z = let f = (first-same T₃ T₄ at own-kept (first-put s columns (d + 2) T₂ T₃ at interval first-is₃)).kind in tested_low (get_or T₄ (at + 2) 0 / 8) (sym f ∙ z)

      define_is : condition_in T₄ columns at ≡ defined_at s d
      define_is =
          by-comparisons T₄ columns at word-7
          ∙ ap all_of (told count more (comparison_at s (d + 2)) (comparisons_at s (d + 2 + 12) (count - 1)) word-0 (λ z. let a = h.body.one in omega arith) word-1 first-is rest.is
          ∙ sym (comparisons_first s (d + 2) count (let a = h.body.one in omega arith))
          ∙ ap (comparisons_at s (d + 2)) is-count)
          ∙ sym (defined-some s d h.some h.kind)

      pub define_put : LetterPut s columns d T T₄ at more r
      define_put = record {
        behind = let e = more-some s d h.some h.kind in let b = rest.behind in omega arith;
        len = define_long count more T₂ first (d + 2) T₃ interval (d + 2 + 12) (count - 1) more T₄ r rest;
        is = define_is;
        told = record {
          first = λ o. first-same T₃ T₄ at own-kept (first-put s columns (d + 2) T₂ T₃ at interval first-is₃);
          free = λ z n. absurd (let w = word-0 in let a = h.body.one in omega arith);
          from = λ o. let w = word-1 in omega arith;
          upto = λ o. let w = word-1 in let v = word-0 in let b = rest.behind in omega arith;
          entries = λ z. absurd (word-7 z);
          entries_from = λ z. absurd (word-7 z);
          entries_upto = λ z. absurd (word-7 z);
        };
        kept = λ j f g.
            rest.kept j g
            ∙ interval.kept j (λ a b. f (omega arith) (omega arith))
            ∙ comparison_kept s columns (d + 2) T₁ T₂ (at + 2) first j (λ a b. f (omega arith) (omega arith))
            ∙ get_or-set_other (set T at count) (at + 1) j more 0 (λ q. f (omega arith) (omega arith))
            ∙ get_or-set_other T at j count 0 (λ q. f (omega arith) (omega arith));
      }

-- The loops over the letters: how many words they take, the words of those with a DEFINE, and the
-- zeros of those behind them.
use mathlib.Core.Path.{◌≡◌, refl, sym, ap, ◌∙◌}
use mathlib.Core.List.{List}
use Prim.Native.Nat.{ℕ, zero, suc, ◌+◌, ◌*◌, ◌-◌, ◌≤◌, ◌<◌}
use native.Mathlib.Omega.{arith}
use native.Mathlib.Numerals.{add-one}
use lib.Dec.{eqb, ltb}
use lib.ListN.{length, get_or, set, length-set}
use lib.Seq.{get_or-set_same, get_or-set_other}
use borrow.Author.Tests.{eqb-true, eqb-false, ltb-true, ltb-false}
use Rattle.rules.specs.Basics.{le16}
use Rattle.laws.proofs.Choice.{decided}
use Rattle.define_list.specs.Defines.{kind_at, defined_at}
use Rattle.table.specs.Tests.{test_at, condition_in}
use Rattle.tests.specs.Prepared.{more_of, words_for, PointsBetween, TestCounted, TestsCountable, Preparable, Prepared, LetterRoom, LetterPut, LettersPut, NoneRoom, NonePut}
use Rattle.tests.proofs.Telling.{told_wider, told_same, condition_same}
use Rattle.tests.proofs.Putting.{more-none, more-some, more-entries, defined-none, letter-free, told_none}

-- ---- how many words

module _ (s : List ℕ) (d : ℕ) where
  pub none-counted : d ≡ 0 → (0 ≡ more_of s d) × (0 ≤ 50)
  none-counted z = (sym (more-none s d z), omega arith)

  module _ (h : TestCounted s d) (o : d ≡ 0 → ⊥) (x : ℕ) (e : x ≡ get_or s (d + 1) 0) (k : ℕ) (ek : k ≡ le16 s (d - 2)) where
    pub some-counted : k ≡ 3 → ((x - 1) * 5 ≡ more_of s d) × ((x - 1) * 5 ≤ 50)
    unfolding kind_at
    some-counted z = (let m = more-some s d o (sym ek ∙ z) in omega arith, let f = h.few (sym ek ∙ z) in omega arith)

    pub entries-counted : (k ≡ 3 → ⊥) → (x * 3 + 2 ≡ more_of s d) × (x * 3 + 2 ≤ 50)
    unfolding kind_at
    entries-counted n = (let m = more-entries s d o (λ z. n (ek ∙ z)) in omega arith, let f = h.most in omega arith)

words_next : (s defines : List ℕ) (l : ℕ) → words_for s defines (l + 1) ≡ words_for s defines l + more_of s (get_or defines l 0)
unfolding words_for
words_next s defines l = ap (words_for s defines) (add-one l)

words_upto : (s defines : List ℕ) (l m : ℕ) → l ≤ m → words_for s defines l ≤ words_for s defines m
words_upto s defines l zero h = let e : l ≡ 0 = omega arith in rw e (omega arith)
words_upto s defines l (suc m) h =
    decided (eqb l (suc m))
    (λ e. let q : l ≡ suc m = eqb-true l (suc m) e in rw q (omega arith))
    (λ e. let q = eqb-false l (suc m) e in
    let a = words_upto s defines l m (omega arith) in
    let b = ap (words_for s defines) (sym (add-one m)) in
    let c = words_next s defines m in
    omega arith)

-- the letters below l are counted
pub record Counting (s defines : List ℕ) (letters words l : ℕ) : Type 0 where
  pub asked : TestsCountable s defines letters
  pub upto : l ≤ letters
  pub is : words ≡ words_for s defines l
  pub few : words ≤ l * 50

module _ (s defines : List ℕ) (letters : ℕ) where
  pub counting_none : TestsCountable s defines letters → Counting s defines letters 0 0
  unfolding words_for
  counting_none h = record { asked = h; upto = omega arith; is = refl; few = omega arith }

  module _ (words l : ℕ) (h : Counting s defines letters words l) where
    pub counting_more : l < letters → (m : ℕ) → (m ≡ more_of s (get_or defines l 0)) × (m ≤ 50) → Counting s defines letters (words + m) (l + 1)
    counting_more g m e = record {
      asked = h.asked;
      upto = omega arith;
      is = let a = words_next s defines l in let b = h.is in let c = e.0 in omega arith;
      few = let b = h.few in let c = e.1 in omega arith;
    }

    pub counting_all : letters ≤ l → (words ≡ words_for s defines letters) × (words ≤ 1300)
    counting_all g =
        let q : l ≡ letters = let u = h.upto in omega arith in
        (h.is ∙ ap (words_for s defines) q, let u = h.asked.upto in let f = h.few in omega arith)

-- ---- the letters with a DEFINE: those below l have their words

pub record Lettering (s : List ℕ) (columns : ℕ) (defines : List ℕ) (letters : ℕ) (T₀ : List ℕ) (tests : ℕ) (T : List ℕ) (more l : ℕ) : Type 0 where
  pub asked : Preparable s columns defines letters T₀ tests
  pub upto : l ≤ letters
  pub is_more : more ≡ tests + 416 + words_for s defines l
  pub put : LettersPut s columns defines T₀ T tests l

module _ (s : List ℕ) (columns : ℕ) (defines : List ℕ) (letters : ℕ) (T₀ : List ℕ) (tests : ℕ) where
  pub lettering_none : Preparable s columns defines letters T₀ tests → Lettering s columns defines letters T₀ tests T₀ (tests + 416) 0
  unfolding words_for
  lettering_none h = record {
    asked = h;
    upto = omega arith;
    is_more = omega arith;
    put = record {
      len = refl;
      is = λ l g. absurd (omega arith);
      told = λ l g. absurd (omega arith);
      kept = λ j g. refl;
    };
  }

  module _ (T : List ℕ) (more l : ℕ) (h : Lettering s columns defines letters T₀ tests T more l) where
    pub lettering_room : l < letters → LetterRoom s columns (get_or defines l 0) T (tests + l * 16) more
    lettering_room g =
        let u = h.asked.upto in
        let m = h.is_more in
        record {
          few = h.asked.few;
          body = h.asked.body l (omega arith);
          before = omega arith;
          room =
              let a = words_next s defines l in
              let b = words_upto s defines (l + 1) letters (omega arith) in
              let c = h.asked.room in
              let d = h.put.len in
              omega arith;
          small = let c = h.asked.small in let d = h.put.len in omega arith;
        }

    pub lettering_all : letters ≤ l → LettersPut s columns defines T₀ T tests letters
    lettering_all g = let q : l ≡ letters = let u = h.upto in omega arith in rw (← q) h.put

    module _ (T' : List ℕ) (r : ℕ) (g : l < letters) (one : LetterPut s columns (get_or defines l 0) T T' (tests + l * 16) more r) where
      -- the words of the letters before, and the comparisons to which they point, are not touched
      own-kept : (m : ℕ) → m < l → (j : ℕ) → test_at tests m ≤ j → j < test_at tests m + 16 → get_or T' j 0 ≡ get_or T j 0
      own-kept m f j a b =
          let u = h.asked.upto in
          let e = h.is_more in
          one.kept j (λ c d. omega arith) (λ c d. omega arith)

      reach-kept : (j : ℕ) → tests + 416 ≤ j → j < tests + 416 + words_for s defines l → get_or T' j 0 ≡ get_or T j 0
      reach-kept j a b = let u = h.asked.upto in let e = h.is_more in one.kept j (λ c d. omega arith) (λ c d. omega arith)

      below : (m : ℕ) → m < l + 1 → (m ≡ l → ⊥) → m < l
      below m f k = omega arith

      -- the new letter, or one of those before
      each : (F : ℕ → Type 0) → F l → ((m : ℕ) → m < l → F m) → (m : ℕ) → m < l + 1 → F m
      each F a b m f =
          decided (eqb m l)
          (λ e. let q : m ≡ l = eqb-true m l e in rw q a)
          (λ e. b m (below m f (eqb-false m l e)))

      now-more : r ≡ tests + 416 + words_for s defines (l + 1)
      now-more = let a = words_next s defines l in let b = one.behind in let c = h.is_more in omega arith

      pub lettering_more : Lettering s columns defines letters T₀ tests T' r (l + 1)
      lettering_more = record {
        asked = h.asked;
        upto = omega arith;
        is_more = now-more;
        put = record {
          len = one.len ∙ h.put.len;
          is = each (λ m. condition_in T' columns (test_at tests m) ≡ defined_at s (get_or defines m 0)) one.is
              (λ m f. condition_same T T' (test_at tests m) (tests + 416) (tests + 416 + words_for s defines l) (h.put.told m f) (own-kept m f) reach-kept columns ∙ h.put.is m f);
          told = each (λ m. PointsBetween T' (test_at tests m) (tests + 416) (tests + 416 + words_for s defines (l + 1)))
              (told_wider T' (test_at tests l) more r (tests + 416) (tests + 416 + words_for s defines (l + 1)) (let b = h.is_more in omega arith) (let b = now-more in omega arith) one.told)
              (λ m f. told_wider T' (test_at tests m) (tests + 416) (tests + 416 + words_for s defines l) (tests + 416) (tests + 416 + words_for s defines (l + 1)) (omega arith) (let d = words_next s defines l in omega arith)
              (told_same T T' (test_at tests m) (tests + 416) (tests + 416 + words_for s defines l) (h.put.told m f) (own-kept m f) reach-kept one.len));
          kept = λ j f. let e = h.is_more in one.kept j (λ c d. omega arith) (λ c d. omega arith) ∙ h.put.kept j f;
        };
      }

-- ---- the letters behind them: those below l have their zero

pub record Clearing (T₀ : List ℕ) (tests letters : ℕ) (T : List ℕ) (l : ℕ) : Type 0 where
  pub asked : NoneRoom T₀ tests letters
  pub upto : l ≤ 26
  pub len : length T ≡ length T₀
  pub from : letters ≤ l
  pub zeros : (m : ℕ) → letters ≤ m → m < l → get_or T (test_at tests m) 0 ≡ 0
  pub frees : (m : ℕ) → letters ≤ m → m < l → get_or T (test_at tests m + 7) 0 ≡ 2
  pub kept : (j : ℕ) → (tests + letters * 16 ≤ j → j < tests + 416 → ⊥) → get_or T j 0 ≡ get_or T₀ j 0

module _ (T₀ : List ℕ) (tests letters : ℕ) where
  pub clearing_none : NoneRoom T₀ tests letters → Clearing T₀ tests letters T₀ letters
  clearing_none h = record {
    asked = h;
    upto = h.upto;
    len = refl;
    from = omega arith;
    zeros = λ m f g. absurd (omega arith);
    frees = λ m f g. absurd (omega arith);
    kept = λ j f. refl;
  }

  module _ (T : List ℕ) (l : ℕ) (h : Clearing T₀ tests letters T l) where
    abbrev own : ℕ
    own = tests + l * 16

    abbrev zeroed : List ℕ
    zeroed = set T own 0

    pub clearing_more : l < 26 → Clearing T₀ tests letters (set zeroed (own + 7) 2) (l + 1)
    clearing_more g = record {
      asked = h.asked;
      upto = omega arith;
      len = length-set zeroed (own + 7) 2 ∙ length-set T own 0 ∙ h.len;
      from = let f = h.from in omega arith;
      zeros = λ m a b. decided (eqb m l)
          (λ e. let q : m ≡ l = eqb-true m l e in
          rw q (get_or-set_other zeroed (own + 7) own 2 0 (λ z. omega arith) ∙ get_or-set_same T own 0 0 (let c = h.asked.room in let d = h.len in omega arith)))
          (λ e. let q = eqb-false m l e in
          get_or-set_other zeroed (own + 7) (test_at tests m) 2 0 (λ z. omega arith)
          ∙ get_or-set_other T own (test_at tests m) 0 0 (λ z. q (omega arith)) ∙ h.zeros m a (earlier m l b q));
      frees = λ m a b. decided (eqb m l)
          (λ e. let q : m ≡ l = eqb-true m l e in
          rw q (get_or-set_same zeroed (own + 7) 2 0 (simp length-set (let c = h.asked.room in let d = h.len in omega arith))))
          (λ e. let q = eqb-false m l e in
          get_or-set_other zeroed (own + 7) (test_at tests m + 7) 2 0 (λ z. q (omega arith))
          ∙ get_or-set_other T own (test_at tests m + 7) 0 0 (λ z. omega arith) ∙ h.frees m a (earlier m l b q));
      kept = λ j f. let k = h.from in
          get_or-set_other zeroed (own + 7) j 2 0 (λ q. f (omega arith) (omega arith))
          ∙ get_or-set_other T own j 0 0 (λ q. f (omega arith) (omega arith)) ∙ h.kept j f;
    }
      where
        earlier : (m l : ℕ) → m < l + 1 → (m ≡ l → ⊥) → m < l
        earlier m l a b = omega arith

    pub clearing_all : 26 ≤ l → NonePut T₀ T tests letters
    clearing_all g = record { len = h.len; zero = λ m a b. h.zeros m a (omega arith); free = λ m a b. h.frees m a (omega arith); kept = h.kept }

-- ---- both

module _ (s : List ℕ) (columns : ℕ) (defines : List ℕ) (letters : ℕ) (T T₁ : List ℕ) (tests : ℕ) (h : Preparable s columns defines letters T tests)
    (some : LettersPut s columns defines T T₁ tests letters) where
  pub none-room : NoneRoom T₁ tests letters
  none-room = record { upto = h.upto; room = let a = h.room in let b = some.len in omega arith }

  module _ (T₂ : List ℕ) (none : NonePut T₁ T₂ tests letters) where
    own-kept₂ : (l : ℕ) → l < letters → (j : ℕ) → test_at tests l ≤ j → j < test_at tests l + 16 → get_or T₂ j 0 ≡ get_or T₁ j 0
    own-kept₂ l f j a b = none.kept j (λ c d. omega arith)

    reach-kept₂ : (j : ℕ) → tests + 416 ≤ j → j < tests + 416 + words_for s defines letters → get_or T₂ j 0 ≡ get_or T₁ j 0
    reach-kept₂ j a b = none.kept j (λ c d. omega arith)

    long₂ : length T₂ ≡ length T
    long₂ = none.len ∙ some.len

    pub prepared : Prepared s columns defines T T₂ tests
    prepared = record {
      long = let a = h.room in let b = long₂ in omega arith;
      told = λ l f. decided (ltb l letters)
          (λ t. let g = ltb-true l letters t in
          told_wider T₂ (test_at tests l) (tests + 416) (tests + 416 + words_for s defines letters) tests (length T₂) (omega arith) (let a = h.room in let b = long₂ in omega arith)
          (told_same T₁ T₂ (test_at tests l) (tests + 416) (tests + 416 + words_for s defines letters) (some.told l g) (own-kept₂ l g) reach-kept₂ none.len))
          (λ t. let g = ltb-false l letters t in told_none T₂ (test_at tests l) tests (length T₂) (none.zero l g f) (none.free l g f));
      is = λ l f. decided (ltb l letters)
          (λ t. let g = ltb-true l letters t in
          condition_same T₁ T₂ (test_at tests l) (tests + 416) (tests + 416 + words_for s defines letters) (some.told l g) (own-kept₂ l g) reach-kept₂ columns ∙ some.is l g)
          (λ t. let g = ltb-false l letters t in
          letter-free T₂ columns (test_at tests l) (none.zero l g f) (none.free l g f) ∙ sym (defined-none s (get_or defines l 0) (h.free l g f)));
      len = long₂;
      kept = λ j f. none.kept j (λ c d. omega arith) ∙ some.kept j f;
    }

-- Laws of the input: the tests in the code's order, how many bytes decide, and the rows'
-- numbers written one behind the other.
use mathlib.Core.Path.{◌≡◌, refl, sym, ap, ◌∙◌}
use mathlib.Core.Bool.{Bool, true, false}
use mathlib.Core.List.{List, [], ◌∷◌, ◌++◌}
use Prim.Native.Nat.{ℕ, ◌+◌, ◌*◌, ◌-◌, ◌/◌, ◌≤◌, ◌<◌}
use native.Mathlib.Omega.{arith}
use native.Mathlib.Numerals.{add-one}
use lib.Dec.{ltb}
use lib.IntN.{ℤ}
use lib.ListN.{length, set, take, drop, length-set, length-take}
use lib.Seq.{take_all}
use borrow.Author.Tests.{lt-ltb, le-ltb, ltb-true, ltb-false}
use Rattle.rules.specs.Basics.{pick, tabulate, le16, le32, signed32, wrote}
use Rattle.rules.specs.Program.{refused_text, too_large, rows_of, printed_for, printed}
use Rattle.laws.proofs.Lists.{length-tabulate}
use Rattle.input.specs.declared.Input.TheVariants.{Refused, TooLarge, Go}
use Rattle.input.specs.Input.{most_read, input_of, printed_input}
use Rattle.put.proofs.Writing.{wrote_none, wrote-next}

-- ---- the code's ways through the tests, where q is the query's length

module _ (s : List ℕ) where
  pub no_length : length s < 2 → Refused 1 ≡ input_of s
  unfolding input_of
  no_length h = simp (lt-ltb _ _ h)

  module _ (q : ℕ) (e : q ≡ le16 s 0) (two : 2 ≤ length s) where
    pub long_query : 4096 < q → TooLarge ≡ input_of s
    unfolding input_of
    long_query h = simp (le-ltb _ _ two, lt-ltb 4096 (le16 s 0) (rw e at h))

    module _ (k : q ≤ 4096) where
      pub cut-query : length s < 2 + q → Refused 1 ≡ input_of s
      unfolding input_of
      cut-query h = simp (le-ltb _ _ two, le-ltb 4096 (le16 s 0) (rw e at k), lt-ltb (length s) (2 + le16 s 0) (rw e at h))

      module _ (b : 2 + q ≤ length s) where
        pub many-rows : 32768 < length s - (2 + q) → TooLarge ≡ input_of s
        unfolding input_of
        many-rows h = simp (le-ltb _ _ two, le-ltb 4096 (le16 s 0) (rw e at k), le-ltb (length s) (2 + le16 s 0) (rw e at b), lt-ltb 32768 (length s - (2 + le16 s 0)) (rw e at h))

        pub whole-input : length s - (2 + q) ≤ 32768 → Go (2 + q) ≡ input_of s
        unfolding input_of
        whole-input h =
            rw e (simp (le-ltb _ _ two, le-ltb 4096 (le16 s 0) (rw e at k), le-ltb (length s) (2 + le16 s 0) (rw e at b), le-ltb 32768 (length s - (2 + le16 s 0)) (rw e at h)))

-- ---- what the cases give

-- where the query and the rows lie
pub record Parted (s : List ℕ) (rows : ℕ) : Type 0 where
  pub query : 2 ≤ rows
  pub small : rows ≤ 4098
  pub within : rows ≤ length s
  pub few : length s - rows ≤ 32768

pub parted : (s : List ℕ) (rows : ℕ) → input_of s ≡ Go rows → Parted s rows
unfolding input_of
parted s rows e = go _ _ _ _ refl refl refl refl e
  where
    go : (a b c d : Bool) → ltb (length s) 2 ≡ a → ltb 4096 (le16 s 0) ≡ b → ltb (length s) (2 + le16 s 0) ≡ c → ltb 32768 (length s - (2 + le16 s 0)) ≡ d
        → pick a (Refused 1) (pick b TooLarge (pick c (Refused 1) (pick d TooLarge (Go (2 + le16 s 0))))) ≡ Go rows → Parted s rows
    go true b c d ea eb ec ed e = absurd (let z : ◌≡◌ {A = ℕ} 0 1 = cc in omega arith)
    go false true c d ea eb ec ed e = absurd (let z : ◌≡◌ {A = ℕ} 0 1 = cc in omega arith)
    go false false true d ea eb ec ed e = absurd (let z : ◌≡◌ {A = ℕ} 0 1 = cc in omega arith)
    go false false false true ea eb ec ed e = absurd (let z : ◌≡◌ {A = ℕ} 0 1 = cc in omega arith)
    go false false false false ea eb ec ed e =
        let z : 2 + le16 s 0 ≡ rows = cc in
        let b : le16 s 0 ≤ 4096 = ltb-false 4096 (le16 s 0) eb in
        let c : 2 + le16 s 0 ≤ length s = ltb-false (length s) (2 + le16 s 0) ec in
        let d : length s - (2 + le16 s 0) ≤ 32768 = ltb-false 32768 (length s - (2 + le16 s 0)) ed in
        record { query = omega arith; small = omega arith; within = omega arith; few = omega arith }

-- the program prints what the cases print
pub printed-input : (s : List ℕ) → printed s ≡ printed_input (input_of s) s
unfolding input_of printed_input printed
printed-input s = go (ltb (length s) 2) (ltb 4096 (le16 s 0)) (ltb (length s) (2 + le16 s 0)) (ltb 32768 (length s - (2 + le16 s 0)))
  where
    F : List ℕ
    F = printed_for (take (le16 s 0) (drop 2 s)) (drop (2 + le16 s 0) s)

    go : (a b c d : Bool)
        → pick a (refused_text 1) (pick b too_large (pick c (refused_text 1) (pick d too_large F)))
        ≡ printed_input (pick a (Refused 1) (pick b TooLarge (pick c (Refused 1) (pick d TooLarge (Go (2 + le16 s 0)))))) s
    go true b c d = refl
    go false true c d = refl
    go false false true d = refl
    go false false false true = refl
    go false false false false = ap (λ (k : ℕ). printed_for (take k (drop 2 s)) (drop (2 + le16 s 0) s)) (let e : le16 s 0 ≡ 2 + le16 s 0 - 2 = omega arith in e)

-- all that is longer than the longest query with the most row bytes is too large
long_input : (s : List ℕ) → most_read ≤ length s → printed s ≡ too_large
unfolding printed
long_input s h = simp (le-ltb (length s) 2 (omega arith)) (go (ltb 4096 (le16 s 0)) refl)
  where
    go : (t : Bool) → ltb 4096 (le16 s 0) ≡ t
        → pick t too_large
        (pick (ltb (length s) (2 + le16 s 0)) (refused_text 1)
        (pick (ltb 32768 (length s - (2 + le16 s 0))) too_large
        (printed_for (take (le16 s 0) (drop 2 s)) (drop (2 + le16 s 0) s))))
        ≡ too_large
    go true e = refl
    go false e =
        let b = ltb-false 4096 (le16 s 0) e in
        simp (le-ltb (length s) (2 + le16 s 0) (omega arith), lt-ltb 32768 (length s - (2 + le16 s 0)) (omega arith))

-- so the first 36,867 bytes decide
pub prefix_decides : (s : List ℕ) → printed s ≡ printed (take most_read s)
prefix_decides s = go (ltb most_read (length s)) refl
  where
    go : (t : Bool) → ltb most_read (length s) ≡ t → printed s ≡ printed (take most_read s)
    go true e =
        let h = ltb-true most_read (length s) e in
        long_input s (omega arith) ∙ sym (long_input (take most_read s) (simp length-take (omega arith)))
    go false e = ap printed (sym (take_all most_read s (ltb-false most_read (length s) e)))

-- ---- the rows: the first k numbers are written

pub record Filled (s : List ℕ) (before now : List ℤ) (count k : ℕ) : Type 0 where
  pub is : now ≡ wrote before 0 (tabulate k (λ j. signed32 (le32 s (4 * j))))
  pub upto : k ≤ count
  pub counted : count ≡ length s / 4
  pub room : count ≤ length before
  pub long : length now ≡ length before

module _ (s : List ℕ) (l : List ℤ) (count : ℕ) where
  abbrev numbers : ℕ → List ℤ
  numbers k = tabulate k (λ j. signed32 (le32 s (4 * j)))

  pub filled_none : count ≡ length s / 4 → count ≤ length l → Filled s l l count 0
  unfolding tabulate
  filled_none e h = record { is = sym (wrote_none l 0); upto = omega arith; counted = e; room = h; long = refl }

  pub filled_more : (n : List ℤ) (k w : ℕ) (v : ℤ) → Filled s l n count k → k < count → w ≡ le32 s (4 * k) → v ≡ signed32 w → Filled s l (set n k v) count (k + 1)
  unfolding tabulate
  filled_more n k w v f h ew ev =
      let r = f.room in
      let z : length (numbers k) ≡ k = length-tabulate k (λ j. signed32 (le32 s (4 * j))) in
      let a : set (wrote l 0 (numbers k)) (0 + length (numbers k)) (signed32 (le32 s (4 * k))) ≡ wrote l 0 (numbers k ++ (signed32 (le32 s (4 * k)) ∷ [])) =
      wrote-next l 0 (numbers k) (signed32 (le32 s (4 * k))) (omega arith)
      in
      let i : 0 + length (numbers k) ≡ k = omega arith in
      record {
        is =
            ap (λ (x : List ℤ). set x k v) f.is
            ∙ ap (set (wrote l 0 (numbers k)) k) (ev ∙ ap signed32 ew)
            ∙ ap (λ (j : ℕ). set (wrote l 0 (numbers k)) j (signed32 (le32 s (4 * k)))) (sym i)
            ∙ a
            ∙ ap (λ (j : ℕ). wrote l 0 (numbers j)) (sym (add-one k));
        upto = omega arith;
        counted = f.counted;
        room = r;
        long = length-set n k v ∙ f.long;
      }

  pub filled_all : (n : List ℤ) (k : ℕ) → Filled s l n count k → count ≤ k → (n ≡ wrote l 0 (rows_of s)) × (count ≡ length (rows_of s))
  unfolding rows_of
  filled_all n k f h =
      let e : k ≡ length s / 4 = omega (arith, f.counted, f.upto) in
      (f.is ∙ ap (λ (j : ℕ). wrote l 0 (numbers j)) e, f.counted ∙ sym (length-tabulate (length s / 4) (λ j. signed32 (le32 s (4 * j)))))

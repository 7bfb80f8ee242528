-- The words of a state as the code reads and writes them.
use mathlib.Core.Path.{◌≡◌, refl, sym, ap, ◌∙◌}
use mathlib.Core.Bool.{true, false}
use mathlib.Core.List.{List, [], ◌∷◌, ◌++◌}
use Prim.Native.Nat.{ℕ, zero, suc, ◌+◌, ◌*◌, ◌-◌, ◌≤◌, ◌<◌}
use native.Mathlib.Omega.{arith}
use lib.IntN.{ℤ}
use lib.ListN.{length, get_or, set, drop, replicate, length-set, length-drop}
use lib.Seq.{drop-drop}
use borrow.Author.Tests.{le-leb, lt-leb}
use Rattle.rules.specs.Query.{columns_of, parts}
use Rattle.rules.specs.Rows.{table_of}
use Rattle.tally.specs.Counting.{all_up, cells_in, Countable}
use Rattle.tally.proofs.Reading.{all_up-long}
use Rattle.named.proofs.Shapes.{shape_is}
use Rattle.depot_state.specs.Steps.{named_in, list_fits, cells_named, state_up, Counts}

-- ---- zeros at the front

abbrev noughts : ℕ → List ℕ
noughts n = replicate n 0

rep_long : (n : ℕ) → length (noughts n) ≡ n
rep_long zero = refl
rep_long (suc n) = ap suc (rep_long n)

pub rep_on : (n : ℕ) (ys : List ℕ) → replicate n 0 ++ (0 ∷ ys) ≡ replicate (suc n) 0 ++ ys
rep_on zero ys = refl
rep_on (suc n) ys = ap (λ (l : List ℕ). 0 ∷ l) (rep_on n ys)

-- ---- behind a front of so many words

pub get_d_tail : (xs ys : List ℕ) (n i : ℕ) → length xs ≡ n → get_or (xs ++ ys) (n + i) 0 ≡ get_or ys i 0
get_d_tail [] ys n i e = let z : n + i ≡ i = omega arith in rw z
get_d_tail (x ∷ xs) ys n i e =
    let z : n + i ≡ suc (length xs + i) = omega arith in
    ap (λ (k : ℕ). get_or (x ∷ (xs ++ ys)) k 0) z ∙ get_d_tail xs ys (length xs) i refl

pub set-tail : (xs ys : List ℕ) (n i a : ℕ) → length xs ≡ n → set (xs ++ ys) (n + i) a ≡ xs ++ set ys i a
set-tail [] ys n i a e = let z : n + i ≡ i = omega arith in rw z
set-tail (x ∷ xs) ys n i a e =
    let z : n + i ≡ suc (length xs + i) = omega arith in
    ap (λ (k : ℕ). set (x ∷ (xs ++ ys)) k a) z ∙ ap (λ (l : List ℕ). x ∷ l) (set-tail xs ys (length xs) i a refl)

-- ---- a new state

first_two : (l : List ℕ) (a b : ℕ) → 2 ≤ length l → set (set l 0 a) 1 b ≡ a ∷ b ∷ drop 2 l
first_two [] a b h = absurd (omega arith)
first_two (x ∷ []) a b h = absurd (omega arith)
first_two (x ∷ y ∷ l) a b h = refl

pub new_words : (s₀ : List ℕ) (a b : ℕ) → 773 ≤ length s₀ → set (set (replicate 771 0 ++ drop 771 s₀) 771 a) 772 b ≡ replicate 769 0 ++ (0 ∷ 0 ∷ a ∷ b ∷ drop 773 s₀)
new_words s₀ a b h =
    let r : List ℕ = replicate 771 0 in
    let l : length r ≡ 771 = rep_long 771 in
    let y : List ℕ = drop 771 s₀ in
    let e : set (r ++ y) 771 a ≡ r ++ set y 0 a = set-tail r y 771 0 a l in
    let f : set (r ++ set y 0 a) 772 b ≡ r ++ set (set y 0 a) 1 b = set-tail r (set y 0 a) 771 1 b l in
    let g : set (set y 0 a) 1 b ≡ a ∷ b ∷ drop 2 y = first_two y a b (omega (arith, length-drop 771 s₀)) in
    let d : drop 2 y ≡ drop 773 s₀ = drop-drop 2 771 s₀ in
    let z : r ++ (a ∷ b ∷ drop 2 y) ≡ r ++ (a ∷ b ∷ drop 773 s₀) = ap (λ (v : List ℕ). r ++ (a ∷ b ∷ v)) d in
    ap (λ (v : List ℕ). set v 772 b) e ∙ f ∙ ap (λ (v : List ℕ). r ++ v) g ∙ z
    ∙ sym (rep_on 769 (0 ∷ a ∷ b ∷ drop 773 s₀) ∙ rep_on 770 (a ∷ b ∷ drop 773 s₀))

-- ---- an entry of the list

module _ (state list : List ℕ) where
  pub no_room : length list - get_or state 770 0 < 2 → false ≡ list_fits state list
  unfolding list_fits
  no_room h = sym (lt-leb (get_or state 770 0 + 2) (length list) (omega arith))

  pub some-room : 2 ≤ length list - get_or state 770 0 → true ≡ list_fits state list
  unfolding list_fits
  some-room h = sym (le-leb (get_or state 770 0 + 2) (length list) (omega arith))

  pub second-there : (v : ℕ) → 2 ≤ length list - get_or state 770 0 → get_or state 770 0 + 1 < length (set list (get_or state 770 0) v)
  second-there v h = rw (length-set list (get_or state 770 0) v) (omega arith)

pub state_there : (state : List ℕ) (v : ℕ) → 773 ≤ length state → 769 < length (set state 770 v)
state_there state v h = rw (length-set state 770 v) (omega arith)

-- ---- counting

module _ (state q : List ℕ) (rows numbers : List ℤ) (matches : ℕ) (c : Counts state q rows numbers matches) (columns k : ℕ) (e : columns ≡ get_or q 4 0) (f : k ≡ length (parts q).measures) where
  shape : columns_of q ≡ columns
  shape = shape_is q c.ordered ∙ sym e

  pub count-asks : Countable state rows columns (record { depot = get_or state 771 0; month = get_or state 772 0 }) numbers (3 + 2 * k) matches
  unfolding named_in
  count-asks = rw (← shape, f) c.countable

  pub count-is : (s : List ℕ) → s ≡ all_up state (cells_in (table_of columns rows) (record { depot = get_or state 771 0; month = get_or state 772 0 }) numbers (3 + 2 * k) matches)
      → set s 769 (get_or state 769 0 + 1) ≡ state_up state (cells_named state q rows numbers matches)
  unfolding state_up cells_named named_in
  count-is s i = rw (i, ← shape, f)

  pub count_long : (s cs : List ℕ) → s ≡ all_up state cs → length s ≡ length state
  count_long s cs i = ap length i ∙ all_up-long state cs

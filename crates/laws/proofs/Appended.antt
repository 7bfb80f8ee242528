-- Buffers that are written one part behind the other, as the report is: what a later part leaves of
-- an earlier one, and the numbers of one match more.
use mathlib.Core.Path.{◌≡◌, ap, sym, ◌∙◌}
use mathlib.Core.Bool.{true}
use mathlib.Core.List.{List, [], ◌∷◌, ◌++◌, append_assoc, append-nil}
use Prim.Native.Nat.{ℕ, suc, ◌+◌, ◌*◌, ◌-◌, ◌≤◌}
use native.Mathlib.Omega.{arith}
use lib.IntN.{ℤ}
use lib.ListN.{length, take, drop, length-append, length-drop, take-append-drop}
use lib.Seq.{length-take-le, drop-drop, take_at, drop_at}
use borrow.Author.Tests.{leb-true}
use Rattle.rules.specs.Basics.{wrote}
use Rattle.rules.specs.Rows.{Table}
use Rattle.rules.specs.Query.{Measure}
use Rattle.rules.specs.Places.{Place}
use Rattle.rules.specs.Search.{Match, labels}
use Rattle.rules.specs.Report.{match_numbers, numbers_of, labels_of, lent_room, fits}
use Rattle.laws.proofs.Level.{and-true}
use Rattle.laws.proofs.Limits.{numbers_long}

module _ {A : Type 0} where
  -- nothing written
  pub wrote_none : (l : List A) (at : ℕ) → wrote l at [] ≡ l
  unfolding wrote
  wrote_none l at = ap (λ (k : ℕ). take at l ++ drop k l) (let e : at + 0 ≡ at = omega arith in e) ∙ take-append-drop at l

  module _ (l : List A) (at : ℕ) (xs : List A) (h : at + length xs ≤ length l) where
    front_long : length (take at l ++ xs) ≡ at + length xs
    front_long = length-append (take at l) xs ∙ ap (λ (k : ℕ). k + length xs) (length-take-le at l (omega arith))

    grouped : wrote l at xs ≡ (take at l ++ xs) ++ drop (at + length xs) l
    unfolding wrote
    grouped = sym (append_assoc (take at l) xs (drop (at + length xs) l))

    -- a buffer keeps its length
    pub length-wrote_at : length (wrote l at xs) ≡ length l
    length-wrote_at = ap length grouped ∙ length-append (take at l ++ xs) (drop (at + length xs) l)
        ∙ (let a = front_long in let b = length-drop (at + length xs) l in let e : length (take at l ++ xs) + length (drop (at + length xs) l) ≡ length l = omega arith in e)

    -- one part behind the other
    pub wrote_on : (ys : List A) → wrote (wrote l at xs) (at + length xs) ys ≡ wrote l at (xs ++ ys)
    unfolding wrote
    wrote_on ys =
        let q : List A = take at l ++ xs in
        let r : List A = drop (at + length xs) l in
        let a : take (at + length xs) (wrote l at xs) ≡ q = ap (take (at + length xs)) grouped ∙ take_at q r (at + length xs) front_long in
        let b : drop (at + length xs) (wrote l at xs) ≡ r = ap (drop (at + length xs)) grouped ∙ drop_at q r (at + length xs) front_long in
        let c : drop (at + length xs + length ys) (wrote l at xs) ≡ drop (at + length (xs ++ ys)) l =
        sym (drop-drop (length ys) (at + length xs) (wrote l at xs)) ∙ ap (drop (length ys)) b ∙ drop-drop (length ys) (at + length xs) l
        ∙ ap (λ (k : ℕ). drop k l) (let m = length-append xs ys in let e : at + length xs + length ys ≡ at + length (xs ++ ys) = omega arith in e) in
        ap (λ (v : List A). v ++ (ys ++ drop (at + length xs + length ys) (wrote l at xs))) a
        ∙ ap (λ (v : List A). q ++ (ys ++ v)) c
        ∙ append_assoc (take at l) xs (ys ++ drop (at + length (xs ++ ys)) l)
        ∙ ap (λ (v : List A). take at l ++ v) (sym (append_assoc xs ys (drop (at + length (xs ++ ys)) l)))

-- the numbers and the labels of one match more
pub numbers_on : (t : Table) (ms : List Measure) (pl : List Place) (k : ℕ) (xs : List Match) (x : Match)
    → numbers_of t ms pl k (xs ++ (x ∷ [])) ≡ numbers_of t ms pl k xs ++ match_numbers t ms (suc (k + length xs)) x.start (labels pl x.path)
unfolding numbers_of
numbers_on t ms pl k [] x = append-nil _ ∙ ap (λ (i : ℕ). match_numbers t ms (suc i) x.start (labels pl x.path)) (let e : k ≡ k + 0 = omega arith in e)
numbers_on t ms pl k (y ∷ xs) x =
    ap (λ (v : List ℤ). match_numbers t ms (suc k) y.start (labels pl y.path) ++ v) (numbers_on t ms pl (suc k) xs x)
    ∙ sym (append_assoc (match_numbers t ms (suc k) y.start (labels pl y.path)) (numbers_of t ms pl (suc k) xs) _)
    ∙ ap (λ (i : ℕ). (match_numbers t ms (suc k) y.start (labels pl y.path) ++ numbers_of t ms pl (suc k) xs) ++ match_numbers t ms (suc i) x.start (labels pl x.path))
    (let e : suc k + length xs ≡ k + suc (length xs) = omega arith in e)

pub labels-on : (pl : List Place) (xs : List Match) (x : Match) → labels_of pl (xs ++ (x ∷ [])) ≡ labels_of pl xs ++ labels pl x.path
unfolding labels_of
labels-on pl [] x = append-nil (labels pl x.path)
labels-on pl (y ∷ xs) x = ap (λ (v : List ℕ). labels pl y.path ++ v) (labels-on pl xs x) ∙ sym (append_assoc (labels pl y.path) (labels_of pl xs) (labels pl x.path))

-- where a match fits whole, there is room for its numbers behind those of the matches before it,
-- and for its labels
pub fits-room : (nums labs : ℕ) (ms : List Measure) (m l : ℕ) (ls : List ℕ) → fits (lent_room nums labs ms) m l ls ≡ true
    → (m * (3 + 2 * length ms) + (3 + 2 * length ms) ≤ nums) × (l + length ls ≤ labs)
unfolding fits
fits-room nums labs ms m l ls e =
    let c = and-true _ _ e in
    let a : suc m * (3 + 2 * length ms) ≤ nums = leb-true _ _ c.0 in
    (omega (arith, native.Mathlib.Nat.suc-mul m (3 + 2 * length ms)), leb-true _ _ c.1)

-- the numbers of one match more, written behind those of the matches before it
pub report-on : (l : List ℤ) (t : Table) (ms : List Measure) (pl : List Place) (xs : List Match) (x : Match) → (length xs + 1) * (3 + 2 * length ms) ≤ length l
    → wrote (wrote l 0 (numbers_of t ms pl 0 xs)) (length xs * (3 + 2 * length ms)) (match_numbers t ms (suc (length xs)) x.start (labels pl x.path))
    ≡ wrote l 0 (numbers_of t ms pl 0 (xs ++ (x ∷ [])))
report-on l t ms pl xs x h =
    let n : length (numbers_of t ms pl 0 xs) ≡ length xs * (3 + 2 * length ms) = numbers_long t ms pl 0 xs in
    ap (λ (k : ℕ). wrote (wrote l 0 (numbers_of t ms pl 0 xs)) k (match_numbers t ms (suc (length xs)) x.start (labels pl x.path)))
    (sym n ∙ (let e : length (numbers_of t ms pl 0 xs) ≡ 0 + length (numbers_of t ms pl 0 xs) = omega arith in e))
    ∙ wrote_on l 0 (numbers_of t ms pl 0 xs) (omega arith) (match_numbers t ms (suc (length xs)) x.start (labels pl x.path))
    ∙ ap (wrote l 0) (sym (numbers_on t ms pl 0 xs x ∙ ap (λ (k : ℕ). numbers_of t ms pl 0 xs ++ match_numbers t ms (suc k) x.start (labels pl x.path))
    (let e : 0 + length xs ≡ length xs = omega arith in e)))

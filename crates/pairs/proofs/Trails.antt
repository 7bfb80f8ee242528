-- The trail as a stack of open pairs.
use mathlib.Core.Path.{◌≡◌, refl, sym, ap, ◌∙◌}
use mathlib.Core.List.{List, [], ◌∷◌}
use mathlib.Core.Bool.{Bool, true, false}
use lib.Dec.{ltb}
use Rattle.rules.specs.Basics.{pick}
use Rattle.table.specs.Table.{count_at}
use Prim.Native.Nat.{ℕ, zero, suc, ◌+◌, ◌-◌, ◌*◌, ◌/◌, ◌%◌, ◌≤◌, ◌<◌}
use native.Mathlib.Nat.{not-suc-le-zero}
use native.Mathlib.Numerals.{add-one}
use native.Mathlib.Omega.{arith}
use lib.Arith.{digits_div, digits_mod}
use lib.ListN.{length, get_or, set}
use lib.Seq.{get_or-set_same, get_or-set_other}
use Rattle.pairs.specs.declared.Walk.{Walk}
use Rattle.pairs.specs.Layout.{Layout, P, Sized, second, entry_of}
use Rattle.pairs.specs.Step.{place_in, row_in, way_in, pair_in, stack, pair_of}
use Rattle.pairs.specs.State.{Linked, Word, Spot, OnPath}

-- ---- a number of the trail

-- a pair's row and place
module _ (T : Layout) (e : ℕ) (h : place_in e < P T) where
  pub word_row : pair_in (P T) e / P T ≡ row_in e
  word_row = digits_div (row_in e) h

  pub word-place : pair_in (P T) e % P T ≡ place_in e
  word-place = digits_mod (row_in e) h

-- a second way is way 1
pub second-most : (T : Layout) (q : ℕ) → second T q ≤ 1
unfolding second
second-most T q = go (ltb 1 (count_at T.words q))
  where
    go : (b : Bool) → pick b 1 0 ≤ 1
    go true = omega arith
    go false = omega arith

-- a place's entry at a row
module _ (T : Layout) (z : Sized T) (q row : ℕ) (place : q < P T) (few : row ≤ 4096) where
  abbrev v : ℕ
  v = row * 2048 + entry_of T.words q

  pub entry_place : place_in v ≡ q
  unfolding entry_of second
  entry_place = let b = z.few in let s = second-most T q in omega arith

  pub entry_row : row_in v ≡ row
  unfolding entry_of second
  entry_row = let b = z.few in let s = second-most T q in omega arith

  pub entry-way : way_in v ≡ second T q
  unfolding entry_of second
  entry-way = let b = z.few in let s = second-most T q in omega arith

-- a number whose pair goes on to another way, below 256
module _ (e a : ℕ) (small : a < 256) where
  abbrev went : ℕ
  went = e % 16777216 + a * 16777216

  pub went-place : place_in went ≡ place_in e
  went-place = omega arith

  pub went-row : row_in went ≡ row_in e
  went-row = omega arith

  pub went-way : way_in went ≡ a
  went-way = omega arith

-- ---- the trail as a stack

module _ (P : ℕ) where
  pub stack-length : (trail : List ℕ) (t : ℕ) → length (stack P trail t) ≡ t
  unfolding stack
  stack-length trail zero = refl
  stack-length trail (suc t) = ap suc (stack-length trail t)

  -- what lies above is not looked at
  pub stack_set : (trail : List ℕ) (u v t : ℕ) → t ≤ u → stack P (set trail u v) t ≡ stack P trail t
  unfolding stack
  stack_set trail u v zero h = refl
  stack_set trail u v (suc t) h = rw (get_or-set_other trail u t v 0 (λ (e : t ≡ u). omega arith), stack_set trail u v t (omega arith))

  pub stack_push : (trail : List ℕ) (t v : ℕ) → t < length trail → stack P (set trail t v) (t + 1) ≡ pair_in P v ∷ stack P trail t
  unfolding stack
  stack_push trail t v h = rw (add-one t, get_or-set_same trail t v 0 h, stack_set trail t v t (omega arith))

  pub stack_top : (trail : List ℕ) (t : ℕ) → 0 < t → stack P trail t ≡ pair_in P (get_or trail (t - 1) 0) ∷ stack P trail (t - 1)
  unfolding stack
  stack_top trail zero h = absurd (not-suc-le-zero h)
  stack_top trail (suc t) h = let e : suc t - 1 ≡ t = omega arith in rw e

  -- another way of the last open pair
  pub stack_same : (trail : List ℕ) (t v : ℕ) → 0 < t → t ≤ length trail → pair_in P v ≡ pair_in P (get_or trail (t - 1) 0) → stack P (set trail (t - 1) v) t ≡ stack P trail t
  stack_same trail t v h l e =
      stack_top (set trail (t - 1) v) t h ∙ rw (get_or-set_same trail (t - 1) v 0 (omega arith), stack_set trail (t - 1) v (t - 1) (omega arith), e) (sym (stack_top trail t h))

-- ---- a path on the trail

module _ (T : Layout) where
  pub linked_under : (x : ℕ) (xs : List ℕ) → Linked T (x ∷ xs) → Linked T xs
  linked_under x [] l = tt
  linked_under x (z ∷ zs) l = l.1

pub spot_pair : (P : ℕ) (w : Walk) (e : ℕ) → Spot P w e → pair_in P e ≡ pair_of w
spot_pair P w e s = let b = s.base in rw (s.place, s.row, b)

module _ (T : Layout) (trail : List ℕ) (w : Walk) (h : OnPath T trail w) (going : 0 < w.top) where
  abbrev e : ℕ
  e = get_or trail (w.top - 1) 0

  word : Word T e
  word = h.words (w.top - 1) (omega arith)

  pub path_place : w.place < P T
  path_place = rw (← (h.spot going).place) word.place

  pub path_top : stack (P T) trail w.top ≡ pair_of w ∷ stack (P T) trail (w.top - 1)
  path_top = rw (← spot_pair (P T) w e (h.spot going)) (stack_top (P T) trail w.top going)

  pub path_linked : Linked T (pair_of w ∷ stack (P T) trail (w.top - 1))
  path_linked = rw path_top at h.linked

  pub path_row : pair_of w / P T ≡ w.row
  path_row = rw (h.spot going).base (digits_div w.row path_place)

  pub path_at : pair_of w % P T ≡ w.place
  path_at = rw (h.spot going).base (digits_mod w.row path_place)

-- Rules: document 01, "Places and preferment", its second, fourth and fifth paragraphs, with R-11
-- and R-13. The graph of the pairs (place, position); plain backtracking; and the counted walk with
-- its failed pairs and steps. Both walks are over any graph, and both searches use them over the
-- same one.
use Rattle.std.specs.Prelude.{◌≡◌, Bool, ◌&&◌, length, get_or, set, ltb, eqb}
use mathlib.Core.List.{List, [], ◌∷◌, map, Memᴰ}
use Rattle.std.proofs.Math.Bool.{true, false}
use Rattle.std.proofs.Math.Option.{Option, none, some}
use Prim.Native.Nat.{ℕ, zero, suc, ◌+◌, ◌*◌, ◌/◌, ◌%◌}
use Rattle.rules.specs.Places.{Place, p_letter, p_caret, p_dollar, p_fork, p_end}

-- ---- pairs

-- A pair is a number: position times P plus place, where P is the length of the list of places.
-- With R-3 the list has each place once for each value of its flags, F times, so a pair is
-- (position times P plus place) times F plus flags. `pairs` counts those of n rows, whose positions
-- are 0 to n.
abbrev pub pairs : ℕ → ℕ → ℕ
pairs P n = P * suc n

abbrev pub pair_at : ℕ → ℕ → ℕ → ℕ
pair_at P position place = position * P + place

abbrev pub position_of : ℕ → ℕ → ℕ
position_of P x = x / P

abbrev pub place_of : ℕ → ℕ → ℕ
place_of P x = x % P

-- the pair of the first place at a start
abbrev pub first_at : ℕ → ℕ → ℕ
first_at P start = start * P

-- what a pair does: it succeeds by itself, or it tries pairs in order until one succeeds (with none
-- to try, it fails)
pub data Ways : Type 0 where
  accept : Ways
  try : List ℕ → Ways

-- a letter or anchor that passes tries the one pair it leads to; one that does not pass tries none
abbrev pub pass_if : Bool → ℕ → Ways
pass_if true y = try (y ∷ [])
pass_if false y = try []

-- At position i of n rows: a letter place passes to the next position if a row is there and the
-- letter holds (`holds c i`); `^` passes at position 0 only, `$` at n only; a fork tries its ways
-- in order; END succeeds.
unfoldable pub ways_at : (ℕ → ℕ → Bool) → ℕ → ℕ → Place → ℕ → Ways
ways_at holds n P (p_letter c k) i = pass_if (ltb i n && holds c i) (pair_at P (suc i) k)
ways_at holds n P (p_caret k) i = pass_if (eqb i 0) (pair_at P i k)
ways_at holds n P (p_dollar k) i = pass_if (eqb i n) (pair_at P i k)
ways_at holds n P (p_fork ks) i = try (map (λ k. pair_at P i k) ks)
ways_at holds n P p_end i = accept

-- the graph of the pairs
unfoldable pub pair_ways : (ℕ → ℕ → Bool) → ℕ → List Place → ℕ → Ways
unfolding ways_at
pair_ways holds n pl x = ways_at holds n (length pl) (get_or pl (place_of (length pl) x) (p_fork [])) (position_of (length pl) x)

-- A reading of the rest from a pair: a path of pairs from it, each leading to the next by any of
-- its ways, up to one that succeeds by itself. It says nothing of order.
pub data IsPath (ways : ℕ → Ways) : ℕ → List ℕ → Type 0 where
  here : {x : ℕ} → ways x ≡ accept → IsPath ways x (x ∷ [])
  there : {x y : ℕ} {ys p : List ℕ} → ways x ≡ try ys → Memᴰ y ys → IsPath ways y p → IsPath ways x (x ∷ p)

-- Open pairs of an attempt from a pair on: each leads to the next by one of its ways, up to any
-- pair.
pub data IsOpen (ways : ℕ → Ways) : ℕ → List ℕ → Type 0 where
  last_open : {x : ℕ} → IsOpen ways x (x ∷ [])
  open_before : {x y : ℕ} {ys p : List ℕ} → ways x ≡ try ys → Memᴰ y ys → IsOpen ways y p → IsOpen ways x (x ∷ p)

-- ---- plain backtracking: every pair tried is entered

-- the first success among pairs tried in order
abbrev pub or_next : Option (List ℕ) → (Unit {0} → Option (List ℕ)) → Option (List ℕ)
or_next none next = next tt
or_next (some p) next = some p

unfoldable pub first_of : (ℕ → Option (List ℕ)) → List ℕ → Option (List ℕ)
first_of f [] = none
first_of f (y ∷ ys) = or_next (f y) (λ _. first_of f ys)

abbrev pub onto : ℕ → Option (List ℕ) → Option (List ℕ)
onto x none = none
onto x (some p) = some (x ∷ p)

unfoldable pub plain_by : Ways → (ℕ → Option (List ℕ)) → ℕ → Option (List ℕ)
unfolding first_of
plain_by accept f x = some (x ∷ [])
plain_by (try ys) f x = onto x (first_of f ys)

-- the path that plain backtracking finds from x: the pairs from x to the one that succeeds by
-- itself, each having led to the next. No path longer than k pairs is looked for; the law
-- `plain-enough` (crates/laws, Fuel) says that the number of pairs is enough for k.
unfoldable pub plain : (ℕ → Ways) → ℕ → ℕ → Option (List ℕ)
unfolding plain_by
plain ways zero x = none
plain ways (suc k) x = plain_by (ways x) (plain ways k) x

-- ---- the counted walk: a pair that has failed is not entered again, and each entry is one step

-- The walk of W1 of the bench sheet: `A+ B` (its places stand in specs/Places) on 100, 110, 120, 115,
-- 130, where A, above the row before, holds at rows 1, 2 and 4, and B, below it, at row 3. Pairs are
-- written (place, position), in the order in which they are entered.
--   start 0   (0,0) fails
--   start 1   (0,1) (1,2) (2,2) (1,3); (2,3) fails; (3,3) (4,4), which is END: rows 1 to 3, AAB
--   start 4   (0,4) (1,5); (2,5) fails; (3,5) fails; so (1,5) and (0,4) fail
-- 12 entries: 6 pairs that failed, and 6 on the path found.

-- Why a walk halts before its end (document 02): the next entry would pass the allowance of steps
-- (R-13), or a row is asked for that is not yet present (R-11).
pub data Halt : Type 0 where
  out_of_steps : Halt
  out_of_rows : Halt

-- when a walk halts: after so many steps no pair is entered any more; or this pair, entered, waits.
-- In document 01 neither is ever so (`whole` of specs/Search).
pub record Halting : Type 0 where
  pub spent : ℕ → Bool
  pub waits : ℕ → Bool

-- what the walk keeps: which pairs have failed, a Boolean for each pair, and the steps
pub record Kept : Type 0 where
  pub failed : List Bool
  pub steps : ℕ

abbrev pub as_kept : List Bool → ℕ → Kept
as_kept F s = record { failed = F; steps = s }

abbrev pub has_failed : Kept → ℕ → Bool
has_failed kept y = get_or kept.failed y false

-- an entry is one step; a pair that fails is kept as failed
abbrev pub one_step : Kept → Kept
one_step kept = as_kept kept.failed (suc kept.steps)

abbrev pub keep_failed : ℕ → Kept → Kept
keep_failed x kept = as_kept (set kept.failed x true) kept.steps

-- what comes of a pair: a path, or a failure, or a halt with the pairs still open, which are those
-- entered and not failed, each having led to the next; with what is kept by then
pub data Outcome : Type 0 where
  found : List ℕ → Kept → Outcome
  failed : Kept → Outcome
  halted : Halt → List ℕ → Kept → Outcome

abbrev pub or_else : Outcome → (Kept → Outcome) → Outcome
or_else (found p kept) next = found p kept
or_else (failed kept) next = next kept
or_else (halted h p kept) next = halted h p kept

-- an entered pair whose tries came to an outcome leads the path, or it fails and is kept as failed,
-- or it stays open
abbrev pub close : ℕ → Outcome → Outcome
close x (found p kept) = found (x ∷ p) kept
close x (failed kept) = failed (keep_failed x kept)
close x (halted h p kept) = halted h (x ∷ p) kept

-- a pair is tried: one that has failed is not entered, and trying it never succeeds; any other is
-- entered, which is one step, END included; but where the steps are spent, the walk halts just
-- before that entry
abbrev pub enter_unless : Bool → Bool → (Kept → ℕ → Outcome) → Kept → ℕ → Outcome
enter_unless true spent inside kept y = failed kept
enter_unless false true inside kept y = halted out_of_steps [] kept
enter_unless false false inside kept y = inside (one_step kept) y

module _ (h : Halting) where
  abbrev pub tried : (Kept → ℕ → Outcome) → Kept → ℕ → Outcome
  tried inside kept y = enter_unless (has_failed kept y) (h.spent kept.steps) inside kept y

  -- pairs are tried in order until one succeeds
  unfoldable pub tries : (Kept → ℕ → Outcome) → Kept → List ℕ → Outcome
  tries inside kept [] = failed kept
  tries inside kept (y ∷ ys) = or_else (tried inside kept y) (λ later. tries inside later ys)

  -- an entered pair that waits halts the walk, its entry counted
  unfoldable pub inside_by : Bool → Ways → (Kept → ℕ → Outcome) → Kept → ℕ → Outcome
  unfolding tries
  inside_by true w inside kept x = halted out_of_rows (x ∷ []) kept
  inside_by false accept inside kept x = found (x ∷ []) kept
  inside_by false (try ys) inside kept x = close x (tries inside kept ys)

  -- what comes of a pair that has been entered; k bounds the depth as it does for `plain`, and the
  -- law `inside-enough` (crates/laws, Fuel) says that the number of pairs is enough for it
  unfoldable pub inside : (ℕ → Ways) → ℕ → Kept → ℕ → Outcome
  unfolding inside_by
  inside ways zero kept x = failed kept
  inside ways (suc k) kept x = inside_by (h.waits x) (ways x) (inside ways k) kept x

-- how many pairs have failed
unfoldable pub count_true : List Bool → ℕ
count_true [] = 0
count_true (true ∷ F) = suc (count_true F)
count_true (false ∷ F) = count_true F

-- The desk's query as it is read: its tree, its table, its skip mode, and when its three letters
-- hold at a row, in the plain words of crates/bus_log.
use mathlib.Core.Path.{◌≡◌, refl, ap, ap₂, ◌∙◌}
use mathlib.Core.Bool.{Bool, true, false, ◌&&◌}
use mathlib.Core.List.{List, [], ◌∷◌}
use mathlib.Core.Option.{Option, none, some}
use Prim.Native.Nat.{ℕ, zero, suc, ◌+◌, ◌-◌, ◌<◌}
use native.Mathlib.Omega.{arith}
use lib.IntN.{ℤ, pos, negsuc, ◌+ℤ◌, +ℤ_idr}
use borrow.Author.Tests.{lt-ltb, le-ltb}
use Rattle.rules.specs.Basics.{every}
use Rattle.rules.specs.Rows.{Table, entry, entry_at, Comparison, compares, plus_number, right_side, met, all_of, holds}
use Rattle.rules.specs.Language.{Tree, pattern, one, next, last, bare, times, letter, dollar, star}
use Rattle.rules.specs.Search.{to_next}
use Rattle.rules.specs.Answers.{tree_in, task_of, letter_holds}
use Rattle.laws.proofs.Truths.{met_by, met_by_lem, all_met}
use Rattle.bus_log.specs.Log.{log_of, equal, is_event, as_before}
use Rattle.desk_query.specs.Query.{desk_query}

-- ---- the query's parts

-- the tree of `O R* C $`
abbrev pub desk_tree : Tree pattern
desk_tree = one (next (bare (letter 79)) (next (times (letter 82) star false) (next (bare (letter 67)) (last (bare dollar)))))

pub desk_tree_lem : tree_in desk_query ≡ some desk_tree
unfolding tree_in desk_query
desk_tree_lem = refl

pub desk_table : (rows : List ℤ) → (task_of desk_query rows).table ≡ log_of rows
unfolding task_of desk_query log_of
desk_table rows = refl

pub desk_mode : (rows : List ℤ) → (task_of desk_query rows).skip ≡ to_next
unfolding task_of desk_query
desk_mode rows = refl

-- the event is k; a column is like that of the row before
abbrev event_is : ℕ → Comparison
event_is k = record { left = 1; left_offset = pos 0; operator = 1; right_kind = 0; right = 0; right_offset = pos 0; number = pos k }

abbrev like_before : ℕ → Comparison
like_before column = record { left = column; left_offset = pos 0; operator = 1; right_kind = 1; right = column; right_offset = negsuc 0; number = pos 0 }

-- ---- comparisons at a row

module _ (t : Table) where
  met-event : (i k : ℕ) → i < t.n → met t i (event_is k) ≡ equal (entry t i 1) (pos k)
  unfolding met_by entry_at right_side compares equal
  met-event i k h = let z : i + 0 ≡ i = omega arith in rw (met_by_lem t i (event_is k), z, lt-ltb i t.n h)

  met-first : (column : ℕ) → met t 0 (like_before column) ≡ false
  unfolding met_by entry_at right_side plus_number
  met-first column = met_by_lem t 0 (like_before column) ∙ go (entry_at t (pos 0 +ℤ pos 0) column)
    where
      go : (o : Option ℤ) → met_by 1 o none ≡ false
      go none = refl
      go (some a) = refl

  met-like : (i column : ℕ) → suc i < t.n → met t (suc i) (like_before column) ≡ equal (entry t (suc i) column) (entry t i column)
  unfolding met_by entry_at right_side plus_number compares equal
  met-like i column h =
      let z : suc i + 0 ≡ suc i = omega arith in
      let b : suc i - 1 ≡ i = omega arith in
      rw (met_by_lem t (suc i) (like_before column), z, le-ltb (suc i) 1 (omega arith), b, lt-ltb (suc i) t.n h, lt-ltb i t.n (omega arith), +ℤ_idr (entry t i column))

  and-end : (a : Bool) → (a && true) ≡ a
  and-end true = refl
  and-end false = refl

  and_none : (a : Bool) → (a && false) ≡ false
  and_none true = refl
  and_none false = refl

  holds-offer : (i : ℕ) → i < t.n → holds t i (all_of (event_is 1 ∷ [])) ≡ is_event t 1 i
  unfolding every is_event
  holds-offer i h = all_met t i (event_is 1 ∷ []) ∙ and-end (met t i (event_is 1)) ∙ met-event i 1 h

  met-after : (k i : ℕ) → i < t.n → every (met t i) (event_is k ∷ like_before 2 ∷ like_before 3 ∷ []) ≡ (is_event t k i && as_before t i)
  unfolding every is_event as_before
  met-after k zero h = ap (λ (b : Bool). met t 0 (event_is k) && (b && (met t 0 (like_before 3) && true))) (met-first 2) ∙ ap (λ (b : Bool). b && false) (met-event 0 k h)
  met-after k (suc i) h =
      ap₂ (λ (a b : Bool). a && b) (met-event (suc i) k h)
      (ap₂ (λ (a b : Bool). a && b) (met-like i 2 h) (and-end (met t (suc i) (like_before 3)) ∙ met-like i 3 h))

  holds_after : (k i : ℕ) → i < t.n → holds t i (all_of (event_is k ∷ like_before 2 ∷ like_before 3 ∷ [])) ≡ (is_event t k i && as_before t i)
  holds_after k i h = all_met t i (event_is k ∷ like_before 2 ∷ like_before 3 ∷ []) ∙ met-after k i h

-- ---- the letters

module _ (rows : List ℤ) (i : ℕ) (h : i < (log_of rows).n) where
  pub offer_holds : letter_holds (task_of desk_query rows) 79 i ≡ is_event (log_of rows) 1 i
  unfolding letter_holds task_of desk_query log_of
  offer_holds = holds-offer (log_of rows) i h

  pub refusal-holds : letter_holds (task_of desk_query rows) 82 i ≡ (is_event (log_of rows) 2 i && as_before (log_of rows) i)
  unfolding letter_holds task_of desk_query log_of
  refusal-holds = holds_after (log_of rows) 2 i h

  pub acceptance_holds : letter_holds (task_of desk_query rows) 67 i ≡ (is_event (log_of rows) 3 i && as_before (log_of rows) i)
  unfolding letter_holds task_of desk_query log_of
  acceptance_holds = holds_after (log_of rows) 3 i h

-- Request R-9, one report from the other: from the matches of a report in skip mode 1, those of
-- mode 0 are chosen; and what is promised of that, over what two calls return and leave in their
-- buffers. `one-from_other` (proofs/OneFromOther) proves it. docs/AUDIT.md does it by hand.
use Rattle.std.specs.Prelude.{◌≡◌, List, [], ◌∷◌, ℕ, suc, ◌+◌, ltb, eqb, ℤ, length, set}
use Rattle.std.proofs.Math.Option.{Option}
use Rattle.rules.specs.Basics.{pick}
use Rattle.rules.specs.Query.{records, first_of_kind, parts}
use Rattle.rules.specs.Answers.{Buffers, Memory}
use Rattle.rules.specs.Entries.{Reported, reported_in}
use Rattle.search.specs.Promise.{Promised}

-- ---- choosing

-- the row behind the last row of a match; for an empty match, the row behind its start row
unfoldable pub start_behind : Reported → ℕ
start_behind e = pick (eqb (length e.labels) 0) (suc e.first) (e.first + length e.labels)

-- the first match that starts at this row or behind it, then each time the next one that starts
-- behind the one taken
unfoldable pub chosen_from : ℕ → List Reported → List Reported
unfolding start_behind
chosen_from row [] = []
chosen_from row (e ∷ es) = pick (ltb e.first row) (chosen_from row es) (e ∷ chosen_from (start_behind e) es)

-- of a report: its first match, then each time the next one that starts behind the last row of the
-- one taken
unfoldable pub chosen : List Reported → List Reported
unfolding chosen_from
chosen es = chosen_from 0 es

-- ---- the same query in the other mode

-- where a query's skip mode stands: the first byte of its record of kind 4
unfoldable pub skip_at : List ℕ → ℕ
unfolding records first_of_kind
skip_at q = (first_of_kind 4 (records q)).start

-- the query with this skip mode: one byte is another
unfoldable pub in_mode : ℕ → List ℕ → List ℕ
unfolding skip_at
in_mode mode q = set q (skip_at q) mode

-- ---- what is promised

-- For a query in mode 0, the same in mode 1, all rows and all lent buffers: where both calls are
-- done, the matches that the one leaves in its report are those chosen from the report of the
-- other, in order, labels and measures equal. Each call may have an allowance of steps or none.
abbrev pub OneFromOther : Type 0
OneFromOther =
    (a a' : Option ℕ) (q : List ℕ) (rows : List ℤ) (before before' : Buffers) (after after' : Memory)
    → (parts q).skip ≡ 0
    → Promised a q rows before after
    → Promised a' (in_mode 1 q) rows before' after'
    → after.result.answer ≡ 0
    → after'.result.answer ≡ 0
    → reported_in q after ≡ chosen (reported_in (in_mode 1 q) after')

-- Request R-14, the release desk: what a bus's log says, as plain statements about its rows, and
-- the verdict on it. No pattern and no search is named here.
use Rattle.std.specs.Prelude.{Bool, true, false, not, ◌&&◌, ◌||◌, List, ℕ, zero, suc, ◌+◌, eqb, ℤ, pos, Option, Some, None}
use Rattle.std.specs.Int.Signed.{le_z}
use Rattle.rules.specs.Basics.{pick, every_below}
use Rattle.rules.specs.Rows.{Table, table_of, entry}
use Rattle.bus_log.specs.declared.Event.{Event}
use Rattle.bus_log.specs.declared.Event.TheVariants.{Offered, Refused, Accepted}
use Rattle.bus_log.specs.declared.Release.{Release}
use Rattle.bus_log.specs.declared.Release.TheVariants.{Cleared, Held, Unreadable}
use Rattle.bus_log.specs.declared.Verdict.{Verdict}

-- the log: rows of time (column 0), event (1), base number (2) and patch number (3)
unfoldable pub log_of : List ℤ → Table
unfolding table_of
log_of rows = table_of 4 rows

-- two numbers are equal: each is at most the other
unfoldable pub equal : ℤ → ℤ → Bool
equal a b = le_z a b && le_z b a

-- the event of a number: 1 offered, 2 refused, 3 accepted
abbrev pub event_of : ℤ → Option Event
event_of x = pick (equal x (pos 1)) (Some Offered) (pick (equal x (pos 2)) (Some Refused) (pick (equal x (pos 3)) (Some Accepted) None))

-- the event of row i is k: 1 offered, 2 refused, 3 accepted
unfoldable pub is_event : Table → ℕ → ℕ → Bool
unfolding equal entry
is_event t k i = equal (entry t i 1) (pos k)

-- base and patch number of row i equal those of the row before it; the first row has none before it
unfoldable pub as_before : Table → ℕ → Bool
unfolding equal entry
as_before t zero = false
as_before t (suc i) = equal (entry t (suc i) 2) (entry t i 2) && equal (entry t (suc i) 3) (entry t i 3)

-- the test is true of some number below n; the last number below n of which it is true, if there is
-- one
unfoldable pub some_below : ℕ → (ℕ → Bool) → Bool
some_below zero f = false
some_below (suc n) f = f n || some_below n f

unfoldable pub last_below : ℕ → (ℕ → Bool) → Option ℕ
last_below zero f = None
last_below (suc n) f = pick (f n) (Some n) (last_below n f)

-- some row has an event other than 1, 2 and 3
unfoldable pub is_known : Table → ℕ → Bool
unfolding is_event
is_known t i = is_event t 1 i || (is_event t 2 i || is_event t 3 i)

unfoldable pub unreadable : Table → Bool
unfolding some_below is_known
unreadable t = some_below t.n (λ i. not (is_known t i))

-- row i is an offer, the k rows behind it are refusals, the row behind those is an acceptance and
-- the last row of the log; and the base and patch numbers of all these but the offer equal those of
-- the row before
unfoldable pub released : Table → ℕ → ℕ → Bool
unfolding is_event as_before every_below
released t i k =
    is_event t 1 i
    && (every_below k (λ m. is_event t 2 (suc i + m) && as_before t (suc i + m))
    && ((is_event t 3 (suc i + k) && as_before t (suc i + k))
    && eqb (suc (suc i + k)) t.n))

-- the log ends in an offer, refusals or none, and an acceptance, all of the same base and patch
-- numbers
unfoldable pub cleared : Table → Bool
unfolding some_below released
cleared t = some_below t.n (λ i. some_below t.n (λ k. released t i k))

-- the row of the last event 2, or none
unfoldable pub last_refusal : Table → Option ℕ
unfolding last_below is_event
last_refusal t = last_below t.n (λ i. is_event t 2 i)

-- ---- the verdict

-- a refusal or stop of the search is handed up by number, with zeros
abbrev pub handed : ℕ → Verdict
handed a = record { answer = a; verdict = 0; found = 0; row = 0 }

-- verdicts: 1 cleared, 2 held, 3 unreadable
abbrev pub said : ℕ → Verdict
said v = record { answer = 0; verdict = v; found = 0; row = 0 }

-- held, with the row of the last refusal if there is one
abbrev pub held_at : Option ℕ → Verdict
held_at None = said 2
held_at (Some i) = record { answer = 0; verdict = 2; found = 1; row = i }

-- these three by their numbers
abbrev pub released_as : Release → Verdict
released_as Cleared = said 1
released_as (Held refusal) = held_at refusal
released_as Unreadable = said 3

-- unreadable comes first, then cleared, then held; no rows is held, with none
unfoldable pub verdict_of : Table → Verdict
unfolding unreadable cleared last_refusal
verdict_of t = pick (unreadable t) (said 3) (pick (cleared t) (said 1) (held_at (last_refusal t)))

-- The tables of specs/Samples: the definitions agree with every line. Of the four tables that take
-- longest only some lines are run here, enough for each edit of this crate to fail, since each edit
-- runs them anew; laws/proofs/Samples runs every line of those four.
use mathlib.Core.Path.{refl}
use mathlib.Core.Bool.{false≢true, true≢false}
use mathlib.Core.List.{◌++◌}
use Rattle.rules.specs.Basics.{every}
use Rattle.rules.specs.Bench.{agrees}
use Rattle.rules.specs.Samples.{skips, full_first, allowances, keeps_to, in_time, no_rows, lots, keeps_on, lot_rooms, lot_refusals, refuses_so, Preferences, comes_to, averages, average_searches, truth_table, entry_lists, truth_searches, ahead_entries, judged_table, repetitions, shows, loop_skips, loop_allowances, loops_keep_to, loop_lots, loop_rooms, kept_rounds}
use Rattle.rules.specs.Preferment.{Prefers}
use lib.Dec.{T}
use lib.ListN.{take, drop}

pub skips-hold : T (every agrees skips)
unfolding every agrees skips
skips-hold = tt

pub full-first : T full_first
unfolding full_first
full-first = tt

pub allowances-hold : T (every keeps_to (take 5 allowances))
unfolding every keeps_to allowances
allowances-hold = tt

pub in_time_lem : T in_time
unfolding in_time
in_time_lem = tt

pub no-rows : T no_rows
unfolding no_rows
no-rows = tt

pub averages-hold : T (every comes_to averages)
unfolding every comes_to averages
averages-hold = tt

pub average_searches-hold : T (every agrees average_searches)
unfolding every agrees average_searches
average_searches-hold = tt

pub lots-hold : T (every keeps_on (take 11 (drop 4 lots)))
unfolding every keeps_on lots
lots-hold = tt

pub lot_rooms_lem : T lot_rooms
unfolding lot_rooms
lot_rooms_lem = tt

pub lot_refusals_lem : T (every refuses_so lot_refusals)
unfolding every refuses_so lot_refusals
lot_refusals_lem = tt

pub repetitions-hold : T (every shows (take 3 (drop 3 repetitions) ++ take 1 (drop 8 repetitions)))
unfolding every shows repetitions
repetitions-hold = tt

pub loop_skips-hold : T (every agrees loop_skips)
unfolding every agrees loop_skips
loop_skips-hold = tt

pub loop_allowances-hold : T (every loops_keep_to loop_allowances)
unfolding every loops_keep_to loop_allowances
loop_allowances-hold = tt

pub loop_lots-hold : T (every keeps_on loop_lots)
unfolding every keeps_on loop_lots
loop_lots-hold = tt

pub loop_rooms_lem : T loop_rooms
unfolding loop_rooms
loop_rooms_lem = tt

pub kept_rounds-hold : T (every (λ b. b) kept_rounds)
unfolding every kept_rounds
kept_rounds-hold = tt

pub preferences : Preferences
unfolding Prefers
preferences = record { branches = (tt, λ h. h); longer = (refl, λ h. false≢true h); shorter = (refl, λ h. true≢false h) }

pub truth-table_holds : T (every (λ b. b) truth_table)
unfolding every truth_table
truth-table_holds = tt

pub entry-lists_hold : T (every (λ b. b) entry_lists)
unfolding every entry_lists
entry-lists_hold = tt

pub truth-searches_hold : T (every agrees (take 3 truth_searches ++ drop 4 truth_searches))
unfolding every agrees truth_searches
truth-searches_hold = tt

pub ahead-entries : T ahead_entries
unfolding ahead_entries
ahead-entries = tt

pub judged-table_holds : T (every (λ b. b) judged_table)
unfolding every judged_table
judged-table_holds = tt

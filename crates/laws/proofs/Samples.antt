-- The four tables of rules/specs/Samples that take longest: the definitions agree with every line.
-- The others are run in rules/proofs/Samples.
use Rattle.rules.specs.Basics.{every}
use Rattle.rules.specs.Bench.{agrees}
use Rattle.rules.specs.Samples.{allowances, keeps_to, lots, keeps_on, repetitions, shows, truth_searches}
use lib.Dec.{T}

pub allowances-hold : T (every keeps_to allowances)
unfolding every keeps_to allowances
allowances-hold = tt

pub lots-hold : T (every keeps_on lots)
unfolding every keeps_on lots
lots-hold = tt

pub repetitions-hold : T (every shows repetitions)
unfolding every shows repetitions
repetitions-hold = tt

pub truth-searches_hold : T (every agrees truth_searches)
unfolding every agrees truth_searches
truth-searches_hold = tt

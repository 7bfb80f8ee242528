-- `trees::rounds` meets its contract. Laws: RoundLaws.
use Rattle.trees.proofs.RoundLaws.{rounds_open, rounds_shut, rounds_mul}
use native.Mathlib.Nat.{mul-le-mul}
use native.Mathlib.Omega.{arith}
use Rattle.trees.proofs.rounds.Goals as goal

pub overflow_mul-first : goal.overflow_mul-first
overflow_mul-first c = omega (arith, mul-le-mul c.requires.0.low_small c.requires.1)

pub overflow_add-first : goal.overflow_add-first
overflow_add-first c = omega (arith, mul-le-mul c.requires.0.low_small c.requires.1)

pub returns-then-high-eq100 : goal.returns-then-high-eq100
returns-then-high-eq100 c = rounds_open _ _ _ _ c.if-high-eq100.true c.capped.ensures

pub overflow_mul-more : goal.overflow_mul-more
overflow_mul-more c = omega (arith, rounds_mul _ _ _ c.requires.0 c.requires.1)

pub overflow_add-first-2 : goal.overflow_add-first-2
overflow_add-first-2 c = omega (arith, rounds_mul _ _ _ c.requires.0 c.requires.1, mul-le-mul c.requires.0.low_small c.requires.1)

pub returns : goal.returns
returns c = rounds_shut _ _ _ _ c.if-high-eq100.false c.capped-2.ensures

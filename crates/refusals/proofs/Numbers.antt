-- No refusal's answer is 0, or more than 21.
use mathlib.Core.Path.{◌≡◌}
use Prim.Native.Nat.{◌≤◌}
use native.Mathlib.Omega.{arith}
use Rattle.refusals.specs.Refusals.{answer_of}
use Rattle.refusals.specs.declared.Refusal.{Refusal}
use Rattle.refusals.specs.declared.Refusal.TheVariants.{Cut, Misplaced, Unfit, TooDeep, Broken, Nested, TooMany, Doubled, Foreign, BadRows, ShortNotes, ShortTrail, Unfinished, LooksAhead, NoNumber, OutOfOrder}

pub some_answer : (e : Refusal) → answer_of e ≡ 0 → ⊥
some_answer Cut h = omega arith
some_answer Misplaced h = omega arith
some_answer Unfit h = omega arith
some_answer TooDeep h = omega arith
some_answer (Broken k) h = omega arith
some_answer Nested h = omega arith
some_answer TooMany h = omega arith
some_answer Doubled h = omega arith
some_answer Foreign h = omega arith
some_answer BadRows h = omega arith
some_answer ShortNotes h = omega arith
some_answer ShortTrail h = omega arith
some_answer (Unfinished k) h = omega arith
some_answer LooksAhead h = omega arith
some_answer NoNumber h = omega arith
some_answer OutOfOrder h = omega arith

pub few_answers : (e : Refusal) → answer_of e ≤ 21
few_answers Cut = omega arith
few_answers Misplaced = omega arith
few_answers Unfit = omega arith
few_answers TooDeep = omega arith
few_answers (Broken k) = omega arith
few_answers Nested = omega arith
few_answers TooMany = omega arith
few_answers Doubled = omega arith
few_answers Foreign = omega arith
few_answers BadRows = omega arith
few_answers ShortNotes = omega arith
few_answers ShortTrail = omega arith
few_answers (Unfinished k) = omega arith
few_answers LooksAhead = omega arith
few_answers NoNumber = omega arith
few_answers OutOfOrder = omega arith

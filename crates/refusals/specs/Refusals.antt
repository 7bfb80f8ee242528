-- The number of a refusal in document 01's table of answers, with R-1 (14), R-4 (20) and R-11 (17
-- and 21), and the byte of the pattern's text that is told with it.
use Rattle.std.specs.Prelude.{ℕ, Result, Ok, Err}
use Rattle.refusals.specs.declared.Refusal.{Refusal}
use Rattle.refusals.specs.declared.Refusal.TheVariants.{Cut, Misplaced, Unfit, TooDeep, Broken, Nested, TooMany, Doubled, Foreign, BadRows, ShortNotes, ShortTrail, Unfinished, LooksAhead, NoNumber, OutOfOrder}

abbrev pub answer_of : Refusal → ℕ
answer_of Cut = 1
answer_of Misplaced = 2
answer_of Unfit = 3
answer_of TooDeep = 4
answer_of (Broken k) = 5
answer_of Nested = 6
answer_of TooMany = 7
answer_of Doubled = 8
answer_of Foreign = 9
answer_of BadRows = 10
answer_of ShortNotes = 11
answer_of ShortTrail = 12
answer_of (Unfinished k) = 14
answer_of LooksAhead = 17
answer_of NoNumber = 20
answer_of OutOfOrder = 21

abbrev pub offset_of : Refusal → ℕ
offset_of Cut = 0
offset_of Misplaced = 0
offset_of Unfit = 0
offset_of TooDeep = 0
offset_of (Broken k) = k
offset_of Nested = 0
offset_of TooMany = 0
offset_of Doubled = 0
offset_of Foreign = 0
offset_of BadRows = 0
offset_of ShortNotes = 0
offset_of ShortTrail = 0
offset_of (Unfinished k) = k
offset_of LooksAhead = 0
offset_of NoNumber = 0
offset_of OutOfOrder = 0

-- the answer and the byte of what may be refused; 0 where it is not
abbrev pub answer_in : {T : Type 0} → Result T Refusal → ℕ
answer_in (Ok x) = 0
answer_in (Err e) = answer_of e

abbrev pub offset_in : {T : Type 0} → Result T Refusal → ℕ
offset_in (Ok x) = 0
offset_in (Err e) = offset_of e

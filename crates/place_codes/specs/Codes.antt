-- The codes of places, and the later word of a fork. A letter must be A to Z: any other would get
-- the code of another place.
use Rattle.std.specs.Prelude.{ℕ, ◌+◌, ◌-◌, ◌%◌, eqb, ltb, Option, None, Some}
use Rattle.rules.specs.Basics.{pick}

-- the code of a letter's place, so that A is 0
abbrev pub letter_code : ℕ → ℕ
letter_code c = (c + 191) % 256

-- the code of an anchor's place: ^ is 94
abbrev pub anchor_code : ℕ → ℕ
anchor_code c = pick (eqb c 94) 26 27

-- the code of a fork by its first way, the place behind it and how many ways it has
abbrev pub fork_code : ℕ → ℕ → ℕ → ℕ
fork_code first behind count = pick (ltb 1 count) (pick (eqb first behind) 28 29) 29

-- the later word of a fork: its second way if it has two, else the word at which its ways begin
abbrev pub later_word : ℕ → ℕ → ℕ → ℕ
later_word second begin count = pick (eqb count 2) second begin

-- how many times a fork and a copy stand behind the copies, by the bounds of the quantifier; none if
-- it is unbounded, which an upper bound of 100 says
abbrev pub turns_behind : ℕ → ℕ → Option ℕ
turns_behind low high = pick (eqb high 100) None (Some (high - low))

-- What a caller is told of the room: the rules' answer with its offset, P, F and n, and the number
-- of pairs, by which notes and trail are measured. On an answer other than 0, P, F and n are 0, and
-- so are the pairs.
use Rattle.std.specs.Prelude.{◌≡◌, List, ℕ, ◌*◌, ℤ}
use Rattle.rules.specs.Walk.{pairs}
use Rattle.rules.specs.Answers.{room_of}
use Rattle.mireladle_c.specs.declared.Room.{Room}

pub record Told (q : List ℕ) (rows : List ℤ) (r : Room) : Type 0 where
  pub room : record { answer = r.answer; places = r.places; rows = r.rows; offset = r.offset; factor = r.factor } ≡ room_of q rows
  pub pairs : r.pairs ≡ pairs (r.places * r.factor) r.rows

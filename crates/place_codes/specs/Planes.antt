-- A plane of the table: the entries of all places for one value of their flags (R-3). Entry place
-- times F plus flags is the place with these flags; where a place does not have so many flags, the
-- entry is unused and holds END.
use Rattle.std.specs.Prelude.{Bool, true, false, ℕ, ◌+◌, ◌-◌, ◌≤◌, ◌<◌, eqb, ltb, leb}
use Rattle.rules.specs.Basics.{pick}
use Rattle.rules.specs.Places.{state_at}
use Rattle.place_codes.specs.declared.Plane.{Plane}
use Rattle.place_codes.specs.declared.Behind.{Behind}

-- the entry of place b
unfoldable pub slot : Plane → ℕ → ℕ
slot o b = state_at o.factor b o.flags

-- entries that fit their words
pub record Low (k : Behind) : Type 0 where
  pub some : 1 ≤ k.values
  pub few : k.values ≤ 8
  pub here : k.here < 4096
  pub set : k.set < 4096

abbrev pub behind : ℕ → ℕ → ℕ → Behind
behind values here set = record { values = values; here = here; set = set }

-- place b is behind a part whose flags have so many values
unfoldable pub state_by : Plane → ℕ → ℕ → Behind
unfolding slot
state_by o values b = behind values (slot o b) (state_at o.factor b (values - 1))

-- where a part begins whose places are numbered from b up to e
unfoldable pub start_by : Plane → ℕ → ℕ → Behind → Behind
unfolding state_by
start_by o b e k = pick (eqb b e) k (state_by o k.values b)

-- the same by the entry alone
unfoldable pub start_no : Plane → ℕ → ℕ → ℕ → ℕ
unfolding slot
start_no o b e k = pick (eqb b e) k (slot o b)

-- What is behind a round of the copy at fork b. The copy of a body that can take no row has a flag,
-- which doubles the values: it is set where the flags are no longer among the fork's values.
unfoldable pub round_by : Plane → Bool → ℕ → Behind → Behind
unfolding state_by
round_by o false b k = state_by o k.values b
round_by o true b k =
    behind (pick (leb k.values 4) (k.values + k.values) k.values) (pick (ltb o.flags k.values) k.here (state_at o.factor b (o.flags - k.values)))
    (state_at o.factor b (k.values - 1))

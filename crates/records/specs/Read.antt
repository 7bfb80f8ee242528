-- What the reader of records answers, by document 01's definitions: the record at an index, or that
-- it is cut.
use Rattle.std.specs.Prelude.{List, ℕ, ◌+◌, length}
use Rattle.records.specs.declared.Read.{Read}
use Rattle.records.specs.declared.Read.TheVariants.{Record as whole, Cut}
use Rattle.rules.specs.Basics.{pick, le16}
use Rattle.rules.specs.Query.{Record, whole_at, next_at, records_from}

-- a record of this kind with this body
abbrev pub record_of : ℕ → ℕ → ℕ → Record
record_of kind start len = record { kind = kind; start = start; len = len }

-- the whole records from an index on
unfoldable pub records_at : List ℕ → ℕ → List Record
unfolding records_from
records_at s at = records_from (length s) s at

-- the record at an index below the query's end, or that it is cut
unfoldable pub read_at : List ℕ → ℕ → Read
unfolding whole_at next_at le16
read_at s at = pick (whole_at s at) (whole (record { kind = le16 s (at + 2); start = at + 4; len = le16 s at; next = next_at s at })) Cut

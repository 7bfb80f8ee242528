-- What a call by value returns, of the state that it leaves and its outcome.
use Rattle.lots.specs.declared.Feed.{Feed}
use Rattle.outcome.specs.declared.Outcome.{Outcome}
use Rattle.calls.specs.declared.Fed.{Fed}

abbrev pub fed_of : Feed → Outcome → Fed
fed_of feed outcome = record { feed = feed; outcome = outcome }

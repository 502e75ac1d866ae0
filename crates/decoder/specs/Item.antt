-- What a body of a kind decodes as: an event, or the first check that it fails.
use Rattle.std.specs.Prelude.{Result}
use Rattle.event.specs.declared.Event.{Event}
use Rattle.decoder.specs.declared.Undecoded.{Undecoded}

abbrev pub Item : Type 0
Item = Result Event Undecoded

-- What the checks of an event by itself give as an answer.
use Rattle.std.specs.Prelude.{ℕ, Option}
use Rattle.answer.specs.declared.Answer.{Answer}
use Rattle.event.specs.declared.Event.{Event}
use Rattle.rules.specs.declared.Lengths.{Lengths}
use Rattle.rules.specs.Faults.{first_of, checks_alone}

-- The first of 7 to 9 that the event gets as event `number` of a list, if it gets one.
abbrev pub fault_alone : Lengths → ℕ → Event → Option Answer
fault_alone lengths number e = first_of (checks_alone lengths number e)

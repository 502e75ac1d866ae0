-- `trace::items::check_items` meets its contract: the first fault of what is left is the first of all.
use mathlib.Core.Path.{◌≡◌}
use Prim.Native.Nat.{◌+◌, ◌≤◌}
use lib.ListN.{length}
use Rattle.answer.specs.Table.{event_limit}
use Rattle.std.specs.Iterator.Adapters.{enumerate_source, enumerate_count}
use Rattle.std.specs.Prelude.{Ok}
use Rattle.trace.specs.Beginning.{or_fault}
use Rattle.trace.proofs.items.check_items.Given as goal

abbrev pub invariant-loop-event : goal.invariant-loop-event
invariant-loop-event l =
    (goal.iterator-loop-event).can_next l.event-iterator × (goal.iterator-loop-event).is_finite l.event-iterator
    × (enumerate_count l.event-iterator + length (enumerate_source l.event-iterator) ≤ event_limit)
    × (or_fault (enumerate_count l.event-iterator) (enumerate_source l.event-iterator) (Ok l.file.header)
    ≡ or_fault 0 l.file.items (Ok l.file.header))

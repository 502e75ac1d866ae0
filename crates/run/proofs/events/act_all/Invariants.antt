-- `events::act_all` meets its contract: what is left has still to act, is without fault, and its loads fit.
use Prim.Native.Nat.{◌+◌, ◌≤◌}
use mathlib.Core.Path.{◌≡◌}
use lib.ListN.{length}
use Rattle.std.specs.List.{All}
use Rattle.moves.specs.Acting.{memories, held, lengths, IsSameLoan}
use Rattle.run.specs.Running.{load_bytes}
use Rattle.run.specs.Acting.{FaultlessItem, acted_all}
use Rattle.run.proofs.events.act_all.Given as goal

abbrev pub invariant-loop-item : goal.invariant-loop-item
invariant-loop-item l =
    (goal.iterator-loop-item).can_next l.item-iterator × (goal.iterator-loop-item).is_finite l.item-iterator
    × (acted_all l.item-iterator (held l.lent) ≡ acted_all l.file.items (memories l.fn.global l.fn.shared l.fn.loads 0))
    × All (FaultlessItem (lengths l.initial.lent)) l.item-iterator
    × (l.lent.filled + load_bytes l.item-iterator ≤ length l.lent.loads.now)
    × IsSameLoan l.initial.lent l.lent

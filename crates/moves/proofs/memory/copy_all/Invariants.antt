-- `memory::copy_all`: the bytes so far are those of the source.
use mathlib.Core.Path.{◌≡◌}
use mathlib.Core.List.{◌++◌}
use lib.ListN.{take, drop}
use Rattle.moves.proofs.memory.copy_all.Given as goal

abbrev pub invariant-loop-index : goal.invariant-loop-index
invariant-loop-index l = l.destination ≡ take l.index l.source ++ drop l.index l.initial.destination

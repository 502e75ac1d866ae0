-- `close` meets its contract.
use Rattle.operations.proofs.Keeping.{Closed}
use Rattle.operations.proofs.closing.close.Given as goal

abbrev pub invariant-loop-index : goal.invariant-loop-index
invariant-loop-index l = Closed l.wait l.initial.ranges l.initial.marks l.index l.stay l.ranges l.marks

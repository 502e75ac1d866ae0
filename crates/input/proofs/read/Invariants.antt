use Rattle.std.proofs.Common.{◌*◌, ◌≤◌}
use Rattle.input.proofs.Reading.{ReadSoFar}
use Rattle.input.proofs.read.Given as goal

-- Each piece adds at most its 65,536 bytes.
abbrev pub invariant-loop : goal.invariant-loop
invariant-loop g l = record {
  bounded : l.total ≤ 65536 * l.counter;
  read : ReadSoFar (g.R.Read.remaining l.fn.reader) (g.R.Read.remaining l.reader) l.total l.fn.beginning l.beginning;
}

use Rattle.std.proofs.Common.{◌≡◌, ◌*◌, ◌≤◌, ◌++◌, length, drop}
use Rattle.line.specs.Text.{text_of}
use Rattle.line.proofs.put_all.Given as goal

-- The numbers passed stand in the line, and the rest is as it was.
abbrev pub invariant-loop-i : goal.invariant-loop-i
invariant-loop-i l = record {
  here : l.at ≡ length (text_of l.numbers l.i);
  text : l.out ≡ text_of l.numbers l.i ++ drop l.at l.fn.out;
  short : l.at ≤ 11 * l.i;
}

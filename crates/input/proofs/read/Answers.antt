use Rattle.std.proofs.Common.{arith, sym}
use Rattle.input.proofs.Reading.{none_read, one_more}
use Rattle.input.proofs.read.Goals as goal

pub loop-init : goal.loop-init
loop-init g c = record { bounded = omega arith; read = none_read _ _ }

pub loop-preserved : goal.loop-preserved
loop-preserved g c = record {
  bounded = omega (arith, c.in_ok-count.ensures.bound.0);
  read = one_more _ _ _ _ _ _ _ _ _ (sym c.in_ok-count.ensures.bound.1) c.loop.invariant.read c.in_ok-count.ensures.bytes.0 c.keep.ensures;
}

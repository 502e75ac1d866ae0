use Rattle.std.proofs.Common.{refl, arith}
use Rattle.line.specs.Text.{text_of}
use Rattle.line.proofs.Lines.{grown}
use Rattle.line.proofs.put_all.Goals as goal

pub loop-i-init : goal.loop-i-init
unfolding text_of
loop-i-init c = record { here = refl; text = refl; short = omega arith }

pub loop-i-preserved : goal.loop-i-preserved
loop-i-preserved c =
    let h = c.loop-i.invariant in
    let put = c.put-at.ensures in
    let text = grown _ _ _ _ c.loop-i.i _ _ _ h.here h.text put.past c.end_of.ensures put.laid in
    record { here = text.0; text = text.1; short = omega (arith, put.within) }

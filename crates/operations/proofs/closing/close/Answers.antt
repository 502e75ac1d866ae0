-- `close` meets its contract.
use Rattle.std.proofs.Common.{arith, sym, ap, ◌∙◌}
use Rattle.operations.specs.Waiting.{stays_open}
use Rattle.operations.proofs.Keeping.{closed-start, closed-kept, closed-left}
use Rattle.operations.proofs.closing.close.Goals as goal
use Rattle.operations.proofs.closing.close.Goals.{then-stays_open, else-stays_open}

pub loop-index-init : goal.loop-index-init
loop-index-init c = closed-start _ _ _

pub loop-index-preserved : goal.loop-index-preserved
loop-index-preserved c =
    let loop = c.loop-index in
    let read = c.record_at-operation.ensures in
    let told = ap (stays_open c.args.wait) (sym read) ∙ sym c.stays_open.ensures in
    elim c.if-stays_open.branch [
      | then-stays_open w ↦
          rw (w.stay-is, w.ranges-is, w.marks-is, w.put.ensures.ranges_after, w.put.ensures.marks_after, read)
          (closed-kept _ _ _ loop.invariant (omega arith) (omega arith) (told ∙ w.if-stays_open.true))
      | else-stays_open w ↦
          rw (w.stay-is, w.ranges-is, w.marks-is)
          (closed-left _ _ _ loop.invariant (omega arith) (omega arith) (told ∙ w.if-stays_open.false))
    ]

use Rattle.input.proofs.Kept.{kept-copied, none-kept}
use Rattle.input.proofs.keep.Goals as goal

pub returns-then-at-beginning : goal.returns-then-at-beginning
returns-then-at-beginning c = kept-copied _ _ _ _ _ c.if-at-beginning.true c.min-count.ensures c.copy_from_slice.ensures.after

pub returns-else-at-beginning : goal.returns-else-at-beginning
returns-else-at-beginning c = none-kept _ _ _ c.if-at-beginning.false

-- `file::judge_file` meets its contract: after each turn the state and the places are as the judge leaves them for the items
-- so far.
use native.Mathlib.Omega.{arith}
use Rattle.std.proofs.Common.{rules}
use Rattle.judge.proofs.file.judge_file.Goals as goal

pub loop-item-init : goal.loop-item-init
loop-item-init c = (
  tt,
  tt,
  search rules,
  rw (← c.header-header.ensures.value) (c.opening-state.ensures.as_left _ _ (omega arith) (omega arith)),
)

-- The theorems of specs/Theorems.antt.
-- Assumes nothing.
use Rattle.order.specs.Theorems.{EitherWayExactly, OneOutcome}
use Rattle.order.proofs.EitherWay.{either_way}
use Rattle.order.proofs.Confluence.{all-agree}

pub either_way_exactly : EitherWayExactly
unfolding EitherWayExactly
either_way_exactly A eq? actions must precedes closure some ok = either_way eq? closure some ok

pub one_outcome : OneOutcome
unfolding OneOutcome
one_outcome A S exec actions must commute = all-agree exec actions must commute

-- `event::fields::zero_past` meets its contract: a shift leaves nothing where the bytes past those shifted out are zero.
use mathlib.Core.Path.{◌∙◌}
use native.Mathlib.Omega.{arith}
use borrow.Author.Tests.{le-leb}
use Rattle.event.proofs.Values.{past, past_all}
use Rattle.event.proofs.fields.zero_past.Goals as goal

pub returns-then-size-ge8 : goal.returns-then-size-ge8
returns-then-size-ge8 c = le-leb 8 c.args.size (omega arith) ∙ past_all c.args.size 8 c.args.number (omega arith)

pub returns-else-size-ge8 : goal.returns-else-size-ge8
returns-else-size-ge8 c = past c.args.size 8 c.args.number (omega arith) (omega arith)
